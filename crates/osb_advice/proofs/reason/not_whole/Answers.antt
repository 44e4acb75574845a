use Rattle.std.proofs.Common.{◌≡◌, IfOk, option_map, string_bytes, sym, ap, subst, ◌∙◌}
use Rattle.std.proofs.lemmas.Bool.{true≢false}
use Rattle.serde_json.specs.View.{view}
use Rattle.osb_advice.specs.Unreadable.{number_line}
use Rattle.osb_advice.proofs.Reasons.{has_value, has_none}
use Rattle.osb_advice.proofs.reason.not_whole.Goals as goal

pub returns-in-Ok : goal.returns-in-Ok
returns-in-Ok c =
    let has = has_value c.args.file.now (view c.in-Ok.value) c.in-Ok.ensures.ok.0 c.in-Ok.ensures.ok.1 in
    subst (λ value. IfOk c.number_line-text.result (λ reason. option_map (λ text. string_bytes text) reason ≡ option_map number_line value)) (sym has) c.number_line-text.ensures

pub returns-in-Err-2 : goal.returns-in-Err-2
returns-in-Err-2 c = ap (option_map number_line) (sym (has_none c.args.file.now (c.in-Err.ensures.err (λ memory. true≢false (sym (c.is_memory.ensures.1 memory) ∙ c.if-is_memory.false)))))
