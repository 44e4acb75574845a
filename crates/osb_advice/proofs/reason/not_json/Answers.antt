use Rattle.std.proofs.Common.{◌≡◌, Bool, true, false, Ok, Err, cond, sym, ap, ◌∙◌}
use Rattle.serde_json.specs.Data.{Data}
use Rattle.serde_json.specs.View.{view}
use Rattle.osb_text.specs.declared.fault.TextFault.TheVariants.{NotJson, NotObject, Number}
use Rattle.osb_text.specs.Reading.{is_object, object_if}
use Rattle.osb_text.specs.Whole.{is_whole}
use Rattle.osb_advice.proofs.Reasons.{has_value}
use Rattle.osb_advice.proofs.reason.not_json.Goals as goal

-- a value is JSON, whichever other fault its text has
is_json : (object whole : Bool) (v : Data) → cond object (cond whole (Ok v) (Err Number)) (Err NotObject) ≡ Err NotJson → ⊥
is_json true true v e = cc
is_json true false v e = cc
is_json false whole v e = cc

pub returns-in-Ok : goal.returns-in-Ok
returns-in-Ok c =
    let v = view c.in-Ok.value in
    let has = has_value c.args.file.now v c.in-Ok.ensures.ok.0 c.in-Ok.ensures.ok.1 in
    is_json (is_object v) (is_whole v) v (sym (ap object_if has) ∙ c.requires)
