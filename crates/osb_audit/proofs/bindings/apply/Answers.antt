use Rattle.std.proofs.Common.{sym, subst}
use Rattle.osb_standing.specs.declared.row.BindingEdit.{BindingEdit}
use Rattle.osb_standing.specs.Binding.{edited}
use Rattle.osb_audit.specs.Life.{LooksUpAs}
use Rattle.osb_audit.proofs.TreeLemmas.{holds_none}
use Rattle.osb_audit.proofs.bindings.apply.Goals as goal

pub returns-in-Clear : goal.returns-in-Clear
returns-in-Clear c = λ rows held. subst (λ (edit : BindingEdit). LooksUpAs (edited edit c.args.id.now rows) c.clear.new.self) (sym c.in-Clear.is) (holds_none c.clear.new.self c.clear.ensures.empty)
