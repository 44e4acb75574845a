use Rattle.std.proofs.Common.{refl}
use Rattle.osb_trim.specs.Trimmed.{erased_attributes}
use Rattle.osb_trim.proofs.LifeLemmas.{deleted_are_erased, others_stay}
use Rattle.osb_trim.proofs.PartLemmas.{born_are_kept}
use Rattle.osb_trim.proofs.laws.erases.Goals as goal

pub returns-clause-kept : goal.returns-clause-kept
returns-clause-kept c = λ order. record { number = refl; kind = refl; binding = refl; outcome = refl }

pub returns-clause-gone : goal.returns-clause-gone
returns-clause-gone c = λ one other same i. record {
  number = same.number i;
  kind = same.kind i;
  binding = same.binding i;
  attributes = erased_attributes (same.kind i);
  outcome = same.outcome i;
}

pub returns-clause-deleted : goal.returns-clause-deleted
returns-clause-deleted c = deleted_are_erased

pub returns-clause-others : goal.returns-clause-others
returns-clause-others c = others_stay

pub returns-clause-born : goal.returns-clause-born
returns-clause-born c = λ life h. born_are_kept life h.orders
