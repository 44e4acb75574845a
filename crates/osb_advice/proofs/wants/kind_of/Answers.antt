use Rattle.std.proofs.Common.{◌≡◌, [], ◌∷◌, Option, None, Some, refl, ◌∙◌, rules}
use Rattle.std.specs.Option.{option_or}
use Rattle.osb_catalog.specs.Items.{first_of}
use Rattle.osb_advice.specs.Wanted.{kind_of}
use Rattle.osb_advice.proofs.wants.kind_of.Goals as goal

first_of_five : {A : Type 0} (a b c d e : Option A) → option_or (option_or (option_or (option_or a b) c) d) e ≡ first_of (a ∷ b ∷ c ∷ d ∷ e ∷ [])
first_of_five (Some x) b c d e = refl
first_of_five None (Some x) c d e = refl
first_of_five None None (Some x) d e = refl
first_of_five None None None (Some x) e = refl
first_of_five None None None None (Some x) = refl
first_of_five None None None None None = refl

pub returns : goal.returns
returns c =
    let found : first_of (c.kind_in.result ∷ c.kind_in-2.result ∷ c.kind_in-3.result ∷ c.kind_in-4.result ∷ c.kind_in-5.result ∷ []) ≡ kind_of c.args.field = search (rules, c.kind_in.ensures, c.kind_in-2.ensures, c.kind_in-3.ensures, c.kind_in-4.ensures, c.kind_in-5.ensures, c.file_rules.ensures, c.catalog_rules.ensures, c.service_rules.ensures, c.plan_rules.ensures, c.mode_rules.ensures) in
    simp (c.or.ensures, c.or-2.ensures, c.or-3.ensures, c.or-4.ensures) (first_of_five c.kind_in.result c.kind_in-2.result c.kind_in-3.result c.kind_in-4.result c.kind_in-5.result ∙ found)
