use Rattle.std.proofs.Common.{rules, ◌-◌}
use Rattle.osb_trim.proofs.LifeLemmas.{others_stay}
use Rattle.osb_trim.proofs.TrimLemmas.{trimmed-behind}
use Rattle.osb_trim.proofs.trimming.deleted.Goals as goal

pub returns-then-has_succeeded-clause-parts : goal.returns-then-has_succeeded-clause-parts
returns-then-has_succeeded-clause-parts c = trimmed-behind c.args.life.now (c.loop-place.place - 1) c.index-life-place.result (search rules) (search rules) (search rules)

pub returns-clause-parts : goal.returns-clause-parts
returns-clause-parts c = others_stay c.args.life.now (search rules)
