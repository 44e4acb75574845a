use Rattle.std.proofs.Common.{◌∙◌, subst, sym}
use Rattle.sqlite_wal.specs.Recovery.{Image}
use Rattle.osb_file.specs.File.{HasTrees}
use Rattle.osb_file.proofs.LookLemmas.{if_ok_so}
use Rattle.osb_file.proofs.OneFileLemmas.{image_as}
use Rattle.osb_file.proofs.copied.Copied.look.Goals as goal

pub returns-clause-seen : goal.returns-clause-seen
returns-clause-seen c =
    let same = image_as c.args.self.now _ _ (c.in-Ok-Ok.ensures.bytes ∙ c.deref.ensures.value) (c.in-Ok-Ok.ensures'.bytes ∙ c.deref-2.ensures.value) in
    if_ok_so c.look_into.result (λ seen are db holds. are db (subst (λ (image : Image). HasTrees image db) (sym same) holds)) c.look_into.ensures.seen

pub returns-clause-not_ours : goal.returns-clause-not_ours
returns-clause-not_ours c is db holds =
    let same = image_as c.args.self.now _ _ (c.in-Ok-Ok.ensures.bytes ∙ c.deref.ensures.value) (c.in-Ok-Ok.ensures'.bytes ∙ c.deref-2.ensures.value) in
    c.look_into.ensures.not_ours is db (subst (λ (image : Image). HasTrees image db) (sym same) holds)
