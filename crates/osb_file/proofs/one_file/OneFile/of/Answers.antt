use Rattle.std.proofs.Common.{rules, ◌≡◌, Err, List, ℕ, subst, sym}
use Rattle.sqlite_wal.specs.Recovery.{Image}
use Rattle.sqlite.specs.Files.{HoldsDatabase}
use Rattle.osb_file.specs.declared.unseen.Unseen.TheVariants.{NotOurs}
use Rattle.osb_file.specs.Inside.{IsCountedIn}
use Rattle.osb_file.specs.Looked.{image_in}
use Rattle.osb_file.specs.OneFile.{IsMerged, without_log}
use Rattle.osb_file.proofs.OneFileLemmas.{counted_one, image_as, others_in_one}
use Rattle.osb_file.proofs.one_file.OneFile.of.Goals as goal

pub returns-in_err-counts-clause-not_ours : goal.returns-in_err-counts-clause-not_ours
returns-in_err-counts-clause-not_ours c is =
    let ours : c.count_alone.result ≡ Err NotOurs = search rules in
    let bytes = c.in_ok-bytes.bytes.items in
    let both = image_as c.args.copied _ _ c.deref.ensures.value c.deref-2.ensures.value in
    let found = c.in_ok-bytes.ensures.merged in
    let merged = subst (λ (image : Image). IsMerged image bytes found.0) both found.1 in
    others_in_one (image_in c.args.copied) bytes found.0 merged
    (λ db holds. c.count_alone.ensures.not_ours ours db (subst (λ (b : List ℕ). HoldsDatabase (without_log b) db) (sym c.as_slice.ensures.value) holds))

pub returns-clause-whole : goal.returns-clause-whole
returns-clause-whole c =
    let bytes = c.in_ok-bytes.bytes.items in
    let both = image_as c.args.copied _ _ c.deref.ensures.value c.deref-2.ensures.value in
    let found = c.in_ok-bytes.ensures.merged in
    let merged = subst (λ (image : Image). IsMerged image bytes found.0) both found.1 in
    counted_one (image_in c.args.copied) bytes c.in_ok-counts.counts found.0 merged
    (subst (λ (b : List ℕ). IsCountedIn (without_log b) c.in_ok-counts.counts) c.as_slice.ensures.value c.in_ok-counts.ensures.counted)
