use Rattle.std.proofs.Common.{rules, ◌≡◌, ◌≤◌, ◌∙◌, ◌++◌, [], ◌∷◌, ap, length, map, vec_items}
use Rattle.std.proofs.lemmas.List.{drop_all, map-append}
use Rattle.osb_cli.proofs.FilesLemmas.{all_read, one_more}
use Rattle.osb_cli.proofs.input.read_files.Goals as goal

pub loop-name-init : goal.loop-name-init
loop-name-init g c rest are = rw c.in_ok-read.ensures.items are

pub loop-name-preserved : goal.loop-name-preserved
loop-name-preserved g c =
    let read = c.loop-name.read.items in
    let items : c.push.new.self.items ≡ read ++ c.in_ok-bytes.bytes ∷ [] = search rules in
    let pushed = ap (map vec_items) items ∙ map-append vec_items read (c.in_ok-bytes.bytes ∷ []) in
    rw pushed (one_more (g.F.NamedFiles.contents c.args.files.now) c.args.names.now (map vec_items read) c.in_ok-bytes.bytes.items
    c.loop-name.name-index _ c.loop-name-test.true c.loop-name.invariant c.in_ok-bytes.ensures.read)

pub returns-clause-read : goal.returns-clause-read
returns-clause-read g c =
    let all : length c.args.names.now ≤ c.loop-name.name-index = search rules in
    all_read (g.F.NamedFiles.contents c.args.files.now) c.args.names.now _ (map vec_items c.loop-name.read.items)
    (drop_all c.loop-name.name-index c.args.names.now all) c.loop-name.invariant
