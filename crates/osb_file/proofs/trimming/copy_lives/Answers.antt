use Rattle.std.proofs.Common.{rules, ◌≡◌, ℕ, List, Option, None, Some, ap, subst}
use Rattle.sqlite.specs.Effect.{Database}
use Rattle.sqlite.specs.Held.{state}
use Rattle.osb_statements.specs.NextId.{IsNextId}
use Rattle.osb_statements.specs.Steps.{stored}
use Rattle.osb_statements.specs.Stored.{lives_stored}
use Rattle.osb_file.proofs.TrimmingLemmas.{all_copied, next_copied, none_copied}
use Rattle.osb_file.proofs.trimming.copy_lives.Goals as goal

pub loop-init : goal.loop-init
loop-init g c =
    none_copied (state g.S.Store c.args.source.now) (state g.T.Store c.args.target.now) c.new-after.result c.new-after.ensures
    (c.lives_are_whole.ensures.whole (c.requires.clean c.args.source.now)) c.requires.empty

pub returns-in_default-clause-ok : goal.returns-in_default-clause-ok
returns-in_default-clause-ok g c =
    let source = state g.S.Store c.args.source.now in
    let now = state g.S.Store c.loop.source in
    let mid = state g.S.Store c.next_id.new.self in
    let clean = c.requires.clean c.next_id.new.self in
    let looks = c.in_ok-id.ensures.looks in
    let none : c.in_ok-id.field-0 ≡ None = search rules in
    let found : IsNextId (stored now) c.loop.after None = rw (c.as_str.ensures, none) at (c.in_ok-id.ensures.ok clean) in
    all_copied source now (state g.T.Store c.args.target.now) (state g.T.Store c.loop.target) c.loop.after c.loop.invariant
    mid (looks.found_open clean) (looks.was_open clean) (λ live. ap (λ (db : Database). lives_stored db.trees) (looks.same clean live))
    c.trimmed_is_whole.ensures.each c.trimmed_is_whole.ensures.lives found
    (c.lives_are_whole.ensures.whole (c.requires.clean c.args.source.now))
    (c.lives_are_whole-in_default.ensures.whole (c.requires.clean_target c.loop.target))

pub loop-preserved : goal.loop-preserved
loop-preserved g c =
    let source = state g.S.Store c.args.source.now in
    let now = state g.S.Store c.loop.source in
    let mid = state g.S.Store c.next_id.new.self in
    let next = state g.S.Store c.copy_life.new.source in
    let clean = c.requires.clean c.next_id.new.self in
    let clean_next = c.requires.clean c.copy_life.new.source in
    let looks = c.in_ok-id.ensures.looks in
    let read = c.in_ok-copy_life.ensures.looks in
    let some : c.in_ok-id.field-0 ≡ Some c.in-Some.id = search rules in
    let found : IsNextId (stored now) c.loop.after (Some c.in-Some.id) = rw (c.as_str.ensures, some) at (c.in_ok-id.ensures.ok clean) in
    next_copied source now (state g.T.Store c.args.target.now) (state g.T.Store c.loop.target) c.loop.after c.loop.invariant
    mid (looks.found_open clean) (looks.was_open clean) (λ live. ap (λ (db : Database). lives_stored db.trees) (looks.same clean live))
    c.in-Some.id found next (state g.T.Store c.copy_life.new.target)
    (read.found_open clean_next) (read.was_open clean_next) (λ live. ap (λ (db : Database). lives_stored db.trees) (read.same clean_next live))
    c.in_ok-copy_life.ensures.was_open (rw (c.as_str-in-loop.ensures) at c.in_ok-copy_life.ensures.ok)
