use Rattle.std.proofs.Common.{◌∙◌, ◌+◌, ◌∷◌, ◌++◌, [], drop, ap, sym}
use Rattle.std.proofs.lemmas.List.{nil_from_length}
use Rattle.osb_audit.specs.Instances.{InstanceEntry}
use Rattle.osb_joined.specs.Join.{is_of_standing}
use Rattle.osb_joined.specs.Fits.{fits_row}
use Rattle.osb_joined.proofs.PassLemmas.{passes_first, passes_by, passes_none, passes_other, passes_on, passed, items_left}
use Rattle.osb_joined.proofs.WithLemmas.{row_joins, rows_given, no_rows, front, back, of_standing, not_of_standing, none_left, first_left}
use Rattle.osb_joined.proofs.pass.join_rows.Goals as goal

pub loop-context-init : goal.loop-context-init
loop-context-init c = passes_first is_of_standing fits_row row_joins c.args.contexts.now c.args.instances.now c.new-joined.result.items c.new-joined.ensures.items

pub loop-context-preserved-then-context-ne0 : goal.loop-context-preserved-then-context-ne0
loop-context-preserved-then-context-ne0 c =
    let contexts = c.args.contexts.now in
    let i = c.loop-context.context-index in
    let context = c.context-item.result in
    passes_by is_of_standing fits_row row_joins contexts c.args.instances.now c.loop-context.joined.items c.loop-context.left.now (drop i contexts) context (drop (i + 1) contexts) (front contexts i context c.loop-context-test.true c.context-item.is) c.loop-context.invariant
    (not_of_standing context.number c.if-context-ne0.true)

pub returns-in-None-clause-none : goal.returns-in-None-clause-none
returns-in-None-clause-none c =
    let contexts = c.args.contexts.now in
    let i = c.loop-context.context-index in
    let context = c.context-item.result in
    no_rows contexts c.args.instances.now
    (passes_none is_of_standing fits_row row_joins contexts c.args.instances.now c.loop-context.joined.items c.loop-context.left.now (drop i contexts) context (drop (i + 1) contexts) (front contexts i context c.loop-context-test.true c.context-item.is) c.loop-context.invariant
    (of_standing context.number c.if-context-ne0.false) (nil_from_length c.loop-context.left.now c.in-None.ensures.cases))

pub returns-then-not-fits_row-clause-none : goal.returns-then-not-fits_row-clause-none
returns-then-not-fits_row-clause-none c =
    let contexts = c.args.contexts.now in
    let i = c.loop-context.context-index in
    let context = c.context-item.result in
    no_rows contexts c.args.instances.now
    (passes_other is_of_standing fits_row row_joins contexts c.args.instances.now c.loop-context.joined.items c.loop-context.left.now (drop i contexts) context (drop (i + 1) contexts) (front contexts i context c.loop-context-test.true c.context-item.is) c.loop-context.invariant
    (of_standing context.number c.if-context-ne0.false) c.in-Some.parts.0.now c.in-Some.parts.1.now c.in-Some.ensures.cases.0 (sym c.fits_row.ensures ∙ c.if-not-fits_row.true))

pub loop-context-preserved : goal.loop-context-preserved
loop-context-preserved c =
    let contexts = c.args.contexts.now in
    let i = c.loop-context.context-index in
    let context = c.context-item.result in
    let done = c.loop-context.joined.items in
    passes_on is_of_standing fits_row row_joins contexts c.args.instances.now done c.loop-context.left.now (drop i contexts) context (drop (i + 1) contexts) (front contexts i context c.loop-context-test.true c.context-item.is) c.loop-context.invariant
    (of_standing context.number c.if-context-ne0.false) c.in-Some.parts.0.now c.in-Some.parts.1.now c.in-Some.ensures.cases.0 (sym c.fits_row.ensures ∙ c.if-not-fits_row.false)
    c.push.new.self.items (c.in_ok-push.ensures.items ∙ ap (λ (entry : InstanceEntry). done ++ entry ∷ []) c.in_ok-join_row.ensures)

pub returns-then-is_empty-clause-some : goal.returns-then-is_empty-clause-some
returns-then-is_empty-clause-some c =
    let contexts = c.args.contexts.now in
    let i = c.loop-context.context-index in
    rows_given contexts c.args.instances.now c.loop-context.joined.items
    (passed is_of_standing fits_row row_joins contexts c.args.instances.now c.loop-context.joined.items c.loop-context.left.now (drop i contexts) (back contexts i c.loop-context-test.false) c.loop-context.invariant
    (none_left c.loop-context.left.now (sym c.is_empty.ensures ∙ c.if-is_empty.true)))

pub returns-else-is_empty-clause-none : goal.returns-else-is_empty-clause-none
returns-else-is_empty-clause-none c =
    let contexts = c.args.contexts.now in
    let i = c.loop-context.context-index in
    let left = first_left c.loop-context.left.now (sym c.is_empty.ensures ∙ c.if-is_empty.false) in
    no_rows contexts c.args.instances.now
    (items_left is_of_standing fits_row row_joins contexts c.args.instances.now c.loop-context.joined.items c.loop-context.left.now (drop i contexts) (back contexts i c.loop-context-test.false) c.loop-context.invariant left.0 left.1 left.2)
