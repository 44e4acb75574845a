use Rattle.std.proofs.Common.{◌≡◌, length, map, take, Err, ap, ◌∙◌, arith}
use Rattle.osb_frames.specs.Line.{line_in}
use Rattle.std.proofs.lemmas.List.{take-append-le, length-take}
use Rattle.std.proofs.lemmas.Grind.{common_steps}
use Rattle.osb_frames.proofs.HeadLemmas.{as_many_lines, lines_within, head_of_window, never_from_room, never_from_full, exceeds_whole}
use Rattle.osb_frames.proofs.head.head_at.Goals as goal

pub returns-in-Ok-Complete : goal.returns-in-Ok-Complete
returns-in-Ok-Complete c =
    let limits = c.args.limits.now in
    let buf = c.args.buf.now in
    let m = c.min.result in
    let spans = c.parse_request.new.headers in
    let count = c.in-Ok-Complete.head.headers in
    let read = rw c.in-Ok-Complete.field-0-is at c.in-Ok-Complete.ensures.complete in
    let within = (rw c.in-Ok-Complete.field-0-is at c.in-Ok-Complete.ensures.within).section in
    let len = within.len_fits in
    let window : length (take m buf) ≡ m = omega (arith, c.min.ensures, length-take m buf) in
    let room : length spans ≡ limits.fields = grind (arith, common_steps) in
    let lines = as_many_lines (take m buf) spans count read.0 read.1.fields in
    let front = take-append-le count spans _ within.count_fits in (
      read.0,
      record {
        head = head_of_window limits buf m c.in-Ok-Complete.head.len read.0 read.1.reads read.1.len (omega (arith, c.min.ensures)) (omega arith);
        len = read.1.len;
        method = c.of.ensures ∙ read.1.method;
        target = c.of-in-Ok-Complete.ensures ∙ read.1.path;
        minor = read.1.version;
        lines = ap (map (line_in (take m buf))) front ∙ lines_within _ (take m buf) (take count spans) len within.headers_fit ∙ read.1.fields;
        inside = omega (arith, c.min.ensures);
      },
    )

pub returns-else-buf-limits : goal.returns-else-buf-limits
returns-else-buf-limits c =
    never_from_full _ _ c.min.result (omega (arith, c.min.ensures)) (omega (arith, c.min.ensures))
    (rw c.in-Ok-Partial.field-0-is at c.in-Ok-Partial.ensures.partial)

pub returns-in-Err : goal.returns-in-Err
returns-in-Err c = never_from_room _ _ c.min.result _ (grind (arith, common_steps)) c.in-Err.ensures.no_room

pub returns-in-Err-TooManyHeaders : goal.returns-in-Err-TooManyHeaders
returns-in-Err-TooManyHeaders c =
    let arm = c.in-Err-TooManyHeaders in
    let limits = c.args.limits.now in
    let buf = c.args.buf.now in (
      never_from_room limits buf c.min.result _ (grind (arith, common_steps)) arm.ensures.no_room,
      c.if-buf-limits-2.true,
      exceeds_whole limits buf c.min.result _ (grind (arith, common_steps)) (omega (arith, c.min.ensures)) (arm.ensures.too_many (ap Err arm.field-0-is)),
    )
