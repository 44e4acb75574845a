use Rattle.std.proofs.Common.{◌≡◌, ◌+◌, ◌<◌, ◌^◌, map, vec_items}
use Rattle.std.specs.List.{AllByRecursion}
use Rattle.std.specs.Vec.Iter.{into_iter_items, into_iter_len}
use Rattle.osb_listen.specs.Groups.{Unanswered}
use Rattle.osb_listen.proofs.GroupLemmas.{AnswersSome}
use Rattle.osb_listen.proofs.group.answer_each.Given as goal

abbrev pub decreases-loop-reply : goal.decreases-loop-reply
decreases-loop-reply g l = into_iter_len l.rest

abbrev pub invariant-loop-reply : goal.invariant-loop-reply
invariant-loop-reply g l =
    let calls = g.L.In.Source.calls in
    record {
      count : into_iter_len l.left ≡ into_iter_len l.rest;
      few : l.ended + into_iter_len l.rest < 2 ^ 32;
      missed : g.L.Entrance.missed l.entrance ≡ g.L.Entrance.missed l.fn.entrance;
      unanswered : AllByRecursion (Unanswered calls g.L.Out.Sink.taken g.L.Out.Sink.failed_or_empty) (into_iter_items l.left);
      sent : AnswersSome calls l.may_stay l.fn.clients.items (map vec_items l.fn.replies.items) (g.L.Entrance.journal l.fn.entrance) (g.E.Sink.taken l.fn.errors) (g.E.Sink.failed_or_empty l.fn.errors)
          (into_iter_items l.left) (map vec_items (into_iter_items l.rest)) l.ended (g.L.Entrance.journal l.entrance) (g.E.Sink.taken l.errors) (g.E.Sink.failed_or_empty l.errors);
    }
