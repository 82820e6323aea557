use Rattle.std.proofs.Common.{◌∙◌, Vec, Global, ap, sym}
use Rattle.std.specs.Prelude.{Some, None}
use Rattle.std.proofs.lemmas.List.{append-nil}
use Rattle.register_allocation.specs.declared.spans.Span.{Span}
use Rattle.register_allocation.proofs.Tables.{spans-more}
use Rattle.register_allocation.proofs.spans.spans.Goals as goal
use Rattle.register_allocation.proofs.spans.spans.Goals.{in-Some+in_ok-push-in-Some, in-None}

pub loop-room-preserved : goal.loop-room-preserved
loop-room-preserved c =
    let items = λ (spans : Vec Span Global). spans.items in
    elim c.match-span_of.branch [
      | in-Some+in_ok-push-in-Some w ↦
          spans-more c.args.rooms.now c.loop-room.room-index _ (Some w.in-Some.span) c.loop-room.spans.items c.match-span_of.spans.items c.loop-room-test.true w.in-Some.ensures c.loop-room.invariant
          (ap items w.spans-is ∙ w.in_ok-push-in-Some.ensures.items)
      | in-None w ↦
          spans-more c.args.rooms.now c.loop-room.room-index _ None c.loop-room.spans.items c.match-span_of.spans.items c.loop-room-test.true w.in-None.ensures c.loop-room.invariant
          (ap items w.spans-is ∙ sym (append-nil c.loop-room.spans.items))
    ]
