use Rattle.std.proofs.Common.{◌≡◌, ◌∙◌, List, length, arith, ap}
use Rattle.std.specs.Prelude.{slice_get}
use Rattle.std.proofs.lemmas.List.{length-append}
use Rattle.register_allocation.specs.declared.table.Room.{Room}
use Rattle.register_allocation.specs.Tables.{room_of}
use Rattle.register_allocation.proofs.Tables.{each-more}
use Rattle.register_allocation.proofs.table.room_table.Goals as goal

pub loop-number-preserved : goal.loop-number-preserved
loop-number-preserved c =
    let at = c.loop-number.invariant in
    let here = room_of c.args.objects.now c.args.lists.now in
    let room : Room = record { home = c.next_home-home.result; bytes = c.slot_bytes.result } in
    let is : room ≡ here c.loop-number.number = cc (c.next_home-home.ensures.home, c.slot_bytes.ensures) in
    record {
      same = c.next_home-home.ensures.same ∙ at.same;
      counts = c.next_home-home.ensures.counts;
      count = omega (arith, simp length-append at (ap length c.in_ok-push.ensures.ok), at.count);
      each = λ number low. ap (λ (rooms : List Room). slice_get rooms number) c.in_ok-push.ensures.ok ∙ each-more here c.loop-number.rooms c.loop-number.number room at.count at.each is number low;
    }
