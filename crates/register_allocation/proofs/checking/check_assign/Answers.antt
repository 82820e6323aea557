use Rattle.std.proofs.Common.{◌≡◌, ℕ, List, ap, sym, subst, ◌∙◌, arith, length, refl, true}
use Rattle.std.specs.Prelude.{slice_index}
use Rattle.std.specs.List.{list_all, IsDistinct}
use Rattle.std.proofs.lemmas.Bool.{true≢false}
use Rattle.std.proofs.lemmas.List.{length-map}
use Rattle.ir_arena.specs.Placed.{function_of, whole_of}
use Rattle.operator_meaning.specs.declared.object.Object.{Object}
use Rattle.register_allocation.specs.declared.home.Homes.{Homes}
use Rattle.register_allocation.specs.declared.spans.Span.{Span}
use Rattle.register_allocation.specs.Good.{IsGoodAssignment}
use Rattle.register_allocation.specs.Overlaps.{lies_right, spans_of, overlaps, HaveBytes}
use Rattle.register_allocation.specs.Tables.{AreRooms, AreCounts}
use Rattle.register_allocation.proofs.Judging.{good-when, moved-rooms, all-fit, all-apart, have-bytes}
use Rattle.register_allocation.proofs.checking.check_assign.Goals as goal

pub returns-then-not-all_lie_right-clause-exact : goal.returns-then-not-all_lie_right-clause-exact
returns-then-not-all_lie_right-clause-exact c = λ no slots good.
    let are = moved-rooms c.args.ir.now.objects c.as_slice-objects.result.now c.args.assign.now.functions c.as_slice-lists.result.now c.in_ok-table.table.rooms
    c.as_slice-objects.ensures c.as_slice-lists.ensures c.in_ok-table.ensures.rooms in
    let fit = all-fit c.args.ir.now.objects c.args.assign.now.functions c.in_ok-table.table.rooms are good.slots_fit slots in
    true≢false (sym fit ∙ ap (list_all lies_right) (sym c.as_slice-rooms.ensures) ∙ sym c.all_lie_right.ensures ∙ c.if-not-all_lie_right.true)

pub are_apart-requires : goal.are_apart-requires
are_apart-requires c =
    let all = have-bytes c.as_slice-objects.result.now c.as_slice-lists.result.now c.in_ok-table.table.rooms c.in_ok-table.ensures.rooms in
    subst (λ (spans : List Span). HaveBytes spans) (sym (c.deref_mut.ensures.value ∙ c.in_ok-spans.ensures ∙ ap spans_of c.as_slice-rooms.ensures)) all

pub returns-clause-good : goal.returns-clause-good
returns-clause-good c = λ yes.
    let objects = c.args.ir.now.objects in
    let lists = c.as_slice-lists.result.now in
    let are = subst (λ (os : List Object). AreRooms os lists c.in_ok-table.table.rooms) c.as_slice-objects.ensures c.in_ok-table.ensures.rooms in
    let counts = subst (λ (os : List Object). AreCounts os (length os) c.in_ok-table.table.counts.items) c.as_slice-objects.ensures c.in_ok-table.ensures.counts in
    let fit : list_all lies_right c.in_ok-table.table.rooms ≡ true = ap (list_all lies_right) (sym c.as_slice-rooms.ensures) ∙ sym c.all_lie_right.ensures ∙ c.if-not-all_lie_right.false in
    let distinct = subst (λ (spans : List Span). IsDistinct overlaps spans) (c.deref_mut.ensures.value ∙ c.in_ok-spans.ensures ∙ ap spans_of c.as_slice-rooms.ensures) (c.are_apart.ensures.0 yes) in
    subst (λ (ls : List Homes). IsGoodAssignment (whole_of c.args.ir.now) (record { functions = ls })) c.as_slice-lists.ensures
    (good-when (whole_of c.args.ir.now) lists c.in_ok-table.table.rooms are (c.if-lists-len.false ∙ c.len.ensures ∙ sym (length-map c.args.ir.now.functions function_of))
    (λ f low. c.if-not-are_full.ensures.0 refl f low ∙ ap (λ (xs : List ℕ). slice_index xs f) c.deref.ensures.value ∙ counts f (omega (arith, c.in_ok-table.ensures.count)))
    fit distinct)

pub returns-clause-exact : goal.returns-clause-exact
returns-clause-exact c = λ no slots good.
    let are = moved-rooms c.args.ir.now.objects c.as_slice-objects.result.now c.args.assign.now.functions c.as_slice-lists.result.now c.in_ok-table.table.rooms
    c.as_slice-objects.ensures c.as_slice-lists.ensures c.in_ok-table.ensures.rooms in
    let distinct = all-apart c.args.ir.now.objects c.args.assign.now.functions c.in_ok-table.table.rooms are good.slots_apart in
    let shown = subst (λ (spans : List Span). IsDistinct overlaps spans) (sym (c.deref_mut.ensures.value ∙ c.in_ok-spans.ensures ∙ ap spans_of c.as_slice-rooms.ensures)) distinct in
    true≢false (sym (c.are_apart.ensures.1 shown) ∙ no)
