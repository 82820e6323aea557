use Rattle.std.proofs.Common.{◌≡◌, ◌∙◌, ◌+◌, ℕ, List, length, arith, ap, sym, subst, refl, to_z, of_z, w32}
use Rattle.std.proofs.lemmas.Int.{to_z-of_z}
use Rattle.std.proofs.lemmas.List.{with_items_is}
use Rattle.std.proofs.lemmas.Option.{slice_get_read}
use Rattle.operator_meaning.proofs.Reading.{fits_32}
use Rattle.code_memory.specs.Memory.{with_word_in}
use Rattle.program_code.specs.Laws.{IsFirst}
use Rattle.data_layout.specs.Layouts.{layout_of}
use Rattle.data_layout.proofs.Held.{IsBegun, variable-in, begun-none, begun-more, first-when}
use Rattle.data_layout.proofs.first.first_memory.Goals as goal
use Rattle.data_layout.proofs.first.first_memory.Goals.{in-Some, in-None}

pub set_word-requires : goal.set_word-requires
set_word-requires c =
    let at = variable-in c.args.objects.now (layout_of c.args.layout.now) c.requires.laid c.loop-number.memory.items c.loop-number.invariant.size c.loop-number.number (sym c.in-Some.ensures.variable) in
    omega (arith, at.inside, c.in-Some.ensures.slot, ap length c.deref_mut.ensures.value)

pub loop-number-preserved : goal.loop-number-preserved
loop-number-preserved c =
    let objects = c.args.objects.now in
    let l = layout_of c.args.layout.now in
    let number = c.loop-number.number in
    let begun = c.loop-number.invariant in
    elim c.match-word_of.branch [
      | in-Some w ↦
          let new = w.set_word.new.memory in
          let x = w.first_value.result in
          let first = w.first_value.ensures in
          let object = c.index-objects-number.result in
          let found = slice_get_read objects (length objects) number object refl c.loop-number-test.true c.index-objects-number.is in
          let written : new ≡ with_word_in c.loop-number.memory.items (l.slot number) x =
          w.set_word.ensures ∙ ap (λ bytes. with_word_in bytes w.in-Some.slot (to_z w32 (of_z w32 x))) w.deref_mut.ensures.value
          ∙ ap (λ (slot : ℕ). with_word_in c.loop-number.memory.items slot (to_z w32 (of_z w32 x))) w.in-Some.ensures.slot
          ∙ ap (with_word_in c.loop-number.memory.items (l.slot number)) (to_z-of_z w32 x (fits_32 object.width x first.fits)) in
          let more = begun-more objects l c.requires.laid c.loop-number.memory.items new number x begun.size (sym w.in-Some.ensures.variable) written object found first.opening first.fits begun in
          let after = ap (λ memory. memory.items) w.memory-is ∙ with_items_is c.loop-number.memory new (more.size ∙ sym begun.size ∙ sym c.loop-number.memory.ok.0) in
          subst (λ (bytes : List ℕ). IsBegun objects l bytes (number + 1)) (sym after) more
      | in-None w ↦
          subst (λ (bytes : List ℕ). IsBegun objects l bytes (number + 1)) (sym (ap (λ memory. memory.items) w.memory-is))
          (begun-none objects l c.loop-number.memory.items number (sym w.in-None.ensures.variable) begun)
    ]

pub returns : goal.returns
returns c =
    let objects = c.args.objects.now in
    let l = layout_of c.args.layout.now in
    let all : c.loop-number.number ≡ length objects = omega (arith, c.loop-number.auto.number-end) in
    subst (λ (bytes : List ℕ). IsFirst objects l bytes) (sym c.from_vec.ensures)
    (first-when objects l c.requires.variables c.loop-number.memory.items (subst (λ (n : ℕ). IsBegun objects l c.loop-number.memory.items n) all c.loop-number.invariant))
