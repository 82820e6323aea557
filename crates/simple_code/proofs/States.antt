-- What source and machine keep when both change.
use Rattle.std.proofs.Common.{◌≡◌, ◌≢◌, ℕ, ◌+◌, ◌*◌, ◌%◌, ◌^◌, ◌<◌, ℤ, true, false, ◌==◌, List, [], ◌∷◌, ◌++◌, length, refl, sym, ap, ◌∙◌, subst, inl, inr, arith}
use Rattle.std.specs.Prelude.{Option, Some, None, slice_get, slice_set, FitsSigned}
use Rattle.std.specs.Option.{unwrap_or}
use Rattle.std.specs.Int.{w32, cast_unsigned}
use Rattle.std.proofs.lemmas.Bool.{cases_Bool, eqb-true}
use Rattle.std.proofs.lemmas.Bool.Decides.{nat_tests}
use Rattle.std.proofs.lemmas.List.{get_or-set_same, get_or-set_other}
use Rattle.std.proofs.lemmas.Option.{unwrap_or-slice_get, slice_get_within}
use Rattle.sat_base.specs.Clip.{low16}
use Rattle.sat_base.specs.declared.width.Width.{Width}
use Rattle.operator_meaning.specs.declared.object.Object.{Object}
use Rattle.operator_meaning.specs.Table.{FitsWidth}
use Rattle.source_runs.specs.Shapes.{shape_of}
use Rattle.source_runs.specs.State.{Kept, numbers_of, converted, written, location, counted, put, with_overflow}
use Rattle.source_runs.proofs.Operators.{fits_32}
use Rattle.rv_encode.specs.State.{MachineState, register}
use Rattle.code_lines.specs.Pieces.{count_in}
use Rattle.code_memory.specs.Memory.{IsStored, word_in}
use Rattle.code_memory.proofs.Words.{words_are_kept}
use Rattle.code_stacks.specs.Places.{Layout, IsLaidOut}
use Rattle.code_stacks.specs.Agreement.{IsHeld, Agrees}
use Rattle.code_stacks.proofs.Keeping.{Keeps, variable_at}
use Rattle.code_lines.specs.Words.{Code}

-- ---- the count

later_count : (before lag weight : ℕ) → ((before + lag) % 2 ^ 64 + weight) % 2 ^ 64 ≡ (before + (lag + weight)) % 2 ^ 64
later_count before lag weight = omega arith

pub agrees_counted : (objects : List Object) (l : Layout) (lag weight : ℕ) (kept : Kept) (m : MachineState) → Agrees objects l lag kept m → Agrees objects l (lag + weight) (counted weight kept) m
agrees_counted objects l lag weight kept m agrees = record {
  based = agrees.based;
  flag = agrees.flag;
  flag_fits = agrees.flag_fits;
  count = ap (λ n. (n + weight) % 2 ^ 64) agrees.count ∙ later_count (count_in (register m)) lag weight;
  halves = agrees.halves;
  input = agrees.input;
  samples = agrees.samples;
  output = agrees.output;
  size = agrees.size;
  variables = λ n is. let held = agrees.variables n is in record { numbers = held.numbers; fits = held.fits };
}

-- ---- Overflow and the output

pub agrees_flagged : (objects : List Object) (l : Layout) (lag : ℕ) (x : ℤ) (kept : Kept) (m t : MachineState) → Keeps l 0 m t → register t 27 ≡ x → FitsSigned w32 x → Agrees objects l lag kept m
    → Agrees objects l lag (with_overflow x kept) t
agrees_flagged objects l lag x kept m t keeps flag fits agrees =
    -- of a machine in which x27 has not changed
    record {
      based = keeps.based ∙ agrees.based;
      flag = flag;
      flag_fits = fits;
      count = agrees.count ∙ ap (λ y. (cast_unsigned w32 (register m 25) * 2 ^ 32 + cast_unsigned w32 y + lag) % 2 ^ 64) (sym keeps.low)
          ∙ ap (λ y. (cast_unsigned w32 y * 2 ^ 32 + cast_unsigned w32 (register t 24) + lag) % 2 ^ 64) (sym keeps.high);
      halves = (subst (FitsSigned w32) (sym keeps.low) agrees.halves.0, subst (FitsSigned w32) (sym keeps.high) agrees.halves.1);
      input = keeps.input ∙ agrees.input;
      samples = agrees.samples;
      output = keeps.output ∙ agrees.output;
      size = keeps.size ∙ agrees.size;
      variables = λ n is.
          let held = agrees.variables n is in
          let same = keeps.variables n is in
          record { numbers = held.numbers ∙ ap (λ y. y ∷ []) (sym same); fits = subst (FitsWidth (shape_of objects n).width) (sym same) held.fits };
    }

pub agrees_put : (objects : List Object) (l : Layout) (lag : ℕ) (x : ℤ) (kept : Kept) (m t : MachineState) → Agrees objects l lag kept m → ((n : ℕ) → register t n ≡ register m n) → t.memory ≡ m.memory → t.input ≡ m.input
    → t.output ≡ m.output ++ low16 x ∷ [] → Agrees objects l lag (put x kept) t
agrees_put objects l lag x kept m t agrees same memory input output = record {
  based = same 3 ∙ agrees.based;
  flag = same 27 ∙ agrees.flag;
  flag_fits = agrees.flag_fits;
  count = agrees.count ∙ ap (λ y. (cast_unsigned w32 (register m 25) * 2 ^ 32 + cast_unsigned w32 y + lag) % 2 ^ 64) (sym (same 24))
      ∙ ap (λ y. (cast_unsigned w32 y * 2 ^ 32 + cast_unsigned w32 (register t 24) + lag) % 2 ^ 64) (sym (same 25));
  halves = (subst (FitsSigned w32) (sym (same 24)) agrees.halves.0, subst (FitsSigned w32) (sym (same 25)) agrees.halves.1);
  input = input ∙ agrees.input;
  samples = agrees.samples;
  output = output ∙ ap (λ o. o ++ low16 x ∷ []) agrees.output;
  size = ap length memory ∙ agrees.size;
  variables = λ n is.
      let held = agrees.variables n is in
      let word : word_in t.memory (l.slot n) ≡ word_in m.memory (l.slot n) = ap (λ bytes. word_in bytes (l.slot n)) memory in
      record { numbers = held.numbers ∙ ap (λ y. y ∷ []) (sym word); fits = subst (FitsWidth (shape_of objects n).width) (sym word) held.fits };
}

-- ---- variables

row : List (List ℤ) → ℕ → List ℤ
row rows n = unwrap_or (slice_get rows n) []

there : (rows : List (List ℤ)) (n : ℕ) (x : ℤ) (found : Option (List ℤ)) → slice_get rows n ≡ found → unwrap_or found [] ≡ x ∷ [] → n < length rows
there rows n x None is same = absurd (let e = same in cc)
there rows n x (Some list) is same = slice_get_within rows n list is

row_set : (rows : List (List ℤ)) (n : ℕ) (new : List ℤ) → n < length rows → unwrap_or (slice_get (slice_set rows n new) n) [] ≡ new
row_set rows n new less = unwrap_or-slice_get (slice_set rows n new) n [] ∙ get_or-set_same rows n new [] less

row_other : (rows : List (List ℤ)) (n other : ℕ) (new : List ℤ) → other ≢ n → unwrap_or (slice_get (slice_set rows n new) other) [] ≡ unwrap_or (slice_get rows other) []
row_other rows n other new apart = unwrap_or-slice_get (slice_set rows n new) other [] ∙ get_or-set_other rows n other new [] apart ∙ sym (unwrap_or-slice_get rows other [])

unequal : (a b : ℕ) → (a == b) ≡ false → a ≢ b
unequal a b apart e = grind (arith, nat_tests)

-- a variable has a new number, in its width
module _ {code : Code} (objects : List Object) (l : Layout) (laid : IsLaidOut code l) (lag k n : ℕ) (width : Width) (x : ℤ) (kept : Kept) (m t : MachineState) (is : l.is_variable n ≡ true) (wide : (shape_of objects n).width ≡ width)
    (agrees : Agrees objects l lag kept m) (stored : IsStored k (l.slot n) (converted width x) m t) (fits : FitsWidth width (converted width x)) where
  abbrev c : ℤ
  c = converted width x

  abbrev after : Kept
  after = written width (location n 0) x kept

  word_is : word_in t.memory (l.slot n) ≡ c
  word_is =
      ap (λ bytes. word_in bytes (l.slot n)) stored.memory
      ∙ words_are_kept.there m.memory (l.slot n) c (variable_at l m.memory n laid agrees.size is) (fits_32 width c fits)

  held_itself : IsHeld objects l after t.memory n
  held_itself =
      let old = agrees.variables n is in
      record {
        numbers = row_set kept.numbers n (slice_set (numbers_of n kept) 0 c) (there kept.numbers n (word_in m.memory (l.slot n)) (slice_get kept.numbers n) refl old.numbers)
            ∙ ap (λ list. slice_set list 0 c) old.numbers ∙ ap (λ y. y ∷ []) (sym word_is);
        fits = subst (λ w. FitsWidth w (word_in t.memory (l.slot n))) (sym wide) (subst (FitsWidth width) (sym word_is) fits);
      }

  held_other : (other : ℕ) → l.is_variable other ≡ true → other ≢ n → IsHeld objects l after t.memory other
  held_other other is_other apart =
      let old = agrees.variables other is_other in
      let same : word_in t.memory (l.slot other) ≡ word_in m.memory (l.slot other) =
      ap (λ bytes. word_in bytes (l.slot other)) stored.memory
      ∙ words_are_kept.others m.memory (l.slot n) (l.slot other) c (variable_at l m.memory n laid agrees.size is) (variable_at l m.memory other laid agrees.size is_other) (laid.apart other n is_other is apart) in
      record {
        numbers = row_other kept.numbers n other (slice_set (numbers_of n kept) 0 c) apart ∙ old.numbers ∙ ap (λ y. y ∷ []) (sym same);
        fits = subst (FitsWidth (shape_of objects other).width) (sym same) old.fits;
      }

  held_written : (other : ℕ) → l.is_variable other ≡ true → IsHeld objects l after t.memory other
  held_written other is_other =
      elim (cases_Bool (other == n)) [
        | inl same ↦ subst (λ o. IsHeld objects l after t.memory o) (sym (eqb-true other n same)) held_itself
        | inr differ ↦ held_other other is_other (unequal other n differ)
      ]

  pub agrees_written : Agrees objects l lag after t
  agrees_written = record {
    based = stored.others 3 (unequal 3 5 refl) ∙ agrees.based;
    flag = stored.others 27 (unequal 27 5 refl) ∙ agrees.flag;
    flag_fits = agrees.flag_fits;
    count = agrees.count ∙ ap (λ y. (cast_unsigned w32 (register m 25) * 2 ^ 32 + cast_unsigned w32 y + lag) % 2 ^ 64) (sym (stored.others 24 (unequal 24 5 refl)))
        ∙ ap (λ y. (cast_unsigned w32 y * 2 ^ 32 + cast_unsigned w32 (register t 24) + lag) % 2 ^ 64) (sym (stored.others 25 (unequal 25 5 refl)));
    halves = (subst (FitsSigned w32) (sym (stored.others 24 (unequal 24 5 refl))) agrees.halves.0, subst (FitsSigned w32) (sym (stored.others 25 (unequal 25 5 refl))) agrees.halves.1);
    input = stored.input ∙ agrees.input;
    samples = agrees.samples;
    output = stored.output ∙ agrees.output;
    size = ap length stored.memory ∙ words_are_kept.size m.memory (l.slot n) c (variable_at l m.memory n laid agrees.size is) ∙ agrees.size;
    variables = held_written;
  }
