-- A variable holds its first value once this is written to its word, and goes on to hold it when others are written.
use Rattle.std.proofs.Common.{◌≡◌, ◌≢◌, ℕ, ◌+◌, ◌<◌, ℤ, true, false, List, [], ◌∷◌, length, refl, sym, ap, subst, ◌∙◌, arith, inl, inr}
use Rattle.std.specs.Prelude.{Option, Some, None, slice_get, option_map}
use Rattle.std.specs.Option.{unwrap_or}
use Rattle.std.proofs.lemmas.Bool.{cases_lt, true≢false}
use Rattle.std.proofs.lemmas.Option.{slice_get-map, slice_get_past}
use Rattle.operator_meaning.specs.declared.object.Object.{Object}
use Rattle.operator_meaning.specs.Table.{FitsWidth}
use Rattle.operator_meaning.proofs.Reading.{fits_32}
use Rattle.source_runs.specs.Shapes.{opening_of}
use Rattle.source_runs.specs.Steps.{opening_state}
use Rattle.code_lines.specs.Words.{Code}
use Rattle.code_memory.specs.Memory.{word_in, with_word_in, IsSlot}
use Rattle.code_memory.proofs.Words.{words_are_kept}
use Rattle.code_stacks.specs.Places.{Layout, IsLaidOut}
use Rattle.code_stacks.specs.Agreement.{IsHeld}
use Rattle.code_stacks.proofs.Keeping.{variable_at, held_kept}
use Rattle.program_code.specs.Laws.{IsFirst}
use Rattle.data_layout.specs.Laid.{IsLaidFor, HasVariables}
use Rattle.data_layout.specs.Slots.{scalar_where}

module _ (objects : List Object) (l : Layout) where
  abbrev Holds : List ℕ → ℕ → Type 0
  Holds memory n = IsHeld objects l (opening_state objects []) memory n

  -- the variables below this number hold their first values
  pub record IsBegun (memory : List ℕ) (number : ℕ) : Type 0 where
    pub size : length memory ≡ l.size
    pub held : (n : ℕ) → n < number → l.is_variable n ≡ true → Holds memory n

  -- what is no variable has no first value
  pub begun-none : (memory : List ℕ) (number : ℕ) → l.is_variable number ≡ false → IsBegun memory number → IsBegun memory (number + 1)
  begun-none memory number none begun = record {
    size = begun.size;
    held = λ n low variable. elim (cases_lt n number) [
      | inl below ↦ begun.held n below variable
      | inr above ↦ let last : n ≡ number = omega arith in absurd (true≢false (sym variable ∙ ap l.is_variable last ∙ none))
    ];
  }

  variable-within : HasVariables objects l → (n : ℕ) → l.is_variable n ≡ true → n < length objects
  variable-within scalars n is = elim (cases_lt n (length objects)) [
    | inl low ↦ low
    | inr past ↦ absurd (true≢false (sym is ∙ scalars n ∙ ap scalar_where (slice_get_past objects n past)))
  ]

  pub first-when : HasVariables objects l → (memory : List ℕ) → IsBegun memory (length objects) → IsFirst objects l memory
  first-when scalars memory begun = record { size = begun.size; variables = λ n is. begun.held n (variable-within scalars n is) is }

  module _ (laid : IsLaidFor l) where
    -- a code that has the sites of the layout
    abbrev code : Code
    code = record { words = []; begins = λ k. None; is_wordless = l.is_wordless }

    out : IsLaidOut code l
    out = laid code (λ site. refl)

    pub variable-in : (memory : List ℕ) → length memory ≡ l.size → (n : ℕ) → l.is_variable n ≡ true → IsSlot memory (l.slot n)
    variable-in memory size n is = variable_at l memory n out size is

    module _ (memory new : List ℕ) (number : ℕ) (x : ℤ) (size : length memory ≡ l.size) (is : l.is_variable number ≡ true) (written : new ≡ with_word_in memory (l.slot number) x) where
      held-itself : (object : Object) → slice_get objects number ≡ Some object → opening_of object ≡ x ∷ [] → FitsWidth object.width x → Holds new number
      held-itself object found opening fits =
          let word : word_in new (l.slot number) ≡ x =
          ap (λ bytes. word_in bytes (l.slot number)) written ∙ words_are_kept.there memory (l.slot number) x (variable-in memory size number is) (fits_32 object.width x fits) in
          record {
            numbers = ap (λ row. unwrap_or row []) (slice_get-map opening_of objects number) ∙ ap (λ (o : Option Object). unwrap_or (option_map opening_of o) []) found
                ∙ opening ∙ ap (λ y. y ∷ []) (sym word);
            fits = rw (found, word) fits;
          }

      held-others : (n : ℕ) → l.is_variable n ≡ true → n ≢ number → Holds memory n → Holds new n
      held-others n variable differ held =
          held_kept objects l (opening_state objects []) memory new n
          (ap (λ bytes. word_in bytes (l.slot n)) written
          ∙ words_are_kept.others memory (l.slot number) (l.slot n) x (variable-in memory size number is) (variable-in memory size n variable) (out.apart n number variable is differ)) held

      pub begun-more : (object : Object) → slice_get objects number ≡ Some object → opening_of object ≡ x ∷ [] → FitsWidth object.width x → IsBegun memory number → IsBegun new (number + 1)
      begun-more object found opening fits begun = record {
        size = ap length written ∙ words_are_kept.size memory (l.slot number) x (variable-in memory size number is) ∙ size;
        held = λ n low variable. elim (cases_lt n number) [
          | inl below ↦ held-others n variable (λ same. omega (arith, same)) (begun.held n below variable)
          | inr above ↦ let last : number ≡ n = omega arith in subst (λ k. Holds new k) last (held-itself object found opening fits)
        ];
      }
