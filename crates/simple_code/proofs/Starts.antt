-- The code by which the objects of a block start does what their starts do.
use Rattle.std.proofs.Common.{◌≡◌, ℕ, ◌+◌, ◌≤◌, ℤ, true, List, [], ◌∷◌, ◌++◌, length, length-append, refl, sym, ap, ◌∙◌, subst, arith}
use Rattle.std.specs.Prelude.{Option, Some, None, slice_get, slice_set}
use Rattle.operator_meaning.specs.declared.object.Object.{Object}
use Rattle.operator_meaning.specs.declared.object.Storage.{Storage}
use Rattle.operator_meaning.specs.declared.object.Storage.TheVariants.{Static, Automatic, Parameter}
use Rattle.source_runs.specs.declared.location.Given.{Given}
use Rattle.source_runs.specs.declared.location.Given.TheVariants.{Number, View}
use Rattle.source_runs.specs.Runs.{gives, ◌>>=◌, changing}
use Rattle.source_runs.specs.Shapes.{shape_of, opening_of}
use Rattle.source_runs.specs.State.{Kept, converted, written, location, with_numbers}
use Rattle.source_runs.specs.Steps.{given_to, opened}
use Rattle.typed_meaning.specs.Expressions.{Setting, Called}
use Rattle.typed_meaning.specs.Statements.{start_meaning, option_of}
use Rattle.ir_arena.specs.Tree.{IrTree, Constant, Read, Operate, Convert, Not, Invert, Binary, Choose, ReadFlag, Variable}
use Rattle.tree_meaning.specs.Trees.{argument_meaning, value_meaning}
use Rattle.code_lines.specs.declared.word.Word.{Word}
use Rattle.code_lines.specs.Words.{StandHere, Code}
use Rattle.rv_encode.specs.State.{MachineState, Running}
use Rattle.code_memory.specs.Memory.{store_code}
use Rattle.code_runs.specs.Doing.{Bond, Does, Comes}
use Rattle.code_runs.proofs.Parts.{in_turn, later}
use Rattle.code_stacks.specs.Places.{Layout, IsLaidOut}
use Rattle.code_stacks.specs.Agreement.{Agrees, With}
use Rattle.code_stacks.proofs.Operands.{first_stands, second_stands}
use Rattle.expression_code.specs.Code.{convert_code, fits_sixteen, expression_code, weight_of}
use Rattle.expression_code.specs.Laws.{AreScalars, Valued}
use Rattle.expression_code.specs.Straight.{is_straight, height_of}
use Rattle.expression_code.proofs.Expressions.{expression_does}
use Rattle.simple_code.specs.Code.{value_register, assigned_code}
use Rattle.simple_code.specs.Starts.{opening_number, opened_code, opening_code, start_code, IsNumbered, IsOpened, IsOpening, IsStart, weight_of_start}
use Rattle.simple_code.proofs.Simples.{object_is, stored_does}
use Rattle.code_runs.proofs.Steps.{passes_still}

module _ (code : Code) (turns : ℕ) (l : Layout) (laid : IsLaidOut code l) (here : Setting) (called : Called) (scalars : AreScalars here.objects l) where
  abbrev At : (k lag : ℕ) → Bond
  At k lag = With here.objects l k lag []

  abbrev own : (n : ℕ) → (shape_of here.objects n).object ≡ n
  own n = object_is code turns l laid here called scalars n (slice_get here.objects n) refl

  -- its one number replaces the one that it had
  one_number : (n lag : ℕ) (x c : ℤ) (numbers : List ℤ) (kept : Kept) (m : MachineState) → l.is_variable n ≡ true → numbers ≡ c ∷ [] → c ≡ converted (shape_of here.objects n).width x → Agrees here.objects l lag kept m
      → with_numbers n numbers kept ≡ written (shape_of here.objects n).width (location n 0) x kept
  one_number n lag x c numbers kept m is one same agrees =
      ap (λ list. with_numbers n list kept) (one ∙ ap (λ y. y ∷ []) same)
      ∙ sym (ap (λ list. with_numbers n (slice_set list 0 (converted (shape_of here.objects n).width x)) kept) (agrees.variables n is).numbers)

  -- ---- objects that start with a value

  -- as an argument a value is its number
  argument_is : (e : IrTree) → is_straight l e ≡ true → argument_meaning here called e ≡ (value_meaning here called e >>= (λ x. gives (Number x)))
  argument_is (Constant value) straight = refl
  argument_is (Read target) straight = refl
  argument_is (Operate site kind operands weight) straight = refl
  argument_is (Convert cast width part) straight = refl
  argument_is (Not part) straight = refl
  argument_is (Invert part) straight = refl
  argument_is (Binary mark first second) straight = refl
  argument_is (Choose cond this other) straight = refl
  argument_is (ReadFlag word) straight = refl
  argument_is e straight = absurd (let is = straight in cc)

  module _ (value : IrTree) (straight : is_straight l value ≡ true) (room : height_of value ≤ l.depth) (n : ℕ) (is : l.is_variable n ≡ true) where
    abbrev given : (k lag : ℕ) → Given → Bond
    given k lag (Number x) = Valued here.objects l k lag [] value x
    given k lag (View to) = λ s m. ⊥

    abbrev storing : List Word
    storing = convert_code here.objects l (shape_of here.objects n).width (fits_sixteen here.objects value) 0 ++ store_code value_register (l.slot n)

    given_does : (k lag : ℕ) → StandHere code k storing → (g : Given) → Does code turns (given k lag g) (changing (given_to (shape_of here.objects n) g)) (λ done. At (k + length storing) lag)
    given_does k lag stands (Number x) =
        stored_does code turns l laid here called scalars value straight room n k lag x (given_to (shape_of here.objects n) (Number x)) is
        (λ kept m agrees.
        ap (λ o. with_numbers o (converted (shape_of here.objects n).width x ∷ []) kept) (own n)
        ∙ one_number n lag x (converted (shape_of here.objects n).width x) (converted (shape_of here.objects n).width x ∷ []) kept m is refl refl agrees)
        stands
    given_does k lag stands (View to) = λ s m never. absurd never

    pub started_does : (k lag : ℕ) → StandHere code k (assigned_code here.objects l (Variable n) value)
        → Does code turns (At k lag) (start_meaning here n (Some (argument_meaning here called value)))
        (λ done. At (k + length (assigned_code here.objects l (Variable n) value)) (lag + weight_of value))
    unfolding start_meaning
    started_does k lag stands =
        let xs = expression_code here.objects l value 0 in
        let place = k + length (xs ++ storing) in
        let whole : k + length xs + length storing ≡ place = omega (arith, length-append xs storing) in
        let late = lag + weight_of value in
        let between = given (k + length xs) late in
        in_turn code turns (At k lag) (argument_meaning here called value) between (λ g. changing (given_to (shape_of here.objects n) g)) (λ done. At place late)
        (subst (λ run. Does code turns (At k lag) run between) (sym (argument_is value straight))
        (in_turn code turns (At k lag) (value_meaning here called value) (Valued here.objects l (k + length xs) late [] value) (λ x. gives (Number x)) between
        (expression_does code turns l laid here called scalars value k lag [] straight (omega arith) (first_stands code k xs storing stands))
        (λ x s m has. (m, passes_still code s.sites (Running m), has))))
        (λ g. subst (λ p. Does code turns (between g) (changing (given_to (shape_of here.objects n) g)) (λ done. At p late)) whole
        (given_does (k + length xs) late (second_stands code k xs storing stands) g))

  -- ---- objects that start without one

  still_does : (k lag : ℕ) (to : Kept → Kept) → ((kept : Kept) → to kept ≡ kept) → Does code turns (At k lag) (changing to) (λ done. At (k + 0) (lag + 0))
  unfolding changing
  still_does k lag to same s m at =
      let none : k ≡ k + 0 = omega arith in
      let late : lag ≡ lag + 0 = omega arith in (
        m,
        passes_still code s.sites (Running m),
        subst (λ p. With here.objects l p (lag + 0) [] (record s { kept = to s.kept }) m) none
            (subst (λ w. With here.objects l k w [] (record s { kept = to s.kept }) m) late (subst (λ kept. With here.objects l k lag [] (record s { kept = kept }) m) (sym (same s.kept)) at)),
      )

  numbered_does : (n k lag : ℕ) (object : Object) (to : Kept → Kept) → ((kept : Kept) → to kept ≡ with_numbers n (opening_of object) kept) → IsNumbered here.objects l n object
      → StandHere code k (assigned_code here.objects l (Variable n) (Constant (opening_number object)))
      → Does code turns (At k lag) (changing to) (λ done. At (k + length (assigned_code here.objects l (Variable n) (Constant (opening_number object)))) (lag + 0))
  unfolding changing
  numbered_does n k lag object to same numbered stands s m at =
      let value = Constant (opening_number object) in
      let xs = expression_code here.objects l value 0 in
      let rest = storing value numbered.number numbered.room n numbered.variable in
      let place = k + length (xs ++ rest) in
      let whole : k + length xs + length rest ≡ place = omega (arith, length-append xs rest) in
      let late = lag + 0 in
      let made = expression_does code turns l laid here called scalars value k lag [] numbered.number numbered.room (first_stands code k xs rest stands) s m at in
      let stored = stored_does code turns l laid here called scalars value numbered.number numbered.room n (k + length xs) late (opening_number object) to numbered.variable
      (λ kept u agrees. same kept ∙ one_number n late (opening_number object) _ (opening_of object) kept u numbered.variable numbered.converts refl agrees)
      (second_stands code k xs rest stands) s made.0 made.2 in
      subst (λ p. Comes code turns (Running m) s.sites (λ done. 0) (λ done. At p late) (changing to s)) whole
      (later code 0 turns turns s.sites s.sites (Running m) made.0 (λ done. 0) (λ done. 0) (λ done. At (k + length xs + length rest) late) (changing to s) (omega arith) (λ done. omega arith) made.1 stored)

  opened_does : (n k lag : ℕ) (object : Object) (storage : Storage) → slice_get here.objects n ≡ Some object → object.storage ≡ storage → IsOpened here.objects l storage n object
      → StandHere code k (opened_code here.objects l storage n object)
      → Does code turns (At k lag) (changing (opened here.objects n)) (λ done. At (k + length (opened_code here.objects l storage n object)) (lag + 0))
  opened_does n k lag object Static is stored opens stands = still_does k lag (opened here.objects n) (λ kept. rw (is, stored) refl)
  opened_does n k lag object Automatic is stored opens stands = numbered_does n k lag object (opened here.objects n) (λ kept. rw (is, stored) refl) opens stands
  opened_does n k lag object Parameter is stored opens stands = numbered_does n k lag object (opened here.objects n) (λ kept. rw (is, stored) refl) opens stands

  opening_does : (n k lag : ℕ) (found : Option Object) → slice_get here.objects n ≡ found → IsOpening here.objects l n found → StandHere code k (opening_code here.objects l n found)
      → Does code turns (At k lag) (changing (opened here.objects n)) (λ done. At (k + length (opening_code here.objects l n found)) (lag + 0))
  opening_does n k lag None is opens stands = still_does k lag (opened here.objects n) (λ kept. rw is refl)
  opening_does n k lag (Some object) is opens stands = opened_does n k lag object object.storage is refl opens stands

  pub start_does : (n : ℕ) (start : Option IrTree) (k lag : ℕ) → IsStart here.objects l n start → StandHere code k (start_code here.objects l n start)
      → Does code turns (At k lag) (start_meaning here n (option_of (argument_meaning here called) start))
      (λ done. At (k + length (start_code here.objects l n start)) (lag + weight_of_start start))
  unfolding start_meaning
  start_does n None k lag starts stands = opening_does n k lag (slice_get here.objects n) refl starts stands
  start_does n (Some value) k lag starts stands = started_does value starts.straight starts.room n starts.variable k lag stands
