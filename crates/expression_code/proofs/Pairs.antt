-- What is computed of two operands.
use Rattle.std.proofs.Common.{◌≡◌, ℕ, ◌+◌, ◌≤◌, ℤ, true, false, ◌&&◌, List, [], ◌∷◌, ◌++◌, length, length-append, append_assoc, refl, sym, ap, subst, arith}
use Rattle.std.specs.Prelude.{FitsSigned}
use Rattle.std.specs.Int.{w16, w32}
use Rattle.c_tree.specs.declared.expression.BinaryMark.{BinaryMark}
use Rattle.c_tree.specs.declared.expression.BinaryMark.TheVariants as binary
use Rattle.source_runs.specs.Marks.{binary_meaning, both_meaning}
use Rattle.source_runs.specs.Runs.{Run, Outcome, Gives, Stops, Goes, gives, ◌>>=◌}
use Rattle.source_runs.specs.State.{SourceState}
use Rattle.typed_meaning.specs.Expressions.{Setting, Called}
use Rattle.ir_arena.specs.Tree.{IrTree, Binary}
use Rattle.tree_meaning.specs.Trees.{value_meaning}
use Rattle.code_lines.specs.declared.word.Word.{Word}
use Rattle.code_lines.specs.Words.{StandHere, Code}
use Rattle.rv_encode.specs.State.{MachineState, Moment, Running}
use Rattle.code_runs.specs.Doing.{Bond, Comes, Does}
use Rattle.code_runs.proofs.Parts.{in_turn}
use Rattle.code_stacks.specs.Places.{Layout, IsLaidOut}
use Rattle.code_stacks.specs.Agreement.{IsWith, With}
use Rattle.code_stacks.proofs.Operands.{first_stands, second_stands}
use Rattle.expression_code.specs.Code.{around, binary_line, expression_code, weight_of}
use Rattle.expression_code.specs.Laws.{AreScalars}
use Rattle.expression_code.specs.Straight.{is_straight_mark, is_straight, height_of}
use Rattle.expression_code.proofs.Computing.{Leaves, computed}
use Rattle.expression_code.proofs.Placing.{top_fits}
use Rattle.expression_code.proofs.Values.{marked, marks_two}
use Rattle.expression_code.proofs.Leaves.{both_true, one_longer, some_height, Valued, DoesExpression, given}

module _ (code : Code) (turns : ℕ) (l : Layout) (laid : IsLaidOut code l) (here : Setting) (called : Called) (scalars : AreScalars here.objects l) where
  abbrev At : (k lag : ℕ) → List ℤ → Bond
  At k lag values = With here.objects l k lag values

  abbrev code_of : IrTree → ℕ → List Word
  code_of e depth = expression_code here.objects l e depth

  -- ---- two operands

  binary_is : (mark : BinaryMark) (left right : Run ℤ) → is_straight_mark mark ≡ true → binary_meaning mark 0 left right ≡ (left >>= (λ x. right >>= (λ y. gives (marked mark x y))))
  unfolding binary_meaning both_meaning
  binary_is binary.BitAnd left right is = refl
  binary_is binary.BitOr left right is = refl
  binary_is binary.BitXor left right is = refl
  binary_is binary.Eq left right is = refl
  binary_is binary.Ne left right is = refl
  binary_is binary.Lt left right is = refl
  binary_is binary.Le left right is = refl
  binary_is binary.Gt left right is = refl
  binary_is binary.Ge left right is = refl
  binary_is mark left right is = let e = is in cc

  -- both are on the stack
  two_values : (k lag : ℕ) (values : List ℤ) (x y : ℤ) (s : SourceState) (m : MachineState) → IsWith here.objects l k lag ((values ++ x ∷ []) ++ y ∷ []) s m → IsWith here.objects l k lag (values ++ x ∷ y ∷ []) s m
  two_values k lag values x y s m is = subst (λ v. IsWith here.objects l k lag v s m) (append_assoc values (x ∷ []) (y ∷ [])) is

  -- where more holds than is asked
  pub comes_as : {A : Type 0} (from : Moment) (sites : List ℕ) (holds asked : A → Bond) (o : Outcome A) → ((a : A) (s : SourceState) (m : MachineState) → holds a s m → asked a s m)
      → Comes code turns from sites (λ a. 0) holds o → Comes code turns from sites (λ a. 0) asked o
  comes_as from sites holds asked (Gives a s) weaker comes = (comes.0, comes.1, weaker a s comes.0 comes.2)
  comes_as from sites holds asked (Stops site s) weaker comes = comes
  comes_as from sites holds asked (Goes s) weaker comes = comes

  second_fits : (k lag : ℕ) (values : List ℤ) (x y : ℤ) (s : SourceState) (m : MachineState) → IsWith here.objects l k lag (values ++ x ∷ y ∷ []) s m → FitsSigned w32 y
  second_fits k lag values x y s m at =
      top_fits code here.objects l laid k lag (values ++ x ∷ []) y s m (subst (λ v. IsWith here.objects l k lag v s m) (sym (append_assoc values (x ∷ []) (y ∷ []))) at)

  module _ (left right : IrTree) (does : DoesExpression code turns l laid here called scalars left) (does_right : DoesExpression code turns l laid here called scalars right) where
    -- the second operand, where the first is on the stack
    second_does : (k lag : ℕ) (values : List ℤ) (x : ℤ) → is_straight l right ≡ true → length values + (1 + height_of right) ≤ l.depth → StandHere code k (code_of right (length values + 1))
        → Does code turns (At k lag (values ++ x ∷ [])) (value_meaning here called right)
        (λ y s m. IsWith here.objects l (k + length (code_of right (length values + 1))) (lag + weight_of right) (values ++ x ∷ y ∷ []) s m)
    second_does k lag values x straight room stands s m at =
        let deeper : length (values ++ x ∷ []) ≡ length values + 1 = one_longer values x in
        let standing : StandHere code k (code_of right (length (values ++ x ∷ []))) = subst (λ d. StandHere code k (code_of right d)) (sym deeper) stands in
        let same : k + length (code_of right (length (values ++ x ∷ []))) ≡ k + length (code_of right (length values + 1)) = ap (λ d. k + length (code_of right d)) deeper in
        comes_as (Running m) s.sites (Valued code turns l laid here called scalars (k + length (code_of right (length (values ++ x ∷ [])))) (lag + weight_of right) (values ++ x ∷ []) right) _ (value_meaning here called right s)
        (λ y t n valued.
        two_values (k + length (code_of right (length values + 1))) (lag + weight_of right) values x y t n
        (subst (λ p. IsWith here.objects l p (lag + weight_of right) ((values ++ x ∷ []) ++ y ∷ []) t n) same valued.0))
        (does_right k lag (values ++ x ∷ []) straight (omega (arith, deeper)) standing s m at)

    -- both operands, and what is done with them
    pub pair_does : (k lag : ℕ) (values : List ℤ) (next : ℤ → ℤ → Run ℤ) (rest : List Word) (after : ℤ → Bond) → is_straight l left ≡ true → is_straight l right ≡ true
        → length values + height_of left ≤ l.depth → length values + (1 + height_of right) ≤ l.depth → StandHere code k (code_of left (length values) ++ (code_of right (length values + 1) ++ rest))
        → ((x y : ℤ) (s : SourceState) (m : MachineState) → FitsSigned w32 x → FitsSigned w32 y
        → StandHere code (k + length (code_of left (length values)) + length (code_of right (length values + 1))) rest
        → IsWith here.objects l (k + length (code_of left (length values)) + length (code_of right (length values + 1))) (lag + weight_of left + weight_of right) (values ++ x ∷ y ∷ []) s m
        → Comes code turns (Running m) s.sites (λ v. 0) after (next x y s))
        → Does code turns (At k lag values) (value_meaning here called left >>= (λ x. value_meaning here called right >>= next x)) after
    pair_does k lag values next rest after straight straight2 room room2 stands finishes =
        let xs = code_of left (length values) in
        let ys = code_of right (length values + 1) in
        let later = second_stands code k xs (ys ++ rest) stands in
        in_turn code turns (At k lag values) (value_meaning here called left) (Valued code turns l laid here called scalars (k + length xs) (lag + weight_of left) values left) (λ x. value_meaning here called right >>= next x) after
        (does k lag values straight room (first_stands code k xs (ys ++ rest) stands))
        (λ x s m valued.
        let fits = top_fits code here.objects l laid (k + length xs) (lag + weight_of left) values x s m valued.0 in
        in_turn code turns (At (k + length xs) (lag + weight_of left) (values ++ x ∷ [])) (value_meaning here called right)
        (λ y t n. IsWith here.objects l (k + length xs + length ys) (lag + weight_of left + weight_of right) (values ++ x ∷ y ∷ []) t n) (next x) after
        (second_does (k + length xs) (lag + weight_of left) values x straight2 room2 (first_stands code (k + length xs) ys rest later))
        (λ y t n at. finishes x y t n fits (second_fits (k + length xs + length ys) (lag + weight_of left + weight_of right) values x y t n at) (second_stands code (k + length xs) ys rest later) at)
        s m valued.0)

    abbrev pair_code : BinaryMark → ℕ → List Word
    pair_code mark depth = code_of left depth ++ (code_of right (depth + 1) ++ around l depth 2 (binary_line mark depth))

    pub binary_does : (mark : BinaryMark) (k lag : ℕ) (values : List ℤ) → (is_straight_mark mark && is_straight l left && is_straight l right) ≡ true → length values + height_of (Binary mark left right) ≤ l.depth
        → StandHere code k (pair_code mark (length values))
        → Does code turns (At k lag values) (value_meaning here called (Binary mark left right))
        (Valued code turns l laid here called scalars (k + length (pair_code mark (length values))) (lag + (weight_of left + weight_of right)) values (Binary mark left right))
    binary_does mark k lag values straight room stands =
        let parts = both_true (is_straight_mark mark && is_straight l left) (is_straight l right) straight in
        let firsts = both_true (is_straight_mark mark) (is_straight l left) parts.0 in
        let depth = length values in
        let xs = code_of left depth in
        let ys = code_of right (depth + 1) in
        let zs = around l depth 2 (binary_line mark depth) in
        let place = k + length (xs ++ (ys ++ zs)) in
        let whole : k + length xs + length ys + length zs ≡ place = omega (arith, length-append xs (ys ++ zs), length-append ys zs) in
        let late : lag + weight_of left + weight_of right ≡ lag + (weight_of left + weight_of right) = omega arith in
        subst (λ run. Does code turns (At k lag values) run (Valued code turns l laid here called scalars place (lag + (weight_of left + weight_of right)) values (Binary mark left right))) (sym (binary_is mark (value_meaning here called left) (value_meaning here called right) firsts.0))
        (pair_does k lag values (λ x y. gives (marked mark x y)) zs (Valued code turns l laid here called scalars place (lag + (weight_of left + weight_of right)) values (Binary mark left right)) firsts.1 parts.1 (omega arith) (omega arith) stands
        (λ x y t n fits fits2 standing at.
        let is = computed code here.objects l laid (k + length xs + length ys) (lag + weight_of left + weight_of right) values (x ∷ y ∷ []) (marked mark x y) (binary_line mark depth) t n (omega arith)
        (omega (arith, some_height right)) (omega (arith, some_height right)) standing at (marks_two code here.objects l laid depth t.kept.overflow x y fits fits2 mark firsts.0) in
        given code turns l laid here called scalars place (lag + (weight_of left + weight_of right)) values (marked mark x y) (λ v. false ≡ true → FitsSigned w16 v) t n
        (subst (λ g. Leaves code here.objects l place g (values ++ marked mark x y ∷ []) t n) late
        (subst (λ e. Leaves code here.objects l e (lag + weight_of left + weight_of right) (values ++ marked mark x y ∷ []) t n) whole is)) (λ e. cc)))
