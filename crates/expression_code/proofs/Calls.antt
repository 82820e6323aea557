-- Operators over operands that are given.
use Rattle.std.proofs.Common.{◌≡◌, ◌≢◌, ℕ, ◌+◌, ◌≤◌, ℤ, true, false, ◌&&◌, ◌==◌, List, [], ◌∷◌, ◌++◌, length, length-append, map, append_assoc, append-nil, refl, sym, ap, ◌∙◌, subst, inl, inr, arith}
use Rattle.std.proofs.lemmas.Bool.{eqb-true, cases_Bool}
use Rattle.std.proofs.lemmas.Bool.Decides.{nat_tests}
use Rattle.sat_base.specs.declared.width.Width.{Width}
use Rattle.operator_meaning.specs.declared.operator.Op.{Op}
use Rattle.operator_meaning.specs.declared.site.SiteKind.TheVariants as kind
use Rattle.operator_meaning.specs.Table.{row_of, arity_of, FitsWidth}
use Rattle.source_runs.specs.declared.location.Given.{Given}
use Rattle.source_runs.specs.declared.location.Given.TheVariants.{Number}
use Rattle.source_runs.specs.Runs.{Run, gives, ◌>>=◌, gathered}
use Rattle.source_runs.specs.Calls.{operands_of}
use Rattle.source_runs.proofs.Operators.{arity_three}
use Rattle.source_runs.proofs.Turning.{gathered-next}
use Rattle.source_runs.specs.State.{SourceState, converted}
use Rattle.typed_meaning.specs.Expressions.{Setting, Called}
use Rattle.ir_arena.specs.Tree.{IrTree, IrTrees, Constant, Read, Operate, Convert, Not, Invert, Binary, ReadFlag, end, more}
use Rattle.tree_meaning.specs.Parts.{NodeMeaning, operated_with, operate_meaning}
use Rattle.tree_meaning.specs.Trees.{node_meanings, value_meaning, argument_meaning}
use Rattle.code_lines.specs.declared.word.Word.{Word}
use Rattle.code_lines.specs.Words.{StandHere, Code}
use Rattle.rv_encode.specs.State.{MachineState, Running}
use Rattle.code_runs.specs.Doing.{Bond, Comes, Does}
use Rattle.code_runs.proofs.Parts.{in_turn}
use Rattle.code_stacks.specs.Places.{Layout, IsLaidOut}
use Rattle.code_stacks.specs.Agreement.{IsWith, With}
use Rattle.code_stacks.proofs.Operands.{first_stands, second_stands}
use Rattle.expression_code.specs.Code.{fits_sixteen, site_code, first_width, other_widths, convert_code, expression_code, operands_code, weight_of, weights_of}
use Rattle.expression_code.specs.Laws.{AreScalars}
use Rattle.expression_code.specs.Straight.{is_straight, are_straight, count_in, heights_of, is_numbered}
use Rattle.expression_code.proofs.Operators.{op_done}
use Rattle.expression_code.proofs.Placing.{placed, FitPlaces, placed_long, placed_fit, operands_placed, convert_done}
use Rattle.expression_code.proofs.Leaves.{both_true, one_longer, some_height, Valued, DoesExpression, no_values, sixteen_by}
use Rattle.expression_code.proofs.Pairs.{comes_as}
use Rattle.code_runs.proofs.Steps.{passes_none, passes_still}
use Rattle.expression_code.proofs.Sites.{IsTold}
use Rattle.expression_code.proofs.Wordless.{told}
use Rattle.operator_meaning.specs.declared.site.Form.TheVariants.{Flag}

module _ (code : Code) (turns : ℕ) (l : Layout) (laid : IsLaidOut code l) (here : Setting) (called : Called) (scalars : AreScalars here.objects l) where
  abbrev At : (k lag : ℕ) → List ℤ → Bond
  At k lag values = With here.objects l k lag values

  abbrev code_of : IrTree → ℕ → List Word
  code_of e depth = expression_code here.objects l e depth

  -- ---- operators

  -- operands that are given code turns l laid here called scalars are on the stack, each in the width of its place
  pub record AreGiven (k lag : ℕ) (values : List ℤ) (done : List Given) (widths : List Width) (count : ℕ) (givens : List Given) (s : SourceState) (m : MachineState) : Type 0 where
    pub numbers : List ℤ
    pub are : givens ≡ done ++ map Number numbers
    pub counted : length numbers ≡ count
    pub on_stack : IsWith here.objects l k lag (values ++ placed widths numbers) s m
    pub fit : FitPlaces widths numbers

  abbrev pub DoesOperands : IrTrees → Type 0
  DoesOperands operands = (k lag : ℕ) (values : List ℤ) (done : List Given) (widths : List Width) → are_straight l operands ≡ true → length values + heights_of operands ≤ l.depth
      → StandHere code k (operands_code here.objects l widths operands (length values))
      → Does code turns (At k lag values) (gathered done (map (λ (part : NodeMeaning). part.argument) (node_meanings here called operands)))
      (AreGiven (k + length (operands_code here.objects l widths operands (length values))) (lag + weights_of operands) values done widths (count_in operands))

  arity_few : (op : Op) → arity_of op ≤ 3
  arity_few op =
      elim (cases_Bool (arity_of op == 1)) [
        | inl one ↦ omega (arith, eqb-true (arity_of op) 1 one)
        | inr more_than ↦
            elim (cases_Bool (arity_of op == 2)) [
              | inl two ↦ omega (arith, eqb-true (arity_of op) 2 two)
              | inr three ↦ omega (arith, arity_three op (unequal (arity_of op) 1 more_than) (unequal (arity_of op) 2 three))
            ]
      ]
    where
      unequal : (a b : ℕ) → (a == b) ≡ false → a ≢ b
      unequal a b apart e = grind (arith, nat_tests)

  heights_count : (operands : IrTrees) → count_in operands ≤ heights_of operands
  heights_count end = omega arith
  heights_count (more first rest) = omega (arith, heights_count rest)

  pub no_operands : DoesOperands end
  unfolding gathered
  no_operands k lag values done widths straight room stands s m at =
      let place : k ≡ k + 0 = omega arith in
      let late : lag ≡ lag + 0 = omega arith in (
        m,
        passes_still code s.sites (Running m),
        record {
          numbers = [];
          are = sym (append-nil done);
          counted = refl;
          on_stack = subst (λ n. IsWith here.objects l n (lag + 0) (values ++ []) s m) place (subst (λ g. IsWith here.objects l k g (values ++ []) s m) late (no_values code turns l laid here called scalars k lag values s m at));
          fit = tt;
        },
      )

  -- an expression gives its number to a parameter
  argument_is : (e : IrTree) → is_straight l e ≡ true → argument_meaning here called e ≡ (value_meaning here called e >>= (λ x. gives (Number x)))
  argument_is (Constant value) is = refl
  argument_is (Read target) is = refl
  argument_is (Operate site kind operands weight) is = refl
  argument_is (Convert cast width part) is = refl
  argument_is (Not part) is = refl
  argument_is (Invert part) is = refl
  argument_is (Binary mark left right) is = refl
  argument_is (ReadFlag word) is = refl
  argument_is e is = let f = is in cc

  pub some_operands : (e : IrTree) (rest : IrTrees) → DoesExpression code turns l laid here called scalars e → DoesOperands rest → DoesOperands (more e rest)
  some_operands e rest does does_rest k lag values done widths straight room stands =
      let parts = both_true (is_straight l e) (are_straight l rest) straight in
      let depth = length values in
      let width = first_width widths in
      let xs = code_of e depth in
      let cs = convert_code here.objects l width (fits_sixteen here.objects e) depth in
      let ys = operands_code here.objects l (other_widths widths) rest (depth + 1) in
      let head = first_stands code k (xs ++ cs) ys stands in
      let tail = second_stands code k (xs ++ cs) ys stands in
      let one : k + length xs + length cs ≡ k + length (xs ++ cs) = omega (arith, length-append xs cs) in
      let between : Given → Bond = λ a s m. (x : ℤ) × (a ≡ Number x) × IsWith here.objects l (k + length (xs ++ cs)) (lag + weight_of e) (values ++ converted width x ∷ []) s m × FitsWidth width (converted width x) in
      let after = AreGiven (k + length ((xs ++ cs) ++ ys)) (lag + (weight_of e + weights_of rest)) values done widths (count_in rest + 1) in
      let others = map (λ (part : NodeMeaning). part.argument) (node_meanings here called rest) in
      subst (λ run. Does code turns (At k lag values) run after)
      (ap (λ (first : Run Given). first >>= (λ a. gathered (done ++ a ∷ []) others)) (sym (argument_is e parts.0)) ∙ sym (gathered-next done (argument_meaning here called e) others))
      (in_turn code turns (At k lag values) (value_meaning here called e >>= (λ x. gives (Number x))) between (λ a. gathered (done ++ a ∷ []) others) after
      (in_turn code turns (At k lag values) (value_meaning here called e) (Valued code turns l laid here called scalars (k + length xs) (lag + weight_of e) values e) (λ x. gives (Number x)) between
      (does k lag values parts.0 (omega arith) (first_stands code k xs cs head))
      (λ x s m valued.
      let placing = convert_done code here.objects l laid (k + length xs) (lag + weight_of e) values x width (fits_sixteen here.objects e) s m valued.1 (omega (arith, some_height e)) (second_stands code k xs cs head) valued.0 in
      let leaves = placing.0 in
      (leaves.0, passes_none code 0 s.sites (Running m) (Running leaves.0) leaves.1, (x, refl, subst (λ p. IsWith here.objects l p (lag + weight_of e) (values ++ converted width x ∷ []) s leaves.0) one leaves.2, placing.1))))
      (λ a s m b.
      let x = b.0 in
      let c = converted width x in
      let deeper : length (values ++ c ∷ []) ≡ depth + 1 = one_longer values c in
      let standing : StandHere code (k + length (xs ++ cs)) (operands_code here.objects l (other_widths widths) rest (length (values ++ c ∷ []))) =
      subst (λ d. StandHere code (k + length (xs ++ cs)) (operands_code here.objects l (other_widths widths) rest d)) (sym deeper) tail in
      let place : k + length (xs ++ cs) + length (operands_code here.objects l (other_widths widths) rest (length (values ++ c ∷ []))) ≡ k + length ((xs ++ cs) ++ ys) =
      ap (λ d. k + length (xs ++ cs) + length (operands_code here.objects l (other_widths widths) rest d)) deeper ∙ omega (arith, length-append (xs ++ cs) ys) in
      let late : lag + weight_of e + weights_of rest ≡ lag + (weight_of e + weights_of rest) = omega arith in
      comes_as code turns l laid here called scalars (Running m) s.sites _ after (gathered (done ++ a ∷ []) others s)
      (λ givens t n g. record {
        numbers = x ∷ g.numbers;
        are = g.are ∙ append_assoc done (a ∷ []) (map Number g.numbers) ∙ ap (λ v. done ++ v ∷ map Number g.numbers) b.1;
        counted = omega (arith, g.counted);
        on_stack = subst (λ v. IsWith here.objects l (k + length ((xs ++ cs) ++ ys)) (lag + (weight_of e + weights_of rest)) v t n) (append_assoc values (c ∷ []) (placed (other_widths widths) g.numbers))
            (subst (λ v. IsWith here.objects l (k + length ((xs ++ cs) ++ ys)) v ((values ++ c ∷ []) ++ placed (other_widths widths) g.numbers) t n) late
            (subst (λ p. IsWith here.objects l p (lag + weight_of e + weights_of rest) ((values ++ c ∷ []) ++ placed (other_widths widths) g.numbers) t n) place g.on_stack));
        fit = (b.3, g.fit);
      })
      (does_rest (k + length (xs ++ cs)) (lag + weight_of e) (values ++ c ∷ []) (done ++ a ∷ []) (other_widths widths) parts.1 (omega (arith, deeper)) standing s m b.2)))

  -- what a node stands for whose operands are given code turns l laid here called scalars
  call_is : (op : Op) (site weight : ℕ) (operands : IrTrees)
      → value_meaning here called (Operate site (kind.Call op) operands weight)
      ≡ (gathered [] (map (λ (part : NodeMeaning). part.argument) (node_meanings here called operands)) >>= (λ givens. operated_with weight site op (operands_of op givens)))
  unfolding operate_meaning
  call_is op site weight operands = refl

  pub call_does : (op : Op) (site weight : ℕ) (operands : IrTrees) → DoesOperands operands → DoesExpression code turns l laid here called scalars (Operate site (kind.Call op) operands weight)
  call_does op site weight operands does k lag values straight room stands =
      let outer = both_true (((count_in operands == arity_of op)) && is_numbered l site (kind.Call op)) (are_straight l operands) straight in
      let inner = both_true (count_in operands == arity_of op) (is_numbered l site (kind.Call op)) outer.0 in
      let count : count_in operands ≡ arity_of op = eqb-true (count_in operands) (arity_of op) inner.0 in
      let depth = length values in
      let takes = (row_of op).takes in
      let xs = operands_code here.objects l takes operands depth in
      let zs = site_code l depth (arity_of op) site (kind.Call op) in
      let place = k + length (xs ++ zs) in
      let whole : k + length xs + length zs ≡ place = omega (arith, length-append xs zs) in
      let late : lag + weights_of operands + weight ≡ lag + (weights_of operands + weight) = omega arith in
      let after = Valued code turns l laid here called scalars place (lag + (weights_of operands + weight)) values (Operate site (kind.Call op) operands weight) in
      subst (λ run. Does code turns (At k lag values) run after) (sym (call_is op site weight operands))
      (in_turn code turns (At k lag values) (gathered [] (map (λ (part : NodeMeaning). part.argument) (node_meanings here called operands)))
      (AreGiven (k + length xs) (lag + weights_of operands) values [] takes (count_in operands)) (λ givens. operated_with weight site op (operands_of op givens)) after
      (does k lag values [] takes outer.1 (omega arith) (first_stands code k xs zs stands))
      (λ givens s m g.
      let args = placed takes g.numbers in
      let long : length args ≡ arity_of op = placed_long takes g.numbers ∙ g.counted ∙ count in
      let few = arity_few op in
      let numbers : length g.numbers ≡ arity_of op = g.counted ∙ count in
      let same : operands_of op givens ≡ args = ap (operands_of op) g.are ∙ operands_placed op g.numbers few numbers in
      let standing : StandHere code (k + length xs) (site_code l depth (length args) site (kind.Call op)) = subst (λ n. StandHere code (k + length xs) (site_code l depth n site (kind.Call op))) (sym long) (second_stands code k xs zs stands) in
      let most = heights_count operands in
      let there : k + length xs + length (site_code l depth (length args) site (kind.Call op)) ≡ place = ap (λ n. k + length xs + length (site_code l depth n site (kind.Call op))) long ∙ whole in
      subst (λ list. Comes code turns (Running m) s.sites (λ v. 0) after (operated_with weight site op list s)) (sym same)
      (comes_as code turns l laid here called scalars (Running m) s.sites _ after (operated_with weight site op args s)
      (λ v t n done. (
        subst (λ g. IsWith here.objects l place g (values ++ v ∷ []) t n) late (subst (λ p. IsWith here.objects l p (lag + weights_of operands + weight) (values ++ v ∷ []) t n) there done.0),
        sixteen_by code turns l laid here called scalars (row_of op).gives v done.1,
      ))
      (op_done code turns here.objects l laid (k + length xs) (lag + weights_of operands) values args op site weight s m long (omega (arith, long, few)) (placed_fit takes g.numbers numbers g.fit)
      (omega (arith, long, count, most)) (omega arith) (subst (IsTold code (kind.Call op) Flag site depth) (sym long) (told code l laid (kind.Call op) site depth refl inner.1)) standing g.on_stack))))
