-- The code of an expression does what the expression does.
use Rattle.std.proofs.Common.{◌≡◌, ℕ, ◌+◌, ◌+ℤ◌, ◌-ℤ◌, ◌*ℤ◌, true, false, ◌==◌, refl, arith}
use Rattle.std.specs.Prelude.{FitsSigned, neg_ℤ}
use Rattle.std.specs.Int.{w16}
use Rattle.std.proofs.lemmas.Bool.Decides.{nat_tests}
use Rattle.c_tree.specs.declared.expression.BinaryMark.{BinaryMark}
use Rattle.c_tree.specs.declared.expression.BinaryMark.TheVariants as binary
use Rattle.operator_meaning.specs.declared.site.SiteKind.{SiteKind}
use Rattle.operator_meaning.specs.declared.site.SiteKind.TheVariants as kind
use Rattle.source_runs.specs.Marks.{unary_meaning, binary_meaning, both_meaning}
use Rattle.typed_meaning.specs.Expressions.{Setting, Called}
use Rattle.ir_arena.specs.Tree.{IrTree, IrTrees, Constant, Read, Operate, Convert, Not, Invert, Binary, Choose, ReadFlag, Variable, end, more}
use Rattle.tree_meaning.specs.Parts.{operate_meaning}
use Rattle.code_stacks.specs.Places.{Layout, IsLaidOut}
use Rattle.expression_code.specs.Laws.{AreScalars}
use Rattle.expression_code.specs.Straight.{is_straight, are_straight, count_in, is_numbered}
use Rattle.expression_code.proofs.Leaves.{both_true, DoesExpression, constant_does, flag_does, variable_does, convert_does, not_does, invert_does}
use Rattle.expression_code.proofs.Choices.{both_does, either_does, choose_does}
use Rattle.expression_code.proofs.Pairs.{binary_does}
use Rattle.expression_code.proofs.Calls.{DoesOperands, no_operands, some_operands, call_does}
use Rattle.expression_code.proofs.Wordless.{told}
use Rattle.expression_code.proofs.Arithmetic.{two_plain, one_plain, sum_plain, difference_plain, product_plain, opposite_plain}
use Rattle.code_lines.specs.Words.{Code}

module _ (code : Code) (turns : ℕ) (l : Layout) (laid : IsLaidOut code l) (here : Setting) (called : Called) (scalars : AreScalars here.objects l) where
  -- ---- sites

  abbrev operate : SiteKind → (site weight : ℕ) → IrTrees → IrTree
  operate kind site weight operands = Operate site kind operands weight

  sum_does : (site weight : ℕ) (left right : IrTree) → DoesExpression code turns l laid here called scalars left → DoesExpression code turns l laid here called scalars right → DoesExpression code turns l laid here called scalars (operate kind.Sum site weight (more left (more right end)))
  unfolding operate_meaning binary_meaning both_meaning
  sum_does site weight left right does does_right k lag values straight room stands =
      let parts = both_true (is_numbered l site kind.Sum) (are_straight l (more left (more right end))) straight in
      two_plain code turns l laid here called scalars kind.Sum site left right does does_right (λ x y. x +ℤ y) (sum_plain code turns l laid here called scalars) (λ depth. told code l laid kind.Sum site depth refl parts.0) k lag values (λ y. false ≡ true → FitsSigned w16 y) (λ y e. cc) parts.1 (omega arith) stands

  difference_does : (site weight : ℕ) (left right : IrTree) → DoesExpression code turns l laid here called scalars left → DoesExpression code turns l laid here called scalars right → DoesExpression code turns l laid here called scalars (operate kind.Difference site weight (more left (more right end)))
  unfolding operate_meaning binary_meaning both_meaning
  difference_does site weight left right does does_right k lag values straight room stands =
      let parts = both_true (is_numbered l site kind.Difference) (are_straight l (more left (more right end))) straight in
      two_plain code turns l laid here called scalars kind.Difference site left right does does_right (λ x y. x -ℤ y) (difference_plain code turns l laid here called scalars) (λ depth. told code l laid kind.Difference site depth refl parts.0) k lag values (λ y. false ≡ true → FitsSigned w16 y) (λ y e. cc) parts.1 (omega arith) stands

  product_does : (site weight : ℕ) (left right : IrTree) → DoesExpression code turns l laid here called scalars left → DoesExpression code turns l laid here called scalars right → DoesExpression code turns l laid here called scalars (operate kind.Product site weight (more left (more right end)))
  unfolding operate_meaning binary_meaning both_meaning
  product_does site weight left right does does_right k lag values straight room stands =
      let parts = both_true (is_numbered l site kind.Product) (are_straight l (more left (more right end))) straight in
      two_plain code turns l laid here called scalars kind.Product site left right does does_right (λ x y. x *ℤ y) (product_plain code turns l laid here called scalars) (λ depth. told code l laid kind.Product site depth refl parts.0) k lag values (λ y. false ≡ true → FitsSigned w16 y) (λ y e. cc) parts.1 (omega arith) stands

  opposite_does : (site weight : ℕ) (part : IrTree) → DoesExpression code turns l laid here called scalars part → DoesExpression code turns l laid here called scalars (operate kind.Opposite site weight (more part end))
  unfolding operate_meaning unary_meaning
  opposite_does site weight part does k lag values straight room stands =
      let parts = both_true (is_numbered l site kind.Opposite) (are_straight l (more part end)) straight in
      one_plain code turns l laid here called scalars kind.Opposite site part does (λ x. neg_ℤ x) (opposite_plain code turns l laid here called scalars) (λ depth. told code l laid kind.Opposite site depth refl parts.0) k lag values (λ y. false ≡ true → FitsSigned w16 y) (λ y e. cc) parts.1 (omega arith) stands

  -- ---- the whole

  never : (e : IrTree) → is_straight l e ≡ false → DoesExpression code turns l laid here called scalars e
  never e other k lag values straight room stands = absurd (let f = straight in let g = other in cc)

  marked_does : (left right : IrTree) → DoesExpression code turns l laid here called scalars left → DoesExpression code turns l laid here called scalars right → (mark : BinaryMark)
      → DoesExpression code turns l laid here called scalars (Binary mark left right)
  marked_does left right does does_right binary.Both = both_does code turns l laid here called scalars left right does does_right
  marked_does left right does does_right binary.Either = either_does code turns l laid here called scalars left right does does_right
  marked_does left right does does_right mark = binary_does code turns l laid here called scalars left right does does_right mark

  above_two : (count : ℕ) → ((count + 1 + 1 + 1) == 2) ≡ false
  above_two count = grind (arith, nat_tests)

  above_one : (count : ℕ) → ((count + 1 + 1) == 1) ≡ false
  above_one count = grind (arith, nat_tests)

  mutual
    pub expression_does : (e : IrTree) → DoesExpression code turns l laid here called scalars e
    expression_does (Constant value) = constant_does code turns l laid here called scalars value
    expression_does (Read (Variable n)) = variable_does code turns l laid here called scalars n
    expression_does (Operate site (kind.Call op) operands weight) = call_does code turns l laid here called scalars op site weight operands (operands_do operands)
    expression_does (Operate site kind.Sum (more left (more right end)) weight) = sum_does site weight left right (expression_does left) (expression_does right)
    expression_does (Operate site kind.Difference (more left (more right end)) weight) = difference_does site weight left right (expression_does left) (expression_does right)
    expression_does (Operate site kind.Product (more left (more right end)) weight) = product_does site weight left right (expression_does left) (expression_does right)
    expression_does (Operate site kind.Opposite (more part end) weight) = opposite_does site weight part (expression_does part)
    expression_does (Operate site kind.Sum (more left (more right (more first rest))) weight) = never (operate kind.Sum site weight (more left (more right (more first rest)))) (rw (above_two (count_in rest)) refl)
    expression_does (Operate site kind.Difference (more left (more right (more first rest))) weight) = never (operate kind.Difference site weight (more left (more right (more first rest)))) (rw (above_two (count_in rest)) refl)
    expression_does (Operate site kind.Product (more left (more right (more first rest))) weight) = never (operate kind.Product site weight (more left (more right (more first rest)))) (rw (above_two (count_in rest)) refl)
    expression_does (Operate site kind.Opposite (more left (more right rest)) weight) = never (operate kind.Opposite site weight (more left (more right rest))) (rw (above_one (count_in rest)) refl)
    expression_does (Convert cast width part) = convert_does code turns l laid here called scalars cast width part (expression_does part)
    expression_does (Not part) = not_does code turns l laid here called scalars part (expression_does part)
    expression_does (Invert part) = invert_does code turns l laid here called scalars part (expression_does part)
    expression_does (Binary mark left right) = marked_does left right (expression_does left) (expression_does right) mark
    expression_does (Choose cond this other) = choose_does code turns l laid here called scalars cond this other (expression_does cond) (expression_does this) (expression_does other)
    expression_does (ReadFlag word) = flag_does code turns l laid here called scalars word
    expression_does e = never e refl

    pub operands_do : (operands : IrTrees) → DoesOperands code turns l laid here called scalars operands
    operands_do end = no_operands code turns l laid here called scalars
    operands_do (more e rest) = some_operands code turns l laid here called scalars e rest (expression_does e) (operands_do rest)
