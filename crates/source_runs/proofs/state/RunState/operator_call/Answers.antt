use Rattle.std.proofs.Common.{◌≡◌, ◌∷◌, [], sym, ap, ◌∙◌, subst, to_z, of_z, w32}
use Rattle.std.proofs.lemmas.Int.{to_z-of_z}
use Rattle.std.specs.Prelude.{List, ℕ, ℤ}
use Rattle.sat_base.specs.declared.width.Width.{Width}
use Rattle.operator_meaning.specs.Table.{row_of, width_at, FitsWidth}
use Rattle.source_runs.specs.Calls.{operated, operator_call}
use Rattle.source_runs.specs.Follows.{Follows}
use Rattle.source_runs.proofs.Operators.{arity_three, operands-one, operands-two, operands-three, fits_32}
use Rattle.source_runs.proofs.state.RunState.operator_call.Goals as goal

read_back : (x y : ℤ) (widths : List Width) (place : ℕ) → FitsWidth (width_at widths place) x → x ≡ y → to_z w32 (of_z w32 x) ≡ y
read_back x y widths place fits is = to_z-of_z w32 x (fits_32 (width_at widths place) x fits) ∙ is

two_same : (a b x y : ℤ) → a ≡ x → b ≡ y → a ∷ b ∷ [] ≡ x ∷ y ∷ []
two_same a b x y first second = cc

three_same : (a b c x y z : ℤ) → a ≡ x → b ≡ y → c ≡ z → a ∷ b ∷ c ∷ [] ≡ x ∷ y ∷ z ∷ []
three_same a b c x y z first second third = cc

pub returns-then-count-eq1 : goal.returns-then-count-eq1
unfolding operator_call
returns-then-count-eq1 c =
    let first = read_back _ _ (row_of c.args.op).takes 0 c.operand.ensures.fits c.operand.ensures.value in
    let whole = ap (λ (x : ℤ). x ∷ []) first ∙ sym (operands-one c.args.op c.args.givens.now (sym c.arity-count.ensures ∙ c.if-count-eq1.true)) in
    subst (λ (args : List ℤ). Follows (operated c.args.table c.args.site c.args.op args) c.operated.result c.args.self.now c.operated.new.self) whole c.operated.ensures

pub returns-then-count-eq2 : goal.returns-then-count-eq2
unfolding operator_call
returns-then-count-eq2 c =
    let first = read_back _ _ (row_of c.args.op).takes 0 c.operand-then-count-eq2.ensures.fits c.operand-then-count-eq2.ensures.value in
    let second = read_back _ _ (row_of c.args.op).takes 1 c.operand-then-count-eq2-2.ensures.fits c.operand-then-count-eq2-2.ensures.value in
    let whole = two_same _ _ _ _ first second ∙ sym (operands-two c.args.op c.args.givens.now (sym c.arity-count.ensures ∙ c.if-count-eq2.true)) in
    subst (λ (args : List ℤ). Follows (operated c.args.table c.args.site c.args.op args) c.operated-then-count-eq2.result c.args.self.now c.operated-then-count-eq2.new.self) whole c.operated-then-count-eq2.ensures

pub returns : goal.returns
unfolding operator_call
returns c =
    let first = read_back _ _ (row_of c.args.op).takes 0 c.operand-2.ensures.fits c.operand-2.ensures.value in
    let second = read_back _ _ (row_of c.args.op).takes 1 c.operand-3.ensures.fits c.operand-3.ensures.value in
    let third = read_back _ _ (row_of c.args.op).takes 2 c.operand-4.ensures.fits c.operand-4.ensures.value in
    let count = arity_three c.args.op (λ e. c.if-count-eq1.false (c.arity-count.ensures ∙ e)) (λ e. c.if-count-eq2.false (c.arity-count.ensures ∙ e)) in
    let whole = three_same _ _ _ _ _ _ first second third ∙ sym (operands-three c.args.op c.args.givens.now count) in
    subst (λ (args : List ℤ). Follows (operated c.args.table c.args.site c.args.op args) c.operated-2.result c.args.self.now c.operated-2.new.self) whole c.operated-2.ensures
