-- The operands of operators, by how many there are.
use Rattle.std.proofs.Common.{arith, ◌≡◌, ◌≢◌, ◌∷◌, [], List, Bool, true, false, IsTrue, refl, sym, ap, map}
use Rattle.std.specs.Prelude.{ℤ, ◌↔◌, FitsSigned}
use Rattle.std.specs.List.{range_with_len}
use Rattle.std.specs.Int.{w32}
use Rattle.sat_base.specs.declared.width.Width.{Width}
use Rattle.sat_base.specs.declared.width.Width.TheVariants.{W16, W32}
use Rattle.operator_meaning.specs.declared.operator.Op.{Op}
use Rattle.operator_meaning.specs.declared.operator.Op.TheVariants.{Add, Sub, AbsS, Shl, Shr, ExtractH, ExtractL, Mult, LMult, Negate, Round, LMac, LMsu, MacR, MsuR, LAdd, LSub, LNegate, MultR, LShl, LShr, ShrR, LShrR, LAbs, LDepositH, LDepositL, NormS, NormL, DivS}
use Rattle.operator_meaning.specs.Table.{row_of, arity_of, FitsWidth}
use Rattle.source_runs.specs.declared.location.Given.{Given}
use Rattle.source_runs.specs.Calls.{operand_at, operands_of}

pub arity_three : (op : Op) → arity_of op ≢ 1 → arity_of op ≢ 2 → arity_of op ≡ 3
arity_three Add one two = absurd (two refl)
arity_three Sub one two = absurd (two refl)
arity_three AbsS one two = absurd (one refl)
arity_three Shl one two = absurd (two refl)
arity_three Shr one two = absurd (two refl)
arity_three ExtractH one two = absurd (one refl)
arity_three ExtractL one two = absurd (one refl)
arity_three Mult one two = absurd (two refl)
arity_three LMult one two = absurd (two refl)
arity_three Negate one two = absurd (one refl)
arity_three Round one two = absurd (one refl)
arity_three LMac one two = refl
arity_three LMsu one two = refl
arity_three MacR one two = refl
arity_three MsuR one two = refl
arity_three LAdd one two = absurd (two refl)
arity_three LSub one two = absurd (two refl)
arity_three LNegate one two = absurd (one refl)
arity_three MultR one two = absurd (two refl)
arity_three LShl one two = absurd (two refl)
arity_three LShr one two = absurd (two refl)
arity_three ShrR one two = absurd (two refl)
arity_three LShrR one two = absurd (two refl)
arity_three LAbs one two = absurd (one refl)
arity_three LDepositH one two = absurd (one refl)
arity_three LDepositL one two = absurd (one refl)
arity_three NormS one two = absurd (one refl)
arity_three NormL one two = absurd (one refl)
arity_three DivS one two = absurd (two refl)

pub operands-one : (op : Op) (givens : List Given) → arity_of op ≡ 1 → operands_of op givens ≡ operand_at (row_of op).takes 0 givens ∷ []
operands-one op givens is = ap (λ n. map (λ place. operand_at (row_of op).takes place givens) (range_with_len 0 n)) is

pub operands-two : (op : Op) (givens : List Given) → arity_of op ≡ 2 → operands_of op givens ≡ operand_at (row_of op).takes 0 givens ∷ operand_at (row_of op).takes 1 givens ∷ []
operands-two op givens is = ap (λ n. map (λ place. operand_at (row_of op).takes place givens) (range_with_len 0 n)) is

pub operands-three : (op : Op) (givens : List Given) → arity_of op ≡ 3
    → operands_of op givens ≡ operand_at (row_of op).takes 0 givens ∷ operand_at (row_of op).takes 1 givens ∷ operand_at (row_of op).takes 2 givens ∷ []
operands-three op givens is = ap (λ n. map (λ place. operand_at (row_of op).takes place givens) (range_with_len 0 n)) is

-- a number of a width has 32 bits
pub fits_32 : (width : Width) (x : ℤ) → FitsWidth width x → FitsSigned w32 x
fits_32 W16 x h = grind arith
fits_32 W32 x h = h

pub same_test : (a b : Bool) → (IsTrue a ↔ IsTrue b) → a ≡ b
same_test true true h = refl
same_test true false h = sym (h.0 refl)
same_test false true h = h.1 refl
same_test false false h = refl
