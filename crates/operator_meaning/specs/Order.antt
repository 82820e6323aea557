-- The order of the operators.
use Rattle.std.specs.Prelude.{◌≡◌, ℕ, Some, slice_get}
use Rattle.operator_meaning.specs.declared.operator.Op.{Op}
use Rattle.operator_meaning.specs.declared.operator.Op.TheVariants.{Add, Sub, AbsS, Shl, Shr, ExtractH, ExtractL, Mult, LMult, Negate, Round, LMac, LMsu, MacR, MsuR, LAdd, LSub, LNegate, MultR, LShl, LShr, ShrR, LShrR, LAbs, LDepositH, LDepositL, NormS, NormL, DivS}
use Rattle.operator_meaning.specs.declared.operator.TheConstants.{OPERATORS}

-- the operator's place in the table, from 0
abbrev pub place_of : Op → ℕ
place_of Add = 0
place_of Sub = 1
place_of AbsS = 2
place_of Shl = 3
place_of Shr = 4
place_of ExtractH = 5
place_of ExtractL = 6
place_of Mult = 7
place_of LMult = 8
place_of Negate = 9
place_of Round = 10
place_of LMac = 11
place_of LMsu = 12
place_of MacR = 13
place_of MsuR = 14
place_of LAdd = 15
place_of LSub = 16
place_of LNegate = 17
place_of MultR = 18
place_of LShl = 19
place_of LShr = 20
place_of ShrR = 21
place_of LShrR = 22
place_of LAbs = 23
place_of LDepositH = 24
place_of LDepositL = 25
place_of NormS = 26
place_of NormL = 27
place_of DivS = 28

-- the list of all operators has each of them at its place
abbrev pub OrderIsOne : Type 0
OrderIsOne = (op : Op) → slice_get OPERATORS (place_of op) ≡ Some op
