-- The table of the operators: names, and widths of operands and results (ITU-T G.191, Software Tool Library
-- manual, basic operators).
use Rattle.std.specs.Prelude.{◌≡◌, ℕ, ◌⊎◌, ℤ, FitsSigned, List, [], ◌∷◌, Bool, true, false, length, codes, get_or}
use Rattle.std.specs.Int.{w16, w32}
use Rattle.sat_base.specs.declared.width.Width.{Width}
use Rattle.sat_base.specs.declared.width.Width.TheVariants.{W16, W32}
use Rattle.operator_meaning.specs.declared.operator.Op.{Op}
use Rattle.operator_meaning.specs.declared.operator.Op.TheVariants.{Add, Sub, AbsS, Shl, Shr, ExtractH, ExtractL, Mult, LMult, Negate, Round, LMac, LMsu, MacR, MsuR, LAdd, LSub, LNegate, MultR, LShl, LShr, ShrR, LShrR, LAbs, LDepositH, LDepositL, NormS, NormL, DivS}

-- a name, the widths of the operands and of the result, and whether Overflow is set where a clip changes a number
pub record Row : Type 0 where
  pub name : List ℕ
  pub takes : List Width
  pub gives : Width
  pub sets : Bool

abbrev row : List ℕ → List Width → Width → Bool → Row
row name takes gives sets = record { name = name; takes = takes; gives = gives; sets = sets }

abbrev pub row_of : Op → Row
row_of Add = row (codes "add") (W16 ∷ W16 ∷ []) W16 true
row_of Sub = row (codes "sub") (W16 ∷ W16 ∷ []) W16 true
row_of AbsS = row (codes "abs_s") (W16 ∷ []) W16 false
row_of Shl = row (codes "shl") (W16 ∷ W16 ∷ []) W16 true
row_of Shr = row (codes "shr") (W16 ∷ W16 ∷ []) W16 true
row_of ExtractH = row (codes "extract_h") (W32 ∷ []) W16 false
row_of ExtractL = row (codes "extract_l") (W32 ∷ []) W16 false
row_of Mult = row (codes "mult") (W16 ∷ W16 ∷ []) W16 true
row_of LMult = row (codes "L_mult") (W16 ∷ W16 ∷ []) W32 true
row_of Negate = row (codes "negate") (W16 ∷ []) W16 false
row_of Round = row (codes "round") (W32 ∷ []) W16 true
row_of LMac = row (codes "L_mac") (W32 ∷ W16 ∷ W16 ∷ []) W32 true
row_of LMsu = row (codes "L_msu") (W32 ∷ W16 ∷ W16 ∷ []) W32 true
row_of MacR = row (codes "mac_r") (W32 ∷ W16 ∷ W16 ∷ []) W16 true
row_of MsuR = row (codes "msu_r") (W32 ∷ W16 ∷ W16 ∷ []) W16 true
row_of LAdd = row (codes "L_add") (W32 ∷ W32 ∷ []) W32 true
row_of LSub = row (codes "L_sub") (W32 ∷ W32 ∷ []) W32 true
row_of LNegate = row (codes "L_negate") (W32 ∷ []) W32 false
row_of MultR = row (codes "mult_r") (W16 ∷ W16 ∷ []) W16 true
row_of LShl = row (codes "L_shl") (W32 ∷ W16 ∷ []) W32 true
row_of LShr = row (codes "L_shr") (W32 ∷ W16 ∷ []) W32 true
row_of ShrR = row (codes "shr_r") (W16 ∷ W16 ∷ []) W16 true
row_of LShrR = row (codes "L_shr_r") (W32 ∷ W16 ∷ []) W32 true
row_of LAbs = row (codes "L_abs") (W32 ∷ []) W32 false
row_of LDepositH = row (codes "L_deposit_h") (W16 ∷ []) W32 false
row_of LDepositL = row (codes "L_deposit_l") (W16 ∷ []) W32 false
row_of NormS = row (codes "norm_s") (W16 ∷ []) W16 false
row_of NormL = row (codes "norm_l") (W32 ∷ []) W16 false
row_of DivS = row (codes "div_s") (W16 ∷ W16 ∷ []) W16 false

-- how many operands it takes
abbrev pub arity_of : Op → ℕ
arity_of op = length (row_of op).takes

-- the text is the operator's name; `round` has the name `round_fx` besides
abbrev pub IsNameOf : List ℕ → Op → Type 0
IsNameOf text op = (text ≡ (row_of op).name) ⊎ ((text ≡ codes "round_fx") × (op ≡ Round))

-- the text is no operator's name
abbrev pub IsNoName : List ℕ → Type 0
IsNoName text = (op : Op) → IsNameOf text op → ⊥

-- the width at this place, where there is one
abbrev pub width_at : List Width → ℕ → Width
width_at widths place = get_or widths place W32

-- the number lies in the signed range of the width
abbrev pub FitsWidth : Width → ℤ → Type 0
FitsWidth W16 x = FitsSigned w16 x
FitsWidth W32 x = FitsSigned w32 x

-- as many numbers as widths, each in the range of its width
abbrev pub FitWidths : List Width → List ℤ → Type 0
FitWidths [] [] = Unit {0}
FitWidths (width ∷ widths) (x ∷ xs) = FitsWidth width x × FitWidths widths xs
FitWidths widths xs = ⊥

-- the numbers can be the operands of the operator
abbrev pub AreOperands : Op → List ℤ → Type 0
AreOperands op args = FitWidths (row_of op).takes args
