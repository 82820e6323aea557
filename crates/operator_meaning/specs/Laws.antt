-- What follows from the table and the lines of the operators alone.
use Rattle.std.specs.Prelude.{◌≡◌, ◌≢◌, ℕ, suc, ◌^◌, ◌⊎◌, ℤ, pos, negsuc, ◌+ℤ◌, ◌-ℤ◌, ◌*ℤ◌, ◌≤ℤ◌, FitsSigned, List, [], ◌∷◌, Some, false}
use Rattle.std.proofs.Math.IntN.{neg_ℤ}
use Rattle.std.specs.Int.{w16, w32}
use Rattle.operator_meaning.specs.Clipping.{clips_of}
use Rattle.operator_meaning.specs.Table.{row_of, IsNameOf, FitsWidth, AreOperands}
use Rattle.operator_meaning.specs.Value.{floor, product_of, value_of}
use Rattle.operator_meaning.specs.declared.operator.Op.{Op}
use Rattle.operator_meaning.specs.declared.operator.Op.TheVariants.{Shl, Shr, LMac, LMsu, LShl, LShr, ShrR, LShrR, NormS, NormL}

-- a text is the name of at most one operator
abbrev pub NamesAreDistinct : Type 0
NamesAreDistinct = (text : List ℕ) (p q : Op) → IsNameOf text p → IsNameOf text q → p ≡ q

-- a value lies in the width of the result
abbrev pub ValuesFit : Type 0
ValuesFit = (op : Op) (args : List ℤ) (x : ℤ) → AreOperands op args → value_of op args ≡ Some x → FitsWidth (row_of op).gives x

-- a shift by a negative count is the other shift by its opposite
abbrev pub CountsTurn : Type 0
CountsTurn = (x count : ℤ) →
    (value_of Shl (x ∷ neg_ℤ count ∷ []) ≡ value_of Shr (x ∷ count ∷ []))
    × (value_of Shr (x ∷ neg_ℤ count ∷ []) ≡ value_of Shl (x ∷ count ∷ []))
    × (value_of LShl (x ∷ neg_ℤ count ∷ []) ≡ value_of LShr (x ∷ count ∷ []))
    × (value_of LShr (x ∷ neg_ℤ count ∷ []) ≡ value_of LShl (x ∷ count ∷ []))

-- `shr_r` and `L_shr_r` by n + 1 shift by n, add 1, and shift by 1
abbrev pub ShiftsRound : Type 0
ShiftsRound = (x : ℤ) (n : ℕ) →
    (value_of ShrR (x ∷ pos (suc n) ∷ []) ≡ Some (floor (floor x (2 ^ n) +ℤ pos 1) 2))
    × (value_of LShrR (x ∷ pos (suc n) ∷ []) ≡ Some (floor (floor x (2 ^ n) +ℤ pos 1) 2))

-- where no clip changes a number, `L_mac` adds twice the product and `L_msu` subtracts it
abbrev pub SignsDiffer : Type 0
SignsDiffer = (x a b : ℤ) →
    (clips_of LMac (x ∷ a ∷ b ∷ []) ≡ false → value_of LMac (x ∷ a ∷ b ∷ []) ≡ Some (x +ℤ product_of a b))
    × (clips_of LMsu (x ∷ a ∷ b ∷ []) ≡ false → value_of LMsu (x ∷ a ∷ b ∷ []) ≡ Some (x -ℤ product_of a b))

-- from the first number to the second
abbrev pub IsWithin : ℤ → ℤ → ℤ → Type 0
IsWithin low high x = (low ≤ℤ x) × (x ≤ℤ high)

-- a number that is not 0, shifted to the left by its norm, has its highest bit beside the sign
abbrev pub NormsReach : Type 0
NormsReach = (x : ℤ) → x ≢ pos 0 →
    (FitsSigned w16 x →
    (n : ℕ) × (value_of NormS (x ∷ []) ≡ Some (pos n))
    × (IsWithin (pos 16384) (pos 32767) (x *ℤ pos (2 ^ n)) ⊎ IsWithin (negsuc 32767) (negsuc 16384) (x *ℤ pos (2 ^ n))))
    × (FitsSigned w32 x →
    (n : ℕ) × (value_of NormL (x ∷ []) ≡ Some (pos n))
    × (IsWithin (pos 1073741824) (pos 2147483647) (x *ℤ pos (2 ^ n)) ⊎ IsWithin (negsuc 2147483647) (negsuc 1073741824) (x *ℤ pos (2 ^ n))))
