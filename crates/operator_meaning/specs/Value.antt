-- The values of the operators, over whole numbers without width (ITU-T G.191, Software Tool Library manual,
-- basic operators).
use Rattle.std.specs.Prelude.{ℕ, zero, suc, ◌+◌, ◌*◌, ◌^◌, ◌==◌, leb, ◌&&◌, ℤ, pos, negsuc, ◌+ℤ◌, ◌-ℤ◌, ◌*ℤ◌, ◌≤ℤ◌, ◌<ℤ◌, unsigned_abs, Bool, if◌then◌else◌, List, [], ◌∷◌, Option, Some, None}
use Rattle.std.proofs.Math.IntN.{neg_ℤ}
use Rattle.std.specs.Int.{int_div_euclid}
use Rattle.sat_base.specs.Clip.{clip16, clip32, low16}
use Rattle.operator_meaning.specs.declared.operator.Op.{Op}
use Rattle.operator_meaning.specs.declared.operator.Op.TheVariants.{Add, Sub, AbsS, Shl, Shr, ExtractH, ExtractL, Mult, LMult, Negate, Round, LMac, LMsu, MacR, MsuR, LAdd, LSub, LNegate, MultR, LShl, LShr, ShrR, LShrR, LAbs, LDepositH, LDepositL, NormS, NormL, DivS}

-- the quotient by a number that is not 0, rounded toward minus infinity
abbrev pub floor : ℤ → ℕ → ℤ
floor x n = int_div_euclid x (pos n)

-- shifted to the left, with a clip; by a negative count, to the right
abbrev pub shifted : (ℤ → ℤ) → ℤ → ℤ → ℤ
shifted clip x (pos n) = clip (x *ℤ pos (2 ^ n))
shifted clip x (negsuc n) = floor x (2 ^ (n + 1))

-- shifted to the right and rounded to the nearest, half way up; by a count that is not positive, to the left
abbrev pub shifted_back : (ℤ → ℤ) → ℤ → ℤ → ℤ
shifted_back clip x (pos (suc n)) = floor (x +ℤ pos (2 ^ n)) (2 ^ (n + 1))
shifted_back clip x count = shifted clip x (neg_ℤ count)

-- twice the product
abbrev pub product_of : ℤ → ℤ → ℤ
product_of a b = pos 2 *ℤ (a *ℤ b)

-- the upper 16 bits of a number that is rounded to them
abbrev pub rounded : ℤ → ℤ
rounded x = floor (clip32 (x +ℤ pos 32768)) 65536

-- two clips, one after the other
abbrev pub accumulated : ℤ → ℤ → ℤ → ℤ
accumulated x a b = clip32 (x +ℤ clip32 (product_of a b))

abbrev pub reduced : ℤ → ℤ → ℤ → ℤ
reduced x a b = clip32 (x -ℤ clip32 (product_of a b))

-- the number lies from 2^k to 2^(k+1) - 1, or from -2^(k+1) to -2^k - 1
abbrev pub is_normal : ℕ → ℤ → Bool
is_normal k (pos n) = leb (2 ^ k) n && leb (n + 1) (2 ^ (k + 1))
is_normal k (negsuc n) = leb (2 ^ k + 1) (n + 1) && leb (n + 1) (2 ^ (k + 1))

-- the doublings, of at most `most`, after which the number first lies there
abbrev pub doublings : ℕ → ℕ → ℤ → ℕ
doublings k zero x = 0
doublings k (suc most) x = if is_normal k x then 0 else doublings k most (pos 2 *ℤ x) + 1

-- the shifts that bring the number there; 0 at 0, and k + 1 at -1
abbrev pub norm : ℕ → ℤ → ℤ
norm k (pos zero) = pos 0
norm k (negsuc zero) = pos (k + 1)
norm k x = pos (doublings k (k + 1) x)

-- a fraction of 15 bits, for 0 <= a <= b and b > 0
abbrev pub quotient : ℤ → ℤ → Option ℤ
quotient (pos a) (pos zero) = None
quotient (pos a) (pos b) =
    if leb (b + 1) a then None
    else if a == 0 then Some (pos 0)
    else if a == b then Some (pos 32767)
    else Some (floor (pos (32768 * a)) b)
quotient a b = None

-- The value of an operator. There is none where `div_s` is off its valid pairs, or the number of operands is wrong.
abbrev pub value_of : Op → List ℤ → Option ℤ
value_of Add (a ∷ b ∷ []) = Some (clip16 (a +ℤ b))
value_of Sub (a ∷ b ∷ []) = Some (clip16 (a -ℤ b))
value_of AbsS (a ∷ []) = Some (clip16 (pos (unsigned_abs a)))
value_of Shl (v ∷ c ∷ []) = Some (shifted clip16 v c)
value_of Shr (v ∷ c ∷ []) = Some (shifted clip16 v (neg_ℤ c))
value_of ExtractH (x ∷ []) = Some (floor x 65536)
value_of ExtractL (x ∷ []) = Some (low16 x)
value_of Mult (a ∷ b ∷ []) = Some (clip16 (floor (a *ℤ b) (2 ^ 15)))
value_of LMult (a ∷ b ∷ []) = Some (clip32 (product_of a b))
value_of Negate (a ∷ []) = Some (clip16 (neg_ℤ a))
value_of Round (x ∷ []) = Some (rounded x)
value_of LMac (x ∷ a ∷ b ∷ []) = Some (accumulated x a b)
value_of LMsu (x ∷ a ∷ b ∷ []) = Some (reduced x a b)
value_of MacR (x ∷ a ∷ b ∷ []) = Some (rounded (accumulated x a b))
value_of MsuR (x ∷ a ∷ b ∷ []) = Some (rounded (reduced x a b))
value_of LAdd (x ∷ y ∷ []) = Some (clip32 (x +ℤ y))
value_of LSub (x ∷ y ∷ []) = Some (clip32 (x -ℤ y))
value_of LNegate (x ∷ []) = Some (clip32 (neg_ℤ x))
value_of MultR (a ∷ b ∷ []) = Some (clip16 (floor (a *ℤ b +ℤ pos (2 ^ 14)) (2 ^ 15)))
value_of LShl (x ∷ c ∷ []) = Some (shifted clip32 x c)
value_of LShr (x ∷ c ∷ []) = Some (shifted clip32 x (neg_ℤ c))
value_of ShrR (v ∷ c ∷ []) = Some (shifted_back clip16 v c)
value_of LShrR (x ∷ c ∷ []) = Some (shifted_back clip32 x c)
value_of LAbs (x ∷ []) = Some (clip32 (pos (unsigned_abs x)))
value_of LDepositH (a ∷ []) = Some (pos 65536 *ℤ a)
value_of LDepositL (a ∷ []) = Some a
value_of NormS (a ∷ []) = Some (norm 14 a)
value_of NormL (x ∷ []) = Some (norm 30 x)
value_of DivS (a ∷ b ∷ []) = quotient a b
value_of op args = None

-- there is no value: `div_s` is off its valid pairs
abbrev pub IsInvalid : Op → List ℤ → Type 0
IsInvalid DivS (a ∷ b ∷ []) = (pos 0 ≤ℤ a) × (a ≤ℤ b) × (pos 0 <ℤ b) → ⊥
IsInvalid op args = ⊥
