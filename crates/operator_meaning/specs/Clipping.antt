-- Where a clip inside an operator changes its number, and where the operator sets Overflow (ITU-T G.191,
-- Software Tool Library manual, basic operators).
use Rattle.std.specs.Prelude.{suc, ◌^◌, ℤ, pos, negsuc, ◌+ℤ◌, ◌-ℤ◌, ◌*ℤ◌, unsigned_abs, Bool, false, not, ◌&&◌, ◌||◌, IsTrue, List, [], ◌∷◌}
use Rattle.std.proofs.Math.IntN.{neg_ℤ}
use Rattle.std.specs.Ordering.{int_eq}
use Rattle.sat_base.specs.Clip.{clip16, clip32}
use Rattle.operator_meaning.specs.Table.{row_of}
use Rattle.operator_meaning.specs.Value.{floor, product_of, accumulated, reduced}
use Rattle.operator_meaning.specs.declared.operator.Op.{Op}
use Rattle.operator_meaning.specs.declared.operator.Op.TheVariants.{Add, Sub, AbsS, Shl, Shr, Mult, LMult, Negate, Round, LMac, LMsu, MacR, MsuR, LAdd, LSub, LNegate, MultR, LShl, LShr, ShrR, LShrR, LAbs}

abbrev pub changes16 : ℤ → Bool
changes16 x = not (int_eq (clip16 x) x)

abbrev pub changes32 : ℤ → Bool
changes32 x = not (int_eq (clip32 x) x)

-- whether the clip of a shift to the left changes its number; a shift to the right has no clip
abbrev pub shift_clips : (ℤ → Bool) → ℤ → ℤ → Bool
shift_clips changes x (pos n) = changes (x *ℤ pos (2 ^ n))
shift_clips changes x (negsuc n) = false

abbrev pub shift_back_clips : (ℤ → Bool) → ℤ → ℤ → Bool
shift_back_clips changes x (pos (suc n)) = false
shift_back_clips changes x count = shift_clips changes x (neg_ℤ count)

abbrev pub rounding_clips : ℤ → Bool
rounding_clips x = changes32 (x +ℤ pos 32768)

-- either of the two clips
abbrev pub accumulation_clips : ℤ → ℤ → ℤ → Bool
accumulation_clips x a b = changes32 (product_of a b) || changes32 (x +ℤ clip32 (product_of a b))

abbrev pub reduction_clips : ℤ → ℤ → ℤ → Bool
reduction_clips x a b = changes32 (product_of a b) || changes32 (x -ℤ clip32 (product_of a b))

-- whether some clip in the line of `value_of` changes its number
abbrev pub clips_of : Op → List ℤ → Bool
clips_of Add (a ∷ b ∷ []) = changes16 (a +ℤ b)
clips_of Sub (a ∷ b ∷ []) = changes16 (a -ℤ b)
clips_of AbsS (a ∷ []) = changes16 (pos (unsigned_abs a))
clips_of Shl (v ∷ c ∷ []) = shift_clips changes16 v c
clips_of Shr (v ∷ c ∷ []) = shift_clips changes16 v (neg_ℤ c)
clips_of Mult (a ∷ b ∷ []) = changes16 (floor (a *ℤ b) (2 ^ 15))
clips_of LMult (a ∷ b ∷ []) = changes32 (product_of a b)
clips_of Negate (a ∷ []) = changes16 (neg_ℤ a)
clips_of Round (x ∷ []) = rounding_clips x
clips_of LMac (x ∷ a ∷ b ∷ []) = accumulation_clips x a b
clips_of LMsu (x ∷ a ∷ b ∷ []) = reduction_clips x a b
clips_of MacR (x ∷ a ∷ b ∷ []) = accumulation_clips x a b || rounding_clips (accumulated x a b)
clips_of MsuR (x ∷ a ∷ b ∷ []) = reduction_clips x a b || rounding_clips (reduced x a b)
clips_of LAdd (x ∷ y ∷ []) = changes32 (x +ℤ y)
clips_of LSub (x ∷ y ∷ []) = changes32 (x -ℤ y)
clips_of LNegate (x ∷ []) = changes32 (neg_ℤ x)
clips_of MultR (a ∷ b ∷ []) = changes16 (floor (a *ℤ b +ℤ pos (2 ^ 14)) (2 ^ 15))
clips_of LShl (x ∷ c ∷ []) = shift_clips changes32 x c
clips_of LShr (x ∷ c ∷ []) = shift_clips changes32 x (neg_ℤ c)
clips_of ShrR (v ∷ c ∷ []) = shift_back_clips changes16 v c
clips_of LShrR (x ∷ c ∷ []) = shift_back_clips changes32 x c
clips_of LAbs (x ∷ []) = changes32 (pos (unsigned_abs x))
clips_of op args = false

-- whether the operator sets Overflow: some clip changes a number, and the table does not say never
abbrev pub raises_of : Op → List ℤ → Bool
raises_of op args = (row_of op).sets && clips_of op args

abbrev pub Clips : Op → List ℤ → Type 0
Clips op args = IsTrue (clips_of op args)

abbrev pub Raises : Op → List ℤ → Type 0
Raises op args = IsTrue (raises_of op args)
