-- Where an operator clips on some operands of a box, it clips at a corner.
use Rattle.std.proofs.Common.{◌≡◌, ℕ, zero, suc, ◌^◌, ◌≤◌, ◌⊎◌, inl, inr, ℤ, pos, negsuc, ◌+ℤ◌, ◌-ℤ◌, ◌*ℤ◌, ◌≤ℤ◌, neg_ℤ, unsigned_abs, Bool, ◌||◌, IsTrue, subst, arith, pow_mono}
use Rattle.std.proofs.lemmas.Nat.{mul-le}
use Rattle.std.proofs.lemmas.Int.{ints, clamps, by_lt_z}
use Rattle.sat_base.specs.Clip.{clip32}
use Rattle.sat_base.specs.declared.width.Width.{Width}
use Rattle.sat_base.specs.declared.width.Width.TheVariants.{W16, W32}
use Rattle.operator_meaning.specs.Clipping.{changes16, changes32, shift_clips, shift_back_clips, accumulation_clips, reduction_clips, rounding_clips, Clips}
use Rattle.operator_meaning.specs.Table.{row_of}
use Rattle.operator_meaning.specs.Value.{floor, product_of}
use Rattle.operator_meaning.specs.declared.operator.Op.{Op}
use Rattle.operator_meaning.specs.declared.operator.Op.TheVariants.{Add, Sub, AbsS, Shl, Shr, ExtractH, ExtractL, Mult, LMult, Negate, Round, LMac, LMsu, MacR, MsuR, LAdd, LSub, LNegate, MultR, LShl, LShr, ShrR, LShrR, LAbs, LDepositH, LDepositL, NormS, NormL, DivS}
use Rattle.range_transfer.proofs.Reach.{ReachesEnd, ReachesEnds, one, two, three, by_steady, either, never}
use Rattle.range_transfer.proofs.Steady.{Steady, Rises, Falls, IsOuter, then_up, then_down, up_up, add_up, added_up, sub_up, subtracted_down, neg_down, clip32_up, twice_up, floor_up, times_up, times_steady, timed_steady, changes16_outer, changes32_outer, unclipped16, unclipped32}

c16 : (w : Width) (f : ℤ → ℤ) → Steady f → ReachesEnd w (λ (x : ℤ). IsTrue (changes16 (f x)))
c16 w f steady = by_steady w (λ (x : ℤ). IsTrue (changes16 x)) f changes16_outer steady

c32 : (w : Width) (f : ℤ → ℤ) → Steady f → ReachesEnd w (λ (x : ℤ). IsTrue (changes32 (f x)))
c32 w f steady = by_steady w (λ (x : ℤ). IsTrue (changes32 x)) f changes32_outer steady

constant : (w : Width) (b : Bool) → ReachesEnd w (λ (x : ℤ). IsTrue b)
constant w b lo x hi low high le le' h = inl h

-- ---- absolute values: the least number alone clips

abs16 : ReachesEnd W16 (λ (x : ℤ). IsTrue (changes16 (pos (unsigned_abs x))))
abs16 lo x hi low high le le' h =
    by_lt_z (negsuc 32767) x
    (λ more. absurd (unclipped16 (pos (unsigned_abs x)) h (omega (arith, ints, clamps, more, le', high))))
    (λ least. let e : x ≡ lo = omega (arith, ints, least, le, low) in inl (subst (λ (y : ℤ). IsTrue (changes16 (pos (unsigned_abs y)))) e h))

abs32 : ReachesEnd W32 (λ (x : ℤ). IsTrue (changes32 (pos (unsigned_abs x))))
abs32 lo x hi low high le le' h =
    by_lt_z (negsuc 2147483647) x
    (λ more. absurd (unclipped32 (pos (unsigned_abs x)) h (omega (arith, ints, clamps, more, le', high))))
    (λ least. let e : x ≡ lo = omega (arith, ints, least, le, low) in inl (subst (λ (y : ℤ). IsTrue (changes32 (pos (unsigned_abs y)))) e h))

-- ---- shifts: what clips goes on to clip when it is shifted further

abbrev Clip : Type 0
Clip = ℤ → Bool

abbrev IsClip : Clip → Type 0
IsClip changes = IsOuter (λ (x : ℤ). IsTrue (changes x)) × (IsTrue (changes (pos 0)) → ⊥)

is_clip16 : IsClip changes16
is_clip16 = (changes16_outer, λ h. cc)

is_clip32 : IsClip changes32
is_clip32 = (changes32_outer, λ h. cc)

not_zero : (changes : Clip) → IsClip changes → (y : ℤ) → IsTrue (changes (pos 0)) ⊎ IsTrue (changes y) → IsTrue (changes y)
not_zero changes clip y (inl h) = absurd (clip.1 h)
not_zero changes clip y (inr h) = h

further : (changes : Clip) → IsClip changes → (v : ℤ) (n m : ℕ) → n ≤ m → IsTrue (changes (v *ℤ pos (2 ^ n))) → IsTrue (changes (v *ℤ pos (2 ^ m)))
further changes clip (pos a) n m le h =
    let power : 2 ^ n ≤ 2 ^ m = pow_mono le in
    let more = mul-le a (2 ^ n) a (2 ^ m) (omega arith) power in
    not_zero changes clip (pos a *ℤ pos (2 ^ m)) (clip.0 (pos 0) (pos a *ℤ pos (2 ^ n)) (pos a *ℤ pos (2 ^ m)) (omega (arith, ints)) (omega (arith, ints, more)) h)
further changes clip (negsuc a) n m le h =
    let power : 2 ^ n ≤ 2 ^ m = pow_mono le in
    let more = mul-le (suc a) (2 ^ n) (suc a) (2 ^ m) (omega arith) power in
    elim (clip.0 (negsuc a *ℤ pos (2 ^ m)) (negsuc a *ℤ pos (2 ^ n)) (pos 0) (omega (arith, ints, more)) (omega (arith, ints)) h) [
      | inl there ↦ there
      | inr none ↦ absurd (clip.1 none)
    ]

in_value : (w : Width) (changes : Clip) → IsClip changes → (c : ℤ) → ReachesEnd w (λ (v : ℤ). IsTrue (shift_clips changes v c))
in_value w changes clip (pos n) = by_steady w (λ (x : ℤ). IsTrue (changes x)) (λ (v : ℤ). v *ℤ pos (2 ^ n)) clip.0 (Rises (times_up (2 ^ n)))
in_value w changes clip (negsuc n) = never w

-- the greater count clips where the less does
upward : (changes : Clip) → IsClip changes → (v c d : ℤ) → c ≤ℤ d → IsTrue (shift_clips changes v c) → IsTrue (shift_clips changes v d)
upward changes clip v (pos n) (pos m) le h = further changes clip v n m (omega (arith, ints, le)) h
upward changes clip v (pos n) (negsuc m) le h = absurd (omega (arith, ints, le))
upward changes clip v (negsuc n) d le h = cc

in_count : (w : Width) (changes : Clip) → IsClip changes → (v : ℤ) → ReachesEnd w (λ (c : ℤ). IsTrue (shift_clips changes v c))
in_count w changes clip v lo c hi low high le le' h = inr (upward changes clip v c hi le' h)

in_back_count : (w : Width) (changes : Clip) → IsClip changes → (v : ℤ) → ReachesEnd w (λ (c : ℤ). IsTrue (shift_clips changes v (neg_ℤ c)))
in_back_count w changes clip v lo c hi low high le le' h = inl (upward changes clip v (neg_ℤ c) (neg_ℤ lo) (omega (arith, ints, le)) h)

in_rounded_value : (w : Width) (changes : Clip) → IsClip changes → (c : ℤ) → ReachesEnd w (λ (v : ℤ). IsTrue (shift_back_clips changes v c))
in_rounded_value w changes clip (pos (suc n)) = never w
in_rounded_value w changes clip (pos zero) = in_value w changes clip (pos 0)
in_rounded_value w changes clip (negsuc n) = in_value w changes clip (pos (suc n))

downward : (changes : Clip) → IsClip changes → (v c d : ℤ) → d ≤ℤ c → IsTrue (shift_back_clips changes v c) → IsTrue (shift_back_clips changes v d)
downward changes clip v (pos (suc n)) d le h = cc
downward changes clip v (pos zero) (pos (suc m)) le h = absurd (omega (arith, ints, le))
downward changes clip v (pos zero) (pos zero) le h = h
downward changes clip v (pos zero) (negsuc m) le h = further changes clip v 0 (suc m) (omega arith) h
downward changes clip v (negsuc n) (pos m) le h = absurd (omega (arith, ints, le))
downward changes clip v (negsuc n) (negsuc m) le h = further changes clip v (suc n) (suc m) (omega (arith, ints, le)) h

in_rounded_count : (w : Width) (changes : Clip) → IsClip changes → (v : ℤ) → ReachesEnd w (λ (c : ℤ). IsTrue (shift_back_clips changes v c))
in_rounded_count w changes clip v lo c hi low high le le' h = inl (downward changes clip v c lo le h)

-- ---- sums of products

pub product_left : (b : ℤ) → Steady (λ (a : ℤ). product_of a b)
product_left b = then_up (λ (x : ℤ). pos 2 *ℤ x) (λ (a : ℤ). a *ℤ b) twice_up (times_steady b)

pub product_right : (a : ℤ) → Steady (λ (b : ℤ). product_of a b)
product_right a = then_up (λ (x : ℤ). pos 2 *ℤ x) (λ (b : ℤ). a *ℤ b) twice_up (timed_steady a)

-- the sum after the clip of the product, before its own
pub sum_with : (x : ℤ) (f : ℤ → ℤ) → Steady f → Steady (λ (a : ℤ). x +ℤ clip32 (f a))
sum_with x f steady = then_up (λ (p : ℤ). x +ℤ p) (λ (a : ℤ). clip32 (f a)) (added_up x) (then_up clip32 f clip32_up steady)

pub difference_with : (x : ℤ) (f : ℤ → ℤ) → Steady f → Steady (λ (a : ℤ). x -ℤ clip32 (f a))
difference_with x f steady = then_down (λ (p : ℤ). x -ℤ p) (λ (a : ℤ). clip32 (f a)) (subtracted_down x) (then_up clip32 f clip32_up steady)

-- the clip of a product f, and of what is made of it
after_product : (w : Width) (f g : ℤ → ℤ) → Steady f → Steady g → ReachesEnd w (λ (a : ℤ). IsTrue (changes32 (f a) || changes32 (g a)))
after_product w f g first second = either w (λ (a : ℤ). changes32 (f a)) (λ (a : ℤ). changes32 (g a)) (c32 w f first) (c32 w g second)

beside_product : (w : Width) (p : ℤ) (g : ℤ → ℤ) → Steady g → ReachesEnd w (λ (a : ℤ). IsTrue (changes32 p || changes32 (g a)))
beside_product w p g second = either w (λ (a : ℤ). changes32 p) (λ (a : ℤ). changes32 (g a)) (constant w (changes32 p)) (c32 w g second)

-- and the clip of the rounding after both
and_rounding : (w : Width) (p : ℤ → Bool) (g : ℤ → ℤ) → ReachesEnd w (λ (a : ℤ). IsTrue (p a)) → Steady g → ReachesEnd w (λ (a : ℤ). IsTrue (p a || rounding_clips (clip32 (g a))))
and_rounding w p g first second =
    either w p (λ (a : ℤ). rounding_clips (clip32 (g a))) first
    (c32 w (λ (a : ℤ). clip32 (g a) +ℤ pos 32768) (then_up (λ (x : ℤ). x +ℤ pos 32768) (λ (a : ℤ). clip32 (g a)) (add_up (pos 32768)) (then_up clip32 g clip32_up second)))

sum_first : (a b : ℤ) → ReachesEnd W32 (λ (x : ℤ). IsTrue (accumulation_clips x a b))
sum_first a b = beside_product W32 (product_of a b) (λ (x : ℤ). x +ℤ clip32 (product_of a b)) (Rises (add_up (clip32 (product_of a b))))

sum_second : (x b : ℤ) → ReachesEnd W16 (λ (a : ℤ). IsTrue (accumulation_clips x a b))
sum_second x b = after_product W16 (λ (a : ℤ). product_of a b) (λ (a : ℤ). x +ℤ clip32 (product_of a b)) (product_left b) (sum_with x (λ (a : ℤ). product_of a b) (product_left b))

sum_third : (x a : ℤ) → ReachesEnd W16 (λ (b : ℤ). IsTrue (accumulation_clips x a b))
sum_third x a = after_product W16 (λ (b : ℤ). product_of a b) (λ (b : ℤ). x +ℤ clip32 (product_of a b)) (product_right a) (sum_with x (λ (b : ℤ). product_of a b) (product_right a))

difference_first : (a b : ℤ) → ReachesEnd W32 (λ (x : ℤ). IsTrue (reduction_clips x a b))
difference_first a b = beside_product W32 (product_of a b) (λ (x : ℤ). x -ℤ clip32 (product_of a b)) (Rises (sub_up (clip32 (product_of a b))))

difference_second : (x b : ℤ) → ReachesEnd W16 (λ (a : ℤ). IsTrue (reduction_clips x a b))
difference_second x b = after_product W16 (λ (a : ℤ). product_of a b) (λ (a : ℤ). x -ℤ clip32 (product_of a b)) (product_left b) (difference_with x (λ (a : ℤ). product_of a b) (product_left b))

difference_third : (x a : ℤ) → ReachesEnd W16 (λ (b : ℤ). IsTrue (reduction_clips x a b))
difference_third x a = after_product W16 (λ (b : ℤ). product_of a b) (λ (b : ℤ). x -ℤ clip32 (product_of a b)) (product_right a) (difference_with x (λ (b : ℤ). product_of a b) (product_right a))

-- a product of two numbers of 16 bits, rounded to its upper 16 bits
pub rounded_product : (f : ℤ → ℤ) → Steady f → Steady (λ (x : ℤ). floor (f x +ℤ pos (2 ^ 14)) (2 ^ 15))
rounded_product f steady = then_up (λ (p : ℤ). floor (p +ℤ pos (2 ^ 14)) (2 ^ 15)) f (up_up (λ (p : ℤ). floor p (2 ^ 15)) (λ (p : ℤ). p +ℤ pos (2 ^ 14)) (floor_up (2 ^ 15) (omega arith)) (add_up (pos (2 ^ 14)))) steady

-- ---- the operators

pub clips_reach : (op : Op) → ReachesEnds (row_of op).takes (Clips op)
clips_reach Add = two W16 W16 (Clips Add) (λ y f. c16 W16 (λ (x : ℤ). x +ℤ y) (Rises (add_up y))) (λ x f. c16 W16 (λ (y : ℤ). x +ℤ y) (Rises (added_up x)))
clips_reach Sub = two W16 W16 (Clips Sub) (λ y f. c16 W16 (λ (x : ℤ). x -ℤ y) (Rises (sub_up y))) (λ x f. c16 W16 (λ (y : ℤ). x -ℤ y) (Falls (subtracted_down x)))
clips_reach AbsS = one W16 (Clips AbsS) abs16
clips_reach Shl = two W16 W16 (Clips Shl) (λ c f. in_value W16 changes16 is_clip16 c) (λ v f. in_count W16 changes16 is_clip16 v)
clips_reach Shr = two W16 W16 (Clips Shr) (λ c f. in_value W16 changes16 is_clip16 (neg_ℤ c)) (λ v f. in_back_count W16 changes16 is_clip16 v)
clips_reach Mult = two W16 W16 (Clips Mult)
    (λ y f. c16 W16 (λ (x : ℤ). floor (x *ℤ y) (2 ^ 15)) (then_up (λ (p : ℤ). floor p (2 ^ 15)) (λ (x : ℤ). x *ℤ y) (floor_up (2 ^ 15) (omega arith)) (times_steady y)))
    (λ x f. c16 W16 (λ (y : ℤ). floor (x *ℤ y) (2 ^ 15)) (then_up (λ (p : ℤ). floor p (2 ^ 15)) (λ (y : ℤ). x *ℤ y) (floor_up (2 ^ 15) (omega arith)) (timed_steady x)))
clips_reach LMult = two W16 W16 (Clips LMult) (λ b f. c32 W16 (λ (a : ℤ). product_of a b) (product_left b)) (λ a f. c32 W16 (λ (b : ℤ). product_of a b) (product_right a))
clips_reach Negate = one W16 (Clips Negate) (c16 W16 neg_ℤ (Falls neg_down))
clips_reach Round = one W32 (Clips Round) (c32 W32 (λ (x : ℤ). x +ℤ pos 32768) (Rises (add_up (pos 32768))))
clips_reach LMac = three W32 W16 W16 (Clips LMac) (λ a b f g. sum_first a b) (λ x b f g. sum_second x b) (λ x a f g. sum_third x a)
clips_reach LMsu = three W32 W16 W16 (Clips LMsu) (λ a b f g. difference_first a b) (λ x b f g. difference_second x b) (λ x a f g. difference_third x a)
clips_reach MacR = three W32 W16 W16 (Clips MacR)
    (λ a b f g. and_rounding W32 (λ (x : ℤ). accumulation_clips x a b) (λ (x : ℤ). x +ℤ clip32 (product_of a b)) (sum_first a b) (Rises (add_up (clip32 (product_of a b)))))
    (λ x b f g. and_rounding W16 (λ (a : ℤ). accumulation_clips x a b) (λ (a : ℤ). x +ℤ clip32 (product_of a b)) (sum_second x b) (sum_with x (λ (a : ℤ). product_of a b) (product_left b)))
    (λ x a f g. and_rounding W16 (λ (b : ℤ). accumulation_clips x a b) (λ (b : ℤ). x +ℤ clip32 (product_of a b)) (sum_third x a) (sum_with x (λ (b : ℤ). product_of a b) (product_right a)))
clips_reach MsuR = three W32 W16 W16 (Clips MsuR)
    (λ a b f g. and_rounding W32 (λ (x : ℤ). reduction_clips x a b) (λ (x : ℤ). x -ℤ clip32 (product_of a b)) (difference_first a b) (Rises (sub_up (clip32 (product_of a b)))))
    (λ x b f g. and_rounding W16 (λ (a : ℤ). reduction_clips x a b) (λ (a : ℤ). x -ℤ clip32 (product_of a b)) (difference_second x b) (difference_with x (λ (a : ℤ). product_of a b) (product_left b)))
    (λ x a f g. and_rounding W16 (λ (b : ℤ). reduction_clips x a b) (λ (b : ℤ). x -ℤ clip32 (product_of a b)) (difference_third x a) (difference_with x (λ (b : ℤ). product_of a b) (product_right a)))
clips_reach LAdd = two W32 W32 (Clips LAdd) (λ y f. c32 W32 (λ (x : ℤ). x +ℤ y) (Rises (add_up y))) (λ x f. c32 W32 (λ (y : ℤ). x +ℤ y) (Rises (added_up x)))
clips_reach LSub = two W32 W32 (Clips LSub) (λ y f. c32 W32 (λ (x : ℤ). x -ℤ y) (Rises (sub_up y))) (λ x f. c32 W32 (λ (y : ℤ). x -ℤ y) (Falls (subtracted_down x)))
clips_reach LNegate = one W32 (Clips LNegate) (c32 W32 neg_ℤ (Falls neg_down))
clips_reach MultR = two W16 W16 (Clips MultR)
    (λ y f. c16 W16 (λ (x : ℤ). floor (x *ℤ y +ℤ pos (2 ^ 14)) (2 ^ 15)) (rounded_product (λ (x : ℤ). x *ℤ y) (times_steady y)))
    (λ x f. c16 W16 (λ (y : ℤ). floor (x *ℤ y +ℤ pos (2 ^ 14)) (2 ^ 15)) (rounded_product (λ (y : ℤ). x *ℤ y) (timed_steady x)))
clips_reach LShl = two W32 W16 (Clips LShl) (λ c f. in_value W32 changes32 is_clip32 c) (λ v f. in_count W16 changes32 is_clip32 v)
clips_reach LShr = two W32 W16 (Clips LShr) (λ c f. in_value W32 changes32 is_clip32 (neg_ℤ c)) (λ v f. in_back_count W16 changes32 is_clip32 v)
clips_reach ShrR = two W16 W16 (Clips ShrR) (λ c f. in_rounded_value W16 changes16 is_clip16 c) (λ v f. in_rounded_count W16 changes16 is_clip16 v)
clips_reach LShrR = two W32 W16 (Clips LShrR) (λ c f. in_rounded_value W32 changes32 is_clip32 c) (λ v f. in_rounded_count W16 changes32 is_clip32 v)
clips_reach LAbs = one W32 (Clips LAbs) abs32
clips_reach ExtractH = one W32 (Clips ExtractH) (never W32)
clips_reach ExtractL = one W32 (Clips ExtractL) (never W32)
clips_reach LDepositH = one W16 (Clips LDepositH) (never W16)
clips_reach LDepositL = one W16 (Clips LDepositL) (never W16)
clips_reach NormS = one W16 (Clips NormS) (never W16)
clips_reach NormL = one W32 (Clips NormL) (never W32)
clips_reach DivS = two W16 W16 (Clips DivS) (λ y f. never W16) (λ x f. never W16)
