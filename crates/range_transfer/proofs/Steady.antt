-- Functions that only rise or only fall, and sets of numbers that reach the ends of what they are between.
use Rattle.std.proofs.Common.{◌≡◌, ℕ, suc, ◌*◌, ◌/◌, ◌<◌, ◌≤◌, ◌⊎◌, inl, inr, ℤ, pos, negsuc, ◌+ℤ◌, ◌-ℤ◌, ◌*ℤ◌, ◌≤ℤ◌, neg_ℤ, FitsSigned, w32, IsTrue, not, ap, mul_comm, subst, arith, int_eq}
use Rattle.std.proofs.Math.Nat.{div-mul-le_self}
use Rattle.std.proofs.lemmas.Nat.{mul-le, le-div}
use Rattle.std.proofs.lemmas.Bool.{not_from_false, false_from_ne_true}
use Rattle.std.proofs.lemmas.Bool.Decides.{Decides-int_eq}
use Rattle.std.proofs.lemmas.Int.{ints, clamps, by_lt_z}
use Rattle.sat_base.specs.Clip.{clip16, clip32}
use Rattle.operator_meaning.specs.Clipping.{changes16, changes32}
use Rattle.operator_meaning.specs.Value.{floor, rounded}

abbrev pub Up : (ℤ → ℤ) → Type 0
Up f = (x y : ℤ) → x ≤ℤ y → f x ≤ℤ f y

abbrev pub Down : (ℤ → ℤ) → Type 0
Down f = (x y : ℤ) → x ≤ℤ y → f y ≤ℤ f x

pub data Steady (f : ℤ → ℤ) : Type 0 where
  Rises : Up f → Steady f
  Falls : Down f → Steady f

-- what is between two numbers, and of the set, makes one of them of the set
abbrev pub IsOuter : (ℤ → Type 0) → Type 0
IsOuter P = (a x b : ℤ) → a ≤ℤ x → x ≤ℤ b → P x → P a ⊎ P b

-- ---- combinations

pub then_up : (h f : ℤ → ℤ) → Up h → Steady f → Steady (λ x. h (f x))
then_up h f up (Rises g) = Rises (λ x y le. up (f x) (f y) (g x y le))
then_up h f up (Falls g) = Falls (λ x y le. up (f y) (f x) (g x y le))

pub then_down : (h f : ℤ → ℤ) → Down h → Steady f → Steady (λ x. h (f x))
then_down h f down (Rises g) = Falls (λ x y le. down (f x) (f y) (g x y le))
then_down h f down (Falls g) = Rises (λ x y le. down (f y) (f x) (g x y le))

pub after_down : (f g : ℤ → ℤ) → Down g → Steady f → Steady (λ x. f (g x))
after_down f g down (Rises h) = Falls (λ x y le. h (g y) (g x) (down x y le))
after_down f g down (Falls h) = Rises (λ x y le. h (g y) (g x) (down x y le))

pub up_up : (h f : ℤ → ℤ) → Up h → Up f → Up (λ x. h (f x))
up_up h f up g x y le = up (f x) (f y) (g x y le)

-- ---- the functions

pub same_up : Up (λ (x : ℤ). x)
same_up x y le = le

pub add_up : (c : ℤ) → Up (λ (x : ℤ). x +ℤ c)
add_up c x y le = omega (arith, ints, le)

pub added_up : (c : ℤ) → Up (λ (x : ℤ). c +ℤ x)
added_up c x y le = omega (arith, ints, le)

pub sub_up : (c : ℤ) → Up (λ (x : ℤ). x -ℤ c)
sub_up c x y le = omega (arith, ints, le)

pub subtracted_down : (c : ℤ) → Down (λ (x : ℤ). c -ℤ x)
subtracted_down c x y le = omega (arith, ints, le)

pub neg_down : Down neg_ℤ
neg_down x y le = omega (arith, ints, le)

pub clip16_up : Up clip16
clip16_up x y le = omega (arith, ints, clamps, le)

pub clip32_up : Up clip32
clip32_up x y le = omega (arith, ints, clamps, le)

pub twice_up : Up (λ (x : ℤ). pos 2 *ℤ x)
twice_up x y le = omega (arith, ints, le)

quotient_up : (a b n : ℕ) → 0 < n → a ≤ b → a / n ≤ b / n
quotient_up a b n some le = le-div (a / n) b n some (omega (arith, div-mul-le_self a n, le))

pub floor_up : (n : ℕ) → 0 < n → Up (λ (x : ℤ). floor x n)
floor_up n some (pos a) (pos b) le = let h : a / n ≤ b / n = quotient_up a b n some (omega (arith, ints, le)) in omega (arith, ints, h)
floor_up n some (negsuc a) (pos b) le = omega (arith, ints)
floor_up n some (pos a) (negsuc b) le = absurd (omega (arith, ints, le))
floor_up n some (negsuc a) (negsuc b) le = let h : b / n ≤ a / n = quotient_up b a n some (omega (arith, ints, le)) in omega (arith, ints, h)

-- a product by one number, up or down by its sign
pub times_up : (n : ℕ) → Up (λ (x : ℤ). x *ℤ pos n)
times_up n (pos a) (pos b) le = let h : a * n ≤ b * n = mul-le a n b n (omega (arith, ints, le)) (omega arith) in omega (arith, ints, h)
times_up n (negsuc a) (pos b) le = omega (arith, ints)
times_up n (pos a) (negsuc b) le = absurd (omega (arith, ints, le))
times_up n (negsuc a) (negsuc b) le = let h : suc b * n ≤ suc a * n = mul-le (suc b) n (suc a) n (omega (arith, ints, le)) (omega arith) in omega (arith, ints, h)

times_down : (n : ℕ) → Down (λ (x : ℤ). x *ℤ negsuc n)
times_down n (pos a) (pos b) le = let h : a * suc n ≤ b * suc n = mul-le a (suc n) b (suc n) (omega (arith, ints, le)) (omega arith) in omega (arith, ints, h)
times_down n (negsuc a) (pos b) le = omega (arith, ints)
times_down n (pos a) (negsuc b) le = absurd (omega (arith, ints, le))
times_down n (negsuc a) (negsuc b) le = let h : suc b * suc n ≤ suc a * suc n = mul-le (suc b) (suc n) (suc a) (suc n) (omega (arith, ints, le)) (omega arith) in omega (arith, ints, h)

pub times_steady : (y : ℤ) → Steady (λ (x : ℤ). x *ℤ y)
times_steady (pos n) = Rises (times_up n)
times_steady (negsuc n) = Falls (times_down n)

commuted : (x y : ℤ) → x *ℤ y ≡ y *ℤ x
commuted (pos a) (pos b) = ap pos (mul_comm a b)
commuted (pos a) (negsuc b) = ap (λ (n : ℕ). neg_ℤ (pos n)) (mul_comm a (suc b))
commuted (negsuc a) (pos b) = ap (λ (n : ℕ). neg_ℤ (pos n)) (mul_comm (suc a) b)
commuted (negsuc a) (negsuc b) = ap pos (mul_comm (suc a) (suc b))

pub timed_steady : (x : ℤ) → Steady (λ (y : ℤ). x *ℤ y)
timed_steady x =
    elim (times_steady x) [
      | Rises h ↦ Rises (λ y z le. subst (λ (p : ℤ). p ≤ℤ (x *ℤ z)) (commuted y x) (subst (λ (p : ℤ). (y *ℤ x) ≤ℤ p) (commuted z x) (h y z le)))
      | Falls h ↦ Falls (λ y z le. subst (λ (p : ℤ). p ≤ℤ (x *ℤ y)) (commuted z x) (subst (λ (p : ℤ). (z *ℤ x) ≤ℤ p) (commuted y x) (h y z le)))
    ]

pub rounded_up : Up rounded
rounded_up x y le = floor_up 65536 (omega arith) (clip32 (x +ℤ pos 32768)) (clip32 (y +ℤ pos 32768)) (omega (arith, ints, clamps, le))

-- ---- the sets

pub at_most_outer : (t : ℤ) → IsOuter (λ (x : ℤ). x ≤ℤ t)
at_most_outer t a x b low high h = inl (omega (arith, ints, low, h))

pub at_least_outer : (t : ℤ) → IsOuter (λ (x : ℤ). t ≤ℤ x)
at_least_outer t a x b low high h = inr (omega (arith, ints, high, h))

changed : (x y : ℤ) → (x ≡ y → ⊥) → IsTrue (not (int_eq x y))
changed x y differ = not_from_false _ (false_from_ne_true _ (λ e. differ ((Decides-int_eq x y).0 e)))

clashes : (x y : ℤ) → IsTrue (not (int_eq x y)) → x ≡ y → ⊥
clashes x y h e = let same = (Decides-int_eq x y).1 e in grind (arith, h, same)

pub unclipped16 : (x : ℤ) → IsTrue (changes16 x) → clip16 x ≡ x → ⊥
unclipped16 x h e = clashes (clip16 x) x h e

pub unclipped32 : (x : ℤ) → IsTrue (changes32 x) → clip32 x ≡ x → ⊥
unclipped32 x h e = clashes (clip32 x) x h e

pub changes16_outer : IsOuter (λ (x : ℤ). IsTrue (changes16 x))
changes16_outer a x b low high h =
    by_lt_z x (negsuc 32767)
    (λ under. inl (changed (clip16 a) a (λ e. omega (arith, ints, clamps, e, under, low))))
    (λ fits. by_lt_z (pos 32767) x
    (λ over. inr (changed (clip16 b) b (λ e. omega (arith, ints, clamps, e, over, high))))
    (λ fits'. absurd (unclipped16 x h (omega (arith, ints, clamps, fits, fits')))))

pub changes32_outer : IsOuter (λ (x : ℤ). IsTrue (changes32 x))
changes32_outer a x b low high h =
    by_lt_z x (negsuc 2147483647)
    (λ under. inl (changed (clip32 a) a (λ e. omega (arith, ints, clamps, e, under, low))))
    (λ fits. by_lt_z (pos 2147483647) x
    (λ over. inr (changed (clip32 b) b (λ e. omega (arith, ints, clamps, e, over, high))))
    (λ fits'. absurd (unclipped32 x h (omega (arith, ints, clamps, fits, fits')))))

pub unfit_outer : IsOuter (λ (x : ℤ). FitsSigned w32 x → ⊥)
unfit_outer a x b low high h =
    by_lt_z x (negsuc 2147483647)
    (λ under. inl (λ f. omega (arith, ints, f, under, low)))
    (λ fits. by_lt_z (pos 2147483647) x
    (λ over. inr (λ f. omega (arith, ints, f, over, high)))
    (λ fits'. absurd (h (omega (arith, ints, fits, fits')))))
