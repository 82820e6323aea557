-- Most operators only rise or only fall in each operand, whatever the others are.
use Rattle.std.proofs.Common.{◌≡◌, ℕ, zero, suc, ◌+◌, ◌*◌, ◌/◌, ◌^◌, ◌<◌, ◌≤◌, ℤ, pos, negsuc, ◌+ℤ◌, ◌-ℤ◌, ◌*ℤ◌, ◌≤ℤ◌, ◌<ℤ◌, neg_ℤ, FitsSigned, w16, w32, List, [], ◌∷◌, Some, unwrap_or, refl, ap, arith, pow_pos, pow_mono}
use Rattle.std.proofs.Math.Nat.{div-le_self, div-mul-le_self}
use Rattle.std.proofs.lemmas.Nat.{mul-le, le-div}
use Rattle.std.proofs.lemmas.Int.{ints, clamps, by_lt_z}
use Rattle.sat_base.specs.Clip.{clip16, clip32}
use Rattle.sat_base.specs.declared.width.Width.{Width}
use Rattle.sat_base.specs.declared.width.Width.TheVariants.{W16, W32}
use Rattle.operator_meaning.specs.Laws.{ShiftsRound}
use Rattle.operator_meaning.specs.Table.{row_of, FitWidths, AreOperands}
use Rattle.operator_meaning.specs.Value.{floor, shifted, shifted_back, product_of, rounded, accumulated, reduced, value_of}
use Rattle.operator_meaning.specs.declared.operator.Op.{Op}
use Rattle.operator_meaning.specs.declared.operator.Op.TheVariants.{Add, Sub, AbsS, Shl, Shr, ExtractH, ExtractL, Mult, LMult, Negate, Round, LMac, LMsu, MacR, MsuR, LAdd, LSub, LNegate, MultR, LShl, LShr, ShrR, LShrR, LAbs, LDepositH, LDepositL, NormS, NormL, DivS}
use Rattle.operator_meaning.specs.declared.site.SiteKind.TheVariants.{Call}
use Rattle.range_transfer.specs.Site.{number_of}
use Rattle.range_transfer.proofs.Clips.{product_left, product_right, sum_with, difference_with, rounded_product}
use Rattle.range_transfer.proofs.Numbers.{IsSteady, one_steady, two_steady, three_steady}
use Rattle.range_transfer.proofs.Steady.{Up, Down, Steady, Rises, Falls, then_up, after_down, up_up, same_up, add_up, added_up, sub_up, subtracted_down, neg_down, clip16_up, clip32_up, floor_up, times_up, times_steady, timed_steady, rounded_up}

-- ---- shifts

shift_value : (clip : ℤ → ℤ) → Up clip → (c : ℤ) → Up (λ (v : ℤ). shifted clip v c)
shift_value clip up (pos n) = up_up clip (λ (v : ℤ). v *ℤ pos (2 ^ n)) up (times_up (2 ^ n))
shift_value clip up (negsuc n) = floor_up (2 ^ (n + 1)) (pow_pos (n + 1))

quotient_down : (a p q : ℕ) → 0 < p → p ≤ q → a / q ≤ a / p
quotient_down a p q some le =
    let more : (a / q) * p ≤ (a / q) * q = mul-le (a / q) p (a / q) q (omega arith) le in
    le-div (a / q) a p some (omega (arith, div-mul-le_self a q, more))

floor_near : (v : ℤ) (n : ℕ) → 0 < n → (pos 0 ≤ℤ v → floor v n ≤ℤ v) × (v <ℤ pos 0 → v ≤ℤ floor v n)
floor_near (pos a) n some = let less = div-le_self a n in (λ h. omega (arith, ints, less), λ h. absurd (omega (arith, ints, h)))
floor_near (negsuc a) n some = let less = div-le_self a n in (λ h. absurd (omega (arith, ints, h)), λ h. omega (arith, ints, less))

-- by more places to the right, a number comes nearer to 0 or to -1
floor_further : (v : ℤ) (n m : ℕ) → n ≤ m → (pos 0 ≤ℤ v → floor v (2 ^ m) ≤ℤ floor v (2 ^ n)) × (v <ℤ pos 0 → floor v (2 ^ n) ≤ℤ floor v (2 ^ m))
floor_further (pos a) n m le = let less = quotient_down a (2 ^ n) (2 ^ m) (pow_pos n) (pow_mono le) in (λ h. omega (arith, ints, less), λ h. absurd (omega (arith, ints, h)))
floor_further (negsuc a) n m le = let less = quotient_down a (2 ^ n) (2 ^ m) (pow_pos n) (pow_mono le) in (λ h. absurd (omega (arith, ints, h)), λ h. omega (arith, ints, less))

times_further : (v : ℤ) (p q : ℕ) → p ≤ q → (pos 0 ≤ℤ v → (v *ℤ pos p) ≤ℤ (v *ℤ pos q)) × (v <ℤ pos 0 → (v *ℤ pos q) ≤ℤ (v *ℤ pos p))
times_further (pos a) p q le = let more = mul-le a p a q (omega arith) le in (λ h. omega (arith, ints, more), λ h. absurd (omega (arith, ints, h)))
times_further (negsuc a) p q le = let more = mul-le (suc a) p (suc a) q (omega arith) le in (λ h. absurd (omega (arith, ints, h)), λ h. omega (arith, ints, more))

times_away : (v : ℤ) (n : ℕ) → (pos 0 ≤ℤ v → v ≤ℤ (v *ℤ pos (2 ^ n))) × (v <ℤ pos 0 → (v *ℤ pos (2 ^ n)) ≤ℤ v)
times_away (pos a) n = let more = mul-le a 1 a (2 ^ n) (omega arith) (pow_pos n) in (λ h. omega (arith, ints, more), λ h. absurd (omega (arith, ints, h)))
times_away (negsuc a) n = let more = mul-le (suc a) 1 (suc a) (2 ^ n) (omega arith) (pow_pos n) in (λ h. absurd (omega (arith, ints, h)), λ h. omega (arith, ints, more))

-- further to the left, a number that is not negative rises and a negative one falls
count_rises : (clip : ℤ → ℤ) → Up clip → (v : ℤ) → clip v ≡ v → pos 0 ≤ℤ v → Up (λ (c : ℤ). shifted clip v c)
count_rises clip up v e some (pos n) (pos m) le = up (v *ℤ pos (2 ^ n)) (v *ℤ pos (2 ^ m)) ((times_further v (2 ^ n) (2 ^ m) (pow_mono (omega (arith, ints, le)))).0 some)
count_rises clip up v e some (negsuc n) (pos m) le =
    let near = (floor_near v (2 ^ (n + 1)) (pow_pos (n + 1))).0 some in
    let away = up v (v *ℤ pos (2 ^ m)) ((times_away v m).0 some) in
    omega (arith, ints, near, away, e)
count_rises clip up v e some (pos n) (negsuc m) le = absurd (omega (arith, ints, le))
count_rises clip up v e some (negsuc n) (negsuc m) le = (floor_further v (m + 1) (n + 1) (omega (arith, ints, le))).0 some

count_falls : (clip : ℤ → ℤ) → Up clip → (v : ℤ) → clip v ≡ v → v <ℤ pos 0 → Down (λ (c : ℤ). shifted clip v c)
count_falls clip up v e some (pos n) (pos m) le = up (v *ℤ pos (2 ^ m)) (v *ℤ pos (2 ^ n)) ((times_further v (2 ^ n) (2 ^ m) (pow_mono (omega (arith, ints, le)))).1 some)
count_falls clip up v e some (negsuc n) (pos m) le =
    let near = (floor_near v (2 ^ (n + 1)) (pow_pos (n + 1))).1 some in
    let away = up (v *ℤ pos (2 ^ m)) v ((times_away v m).1 some) in
    omega (arith, ints, near, away, e)
count_falls clip up v e some (pos n) (negsuc m) le = absurd (omega (arith, ints, le))
count_falls clip up v e some (negsuc n) (negsuc m) le = (floor_further v (m + 1) (n + 1) (omega (arith, ints, le))).1 some

shift_count : (clip : ℤ → ℤ) → Up clip → (v : ℤ) → clip v ≡ v → Steady (λ (c : ℤ). shifted clip v c)
shift_count clip up v e = by_lt_z v (pos 0) (λ h. Falls (count_falls clip up v e h)) (λ h. Rises (count_rises clip up v e h))

shift_back_count : (clip : ℤ → ℤ) → Up clip → (v : ℤ) → clip v ≡ v → Steady (λ (c : ℤ). shifted clip v (neg_ℤ c))
shift_back_count clip up v e = after_down (λ (c : ℤ). shifted clip v c) neg_ℤ neg_down (shift_count clip up v e)

-- ---- shifts to the right with rounding

rounded_value : (clip : ℤ → ℤ) → Up clip → (c : ℤ) → Up (λ (v : ℤ). shifted_back clip v c)
rounded_value clip up (pos (suc n)) = up_up (λ (x : ℤ). floor x (2 ^ (n + 1))) (λ (v : ℤ). v +ℤ pos (2 ^ n)) (floor_up (2 ^ (n + 1)) (pow_pos (n + 1))) (add_up (pos (2 ^ n)))
rounded_value clip up (pos zero) = shift_value clip up (pos 0)
rounded_value clip up (negsuc n) = shift_value clip up (pos (suc n))

-- the rounding of one place
half_up : Up (λ (x : ℤ). floor (x +ℤ pos 1) 2)
half_up x y le = floor_up 2 (omega arith) (x +ℤ pos 1) (y +ℤ pos 1) (omega (arith, ints, le))

half_near : (v : ℤ) → (pos 0 ≤ℤ v → floor (v +ℤ pos 1) 2 ≤ℤ v) × (v <ℤ pos 0 → v ≤ℤ floor (v +ℤ pos 1) 2)
half_near (pos a) = (λ h. omega (arith, ints), λ h. absurd (omega (arith, ints, h)))
half_near (negsuc zero) = (λ h. absurd (omega (arith, ints, h)), λ h. omega (arith, ints))
half_near (negsuc (suc a)) = (λ h. absurd (omega (arith, ints, h)), λ h. let e : negsuc (suc a) +ℤ pos 1 ≡ negsuc a = omega (arith, ints) in rw e (omega (arith, ints)))

-- what a shift by n + 1 gives: the shift by n, and then one place with rounding
abbrev Rounds : Type 0
Rounds = (x : ℤ) (n : ℕ) → floor (x +ℤ pos (2 ^ n)) (2 ^ (n + 1)) ≡ floor (floor x (2 ^ n) +ℤ pos 1) 2

rounds_of : ShiftsRound → Rounds
rounds_of law x n = ap (λ o. unwrap_or o (pos 0)) (law x n).0

back_falls : Rounds → (clip : ℤ → ℤ) → Up clip → (v : ℤ) → clip v ≡ v → pos 0 ≤ℤ v → Down (λ (c : ℤ). shifted_back clip v c)
back_falls law clip up v e some (pos (suc n)) (pos (suc m)) le =
    let less = half_up (floor v (2 ^ m)) (floor v (2 ^ n)) ((floor_further v n m (omega (arith, ints, le))).0 some) in
    omega (arith, ints, less, law v n, law v m)
back_falls law clip up v e some (pos (suc n)) (pos zero) le = absurd (omega (arith, ints, le))
back_falls law clip up v e some (pos (suc n)) (negsuc m) le = absurd (omega (arith, ints, le))
back_falls law clip up v e some (pos zero) (pos (suc m)) le = across v 0 m e some
  where
    across : (v : ℤ) (k m : ℕ) → clip v ≡ v → pos 0 ≤ℤ v → floor (v +ℤ pos (2 ^ m)) (2 ^ (m + 1)) ≤ℤ clip (v *ℤ pos (2 ^ k))
    across v k m e some =
        let right = half_up (floor v (2 ^ m)) v ((floor_near v (2 ^ m) (pow_pos m)).0 some) in
        let near = (half_near v).0 some in
        let left = up v (v *ℤ pos (2 ^ k)) ((times_away v k).0 some) in
        omega (arith, ints, right, near, left, e, law v m)
back_falls law clip up v e some (negsuc n) (pos (suc m)) le =
    let right = half_up (floor v (2 ^ m)) v ((floor_near v (2 ^ m) (pow_pos m)).0 some) in
    let near = (half_near v).0 some in
    let left = up v (v *ℤ pos (2 ^ suc n)) ((times_away v (suc n)).0 some) in
    omega (arith, ints, right, near, left, e, law v m)
back_falls law clip up v e some (pos zero) (pos zero) le = omega (arith, ints)
back_falls law clip up v e some (pos zero) (negsuc m) le = absurd (omega (arith, ints, le))
back_falls law clip up v e some (negsuc n) (pos zero) le = count_rises clip up v e some (pos 0) (pos (suc n)) (omega (arith, ints))
back_falls law clip up v e some (negsuc n) (negsuc m) le = count_rises clip up v e some (pos (suc m)) (pos (suc n)) (omega (arith, ints, le))

back_rises : Rounds → (clip : ℤ → ℤ) → Up clip → (v : ℤ) → clip v ≡ v → v <ℤ pos 0 → Up (λ (c : ℤ). shifted_back clip v c)
back_rises law clip up v e some (pos (suc n)) (pos (suc m)) le =
    let more = half_up (floor v (2 ^ n)) (floor v (2 ^ m)) ((floor_further v n m (omega (arith, ints, le))).1 some) in
    omega (arith, ints, more, law v n, law v m)
back_rises law clip up v e some (pos (suc n)) (pos zero) le = absurd (omega (arith, ints, le))
back_rises law clip up v e some (pos (suc n)) (negsuc m) le = absurd (omega (arith, ints, le))
back_rises law clip up v e some (pos zero) (pos (suc m)) le =
    let right = half_up v (floor v (2 ^ m)) ((floor_near v (2 ^ m) (pow_pos m)).1 some) in
    let near = (half_near v).1 some in
    let left = up (v *ℤ pos (2 ^ 0)) v ((times_away v 0).1 some) in
    omega (arith, ints, right, near, left, e, law v m)
back_rises law clip up v e some (negsuc n) (pos (suc m)) le =
    let right = half_up v (floor v (2 ^ m)) ((floor_near v (2 ^ m) (pow_pos m)).1 some) in
    let near = (half_near v).1 some in
    let left = up (v *ℤ pos (2 ^ suc n)) v ((times_away v (suc n)).1 some) in
    omega (arith, ints, right, near, left, e, law v m)
back_rises law clip up v e some (pos zero) (pos zero) le = omega (arith, ints)
back_rises law clip up v e some (pos zero) (negsuc m) le = absurd (omega (arith, ints, le))
back_rises law clip up v e some (negsuc n) (pos zero) le = count_falls clip up v e some (pos 0) (pos (suc n)) (omega (arith, ints))
back_rises law clip up v e some (negsuc n) (negsuc m) le = count_falls clip up v e some (pos (suc m)) (pos (suc n)) (omega (arith, ints, le))

rounded_count : Rounds → (clip : ℤ → ℤ) → Up clip → (v : ℤ) → clip v ≡ v → Steady (λ (c : ℤ). shifted_back clip v c)
rounded_count law clip up v e = by_lt_z v (pos 0) (λ h. Rises (back_rises law clip up v e h)) (λ h. Falls (back_falls law clip up v e h))

kept16 : (v : ℤ) → FitsSigned w16 v → clip16 v ≡ v
kept16 v fits = omega (arith, ints, clamps, fits)

kept32 : (v : ℤ) → FitsSigned w32 v → clip32 v ≡ v
kept32 v fits = omega (arith, ints, clamps, fits)

deposit_up : Up (λ (x : ℤ). pos 65536 *ℤ x)
deposit_up x y le = omega (arith, ints, le)

-- ---- the operators

then16 : (f : ℤ → ℤ) → Steady f → Steady (λ (x : ℤ). clip16 (f x))
then16 f steady = then_up clip16 f clip16_up steady

then32 : (f : ℤ → ℤ) → Steady f → Steady (λ (x : ℤ). clip32 (f x))
then32 f steady = then_up clip32 f clip32_up steady

then_rounded : (f : ℤ → ℤ) → Steady f → Steady (λ (x : ℤ). rounded (f x))
then_rounded f steady = then_up rounded f rounded_up steady

fraction : (f : ℤ → ℤ) → Steady f → Steady (λ (x : ℤ). clip16 (floor (f x) (2 ^ 15)))
fraction f steady = then16 (λ (x : ℤ). floor (f x) (2 ^ 15)) (then_up (λ (p : ℤ). floor p (2 ^ 15)) f (floor_up (2 ^ 15) (omega arith)) steady)

sum_first : (a b : ℤ) → Steady (λ (x : ℤ). accumulated x a b)
sum_first a b = then32 (λ (x : ℤ). x +ℤ clip32 (product_of a b)) (Rises (add_up (clip32 (product_of a b))))

sum_second : (x b : ℤ) → Steady (λ (a : ℤ). accumulated x a b)
sum_second x b = then32 (λ (a : ℤ). x +ℤ clip32 (product_of a b)) (sum_with x (λ (a : ℤ). product_of a b) (product_left b))

sum_third : (x a : ℤ) → Steady (λ (b : ℤ). accumulated x a b)
sum_third x a = then32 (λ (b : ℤ). x +ℤ clip32 (product_of a b)) (sum_with x (λ (b : ℤ). product_of a b) (product_right a))

difference_first : (a b : ℤ) → Steady (λ (x : ℤ). reduced x a b)
difference_first a b = then32 (λ (x : ℤ). x -ℤ clip32 (product_of a b)) (Rises (sub_up (clip32 (product_of a b))))

difference_second : (x b : ℤ) → Steady (λ (a : ℤ). reduced x a b)
difference_second x b = then32 (λ (a : ℤ). x -ℤ clip32 (product_of a b)) (difference_with x (λ (a : ℤ). product_of a b) (product_left b))

difference_third : (x a : ℤ) → Steady (λ (b : ℤ). reduced x a b)
difference_third x a = then32 (λ (b : ℤ). x -ℤ clip32 (product_of a b)) (difference_with x (λ (b : ℤ). product_of a b) (product_right a))

-- the operators whose least and greatest values are at corners
abbrev pub IsCornered : Op → Type 0
IsCornered AbsS = ⊥
IsCornered LAbs = ⊥
IsCornered ExtractL = ⊥
IsCornered NormS = ⊥
IsCornered NormL = ⊥
IsCornered DivS = ⊥
IsCornered op = Unit {0}

-- which are all others
pub is_cornered : (op : Op) → (op ≡ AbsS → ⊥) → (op ≡ LAbs → ⊥) → (op ≡ ExtractL → ⊥) → (op ≡ NormS → ⊥) → (op ≡ NormL → ⊥) → (op ≡ DivS → ⊥) → IsCornered op
is_cornered AbsS a b c d e f = a refl
is_cornered LAbs a b c d e f = b refl
is_cornered ExtractL a b c d e f = c refl
is_cornered NormS a b c d e f = d refl
is_cornered NormL a b c d e f = e refl
is_cornered DivS a b c d e f = f refl
is_cornered op a b c d e f = tt

pub op_steady : ShiftsRound → (op : Op) → IsCornered op → IsSteady (row_of op).takes (number_of (Call op))
op_steady law Add h = two_steady W16 W16 (number_of (Call Add)) (λ y f. then16 (λ (x : ℤ). x +ℤ y) (Rises (add_up y))) (λ x f. then16 (λ (y : ℤ). x +ℤ y) (Rises (added_up x)))
op_steady law Sub h = two_steady W16 W16 (number_of (Call Sub)) (λ y f. then16 (λ (x : ℤ). x -ℤ y) (Rises (sub_up y))) (λ x f. then16 (λ (y : ℤ). x -ℤ y) (Falls (subtracted_down x)))
op_steady law Shl h = two_steady W16 W16 (number_of (Call Shl)) (λ c f. Rises (shift_value clip16 clip16_up c)) (λ v f. shift_count clip16 clip16_up v (kept16 v f))
op_steady law Shr h = two_steady W16 W16 (number_of (Call Shr)) (λ c f. Rises (shift_value clip16 clip16_up (neg_ℤ c))) (λ v f. shift_back_count clip16 clip16_up v (kept16 v f))
op_steady law ExtractH h = one_steady W32 (number_of (Call ExtractH)) (Rises (floor_up 65536 (omega arith)))
op_steady law Mult h = two_steady W16 W16 (number_of (Call Mult)) (λ y f. fraction (λ (x : ℤ). x *ℤ y) (times_steady y)) (λ x f. fraction (λ (y : ℤ). x *ℤ y) (timed_steady x))
op_steady law LMult h = two_steady W16 W16 (number_of (Call LMult)) (λ b f. then32 (λ (a : ℤ). product_of a b) (product_left b)) (λ a f. then32 (λ (b : ℤ). product_of a b) (product_right a))
op_steady law Negate h = one_steady W16 (number_of (Call Negate)) (then16 neg_ℤ (Falls neg_down))
op_steady law Round h = one_steady W32 (number_of (Call Round)) (Rises rounded_up)
op_steady law LMac h = three_steady W32 W16 W16 (number_of (Call LMac)) (λ a b. sum_first a b) (λ x b. sum_second x b) (λ x a. sum_third x a)
op_steady law LMsu h = three_steady W32 W16 W16 (number_of (Call LMsu)) (λ a b. difference_first a b) (λ x b. difference_second x b) (λ x a. difference_third x a)
op_steady law MacR h = three_steady W32 W16 W16 (number_of (Call MacR)) (λ a b. then_rounded (λ (x : ℤ). accumulated x a b) (sum_first a b)) (λ x b. then_rounded (λ (a : ℤ). accumulated x a b) (sum_second x b)) (λ x a. then_rounded (λ (b : ℤ). accumulated x a b) (sum_third x a))
op_steady law MsuR h = three_steady W32 W16 W16 (number_of (Call MsuR)) (λ a b. then_rounded (λ (x : ℤ). reduced x a b) (difference_first a b)) (λ x b. then_rounded (λ (a : ℤ). reduced x a b) (difference_second x b)) (λ x a. then_rounded (λ (b : ℤ). reduced x a b) (difference_third x a))
op_steady law LAdd h = two_steady W32 W32 (number_of (Call LAdd)) (λ y f. then32 (λ (x : ℤ). x +ℤ y) (Rises (add_up y))) (λ x f. then32 (λ (y : ℤ). x +ℤ y) (Rises (added_up x)))
op_steady law LSub h = two_steady W32 W32 (number_of (Call LSub)) (λ y f. then32 (λ (x : ℤ). x -ℤ y) (Rises (sub_up y))) (λ x f. then32 (λ (y : ℤ). x -ℤ y) (Falls (subtracted_down x)))
op_steady law LNegate h = one_steady W32 (number_of (Call LNegate)) (then32 neg_ℤ (Falls neg_down))
op_steady law MultR h = two_steady W16 W16 (number_of (Call MultR))
    (λ y f. then16 (λ (x : ℤ). floor (x *ℤ y +ℤ pos (2 ^ 14)) (2 ^ 15)) (rounded_product (λ (x : ℤ). x *ℤ y) (times_steady y)))
    (λ x f. then16 (λ (y : ℤ). floor (x *ℤ y +ℤ pos (2 ^ 14)) (2 ^ 15)) (rounded_product (λ (y : ℤ). x *ℤ y) (timed_steady x)))
op_steady law LShl h = two_steady W32 W16 (number_of (Call LShl)) (λ c f. Rises (shift_value clip32 clip32_up c)) (λ v f. shift_count clip32 clip32_up v (kept32 v f))
op_steady law LShr h = two_steady W32 W16 (number_of (Call LShr)) (λ c f. Rises (shift_value clip32 clip32_up (neg_ℤ c))) (λ v f. shift_back_count clip32 clip32_up v (kept32 v f))
op_steady law ShrR h = two_steady W16 W16 (number_of (Call ShrR)) (λ c f. Rises (rounded_value clip16 clip16_up c)) (λ v f. rounded_count (rounds_of law) clip16 clip16_up v (kept16 v f))
op_steady law LShrR h = two_steady W32 W16 (number_of (Call LShrR)) (λ c f. Rises (rounded_value clip32 clip32_up c)) (λ v f. rounded_count (rounds_of law) clip32 clip32_up v (kept32 v f))
op_steady law LDepositH h = one_steady W16 (number_of (Call LDepositH)) (Rises deposit_up)
op_steady law LDepositL h = one_steady W16 (number_of (Call LDepositL)) (Rises same_up)
op_steady law AbsS h = absurd h
op_steady law LAbs h = absurd h
op_steady law ExtractL h = absurd h
op_steady law NormS h = absurd h
op_steady law NormL h = absurd h
op_steady law DivS h = absurd h

-- ---- each of them has a value

at_one : (P : List ℤ → Type 0) (w : Width) (args : List ℤ) → FitWidths (w ∷ []) args → ((x : ℤ) → P (x ∷ [])) → P args
at_one P w [] fits h = absurd fits
at_one P w (x ∷ []) fits h = h x
at_one P w (x ∷ y ∷ more) fits h = absurd fits.1

at_two : (P : List ℤ → Type 0) (w v : Width) (args : List ℤ) → FitWidths (w ∷ v ∷ []) args → ((x y : ℤ) → P (x ∷ y ∷ [])) → P args
at_two P w v [] fits h = absurd fits
at_two P w v (x ∷ []) fits h = absurd fits.1
at_two P w v (x ∷ y ∷ []) fits h = h x y
at_two P w v (x ∷ y ∷ z ∷ more) fits h = absurd fits.1.1

at_three : (P : List ℤ → Type 0) (w v u : Width) (args : List ℤ) → FitWidths (w ∷ v ∷ u ∷ []) args → ((x y z : ℤ) → P (x ∷ y ∷ z ∷ [])) → P args
at_three P w v u [] fits h = absurd fits
at_three P w v u (x ∷ []) fits h = absurd fits.1
at_three P w v u (x ∷ y ∷ []) fits h = absurd fits.1.1
at_three P w v u (x ∷ y ∷ z ∷ []) fits h = h x y z
at_three P w v u (x ∷ y ∷ z ∷ t ∷ more) fits h = absurd fits.1.1.1

pub valued : (op : Op) → (op ≡ DivS → ⊥) → (args : List ℤ) → AreOperands op args → value_of op args ≡ Some (number_of (Call op) args)
valued Add h args fits = at_two (λ (l : List ℤ). value_of Add l ≡ Some (number_of (Call Add) l)) W16 W16 args fits (λ x y. refl)
valued Sub h args fits = at_two (λ (l : List ℤ). value_of Sub l ≡ Some (number_of (Call Sub) l)) W16 W16 args fits (λ x y. refl)
valued AbsS h args fits = at_one (λ (l : List ℤ). value_of AbsS l ≡ Some (number_of (Call AbsS) l)) W16 args fits (λ x. refl)
valued Shl h args fits = at_two (λ (l : List ℤ). value_of Shl l ≡ Some (number_of (Call Shl) l)) W16 W16 args fits (λ x y. refl)
valued Shr h args fits = at_two (λ (l : List ℤ). value_of Shr l ≡ Some (number_of (Call Shr) l)) W16 W16 args fits (λ x y. refl)
valued ExtractH h args fits = at_one (λ (l : List ℤ). value_of ExtractH l ≡ Some (number_of (Call ExtractH) l)) W32 args fits (λ x. refl)
valued ExtractL h args fits = at_one (λ (l : List ℤ). value_of ExtractL l ≡ Some (number_of (Call ExtractL) l)) W32 args fits (λ x. refl)
valued Mult h args fits = at_two (λ (l : List ℤ). value_of Mult l ≡ Some (number_of (Call Mult) l)) W16 W16 args fits (λ x y. refl)
valued LMult h args fits = at_two (λ (l : List ℤ). value_of LMult l ≡ Some (number_of (Call LMult) l)) W16 W16 args fits (λ x y. refl)
valued Negate h args fits = at_one (λ (l : List ℤ). value_of Negate l ≡ Some (number_of (Call Negate) l)) W16 args fits (λ x. refl)
valued Round h args fits = at_one (λ (l : List ℤ). value_of Round l ≡ Some (number_of (Call Round) l)) W32 args fits (λ x. refl)
valued LMac h args fits = at_three (λ (l : List ℤ). value_of LMac l ≡ Some (number_of (Call LMac) l)) W32 W16 W16 args fits (λ x y z. refl)
valued LMsu h args fits = at_three (λ (l : List ℤ). value_of LMsu l ≡ Some (number_of (Call LMsu) l)) W32 W16 W16 args fits (λ x y z. refl)
valued MacR h args fits = at_three (λ (l : List ℤ). value_of MacR l ≡ Some (number_of (Call MacR) l)) W32 W16 W16 args fits (λ x y z. refl)
valued MsuR h args fits = at_three (λ (l : List ℤ). value_of MsuR l ≡ Some (number_of (Call MsuR) l)) W32 W16 W16 args fits (λ x y z. refl)
valued LAdd h args fits = at_two (λ (l : List ℤ). value_of LAdd l ≡ Some (number_of (Call LAdd) l)) W32 W32 args fits (λ x y. refl)
valued LSub h args fits = at_two (λ (l : List ℤ). value_of LSub l ≡ Some (number_of (Call LSub) l)) W32 W32 args fits (λ x y. refl)
valued LNegate h args fits = at_one (λ (l : List ℤ). value_of LNegate l ≡ Some (number_of (Call LNegate) l)) W32 args fits (λ x. refl)
valued MultR h args fits = at_two (λ (l : List ℤ). value_of MultR l ≡ Some (number_of (Call MultR) l)) W16 W16 args fits (λ x y. refl)
valued LShl h args fits = at_two (λ (l : List ℤ). value_of LShl l ≡ Some (number_of (Call LShl) l)) W32 W16 args fits (λ x y. refl)
valued LShr h args fits = at_two (λ (l : List ℤ). value_of LShr l ≡ Some (number_of (Call LShr) l)) W32 W16 args fits (λ x y. refl)
valued ShrR h args fits = at_two (λ (l : List ℤ). value_of ShrR l ≡ Some (number_of (Call ShrR) l)) W16 W16 args fits (λ x y. refl)
valued LShrR h args fits = at_two (λ (l : List ℤ). value_of LShrR l ≡ Some (number_of (Call LShrR) l)) W32 W16 args fits (λ x y. refl)
valued LAbs h args fits = at_one (λ (l : List ℤ). value_of LAbs l ≡ Some (number_of (Call LAbs) l)) W32 args fits (λ x. refl)
valued LDepositH h args fits = at_one (λ (l : List ℤ). value_of LDepositH l ≡ Some (number_of (Call LDepositH) l)) W16 args fits (λ x. refl)
valued LDepositL h args fits = at_one (λ (l : List ℤ). value_of LDepositL l ≡ Some (number_of (Call LDepositL) l)) W16 args fits (λ x. refl)
valued NormS h args fits = at_one (λ (l : List ℤ). value_of NormS l ≡ Some (number_of (Call NormS) l)) W16 args fits (λ x. refl)
valued NormL h args fits = at_one (λ (l : List ℤ). value_of NormL l ≡ Some (number_of (Call NormL) l)) W32 args fits (λ x. refl)
valued DivS h args fits = absurd (h refl)
