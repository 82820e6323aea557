-- The norm of a number, found by halves.
use Rattle.std.proofs.Common.{◌≡◌, ◌≢◌, ℕ, zero, suc, ◌+◌, ◌-◌, ◌*◌, ◌/◌, ◌^◌, ◌<◌, ◌≤◌, ℤ, pos, negsuc, not, if◌then◌else◌, sym, ap, ◌∙◌, subst, arith, ⊎_elim, pow_pos, pow_mono, mul_assoc}
use Rattle.std.specs.Prelude.{FitsSigned, bit_xor}
use Rattle.std.specs.Int.{w32, cast_signed}
use Rattle.std.specs.Int.Count.{count_leading_zeros}
use Rattle.std.specs.Int.Signed.{mag}
use Rattle.std.proofs.Math.Pow.{pow-add}
use Rattle.std.proofs.lemmas.Bool.{cases_lt}
use Rattle.std.proofs.lemmas.Int.{ints, to_z_pos}
use lib.Bits.{xor_add_and}
use Rattle.std.proofs.lemmas.Grind.{common_steps}
use Rattle.std.proofs.lemmas.Nat.{div_below, le-div, mul-le, leading_top, and_mask}
use Rattle.operator_meaning.specs.Value.{norm}
use Rattle.operator_meaning.proofs.Norms.{counted}
use Rattle.template_runs.specs.Courses.{Final}
use Rattle.template_runs.specs.Values.{added, equal, to_left, to_right, to_right_signed, other_bits}
use Rattle.operator_lowering.proofs.Numbers.{equal_true, equal_false}
use Rattle.operator_lowering.proofs.Sums.{sign_positive, sign_negative}
use Rattle.operator_lowering.proofs.Trees.{by_turned}

-- ---- a number that is doubled so often that it lies in the upper half has that norm

only_power : (u j k m : ℕ) → 2 ^ j ≤ u → u < 2 ^ (j + 1) → 2 ^ k ≤ u * 2 ^ m → u * 2 ^ m < 2 ^ (k + 1) → j + m ≡ k
only_power u j k m low high least most =
    let below : 2 ^ (j + m) ≤ u * 2 ^ m = subst (λ x. x ≤ u * 2 ^ m) (sym (pow-add 2 j m)) (mul-le (2 ^ j) (2 ^ m) u (2 ^ m) low (omega arith)) in
    let some = pow_pos m in
    let above : u * 2 ^ m < 2 ^ (j + 1 + m) = subst (λ x. u * 2 ^ m < x) (sym (pow-add 2 (j + 1) m)) (less_product u (2 ^ (j + 1)) (2 ^ m) high some) in
    ⊎_elim
    (λ (e : j + m < k). absurd (let p : 2 ^ (j + 1 + m) ≤ 2 ^ k = pow_mono (omega arith) in omega arith))
    (λ (e : k ≤ j + m).
    ⊎_elim (λ (f : k < j + m). absurd (let p : 2 ^ (k + 1) ≤ 2 ^ (j + m) = pow_mono (omega arith) in omega arith)) (λ (f : j + m ≤ k). omega arith) (cases_lt k (j + m)))
    (cases_lt (j + m) k)
  where
    less_product : (a b c : ℕ) → a < b → 0 < c → a * c < b * c
    less_product a b c less some = let p : (a + 1) * c ≤ b * c = mul-le (a + 1) c b c (omega arith) (omega arith) in omega arith

pub norm_by : (k s m : ℕ) (x : ℤ) → k + s ≡ 31 → x ≢ pos 0 → 0 < mag x → mag x < 2 ^ (k + 1) → 2 ^ k ≤ mag x * 2 ^ m → mag x * 2 ^ m < 2 ^ (k + 1) → norm k x ≡ pos m
norm_by k s m x sum other some small low high =
    let c = counted k s x sum other small in
    let width : k + 1 ≤ 32 = omega arith in
    let most : 2 ^ (k + 1) ≤ 4294967296 = pow_mono width in
    let fits : mag x < 4294967296 = omega arith in
    let top = leading_top 32 (mag x) some fits in
    let j : ℕ = top.0 in
    let zeros : count_leading_zeros 32 (mag x) + suc j ≡ 32 = top.1 in
    let next : 2 ^ suc j ≡ 2 ^ (j + 1) = ap (λ n. 2 ^ n) (let e : suc j ≡ j + 1 = omega arith in e) in
    let is : j + m ≡ k = only_power (mag x) j k m top.2 (subst (λ n. mag x < n) next top.3) low high in
    let more : count_leading_zeros 32 (mag x) ≡ c.shifts + s = c.zeros in
    let same : c.shifts ≡ m = omega arith in
    c.value ∙ ap pos same

-- ---- shifts of numbers that are not negative

pub right_of : (n t : ℕ) → n < 2147483648 → to_right (pos n) t ≡ pos (n / 2 ^ t)
unfolding to_right
right_of n t small = to_z_pos w32 (n / 2 ^ t) (let less = shrinks n (2 ^ t) in omega arith)
  where
    shrinks : (n d : ℕ) → n / d ≤ n
    shrinks n d = omega arith

left_of : (n s : ℕ) → n * 2 ^ s < 2147483648 → to_left (pos n) s ≡ pos (n * 2 ^ s)
unfolding to_left
left_of n s small = grind (arith, ints)

sum_of : (m s : ℕ) → m < 100 → s < 100 → added (pos m) (pos s) ≡ pos (m + s)
unfolding added
sum_of m s small few = grind (arith, ints)

less_times : (a b c : ℕ) → a < b → 0 < c → a * c < b * c
less_times a b c less some = let p : (a + 1) * c ≤ b * c = mul-le (a + 1) c b c (omega arith) (omega arith) in omega arith

few_times : (u m : ℕ) → u * 2 ^ m < 2147483648 → 0 < u * 2 ^ m → m ≤ 31
few_times u m small some =
    ⊎_elim (λ (less : m < 32). omega arith)
    (λ (more : 32 ≤ m). absurd (let power : 4294967296 ≤ 2 ^ m = pow_mono more in let p : 1 * 2 ^ m ≤ u * 2 ^ m = mul-le 1 (2 ^ m) u (2 ^ m) (positive u (2 ^ m) some) (omega arith) in omega arith))
    (cases_lt m 32)
  where
    positive : (u p : ℕ) → 0 < u * p → 1 ≤ u
    positive zero p some = absurd (omega arith)
    positive (suc u) p some = omega arith

-- ---- one half

-- v is u doubled m times, from low to 2^top, and c is m + 1
pub record IsStage (top u low : ℕ) (v c : ℤ) : Type 0 where
  pub number : ℕ
  pub times : ℕ
  pub value : v ≡ pos number
  pub count : c ≡ pos (times + 1)
  pub doubled : number ≡ u * 2 ^ times
  pub least : low ≤ number
  pub most : number < 2 ^ top
  pub few : times ≤ 31

pub halved : (top u low t s : ℕ) (v c : ℤ) → top ≤ 31 → IsStage top u low v c → t + s ≤ top → 0 < low → 2 ^ t ≤ low * 2 ^ s → s < 32 → {z : Final} (f : ℤ → ℤ → Final)
    → ((v' c' : ℤ) → IsStage top u (2 ^ t) v' c' → f v' c' ≡ z) → (if not (equal (to_right v t) (pos 0)) then f v c else f (to_left v s) (added c (pos s))) ≡ z
halved top u low t s v c within stage enough some reach short {z} f go =
    let n = stage.number in
    let m = stage.times in
    let width : 2 ^ top ≤ 2147483648 = pow_mono within in
    let most = stage.most in
    let small : n < 2147483648 = omega arith in
    let right : to_right v t ≡ pos (n / 2 ^ t) = ap (λ x. to_right x t) stage.value ∙ right_of n t small in
    by_turned (equal (to_right v t) (pos 0))
    (λ e. go (to_left v s) (added c (pos s)) (doubled_more (below n t (sym right ∙ equal_true _ _ e))))
    (λ e. go v c (record { number = n; times = m; value = stage.value; count = stage.count; doubled = stage.doubled; least = above n t (λ is. equal_false _ _ e (right ∙ is)); most = stage.most; few = stage.few }))
  where
    below : (n t : ℕ) → pos (n / 2 ^ t) ≡ pos 0 → n < 2 ^ t
    below n t e =
        ⊎_elim (λ (less : n < 2 ^ t). less)
        (λ (more : 2 ^ t ≤ n). absurd (let zero_is : n / 2 ^ t ≡ 0 = cc in let one : 1 ≤ n / 2 ^ t = le-div 1 n (2 ^ t) (pow_pos t) (omega arith) in omega arith))
        (cases_lt n (2 ^ t))

    above : (n t : ℕ) → (pos (n / 2 ^ t) ≡ pos 0 → ⊥) → 2 ^ t ≤ n
    above n t other =
        ⊎_elim (λ (less : n < 2 ^ t). absurd (other (ap pos (let none : n / 2 ^ t < 1 = div_below n (2 ^ t) 1 (pow_pos t) (omega arith) in omega arith))))
        (λ (more : 2 ^ t ≤ n). more)
        (cases_lt n (2 ^ t))

    doubled_more : stage.number < 2 ^ t → IsStage top u (2 ^ t) (to_left v s) (added c (pos s))
    doubled_more less =
        let n = stage.number in
        let m = stage.times in
        let width : 2 ^ top ≤ 2147483648 = pow_mono within in
        let room : 2 ^ (t + s) ≤ 2 ^ top = pow_mono enough in
        let product : n * 2 ^ s < 2 ^ (t + s) = subst (λ x. n * 2 ^ s < x) (sym (pow-add 2 t s)) (less_times n (2 ^ t) (2 ^ s) less (pow_pos s)) in
        let low_product : low * 2 ^ s ≤ n * 2 ^ s = mul-le low (2 ^ s) n (2 ^ s) stage.least (omega arith) in
        let power = pow_pos t in
        let whole : n * 2 ^ s ≡ u * 2 ^ (m + s) = ap (λ x. x * 2 ^ s) stage.doubled ∙ mul_assoc u (2 ^ m) (2 ^ s) ∙ ap (λ x. u * x) (sym (pow-add 2 m s)) in
        let fits : n * 2 ^ s < 2147483648 = omega arith in
        let few = few_times u (m + s) (subst (λ x. x < 2147483648) whole fits) (subst (λ x. 0 < x) whole (omega arith)) in
        let was_few = stage.few in
        record {
          number = n * 2 ^ s;
          times = m + s;
          value = ap (λ x. to_left x s) stage.value ∙ left_of n s fits;
          count = ap (λ x. added x (pos s)) stage.count ∙ sum_of (m + 1) s (omega arith) (omega arith) ∙ ap pos (let e : m + 1 + s ≡ m + s + 1 = omega arith in e);
          doubled = whole;
          least = omega arith;
          most = omega arith;
          few = few;
        }

-- the bits of a number from its sign on: of a negative number, of its opposite less 1
own_bits : (n : ℕ) → n < 2147483648 → other_bits (pos n) (pos 0) ≡ pos n
unfolding other_bits
own_bits n small = ap (cast_signed w32) (let e : bit_xor n 0 ≡ n = grind (arith, common_steps) in e) ∙ to_z_pos w32 n (omega arith)

turned : (a : ℕ) → a < 2 ^ 32 → bit_xor a (2 ^ 32 - 1) ≡ 2 ^ 32 - 1 - a
turned a small = let p = xor_add_and a (2 ^ 32 - 1) in let q = and_mask a 32 in omega arith

turned_bits : (n : ℕ) → n < 2147483648 → other_bits (negsuc n) (negsuc 0) ≡ pos n
unfolding other_bits
turned_bits n small =
    ap (cast_signed w32) (turned (4294967296 - suc n) (omega arith) ∙ (let e : 2 ^ 32 - 1 - (4294967296 - suc n) ≡ n = omega arith in e)) ∙ to_z_pos w32 n (omega arith)

pub bits_are : (a : ℤ) → FitsSigned w32 a → (other_bits a (to_right_signed a 31) ≡ pos (mag a)) × (mag a < 2147483648)
bits_are (pos n) fits = let small = fits.sfits in (ap (other_bits (pos n)) (sign_positive (pos n) (grind (arith, ints)) (grind (arith, ints))) ∙ own_bits n small, small)
bits_are (negsuc n) fits = let small = fits.sfits in (ap (other_bits (negsuc n)) (sign_negative (negsuc n) (grind (arith, ints)) (grind (arith, ints))) ∙ turned_bits n small, small)
