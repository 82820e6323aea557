-- Where a site leads, by the range of its number.
use Rattle.std.proofs.Common.{◌≡◌, ℕ, ℤ, ◌≤ℤ◌, ◌<ℤ◌, Bool, true, false, int_lt, List, Option, Some, None, if◌then◌else◌, sym, ap, ◌∙◌, arith, ◌⊎◌, inl, inr, ⊎_elim}
use Rattle.std.specs.Int.{w32, cast_signed}
use Rattle.std.proofs.lemmas.Bool.{cases_Bool}
use Rattle.std.proofs.lemmas.Int.{ints}
use Rattle.template_runs.specs.Courses.{Ends, Stops}
use Rattle.operator_lowering.specs.Sites.{between, led_to}

below_is : (a b : ℤ) → a <ℤ b → int_lt a b ≡ true
below_is a b less = grind (arith, ints)

not_below_is : (a b : ℤ) → b ≤ℤ a → int_lt a b ≡ false
not_below_is a b most = grind (arith, ints)

module _ (low high x : ℤ) where
  pub between_inside : low ≤ℤ x → x ≤ℤ high → between low high x ≡ Some x
  between_inside least most =
      ap (λ b. if b then None else (if int_lt high x then None else Some x)) (not_below_is x low least)
      ∙ ap (λ (b : Bool). if b then None else Some x) (not_below_is high x most)

  pub between_above : high <ℤ x → low ≤ℤ x → between low high x ≡ None
  between_above more least =
      ap (λ b. if b then None else (if int_lt high x then None else Some x)) (not_below_is x low least)
      ∙ ap (λ (b : Bool). if b then None else Some x) (below_is high x more)

  pub between_below : x <ℤ low → between low high x ≡ None
  between_below fewer = ap (λ b. if b then None else (if int_lt high x then None else Some x)) (below_is x low fewer)

-- a number lies inside, or there is none
pub either_way : (low high x : ℤ) → (between low high x ≡ Some x) ⊎ (between low high x ≡ None)
either_way low high x =
    ⊎_elim (λ (e : int_lt x low ≡ true). inr (ap (λ b. if b then None else (if int_lt high x then None else Some x)) e))
    (λ (e : int_lt x low ≡ false).
    ⊎_elim
    (λ (f : int_lt high x ≡ true). inr (ap (λ b. if b then None else (if int_lt high x then None else Some x)) e ∙ ap (λ (b : Bool). if b then None else Some x) f))
    (λ (f : int_lt high x ≡ false). inl (ap (λ b. if b then None else (if int_lt high x then None else Some x)) e ∙ ap (λ (b : Bool). if b then None else Some x) f))
    (cases_Bool (int_lt high x)))
    (cases_Bool (int_lt x low))

-- a value, and a stop
pub leads : {o : Option ℤ} {v w flag : ℤ} (site : ℕ) {input : List ℤ} → v ≡ w → o ≡ Some w → Ends v flag input ≡ led_to o site flag input
leads {o} {v} {w} {flag} site {input} value is = ap (λ x. Ends x flag input) value ∙ ap (λ p. led_to p site flag input) (sym is)

pub halts : {o : Option ℤ} {v : ℤ} (site : ℕ) (flag : ℤ) (input : List ℤ) → v ≡ cast_signed w32 site → o ≡ None → Stops v ≡ led_to o site flag input
halts {o} {v} site flag input number is = ap Stops number ∙ ap (λ p. led_to p site flag input) (sym is)
