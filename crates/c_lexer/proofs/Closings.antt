-- The end of a comment, looked for from one byte to the next.
use Rattle.std.proofs.Common.{◌≡◌, ℕ, suc, ◌+◌, ◌≤◌, ◌<◌, true, false, List, ◌∷◌, length, drop, codes, get_or, nat_eq, Option, Some, None, option_map, refl, ap, arith}
use Rattle.std.specs.List.{starts_with}
use Rattle.std.proofs.Math.Seq.{drop-cons}
use Rattle.std.proofs.lemmas.List.{drop_all}
use Rattle.c_lexer.specs.Lexeme.{closing_len}

-- what is found from this byte on, counted from the beginning
unfoldable pub closing_from : ℕ → List ℕ → Option ℕ
closing_from i text = option_map (λ n. n + i) (closing_len (drop i text))

pub closing_start : (text : List ℕ) → closing_len text ≡ closing_from 0 text
unfolding closing_from
closing_start text = by (closing_len text) where
  by : (o : Option ℕ) → o ≡ option_map (λ n. n + 0) o
  by (Some n) = ap (λ (m : ℕ). Some m) (omega arith)
  by None = refl

pub closing_found : (text : List ℕ) (i : ℕ) → i < length text → starts_with nat_eq (drop i text) (codes "*/") ≡ true → closing_from i text ≡ Some (i + 2)
unfolding closing_from
closing_found text i below found =
    let cons = drop-cons text i 0 below in
    let first : starts_with nat_eq (get_or text i 0 ∷ drop (suc i) text) (codes "*/") ≡ true = rw cons at found in
    rw (cons, first) (ap (λ (m : ℕ). Some m) (omega arith))

pub closing_step : (text : List ℕ) (i : ℕ) → i < length text → starts_with nat_eq (drop i text) (codes "*/") ≡ false → closing_from i text ≡ closing_from (i + 1) text
unfolding closing_from
closing_step text i below other =
    let cons = drop-cons text i 0 below in
    let first : starts_with nat_eq (get_or text i 0 ∷ drop (suc i) text) (codes "*/") ≡ false = rw cons at other in
    let next : i + 1 ≡ suc i = omega arith in
    rw (cons, first, next) (by (closing_len (drop (suc i) text))) where
      by : (o : Option ℕ) → option_map (λ n. n + i) (option_map suc o) ≡ option_map (λ n. n + suc i) o
      by (Some n) = ap (λ (m : ℕ). Some m) (omega arith)
      by None = refl

pub closing_end : (text : List ℕ) (i : ℕ) → length text ≤ i → closing_from i text ≡ None
unfolding closing_from
closing_end text i over = rw (drop_all i text over) refl

pub ruleset closings = (closing_start, closing_found, closing_step, closing_end)
