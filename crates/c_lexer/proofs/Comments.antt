-- The first `*/` in a text.
use Rattle.std.proofs.Common.{◌≡◌, ℕ, zero, suc, ◌+◌, ◌≤◌, ◌<◌, true, false, eqb, ◌&&◌, List, [], ◌∷◌, length, take, codes, nat_eq, Option, Some, None, option_map, refl, sym, ◌∙◌, inl, inr, arith}
use Rattle.std.specs.List.{starts_with}
use Rattle.std.proofs.lemmas.Bool.{cases_Bool, true≢false, cond-true, cond-false, and_parts, eqb-true}
use Rattle.std.proofs.lemmas.List.{get_or-take}
use Rattle.std.proofs.lemmas.Option.{none-some, same_Some}
use Rattle.c_lexer.specs.Lexeme.{closing_len}
use Rattle.c_lexer.specs.Piece.{ClosesAt, ClosesFirst}

-- ---- at the front

closes_front : (text : List ℕ) → starts_with nat_eq text (codes "*/") ≡ true → ClosesAt text 0
closes_front [] starts = absurd (true≢false (sym starts))
closes_front (b ∷ []) starts = absurd (true≢false (sym (and_parts (eqb 42 b) false starts).1))
closes_front (b ∷ c ∷ cs) starts =
    let both = and_parts (eqb 42 b) (eqb 47 c && true) starts in
    (sym (eqb-true 42 b both.0), sym (eqb-true 47 c (and_parts (eqb 47 c) true both.1).0))

front_closes : (text : List ℕ) → ClosesAt text 0 → starts_with nat_eq text (codes "*/") ≡ true
front_closes [] closes = absurd (omega (arith, closes.0))
front_closes (b ∷ []) closes = absurd (omega (arith, closes.1))
front_closes (b ∷ c ∷ cs) closes = let star = closes.0 in let slash = closes.1 in rw (star, slash) refl

closes_later : (text : List ℕ) (n : ℕ) → ClosesAt text n → n + 2 ≤ length text
closes_later [] zero closes = absurd (omega (arith, closes.0))
closes_later [] (suc n) closes = absurd (omega (arith, closes.0))
closes_later (b ∷ []) zero closes = absurd (omega (arith, closes.1))
closes_later (b ∷ c ∷ cs) zero closes = omega arith
closes_later (b ∷ bs) (suc n) closes = omega (arith, closes_later bs n closes)

-- ---- anywhere

-- the first `*/`, up to which the text has this many bytes
pub record Closing (text : List ℕ) (len : ℕ) : Type 0 where
  pub inner : ℕ
  pub is : len ≡ inner + 2
  pub within : len ≤ length text
  pub closed : ClosesFirst text inner

pub closing_some : (text : List ℕ) (len : ℕ) → closing_len text ≡ Some len → Closing text len
closing_some [] len e = absurd (none-some len e)
closing_some (b ∷ bs) len e =
    let starts = starts_with nat_eq (b ∷ bs) (codes "*/") in
    elim (cases_Bool starts) [
      | inl here ↦
          let is : 2 ≡ len = same_Some 2 len (sym (cond-true starts (Some 2) (option_map suc (closing_len bs)) here) ∙ e) in
          let closes = closes_front (b ∷ bs) here in
          record { inner = 0; is = omega (arith, is); within = omega (arith, is, closes_later (b ∷ bs) 0 closes); closed = record { closes = closes; first = λ m below _. absurd (omega (arith, below)) } }
      | inr beyond ↦ after (closing_len bs) refl (sym (cond-false starts (Some 2) (option_map suc (closing_len bs)) beyond) ∙ e) (closing_some bs) beyond
    ]
  where
    before : (inner : ℕ) → ((m : ℕ) → m < inner → ClosesAt bs m → ⊥) → starts_with nat_eq (b ∷ bs) (codes "*/") ≡ false → (m : ℕ) → m < suc inner → ClosesAt (b ∷ bs) m → ⊥
    before inner none beyond zero below closes = true≢false (sym (front_closes (b ∷ bs) closes) ∙ beyond)
    before inner none beyond (suc m) below closes = none m (omega (arith, below)) closes

    after : (o : Option ℕ) → closing_len bs ≡ o → option_map suc o ≡ Some len → ((n : ℕ) → closing_len bs ≡ Some n → Closing bs n) → starts_with nat_eq (b ∷ bs) (codes "*/") ≡ false → Closing (b ∷ bs) len
    after None found e more beyond = absurd (none-some len e)
    after (Some n) found e more beyond =
        let is : suc n ≡ len = same_Some (suc n) len e in
        let rest = more n found in
        record { inner = suc rest.inner; is = omega (arith, is, rest.is); within = omega (arith, is, rest.within); closed = record { closes = rest.closed.closes; first = before rest.inner rest.closed.first beyond } }

pub closing_none : (text : List ℕ) → closing_len text ≡ None → (n : ℕ) → ClosesAt text n → ⊥
closing_none [] e zero closes = absurd (omega (arith, closes.0))
closing_none [] e (suc n) closes = absurd (omega (arith, closes.0))
closing_none (b ∷ bs) e n closes =
    let starts = starts_with nat_eq (b ∷ bs) (codes "*/") in
    elim (cases_Bool starts) [
      | inl here ↦ absurd (none-some 2 (sym e ∙ cond-true starts (Some 2) (option_map suc (closing_len bs)) here))
      | inr beyond ↦ by n (closing_none bs (empty (closing_len bs) (sym (cond-false starts (Some 2) (option_map suc (closing_len bs)) beyond) ∙ e))) beyond closes
    ]
  where
    empty : (o : Option ℕ) → option_map suc o ≡ None → o ≡ None
    empty None e = refl
    empty (Some m) e = absurd (none-some (suc m) (sym e))

    by : (n : ℕ) → ((m : ℕ) → ClosesAt bs m → ⊥) → starts_with nat_eq (b ∷ bs) (codes "*/") ≡ false → ClosesAt (b ∷ bs) n → ⊥
    by zero none beyond closes = true≢false (sym (front_closes (b ∷ bs) closes) ∙ beyond)
    by (suc m) none beyond closes = none m closes

-- ---- in a front of the text

pub closes_in : (text : List ℕ) (k n : ℕ) → suc n < k → ClosesAt text n → ClosesAt (take k text) n
closes_in text k n inside closes = (get_or-take k text n 0 (omega (arith, inside)) ∙ closes.0, get_or-take k text (suc n) 0 inside ∙ closes.1)

pub closes_out : (text : List ℕ) (k n : ℕ) → suc n < k → ClosesAt (take k text) n → ClosesAt text n
closes_out text k n inside closes = (sym (get_or-take k text n 0 (omega (arith, inside))) ∙ closes.0, sym (get_or-take k text (suc n) 0 inside) ∙ closes.1)
