-- What a loop keeps that reads one thing after another: with the turns that are left, from what is found and what is
-- not read yet, reading comes where it comes from the start.
use Rattle.std.proofs.Common.{◌≡◌, ℕ, suc, ◌+◌, ◌-◌, ◌<◌, ◌≤◌, Bool, true, false, List, [], ◌∷◌, ◌++◌, refl, ap, subst, ◌∙◌, sym, arith, length}
use Rattle.std.specs.Prelude.{Result, Ok, Err, if◌then◌else◌, IsErrAnd}
use Rattle.sat_base.specs.declared.name.At.{At}
use Rattle.c_grammar.specs.declared.refusal.ReadRefusal.{ReadRefusal}
use Rattle.c_grammar.specs.declared.refusal.ReadRefusal.TheVariants as refusal
use Rattle.c_grammar.specs.declared.symbol.Symbol.{Symbol}
use Rattle.c_grammar.specs.declared.symbol.Symbol.TheVariants as symbol
use Rattle.c_grammar.specs.Spots.{Spot}
use Rattle.c_grammar.specs.Symbols.{same_symbol}
use Rattle.right_reading.specs.Lists.{after, many}
use Rattle.right_reading.specs.ReadDeclarations.{more_braced, braced_at, word_at}
use Rattle.right_reading.specs.Stream.{ahead, rest, Fault, Parser, ◌>>=◌, take_at}
use Rattle.right_reading.proofs.OneToken.Afters.{after-taken}
use Rattle.token_reader.specs.Gives.{Fails, Gives}

abbrev Listing : Type 0 → Type 0
Listing A = Result (List A × List Spot) Fault

-- a refusal stops whatever would follow
pub fails_on : {A B : Type 0} (e : ReadRefusal) (y : Result (A × List Spot) Fault) (g : A × List Spot → Result (B × List Spot) Fault) → Fails y e → Fails (y >>= g) e
fails_on refusal.Memory y g h = tt
fails_on {A} (refusal.Syntax tok pos) y g h = ap (λ (z : Result (A × List Spot) Fault). z >>= g) h
fails_on {A} (refusal.TooDeep tok pos) y g h = ap (λ (z : Result (A × List Spot) Fault). z >>= g) h

-- what was refused is what is answered
pub gives_refusal : {A : Type 0} (r : Result A ReadRefusal) (e : ReadRefusal) (j : List Spot) (read : Result (A × List Spot) Fault) → IsErrAnd r (λ f. f ≡ e) → Fails read e → Gives read r j
gives_refusal (Ok x) e j read same h = absurd same
gives_refusal (Err f) e j read same h = subst (λ (g : ReadRefusal). Fails read g) (sym same) h

-- what is left after a token that was passed, or was not
pub rest_passed : (b : Bool) (i j : List Spot) → j ≡ (if b then rest i else i) → b ≡ true → j ≡ rest i
rest_passed true i j e h = e
rest_passed false i j e h = cc

pub rest_kept : (b : Bool) (i j : List Spot) → j ≡ (if b then rest i else i) → b ≡ false → j ≡ i
rest_kept true i j e h = cc
rest_kept false i j e h = e

-- ---- a recursion on a number of turns, beside a loop that counts up

module _ {A : Type 0} (loop : ℕ → List A → Parser (List A)) (next : Parser A) (start : Listing A) (turns at : ℕ) (xs : List A) (i : List Spot) (kept : loop (turns - at) xs i ≡ start) where
  one_more : at < turns → turns - at ≡ suc (turns - (at + 1))
  one_more lt = omega arith

  more : List A × List Spot → Listing A
  more x = loop (turns - (at + 1)) x.0 x.1

  pub turned : at < turns → ((n : ℕ) → loop (suc n) xs i ≡ (next i >>= (λ x. loop n (xs ++ x.0 ∷ []) x.1))) → (x : A) (j : List Spot) → next i ≡ Ok (x, j) → loop (turns - (at + 1)) (xs ++ x ∷ []) j ≡ start
  turned lt step x j e =
      sym (ap (λ (y : Result (A × List Spot) Fault). y >>= (λ x. loop (turns - (at + 1)) (xs ++ x.0 ∷ []) x.1)) e) ∙ sym (step (turns - (at + 1))) ∙ sym (ap (λ (n : ℕ). loop n xs i) (one_more lt)) ∙ kept

  pub failed : at < turns → ((n : ℕ) → loop (suc n) xs i ≡ (next i >>= (λ x. loop n (xs ++ x.0 ∷ []) x.1))) → (e : ReadRefusal) → Fails (next i) e → Fails start e
  failed lt step e bad =
      subst (λ (y : Listing A). Fails y e) (sym (step (turns - (at + 1))) ∙ sym (ap (λ (n : ℕ). loop n xs i) (one_more lt)) ∙ kept)
      (fails_on e (next i) (λ x. loop (turns - (at + 1)) (xs ++ x.0 ∷ []) x.1) bad)

  pub stopped : (j : List Spot) → ((n : ℕ) → loop (suc n) xs i ≡ Ok (xs, j)) → at < turns → start ≡ Ok (xs, j)
  stopped j over lt = sym kept ∙ ap (λ (n : ℕ). loop n xs i) (one_more lt) ∙ over (turns - (at + 1))

  pub ended : turns ≤ at → loop 0 xs i ≡ Ok (xs, i) → start ≡ Ok (xs, i)
  ended le over = let none : turns - at ≡ 0 = omega arith in sym kept ∙ ap (λ (n : ℕ). loop n xs i) none ∙ over

-- ---- while the token ahead goes on with it

module _ {A : Type 0} (goes : Symbol → Bool) (item : Parser A) where
  abbrev chosen : (b : Bool) (n : ℕ) (xs : List A) (i : List Spot) → Listing A
  chosen b n xs i = if b then item i >>= (λ x. many goes item n (xs ++ x.0 ∷ []) x.1) else Ok (xs, i)

  pub many_on : (xs : List A) (i : List Spot) → goes (ahead i) ≡ true → (n : ℕ) → many goes item (suc n) xs i ≡ (item i >>= (λ x. many goes item n (xs ++ x.0 ∷ []) x.1))
  unfolding many
  many_on xs i h n = ap (λ (b : Bool). chosen b n xs i) h

  pub many_over : (xs : List A) (i : List Spot) → goes (ahead i) ≡ false → (n : ℕ) → many goes item (suc n) xs i ≡ Ok (xs, i)
  unfolding many
  many_over xs i h n = ap (λ (b : Bool). chosen b n xs i) h

  pub many_none : (xs : List A) (i : List Spot) → many goes item 0 xs i ≡ Ok (xs, i)
  unfolding many
  many_none xs i = refl

-- ---- with commas between, and one before a `}` where the list is in braces

module _ {A : Type 0} (p : Parser A) where
  abbrev commas : Bool → Bool → ℕ → List A → List Spot → Listing A
  commas comma close n xs i = if comma then (if close then Ok (xs, rest i) else p (rest i) >>= (λ x. more_braced n p (xs ++ x.0 ∷ []) x.1)) else Ok (xs, i)

  pub braced_on : (xs : List A) (i : List Spot) → same_symbol (ahead i) symbol.Comma ≡ true → same_symbol (ahead (rest i)) symbol.CloseBrace ≡ false → (n : ℕ)
      → more_braced (suc n) p xs i ≡ (p (rest i) >>= (λ x. more_braced n p (xs ++ x.0 ∷ []) x.1))
  unfolding more_braced
  braced_on xs i comma stays n = ap (λ (b : Bool). commas b (same_symbol (ahead (rest i)) symbol.CloseBrace) n xs i) comma ∙ ap (λ (b : Bool). commas true b n xs i) stays

  pub braced_last : (xs : List A) (i : List Spot) → same_symbol (ahead i) symbol.Comma ≡ true → same_symbol (ahead (rest i)) symbol.CloseBrace ≡ true → (n : ℕ) → more_braced (suc n) p xs i ≡ Ok (xs, rest i)
  unfolding more_braced
  braced_last xs i comma close n = ap (λ (b : Bool). commas b (same_symbol (ahead (rest i)) symbol.CloseBrace) n xs i) comma ∙ ap (λ (b : Bool). commas true b n xs i) close

  pub braced_over : (xs : List A) (i : List Spot) → same_symbol (ahead i) symbol.Comma ≡ false → (n : ℕ) → more_braced (suc n) p xs i ≡ Ok (xs, i)
  unfolding more_braced
  braced_over xs i none n = ap (λ (b : Bool). commas b (same_symbol (ahead (rest i)) symbol.CloseBrace) n xs i) none

  pub braced_none : (xs : List A) (i : List Spot) → more_braced 0 p xs i ≡ Ok (xs, i)
  unfolding more_braced
  braced_none xs i = refl

  pub comma_passed : (i k : List Spot) → same_symbol (ahead i) symbol.Comma ≡ true → k ≡ rest i → after symbol.Comma p i ≡ p k
  comma_passed i k comma at = after-taken symbol.Comma p i comma ∙ ap p (sym at)

  abbrev pub after_comma : Parser A
  after_comma i = p (rest i)

-- what is ahead after the token that was passed
pub comma_ahead : (i k : List Spot) (s : Symbol) (b : Bool) → k ≡ rest i → s ≡ ahead k → b ≡ same_symbol s symbol.CloseBrace → same_symbol (ahead (rest i)) symbol.CloseBrace ≡ b
comma_ahead i k s b at is same = ap (λ (j : List Spot). same_symbol (ahead j) symbol.CloseBrace) (sym at) ∙ ap (λ (t : Symbol). same_symbol t symbol.CloseBrace) (sym is) ∙ sym same

-- ---- the `}` after a list in braces

module _ {A : Type 0} (p : Parser A) (i : List Spot) where
  abbrev from : A × List Spot → Listing A
  from x = more_braced (length x.1) p (x.0 ∷ []) x.1

  abbrev shut : List A × List Spot → Listing A
  shut x = word_at symbol.CloseBrace x.1 >>= (λ y. Ok (x.0, y.1))

  abbrev found_to : List A → At × List Spot → Listing A
  found_to xs z = Ok (xs, z.1)

  pub braced_unread : (e : ReadRefusal) → Fails (p i) e → Fails (braced_at p i) e
  unfolding braced_at
  braced_unread e bad = fails_on e (p i >>= from) shut (fails_on e (p i) from bad)

  pub braced_unended : (x : A) (j : List Spot) (e : ReadRefusal) → p i ≡ Ok (x, j) → Fails (more_braced (length j) p (x ∷ []) j) e → Fails (braced_at p i) e
  unfolding braced_at
  braced_unended x j e first bad = subst (λ (y : Result (A × List Spot) Fault). Fails (y >>= from >>= shut) e) (sym first) (fails_on e (from (x, j)) shut bad)

  closes : (x : A) (j : List Spot) (xs : List A) (k : List Spot) → p i ≡ Ok (x, j) → more_braced (length j) p (x ∷ []) j ≡ Ok (xs, k) → (take_at symbol.CloseBrace k >>= found_to xs) ≡ braced_at p i
  unfolding braced_at
  closes x j xs k first others =
      sym (assoc (take_at symbol.CloseBrace k)) ∙ ap (λ (y : Listing A). y >>= shut) (sym others) ∙ ap (λ (y : Result (A × List Spot) Fault). y >>= from >>= shut) (sym first)
    where
      passed_to : At × List Spot → Result (Unit {0} × List Spot) Fault
      passed_to z = Ok (tt, z.1)

      found_after : Unit {0} × List Spot → Listing A
      found_after z = Ok (xs, z.1)

      assoc : (y : Result (At × List Spot) Fault) → (y >>= passed_to >>= found_after) ≡ (y >>= found_to xs)
      assoc (Ok z) = refl
      assoc (Err f) = refl

  pub braced_unclosed : (x : A) (j : List Spot) (xs : List A) (k : List Spot) (e : ReadRefusal) → p i ≡ Ok (x, j) → more_braced (length j) p (x ∷ []) j ≡ Ok (xs, k) → Fails (take_at symbol.CloseBrace k) e → Fails (braced_at p i) e
  braced_unclosed x j xs k e first others bad = subst (λ (y : Listing A). Fails y e) (closes x j xs k first others) (fails_on e (take_at symbol.CloseBrace k) (found_to xs) bad)

  pub braced_closed : (x : A) (j : List Spot) (xs : List A) (k : List Spot) (at : At) (m : List Spot) → p i ≡ Ok (x, j) → more_braced (length j) p (x ∷ []) j ≡ Ok (xs, k) → take_at symbol.CloseBrace k ≡ Ok (at, m) → braced_at p i ≡ Ok (xs, m)
  braced_closed x j xs k at m first others close = sym (closes x j xs k first others) ∙ ap (λ (y : Result (At × List Spot) Fault). y >>= found_to xs) close
