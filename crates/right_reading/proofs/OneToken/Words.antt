-- Reading words that the tree does not keep, and marks.
use Rattle.std.proofs.Common.{◌≡◌, ◌≢◌, ℕ, Bool, true, List, [], ◌∷◌, ◌++◌, Option, Some, None, refl, ap, subst, ◌∙◌, sym}
use Rattle.std.specs.Prelude.{Result, Ok, Err}
use Rattle.sat_base.specs.declared.name.At.{At}
use Rattle.c_grammar.specs.declared.symbol.Symbol.{Symbol}
use Rattle.c_grammar.specs.declared.symbol.Symbol.TheVariants as symbol
use Rattle.c_grammar.specs.Parts.{Kept, Part, word, kept}
use Rattle.right_reading.specs.Lists.{after}
use Rattle.right_reading.specs.ReadDeclarations.{word_at}
use Rattle.right_reading.specs.ReadStatements.{closed, mark_by}
use Rattle.c_grammar.specs.Spots.{Spot}
use Rattle.right_reading.specs.Stream.{ahead, Fault, Parser, ◌>>=◌, take_at}
use Rattle.right_reading.proofs.Composed.Alternatives.{by_seen, renamed, word_right}
use Rattle.right_reading.proofs.Composed.Dependent.{then_right, then_read, read_as, seen_by}
use Rattle.right_reading.proofs.OneToken.Endings.{word_after, then_word}
use Rattle.right_reading.specs.Right.{Ends, Right, always}
use Rattle.right_reading.proofs.Composed.Steps.{Read-token, Refused-token}
use Rattle.right_reading.proofs.OneToken.Tokens.{nowhere}

-- ---- after a word, and before one

module _ {A : Type 0} (of : A → List Part) (limit : ℕ) (stops : A → Symbol → Bool) (s : Symbol) (more : s ≢ symbol.End) (any : A) where
  pub after_right : (p : Parser A) → ((j : List Spot) → Ends j → Right of limit stops [] j (p j)) → (i : List Spot) → Ends i
      → Right (λ (a : A). word s ∷ of a) limit stops [] i (after s p i)
  after_right p next i ends =
      subst (Right (λ (a : A). word s ∷ of a) limit stops [] i) (sym (after_is (take_at s i)))
      (by_seen (renamed (λ (x : Unit {0} × A). word s ∷ of x.1) (λ (a : A). word s ∷ of a) limit (λ x t. stops x.1 t) stops [] i (λ x. x.1) (λ a. (tt, a)) (λ a. refl) (λ x. refl) (λ a. refl) (λ a t e. e))
      (then_read {B = λ u. A} (word_at s i) (λ u. p))
      (then_right (λ (u : Unit {0}). word s ∷ []) (λ u. of) limit always (λ u. stops) (λ u b c v t sp st. refl) (λ u. any) (word_at s i) (λ u. p) [] i (word_right s more limit i ends) (λ u j read. next j read.ends)))
    where
      plain : (y : Result (A × List Spot) Fault) → y ≡ seen_by (λ (x : Unit {0} × A). x.1) (y >>= (λ z. Ok ((tt, z.0), z.1)))
      plain (Ok z) = refl
      plain (Err f) = refl

      after_is : (y : Result (At × List Spot) Fault) → (y >>= (λ x. p x.1)) ≡ seen_by (λ (x : Unit {0} × A). x.1) (then_read {B = λ u. A} (y >>= (λ z. Ok (tt, z.1))) (λ u. p))
      after_is (Ok x) = plain (p x.1)
      after_is (Err f) = refl

  pub closed_right : (p : Parser A) → ((a : A) → stops a s ≡ true) → (i : List Spot) → Right of limit stops [] i (p i)
      → Right (λ (a : A). of a ++ word s ∷ []) limit always [] i (closed p s i)
  closed_right p may i r = subst (Right (λ (a : A). of a ++ word s ∷ []) limit always [] i) (sym (closed_is (p i))) (then_word s more of limit stops may i (p i) r)
    where
      each : (a : A) (m : Result (At × List Spot) Fault) → (m >>= (λ z. read_as a z.1)) ≡ (seen_by {B = Unit {0}} (λ (at : At). tt) m >>= (λ z. read_as a z.1))
      each a (Ok z) = refl
      each a (Err f) = refl

      closed_is : (y : Result (A × List Spot) Fault) → (y >>= (λ x. take_at s x.1 >>= (λ z. read_as x.0 z.1))) ≡ word_after s y
      closed_is (Ok x) = each x.0 (take_at s x.1)
      closed_is (Err f) = refl

-- ---- marks

module _ {M : Type 0} (symbol_of : M → Symbol) (mark_of : Symbol → Option M) (there : (m : M) → mark_of (symbol_of m) ≡ Some m) (back : (s : Symbol) (m : M) → mark_of s ≡ Some m → s ≡ symbol_of m)
    (no_end : mark_of symbol.End ≡ None) (any : M) (limit : ℕ) where
  pub mark_right : (i : List Spot) → Ends i → Right (λ (x : M × At). kept (symbol_of x.0) x.1 ∷ []) limit always [] i (mark_by (mark_of (ahead i)) i)
  mark_right [] ends = absurd ends
  mark_right (x ∷ xs) ends = step (mark_of x.symbol) refl
    where
      step : (o : Option M) → mark_of x.symbol ≡ o → Right (λ (x : M × At). kept (symbol_of x.0) x.1 ∷ []) limit always [] (x ∷ xs) (mark_by o (x ∷ xs))
      step (Some m) e =
          Read-token (λ (a : M × At). Kept (symbol_of a.0) a.1) limit (m, x.at) x xs (back x.symbol m e, refl)
          (λ f. let g : mark_of symbol.End ≡ Some m = subst (λ (y : Symbol). mark_of y ≡ Some m) f e in cc (g, no_end))
          (λ a q.
          let g : mark_of x.symbol ≡ Some a.0 = subst (λ (y : Symbol). mark_of y ≡ Some a.0) (sym q.0) (there a.0) in
          let k : a.0 ≡ m = cc (e, g) in
          ap (λ (y : M). (y, a.1)) k ∙ ap (λ (y : At). (m, y)) (sym q.1)) ends
      step None e =
          Refused-token (λ (a : M × At). Kept (symbol_of a.0) a.1) limit (any, nowhere) (x ∷ xs) ends
          (λ a y f q.
          let k : x ≡ y = cc in
          let g : mark_of y.symbol ≡ Some a.0 = subst (λ (z : Symbol). mark_of z ≡ Some a.0) (sym q.0) (there a.0) in
          let h : mark_of y.symbol ≡ None = subst (λ (z : Spot). mark_of z.symbol ≡ None) k e in
          cc (g, h))
