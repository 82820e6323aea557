-- Where there is an order, walks go forward in it.
use Rattle.std.proofs.Common.{◌≡◌, ℕ, zero, suc, ◌+◌, ◌≤◌, List, [], ◌∷◌, true, sym, subst, inl, inr, arith}
use Rattle.std.specs.Prelude.{Contains, ◌⊎◌, ◌==◌}
use Rattle.std.proofs.lemmas.Bool.{eq-eqb}
use Rattle.std.proofs.lemmas.Bool.Decides.{eqb_tells}
use Rattle.call_graph.specs.Walks.{Calls, Walk, Reaches}
use Rattle.call_graph.specs.Orders.{AreCallersFirst, count_of}
use Rattle.call_graph.specs.Laws.{OrdersHaveNoCycles}
use Rattle.call_graph.proofs.Reversal.{caller-own}

contains-cases : (x f : ℕ) (xs : List ℕ) → Contains (x ∷ xs) f → (f ≡ x) ⊎ Contains xs f
contains-cases x f xs (zero, within, is) = inl (sym is)
contains-cases x f xs (suc k, within, is) = inr (k, omega (arith, within), is)

contains-later : (x f : ℕ) (xs : List ℕ) → Contains xs f → Contains (x ∷ xs) f
contains-later x f xs (k, within, is) = (suc k, omega (arith, within), is)

contains-counted : (f : ℕ) (xs : List ℕ) → Contains xs f → 1 ≤ count_of f xs
contains-counted f [] (k, within, is) = absurd (omega (arith, within))
contains-counted f (x ∷ xs) (zero, within, is) = let both : (x == f) ≡ true = eq-eqb x f is in rw both (omega arith)
contains-counted f (x ∷ xs) (suc k, within, is) = let rest = contains-counted f xs (k, omega (arith, within), is) in omega (arith, rest)

-- what a listed function calls is listed
calls-listed : (graph : List (List ℕ)) (order : List ℕ) → AreCallersFirst graph order → (f g : ℕ) → Contains order f → Calls graph f g → Contains order g
calls-listed graph [] first f g among calls = absurd (omega (arith, among.1))
calls-listed graph (x ∷ later) first f g among calls = elim (contains-cases x f later among) [
  | inl same ↦ contains-later x g later (first.0 g (subst (λ h. Calls graph h g) same calls))
  | inr rest ↦ contains-later x g later (calls-listed graph later first.1 f g rest calls)
]

walk-listed : (graph : List (List ℕ)) (order : List ℕ) → AreCallersFirst graph order → (n f g : ℕ) → Contains order f → Walk graph n f g → Contains order g
walk-listed graph order first zero f g among walk = subst (Contains order) walk among
walk-listed graph order first (suc n) f g among walk = walk-listed graph order first n walk.0 g (calls-listed graph order first f walk.0 among walk.1) walk.2

-- a function that stands once does not reach itself
once-apart : (graph : List (List ℕ)) (order : List ℕ) → AreCallersFirst graph order → (f : ℕ) → count_of f order ≡ 1 → Reaches graph f f → ⊥
once-apart graph [] first f once reaches = omega (arith, once)
once-apart graph (x ∷ later) first f once reaches = elim (eqb_tells x f) [
  | inl same ↦
      let calls : Calls graph x reaches.1.0 = subst (λ h. Calls graph h reaches.1.0) (sym same.1) reaches.1.1 in
      let again = contains-counted f later (walk-listed graph later first.1 reaches.0 reaches.1.0 f (first.0 reaches.1.0 calls) reaches.1.2) in
      let twice : 1 + count_of f later ≡ 1 = rw same.0 at once in
      omega (arith, again, twice)
  | inr apart ↦
      let rest : 0 + count_of f later ≡ 1 = rw apart.0 at once in
      once-apart graph later first.1 f (omega (arith, rest)) reaches
]

pub orders-have-no-cycles : OrdersHaveNoCycles
orders-have-no-cycles graph order is f reaches = once-apart graph order is.callers_first f (is.once f (caller-own graph f reaches.1.0 reaches.1.1.0)) reaches
