-- Ways to end in a tree and in its source, and the numbers of loops: what is built from parts is as its parts are.
use Rattle.std.proofs.Common.{◌≡◌, ℕ, suc, ◌+◌, List, [], ◌∷◌, ◌++◌, Bool, true, false, length, refl, ap, ◌∙◌, subst, length-append, arith}
use Rattle.std.proofs.lemmas.Bool.{and_from}
use Rattle.std.specs.Prelude.{◌||◌, ◌==◌, not, Some, None}
use Rattle.lawful_sources.specs.Objects.{follow_from}
use Rattle.lawful_sources.specs.Returns.{Ending, some_returns, some_breaks, branches, loop}
use Rattle.lawful_ir.proofs.Alike.{left, right}
use Rattle.lawful_ir.proofs.Reached.{same-number}

-- ---- ways to end

-- The one of a tree returns where that of its source does. It may return where that does not: no `+` stands in a tree.
pub record Ends (one source : Ending) : Type 0 where
  pub returns : source.returns ≡ true → one.returns ≡ true
  pub breaks : one.breaks ≡ source.breaks

pub ends-so : (e : Ending) → Ends e e
ends-so e = record { returns = λ p. p; breaks = refl }

either : (a b c d : Bool) → (c ≡ true → a ≡ true) → (d ≡ true → b ≡ true) → (c || d) ≡ true → (a || b) ≡ true
either a b true d f g p = rw (f refl) refl
either true b false d f g p = refl
either false b false d f g p = g p

-- of several, one after the other
abbrev gathered : List Ending → Ending
gathered list = record { returns = some_returns list; breaks = some_breaks list }

pub record AllEnd (ones sources : List Ending) : Type 0 where
  pub ends : Ends (gathered ones) (gathered sources)

pub ends-more : (one source : Ending) (ones sources : List Ending) → Ends one source → AllEnd ones sources → AllEnd (one ∷ ones) (source ∷ sources)
ends-more one source ones sources p q =
    record { ends = record { returns = either one.returns (some_returns ones) source.returns (some_returns sources) p.returns q.ends.returns; breaks = rw (p.breaks, q.ends.breaks) refl } }

pub ends-then : (one source : Ending) → Ends one source → Ends (branches one None) (branches source None)
ends-then one source p = record { returns = λ h. h; breaks = p.breaks }

pub ends-else : (one source other second : Ending) → Ends one source → Ends other second → Ends (branches one (Some other)) (branches source (Some second))
ends-else one source other second p q =
    record {
      returns = λ h. and_from one.returns other.returns (p.returns (left source.returns second.returns h)) (q.returns (right source.returns second.returns h));
      breaks = rw (p.breaks, q.breaks) refl;
    }

pub ends-loop : (endless sure : Bool) (one source : Ending) → (sure ≡ true → endless ≡ true) → Ends one source → Ends (loop endless one) (loop sure source)
ends-loop endless sure one source f p =
    record { returns = λ h. and_from endless (not one.breaks) (f (left sure (not source.breaks) h)) (ap not p.breaks ∙ right sure (not source.breaks) h); breaks = refl }

-- ---- the numbers of loops

-- from this number on they follow one another, up to that after them
pub record Counts (next after : ℕ) (loops : List ℕ) : Type 0 where
  pub follow : follow_from next loops ≡ true
  pub count : after ≡ next + length loops

pub counts-none : (next : ℕ) → Counts next next []
counts-none next = record { follow = refl; count = omega arith }

follow-both : (n : ℕ) (xs ys : List ℕ) → follow_from n xs ≡ true → follow_from (n + length xs) ys ≡ true → follow_from n (xs ++ ys) ≡ true
follow-both n [] ys p q = let same : n + 0 ≡ n = omega arith in subst (λ m. follow_from m ys ≡ true) same q
follow-both n (x ∷ xs) ys p q =
    let same : n + suc (length xs) ≡ n + 1 + length xs = omega arith in
    and_from (x == n) _ (left (x == n) _ p) (follow-both (n + 1) xs ys (right (x == n) _ p) (subst (λ m. follow_from m ys ≡ true) same q))

pub counts-along : (next middle after : ℕ) (xs ys : List ℕ) → Counts next middle xs → Counts middle after ys → Counts next after (xs ++ ys)
counts-along next middle after xs ys p q =
    record { follow = follow-both next xs ys p.follow (subst (λ m. follow_from m ys ≡ true) p.count q.follow); count = omega (arith, p.count, q.count, length-append xs ys) }

-- a loop has its number before those in it
pub counts-loop : (next after : ℕ) (xs : List ℕ) → Counts (next + 1) after xs → Counts next after (next ∷ xs)
counts-loop next after xs p = record { follow = and_from (next == next) _ (same-number next) p.follow; count = omega (arith, p.count) }
