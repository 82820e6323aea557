-- Tokens whose place is read but not kept.
use Rattle.std.proofs.Common.{◌≡◌, ℕ, Bool, List, [], ◌∷◌, ◌++◌, refl, subst, sym}
use Rattle.sat_base.specs.declared.name.At.{At}
use Rattle.c_grammar.specs.declared.symbol.Symbol.{Symbol}
use Rattle.c_grammar.specs.Parts.{Part, token, node, word, kept}
use Rattle.c_grammar.specs.Spelling.{Spells, Front}
use Rattle.c_grammar.specs.Spelling as spelling
use Rattle.c_grammar.specs.Spots.{Spot}
use Rattle.right_reading.specs.Right.{first, Stops}
use Rattle.c_grammar.proofs.Sequences.{from_token, from_node}
use Rattle.right_reading.proofs.Composed.Steps.{Seen}

-- the same parts, but with some tokens whose place is not kept
pub data Looser : List Part → List Part → Type 0 where
  done : Looser [] []
  same : {p : Part} {ps qs : List Part} → Looser ps qs → Looser (p ∷ ps) (p ∷ qs)
  loose : {s : Symbol} {at : At} {ps qs : List Part} → Looser ps qs → Looser (kept s at ∷ ps) (word s ∷ qs)

pub Spells-looser : {ps qs : List Part} {d : ℕ} {w : List Spot} → Looser ps qs → Spells ps d w → Spells qs d w
Spells-looser done s = s
Spells-looser (same l) (spelling.quoted is r) = spelling.quoted is (Spells-looser l r)
Spells-looser (same l) (spelling.whole rule before behind after tokens depth) = spelling.whole rule before behind (Spells-looser l after) tokens depth
Spells-looser (loose l) (spelling.quoted is r) = spelling.quoted is.0 (Spells-looser l r)

pub Front-looser : {ps qs : List Part} {d : ℕ} {w : List Spot} → Looser ps qs → Front ps d w → Front qs d w
Front-looser done s = s
Front-looser (same l) spelling.lacking = spelling.lacking
Front-looser (same l) (spelling.quoted is r) = spelling.quoted is (Front-looser l r)
Front-looser (same l) (spelling.whole rule before behind after tokens depth) = spelling.whole rule before behind (Front-looser l after) tokens depth
Front-looser (same l) (spelling.broken_early rule r) = spelling.broken_early rule r
Front-looser (same l) (spelling.broken_late rule before r tokens depth) = spelling.broken_late rule before r tokens depth
Front-looser (loose l) spelling.lacking = spelling.lacking
Front-looser (loose l) (spelling.quoted is r) = spelling.quoted is.0 (Front-looser l r)

-- the place of such a token, found again
pub tighten : (ps : List Part) (s : Symbol) (qs : List Part) {d : ℕ} {w : List Spot} → Spells (ps ++ word s ∷ qs) d w → (at : At) × Spells (ps ++ kept s at ∷ qs) d w
tighten [] s qs {d} {w} sp =
    let t = from_token sp in
    let again : Spells (kept s t.x.at ∷ qs) d (t.x ∷ t.rest) = spelling.quoted (t.is, refl) t.after in
    (t.x.at, subst (λ (v : List Spot). Spells (kept s t.x.at ∷ qs) d v) (sym t.tokens) again)
tighten (token u ∷ ps) s qs {d} {w} sp =
    let t = from_token sp in
    let r = tighten ps s qs t.after in
    let again : Spells (token u ∷ ps ++ kept s r.0 ∷ qs) d (t.x ∷ t.rest) = spelling.quoted t.is r.1 in
    (r.0, subst (λ (v : List Spot). Spells (token u ∷ ps ++ kept s r.0 ∷ qs) d v) (sym t.tokens) again)
tighten (node n ∷ ps) s qs sp =
    let f = from_node sp in
    let r = tighten ps s qs f.after in
    (r.0, spelling.whole f.rule f.before f.behind r.1 f.tokens f.depth)

-- what is read with more places, seen without them
pub Seen-looser : {A X : Type 0} (of_a : A → List Part) (of_x : X → List Part) (limit : ℕ) (stops_a : A → Symbol → Bool) (stops_x : X → Symbol → Bool) (before i : List Spot) (mk : A → X)
    → ((a : A) → Looser (of_a a) (of_x (mk a)))
    → ((x : X) (d : ℕ) (v s r : List Spot) → Spells (of_x x) d v → Stops stops_x x s → v ++ s ≡ before ++ r → first r ≡ first i → (a : A) × (x ≡ mk a) × Spells (of_a a) d v × Stops stops_a a s)
    → Seen of_a of_x limit limit stops_a stops_x before i mk
Seen-looser {A} {X} of_a of_x limit stops_a stops_x before i mk looser back = record {
  forth = λ a c u sp. (c, Spells-looser (looser a) sp, λ le. le);
  front = λ a c u f. (c, Front-looser (looser a) f, λ lt. lt);
  back = λ x d v s r sp st e h. let b = back x d v s r sp st e h in (b.0, d, b.1, b.2, b.3, λ lt. lt);
}
