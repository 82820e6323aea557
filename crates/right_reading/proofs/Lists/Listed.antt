-- Reading lists with commas.
use Rattle.std.proofs.Common.{◌≡◌, ℕ, Bool, true, false, not, ◌&&◌, List, [], ◌∷◌, ◌++◌, length, ◌≤◌, refl, ap, subst, sym, ◌∙◌}
use Rattle.c_grammar.specs.declared.symbol.Symbol.{Symbol}
use Rattle.c_grammar.specs.declared.symbol.Symbol.TheVariants as symbol
use Rattle.right_reading.specs.Lists.{after, is_comma, many}
use Rattle.c_grammar.specs.Nodes.{Node}
use Rattle.c_grammar.specs.Parts.{Part, node, word, followed, separated}
use Rattle.c_grammar.specs.Spelling.{Spells}
use Rattle.c_grammar.specs.Spots.{Spot}
use Rattle.right_reading.specs.Stream.{ahead, Parser, ◌>>=◌}
use Rattle.c_grammar.specs.Symbols.{same_symbol}
use Rattle.right_reading.proofs.Composed.Alternatives.{by_seen, follows_token, follows_nothing, after_word, ends_after}
use Rattle.right_reading.proofs.Composed.Dependent.{then_right, then_read}
use Rattle.right_reading.proofs.Lists.Many.{front_of, one_and_many, stops_many, many_right}
use Rattle.right_reading.specs.Right.{Ends, Stops, Right}
use Rattle.right_reading.proofs.Composed.Rules.{token-ahead}
use Rattle.c_grammar.proofs.Sequences.{from_token}
use Rattle.right_reading.proofs.OneToken.Afters.{after-taken}
use Rattle.right_reading.proofs.Composed.Steps.{Seen}
use Rattle.c_grammar.proofs.SymbolNumbers.{same-is}

-- the list may end before this symbol
abbrev pub ends_list : (Symbol → Bool) → Symbol → Bool
ends_list stops s = not (same_symbol s symbol.Comma) && stops s

pub ends_one : (stops : Symbol → Bool) (s : Symbol) → ends_list stops s ≡ true → stops s ≡ true
ends_one stops s = right (not (same_symbol s symbol.Comma)) (stops s)
  where
    right : (a b : Bool) → (a && b) ≡ true → b ≡ true
    right true b e = e
    right false b e = cc

-- p reads one of the things, which commas and what closes the list may follow
module _ {X : Type 0} (of : X → Node) (limit : ℕ) (stops : X → Symbol → Bool) (closes : Symbol → Bool) (no_comma : closes symbol.Comma ≡ false) (comma : (x : X) → stops x symbol.Comma ≡ true)
    (close : (x : X) (s : Symbol) → closes s ≡ true → stops x s ≡ true) (p : Parser X) (p_right : (i : List Spot) → Ends i → Right (λ (x : X). node (of x) ∷ []) limit stops [] i (p i)) where
  abbrev next_parts : X → List Part
  next_parts x = word symbol.Comma ∷ node (of x) ∷ []

  abbrev one_parts : X × List X → List Part
  one_parts x = separated of x.0 x.1

  abbrev one_closes : X × List X → Symbol → Bool
  one_closes x s = closes s

  apart : (s : Symbol) → is_comma s ≡ true → closes s ≡ true → ⊥
  apart s e f = let g : closes symbol.Comma ≡ true = ap closes (sym (same-is s symbol.Comma e)) ∙ f in cc (g, no_comma)

  begin : (x : X) (c : ℕ) (v s : List Spot) → Spells (next_parts x) c v → is_comma (ahead (v ++ s)) ≡ true
  begin x c v s sp = ap is_comma (token-ahead s sp)

  filled : (x : X) (c : ℕ) → Spells (next_parts x) c [] → ⊥
  filled x c sp = let t = from_token sp in let e : t.x ∷ t.rest ≡ [] = sym t.tokens in cc

  follows : (x : X) (xs : List X) (c : ℕ) (v s : List Spot) → Spells (followed of xs) c v → Stops (stops_many {A = X} closes) xs s → stops x (ahead (v ++ s)) ≡ true
  follows x [] c v s sp st = follows_nothing (stops x) s sp (close x (ahead s) st)
  follows x (y ∷ ys) c v s sp st = follows_token (stops x) s sp (comma x)

  next_right : (i : List Spot) → Ends i → is_comma (ahead i) ≡ true → Right next_parts limit stops [] i (after symbol.Comma p i)
  next_right [] ends e = absurd ends
  next_right (c ∷ cs) ends e =
      let is = same-is c.symbol symbol.Comma e in
      subst (Right next_parts limit stops [] (c ∷ cs)) (sym (after-taken symbol.Comma p (c ∷ cs) e))
      (after_word symbol.Comma (λ g. cc) (λ (x : X). node (of x) ∷ []) limit stops c cs is ends (p cs) (p_right cs (ends_after c cs is (λ g. cc) ends)))

  -- what follows the first
  pub more_right : (fuel : ℕ) (i : List Spot) → Ends i → length i ≤ fuel → Right (followed of) limit (stops_many closes) [] i (many is_comma (after symbol.Comma p) fuel [] i)
  more_right = many_right next_parts (followed of) refl (λ x xs. refl) limit stops is_comma closes apart begin filled follows (after symbol.Comma p) next_right

  -- one or more
  module _ (fuel : List Spot → ℕ) (enough : (j : List Spot) → length j ≤ fuel j) where
    pub listed_right : (i : List Spot) → Ends i → Right one_parts limit one_closes [] i (then_read {B = λ x. List X} (p i) (λ x j. many is_comma (after symbol.Comma p) (fuel j) [] j))
    listed_right i ends =
        then_right (λ (x : X). node (of x) ∷ []) (λ x. followed of) limit stops (λ x. stops_many closes) follows (λ x. []) (p i) (λ x j. many is_comma (after symbol.Comma p) (fuel j) [] j) [] i (p_right i ends)
        (λ x j r. more_right (fuel j) j r.ends (enough j))

    pub listed_as : {of_y : List X → List Part} {limit' : ℕ} {stops_y : List X → Symbol → Bool} {i : List Spot}
        → Seen one_parts of_y limit limit' one_closes stops_y [] i front_of → Ends i
        → Right of_y limit' stops_y [] i (p i >>= (λ x. many is_comma (after symbol.Comma p) (fuel x.1) (x.0 ∷ []) x.1))
    listed_as {of_y = of_y} {limit' = limit'} {stops_y = stops_y} {i = i} seen ends =
        subst (Right of_y limit' stops_y [] i) (sym (one_and_many is_comma (after symbol.Comma p) fuel (p i)))
        (by_seen seen (then_read {B = λ x. List X} (p i) (λ x j. many is_comma (after symbol.Comma p) (fuel j) [] j)) (listed_right i ends))
