-- Reading places.
use Rattle.std.proofs.Common.{◌≡◌, ◌≢◌, ℕ, suc, true, List, [], ◌∷◌, ◌++◌, None, refl, ap, subst, ◌∙◌, sym}
use Rattle.std.proofs.lemmas.List.{append_assoc}
use Rattle.std.specs.Prelude.{Result, Ok, Err}
use Rattle.sat_base.specs.declared.name.At.{At}
use Rattle.sat_base.specs.declared.name.Named.{Named}
use Rattle.c_tree.specs.declared.expression.Expr.{Expr}
use Rattle.c_tree.specs.declared.place.Place.{Place}
use Rattle.c_tree.specs.declared.place.Place.TheVariants as place
use Rattle.c_grammar.specs.declared.symbol.Symbol.{Symbol}
use Rattle.c_grammar.specs.declared.symbol.Symbol.TheVariants as symbol
use Rattle.c_grammar.specs.Grammar.{Rule}
use Rattle.c_grammar.specs.Grammar as rule
use Rattle.c_grammar.specs.Nodes as a
use Rattle.c_grammar.specs.Parts.{Part, node, kept}
use Rattle.right_reading.specs.ReadExpressions.{indices_by, readers, place_at}
use Rattle.c_grammar.specs.Spelling.{Spells}
use Rattle.c_grammar.specs.Spots.{Spot}
use Rattle.right_reading.specs.Stream.{ahead, Fault, Parser, ◌>>=◌, both, mapped, take_at, name_at}
use Rattle.c_grammar.specs.Symbols.{same_symbol}
use Rattle.right_reading.proofs.OneToken.Endings.{seen_twice, stricter}
use Rattle.right_reading.proofs.Composed.Dependent.{seen_by}
use Rattle.expression_reading.proofs.Parts.Indices.{ReadsExpressions, of_named, tail_at, tail_right, of_tail, stops_tail, of_called, of_place_parts, place_of_pair, place_rule, place_choice, indices_is}
use Rattle.right_reading.proofs.Ahead.Begins.{spells_starts}
use Rattle.expression_reading.proofs.ByLimit.Lower.{RightReaders}
use Rattle.right_reading.specs.Right.{first, Ends, Stops, Right, always, Reads}
use Rattle.right_reading.proofs.Composed.Rules.{Chosen, Choice, no_parts, early_seen, late_seen, token-ahead}
use Rattle.c_grammar.proofs.Sequences.{from_nothing}
use Rattle.right_reading.proofs.Composed.Steps.{both_parts, both_stops, Right-both, Right-seen}
use Rattle.c_grammar.proofs.SymbolNumbers.{same-is, other-is}
use Rattle.right_reading.proofs.OneToken.Tokens.{ahead-same, take_right, name_right, no_name, Right-if}
use Rattle.right_reading.specs.Stops.{stops_place}

abbrev pub of_place : Place → List Part
of_place p = node (a.place p) ∷ []

-- the place that begins with a name
pub named_right : (n : ℕ) (expression : Parser Expr) → ReadsExpressions n expression → (i : List Spot) → Ends i
    → Right (λ (p : Place). node (a.named p) ∷ []) (suc n) stops_place [] i (name_at i >>= (λ x. indices_by expression x.0 x.1))
named_right n expression right i ends = subst (λ (y : Result (Place × List Spot) Fault). Right of_named (suc n) stops_place [] i y) (sym (by_result (name_at i))) place
  where
    pair : Right of_place_parts n (both_stops stops_tail) [] i (both name_at (tail_at expression) i)
    pair = Right-both of_called of_tail n always stops_tail (λ p t c v s sp st. refl) None name_at (tail_at expression) [] i (name_right n i ends) (tail_right n expression right)

    place : Right of_named (suc n) stops_place [] i (seen_by place_of_pair (both name_at (tail_at expression) i))
    place = Right-seen of_place_parts of_named n (suc n) (both_stops stops_tail) stops_place [] i place_of_pair
        (late_seen (λ p. a.named p) of_place_parts n (both_stops stops_tail) stops_place [] i place_of_pair (λ y. place_rule y.0 y.1)
        (λ p early late c1 c2 u1 u2 s r rule sp1 sp2 st e h. place_choice p s rule st))
        (both name_at (tail_at expression) i) pair

    by_result : (y : Result (Named × List Spot) Fault)
        → (y >>= (λ x. indices_by expression x.0 x.1)) ≡ seen_by place_of_pair (y >>= (λ x. tail_at expression x.1 >>= (λ z. Ok ((x.0, z.0), z.1))))
    by_result (Ok x) = indices_is expression x.0 x.1 ∙ sym (seen_twice (λ t. (x.0, t)) place_of_pair (tail_at expression x.1))
    by_result (Err f) = refl

-- ---- what goes through a view

abbrev of_star : At → List Part
of_star at = kept symbol.Star at ∷ []

abbrev deref_of : At × Named → Place
deref_of x = place.Deref x.0 x.1

deref_choice : (p : Place) {early late : List Part} {c1 : ℕ} (u1 u2 s r i : List Spot) → Rule (a.place p) early late → Spells early c1 u1 → ahead i ≡ symbol.Star
    → (u1 ++ u2) ++ s ≡ r → first r ≡ first i → Chosen no_parts (both_parts of_star of_called) (both_stops always) deref_of p early late s
deref_choice p u1 u2 s r i (rule.deref {star_at = at} {name = name} e) sp is eq h = record { a = (at, name); same = e; is_early = refl; is_late = refl; stops = refl }
deref_choice p u1 u2 s r i rule.place_named sp is eq h =
    let no : same_symbol (ahead (u1 ++ (u2 ++ s))) symbol.Name ≡ true = spells_starts (u2 ++ s) sp in
    let it : ahead (u1 ++ (u2 ++ s)) ≡ symbol.Star = ap ahead (sym (append_assoc u1 u2 s) ∙ eq) ∙ ahead-same r i h ∙ is in
    let never : same_symbol symbol.Star symbol.Name ≡ true = ap (λ (t : Symbol). same_symbol t symbol.Name) (sym it) ∙ no in
    cc

pub indirection_right : (n : ℕ) (i : List Spot) → Ends i → ahead i ≡ symbol.Star
    → Right (λ (p : Place). node (a.place p) ∷ []) (suc n) always [] i (mapped (λ x. place.Deref x.0 x.1) (both (take_at symbol.Star) name_at) i)
indirection_right n i ends is = Right-seen (both_parts of_star of_called) of_place n (suc n) (both_stops always) always [] i deref_of
    (late_seen (λ p. a.place p) (both_parts of_star of_called) n (both_stops always) always [] i deref_of (λ x. rule.deref refl)
    (λ p early late c1 c2 u1 u2 s r rule sp1 sp2 st e h. deref_choice p u1 u2 s r i rule sp1 is e h))
    (both (take_at symbol.Star) name_at i)
    (Right-both of_star of_called n always always (λ x y c v s sp st. refl) no_name (take_at symbol.Star) name_at [] i (take_right symbol.Star (λ f. cc) n i ends) (λ j ends. name_right n j ends))

-- ---- a place of any sort

named_choice : (p : Place) {early late : List Part} {c1 c2 : ℕ} (u1 u2 s r i : List Spot) → Rule (a.place p) early late → Spells early c1 u1 → Spells late c2 u2 → ahead i ≢ symbol.Star
    → Stops stops_place p s → (u1 ++ u2) ++ s ≡ r → first r ≡ first i → Chosen of_named no_parts stops_place (λ (q : Place). q) p early late s
named_choice p u1 u2 s r i rule.place_named sp1 sp2 not st eq h = record { a = p; same = refl; is_early = refl; is_late = refl; stops = st }
named_choice p u1 u2 s r i (rule.deref e) sp1 sp2 not st eq h =
    let it : ahead (u2 ++ s) ≡ symbol.Star = token-ahead s sp2 in
    let all : u2 ++ s ≡ r = ap (λ (w : List Spot). (w ++ u2) ++ s) (sym (from_nothing sp1).tokens) ∙ eq in
    absurd (not (sym (ahead-same r i h) ∙ ap ahead (sym all) ∙ it))

same_seen : {A : Type 0} (y : Result (A × List Spot) Fault) → seen_by (λ x. x) y ≡ y
same_seen (Ok z) = refl
same_seen (Err f) = refl

-- a place that does not begin with a star
pub place_of_named : (n : ℕ) (before i : List Spot) (y : Result (Place × List Spot) Fault)
    → Choice (λ p. a.place p) of_named no_parts stops_place stops_place before i (λ p. p) → Right of_named n stops_place before i y → Right of_place n stops_place before i y
place_of_named n before i y choice right = subst (λ (z : Result (Place × List Spot) Fault). Right of_place n stops_place before i z) (same_seen y)
    (Right-seen of_named of_place n n stops_place stops_place before i (λ p. p) (early_seen (λ p. a.place p) of_named n stops_place stops_place before i (λ p. p) (λ p. rule.place_named) choice) y right)

pub place_right : (n : ℕ) → RightReaders n (readers n) → Reads (λ (p : Place). node (a.place p) ∷ []) n stops_place (place_at n)
unfolding place_at
place_right n right i ends = Right-if of_place n stops_place [] i (same_symbol (ahead i) symbol.Star) ((readers n).indirection i) ((readers n).named i)
    (λ e. stricter of_place n always stops_place [] i (λ p s st. refl) ((readers n).indirection i) (right.indirection i ends (same-is (ahead i) symbol.Star e)))
    (λ e. place_of_named n [] i ((readers n).named i) (λ p early late c1 c2 u1 u2 s r rule sp1 sp2 st e2 h. named_choice p u1 u2 s r i rule sp1 sp2 (other-is (ahead i) symbol.Star e) st e2 h) (right.named i ends))
