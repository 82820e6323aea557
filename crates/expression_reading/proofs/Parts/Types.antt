-- Reading a type.
use Rattle.std.proofs.Common.{◌≡◌, ◌≢◌, ℕ, Bool, true, false, List, [], ◌∷◌, ◌++◌, Option, Some, None, ◌⊎◌, inl, inr, refl, ap, subst, ◌∙◌, sym, arith}
use Rattle.std.proofs.lemmas.List.{append-nil}
use Rattle.std.specs.Prelude.{◌&&◌, ◌||◌, if◌then◌else◌}
use Rattle.sat_base.specs.declared.name.At.{At}
use Rattle.sat_base.specs.declared.width.Width.{Width}
use Rattle.sat_base.specs.declared.width.Width.TheVariants.{W16}
use Rattle.c_grammar.specs.declared.symbol.Symbol.{Symbol}
use Rattle.c_grammar.specs.declared.symbol.Symbol.TheVariants as symbol
use Rattle.c_grammar.specs.Grammar.{Rule}
use Rattle.c_grammar.specs.Grammar as rule
use Rattle.c_grammar.specs.Nodes as a
use Rattle.c_grammar.specs.Parts.{Part, node, word, kept}
use Rattle.right_reading.specs.ReadExpressions.{type_by, type_at}
use Rattle.c_grammar.specs.Spelling.{Spells}
use Rattle.c_grammar.specs.Spelling as spelling
use Rattle.c_grammar.specs.Spots.{Spot, here}
use Rattle.right_reading.specs.Stream.{ahead, rest}
use Rattle.c_grammar.specs.Symbols.{same_symbol, width_of}
use Rattle.right_reading.specs.Right.{first, Ends, Stops, Read, Refused, Right, Reads}
use Rattle.c_grammar.proofs.Sequences.{from_token, from_node, from_nothing}
use Rattle.c_grammar.proofs.SymbolNumbers.{same-is}
use Rattle.right_reading.proofs.OneToken.Tokens.{ahead-same, nowhere}

-- `int` may go on with a type
abbrev pub stops_type : At × Width → Symbol → Bool
stops_type x symbol.IntWord = false
stops_type x _ = true

-- what `int` may follow
abbrev pub may_add_int : Symbol → Bool
may_add_int s = same_symbol s symbol.Short || same_symbol s symbol.Long

-- ---- the rules of types

pub data TypeParts (at : At) (width : Width) (parts : List Part) : Type 0 where
  one_word : (s : Symbol) → width_of s ≡ Some width → parts ≡ kept s at ∷ [] → TypeParts at width parts
  two_words : (s : Symbol) → width_of s ≡ Some width → may_add_int s ≡ true → parts ≡ kept s at ∷ word symbol.IntWord ∷ [] → TypeParts at width parts

pub type_parts : {at : At} {width : Width} {early late : List Part} → Rule (a.type_ at width) early late → TypeParts at width early × (late ≡ [])
type_parts rule.word16 = (one_word symbol.Word16 refl refl, refl)
type_parts rule.short = (one_word symbol.Short refl refl, refl)
type_parts rule.short_int = (two_words symbol.Short refl refl refl, refl)
type_parts rule.word32 = (one_word symbol.Word32 refl refl, refl)
type_parts rule.flag = (one_word symbol.Flag refl refl, refl)
type_parts rule.int = (one_word symbol.IntWord refl refl, refl)
type_parts rule.long = (one_word symbol.Long refl refl, refl)
type_parts rule.long_int = (two_words symbol.Long refl refl refl, refl)

of_width : {at : At} {v w : Width} {parts : List Part} → Some v ≡ Some w → Rule (a.type_ at v) parts [] → Rule (a.type_ at w) parts []
of_width {at} {v} {w} {parts} e r = let f : v ≡ w = cc in subst (λ (x : Width). Rule (a.type_ at x) parts []) f r

one_rule : (s : Symbol) (at : At) (width : Width) → width_of s ≡ Some width → Rule (a.type_ at width) (kept s at ∷ []) []
one_rule symbol.Word16 at width e = of_width e rule.word16
one_rule symbol.Short at width e = of_width e rule.short
one_rule symbol.Word32 at width e = of_width e rule.word32
one_rule symbol.Flag at width e = of_width e rule.flag
one_rule symbol.IntWord at width e = of_width e rule.int
one_rule symbol.Long at width e = of_width e rule.long
one_rule _ at width e = cc

two_rule : (s : Symbol) (at : At) (width : Width) → width_of s ≡ Some width → may_add_int s ≡ true → Rule (a.type_ at width) (kept s at ∷ word symbol.IntWord ∷ []) []
two_rule symbol.Short at width e f = of_width e rule.short_int
two_rule symbol.Long at width e f = of_width e rule.long_int
two_rule _ at width e f = cc

-- what a type spells: one token, or two
pub record TypeTokens (at : At) (width : Width) (w : List Spot) : Type 0 where
  pub x : Spot
  pub after : List Spot
  pub tokens : w ≡ x ∷ after
  pub at_is : x.at ≡ at
  pub width_is : width_of x.symbol ≡ Some width
  pub more : (after ≡ []) ⊎ ((y : Spot) × (after ≡ y ∷ []) × (y.symbol ≡ symbol.IntWord) × (may_add_int x.symbol ≡ true))

pub type_tokens : {at : At} {width : Width} {d : ℕ} {w : List Spot} → Spells (node (a.type_ at width) ∷ []) d w → TypeTokens at width w
type_tokens {at} {width} {d} {w} sp =
    let f = from_node sp in
    let k = type_parts f.rule in
    let none = from_nothing (subst (λ (ps : List Part). Spells ps f.c2 f.u2) k.1 f.behind) in
    let after = from_nothing f.after in
    let all : w ≡ f.u1 = f.tokens ∙ ap (λ (v : List Spot). (f.u1 ++ f.u2) ++ v) after.tokens ∙ ap (λ (v : List Spot). (f.u1 ++ v) ++ []) none.tokens ∙ simp append-nil in
    by_parts k.0 f.c1 f.u1 f.before all
  where
    by_parts : {early : List Part} → TypeParts at width early → (c : ℕ) (u : List Spot) → Spells early c u → w ≡ u → TypeTokens at width w
    by_parts (one_word s e parts) c u sp all =
        let t = from_token (subst (λ (ps : List Part). Spells ps c u) parts sp) in
        let n = from_nothing t.after in
        record { x = t.x; after = t.rest; tokens = all ∙ t.tokens; at_is = t.is.1; width_is = ap width_of t.is.0 ∙ e; more = inl n.tokens }
    by_parts (two_words s e f parts) c u sp all =
        let t = from_token (subst (λ (ps : List Part). Spells ps c u) parts sp) in
        let y = from_token t.after in
        let n = from_nothing y.after in
        record {
          x = t.x;
          after = t.rest;
          tokens = all ∙ t.tokens;
          at_is = t.is.1;
          width_is = ap width_of t.is.0 ∙ e;
          more = inr (y.x, y.tokens ∙ ap (λ (v : List Spot). y.x ∷ v) n.tokens, y.is, ap may_add_int t.is.0 ∙ f);
        }

-- ---- reading

not_end : (s : Symbol) (width : Width) → width_of s ≡ Some width → s ≢ symbol.End
not_end s width e f = let g : width_of symbol.End ≡ Some width = ap width_of (sym f) ∙ e in cc

left_end : (x : Spot) (xs : List Spot) → x.symbol ≢ symbol.End → Ends (x ∷ xs) → Ends xs
left_end x xs more (inl e) = absurd (more e)
left_end x xs more (inr e) = e

abbrev typed : At → Width → At × Width
typed at width = (at, width)

same_type : (x : Spot) (at : At) (v w : Width) → x.at ≡ at → width_of x.symbol ≡ Some w → width_of x.symbol ≡ Some v → typed at w ≡ typed x.at v
same_type x at v w e f g =
    let h : w ≡ v = cc in ap (λ (b : At). typed b w) (sym e) ∙ ap (λ (u : Width). typed x.at u) h

abbrev pub of_type : At × Width → List Part
of_type x = node (a.type_ x.0 x.1) ∷ []

stops_int : (x : At × Width) (s : Symbol) → stops_type x s ≡ true → s ≢ symbol.IntWord
stops_int x s st e = let f : stops_type x symbol.IntWord ≡ true = subst (λ (t : Symbol). stops_type x t ≡ true) e st in cc

-- one token is read
read_one : (limit : ℕ) (x : Spot) (xs : List Spot) (width : Width) → width_of x.symbol ≡ Some width → Ends (x ∷ xs) → (may_add_int x.symbol ≡ true → ahead xs ≢ symbol.IntWord)
    → Read of_type limit stops_type [] (x ∷ xs) (x.at, width) xs
read_one limit x xs width e ends other = record {
  more = x ∷ [];
  depth = 0;
  whole = refl;
  spelled = spelling.whole (one_rule x.symbol x.at width e) (spelling.quoted (refl, refl) spelling.nothing) spelling.nothing spelling.nothing refl refl;
  within = omega arith;
  ends = left_end x xs (not_end x.symbol width e) ends;
  only = only;
}
  where
    by_more : (y : At × Width) (v s r : List Spot) → (t : TypeTokens y.0 y.1 v) → (t.after ≡ []) ⊎ ((z : Spot) × (t.after ≡ z ∷ []) × (z.symbol ≡ symbol.IntWord) × (may_add_int t.x.symbol ≡ true))
        → v ++ s ≡ x ∷ r → first r ≡ first xs → (y ≡ typed x.at width) × (s ≡ r)
    by_more y v s r t (inl n) eq h =
        let e2 : t.x ∷ s ≡ x ∷ r = sym (ap (λ (w : List Spot). w ++ s) (t.tokens ∙ ap (λ (w : List Spot). t.x ∷ w) n)) ∙ eq in
        let ex : t.x ≡ x = cc in
        let es : s ≡ r = cc in
        (same_type x y.0 width y.1 (ap (λ (z : Spot). z.at) (sym ex) ∙ t.at_is) (ap (λ (z : Spot). width_of z.symbol) (sym ex) ∙ t.width_is) e, es)
    by_more y v s r t (inr m) eq h =
        let e2 : t.x ∷ m.0 ∷ s ≡ x ∷ r = sym (ap (λ (w : List Spot). w ++ s) (t.tokens ∙ ap (λ (w : List Spot). t.x ∷ w) m.1)) ∙ eq in
        let ex : t.x ≡ x = cc in
        let es : m.0 ∷ s ≡ r = cc in
        let next : ahead xs ≡ symbol.IntWord = sym (ahead-same r xs h) ∙ ap ahead (sym es) ∙ m.2 in
        absurd (other (ap (λ (z : Spot). may_add_int z.symbol) (sym ex) ∙ m.3) next)

    only : (y : At × Width) (c : ℕ) (v s r : List Spot) → Spells (of_type y) c v → Stops stops_type y s → v ++ s ≡ x ∷ r → first r ≡ first xs → (y ≡ typed x.at width) × (s ≡ r)
    only y c v s r sp st eq h = let t = type_tokens sp in by_more y v s r t t.more eq h

-- two tokens are read
read_two : (limit : ℕ) (x y : Spot) (ys : List Spot) (width : Width) → width_of x.symbol ≡ Some width → Ends (x ∷ y ∷ ys) → may_add_int x.symbol ≡ true → y.symbol ≡ symbol.IntWord
    → Read of_type limit stops_type [] (x ∷ y ∷ ys) (x.at, width) ys
read_two limit x y ys width e ends adds is = record {
  more = x ∷ y ∷ [];
  depth = 0;
  whole = refl;
  spelled = spelling.whole (two_rule x.symbol x.at width e adds) (spelling.quoted (refl, refl) (spelling.quoted is spelling.nothing)) spelling.nothing spelling.nothing refl refl;
  within = omega arith;
  ends = left_end y ys (λ f. let g : symbol.IntWord ≡ symbol.End = sym is ∙ f in cc) (left_end x (y ∷ ys) (not_end x.symbol width e) ends);
  only = only;
}
  where
    by_more : (u : At × Width) (v s r : List Spot) → Stops stops_type u s → (t : TypeTokens u.0 u.1 v) → (t.after ≡ []) ⊎ ((z : Spot) × (t.after ≡ z ∷ []) × (z.symbol ≡ symbol.IntWord) × (may_add_int t.x.symbol ≡ true))
        → v ++ s ≡ x ∷ y ∷ r → (u ≡ typed x.at width) × (s ≡ r)
    by_more u v s r st t (inl n) eq =
        let e2 : t.x ∷ s ≡ x ∷ y ∷ r = sym (ap (λ (w : List Spot). w ++ s) (t.tokens ∙ ap (λ (w : List Spot). t.x ∷ w) n)) ∙ eq in
        let es : s ≡ y ∷ r = cc in
        absurd (stops_int u (ahead s) st (ap ahead es ∙ is))
    by_more u v s r st t (inr m) eq =
        let e2 : t.x ∷ m.0 ∷ s ≡ x ∷ y ∷ r = sym (ap (λ (w : List Spot). w ++ s) (t.tokens ∙ ap (λ (w : List Spot). t.x ∷ w) m.1)) ∙ eq in
        let ex : t.x ≡ x = cc in
        let es : s ≡ r = cc in
        (same_type x u.0 width u.1 (ap (λ (z : Spot). z.at) (sym ex) ∙ t.at_is) (ap (λ (z : Spot). width_of z.symbol) (sym ex) ∙ t.width_is) e, es)

    only : (u : At × Width) (c : ℕ) (v s r : List Spot) → Spells (of_type u) c v → Stops stops_type u s → v ++ s ≡ x ∷ y ∷ r → first r ≡ first ys → (u ≡ typed x.at width) × (s ≡ r)
    only u c v s r sp st eq h = let t = type_tokens sp in by_more u v s r st t t.more eq

-- what a type begins with
pub type_ahead : {at : At} {width : Width} {d : ℕ} {w : List Spot} (s : List Spot) → Spells (node (a.type_ at width) ∷ []) d w → width_of (ahead (w ++ s)) ≡ Some width
type_ahead s sp = let t = type_tokens sp in ap (λ (w : List Spot). width_of (ahead (w ++ s))) t.tokens ∙ t.width_is

refused_type : (limit : ℕ) (i : List Spot) → Ends i → width_of (ahead i) ≡ None → Refused of_type limit stops_type [] i (record { deep = false; at = here i })
refused_type limit i ends none = record { more = []; rest = i; whole = refl; place = refl; ends = ends; dead = dead; front = ((nowhere, W16), 0, spelling.lacking) }
  where
    dead : (y : At × Width) (c : ℕ) (v s r : List Spot) → Spells (of_type y) c v → Stops stops_type y s → v ++ s ≡ r → first r ≡ first i → ⊥
    dead y c v s r sp st e h =
        let is : width_of (ahead (v ++ s)) ≡ Some y.1 = type_ahead s sp in
        let no : width_of (ahead (v ++ s)) ≡ None = ap width_of (ap ahead e ∙ ahead-same r i h) ∙ none in
        cc

type_then : (limit : ℕ) (x : Spot) (xs : List Spot) (width : Width) → width_of x.symbol ≡ Some width → Ends (x ∷ xs) → (b c : Bool) → may_add_int x.symbol ≡ b → same_symbol (ahead xs) symbol.IntWord ≡ c
    → Read of_type limit stops_type [] (x ∷ xs) (x.at, width) (if b && c then rest xs else xs)
type_then limit x [] width e ends b c is_b is_c = absurd (left_end x [] (not_end x.symbol width e) ends)
type_then limit x (y ∷ ys) width e ends true true is_b is_c = read_two limit x y ys width e ends is_b (same-is y.symbol symbol.IntWord is_c)
type_then limit x (y ∷ ys) width e ends false c is_b is_c = read_one limit x (y ∷ ys) width e ends (λ f. cc)
type_then limit x (y ∷ ys) width e ends true false is_b is_c = read_one limit x (y ∷ ys) width e ends
    (λ f g. let k : same_symbol y.symbol symbol.IntWord ≡ true = ap (λ (s : Symbol). same_symbol s symbol.IntWord) g in cc)

by_width : (limit : ℕ) (i : List Spot) → Ends i → (o : Option Width) → width_of (ahead i) ≡ o → Right of_type limit stops_type [] i (type_by o i)
by_width limit i ends None e = refused_type limit i ends e
by_width limit [] ends (Some width) e = absurd ends
by_width limit (x ∷ xs) ends (Some width) e = type_then limit x xs width e ends (may_add_int x.symbol) (same_symbol (ahead xs) symbol.IntWord) refl refl

pub type_right : (limit : ℕ) → Reads (λ (x : At × Width). node (a.type_ x.0 x.1) ∷ []) limit stops_type type_at
unfolding type_at
type_right limit i ends = by_width limit i ends (width_of (ahead i)) refl
