-- Reading the qualifiers and the type of a declaration.
use Rattle.std.proofs.Common.{◌≡◌, ◌≢◌, ℕ, Bool, true, false, List, [], ◌∷◌, ◌++◌, Option, Some, None, refl, ap, subst, ◌∙◌, sym}
use Rattle.std.specs.Prelude.{Result, Ok, if◌then◌else◌}
use Rattle.sat_base.specs.declared.name.At.{At}
use Rattle.sat_base.specs.declared.width.Width.{Width}
use Rattle.sat_base.specs.declared.width.Width.TheVariants.{W16}
use Rattle.right_reading.specs.declared.specifiers.Qualifiers.{Qualifiers}
use Rattle.right_reading.specs.declared.specifiers.Specifiers.{Specifiers}
use Rattle.c_grammar.specs.declared.symbol.Symbol.{Symbol}
use Rattle.c_grammar.specs.declared.symbol.Symbol.TheVariants as symbol
use Rattle.c_grammar.specs.Grammar.{Rule}
use Rattle.c_grammar.specs.Grammar as rule
use Rattle.c_grammar.specs.Nodes.{Node}
use Rattle.c_grammar.specs.Nodes as a
use Rattle.c_grammar.specs.Parts.{Part, Kept, node, word, kept}
use Rattle.right_reading.specs.ReadDeclarations.{passed, qualifiers_at, specifiers_at}
use Rattle.right_reading.specs.ReadExpressions.{type_at, type_by}
use Rattle.c_grammar.specs.Spelling.{Spells}
use Rattle.c_grammar.specs.Spots.{Spot, here}
use Rattle.right_reading.specs.Stream.{ahead, rest, Fault}
use Rattle.c_grammar.specs.Symbols.{same_symbol, width_of, begins_type}
use Rattle.right_reading.proofs.Composed.Alternatives.{by_seen, alternative, nothing_right, ends_after, ahead_is, token_then, after_word}
use Rattle.right_reading.proofs.Ahead.Begins.{spells_starts}
use Rattle.right_reading.proofs.Composed.Dependent.{then_right, then_read, seen_by}
use Rattle.right_reading.proofs.OneToken.Endings.{fused}
use Rattle.right_reading.specs.Right.{first, Ends, Stops, Right, Reads}
use Rattle.right_reading.specs.RightExpressions.{RightExpressions}
use Rattle.right_reading.proofs.Composed.Rules.{Chosen, no_parts, early_seen}
use Rattle.c_grammar.proofs.Sequences.{from_nothing}
use Rattle.c_grammar.proofs.SymbolNumbers.{same-is, other-is}
use Rattle.right_reading.proofs.OneToken.Tokens.{ahead-same, nowhere}
use Rattle.right_reading.specs.Stops.{no_int}
use Rattle.c_grammar.proofs.SymbolSets.{among}

-- ---- a word that may be there

abbrev pub word_if : Symbol → Bool → List Part
word_if s true = word s ∷ []
word_if s false = []

-- whether it is, where what may follow is not this word
pub optional_right : (s : Symbol) → s ≢ symbol.End → (stops : Symbol → Bool) → stops s ≡ false → (limit : ℕ) (i : List Spot) → Ends i
    → Right (word_if s) limit (λ b t. stops t) [] i (Ok (same_symbol (ahead i) s, passed s i))
optional_right s more stops not_here limit [] ends = absurd ends
optional_right s more stops not_here limit (c ∷ cs) ends = by_test (same_symbol c.symbol s) refl
  where
    none : (v t r : List Spot) (d : ℕ) → Spells [] d v → stops (ahead t) ≡ true → v ++ t ≡ r → first r ≡ Some c → c.symbol ≢ s
    none v t r d sp st e h f =
        let g : ahead t ≡ s = ap (λ (w : List Spot). ahead (w ++ t)) (sym (from_nothing sp).tokens) ∙ ap ahead e ∙ ahead-same r (c ∷ cs) h ∙ f in
        let k : stops s ≡ true = ap stops (sym g) ∙ st in
        cc

    there : c.symbol ≡ s → (b : Bool) (d : ℕ) (v t r : List Spot) → Spells (word_if s b) d v → stops (ahead t) ≡ true → v ++ t ≡ r → first r ≡ Some c → (u : Unit {0}) × (b ≡ true)
    there is true d v t r sp st e h = (tt, refl)
    there is false d v t r sp st e h = absurd (none v t r d sp st e h is)

    not_there : c.symbol ≢ s → (b : Bool) (d : ℕ) (v t r : List Spot) → Spells (word_if s b) d v → stops (ahead t) ≡ true → v ++ t ≡ r → first r ≡ Some c → (b ≡ false) × (v ≡ [])
    not_there ne true d v t r sp st e h = absurd (ne (ahead_is t r (c ∷ cs) sp e h))
    not_there ne false d v t r sp st e h = (refl, (from_nothing sp).tokens)

    by_test : (b : Bool) → same_symbol c.symbol s ≡ b → Right (word_if s) limit (λ b t. stops t) [] (c ∷ cs) (Ok (b, (if b then cs else c ∷ cs)))
    by_test true e =
        let is = same-is c.symbol s e in
        by_seen (alternative (word_if s) limit (λ b t. stops t) [] (c ∷ cs) (λ (u : Unit {0}). true) (there is)) (Ok (tt, cs))
        (after_word s more (λ (u : Unit {0}). []) limit (λ u t. stops t) c cs is ends (Ok (tt, cs)) (nothing_right (λ (u : Unit {0}). []) limit (λ u t. stops t) cs tt (ends_after c cs is more ends) refl (λ x d v t r sp st e h. (refl, (from_nothing sp).tokens))))
    by_test false e = nothing_right (word_if s) limit (λ b t. stops t) (c ∷ cs) false ends refl (not_there (other-is c.symbol s e))

-- ---- qualifiers

-- none, or which is first and whether the other follows
pub data Quals : Type 0 where
  none : Quals
  static_first : At → Bool → Quals
  const_first : At → Bool → Quals

abbrev pub quals_parts : Quals → List Part
quals_parts none = []
quals_parts (static_first at b) = kept symbol.Static at ∷ word_if symbol.Const b
quals_parts (const_first at b) = kept symbol.Const at ∷ word_if symbol.Static b

-- what they say, where the next token stands here
abbrev pub meant : Quals → At → Qualifiers
meant none at = record { at = at; is_static = false; is_const = false }
meant (static_first at b) next = record { at = at; is_static = true; is_const = b }
meant (const_first at b) next = record { at = at; is_static = b; is_const = true }

abbrev pub no_qualifier : Symbol → Bool
no_qualifier symbol.Static = false
no_qualifier symbol.Const = false
no_qualifier _ = true

abbrev pub stops_quals : Quals → Symbol → Bool
stops_quals q s = no_qualifier s

abbrev pub quals_of : List Spot → Quals
quals_of i =
    if same_symbol (ahead i) symbol.Static then static_first (here i) (same_symbol (ahead (rest i)) symbol.Const)
    else if same_symbol (ahead i) symbol.Const then const_first (here i) (same_symbol (ahead (rest i)) symbol.Static)
    else none

abbrev pub after_quals : List Spot → List Spot
after_quals i =
    if same_symbol (ahead i) symbol.Static then passed symbol.Const (rest i)
    else if same_symbol (ahead i) symbol.Const then passed symbol.Static (rest i)
    else i

abbrev with_rest : Qualifiers → List Spot → Qualifiers × List Spot
with_rest q i = (q, i)

abbrev by_tests : {A : Type 0} → Bool → Bool → A → A → A → A
by_tests b c x y z = if b then x else if c then y else z

-- the qualifiers that are read
pub qualifiers_are : (i : List Spot) → qualifiers_at i ≡ with_rest (meant (quals_of i) (here (after_quals i))) (after_quals i)
unfolding qualifiers_at
qualifiers_are i = step (same_symbol (ahead i) symbol.Static) (same_symbol (ahead i) symbol.Const)
  where
    step : (b c : Bool)
        → by_tests b c (with_rest (record { at = here i; is_static = true; is_const = same_symbol (ahead (rest i)) symbol.Const }) (passed symbol.Const (rest i)))
        (with_rest (record { at = here i; is_static = same_symbol (ahead (rest i)) symbol.Static; is_const = true }) (passed symbol.Static (rest i)))
        (with_rest (record { at = here i; is_static = false; is_const = false }) i)
        ≡ with_rest (meant (by_tests b c (static_first (here i) (same_symbol (ahead (rest i)) symbol.Const)) (const_first (here i) (same_symbol (ahead (rest i)) symbol.Static)) none)
        (here (by_tests b c (passed symbol.Const (rest i)) (passed symbol.Static (rest i)) i))) (by_tests b c (passed symbol.Const (rest i)) (passed symbol.Static (rest i)) i)
    step true c = refl
    step false true = refl
    step false false = refl

module _ (n : ℕ) where
  abbrev static_with : At × Bool → Quals
  static_with x = static_first x.0 x.1

  abbrev const_with : At × Bool → Quals
  const_with x = const_first x.0 x.1

  no_static : (s : Symbol) → no_qualifier s ≡ true → s ≢ symbol.Static
  no_static s e f = let g : no_qualifier symbol.Static ≡ true = ap no_qualifier (sym f) ∙ e in cc

  no_const : (s : Symbol) → no_qualifier s ≡ true → s ≢ symbol.Const
  no_const s e f = let g : no_qualifier symbol.Const ≡ true = ap no_qualifier (sym f) ∙ e in cc

  nothing_ahead : (v s r i : List Spot) (d : ℕ) → Spells [] d v → v ++ s ≡ r → first r ≡ first i → ahead s ≡ ahead i
  nothing_ahead v s r i d sp e h = ap (λ (w : List Spot). ahead (w ++ s)) (sym (from_nothing sp).tokens) ∙ ap ahead e ∙ ahead-same r i h

  static_there : (c : Spot) (cs : List Spot) → Ends (c ∷ cs) → c.symbol ≡ symbol.Static → Right quals_parts n stops_quals [] (c ∷ cs) (Ok (static_first c.at (same_symbol (ahead cs) symbol.Const), passed symbol.Const cs))
  static_there c cs ends is =
      token_then (λ (at : At). Kept symbol.Static at) (word_if symbol.Const) quals_parts n (λ b s. no_qualifier s) stops_quals static_with c.at c cs (is, refl) (λ a q. sym q.1) (ends_after c cs is (λ g. cc) ends)
      (alternative quals_parts n stops_quals (c ∷ []) cs static_with which) (Ok (same_symbol (ahead cs) symbol.Const, passed symbol.Const cs))
      (optional_right symbol.Const (λ g. cc) no_qualifier refl n cs (ends_after c cs is (λ g. cc) ends))
    where
      which : (q : Quals) (d : ℕ) (v s r : List Spot) → Spells (quals_parts q) d v → Stops stops_quals q s → v ++ s ≡ c ∷ r → first r ≡ first cs → (a : At × Bool) × (q ≡ static_first a.0 a.1)
      which none d v s r sp st e h = absurd (no_static (ahead s) st (nothing_ahead v s (c ∷ r) (c ∷ cs) d sp e refl ∙ is))
      which (static_first at b) d v s r sp st e h = ((at, b), refl)
      which (const_first at b) d v s r sp st e h = let f : symbol.Static ≡ symbol.Const = sym is ∙ ahead_is s (c ∷ r) (c ∷ cs) sp e refl in absurd (cc)

  const_there : (c : Spot) (cs : List Spot) → Ends (c ∷ cs) → c.symbol ≡ symbol.Const → Right quals_parts n stops_quals [] (c ∷ cs) (Ok (const_first c.at (same_symbol (ahead cs) symbol.Static), passed symbol.Static cs))
  const_there c cs ends is =
      token_then (λ (at : At). Kept symbol.Const at) (word_if symbol.Static) quals_parts n (λ b s. no_qualifier s) stops_quals const_with c.at c cs (is, refl) (λ a q. sym q.1) (ends_after c cs is (λ g. cc) ends)
      (alternative quals_parts n stops_quals (c ∷ []) cs const_with which) (Ok (same_symbol (ahead cs) symbol.Static, passed symbol.Static cs))
      (optional_right symbol.Static (λ g. cc) no_qualifier refl n cs (ends_after c cs is (λ g. cc) ends))
    where
      which : (q : Quals) (d : ℕ) (v s r : List Spot) → Spells (quals_parts q) d v → Stops stops_quals q s → v ++ s ≡ c ∷ r → first r ≡ first cs → (a : At × Bool) × (q ≡ const_first a.0 a.1)
      which none d v s r sp st e h = absurd (no_const (ahead s) st (nothing_ahead v s (c ∷ r) (c ∷ cs) d sp e refl ∙ is))
      which (const_first at b) d v s r sp st e h = ((at, b), refl)
      which (static_first at b) d v s r sp st e h = let f : symbol.Const ≡ symbol.Static = sym is ∙ ahead_is s (c ∷ r) (c ∷ cs) sp e refl in absurd (cc)

  none_there : (c : Spot) (cs : List Spot) → Ends (c ∷ cs) → c.symbol ≢ symbol.Static → c.symbol ≢ symbol.Const → Right quals_parts n stops_quals [] (c ∷ cs) (Ok (none, c ∷ cs))
  none_there c cs ends no_s no_c = nothing_right quals_parts n stops_quals (c ∷ cs) none ends refl which
    where
      which : (q : Quals) (d : ℕ) (v s r : List Spot) → Spells (quals_parts q) d v → Stops stops_quals q s → v ++ s ≡ r → first r ≡ Some c → (q ≡ none) × (v ≡ [])
      which none d v s r sp st e h = (refl, (from_nothing sp).tokens)
      which (static_first at b) d v s r sp st e h = absurd (no_s (ahead_is s r (c ∷ cs) sp e h))
      which (const_first at b) d v s r sp st e h = absurd (no_c (ahead_is s r (c ∷ cs) sp e h))

  pub quals_right : (i : List Spot) → Ends i → Right quals_parts n stops_quals [] i (Ok (quals_of i, after_quals i))
  quals_right [] ends = absurd ends
  quals_right (c ∷ cs) ends = step (same_symbol c.symbol symbol.Static) (same_symbol c.symbol symbol.Const) (static_there c cs ends) (const_there c cs ends) (none_there c cs ends) refl refl
    where
      step : (b d : Bool) → (c.symbol ≡ symbol.Static → Right quals_parts n stops_quals [] (c ∷ cs) (Ok (static_first c.at (same_symbol (ahead cs) symbol.Const), passed symbol.Const cs)))
          → (c.symbol ≡ symbol.Const → Right quals_parts n stops_quals [] (c ∷ cs) (Ok (const_first c.at (same_symbol (ahead cs) symbol.Static), passed symbol.Static cs)))
          → (c.symbol ≢ symbol.Static → c.symbol ≢ symbol.Const → Right quals_parts n stops_quals [] (c ∷ cs) (Ok (none, c ∷ cs)))
          → same_symbol c.symbol symbol.Static ≡ b → same_symbol c.symbol symbol.Const ≡ d
          → Right quals_parts n stops_quals [] (c ∷ cs) (Ok (
            by_tests b d (static_first c.at (same_symbol (ahead cs) symbol.Const)) (const_first c.at (same_symbol (ahead cs) symbol.Static)) none,
            by_tests b d (passed symbol.Const cs) (passed symbol.Static cs) (c ∷ cs),
          ))
      step true d by_s by_c neither e f = by_s (same-is c.symbol symbol.Static e)
      step false true by_s by_c neither e f = by_c (same-is c.symbol symbol.Const f)
      step false false by_s by_c neither e f = neither (other-is c.symbol symbol.Static e) (other-is c.symbol symbol.Const f)

-- ---- the type after them

abbrev pub type_parts : At × Width → List Part
type_parts x = node (a.type_ x.0 x.1) ∷ []

abbrev pub specified : Quals → At × Width → Specifiers
specified q x = record { quals = meant q x.0; width = x.1 }

-- a type stands where its first token does
pub type_here : {C : Type 0} (f : At → Width → C) (i : List Spot) → seen_by (λ (x : At × Width). f (here i) x.1) (type_at i) ≡ seen_by (λ (x : At × Width). f x.0 x.1) (type_at i)
unfolding type_at
type_here {C} f i = step (width_of (ahead i))
  where
    step : (o : Option Width) → seen_by (λ (x : At × Width). f (here i) x.1) (type_by o i) ≡ seen_by (λ (x : At × Width). f x.0 x.1) (type_by o i)
    step None = refl
    step (Some w) = refl

abbrev pub read_quals : List Spot → Result (Quals × List Spot) Fault
read_quals i = Ok (quals_of i, after_quals i)

pub specifiers_are : (i : List Spot) → specifiers_at i ≡ seen_by (λ (x : Quals × (At × Width)). specified x.0 x.1) (then_read {B = λ q. At × Width} (read_quals i) (λ q. type_at))
unfolding specifiers_at
specifiers_are i =
    ap (λ (q : Qualifiers × List Spot). seen_by (λ (x : At × Width). made q.0 x.1) (type_at q.1)) (qualifiers_are i)
    ∙ type_here (λ at w. made (meant (quals_of i) at) w) (after_quals i)
    ∙ fused (read_quals i) (λ q. type_at) specified
  where
    made : Qualifiers → Width → Specifiers
    made q w = record { quals = q; width = w }

abbrev pub specifiers_node : Specifiers → Node
specifiers_node s = a.specifiers s.quals.at s.quals.is_static s.quals.is_const s.width

abbrev pub quals_and_type : Quals × (At × Width) → List Part
quals_and_type x = quals_parts x.0 ++ node (a.type_ x.1.0 x.1.1) ∷ []

pub specifiers_rule : (q : Quals) (x : At × Width) → Rule (specifiers_node (specified q x)) (quals_parts q ++ node (a.type_ x.0 x.1) ∷ []) []
specifiers_rule none x = rule.no_qualifier
specifiers_rule (static_first at true) x = rule.static_const
specifiers_rule (static_first at false) x = rule.static
specifiers_rule (const_first at true) x = rule.const_static
specifiers_rule (const_first at false) x = rule.const

-- a type begins with no qualifier
pub type_no_qualifier : (s : Symbol) → begins_type s ≡ true → no_qualifier s ≡ true
type_no_qualifier = among begins_type no_qualifier refl

module _ (n : ℕ) (right : RightExpressions n) where
  abbrev specified_by : Quals × (At × Width) → Specifiers
  specified_by x = specified x.0 x.1

  pub specifiers_right : Reads (λ (s : Specifiers). node (a.specifiers s.quals.at s.quals.is_static s.quals.is_const s.width) ∷ []) n (λ x s. no_int s) specifiers_at
  specifiers_right i ends =
      subst (Right (λ (s : Specifiers). node (a.specifiers s.quals.at s.quals.is_static s.quals.is_const s.width) ∷ []) n (λ x s. no_int s) [] i) (sym (specifiers_are i))
      (by_seen (early_seen specifiers_node quals_and_type n (λ x s. no_int s) (λ x s. no_int s) [] i specified_by (λ x. specifiers_rule x.0 x.1) (λ s. which s.quals.at s.quals.is_static s.quals.is_const s.width))
      (then_read {B = λ q. At × Width} (read_quals i) (λ q. type_at))
      (then_right quals_parts (λ q. type_parts) n stops_quals (λ q x s. no_int s) (λ q x c v s sp st. type_no_qualifier (ahead (v ++ s)) (spells_starts s sp)) (λ q. any) (read_quals i) (λ q. type_at) [] i (quals_right n i ends)
      (λ q j r. right.type_ j r.ends)))
    where
      any : At × Width
      any = (nowhere, W16)

      which : (at : At) (is_static is_const : Bool) (w : Width) (early late : List Part) (c1 c2 : ℕ) (u1 u2 s r : List Spot) → Rule (a.specifiers at is_static is_const w) early late → Spells early c1 u1 → Spells late c2 u2 → no_int (ahead s) ≡ true
          → (u1 ++ u2) ++ s ≡ r → first r ≡ first i → Chosen quals_and_type no_parts (λ x s. no_int s) specified_by (record { quals = record { at = at; is_static = is_static; is_const = is_const }; width = w }) early late s
      which at is_static is_const w early late c1 c2 u1 u2 s r rule.no_qualifier sp sq st e h = record { a = (none, (at, w)); same = refl; is_early = refl; is_late = refl; stops = st }
      which at is_static is_const w early late c1 c2 u1 u2 s r (rule.static {type_at = t}) sp sq st e h = record { a = (static_first at false, (t, w)); same = refl; is_early = refl; is_late = refl; stops = st }
      which at is_static is_const w early late c1 c2 u1 u2 s r (rule.const {type_at = t}) sp sq st e h = record { a = (const_first at false, (t, w)); same = refl; is_early = refl; is_late = refl; stops = st }
      which at is_static is_const w early late c1 c2 u1 u2 s r (rule.static_const {type_at = t}) sp sq st e h = record { a = (static_first at true, (t, w)); same = refl; is_early = refl; is_late = refl; stops = st }
      which at is_static is_const w early late c1 c2 u1 u2 s r (rule.const_static {type_at = t}) sp sq st e h = record { a = (const_first at true, (t, w)); same = refl; is_early = refl; is_late = refl; stops = st }
