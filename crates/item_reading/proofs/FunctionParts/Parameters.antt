-- Reading parameters.
use Rattle.std.proofs.Common.{◌≡◌, ◌≢◌, ℕ, Bool, true, false, List, [], ◌∷◌, ◌++◌, Option, Some, None, refl, ap, ◌∙◌, sym}
use Rattle.std.specs.Prelude.{Result, Ok, if◌then◌else◌}
use Rattle.sat_base.specs.declared.name.At.{At}
use Rattle.sat_base.specs.declared.name.Named.{Named}
use Rattle.sat_base.specs.declared.width.Width.{Width}
use Rattle.sat_base.specs.declared.width.Width.TheVariants.{W16}
use Rattle.c_tree.specs.declared.declaration.Dim.{Dim}
use Rattle.c_tree.specs.declared.function.Param.{Param}
use Rattle.c_grammar.specs.declared.symbol.Symbol.{Symbol}
use Rattle.c_grammar.specs.declared.symbol.Symbol.TheVariants as symbol
use Rattle.c_grammar.specs.Grammar.{Rule}
use Rattle.c_grammar.specs.Grammar as rule
use Rattle.c_grammar.specs.Nodes.{Node}
use Rattle.c_grammar.specs.Nodes as a
use Rattle.c_grammar.specs.Parts.{Part, Kept, node, word, kept, called}
use Rattle.right_reading.specs.ReadDeclarations.{passed, dimension_at}
use Rattle.right_reading.specs.ReadExpressions.{type_at}
use Rattle.right_reading.specs.ReadSource.{maybe_name_at, param_dimension_at, param_of}
use Rattle.c_grammar.specs.Spelling.{Spells, whole}
use Rattle.c_grammar.specs.Spots.{Spot, here}
use Rattle.right_reading.specs.Stream.{ahead, rest, Fault, both, name_at}
use Rattle.c_grammar.specs.Symbols.{same_symbol, begins_type}
use Rattle.right_reading.proofs.Composed.Alternatives.{by_seen, alternative, nothing_right, no_node, ends_after, ahead_is, follows_token, follows_nothing, after_word}
use Rattle.right_reading.proofs.Ahead.Begins.{dimension_begins, spells_starts, wrong}
use Rattle.right_reading.proofs.Composed.Dependent.{then_right, then_read, seen_by, read_as}
use Rattle.declaration_reading.proofs.Dimensions.{dimension_right}
use Rattle.right_reading.proofs.OneToken.Endings.{stricter, nothing_ahead, early_token, rule_ahead, rule_nothing}
use Rattle.right_reading.specs.Right.{first, Ends, Right, always, Reads}
use Rattle.right_reading.specs.RightExpressions.{RightExpressions}
use Rattle.right_reading.proofs.Composed.Rules.{Chosen, no_parts, early_seen}
use Rattle.c_grammar.proofs.Sequences.{from_nothing}
use Rattle.declaration_reading.proofs.Specifiers.{type_parts}
use Rattle.right_reading.proofs.Composed.Steps.{Right-both, Read-token}
use Rattle.c_grammar.proofs.SymbolNumbers.{same-is, other-is}
use Rattle.right_reading.proofs.OneToken.Tokens.{Right-if, name_right, ahead-same, nowhere}
use Rattle.right_reading.specs.Stops.{no_int}
use Rattle.c_grammar.proofs.SymbolSets.{among}

-- ---- what may follow

abbrev pub ends_param : Symbol → Bool
ends_param symbol.Comma = true
ends_param symbol.CloseParen = true
ends_param _ = false

abbrev pub not_name : Symbol → Bool
not_name symbol.Name = false
not_name _ = true

abbrev pub not_const : Symbol → Bool
not_const symbol.Const = false
not_const _ = true

-- what may follow the type of a parameter
abbrev pub ends_type : Symbol → Bool
ends_type symbol.Star = true
ends_type symbol.Name = true
ends_type symbol.OpenBracket = true
ends_type symbol.Comma = true
ends_type symbol.CloseParen = true
ends_type _ = false

-- what may follow its name
abbrev pub ends_named : Symbol → Bool
ends_named symbol.OpenBracket = true
ends_named symbol.Comma = true
ends_named symbol.CloseParen = true
ends_named _ = false

param_named : (s : Symbol) → ends_param s ≡ true → ends_named s ≡ true
param_named = among ends_param ends_named refl

named_type : (s : Symbol) → ends_named s ≡ true → ends_type s ≡ true
named_type = among ends_named ends_type refl

named_not_name : (s : Symbol) → ends_named s ≡ true → not_name s ≡ true
named_not_name = among ends_named not_name refl

pub type_no_int : (s : Symbol) → ends_type s ≡ true → no_int s ≡ true
type_no_int = among ends_type no_int refl

type_not_const : (s : Symbol) → begins_type s ≡ true → not_const s ≡ true
type_not_const = among begins_type not_const refl

-- ---- `const` before the type

abbrev pub const_parts : Option At → List Part
const_parts None = []
const_parts (Some at) = kept symbol.Const at ∷ []

abbrev pub const_of : List Spot → Option At
const_of i = if same_symbol (ahead i) symbol.Const then Some (here i) else None

module _ (n : ℕ) where
  const_right : (i : List Spot) → Ends i → Right const_parts n (λ x s. not_const s) [] i (Ok (const_of i, passed symbol.Const i))
  const_right [] ends = absurd ends
  const_right (c ∷ cs) ends = by_test (same_symbol c.symbol symbol.Const) refl
    where
      nothing_ahead : (v s r : List Spot) (d : ℕ) → Spells [] d v → v ++ s ≡ r → first r ≡ Some c → ahead s ≡ c.symbol
      nothing_ahead v s r d sp e h = ap (λ (w : List Spot). ahead (w ++ s)) (sym (from_nothing sp).tokens) ∙ ap ahead e ∙ ahead-same r (c ∷ cs) h

      there : c.symbol ≡ symbol.Const → (x : Option At) (d : ℕ) (v s r : List Spot) → Spells (const_parts x) d v → not_const (ahead s) ≡ true → v ++ s ≡ r → first r ≡ Some c → (at : At) × (x ≡ Some at)
      there is None d v s r sp st e h = absurd (wrong not_const (ahead s) symbol.Const st (nothing_ahead v s r d sp e h ∙ is) refl)
      there is (Some at) d v s r sp st e h = (at, refl)

      not_there : c.symbol ≢ symbol.Const → (x : Option At) (d : ℕ) (v s r : List Spot) → Spells (const_parts x) d v → not_const (ahead s) ≡ true → v ++ s ≡ r → first r ≡ Some c → (x ≡ None) × (v ≡ [])
      not_there ne None d v s r sp st e h = (refl, (from_nothing sp).tokens)
      not_there ne (Some at) d v s r sp st e h = absurd (ne (ahead_is s r (c ∷ cs) sp e h))

      by_test : (b : Bool) → same_symbol c.symbol symbol.Const ≡ b → Right const_parts n (λ x s. not_const s) [] (c ∷ cs) (Ok ((if b then Some c.at else None), (if b then cs else c ∷ cs)))
      by_test true e =
          let is = same-is c.symbol symbol.Const e in
          by_seen (alternative const_parts n (λ x s. not_const s) [] (c ∷ cs) (λ (at : At). Some at) (there is)) (Ok (c.at, cs))
          (stricter (λ (at : At). kept symbol.Const at ∷ []) n always (λ x s. not_const s) [] (c ∷ cs) (λ x s e. refl) (Ok (c.at, cs))
          (Read-token (λ (at : At). Kept symbol.Const at) n c.at c cs (is, refl) (λ f. let g : symbol.Const ≡ symbol.End = sym is ∙ f in cc) (λ x q. sym q.1) ends))
      by_test false e = nothing_right const_parts n (λ x s. not_const s) (c ∷ cs) None ends refl (not_there (other-is c.symbol symbol.Const e))

-- ---- the type

abbrev pub ParamType : Type 0
ParamType = At × At × Bool × Width

abbrev pub param_type_parts : ParamType → List Part
param_type_parts x = node (a.param_type x.0 x.1 x.2 x.3) ∷ []

abbrev pub param_type_node : ParamType → Node
param_type_node x = a.param_type x.0 x.1 x.2 x.3

abbrev pub param_typed : Option At × (At × Width) → ParamType
param_typed (None, x) = (x.0, x.0, false, x.1)
param_typed (Some at, x) = (at, x.0, true, x.1)

abbrev pub read_param_type : List Spot → Result (ParamType × List Spot) Fault
read_param_type i = seen_by param_typed (then_read {B = λ c. At × Width} (read_as (const_of i) (passed symbol.Const i)) (λ c. type_at))

-- ---- the name

pub maybe_name_right : (n : ℕ) → Reads (λ (x : Option Named). node (a.maybe_name x) ∷ []) n (λ x s. not_name s) maybe_name_at
maybe_name_right n i ends =
    Right-if (λ (x : Option Named). node (a.maybe_name x) ∷ []) n (λ x s. not_name s) [] i (same_symbol (ahead i) symbol.Name) (seen_by (λ (name : Named). Some name) (name_at i)) (Ok (None, i))
    (λ e. by_seen (early_seen a.maybe_name (λ (name : Named). called name ∷ []) n always (λ x s. not_name s) [] i (λ (name : Named). Some name) (λ x. rule.a_name) (there (same-is (ahead i) symbol.Name e))) (name_at i) (name_right n i ends))
    (λ e. no_node a.maybe_name n (λ x s. not_name s) i None ends rule.no_name (not_there (other-is (ahead i) symbol.Name e)))
  where
    there : ahead i ≡ symbol.Name → (x : Option Named) (early late : List Part) (c1 c2 : ℕ) (u1 u2 s r : List Spot) → Rule (a.maybe_name x) early late → Spells early c1 u1 → Spells late c2 u2 → not_name (ahead s) ≡ true
        → (u1 ++ u2) ++ s ≡ r → first r ≡ first i → Chosen (λ (name : Named). called name ∷ []) no_parts always (λ (name : Named). Some name) x early late s
    there is x early late c1 c2 u1 u2 s r rule.no_name sp sq st e h = absurd (wrong not_name (ahead s) symbol.Name st (ap ahead (rule_nothing u1 u2 s r sp sq e) ∙ ahead-same r i h ∙ is) refl)
    there is x early late c1 c2 u1 u2 s r (rule.a_name {name = name}) sp sq st e h = record { a = name; same = refl; is_early = refl; is_late = refl; stops = refl }

    not_there : ahead i ≢ symbol.Name → (x : Option Named) (early late : List Part) (c1 c2 : ℕ) (u1 u2 s r : List Spot) → Rule (a.maybe_name x) early late → Spells early c1 u1 → Spells late c2 u2 → not_name (ahead s) ≡ true
        → (u1 ++ u2) ++ s ≡ r → first r ≡ first i → Chosen {A = Unit {0}} no_parts no_parts always (λ u. None) x early late s
    not_there ne x early late c1 c2 u1 u2 s r rule.no_name sp sq st e h = record { a = tt; same = refl; is_early = refl; is_late = refl; stops = refl }
    not_there ne x early late c1 c2 u1 u2 s r rule.a_name sp sq st e h = absurd (ne (rule_ahead u1 u2 s r i sp e h))

-- what is ahead of a name, or of what follows none
after_name : {x : Option Named} {ps : List Part} {c : ℕ} {w : List Spot} (P : Symbol → Bool) (s : List Spot) → P symbol.Name ≡ true → ((d : ℕ) (v : List Spot) → Spells ps d v → P (ahead (v ++ s)) ≡ true)
    → Spells (node (a.maybe_name x) ∷ ps) c w → P (ahead (w ++ s)) ≡ true
after_name {w = w} P s at_name holds (whole {d = d} {u1 = u1} {u2 = u2} {v = v} rule.no_name early late rest e _) = ap P (nothing_ahead u1 u2 v w s e early late) ∙ holds d v rest
after_name {w = w} P s at_name holds (whole {u1 = u1} {u2 = u2} {v = v} rule.a_name early late rest e _) = ap P (early_token u1 u2 v w s e early) ∙ at_name

-- ---- what follows the type

pub data ParamTail : Type 0 where
  a_view : Option Named → ParamTail
  no_view : Option Named → Option Dim → ParamTail

abbrev pub dim_parts : Option Dim → List Part
dim_parts None = []
dim_parts (Some d) = node (a.dimension d) ∷ []

abbrev pub tail_parts : ParamTail → List Part
tail_parts (a_view name) = word symbol.Star ∷ node (a.maybe_name name) ∷ []
tail_parts (no_view name dim) = node (a.maybe_name name) ∷ dim_parts dim

abbrev stops_tail : {A : Type 0} → A → Symbol → Bool
stops_tail x s = ends_param s

-- what is ahead of the dimension, or after none
dim_ahead : (o : Option Dim) (d : ℕ) (v s : List Spot) → Spells (dim_parts o) d v → ends_param (ahead s) ≡ true → ends_named (ahead (v ++ s)) ≡ true
dim_ahead None d v s sp st = follows_nothing ends_named s sp (param_named (ahead s) st)
dim_ahead (Some x) d v s sp st = ap ends_named (dimension_begins s sp)

pub tail_ahead : (t : ParamTail) (d : ℕ) (v s : List Spot) → Spells (tail_parts t) d v → ends_param (ahead s) ≡ true → ends_type (ahead (v ++ s)) ≡ true
tail_ahead (a_view name) d v s sp st = follows_token ends_type s sp refl
tail_ahead (no_view name o) d v s sp st = after_name ends_type s refl (λ e w sq. named_type (ahead (w ++ s)) (dim_ahead o e w s sq st)) sp

abbrev pub with_tail : ParamType → ParamTail → Param
with_tail x (a_view name) = param_of x.0 x.2 (x.1, x.3) true name None
with_tail x (no_view name dim) = param_of x.0 x.2 (x.1, x.3) false name dim

abbrev pub no_view_of : Option Named × Option Dim → ParamTail
no_view_of x = no_view x.0 x.1

module _ (n : ℕ)
    (right : RightExpressions n) where
  abbrev const_and_type : Option At × (At × Width) → List Part
  const_and_type x = const_parts x.0 ++ node (a.type_ x.1.0 x.1.1) ∷ []

  pub param_type_right : Reads param_type_parts n (λ x s. no_int s) read_param_type
  param_type_right i ends =
      by_seen (early_seen param_type_node const_and_type n (λ x s. no_int s) (λ x s. no_int s) [] i param_typed by_rule (λ x. which x.0 x.1 x.2 x.3))
      (then_read {B = λ c. At × Width} (read_as (const_of i) (passed symbol.Const i)) (λ c. type_at))
      (then_right const_parts (λ c. type_parts) n (λ x s. not_const s) (λ c x s. no_int s) (λ q x c v s sp st. type_not_const (ahead (v ++ s)) (spells_starts s sp)) (λ c. (nowhere, W16))
      (read_as (const_of i) (passed symbol.Const i)) (λ c. type_at) [] i (const_right n i ends) (λ q j r. right.type_ j r.ends))
    where
      by_rule : (x : Option At × (At × Width)) → Rule (param_type_node (param_typed x)) (const_and_type x) []
      by_rule (None, x) = rule.param_type
      by_rule (Some at, x) = rule.const_param_type

      which : (at t : At) (b : Bool) (w : Width) (early late : List Part) (c1 c2 : ℕ) (u1 u2 s r : List Spot) → Rule (a.param_type at t b w) early late → Spells early c1 u1 → Spells late c2 u2 → no_int (ahead s) ≡ true
          → (u1 ++ u2) ++ s ≡ r → first r ≡ first i → Chosen {X = ParamType} const_and_type no_parts (λ x s. no_int s) param_typed (at, t, b, w) early late s
      which at t b w early late c1 c2 u1 u2 s r rule.param_type sp sq st e h = record { a = (None, (at, w)); same = refl; is_early = refl; is_late = refl; stops = st }
      which at t b w early late c1 c2 u1 u2 s r rule.const_param_type sp sq st e h = record { a = (Some at, (t, w)); same = refl; is_early = refl; is_late = refl; stops = st }

  -- ---- what follows the type

  abbrev some_dim : Dim → Option Dim
  some_dim d = Some d

  dim_right : Reads dim_parts n stops_tail (param_dimension_at n false)
  unfolding param_dimension_at
  dim_right i ends =
      Right-if dim_parts n stops_tail [] i (same_symbol (ahead i) symbol.OpenBracket) (seen_by some_dim (dimension_at n i)) (Ok (None, i))
      (λ e. by_seen (alternative dim_parts n stops_tail [] i some_dim (there (same-is (ahead i) symbol.OpenBracket e))) (dimension_at n i)
      (stricter (λ (d : Dim). node (a.dimension d) ∷ []) n always stops_tail [] i (λ x s e. refl) (dimension_at n i) (dimension_right n right i ends)))
      (λ e. nothing_right dim_parts n stops_tail i None ends refl (not_there (other-is (ahead i) symbol.OpenBracket e)))
    where
      there : ahead i ≡ symbol.OpenBracket → (o : Option Dim) (c : ℕ) (v s r : List Spot) → Spells (dim_parts o) c v → ends_param (ahead s) ≡ true → v ++ s ≡ r → first r ≡ first i → (x : Dim) × (o ≡ Some x)
      there is None c v s r sp st eq h =
          absurd (wrong ends_param (ahead s) symbol.OpenBracket st (ap (λ (w : List Spot). ahead (w ++ s)) (sym (from_nothing sp).tokens) ∙ ap ahead eq ∙ ahead-same r i h ∙ is) refl)
      there is (Some x) c v s r sp st eq h = (x, refl)

      not_there : ahead i ≢ symbol.OpenBracket → (o : Option Dim) (c : ℕ) (v s r : List Spot) → Spells (dim_parts o) c v → ends_param (ahead s) ≡ true → v ++ s ≡ r → first r ≡ first i → (o ≡ None) × (v ≡ [])
      not_there ne None c v s r sp st eq h = (refl, (from_nothing sp).tokens)
      not_there ne (Some x) c v s r sp st eq h = absurd (ne (sym (ap ahead eq ∙ ahead-same r i h) ∙ dimension_begins s sp))

  -- what follows the type
  abbrev pub read_tail : List Spot → Result (ParamTail × List Spot) Fault
  read_tail i =
      if same_symbol (ahead i) symbol.Star then seen_by a_view (maybe_name_at (rest i))
      else seen_by no_view_of (both maybe_name_at (param_dimension_at n false) i)

  pub tail_right : Reads tail_parts n stops_tail read_tail
  tail_right [] ends = absurd ends
  tail_right (c ∷ cs) ends =
      Right-if tail_parts n stops_tail [] (c ∷ cs) (same_symbol c.symbol symbol.Star) (seen_by a_view (maybe_name_at cs)) (seen_by no_view_of (both maybe_name_at (param_dimension_at n false) (c ∷ cs)))
      (λ e. star (same-is c.symbol symbol.Star e)) (λ e. none (other-is c.symbol symbol.Star e))
    where
      star : c.symbol ≡ symbol.Star → Right tail_parts n stops_tail [] (c ∷ cs) (seen_by a_view (maybe_name_at cs))
      star is =
          by_seen (alternative tail_parts n stops_tail [] (c ∷ cs) a_view which) (maybe_name_at cs)
          (stricter (λ (x : Option Named). word symbol.Star ∷ node (a.maybe_name x) ∷ []) n (λ x s. not_name s) stops_tail [] (c ∷ cs) (λ x s e. named_not_name s (param_named s e)) (maybe_name_at cs)
          (after_word symbol.Star (λ g. cc) (λ (x : Option Named). node (a.maybe_name x) ∷ []) n (λ x s. not_name s) c cs is ends (maybe_name_at cs) (maybe_name_right n cs (ends_after c cs is (λ g. cc) ends))))
        where
          which : (t : ParamTail) (d : ℕ) (v s r : List Spot) → Spells (tail_parts t) d v → ends_param (ahead s) ≡ true → v ++ s ≡ r → first r ≡ Some c → (x : Option Named) × (t ≡ a_view x)
          which (a_view x) d v s r sp st e h = (x, refl)
          which (no_view x o) d v s r sp st e h =
              let not_star : ahead (v ++ s) ≢ symbol.Star = λ f. wrong name_or_more (ahead (v ++ s)) symbol.Star (after_name name_or_more s refl (λ k w sq. more (ahead (w ++ s)) (dim_ahead o k w s sq st)) sp) f refl in
              absurd (not_star (ap ahead e ∙ ahead-same r (c ∷ cs) h ∙ is))
            where
              name_or_more : Symbol → Bool
              name_or_more symbol.Star = false
              name_or_more _ = true

              more : (s : Symbol) → ends_named s ≡ true → name_or_more s ≡ true
              more = among ends_named name_or_more refl

      none : c.symbol ≢ symbol.Star → Right tail_parts n stops_tail [] (c ∷ cs) (seen_by no_view_of (both maybe_name_at (param_dimension_at n false) (c ∷ cs)))
      none ne =
          by_seen (alternative tail_parts n stops_tail [] (c ∷ cs) no_view_of which) (both maybe_name_at (param_dimension_at n false) (c ∷ cs))
          (Right-both (λ (x : Option Named). node (a.maybe_name x) ∷ []) dim_parts n (λ x s. not_name s) stops_tail (λ x o d v s sp st. named_not_name (ahead (v ++ s)) (dim_ahead o d v s sp st)) None
          maybe_name_at (param_dimension_at n false) [] (c ∷ cs) (maybe_name_right n (c ∷ cs) ends) dim_right)
        where
          which : (t : ParamTail) (d : ℕ) (v s r : List Spot) → Spells (tail_parts t) d v → ends_param (ahead s) ≡ true → v ++ s ≡ r → first r ≡ Some c → (x : Option Named × Option Dim) × (t ≡ no_view x.0 x.1)
          which (a_view x) d v s r sp st e h = absurd (ne (ahead_is s r (c ∷ cs) sp e h))
          which (no_view x o) d v s r sp st e h = ((x, o), refl)
