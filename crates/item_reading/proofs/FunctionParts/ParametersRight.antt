-- Reading lists of parameters.
use Rattle.std.proofs.Common.{◌≡◌, ◌≢◌, ℕ, Bool, true, false, List, [], ◌∷◌, ◌++◌, Option, Some, None, refl, ap, subst, ◌∙◌, sym, suc, length, arith}
use Rattle.std.proofs.lemmas.List.{append_assoc}
use Rattle.std.specs.Prelude.{Result, Ok, Err, if◌then◌else◌}
use Rattle.sat_base.specs.declared.name.At.{At}
use Rattle.sat_base.specs.declared.name.Named.{Named}
use Rattle.sat_base.specs.declared.width.Width.{Width}
use Rattle.c_tree.specs.declared.declaration.Dim.{Dim}
use Rattle.c_tree.specs.declared.function.Param.{Param}
use Rattle.c_grammar.specs.declared.symbol.Symbol.{Symbol}
use Rattle.c_grammar.specs.declared.symbol.Symbol.TheVariants as symbol
use Rattle.c_grammar.specs.Grammar.{Rule}
use Rattle.c_grammar.specs.Grammar as rule
use Rattle.c_grammar.specs.Nodes as a
use Rattle.c_grammar.specs.Parts.{Part, node, word, separated}
use Rattle.right_reading.specs.ReadDeclarations.{passed}
use Rattle.right_reading.specs.ReadExpressions.{type_at, type_by}
use Rattle.right_reading.specs.ReadSource.{maybe_name_at, param_dimension_at, param_of, param_at, listed_params_at, params_at}
use Rattle.c_grammar.specs.Spelling.{Spells}
use Rattle.c_grammar.specs.Spots.{Spot, here}
use Rattle.right_reading.specs.Stream.{ahead, rest, Fault, ◌>>=◌, both}
use Rattle.c_grammar.specs.Symbols.{same_symbol, width_of}
use Rattle.right_reading.proofs.Composed.Alternatives.{by_seen, nothing_right, no_node, ends_after, after_word}
use Rattle.right_reading.proofs.Composed.Dependent.{then_right, then_read, seen_by, read_as}
use Rattle.right_reading.proofs.OneToken.Endings.{rule_ahead, rule_nothing}
use Rattle.right_reading.proofs.Lists.Listed.{ends_list, ends_one, listed_as}
use Rattle.right_reading.proofs.Lists.Many.{front_of}
use Rattle.right_reading.proofs.Ahead.Begins.{begins_param, spells_starts, wrong}
use Rattle.item_reading.proofs.FunctionParts.Parameters.{ends_param, ParamType, ParamTail, a_view, no_view, tail_parts, tail_ahead, type_no_int, with_tail, param_typed, param_type_parts, read_param_type, no_view_of, read_tail, param_type_right, tail_right}
use Rattle.right_reading.specs.Right.{first, Ends, Stops, Right, always, Reads}
use Rattle.right_reading.specs.RightExpressions.{RightExpressions}
use Rattle.right_reading.proofs.Composed.Rules.{Chosen, no_parts, early_seen}
use Rattle.c_grammar.proofs.Sequences.{from_nothing}
use Rattle.c_grammar.proofs.SymbolNumbers.{same-is, other-is}
use Rattle.right_reading.proofs.OneToken.Tokens.{Right-if, ahead-same}
use Rattle.right_reading.specs.Stops.{no_int}

-- ---- where a type stands

abbrev pub at_of : Result ((At × Width) × List Spot) Fault → At → At
at_of (Ok x) at = x.0.0
at_of (Err f) at = at

at_here : (o : Option Width) (i : List Spot) → at_of (type_by o i) (here i) ≡ here i
at_here None i = refl
at_here (Some w) i = refl

pub type_at_here : (i : List Spot) → at_of (type_at i) (here i) ≡ here i
unfolding type_at
type_at_here i = at_here (width_of (ahead i)) i

abbrev param_parts : ParamType × ParamTail → List Part
param_parts x = node (a.param_type x.0.0 x.0.1 x.0.2 x.0.3) ∷ tail_parts x.1

abbrev whole_param : ParamType × ParamTail → Param
whole_param x = with_tail x.0 x.1

-- what follows `(` may be this
abbrev pub closes_params : {A : Type 0} → A → Symbol → Bool
closes_params x s = same_symbol s symbol.CloseParen

module _ (n : ℕ)
    (right : RightExpressions n) where
  abbrev tail_at : List Spot → Result (ParamTail × List Spot) Fault
  tail_at j = read_tail n right j

  abbrev read_param : List Spot → Result ((ParamType × ParamTail) × List Spot) Fault
  read_param i = then_read {B = λ x. ParamTail} (read_param_type i) (λ x. tail_at)

  abbrev rest_of_param : At → Bool → At × Width → List Spot → Result (Param × List Spot) Fault
  rest_of_param at b x j = maybe_name_at (passed symbol.Star j) >>= (λ y. seen_by (param_of at b x (same_symbol (ahead j) symbol.Star) y.0) (param_dimension_at n (same_symbol (ahead j) symbol.Star) y.1))

  tail_is : (at : At) (b : Bool) (x : At × Width) (j : List Spot) → rest_of_param at b x j ≡ seen_by (with_tail (at, x.0, b, x.1)) (tail_at j)
  unfolding param_dimension_at
  tail_is at b x j = by_test (same_symbol (ahead j) symbol.Star)
    where
      star : (m : Result (Option Named × List Spot) Fault) → (m >>= (λ y. seen_by (param_of at b x true y.0) (param_dimension_at n true y.1))) ≡ seen_by (with_tail (at, x.0, b, x.1)) (seen_by a_view m)
      star (Ok y) = refl
      star (Err f) = refl

      dim : (name : Option Named) (m : Result (Option Dim × List Spot) Fault) → seen_by (param_of at b x false name) m ≡ seen_by (with_tail (at, x.0, b, x.1)) (seen_by no_view_of (m >>= (λ z. Ok ((name, z.0), z.1))))
      dim name (Ok z) = refl
      dim name (Err f) = refl

      no_star : (m : Result (Option Named × List Spot) Fault) → (m >>= (λ y. seen_by (param_of at b x false y.0) (param_dimension_at n false y.1)))
          ≡ seen_by (with_tail (at, x.0, b, x.1)) (seen_by no_view_of (then_read {B = λ y. Option Dim} m (λ y. param_dimension_at n false)))
      no_star (Ok y) = dim y.0 (param_dimension_at n false y.1)
      no_star (Err f) = refl

      by_test : (p : Bool) → (maybe_name_at (if p then rest j else j) >>= (λ y. seen_by (param_of at b x p y.0) (param_dimension_at n p y.1)))
          ≡ seen_by (with_tail (at, x.0, b, x.1)) (if p then seen_by a_view (maybe_name_at (rest j)) else seen_by no_view_of (both maybe_name_at (param_dimension_at n false) j))
      by_test true = star (maybe_name_at (rest j))
      by_test false = no_star (maybe_name_at j)

  param_is : (i : List Spot) → param_at n i ≡ seen_by whole_param (read_param i)
  unfolding param_at
  param_is i = by_test (same_symbol (ahead i) symbol.Const)
    where
      last : (x : ParamType) (m : Result (ParamTail × List Spot) Fault) → seen_by (with_tail x) m ≡ seen_by whole_param (m >>= (λ z. Ok ((x, z.0), z.1)))
      last x (Ok z) = refl
      last x (Err f) = refl

      with_const : (m : Result ((At × Width) × List Spot) Fault) → (m >>= (λ x. rest_of_param (here i) true x.0 x.1))
          ≡ seen_by whole_param (then_read {B = λ x. ParamTail} (seen_by param_typed (m >>= (λ y. Ok ((Some (here i), y.0), y.1)))) (λ x. tail_at))
      with_const (Ok x) = tail_is (here i) true x.0 x.1 ∙ last (here i, x.0.0, true, x.0.1) (tail_at x.1)
      with_const (Err f) = refl

      with_none : (m : Result ((At × Width) × List Spot) Fault) → at_of m (here i) ≡ here i → (m >>= (λ x. rest_of_param (here i) false x.0 x.1))
          ≡ seen_by whole_param (then_read {B = λ x. ParamTail} (seen_by param_typed (m >>= (λ y. Ok ((None, y.0), y.1)))) (λ x. tail_at))
      with_none (Ok x) e = ap (λ (at : At). rest_of_param at false x.0 x.1) (sym e) ∙ tail_is x.0.0 false x.0 x.1 ∙ last (x.0.0, x.0.0, false, x.0.1) (tail_at x.1)
      with_none (Err f) e = refl

      by_test : (b : Bool) → (type_at (if b then rest i else i) >>= (λ x. rest_of_param (here i) b x.0 x.1))
          ≡ seen_by whole_param (then_read {B = λ x. ParamTail} (seen_by param_typed (then_read {B = λ c. At × Width} (read_as (if b then Some (here i) else None) (if b then rest i else i)) (λ c. type_at))) (λ x. tail_at))
      by_test true = with_const (type_at (rest i))
      by_test false = with_none (type_at i) (type_at_here i)

  param_right : Reads (λ (p : Param). node (a.param p) ∷ []) n (λ x s. ends_param s) (param_at n)
  param_right i ends =
      subst (Right (λ (p : Param). node (a.param p) ∷ []) n (λ x s. ends_param s) [] i) (sym (param_is i))
      (by_seen (early_seen a.param param_parts n (λ x s. ends_param s) (λ x s. ends_param s) [] i whole_param by_rule which) (read_param i)
      (then_right param_type_parts (λ x. tail_parts) n (λ x s. no_int s) (λ x t s. ends_param s) (λ x t c v s sp st. type_no_int (ahead (v ++ s)) (tail_ahead t c v s sp st)) (λ x. a_view None)
      (read_param_type i) (λ x. tail_at) [] i (param_type_right n right i ends) (λ x j r. tail_right n right j r.ends)))
    where
      by_rule : (x : ParamType × ParamTail) → Rule (a.param (whole_param x)) (param_parts x) []
      by_rule (x, a_view name) = rule.view_param refl
      by_rule (x, no_view name None) = rule.number_param refl
      by_rule (x, no_view name (Some d)) = rule.array_param refl

      which : (p : Param) (early late : List Part) (c1 c2 : ℕ) (u1 u2 s r : List Spot) → Rule (a.param p) early late → Spells early c1 u1 → Spells late c2 u2 → ends_param (ahead s) ≡ true
          → (u1 ++ u2) ++ s ≡ r → first r ≡ first i → Chosen param_parts no_parts (λ x s. ends_param s) whole_param p early late s
      which p early late c1 c2 u1 u2 s r (rule.number_param {at = at} {type_at = t} {name = name} {width = w} {is_const = b} e) sp sq st eq h =
          record { a = ((at, t, b, w), no_view name None); same = e; is_early = refl; is_late = refl; stops = st }
      which p early late c1 c2 u1 u2 s r (rule.view_param {at = at} {type_at = t} {name = name} {width = w} {is_const = b} e) sp sq st eq h =
          record { a = ((at, t, b, w), a_view name); same = e; is_early = refl; is_late = refl; stops = st }
      which p early late c1 c2 u1 u2 s r (rule.array_param {at = at} {type_at = t} {name = name} {width = w} {is_const = b} {dim = d} e) sp sq st eq h =
          record { a = ((at, t, b, w), no_view name (Some d)); same = e; is_early = refl; is_late = refl; stops = st }

  -- ---- lists of them

  abbrev params_node : List Param → List Part
  params_node ps = node (a.params ps) ∷ []

  abbrev one_parts : Param × List Param → List Part
  one_parts x = separated a.param x.0 x.1

  abbrev stops_params : List Param → Symbol → Bool
  stops_params = closes_params

  closed : (i : List Spot) → Ends i → ahead i ≡ symbol.CloseParen → Right params_node n stops_params [] i (Ok ([], i))
  closed i ends is = no_node a.params n stops_params i [] ends rule.no_params which
    where
      which : (x : List Param) (early late : List Part) (c1 c2 : ℕ) (u1 u2 s r : List Spot) → Rule (a.params x) early late → Spells early c1 u1 → Spells late c2 u2 → Stops stops_params x s
          → (u1 ++ u2) ++ s ≡ r → first r ≡ first i → Chosen {A = Unit {0}} no_parts no_parts always (λ u. []) x early late s
      which x early late c1 c2 u1 u2 s r rule.no_params sp sq st eq h = record { a = tt; same = refl; is_early = refl; is_late = refl; stops = refl }
      which x early late c1 c2 u1 u2 s r rule.void_params sp sq st eq h = let f : symbol.CloseParen ≡ symbol.Void = sym is ∙ rule_ahead u1 u2 s r i sp eq h in absurd (cc)
      which x early late c1 c2 u1 u2 s r rule.params sp sq st eq h =
          absurd (wrong begins_param (ahead (u1 ++ (u2 ++ s))) symbol.CloseParen (spells_starts (u2 ++ s) sp) (ap ahead (sym (append_assoc u1 u2 s)) ∙ ap ahead eq ∙ ahead-same r i h ∙ is) refl)

  void : (c : Spot) (cs : List Spot) → Ends (c ∷ cs) → c.symbol ≡ symbol.Void → Right params_node n stops_params [] (c ∷ cs) (Ok ([], cs))
  void c cs ends is =
      by_seen (early_seen a.params (λ (u : Unit {0}). word symbol.Void ∷ []) n always stops_params [] (c ∷ cs) (λ u. []) (λ u. rule.void_params) which) (Ok (tt, cs))
      (after_word symbol.Void (λ g. cc) (λ (u : Unit {0}). []) n always c cs is ends (Ok (tt, cs))
      (nothing_right (λ (u : Unit {0}). []) n always cs tt (ends_after c cs is (λ g. cc) ends) refl (λ x d v t r sp st e h. (refl, (from_nothing sp).tokens))))
    where
      which : (x : List Param) (early late : List Part) (c1 c2 : ℕ) (u1 u2 s r : List Spot) → Rule (a.params x) early late → Spells early c1 u1 → Spells late c2 u2 → Stops stops_params x s
          → (u1 ++ u2) ++ s ≡ r → first r ≡ Some c → Chosen {A = Unit {0}} (λ u. word symbol.Void ∷ []) no_parts always (λ u. []) x early late s
      which x early late c1 c2 u1 u2 s r rule.no_params sp sq st eq h =
          let f : symbol.CloseParen ≡ symbol.Void = sym (same-is (ahead s) symbol.CloseParen st) ∙ ap ahead (rule_nothing u1 u2 s r sp sq eq) ∙ ahead-same r (c ∷ cs) h ∙ is in absurd (cc)
      which x early late c1 c2 u1 u2 s r rule.void_params sp sq st eq h = record { a = tt; same = refl; is_early = refl; is_late = refl; stops = refl }
      which x early late c1 c2 u1 u2 s r rule.params sp sq st eq h =
          absurd (wrong begins_param (ahead (u1 ++ (u2 ++ s))) symbol.Void (spells_starts (u2 ++ s) sp) (ap ahead (sym (append_assoc u1 u2 s)) ∙ ap ahead eq ∙ ahead-same r (c ∷ cs) h ∙ is) refl)

  listed : (i : List Spot) → Ends i → ahead i ≢ symbol.CloseParen → ahead i ≢ symbol.Void → Right params_node n stops_params [] i (listed_params_at n i)
  unfolding listed_params_at
  listed i ends ne nv =
      listed_as a.param n (λ x t. ends_param t) (ends_list ends_param) refl (λ x. refl) (λ x t e. ends_one ends_param t e) (param_at n) param_right (λ j. suc (length j)) (λ j. omega arith) {of_y = params_node} {limit' = n} {stops_y = stops_params} {i = i}
      (early_seen a.params one_parts n (λ x s. ends_list ends_param s) stops_params [] i front_of (λ x. rule.params) which) ends
    where
      which : (x : List Param) (early late : List Part) (c1 c2 : ℕ) (u1 u2 s r : List Spot) → Rule (a.params x) early late → Spells early c1 u1 → Spells late c2 u2 → Stops stops_params x s
          → (u1 ++ u2) ++ s ≡ r → first r ≡ first i → Chosen one_parts no_parts (λ x s. ends_list ends_param s) front_of x early late s
      which x early late c1 c2 u1 u2 s r rule.no_params sp sq st eq h = absurd (ne (sym (ap ahead (rule_nothing u1 u2 s r sp sq eq) ∙ ahead-same r i h) ∙ same-is (ahead s) symbol.CloseParen st))
      which x early late c1 c2 u1 u2 s r rule.void_params sp sq st eq h = absurd (nv (rule_ahead u1 u2 s r i sp eq h))
      which x early late c1 c2 u1 u2 s r (rule.params {p = p} {ps = ps}) sp sq st eq h =
          record { a = (p, ps); same = refl; is_early = refl; is_late = refl; stops = ap (ends_list ends_param) (same-is (ahead s) symbol.CloseParen st) }

  pub params_right : Reads params_node n stops_params (params_at n)
  unfolding params_at
  params_right [] ends = absurd ends
  params_right (c ∷ cs) ends =
      Right-if params_node n stops_params [] (c ∷ cs) (same_symbol c.symbol symbol.CloseParen) (Ok ([], c ∷ cs)) (if same_symbol c.symbol symbol.Void then Ok ([], cs) else listed_params_at n (c ∷ cs))
      (λ e. closed (c ∷ cs) ends (same-is c.symbol symbol.CloseParen e))
      (λ e. Right-if params_node n stops_params [] (c ∷ cs) (same_symbol c.symbol symbol.Void) (Ok ([], cs)) (listed_params_at n (c ∷ cs))
      (λ f. void c cs ends (same-is c.symbol symbol.Void f))
      (λ f. listed (c ∷ cs) ends (other-is c.symbol symbol.CloseParen e) (other-is c.symbol symbol.Void f)))
