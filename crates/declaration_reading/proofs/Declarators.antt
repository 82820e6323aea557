-- Reading declarators.
use Rattle.std.proofs.Common.{◌≡◌, ◌≢◌, ℕ, Bool, true, not, List, [], ◌∷◌, ◌++◌, Option, None, refl, subst, ◌∙◌, sym}
use Rattle.sat_base.specs.declared.name.At.{At}
use Rattle.sat_base.specs.declared.name.Named.{Named}
use Rattle.sat_base.specs.declared.width.Width.{Width}
use Rattle.c_tree.specs.declared.declaration.Decl.{Decl}
use Rattle.c_tree.specs.declared.declaration.Dim.{Dim}
use Rattle.c_tree.specs.declared.declaration.Init.{Init}
use Rattle.c_tree.specs.declared.declaration.Init.TheVariants as init
use Rattle.right_reading.specs.declared.specifiers.Specifiers.{Specifiers}
use Rattle.c_grammar.specs.declared.symbol.Symbol.{Symbol}
use Rattle.c_grammar.specs.declared.symbol.Symbol.TheVariants as symbol
use Rattle.c_grammar.specs.Grammar.{Rule}
use Rattle.c_grammar.specs.Grammar as rule
use Rattle.c_grammar.specs.Nodes as a
use Rattle.c_grammar.specs.Parts.{Part, node, kept, called}
use Rattle.right_reading.specs.ReadDeclarations.{dimensions_at, start_at, view_start_at, view_of, object_of, view_at, named_declarator_at, declarator_at}
use Rattle.c_grammar.specs.Spelling.{Spells}
use Rattle.c_grammar.specs.Spots.{Spot}
use Rattle.right_reading.specs.Stream.{ahead, ◌>>=◌, both, take_at, name_at}
use Rattle.c_grammar.specs.Symbols.{same_symbol}
use Rattle.right_reading.proofs.Composed.Alternatives.{by_seen}
use Rattle.declaration_reading.proofs.Dimensions.{no_bracket, dimensions_right}
use Rattle.right_reading.proofs.OneToken.Endings.{fused, rule_ahead}
use Rattle.declaration_reading.proofs.Initialisers.{stops_start, ends_name, start_begins, start_right, view_start_right}
use Rattle.right_reading.specs.Right.{first, Ends, Stops, Right, always, Reads}
use Rattle.right_reading.specs.RightExpressions.{RightExpressions}
use Rattle.right_reading.proofs.Composed.Rules.{Chosen, no_parts, early_seen}
use Rattle.right_reading.proofs.Composed.Steps.{Right-both}
use Rattle.c_grammar.proofs.SymbolNumbers.{same-is, other-is}
use Rattle.right_reading.proofs.OneToken.Tokens.{Right-if, take_right, name_right, no_name}
use Rattle.c_grammar.proofs.SymbolSets.{among}

abbrev pub spec : At → (is_static is_const : Bool) → Width → Specifiers
spec at is_static is_const w = record { quals = record { at = at; is_static = is_static; is_const = is_const }; width = w }

abbrev pub Dims : Type 0
Dims = Option Dim × Option Dim

-- what follows the name of an object
abbrev pub object_rest : Dims × Init → List Part
object_rest x = node (a.dimensions x.0.0 x.0.1) ∷ node (a.start x.1) ∷ []

abbrev object_parts : Named × (Dims × Init) → List Part
object_parts x = called x.0 ∷ node (a.dimensions x.1.0.0 x.1.0.1) ∷ node (a.start x.1.1) ∷ []

abbrev view_rest : Named × Init → List Part
view_rest x = called x.0 ∷ node (a.view_start x.1) ∷ []

abbrev view_parts : At × (Named × Init) → List Part
view_parts x = kept symbol.Star x.0 ∷ called x.1.0 ∷ node (a.view_start x.1.1) ∷ []

name_bracket : (s : Symbol) → ends_name s ≡ true → not (same_symbol s symbol.OpenBracket) ≡ true
name_bracket = among ends_name (λ (s : Symbol). not (same_symbol s symbol.OpenBracket)) refl

module _ (n : ℕ)
    (right : RightExpressions n) where
  -- what follows a name that begins a declarator
  pub object_rest_right : (i : List Spot) → Ends i → Right object_rest n stops_start [] i (both (dimensions_at n) (start_at n) i)
  object_rest_right i ends =
      Right-both (λ (d : Dims). node (a.dimensions d.0 d.1) ∷ []) (λ (x : Init). node (a.start x) ∷ []) n no_bracket stops_start
      (λ d x c v s sp st. name_bracket (ahead (v ++ s)) (start_begins s sp st)) init.Nothing (dimensions_at n) (start_at n) [] i
      (dimensions_right n right i ends) (start_right n right)

  module _ (at : At) (is_static is_const : Bool) (w : Width) where
    abbrev declarator_node : Decl → List Part
    declarator_node d = node (a.declarator is_static is_const w d) ∷ []

    abbrev a_view : At × (Named × Init) → Decl
    a_view x = view_of (spec at is_static is_const w) x.0 x.1.0 x.1.1

    abbrev an_object : Named × (Dims × Init) → Decl
    an_object x = object_of (spec at is_static is_const w) x.0 x.1.0 x.1.1

    view : (i : List Spot) → Ends i → ahead i ≡ symbol.Star → Right declarator_node n stops_start [] i (view_at n (spec at is_static is_const w) i)
    unfolding view_at
    view i ends is =
        by_seen (early_seen (a.declarator is_static is_const w) view_parts n stops_start stops_start [] i a_view (λ x. rule.view refl) which)
        (both (take_at symbol.Star) (both name_at (view_start_at n)) i)
        (Right-both (λ (at : At). kept symbol.Star at ∷ []) view_rest n always stops_start (λ x y c v s sp st. refl) (no_name, init.Nothing)
        (take_at symbol.Star) (both name_at (view_start_at n)) [] i (take_right symbol.Star (λ g. cc) n i ends)
        (λ j more. Right-both (λ (name : Named). called name ∷ []) (λ (x : Init). node (a.view_start x) ∷ []) n always stops_start (λ x y c v s sp st. refl) init.Nothing
        name_at (view_start_at n) [] j (name_right n j more) (view_start_right n right)))
      where
        which : (d : Decl) (early late : List Part) (c1 c2 : ℕ) (u1 u2 s r : List Spot) → Rule (a.declarator is_static is_const w d) early late → Spells early c1 u1 → Spells late c2 u2 → Stops stops_start d s
            → (u1 ++ u2) ++ s ≡ r → first r ≡ first i → Chosen view_parts no_parts stops_start a_view d early late s
        which d early late c1 c2 u1 u2 s r (rule.view {at = star} {name = name} {start = x} e) sp sq st eq h = record { a = (star, (name, x)); same = e; is_early = refl; is_late = refl; stops = st }
        which d early late c1 c2 u1 u2 s r (rule.object e) sp sq st eq h = let f : symbol.Star ≡ symbol.Name = sym is ∙ rule_ahead u1 u2 s r i sp eq h in absurd (cc)

    object : (i : List Spot) → Ends i → ahead i ≢ symbol.Star → Right declarator_node n stops_start [] i (name_at i >>= (λ x. named_declarator_at n (spec at is_static is_const w) x.0 x.1))
    unfolding named_declarator_at
    object i ends ne =
        subst (Right declarator_node n stops_start [] i) (sym (fused (name_at i) (λ name. both (dimensions_at n) (start_at n)) (λ name x. an_object (name, x))))
        (by_seen (early_seen (a.declarator is_static is_const w) object_parts n stops_start stops_start [] i an_object (λ x. rule.object refl) which)
        (both name_at (both (dimensions_at n) (start_at n)) i)
        (Right-both (λ (name : Named). called name ∷ []) object_rest n always stops_start (λ x y c v s sp st. refl) ((None, None), init.Nothing)
        name_at (both (dimensions_at n) (start_at n)) [] i (name_right n i ends) object_rest_right))
      where
        which : (d : Decl) (early late : List Part) (c1 c2 : ℕ) (u1 u2 s r : List Spot) → Rule (a.declarator is_static is_const w d) early late → Spells early c1 u1 → Spells late c2 u2 → Stops stops_start d s
            → (u1 ++ u2) ++ s ≡ r → first r ≡ first i → Chosen object_parts no_parts stops_start an_object d early late s
        which d early late c1 c2 u1 u2 s r (rule.view e) sp sq st eq h = absurd (ne (rule_ahead u1 u2 s r i sp eq h))
        which d early late c1 c2 u1 u2 s r (rule.object {name = name} {rows = rows} {cols = cols} {start = x} e) sp sq st eq h = record { a = (name, ((rows, cols), x)); same = e; is_early = refl; is_late = refl; stops = st }

    declarator_is_right : (i : List Spot) → Ends i → Right declarator_node n stops_start [] i (declarator_at n (spec at is_static is_const w) i)
    unfolding declarator_at
    declarator_is_right i ends =
        Right-if declarator_node n stops_start [] i (same_symbol (ahead i) symbol.Star) (view_at n (spec at is_static is_const w) i) (name_at i >>= (λ x. named_declarator_at n (spec at is_static is_const w) x.0 x.1))
        (λ e. view i ends (same-is (ahead i) symbol.Star e)) (λ e. object i ends (other-is (ahead i) symbol.Star e))

  pub declarator_right : (s : Specifiers) → Reads (λ (d : Decl). node (a.declarator s.quals.is_static s.quals.is_const s.width d) ∷ []) n stops_start (declarator_at n s)
  declarator_right s i ends = declarator_is_right s.quals.at s.quals.is_static s.quals.is_const s.width i ends
