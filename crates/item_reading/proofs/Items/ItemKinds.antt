-- Reading an item from its qualifiers on.
use Rattle.std.proofs.Common.{◌≡◌, ◌≢◌, ℕ, Bool, true, false, List, [], ◌∷◌, ◌++◌, Some, None, refl, ap, ◌∙◌, sym}
use Rattle.std.specs.Prelude.{Result, if◌then◌else◌}
use Rattle.sat_base.specs.declared.name.At.{At}
use Rattle.sat_base.specs.declared.name.Named.{Named}
use Rattle.sat_base.specs.declared.width.Width.{Width}
use Rattle.sat_base.specs.declared.width.Width.TheVariants.{W16}
use Rattle.c_tree.specs.declared.statement.Block.{Block}
use Rattle.c_grammar.specs.declared.symbol.Symbol.{Symbol}
use Rattle.c_grammar.specs.declared.symbol.Symbol.TheVariants as symbol
use Rattle.c_grammar.specs.Nodes as a
use Rattle.c_grammar.specs.Parts.{Part, Kept, node, kept, called}
use Rattle.right_reading.specs.ReadDeclarations.{declarator_at}
use Rattle.right_reading.specs.ReadExpressions.{type_at}
use Rattle.c_grammar.specs.Spelling.{Spells}
use Rattle.c_grammar.specs.Spots.{Spot, here}
use Rattle.right_reading.specs.Stream.{ahead, rest, Fault, Parser, both, name_at}
use Rattle.c_grammar.specs.Symbols.{same_symbol, begins_type}
use Rattle.right_reading.proofs.Composed.Alternatives.{by_seen, alternative, ends_after, ahead_is, follows_token, token_then}
use Rattle.right_reading.proofs.Ahead.Begins.{spells_starts}
use Rattle.right_reading.proofs.Composed.Dependent.{then_right, then_read, seen_by}
use Rattle.item_reading.proofs.FunctionParts.Functions.{FunctionRest, function_rest, read_function, function_right}
use Rattle.item_reading.proofs.Items.ItemRests.{Rest, objects, rest_parts, read_rest, rest_begins, rest_right}
use Rattle.declaration_reading.proofs.ObjectsRight.{declarator_no_int, Decls, decls_parts, declared_from, declared_right, any_decls}
use Rattle.right_reading.specs.Right.{first, Stops, Right, always, Reads}
use Rattle.right_reading.specs.RightExpressions.{RightExpressions}
use Rattle.declaration_reading.proofs.Specifiers.{Quals, none, static_first, const_first, quals_parts, stops_quals, no_qualifier, read_quals, quals_right, type_parts, type_no_qualifier, specified}
use Rattle.right_reading.proofs.Composed.Steps.{Right-both}
use Rattle.c_grammar.proofs.SymbolNumbers.{same-is, other-is}
use Rattle.right_reading.proofs.OneToken.Tokens.{Right-if, name_right, no_name, nowhere}
use Rattle.right_reading.specs.Stops.{no_int}

-- ---- what follows qualifiers without `const`

pub data Late : Type 0 where
  a_void : At → Named → FunctionRest → Late
  a_typed : At × Width → Rest → Late

abbrev pub late_parts : Quals → Late → List Part
late_parts q (a_void at name f) = kept symbol.Void at ∷ called name ∷ function_rest f
late_parts q (a_typed x r) = node (a.type_ x.0 x.1) ∷ rest_parts (specified q x) r

abbrev void_with : At × (Named × FunctionRest) → Late
void_with x = a_void x.0 x.1.0 x.1.1

abbrev pub typed_with : (At × Width) × Rest → Late
typed_with x = a_typed x.0 x.1

abbrev named_function : Named × FunctionRest → List Part
named_function x = called x.0 ∷ function_rest x.1

abbrev pub read_late : Parser Block → ℕ → Quals → Parser Late
read_late block n q i =
    if same_symbol (ahead i) symbol.Void then seen_by (λ (x : Named × FunctionRest). a_void (here i) x.0 x.1) (both name_at (read_function block n) (rest i))
    else seen_by typed_with (then_read {B = λ x. Rest} (type_at i) (λ x. read_rest block n (specified q x)))

no_void : (s : Symbol) → begins_type s ≡ true → s ≢ symbol.Void
no_void s e f = let g : begins_type symbol.Void ≡ true = ap begins_type (sym f) ∙ e in cc

-- ---- by whether there is a `const`

abbrev pub const_quals : Quals → Bool
const_quals none = false
const_quals (static_first at b) = b
const_quals (const_first at b) = true

abbrev pub Kind : Bool → Type 0
Kind true = (At × Width) × Decls
Kind false = Late

abbrev pub kind_parts : Quals → (b : Bool) → Kind b → List Part
kind_parts q true x = node (a.type_ x.0.0 x.0.1) ∷ decls_parts (specified q x.0) x.1
kind_parts q false l = late_parts q l

abbrev pub read_kind : Parser Block → ℕ → Quals → (b : Bool) → Parser (Kind b)
read_kind block n q true i = then_read {B = λ x. Decls} (type_at i) (λ x j. declared_from n (specified q x) (declarator_at n (specified q x) j))
read_kind block n q false i = read_late block n q i

abbrev pub item_parts : (q : Quals) × Kind (const_quals q) → List Part
item_parts x = quals_parts x.0 ++ kind_parts x.0 (const_quals x.0) x.1

abbrev pub read_item : Parser Block → ℕ → List Spot → Result (((q : Quals) × Kind (const_quals q)) × List Spot) Fault
read_item block n i = then_read {B = λ q. Kind (const_quals q)} (read_quals i) (λ q. read_kind block n q (const_quals q))

any_kind : (q : Quals) (b : Bool) → Kind b
any_kind q true = ((nowhere, W16), any_decls (specified q (nowhere, W16)))
any_kind q false = a_void nowhere no_name (tt, ([], (tt, None)))

kind_no_qualifier : (q : Quals) (b : Bool) (x : Kind b) (d : ℕ) (v t : List Spot) → Spells (kind_parts q b x) d v → no_qualifier (ahead (v ++ t)) ≡ true
kind_no_qualifier q true x d v t sp = type_no_qualifier (ahead (v ++ t)) (spells_starts t sp)
kind_no_qualifier q false (a_void at name f) d v t sp = follows_token no_qualifier t sp refl
kind_no_qualifier q false (a_typed x r) d v t sp = type_no_qualifier (ahead (v ++ t)) (spells_starts t sp)

module _ (n : ℕ) (block : Parser Block)
    (block_right : Reads (λ (b : Block). node (a.block b) ∷ []) n always block)
    (right : RightExpressions n) where
  late_right : (q : Quals) → Reads (late_parts q) n always (read_late block n q)
  late_right q [] ends = absurd ends
  late_right q (c ∷ cs) ends =
      Right-if (late_parts q) n always [] (c ∷ cs) (same_symbol c.symbol symbol.Void) (seen_by (λ (x : Named × FunctionRest). a_void c.at x.0 x.1) (both name_at (read_function block n) cs))
      (seen_by typed_with (then_read {B = λ x. Rest} (type_at (c ∷ cs)) (λ x. read_rest block n (specified q x))))
      (λ e. void (same-is c.symbol symbol.Void e)) (λ e. typed (other-is c.symbol symbol.Void e))
    where
      void : c.symbol ≡ symbol.Void → Right (late_parts q) n always [] (c ∷ cs) (seen_by (λ (x : Named × FunctionRest). a_void c.at x.0 x.1) (both name_at (read_function block n) cs))
      void is =
          let left = ends_after c cs is (λ g. cc) ends in
          token_then (λ (at : At). Kept symbol.Void at) named_function (late_parts q) n always always void_with c.at c cs (is, refl) (λ a q. sym q.1) left
          (alternative (late_parts q) n always (c ∷ []) cs void_with which) (both name_at (read_function block n) cs)
          (Right-both (λ (name : Named). called name ∷ []) function_rest n always always (λ x y c v t sp st. refl) (tt, ([], (tt, None))) name_at (read_function block n) [] cs (name_right n cs left)
          (function_right n block block_right right))
        where
          which : (x : Late) (d : ℕ) (v t r : List Spot) → Spells (late_parts q x) d v → Stops always x t → v ++ t ≡ c ∷ r → first r ≡ first cs → (y : At × (Named × FunctionRest)) × (x ≡ void_with y)
          which (a_void at name f) d v t r sp st e h = ((at, (name, f)), refl)
          which (a_typed x y) d v t r sp st e h = absurd (no_void (ahead (v ++ t)) (spells_starts t sp) (ap ahead e ∙ is))

      typed : c.symbol ≢ symbol.Void → Right (late_parts q) n always [] (c ∷ cs) (seen_by typed_with (then_read {B = λ x. Rest} (type_at (c ∷ cs)) (λ x. read_rest block n (specified q x))))
      typed ne =
          by_seen (alternative (late_parts q) n always [] (c ∷ cs) typed_with which) (then_read {B = λ x. Rest} (type_at (c ∷ cs)) (λ x. read_rest block n (specified q x)))
          (then_right type_parts (λ x. rest_parts (specified q x)) n (λ x s. no_int s) (λ x. always) (λ x y d v t sp st. declarator_no_int (ahead (v ++ t)) (rest_begins (specified q x) y d v t sp))
          (λ x. objects (any_decls (specified q x))) (type_at (c ∷ cs)) (λ x. read_rest block n (specified q x)) [] (c ∷ cs) (right.type_ (c ∷ cs) ends)
          (λ x j r. rest_right n block block_right right (specified q x) j r.ends))
        where
          which : (x : Late) (d : ℕ) (v t r : List Spot) → Spells (late_parts q x) d v → Stops always x t → v ++ t ≡ r → first r ≡ Some c → (y : (At × Width) × Rest) × (x ≡ typed_with y)
          which (a_void at name f) d v t r sp st e h = absurd (ne (ahead_is t r (c ∷ cs) sp e h))
          which (a_typed x y) d v t r sp st e h = ((x, y), refl)

  kind_right : (q : Quals) (b : Bool) → Reads (kind_parts q b) n always (read_kind block n q b)
  kind_right q false i ends = late_right q i ends
  kind_right q true i ends =
      then_right type_parts (λ x. decls_parts (specified q x)) n (λ x s. no_int s) (λ x. always) (λ x y d v t sp st. declarator_no_int (ahead (v ++ t)) (spells_starts t sp))
      (λ x. any_decls (specified q x)) (type_at i) (λ x j. declared_from n (specified q x) (declarator_at n (specified q x) j)) [] i (right.type_ i ends)
      (λ x j r. declared_right n right (specified q x) j r.ends)

  pub parts_right : Reads item_parts n always (read_item block n)
  parts_right i ends =
      then_right quals_parts (λ q. kind_parts q (const_quals q)) n stops_quals (λ q. always) (λ q x d v t sp st. kind_no_qualifier q (const_quals q) x d v t sp)
      (λ q. any_kind q (const_quals q)) (read_quals i) (λ q. read_kind block n q (const_quals q)) [] i (quals_right n i ends) (λ q j r. kind_right q (const_quals q) j r.ends)
