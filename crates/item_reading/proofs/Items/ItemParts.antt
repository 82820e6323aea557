-- The parts of an item by its qualifiers, its type and what follows, and the item that they are.
use Rattle.std.proofs.Common.{◌≡◌, ◌≢◌, ℕ, Bool, true, false, List, [], ◌∷◌, ◌++◌, Option, Some, None, refl, ap, subst, ◌∙◌, sym}
use Rattle.std.proofs.lemmas.List.{append_assoc}
use Rattle.sat_base.specs.declared.name.At.{At}
use Rattle.sat_base.specs.declared.name.Named.{Named}
use Rattle.sat_base.specs.declared.width.Width.{Width}
use Rattle.c_tree.specs.declared.declaration.Objects.{Objects}
use Rattle.c_tree.specs.declared.function.Function.{Function}
use Rattle.c_tree.specs.declared.function.Param.{Param}
use Rattle.c_tree.specs.declared.program.Item.{Item}
use Rattle.c_tree.specs.declared.program.Item.TheVariants as item
use Rattle.c_tree.specs.declared.statement.Block.{Block}
use Rattle.right_reading.specs.declared.specifiers.Specifiers.{Specifiers}
use Rattle.c_grammar.specs.declared.symbol.Symbol.TheVariants as symbol
use Rattle.c_grammar.specs.Grammar as rule
use Rattle.c_grammar.specs.Nodes as a
use Rattle.c_grammar.specs.Parts.{Part, Kept, node, called}
use Rattle.right_reading.specs.ReadDeclarations.{objects_of}
use Rattle.right_reading.specs.ReadSource.{function_of}
use Rattle.c_grammar.specs.Spelling.{Spells, whole, quoted}
use Rattle.c_grammar.specs.Spots.{Spot}
use Rattle.right_reading.specs.Stream.{ahead}
use Rattle.item_reading.proofs.Items.Becoming.{Back, becoming}
use Rattle.right_reading.proofs.OneToken.Endings.{early_token}
use Rattle.declaration_reading.proofs.Declarators.{spec}
use Rattle.item_reading.proofs.FunctionParts.Functions.{FunctionRest, function_rest}
use Rattle.right_reading.proofs.Composed.Inlined.{Becomes, becomes_same, becomes_node, becomes_all, becomes_then, becomes_under, unfold_whole, unfold_all}
use Rattle.item_reading.proofs.Items.ItemKinds.{Late, a_void, a_typed, const_quals, Kind, item_parts}
use Rattle.item_reading.proofs.Items.ItemRests.{Rest, objects, function}
use Rattle.declaration_reading.proofs.ObjectsRight.{Decls, decls_parts, declared_as}
use Rattle.right_reading.specs.Right.{first, always}
use Rattle.c_grammar.proofs.Sequences.{FromToken, from_token}
use Rattle.declaration_reading.proofs.Specifiers.{Quals, none, static_first, const_first, quals_parts, meant, specified, specifiers_rule}
use Rattle.right_reading.proofs.Composed.Steps.{Seen}

abbrev pub objects_item : Quals → At × Width → Decls → Item
objects_item q x ds = item.Objects (declared_as (specified q x) ds)

abbrev pub function_item : Quals → At → Option Width → Named → FunctionRest → Item
function_item q at gives name f = item.Function (function_of (meant q at) gives name f.1.0 f.1.1.1)

abbrev pub rest_item : Specifiers → Rest → Item
rest_item s (objects ds) = item.Objects (declared_as s ds)
rest_item s (function name f) = item.Function (function_of s.quals (Some s.width) name f.1.0 f.1.1.1)

abbrev pub late_item : Quals → Late → Item
late_item q (a_void at name f) = function_item q at None name f
late_item q (a_typed x r) = rest_item (specified q x) r

abbrev pub kind_item : Quals → (b : Bool) → Kind b → Item
kind_item q true x = objects_item q x.0 x.1
kind_item q false l = late_item q l

abbrev pub Lead : Type 0
Lead = (q : Quals) × Kind (const_quals q)

abbrev pub whole_item : Lead → Item
whole_item x = kind_item x.0 (const_quals x.0) x.1

abbrev item_node : Item → List Part
item_node i = node (a.item i) ∷ []

-- ---- the parts are those of an item

objects_become : (q : Quals) (x : At × Width) (ds : Decls) → Becomes (quals_parts q ++ node (a.type_ x.0 x.1) ∷ decls_parts (specified q x) ds) (item_node (objects_item q x ds))
objects_become q x ds =
    becomes_then (becomes_same (sym (append_assoc (quals_parts q) (node (a.type_ x.0 x.1) ∷ []) (decls_parts (specified q x) ds))))
    (becomes_then (becomes_node (decls_parts (specified q x) ds) (specifiers_rule q x)) (becomes_then (becomes_all (rule.objects refl)) (becomes_all (rule.item_objects refl))))

abbrev after_given : Named → FunctionRest → List Part
after_given name f = called name ∷ function_rest f

items_become : (q : Quals) (x : Kind (const_quals q)) → Becomes (item_parts (q, x)) (item_node (whole_item (q, x)))
items_become none (a_void at name f) =
    becomes_then (becomes_node (after_given name f) rule.result_void) (becomes_then (becomes_node (after_given name f) rule.given) (becomes_then (becomes_all (rule.function refl)) (becomes_all (rule.item_function refl))))
items_become none (a_typed x (objects ds)) = objects_become none x ds
items_become none (a_typed x (function name f)) =
    becomes_then (becomes_node (after_given name f) rule.result_type) (becomes_then (becomes_node (after_given name f) rule.given) (becomes_then (becomes_all (rule.function refl)) (becomes_all (rule.item_function refl))))
items_become (static_first at true) x = objects_become (static_first at true) x.0 x.1
items_become (static_first at false) (a_void void_at name f) =
    becomes_then (becomes_under (Kept symbol.Static at) (becomes_node (after_given name f) rule.result_void))
    (becomes_then (becomes_node (after_given name f) rule.given_static) (becomes_then (becomes_all (rule.function refl)) (becomes_all (rule.item_function refl))))
items_become (static_first at false) (a_typed x (objects ds)) = objects_become (static_first at false) x ds
items_become (static_first at false) (a_typed x (function name f)) =
    becomes_then (becomes_under (Kept symbol.Static at) (becomes_node (after_given name f) rule.result_type))
    (becomes_then (becomes_node (after_given name f) rule.given_static) (becomes_then (becomes_all (rule.function refl)) (becomes_all (rule.item_function refl))))
items_become (const_first at b) x = objects_become (const_first at b) x.0 x.1

-- ---- an item has such parts

abbrev BackItem : Item → ℕ → List Spot → List Spot → Type 0
BackItem i d v t = Back item_parts always whole_item i d v t

back_of : (x : Lead) (i : Item) (d : ℕ) (v t : List Spot) → i ≡ whole_item x → Spells (item_parts x) d v → BackItem i d v t
back_of x i d v t same sp = record { a = x; same = same; spelled = sp; stops = refl }

back_specifiers : (at : At) (is_static is_const : Bool) (w : Width) (ds : Decls) (i : Item) (d : ℕ) (v t : List Spot) → i ≡ item.Objects (objects_of at (ds.0 ∷ ds.1))
    → Spells (node (a.specifiers at is_static is_const w) ∷ decls_parts (spec at is_static is_const w) ds) d v → BackItem i d v t
back_specifiers at is_static is_const w ds i d v t same (whole rule.no_qualifier early late after e depth) =
    back_of (none, a_typed (at, w) (objects ds)) i d v t same (unfold_whole rule.no_qualifier early late after e depth)
back_specifiers at is_static is_const w ds i d v t same (whole (rule.static {type_at = type_at}) early late after e depth) =
    back_of (static_first at false, a_typed (type_at, w) (objects ds)) i d v t same (unfold_whole rule.static early late after e depth)
back_specifiers at is_static is_const w ds i d v t same (whole (rule.const {type_at = type_at}) early late after e depth) =
    back_of (const_first at false, ((type_at, w), ds)) i d v t same (unfold_whole rule.const early late after e depth)
back_specifiers at is_static is_const w ds i d v t same (whole (rule.static_const {type_at = type_at}) early late after e depth) =
    back_of (static_first at true, ((type_at, w), ds)) i d v t same (unfold_whole rule.static_const early late after e depth)
back_specifiers at is_static is_const w ds i d v t same (whole (rule.const_static {type_at = type_at}) early late after e depth) =
    back_of (const_first at true, ((type_at, w), ds)) i d v t same (unfold_whole rule.const_static early late after e depth)

back_objects : (o : Objects) (i : Item) (d : ℕ) (v t : List Spot) → i ≡ item.Objects o → Spells (node (a.objects o) ∷ []) d v → BackItem i d v t
back_objects o i d v t same (whole (rule.objects {at = at} {is_static = is_static} {is_const = is_const} {width = w} {d = one} {ds = more} is) early late after e depth) =
    back_specifiers at is_static is_const w (one, more) i d v t (same ∙ ap (λ (o : Objects). item.Objects o) is) (unfold_all (rule.objects is) early late after e depth)

abbrev rest_of : List Param → Option Block → FunctionRest
rest_of params body = (tt, (params, (tt, body)))

abbrev function_with : At → Bool → Option Width → Named → FunctionRest → Item
function_with at is_static gives name f = item.Function (record { at = at; name = name; gives = gives; params = f.1.0; body = f.1.1.1; is_static = is_static })

back_plain : (at : At) (gives : Option Width) (name : Named) (f : FunctionRest) (i : Item) (d : ℕ) (v t : List Spot) → i ≡ function_with at false gives name f
    → Spells (node (a.result at gives) ∷ after_given name f) d v → BackItem i d v t
back_plain at gives name f i d v t same (whole (rule.result_type {width = w}) early late after e depth) =
    back_of (none, a_typed (at, w) (function name f)) i d v t same (unfold_whole rule.result_type early late after e depth)
back_plain at gives name f i d v t same (whole rule.result_void early late after e depth) =
    back_of (none, a_void at name f) i d v t same (unfold_whole rule.result_void early late after e depth)

back_static : (at result_at : At) (gives : Option Width) (name : Named) (f : FunctionRest) (i : Item) (d : ℕ) (v t u : List Spot) (x : Spot) → i ≡ function_with at true gives name f
    → (x.symbol ≡ symbol.Static) × (x.at ≡ at) → v ≡ x ∷ u → Spells (node (a.result result_at gives) ∷ after_given name f) d u → BackItem i d v t
back_static at result_at gives name f i d v t u x same is tokens (whole (rule.result_type {width = w}) early late after e depth) =
    let parts : List Part = item_parts (static_first at false, a_typed (result_at, w) (function name f)) in
    back_of (static_first at false, a_typed (result_at, w) (function name f)) i d v t same
    (subst (λ (y : List Spot). Spells parts d y) (sym tokens) (quoted is (unfold_whole rule.result_type early late after e depth)))
back_static at result_at gives name f i d v t u x same is tokens (whole rule.result_void early late after e depth) =
    let parts : List Part = item_parts (static_first at false, a_void result_at name f) in
    back_of (static_first at false, a_void result_at name f) i d v t same
    (subst (λ (y : List Spot). Spells parts d y) (sym tokens) (quoted is (unfold_whole rule.result_void early late after e depth)))

back_given : (at : At) (is_static : Bool) (gives : Option Width) (name : Named) (f : FunctionRest) (i : Item) (d : ℕ) (v t : List Spot) → i ≡ function_with at is_static gives name f
    → Spells (node (a.given at is_static gives) ∷ after_given name f) d v → BackItem i d v t
back_given at is_static gives name f i d v t same (whole rule.given early late after e depth) =
    back_plain at gives name f i d v t same (unfold_whole rule.given early late after e depth)
back_given at is_static gives name f i d v t same (whole (rule.given_static {result_at = result_at}) early late after e depth) =
    let k : FromToken (Kept symbol.Static at) (node (a.result result_at gives) ∷ after_given name f) d v = from_token (unfold_whole rule.given_static early late after e depth) in
    back_static at result_at gives name f i d v t k.rest k.x same k.is k.tokens k.after

back_function : (f : Function) (i : Item) (d : ℕ) (v t : List Spot) → i ≡ item.Function f → Spells (node (a.function f) ∷ []) d v → BackItem i d v t
back_function f i d v t same (whole (rule.function {at = at} {name = name} {gives = gives} {params = params} {body = body} {is_static = is_static} is) early late after e depth) =
    back_given at is_static gives name (rest_of params body) i d v t (same ∙ ap (λ (f : Function). item.Function f) is) (unfold_all (rule.function is) early late after e depth)

back_item : (i : Item) (d : ℕ) (v t : List Spot) → Spells (item_node i) d v → ahead (v ++ t) ≢ symbol.Extern → BackItem i d v t
back_item i d v t (whole {u1 = u1} {u2 = u2} {v = w} (rule.extern_flag _) early late after e depth) ne = absurd (ne (early_token u1 u2 w v t e early))
back_item i d v t (whole {u1 = u1} {u2 = u2} {v = w} (rule.extern_int _) early late after e depth) ne = absurd (ne (early_token u1 u2 w v t e early))
back_item i d v t (whole (rule.item_objects {objects = o} is) early late after e depth) ne = back_objects o i d v t is (unfold_all (rule.item_objects is) early late after e depth)
back_item i d v t (whole (rule.item_function {function = f} is) early late after e depth) ne = back_function f i d v t is (unfold_all (rule.item_function is) early late after e depth)

-- where there is no `extern` ahead
pub item_seen : (n : ℕ) (i : List Spot) → (e : (r : List Spot) → first r ≡ first i → ahead r ≢ symbol.Extern) → Seen item_parts item_node n n always always [] i whole_item
item_seen n i none_there =
    becoming item_parts item_node n always always [] i whole_item (λ x. items_become x.0 x.1)
    (λ x d v s r sp st e h. back_item x d v s sp (λ f. none_there r h (sym (ap ahead e) ∙ f)))
