-- What reads an item, by its qualifiers, its type and what follows.
use Rattle.std.proofs.Common.{◌≡◌, ℕ, Bool, true, false, ◌&&◌, List, [], Some, None, refl, ap, ◌∙◌, sym}
use Rattle.std.specs.Prelude.{Result, Ok, Err, if◌then◌else◌}
use Rattle.sat_base.specs.declared.name.At.{At}
use Rattle.sat_base.specs.declared.name.Named.{Named}
use Rattle.sat_base.specs.declared.width.Width.{Width}
use Rattle.c_tree.specs.declared.declaration.Decl.{Decl}
use Rattle.c_tree.specs.declared.declaration.Init.{Init}
use Rattle.c_tree.specs.declared.declaration.Objects.{Objects}
use Rattle.c_tree.specs.declared.function.Function.{Function}
use Rattle.c_tree.specs.declared.program.Item.{Item}
use Rattle.c_tree.specs.declared.program.Item.TheVariants as item
use Rattle.c_tree.specs.declared.statement.Block.{Block}
use Rattle.right_reading.specs.declared.specifiers.Qualifiers.{Qualifiers}
use Rattle.right_reading.specs.declared.specifiers.Specifiers.{Specifiers}
use Rattle.c_grammar.specs.declared.symbol.Symbol.TheVariants as symbol
use Rattle.right_reading.specs.Lists.{more_listed}
use Rattle.right_reading.specs.ReadDeclarations.{word_at, qualifiers_at, dimensions_at, start_at, object_of, view_at, named_declarator_at, declarator_at, objects_from_at}
use Rattle.right_reading.specs.ReadExpressions.{type_at}
use Rattle.right_reading.specs.ReadSource.{function_of, function_at, with_width, objects_item_at, after_name_at, after_type_at, typed_item_at, qualified_item_at}
use Rattle.c_grammar.specs.Spots.{Spot, here}
use Rattle.right_reading.specs.Stream.{ahead, rest, Fault, Parser, ◌>>=◌, both, name_at}
use Rattle.c_grammar.specs.Symbols.{same_symbol}
use Rattle.declaration_reading.proofs.Declarators.{spec, Dims}
use Rattle.right_reading.proofs.Composed.Dependent.{then_read, seen_by}
use Rattle.right_reading.proofs.OneToken.Endings.{fused, seen_twice, word_after}
use Rattle.item_reading.proofs.FunctionParts.Functions.{FunctionRest, read_function}
use Rattle.item_reading.proofs.Items.ItemKinds.{a_void, typed_with, read_late, const_quals, Kind, read_kind, read_item}
use Rattle.item_reading.proofs.Items.ItemParts.{rest_item, late_item, kind_item, whole_item}
use Rattle.item_reading.proofs.Items.ItemRests.{AfterName, a_function, object_with, Rest, objects, named, read_object, read_after, read_rest}
use Rattle.declaration_reading.proofs.ObjectsRight.{Decls, declared_as, declared_from, objects_from_is}
use Rattle.item_reading.proofs.FunctionParts.ParametersRight.{at_of, type_at_here}
use Rattle.declaration_reading.proofs.Specifiers.{Quals, none, static_first, const_first, meant, quals_of, after_quals, qualifiers_are, read_quals, specified}

abbrev an_objects : Objects → Item
an_objects o = item.Objects o

abbrev a_function_item : Function → Item
a_function_item f = item.Function f

abbrev objects_with : Specifiers → Decls → Item
objects_with s x = item.Objects (declared_as s x)

bind_seen : {A B C : Type 0} (f : B → C) (g : A → List Spot → Result (B × List Spot) Fault) (y : Result (A × List Spot) Fault) → (y >>= (λ d. seen_by f (g d.0 d.1))) ≡ seen_by f (y >>= (λ d. g d.0 d.1))
bind_seen f g (Ok d) = refl
bind_seen f g (Err h) = refl

objects_seen : (n : ℕ) (s : Specifiers) (y : Result (Decl × List Spot) Fault) → (y >>= (λ d. seen_by an_objects (objects_from_at n s d.0 d.1))) ≡ seen_by (objects_with s) (declared_from n s y)
objects_seen n s y = bind_seen an_objects (λ d. objects_from_at n s d) y ∙ ap (seen_by an_objects) (objects_from_is n s y) ∙ seen_twice (declared_as s) an_objects (declared_from n s y)

no_star : (n : ℕ) (s : Specifiers) (i : List Spot) → same_symbol (ahead i) symbol.Star ≡ false → declarator_at n s i ≡ (name_at i >>= (λ x. named_declarator_at n s x.0 x.1))
unfolding declarator_at
no_star n s i e = ap (λ (b : Bool). if b then view_at n s i else (name_at i >>= (λ x. named_declarator_at n s x.0 x.1))) e

module _ (block : Parser Block) (n : ℕ) where
  abbrev named_object : Specifiers → Named → List Spot → Result (Item × List Spot) Fault
  named_object s name k = named_declarator_at n s name k >>= (λ d. seen_by an_objects (objects_from_at n s d.0 d.1))

  -- ---- with `const`

  module _ (at : At) (is_static : Bool) (w : Width) where
    abbrev constant : Specifiers
    constant = spec at is_static true w

    const_name : (name : Named) (k : List Spot) → after_name_at block n constant name k ≡ named_object constant name k
    unfolding after_name_at
    const_name name k = by_test (same_symbol (ahead k) symbol.OpenParen)
      where
        by_test : (b : Bool) → (if b && false then seen_by a_function_item (function_at block n constant.quals (Some w) name k) else named_object constant name k) ≡ named_object constant name k
        by_test true = refl
        by_test false = refl

    const_names : (y : Result (Named × List Spot) Fault) → (y >>= (λ x. after_name_at block n constant x.0 x.1)) ≡ ((y >>= (λ x. named_declarator_at n constant x.0 x.1)) >>= (λ d. seen_by an_objects (objects_from_at n constant d.0 d.1)))
    const_names (Ok x) = const_name x.0 x.1
    const_names (Err f) = refl

    const_type : (i : List Spot) → after_type_at block n constant i ≡ seen_by (objects_with constant) (declared_from n constant (declarator_at n constant i))
    unfolding after_type_at
    const_type i = by_test (same_symbol (ahead i) symbol.Star) refl ∙ objects_seen n constant (declarator_at n constant i)
      where
        by_test : (b : Bool) → same_symbol (ahead i) symbol.Star ≡ b → (if b then objects_item_at n constant i else (name_at i >>= (λ x. after_name_at block n constant x.0 x.1))) ≡ objects_item_at n constant i
        by_test true e = refl
        by_test false e = const_names (name_at i) ∙ ap (λ (y : Result (Decl × List Spot) Fault). y >>= (λ d. seen_by an_objects (objects_from_at n constant d.0 d.1))) (sym (no_star n constant i e))

    -- ---- without it

    abbrev plain : Specifiers
    plain = spec at is_static false w

    abbrev with_name : Named → AfterName → Named × AfterName
    with_name name x = (name, x)

    abbrev seen_after : Named → Result (AfterName × List Spot) Fault → Result (Item × List Spot) Fault
    seen_after name y = seen_by (rest_item plain) (seen_by (named plain) (seen_by (with_name name) y))

    plain_function : (name : Named) (y : Result (FunctionRest × List Spot) Fault)
        → seen_by a_function_item (seen_by (λ (x : FunctionRest). function_of plain.quals (Some w) name x.1.0 x.1.1.1) y) ≡ seen_after name (seen_by a_function y)
    plain_function name (Ok x) = refl
    plain_function name (Err f) = refl

    abbrev decls_with : Decl → List Decl → Decls
    decls_with d ds = (d, ds)

    abbrev object_and : Dims × Init → List Decl → (Dims × Init) × List Decl
    object_and y ds = (y, ds)

    abbrev ended : List Decl → Result (Unit {0} × List Spot) Fault → Result (List Decl × List Spot) Fault
    ended ds m = m >>= (λ u. Ok (ds, u.1))

    plain_last : (name : Named) (y : Dims × Init) (m : Result (List Decl × List Spot) Fault)
        → seen_by (objects_with plain) (word_after symbol.Semicolon (seen_by (decls_with (object_of plain name y.0 y.1)) m)) ≡ seen_after name (seen_by object_with (seen_by (object_and y) (word_after symbol.Semicolon m)))
    plain_last name y (Err f) = refl
    plain_last name y (Ok z) = last (word_at symbol.Semicolon z.1)
      where
        last : (m : Result (Unit {0} × List Spot) Fault) → seen_by (objects_with plain) (seen_by (λ (u : Unit {0}). decls_with (object_of plain name y.0 y.1) z.0) m) ≡ seen_after name (seen_by object_with (seen_by (object_and y) (ended z.0 m)))
        last (Ok u) = refl
        last (Err f) = refl

    plain_object : (name : Named) (y : Result ((Dims × Init) × List Spot) Fault)
        → (seen_by (λ (x : Dims × Init). object_of plain name x.0 x.1) y >>= (λ d. seen_by an_objects (objects_from_at n plain d.0 d.1)))
        ≡ seen_after name (seen_by object_with (then_read {B = λ x. List Decl} y (λ x k. word_after symbol.Semicolon (more_listed (declarator_at n plain) [] k))))
    plain_object name (Ok y) =
        objects_seen n plain (Ok (object_of plain name y.0.0 y.0.1, y.1)) ∙ plain_last name y.0 (more_listed (declarator_at n plain) [] y.1)
    plain_object name (Err f) = refl

    plain_name : (name : Named) (k : List Spot) → after_name_at block n plain name k ≡ seen_after name (read_after block n plain k)
    unfolding after_name_at function_at named_declarator_at
    plain_name name k = by_test (same_symbol (ahead k) symbol.OpenParen)
      where
        by_test : (b : Bool) → (if b && true then seen_by a_function_item (function_at block n plain.quals (Some w) name k) else named_object plain name k)
            ≡ seen_after name (if b then seen_by a_function (read_function block n k) else seen_by object_with (read_object n plain k))
        by_test true = plain_function name (read_function block n k)
        by_test false = plain_object name (both (dimensions_at n) (start_at n) k)

    plain_names : (y : Result (Named × List Spot) Fault) → (y >>= (λ x. after_name_at block n plain x.0 x.1)) ≡ seen_by (rest_item plain) (seen_by (named plain) (then_read {B = λ x. AfterName} y (λ x. read_after block n plain)))
    plain_names (Ok x) = plain_name x.0 x.1
    plain_names (Err f) = refl

    plain_type : (i : List Spot) → after_type_at block n plain i ≡ seen_by (rest_item plain) (read_rest block n plain i)
    unfolding after_type_at
    plain_type i = by_test (same_symbol (ahead i) symbol.Star)
      where
        by_test : (b : Bool) → (if b then objects_item_at n plain i else (name_at i >>= (λ x. after_name_at block n plain x.0 x.1)))
            ≡ seen_by (rest_item plain) (if b then seen_by objects (declared_from n plain (declarator_at n plain i)) else seen_by (named plain) (both name_at (read_after block n plain) i))
        by_test true = objects_seen n plain (declarator_at n plain i) ∙ sym (seen_twice objects (rest_item plain) (declared_from n plain (declarator_at n plain i)))
        by_test false = plain_names (name_at i)

  -- ---- from the qualifiers on

  typed_is : (q : Quals) (j : List Spot) → typed_item_at block n (meant q (here j)) j ≡ (type_at j >>= (λ x. after_type_at block n (specified q x.0) x.1))
  unfolding typed_item_at
  typed_is q j = step (type_at j) (type_at_here j)
    where
      step : (y : Result ((At × Width) × List Spot) Fault) → at_of y (here j) ≡ here j → (y >>= (λ x. after_type_at block n (with_width (meant q (here j)) x.0.1) x.1)) ≡ (y >>= (λ x. after_type_at block n (specified q x.0) x.1))
      step (Ok x) e = ap (λ (at : At). after_type_at block n (with_width (meant q at) x.0.1) x.1) (sym e)
      step (Err f) e = refl

  abbrev with_type : At × Width → Decls → (At × Width) × Decls
  with_type x ds = (x, ds)

  abbrev with_rest : At × Width → Rest → (At × Width) × Rest
  with_rest x r = (x, r)

  -- with `const`, for qualifiers that say so
  const_kind : (q : Quals) → ((x : At × Width) (i : List Spot) → after_type_at block n (specified q x) i ≡ seen_by (objects_with (specified q x)) (declared_from n (specified q x) (declarator_at n (specified q x) i)))
      → (y : Result ((At × Width) × List Spot) Fault) → (y >>= (λ x. after_type_at block n (specified q x.0) x.1))
      ≡ seen_by (kind_item q true) (then_read {B = λ x. Decls} y (λ x j. declared_from n (specified q x) (declarator_at n (specified q x) j)))
  const_kind q is (Ok x) = is x.0 x.1 ∙ sym (seen_twice (with_type x.0) (kind_item q true) (declared_from n (specified q x.0) (declarator_at n (specified q x.0) x.1)))
  const_kind q is (Err f) = refl

  plain_kind : (q : Quals) → ((x : At × Width) (i : List Spot) → after_type_at block n (specified q x) i ≡ seen_by (rest_item (specified q x)) (read_rest block n (specified q x) i))
      → (y : Result ((At × Width) × List Spot) Fault) → (y >>= (λ x. after_type_at block n (specified q x.0) x.1))
      ≡ seen_by (late_item q) (seen_by typed_with (then_read {B = λ x. Rest} y (λ x. read_rest block n (specified q x))))
  plain_kind q is (Ok x) = is x.0 x.1 ∙ step (read_rest block n (specified q x.0) x.1)
    where
      step : (m : Result (Rest × List Spot) Fault) → seen_by (rest_item (specified q x.0)) m ≡ seen_by (late_item q) (seen_by typed_with (m >>= (λ y. Ok ((x.0, y.0), y.1))))
      step (Ok y) = refl
      step (Err f) = refl
  plain_kind q is (Err f) = refl

  void_rest : (q : Quals) (at : At) (name : Named) (m : Result (FunctionRest × List Spot) Fault)
      → seen_by a_function_item (seen_by (λ (x : FunctionRest). function_of (meant q at) None name x.1.0 x.1.1.1) m)
      ≡ seen_by (late_item q) (seen_by (λ (x : Named × FunctionRest). a_void at x.0 x.1) (m >>= (λ y. Ok ((name, y.0), y.1))))
  void_rest q at name (Ok x) = refl
  void_rest q at name (Err f) = refl

  void_kind : (q : Quals) (at : At) (y : Result (Named × List Spot) Fault) → (y >>= (λ x. seen_by a_function_item (function_at block n (meant q at) None x.0 x.1)))
      ≡ seen_by (late_item q) (seen_by (λ (x : Named × FunctionRest). a_void at x.0 x.1) (then_read {B = λ x. FunctionRest} y (λ x. read_function block n)))
  unfolding function_at
  void_kind q at (Ok x) = void_rest q at x.0 (read_function block n x.1)
  void_kind q at (Err f) = refl

  -- what follows qualifiers with no `const`
  late_is : (q : Quals) (j : List Spot) → ((x : At × Width) (i : List Spot) → after_type_at block n (specified q x) i ≡ seen_by (rest_item (specified q x)) (read_rest block n (specified q x) i))
      → (if same_symbol (ahead j) symbol.Void then (name_at (rest j) >>= (λ x. seen_by a_function_item (function_at block n (meant q (here j)) None x.0 x.1))) else typed_item_at block n (meant q (here j)) j)
      ≡ seen_by (late_item q) (read_late block n q j)
  late_is q j is = by_test (same_symbol (ahead j) symbol.Void)
    where
      by_test : (b : Bool) → (if b then (name_at (rest j) >>= (λ x. seen_by a_function_item (function_at block n (meant q (here j)) None x.0 x.1))) else typed_item_at block n (meant q (here j)) j)
          ≡ seen_by (late_item q) (if b then seen_by (λ (x : Named × FunctionRest). a_void (here j) x.0 x.1) (both name_at (read_function block n) (rest j)) else seen_by typed_with (then_read {B = λ x. Rest} (type_at j) (λ x. read_rest block n (specified q x))))
      by_test true = void_kind q (here j) (name_at (rest j))
      by_test false = typed_is q j ∙ plain_kind q is (type_at j)

  kind_is : (q : Quals) (j : List Spot) → qualified_item_at block n (meant q (here j)) j ≡ seen_by (kind_item q (const_quals q)) (read_kind block n q (const_quals q) j)
  unfolding qualified_item_at
  kind_is none j = late_is none j (λ x. plain_type x.0 false x.1)
  kind_is (static_first at false) j = late_is (static_first at false) j (λ x. plain_type at true x.1)
  kind_is (static_first at true) j = typed_is (static_first at true) j ∙ const_kind (static_first at true) (λ x. const_type at true x.1) (type_at j)
  kind_is (const_first at b) j = typed_is (const_first at b) j ∙ const_kind (const_first at b) (λ x. const_type at b x.1) (type_at j)

  -- what reads an item without `extern`
  pub item_is : (i : List Spot) → qualified_item_at block n (qualifiers_at i).0 (qualifiers_at i).1 ≡ seen_by whole_item (read_item block n i)
  item_is i =
      ap (λ (q : Qualifiers × List Spot). qualified_item_at block n q.0 q.1) (qualifiers_are i) ∙ kind_is (quals_of i) (after_quals i)
      ∙ fused {B = λ q. Kind (const_quals q)} (read_quals i) (λ q. read_kind block n q (const_quals q)) (λ q x. kind_item q (const_quals q) x)
