-- What is claimed of the constants in each part of the tree: those that are seen in it are those that stand in what it
-- is tied to, where nothing that is seen has a fault.
use Rattle.std.proofs.Common.{◌≡◌, ℕ, List, [], Bool, true, false, map}
use Rattle.std.specs.Prelude.{flat_map, nat_lt, Option, Some, None, option_map, is_some, ◌&&◌, ◌||◌}
use Rattle.std.specs.List.{list_any}
use Rattle.sat_base.specs.declared.name.At.{At}
use Rattle.sat_base.specs.declared.width.Width.{Width}
use Rattle.c_tree.specs.declared.call.Arg.{Arg}
use Rattle.c_tree.specs.declared.declaration.Decl.{Decl}
use Rattle.c_tree.specs.declared.declaration.Dim.{Dim}
use Rattle.c_tree.specs.declared.declaration.Init.{Init}
use Rattle.c_tree.specs.declared.declaration.Init.TheVariants as init
use Rattle.c_tree.specs.declared.expression.Expr.{Expr}
use Rattle.c_tree.specs.declared.expression.ExprKind.{ExprKind}
use Rattle.c_tree.specs.declared.function.Function.{Function}
use Rattle.c_tree.specs.declared.program.Item.{Item}
use Rattle.c_tree.specs.declared.program.Item.TheVariants as items
use Rattle.c_tree.specs.declared.statement.Block.{Block}
use Rattle.c_typed.specs.declared.call.Callee.{Callee}
use Rattle.c_typed.specs.declared.typed.Typed.{Typed}
use Rattle.constant_expressions.specs.Folding.{folded_kind}
use Rattle.declared_objects.specs.Initialisers.{some_variable, is_constant_argument, is_bad_row}
use Rattle.declared_objects.specs.Lengths.{is_bad, is_bad_if_any}
use Rattle.c_grammar.specs.Nodes.{Node}
use Rattle.c_grammar.specs.Nodes as a
use Rattle.c_seen.specs.declared.seen.Meaning.{Meaning}
use Rattle.c_seen.specs.declared.seen.Need.{Need}
use Rattle.c_seen.specs.declared.seen.Need.TheVariants as needs
use Rattle.c_seen.specs.declared.seen.Seen.{Seen}
use Rattle.c_seen.specs.declared.seen.View.{View as SeenView}
use Rattle.c_seen.specs.declared.seen.Wanted.{Wanted}
use Rattle.c_seen.specs.declared.statements.Spot.{Spot as SeenSpot}
use Rattle.c_seen.specs.Declarations.{number_if_any, numbers, row, dimension, seen_in_declared, seen_in_objects, seen_in_parameter, seen_in_parameters}
use Rattle.c_seen.specs.Expressions.{seen_in_kind, constant_of_kind, integer_of_kind, seen_in_place, seen_in_call, seen_in_argument, arguments_from}
use Rattle.c_seen.specs.Meanings.{Names, wanted_at}
use Rattle.c_seen.specs.Statements.{seen_in_simple, simples, seen_in_statement, seen_in_block}
use Rattle.tied_names.specs.declared.tie.Asked.{Asked}
use Rattle.tied_names.specs.declared.tie.Tie.{Tie}
use Rattle.tied_names.specs.Ties.{Here, asked_of}
use Rattle.tied_expressions.specs.Expressions.{tied_kind, viewed_kind, tied_place, tied_call, tied_argument, arguments_from as tied_arguments}
use Rattle.tied_statements.specs.declared.statements.Inside.{Inside}
use Rattle.tied_statements.specs.Declarations.{start_value, starts_of}
use Rattle.tied_statements.specs.Statements.{tied_simple, tied_simples, tied_statement, tied_block}
use Rattle.lawful_sources.specs.Things.{Taken, Use}
use Rattle.lawful_sources.specs.Expressions.{argued_from, argument_look, kind_look, in_place, in_call, in_argument}
use Rattle.lawful_sources.specs.Statements.{Spot, in_simple, in_simples, in_start, in_value_of, in_statement, in_block}
use Rattle.lawful_sources.proofs.Passing.{Each}
use Rattle.lawful_names.proofs.Clean.{is_clean}
use Rattle.lawful_texts.proofs.Alike.{Suits, Near}
use Rattle.lawful_texts.proofs.Same.{Same, values}

-- no fault is seen
abbrev pub Sound : List Seen → Type 0
Sound list = Each is_clean list

-- in brackets without a bad length there is no constant
abbrev pub Brackets : Option Dim → Option Dim → Type 0
Brackets rows cols = (missing : Bool) → (is_some rows && (is_bad_if_any rows || (is_bad_if_any cols || missing))) ≡ false → (names : Names) → (values (dimension names rows) ≡ []) × (values (dimension names cols) ≡ [])

abbrev pub Listed : List Expr → Type 0
Listed vs = some_variable vs ≡ false → (names : Names) → values (numbers names vs) ≡ []

module _ (source : Typed) where
  -- as a number, where a view is given, and where it is a constant expression
  pub record KindSame (x : ExprKind) : Type 0 where
    pub number : (names : Names) (here : Here) (need : Need) (due : Option Width) → Near names here → Sound (seen_in_kind x names need) → Same ((kind_look source (tied_kind x here).value).stands due) (seen_in_kind x names need)
    pub view : (names : Names) (here : Here) (view : SeenView) (at first : At) (taken : Option Taken) → Near names here → Sound (seen_in_kind x names (needs.View view first))
        → Same (in_argument source (viewed_kind x at here).value taken) (seen_in_kind x names (needs.View view first))
    pub integer : (here : Here) → (kind_look source (tied_kind x here).value).integer ≡ integer_of_kind x
    pub constant : (here : Here) (at : At) → (kind_look source (tied_kind x here).value).constant ≡ values (constant_of_kind x at)
    pub flat : (names : Names) (need : Need) → is_some (folded_kind x) ≡ true → values (seen_in_kind x names need) ≡ []

  pub record ArgumentSame (x : Arg) : Type 0 where
    pub same : (names : Names) (here : Here) (asked : Asked) (wanted : Wanted) (taken : Option Taken) → Suits asked wanted → Near names here → Sound (seen_in_argument x names wanted)
        → Same (in_argument source (tied_argument x here asked).value taken) (seen_in_argument x names wanted)
    pub flat : (names : Names) (wanted : Wanted) → is_constant_argument x ≡ true → values (seen_in_argument x names wanted) ≡ []

  abbrev pub MaybeSame : Option Expr → Type 0
  MaybeSame None = Unit {0}
  MaybeSame (Some e) = KindSame e.kind

  abbrev pub StartSame : Init → Type 0
  StartSame init.Nothing = Unit {0}
  StartSame (init.One x) = ArgumentSame x
  StartSame (init.Flat vs) = Listed vs
  StartSame (init.Rows rows) = (columns : Option ℕ) → list_any (is_bad_row columns) rows ≡ false → (names : Names) → values (flat_map (row names) rows) ≡ []

  -- in a function, and at file scope
  pub record DeclaredSame (decl : Decl) : Type 0 where
    pub inner : (names : Names) (here : Here) (depth object : ℕ) → nat_lt 0 depth ≡ true → Near names here → Sound (seen_in_declared names depth decl)
        → Same (in_value_of source object (option_map (argument_look source) (start_value here decl).value)) (seen_in_declared names depth decl)
    pub outer : (names : Names) → Sound (seen_in_declared names 0 decl) → values (seen_in_declared names 0 decl) ≡ []

  pub record LineSame (decls : List Decl) : Type 0 where
    pub inner : (names : Names) (here : Here) (depth function : ℕ) → nat_lt 0 depth ≡ true → Near names here → Sound (seen_in_objects names depth decls)
        → Same (flat_map (in_start source) (starts_of here function decls).value) (seen_in_objects names depth decls)
    pub outer : (names : Names) → Sound (seen_in_objects names 0 decls) → values (seen_in_objects names 0 decls) ≡ []

  abbrev pub BlockSame : Block → Type 0
  BlockSame b = (names : Names) (here : Here) (inside : Inside) (spot : SeenSpot) (at : Spot) → nat_lt 0 spot.depth ≡ true → Near names here → Sound (seen_in_block b names spot)
      → Same (in_block source (tied_block b here inside).value at) (seen_in_block b names spot)

  abbrev pub BodySame : Option Block → Type 0
  BodySame None = Unit {0}
  BodySame (Some b) = BlockSame b

  pub record FunctionSame (f : Function) : Type 0 where
    pub parameters : (names : Names) (is_defined : Bool) → Sound (seen_in_parameters names is_defined f.params) → values (seen_in_parameters names is_defined f.params) ≡ []
    pub body : BodySame f.body

  abbrev pub ItemSame : Item → Type 0
  ItemSame (items.Objects o) = LineSame o.decls
  ItemSame (items.Function f) = FunctionSame f
  ItemSame (items.ExternFlag at) = Unit {0}

  abbrev pub Claim : Node → ℕ → Type 0
  Claim (a.item x) k = ItemSame x
  Claim (a.objects o) k = LineSame o.decls
  Claim (a.declarator is_static is_const width d) k = DeclaredSame d
  Claim (a.dimensions rows cols) k = Brackets rows cols
  Claim (a.dimension d) k = is_bad d ≡ false → (names : Names) → values (number_if_any names d.length) ≡ []
  Claim (a.start start) k = StartSame start
  Claim (a.view_start start) k = StartSame start
  Claim (a.row r) k = Listed r.values
  Claim (a.values vs) k = Listed vs
  Claim (a.function f) k = FunctionSame f
  Claim (a.params ps) k = (names : Names) (is_defined : Bool) → Sound (seen_in_parameters names is_defined ps) → values (seen_in_parameters names is_defined ps) ≡ []
  Claim (a.param p) k = (names : Names) (is_defined : Bool) → Sound (seen_in_parameter names is_defined p) → values (seen_in_parameter names is_defined p) ≡ []
  Claim (a.body b) k = BodySame b
  Claim (a.block b) k = BlockSame b
  Claim (a.stmt s) k = (names : Names) (here : Here) (inside : Inside) (spot : SeenSpot) (at : Spot) → Near names here → Sound (seen_in_statement s names spot)
      → Same (in_statement source (tied_statement s here inside).value at) (seen_in_statement s names spot)
  Claim (a.simples xs) k = (names : Names) (here : Here) → Near names here → Sound (simples names xs) → Same (in_simples source (tied_simples here xs).value) (simples names xs)
  Claim (a.simple x) k = (names : Names) (here : Here) → Near names here → Sound (seen_in_simple names x) → Same (in_simple source (tied_simple here x).value) (seen_in_simple names x)
  Claim (a.place p) k = (names : Names) (here : Here) (need : Need) (aim : Use) → Near names here → Sound (seen_in_place p names false need) → Same (in_place source (tied_place p here false).value aim) (seen_in_place p names false need)
  Claim (a.named p) k = (names : Names) (here : Here) (ampersand : Bool) (need : Need) (aim : Use) → Near names here → Sound (seen_in_place p names ampersand need)
      → Same (in_place source (tied_place p here ampersand).value aim) (seen_in_place p names ampersand need)
  Claim (a.call c) k = (names : Names) (here : Here) (need : Need) (is_needed : Bool) → Near names here → Sound (seen_in_call c names need) → Same (in_call source (tied_call c here).value is_needed) (seen_in_call c names need)
  Claim (a.args xs) k = (names : Names) (here : Here) (callee : Callee) (meaning : Option Meaning) (tie : Option Tie) (place : ℕ) → ((n : ℕ) → Suits (asked_of here.items tie n) (wanted_at names.items meaning n)) → Near names here
      → Sound (arguments_from xs names meaning place) → Same (argued_from source callee place (map (argument_look source) (tied_arguments xs here tie place).value)) (arguments_from xs names meaning place)
  Claim (a.arg x) k = ArgumentSame x
  Claim (a.maybe_expr e) k = MaybeSame e
  Claim (a.expr e) k = KindSame e.kind
  Claim (a.chain n e) k = KindSame e.kind
  Claim (a.unary e) k = KindSame e.kind
  Claim n k = Unit {0}
