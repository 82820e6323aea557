-- Of each kind of part of the tree there is one that tokens spell.
use Rattle.std.proofs.Common.{ℕ, zero, suc, Bool, false, List, [], ◌∷◌, ◌++◌, None, refl, subst}
use Rattle.std.proofs.lemmas.List.{append-nil}
use Rattle.sat_base.specs.declared.width.Width.{Width}
use Rattle.sat_base.specs.declared.width.Width.TheVariants.{W16}
use Rattle.c_tree.specs.declared.call.Arg.TheVariants as args
use Rattle.c_tree.specs.declared.declaration.Init.TheVariants as inits
use Rattle.c_tree.specs.declared.expression.ExprKind.TheVariants as exprs
use Rattle.c_tree.specs.declared.place.Place.TheVariants as places
use Rattle.c_tree.specs.declared.program.Item.TheVariants as items
use Rattle.c_tree.specs.declared.simple.Simple.TheVariants as simples
use Rattle.c_tree.specs.declared.statement.Stmt.TheVariants as stmts
use Rattle.c_grammar.specs.declared.symbol.Symbol.TheVariants as symbol
use Rattle.c_grammar.specs.Grammar as rule
use Rattle.c_grammar.specs.Parts.{Part}
use Rattle.c_grammar.specs.Spots.{Spot}
use Rattle.c_grammar.proofs.Begun.{Spelled, Completed, by_rule, joined, spelled_nothing}
use Rattle.c_grammar.proofs.Schemes.{tree_parts, Something, SomeOf, early, late, listed_only, some_so, one_more, nothing, some_quoted, some_tree, some_held, some_name, some_number, some_listed}
use Rattle.c_grammar.proofs.Shapes.{Kind, Tree, Values}
use Rattle.c_grammar.proofs.Shapes as k

abbrev pub There : Kind → Type 0
There kind = Completed (tree_parts kind) []

-- one slot, and no more
one : {s : k.Slot} → Something s → SomeOf (s ∷ [])
one x = one_more x nothing

some_type : There k.type_
some_type = some_so (early k.type_ (k.held symbol.Word16 ∷ []) (λ v. (v.0, W16)) (λ v. rule.word16)) (one (some_held symbol.Word16)) nothing

some_unary : There k.unary
some_unary = some_so (late k.unary (k.number ∷ []) (λ v. record { at = v.0.0; brackets = 0; kind = exprs.Int v.0.1 }) (λ v. rule.number refl)) nothing (one some_number)

some_chain : (n : ℕ) → There (k.chain n)
some_chain zero = some_so (early (k.chain zero) (k.tree k.unary ∷ []) (λ v. v.0) (λ v. rule.no_chain)) (one (some_tree k.unary some_unary)) nothing
some_chain (suc n) = some_so (early (k.chain (suc n)) (k.tree (k.chain n) ∷ []) (λ v. v.0) (λ v. rule.operand)) (one (some_tree (k.chain n) (some_chain n))) nothing

some_expr : There k.expr
some_expr = some_so (early k.expr (k.tree (k.chain 9) ∷ []) (λ v. v.0) (λ v. rule.plain_expr)) (one (some_tree (k.chain 9) (some_chain 9))) nothing

some_maybe_expr : There k.maybe_expr
some_maybe_expr = some_so (early k.maybe_expr [] (λ v. None) (λ v. rule.no_expr)) nothing nothing

some_arg : There k.arg
some_arg = some_so (early k.arg (k.tree k.expr ∷ []) (λ v. args.Value v.0) (λ v. rule.value refl)) (one (some_tree k.expr some_expr)) nothing

some_args : There k.args
some_args = some_so (early k.args [] (λ v. []) (λ v. rule.no_args)) nothing nothing

some_call : There k.call
some_call =
    some_so (early k.call (k.name ∷ k.quoted symbol.OpenParen ∷ k.tree k.args ∷ k.quoted symbol.CloseParen ∷ []) (λ v. record { name = v.0; args = v.1.1.0 }) (λ v. rule.call refl))
    (one_more some_name (one_more (some_quoted symbol.OpenParen) (one_more (some_tree k.args some_args) (one (some_quoted symbol.CloseParen))))) nothing

some_named : There k.named
some_named = some_so (late k.named (k.name ∷ []) (λ v. places.Plain v.0) (λ v. rule.plain refl)) nothing (one some_name)

some_place : There k.place
some_place = some_so (early k.place (k.tree k.named ∷ []) (λ v. v.0) (λ v. rule.place_named)) (one (some_tree k.named some_named)) nothing

some_simple : There k.simple
some_simple = some_so (early k.simple (k.tree k.call ∷ []) (λ v. simples.Call v.0) (λ v. rule.simple_call refl)) (one (some_tree k.call some_call)) nothing

some_simples : There k.simples
some_simples = some_so (early k.simples [] (λ v. []) (λ v. rule.no_simples)) nothing nothing

some_stmt : There k.stmt
some_stmt = some_so (late k.stmt (k.held symbol.Semicolon ∷ []) (λ v. stmts.Empty v.0) (λ v. rule.empty refl)) nothing (one (some_held symbol.Semicolon))

some_block : There k.block
some_block =
    some_so (early k.block (k.held symbol.OpenBrace ∷ k.quoted symbol.CloseBrace ∷ []) (λ v. record { at = v.0; objects = []; stmts = [] }) (λ v. rule.block))
    (one_more (some_held symbol.OpenBrace) (one (some_quoted symbol.CloseBrace))) nothing

some_body : There k.body
some_body = some_so (early k.body (k.quoted symbol.Semicolon ∷ []) (λ v. None) (λ v. rule.declared)) (one (some_quoted symbol.Semicolon)) nothing

some_maybe_name : There k.maybe_name
some_maybe_name = some_so (early k.maybe_name [] (λ v. None) (λ v. rule.no_name)) nothing nothing

some_param_type : There k.param_type
some_param_type = some_so (early k.param_type (k.tree k.type_ ∷ []) (λ v. (v.0.0, v.0.0, false, v.0.1)) (λ v. rule.param_type)) (one (some_tree k.type_ some_type)) nothing

some_param : There k.param
some_param =
    some_so
    (early k.param (k.tree k.param_type ∷ k.tree k.maybe_name ∷ [])
    (λ v. record { at = v.0.0; type_at = v.0.1; name = v.1.0; width = v.0.3; is_const = v.0.2; pointer = false; dim = None }) (λ v. rule.number_param refl))
    (one_more (some_tree k.param_type some_param_type) (one (some_tree k.maybe_name some_maybe_name))) nothing

some_params : There k.params
some_params = some_so (early k.params [] (λ v. []) (λ v. rule.no_params)) nothing nothing

some_result : There k.result
some_result = some_so (early k.result (k.held symbol.Void ∷ []) (λ v. (v.0, None)) (λ v. rule.result_void)) (one (some_held symbol.Void)) nothing

some_given : There k.given
some_given = some_so (early k.given (k.tree k.result ∷ []) (λ v. (v.0.0, false, v.0.1)) (λ v. rule.given)) (one (some_tree k.result some_result)) nothing

some_function : There k.function
some_function =
    some_so
    (early k.function (k.tree k.given ∷ k.name ∷ k.quoted symbol.OpenParen ∷ k.tree k.params ∷ k.quoted symbol.CloseParen ∷ k.tree k.body ∷ [])
    (λ v. record { at = v.0.0; name = v.1.0; gives = v.0.2; params = v.1.1.1.0; body = v.1.1.1.1.1.0; is_static = v.0.1 }) (λ v. rule.function refl))
    (one_more (some_tree k.given some_given) (one_more some_name (one_more (some_quoted symbol.OpenParen) (one_more (some_tree k.params some_params) (one_more (some_quoted symbol.CloseParen) (one (some_tree k.body some_body))))))) nothing

some_values : There k.values
some_values = some_so (listed_only k.values k.expr (λ x. x.0 ∷ x.1) (λ x. rule.values)) (one (some_listed k.expr some_expr)) nothing

some_row : There k.row
some_row =
    some_so (early k.row (k.quoted symbol.OpenBrace ∷ k.tree k.values ∷ k.quoted symbol.CloseBrace ∷ []) (λ v. record { values = v.1.0 }) (λ v. rule.row))
    (one_more (some_quoted symbol.OpenBrace) (one_more (some_tree k.values some_values) (one (some_quoted symbol.CloseBrace)))) nothing

some_start : There k.start
some_start = some_so (early k.start [] (λ v. inits.Nothing) (λ v. rule.nothing)) nothing nothing

some_view_start : There k.view_start
some_view_start = some_so (early k.view_start [] (λ v. inits.Nothing) (λ v. rule.view_nothing)) nothing nothing

some_dimension : There k.dimension
some_dimension =
    some_so (early k.dimension (k.held symbol.OpenBracket ∷ k.tree k.maybe_expr ∷ k.quoted symbol.CloseBracket ∷ []) (λ v. record { at = v.0; length = v.1.0 }) (λ v. rule.dimension))
    (one_more (some_held symbol.OpenBracket) (one_more (some_tree k.maybe_expr some_maybe_expr) (one (some_quoted symbol.CloseBracket)))) nothing

some_dimensions : There k.dimensions
some_dimensions = some_so (early k.dimensions [] (λ v. (None, None)) (λ v. rule.scalar)) nothing nothing

some_declarator : (is_static is_const : Bool) (width : Width) → There (k.declarator is_static is_const width)
some_declarator is_static is_const width =
    some_so
    (early (k.declarator is_static is_const width) (k.name ∷ k.tree k.dimensions ∷ k.tree k.start ∷ [])
    (λ v. record { at = v.0.at; name = v.0; width = width; pointer = false; rows = v.1.0.0; cols = v.1.0.1; init = v.1.1.0; is_static = is_static; is_const = is_const }) (λ v. rule.object refl))
    (one_more some_name (one_more (some_tree k.dimensions some_dimensions) (one (some_tree k.start some_start)))) nothing

some_specifiers : There k.specifiers
some_specifiers = some_so (early k.specifiers (k.tree k.type_ ∷ []) (λ v. (v.0.0, false, false, v.0.1)) (λ v. rule.no_qualifier)) (one (some_tree k.type_ some_type)) nothing

some_item : There k.item
some_item = some_so (early k.item (k.tree k.function ∷ []) (λ v. items.Function v.0) (λ v. rule.item_function refl)) (one (some_tree k.function some_function)) nothing

-- what follows the specifiers of a declaration
abbrev pub declared_slots : Tree k.specifiers → List k.Slot
declared_slots x = k.listed (k.declarator x.1 x.2 x.3) ∷ k.quoted symbol.Semicolon ∷ []

pub some_declared : (x : Tree k.specifiers) → SomeOf (declared_slots x)
some_declared x = one_more (some_listed (k.declarator x.1 x.2 x.3) (some_declarator x.1 x.2 x.3)) (one (some_quoted symbol.Semicolon))

abbrev pub objects_parts : (x : Tree k.specifiers) × Values (declared_slots x) → List Part
objects_parts x = tree_parts k.specifiers x.0 ++ k.parts_of (declared_slots x.0) x.1

-- a declaration of objects, whose declarators say what its specifiers do
pub objects_made : {w : List Spot} → Completed objects_parts w → Completed (tree_parts k.objects) w
objects_made {w} c =
    let ds = c.it.1.0 in
    record {
      it = record { at = c.it.0.0; decls = ds.0 ∷ ds.1 };
      more = c.more;
      spelled = subst (Spelled (tree_parts k.objects (record { at = c.it.0.0; decls = ds.0 ∷ ds.1 }))) (append-nil (w ++ c.more)) (by_rule (rule.objects refl) c.spelled spelled_nothing);
    }

some_objects : There k.objects
some_objects =
    objects_made (record { it = (some_specifiers.it, (some_declared some_specifiers.it).all.it); more = some_specifiers.more ++ (some_declared some_specifiers.it).all.more; spelled = joined some_specifiers.spelled (some_declared some_specifiers.it).all.spelled })

pub some : (kind : Kind) → There kind
some k.item = some_item
some k.objects = some_objects
some k.specifiers = some_specifiers
some k.type_ = some_type
some (k.declarator is_static is_const width) = some_declarator is_static is_const width
some k.dimensions = some_dimensions
some k.dimension = some_dimension
some k.start = some_start
some k.view_start = some_view_start
some k.row = some_row
some k.values = some_values
some k.function = some_function
some k.given = some_given
some k.result = some_result
some k.params = some_params
some k.param = some_param
some k.param_type = some_param_type
some k.maybe_name = some_maybe_name
some k.body = some_body
some k.block = some_block
some k.stmt = some_stmt
some k.simples = some_simples
some k.simple = some_simple
some k.place = some_place
some k.named = some_named
some k.call = some_call
some k.args = some_args
some k.arg = some_arg
some k.maybe_expr = some_maybe_expr
some k.expr = some_expr
some (k.chain n) = some_chain n
some k.unary = some_unary
