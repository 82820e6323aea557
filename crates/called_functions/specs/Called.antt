-- The functions of the source that the parts of a body call, by their numbers, in the order of the calls.
use Rattle.std.specs.Prelude.{ℕ, List, [], ◌∷◌, ◌++◌, flat_map, Option, Some, None, unwrap_or}
use Rattle.c_typed.specs.declared.call.Callee.{Callee}
use Rattle.c_typed.specs.declared.call.Callee.TheVariants.{Function}
use Rattle.c_typed.specs.declared.call.TypedArg.{TypedArg}
use Rattle.c_typed.specs.declared.call.TypedArg.TheOpen as node
use Rattle.c_typed.specs.declared.call.TypedArg.TheFolds.{fold-TypedArg, fold-TypedCall, fold-TypedExpr, fold-TypedExprKind, fold-TypedPlace}
use Rattle.c_typed.specs.declared.call.TypedCall.{TypedCall}
use Rattle.c_typed.specs.declared.expression.TypedExpr.{TypedExpr}
use Rattle.c_typed.specs.declared.expression.TypedExprKind.{TypedExprKind}
use Rattle.c_typed.specs.declared.place.TypedPlace.{TypedPlace}
use Rattle.c_typed.specs.declared.simple.TypedSimple.{TypedSimple}
use Rattle.c_typed.specs.declared.simple.TypedSimple.TheVariants.{Assign, Step, SetOverflow, Call}
use Rattle.c_typed.specs.declared.statement.Start.{Start}
use Rattle.c_typed.specs.declared.statement.TypedBlock.{TypedBlock}
use Rattle.c_typed.specs.declared.statement.TypedStmt.{TypedStmt}
use Rattle.c_typed.specs.declared.statement.TypedStmt.TheOpen as statement
use Rattle.c_typed.specs.declared.statement.TypedStmt.TheFolds.{fold-TypedStmt, fold-TypedBlock}

abbrev Numbers : Type 0
Numbers = List ℕ

-- a function of the source; operators and the other predefined calls are none
abbrev pub called_function : Callee → Numbers
called_function (Function number) = number ∷ []
called_function callee = []

unfoldable pub of_argument : node.TypedArg-F Numbers Numbers Numbers Numbers Numbers → Numbers
of_argument (node.Value value) = value
of_argument (node.Address at place) = place

unfoldable pub of_kind : node.TypedExprKind-F Numbers Numbers Numbers Numbers Numbers → Numbers
of_kind (node.Int value) = []
of_kind (node.Read place) = place
of_kind (node.ReadOverflow word_at) = []
of_kind (node.Unary mark mark_at site part) = part
of_kind (node.Binary mark mark_at site left right) = left ++ right
of_kind (node.Cast width part) = part
of_kind (node.Convert width part) = part
of_kind (node.Choose cond this other) = cond ++ this ++ other
of_kind (node.Call call) = call

unfoldable pub of_place : node.TypedPlace-F Numbers Numbers Numbers Numbers Numbers → Numbers
of_place (node.Plain at object) = []
of_place (node.Index at object mark_at site index) = index
of_place (node.Index2 at object first_at first_site first second_at second_site second) = first ++ second
of_place (node.Deref star_at site at object) = []

unfoldable pub of_call : node.TypedCall-F Numbers Numbers Numbers Numbers Numbers → Numbers
of_call call = called_function call.callee ++ flat_map (λ numbers. numbers) call.args

unfoldable pub of_expression : node.TypedExpr-F Numbers Numbers Numbers Numbers Numbers → Numbers
of_expression e = e.kind

abbrev pub called_in_argument : TypedArg → Numbers
called_in_argument = fold-TypedArg Numbers Numbers Numbers Numbers Numbers of_argument of_kind of_place of_call of_expression

abbrev pub called_in_kind : TypedExprKind → Numbers
called_in_kind = fold-TypedExprKind Numbers Numbers Numbers Numbers Numbers of_argument of_kind of_place of_call of_expression

abbrev pub called_in_place : TypedPlace → Numbers
called_in_place = fold-TypedPlace Numbers Numbers Numbers Numbers Numbers of_argument of_kind of_place of_call of_expression

abbrev pub called_in_call : TypedCall → Numbers
called_in_call = fold-TypedCall Numbers Numbers Numbers Numbers Numbers of_argument of_kind of_place of_call of_expression

abbrev pub called_in_expression : TypedExpr → Numbers
called_in_expression = fold-TypedExpr Numbers Numbers Numbers Numbers Numbers of_argument of_kind of_place of_call of_expression

abbrev pub called_in_option : {A : Type 0} → (A → Numbers) → Option A → Numbers
called_in_option called None = []
called_in_option called (Some part) = called part

unfoldable pub called_in_simple : TypedSimple → Numbers
called_in_simple (Assign at place mark mark_at site value) = called_in_place place ++ called_in_expression value
called_in_simple (Step at place up mark_at site) = called_in_place place
called_in_simple (SetOverflow at value) = called_in_expression value
called_in_simple (Call call) = called_in_call call

abbrev pub called_in_start : Start → Numbers
called_in_start start = called_in_option called_in_argument start.value

unfoldable pub of_statement : statement.TypedStmt-F Numbers Numbers → Numbers
of_statement (statement.Empty at) = []
of_statement (statement.Block block) = block
of_statement (statement.Simple simple) = called_in_simple simple
of_statement (statement.If at cond this other) = called_in_expression cond ++ this ++ unwrap_or other []
of_statement (statement.While at cond body) = called_in_expression cond ++ body
of_statement (statement.Do at body cond) = body ++ called_in_expression cond
of_statement (statement.For at first cond last body) =
    flat_map called_in_simple first ++ called_in_option called_in_expression cond ++ flat_map called_in_simple last ++ body
of_statement (statement.Break at) = []
of_statement (statement.Continue at) = []
of_statement (statement.Return at value) = called_in_option called_in_expression value

unfoldable pub of_block : statement.TypedBlock-F Numbers Numbers → Numbers
of_block block = flat_map called_in_start block.objects ++ flat_map (λ numbers. numbers) block.stmts

abbrev pub called_in_statement : TypedStmt → Numbers
called_in_statement = fold-TypedStmt Numbers Numbers of_statement of_block

abbrev pub called_in_block : TypedBlock → Numbers
called_in_block = fold-TypedBlock Numbers Numbers of_statement of_block
