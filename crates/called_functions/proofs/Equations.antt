-- The functions that each part calls: one equation for each constructor.
use Rattle.std.proofs.Common.{◌≡◌, ℕ, ◌++◌, [], List, map, ap, sym, ◌∙◌}
use Rattle.std.specs.Prelude.{ℤ, Bool, Option, Some, None, flat_map}
use Rattle.std.proofs.lemmas.List.{append-nil}
use Rattle.std.proofs.lemmas.List.Folds.{flat_map-map}
use Rattle.sat_base.specs.declared.name.At.{At}
use Rattle.sat_base.specs.declared.width.Width.{Width}
use Rattle.c_tree.specs.declared.expression.BinaryMark.{BinaryMark}
use Rattle.c_tree.specs.declared.expression.UnaryMark.{UnaryMark}
use Rattle.c_typed.specs.declared.call.TypedArg.{TypedArg}
use Rattle.c_typed.specs.declared.call.TypedArg.TheOpen as node
use Rattle.c_typed.specs.declared.call.TypedArg.TheFolds.{fold-roll-TypedArg, fold-roll-TypedExprKind, fold-roll-TypedPlace, fold_out-TypedCall, fold_out-TypedExpr}
use Rattle.c_typed.specs.declared.call.TypedArg.TheVariants as argument
use Rattle.c_typed.specs.declared.call.TypedCall.{TypedCall}
use Rattle.c_typed.specs.declared.expression.TypedExpr.{TypedExpr}
use Rattle.c_typed.specs.declared.expression.TypedExprKind.{TypedExprKind}
use Rattle.c_typed.specs.declared.expression.TypedExprKind.TheVariants as kind
use Rattle.c_typed.specs.declared.place.TypedPlace.{TypedPlace}
use Rattle.c_typed.specs.declared.place.TypedPlace.TheVariants as place
use Rattle.c_typed.specs.declared.simple.TypedSimple.{TypedSimple}
use Rattle.c_typed.specs.declared.statement.TypedBlock.{TypedBlock}
use Rattle.c_typed.specs.declared.statement.TypedStmt.{TypedStmt}
use Rattle.c_typed.specs.declared.statement.TypedStmt.TheOpen as open_statement
use Rattle.c_typed.specs.declared.statement.TypedStmt.TheFolds.{fold-roll-TypedStmt, fold_out-TypedBlock}
use Rattle.c_typed.specs.declared.statement.TypedStmt.TheVariants as statement
use Rattle.called_functions.specs.Called.{called_function, of_argument, of_kind, of_place, of_call, of_expression, called_in_argument, called_in_kind, called_in_place, called_in_call, called_in_expression, called_in_option, called_in_simple, called_in_start, of_statement, of_block, called_in_statement, called_in_block}

pub kind-Int : (value : ℤ) → called_in_kind (kind.Int value) ≡ []
unfolding of_kind
kind-Int value = ap called_in_kind (sym (kind.rolls-Int value)) ∙ fold-roll-TypedExprKind _ _ _ _ _ of_argument of_kind of_place of_call of_expression (node.Int value)

pub kind-Read : (place : TypedPlace) → called_in_kind (kind.Read place) ≡ called_in_place place
unfolding of_kind
kind-Read place = ap called_in_kind (sym (kind.rolls-Read place)) ∙ fold-roll-TypedExprKind _ _ _ _ _ of_argument of_kind of_place of_call of_expression (node.Read place)

pub kind-ReadOverflow : (word_at : At) → called_in_kind (kind.ReadOverflow word_at) ≡ []
unfolding of_kind
kind-ReadOverflow word_at = ap called_in_kind (sym (kind.rolls-ReadOverflow word_at)) ∙ fold-roll-TypedExprKind _ _ _ _ _ of_argument of_kind of_place of_call of_expression (node.ReadOverflow word_at)

pub kind-Unary : (mark : UnaryMark) (mark_at : At) (site : Option ℕ) (part : TypedExpr) → called_in_kind (kind.Unary mark mark_at site part) ≡ called_in_expression part
unfolding of_kind
kind-Unary mark mark_at site part = ap called_in_kind (sym (kind.rolls-Unary mark mark_at site part)) ∙ fold-roll-TypedExprKind _ _ _ _ _ of_argument of_kind of_place of_call of_expression (node.Unary mark mark_at site part)

pub kind-Binary : (mark : BinaryMark) (mark_at : At) (site : Option ℕ) (left right : TypedExpr) → called_in_kind (kind.Binary mark mark_at site left right) ≡ (called_in_expression left ++ called_in_expression right)
unfolding of_kind
kind-Binary mark mark_at site left right = ap called_in_kind (sym (kind.rolls-Binary mark mark_at site left right)) ∙ fold-roll-TypedExprKind _ _ _ _ _ of_argument of_kind of_place of_call of_expression (node.Binary mark mark_at site left right)

pub kind-Cast : (width : Width) (part : TypedExpr) → called_in_kind (kind.Cast width part) ≡ called_in_expression part
unfolding of_kind
kind-Cast width part = ap called_in_kind (sym (kind.rolls-Cast width part)) ∙ fold-roll-TypedExprKind _ _ _ _ _ of_argument of_kind of_place of_call of_expression (node.Cast width part)

pub kind-Convert : (width : Width) (part : TypedExpr) → called_in_kind (kind.Convert width part) ≡ called_in_expression part
unfolding of_kind
kind-Convert width part = ap called_in_kind (sym (kind.rolls-Convert width part)) ∙ fold-roll-TypedExprKind _ _ _ _ _ of_argument of_kind of_place of_call of_expression (node.Convert width part)

pub kind-Choose : (cond this other : TypedExpr) → called_in_kind (kind.Choose cond this other) ≡ (called_in_expression cond ++ called_in_expression this ++ called_in_expression other)
unfolding of_kind
kind-Choose cond this other = ap called_in_kind (sym (kind.rolls-Choose cond this other)) ∙ fold-roll-TypedExprKind _ _ _ _ _ of_argument of_kind of_place of_call of_expression (node.Choose cond this other)

pub kind-Call : (call : TypedCall) → called_in_kind (kind.Call call) ≡ called_in_call call
unfolding of_kind
kind-Call call = ap called_in_kind (sym (kind.rolls-Call call)) ∙ fold-roll-TypedExprKind _ _ _ _ _ of_argument of_kind of_place of_call of_expression (node.Call call)

pub place-Plain : (at : At) (object : ℕ) → called_in_place (place.Plain at object) ≡ []
unfolding of_place
place-Plain at object = ap called_in_place (sym (place.rolls-Plain at object)) ∙ fold-roll-TypedPlace _ _ _ _ _ of_argument of_kind of_place of_call of_expression (node.Plain at object)

pub place-Index : (at : At) (object : ℕ) (mark_at : At) (site : Option ℕ) (index : TypedExpr) → called_in_place (place.Index at object mark_at site index) ≡ called_in_expression index
unfolding of_place
place-Index at object mark_at site index = ap called_in_place (sym (place.rolls-Index at object mark_at site index)) ∙ fold-roll-TypedPlace _ _ _ _ _ of_argument of_kind of_place of_call of_expression (node.Index at object mark_at site index)

pub place-Index2 : (at : At) (object : ℕ) (first_at : At) (first_site : Option ℕ) (first : TypedExpr) (second_at : At) (second_site : Option ℕ) (second : TypedExpr) → called_in_place (place.Index2 at object first_at first_site first second_at second_site second) ≡ (called_in_expression first ++ called_in_expression second)
unfolding of_place
place-Index2 at object first_at first_site first second_at second_site second = ap called_in_place (sym (place.rolls-Index2 at object first_at first_site first second_at second_site second)) ∙ fold-roll-TypedPlace _ _ _ _ _ of_argument of_kind of_place of_call of_expression (node.Index2 at object first_at first_site first second_at second_site second)

pub place-Deref : (star_at : At) (site : Option ℕ) (at : At) (object : ℕ) → called_in_place (place.Deref star_at site at object) ≡ []
unfolding of_place
place-Deref star_at site at object = ap called_in_place (sym (place.rolls-Deref star_at site at object)) ∙ fold-roll-TypedPlace _ _ _ _ _ of_argument of_kind of_place of_call of_expression (node.Deref star_at site at object)

pub argument-Value : (e : TypedExpr) → called_in_argument (argument.Value e) ≡ called_in_expression e
unfolding of_argument
argument-Value e = ap called_in_argument (sym (argument.rolls-Value e)) ∙ fold-roll-TypedArg _ _ _ _ _ of_argument of_kind of_place of_call of_expression (node.Value e)

pub argument-Address : (at : At) (place : TypedPlace) → called_in_argument (argument.Address at place) ≡ called_in_place place
unfolding of_argument
argument-Address at place = ap called_in_argument (sym (argument.rolls-Address at place)) ∙ fold-roll-TypedArg _ _ _ _ _ of_argument of_kind of_place of_call of_expression (node.Address at place)

pub call-is : (call : TypedCall) → called_in_call call ≡ (called_function call.callee ++ flat_map called_in_argument call.args)
unfolding of_call
call-is call = fold_out-TypedCall _ _ _ _ _ of_argument of_kind of_place of_call of_expression call ∙ ap (λ numbers. called_function call.callee ++ numbers) (flat_map-map (λ numbers. numbers) called_in_argument call.args)

pub expression-is : (e : TypedExpr) → called_in_expression e ≡ called_in_kind e.kind
unfolding of_expression
expression-is e = fold_out-TypedExpr _ _ _ _ _ of_argument of_kind of_place of_call of_expression e

pub ruleset expressions = (kind-Int, kind-Read, kind-ReadOverflow, kind-Unary, kind-Binary, kind-Cast, kind-Convert, kind-Choose, kind-Call, place-Plain, place-Index, place-Index2, place-Deref, argument-Value, argument-Address, call-is, expression-is)

pub statement-Empty : (at : At) → called_in_statement (statement.Empty at) ≡ []
unfolding of_statement
statement-Empty at = ap called_in_statement (sym (statement.rolls-Empty at)) ∙ fold-roll-TypedStmt _ _ of_statement of_block (open_statement.Empty at)

pub statement-Block : (block : TypedBlock) → called_in_statement (statement.Block block) ≡ called_in_block block
unfolding of_statement
statement-Block block = ap called_in_statement (sym (statement.rolls-Block block)) ∙ fold-roll-TypedStmt _ _ of_statement of_block (open_statement.Block block)

pub statement-Simple : (simple : TypedSimple) → called_in_statement (statement.Simple simple) ≡ called_in_simple simple
unfolding of_statement
statement-Simple simple = ap called_in_statement (sym (statement.rolls-Simple simple)) ∙ fold-roll-TypedStmt _ _ of_statement of_block (open_statement.Simple simple)

pub statement-If : (at : At) (cond : TypedExpr) (this : TypedStmt) → called_in_statement (statement.If at cond this None) ≡ (called_in_expression cond ++ called_in_statement this)
unfolding of_statement
statement-If at cond this = ap called_in_statement (sym (statement.rolls-If at cond this None)) ∙ fold-roll-TypedStmt _ _ of_statement of_block (open_statement.If at cond this None) ∙ append-nil (called_in_expression cond ++ called_in_statement this)

pub statement-Else : (at : At) (cond : TypedExpr) (this other : TypedStmt) → called_in_statement (statement.If at cond this (Some other)) ≡ (called_in_expression cond ++ called_in_statement this ++ called_in_statement other)
unfolding of_statement
statement-Else at cond this other = ap called_in_statement (sym (statement.rolls-If at cond this (Some other))) ∙ fold-roll-TypedStmt _ _ of_statement of_block (open_statement.If at cond this (Some other))

pub statement-While : (at : At) (cond : TypedExpr) (body : TypedStmt) → called_in_statement (statement.While at cond body) ≡ (called_in_expression cond ++ called_in_statement body)
unfolding of_statement
statement-While at cond body = ap called_in_statement (sym (statement.rolls-While at cond body)) ∙ fold-roll-TypedStmt _ _ of_statement of_block (open_statement.While at cond body)

pub statement-Do : (at : At) (body : TypedStmt) (cond : TypedExpr) → called_in_statement (statement.Do at body cond) ≡ (called_in_statement body ++ called_in_expression cond)
unfolding of_statement
statement-Do at body cond = ap called_in_statement (sym (statement.rolls-Do at body cond)) ∙ fold-roll-TypedStmt _ _ of_statement of_block (open_statement.Do at body cond)

pub statement-For : (at : At) (first : List TypedSimple) (cond : Option TypedExpr) (last : List TypedSimple) (body : TypedStmt) → called_in_statement (statement.For at first cond last body) ≡ (flat_map called_in_simple first ++ called_in_option called_in_expression cond ++ flat_map called_in_simple last ++ called_in_statement body)
unfolding of_statement
statement-For at first cond last body = ap called_in_statement (sym (statement.rolls-For at first cond last body)) ∙ fold-roll-TypedStmt _ _ of_statement of_block (open_statement.For at first cond last body)

pub statement-Break : (at : At) → called_in_statement (statement.Break at) ≡ []
unfolding of_statement
statement-Break at = ap called_in_statement (sym (statement.rolls-Break at)) ∙ fold-roll-TypedStmt _ _ of_statement of_block (open_statement.Break at)

pub statement-Continue : (at : At) → called_in_statement (statement.Continue at) ≡ []
unfolding of_statement
statement-Continue at = ap called_in_statement (sym (statement.rolls-Continue at)) ∙ fold-roll-TypedStmt _ _ of_statement of_block (open_statement.Continue at)

pub statement-Return : (at : At) (value : Option TypedExpr) → called_in_statement (statement.Return at value) ≡ called_in_option called_in_expression value
unfolding of_statement
statement-Return at value = ap called_in_statement (sym (statement.rolls-Return at value)) ∙ fold-roll-TypedStmt _ _ of_statement of_block (open_statement.Return at value)

pub block-is : (block : TypedBlock) → called_in_block block ≡ (flat_map called_in_start block.objects ++ flat_map called_in_statement block.stmts)
unfolding of_block
block-is block = fold_out-TypedBlock _ _ of_statement of_block block ∙ ap (λ numbers. flat_map called_in_start block.objects ++ numbers) (flat_map-map (λ numbers. numbers) called_in_statement block.stmts)

pub ruleset statements = (statement-Empty, statement-Block, statement-Simple, statement-If, statement-Else, statement-While, statement-Do, statement-For, statement-Break, statement-Continue, statement-Return, block-is)
