-- What the definitions by folds say of each node of an expression.
use Rattle.std.proofs.Common.{◌≡◌, ℕ, ◌+◌, List, [], ◌∷◌, ◌++◌, Bool, true, false, Option, Some, None, refl, sym, ap, ◌∙◌, append_assoc}
use Rattle.std.specs.Prelude.{ℤ, map, length}
use Rattle.std.proofs.lemmas.List.{length-map, append-nil}
use Rattle.sat_base.specs.declared.name.At.{At}
use Rattle.sat_base.specs.declared.name.Named.{Named}
use Rattle.sat_base.specs.declared.width.Width.{Width}
use Rattle.c_tree.specs.declared.call.Arg.{Arg, fold-roll-Arg}
use Rattle.c_tree.specs.declared.call.Arg.TheOpen as node
use Rattle.c_tree.specs.declared.call.Arg.TheVariants as arg
use Rattle.c_tree.specs.declared.call.Call.{Call, fold_out-Call}
use Rattle.c_tree.specs.declared.expression.BinaryMark.{BinaryMark}
use Rattle.c_tree.specs.declared.expression.Expr.{Expr, fold_out-Expr}
use Rattle.c_tree.specs.declared.expression.ExprKind.{fold-roll-ExprKind}
use Rattle.c_tree.specs.declared.expression.ExprKind.TheVariants as kind
use Rattle.c_tree.specs.declared.expression.UnaryMark.{UnaryMark}
use Rattle.c_tree.specs.declared.expression.UnaryMark.TheVariants as unary
use Rattle.c_tree.specs.declared.place.Place.{Place, fold-roll-Place}
use Rattle.c_tree.specs.declared.place.Place.TheVariants as places
use Rattle.c_seen.specs.declared.seen.Marks.TheVariants as marks
use Rattle.c_seen.specs.declared.seen.Meaning.{Meaning}
use Rattle.c_seen.specs.declared.seen.Need.{Need}
use Rattle.c_seen.specs.declared.seen.Need.TheVariants as needs
use Rattle.c_seen.specs.declared.seen.Seen.{Seen}
use Rattle.c_seen.specs.declared.seen.Seen.TheVariants as seen
use Rattle.c_seen.specs.declared.seen.Wanted.{Wanted}
use Rattle.c_seen.specs.Expressions.{Look, Inner, Placed, Argued, Calling, no_view, opposite, constants_in, placed, argued_from, of_argument, of_kind, of_place, of_call, of_expression, look_of, inner_of, seen_in_expression, seen_in_kind, constant_of_kind, integer_of_kind, seen_in_place, seen_in_call, seen_in_argument, arguments_from}
use Rattle.c_seen.specs.Meanings.{Names, meaning, called_by, wanted_at, need_of}
use Rattle.c_seen.proofs.Lists.{arguments-next, arguments-end}

-- an expression is its first token, and what stands in its brackets
pub expression-inner : (e : Expr) → look_of e ≡ record { at = e.at; integer = (inner_of e.kind).integer; constant = (inner_of e.kind).constant e.at; sees = (inner_of e.kind).sees }
expression-inner e = fold_out-Expr Argued Inner Placed Calling Look of_argument of_kind of_place of_call of_expression e

pub expression-kind : (e : Expr) (names : Names) (need : Need) → seen_in_expression e names need ≡ seen_in_kind e.kind names need
unfolding seen_in_expression seen_in_kind
expression-kind e names need = ap (λ (l : Look). l.sees names need) (expression-inner e)

-- a kind by its layer
layer-Int : (value : ℤ) → inner_of (kind.Int value) ≡ of_kind (node.Int value)
layer-Int value = ap inner_of (sym (kind.rolls-Int value)) ∙ fold-roll-ExprKind Argued Inner Placed Calling Look of_argument of_kind of_place of_call of_expression (node.Int value)

layer-Read : (place : Place) → inner_of (kind.Read place) ≡ of_kind (node.Read (seen_in_place place))
unfolding seen_in_place
layer-Read place = ap inner_of (sym (kind.rolls-Read place)) ∙ fold-roll-ExprKind Argued Inner Placed Calling Look of_argument of_kind of_place of_call of_expression (node.Read place)

layer-ReadOverflow : (word_at : At) → inner_of (kind.ReadOverflow word_at) ≡ of_kind (node.ReadOverflow word_at)
layer-ReadOverflow word_at = ap inner_of (sym (kind.rolls-ReadOverflow word_at)) ∙ fold-roll-ExprKind Argued Inner Placed Calling Look of_argument of_kind of_place of_call of_expression (node.ReadOverflow word_at)

layer-Unary : (mark : UnaryMark) (mark_at : At) (part : Expr) → inner_of (kind.Unary mark mark_at part) ≡ of_kind (node.Unary mark mark_at (look_of part))
layer-Unary mark mark_at part = ap inner_of (sym (kind.rolls-Unary mark mark_at part)) ∙ fold-roll-ExprKind Argued Inner Placed Calling Look of_argument of_kind of_place of_call of_expression (node.Unary mark mark_at part)

layer-Binary : (mark : BinaryMark) (mark_at : At) (left right : Expr) → inner_of (kind.Binary mark mark_at left right) ≡ of_kind (node.Binary mark mark_at (look_of left) (look_of right))
layer-Binary mark mark_at left right = ap inner_of (sym (kind.rolls-Binary mark mark_at left right)) ∙ fold-roll-ExprKind Argued Inner Placed Calling Look of_argument of_kind of_place of_call of_expression (node.Binary mark mark_at left right)

layer-Cast : (width : Width) (part : Expr) → inner_of (kind.Cast width part) ≡ of_kind (node.Cast width (look_of part))
layer-Cast width part = ap inner_of (sym (kind.rolls-Cast width part)) ∙ fold-roll-ExprKind Argued Inner Placed Calling Look of_argument of_kind of_place of_call of_expression (node.Cast width part)

layer-Choose : (cond one other : Expr) → inner_of (kind.Choose cond one other) ≡ of_kind (node.Choose (look_of cond) (look_of one) (look_of other))
layer-Choose cond one other = ap inner_of (sym (kind.rolls-Choose cond one other)) ∙ fold-roll-ExprKind Argued Inner Placed Calling Look of_argument of_kind of_place of_call of_expression (node.Choose cond one other)

layer-Call : (call : Call) → inner_of (kind.Call call) ≡ of_kind (node.Call (seen_in_call call))
unfolding seen_in_call
layer-Call call = ap inner_of (sym (kind.rolls-Call call)) ∙ fold-roll-ExprKind Argued Inner Placed Calling Look of_argument of_kind of_place of_call of_expression (node.Call call)

-- what is seen in each kind
pub sees-Int : (value : ℤ) (names : Names) (need : Need) → seen_in_kind (kind.Int value) names need ≡ no_view need
unfolding seen_in_kind seen_in_expression
sees-Int value names need = ap (λ (i : Inner). i.sees names need) (layer-Int value)

pub sees-Read : (place : Place) (names : Names) (need : Need) → seen_in_kind (kind.Read place) names need ≡ seen_in_place place names false need
unfolding seen_in_kind seen_in_expression
sees-Read place names need = ap (λ (i : Inner). i.sees names need) (layer-Read place)

pub sees-ReadOverflow : (word_at : At) (names : Names) (need : Need) → seen_in_kind (kind.ReadOverflow word_at) names need ≡ no_view need
unfolding seen_in_kind seen_in_expression
sees-ReadOverflow word_at names need = ap (λ (i : Inner). i.sees names need) (layer-ReadOverflow word_at)

pub sees-Unary : (mark : UnaryMark) (mark_at : At) (part : Expr) (names : Names) (need : Need) → seen_in_kind (kind.Unary mark mark_at part) names need ≡ no_view need ++ seen_in_expression part names needs.Number
unfolding seen_in_kind seen_in_expression
sees-Unary mark mark_at part names need = ap (λ (i : Inner). i.sees names need) (layer-Unary mark mark_at part)

pub sees-Binary : (mark : BinaryMark) (mark_at : At) (left right : Expr) (names : Names) (need : Need) → seen_in_kind (kind.Binary mark mark_at left right) names need ≡ no_view need ++ (seen_in_expression left names needs.Number ++ (constants_in mark (constant_of_kind left.kind left.at) (constant_of_kind right.kind right.at) ++ seen_in_expression right names needs.Number))
unfolding seen_in_kind seen_in_expression constant_of_kind
sees-Binary mark mark_at left right names need =
    ap (λ (i : Inner). i.sees names need) (layer-Binary mark mark_at left right) ∙ ap (λ (l : Look). no_view need ++ (seen_in_expression left names needs.Number ++ (constants_in mark l.constant (look_of right).constant ++ seen_in_expression right names needs.Number))) (expression-inner left)
    ∙ ap (λ (l : Look). no_view need ++ (seen_in_expression left names needs.Number ++ (constants_in mark (constant_of_kind left.kind left.at) l.constant ++ seen_in_expression right names needs.Number))) (expression-inner right)

pub sees-Cast : (width : Width) (part : Expr) (names : Names) (need : Need) → seen_in_kind (kind.Cast width part) names need ≡ no_view need ++ seen_in_expression part names needs.Number
unfolding seen_in_kind seen_in_expression
sees-Cast width part names need = ap (λ (i : Inner). i.sees names need) (layer-Cast width part)

pub sees-Choose : (cond one other : Expr) (names : Names) (need : Need) → seen_in_kind (kind.Choose cond one other) names need ≡ no_view need ++ (seen_in_expression cond names needs.Number ++ (seen_in_expression one names needs.Number ++ seen_in_expression other names needs.Number))
unfolding seen_in_kind seen_in_expression
sees-Choose cond one other names need = ap (λ (i : Inner). i.sees names need) (layer-Choose cond one other)

pub sees-Call : (call : Call) (names : Names) (need : Need) → seen_in_kind (kind.Call call) names need ≡ seen_in_call call names need
unfolding seen_in_kind seen_in_expression
sees-Call call names need = ap (λ (i : Inner). i.sees names need) (layer-Call call)

-- the integers
pub integer-Int : (value : ℤ) → integer_of_kind (kind.Int value) ≡ Some value
unfolding integer_of_kind
integer-Int value = ap (λ (i : Inner). i.integer) (layer-Int value)

pub integer-Read : (place : Place) → integer_of_kind (kind.Read place) ≡ None
unfolding integer_of_kind
integer-Read place = ap (λ (i : Inner). i.integer) (layer-Read place)

pub integer-ReadOverflow : (word_at : At) → integer_of_kind (kind.ReadOverflow word_at) ≡ None
unfolding integer_of_kind
integer-ReadOverflow word_at = ap (λ (i : Inner). i.integer) (layer-ReadOverflow word_at)

pub integer-Plus : (mark_at : At) (part : Expr) → integer_of_kind (kind.Unary unary.Plus mark_at part) ≡ integer_of_kind part.kind
unfolding integer_of_kind
integer-Plus mark_at part = ap (λ (i : Inner). i.integer) (layer-Unary unary.Plus mark_at part) ∙ ap (λ (l : Look). l.integer) (expression-inner part)

pub integer-Minus : (mark_at : At) (part : Expr) → integer_of_kind (kind.Unary unary.Minus mark_at part) ≡ None
unfolding integer_of_kind
integer-Minus mark_at part = ap (λ (i : Inner). i.integer) (layer-Unary unary.Minus mark_at part)

pub integer-Not : (mark_at : At) (part : Expr) → integer_of_kind (kind.Unary unary.Not mark_at part) ≡ None
unfolding integer_of_kind
integer-Not mark_at part = ap (λ (i : Inner). i.integer) (layer-Unary unary.Not mark_at part)

pub integer-Invert : (mark_at : At) (part : Expr) → integer_of_kind (kind.Unary unary.Invert mark_at part) ≡ None
unfolding integer_of_kind
integer-Invert mark_at part = ap (λ (i : Inner). i.integer) (layer-Unary unary.Invert mark_at part)

pub integer-Binary : (mark : BinaryMark) (mark_at : At) (left right : Expr) → integer_of_kind (kind.Binary mark mark_at left right) ≡ None
unfolding integer_of_kind
integer-Binary mark mark_at left right = ap (λ (i : Inner). i.integer) (layer-Binary mark mark_at left right)

pub integer-Cast : (width : Width) (part : Expr) → integer_of_kind (kind.Cast width part) ≡ None
unfolding integer_of_kind
integer-Cast width part = ap (λ (i : Inner). i.integer) (layer-Cast width part)

pub integer-Choose : (cond one other : Expr) → integer_of_kind (kind.Choose cond one other) ≡ None
unfolding integer_of_kind
integer-Choose cond one other = ap (λ (i : Inner). i.integer) (layer-Choose cond one other)

pub integer-Call : (call : Call) → integer_of_kind (kind.Call call) ≡ None
unfolding integer_of_kind
integer-Call call = ap (λ (i : Inner). i.integer) (layer-Call call)

-- the relational constants
pub constant-Int : (value : ℤ) (at : At) → constant_of_kind (kind.Int value) at ≡ seen.Constant at value ∷ []
unfolding constant_of_kind
constant-Int value at = ap (λ (i : Inner). i.constant at) (layer-Int value)

pub constant-Read : (place : Place) (at : At) → constant_of_kind (kind.Read place) at ≡ []
unfolding constant_of_kind
constant-Read place at = ap (λ (i : Inner). i.constant at) (layer-Read place)

pub constant-ReadOverflow : (word_at : At) (at : At) → constant_of_kind (kind.ReadOverflow word_at) at ≡ []
unfolding constant_of_kind
constant-ReadOverflow word_at at = ap (λ (i : Inner). i.constant at) (layer-ReadOverflow word_at)

pub constant-Plus : (mark_at : At) (part : Expr) (at : At) → constant_of_kind (kind.Unary unary.Plus mark_at part) at ≡ constant_of_kind part.kind part.at
unfolding constant_of_kind integer_of_kind
constant-Plus mark_at part at = ap (λ (i : Inner). i.constant at) (layer-Unary unary.Plus mark_at part) ∙ ap (λ (l : Look). l.constant) (expression-inner part)

pub constant-Minus : (mark_at : At) (part : Expr) (at : At) → constant_of_kind (kind.Unary unary.Minus mark_at part) at ≡ opposite (integer_of_kind part.kind) at
unfolding constant_of_kind integer_of_kind
constant-Minus mark_at part at = ap (λ (i : Inner). i.constant at) (layer-Unary unary.Minus mark_at part) ∙ ap (λ (l : Look). opposite l.integer at) (expression-inner part)

pub constant-Not : (mark_at : At) (part : Expr) (at : At) → constant_of_kind (kind.Unary unary.Not mark_at part) at ≡ []
unfolding constant_of_kind integer_of_kind
constant-Not mark_at part at = ap (λ (i : Inner). i.constant at) (layer-Unary unary.Not mark_at part)

pub constant-Invert : (mark_at : At) (part : Expr) (at : At) → constant_of_kind (kind.Unary unary.Invert mark_at part) at ≡ []
unfolding constant_of_kind integer_of_kind
constant-Invert mark_at part at = ap (λ (i : Inner). i.constant at) (layer-Unary unary.Invert mark_at part)

pub constant-Binary : (mark : BinaryMark) (mark_at : At) (left right : Expr) (at : At) → constant_of_kind (kind.Binary mark mark_at left right) at ≡ []
unfolding constant_of_kind
constant-Binary mark mark_at left right at = ap (λ (i : Inner). i.constant at) (layer-Binary mark mark_at left right)

pub constant-Cast : (width : Width) (part : Expr) (at : At) → constant_of_kind (kind.Cast width part) at ≡ []
unfolding constant_of_kind
constant-Cast width part at = ap (λ (i : Inner). i.constant at) (layer-Cast width part)

pub constant-Choose : (cond one other : Expr) (at : At) → constant_of_kind (kind.Choose cond one other) at ≡ []
unfolding constant_of_kind
constant-Choose cond one other at = ap (λ (i : Inner). i.constant at) (layer-Choose cond one other)

pub constant-Call : (call : Call) (at : At) → constant_of_kind (kind.Call call) at ≡ []
unfolding constant_of_kind
constant-Call call at = ap (λ (i : Inner). i.constant at) (layer-Call call)

-- places
pub place-Plain : (name : Named) (names : Names) (ampersand : Bool) (need : Need) → seen_in_place (places.Plain name) names ampersand need ≡ placed name marks.None names ampersand need ∷ []
unfolding seen_in_place seen_in_expression
place-Plain name names ampersand need = ap (λ (p : Place). seen_in_place p names ampersand need) (sym (places.rolls-Plain name)) ∙ ap (λ (p : Placed). p names ampersand need) (fold-roll-Place Argued Inner Placed Calling Look of_argument of_kind of_place of_call of_expression (node.Plain name))

pub place-Index : (name : Named) (mark_at : At) (index : Expr) (names : Names) (ampersand : Bool) (need : Need) → seen_in_place (places.Index name mark_at index) names ampersand need ≡ placed name (marks.Once mark_at) names ampersand need ∷ seen_in_expression index names needs.Number
unfolding seen_in_place seen_in_expression
place-Index name mark_at index names ampersand need = ap (λ (p : Place). seen_in_place p names ampersand need) (sym (places.rolls-Index name mark_at index)) ∙ ap (λ (p : Placed). p names ampersand need) (fold-roll-Place Argued Inner Placed Calling Look of_argument of_kind of_place of_call of_expression (node.Index name mark_at index))

pub place-Index2 : (name : Named) (first_at : At) (first : Expr) (second_at : At) (second : Expr) (names : Names) (ampersand : Bool) (need : Need) → seen_in_place (places.Index2 name first_at first second_at second) names ampersand need ≡ placed name (marks.Twice first_at) names ampersand need ∷ (seen_in_expression first names needs.Number ++ seen_in_expression second names needs.Number)
unfolding seen_in_place seen_in_expression
place-Index2 name first_at first second_at second names ampersand need = ap (λ (p : Place). seen_in_place p names ampersand need) (sym (places.rolls-Index2 name first_at first second_at second)) ∙ ap (λ (p : Placed). p names ampersand need) (fold-roll-Place Argued Inner Placed Calling Look of_argument of_kind of_place of_call of_expression (node.Index2 name first_at first second_at second))

pub place-Deref : (star_at : At) (name : Named) (names : Names) (ampersand : Bool) (need : Need) → seen_in_place (places.Deref star_at name) names ampersand need ≡ placed name (marks.Star star_at) names ampersand need ∷ []
unfolding seen_in_place seen_in_expression
place-Deref star_at name names ampersand need = ap (λ (p : Place). seen_in_place p names ampersand need) (sym (places.rolls-Deref star_at name)) ∙ ap (λ (p : Placed). p names ampersand need) (fold-roll-Place Argued Inner Placed Calling Look of_argument of_kind of_place of_call of_expression (node.Deref star_at name))

-- arguments and calls
pub argument-Value : (value : Expr) (names : Names) (wanted : Wanted) → seen_in_argument (arg.Value value) names wanted ≡ seen_in_expression value names (need_of wanted value.at)
unfolding seen_in_argument seen_in_expression
argument-Value value names wanted =
    ap (λ (a : Arg). seen_in_argument a names wanted) (sym (arg.rolls-Value value)) ∙ ap (λ (a : Argued). a names wanted) (fold-roll-Arg Argued Inner Placed Calling Look of_argument of_kind of_place of_call of_expression (node.Value value))
    ∙ ap (λ (l : Look). (look_of value).sees names (need_of wanted l.at)) (expression-inner value)

pub argument-Address : (at : At) (place : Place) (names : Names) (wanted : Wanted) → seen_in_argument (arg.Address at place) names wanted ≡ seen_in_place place names true (need_of wanted at)
unfolding seen_in_argument seen_in_place
argument-Address at place names wanted =
    ap (λ (a : Arg). seen_in_argument a names wanted) (sym (arg.rolls-Address at place)) ∙ ap (λ (a : Argued). a names wanted) (fold-roll-Arg Argued Inner Placed Calling Look of_argument of_kind of_place of_call of_expression (node.Address at place))

argued-listed : (args : List Arg) (names : Names) (callee : Option Meaning) (place : ℕ) → argued_from (map seen_in_argument args) names callee place ≡ arguments_from args names callee place
argued-listed [] names callee place = refl
argued-listed (a ∷ args) names callee place = ap (λ (rest : List Seen). seen_in_argument a names (wanted_at names.items callee place) ++ rest) (argued-listed args names callee (place + 1))

pub call-arguments : (call : Call) (names : Names) (need : Need) → seen_in_call call names need ≡ seen.Call (record { at = call.name.at; called = called_by names call.name.name; arguments = length call.args; need = need }) ∷ arguments_from call.args names (meaning names call.name.name) 0
unfolding seen_in_call seen_in_argument
call-arguments call names need =
    ap (λ (c : Calling). c names need) (fold_out-Call Argued Inner Placed Calling Look of_argument of_kind of_place of_call of_expression call)
    ∙ ap (λ (n : ℕ). seen.Call (record { at = call.name.at; called = called_by names call.name.name; arguments = n; need = need }) ∷ argued_from (map seen_in_argument call.args) names (meaning names call.name.name) 0) (length-map call.args seen_in_argument)
    ∙ ap (λ (rest : List Seen). seen.Call (record { at = call.name.at; called = called_by names call.name.name; arguments = length call.args; need = need }) ∷ rest) (argued-listed call.args names (meaning names call.name.name) 0)

pub ruleset looks = (append_assoc, append-nil, arguments-next, arguments-end, expression-kind, sees-Int, sees-Read, sees-ReadOverflow, sees-Unary, sees-Binary, sees-Cast, sees-Choose, sees-Call, integer-Int, integer-Read, integer-ReadOverflow, integer-Plus, integer-Minus, integer-Not, integer-Invert, integer-Binary, integer-Cast, integer-Choose, integer-Call, constant-Int, constant-Read, constant-ReadOverflow, constant-Plus, constant-Minus, constant-Not, constant-Invert, constant-Binary, constant-Cast, constant-Choose, constant-Call, place-Plain, place-Index, place-Index2, place-Deref, argument-Value, argument-Address, call-arguments)
