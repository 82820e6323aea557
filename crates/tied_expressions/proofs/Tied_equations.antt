-- What the definitions by folds say of each node of an expression.
use Rattle.std.proofs.Common.{◌≡◌, ℕ, ◌+◌, ◌<◌, ◌≤◌, List, [], ◌∷◌, ◌++◌, Bool, false, true, get_or, drop, length, refl, sym, ap, ◌∙◌, append_assoc}
use Rattle.std.specs.Prelude.{ℤ, map, Option, Some}
use Rattle.std.proofs.lemmas.List.{append-nil, at_drop_more, at_drop_all}
use Rattle.sat_base.specs.declared.name.At.{At}
use Rattle.sat_base.specs.declared.name.Named.{Named}
use Rattle.sat_base.specs.declared.width.Width.{Width}
use Rattle.c_tree.specs.declared.call.Arg.{Arg, fold-roll-Arg}
use Rattle.c_tree.specs.declared.call.Arg.TheOpen as node
use Rattle.c_tree.specs.declared.call.Arg.TheVariants as arg
use Rattle.c_tree.specs.declared.call.Call.{Call, fold_out-Call}
use Rattle.c_tree.specs.declared.expression.BinaryMark.{BinaryMark}
use Rattle.c_tree.specs.declared.expression.Expr.{Expr, fold_out-Expr}
use Rattle.c_tree.specs.declared.expression.ExprKind.{fold-roll-ExprKind}
use Rattle.c_tree.specs.declared.expression.ExprKind.TheVariants as kind
use Rattle.c_tree.specs.declared.expression.UnaryMark.{UnaryMark}
use Rattle.c_tree.specs.declared.place.Place.{Place, fold-roll-Place}
use Rattle.c_tree.specs.declared.place.Place.TheVariants as places
use Rattle.c_typed.specs.declared.call.TypedArg.{TypedArg}
use Rattle.c_typed.specs.declared.call.TypedArg.TheVariants as argument
use Rattle.c_typed.specs.declared.call.TypedCall.{TypedCall}
use Rattle.c_typed.specs.declared.expression.TypedExprKind.TheVariants as typed
use Rattle.c_typed.specs.declared.place.TypedPlace.TheVariants as place
use Rattle.operator_meaning.specs.declared.site.SiteKind.TheVariants as sites
use Rattle.tied_names.specs.declared.tie.Asked.{Asked}
use Rattle.tied_names.specs.declared.tie.Asked.TheVariants as asks
use Rattle.tied_names.specs.declared.tie.Tie.{Tie}
use Rattle.tied_names.specs.Ties.{Here, tie_of, object_of, callee_by, call_kind, index_kind, asked_of}
use Rattle.tied_expressions.specs.Sites.{Tied, unary_kind, binary_kind, number_if, noted_if, exposed_if, with_conversion}
use Rattle.tied_expressions.specs.Expressions.{Placed, Argued, Calling, Inner, Whole, address, no_view, argued_from, of_argument, of_kind, of_place, of_call, of_expression, whole_of, inner_of, tied_expression, tied_kind, viewed_kind, tied_place, tied_call, tied_argument, arguments_from}

-- an expression is its first token, its brackets, and what stands in them
whole-inner : (e : Expr) → whole_of e ≡ of_expression (record { at = e.at; brackets = e.brackets; kind = inner_of e.kind })
whole-inner e = fold_out-Expr Argued Inner Placed Calling Whole of_argument of_kind of_place of_call of_expression e

pub tied-expression : (e : Expr) (here : Here) → tied_expression e here ≡ record { value = record { at = e.at; brackets = e.brackets; kind = (tied_kind e.kind here).value }; notes = (tied_kind e.kind here).notes }
unfolding tied_expression tied_kind
tied-expression e here = ap (λ (w : Whole). w.tied here) (whole-inner e)

viewed-expression : (e : Expr) (here : Here) → (whole_of e).viewed here ≡ viewed_kind e.kind e.at here
unfolding viewed_kind
viewed-expression e here = ap (λ (w : Whole). w.viewed here) (whole-inner e)

-- a kind by its layer
layer-Int : (value : ℤ) → inner_of (kind.Int value) ≡ of_kind (node.Int value)
layer-Int value = ap inner_of (sym (kind.rolls-Int value)) ∙ fold-roll-ExprKind Argued Inner Placed Calling Whole of_argument of_kind of_place of_call of_expression (node.Int value)

layer-Read : (named : Place) → inner_of (kind.Read named) ≡ of_kind (node.Read (tied_place named))
unfolding tied_place
layer-Read named = ap inner_of (sym (kind.rolls-Read named)) ∙ fold-roll-ExprKind Argued Inner Placed Calling Whole of_argument of_kind of_place of_call of_expression (node.Read named)

layer-ReadOverflow : (word_at : At) → inner_of (kind.ReadOverflow word_at) ≡ of_kind (node.ReadOverflow word_at)
layer-ReadOverflow word_at = ap inner_of (sym (kind.rolls-ReadOverflow word_at)) ∙ fold-roll-ExprKind Argued Inner Placed Calling Whole of_argument of_kind of_place of_call of_expression (node.ReadOverflow word_at)

layer-Unary : (mark : UnaryMark) (mark_at : At) (part : Expr) → inner_of (kind.Unary mark mark_at part) ≡ of_kind (node.Unary mark mark_at (whole_of part))
layer-Unary mark mark_at part = ap inner_of (sym (kind.rolls-Unary mark mark_at part)) ∙ fold-roll-ExprKind Argued Inner Placed Calling Whole of_argument of_kind of_place of_call of_expression (node.Unary mark mark_at part)

layer-Binary : (mark : BinaryMark) (mark_at : At) (left right : Expr) → inner_of (kind.Binary mark mark_at left right) ≡ of_kind (node.Binary mark mark_at (whole_of left) (whole_of right))
layer-Binary mark mark_at left right = ap inner_of (sym (kind.rolls-Binary mark mark_at left right)) ∙ fold-roll-ExprKind Argued Inner Placed Calling Whole of_argument of_kind of_place of_call of_expression (node.Binary mark mark_at left right)

layer-Cast : (width : Width) (part : Expr) → inner_of (kind.Cast width part) ≡ of_kind (node.Cast width (whole_of part))
layer-Cast width part = ap inner_of (sym (kind.rolls-Cast width part)) ∙ fold-roll-ExprKind Argued Inner Placed Calling Whole of_argument of_kind of_place of_call of_expression (node.Cast width part)

layer-Choose : (cond one other : Expr) → inner_of (kind.Choose cond one other) ≡ of_kind (node.Choose (whole_of cond) (whole_of one) (whole_of other))
layer-Choose cond one other = ap inner_of (sym (kind.rolls-Choose cond one other)) ∙ fold-roll-ExprKind Argued Inner Placed Calling Whole of_argument of_kind of_place of_call of_expression (node.Choose cond one other)

layer-Call : (call : Call) → inner_of (kind.Call call) ≡ of_kind (node.Call (tied_call call))
unfolding tied_call
layer-Call call = ap inner_of (sym (kind.rolls-Call call)) ∙ fold-roll-ExprKind Argued Inner Placed Calling Whole of_argument of_kind of_place of_call of_expression (node.Call call)

-- what each kind is
pub tied-Int : (value : ℤ) (here : Here) → tied_kind (kind.Int value) here ≡ record { value = typed.Int value; notes = [] }
unfolding tied_kind tied_expression
tied-Int value here = ap (λ (i : Inner). i.tied here) (layer-Int value)

pub tied-Read : (named : Place) (here : Here) → tied_kind (kind.Read named) here ≡ record { value = typed.Read (tied_place named here false).value; notes = (tied_place named here false).notes }
unfolding tied_kind tied_expression
tied-Read named here = ap (λ (i : Inner). i.tied here) (layer-Read named)

pub tied-ReadOverflow : (word_at : At) (here : Here) → tied_kind (kind.ReadOverflow word_at) here ≡ record { value = typed.ReadOverflow word_at; notes = [] }
unfolding tied_kind tied_expression
tied-ReadOverflow word_at here = ap (λ (i : Inner). i.tied here) (layer-ReadOverflow word_at)

pub tied-Unary : (mark : UnaryMark) (mark_at : At) (part : Expr) (here : Here) → tied_kind (kind.Unary mark mark_at part) here ≡ record { value = typed.Unary mark mark_at (number_if here (unary_kind mark) mark_at) (tied_expression part here).value; notes = noted_if (unary_kind mark) mark_at ++ (tied_expression part here).notes }
unfolding tied_kind tied_expression
tied-Unary mark mark_at part here = ap (λ (i : Inner). i.tied here) (layer-Unary mark mark_at part)

pub tied-Binary : (mark : BinaryMark) (mark_at : At) (left right : Expr) (here : Here) → tied_kind (kind.Binary mark mark_at left right) here ≡ record { value = typed.Binary mark mark_at (number_if here (binary_kind mark) mark_at) (tied_expression left here).value (tied_expression right here).value; notes = (tied_expression left here).notes ++ (noted_if (binary_kind mark) mark_at ++ (tied_expression right here).notes) }
unfolding tied_kind tied_expression
tied-Binary mark mark_at left right here = ap (λ (i : Inner). i.tied here) (layer-Binary mark mark_at left right)

pub tied-Cast : (width : Width) (part : Expr) (here : Here) → tied_kind (kind.Cast width part) here ≡ record { value = typed.Cast width (tied_expression part here).value; notes = (tied_expression part here).notes }
unfolding tied_kind tied_expression
tied-Cast width part here = ap (λ (i : Inner). i.tied here) (layer-Cast width part)

pub tied-Choose : (cond one other : Expr) (here : Here) → tied_kind (kind.Choose cond one other) here ≡ record { value = typed.Choose (tied_expression cond here).value (tied_expression one here).value (tied_expression other here).value; notes = (tied_expression cond here).notes ++ ((tied_expression one here).notes ++ (tied_expression other here).notes) }
unfolding tied_kind tied_expression
tied-Choose cond one other here = ap (λ (i : Inner). i.tied here) (layer-Choose cond one other)

pub tied-Call : (call : Call) (here : Here) → tied_kind (kind.Call call) here ≡ record { value = typed.Call (tied_call call here).value; notes = (tied_call call here).notes }
unfolding tied_kind tied_expression
tied-Call call here = ap (λ (i : Inner). i.tied here) (layer-Call call)

-- what each kind is where a view is given
pub viewed-Int : (value : ℤ) (at : At) (here : Here) → viewed_kind (kind.Int value) at here ≡ no_view at here
unfolding viewed_kind
viewed-Int value at here = ap (λ (i : Inner). i.viewed at here) (layer-Int value)

pub viewed-Read : (named : Place) (at : At) (here : Here) → viewed_kind (kind.Read named) at here ≡ address at (tied_place named here false)
unfolding viewed_kind
viewed-Read named at here = ap (λ (i : Inner). i.viewed at here) (layer-Read named)

pub viewed-ReadOverflow : (word_at : At) (at : At) (here : Here) → viewed_kind (kind.ReadOverflow word_at) at here ≡ no_view at here
unfolding viewed_kind
viewed-ReadOverflow word_at at here = ap (λ (i : Inner). i.viewed at here) (layer-ReadOverflow word_at)

pub viewed-Unary : (mark : UnaryMark) (mark_at : At) (part : Expr) (at : At) (here : Here) → viewed_kind (kind.Unary mark mark_at part) at here ≡ no_view at here
unfolding viewed_kind
viewed-Unary mark mark_at part at here = ap (λ (i : Inner). i.viewed at here) (layer-Unary mark mark_at part)

pub viewed-Binary : (mark : BinaryMark) (mark_at : At) (left right : Expr) (at : At) (here : Here) → viewed_kind (kind.Binary mark mark_at left right) at here ≡ no_view at here
unfolding viewed_kind
viewed-Binary mark mark_at left right at here = ap (λ (i : Inner). i.viewed at here) (layer-Binary mark mark_at left right)

pub viewed-Cast : (width : Width) (part : Expr) (at : At) (here : Here) → viewed_kind (kind.Cast width part) at here ≡ no_view at here
unfolding viewed_kind
viewed-Cast width part at here = ap (λ (i : Inner). i.viewed at here) (layer-Cast width part)

pub viewed-Choose : (cond one other : Expr) (at : At) (here : Here) → viewed_kind (kind.Choose cond one other) at here ≡ no_view at here
unfolding viewed_kind
viewed-Choose cond one other at here = ap (λ (i : Inner). i.viewed at here) (layer-Choose cond one other)

pub viewed-Call : (call : Call) (at : At) (here : Here) → viewed_kind (kind.Call call) at here ≡ no_view at here
unfolding viewed_kind
viewed-Call call at here = ap (λ (i : Inner). i.viewed at here) (layer-Call call)

-- places
pub place-Plain : (name : Named) (here : Here) (ampersand : Bool) → tied_place (places.Plain name) here ampersand ≡ record { value = place.Plain name.at (object_of here name.name).number; notes = exposed_if ampersand (object_of here name.name) }
unfolding tied_place tied_expression
place-Plain name here ampersand = ap (λ (p : Place). tied_place p here ampersand) (sym (places.rolls-Plain name)) ∙ ap (λ (p : Placed). p here ampersand) (fold-roll-Place Argued Inner Placed Calling Whole of_argument of_kind of_place of_call of_expression (node.Plain name))

pub place-Index : (name : Named) (mark_at : At) (index : Expr) (here : Here) (ampersand : Bool) → tied_place (places.Index name mark_at index) here ampersand ≡ record { value = place.Index name.at (object_of here name.name).number mark_at (number_if here (Some (index_kind (object_of here name.name) (object_of here name.name).rows ampersand)) mark_at) (tied_expression index here).value; notes = noted_if (Some (index_kind (object_of here name.name) (object_of here name.name).rows ampersand)) mark_at ++ (tied_expression index here).notes }
unfolding tied_place tied_expression
place-Index name mark_at index here ampersand = ap (λ (p : Place). tied_place p here ampersand) (sym (places.rolls-Index name mark_at index)) ∙ ap (λ (p : Placed). p here ampersand) (fold-roll-Place Argued Inner Placed Calling Whole of_argument of_kind of_place of_call of_expression (node.Index name mark_at index))

pub place-Index2 : (name : Named) (first_at : At) (first : Expr) (second_at : At) (second : Expr) (here : Here) (ampersand : Bool) → tied_place (places.Index2 name first_at first second_at second) here ampersand ≡ record { value = place.Index2 name.at (object_of here name.name).number first_at (number_if here (Some (index_kind (object_of here name.name) (object_of here name.name).rows false)) first_at) (tied_expression first here).value second_at (number_if here (Some (index_kind (object_of here name.name) (object_of here name.name).columns ampersand)) second_at) (tied_expression second here).value; notes = noted_if (Some (index_kind (object_of here name.name) (object_of here name.name).rows false)) first_at ++ ((tied_expression first here).notes ++ (noted_if (Some (index_kind (object_of here name.name) (object_of here name.name).columns ampersand)) second_at ++ (tied_expression second here).notes)) }
unfolding tied_place tied_expression
place-Index2 name first_at first second_at second here ampersand = ap (λ (p : Place). tied_place p here ampersand) (sym (places.rolls-Index2 name first_at first second_at second)) ∙ ap (λ (p : Placed). p here ampersand) (fold-roll-Place Argued Inner Placed Calling Whole of_argument of_kind of_place of_call of_expression (node.Index2 name first_at first second_at second))

pub place-Deref : (star_at : At) (name : Named) (here : Here) (ampersand : Bool) → tied_place (places.Deref star_at name) here ampersand ≡ record { value = place.Deref star_at (number_if here (Some sites.ViewBound) star_at) name.at (object_of here name.name).number; notes = noted_if (Some sites.ViewBound) star_at }
unfolding tied_place tied_expression
place-Deref star_at name here ampersand = ap (λ (p : Place). tied_place p here ampersand) (sym (places.rolls-Deref star_at name)) ∙ ap (λ (p : Placed). p here ampersand) (fold-roll-Place Argued Inner Placed Calling Whole of_argument of_kind of_place of_call of_expression (node.Deref star_at name))

-- arguments and calls
pub argument-Address : (at : At) (named : Place) (here : Here) (asked : Asked) → tied_argument (arg.Address at named) here asked ≡ address at (tied_place named here true)
unfolding tied_argument tied_place
argument-Address at named here asked = ap (λ (a : Arg). tied_argument a here asked) (sym (arg.rolls-Address at named)) ∙ ap (λ (a : Argued). a here asked) (fold-roll-Arg Argued Inner Placed Calling Whole of_argument of_kind of_place of_call of_expression (node.Address at named))

pub argument-Number : (e : Expr) (here : Here) (width : Width) → tied_argument (arg.Value e) here (asks.Number width) ≡ record { value = argument.Value (with_conversion width (tied_expression e here).value); notes = (tied_expression e here).notes }
unfolding tied_argument tied_expression
argument-Number e here width = ap (λ (a : Arg). tied_argument a here (asks.Number width)) (sym (arg.rolls-Value e)) ∙ ap (λ (a : Argued). a here (asks.Number width)) (fold-roll-Arg Argued Inner Placed Calling Whole of_argument of_kind of_place of_call of_expression (node.Value e))

pub argument-View : (e : Expr) (here : Here) → tied_argument (arg.Value e) here asks.View ≡ viewed_kind e.kind e.at here
unfolding tied_argument
argument-View e here = ap (λ (a : Arg). tied_argument a here asks.View) (sym (arg.rolls-Value e)) ∙ ap (λ (a : Argued). a here asks.View) (fold-roll-Arg Argued Inner Placed Calling Whole of_argument of_kind of_place of_call of_expression (node.Value e)) ∙ viewed-expression e here

listed : (args : List Arg) (here : Here) (tie : Option Tie) (n : ℕ) → argued_from (map tied_argument args) here tie n ≡ arguments_from args here tie n
listed [] here tie n = refl
listed (one ∷ rest) here tie n =
    ap (λ (more : Tied (List TypedArg)). let whole : Tied (List TypedArg) = record { value = (tied_argument one here (asked_of here.items tie n)).value ∷ more.value; notes = (tied_argument one here (asked_of here.items tie n)).notes ++ more.notes } in whole) (listed rest here tie (n + 1))

pub call-parts : (call : Call) (here : Here) → tied_call call here ≡ record {
  value = record {
    at = call.name.at;
    callee = callee_by (tie_of here call.name.name);
    site = number_if here (call_kind (callee_by (tie_of here call.name.name))) call.name.at;
    args = (arguments_from call.args here (tie_of here call.name.name) 0).value;
  };
  notes = noted_if (call_kind (callee_by (tie_of here call.name.name))) call.name.at ++ (arguments_from call.args here (tie_of here call.name.name) 0).notes;
}
unfolding tied_call tied_argument
call-parts call here = ap (λ (c : Calling). c here) (fold_out-Call Argued Inner Placed Calling Whole of_argument of_kind of_place of_call of_expression call)
    ∙ ap (λ (args : Tied (List TypedArg)). let whole : Tied TypedCall = record { value = record { at = call.name.at; callee = callee_by (tie_of here call.name.name); site = number_if here (call_kind (callee_by (tie_of here call.name.name))) call.name.at; args = args.value }; notes = noted_if (call_kind (callee_by (tie_of here call.name.name))) call.name.at ++ args.notes } in whole) (listed call.args here (tie_of here call.name.name) 0)

-- arguments, one more at a time
pub arguments-next : (here : Here) (tie : Option Tie) (xs : List Arg) (i : ℕ) (x : Arg) → i < length xs → x ≡ get_or xs i x → arguments_from (drop i xs) here tie i ≡ record {
  value = (tied_argument x here (asked_of here.items tie i)).value ∷ (arguments_from (drop (i + 1) xs) here tie (i + 1)).value;
  notes = (tied_argument x here (asked_of here.items tie i)).notes ++ (arguments_from (drop (i + 1) xs) here tie (i + 1)).notes;
}
arguments-next here tie xs i x less is = at_drop_more (λ (l : List Arg). arguments_from l here tie i) xs i x less ∙ ap (λ (y : Arg). arguments_from (y ∷ drop (i + 1) xs) here tie i) (sym is)

pub arguments-end : (here : Here) (tie : Option Tie) (xs : List Arg) (i : ℕ) → length xs ≤ i → arguments_from (drop i xs) here tie i ≡ record { value = []; notes = [] }
arguments-end here tie xs i more = at_drop_all (λ (l : List Arg). arguments_from l here tie i) xs i more

pub ruleset ties = (append_assoc, append-nil, tied-expression, tied-Int, tied-Read, tied-ReadOverflow, tied-Unary, tied-Binary, tied-Cast, tied-Choose, tied-Call, viewed-Int, viewed-Read, viewed-ReadOverflow, viewed-Unary, viewed-Binary, viewed-Cast, viewed-Choose, viewed-Call, place-Plain, place-Index, place-Index2, place-Deref, argument-Address, argument-Number, argument-View, call-parts, arguments-next, arguments-end)
