-- Expressions, places, arguments and calls whose names are tied, by what is in scope where they stand.
use Rattle.std.specs.Prelude.{ℕ, ◌+◌, Bool, true, false, List, [], ◌∷◌, ◌++◌, Option, Some}
use Rattle.sat_base.specs.declared.name.At.{At}
use Rattle.c_tree.specs.declared.call.Arg.{Arg, fold-Arg}
use Rattle.c_tree.specs.declared.call.Arg.TheOpen as node
use Rattle.c_tree.specs.declared.call.Call.{Call, fold-Call}
use Rattle.c_tree.specs.declared.expression.Expr.{Expr, fold-Expr}
use Rattle.c_tree.specs.declared.expression.ExprKind.{ExprKind, fold-ExprKind}
use Rattle.c_tree.specs.declared.place.Place.{Place, fold-Place}
use Rattle.c_typed.specs.declared.call.TypedArg.{TypedArg}
use Rattle.c_typed.specs.declared.call.TypedArg.TheVariants as argument
use Rattle.c_typed.specs.declared.call.TypedCall.{TypedCall}
use Rattle.c_typed.specs.declared.expression.TypedExpr.{TypedExpr}
use Rattle.c_typed.specs.declared.expression.TypedExprKind.{TypedExprKind}
use Rattle.c_typed.specs.declared.expression.TypedExprKind.TheVariants as kind
use Rattle.c_typed.specs.declared.place.TypedPlace.{TypedPlace}
use Rattle.c_typed.specs.declared.place.TypedPlace.TheVariants as place
use Rattle.operator_meaning.specs.declared.site.SiteKind.TheVariants as sites
use Rattle.tied_names.specs.declared.tie.Asked.{Asked}
use Rattle.tied_names.specs.declared.tie.Asked.TheVariants as asks
use Rattle.tied_names.specs.declared.tie.Tie.{Tie}
use Rattle.tied_names.specs.Ties.{Here, tie_of, object_of, callee_by, call_kind, index_kind, asked_of}
use Rattle.tied_expressions.specs.Sites.{Tied, unary_kind, binary_kind, number_if, noted_if, exposed_if, with_conversion}

abbrev pub Placed : Type 0
Placed = Here → Bool → Tied TypedPlace

abbrev pub Argued : Type 0
Argued = Here → Asked → Tied TypedArg

abbrev pub Calling : Type 0
Calling = Here → Tied TypedCall

-- What stands in an expression's brackets; and what it is where a view is given, which only a place is. Something
-- stands for what is no place, and in a source without a fault nowhere.
pub record Inner : Type 0 where
  pub viewed : At → Here → Tied TypedArg
  pub tied : Here → Tied TypedExprKind

pub record Whole : Type 0 where
  pub viewed : Here → Tied TypedArg
  pub tied : Here → Tied TypedExpr

abbrev pub address : At → Tied TypedPlace → Tied TypedArg
address at given = record { value = argument.Address at given.value; notes = given.notes }

abbrev pub no_view : At → Here → Tied TypedArg
no_view at here = record { value = argument.Address at (place.Plain at 0); notes = [] }

-- a number is converted to the width of its parameter
abbrev pub given_by : Asked → Whole → Here → Tied TypedArg
given_by (asks.Number width) e here = record { value = argument.Value (with_conversion width (e.tied here).value); notes = (e.tied here).notes }
given_by asks.View e here = e.viewed here

-- arguments, from the one at this place on
abbrev pub argued_from : List Argued → Here → Option Tie → ℕ → Tied (List TypedArg)
argued_from [] here tie n = record { value = []; notes = [] }
argued_from (one ∷ rest) here tie n = record {
  value = (one here (asked_of here.items tie n)).value ∷ (argued_from rest here tie (n + 1)).value;
  notes = (one here (asked_of here.items tie n)).notes ++ (argued_from rest here tie (n + 1)).notes;
}

abbrev pub of_argument : node.Arg-F Argued Inner Placed Calling Whole → Argued
of_argument (node.Value value) = λ here asked. given_by asked value here
of_argument (node.Address at named) = λ here asked. address at (named here true)

abbrev pub of_kind : node.ExprKind-F Argued Inner Placed Calling Whole → Inner
of_kind (node.Int value) = record { viewed = no_view; tied = λ here. record { value = kind.Int value; notes = [] } }
of_kind (node.Read named) = record { viewed = λ at here. address at (named here false); tied = λ here. record { value = kind.Read (named here false).value; notes = (named here false).notes } }
of_kind (node.ReadOverflow word_at) = record { viewed = no_view; tied = λ here. record { value = kind.ReadOverflow word_at; notes = [] } }
of_kind (node.Unary mark mark_at part) = record {
  viewed = no_view;
  tied = λ here. record {
    value = kind.Unary mark mark_at (number_if here (unary_kind mark) mark_at) (part.tied here).value;
    notes = noted_if (unary_kind mark) mark_at ++ (part.tied here).notes;
  };
}
of_kind (node.Binary mark mark_at left right) = record {
  viewed = no_view;
  tied = λ here. record {
    value = kind.Binary mark mark_at (number_if here (binary_kind mark) mark_at) (left.tied here).value (right.tied here).value;
    notes = (left.tied here).notes ++ (noted_if (binary_kind mark) mark_at ++ (right.tied here).notes);
  };
}
of_kind (node.Cast width part) = record { viewed = no_view; tied = λ here. record { value = kind.Cast width (part.tied here).value; notes = (part.tied here).notes } }
of_kind (node.Choose cond one other) = record {
  viewed = no_view;
  tied = λ here. record {
    value = kind.Choose (cond.tied here).value (one.tied here).value (other.tied here).value;
    notes = (cond.tied here).notes ++ ((one.tied here).notes ++ (other.tied here).notes);
  };
}
of_kind (node.Call call) = record { viewed = no_view; tied = λ here. record { value = kind.Call (call here).value; notes = (call here).notes } }

abbrev pub of_place : node.Place-F Argued Inner Placed Calling Whole → Placed
of_place (node.Plain name) = λ here ampersand. record {
  value = place.Plain name.at (object_of here name.name).number;
  notes = exposed_if ampersand (object_of here name.name);
}
of_place (node.Index name mark_at index) = λ here ampersand. record {
  value = place.Index name.at (object_of here name.name).number mark_at
      (number_if here (Some (index_kind (object_of here name.name) (object_of here name.name).rows ampersand)) mark_at) (index.tied here).value;
  notes = noted_if (Some (index_kind (object_of here name.name) (object_of here name.name).rows ampersand)) mark_at ++ (index.tied here).notes;
}
of_place (node.Index2 name first_at first second_at second) = λ here ampersand. record {
  value = place.Index2 name.at (object_of here name.name).number
      first_at (number_if here (Some (index_kind (object_of here name.name) (object_of here name.name).rows false)) first_at) (first.tied here).value
      second_at (number_if here (Some (index_kind (object_of here name.name) (object_of here name.name).columns ampersand)) second_at) (second.tied here).value;
  notes = noted_if (Some (index_kind (object_of here name.name) (object_of here name.name).rows false)) first_at ++ ((first.tied here).notes
      ++ (noted_if (Some (index_kind (object_of here name.name) (object_of here name.name).columns ampersand)) second_at ++ (second.tied here).notes));
}
of_place (node.Deref star_at name) = λ here ampersand. record {
  value = place.Deref star_at (number_if here (Some sites.ViewBound) star_at) name.at (object_of here name.name).number;
  notes = noted_if (Some sites.ViewBound) star_at;
}

abbrev pub of_call : node.Call-F Argued Inner Placed Calling Whole → Calling
of_call call = λ here. record {
  value = record {
    at = call.name.at;
    callee = callee_by (tie_of here call.name.name);
    site = number_if here (call_kind (callee_by (tie_of here call.name.name))) call.name.at;
    args = (argued_from call.args here (tie_of here call.name.name) 0).value;
  };
  notes = noted_if (call_kind (callee_by (tie_of here call.name.name))) call.name.at ++ (argued_from call.args here (tie_of here call.name.name) 0).notes;
}

abbrev pub of_expression : node.Expr-F Argued Inner Placed Calling Whole → Whole
of_expression e = record {
  viewed = e.kind.viewed e.at;
  tied = λ here. record { value = record { at = e.at; brackets = e.brackets; kind = (e.kind.tied here).value }; notes = (e.kind.tied here).notes };
}

abbrev pub whole_of : Expr → Whole
whole_of = fold-Expr Argued Inner Placed Calling Whole of_argument of_kind of_place of_call of_expression

abbrev pub inner_of : ExprKind → Inner
inner_of = fold-ExprKind Argued Inner Placed Calling Whole of_argument of_kind of_place of_call of_expression

unfoldable pub tied_expression : Expr → Here → Tied TypedExpr
tied_expression e = (whole_of e).tied

-- what stands in its brackets
unfoldable pub tied_kind : ExprKind → Here → Tied TypedExprKind
tied_kind inside = (inner_of inside).tied

-- what it is where a view is given, and its first token is this
unfoldable pub viewed_kind : ExprKind → At → Here → Tied TypedArg
viewed_kind inside = (inner_of inside).viewed

-- a place, by whether `&` stands before it
unfoldable pub tied_place : Place → Here → Bool → Tied TypedPlace
tied_place = fold-Place Argued Inner Placed Calling Whole of_argument of_kind of_place of_call of_expression

unfoldable pub tied_call : Call → Here → Tied TypedCall
tied_call = fold-Call Argued Inner Placed Calling Whole of_argument of_kind of_place of_call of_expression

-- an argument, or the one value that an object starts with, by what it is given to
unfoldable pub tied_argument : Arg → Here → Asked → Tied TypedArg
tied_argument = fold-Arg Argued Inner Placed Calling Whole of_argument of_kind of_place of_call of_expression

-- arguments, from the one at this place on
abbrev pub arguments_from : List Arg → Here → Option Tie → ℕ → Tied (List TypedArg)
arguments_from [] here tie n = record { value = []; notes = [] }
arguments_from (one ∷ rest) here tie n = record {
  value = (tied_argument one here (asked_of here.items tie n)).value ∷ (arguments_from rest here tie (n + 1)).value;
  notes = (tied_argument one here (asked_of here.items tie n)).notes ++ (arguments_from rest here tie (n + 1)).notes;
}
