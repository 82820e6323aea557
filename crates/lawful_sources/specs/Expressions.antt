-- What stands in expressions, places, arguments and calls, in the order of their tokens.
use Rattle.std.specs.Prelude.{ℕ, ◌+◌, ◌==◌, ℤ, negsuc, neg_ℤ, Bool, true, false, if◌then◌else◌, List, [], ◌∷◌, ◌++◌, length, map, slice_get, Option, Some, None}
use Rattle.std.specs.Ordering.{int_eq}
use Rattle.sat_base.specs.declared.width.Width.{Width}
use Rattle.operator_meaning.specs.declared.object.Object.{Object}
use Rattle.operator_meaning.specs.declared.site.SiteKind.{SiteKind}
use Rattle.operator_meaning.specs.declared.site.SiteKind.TheVariants as sites
use Rattle.c_tree.specs.declared.expression.BinaryMark.{BinaryMark}
use Rattle.c_tree.specs.declared.expression.BinaryMark.TheVariants as binary
use Rattle.c_tree.specs.declared.expression.UnaryMark.{UnaryMark}
use Rattle.c_tree.specs.declared.expression.UnaryMark.TheVariants as unary
use Rattle.constant_expressions.specs.Folding.{converted, unary_value, binary_value}
use Rattle.c_typed.specs.declared.call.Callee.{Callee}
use Rattle.c_typed.specs.declared.call.Callee.TheVariants.{Operator, SampleIn}
use Rattle.c_typed.specs.declared.call.TypedArg.{TypedArg}
use Rattle.c_typed.specs.declared.call.TypedArg.TheOpen as node
use Rattle.c_typed.specs.declared.call.TypedArg.TheFolds.{fold-TypedArg, fold-TypedCall, fold-TypedExpr, fold-TypedExprKind, fold-TypedPlace}
use Rattle.c_typed.specs.declared.call.TypedCall.{TypedCall}
use Rattle.c_typed.specs.declared.expression.TypedExpr.{TypedExpr}
use Rattle.c_typed.specs.declared.expression.TypedExprKind.{TypedExprKind}
use Rattle.c_typed.specs.declared.place.TypedPlace.{TypedPlace}
use Rattle.c_typed.specs.declared.typed.Typed.{Typed}
use Rattle.lawful_sources.specs.Things.{Bare, Once, Twice, Star, Taken, Use, Read, Given, Thing, Place, Call, Argument, Mark, Conversion, Constant, taken_at, due_of}

-- ---- which marks are sites

abbrev pub unary_kind : UnaryMark → Option SiteKind
unary_kind unary.Minus = Some sites.Opposite
unary_kind mark = None

abbrev pub binary_kind : BinaryMark → Option SiteKind
binary_kind binary.Plus = Some sites.Sum
binary_kind binary.Minus = Some sites.Difference
binary_kind binary.Times = Some sites.Product
binary_kind mark = None

abbrev pub call_kind : Callee → Option SiteKind
call_kind (Operator op) = Some (sites.Call op)
call_kind SampleIn = Some sites.Sample
call_kind callee = None

-- where a view is given, the last index may be the length itself
abbrev pub edge : Use → ℕ
edge (Given taken) = 1
edge aim = 0

abbrev pub view_kind : Use → SiteKind
view_kind (Given taken) = sites.ViewEdge
view_kind aim = sites.ViewBound

-- The one index of a place: an offset of a view, an element of an array of one dimension, or a row of one of two.
abbrev pub index_kind : Option Object → Use → SiteKind
index_kind None aim = sites.Bound 0
index_kind (Some object) aim = if object.view then view_kind aim else (if object.columns == 0 then sites.Bound (object.rows + edge aim) else sites.Bound object.rows)

abbrev pub first_kind : Option Object → SiteKind
first_kind None = sites.Bound 0
first_kind (Some object) = sites.Bound object.rows

abbrev pub second_kind : Option Object → Use → SiteKind
second_kind None aim = sites.Bound 0
second_kind (Some object) aim = sites.Bound (object.columns + edge aim)

-- ---- relational constants

abbrev pub is_relation : BinaryMark → Bool
is_relation binary.Eq = true
is_relation binary.Ne = true
is_relation binary.Lt = true
is_relation binary.Le = true
is_relation binary.Gt = true
is_relation binary.Ge = true
is_relation mark = false

-- What an expression is: its value where it is an integer, after any `+`; the relational constant that it is, if it is
-- one; its value, if it is a constant expression; and all that stands in it, by the conversion that has to stand there.
pub record Look : Type 0 where
  pub integer : Option ℤ
  pub constant : List ℤ
  pub value : Option ℤ
  pub stands : Option Width → List Thing

-- the least number of 32 bits has no opposite
abbrev pub opposite : Option ℤ → List ℤ
opposite None = []
opposite (Some value) = if int_eq value (negsuc 2147483647) then [] else neg_ℤ value ∷ []

abbrev pub signed_integer : UnaryMark → Look → Option ℤ
signed_integer unary.Plus part = part.integer
signed_integer mark part = None

abbrev pub signed_constant : UnaryMark → Look → List ℤ
signed_constant unary.Plus part = part.constant
signed_constant unary.Minus part = opposite part.integer
signed_constant mark part = []

-- the operands of a relation may be relational constants
abbrev pub constants_in : BinaryMark → List ℤ → List ℤ → List ℤ
constants_in mark left right = if is_relation mark then left ++ right else []

-- ---- the folds

abbrev pub Placed : Type 0
Placed = Use → List Thing

-- by whether the value is needed
abbrev pub Calling : Type 0
Calling = Bool → List Thing

-- an argument, by what is taken, with its value, if it is a constant expression
pub record Argued : Type 0 where
  pub value : Option ℤ
  pub stands : Option Taken → List Thing

-- arguments, from the one at this place on
abbrev pub argued_from : Typed → Callee → ℕ → List Argued → List Thing
argued_from source callee place [] = []
argued_from source callee place (argument ∷ rest) = argument.stands (taken_at source callee place) ++ argued_from source callee (place + 1) rest

-- an expression that is neither a place nor a call, nor an implied conversion
abbrev pub plain : List Thing → Option Width → List Thing
plain things due = Conversion None due ∷ things

module _ (source : Typed) where
  unfoldable pub of_argument : node.TypedArg-F Argued Look Placed Calling Look → Argued
  of_argument (node.Value value) = record { value = value.value; stands = λ taken. Argument false taken ∷ value.stands (due_of taken) }
  of_argument (node.Address at place) = record { value = None; stands = λ taken. Argument true taken ∷ place (Given taken) }

  unfoldable pub of_kind : node.TypedExprKind-F Argued Look Placed Calling Look → Look
  of_kind (node.Int value) = record { integer = Some value; constant = value ∷ []; value = Some value; stands = plain [] }
  of_kind (node.Read place) = record { integer = None; constant = []; value = None; stands = plain (place Read) }
  of_kind (node.ReadOverflow word_at) = record { integer = None; constant = []; value = None; stands = plain [] }
  of_kind (node.Unary mark mark_at site part) = record {
    integer = signed_integer mark part;
    constant = signed_constant mark part;
    value = unary_value mark part.value;
    stands = plain (Mark mark_at site (unary_kind mark) ∷ part.stands None);
  }
  of_kind (node.Binary mark mark_at site left right) = record {
    integer = None;
    constant = [];
    value = binary_value mark left.value right.value;
    stands = plain (left.stands None ++ (Mark mark_at site (binary_kind mark) ∷ (map Constant (constants_in mark left.constant right.constant) ++ right.stands None)));
  }
  of_kind (node.Cast width part) = record { integer = None; constant = []; value = converted width part.value; stands = plain (part.stands None) }
  of_kind (node.Convert width part) =
      record { integer = None; constant = []; value = converted width part.value; stands = λ due. Conversion (Some width) due ∷ part.stands None }
  of_kind (node.Choose cond one other) =
      record { integer = None; constant = []; value = None; stands = plain (cond.stands None ++ (one.stands None ++ other.stands None)) }
  of_kind (node.Call call) = record { integer = None; constant = []; value = None; stands = plain (call true) }

  unfoldable pub of_place : node.TypedPlace-F Argued Look Placed Calling Look → Placed
  of_place (node.Plain at object) = λ aim. Place object Bare aim ∷ []
  of_place (node.Index at object mark_at site index) = λ aim.
      Place object Once aim ∷ Mark mark_at site (Some (index_kind (slice_get source.objects object) aim)) ∷ index.stands None
  of_place (node.Index2 at object first_at first_site first second_at second_site second) = λ aim.
      Place object Twice aim ∷ Mark first_at first_site (Some (first_kind (slice_get source.objects object)))
      ∷ (first.stands None ++ (Mark second_at second_site (Some (second_kind (slice_get source.objects object) aim)) ∷ second.stands None))
  of_place (node.Deref star_at site at object) = λ aim. Place object Star aim ∷ Mark star_at site (Some sites.ViewBound) ∷ []

  unfoldable pub of_call : node.TypedCall-F Argued Look Placed Calling Look → Calling
  of_call call = λ is_needed.
      Call call.callee (length call.args) is_needed ∷ Mark call.at call.site (call_kind call.callee) ∷ argued_from source call.callee 0 call.args

  unfoldable pub of_expression : node.TypedExpr-F Argued Look Placed Calling Look → Look
  of_expression e = e.kind

  abbrev pub argument_look : TypedArg → Argued
  argument_look = fold-TypedArg Argued Look Placed Calling Look of_argument of_kind of_place of_call of_expression

  abbrev pub kind_look : TypedExprKind → Look
  kind_look = fold-TypedExprKind Argued Look Placed Calling Look of_argument of_kind of_place of_call of_expression

  abbrev pub expression_look : TypedExpr → Look
  expression_look = fold-TypedExpr Argued Look Placed Calling Look of_argument of_kind of_place of_call of_expression

  -- by what is done with it
  abbrev pub in_place : TypedPlace → Use → List Thing
  in_place = fold-TypedPlace Argued Look Placed Calling Look of_argument of_kind of_place of_call of_expression

  -- by whether its value is needed
  abbrev pub in_call : TypedCall → Bool → List Thing
  in_call = fold-TypedCall Argued Look Placed Calling Look of_argument of_kind of_place of_call of_expression

  -- by the implied conversion that has to stand there
  abbrev pub in_expression : TypedExpr → Option Width → List Thing
  in_expression e = (expression_look e).stands

  abbrev pub in_argument : TypedArg → Option Taken → List Thing
  in_argument argument = (argument_look argument).stands
