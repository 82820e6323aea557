-- What is seen in expressions, by the names that are in scope and by what is needed there.
use Rattle.std.specs.Prelude.{ℕ, ◌+◌, Bool, true, false, if◌then◌else◌, ℤ, negsuc, neg_ℤ, List, [], ◌∷◌, ◌++◌, length, Option, Some, None}
use Rattle.std.specs.Ordering.{int_eq}
use Rattle.sat_base.specs.declared.name.At.{At}
use Rattle.sat_base.specs.declared.name.Named.{Named}
use Rattle.c_tree.specs.declared.call.Arg.{Arg, fold-Arg}
use Rattle.c_tree.specs.declared.call.Arg.TheOpen as node
use Rattle.c_tree.specs.declared.call.Call.{Call, fold-Call}
use Rattle.c_tree.specs.declared.expression.BinaryMark.{BinaryMark}
use Rattle.c_tree.specs.declared.expression.BinaryMark.TheVariants as binary
use Rattle.c_tree.specs.declared.expression.Expr.{Expr, fold-Expr}
use Rattle.c_tree.specs.declared.expression.ExprKind.{ExprKind, fold-ExprKind}
use Rattle.c_tree.specs.declared.expression.UnaryMark.{UnaryMark}
use Rattle.c_tree.specs.declared.expression.UnaryMark.TheVariants as unary
use Rattle.c_tree.specs.declared.place.Place.{Place, fold-Place}
use Rattle.c_seen.specs.declared.seen.Marks.{Marks}
use Rattle.c_seen.specs.declared.seen.Marks.TheVariants as marks
use Rattle.c_seen.specs.declared.seen.Meaning.{Meaning}
use Rattle.c_seen.specs.declared.seen.Need.{Need}
use Rattle.c_seen.specs.declared.seen.Need.TheVariants as needs
use Rattle.c_seen.specs.declared.seen.Seen.{Seen}
use Rattle.c_seen.specs.declared.seen.Seen.TheVariants as seen
use Rattle.c_seen.specs.declared.seen.Wanted.{Wanted}
use Rattle.c_seen.specs.Meanings.{Names, meaning, called_by, wanted_at, need_of}

-- what is seen in an expression: its first token; its value where it is an integer, after any `+`; the
-- relational constant that it is, if it is one; and all that is seen
pub record Look : Type 0 where
  pub at : At
  pub integer : Option ℤ
  pub constant : List Seen
  pub sees : Names → Need → List Seen

-- the same of what stands in the brackets, where the constant is by the first token of it
pub record Inner : Type 0 where
  pub integer : Option ℤ
  pub constant : At → List Seen
  pub sees : Names → Need → List Seen

abbrev pub Placed : Type 0
Placed = Names → Bool → Need → List Seen

abbrev pub Argued : Type 0
Argued = Names → Wanted → List Seen

abbrev pub Calling : Type 0
Calling = Names → Need → List Seen

-- an expression that is neither a place nor a call is no view
abbrev pub no_view : Need → List Seen
no_view needs.Number = []
no_view needs.Target = []
no_view (needs.View view first) = seen.NoView first ∷ []
no_view needs.Nothing = []

abbrev pub is_relation : BinaryMark → Bool
is_relation binary.Eq = true
is_relation binary.Ne = true
is_relation binary.Lt = true
is_relation binary.Le = true
is_relation binary.Gt = true
is_relation binary.Ge = true
is_relation _ = false

abbrev pub opposite : Option ℤ → At → List Seen
opposite None at = []
opposite (Some value) at = if int_eq value (negsuc 2147483647) then [] else seen.Constant at (neg_ℤ value) ∷ []

abbrev pub signed_integer : UnaryMark → Look → Option ℤ
signed_integer unary.Plus part = part.integer
signed_integer unary.Minus part = None
signed_integer unary.Not part = None
signed_integer unary.Invert part = None

abbrev pub signed_constant : UnaryMark → Look → At → List Seen
signed_constant unary.Plus part at = part.constant
signed_constant unary.Minus part at = opposite part.integer at
signed_constant unary.Not part at = []
signed_constant unary.Invert part at = []

-- the operands of a relation may be relational constants
abbrev pub constants_in : BinaryMark → List Seen → List Seen → List Seen
constants_in mark left right = if is_relation mark then left ++ right else []

abbrev pub placed : Named → Marks → Names → Bool → Need → Seen
placed name marks names ampersand need =
    seen.Place (record { at = name.at; marks = marks; ampersand = ampersand; meaning = meaning names name.name; need = need })

-- arguments, by what is seen in each, from the one at this place on
abbrev pub argued_from : List Argued → Names → Option Meaning → ℕ → List Seen
argued_from [] names callee place = []
argued_from (argument ∷ rest) names callee place = argument names (wanted_at names.items callee place) ++ argued_from rest names callee (place + 1)

abbrev pub of_argument : node.Arg-F Argued Inner Placed Calling Look → Argued
of_argument (node.Value value) = λ names wanted. value.sees names (need_of wanted value.at)
of_argument (node.Address at place) = λ names wanted. place names true (need_of wanted at)

abbrev pub of_kind : node.ExprKind-F Argued Inner Placed Calling Look → Inner
of_kind (node.Int value) = record { integer = Some value; constant = λ at. seen.Constant at value ∷ []; sees = λ names need. no_view need }
of_kind (node.Read place) = record { integer = None; constant = λ at. []; sees = λ names need. place names false need }
of_kind (node.ReadOverflow word_at) = record { integer = None; constant = λ at. []; sees = λ names need. no_view need }
of_kind (node.Unary mark mark_at part) =
    record { integer = signed_integer mark part; constant = signed_constant mark part; sees = λ names need. no_view need ++ part.sees names needs.Number }
of_kind (node.Binary mark mark_at left right) =
    record { integer = None; constant = λ at. []; sees = λ names need. no_view need ++ (left.sees names needs.Number ++ (constants_in mark left.constant right.constant ++ right.sees names needs.Number)) }
of_kind (node.Cast width part) = record { integer = None; constant = λ at. []; sees = λ names need. no_view need ++ part.sees names needs.Number }
of_kind (node.Choose cond one other) =
    record { integer = None; constant = λ at. []; sees = λ names need. no_view need ++ (cond.sees names needs.Number ++ (one.sees names needs.Number ++ other.sees names needs.Number)) }
of_kind (node.Call call) = record { integer = None; constant = λ at. []; sees = call }

abbrev pub of_place : node.Place-F Argued Inner Placed Calling Look → Placed
of_place (node.Plain name) = λ names ampersand need. placed name marks.None names ampersand need ∷ []
of_place (node.Index name mark_at index) = λ names ampersand need. placed name (marks.Once mark_at) names ampersand need ∷ index.sees names needs.Number
of_place (node.Index2 name first_at first second_at second) =
    λ names ampersand need. placed name (marks.Twice first_at) names ampersand need ∷ (first.sees names needs.Number ++ second.sees names needs.Number)
of_place (node.Deref star_at name) = λ names ampersand need. placed name (marks.Star star_at) names ampersand need ∷ []

abbrev pub of_call : node.Call-F Argued Inner Placed Calling Look → Calling
of_call call = λ names need. seen.Call (record { at = call.name.at; called = called_by names call.name.name; arguments = length call.args; need = need }) ∷ argued_from call.args names (meaning names call.name.name) 0

abbrev pub of_expression : node.Expr-F Argued Inner Placed Calling Look → Look
of_expression e = record { at = e.at; integer = e.kind.integer; constant = e.kind.constant e.at; sees = e.kind.sees }

abbrev pub look_of : Expr → Look
look_of = fold-Expr Argued Inner Placed Calling Look of_argument of_kind of_place of_call of_expression

abbrev pub inner_of : ExprKind → Inner
inner_of = fold-ExprKind Argued Inner Placed Calling Look of_argument of_kind of_place of_call of_expression

-- what is seen in an expression, by what is needed there
unfoldable pub seen_in_expression : Expr → Names → Need → List Seen
seen_in_expression e = (look_of e).sees

-- the same of what stands in its brackets
unfoldable pub seen_in_kind : ExprKind → Names → Need → List Seen
seen_in_kind kind = (inner_of kind).sees

-- the relational constant that it is where it is an operand of a relation, and its first token is this
unfoldable pub constant_of_kind : ExprKind → At → List Seen
constant_of_kind kind = (inner_of kind).constant

-- the integer that it is, after none or more `+`
unfoldable pub integer_of_kind : ExprKind → Option ℤ
integer_of_kind kind = (inner_of kind).integer

unfoldable pub seen_in_place : Place → Names → Bool → Need → List Seen
seen_in_place = fold-Place Argued Inner Placed Calling Look of_argument of_kind of_place of_call of_expression

unfoldable pub seen_in_call : Call → Names → Need → List Seen
seen_in_call = fold-Call Argued Inner Placed Calling Look of_argument of_kind of_place of_call of_expression

unfoldable pub seen_in_argument : Arg → Names → Wanted → List Seen
seen_in_argument = fold-Arg Argued Inner Placed Calling Look of_argument of_kind of_place of_call of_expression

-- what is seen in arguments, from the one at this place on
abbrev pub arguments_from : List Arg → Names → Option Meaning → ℕ → List Seen
arguments_from [] names callee place = []
arguments_from (argument ∷ rest) names callee place = seen_in_argument argument names (wanted_at names.items callee place) ++ arguments_from rest names callee (place + 1)
