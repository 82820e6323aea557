-- What it means that expressions and their parts are read rightly with one limit.
use Rattle.std.specs.Prelude.{ℕ, List, [], ◌∷◌}
use Rattle.sat_base.specs.declared.name.At.{At}
use Rattle.sat_base.specs.declared.name.Named.{Named}
use Rattle.sat_base.specs.declared.width.Width.{Width}
use Rattle.c_tree.specs.declared.call.Arg.{Arg}
use Rattle.c_tree.specs.declared.expression.Expr.{Expr}
use Rattle.c_tree.specs.declared.place.Place.{Place}
use Rattle.c_grammar.specs.declared.symbol.Symbol.TheVariants.{OpenParen, CloseParen, OpenBracket, CloseBracket}
use Rattle.c_grammar.specs.Nodes as a
use Rattle.c_grammar.specs.Parts.{Called, node, word, kept, Is}
use Rattle.c_grammar.specs.Spots.{Spot}
use Rattle.right_reading.specs.ReadExpressions.{type_at, expression_at, indices_at, place_at, argument_at, arguments_at, index_by}
use Rattle.right_reading.specs.Right.{Ends, Right, Reads, always}
use Rattle.right_reading.specs.Stops.{stops_place, stops_expression, stops_arg, no_int}

pub record RightExpressions (n : ℕ) : Type 0 where
  pub type_ : Reads (λ (x : At × Width). node (a.type_ x.0 x.1) ∷ []) n (λ x s. no_int s) type_at
  pub expression : Reads (λ (e : Expr). node (a.expr e) ∷ []) n stops_expression (expression_at n)
  -- an index in its square brackets
  pub index : Reads (λ (x : At × Expr). kept OpenBracket x.0 ∷ node (a.expr x.1) ∷ word CloseBracket ∷ []) n always (index_by (expression_at n))
  pub place : Reads (λ (p : Place). node (a.place p) ∷ []) n stops_place (place_at n)
  -- the place that begins with a name, which was read already
  pub indices : (t : Spot) (name : Named) → Is (Called name) t → (i : List Spot) → Ends i → Right (λ (p : Place). node (a.named p) ∷ []) n stops_place (t ∷ []) i (indices_at n name i)
  pub argument : Reads (λ (x : Arg). node (a.arg x) ∷ []) n stops_arg (argument_at n)
  -- the arguments in their brackets
  pub arguments : Reads (λ (args : List Arg). word OpenParen ∷ node (a.args args) ∷ word CloseParen ∷ []) n always (arguments_at n)
