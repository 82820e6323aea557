-- Expressions and their parts are read rightly, whatever the limit.
use Rattle.std.proofs.Common.{◌≡◌, ℕ, true, [], ◌∷◌, refl}
use Rattle.sat_base.specs.declared.name.At.{At}
use Rattle.sat_base.specs.declared.width.Width.{Width}
use Rattle.c_grammar.specs.declared.symbol.Symbol.{Symbol}
use Rattle.c_grammar.specs.declared.symbol.Symbol.TheVariants as symbol
use Rattle.c_grammar.specs.Nodes as a
use Rattle.c_grammar.specs.Parts.{node}
use Rattle.right_reading.specs.ReadExpressions.{readers, expression_at, type_at}
use Rattle.right_reading.specs.Right.{Reads}
use Rattle.right_reading.specs.Stops.{no_int}
use Rattle.right_reading.proofs.OneToken.Endings.{stricter}
use Rattle.expression_reading.specs.Laws.{ExpressionsAreRead}
use Rattle.expression_reading.proofs.Parts.Arguments.{arguments_right}
use Rattle.expression_reading.proofs.Parts.Indices.{index_right}
use Rattle.expression_reading.proofs.Parts.Places.{place_right}
use Rattle.expression_reading.proofs.ByLimit.ReadersRight.{readers_right, expression_right, arg_right}
use Rattle.expression_reading.proofs.Parts.Types.{type_right, stops_type}

looser_type : (x : At × Width) (s : Symbol) → no_int s ≡ true → stops_type x s ≡ true
looser_type x symbol.IntWord e = e
looser_type x _ e = refl

types : (n : ℕ) → Reads (λ (x : At × Width). node (a.type_ x.0 x.1) ∷ []) n (λ x s. no_int s) type_at
types n i ends = stricter (λ (x : At × Width). node (a.type_ x.0 x.1) ∷ []) n stops_type (λ x s. no_int s) [] i looser_type (type_at i) (type_right n i ends)

pub expressions_are_read : ExpressionsAreRead
expressions_are_read n = record {
  type_ = types n;
  expression = expression_right n;
  index = index_right n (expression_at n) (expression_right n);
  place = place_right n (readers_right n);
  indices = (readers_right n).indices;
  argument = arg_right n;
  arguments = arguments_right n (readers n) (readers_right n);
}
