-- What it means that the readers of expressions and places with one limit read rightly.
use Rattle.std.proofs.Common.{◌≡◌, ℕ, List, [], ◌∷◌}
use Rattle.sat_base.specs.declared.name.Named.{Named}
use Rattle.c_tree.specs.declared.expression.Expr.{Expr}
use Rattle.c_tree.specs.declared.place.Place.{Place}
use Rattle.c_grammar.specs.declared.symbol.Symbol.TheVariants as symbol
use Rattle.c_grammar.specs.Nodes as a
use Rattle.c_grammar.specs.Parts.{Called, node, Is}
use Rattle.right_reading.specs.ReadExpressions.{Readers}
use Rattle.c_grammar.specs.Spots.{Spot}
use Rattle.right_reading.specs.Stream.{ahead}
use Rattle.right_reading.specs.Right.{Ends, Right, always, Reads}
use Rattle.right_reading.specs.Stops.{stops_place, stops_operand, stops_expression}

pub record RightReaders (n : ℕ) (r : Readers) : Type 0 where
  -- the place that begins with a name, which was read already
  pub indices : (x : Spot) (name : Named) → Is (Called name) x → (i : List Spot) → Ends i → Right (λ (p : Place). node (a.named p) ∷ []) n stops_place (x ∷ []) i (r.indices name i)
  pub named : Reads (λ (p : Place). node (a.named p) ∷ []) n stops_place r.named
  pub indirection : (i : List Spot) → Ends i → ahead i ≡ symbol.Star → Right (λ (p : Place). node (a.place p) ∷ []) n always [] i (r.indirection i)
  pub unary : Reads (λ (e : Expr). node (a.unary e) ∷ []) n stops_operand r.unary
  pub expression : Reads (λ (e : Expr). node (a.expr e) ∷ []) n stops_expression r.expression
