use Rattle.std.proofs.Common.{◌*ℤ◌, ap, ◌∙◌, w32, to_z, of_z}
use Rattle.std.proofs.lemmas.Int.{to_z-of_z}
use Rattle.operator_meaning.proofs.Products.{product_fits, product_bound, product_read}
use Rattle.operator_meaning.proofs.product.product.Goals as goal

the_value : goal.returns-clause-value
the_value c =
    ap (λ p. to_z w32 (of_z w32 p)) (product_read c.args.a c.args.b c.ranges.a c.ranges.b)
    ∙ to_z-of_z w32 (c.args.a *ℤ c.args.b) (product_fits c.args.a c.args.b c.requires.first c.requires.second)

pub returns-clause-value : goal.returns-clause-value
returns-clause-value c = the_value c

pub returns-clause-bound : goal.returns-clause-bound
returns-clause-bound c = let e = the_value c in rw e (product_bound c.args.a c.args.b c.requires.first c.requires.second)
