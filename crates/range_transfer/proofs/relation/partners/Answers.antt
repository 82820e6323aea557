use Rattle.std.proofs.Common.{arith}
use Rattle.std.proofs.lemmas.Int.{ints}
use Rattle.range_core.specs.declared.range.Range.TheVariants.{Span}
use Rattle.range_transfer.proofs.Least.{partners_lt, partners_le, partners_gt, partners_ge, partners_eq, partners_ne_all, partners_ne_one}
use Rattle.range_transfer.proofs.relation.partners.Goals as goal

pub returns-in-Lt-clause-least : goal.returns-in-Lt-clause-least
returns-in-Lt-clause-least c =
    let other = rw c.in-Span.is at c.requires.other in
    rw (c.in-Lt.is, c.in-Span.is) (partners_lt c.args.own c.up_to.result c.in-Span.lo c.in-Span.hi _ other.0 c.up_to.ensures.values (omega (arith, ints, other.1, other.2)))

pub returns-in-Le-clause-least : goal.returns-in-Le-clause-least
returns-in-Le-clause-least c =
    let other = rw c.in-Span.is at c.requires.other in
    rw (c.in-Le.is, c.in-Span.is) (partners_le c.args.own c.up_to-in-Le.result c.in-Span.lo c.in-Span.hi _ other.0 c.up_to-in-Le.ensures.values (omega (arith, ints, other.1, other.2)))

pub returns-in-Gt-clause-least : goal.returns-in-Gt-clause-least
returns-in-Gt-clause-least c =
    let other = rw c.in-Span.is at c.requires.other in
    rw (c.in-Gt.is, c.in-Span.is) (partners_gt c.args.own c.from.result c.in-Span.lo c.in-Span.hi _ other.0 c.from.ensures.values (omega (arith, ints, other.1, other.2)))

pub returns-in-Ge-clause-least : goal.returns-in-Ge-clause-least
returns-in-Ge-clause-least c =
    let other = rw c.in-Span.is at c.requires.other in
    rw (c.in-Ge.is, c.in-Span.is) (partners_ge c.args.own c.from-in-Ge.result c.in-Span.lo c.in-Span.hi _ other.0 c.from-in-Ge.ensures.values (omega (arith, ints, other.1, other.2)))

pub returns-in-Eq-clause-least : goal.returns-in-Eq-clause-least
returns-in-Eq-clause-least c = rw (c.in-Eq.is, c.in-Span.is) (partners_eq c.args.own (Span c.in-Span.lo c.in-Span.hi) c.meet.result c.meet.ensures.common)

pub returns-in-Ne-clause-least : goal.returns-in-Ne-clause-least
returns-in-Ne-clause-least c =
    let other = rw c.in-Span.is at c.requires.other in
    rw (c.in-Ne.is, c.in-Span.is) (partners_ne_all c.args.own c.in-Span.lo c.in-Span.hi (omega (arith, ints, other.1, other.2)))

pub returns-in-Ne-2-clause-least : goal.returns-in-Ne-2-clause-least
returns-in-Ne-2-clause-least c =
    let other = rw c.in-Span.is at c.requires.other in
    rw (c.in-Ne-2.is, c.in-Span.is) (partners_ne_one c.args.own c.without.result c.in-Span.lo c.in-Span.hi _ other.0 (omega (arith, ints, other.1, other.2)) c.without.ensures.least (omega (arith, ints, other.1)))
