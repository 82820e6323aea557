use Rattle.std.proofs.Common.{arith, ◌≤◌}
use Rattle.std.proofs.lemmas.Int.{ints}
use Rattle.range_transfer.proofs.Powers.{hull, power_few}
use Rattle.range_transfer.proofs.bits.power_of_hull.Goals as goal

few : (c : goal.After-next_power_of_two) → c.next_power_of_two.result ≤ 2147483648
few c =
    let (k, power) = c.next_power_of_two.ensures.power in
    power_few k c.next_power_of_two.result c.max.result power c.next_power_of_two.ensures.upper_bound (omega (arith, c.max.ensures, c.reach.ensures.few, c.reach-2.ensures.few))

pub returns-clause-few : goal.returns-clause-few
returns-clause-few c = let h = few c in omega (arith, ints, h)

pub returns-clause-hull : goal.returns-clause-hull
returns-clause-hull c =
    let h = few c in
    let (k, power) = c.next_power_of_two.ensures.power in
    let first = c.reach.ensures in
    let second = c.reach-2.ensures in (
      k,
      hull c.args.left c.args.right c.reach.result c.reach-2.result c.max.result c.next_power_of_two.result k first.some
          first.covers first.least second.covers second.least (omega (arith, c.max.ensures)) power
          c.next_power_of_two.ensures.lower_bound c.next_power_of_two.ensures.upper_bound,
      omega (arith, ints, h, power),
    )
