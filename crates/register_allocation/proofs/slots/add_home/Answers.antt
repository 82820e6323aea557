use Rattle.register_allocation.proofs.Lists.{home-added}
use Rattle.register_allocation.proofs.slots.add_home.Goals as goal

pub returns-in_ok-push-clause-home : goal.returns-in_ok-push-clause-home
returns-in_ok-push-clause-home c =
    home-added c.args.lists.now c.args.function c.args.home c.push.new.self c.index-lists-at.result c.if-at-lists.true c.in_ok-push.ensures.ok
