use Rattle.std.proofs.Common.{◌+◌, take}
use Rattle.sat_compile.specs.declared.emit.TheConstants.{MOST_WORDS}
use Rattle.sat_compile.proofs.Expressions.{taken_more, words_with, sites_with, room_for_next}
use Rattle.sat_compile.proofs.emit.push_outs.Goals as goal

pub push_out-requires-clause-fits : goal.push_out-requires-clause-fits
push_out-requires-clause-fits c =
    room_for_next MOST_WORDS c.args.code.now.items c.loop-expr.code.items c.args.outs.now c.loop-expr.expr-index c.expr-item.result c.requires.fits c.loop-expr-test.true c.expr-item.is c.loop-expr.invariant.code

pub loop-expr-preserved : goal.loop-expr-preserved
loop-expr-preserved c =
    let outs = c.args.outs.now in
    let i = c.loop-expr.expr-index in
    let e = c.expr-item.result in
    let more = taken_more outs i e c.loop-expr-test.true c.expr-item.is in
    let invariant = c.loop-expr.invariant in
    record {
      code = words_with c.args.code.now.items c.loop-expr.code.items c.push_out.new.code.items (take i outs) (take (i + 1) outs) e more invariant.code c.in_ok-push_out.ensures.code;
      sites = sites_with c.args.code.now.items c.loop-expr.code.items c.args.sites.now.items c.loop-expr.sites.items c.push_out.new.sites.items (take i outs) (take (i + 1) outs) e more invariant.code invariant.sites c.in_ok-push_out.ensures.sites;
    }
