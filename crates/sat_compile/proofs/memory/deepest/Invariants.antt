use Rattle.std.proofs.Common.{◌≡◌, ◌≤◌, take}
use Rattle.sat_compile.specs.Emission.{deepest_of}
use Rattle.sat_compile.proofs.memory.deepest.Given as goal

abbrev pub invariant-loop-expr : goal.invariant-loop-expr
invariant-loop-expr l = record {
  value : l.deepest ≡ deepest_of (take l.expr-index l.outs);
  within : l.deepest ≤ 64;
}
