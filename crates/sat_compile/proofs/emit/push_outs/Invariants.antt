use Rattle.std.proofs.Common.{◌≡◌, ◌++◌, length, map, take}
use Rattle.std.specs.List.{flat_map}
use Rattle.rv_encode.specs.Words.{encoded}
use Rattle.sat_compile.specs.Emission.{out_code, entries_from}
use Rattle.sat_compile.proofs.emit.push_outs.Given as goal

abbrev pub invariant-loop-expr : goal.invariant-loop-expr
invariant-loop-expr l = record {
  code : l.code.items ≡ l.fn.code.items ++ map encoded (flat_map out_code (take l.expr-index l.outs));
  sites : l.sites.items ≡ l.fn.sites.items ++ entries_from (length l.fn.code.items) (take l.expr-index l.outs);
}
