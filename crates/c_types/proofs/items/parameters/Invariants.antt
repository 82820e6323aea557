use Rattle.std.proofs.Common.{◌≡◌, ◌++◌, drop}
use Rattle.tied_names.specs.Ties.{here_of}
use Rattle.c_types.specs.Sources.{parameters_of}
use Rattle.c_types.proofs.items.parameters.Given as goal

abbrev pub invariant-loop-param : goal.invariant-loop-param
invariant-loop-param l = record {
  numbers : l.numbers ++ (parameters_of (here_of l.ties) l.function (drop l.param-index l.params)).numbers ≡ (parameters_of (here_of l.fn.ties) l.function l.fn.params).numbers;
  after : (parameters_of (here_of l.ties) l.function (drop l.param-index l.params)).after ≡ (parameters_of (here_of l.fn.ties) l.function l.fn.params).after;
}
