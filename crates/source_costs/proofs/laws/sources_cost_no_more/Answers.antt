use Rattle.std.proofs.Common.{[], map, ap, arith}
use Rattle.c_types.specs.Sources.{opening}
use Rattle.c_types.specs.Tied.{notes_of}
use Rattle.tied_names.specs.Numbers.{token_of, exposed_in}
use Rattle.source_costs.proofs.Sources.{all_costs, items_cost}
use Rattle.source_costs.proofs.laws.sources_cost_no_more.Goals as goal

pub returns : goal.returns
returns c = λ program typed tied trees cuts.
    omega (arith, ap (all_costs trees cuts 0) tied.functions, items_cost trees cuts (opening program.items (map token_of typed.sites) (exposed_in [] (notes_of program))) 0 program.items)
