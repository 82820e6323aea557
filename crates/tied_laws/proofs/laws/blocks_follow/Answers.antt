use Rattle.std.proofs.Common.{[], map, refl, ap, ◌∙◌}
use Rattle.c_types.specs.Sources.{opening}
use Rattle.c_types.specs.Tied.{notes_of}
use Rattle.tied_names.specs.Numbers.{token_of, exposed_in}
use Rattle.tied_laws.proofs.Sources.{all_follow, after-all}
use Rattle.tied_laws.proofs.laws.blocks_follow.Goals as goal

pub returns : goal.returns
returns c = λ program typed tied. ap all_follow tied.functions ∙ after-all (opening program.items (map token_of typed.sites) (exposed_in [] (notes_of program))) 0 program.items refl
