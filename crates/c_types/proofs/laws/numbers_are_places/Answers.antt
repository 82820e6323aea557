use Rattle.std.proofs.Common.{map, arith}
use Rattle.std.proofs.lemmas.List.{length-map}
use Rattle.tied_names.specs.Numbers.{token_of}
use Rattle.c_types.proofs.Rising.{number-place}
use Rattle.c_types.proofs.laws.numbers_are_places.Goals as goal

pub returns : goal.returns
returns c = λ program typed tied up place within. number-place (map token_of typed.sites) up place (omega (arith, length-map typed.sites token_of, within))
