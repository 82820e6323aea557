use Rattle.std.proofs.Common.{All, ◌∙◌, sym, subst}
use Rattle.image_format.specs.Readable.{IsWord, IsByte}
use Rattle.sat_compile.specs.Emission.{HasPlace}
use Rattle.sat_compile.proofs.emit.image_of.Goals as goal

pub returns-clause-numbers : goal.returns-clause-numbers
returns-clause-numbers c = record {
  words = subst (All IsWord) (c.deref.ensures.value ∙ sym c.from_vec.ensures) c.words_fit.ensures;
  bytes = subst (All IsByte) (c.deref-2.ensures.value ∙ sym c.from_vec-2.ensures) c.bytes_fit.ensures;
  places = subst (All HasPlace) (c.deref-3.ensures.value ∙ sym c.from_vec-3.ensures) c.places_fit.ensures;
}
