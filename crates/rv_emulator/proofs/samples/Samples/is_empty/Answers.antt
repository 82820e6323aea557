-- Nothing is left of a list where as many are taken as it has.
use Rattle.std.proofs.Common.{◌≡◌, ◌≤◌, length, drop, sym, ap, ◌∙◌, arith, length-drop}
use Rattle.std.proofs.lemmas.List.{drop_all}
use Rattle.std.proofs.lemmas.Bool.{leb-true, le-leb}
use Rattle.rv_emulator.proofs.samples.Samples.is_empty.Goals as goal

pub returns : goal.returns
returns c =
    let samples = c.self.inside.samples.items in
    let taken = c.self.inside.taken in
    let left : drop taken samples ≡ c.args.self.now = c.self.view_is in (
      λ t. let le : length samples ≤ taken = grind (arith, leb-true) in sym left ∙ drop_all taken samples le,
      λ none. let same : length (drop taken samples) ≡ 0 = ap length (left ∙ none) in
          let le : length samples ≤ taken = omega (arith, length-drop taken samples) in grind (arith, le-leb),
    )
