-- What the words of a site begin with, and the registers of those after that.
use Rattle.std.proofs.Common.{Bool, true, false, inl, inr, if◌then◌else◌, ◌||◌, ◌==◌, List, [], refl}
use Rattle.rv_encode.specs.declared.instruction.Instr.{Instr}
use Rattle.template_runs.specs.declared.registers.Registers.{Registers}
use Rattle.template_runs.specs.Renaming.{AreInRange, IsOperandPlace}
use Rattle.operator_lowering.specs.Template.{ArePlaces}
use Rattle.operator_lowering.specs.declared.way.Way.{Way}
use Rattle.operator_lowering.specs.declared.way.Way.TheVariants.{Straight, Moves, KeepsFirst, KeepsThird, KeepsBoth, Turns}
use Rattle.operator_lowering.specs.Words.{copy, front, keeps_first, places, turns}

-- what holds of both holds of the one that a test takes
pub either : {X : Type 0} (P : X → Type 0) (test : Bool) {x y : X} → P x → P y → P (if test then x else y)
either P true one other = one
either P false one other = other

-- what holds of no words and of each copy that a way may begin with holds of all that it begins with
module _ (P : List Instr → Type 0) (none : P []) (regs : Registers) (to_result : P (copy regs.result regs.first)) (first : P (copy 28 regs.first)) (third : P (copy 28 regs.third)) (result : P (copy 28 regs.result)) where
  pub front_is : (way : Way) → P (front way regs)
  front_is Straight = none
  front_is Moves = either P (regs.result == regs.first) none to_result
  front_is KeepsFirst = either P (keeps_first regs) first none
  front_is KeepsThird = either P (regs.result == regs.third) third none
  front_is KeepsBoth = either P ((regs.result == regs.first) || (regs.result == regs.second)) result none
  front_is Turns = either P (turns regs) none (either P (keeps_first regs) first none)

-- the registers after that are those of the site, or x28
module _ (regs : Registers) (own : ArePlaces regs) where
  abbrev as_they_are : AreInRange regs
  as_they_are = record { result = own.result; first = inl own.first; second = inl own.second; third = inl own.third }

  abbrev first_kept : AreInRange (record regs { first = 28 })
  first_kept = record { result = own.result; first = inr refl; second = inl own.second; third = inl own.third }

  pub places_in_range : (way : Way) → AreInRange (places way regs)
  places_in_range Straight = as_they_are
  places_in_range Moves = record { result = own.result; first = inl own.result; second = inl own.second; third = inl own.third }
  places_in_range KeepsFirst = either AreInRange (keeps_first regs) first_kept as_they_are
  places_in_range KeepsThird =
      either AreInRange (regs.result == regs.third) (record { result = own.result; first = inl own.first; second = inl own.second; third = inr refl }) as_they_are
  places_in_range KeepsBoth = record {
    result = own.result;
    first = either IsOperandPlace (regs.result == regs.first) (inr refl) (inl own.first);
    second = either IsOperandPlace (regs.result == regs.second) (inr refl) (inl own.second);
    third = inl own.third;
  }
  places_in_range Turns =
      let turned : AreInRange (record regs { first = regs.second; second = regs.first }) = record { result = own.result; first = inl own.second; second = inl own.first; third = inl own.third } in
      either AreInRange (turns regs) turned (either AreInRange (keeps_first regs) first_kept as_they_are)
