-- Conditions of a lawful tree over scalars are such as code is emitted for, and weigh no more than their words may cost.
use Rattle.std.proofs.Common.{◌≡◌, ◌≤◌, true, arith}
use Rattle.std.specs.Prelude.{None}
use Rattle.std.proofs.lemmas.Bool.{and_from}
use Rattle.c_tree.specs.declared.expression.BinaryMark.TheVariants as binary
use Rattle.c_typed.specs.declared.typed.Typed.{Typed}
use Rattle.ir_arena.specs.Costs.{cost_of}
use Rattle.ir_arena.specs.Tree.{IrTree, Not, Binary}
use Rattle.lawful_ir.specs.Positions.{plainly}
use Rattle.lawful_ir.specs.Walk.{stands}
use Rattle.code_stacks.specs.Places.{Layout}
use Rattle.condition_code.specs.Laws.{is_condition, weight_of_condition}
use Rattle.lawful_programs.proofs.Expressions.{IsFor, operands_there, straight}
use Rattle.lawful_programs.proofs.Plain.{IsPlain, first_part, only_part, second_part, tree}
use Rattle.lawful_programs.proofs.Standing.{Stand, within}

module _ (tables : Typed) (l : Layout) (for : IsFor tables l) where
  pub record IsDecided (e : IrTree) : Type 0 where
    pub is : is_condition l e ≡ true
    pub light : weight_of_condition e ≤ cost_of e

  mutual
    pub condition : (e : IrTree) → Stand tables (stands tables e plainly) → IsPlain e → IsDecided e
    condition (Not part) stand plain =
        let is = condition part (within tables None None None (stands tables part plainly) stand) (only_part (tree part) _ plain (omega arith)) in record { is = is.is; light = omega (arith, is.light) }
    condition (Binary binary.Both one other) stand plain =
        let here = operands_there tables l for binary.Both one other None None stand in
        let first = condition one here.1 (first_part (tree one) (tree other) _ plain (omega arith)) in
        let second = condition other here.2 (second_part (tree one) (tree other) _ plain (omega arith)) in
        record { is = and_from (is_condition l one) (is_condition l other) first.is second.is; light = omega (arith, first.light, second.light) }
    condition (Binary binary.Either one other) stand plain =
        let here = operands_there tables l for binary.Either one other None None stand in
        let first = condition one here.1 (first_part (tree one) (tree other) _ plain (omega arith)) in
        let second = condition other here.2 (second_part (tree one) (tree other) _ plain (omega arith)) in
        record { is = and_from (is_condition l one) (is_condition l other) first.is second.is; light = omega (arith, first.light, second.light) }
    condition e stand plain = let is = straight tables l for e None None stand plain in record { is = is.is; light = is.light }
