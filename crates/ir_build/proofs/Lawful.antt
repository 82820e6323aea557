-- The tree of a lawful source is lawful: each line is a law of its own.
use Rattle.std.specs.Prelude.{ℕ, List}
use Rattle.c_typed.specs.declared.typed.Typed.{Typed}
use Rattle.call_structure.specs.Orders.{IsCallersFirst}
use Rattle.ir_arena.specs.declared.ir.Ir.{Ir}
use Rattle.lawful_sources.specs.Lawful.{IsLawful}
use Rattle.lawful_ir.specs.Built.{IsTreeOf}
use Rattle.lawful_ir.specs.Lawful.{IsLawfulTree}
use Rattle.ir_definitions.proofs.Lines.{functions-are-few, statements-are-few, exposed-are-given, sites-stand-once}
use Rattle.ir_objects.proofs.Lines.{scalars-are-few, parameters-are-few, data-are-few, views-are-few, objects-have-shapes, objects-have-functions, parameters-are-objects, objects-are-declared, objects-follow, views-are-not-static, initial-values-fit}
use Rattle.lawful_ir.proofs.Lines.{constants-are-few, sites-are-few, nodes-are-placed, arguments-fit, returns-fit, leaves-stand-in-loops, conversions-stand, sites-are-in-order, weights-are-known, cuts-stand}
use Rattle.ir_rows.proofs.Objects.{objects-exist, objects-begin, places-fit, const-is-kept, widths-agree}
use Rattle.ir_rows.proofs.Calls.{functions-exist, arguments-are-counted, values-are-given, main-is-not-called}
use Rattle.ir_mains.proofs.Mains.{has-main, main-is-main}
use Rattle.ir_endings.proofs.Functions.{functions-return, loops-numbered}
use Rattle.ir_rows.proofs.Sites.{marks-are-numbered, kinds-agree}
use Rattle.ir_mains.proofs.Constants.{constants-stand}
use Rattle.ir_endings.proofs.Calling.{calls-end}

pub trees-are-lawful : (typed : Typed) (ir : Ir) (order : List ℕ) → IsLawful typed → IsCallersFirst typed order → IsTreeOf typed ir → IsLawfulTree ir
trees-are-lawful typed ir order lawful ordered is =
    record {
      functions_are_few = functions-are-few typed ir lawful is;
      scalars_are_few = scalars-are-few typed ir lawful is;
      parameters_are_few = parameters-are-few typed ir lawful is;
      data_are_few = data-are-few typed ir lawful is;
      constants_are_few = constants-are-few typed ir lawful is;
      statements_are_few = statements-are-few typed ir lawful is;
      views_are_few = views-are-few typed ir lawful is;
      sites_are_few = sites-are-few typed ir lawful is;
      nodes_are_placed = nodes-are-placed typed ir lawful is;
      objects_exist = objects-exist typed ir lawful is;
      functions_exist = functions-exist typed ir lawful is;
      objects_have_shapes = objects-have-shapes typed ir lawful is;
      objects_have_functions = objects-have-functions typed ir lawful is;
      parameters_are_objects = parameters-are-objects typed ir lawful is;
      objects_are_declared = objects-are-declared typed ir lawful is;
      objects_follow = objects-follow typed ir lawful is;
      views_are_not_static = views-are-not-static typed ir lawful is;
      initial_values_fit = initial-values-fit typed ir lawful is;
      objects_begin = objects-begin typed ir lawful is;
      exposed_are_given = exposed-are-given typed ir lawful is;
      places_fit = places-fit typed ir lawful is;
      const_is_kept = const-is-kept typed ir lawful is;
      widths_agree = widths-agree typed ir lawful is;
      arguments_are_counted = arguments-are-counted typed ir lawful is;
      arguments_fit = arguments-fit typed ir lawful is;
      values_are_given = values-are-given typed ir lawful is;
      main_is_not_called = main-is-not-called typed ir lawful is;
      has_main = has-main typed ir lawful is;
      main_is_main = main-is-main typed ir lawful is;
      functions_return = functions-return typed ir lawful is;
      returns_fit = returns-fit typed ir lawful is;
      leaves_stand_in_loops = leaves-stand-in-loops typed ir lawful is;
      conversions_stand = conversions-stand typed ir lawful is;
      sites_are_in_order = sites-are-in-order typed ir lawful is;
      marks_are_numbered = marks-are-numbered typed ir lawful is;
      sites_stand_once = sites-stand-once typed ir lawful is;
      kinds_agree = kinds-agree typed ir lawful is;
      constants_stand = constants-stand typed ir lawful is;
      weights_are_known = weights-are-known typed ir lawful is;
      cuts_stand = cuts-stand typed ir lawful is;
      loops_are_numbered = loops-numbered typed ir lawful is;
      calls_end = calls-end typed ir lawful is order ordered;
    }
