-- What is typed from the tokens of a text is lawful: each condition is a law.
use Rattle.std.proofs.Common.{Bool}
use Rattle.lawful_sources.specs.Lawful.{Everywhere}
use Rattle.lawful_sources.specs.Things.{Thing}
use Rattle.lawful_laws.specs.Laws.{HasOwnTokens}
use Rattle.lawful_laws.proofs.Leaving.{leaves-in-loops}
use Rattle.lawful_laws.proofs.Returning.{functions-return}
use Rattle.lawful_laws.proofs.ReturnsFit.{returns-fit}
use Rattle.lawful_laws.proofs.Sites.{tokens-rise}
use Rattle.lawful_laws.proofs.StaticViews.{not-static}
use Rattle.lawful_laws.proofs.Whole.{functions-whole}
use Rattle.lawful_names.specs.Spelled.{AllSpelled}
use Rattle.lawful_names.proofs.Begins.{begins-fit}
use Rattle.lawful_names.proofs.Clean.{is_clean}
use Rattle.lawful_names.proofs.Constants.{constants-few}
use Rattle.lawful_names.proofs.Counted.{statements-few}
use Rattle.lawful_names.proofs.Data.{data-few}
use Rattle.lawful_names.proofs.Faultless.{AnyShape, stands}
use Rattle.lawful_names.proofs.Few.{functions-few}
use Rattle.lawful_names.proofs.FewParameters.{parameters-few}
use Rattle.lawful_names.proofs.Fitting.{Fits}
use Rattle.lawful_names.proofs.Main.{has-main}
use Rattle.lawful_names.proofs.Objects.{objects-shaped}
use Rattle.lawful_names.proofs.OwnObjects.{scalars-few, views-few}
use Rattle.lawful_names.proofs.Owners.{objects-owned}
use Rattle.lawful_names.proofs.OwnNames.{names-differ}
use Rattle.lawful_names.proofs.Parameters.{parameters-stand}
use Rattle.lawful_names.proofs.Places.{const-fits, widths-fit}
use Rattle.lawful_names.proofs.Reaches.{places-fit}
use Rattle.lawful_names.proofs.Shapes.{stands-spelled}
use Rattle.lawful_names.proofs.Tests.{objects-fit, functions-fit, counts-fit, arguments-fit, values-fit, callees-fit, main-fits, conversions-fit}
use Rattle.lawful_objects.proofs.Declaring.{objects-declared, objects-follow}
use Rattle.lawful_objects.proofs.Exposed.{exposed-given}
use Rattle.lawful_objects.proofs.Initial.{initial-values-fit}
use Rattle.lawful_sites.proofs.Numbered.{are-numbered, stand-once}
use Rattle.lawful_sites.proofs.SiteKinds.{kinds-agree}
use Rattle.lawful_texts.proofs.OwnDefinitions.{definitions-differ}
use Rattle.lawful_texts.proofs.Sites.{own-tokens}
use Rattle.lawful_texts.proofs.Spelling.{texts-spelled}
use Rattle.lawful_texts.proofs.Texts.{constants-stand}
use Rattle.lawful_typed.specs.Laws.{TypedSourcesAreLawful}
use Rattle.lawful_typed.proofs.Few.{sites-few}
use Rattle.lawful_typed.proofs.Integers.{integers-fit}

pub sources-lawful : TypedSourcesAreLawful
sources-lawful program tokens typed spells numbers few is =
    let spelled : AllSpelled program = texts-spelled program tokens typed spells is in
    let own : HasOwnTokens typed = own-tokens program tokens typed spells is.tied in
    let each : (test : Thing → Bool) → Fits typed program.items AnyShape is_clean test → Everywhere typed test = stands program typed is in
    record {
      functions_are_few = functions-few program typed is;
      scalars_are_few = scalars-few program typed spelled is;
      parameters_are_few = parameters-few program typed is;
      data_are_few = data-few program typed spelled is;
      constants_are_few = constants-few program typed is;
      statements_are_few = statements-few program typed is;
      views_are_few = views-few program typed is;
      sites_are_few = sites-few program tokens typed spells few is.tied;
      objects_exist = each _ (objects-fit typed program.items AnyShape is_clean);
      functions_exist = each _ (functions-fit typed program.items AnyShape is_clean);
      functions_are_whole = functions-whole program typed is.tied;
      names_differ = names-differ program typed is;
      definitions_differ = definitions-differ program tokens typed spells is.tied;
      objects_have_shapes = objects-shaped program typed spelled is;
      objects_have_functions = objects-owned program typed is;
      parameters_are_objects = parameters-stand program typed is;
      objects_are_declared = objects-declared program typed is;
      objects_follow = objects-follow program typed is;
      views_are_not_static = not-static program typed is;
      initial_values_fit = initial-values-fit program typed spelled (integers-fit program tokens spells numbers) is;
      objects_begin = stands-spelled program typed spelled is _ (begins-fit typed program.items);
      exposed_are_given = exposed-given program typed spelled is;
      places_fit = stands-spelled program typed spelled is _ (places-fit typed program.items);
      const_is_kept = each _ (const-fits typed program.items AnyShape is_clean);
      widths_agree = each _ (widths-fit typed program.items AnyShape is_clean);
      arguments_are_counted = each _ (counts-fit typed program.items AnyShape is_clean);
      arguments_fit = each _ (arguments-fit typed program.items AnyShape is_clean);
      values_are_given = each _ (values-fit typed program.items AnyShape is_clean);
      callees_are_defined = each _ (callees-fit typed program.items AnyShape is_clean);
      main_is_not_called = each _ (main-fits typed program.items AnyShape is_clean);
      has_main = has-main program typed is;
      functions_return = functions-return program typed is;
      returns_fit = returns-fit program typed is;
      leaves_stand_in_loops = leaves-in-loops program typed is;
      conversions_stand = each _ (conversions-fit typed program.items AnyShape is_clean);
      sites_are_in_order = tokens-rise typed.sites is.tied.in_order own;
      marks_are_numbered = are-numbered program typed is own;
      sites_stand_once = stand-once program typed is;
      kinds_agree = kinds-agree program typed spelled is own;
      constants_stand = constants-stand program tokens typed spells is;
      weights_are_known = is.tied.weights;
    }
