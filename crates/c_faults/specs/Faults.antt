-- All faults of a source, and all limits that it passes.
use Rattle.std.specs.Prelude.{List, [], ◌∷◌, ◌++◌, flat_map, Option}
use Rattle.sat_base.specs.declared.fault.Fault.{Fault}
use Rattle.sat_base.specs.declared.fault.FaultKind.TheVariants as fault
use Rattle.c_tree.specs.declared.program.Program.{Program}
use Rattle.c_seen.specs.declared.seen.Seen.{Seen}
use Rattle.c_seen.specs.Sources.{seen_of}
use Rattle.c_faults.specs.declared.limits.Quantity.TheVariants as of
use Rattle.c_faults.specs.Limits.{passed, constants_passed}
use Rattle.c_faults.specs.Rows.{unknown_name, duplicate_name, argument_count, number_needed, not_an_array, not_a_function, const_written, bad_initialiser, void_value, missing_return, wrong_return, outside_a_loop, no_main, element_width, wrong_shape, bad_length, view_needed, declarations_differ, no_definition, defined_twice, main_called, pointer_use}
use Rattle.c_faults.specs.Told.{told, kept}

-- the faults of one thing seen, in the order in which they are told on one token
abbrev pub rows : Seen → List (Option Fault)
rows seen =
    told fault.UnknownName (unknown_name seen)
    ∷ told fault.DuplicateName (duplicate_name seen)
    ∷ told fault.ArgumentCount (argument_count seen)
    ∷ told fault.NumberNeeded (number_needed seen)
    ∷ told fault.NotAnArray (not_an_array seen)
    ∷ told fault.NotAFunction (not_a_function seen)
    ∷ told fault.ConstWritten (const_written seen)
    ∷ told fault.BadInitialiser (bad_initialiser seen)
    ∷ told fault.VoidValue (void_value seen)
    ∷ told fault.MissingReturn (missing_return seen)
    ∷ told fault.WrongReturn (wrong_return seen)
    ∷ told fault.OutsideALoop (outside_a_loop seen)
    ∷ told fault.NoMain (no_main seen)
    ∷ told fault.ElementWidth (element_width seen)
    ∷ told fault.WrongShape (wrong_shape seen)
    ∷ told fault.BadLength (bad_length seen)
    ∷ told fault.ViewNeeded (view_needed seen)
    ∷ told fault.DeclarationsDiffer (declarations_differ seen)
    ∷ told fault.NoDefinition (no_definition seen)
    ∷ told fault.DefinedTwice (defined_twice seen)
    ∷ told fault.MainCalled (main_called seen)
    ∷ told fault.PointerUse (pointer_use seen)
    ∷ []

abbrev pub limits : List Seen → List (Option Fault)
limits list =
    told fault.TooManyFunctions (passed of.Functions list)
    ∷ told fault.TooManyScalars (passed of.Scalars list)
    ∷ told fault.TooManyParameters (passed of.Parameters list)
    ∷ told fault.TooMuchData (passed of.Data list)
    ∷ told fault.TooManyConstants (constants_passed list)
    ∷ told fault.TooManyStatements (passed of.Statements list)
    ∷ told fault.TooManyViews (passed of.Views list)
    ∷ []

abbrev pub faults_at : Seen → List Fault
faults_at seen = kept (rows seen)

abbrev pub faults_in : List Seen → List Fault
faults_in list = flat_map faults_at list ++ kept (limits list)

-- all faults of a source, each as often as it stands, and the limits that it passes
abbrev pub faults_of : Program → List Fault
faults_of program = faults_in (seen_of program)
