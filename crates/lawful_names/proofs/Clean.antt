-- What it means of one thing seen that it has no fault: each row of the table of faults tells none.
use Rattle.std.proofs.Common.{◌≡◌, List, [], ◌∷◌, Bool, true, false, refl}
use Rattle.std.specs.Prelude.{Option, Some, None, not}
use Rattle.sat_base.specs.declared.fault.Fault.{Fault}
use Rattle.sat_base.specs.declared.fault.FaultKind.{FaultKind}
use Rattle.sat_base.specs.declared.fault.FaultKind.TheVariants as fault
use Rattle.sat_base.specs.declared.name.At.{At}
use Rattle.c_seen.specs.declared.seen.Seen.{Seen}
use Rattle.c_seen.specs.Sources.{is_empty}
use Rattle.c_faults.specs.Faults.{rows, faults_at}
use Rattle.c_faults.specs.Rows.{at_if, unknown_name, duplicate_name, argument_count, number_needed, not_an_array, not_a_function, const_written, bad_initialiser, void_value, element_width, wrong_shape, bad_length, view_needed, declarations_differ, no_definition, defined_twice, main_called, pointer_use, no_main}
use Rattle.c_faults.specs.Told.{told, kept}

pub never : {A : Type 0} (x : A) → Some x ≡ None → ⊥
never x p = cc

-- what no fault is told of holds
pub true-by : (is : Bool) (at : At) → at_if (not is) at ≡ None → is ≡ true
true-by true at p = refl
true-by false at p = absurd (never at p)

-- the rows that names and objects need
pub record Clean (s : Seen) : Type 0 where
  pub unknown : unknown_name s ≡ None
  pub duplicate : duplicate_name s ≡ None
  pub count : argument_count s ≡ None
  pub number : number_needed s ≡ None
  pub array : not_an_array s ≡ None
  pub function : not_a_function s ≡ None
  pub const : const_written s ≡ None
  pub initialiser : bad_initialiser s ≡ None
  pub value : void_value s ≡ None
  pub main : no_main s ≡ None
  pub width : element_width s ≡ None
  pub shape : wrong_shape s ≡ None
  pub length : bad_length s ≡ None
  pub view : view_needed s ≡ None
  pub differs : declarations_differ s ≡ None
  pub definition : no_definition s ≡ None
  pub second : defined_twice s ≡ None
  pub calls_main : main_called s ≡ None
  pub pointer : pointer_use s ≡ None

abbrev pub AllNone : List (Option Fault) → Type 0
AllNone [] = Unit {0}
AllNone (one ∷ rest) = (one ≡ None) × AllNone rest

pub none-kept : (list : List (Option Fault)) → kept list ≡ [] → AllNone list
none-kept [] p = tt
none-kept (None ∷ rest) p = (refl, none-kept rest p)
none-kept (Some fault ∷ rest) p = let absent : ⊥ = cc in absurd absent

pub untold : (kind : FaultKind) (at : Option At) → told kind at ≡ None → at ≡ None
untold kind None p = refl
untold kind (Some at) p = cc

pub clean : (s : Seen) → faults_at s ≡ [] → Clean s
clean s p =
    let all : AllNone (rows s) = none-kept (rows s) p in record {
      unknown = untold fault.UnknownName _ all.0;
      duplicate = untold fault.DuplicateName _ all.1.0;
      count = untold fault.ArgumentCount _ all.1.1.0;
      number = untold fault.NumberNeeded _ all.1.1.1.0;
      array = untold fault.NotAnArray _ all.1.1.1.1.0;
      function = untold fault.NotAFunction _ all.1.1.1.1.1.0;
      const = untold fault.ConstWritten _ all.1.1.1.1.1.1.0;
      initialiser = untold fault.BadInitialiser _ all.1.1.1.1.1.1.1.0;
      value = untold fault.VoidValue _ all.1.1.1.1.1.1.1.1.0;
      main = untold fault.NoMain _ all.1.1.1.1.1.1.1.1.1.1.1.1.0;
      width = untold fault.ElementWidth _ all.1.1.1.1.1.1.1.1.1.1.1.1.1.0;
      shape = untold fault.WrongShape _ all.1.1.1.1.1.1.1.1.1.1.1.1.1.1.0;
      length = untold fault.BadLength _ all.1.1.1.1.1.1.1.1.1.1.1.1.1.1.1.0;
      view = untold fault.ViewNeeded _ all.1.1.1.1.1.1.1.1.1.1.1.1.1.1.1.1.0;
      differs = untold fault.DeclarationsDiffer _ all.1.1.1.1.1.1.1.1.1.1.1.1.1.1.1.1.1.0;
      definition = untold fault.NoDefinition _ all.1.1.1.1.1.1.1.1.1.1.1.1.1.1.1.1.1.1.0;
      second = untold fault.DefinedTwice _ all.1.1.1.1.1.1.1.1.1.1.1.1.1.1.1.1.1.1.1.0;
      calls_main = untold fault.MainCalled _ all.1.1.1.1.1.1.1.1.1.1.1.1.1.1.1.1.1.1.1.1.0;
      pointer = untold fault.PointerUse _ all.1.1.1.1.1.1.1.1.1.1.1.1.1.1.1.1.1.1.1.1.1.0;
    }

empty : {A : Type 0} (list : List A) → is_empty list ≡ true → list ≡ []
empty [] p = refl
empty (x ∷ xs) p = cc

-- a test of it
pub is_clean : Seen → Bool
is_clean s = is_empty (faults_at s)

pub when-clean : (s : Seen) → is_clean s ≡ true → Clean s
unfolding is_clean
when-clean s p = clean s (empty (faults_at s) p)

pub clean-where : (s : Seen) → faults_at s ≡ [] → is_clean s ≡ true
unfolding is_clean
clean-where s p = rw p refl
