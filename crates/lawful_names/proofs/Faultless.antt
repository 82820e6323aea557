-- A source without a fault: nothing that is seen in it has one, so what stands in it passes each test that fits.
use Rattle.std.proofs.Common.{◌≡◌, [], Bool, true}
use Rattle.std.specs.Prelude.{flat_map, None}
use Rattle.std.specs.List.{list_all}
use Rattle.c_tree.specs.declared.program.Program.{Program}
use Rattle.c_typed.specs.declared.typed.Typed.{Typed}
use Rattle.operator_meaning.specs.declared.object.Object.{Object}
use Rattle.c_seen.specs.declared.seen.Kind.{Kind}
use Rattle.c_seen.specs.Sources.{seen_of}
use Rattle.c_faults.specs.Faults.{faults_at, faults_of, limits}
use Rattle.c_faults.specs.Told.{kept, first_of}
use Rattle.c_types.specs.Tied.{IsTyped}
use Rattle.lawful_sources.specs.Things.{Thing}
use Rattle.lawful_sources.specs.Lawful.{Everywhere}
use Rattle.lawful_laws.proofs.Sound.{none-right, no-fault, seen-sound}
use Rattle.lawful_names.proofs.Clean.{is_clean, when-clean, clean-where}
use Rattle.lawful_names.proofs.Declarations.{Shapes}
use Rattle.lawful_names.proofs.Fitting.{Fits}
use Rattle.lawful_names.proofs.Sources.{stands-everywhere}

pub seen-clean : (program : Program) → first_of (faults_of program) ≡ None → list_all is_clean (seen_of program) ≡ true
seen-clean program is = seen-sound is_clean clean-where program is

pub no-limit : (program : Program) → first_of (faults_of program) ≡ None → kept (limits (seen_of program)) ≡ []
no-limit program is = none-right (flat_map faults_at (seen_of program)) (kept (limits (seen_of program))) (no-fault (faults_of program) is)

-- of the kind of an object nothing is asked
abbrev pub AnyShape : Kind → Object → Type 0
AnyShape kind object = Unit {0}

pub any-shapes : Shapes AnyShape is_clean
any-shapes = record { declared = λ decl is_local function exposed p. tt; parameters = λ param function exposed. tt }

pub stands : (program : Program) (source : Typed) → IsTyped program source → (test : Thing → Bool) → Fits source program.items AnyShape is_clean test → Everywhere source test
stands program source is test fits = stands-everywhere program source AnyShape is_clean when-clean any-shapes is.tied (seen-clean program is.faultless) test fits
