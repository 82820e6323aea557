-- A source whose names are tied, and the fault that is told of a source that has one.
use Rattle.std.specs.Prelude.{◌≡◌, ℕ, List, [], map, Some, None, ◌⊎◌}
use Rattle.std.specs.List.Sorted.{IsPermutation, IsNonDecreasingBy, IsStableByKey}
use Rattle.std.specs.Ordering.{nat_cmp}
use Rattle.sat_base.specs.declared.fault.Fault.{Fault}
use Rattle.sat_base.specs.declared.fault.FaultKind.TheVariants.{Memory}
use Rattle.c_tree.specs.declared.program.Program.{Program}
use Rattle.c_typed.specs.declared.typed.Typed.{Typed}
use Rattle.c_seen.specs.Sources.{seen_of}
use Rattle.c_faults.specs.Faults.{faults_of}
use Rattle.c_faults.specs.Told.{first_of}
use Rattle.tied_names.specs.declared.note.Note.{Note}
use Rattle.tied_names.specs.Numbers.{sites_in, token_of, exposed_in}
use Rattle.c_types.specs.declared.tying.Parts.{Parts}
use Rattle.c_types.specs.Constants.{constants_of}
use Rattle.c_types.specs.Sources.{Source, tied_source}

-- what is noted in a source: its sites, and the scalars to which `&` is applied. The numbers of its sites change
-- nothing of that, so here they have none.
abbrev pub notes_of : Program → List Note
notes_of program = (tied_source program.items [] []).notes

-- a source whose sites have these tokens
abbrev pub source_with : Program → List ℕ → Source
source_with program tokens = tied_source program.items tokens (exposed_in [] (notes_of program))

-- The sites stand in the order of their tokens, and have their numbers by it; sites of one token, which no source has,
-- would stand in the order of the tree. All else follows from the tree and from these numbers.
pub record IsTied (program : Program) (typed : Typed) : Type 0 where
  pub sites : IsPermutation (sites_in (notes_of program)) typed.sites
  pub in_order : IsNonDecreasingBy token_of typed.sites
  pub stable : IsStableByKey token_of nat_cmp (sites_in (notes_of program)) typed.sites
  pub objects : typed.objects ≡ (source_with program (map token_of typed.sites)).here.objects
  pub functions : typed.functions ≡ (source_with program (map token_of typed.sites)).functions
  pub constants : typed.constants ≡ constants_of (seen_of program)
  pub weights : typed.weights ≡ 1

-- a source is tied exactly where it has no fault and passes no limit
pub record IsTyped (program : Program) (typed : Typed) : Type 0 where
  pub faultless : first_of (faults_of program) ≡ None
  pub tied : IsTied program typed

-- want of memory, which has no place
abbrev pub out_of_memory : Fault
out_of_memory = record { kind = Memory; tok = 0; pos = record { line = 1; col = 1 } }

-- it is the first of the faults that the source has, or want of memory
abbrev pub IsRefused : Program → Fault → Type 0
IsRefused program fault = (first_of (faults_of program) ≡ Some fault) ⊎ (fault ≡ out_of_memory)

-- the objects, functions and notes of a source
pub record AreParts (parts : Parts) (s : Source) : Type 0 where
  pub objects : parts.objects ≡ s.here.objects
  pub functions : parts.functions ≡ s.functions
  pub notes : parts.notes.items ≡ s.notes
