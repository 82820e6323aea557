-- How faults and recursions are passed on.
use Rattle.std.specs.Prelude.{◌≡◌, ◌≢◌, ℕ, List}
use Rattle.sat_base.specs.declared.fault.Fault.{Fault}
use Rattle.sat_base.specs.declared.fault.FaultKind.TheVariants as kinds
use Rattle.sat_base.specs.declared.position.Pos.{Pos}
use Rattle.c_typed.specs.declared.typed.Typed.{Typed}
use Rattle.sat_compile.specs.declared.refusal.CompileRefusal.{CompileRefusal}
use Rattle.sat_compile.specs.declared.refusal.CompileRefusal.TheVariants.{Faulty, Recursive, Memory}
use Rattle.sat_compile.specs.Checked.{names_in}

pub data IsFaultPassed (fault : Fault) : CompileRefusal → Type 0 where
  wants_memory : fault.kind ≡ kinds.Memory → IsFaultPassed fault Memory
  faulty : fault.kind ≢ kinds.Memory → IsFaultPassed fault (Faulty fault)

abbrev pub IsRecursionPassed : Typed → Pos → List ℕ → CompileRefusal → Type 0
IsRecursionPassed typed pos cycle refusal = refusal ≡ Recursive pos (names_in typed.functions cycle)
