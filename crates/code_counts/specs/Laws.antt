-- What the own words of a program's code write and compare.
use Rattle.std.specs.Prelude.{◌≡◌, ◌+◌, ◌*◌, ◌≤◌, Bool, List, filter, length, replicate}
use Rattle.operator_meaning.specs.declared.object.Object.{Object}
use Rattle.ir_arena.specs.Tree.{IrTree}
use Rattle.code_stacks.specs.Places.{Layout}
use Rattle.program_code.specs.Code.{program_code}
use Rattle.code_counts.specs.Constructs.{automatic_arrays, constructs_of, overflow_writes_of}
use Rattle.code_counts.specs.Own.{compares, copy_to_overflow, writes_overflow}

-- Those that write Overflow are copies to it, and are as many as the tree's assignments to it.
abbrev pub OverflowIsKept : Type 0
OverflowIsKept = (objects : List Object) (l : Layout) (near : Bool) (body : IrTree)
    → filter writes_overflow (program_code objects l near body) ≡ replicate (overflow_writes_of body) copy_to_overflow

-- At most four compare for each construct that may compare.
abbrev pub ComparisonsAreFew : Type 0
ComparisonsAreFew = (objects : List Object) (l : Layout) (near : Bool) (body : IrTree)
    → length (filter compares (program_code objects l near body)) ≤ 4 * (constructs_of body + automatic_arrays objects)
