-- The code of a statement writes Overflow once for each assignment to it, and compares at most four times for each construct
-- that may compare; and so does that of a program.
use Rattle.std.proofs.Common.{ℕ, ◌+◌, ◌*◌, ℤ, pos, ◌-ℤ◌, Bool, true, false, if◌then◌else◌, List, length, refl, arith}
use Rattle.operator_meaning.specs.declared.object.Object.{Object}
use Rattle.rv_encode.specs.declared.instruction.Instr.TheVariants as instr
use Rattle.code_lines.specs.declared.word.Word.{Word}
use Rattle.ir_arena.specs.Tree.{IrTree, IrTrees, Empty, Block, If, Loop, Leave, Return, end, more}
use Rattle.code_lines.specs.Pieces.{flush_code}
use Rattle.code_memory.specs.Memory.{base_register, base}
use Rattle.code_stacks.specs.Places.{Layout}
use Rattle.expression_code.specs.Code.{weight_of}
use Rattle.condition_code.specs.Code.{condition_code}
use Rattle.statement_code.specs.Blocks.{openings_of, weight_of_openings}
use Rattle.statement_code.specs.declared.exits.Exits.{Exits}
use Rattle.statement_code.specs.Code.{Part, before, codes_along, entry_code, guarded_code, last_code, left_code, nowhere, part_of, parts_of, reach_over, simples_code, skip_code, test_code, turn_exits, turn_words, weight_of_all, whole_code}
use Rattle.program_code.specs.Code.{program_code}
use Rattle.code_counts.specs.Constructs.{constructs_in, constructs_of, overflow_writes_in, overflow_writes_of, overflow_writes_of_simples}
use Rattle.code_counts.specs.Laws.{ComparisonsAreFew, OverflowIsKept}
use Rattle.code_counts.proofs.Conditions.{condition_counted}
use Rattle.code_counts.proofs.Counted.{Counted, before_still, behind_still, joined, none, still, within}
use Rattle.code_counts.proofs.Expressions.{expression_counted}
use Rattle.code_counts.proofs.Pieces.{flush_still, number_still, past_still}
use Rattle.code_counts.proofs.Simples.{openings_counted, simple_counted}

-- wherever it leads, and whatever lags behind before it
abbrev IsCounted : Part → (writes most : ℕ) → Type 0
IsCounted part writes most = (lag : ℕ) (exits : Exits) → Counted (part.code lag exits) writes most

whole_counted : (part : Part) (writes most : ℕ) → IsCounted part writes most → (exits : Exits) → Counted (whole_code part exits) writes most
whole_counted part writes most counted exits = before_still (counted 0 (before (length (flush_code (part.after 0))) exits)) (flush_still (part.after 0))

module _ (objects : List Object) (l : Layout) (near : Bool) where
  abbrev Part_of : IrTree → Part
  Part_of = part_of objects l near

  -- what is claimed of a statement
  abbrev Holds : IrTree → Type 0
  Holds tree = IsCounted (Part_of tree) (overflow_writes_of tree) (4 * constructs_of tree)

  whole_holds : (tree : IrTree) → Holds tree → (exits : Exits) → Counted (whole_code (Part_of tree) exits) (overflow_writes_of tree) (4 * constructs_of tree)
  whole_holds tree holds exits = whole_counted (Part_of tree) (overflow_writes_of tree) (4 * constructs_of tree) holds exits

  -- ---- jumps, and what stands between parts

  left_still : (lag : ℕ) (distance : ℤ) → Counted (left_code objects l near lag distance) 0 0
  left_still lag distance = behind_still (flush_still lag) (past_still near distance)

  simples_counted : (parts : IrTrees) → Counted (simples_code objects l near parts) (overflow_writes_of_simples parts) (4 * constructs_in parts)
  simples_counted end = none
  simples_counted (more first rest) = within (joined (simple_counted objects l first) (simples_counted rest)) refl (omega arith)

  -- ---- choices

  guarded_counted : (cond : IrTree) (lag : ℕ) {guarded : List Word} {writes most : ℕ} → Counted guarded writes most
      → Counted (guarded_code objects l near cond lag guarded) writes (4 * constructs_of cond + 1 + most)
  guarded_counted cond lag {guarded} counted =
      within (joined (condition_counted objects l (reach_over objects l near (length guarded) cond false lag) 0 cond false lag (pos (length guarded))) counted) (omega arith) (omega arith)

  one_branch : (cond this : IrTree) → Holds this → Holds (If cond this end)
  one_branch cond this holds lag exits = within (guarded_counted cond lag (whole_holds this holds exits)) refl (omega arith)

  two_branches : (cond this other : IrTree) (rest : IrTrees) → Holds this → Holds other → Holds (If cond this (more other rest))
  two_branches cond this other rest holds as_well lag exits =
      let second = whole_code (Part_of other) exits in
      let inner = before (length (skip_code objects l near (length second)) + length second) exits in
      let first = before_still (whole_holds this holds inner) (left_still 0 (pos (length second))) in
      within (joined (guarded_counted cond lag first) (whole_holds other as_well exits)) refl (omega arith)

  -- ---- loops

  last_counted : (last : IrTrees) → Counted (last_code objects l near last) (overflow_writes_of_simples last) (4 * constructs_in last)
  last_counted last = before_still (simples_counted last) (flush_still (weight_of_all last))

  test_counted : (words : ℕ) (cond : IrTrees) → Counted (test_code objects l near words cond) 0 (4 * constructs_in cond + 1)
  test_counted words end = within (left_still 0 (pos 0 -ℤ pos (words + length (left_code objects l near 0 (pos 0))))) refl (omega arith)
  test_counted words (more cond rest) =
      let back = pos 0 -ℤ pos (words + length (condition_code objects l (reach_over objects l near words cond true 0) 0 cond true 0 (pos 0))) in
      within (condition_counted objects l (reach_over objects l near words cond true 0) 0 cond true 0 back) refl (omega arith)

  entry_still : (tests_first : Bool) (words : ℕ) → Counted (entry_code objects l near tests_first words) 0 0
  entry_still true words = left_still 0 (pos words)
  entry_still false words = none

  loop_holds : (cut : ℕ) (tests_first : Bool) (first cond last : IrTrees) (body : IrTree) → Holds body → Holds (Loop cut tests_first first cond last body)
  loop_holds cut tests_first first cond last body holds lag exits =
      let words = turn_words objects l near (Part_of body) last in
      let inner = turn_exits objects l near (length (last_code objects l near last)) (length (test_code objects l near words cond)) exits in
      let turn = joined (whole_holds body holds inner) (joined (last_counted last) (test_counted words cond)) in
      let turns = behind_still (flush_still (lag + weight_of_all first)) (behind_still (entry_still tests_first words) turn) in
      within (joined (simples_counted first) turns) (omega arith) (omega arith)

  -- ---- what returns

  return_holds : (value : IrTrees) → Holds (Return value)
  return_holds end lag exits = left_still lag exits.returned
  return_holds (more value rest) lag exits = within (before_still (expression_counted objects l value 0) (left_still (lag + weight_of value) exits.returned)) refl (omega arith)

  -- ---- the whole

  mutual
    pub statement_holds : (tree : IrTree) → Holds tree
    statement_holds Empty lag exits = none
    statement_holds (Block first count starts parts) lag exits =
        let openings = openings_of count first starts in
        within (joined (openings_counted objects l count first starts) (statements_hold parts (lag + weight_of_openings openings) exits)) (omega arith) (omega arith)
    statement_holds (If cond this end) lag exits = one_branch cond this (statement_holds this) lag exits
    statement_holds (If cond this (more other rest)) lag exits = two_branches cond this other rest (statement_holds this) (statement_holds other) lag exits
    statement_holds (Loop cut tests_first first cond last body) lag exits = loop_holds cut tests_first first cond last body (statement_holds body) lag exits
    statement_holds (Leave again) lag exits = left_still lag (if again then exits.again else exits.left)
    statement_holds (Return value) lag exits = return_holds value lag exits
    statement_holds simple lag exits = simple_counted objects l simple

    statements_hold : (trees : IrTrees) (lag : ℕ) (exits : Exits) → Counted (codes_along (parts_of objects l near trees) lag exits) (overflow_writes_in trees) (4 * constructs_in trees)
    statements_hold end lag exits = none
    statements_hold (more first rest) lag exits =
        let late = (Part_of first).after lag in
        let inner = before (length (codes_along (parts_of objects l near rest) late exits)) exits in
        within (joined (statement_holds first lag inner) (statements_hold rest late exits)) refl (omega arith)

  pub program_counted : (body : IrTree) → Counted (program_code objects l near body) (overflow_writes_of body) (4 * constructs_of body)
  program_counted body =
      let ends = behind_still (still (instr.Addi 17 0 (pos 4)) refl refl) (still instr.Ecall refl refl) in
      behind_still (number_still base_register base refl) (before_still (whole_holds body (statement_holds body) nowhere) ends)

pub overflow_is_kept : OverflowIsKept
overflow_is_kept objects l near body = (program_counted objects l near body).written

pub comparisons_are_few : ComparisonsAreFew
comparisons_are_few objects l near body = let counted = program_counted objects l near body in omega (arith, counted.few)
