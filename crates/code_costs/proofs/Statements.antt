-- The code of a statement has at most the words that it may cost, and so has that of a program.
use Rattle.std.proofs.Common.{ℕ, ◌+◌, ◌≤◌, ℤ, pos, ◌-ℤ◌, Bool, true, false, if◌then◌else◌, List, ◌++◌, length, length-append, arith}
use Rattle.operator_meaning.specs.declared.object.Object.{Object}
use Rattle.code_lines.specs.declared.word.Word.{Word}
use Rattle.ir_arena.specs.Costs.{cost_of, costs_of}
use Rattle.ir_arena.specs.Tree.{IrTree, IrTrees, Empty, Block, If, Loop, Leave, Return, end, more}
use Rattle.code_lines.specs.Pieces.{flush_code}
use Rattle.code_jumps.specs.Jumps.{past_code}
use Rattle.code_memory.specs.Memory.{base_register, base}
use Rattle.code_stacks.specs.Places.{Layout}
use Rattle.expression_code.specs.Code.{expression_code, weight_of}
use Rattle.simple_code.specs.Code.{simple_code}
use Rattle.condition_code.specs.Code.{condition_code}
use Rattle.statement_code.specs.Blocks.{openings_of, openings_code, weight_of_openings}
use Rattle.statement_code.specs.declared.exits.Exits.{Exits}
use Rattle.statement_code.specs.Code.{Part, before, codes_along, entry_code, first_branch, guarded_code, last_code, left_code, nowhere, part_of, parts_of, reach_over, simples_code, skip_code, test_code, turn_exits, turn_words, turns_code, weight_of_all, whole_code}
use Rattle.program_code.specs.Code.{body_code, end_code, start_code}
use Rattle.code_costs.specs.Laws.{ProgramsAreShort}
use Rattle.code_costs.proofs.Conditions.{branch_words, condition_short}
use Rattle.code_costs.proofs.Expressions.{expression_short}
use Rattle.code_costs.proofs.Pieces.{flush_short, number_short, past_short}
use Rattle.code_costs.proofs.Simples.{openings_short, simple_short}

-- wherever it leads, and whatever lags behind before it
abbrev IsShort : Part → ℕ → Type 0
IsShort part most = (lag : ℕ) (exits : Exits) → length (part.code lag exits) ≤ most

whole_short : (part : Part) (most : ℕ) → IsShort part most → (exits : Exits) → length (whole_code part exits) ≤ most + 5
whole_short part most short exits =
    let flush = flush_code (part.after 0) in
    let inner = before (length flush) exits in
    omega (arith, short 0 inner, flush_short (part.after 0), length-append (part.code 0 inner) flush)

module _ (objects : List Object) (l : Layout) (near : Bool) where
  abbrev Part_of : IrTree → Part
  Part_of = part_of objects l near

  -- ---- jumps, and what stands between parts

  left_short : (lag : ℕ) (distance : ℤ) → length (left_code objects l near lag distance) ≤ 7
  left_short lag distance = omega (arith, flush_short lag, past_short near distance, length-append (flush_code lag) (past_code near distance))

  simples_short : (parts : IrTrees) → length (simples_code objects l near parts) ≤ costs_of parts
  simples_short end = omega arith
  simples_short (more first rest) = omega (arith, simple_short objects l first, simples_short rest, length-append (simple_code objects l first) (simples_code objects l near rest))

  -- ---- choices

  guarded_short : (cond : IrTree) (lag : ℕ) (guarded : List Word) → length (guarded_code objects l near cond lag guarded) ≤ cost_of cond + branch_words + length guarded
  guarded_short cond lag guarded =
      let reach = reach_over objects l near (length guarded) cond false lag in
      let over = pos (length guarded) in
      omega (arith, condition_short objects l reach 0 cond false lag over, length-append (condition_code objects l reach 0 cond false lag over) guarded)

  one_branch : (cond this : IrTree) → IsShort (Part_of this) (cost_of this) → IsShort (Part_of (If cond this end)) (cost_of (If cond this end))
  one_branch cond this short lag exits =
      omega (arith, whole_short (Part_of this) (cost_of this) short exits, guarded_short cond lag (whole_code (Part_of this) exits))

  two_branches : (cond this other : IrTree) (rest : IrTrees) → IsShort (Part_of this) (cost_of this) → IsShort (Part_of other) (cost_of other)
      → IsShort (Part_of (If cond this (more other rest))) (cost_of (If cond this (more other rest)))
  two_branches cond this other rest short short_other lag exits =
      let second = whole_code (Part_of other) exits in
      let skip = skip_code objects l near (length second) in
      let inner = before (length skip + length second) exits in
      let first = first_branch objects l near (Part_of this) second exits in
      omega (
        arith,
        whole_short (Part_of this) (cost_of this) short inner,
        whole_short (Part_of other) (cost_of other) short_other exits,
        left_short 0 (pos (length second)),
        guarded_short cond lag first,
        length-append (whole_code (Part_of this) inner) skip,
        length-append (guarded_code objects l near cond lag first) second,
      )

  -- ---- loops

  last_short : (last : IrTrees) → length (last_code objects l near last) ≤ costs_of last + 5
  last_short last = omega (arith, simples_short last, flush_short (weight_of_all last), length-append (simples_code objects l near last) (flush_code (weight_of_all last)))

  test_short : (words : ℕ) (cond : IrTrees) → length (test_code objects l near words cond) ≤ costs_of cond + branch_words
  test_short words end = omega (arith, left_short 0 (pos 0 -ℤ pos (words + length (left_code objects l near 0 (pos 0)))))
  test_short words (more cond rest) =
      let reach = reach_over objects l near words cond true 0 in
      omega (arith, condition_short objects l reach 0 cond true 0 (pos 0 -ℤ pos (words + length (condition_code objects l reach 0 cond true 0 (pos 0)))))

  entry_short : (tests_first : Bool) (words : ℕ) → length (entry_code objects l near tests_first words) ≤ 7
  entry_short true words = left_short 0 (pos words)
  entry_short false words = omega arith

  loop_short : (cut : ℕ) (tests_first : Bool) (first cond last : IrTrees) (body : IrTree) → IsShort (Part_of body) (cost_of body)
      → IsShort (Part_of (Loop cut tests_first first cond last body)) (cost_of (Loop cut tests_first first cond last body))
  loop_short cut tests_first first cond last body short lag exits =
      let words = turn_words objects l near (Part_of body) last in
      let test = test_code objects l near words cond in
      let after = last_code objects l near last in
      let inner = turn_exits objects l near (length after) (length test) exits in
      let turn = whole_code (Part_of body) inner in
      let entry = entry_code objects l near tests_first words in
      let flush = flush_code (lag + weight_of_all first) in
      let turns = turns_code objects l near tests_first cond last (Part_of body) exits in
      omega (
        arith,
        simples_short first,
        flush_short (lag + weight_of_all first),
        entry_short tests_first words,
        whole_short (Part_of body) (cost_of body) short inner,
        last_short last,
        test_short words cond,
        length-append (simples_code objects l near first) (flush ++ turns),
        length-append flush turns,
        length-append entry (turn ++ (after ++ test)),
        length-append turn (after ++ test),
        length-append after test,
      )

  -- ---- blocks, and what leaves

  block_short : (first count : ℕ) (starts parts : IrTrees) → ((lag : ℕ) (exits : Exits) → length (codes_along (parts_of objects l near parts) lag exits) ≤ costs_of parts)
      → IsShort (Part_of (Block first count starts parts)) (cost_of (Block first count starts parts))
  block_short first count starts parts short lag exits =
      let openings = openings_of count first starts in
      let late = lag + weight_of_openings openings in
      omega (
        arith,
        openings_short objects l count first starts,
        short late exits,
        length-append (openings_code objects l openings) (codes_along (parts_of objects l near parts) late exits),
      )

  return_short : (value : IrTrees) → IsShort (Part_of (Return value)) (cost_of (Return value))
  return_short end lag exits = omega (arith, left_short lag exits.returned)
  return_short (more value rest) lag exits =
      let late = lag + weight_of value in
      omega (arith, expression_short objects l value 0, left_short late exits.returned, length-append (expression_code objects l value 0) (left_code objects l near late exits.returned))

  -- ---- the whole

  mutual
    pub statement_short : (tree : IrTree) → IsShort (Part_of tree) (cost_of tree)
    statement_short Empty lag exits = omega arith
    statement_short (Block first count starts parts) lag exits = block_short first count starts parts (statements_short parts) lag exits
    statement_short (If cond this end) lag exits = one_branch cond this (statement_short this) lag exits
    statement_short (If cond this (more other rest)) lag exits = two_branches cond this other rest (statement_short this) (statement_short other) lag exits
    statement_short (Loop cut tests_first first cond last body) lag exits = loop_short cut tests_first first cond last body (statement_short body) lag exits
    statement_short (Leave again) lag exits = omega (arith, left_short lag (if again then exits.again else exits.left))
    statement_short (Return value) lag exits = return_short value lag exits
    statement_short simple lag exits = simple_short objects l simple

    statements_short : (trees : IrTrees) (lag : ℕ) (exits : Exits) → length (codes_along (parts_of objects l near trees) lag exits) ≤ costs_of trees
    statements_short end lag exits = omega arith
    statements_short (more first rest) lag exits =
        let others = codes_along (parts_of objects l near rest) ((Part_of first).after lag) exits in
        let inner = before (length others) exits in
        omega (arith, statement_short first lag inner, statements_short rest ((Part_of first).after lag) exits, length-append ((Part_of first).code lag inner) others)

pub programs_are_short : ProgramsAreShort
programs_are_short objects l near main =
    let body = body_code objects l near main.body in
    omega (
      arith,
      number_short base_register base,
      whole_short (part_of objects l near main.body) (cost_of main.body) (statement_short objects l near main.body) nowhere,
      length-append start_code (body ++ end_code),
      length-append body end_code,
    )
