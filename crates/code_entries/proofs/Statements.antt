-- The code of a statement has the templates of its sites, and so has that of a program.
use Rattle.std.proofs.Common.{ℕ, ◌+◌, ℤ, pos, ◌-ℤ◌, Bool, true, false, if◌then◌else◌, List, [], ◌++◌, length, refl, append_assoc}
use Rattle.operator_meaning.specs.declared.object.Object.{Object}
use Rattle.code_lines.specs.declared.word.Word.{Word}
use Rattle.ir_arena.specs.Tree.{IrTree, IrTrees, Empty, Block, If, Loop, Leave, Return, end, more}
use Rattle.code_lines.specs.Pieces.{flush_code}
use Rattle.code_memory.specs.Memory.{base_register, base}
use Rattle.code_stacks.specs.Places.{Layout}
use Rattle.expression_code.specs.Code.{weight_of}
use Rattle.condition_code.specs.Code.{condition_code}
use Rattle.statement_code.specs.Blocks.{openings_of, weight_of_openings}
use Rattle.statement_code.specs.declared.exits.Exits.{Exits}
use Rattle.statement_code.specs.Code.{Part, before, codes_along, entry_code, guarded_code, last_code, left_code, nowhere, part_of, parts_of, reach_over, simples_code, skip_code, test_code, turn_exits, turn_words, weight_of_all, whole_code}
use Rattle.program_code.specs.Code.{end_code}
use Rattle.code_entries.specs.Entries.{entries_of_first, entries_of_simples, entries_of_statement, entries_of_statements, entries_of_value}
use Rattle.code_entries.specs.Laws.{CodesAreMade}
use Rattle.code_pieces.specs.declared.piece.Entry.{Entry}
use Rattle.code_entries.specs.Pieces.{IsMade}
use Rattle.code_entries.proofs.Conditions.{condition_made}
use Rattle.code_entries.proofs.Expressions.{expression_made}
use Rattle.code_entries.proofs.Made.{before_plain, joined, listed, none, plain}
use Rattle.code_entries.proofs.Pieces.{flush_plain, number_plain, past_plain}
use Rattle.code_entries.proofs.Simples.{openings_made, simple_made}

module _ (objects : List Object) (l : Layout) (near : Bool) where
  abbrev Part_of : IrTree → Part
  Part_of = part_of objects l near

  -- wherever it leads, and whatever lags behind before it
  abbrev Holds : IrTree → Type 0
  Holds tree = (lag : ℕ) (exits : Exits) → IsMade ((Part_of tree).code lag exits) (entries_of_statement tree)

  whole_made : (tree : IrTree) → Holds tree → (exits : Exits) → IsMade (whole_code (Part_of tree) exits) (entries_of_statement tree)
  whole_made tree holds exits =
      let late = (Part_of tree).after 0 in
      before_plain (holds 0 (before (length (flush_code late)) exits)) (flush_plain late)

  -- ---- jumps, and what stands between parts

  left_plain : (lag : ℕ) (distance : ℤ) → IsMade (left_code objects l near lag distance) []
  left_plain lag distance = joined (flush_plain lag) (past_plain near distance)

  simples_made : (parts : IrTrees) → IsMade (simples_code objects l near parts) (entries_of_simples parts)
  simples_made end = none
  simples_made (more first rest) = joined (simple_made objects l first) (simples_made rest)

  -- ---- choices

  guarded_made : (cond : IrTree) (lag : ℕ) {guarded : List Word} {entries : List Entry} → IsMade guarded entries
      → IsMade (guarded_code objects l near cond lag guarded) (entries_of_value cond ++ entries)
  guarded_made cond lag {guarded} made = joined (condition_made objects l (reach_over objects l near (length guarded) cond false lag) 0 cond false lag (pos (length guarded))) made

  two_branches : (cond this other : IrTree) (rest : IrTrees) → Holds this → Holds other → Holds (If cond this (more other rest))
  two_branches cond this other rest holds as_well lag exits =
      let second = whole_code (Part_of other) exits in
      let inner = before (length (skip_code objects l near (length second)) + length second) exits in
      let first = before_plain (whole_made this holds inner) (left_plain 0 (pos (length second))) in
      listed (joined (guarded_made cond lag first) (whole_made other as_well exits)) (append_assoc (entries_of_value cond) (entries_of_statement this) (entries_of_statement other))

  -- ---- loops

  test_made : (words : ℕ) (cond : IrTrees) → IsMade (test_code objects l near words cond) (entries_of_first cond)
  test_made words end = left_plain 0 (pos 0 -ℤ pos (words + length (left_code objects l near 0 (pos 0))))
  test_made words (more cond rest) =
      condition_made objects l (reach_over objects l near words cond true 0) 0 cond true 0 (pos 0 -ℤ pos (words + length (condition_code objects l (reach_over objects l near words cond true 0) 0 cond true 0 (pos 0))))

  entry_plain : (tests_first : Bool) (words : ℕ) → IsMade (entry_code objects l near tests_first words) []
  entry_plain true words = left_plain 0 (pos words)
  entry_plain false words = none

  loop_made : (cut : ℕ) (tests_first : Bool) (first cond last : IrTrees) (body : IrTree) → Holds body → Holds (Loop cut tests_first first cond last body)
  loop_made cut tests_first first cond last body holds lag exits =
      let words = turn_words objects l near (Part_of body) last in
      let inner = turn_exits objects l near (length (last_code objects l near last)) (length (test_code objects l near words cond)) exits in
      let after_body = joined (before_plain (simples_made last) (flush_plain (weight_of_all last))) (test_made words cond) in
      let turns = joined (entry_plain tests_first words) (joined (whole_made body holds inner) after_body) in
      joined (simples_made first) (joined (flush_plain (lag + weight_of_all first)) turns)

  -- ---- what returns

  return_made : (value : IrTrees) → Holds (Return value)
  return_made end lag exits = left_plain lag exits.returned
  return_made (more value rest) lag exits = before_plain (expression_made objects l value 0) (left_plain (lag + weight_of value) exits.returned)

  -- ---- the whole

  mutual
    pub statement_made : (tree : IrTree) → Holds tree
    statement_made Empty lag exits = none
    statement_made (Block first count starts parts) lag exits =
        let openings = openings_of count first starts in
        joined (openings_made objects l openings) (statements_made parts (lag + weight_of_openings openings) exits)
    statement_made (If cond this end) lag exits = guarded_made cond lag (whole_made this (statement_made this) exits)
    statement_made (If cond this (more other rest)) lag exits = two_branches cond this other rest (statement_made this) (statement_made other) lag exits
    statement_made (Loop cut tests_first first cond last body) lag exits = loop_made cut tests_first first cond last body (statement_made body) lag exits
    statement_made (Leave again) lag exits = left_plain lag (if again then exits.again else exits.left)
    statement_made (Return value) lag exits = return_made value lag exits
    statement_made simple lag exits = simple_made objects l simple

    statements_made : (trees : IrTrees) (lag : ℕ) (exits : Exits) → IsMade (codes_along (parts_of objects l near trees) lag exits) (entries_of_statements trees)
    statements_made end lag exits = none
    statements_made (more first rest) lag exits =
        let late = (Part_of first).after lag in
        let inner = before (length (codes_along (parts_of objects l near rest) late exits)) exits in
        joined (statement_made first lag inner) (statements_made rest late exits)

pub codes_are_made : CodesAreMade
codes_are_made objects l near body =
    joined (number_plain base_register base) (before_plain (whole_made objects l near body (statement_made objects l near body) nowhere) (plain end_code refl))
