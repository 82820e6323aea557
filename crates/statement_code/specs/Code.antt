-- The code of statements over scalars: what declares, changes, chooses, turns and leaves.
use Rattle.std.specs.Prelude.{ℕ, ◌+◌, ℤ, pos, ◌+ℤ◌, ◌-ℤ◌, Bool, true, false, if◌then◌else◌, List, [], ◌∷◌, ◌++◌, length}
use Rattle.operator_meaning.specs.declared.object.Object.{Object}
use Rattle.code_lines.specs.declared.word.Word.{Word}
use Rattle.ir_arena.specs.Tree.{IrTree, IrTrees, Empty, Block, If, Loop, Leave, Return, end, more}
use Rattle.code_lines.specs.Pieces.{flush_code}
use Rattle.code_jumps.specs.declared.branch.Reach.{Reach}
use Rattle.code_jumps.specs.declared.branch.Reach.TheVariants.{Long}
use Rattle.code_jumps.specs.Jumps.{past_code, reach_of}
use Rattle.code_stacks.specs.Places.{Layout}
use Rattle.expression_code.specs.Code.{expression_code, weight_of}
use Rattle.simple_code.specs.Code.{simple_code, weight_of_simple}
use Rattle.condition_code.specs.Code.{condition_code}
use Rattle.statement_code.specs.declared.exits.Exits.{Exits}
use Rattle.statement_code.specs.Blocks.{Opening, openings_of, openings_code, weight_of_openings}

-- ---- where statements lead

-- the same from a place so many words before
abbrev pub before : ℕ → Exits → Exits
before words exits = record { again = pos words +ℤ exits.again; left = pos words +ℤ exits.left; returned = pos words +ℤ exits.returned }

-- nowhere, where lengths alone count
abbrev pub nowhere : Exits
nowhere = record { again = pos 0; left = pos 0; returned = pos 0 }

-- The code of a part, by the weight by which the count lags behind before it and by where it leads; and that weight after
-- it.
pub record Part : Type 0 where
  pub code : (lag : ℕ) → Exits → List Word
  pub after : (lag : ℕ) → ℕ

-- ---- several parts

abbrev pub codes_along : List Part → (lag : ℕ) → Exits → List Word
codes_along [] lag exits = []
codes_along (first ∷ rest) lag exits =
    first.code lag (before (length (codes_along rest (first.after lag) exits)) exits) ++ codes_along rest (first.after lag) exits

abbrev pub lags_along : List Part → (lag : ℕ) → ℕ
lags_along [] lag = lag
lags_along (first ∷ rest) lag = lags_along rest (first.after lag)

-- a part with no lag before it, and none after it; its exits are from the end of all
abbrev pub whole_code : Part → Exits → List Word
whole_code part exits = part.code 0 (before (length (flush_code (part.after 0))) exits) ++ flush_code (part.after 0)

-- ---- statements

abbrev pub weight_of_all : IrTrees → ℕ
weight_of_all end = 0
weight_of_all (more first rest) = weight_of_simple first + weight_of_all rest

module _ (objects : List Object) (l : Layout) (near : Bool) where
  -- ---- jumps

  -- a jump to so many words from its end, with the count brought up
  abbrev pub left_code : (lag : ℕ) → ℤ → List Word
  left_code lag distance = flush_code lag ++ past_code near distance

  -- a jump over so many words behind it
  abbrev pub skip_code : (words : ℕ) → List Word
  skip_code words = left_code 0 (pos words)

  -- ---- simple parts

  abbrev pub simples_code : IrTrees → List Word
  simples_code end = []
  simples_code (more first rest) = simple_code objects l first ++ simples_code rest

  -- ---- blocks

  -- the objects start, and then come the statements
  abbrev pub block_part : List Opening → List Part → Part
  block_part openings parts = record {
    code = λ lag exits. openings_code objects l openings ++ codes_along parts (lag + weight_of_openings openings) exits;
    after = λ lag. lags_along parts (lag + weight_of_openings openings);
  }

  -- ---- choices

  -- how far the branches of a condition reach, where it leads over so many words of others and may lead over its own
  abbrev pub reach_over : (words : ℕ) → IrTree → (sense : Bool) → (lag : ℕ) → Reach
  reach_over words cond sense lag = reach_of (words + length (condition_code objects l Long 0 cond sense lag (pos 0)))

  abbrev pub guarded_code : IrTree → (lag : ℕ) → (guarded : List Word) → List Word
  guarded_code cond lag guarded = condition_code objects l (reach_over (length guarded) cond false lag) 0 cond false lag (pos (length guarded)) ++ guarded

  -- the first branch, and the jump over the second
  abbrev pub first_branch : Part → (other : List Word) → Exits → List Word
  first_branch this other exits = whole_code this (before (length (skip_code (length other)) + length other) exits) ++ skip_code (length other)

  abbrev pub choice : IrTree → Part → List Part → Part
  choice cond this [] = record { code = λ lag exits. guarded_code cond lag (whole_code this exits); after = λ lag. 0 }
  choice cond this (other ∷ rest) =
      record { code = λ lag exits. guarded_code cond lag (first_branch this (whole_code other exits) exits) ++ whole_code other exits; after = λ lag. 0 }

  -- ---- loops

  -- the last parts of a turn, with the count brought up
  abbrev pub last_code : IrTrees → List Word
  last_code last = simples_code last ++ flush_code (weight_of_all last)

  -- The test of a turn, over so many words that it leads back: from its end to the beginning of the body where the condition
  -- holds. A missing condition always holds.
  abbrev pub test_code : (words : ℕ) → IrTrees → List Word
  test_code words end = left_code 0 (pos 0 -ℤ pos (words + length (left_code 0 (pos 0))))
  test_code words (more cond rest) =
      condition_code objects l (reach_over words cond true 0) 0 cond true 0 (pos 0 -ℤ pos (words + length (condition_code objects l (reach_over words cond true 0) 0 cond true 0 (pos 0))))

  -- a loop that tests before its first turn is entered at its test
  abbrev pub entry_code : (tests_first : Bool) → (words : ℕ) → List Word
  entry_code true words = skip_code words
  entry_code false words = []

  -- how a body leads from its end: `continue` to the last parts, and `break` behind the test
  abbrev pub turn_exits : (last test : ℕ) → Exits → Exits
  turn_exits last test exits = record { again = pos 0; left = pos (last + test); returned = pos (last + test) +ℤ exits.returned }

  -- the words of a turn before its test
  abbrev pub turn_words : Part → IrTrees → ℕ
  turn_words body last = length (whole_code body nowhere) + length (last_code last)

  abbrev pub turns_code : (tests_first : Bool) → (cond last : IrTrees) → Part → Exits → List Word
  turns_code tests_first cond last body exits =
      entry_code tests_first (turn_words body last)
      ++ (whole_code body (turn_exits (length (last_code last)) (length (test_code (turn_words body last) cond)) exits) ++ (last_code last ++ test_code (turn_words body last) cond))

  abbrev pub loop : (tests_first : Bool) → (first cond last : IrTrees) → Part → Part
  loop tests_first first cond last body = record {
    code = λ lag exits. simples_code first ++ (flush_code (lag + weight_of_all first) ++ turns_code tests_first cond last body exits);
    after = λ lag. 0;
  }

  -- ---- statements

  abbrev pub returned_code : IrTrees → (lag : ℕ) → ℤ → List Word
  returned_code end lag distance = left_code lag distance
  returned_code (more value rest) lag distance = expression_code objects l value 0 ++ left_code (lag + weight_of value) distance

  abbrev mutual
    pub part_of : IrTree → Part
    part_of Empty = record { code = λ lag exits. []; after = λ lag. lag }
    part_of (Block first count starts parts) = block_part (openings_of count first starts) (parts_of parts)
    part_of (If cond this other) = choice cond (part_of this) (parts_of other)
    part_of (Loop cut tests_first first cond last body) = loop tests_first first cond last (part_of body)
    part_of (Leave again) = record { code = λ lag exits. left_code lag (if again then exits.again else exits.left); after = λ lag. 0 }
    part_of (Return value) = record { code = λ lag exits. returned_code value lag exits.returned; after = λ lag. 0 }
    part_of simple = record { code = λ lag exits. simple_code objects l simple; after = λ lag. lag + weight_of_simple simple }

    pub parts_of : IrTrees → List Part
    parts_of end = []
    parts_of (more first rest) = part_of first ∷ parts_of rest

  abbrev pub statement_code : IrTree → (lag : ℕ) → Exits → List Word
  statement_code tree = (part_of tree).code
