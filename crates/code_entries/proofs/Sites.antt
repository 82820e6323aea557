-- In a body over scalars each site has code.
use Rattle.std.proofs.Common.{◌≡◌, ℕ, zero, suc, ◌+◌, ◌==◌, Bool, true, false, ◌&&◌, if◌then◌else◌, List, ◌∷◌, ◌++◌, refl, sym, ◌∙◌, append-nil}
use Rattle.std.specs.Prelude.{Some, None}
use Rattle.c_tree.specs.declared.expression.BinaryMark.TheVariants as binary
use Rattle.c_tree.specs.declared.simple.AssignMark.{AssignMark}
use Rattle.c_tree.specs.declared.simple.AssignMark.TheVariants as assign
use Rattle.operator_meaning.specs.declared.object.Object.{Object}
use Rattle.operator_meaning.specs.declared.site.SiteKind.TheVariants as kind
use Rattle.typed_meaning.specs.Expressions.{site_at}
use Rattle.ir_arena.specs.Tree.{IrTree, IrTrees, Constant, Read, Operate, Convert, Not, Invert, Binary, Choose, ReadFlag, Write, Step, WriteFlag, Out, AddCount, Start, Empty, Block, If, Loop, Leave, Return, Variable, end, more}
use Rattle.code_stacks.specs.Places.{Layout}
use Rattle.operator_lowering.specs.Sites.{operand_count}
use Rattle.expression_code.specs.Code.{weight_of}
use Rattle.expression_code.specs.Straight.{are_straight, count_in, is_light, is_marked, is_numbered, is_site, is_straight}
use Rattle.expression_code.proofs.Leaves.{both_true}
use Rattle.simple_code.specs.Code.{computed, is_simple, is_target, written_by}
use Rattle.condition_code.specs.Laws.{is_condition}
use Rattle.statement_code.specs.Blocks.{AreOpenings, Opening, object_of, openings_of, value_of}
use Rattle.statement_code.specs.Laws.{AreSimple, AreStatements, AreTests, IsReturned, IsStatement}
use Rattle.code_entries.specs.Entries.{entries_of_first, entries_of_openings, entries_of_operands, entries_of_simple, entries_of_simples, entries_of_statement, entries_of_statements, entries_of_value}
use Rattle.code_entries.specs.Laws.{SitesAreMade}
use Rattle.code_pieces.specs.declared.piece.Entry.{Entry}
use Rattle.code_entries.specs.Sites.{are_begun, has_rows, have_rows, is_optional, sites_in, sites_of}
use Rattle.code_entries.proofs.Made.{listed}
use Rattle.code_entries.proofs.Statements.{codes_are_made}

same_joined : {xs ys zs ws : List Entry} → xs ≡ ys → zs ≡ ws → xs ++ zs ≡ ys ++ ws
same_joined {xs} {ys} {zs} {ws} one other = rw (one, other) refl

module _ (l : Layout) where
  -- ---- expressions

  mutual
    value_sites : (e : IrTree) → is_straight l e ≡ true → sites_of e ≡ entries_of_value e
    value_sites (Constant value) straight = refl
    value_sites (Read (Variable n)) straight = refl
    value_sites (Read target) straight = absurd (let f = straight in cc)
    value_sites (Operate site kind operands weight) straight =
        let parts = both_true (is_site kind && (count_in operands == operand_count kind) && is_numbered l site kind) (are_straight l operands) straight in
        same_joined (operand_sites operands parts.1) refl
    value_sites (Convert cast width part) straight = value_sites part straight
    value_sites (Not part) straight = value_sites part straight
    value_sites (Invert part) straight = value_sites part straight
    value_sites (Binary mark left right) straight =
        let parts = both_true (is_marked mark (weight_of left) (weight_of right) && is_straight l left) (is_straight l right) straight in
        let firsts = both_true (is_marked mark (weight_of left) (weight_of right)) (is_straight l left) parts.0 in
        same_joined (value_sites left firsts.1) (value_sites right parts.1)
    value_sites (Choose cond this other) straight =
        let first = is_light (weight_of cond) && is_straight l cond in
        let second = is_light (weight_of this) && is_straight l this in
        let third = is_light (weight_of other) && is_straight l other in
        let parts = both_true first (second && third) straight in
        let branches = both_true second third parts.1 in
        let conds = both_true (is_light (weight_of cond)) (is_straight l cond) parts.0 in
        let ones = both_true (is_light (weight_of this)) (is_straight l this) branches.0 in
        let others = both_true (is_light (weight_of other)) (is_straight l other) branches.1 in
        same_joined (value_sites cond conds.1) (same_joined (value_sites this ones.1) (value_sites other others.1))
    value_sites (ReadFlag word) straight = refl
    value_sites e straight = absurd (let f = straight in cc)

    operand_sites : (operands : IrTrees) → are_straight l operands ≡ true → sites_in operands ≡ entries_of_operands operands
    operand_sites end straight = refl
    operand_sites (more first rest) straight =
        let parts = both_true (is_straight l first) (are_straight l rest) straight in
        same_joined (value_sites first parts.0) (operand_sites rest parts.1)

  condition_sites : (e : IrTree) → is_condition l e ≡ true → sites_of e ≡ entries_of_value e
  condition_sites (Not part) is = condition_sites part is
  condition_sites (Binary binary.Both left right) is =
      let parts = both_true (is_condition l left) (is_condition l right) is in
      same_joined (condition_sites left parts.0) (condition_sites right parts.1)
  condition_sites (Binary binary.Either left right) is =
      let parts = both_true (is_condition l left) (is_condition l right) is in
      same_joined (condition_sites left parts.0) (condition_sites right parts.1)
  condition_sites e is = value_sites e is

  -- ---- simple parts

  -- the right side of an assignment is such an expression
  right_straight : (n : ℕ) (value : IrTree) (b : Bool) → (b && are_straight l (more (Read (Variable n)) (more value end))) ≡ true → is_straight l value ≡ true
  right_straight n value b straight =
      let operands = both_true b (are_straight l (more (Read (Variable n)) (more value end))) straight in
      let values = both_true (is_straight l (Read (Variable n))) (are_straight l (more value end)) operands.1 in
      (both_true (is_straight l value) true values.1).0

  value_straight : (n : ℕ) (mark : AssignMark) (site : ℕ) (value : IrTree) → is_straight l (computed (Variable n) mark site value) ≡ true → is_straight l value ≡ true
  value_straight n assign.Plain site value straight = straight
  value_straight n assign.Plus site value straight = right_straight n value (is_numbered l site kind.Sum) straight
  value_straight n assign.Minus site value straight = right_straight n value (is_numbered l site kind.Difference) straight
  value_straight n assign.Times site value straight = right_straight n value (is_numbered l site kind.Product) straight
  value_straight n mark site value straight = (both_true (is_straight l (Read (Variable n))) (is_straight l value) straight).1

  simple_sites : (part : IrTree) → is_simple l part ≡ true → sites_of part ≡ entries_of_simple part
  simple_sites (Write (Variable n) mark width site value) simple =
      let parts = both_true (is_target l (Variable n)) (is_straight l (written_by (Variable n) mark site value)) simple in
      same_joined (value_sites value (value_straight n mark (site_at site) value parts.1)) refl
  simple_sites (Write target mark width site value) simple = absurd (let f = simple in cc)
  simple_sites (Step (Variable n) up width site) simple = refl
  simple_sites (Step target up width site) simple = absurd (let f = simple in cc)
  simple_sites (WriteFlag value) simple = value_sites value simple
  simple_sites (Out value) simple = value_sites value simple
  simple_sites (AddCount weight) simple = refl
  simple_sites (Operate site kind operands weight) simple = value_sites (Operate site kind operands weight) simple
  simple_sites part simple = absurd (let f = simple in cc)

  simples_sites : (parts : IrTrees) → AreSimple l parts → sites_in parts ≡ entries_of_simples parts
  simples_sites end simple = refl
  simples_sites (more first rest) simple = same_joined (simple_sites first simple.0.0) (simples_sites rest simple.1)

  start_sites : (start : IrTree) → is_straight l (value_of start) ≡ true → sites_of start ≡ entries_of_value (value_of start)
  start_sites (Start object value) straight = value_sites value straight
  start_sites value straight = value_sites value straight

  -- ---- rows of none or of one

  test_sites : (row : IrTrees) → is_optional row ≡ true → AreTests l row → sites_in row ≡ entries_of_first row
  test_sites end row tests = refl
  test_sites (more cond end) row tests = append-nil (sites_of cond) ∙ condition_sites cond tests.0
  test_sites (more cond (more second rest)) row tests = absurd (let f = row in cc)

  returned_sites : (has_result : Bool) (row : IrTrees) → is_optional row ≡ true → IsReturned l has_result row → sites_in row ≡ entries_of_first row
  returned_sites has_result end row returned = refl
  returned_sites has_result (more value end) row returned = append-nil (sites_of value) ∙ value_sites value returned.1.0
  returned_sites has_result (more value (more second rest)) row returned = absurd (let f = row in cc)

module _ (objects : List Object) (l : Layout) where
  -- ---- objects that start

  start_named : (named : Bool) (n : ℕ) (start : IrTree) (rest : IrTrees) (ones others : List Opening) (begun as_well : Bool)
      → (AreOpenings objects l ones → begun ≡ true → sites_in rest ≡ entries_of_openings ones)
      → (AreOpenings objects l others → as_well ≡ true → sites_in (more start rest) ≡ entries_of_openings others)
      → AreOpenings objects l (if named then record { object = n; value = Some (value_of start) } ∷ ones else record { object = n; value = None } ∷ others)
      → (if named then begun else as_well) ≡ true
      → sites_in (more start rest) ≡ entries_of_openings (if named then record { object = n; value = Some (value_of start) } ∷ ones else record { object = n; value = None } ∷ others)
  start_named true n start rest ones others begun as_well one other opens row = same_joined (start_sites l start opens.0.straight) (one opens.1 row)
  start_named false n start rest ones others begun as_well one other opens row = other opens.1 row

  opening_sites : (count object : ℕ) (starts : IrTrees) → AreOpenings objects l (openings_of count object starts) → are_begun count object starts ≡ true
      → sites_in starts ≡ entries_of_openings (openings_of count object starts)
  opening_sites zero object end opens row = refl
  opening_sites zero object (more start rest) opens row = absurd (let f = row in cc)
  opening_sites (suc count) object end opens row = opening_sites count (object + 1) end opens.1 refl
  opening_sites (suc count) object (more start rest) opens row =
      start_named (object_of start == object) object start rest (openings_of count (object + 1) rest) (openings_of count (object + 1) (more start rest))
      (are_begun count (object + 1) rest) (are_begun count (object + 1) (more start rest))
      (opening_sites count (object + 1) rest) (opening_sites count (object + 1) (more start rest)) opens row

  -- ---- the whole

  module _ (has_result : Bool) where
    mutual
      statement_sites : (tree : IrTree) → IsStatement objects l has_result tree → has_rows tree ≡ true → sites_of tree ≡ entries_of_statement tree
      statement_sites Empty is row = refl
      statement_sites (Block first count starts parts) is row =
          let rows = both_true (are_begun count first starts) (have_rows parts) row in
          same_joined (opening_sites count first starts is.0 rows.0) (statements_sites parts is.1 rows.1)
      statement_sites (If cond this end) is row =
          let rows = both_true (has_rows this) true row in
          same_joined (condition_sites l cond is.0.0) (append-nil (sites_of this) ∙ statement_sites this is.1.0 rows.0)
      statement_sites (If cond this (more other end)) is row =
          let rows = both_true (has_rows this) (has_rows other && true) row in
          let others = both_true (has_rows other) true rows.1 in
          let second = append-nil (sites_of other) ∙ statement_sites other is.1.1.0 others.0 in
          same_joined (condition_sites l cond is.0.0) (same_joined (statement_sites this is.1.0 rows.0) second)
      statement_sites (If cond this (more other (more third rest))) is row = let rows = both_true (has_rows this) false row in absurd (let f = rows.1 in cc)
      statement_sites (Loop cut tests_first first cond last body) is row =
          let rows = both_true (is_optional cond) (has_rows body) row in
          let tests = test_sites l cond rows.0 is.1.0 in
          same_joined (simples_sites l first is.0) (same_joined (statement_sites body is.1.1.1 rows.1) (same_joined (simples_sites l last is.1.1.0) tests))
      statement_sites (Leave again) is row = refl
      statement_sites (Return value) is row = returned_sites l has_result value row is
      statement_sites simple is row = simple_sites l simple is.0

      statements_sites : (trees : IrTrees) → AreStatements objects l has_result trees → have_rows trees ≡ true → sites_in trees ≡ entries_of_statements trees
      statements_sites end is row = refl
      statements_sites (more first rest) is row =
          let rows = both_true (has_rows first) (have_rows rest) row in
          same_joined (statement_sites first is.0 rows.0) (statements_sites rest is.1 rows.1)

pub sites_are_made : SitesAreMade
sites_are_made objects l near has_result body is row = listed (codes_are_made objects l near body) (sym (statement_sites objects l has_result body is row))
