-- In a tree without misplaced nodes what may be missing is there once at most, and what starts is an object of its block.
use Rattle.std.proofs.Common.{◌≡◌, ℕ, zero, suc, ◌+◌, ◌==◌, List, [], Bool, true, false, refl, arith}
use Rattle.std.specs.Prelude.{if◌then◌else◌, nat_le}
use Rattle.std.proofs.lemmas.Bool.{eqb-true, leb-true}
use Rattle.c_typed.specs.declared.typed.Typed.{Typed}
use Rattle.ir_arena.specs.Placed.{whole_of}
use Rattle.ir_arena.specs.Tree as tree
use Rattle.ir_arena.specs.Tree.{IrTree, IrTrees, TreeFunction}
use Rattle.lawful_sources.specs.Things.{Statement}
use Rattle.lawful_sources.proofs.Passing.{Each}
use Rattle.lawful_ir.specs.Lawful.{tables_of}
use Rattle.lawful_ir.specs.Positions.{TreeThing, Of, Misplaced, Position, Starting, Stating, Body, blocked, is_placed, placed_if, plainly, stated}
use Rattle.lawful_ir.specs.Walk.{begun_along, count_in, each_stands, function_stands, looping, stands, started_in, starts_stand}
use Rattle.lawful_ir.proofs.Alike.{earlier, head, later, left, never, tail}
use Rattle.code_entries.specs.Sites.{are_begun, has_rows, have_rows, is_optional}
use Rattle.code_sites.specs.Laws.{BodiesHaveRows}
use Rattle.code_sites.proofs.Bodies.{in-part}
use Rattle.code_sites.proofs.Marks.{both}

-- ---- what is placed in its frame

within-test : (b : Bool) (things : List TreeThing) → Each is_placed (placed_if b things) → (b ≡ true) × Each is_placed things
within-test true things all = (refl, all)
within-test false things all = never (head is_placed Misplaced [] all)

within-statement : (position : Position) (things : List TreeThing) → Each is_placed (stated position things) → Each is_placed things
within-statement (Stating spot) things all = tail is_placed (Of Statement) things all
within-statement position things all = never (head is_placed Misplaced [] all)

within-block : (position : Position) (things : List TreeThing) → Each is_placed (blocked position things) → Each is_placed things
within-block (Stating spot) things all = tail is_placed (Of Statement) things all
within-block (Body spot) things all = all
within-block position things all = never (head is_placed Misplaced [] all)

-- ---- rows of none or of one

optional : (row : IrTrees) → nat_le (count_in row) 1 ≡ true → is_optional row ≡ true
optional tree.end few = refl
optional (tree.more first tree.end) few = refl
optional (tree.more first (tree.more second rest)) few = absurd (omega (arith, leb-true (count_in (tree.more first (tree.more second rest))) 1 few))

just-one : (row : IrTrees) → (count_in row == 1) ≡ true → is_optional row ≡ true
just-one tree.end one = refl
just-one (tree.more first tree.end) one = refl
just-one (tree.more first (tree.more second rest)) one = absurd (omega (arith, eqb-true (count_in (tree.more first (tree.more second rest))) 1 one))

module _ (tables : Typed) where
  -- ---- objects that start

  either : (b : Bool) {ones others : List TreeThing} {p q : Bool} → (Each is_placed ones → p ≡ true) → (Each is_placed others → q ≡ true)
      → Each is_placed (if b then ones else others) → (if b then p else q) ≡ true
  either true one other all = one all
  either false one other all = other all

  begun : (number count : ℕ) (starts : IrTrees) → Each is_placed (begun_along number count (starts_stand tables starts)) → are_begun count number starts ≡ true
  begun number count tree.end all = refl
  begun number zero (tree.more start rest) all = never (head is_placed Misplaced [] all)
  begun number (suc count) (tree.more start rest) all =
      either (started_in start == number) (λ these. begun (number + 1) count rest (later is_placed (stands tables start Starting) _ these))
      (λ these. begun (number + 1) count (tree.more start rest) (tail is_placed _ _ these)) all

  -- ---- loops

  in-loop : (tests_first : Bool) (first cond last : IrTrees) (firsts conds lasts things : List TreeThing)
      → Each is_placed (looping tables tests_first (count_in first) (count_in cond) (count_in last) firsts conds lasts things) → (is_optional cond ≡ true) × Each is_placed things
  in-loop true first cond last firsts conds lasts things all =
      let parts = within-test _ _ all in
      (optional cond parts.0, later is_placed lasts _ (later is_placed conds _ (later is_placed firsts _ parts.1)))
  in-loop false first cond last firsts conds lasts things all =
      let parts = within-test _ _ all in
      (just-one cond (left (count_in cond == 1) _ parts.0), earlier is_placed things _ parts.1)

  -- ---- trees

  mutual
    rows : (t : IrTree) (position : Position) → Each is_placed (stands tables t position) → has_rows t ≡ true
    rows (tree.Block first count starts parts) position all =
        let things = within-block position _ all in
        both (begun first count starts (earlier is_placed _ _ things)) (all-rows parts _ 0 (later is_placed _ _ things))
    rows (tree.If cond this other) position all =
        let parts = within-test _ _ all in
        let branches = later is_placed (stands tables cond plainly) _ (within-statement position _ parts.1) in
        both (rows this _ (earlier is_placed _ _ branches)) (both (optional other parts.0) (all-rows other _ 0 (later is_placed _ _ branches)))
    rows (tree.Loop cut tests_first first cond last body) position all =
        let parts = in-loop tests_first first cond last _ _ _ _ (within-statement position _ all) in
        both parts.0 (rows body _ parts.1)
    rows (tree.Return value) position all = optional value (within-test _ _ all).0
    rows t position all = refl

    all-rows : (trees : IrTrees) (position : ℕ → Position) (place : ℕ) → Each is_placed (each_stands tables trees position place) → have_rows trees ≡ true
    all-rows tree.end position place all = refl
    all-rows (tree.more first rest) position place all =
        both (rows first (position place) (earlier is_placed _ _ all)) (all-rows rest position (place + 1) (later is_placed _ _ all))

pub bodies-have-rows : BodiesHaveRows
bodies-have-rows ir lawful number function there =
    rows (tables_of ir) function.body _ (in-part (Each is_placed) (earlier is_placed) (later is_placed) (function_stands (tables_of ir)) (whole_of ir).functions (record { all = lawful.nodes_are_placed }) number function there)
