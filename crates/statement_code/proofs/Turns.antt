-- Turns of loops.
use Rattle.std.proofs.Common.{◌≡◌, ℕ, ◌+◌, ◌^◌, ◌<◌, ◌≤◌, ℤ, pos, ◌+ℤ◌, ◌-ℤ◌, Bool, true, false, not, List, [], ◌++◌, length, map, length-append, sym, subst, arith}
use Rattle.std.specs.Prelude.{slice_get}
use Rattle.std.proofs.lemmas.Int.{ints}
use Rattle.c_tree.specs.declared.expression.BinaryMark.{BinaryMark}
use Rattle.c_tree.specs.declared.expression.BinaryMark.TheVariants as binary
use Rattle.operator_meaning.specs.declared.object.Object.{Object}
use Rattle.source_runs.specs.declared.halt.Flow.{Flow}
use Rattle.source_runs.specs.declared.halt.Flow.TheVariants.{Normal, Return}
use Rattle.source_runs.specs.Loops.{looping, turns_of}
use Rattle.source_runs.specs.Runs.{Run, all_of, gives, ◌>>◌}
use Rattle.typed_meaning.specs.Expressions.{Setting, Called}
use Rattle.typed_meaning.specs.Statements.{condition_or_one}
use Rattle.code_lines.specs.declared.word.Word.{Word}
use Rattle.code_lines.specs.Words.{StandHere, Code}
use Rattle.rv_encode.specs.State.{Running}
use Rattle.ir_arena.specs.Tree.{IrTree, IrTrees, Not, Binary, end, more}
use Rattle.tree_meaning.specs.Parts.{NodeMeaning, loop_meaning}
use Rattle.tree_meaning.specs.Trees.{node_meaning, node_meanings}
use Rattle.code_lines.specs.Pieces.{flush_code}
use Rattle.code_jumps.specs.declared.branch.Test.{Test}
use Rattle.code_jumps.specs.declared.branch.Test.TheVariants.{Unequal}
use Rattle.code_jumps.specs.declared.branch.Reach.{Reach}
use Rattle.code_jumps.specs.Jumps.{branch_code, jump_where, sensed}
use Rattle.code_jumps.proofs.Branches.{same_length}
use Rattle.code_runs.specs.Doing.{Bond, Does, DoesIn, one_of_two, one_where_it_holds}
use Rattle.code_runs.proofs.Parts.{later, moved, moves_on, nothing, one_of, turns_are}
use Rattle.code_stacks.specs.Places.{Layout, IsLaidOut}
use Rattle.code_stacks.specs.Operands.{fetches, operand_register}
use Rattle.code_stacks.proofs.Operands.{first_stands, second_stands}
use Rattle.expression_code.specs.Code.{expression_code, weight_of}
use Rattle.expression_code.specs.Laws.{AreScalars}
use Rattle.simple_code.specs.Code.{simple_code, weight_of_simple}
use Rattle.simple_code.proofs.Simples.{simple_does}
use Rattle.condition_code.specs.Code.{comparison_of, condition_code, placed_by, value_code, relation_code}
use Rattle.condition_code.proofs.Conditions.{condition_does}
use Rattle.statement_code.specs.Laws.{AreReached, AreSimple, AreTests, Targets, weight_of_tests}
use Rattle.statement_code.specs.declared.exits.Exits.{Exits}
use Rattle.statement_code.specs.Code.{Part, entry_code, last_code, left_code, loop, nowhere, reach_over, simples_code, skip_code, test_code, turn_exits, turn_words, turns_code, weight_of_all, whole_code}
use Rattle.statement_code.proofs.Parts.{At, Flows, IsDone, flush_moves, leaves, left_steady, no_change, one_change, stay, then_does, whole_done, whole_steady}
use Rattle.statement_code.proofs.Choosing.{skips}
use Rattle.code_runs.proofs.Steps.{passes_still, passes_none}

-- ---- conditions have the same length at each distance

tail_steady : (xs one other : List Word) → length one ≡ length other → length (xs ++ one) ≡ length (xs ++ other)
tail_steady xs one other same = omega (arith, same, length-append xs one, length-append xs other)

module _ (objects : List Object) (l : Layout) (reach : Reach) (depth : ℕ) where
  jump_steady : (sense : Bool) (test : Test) (rs1 rs2 : ℕ) (d d2 : ℤ) → length (jump_where reach sense test rs1 rs2 d) ≡ length (jump_where reach sense test rs1 rs2 d2)
  jump_steady sense test rs1 rs2 d d2 =
      let own = sensed sense test in
      same_length reach own rs1 rs2 (pos (length (branch_code reach own rs1 rs2 d)) +ℤ d) (pos (length (branch_code reach own rs1 rs2 d2)) +ℤ d2)

  value_steady : (e : IrTree) (sense : Bool) (lag : ℕ) (d d2 : ℤ) → length (value_code objects l reach depth e sense lag d) ≡ length (value_code objects l reach depth e sense lag d2)
  value_steady e sense lag d d2 =
      let test = sensed sense Unequal in
      let rs1 = operand_register depth 0 in
      let one = jump_where reach sense Unequal rs1 0 d in
      let two = jump_where reach sense Unequal rs1 0 d2 in
      let flush = flush_code (lag + weight_of e) in
      tail_steady (expression_code objects l e depth) (fetches l depth 1 ++ (flush ++ one)) (fetches l depth 1 ++ (flush ++ two))
      (tail_steady (fetches l depth 1) (flush ++ one) (flush ++ two) (tail_steady flush one two (jump_steady sense Unequal rs1 0 d d2)))

  relation_steady : (mark : BinaryMark) (left right : IrTree) (sense : Bool) (lag : ℕ) (d d2 : ℤ) → length (relation_code objects l reach depth mark left right sense lag d) ≡ length (relation_code objects l reach depth mark left right sense lag d2)
  relation_steady mark left right sense lag d d2 =
      let how = comparison_of mark in
      let first = placed_by how.turned (operand_register depth 0) (operand_register depth 1) in
      let second = placed_by how.turned (operand_register depth 1) (operand_register depth 0) in
      let one = jump_where reach sense how.test first second d in
      let two = jump_where reach sense how.test first second d2 in
      let flush = flush_code (lag + weight_of left + weight_of right) in
      let rest = fetches l depth 2 ++ (flush ++ one) in
      let rest2 = fetches l depth 2 ++ (flush ++ two) in
      tail_steady (expression_code objects l left depth) (expression_code objects l right (depth + 1) ++ rest) (expression_code objects l right (depth + 1) ++ rest2)
      (tail_steady (expression_code objects l right (depth + 1)) rest rest2
      (tail_steady (fetches l depth 2) (flush ++ one) (flush ++ two) (tail_steady flush one two (jump_steady sense how.test first second d d2))))

  abbrev second_part : IrTree → (sense : Bool) → ℤ → List Word
  second_part right sense d = condition_code objects l reach depth right sense 0 d

  abbrev IsSteady : IrTree → Type 0
  IsSteady e = (sense : Bool) (lag : ℕ) (d d2 : ℤ) → length (condition_code objects l reach depth e sense lag d) ≡ length (condition_code objects l reach depth e sense lag d2)

  both_steady : (left right : IrTree) (first sense : Bool) (lag : ℕ) (near near2 d d2 : ℤ) → IsSteady left → IsSteady right
      → length (condition_code objects l reach depth left first lag near ++ second_part right sense d) ≡ length (condition_code objects l reach depth left first lag near2 ++ second_part right sense d2)
  both_steady left right first sense lag near near2 d d2 lefts rights =
      omega (arith, lefts first lag near near2, rights sense 0 d d2, length-append (condition_code objects l reach depth left first lag near) (second_part right sense d), length-append (condition_code objects l reach depth left first lag near2) (second_part right sense d2))

  condition_steady : (e : IrTree) (sense : Bool) (lag : ℕ) (d d2 : ℤ) → length (condition_code objects l reach depth e sense lag d) ≡ length (condition_code objects l reach depth e sense lag d2)
  condition_steady (Not part) sense lag d d2 = condition_steady part (not sense) lag d d2
  condition_steady (Binary binary.Both left right) true lag d d2 =
      both_steady left right false true lag (pos (length (second_part right true d))) (pos (length (second_part right true d2))) d d2 (condition_steady left) (condition_steady right)
  condition_steady (Binary binary.Both left right) false lag d d2 =
      both_steady left right false false lag (pos (length (second_part right false d)) +ℤ d) (pos (length (second_part right false d2)) +ℤ d2) d d2 (condition_steady left) (condition_steady right)
  condition_steady (Binary binary.Either left right) true lag d d2 =
      both_steady left right true true lag (pos (length (second_part right true d)) +ℤ d) (pos (length (second_part right true d2)) +ℤ d2) d d2 (condition_steady left) (condition_steady right)
  condition_steady (Binary binary.Either left right) false lag d d2 =
      both_steady left right true false lag (pos (length (second_part right false d))) (pos (length (second_part right false d2))) d d2 (condition_steady left) (condition_steady right)
  condition_steady (Binary binary.Eq left right) sense lag d d2 = relation_steady binary.Eq left right sense lag d d2
  condition_steady (Binary binary.Ne left right) sense lag d d2 = relation_steady binary.Ne left right sense lag d d2
  condition_steady (Binary binary.Lt left right) sense lag d d2 = relation_steady binary.Lt left right sense lag d d2
  condition_steady (Binary binary.Le left right) sense lag d d2 = relation_steady binary.Le left right sense lag d d2
  condition_steady (Binary binary.Gt left right) sense lag d d2 = relation_steady binary.Gt left right sense lag d d2
  condition_steady (Binary binary.Ge left right) sense lag d d2 = relation_steady binary.Ge left right sense lag d d2
  condition_steady e sense lag d d2 = value_steady e sense lag d d2

module _ (code : Code) (l : Layout) (laid : IsLaidOut code l) (here : Setting) (near has_result : Bool) (called : Called) (scalars : AreScalars here.objects l) where
  abbrev Stands : (k lag : ℕ) → Bond
  Stands = At code here.turns l laid here near has_result

  abbrev Ends : Targets → (end late : ℕ) → Flow → Bond
  Ends = Flows code here.turns l laid here near has_result

  abbrev pub Good : Part → Run Flow → ℕ → Type 0
  Good = IsDone code here.turns l laid here near has_result

  abbrev Do : {A : Type 0} → Bond → Run A → (A → Bond) → Type 0
  Do before run after = Does code here.turns before run after

  -- ---- simple parts

  abbrev pub changes : IrTrees → Run (Unit {0})
  changes parts = all_of (map (λ (part : NodeMeaning). part.change) (node_meanings here called parts))

  abbrev lists : IrTrees → List Word
  lists = simples_code here.objects l near

  pub simples_do : (parts : IrTrees) (k lag : ℕ) → AreSimple l parts → StandHere code k (lists parts) → Do (Stands k lag) (changes parts) (λ done. Stands (k + length (lists parts)) (lag + weight_of_all parts))
  simples_do end k lag simple stands = no_change code here.turns l laid here near has_result k lag
  simples_do (more first rest) k lag simple stands =
      let xs = simple_code here.objects l first in
      let ys = lists rest in
      one_change code here.turns l laid here near has_result xs ys (node_meaning here called first).change (map (λ (part : NodeMeaning). part.change) (node_meanings here called rest)) k lag (weight_of_simple first) (weight_of_all rest)
      (simple_does code here.turns l laid here called scalars first k lag simple.0.0 simple.0.1 (first_stands code k xs ys stands))
      (simples_do rest (k + length xs) (lag + weight_of_simple first) simple.1 (second_stands code k xs ys stands))

  -- ---- the test

  abbrev pub tested : IrTrees → Run ℤ
  tested cond = condition_or_one (slice_get (map (λ (part : NodeMeaning). part.value) (node_meanings here called cond)) 0)

  abbrev tests : (words : ℕ) → IrTrees → List Word
  tests = test_code here.objects l near

  test_does : (cond : IrTrees) (words begin k : ℕ) → AreTests l cond → weight_of_tests cond < 2 ^ 31 → begin + words ≡ k → StandHere code k (tests words cond)
      → DoesIn code here.turns one_where_it_holds (Stands k 0) (tested cond) (one_of_two (Stands begin 0) (Stands (k + length (tests words cond)) 0))
  test_does end words begin k are small back stands s m at =
      let d = pos 0 -ℤ pos (words + length (left_code here.objects l near 0 (pos 0))) in
      let within = stands.within in
      let to = leaves code here.turns l laid here near has_result k 0 [] [] d begin s m (omega arith) stands (omega (arith, ints, back, left_steady here.objects l near 0 d (pos 0))) (omega (arith, within, back)) at in
      (to.0, passes_none code 1 s.sites (Running m) (Running to.0) to.1, to.2)
  test_does (more cond rest) words begin k are small back stands s m at =
      let reach = reach_over here.objects l near words cond true 0 in
      let d = pos 0 -ℤ pos (words + length (condition_code here.objects l reach 0 cond true 0 (pos 0))) in
      let within = stands.within in
      condition_does code here.turns l laid here called scalars reach cond true k 0 [] d begin are.0 (omega (arith, are.1)) (omega (arith, small)) stands
      (omega (arith, ints, back, condition_steady here.objects l reach 0 cond true 0 d (pos 0))) (omega (arith, within, back)) s m at

  -- ---- turns

  abbrev turn : Part → (cond last : IrTrees) → Exits → List Word
  turn body cond last ways =
      let ends = last_code here.objects l near last in
      let tail = tests (turn_words here.objects l near body last) cond in
      whole_code body (turn_exits here.objects l near (length ends) (length tail) ways) ++ (ends ++ tail)

  -- what a turn is made of
  pub record AreTurns (cond last : IrTrees) (body : Part) (run : Run Flow) (weight : ℕ) : Type 0 where
    pub good : Good body run weight
    pub simple : AreSimple l last
    pub tests : AreTests l cond
    pub light : weight < 2 ^ 31
    pub light_test : weight_of_tests cond < 2 ^ 31
    pub light_last : weight_of_all last < 2 ^ 31

  last_does : (last : IrTrees) (k : ℕ) → AreSimple l last → weight_of_all last < 2 ^ 31 → StandHere code k (last_code here.objects l near last)
      → Do (Stands k 0) (changes last) (λ done. Stands (k + length (last_code here.objects l near last)) 0)
  last_does last k simple small stands =
      let xs = lists last in
      let ys = flush_code (weight_of_all last) in
      let whole : k + length xs + length ys ≡ k + length (xs ++ ys) = omega (arith, length-append xs ys) in
      let all : 0 + weight_of_all last ≡ weight_of_all last = omega arith in
      subst (λ n. Do (Stands k 0) (changes last) (λ done. Stands n 0)) whole
      (moves_on code here.turns (Stands k 0) (changes last) (λ done. Stands (k + length xs) (weight_of_all last)) (λ done. Stands (k + length xs + length ys) 0)
      (subst (λ w. Do (Stands k 0) (changes last) (λ done. Stands (k + length xs) w)) all (simples_do last k 0 simple (first_stands code k xs ys stands)))
      (λ done. flush_moves code here.turns l laid here near has_result (k + length xs) (weight_of_all last) small (second_stands code k xs ys stands)))

  looping_does : (cond last : IrTrees) (run : Run Flow) (begin test left : ℕ) (targets : Targets)
      → DoesIn code here.turns one_where_it_holds (Stands test 0) (tested cond) (one_of_two (Stands begin 0) (Stands left 0))
      → Do (Stands begin 0) (turns_of here.turns (tested cond) (changes last) run) (Ends targets left 0)
      → Do (Stands test 0) (looping here.turns (tested cond) (changes last) run) (Ends targets left 0)
  unfolding looping
  looping_does cond last run begin test left targets tests_does turns_does =
      one_of code here.turns (Stands test 0) (tested cond) (Stands begin 0) (Stands left 0) (turns_of here.turns (tested cond) (changes last) run) (gives Normal) (Ends targets left 0)
      (λ s m has. later code 0 here.turns here.turns s.sites s.sites (Running m) m one_where_it_holds (λ a. 0) (one_of_two (Stands begin 0) (Stands left 0)) (tested cond s) (omega arith) (λ a. omega arith) (passes_still code s.sites (Running m)) (tests_does s m has))
      turns_does (nothing code here.turns Normal (Stands left 0) (Ends targets left 0) (stay code here.turns l laid here near has_result (Stands left 0)))

  -- from the beginning of the body, and from the test
  turns_do : (cond last : IrTrees) (body : Part) (run : Run Flow) (weight k : ℕ) (ways : Exits) (targets : Targets) → AreTurns cond last body run weight → StandHere code k (turn body cond last ways)
      → AreReached (k + length (turn body cond last ways)) ways targets
      → Do (Stands k 0) (turns_of here.turns (tested cond) (changes last) run) (Ends targets (k + length (turn body cond last ways)) 0)
      × Do (Stands (k + turn_words here.objects l near body last) 0) (looping here.turns (tested cond) (changes last) run) (Ends targets (k + length (turn body cond last ways)) 0)
  turns_do cond last body run weight k ways targets are stands reached =
      let ends = last_code here.objects l near last in
      let words = turn_words here.objects l near body last in
      let tail = tests words cond in
      let inner = turn_exits here.objects l near (length ends) (length tail) ways in
      let b = whole_code body inner in
      let next = k + length b in
      let test = next + length ends in
      let left = k + length (b ++ (ends ++ tail)) in
      let within = stands.within in
      let whole : test + length tail ≡ left = omega (arith, length-append b (ends ++ tail), length-append ends tail) in
      let back : k + words ≡ test = omega (arith, whole_steady code here.turns l laid here near has_result body run weight are.good inner nowhere) in
      let own : Targets = record { again = next; left = left; returned = targets.returned } in
      let later = second_stands code k b (ends ++ tail) stands in
      let leads : AreReached next inner own =
      record {
        again = omega (arith, ints);
        left = omega (arith, ints, whole);
        returned = omega (arith, ints, whole, reached.returned);
        again_near = omega (arith, within, whole);
        left_near = within;
        returned_near = reached.returned_near;
      } in
      let body_does = whole_done code here.turns l laid here near has_result body run weight k inner own are.good are.light (first_stands code k b (ends ++ tail) stands) leads in
      let ends_does = last_does last next are.simple are.light_last (first_stands code next ends tail later) in
      let tests_does : DoesIn code here.turns one_where_it_holds (Stands test 0) (tested cond) (one_of_two (Stands k 0) (Stands left 0)) =
      subst (λ n. DoesIn code here.turns one_where_it_holds (Stands test 0) (tested cond) (one_of_two (Stands k 0) (Stands n 0))) whole
      (test_does cond words k test are.tests are.light_test back (second_stands code next ends tail later)) in
      let turns_does : Do (Stands k 0) (turns_of here.turns (tested cond) (changes last) run) (Ends targets left 0) =
      turns_are code here.turns (Stands k 0) (Stands next 0) (Stands test 0) (Stands left 0) (λ value. Ends targets left 0 (Return value)) (tested cond) (changes last) run (Stands targets.left 0) (Stands targets.again 0)
      (λ s m at. at.agrees.output) body_does ends_does tests_does here.turns (omega arith) in
      (turns_does, subst (λ n. Do (Stands n 0) (looping here.turns (tested cond) (changes last) run) (Ends targets left 0)) (sym back) (looping_does cond last run k test left targets tests_does turns_does))

  -- ---- loops

  entered : (tests_first : Bool) (cond last : IrTrees) (body : Part) (run : Run Flow) (weight k : ℕ) (ways : Exits) (targets : Targets) → AreTurns cond last body run weight
      → StandHere code k (turns_code here.objects l near tests_first cond last body ways) → AreReached (k + length (turns_code here.objects l near tests_first cond last body ways)) ways targets
      → Do (Stands k 0) (loop_meaning tests_first here.turns (tested cond) (changes last) run) (Ends targets (k + length (turns_code here.objects l near tests_first cond last body ways)) 0)
  entered false cond last body run weight k ways targets are stands reached = (turns_do cond last body run weight k ways targets are stands reached).0
  entered true cond last body run weight k ways targets are stands reached =
      let words = turn_words here.objects l near body last in
      let ends = last_code here.objects l near last in
      let tail = tests words cond in
      let inner = turn_exits here.objects l near (length ends) (length tail) ways in
      let b = whole_code body inner in
      let sk = skip_code here.objects l near words in
      let all = turn body cond last ways in
      let begin = k + length sk in
      let end = k + length (sk ++ all) in
      let within = stands.within in
      let whole : begin + length all ≡ end = omega (arith, length-append sk all) in
      let few : words ≤ length all =
      omega (arith, whole_steady code here.turns l laid here near has_result body run weight are.good inner nowhere, length-append b (ends ++ tail), length-append ends tail) in
      moved code here.turns (Stands k 0) (Stands (begin + words) 0) (looping here.turns (tested cond) (changes last) run) (Ends targets end 0)
      (skips code here.turns l laid here near has_result called scalars k words (first_stands code k sk all stands) (omega (arith, few, whole, within)))
      (subst (λ e. Do (Stands (begin + words) 0) (looping here.turns (tested cond) (changes last) run) (Ends targets e 0)) whole
      (turns_do cond last body run weight begin ways targets are (second_stands code k sk all stands) (subst (λ e. AreReached e ways targets) (sym whole) reached)).1)

  entered_steady : (tests_first : Bool) (cond last : IrTrees) (body : Part) (run : Run Flow) (weight : ℕ) (ways other : Exits) → Good body run weight
      → length (turns_code here.objects l near tests_first cond last body ways) ≡ length (turns_code here.objects l near tests_first cond last body other)
  entered_steady tests_first cond last body run weight ways other good =
      let words = turn_words here.objects l near body last in
      let ends = last_code here.objects l near last in
      let tail = tests words cond in
      let entry = entry_code here.objects l near tests_first words in
      let one = whole_code body (turn_exits here.objects l near (length ends) (length tail) ways) in
      let two = whole_code body (turn_exits here.objects l near (length ends) (length tail) other) in
      let same = whole_steady code here.turns l laid here near has_result body run weight good (turn_exits here.objects l near (length ends) (length tail) ways) (turn_exits here.objects l near (length ends) (length tail) other) in
      omega (arith, same, length-append entry (one ++ (ends ++ tail)), length-append entry (two ++ (ends ++ tail)), length-append one (ends ++ tail), length-append two (ends ++ tail))

  pub loop_done : (tests_first : Bool) (first cond last : IrTrees) (body : Part) (run : Run Flow) (weight : ℕ) → AreSimple l first → AreSimple l last → AreTests l cond → Good body run weight
      → Good (loop here.objects l near tests_first first cond last body) (changes first >> loop_meaning tests_first here.turns (tested cond) (changes last) run)
      (weight_of_all first + weight_of_tests cond + weight_of_all last + weight)
  loop_done tests_first first cond last body run weight firsts lasts conds good = record {
    does = λ k lag ways targets small stands reached.
        let xs = lists first in
        let flush = flush_code (lag + weight_of_all first) in
        let ts = turns_code here.objects l near tests_first cond last body ways in
        let later = second_stands code k xs (flush ++ ts) stands in
        let begin = k + length xs + length flush in
        let place = k + length (xs ++ (flush ++ ts)) in
        let whole : begin + length ts ≡ place = omega (arith, length-append xs (flush ++ ts), length-append flush ts) in
        let run_of_loop = loop_meaning tests_first here.turns (tested cond) (changes last) run in
        let are : AreTurns cond last body run weight =
        record { good = good; simple = lasts; tests = conds; light = omega (arith, small); light_test = omega (arith, small); light_last = omega (arith, small) } in
        then_does code here.turns l laid here near has_result (Stands k lag) (changes first) run_of_loop (λ done. Stands (k + length xs) (lag + weight_of_all first)) (Ends targets place 0) (simples_do first k lag firsts (first_stands code k xs (flush ++ ts) stands))
        (moved code here.turns (Stands (k + length xs) (lag + weight_of_all first)) (Stands begin 0) run_of_loop (Ends targets place 0)
        (flush_moves code here.turns l laid here near has_result (k + length xs) (lag + weight_of_all first) (omega (arith, small)) (first_stands code (k + length xs) flush ts later))
        (subst (λ e. Do (Stands begin 0) run_of_loop (Ends targets e 0)) whole
        (entered tests_first cond last body run weight begin ways targets are (second_stands code (k + length xs) flush ts later) (subst (λ e. AreReached e ways targets) (sym whole) reached))));
    bounded = λ lag. omega arith;
    steady = λ lag ways other.
        let xs = lists first in
        let flush = flush_code (lag + weight_of_all first) in
        let one = turns_code here.objects l near tests_first cond last body ways in
        let two = turns_code here.objects l near tests_first cond last body other in
        tail_steady xs (flush ++ one) (flush ++ two) (tail_steady flush one two (entered_steady tests_first cond last body run weight ways other good));
  }
