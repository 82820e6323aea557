-- The code of a condition leads where the condition does.
use Rattle.std.proofs.Common.{◌≡◌, ℕ, ◌+◌, ◌^◌, ◌<◌, ◌≤◌, max, ℤ, pos, ◌+ℤ◌, Bool, true, false, not, ◌&&◌, int_lt, int_le, if◌then◌else◌, List, [], ◌∷◌, ◌++◌, length, length-append, refl, sym, ap, ◌∙◌, subst, arith}
use Rattle.std.specs.Prelude.{Some, None}
use Rattle.std.specs.Ordering.{int_eq}
use Rattle.std.proofs.lemmas.Int.{ints}
use Rattle.c_tree.specs.declared.expression.BinaryMark.{BinaryMark}
use Rattle.c_tree.specs.declared.expression.BinaryMark.TheVariants as binary
use Rattle.c_tree.specs.declared.expression.UnaryMark.TheVariants as unary
use Rattle.source_runs.specs.Marks.{truth, unary_meaning, binary_meaning, both_meaning, decided, decided_or}
use Rattle.source_runs.specs.Runs.{Run, Outcome, Gives, Stops, Goes, gives, continued, holds, ◌>>=◌}
use Rattle.source_runs.specs.State.{SourceState}
use Rattle.typed_meaning.specs.Expressions.{Setting, Called}
use Rattle.ir_arena.specs.Tree.{IrTree, Not, Binary}
use Rattle.tree_meaning.specs.Trees.{value_meaning}
use Rattle.code_lines.specs.declared.word.Word.{Word}
use Rattle.code_lines.specs.Words.{StandHere, Code}
use Rattle.rv_encode.specs.State.{MachineState, Moment, Running, register}
use Rattle.code_jumps.specs.declared.branch.Test.TheVariants.{Unequal}
use Rattle.code_jumps.specs.declared.branch.Reach.{Reach}
use Rattle.code_jumps.specs.Jumps.{passes, met, jump_where}
use Rattle.code_lines.specs.Pieces.{flush_code, IsNoCount}
use Rattle.code_runs.specs.Doing.{Bond, Comes, Does, DoesIn, side, Passes}
use Rattle.code_lines.specs.Leading.{LeadsLater}
use Rattle.code_runs.proofs.Parts.{later}
use Rattle.code_stacks.specs.Places.{Layout, IsLaidOut}
use Rattle.code_stacks.specs.Agreement.{IsWith, With}
use Rattle.code_stacks.specs.Operands.{operand_register, fetches}
use Rattle.code_stacks.proofs.Operands.{first_stands, second_stands}
use Rattle.expression_code.specs.Code.{expression_code, weight_of}
use Rattle.expression_code.specs.Laws.{AreScalars, Valued}
use Rattle.expression_code.specs.Straight.{is_straight_mark, is_straight, height_of}
use Rattle.expression_code.proofs.Choices.{no_count, no_zero}
use Rattle.expression_code.proofs.Computing.{AreIn}
use Rattle.expression_code.proofs.Deciding.{decided as compared_leads}
use Rattle.expression_code.proofs.Expressions.{expression_does}
use Rattle.expression_code.proofs.Leaves.{both_true, some_height}
use Rattle.expression_code.proofs.Pairs.{pair_does}
use Rattle.expression_code.proofs.Values.{marked}
use Rattle.condition_code.specs.Code.{comparison_of, is_relation, placed_by, compared, value_code, relation_code, condition_code}
use Rattle.condition_code.specs.Laws.{is_condition, height_of_condition, weight_of_condition, Decided, one_if_met}
use Rattle.code_runs.proofs.Steps.{passes_none, passes_still, passes_both, passes_least}

truth_holds : (b : Bool) → holds (truth b) ≡ b
truth_holds true = refl
truth_holds false = refl

-- a relation by its comparison
relation_holds : (mark : BinaryMark) (x y : ℤ) → is_relation mark ≡ true
    → holds (marked mark x y) ≡ passes (comparison_of mark).test (placed_by (comparison_of mark).turned x y) (placed_by (comparison_of mark).turned y x)
relation_holds binary.Eq x y is = truth_holds (int_eq x y)
relation_holds binary.Ne x y is = truth_holds (not (int_eq x y))
relation_holds binary.Lt x y is = truth_holds (int_lt x y)
relation_holds binary.Ge x y is = truth_holds (int_le y x) ∙ not_less y x
  where
    not_less : (a b : ℤ) → int_le a b ≡ not (int_lt b a)
    not_less a b = grind (arith, ints)
relation_holds binary.Gt x y is = truth_holds (int_lt y x)
relation_holds binary.Le x y is = truth_holds (int_le x y) ∙ not_less x y
  where
    not_less : (a b : ℤ) → int_le a b ≡ not (int_lt b a)
    not_less a b = grind (arith, ints)
relation_holds mark x y is = let e = is in cc

module _ (code : Code) (turns : ℕ) (l : Layout) (laid : IsLaidOut code l) (here : Setting) (called : Called) (scalars : AreScalars here.objects l) (reach : Reach) where
  abbrev At : (k lag : ℕ) → List ℤ → Bond
  At k lag values = With here.objects l k lag values

  abbrev Leads_on : (target end : ℕ) → List ℤ → (sense : Bool) → ℤ → Bond
  Leads_on target end values sense = Decided here.objects l target end values sense

  abbrev DoesCondition : IrTree → Type 0
  DoesCondition e = (sense : Bool) (k lag : ℕ) (values : List ℤ) (distance : ℤ) (target : ℕ) → is_condition l e ≡ true → length values + height_of_condition e ≤ l.depth → lag + weight_of_condition e < 2 ^ 31
      → StandHere code k (condition_code here.objects l reach (length values) e sense lag distance)
      → pos target ≡ pos (k + length (condition_code here.objects l reach (length values) e sense lag distance)) +ℤ distance → target ≤ 16777216
      → DoesIn code turns (one_if_met sense) (At k lag values) (value_meaning here called e) (Leads_on target (k + length (condition_code here.objects l reach (length values) e sense lag distance)) values sense)

  -- what the machine does after a run
  further : {A : Type 0} (from : Moment) (sites : List ℕ) (least : A → ℕ) (between after : A → Bond) (o : Outcome A) → Comes code turns from sites (λ a. 0) between o
      → ((a : A) (s : SourceState) (m : MachineState) → between a s m → (v : MachineState) × LeadsLater code (least a) (Running m) (Running v) × after a s v) → Comes code turns from sites least after o
  further from sites least between after (Gives a s) comes on =
      let next = on a s comes.0 comes.2 in (
        next.0,
        passes_least code (0 + least a) (least a) sites s.sites from (Running next.0) (omega arith)
            (passes_both code 0 (least a) sites s.sites s.sites from (Running comes.0) (Running next.0) comes.1 (passes_none code (least a) s.sites (Running comes.0) (Running next.0) next.1)),
        next.2,
      )
  further from sites least between after (Stops site s) comes on = comes
  further from sites least between after (Goes s) comes on = comes

  -- another value that holds alike
  alike : (from : Moment) (sites : List ℕ) (target end : ℕ) (values : List ℤ) (sense : Bool) (x y : ℤ) (s : SourceState) (b : Bool) → b ≡ met sense (holds y)
      → ((m : MachineState) × Passes code (if b then 1 else 0) sites s.sites from (Running m) × side (At target 0 values) (At end 0 values) b s m)
      → Comes code turns from sites (one_if_met sense) (Leads_on target end values sense) (Gives y s)
  alike from sites target end values sense x y s b same comes =
      subst (λ c. (m : MachineState) × Passes code (if c then 1 else 0) sites s.sites from (Running m) × side (At target 0 values) (At end 0 values) c s m) same comes

  -- ---- a value, and a relation

  value_does : (e : IrTree) → is_straight l e ≡ true → (sense : Bool) (k lag : ℕ) (values : List ℤ) (distance : ℤ) (target : ℕ) → length values + height_of e ≤ l.depth → lag + weight_of e < 2 ^ 31
      → StandHere code k (value_code here.objects l reach (length values) e sense lag distance) → pos target ≡ pos (k + length (value_code here.objects l reach (length values) e sense lag distance)) +ℤ distance → target ≤ 16777216
      → DoesIn code turns (one_if_met sense) (At k lag values) (value_meaning here called e) (Leads_on target (k + length (value_code here.objects l reach (length values) e sense lag distance)) values sense)
  value_does e straight sense k lag values distance target room small stands target_is near s m at =
      let depth = length values in
      let xs = expression_code here.objects l e depth in
      let rest = fetches l depth 1 ++ (flush_code (lag + weight_of e) ++ jump_where reach sense Unequal (operand_register depth 0) 0 distance) in
      let end = k + length (xs ++ rest) in
      let whole : k + length xs + length rest ≡ end = omega (arith, length-append xs rest) in
      let some = some_height e in
      further (Running m) s.sites (one_if_met sense) (Valued here.objects l (k + length xs) (lag + weight_of e) values e) (Leads_on target end values sense) (value_meaning here called e s)
      (expression_does code turns l laid here called scalars e k lag values straight room (first_stands code k xs rest stands) s m at)
      (λ x t u valued.
      let leads = compared_leads code here.objects l laid reach sense Unequal (operand_register depth 0) 0 (k + length xs) (lag + weight_of e) 0 (lag + weight_of e) values (x ∷ []) x (pos 0) distance target t u (omega arith) (omega (arith, some)) (omega arith) small
      (no_count depth 0) no_zero (λ v are zero. (are 0 (omega arith), zero)) (second_stands code k xs rest stands) (omega (arith, ints, target_is, whole)) near valued.0 in
      (leads.0, leads.1, subst (λ n. side (At target 0 values) (At n 0 values) (met sense (holds x)) t leads.0) whole leads.2))

  relation_is : (mark : BinaryMark) (left right : Run ℤ) → is_relation mark ≡ true → binary_meaning mark 0 left right ≡ (left >>= (λ x. right >>= (λ y. gives (marked mark x y))))
  unfolding binary_meaning both_meaning
  relation_is binary.Eq left right is = refl
  relation_is binary.Ne left right is = refl
  relation_is binary.Lt left right is = refl
  relation_is binary.Le left right is = refl
  relation_is binary.Gt left right is = refl
  relation_is binary.Ge left right is = refl
  relation_is mark left right is = let e = is in cc

  -- the two values that are compared
  record IsMarked (k lag : ℕ) (values : List ℤ) (mark : BinaryMark) (v : ℤ) (s : SourceState) (m : MachineState) : Type 0 where
    x : ℤ
    y : ℤ
    is : v ≡ marked mark x y
    on_stack : IsWith here.objects l k lag (values ++ x ∷ y ∷ []) s m

  -- the registers of the operands, in their order or turned
  registers_of : (turned : Bool) (depth : ℕ) (x y : ℤ) (t : MachineState) → AreIn code here.objects l laid depth (x ∷ y ∷ []) (register t)
      → (register t (placed_by turned (operand_register depth 0) (operand_register depth 1)) ≡ placed_by turned x y) × (register t (placed_by turned (operand_register depth 1) (operand_register depth 0)) ≡ placed_by turned y x)
  registers_of true depth x y t are = (are 1 (omega arith), are 0 (omega arith))
  registers_of false depth x y t are = (are 0 (omega arith), are 1 (omega arith))

  no_counts : (turned : Bool) (depth : ℕ) → IsNoCount (placed_by turned (operand_register depth 0) (operand_register depth 1)) × IsNoCount (placed_by turned (operand_register depth 1) (operand_register depth 0))
  no_counts true depth = (no_count depth 1, no_count depth 0)
  no_counts false depth = (no_count depth 0, no_count depth 1)

  relation_does : (mark : BinaryMark) (left right : IrTree) → is_relation mark ≡ true → is_straight l left ≡ true → is_straight l right ≡ true → (sense : Bool) (k lag : ℕ) (values : List ℤ) (distance : ℤ) (target : ℕ)
      → length values + max (height_of left) (1 + height_of right) ≤ l.depth → lag + (weight_of left + weight_of right) < 2 ^ 31
      → StandHere code k (relation_code here.objects l reach (length values) mark left right sense lag distance)
      → pos target ≡ pos (k + length (relation_code here.objects l reach (length values) mark left right sense lag distance)) +ℤ distance → target ≤ 16777216
      → DoesIn code turns (one_if_met sense) (At k lag values) (value_meaning here called (Binary mark left right))
      (Leads_on target (k + length (relation_code here.objects l reach (length values) mark left right sense lag distance)) values sense)
  relation_does mark left right relation straight straight2 sense k lag values distance target room small stands target_is near s m at =
      let depth = length values in
      let how = comparison_of mark in
      let xs = expression_code here.objects l left depth in
      let ys = expression_code here.objects l right (depth + 1) in
      let late = lag + weight_of left + weight_of right in
      let rest = fetches l depth 2 ++ (flush_code late ++ compared reach sense how depth distance) in
      let start = k + length xs + length ys in
      let end = k + length (xs ++ (ys ++ rest)) in
      let whole : start + length rest ≡ end = omega (arith, length-append xs (ys ++ rest), length-append ys rest) in
      let some = some_height right in
      let standing : StandHere code start rest = second_stands code (k + length xs) ys rest (second_stands code k xs (ys ++ rest) stands) in
      let apart = no_counts how.turned depth in
      let both : Does code turns (At k lag values) (value_meaning here called left >>= (λ x. value_meaning here called right >>= (λ y. gives (marked mark x y)))) (IsMarked start late values mark) =
      pair_does code turns l laid here called scalars left right (expression_does code turns l laid here called scalars left) (expression_does code turns l laid here called scalars right)
      k lag values (λ x y. gives (marked mark x y)) rest (IsMarked start late values mark) straight straight2 (omega arith) (omega arith) stands
      (λ x y t u fits fits2 stands_there on. (u, passes_still code t.sites (Running u), record { x = x; y = y; is = refl; on_stack = on })) in
      further (Running m) s.sites (one_if_met sense) (IsMarked start late values mark) (Leads_on target end values sense) (value_meaning here called (Binary mark left right) s)
      (subst (λ run. Comes code turns (Running m) s.sites (λ a. 0) (IsMarked start late values mark) (run s)) (sym (relation_is mark (value_meaning here called left) (value_meaning here called right) relation)) (both s m at))
      (λ v t u marks.
      let x = marks.x in
      let y = marks.y in
      let leads = compared_leads code here.objects l laid reach sense how.test (placed_by how.turned (operand_register depth 0) (operand_register depth 1)) (placed_by how.turned (operand_register depth 1) (operand_register depth 0)) start late 0 late values (x ∷ y ∷ [])
      (placed_by how.turned x y) (placed_by how.turned y x) distance target t u (omega arith) (omega (arith, some)) (omega arith) (omega arith) apart.0 apart.1 (λ w are zero. registers_of how.turned depth x y w are) standing (omega (arith, ints, target_is, whole)) near marks.on_stack in
      let same : met sense (passes how.test (placed_by how.turned x y) (placed_by how.turned y x)) ≡ met sense (holds v) = ap (met sense) (sym (ap holds marks.is ∙ relation_holds mark x y relation)) in
      let moved = subst (λ n. side (At target 0 values) (At n 0 values) (met sense (passes how.test (placed_by how.turned x y) (placed_by how.turned y x))) t leads.0) whole leads.2 in
      subst (λ c. (w : MachineState) × LeadsLater code (if c then 1 else 0) (Running u) (Running w) × side (At target 0 values) (At end 0 values) c t w) same (leads.0, leads.1, moved))

  -- ---- what conditions are put together

  other_sense : (sense b : Bool) → met (not sense) (not b) ≡ met sense b
  other_sense true true = refl
  other_sense true false = refl
  other_sense false true = refl
  other_sense false false = refl

  turned_over : (sense : Bool) (from : Moment) (sites : List ℕ) (target end : ℕ) (values : List ℤ) (o : Outcome ℤ) → Comes code turns from sites (one_if_met (not sense)) (Leads_on target end values (not sense)) o
      → Comes code turns from sites (one_if_met sense) (Leads_on target end values sense) (continued o (unary_meaning unary.Not 0))
  unfolding unary_meaning
  turned_over sense from sites target end values (Gives x s) comes =
      alike from sites target end values sense x (truth (int_eq x (pos 0))) s (met (not sense) (holds x)) (other_sense sense (int_eq x (pos 0)) ∙ ap (met sense) (sym (truth_holds (int_eq x (pos 0))))) comes
  turned_over sense from sites target end values (Stops site s) comes = comes
  turned_over sense from sites target end values (Goes s) comes = comes

  not_does : (part : IrTree) → DoesCondition part → DoesCondition (Not part)
  unfolding ◌>>=◌
  not_does part does sense k lag values distance target is room small stands target_is near s m at =
      turned_over sense (Running m) s.sites target _ values (value_meaning here called part s) (does (not sense) k lag values distance target is room small stands target_is near s m at)

  -- `&&` is decided by a left operand that does not hold, and `||` by one that does
  record IsPair (mark : BinaryMark) (decides : Bool) : Type 0 where
    early : (x : ℤ) → decided mark x ≡ (if met decides (holds x) then Some (truth decides) else None)
    late : (x y : ℤ) (s : SourceState) → both_meaning mark 0 x y s ≡ Gives (truth (holds y)) s

  both_early : (b : Bool) → (if b then None else Some (pos 0)) ≡ (if not b then Some (pos 0) else None)
  both_early true = refl
  both_early false = refl

  both_pair : IsPair binary.Both false
  unfolding both_meaning
  both_pair = record { early = λ x. both_early (holds x); late = λ x y s. refl }

  either_pair : IsPair binary.Either true
  unfolding both_meaning
  either_pair = record { early = λ x. refl; late = λ x y s. refl }

  module _ (mark : BinaryMark) (decides : Bool) (pair : IsPair mark decides) (right : Run ℤ) (sense : Bool) (target end : ℕ) (values : List ℤ) where
    renamed : (x : ℤ) (from : Moment) (sites : List ℕ) (o : Outcome ℤ) → Comes code turns from sites (one_if_met sense) (Leads_on target end values sense) o
        → Comes code turns from sites (one_if_met sense) (Leads_on target end values sense) (continued o (both_meaning mark 0 x))
    renamed x from sites (Gives y s) comes =
        subst (Comes code turns from sites (one_if_met sense) (Leads_on target end values sense)) (sym (pair.late x y s))
        (alike from sites target end values sense y (truth (holds y)) s (met sense (holds y)) (ap (met sense) (sym (truth_holds (holds y)))) comes)
    renamed x from sites (Stops site s) comes = comes
    renamed x from sites (Goes s) comes = comes

    side_of : (c : Bool) (from : Moment) (sites : List ℕ) (s : SourceState) (m : MachineState) → Passes code 1 sites s.sites from (Running m) → At (if c then target else end) 0 values s m
        → (v : MachineState) × Passes code (if c then 1 else 0) sites s.sites from (Running v) × side (At target 0 values) (At end 0 values) c s v
    side_of true from sites s m leads at = (m, leads, at)
    side_of false from sites s m leads at = (m, passes_least code 1 0 sites s.sites from (Running m) (omega arith) leads, at)

    module _ (inner next : ℕ) (inner_is : inner ≡ (if met sense decides then target else end)) (does_right : DoesIn code turns (one_if_met sense) (At next 0 values) right (Leads_on target end values sense)) where
      by_left : (b : Bool) (x : ℤ) (from : Moment) (sites : List ℕ) (s : SourceState) → met decides (holds x) ≡ b
          → ((m : MachineState) × Passes code (if b then 1 else 0) sites s.sites from (Running m) × side (At inner 0 values) (At next 0 values) b s m)
          → Comes code turns from sites (one_if_met sense) (Leads_on target end values sense) (decided_or (decided mark x) (right >>= both_meaning mark 0 x) s)
      unfolding ◌>>=◌
      by_left true x from sites s is comes =
          let known : decided mark x ≡ Some (truth decides) = pair.early x ∙ ap (λ (b : Bool). if b then Some (truth decides) else None) is in
          subst (λ d. Comes code turns from sites (one_if_met sense) (Leads_on target end values sense) (decided_or d (right >>= both_meaning mark 0 x) s)) (sym known)
          (alike from sites target end values sense x (truth decides) s (met sense decides) (ap (met sense) (sym (truth_holds decides)))
          (side_of (met sense decides) from sites s comes.0 comes.1 (subst (λ n. At n 0 values s comes.0) inner_is comes.2)))
      by_left false x from sites s is comes =
          let open_still : decided mark x ≡ None = pair.early x ∙ ap (λ (b : Bool). if b then Some (truth decides) else None) is in
          subst (λ d. Comes code turns from sites (one_if_met sense) (Leads_on target end values sense) (decided_or d (right >>= both_meaning mark 0 x) s)) (sym open_still)
          (later code 0 turns turns sites s.sites from comes.0 (one_if_met sense) (one_if_met sense) (Leads_on target end values sense) (continued (right s) (both_meaning mark 0 x)) (omega arith) (λ a. omega arith) comes.1
          (renamed x (Running comes.0) s.sites (right s) (does_right s comes.0 comes.2)))

      joined : (from : Moment) (sites : List ℕ) (o : Outcome ℤ) → Comes code turns from sites (one_if_met decides) (Leads_on inner next values decides) o
          → Comes code turns from sites (one_if_met sense) (Leads_on target end values sense) (continued o (λ x. decided_or (decided mark x) (right >>= both_meaning mark 0 x)))
      joined from sites (Gives x s) comes = by_left (met decides (holds x)) x from sites s refl comes
      joined from sites (Stops site s) comes = comes
      joined from sites (Goes s) comes = comes

  abbrev code_of : IrTree → (sense : Bool) → (lag depth : ℕ) → ℤ → List Word
  code_of e sense lag depth distance = condition_code here.objects l reach depth e sense lag distance

  -- how far the left operand leads where it decides
  abbrev inner_distance : (sense decides : Bool) → (length_of_right : ℕ) → ℤ → ℤ
  inner_distance sense decides long distance = if met sense decides then pos long +ℤ distance else pos long

  inner_target : (c : Bool) (inner target end next long : ℕ) (distance : ℤ) → pos target ≡ pos end +ℤ distance → next + long ≡ end → inner ≡ (if c then target else end)
      → pos inner ≡ pos next +ℤ (if c then pos long +ℤ distance else pos long)
  inner_target true inner target end next long distance is whole same = omega (arith, ints, is, whole, same)
  inner_target false inner target end next long distance is whole same = omega (arith, ints, whole, same)

  inner_near : (c : Bool) (target end : ℕ) → target ≤ 16777216 → end ≤ 16777216 → (if c then target else end) ≤ 16777216
  inner_near true target end near near2 = near
  inner_near false target end near near2 = near2

  pair_done : (mark : BinaryMark) (decides : Bool) → IsPair mark decides → (left right : IrTree) → DoesCondition left → DoesCondition right → (sense : Bool) (k lag : ℕ) (values : List ℤ) (distance : ℤ) (target : ℕ)
      → is_condition l left ≡ true → is_condition l right ≡ true → length values + max (height_of_condition left) (height_of_condition right) ≤ l.depth → lag + (weight_of_condition left + weight_of_condition right) < 2 ^ 31
      → StandHere code k (code_of left decides lag (length values) (inner_distance sense decides (length (code_of right sense 0 (length values) distance)) distance) ++ code_of right sense 0 (length values) distance)
      → pos target ≡ pos (k + length (code_of left decides lag (length values) (inner_distance sense decides (length (code_of right sense 0 (length values) distance)) distance) ++ code_of right sense 0 (length values) distance)) +ℤ distance
      → target ≤ 16777216
      → DoesIn code turns (one_if_met sense) (At k lag values) (binary_meaning mark 0 (value_meaning here called left) (value_meaning here called right))
      (Leads_on target (k + length (code_of left decides lag (length values) (inner_distance sense decides (length (code_of right sense 0 (length values) distance)) distance) ++ code_of right sense 0 (length values) distance)) values sense)
  unfolding binary_meaning ◌>>=◌
  pair_done mark decides pair left right does does_right sense k lag values distance target is is_right room small stands target_is near s m at =
      let depth = length values in
      let ys = code_of right sense 0 depth distance in
      let inner = inner_distance sense decides (length ys) distance in
      let xs = code_of left decides lag depth inner in
      let next = k + length xs in
      let end = k + length (xs ++ ys) in
      let whole : next + length ys ≡ end = omega (arith, length-append xs ys) in
      let within = stands.within in
      let inner_place = if met sense decides then target else end in
      let right_does : DoesIn code turns (one_if_met sense) (At next 0 values) (value_meaning here called right) (Leads_on target end values sense) =
      subst (λ e. DoesIn code turns (one_if_met sense) (At next 0 values) (value_meaning here called right) (Leads_on target e values sense)) whole
      (does_right sense next 0 values distance target is_right (omega arith) (omega arith) (second_stands code k xs ys stands) (omega (arith, ints, target_is, whole)) near) in
      joined mark decides pair (value_meaning here called right) sense target end values inner_place next refl right_does (Running m) s.sites (value_meaning here called left s)
      (does decides k lag values inner inner_place is (omega arith) (omega arith) (first_stands code k xs ys stands)
      (inner_target (met sense decides) inner_place target end next (length ys) distance target_is whole refl) (inner_near (met sense decides) target end near within) s m at)

  both_does : (left right : IrTree) → DoesCondition left → DoesCondition right → DoesCondition (Binary binary.Both left right)
  both_does left right does does_right true k lag values distance target is room small stands target_is near =
      let parts = both_true (is_condition l left) (is_condition l right) is in
      pair_done binary.Both false both_pair left right does does_right true k lag values distance target parts.0 parts.1 room small stands target_is near
  both_does left right does does_right false k lag values distance target is room small stands target_is near =
      let parts = both_true (is_condition l left) (is_condition l right) is in
      pair_done binary.Both false both_pair left right does does_right false k lag values distance target parts.0 parts.1 room small stands target_is near

  either_does : (left right : IrTree) → DoesCondition left → DoesCondition right → DoesCondition (Binary binary.Either left right)
  either_does left right does does_right true k lag values distance target is room small stands target_is near =
      let parts = both_true (is_condition l left) (is_condition l right) is in
      pair_done binary.Either true either_pair left right does does_right true k lag values distance target parts.0 parts.1 room small stands target_is near
  either_does left right does does_right false k lag values distance target is room small stands target_is near =
      let parts = both_true (is_condition l left) (is_condition l right) is in
      pair_done binary.Either true either_pair left right does does_right false k lag values distance target parts.0 parts.1 room small stands target_is near

  -- ---- the whole

  relation_condition : (mark : BinaryMark) (left right : IrTree) → is_relation mark ≡ true → (is_straight_mark mark && is_straight l left && is_straight l right) ≡ true → (sense : Bool) (k lag : ℕ) (values : List ℤ) (distance : ℤ) (target : ℕ)
      → length values + height_of (Binary mark left right) ≤ l.depth → lag + (weight_of left + weight_of right) < 2 ^ 31
      → StandHere code k (relation_code here.objects l reach (length values) mark left right sense lag distance)
      → pos target ≡ pos (k + length (relation_code here.objects l reach (length values) mark left right sense lag distance)) +ℤ distance → target ≤ 16777216
      → DoesIn code turns (one_if_met sense) (At k lag values) (value_meaning here called (Binary mark left right))
      (Leads_on target (k + length (relation_code here.objects l reach (length values) mark left right sense lag distance)) values sense)
  relation_condition mark left right relation is sense k lag values distance target room small stands target_is near =
      let parts = both_true (is_straight_mark mark && is_straight l left) (is_straight l right) is in
      let firsts = both_true (is_straight_mark mark) (is_straight l left) parts.0 in
      relation_does mark left right relation firsts.1 parts.1 sense k lag values distance target room small stands target_is near

  pub condition_does : (e : IrTree) → DoesCondition e
  condition_does (Not part) = not_does part (condition_does part)
  condition_does (Binary binary.Both left right) = both_does left right (condition_does left) (condition_does right)
  condition_does (Binary binary.Either left right) = either_does left right (condition_does left) (condition_does right)
  condition_does (Binary binary.Eq left right) = λ sense k lag values distance target is. relation_condition binary.Eq left right refl is sense k lag values distance target
  condition_does (Binary binary.Ne left right) = λ sense k lag values distance target is. relation_condition binary.Ne left right refl is sense k lag values distance target
  condition_does (Binary binary.Lt left right) = λ sense k lag values distance target is. relation_condition binary.Lt left right refl is sense k lag values distance target
  condition_does (Binary binary.Le left right) = λ sense k lag values distance target is. relation_condition binary.Le left right refl is sense k lag values distance target
  condition_does (Binary binary.Gt left right) = λ sense k lag values distance target is. relation_condition binary.Gt left right refl is sense k lag values distance target
  condition_does (Binary binary.Ge left right) = λ sense k lag values distance target is. relation_condition binary.Ge left right refl is sense k lag values distance target
  condition_does e = λ sense k lag values distance target is. value_does e is sense k lag values distance target
