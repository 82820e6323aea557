-- Values that are evaluated in part: `&&`, `||` and `? :`.
use Rattle.std.proofs.Common.{◌≡◌, ℕ, ◌+◌, ◌^◌, ◌<◌, ◌≤◌, ℤ, pos, Bool, true, false, not, ◌&&◌, if◌then◌else◌, List, [], ◌∷◌, ◌++◌, length, length-append, append-nil, refl, sym, subst, arith}
use Rattle.std.specs.Ordering.{int_eq}
use Rattle.std.proofs.lemmas.Bool.Decides.{nat_tests}
use Rattle.std.proofs.lemmas.Int.{ints}
use Rattle.c_tree.specs.declared.expression.BinaryMark.TheVariants as binary
use Rattle.source_runs.specs.Marks.{truth, binary_meaning, both_meaning, decided as decided_by, decided_or}
use Rattle.source_runs.specs.Runs.{Run, gives, ◌>>=◌, chosen, choosing, holds}
use Rattle.source_runs.specs.State.{SourceState}
use Rattle.typed_meaning.specs.Expressions.{Setting, Called}
use Rattle.code_lines.specs.declared.word.Word.{Word}
use Rattle.code_lines.specs.Words.{StandHere, Code}
use Rattle.rv_encode.specs.State.{MachineState, Running}
use Rattle.code_lines.specs.Leading.{Leads}
use Rattle.code_lines.proofs.Leading.{leads_nowhere, leads_at_all, leads_least}
use Rattle.ir_arena.specs.Tree.{IrTree, Binary, Choose}
use Rattle.tree_meaning.specs.Trees.{value_meaning}
use Rattle.code_lines.specs.Pieces.{flush_code, IsNoCount}
use Rattle.code_jumps.specs.declared.branch.Test.TheVariants.{Unequal}
use Rattle.code_jumps.specs.Jumps.{is_near, reach_of}
use Rattle.code_runs.specs.Doing.{Bond, Comes, Does, side}
use Rattle.code_runs.proofs.Parts.{in_turn, later, moves_on}
use Rattle.code_stacks.specs.Places.{Layout, IsLaidOut}
use Rattle.code_stacks.specs.Agreement.{IsWith, With}
use Rattle.code_stacks.specs.Operands.{operand_register}
use Rattle.code_stacks.proofs.Operands.{first_stands, second_stands}
use Rattle.code_stacks.proofs.Registers.{operand_work, work_apart, work_below}
use Rattle.expression_code.specs.Code.{around, chosen_code, constant_code, counted_code, expression_code, fits_sixteen, over_code, pass_code, truth_code, truth_line, weight_of}
use Rattle.expression_code.specs.Laws.{AreScalars}
use Rattle.expression_code.specs.Straight.{is_light, is_number, is_straight, height_of}
use Rattle.expression_code.proofs.Computing.{computed}
use Rattle.expression_code.proofs.Deciding.{decided, flush_moves, leaves}
use Rattle.expression_code.proofs.Leaves.{DoesExpression, Valued, both_true, constant_does, some_height}
use Rattle.expression_code.proofs.Placing.{top_fits}
use Rattle.expression_code.proofs.Values.{tells}
use Rattle.code_runs.proofs.Steps.{passes_none}

pub no_count : (depth operand : ℕ) → IsNoCount (operand_register depth operand)
no_count depth operand =
    let work = operand_work depth operand in (
      work_apart (operand_register depth operand) 5 work refl,
      work_apart (operand_register depth operand) 6 work refl,
      work_below (operand_register depth operand) 24 work refl,
      work_below (operand_register depth operand) 25 work refl,
    )

pub no_zero : IsNoCount 0
no_zero = ((λ e. cc), (λ e. cc), (λ e. cc), (λ e. cc))

light : (weight : ℕ) → is_light weight ≡ true → weight < 2 ^ 31
light weight is = grind (arith, nat_tests)

module _ (code : Code) (turns : ℕ) (l : Layout) (laid : IsLaidOut code l) (here : Setting) (called : Called) (scalars : AreScalars here.objects l) where
  abbrev At : (k lag : ℕ) → List ℤ → Bond
  At k lag values = With here.objects l k lag values

  abbrev code_of : IrTree → ℕ → List Word
  code_of e depth = expression_code here.objects l e depth

  -- from values on the stack, code leaves one more, and the count lags behind as before
  abbrev Makes : List ℤ → List Word → Run ℤ → Type 0
  Makes values words run = (k lag : ℕ) → StandHere code k words → Does code turns (At k lag values) run (λ y. At (k + length words) lag (values ++ y ∷ []))

  -- ---- what is chosen

  module _ (cond : IrTree) (does : DoesExpression code turns l laid here called scalars cond) (this other : List Word) (run run2 : Run ℤ) (values : List ℤ) (next : ℤ → Run ℤ)
      (holding : (x : ℤ) → holds x ≡ true → next x ≡ run) (failing : (x : ℤ) → holds x ≡ false → next x ≡ run2) (makes : Makes values this run) (makes_other : Makes values other run2) where
    abbrev over : List Word
    over = over_code l (length values) (weight_of cond) (length (this ++ pass_code (length other)))

    abbrev ends : (k lag : ℕ) → ℤ → Bond
    ends k lag y = At k lag (values ++ y ∷ [])

    -- the first branch, and the jump over the second
    first_does : (k lag : ℕ) → StandHere code k ((this ++ pass_code (length other)) ++ other) → Does code turns (At k lag values) run (ends (k + length ((this ++ pass_code (length other)) ++ other)) lag)
    first_does k lag stands =
        let pass = pass_code (length other) in
        let place = k + length ((this ++ pass) ++ other) in
        let near = stands.within in
        let one = first_stands code k (this ++ pass) other stands in
        let whole : place ≡ k + length this + length (flush_code 0 ++ pass) + length other = omega (arith, length-append (this ++ pass) other, length-append this pass) in
        moves_on code turns (At k lag values) run (ends (k + length this) lag) (ends place lag) (makes k lag (first_stands code k this pass one))
        (λ y s m at.
        let bare = subst (λ v. IsWith here.objects l (k + length this) lag v s m) (sym (append-nil (values ++ y ∷ []))) at in
        let to = leaves code here.objects l laid (k + length this) lag lag 0 (values ++ y ∷ []) [] (is_near (length other)) (pos (length other)) place s m (omega arith) (omega arith) (second_stands code k this pass one)
        (omega (arith, ints, whole)) near bare in
        (to.0, leads_at_all code 1 (Running m) (Running to.0) to.1, to.2))

    second_does : (k lag : ℕ) → StandHere code k ((this ++ pass_code (length other)) ++ other) → Does code turns (At (k + length (this ++ pass_code (length other))) lag values) run2 (ends (k + length ((this ++ pass_code (length other)) ++ other)) lag)
    second_does k lag stands =
        let first = this ++ pass_code (length other) in
        let whole : k + length first + length other ≡ k + length (first ++ other) = omega (arith, length-append first other) in
        subst (λ e. Does code turns (At (k + length first) lag values) run2 (ends e lag)) whole (makes_other (k + length first) lag (second_stands code k first other stands))

    by : (b : Bool) (x : ℤ) (k lag : ℕ) (s : SourceState) (m : MachineState) → holds x ≡ b → StandHere code k ((this ++ pass_code (length other)) ++ other)
        → side (At (k + length (this ++ pass_code (length other))) lag values) (At k lag values) (not b) s m → Comes code turns (Running m) s.sites (λ y. 0) (ends (k + length ((this ++ pass_code (length other)) ++ other)) lag) (next x s)
    by true x k lag s m is stands at = subst (λ r. Comes code turns (Running m) s.sites (λ y. 0) (ends (k + length ((this ++ pass_code (length other)) ++ other)) lag) (r s)) (sym (holding x is)) (first_does k lag stands s m at)
    by false x k lag s m is stands at = subst (λ r. Comes code turns (Running m) s.sites (λ y. 0) (ends (k + length ((this ++ pass_code (length other)) ++ other)) lag) (r s)) (sym (failing x is)) (second_does k lag stands s m at)

    pub choice_does : (k lag : ℕ) → is_straight l cond ≡ true → length values + height_of cond ≤ l.depth → is_light (weight_of cond) ≡ true
        → StandHere code k (chosen_code l (length values) (weight_of cond) (code_of cond (length values)) this other)
        → Does code turns (At k lag values) (value_meaning here called cond >>= next) (ends (k + length (chosen_code l (length values) (weight_of cond) (code_of cond (length values)) this other)) lag)
    choice_does k lag straight room small stands =
        let depth = length values in
        let xs = code_of cond depth in
        let first = this ++ pass_code (length other) in
        let rest = over ++ (first ++ other) in
        let at_over = k + length xs in
        let at_first = at_over + length over in
        let end = k + length (xs ++ rest) in
        let whole : at_first + length (first ++ other) ≡ end = omega (arith, length-append xs rest, length-append over (first ++ other)) in
        let standing = second_stands code k xs rest stands in
        let branches = second_stands code at_over over (first ++ other) standing in
        let bound = branches.within in
        let near : at_first + length first ≤ 16777216 = omega (arith, length-append first other) in
        in_turn code turns (At k lag values) (value_meaning here called cond) (Valued code turns l laid here called scalars at_over (lag + weight_of cond) values cond) next (ends end lag)
        (does k lag values straight room (first_stands code k xs rest stands))
        (λ x s m valued.
        let leads = decided code here.objects l laid (reach_of (length first)) false Unequal (operand_register depth 0) 0 at_over (lag + weight_of cond) lag (weight_of cond) values (x ∷ []) x (pos 0) (pos (length first)) (at_first + length first) s m
        (omega arith) (omega (arith, some_height cond)) refl (light (weight_of cond) small) (no_count depth 0) no_zero (λ v are zero. (are 0 (omega arith), zero)) (first_stands code at_over over (first ++ other) standing) (omega (arith, ints)) near valued.0 in
        later code 0 turns turns s.sites s.sites (Running m) leads.0 (λ y. 0) (λ y. 0) (ends end lag) (next x s) (omega arith) (λ y. omega arith) (passes_none code 0 s.sites (Running m) (Running leads.0) (leads_least code (if not (holds x) then 1 else 0) 0 (Running m) (Running leads.0) (omega arith) leads.1))
        (subst (λ e. Comes code turns (Running leads.0) s.sites (λ y. 0) (ends e lag) (next x s)) whole (by (holds x) x at_first lag s leads.0 refl branches leads.2)))

  -- ---- what is chosen from

  counted_makes : (e : IrTree) (values : List ℤ) → DoesExpression code turns l laid here called scalars e → is_straight l e ≡ true → length values + height_of e ≤ l.depth → is_light (weight_of e) ≡ true
      → Makes values (counted_code (code_of e (length values)) (weight_of e)) (value_meaning here called e)
  counted_makes e values does straight room small k lag stands =
      let xs = code_of e (length values) in
      let flush = flush_code (weight_of e) in
      let whole : k + length xs + length flush ≡ k + length (xs ++ flush) = omega (arith, length-append xs flush) in
      moves_on code turns (At k lag values) (value_meaning here called e) (Valued code turns l laid here called scalars (k + length xs) (lag + weight_of e) values e) (λ y. At (k + length (xs ++ flush)) lag (values ++ y ∷ []))
      (does k lag values straight room (first_stands code k xs flush stands))
      (λ y s m valued.
      subst (λ n. (u : MachineState) × Leads code (Running m) (Running u) × At n lag (values ++ y ∷ []) s u) whole
      (flush_moves code here.objects l laid (k + length xs) (lag + weight_of e) lag (weight_of e) (values ++ y ∷ []) refl (light (weight_of e) small) (second_stands code k xs flush stands) s m valued.0))

  constant_makes : (value : ℤ) (values : List ℤ) → is_number value ≡ true → length values + 1 ≤ l.depth → Makes values (constant_code l value (length values)) (gives value)
  constant_makes value values number room k lag stands s m at =
      let made = constant_does code turns l laid here called scalars value k lag values number room stands s m at in
      let same : lag + 0 ≡ lag = omega arith in
      (made.0, made.1, subst (λ n. IsWith here.objects l (k + length (constant_code l value (length values))) n (values ++ value ∷ []) s made.0) same made.2.0)

  truth_makes : (e : IrTree) (values : List ℤ) (next : ℤ → Run ℤ) → ((y : ℤ) → next y ≡ gives (truth (not (int_eq y (pos 0))))) → DoesExpression code turns l laid here called scalars e → is_straight l e ≡ true → length values + height_of e ≤ l.depth
      → is_light (weight_of e) ≡ true → Makes values (truth_code l (length values) (code_of e (length values)) (weight_of e)) (value_meaning here called e >>= next)
  truth_makes e values next is does straight room small k lag stands =
      let depth = length values in
      let xs = counted_code (code_of e depth) (weight_of e) in
      let line = around l depth 1 (truth_line depth) in
      let place = k + length (xs ++ line) in
      let whole : k + length xs + length line ≡ place = omega (arith, length-append xs line) in
      in_turn code turns (At k lag values) (value_meaning here called e) (λ y. At (k + length xs) lag (values ++ y ∷ [])) next (λ y. At place lag (values ++ y ∷ []))
      (counted_makes e values does straight room small k lag (first_stands code k xs line stands))
      (λ y s m at.
      let z = truth (not (int_eq y (pos 0))) in
      let told = computed code here.objects l laid (k + length xs) lag values (y ∷ []) z (truth_line depth) s m (omega arith) (omega (arith, some_height e)) (omega (arith, some_height e)) (second_stands code k xs line stands) at
      (tells code here.objects l laid depth s.kept.overflow y (top_fits code here.objects l laid (k + length xs) lag values y s m at)) in
      subst (λ r. Comes code turns (Running m) s.sites (λ v. 0) (λ v. At place lag (values ++ v ∷ [])) (r s)) (sym (is y))
      (told.0, passes_none code 0 s.sites (Running m) (Running told.0) told.1, subst (λ n. IsWith here.objects l n lag (values ++ z ∷ []) s told.0) whole told.2))

  -- ---- the three

  -- a value that no form of an expression shows to have 16 bits
  shown_by : (e : IrTree) (place lag : ℕ) (values : List ℤ) (run : Run ℤ) (before : Bond) → fits_sixteen here.objects e ≡ false → Does code turns before run (λ y. At place lag (values ++ y ∷ []))
      → Does code turns before run (Valued code turns l laid here called scalars place (lag + 0) values e)
  shown_by e place lag values run before shows does =
      let same : lag ≡ lag + 0 = omega arith in
      moves_on code turns before run (λ y. At place lag (values ++ y ∷ [])) (Valued code turns l laid here called scalars place (lag + 0) values e) does
      (λ y s m at. (m, leads_nowhere code (Running m), (subst (λ n. IsWith here.objects l place n (values ++ y ∷ []) s m) same at, λ shown. absurd (let f = shown in let g = shows in cc))))

  module _ (left right : IrTree) (does : DoesExpression code turns l laid here called scalars left) (does_right : DoesExpression code turns l laid here called scalars right) where
    pub both_does : DoesExpression code turns l laid here called scalars (Binary binary.Both left right)
    unfolding binary_meaning both_meaning
    both_does k lag values straight room stands =
        let parts = both_true ((is_light (weight_of left) && is_light (weight_of right)) && is_straight l left) (is_straight l right) straight in
        let firsts = both_true (is_light (weight_of left) && is_light (weight_of right)) (is_straight l left) parts.0 in
        let small = both_true (is_light (weight_of left)) (is_light (weight_of right)) firsts.0 in
        let this = truth_code l (length values) (code_of right (length values)) (weight_of right) in
        let other = constant_code l (pos 0) (length values) in
        let place = k + length (code_of (Binary binary.Both left right) (length values)) in
        shown_by (Binary binary.Both left right) place lag values (value_meaning here called (Binary binary.Both left right)) (At k lag values) refl
        (choice_does left does this other (value_meaning here called right >>= both_meaning binary.Both 0 (pos 0)) (gives (pos 0)) values (λ x. decided_or (decided_by binary.Both x) (value_meaning here called right >>= both_meaning binary.Both 0 x))
        (λ x is. rw is refl) (λ x is. rw is refl)
        (truth_makes right values (both_meaning binary.Both 0 (pos 0)) (λ y. refl) does_right parts.1 (omega arith) small.1)
        (constant_makes (pos 0) values refl (omega (arith, some_height left)))
        k lag firsts.1 (omega arith) small.0 stands)

    pub either_does : DoesExpression code turns l laid here called scalars (Binary binary.Either left right)
    unfolding binary_meaning both_meaning
    either_does k lag values straight room stands =
        let parts = both_true ((is_light (weight_of left) && is_light (weight_of right)) && is_straight l left) (is_straight l right) straight in
        let firsts = both_true (is_light (weight_of left) && is_light (weight_of right)) (is_straight l left) parts.0 in
        let small = both_true (is_light (weight_of left)) (is_light (weight_of right)) firsts.0 in
        let this = constant_code l (pos 1) (length values) in
        let other = truth_code l (length values) (code_of right (length values)) (weight_of right) in
        let place = k + length (code_of (Binary binary.Either left right) (length values)) in
        shown_by (Binary binary.Either left right) place lag values (value_meaning here called (Binary binary.Either left right)) (At k lag values) refl
        (choice_does left does this other (gives (pos 1)) (value_meaning here called right >>= both_meaning binary.Either 0 (pos 0)) values (λ x. decided_or (decided_by binary.Either x) (value_meaning here called right >>= both_meaning binary.Either 0 x))
        (λ x is. rw is refl) (λ x is. rw is refl)
        (constant_makes (pos 1) values refl (omega (arith, some_height left)))
        (truth_makes right values (both_meaning binary.Either 0 (pos 0)) (λ y. refl) does_right parts.1 (omega arith) small.1)
        k lag firsts.1 (omega arith) small.0 stands)

  pub choose_does : (cond this other : IrTree) → DoesExpression code turns l laid here called scalars cond → DoesExpression code turns l laid here called scalars this → DoesExpression code turns l laid here called scalars other
      → DoesExpression code turns l laid here called scalars (Choose cond this other)
  unfolding choosing
  choose_does cond this other does does_this does_other k lag values straight room stands =
      let parts = both_true (is_light (weight_of cond) && is_straight l cond) ((is_light (weight_of this) && is_straight l this) && (is_light (weight_of other) && is_straight l other)) straight in
      let first = both_true (is_light (weight_of cond)) (is_straight l cond) parts.0 in
      let rest = both_true (is_light (weight_of this) && is_straight l this) (is_light (weight_of other) && is_straight l other) parts.1 in
      let second = both_true (is_light (weight_of this)) (is_straight l this) rest.0 in
      let third = both_true (is_light (weight_of other)) (is_straight l other) rest.1 in
      let place = k + length (code_of (Choose cond this other) (length values)) in
      shown_by (Choose cond this other) place lag values (value_meaning here called (Choose cond this other)) (At k lag values) refl
      (choice_does cond does (counted_code (code_of this (length values)) (weight_of this)) (counted_code (code_of other (length values)) (weight_of other)) (value_meaning here called this) (value_meaning here called other) values
      (λ x. chosen (holds x) (value_meaning here called this) (value_meaning here called other)) (λ x is. rw is refl) (λ x is. rw is refl)
      (counted_makes this values does_this second.1 (omega arith) second.0) (counted_makes other values does_other third.1 (omega arith) third.0)
      k lag first.1 (omega arith) first.0 stands)
