use Rattle.std.proofs.Common.{◌≡◌, ◌<◌, ℕ, suc, ◌+◌, ◌-◌, ◌++◌, Bool, true, false, if◌then◌else◌, List, [], ◌∷◌, refl, sym, ap, ◌∙◌, arith, append_assoc}
use Rattle.std.proofs.lemmas.List.{append-nil}
use Rattle.operator_meaning.specs.declared.object.Object.{Object}
use Rattle.ir_cuts.specs.Cuts.{is_tracked, tracked_from}
use Rattle.ir_cuts.proofs.scope.Scope.with_block.Goals as goal
use Rattle.ir_cuts.proofs.scope.Scope.with_block.Goals.{then-is_tracked+in_ok-push, else-is_tracked}

abbrev if_tracked : Bool → ℕ → List ℕ
if_tracked t number = if t then number ∷ [] else []

joins : (t : Bool) (number : ℕ) (rest : List ℕ) → if_tracked t number ++ rest ≡ (if t then number ∷ rest else rest)
joins true number rest = refl
joins false number rest = refl

-- one object more, which is tracked or not
step : (objects : List Object) (number next total counter : ℕ) (t : Bool) (done new whole : List ℕ) → counter < total → next ≡ number + 1
    → t ≡ is_tracked objects number → new ≡ done ++ if_tracked t number → done ++ tracked_from objects number (total - counter) ≡ whole
    → new ++ tracked_from objects next (total - (counter + 1)) ≡ whole
step objects number next total counter t done new whole low after is more all =
    let one : total - counter ≡ suc (total - (counter + 1)) = omega arith in
    let rest = tracked_from objects (number + 1) (total - (counter + 1)) in
    ap (λ k. new ++ tracked_from objects k (total - (counter + 1))) after ∙ ap (λ ys. ys ++ rest) more ∙ append_assoc done (if_tracked t number) rest
    ∙ ap (λ ys. done ++ ys) (joins t number rest ∙ ap (λ b. if b then number ∷ rest else rest) is ∙ sym (ap (tracked_from objects number) one)) ∙ all

pub loop-preserved : goal.loop-preserved
loop-preserved c =
    let next = λ (t : Bool) (new : List ℕ). step c.args.self.now.objects.now c.loop.number c.in-Some.next c.args.objects c.loop.counter t c.loop.inner new (c.args.variables.now ++ tracked_from c.args.self.now.objects.now c.args.first c.args.objects) c.loop-test.true c.in-Some.ensures.1 in
    elim c.if-is_tracked.branch [
      | then-is_tracked+in_ok-push w ↦ next true c.if-is_tracked.inner (sym w.if-is_tracked.true ∙ c.is_tracked.ensures) (w.inner-is ∙ w.in_ok-push.ensures.ok) c.loop.invariant
      | else-is_tracked w ↦ next false c.if-is_tracked.inner (sym w.if-is_tracked.false ∙ c.is_tracked.ensures) (w.inner-is ∙ sym (append-nil c.loop.inner)) c.loop.invariant
    ]
