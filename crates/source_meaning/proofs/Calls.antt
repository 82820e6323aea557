-- What a call of a function of the source does, by how deep it may be.
use Rattle.std.proofs.Common.{◌≡◌, ◌≢◌, ℕ, zero, suc, ◌-◌, List, refl, sym, ap, ◌∙◌, arith}
use Rattle.std.specs.Prelude.{pos, Ok, Some, None, slice_get}
use Rattle.c_typed.specs.declared.typed.Typed.{Typed}
use Rattle.c_typed.specs.declared.typed.TypedFunction.{TypedFunction}
use Rattle.source_runs.specs.declared.location.Given.{Given}
use Rattle.source_runs.specs.State.{Kept}
use Rattle.source_runs.specs.Runs.{gives, ◌>>=◌, ◌>>◌, changing}
use Rattle.source_runs.specs.Steps.{given_to_all}
use Rattle.source_runs.specs.Follows.{Follows}
use Rattle.source_runs.proofs.Following.{follows-gives, follows-as}
use Rattle.typed_meaning.specs.Observed.{returned, body_meaning, function_meaning, setting_of, called_at}

-- where no further function may be entered
pub too_deep : (depth : ℕ) (typed : Typed) (turns number : ℕ) (givens : List Given) (kept : Kept) → depth ≡ 0
    → Follows (called_at depth typed turns number givens) (Ok (pos 0)) kept kept
unfolding called_at
too_deep depth typed turns number givens kept is = rw is (follows-gives (pos 0) (pos 0) kept kept refl refl)

called-is : (depth : ℕ) (typed : Typed) (turns number : ℕ) (givens : List Given) → depth ≢ 0
    → called_at depth typed turns number givens ≡ function_meaning (setting_of typed turns) (called_at (depth - 1) typed turns) (slice_get typed.functions number) givens
unfolding called_at
called-is zero typed turns number givens some = absurd (some refl)
called-is (suc depth) typed turns number givens some =
    let less : suc depth - 1 ≡ depth = omega arith in
    ap (λ (d : ℕ). function_meaning (setting_of typed turns) (called_at d typed turns) (slice_get typed.functions number) givens) (sym less)

-- where there is no function of the number
pub no_function : (depth : ℕ) (typed : Typed) (turns number : ℕ) (givens : List Given) (kept : Kept) → depth ≢ 0 → slice_get typed.functions number ≡ None
    → Follows (called_at depth typed turns number givens) (Ok (pos 0)) kept kept
unfolding function_meaning
no_function depth typed turns number givens kept some is =
    follows-as _ _ _ _ _ (called-is depth typed turns number givens some ∙ ap (λ f. function_meaning (setting_of typed turns) (called_at (depth - 1) typed turns) f givens) is) (follows-gives _ _ _ _ refl refl)

-- where there is one
pub entered : (depth : ℕ) (typed : Typed) (turns number : ℕ) (givens : List Given) (function : TypedFunction) → depth ≢ 0 → slice_get typed.functions number ≡ Some function
    → called_at depth typed turns number givens
    ≡ (changing (given_to_all typed.objects function.params givens) >> body_meaning (setting_of typed turns) (called_at (depth - 1) typed turns) function.body
    >>= (λ flow. gives (returned function.gives flow)))
unfolding function_meaning
entered depth typed turns number givens function some is =
    called-is depth typed turns number givens some ∙ ap (λ f. function_meaning (setting_of typed turns) (called_at (depth - 1) typed turns) f givens) is
