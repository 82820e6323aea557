-- Statements in a list and turns of a loop, a step at a time.
use Rattle.std.proofs.Common.{◌≡◌, ◌≢◌, ◌⊎◌, inl, inr, refl, ℕ, suc, ◌+◌, ◌-◌, ◌<◌, ◌≤◌, List, length, drop, get_or, map, sym, ap, ◌∙◌, arith}
use Rattle.std.proofs.lemmas.List.{at_drop_more}
use Rattle.std.specs.Prelude.{ℤ, Result, Ok, Err, Option, Some, None}
use Rattle.std.specs.Option.{unwrap_or}
use Rattle.sat_base.specs.declared.name.At.{At}
use Rattle.c_typed.specs.declared.expression.TypedExpr.{TypedExpr}
use Rattle.c_typed.specs.declared.statement.TypedStmt.{TypedStmt}
use Rattle.c_typed.specs.declared.statement.TypedStmt.TheVariants as statement
use Rattle.source_runs.specs.declared.halt.Flow.{Flow}
use Rattle.source_runs.specs.declared.halt.Flow.TheVariants.{Normal, Break, Continue, Return}
use Rattle.source_runs.specs.declared.halt.Halt.{Halt}
use Rattle.source_runs.specs.declared.halt.Halt.TheVariants.{Going}
use Rattle.source_runs.specs.State.{Kept}
use Rattle.source_runs.specs.Runs.{Run, gives, ◌>>=◌, ◌>>◌, choosing}
use Rattle.source_runs.specs.Loops.{after_statement, in_sequence, after_body, turns_of}
use Rattle.source_runs.specs.Follows.{Follows}
use Rattle.source_runs.proofs.Following.{follows-as, follows-gives}
use Rattle.source_runs.proofs.Turning.{in_sequence-next, turns_of-next, follows-going}
use Rattle.typed_meaning.specs.Expressions.{Setting, Called, expression_meaning}
use Rattle.typed_meaning.specs.Statements.{statement_meaning, option_of}
use Rattle.typed_meaning.proofs.Statements.{statement-If, statement-Else}

-- an `if` with or without an `else`
pub if-is : (here : Setting) (called : Called) (at : At) (cond : TypedExpr) (this : TypedStmt) (other : Option TypedStmt)
    → statement_meaning here called (statement.If at cond this other) ≡ choosing (expression_meaning here called cond) (statement_meaning here called this) (unwrap_or (option_of (statement_meaning here called) other) (gives Normal))
if-is here called at cond this None = statement-If here called at cond this
if-is here called at cond this (Some other) = statement-Else here called at cond this other

-- what a statement that is not left to the next one leaves
pub left_early : (next : Run Flow) (flow : Flow) (kept : Kept) → flow ≢ Normal → Follows (after_statement next flow) (Ok flow) kept kept
left_early next Normal kept is_not = absurd (is_not refl)
left_early next Break kept is_not = follows-gives Break Break kept kept refl refl
left_early next Continue kept is_not = follows-gives Continue Continue kept kept refl refl
left_early next (Return value) kept is_not = follows-gives (Return value) (Return value) kept kept refl refl

-- a turn that is not left early goes on to what ends it
pub goes_on : (next : Run Flow) (flow : Flow) (r : Result Flow Halt) (before after : Kept) → (flow ≡ Normal) ⊎ (flow ≡ Continue) → Follows next r before after → Follows (after_body next flow) r before after
goes_on next flow r before after (inl is) one = rw is one
goes_on next flow r before after (inr is) one = rw is one

-- the next statement of several
pub in_sequence_step : {X : Type 0} (f : X → Run Flow) (xs : List X) (i : ℕ) (x : X) → i < length xs → x ≡ get_or xs i x
    → in_sequence (map f (drop i xs)) ≡ (f x >>= after_statement (in_sequence (map f (drop (i + 1) xs))))
in_sequence_step f xs i x within is =
    at_drop_more (λ ys. in_sequence (map f ys)) xs i x within
    ∙ in_sequence-next (f (get_or xs i x)) (map f (drop (i + 1) xs))
    ∙ ap (λ y. f y >>= after_statement (in_sequence (map f (drop (i + 1) xs)))) (sym is)

-- the next turn, where so many have begun
pub turn_step : (turns begun : ℕ) (condition : Run ℤ) (last : Run (Unit {0})) (body : Run Flow) → begun < turns
    → turns_of (turns - begun) condition last body ≡ (body >>= after_body (last >> choosing condition (turns_of (turns - (begun + 1)) condition last body) (gives Normal)))
turn_step turns begun condition last body left =
    let next : turns - begun ≡ suc (turns - (begun + 1)) = omega arith in
    ap (λ (n : ℕ). turns_of n condition last body) next ∙ turns_of-next (turns - (begun + 1)) condition last body

-- all that may begin have begun
pub no_turn_left : (turns begun : ℕ) (condition : Run ℤ) (last : Run (Unit {0})) (body : Run Flow) (kept : Kept) → turns ≤ begun
    → Follows (turns_of (turns - begun) condition last body) (Err Going) kept kept
no_turn_left turns begun condition last body kept none =
    let next : turns - begun ≡ 0 = omega arith in
    follows-as _ _ _ _ _ (ap (λ (n : ℕ). turns_of n condition last body) next) (follows-going condition last body kept)
