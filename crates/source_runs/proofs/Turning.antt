-- Lists of runs and turns of loops, a step at a time.
use Rattle.std.proofs.Common.{◌≡◌, ℕ, suc, ◌++◌, ◌∷◌, [], List, refl}
use Rattle.std.specs.Prelude.{ℤ, Err}
use Rattle.source_runs.specs.declared.halt.Flow.{Flow}
use Rattle.source_runs.specs.declared.halt.Flow.TheVariants.{Normal}
use Rattle.source_runs.specs.declared.halt.Halt.TheVariants.{Going}
use Rattle.source_runs.specs.State.{Kept}
use Rattle.source_runs.specs.Runs.{Run, gives, ◌>>=◌, ◌>>◌, choosing, gathered, all_of}
use Rattle.source_runs.specs.Loops.{after_statement, in_sequence, after_body, going_on, turns_of, looping}
use Rattle.source_runs.specs.Follows.{Follows}

pub gathered-end : {A : Type 0} (done : List A) → gathered done [] ≡ gives done
unfolding gathered
gathered-end done = refl

pub gathered-next : {A : Type 0} (done : List A) (first : Run A) (more : List (Run A)) → gathered done (first ∷ more) ≡ (first >>= (λ a. gathered (done ++ a ∷ []) more))
unfolding gathered
gathered-next done first more = refl

pub all_of-end : all_of [] ≡ gives tt
unfolding all_of
all_of-end = refl

pub all_of-next : (first : Run (Unit {0})) (more : List (Run (Unit {0}))) → all_of (first ∷ more) ≡ (first >> all_of more)
unfolding all_of
all_of-next first more = refl

pub in_sequence-end : in_sequence [] ≡ gives Normal
unfolding in_sequence
in_sequence-end = refl

pub in_sequence-next : (first : Run Flow) (more : List (Run Flow)) → in_sequence (first ∷ more) ≡ (first >>= after_statement (in_sequence more))
unfolding in_sequence
in_sequence-next first more = refl

pub turns_of-next : (turns : ℕ) (condition : Run ℤ) (last : Run (Unit {0})) (body : Run Flow)
    → turns_of (suc turns) condition last body ≡ (body >>= after_body (last >> choosing condition (turns_of turns condition last body) (gives Normal)))
unfolding turns_of
turns_of-next turns condition last body = refl

pub looping-is : (turns : ℕ) (condition : Run ℤ) (last : Run (Unit {0})) (body : Run Flow) → looping turns condition last body ≡ choosing condition (turns_of turns condition last body) (gives Normal)
unfolding looping
looping-is turns condition last body = refl

-- no turn is left
pub follows-going : (condition : Run ℤ) (last : Run (Unit {0})) (body : Run Flow) (kept : Kept) → Follows (turns_of 0 condition last body) (Err Going) kept kept
unfolding turns_of going_on
follows-going condition last body kept = record { from = λ sites. refl }
