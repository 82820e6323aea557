-- The walks of the examples, step by step.
use Rattle.std.proofs.Common.{◌≡◌, ℕ, zero, suc, true, false, List, [], ◌∷◌, ◌++◌, refl, sym, ap, subst, ◌∙◌, inl, inr, append_assoc}
use Rattle.std.proofs.lemmas.List.{append-nil}
use Rattle.tree_walks.specs.Ways.{Way, PartExit, Through, Underway, left, not_left, taken, not_yet, stays, goes_on, turns, unfinished, IsOut, broken, continued, returned, underway, Takes, Then, nothing}
use Rattle.register_allocation.specs.Steps.{VariableStep, VariablePoint, ReadsVariable, WritesVariables, uses_of, uses_of_function}
use Rattle.register_allocation.specs.Live.{ReadsFirst, read_now, read_later, IsLive}
use Rattle.register_allocation.specs.Laws.{sample_out_of, set_to_one, in_braces, two_parameters, beginning_of, AreExamples}

-- ---- what is one list of steps, or a front of it

record IsFrontOf (full steps : List VariableStep) (exit : PartExit) : Type 0 where
  pub rest : List VariableStep
  pub front : steps ++ rest ≡ full
  pub ends : exit ≡ Through → rest ≡ []

abbrev IsStraight : Way VariableStep → List VariableStep → Type 0
IsStraight way full = (steps : List VariableStep) (exit : PartExit) → way steps exit → IsFrontOf full steps exit

straight-nothing : IsStraight nothing []
straight-nothing steps exit (none, _) = record { rest = []; front = append-nil steps ∙ none; ends = λ _. refl }

straight-takes : (step : VariableStep) → IsStraight (Takes step) (step ∷ [])
straight-takes step _ exit (taken _) = record { rest = []; front = refl; ends = λ _. refl }
straight-takes step _ _ not_yet = record { rest = step ∷ []; front = refl; ends = λ no. cc }

not-out : (exit : PartExit) → IsOut exit → exit ≡ Through → ⊥
not-out _ broken is = cc
not-out _ continued is = cc
not-out _ returned is = cc
not-out _ underway is = cc

straight-then : {first second : Way VariableStep} (one other : List VariableStep) → IsStraight first one → IsStraight second other → IsStraight (Then first second) (one ++ other)
straight-then one other is next _ _ (stays {steps} {exit} way out) =
    let this = is steps exit way in
    record { rest = this.rest ++ other; front = sym (append_assoc steps this.rest other) ∙ ap (λ xs. xs ++ other) this.front; ends = λ through. absurd (not-out exit out through) }
straight-then one other is next _ _ (goes_on {steps} {more} {exit} way onward) =
    let this = is steps Through way in
    let that = next more exit onward in
    let all : steps ≡ one = sym (append-nil steps) ∙ ap (λ xs. steps ++ xs) (sym (this.ends refl)) ∙ this.front in
    record { rest = that.rest; front = append_assoc steps more that.rest ∙ ap (λ xs. xs ++ (more ++ that.rest)) all ∙ ap (λ xs. one ++ xs) that.front; ends = that.ends }

reads-more : (variable : ℕ) (steps rest : List VariableStep) → ReadsFirst variable steps → ReadsFirst variable (steps ++ rest)
reads-more variable _ rest (read_now {later}) = read_now
reads-more variable _ rest (read_later {step} {later} keep after) = read_later keep (reads-more variable later rest after)

live-straight : (variable : ℕ) (point : VariablePoint) (full : List VariableStep) → IsStraight point.onward full → IsLive variable point → ReadsFirst variable full
live-straight variable point full straight (steps, exit, way, first) =
    let front = straight steps exit way in
    subst (λ (xs : List VariableStep). ReadsFirst variable xs) front.front (reads-more variable steps front.rest first)

-- ---- the examples

here : nothing {Step = VariableStep} [] Through
here = (refl, left)

read : (object : ℕ) → Then nothing (Takes (ReadsVariable object)) (ReadsVariable object ∷ []) Through
read object = goes_on here (taken left)

reading : (object : ℕ) → Then nothing (Takes (ReadsVariable object)) (ReadsVariable object ∷ []) Underway
reading object = goes_on here (taken not_left)

straight-read : (object : ℕ) → IsStraight (Then nothing (Takes (ReadsVariable object))) (ReadsVariable object ∷ [])
straight-read object = straight-then [] (ReadsVariable object ∷ []) straight-nothing (straight-takes (ReadsVariable object))

straight-write : IsStraight (Then nothing (Then nothing (Then nothing (Takes (WritesVariables (0 ∷ [])))))) (WritesVariables (0 ∷ []) ∷ [])
straight-write =
    straight-then [] (WritesVariables (0 ∷ []) ∷ []) straight-nothing
    (straight-then [] (WritesVariables (0 ∷ []) ∷ []) straight-nothing (straight-then [] (WritesVariables (0 ∷ []) ∷ []) straight-nothing (straight-takes (WritesVariables (0 ∷ [])))))

-- `{ a = 1; sample_out(a); }`
abbrev written : List VariableStep
written = WritesVariables [] ∷ WritesVariables (0 ∷ []) ∷ ReadsVariable 0 ∷ []

dead : ReadsFirst 0 written → ⊥
dead (read_later _ (read_later kept _)) = let no : true ≡ false = kept in cc

-- two parameters, from before they are given
abbrev entered : List VariableStep
entered = WritesVariables (0 ∷ 1 ∷ []) ∷ WritesVariables [] ∷ ReadsVariable 0 ∷ ReadsVariable 1 ∷ []

not-yet-live : ReadsFirst 0 entered → ⊥
not-yet-live (read_later kept _) = let no : true ≡ false = kept in cc

pub examples : AreExamples
examples = record {
  live_around_a_loop = inr (inr (inr (inr (inr (inr (inr (inr (inl (inl (
    (
      ReadsVariable 1 ∷ WritesVariables [] ∷ ReadsVariable 0 ∷ [],
      Underway,
      (suc zero, turns (goes_on here (goes_on (read 1) here)) (goes_on here (goes_on (goes_on here here) (inr (unfinished (goes_on (taken left) (goes_on here (stays (reading 0) underway)))))))),
      read_later refl (read_later refl read_now),
    ),
    inr refl,
  ))))))))));
  dead_before_a_write = λ live.
      dead (live-straight 0 (beginning_of (uses_of (in_braces (set_to_one 0 ∷ sample_out_of 0 ∷ [])))) written
      (straight-then (WritesVariables [] ∷ []) (WritesVariables (0 ∷ []) ∷ ReadsVariable 0 ∷ []) (straight-takes (WritesVariables []))
      (straight-then [] (WritesVariables (0 ∷ []) ∷ ReadsVariable 0 ∷ []) straight-nothing
      (straight-then (WritesVariables (0 ∷ []) ∷ []) (ReadsVariable 0 ∷ []) straight-write (straight-then (ReadsVariable 0 ∷ []) [] (straight-read 0) straight-nothing)))) live);
  live_together = inr (inl (inl (
    (WritesVariables [] ∷ ReadsVariable 0 ∷ [], Underway, goes_on here (goes_on (taken left) (goes_on here (stays (reading 0) underway))), read_later refl read_now),
    inl (WritesVariables [] ∷ ReadsVariable 0 ∷ ReadsVariable 1 ∷ [], Underway, goes_on here (goes_on (taken left) (goes_on here (goes_on (read 0) (stays (reading 1) underway)))), read_later refl (read_later refl read_now)),
  )));
  written_at_entry = λ live.
      not-yet-live (live-straight 0 (beginning_of (uses_of_function two_parameters)) entered
      (straight-then (WritesVariables (0 ∷ 1 ∷ []) ∷ []) (WritesVariables [] ∷ ReadsVariable 0 ∷ ReadsVariable 1 ∷ []) (straight-takes (WritesVariables (0 ∷ 1 ∷ [])))
      (straight-then (WritesVariables [] ∷ []) (ReadsVariable 0 ∷ ReadsVariable 1 ∷ []) (straight-takes (WritesVariables []))
      (straight-then [] (ReadsVariable 0 ∷ ReadsVariable 1 ∷ []) straight-nothing
      (straight-then (ReadsVariable 0 ∷ []) (ReadsVariable 1 ∷ []) (straight-read 0) (straight-then (ReadsVariable 1 ∷ []) [] (straight-read 1) straight-nothing))))) live);
  live_across_a_call = inr (inr (inr (inr (inl ((0, refl), (ReadsVariable 0 ∷ [], Underway, goes_on here (stays (reading 0) underway), read_now))))));
}
