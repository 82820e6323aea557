-- Runs that go on from others: one lemma for each way in which runs are put together.
use Rattle.std.proofs.Common.{◌≡◌, ℕ, zero, suc, ◌≤◌, List, [], ◌∷◌, ◌++◌, map, Bool, true, false, refl, sym, ap, ◌∙◌, append_assoc, arith}
use Rattle.std.proofs.lemmas.List.{append-nil}
use Rattle.std.specs.Prelude.{ℤ, Option, Some, None}
use Rattle.source_runs.specs.declared.halt.Flow.{Flow}
use Rattle.source_runs.specs.declared.halt.Flow.TheVariants.{Normal, Break, Continue, Return}
use Rattle.source_runs.specs.State.{Kept, SourceState}
use Rattle.source_runs.specs.Runs.{Run, Outcome, Gives, Stops, Goes, state_after, gives, continued, ◌>>=◌, ◌>>◌, reading, changing, at_site, found, chosen, choosing, holds, gathered, all_of}
use Rattle.source_runs.specs.Loops.{after_statement, in_sequence, after_body, going_on, turns_of, looping}

-- ---- states one after the other

abbrev pub Begins : {A : Type 0} → List A → List A → Type 0
Begins {A} front whole = (rest : List A) × (whole ≡ front ++ rest)

-- what was written and evaluated before stays
pub record Before (s t : SourceState) : Type 0 where
  pub output : Begins s.kept.output t.kept.output
  pub sites : Begins s.sites t.sites

begins-itself : {A : Type 0} (xs : List A) → Begins xs xs
begins-itself xs = ([], sym (append-nil xs))

begins-trans : {A : Type 0} (xs ys zs : List A) → Begins xs ys → Begins ys zs → Begins xs zs
begins-trans xs ys zs one two = (one.0 ++ two.0, two.1 ∙ ap (λ l. l ++ two.0) one.1 ∙ append_assoc xs one.0 two.0)

pub before-itself : (s : SourceState) → Before s s
before-itself s = record { output = begins-itself s.kept.output; sites = begins-itself s.sites }

pub before-trans : (s t u : SourceState) → Before s t → Before t u → Before s u
before-trans s t u one two =
    record { output = begins-trans s.kept.output t.kept.output u.kept.output one.output two.output; sites = begins-trans s.sites t.sites u.sites one.sites two.sites }

-- ---- outcomes and runs

-- The other outcome is the same where this one is over, and else it goes on from it.
abbrev pub Continues : {A : Type 0} → Outcome A → Outcome A → Type 0
Continues (Gives a s) other = other ≡ Gives a s
Continues (Stops site s) other = other ≡ Stops site s
Continues (Goes s) other = Before s (state_after other)

pub record Extends {A : Type 0} (run longer : Run A) : Type 0 where
  pub continues : (s : SourceState) → Continues (run s) (longer s)
  pub grows : (s : SourceState) → Before s (state_after (longer s))

continues-itself : {A : Type 0} (outcome : Outcome A) → Continues outcome outcome
continues-itself (Gives a s) = refl
continues-itself (Stops site s) = refl
continues-itself (Goes s) = before-itself s

pub extends-itself : {A : Type 0} (run : Run A) → ((s : SourceState) → Before s (state_after (run s))) → Extends run run
extends-itself run grows = record { continues = λ s. continues-itself (run s); grows = grows }

pub extends-as : {A : Type 0} (run longer other farther : Run A) → run ≡ other → longer ≡ farther → Extends other farther → Extends run longer
extends-as run longer other farther one two is = rw (one, two) is

-- ---- the last step

pub extends-gives : {A : Type 0} (a : A) → Extends (gives a) (gives a)
extends-gives a = extends-itself (gives a) before-itself

pub extends-reading : {A : Type 0} (of : Kept → A) → Extends (reading of) (reading of)
unfolding reading
extends-reading of = extends-itself (reading of) before-itself

pub extends-changing : (to : Kept → Kept) → ((kept : Kept) → Begins kept.output (to kept).output) → Extends (changing to) (changing to)
unfolding changing
extends-changing to grows = extends-itself (changing to) (λ s. record { output = grows s.kept; sites = begins-itself s.sites })

pub extends-keeping : (to : Kept → Kept) → ((kept : Kept) → (to kept).output ≡ kept.output) → Extends (changing to) (changing to)
extends-keeping to same = extends-changing to (λ kept. ([], same kept ∙ sym (append-nil kept.output)))

site-grows : {A : Type 0} (site : ℕ) (value : Option A) (s : SourceState) → Before s (state_after (at_site site value s))
unfolding at_site
site-grows site (Some a) s = record { output = begins-itself s.kept.output; sites = (site ∷ [], refl) }
site-grows site None s = record { output = begins-itself s.kept.output; sites = (site ∷ [], refl) }

pub extends-site : {A : Type 0} (site : ℕ) (value : Option A) → Extends (at_site site value) (at_site site value)
extends-site site value = extends-itself (at_site site value) (site-grows site value)

-- ---- one after the other

continued-grows : {A B : Type 0} (outcome : Outcome A) (next longer : A → Run B) → ((a : A) → Extends (next a) (longer a))
    → Before (state_after outcome) (state_after (continued outcome longer))
continued-grows (Gives a s) next longer each = (each a).grows s
continued-grows (Stops site s) next longer each = before-itself s
continued-grows (Goes s) next longer each = before-itself s

continued-continues : {A B : Type 0} (outcome other : Outcome A) (next longer : A → Run B) → Continues outcome other → ((a : A) → Extends (next a) (longer a))
    → Continues (continued outcome next) (continued other longer)
continued-continues (Gives a s) other next longer one each = rw one ((each a).continues s)
continued-continues (Stops site s) other next longer one each = rw one refl
continued-continues (Goes s) other next longer one each =
    before-trans s (state_after other) (state_after (continued other longer)) one (continued-grows other next longer each)

pub extends-next : {A B : Type 0} (first farther : Run A) (next longer : A → Run B) → Extends first farther → ((a : A) → Extends (next a) (longer a))
    → Extends (first >>= next) (farther >>= longer)
unfolding ◌>>=◌
extends-next first farther next longer one each =
    record {
      continues = λ s. continued-continues (first s) (farther s) next longer (one.continues s) each;
      grows = λ s. before-trans s (state_after (farther s)) (state_after (continued (farther s) longer)) (one.grows s) (continued-grows (farther s) next longer each);
    }

pub extends-and : {A B : Type 0} (first farther : Run A) (next longer : Run B) → Extends first farther → Extends next longer → Extends (first >> next) (farther >> longer)
unfolding ◌>>◌
extends-and first farther next longer one two = extends-next first farther (λ _. next) (λ _. longer) one (λ _. two)

pub extends-found : {A : Type 0} (site : ℕ) (value : Kept → Option A) → Extends (found site value) (found site value)
unfolding found
extends-found site value = extends-next _ _ _ _ (extends-reading value) (extends-site site)

-- ---- conditions

extends-chosen : {A : Type 0} (b : Bool) (this farther other longer : Run A) → Extends this farther → Extends other longer → Extends (chosen b this other) (chosen b farther longer)
extends-chosen true this farther other longer one two = record { continues = one.continues; grows = one.grows }
extends-chosen false this farther other longer one two = record { continues = two.continues; grows = two.grows }

pub extends-choosing : {A : Type 0} (condition tested : Run ℤ) (this farther other longer : Run A) → Extends condition tested → Extends this farther → Extends other longer
    → Extends (choosing condition this other) (choosing tested farther longer)
unfolding choosing
extends-choosing condition tested this farther other longer one two three =
    extends-next _ _ _ _ one (λ value. extends-chosen (holds value) this farther other longer two three)

-- ---- several from left to right, each of them given by something of which its part is known

pub extends-gathered : {X Y A : Type 0} (f g : X → Run A) (part : Y → X) → ((y : Y) → Extends (f (part y)) (g (part y))) → (done : List A) (ys : List Y)
    → Extends (gathered done (map f (map part ys))) (gathered done (map g (map part ys)))
unfolding gathered
extends-gathered f g part each done [] = extends-gives done
extends-gathered f g part each done (y ∷ ys) = extends-next _ _ _ _ (each y) (λ a. extends-gathered f g part each (done ++ a ∷ []) ys)

pub extends-all_of : {X : Type 0} (f g : X → Run (Unit {0})) → ((x : X) → Extends (f x) (g x)) → (xs : List X) → Extends (all_of (map f xs)) (all_of (map g xs))
unfolding all_of
extends-all_of f g each [] = extends-gives tt
extends-all_of f g each (x ∷ xs) = extends-and _ _ _ _ (each x) (extends-all_of f g each xs)

-- ---- statements and loops

extends-after_statement : (next longer : Run Flow) (flow : Flow) → Extends next longer → Extends (after_statement next flow) (after_statement longer flow)
extends-after_statement next longer Normal one = one
extends-after_statement next longer Break one = extends-gives Break
extends-after_statement next longer Continue one = extends-gives Continue
extends-after_statement next longer (Return value) one = extends-gives (Return value)

pub extends-in_sequence : {X Y : Type 0} (f g : X → Run Flow) (part : Y → X) → ((y : Y) → Extends (f (part y)) (g (part y))) → (ys : List Y)
    → Extends (in_sequence (map f (map part ys))) (in_sequence (map g (map part ys)))
unfolding in_sequence
extends-in_sequence f g part each [] = extends-gives Normal
extends-in_sequence f g part each (y ∷ ys) =
    extends-next _ _ _ _ (each y) (λ flow. extends-after_statement _ _ flow (extends-in_sequence f g part each ys))

extends-after_body : (next longer : Run Flow) (flow : Flow) → Extends next longer → Extends (after_body next flow) (after_body longer flow)
extends-after_body next longer Normal one = one
extends-after_body next longer Break one = extends-gives Normal
extends-after_body next longer Continue one = one
extends-after_body next longer (Return value) one = extends-gives (Return value)

turn-extends : (condition tested : Run ℤ) (last after : Run (Unit {0})) (body longer next farther : Run Flow)
    → Extends condition tested → Extends last after → Extends body longer → Extends next farther
    → Extends (body >>= after_body (last >> choosing condition next (gives Normal))) (longer >>= after_body (after >> choosing tested farther (gives Normal)))
turn-extends condition tested last after body longer next farther one two three four =
    extends-next _ _ _ _ three (λ flow. extends-after_body _ _ flow (extends-and _ _ _ _ two (extends-choosing _ _ _ _ _ _ one four (extends-gives Normal))))

turns-grow : (condition : Run ℤ) (last : Run (Unit {0})) (body : Run Flow) → Extends condition condition → Extends last last → Extends body body
    → (turns : ℕ) → Extends (turns_of turns condition last body) (turns_of turns condition last body)
unfolding turns_of going_on
turns-grow condition last body one two three zero = extends-itself _ before-itself
turns-grow condition last body one two three (suc turns) = turn-extends _ _ _ _ _ _ _ _ one two three (turns-grow condition last body one two three turns)

longer-grows : {A : Type 0} (run longer : Run A) → Extends run longer → Extends longer longer
longer-grows run longer one = extends-itself longer one.grows

pub extends-turns : (condition tested : Run ℤ) (last after : Run (Unit {0})) (body longer : Run Flow) → Extends condition tested → Extends last after → Extends body longer
    → (turns more : ℕ) → turns ≤ more → Extends (turns_of turns condition last body) (turns_of more tested after longer)
unfolding turns_of going_on
extends-turns condition tested last after body longer one two three zero more most =
    let grows = turns-grow tested after longer (longer-grows condition tested one) (longer-grows last after two) (longer-grows body longer three) more in
    record { continues = grows.grows; grows = grows.grows }
extends-turns condition tested last after body longer one two three (suc turns) zero most = absurd (omega arith)
extends-turns condition tested last after body longer one two three (suc turns) (suc more) most =
    turn-extends _ _ _ _ _ _ _ _ one two three (extends-turns condition tested last after body longer one two three turns more (omega arith))

pub extends-looping : (condition tested : Run ℤ) (last after : Run (Unit {0})) (body longer : Run Flow) → Extends condition tested → Extends last after → Extends body longer
    → (turns more : ℕ) → turns ≤ more → Extends (looping turns condition last body) (looping more tested after longer)
unfolding looping
extends-looping condition tested last after body longer one two three turns more most =
    extends-choosing _ _ _ _ _ _ one (extends-turns condition tested last after body longer one two three turns more most) (extends-gives Normal)
