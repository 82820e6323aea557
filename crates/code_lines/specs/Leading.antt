-- How the machine comes from one moment to another, and which sites it enters on the way.
use Rattle.std.specs.Prelude.{◌≡◌, ◌≢◌, ◌⊎◌, ℕ, ◌+◌, ◌-◌, ◌/◌, ◌≤◌, nat_lt, if◌then◌else◌, List, [], ◌∷◌, ◌++◌, flat_map, length, Option, Some, None}
use Rattle.rv_encode.specs.declared.instruction.Instr.{Instr}
use Rattle.rv_encode.specs.State.{MachineState, Moment, Running, code_start}
use Rattle.rv_encode.specs.Runs.{moment_after}
use Rattle.template_runs.specs.Machine.{IsBefore}
use Rattle.template_runs.specs.Visits.{visited, Ascend}
use Rattle.code_lines.specs.Words.{Code, StandHere, template_of}

abbrev pub sites_of : Option ℕ → List ℕ
sites_of None = []
sites_of (Some site) = site ∷ []

-- the site whose first word stands at a pc
abbrev pub begun_at : Code → ℕ → List ℕ
begun_at code pc = if nat_lt pc code_start then [] else sites_of (code.begins ((pc - code_start) / 4))

-- The sites that are entered by the next n instructions: those whose first word is executed. No site goes back to its own
-- first word.
abbrev pub entered : Code → ℕ → Moment → List ℕ
entered code n at = flat_map (begun_at code) (visited code.words n at)

-- From the one moment the machine comes to the other in at least so many instructions, and enters these sites: where that
-- one leads in some number of instructions, this one leads too, in that many more at least.
abbrev pub LeadsBy : Code → (least : ℕ) → (sites : List ℕ) → Moment → Moment → Type 0
LeadsBy code least sites from to =
    (k : ℕ) → (j : ℕ) × (least + k ≤ j) × (moment_after code.words j from ≡ moment_after code.words k to) × (entered code j from ≡ sites ++ entered code k to)

-- the same where no site is entered
abbrev pub LeadsLater : Code → (least : ℕ) → Moment → Moment → Type 0
LeadsLater code least from to = LeadsBy code least [] from to

abbrev pub Leads : Code → Moment → Moment → Type 0
Leads code from to = LeadsLater code 0 from to

-- those of the sites that have words
abbrev pub with_words : Code → List ℕ → List ℕ
with_words code [] = []
with_words code (site ∷ sites) = if code.is_wordless site then with_words code sites else site ∷ with_words code sites

-- what the words of a site enter
abbrev pub entered_by : (site : ℕ) → List Instr → List ℕ
entered_by site [] = []
entered_by site (instr ∷ instrs) = site ∷ []

-- Where the machine comes by the words of a site, each behind those before it, and by one at least if there are any, it
-- enters the site once.
abbrev pub SitesAreEntered : Type 0
SitesAreEntered = (code : Code) (k site n : ℕ) (instrs : List Instr) (s : MachineState) (at : Moment)
    → StandHere code k (template_of site instrs) → IsBefore k s → (instrs ≡ []) ⊎ (n ≢ 0)
    → Ascend k (k + length instrs) (visited code.words n (Running s)) → moment_after code.words n (Running s) ≡ at
    → LeadsBy code 0 (entered_by site instrs) (Running s) at
