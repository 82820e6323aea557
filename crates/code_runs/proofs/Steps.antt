-- How the machine comes by the sites of a run.
use Rattle.std.proofs.Common.{◌≡◌, ℕ, ◌+◌, ◌≤◌, Bool, true, false, List, [], ◌∷◌, ◌++◌, refl, sym, ap, ◌∙◌, subst, append_assoc, append-nil, arith}
use Rattle.rv_encode.specs.declared.instruction.Instr.{Instr}
use Rattle.rv_encode.specs.State.{Moment}
use Rattle.code_lines.specs.Words.{Code}
use Rattle.code_lines.specs.Leading.{LeadsBy, LeadsLater, entered_by, with_words}
use Rattle.code_lines.proofs.Leading.{leads_nowhere, leads_by_both, leads_by_least, with_words_both}
use Rattle.code_lines.proofs.Entering.{has_none}
use Rattle.code_runs.specs.Doing.{Passes}

-- by no site
pub passes_none : (code : Code) (least : ℕ) (sites : List ℕ) (a b : Moment) → LeadsLater code least a b → Passes code least sites sites a b
passes_none code least sites a b leads = ([], leads, sym (append-nil (with_words code sites)))

pub passes_still : (code : Code) (sites : List ℕ) (a : Moment) → Passes code 0 sites sites a a
passes_still code sites a = passes_none code 0 sites a a (leads_nowhere code a)

-- in as many as both take
pub passes_both : (code : Code) (m n : ℕ) (before between after : List ℕ) (a b c : Moment) → Passes code m before between a b → Passes code n between after b c → Passes code (m + n) before after a c
passes_both code m n before between after a b c first second = (
  first.0 ++ second.0,
  leads_by_both code m n first.0 second.0 a b c first.1 second.1,
  second.2 ∙ ap (λ l. l ++ second.0) first.2 ∙ append_assoc (with_words code before) first.0 second.0,
)

pub passes_least : (code : Code) (m n : ℕ) (before after : List ℕ) (a b : Moment) → n ≤ m → Passes code m before after a b → Passes code n before after a b
passes_least code m n before after a b less passes = (passes.0, leads_by_least code m n passes.0 a b less passes.1, passes.2)

-- after some instructions that enter no site
pub passes_on : (code : Code) (before after : List ℕ) (a b c : Moment) → LeadsLater code 0 a b → Passes code 0 before after b c → Passes code 0 before after a c
passes_on code before after a b c leads passes =
    passes_least code (0 + 0) 0 before after a c (omega arith) (passes_both code 0 0 before before after a b c (passes_none code 0 before a b leads) passes)

-- and before some
pub passes_then : (code : Code) (before after : List ℕ) (a b c : Moment) → Passes code 0 before after a b → LeadsLater code 0 b c → Passes code 0 before after a c
passes_then code before after a b c passes leads =
    passes_least code (0 + 0) 0 before after a c (omega arith) (passes_both code 0 0 before after after a b c passes (passes_none code 0 after b c leads))

-- where none were evaluated before, all are entered that have words
pub passes_all : (code : Code) (least : ℕ) (after : List ℕ) (a b : Moment) → Passes code least [] after a b → LeadsBy code least (with_words code after) a b
passes_all code least after a b passes = subst (λ sites. LeadsBy code least sites a b) (sym passes.2) passes.1

-- by the words of a site, if it has any
site_kept : (code : Code) (site : ℕ) (instrs : List Instr) (b : Bool) → code.is_wordless site ≡ b → has_none instrs ≡ b → with_words code (site ∷ []) ≡ entered_by site instrs
site_kept code site [] true wordless none = rw wordless refl
site_kept code site [] false wordless none = absurd (let e = none in cc)
site_kept code site (instr ∷ instrs) true wordless none = absurd (let e = none in cc)
site_kept code site (instr ∷ instrs) false wordless none = rw wordless refl

pub passes_site : (code : Code) (sites : List ℕ) (site : ℕ) (instrs : List Instr) (a b : Moment) → code.is_wordless site ≡ has_none instrs → LeadsBy code 0 (entered_by site instrs) a b
    → Passes code 0 sites (sites ++ site ∷ []) a b
passes_site code sites site instrs a b wordless leads = (
  entered_by site instrs,
  leads,
  with_words_both code sites (site ∷ []) ∙ ap (λ l. with_words code sites ++ l) (site_kept code site instrs (has_none instrs) wordless refl),
)
