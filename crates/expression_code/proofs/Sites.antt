-- The machine does a site over the topmost values of the stack.
use Rattle.std.proofs.Common.{◌≡◌, ◌≢◌, ℕ, zero, suc, ◌+◌, ◌^◌, ◌<◌, ◌≤◌, ◌⊎◌, inl, inr, ℤ, pos, Bool, true, false, ◌&&◌, ◌||◌, ◌==◌, List, [], ◌∷◌, ◌++◌, length, refl, sym, ap, ◌∙◌, subst, arith}
use Rattle.std.specs.Prelude.{Option, Some, None, take, All, FitsSigned}
use Rattle.std.specs.Int.{w16}
use Rattle.std.proofs.lemmas.Bool.Decides.{nat_tests}
use Rattle.operator_meaning.specs.declared.object.Object.{Object}
use Rattle.operator_meaning.specs.declared.site.SiteKind.{SiteKind}
use Rattle.operator_meaning.specs.declared.site.Form.{Form}
use Rattle.operator_meaning.specs.declared.site.Form.TheVariants.{Plain}
use Rattle.operator_meaning.specs.declared.site.Guard.TheVariants.{Kept}
use Rattle.source_runs.specs.State.{SourceState}
use Rattle.rv_encode.specs.State.{MachineState, Moment, Running, Over, Stopped, register}
use Rattle.code_lines.specs.Leading.{Leads}
use Rattle.rv_encode.specs.declared.instruction.Instr.{Instr}
use Rattle.rv_encode.specs.Runs.{pc_of, moment_after}
use Rattle.code_lines.proofs.Entering.{has_none, template_long, template_stands, leads_site}
use Rattle.code_runs.specs.Doing.{Passes}
use Rattle.code_runs.proofs.Steps.{passes_on, passes_site}
use Rattle.template_runs.specs.Courses.{is_scratch}
use Rattle.code_lines.specs.Words.{StandHere, Code, template_of}
use Rattle.template_runs.specs.Machine.{IsBefore}
use Rattle.template_runs.specs.declared.registers.Registers.{Registers}
use Rattle.operator_lowering.specs.Laws.{IsFormOf}
use Rattle.operator_lowering.specs.Sites.{site_value, site_clips, site_raises, samples_after, flag_after, AreSiteOperands}
use Rattle.operator_lowering.specs.Template.{ArePlaces, IsAfter, makes_calls}
use Rattle.operator_lowering.specs.Words.{template_words}
use Rattle.operator_lowering.proofs.Templates.{holds}
use Rattle.code_stacks.specs.Places.{Layout, IsLaidOut, stack_register}
use Rattle.code_stacks.specs.Agreement.{IsWith}
use Rattle.code_stacks.specs.Operands.{operand_register, fetches, finish_code}
use Rattle.code_stacks.proofs.Registers.{stack_work, scratch_work, operand_work, work_apart, work_below, work_kept, work_place, stack_apart, stack_low}
use Rattle.code_stacks.proofs.Keeping.{Keeps, IsSpare, work_spare, keeps_registers}
use Rattle.code_stacks.proofs.Operands.{first_stands, second_stands, all_ready}
use Rattle.expression_code.specs.Code.{site_registers, template_code}
use Rattle.expression_code.proofs.Computing.{reached, AreIn, are_in}

differ : (a b : ℕ) → (a == b) ≡ false → a ≢ b
differ a b apart e = grind (arith, nat_tests)

-- ---- registers

pub are_places : (depth count : ℕ) → ArePlaces (site_registers depth count)
are_places depth zero =
    let r = work_place (stack_register depth) (stack_work depth) in record { result = r; first = r; second = r; third = r }
are_places depth (suc zero) =
    let r = work_place (stack_register depth) (stack_work depth) in
    record { result = r; first = work_place (operand_register depth 0) (operand_work depth 0); second = r; third = r }
are_places depth (suc (suc zero)) =
    let r = work_place (stack_register depth) (stack_work depth) in
    record { result = r; first = work_place (operand_register depth 0) (operand_work depth 0); second = work_place (operand_register depth 1) (operand_work depth 1); third = r }
are_places depth (suc (suc (suc count))) = record {
  result = work_place (stack_register depth) (stack_work depth);
  first = work_place (operand_register depth 0) (operand_work depth 0);
  second = work_place (operand_register depth 1) (operand_work depth 1);
  third = work_place (operand_register depth 2) (operand_work depth 2);
}

pub result_is : (depth count : ℕ) → (site_registers depth count).result ≡ stack_register depth
result_is depth zero = refl
result_is depth (suc zero) = refl
result_is depth (suc (suc zero)) = refl
result_is depth (suc (suc (suc count))) = refl

-- the operands that a site takes are those on the stack
abbrev pub operands_at : (regs : Registers) → MachineState → List ℤ
operands_at regs t = register t regs.first ∷ register t regs.second ∷ register t regs.third ∷ []

pub operands_are : (code : Code) (objects : List Object) (l : Layout) (laid : IsLaidOut code l) (depth : ℕ) (args : List ℤ) (t : MachineState) → length args ≤ 3 → AreIn code objects l laid depth args (register t)
    → take (length args) (operands_at (site_registers depth (length args)) t) ≡ args
operands_are code objects l laid depth [] t few are = refl
operands_are code objects l laid depth (x ∷ []) t few are = ap (λ a. a ∷ []) (are 0 (omega arith))
operands_are code objects l laid depth (x ∷ y ∷ []) t few are = ap (λ a. a ∷ register t (operand_register depth 1) ∷ []) (are 0 (omega arith)) ∙ ap (λ b. x ∷ b ∷ []) (are 1 (omega arith))
operands_are code objects l laid depth (x ∷ y ∷ z ∷ []) t few are =
    ap (λ a. a ∷ register t (operand_register depth 1) ∷ register t (operand_register depth 2) ∷ []) (are 0 (omega arith))
    ∙ ap (λ b. x ∷ b ∷ register t (operand_register depth 2) ∷ []) (are 1 (omega arith)) ∙ ap (λ c. x ∷ y ∷ c ∷ []) (are 2 (omega arith))
operands_are code objects l laid depth (x ∷ y ∷ z ∷ w ∷ more) t few are = absurd (omega arith)

-- the registers that a site with its operands may change
pub data IsSiteChange (depth : ℕ) : ℕ → Type 0 where
  between : {n : ℕ} → is_scratch n ≡ true → IsSiteChange depth n
  flag : IsSiteChange depth 27
  first : IsSiteChange depth 14
  second : IsSiteChange depth 15
  third : IsSiteChange depth 16
  result : IsSiteChange depth (stack_register depth)

no_scratch : (n kept : ℕ) → is_scratch n ≡ true → is_scratch kept ≡ false → n ≢ kept
no_scratch n kept is other e = let f : is_scratch kept ≡ true = subst (λ r. is_scratch r ≡ true) e is in cc

low_apart : (place n : ℕ) → place < 5 → 14 ≤ n → stack_register place ≢ n
low_apart place n low high e = let less = stack_low place low in omega (arith, less, e)

change_spare : (depth n : ℕ) → IsSiteChange depth n → IsSpare depth n
change_spare depth n (between is) = record {
  based = no_scratch n 3 is refl;
  low = no_scratch n 24 is refl;
  high = no_scratch n 25 is refl;
  stack = λ place less low e. no_scratch n (stack_register place) is (work_kept (stack_register place) (stack_work place)) (sym e);
}
change_spare depth n flag = record {
  based = differ 27 3 refl;
  low = differ 27 24 refl;
  high = differ 27 25 refl;
  stack = λ place less low. work_below (stack_register place) 27 (stack_work place) refl;
}
change_spare depth n first = work_spare depth 14 (scratch_work 0) (λ place less low. low_apart place 14 low (omega arith))
change_spare depth n second = work_spare depth 15 (scratch_work 1) (λ place less low. low_apart place 15 low (omega arith))
change_spare depth n third = work_spare depth 16 (scratch_work 2) (λ place less low. low_apart place 16 low (omega arith))
change_spare depth n result = work_spare depth (stack_register depth) (stack_work depth) (λ place less low. stack_apart place depth low less)

scratch_or : (n : ℕ) (b : Bool) → is_scratch n ≡ b → (is_scratch n ≡ true → ⊥) → is_scratch n ≡ false
scratch_or n true is never = absurd (never is)
scratch_or n false is never = is

-- ---- the machine

-- the number of a site fits in a register, and the code holds it for a site without words exactly where it is one
pub record IsTold (code : Code) (kind : SiteKind) (form : Form) (site depth count : ℕ) : Type 0 where
  pub small : site < 2 ^ 32
  pub wordless : code.is_wordless site ≡ has_none (template_words kind form Kept site (site_registers depth count))

-- where a site has words, at least one of them is done
some_moves : (kind : SiteKind) (form : Form) (site : ℕ) (regs : Registers) (k n : ℕ) (instrs : List Instr) (t : MachineState) (o : Option ℤ) (code : Code) → IsBefore k t
    → IsAfter kind form site regs (k + length (template_of site instrs)) t (moment_after code.words n (Running t)) o → (instrs ≡ []) ⊎ (n ≢ 0)
some_moves kind form site regs k n [] t o code before after = inl refl
some_moves kind form site regs k n (instr ∷ instrs) t (Some x) code before after =
    inr (λ none.
    let same : Running t ≡ Running after.0 = ap (λ j. moment_after code.words j (Running t)) (sym none) ∙ after.1 in
    let state : t ≡ after.0 = cc in
    let place : pc_of k ≡ pc_of (k + length (template_of site (instr ∷ instrs))) = sym before.pc ∙ ap (λ (u : MachineState). u.pc) state ∙ after.2.pc in
    omega (arith, place))
some_moves kind form site regs k n (instr ∷ instrs) t None code before after =
    inr (λ none. let same : Running t ≡ Over (Stopped site) t.output = ap (λ j. moment_after code.words j (Running t)) (sym none) ∙ after in cc)

module _ (code : Code) (objects : List Object) (l : Layout) (laid : IsLaidOut code l) where
  -- where a site has a value it is in the register of the result, and Overflow is by the form; where it has none the machine
  -- stops; it comes by the words of the site
  abbrev pub SiteLeads : (end depth site : ℕ) → (sites : List ℕ) → Form → (raises : Bool) → MachineState → Option ℤ → Type 0
  SiteLeads end depth site sites form raises m (Some x) =
      (u : MachineState) × Passes code 0 sites (sites ++ site ∷ []) (Running m) (Running u) × IsBefore end u × Keeps l depth m u × (register u (stack_register depth) ≡ x) × (register u 27 ≡ flag_after form raises (register m 27))
  SiteLeads end depth site sites form raises m None = Passes code 0 sites (sites ++ site ∷ []) (Running m) (Over (Stopped site) m.output)

  site_leads : (kind : SiteKind) (form : Form) (site end depth count : ℕ) (sites : List ℕ) (raises : Bool) (m t : MachineState) (at : Moment) (o : Option ℤ) → makes_calls kind ≡ false → samples_after kind t.input ≡ t.input
      → site_raises kind (register t (site_registers depth count).first) (register t (site_registers depth count).second) (register t (site_registers depth count).third) ≡ raises
      → Leads code (Running m) (Running t) → Passes code 0 sites (sites ++ site ∷ []) (Running t) at → ((n : ℕ) → n ≢ 5 → n ≢ 14 → n ≢ 15 → n ≢ 16 → register t n ≡ register m n) → t.memory ≡ m.memory → t.input ≡ m.input → t.output ≡ m.output
      → register t 0 ≡ pos 0 → IsAfter kind form site (site_registers depth count) end t at o → SiteLeads end depth site sites form raises m o
  site_leads kind form site end depth count sites raises m t at (Some x) calls samples raised first_leads leads others memory input output zero_is after =
      let u = after.0 in
      let left = after.2 in
      let regs = site_registers depth count in
      let calling : (n : ℕ) → (makes_calls kind && ((n == 10) || (n == 17))) ≡ false = λ n. ap (λ b. b && ((n == 10) || (n == 17))) calls in
      let kept : (n : ℕ) → n ≢ stack_register depth → n ≢ 27 → is_scratch n ≡ false → register u n ≡ register t n =
      λ n apart flag scratch. left.others n (λ e. apart (e ∙ result_is depth count)) flag scratch (calling n) in
      let same : (n : ℕ) → (IsSiteChange depth n → ⊥) → register u n ≡ register m n = λ n unchanged.
      let scratch = scratch_or n (is_scratch n) refl (λ is. unchanged (between is)) in
      kept n (λ e. unchanged (subst (IsSiteChange depth) (sym e) result)) (λ e. unchanged (subst (IsSiteChange depth) (sym e) flag)) scratch
      ∙ others n (λ e. unchanged (subst (IsSiteChange depth) (sym e) (between refl))) (λ e. unchanged (subst (IsSiteChange depth) (sym e) first)) (λ e. unchanged (subst (IsSiteChange depth) (sym e) second))
      (λ e. unchanged (subst (IsSiteChange depth) (sym e) third)) in
      let flag_before : register t 27 ≡ register m 27 = others 27 (differ 27 5 refl) (differ 27 14 refl) (differ 27 15 refl) (differ 27 16 refl) in (
        u,
        passes_on code sites (sites ++ site ∷ []) (Running m) (Running t) (Running u) first_leads (subst (Passes code 0 sites (sites ++ site ∷ []) (Running t)) after.1 leads),
        record {
          pc = left.pc;
          count = left.count;
          zero_is = kept 0 (λ e. work_apart (stack_register depth) 0 (stack_work depth) refl (sym e)) (differ 0 27 refl) refl ∙ zero_is;
        },
        keeps_registers l depth m u (IsSiteChange depth) (change_spare depth) same (left.memory ∙ memory) (left.left ∙ samples ∙ input) (left.output ∙ output),
        ap (register u) (sym (result_is depth count)) ∙ left.gives,
        left.overflow ∙ ap (λ b. flag_after form b (register t 27)) raised ∙ ap (flag_after form raises) flag_before,
      )
  site_leads kind form site end depth count sites raises m t at None calls samples raised first_leads leads others memory input output zero_is after =
      passes_on code sites (sites ++ site ∷ []) (Running m) (Running t) (Over (Stopped site) m.output) first_leads
      (subst (Passes code 0 sites (sites ++ site ∷ []) (Running t)) (after ∙ ap (Over (Stopped site)) output) leads)

  -- what is asked of a site over these operands and samples, and what it comes to
  pub record IsAsked (kind : SiteKind) (form : Form) (args input : List ℤ) (raises : Bool) (o : Option ℤ) : Type 0 where
    pub operands : (a b c : ℤ) → take (length args) (a ∷ b ∷ c ∷ []) ≡ args → AreSiteOperands kind a b c
    pub unclipped : (a b c : ℤ) → take (length args) (a ∷ b ∷ c ∷ []) ≡ args → form ≡ Plain → site_clips kind a b c ≡ false
    pub value : (a b c : ℤ) → take (length args) (a ∷ b ∷ c ∷ []) ≡ args → site_value kind a b c input ≡ o
    pub raised : (a b c : ℤ) → take (length args) (a ∷ b ∷ c ∷ []) ≡ args → site_raises kind a b c ≡ raises
    pub calls : makes_calls kind ≡ false
    pub samples : (input : List ℤ) → samples_after kind input ≡ input
    pub form_is : IsFormOf kind form

  pub site_done : (k lag : ℕ) (values args : List ℤ) (kind : SiteKind) (form : Form) (site : ℕ) (raises : Bool) (o : Option ℤ) (s : SourceState) (m : MachineState)
      → length args ≤ 3 → length values + length args ≤ l.depth → IsTold code kind form site (length values) (length args)
      → StandHere code k (fetches l (length values) (length args) ++ (template_code kind form site (length values) (length args) ++ finish_code l (length values)))
      → IsWith objects l k lag (values ++ args) s m → IsAsked kind form args s.kept.left raises o
      → SiteLeads (k + length (fetches l (length values) (length args)) + length (template_code kind form site (length values) (length args))) (length values) site s.sites form raises m o
  site_done k lag values args kind form site raises o s m few room told stands is asked =
      let depth = length values in
      let regs = site_registers depth (length args) in
      let fetching = fetches l depth (length args) in
      let instrs = template_words kind form Kept site regs in
      let words = template_of site instrs in
      let finishing = finish_code l depth in
      let ready = all_ready code l laid k depth (length args) m few (first_stands code k fetching (words ++ finishing) stands) is.before (reached code objects l laid lag s.kept m is.agrees) room in
      let t = ready.0 in
      let at = ready.2 in
      let input : t.input ≡ s.kept.left = at.input ∙ is.agrees.input in
      let operands = operands_are code objects l laid depth args t few (are_in code objects l laid k lag values args s m is (k + length fetching) t at) in
      let a = register t regs.first in
      let b = register t regs.second in
      let c = register t regs.third in
      let value : site_value kind a b c t.input ≡ o = ap (site_value kind a b c) input ∙ asked.value a b c operands in
      let template = holds kind form Kept site regs asked.form_is told.small (are_places depth (length args)) in
      let here = first_stands code (k + length fetching) words finishing (second_stands code k fetching (words ++ finishing) stands) in
      let does = template.does code.words (k + length fetching) t (template_stands code (k + length fetching) site instrs here) at.before (record {
        fit = asked.operands a b c operands;
        unclipped = asked.unclipped a b c operands;
        goes_on = λ gone. let e = gone in cc;
        samples = subst (All (FitsSigned w16)) (sym input) is.agrees.samples;
      }) in
      let long : k + length fetching + length instrs ≡ k + length fetching + length words = ap (λ n. k + length fetching + n) (sym (template_long site instrs)) in
      let end = k + length fetching + length words in
      let after = subst (λ to. IsAfter kind form site regs to t (moment_after code.words does.0 (Running t)) o) long
      (subst (IsAfter kind form site regs (k + length fetching + length instrs) t (moment_after code.words does.0 (Running t))) value does.3) in
      let moves = some_moves kind form site regs (k + length fetching) does.0 instrs t o code at.before after in
      let passes = passes_site code s.sites site instrs (Running t) (moment_after code.words does.0 (Running t)) told.wordless
      (leads_site code (k + length fetching) site does.0 instrs t (moment_after code.words does.0 (Running t)) here at.before moves does.2 refl) in
      site_leads kind form site end depth (length args) s.sites raises m t (moment_after code.words does.0 (Running t)) o asked.calls (asked.samples t.input) (asked.raised a b c operands) ready.1
      passes at.others at.memory at.input at.output at.before.zero_is after
