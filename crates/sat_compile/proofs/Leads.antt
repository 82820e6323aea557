-- How the machine comes from one moment to another over the code of a source.
use Rattle.std.proofs.Common.{◌≡◌, ℕ, ◌+◌, ◌*◌, ◌%◌, ◌≤◌, ℤ, pos, Bool, List, [], ◌∷◌, ◌==◌, if◌then◌else◌, Some, refl, ap, ◌∙◌, subst}
use Rattle.std.specs.Prelude.{slice_get}
use Rattle.sat_base.specs.declared.machine_fault.MachineFault.TheVariants.{Jump}
use Rattle.rv_encode.specs.declared.instruction.Instr.{Instr}
use Rattle.rv_encode.specs.Decoding.{decoded}
use Rattle.rv_encode.specs.Words.{encoded}
use Rattle.rv_encode.specs.State.{MachineState, Moment, Running, next_pc}
use Rattle.rv_encode.specs.Effects.{effect_of, jumps, faults}
use Rattle.rv_encode.specs.Runs.{pc_of, Leads}
use Rattle.rv_encode.proofs.Leads.{leads_one}
use Rattle.rv_encode.proofs.Places.{most_words, next_pc_of, target_pc_of, whole_pc_of}

-- the registers that the code uses once x26 is set; all others stay 0
pub record File : Type 0 where
  pub x5 : ℤ
  pub x6 : ℤ
  pub x8 : ℤ
  pub x9 : ℤ
  pub x10 : ℤ
  pub x17 : ℤ
  pub x24 : ℤ
  pub x27 : ℤ

abbrev pub zero_file : File
zero_file = record { x5 = pos 0; x6 = pos 0; x8 = pos 0; x9 = pos 0; x10 = pos 0; x17 = pos 0; x24 = pos 0; x27 = pos 0 }

abbrev pub registers_of : File → List ℤ
registers_of f =
    pos 0 ∷ pos 0 ∷ pos 0 ∷ pos 0 ∷ pos 0 ∷ f.x5 ∷ f.x6 ∷ pos 0 ∷ f.x8 ∷ f.x9 ∷ f.x10 ∷ pos 0 ∷ pos 0 ∷ pos 0 ∷ pos 0 ∷ pos 0
    ∷ pos 0 ∷ f.x17 ∷ pos 0 ∷ pos 0 ∷ pos 0 ∷ pos 0 ∷ pos 0 ∷ pos 0 ∷ f.x24 ∷ pos 0 ∷ pos 0x10000000 ∷ f.x27 ∷ pos 0 ∷ pos 0 ∷ pos 0 ∷ pos 0 ∷ []

-- the machine before the word of this number
abbrev pub here : List ℤ → List ℤ → ℕ → File → List ℕ → MachineState
here input output k f memory = record { registers = registers_of f; pc = pc_of k; memory = memory; input = input; output = output }

abbrev pub at : List ℤ → List ℤ → ℕ → File → List ℕ → Moment
at input output k f memory = Running (here input output k f memory)

module _ (code : List ℕ) (input output : List ℤ) where
  -- the same place by another number
  pub leads_to_same : (from : Moment) (k j : ℕ) (f : File) (memory : List ℕ) → k ≡ j → Leads code from (at input output k f memory) → Leads code from (at input output j f memory)
  leads_to_same from k j f memory e l = subst (λ n. Leads code from (at input output n f memory)) e l

  pub leads_from_same : (to : Moment) (k j : ℕ) (f : File) (memory : List ℕ) → k ≡ j → Leads code (at input output k f memory) to → Leads code (at input output j f memory) to
  leads_from_same to k j f memory e l = subst (λ n. Leads code (at input output n f memory) to) e l

  module _ (k i : ℕ) (instr : Instr) (f : File) (memory : List ℕ) (stands : slice_get code (k + i) ≡ Some (encoded instr)) (decodes : decoded (encoded instr) ≡ Some instr) where
    -- one instruction
    pub leads_by : Leads code (at input output (k + i) f memory) (effect_of instr (here input output (k + i) f memory))
    leads_by = leads_one code (here input output (k + i) f memory) (k + i) instr refl stands decodes

    -- one that goes on with other registers and another memory
    pub leads_on : (g : File) (new : List ℕ) → k + i ≤ most_words
        → effect_of instr (here input output (k + i) f memory) ≡ Running (record (here input output (k + i) g new) { pc = next_pc (pc_of (k + i)) })
        → Leads code (at input output (k + i) f memory) (at input output (k + (i + 1)) g new)
    leads_on g new small e =
        subst (λ p. Leads code (at input output (k + i) f memory) (Running (record (here input output (k + i) g new) { pc = p }))) (next_pc_of k i small)
        (subst (λ effect. Leads code (at input output (k + i) f memory) effect) e leads_by)

    -- one that jumps forward over this many words
    pub leads_over : (m : ℕ) (g : File) → k + i ≤ most_words → m ≤ 1000
        → effect_of instr (here input output (k + i) f memory) ≡ jumps (here input output (k + i) f memory) (registers_of g) (pos (4 * m))
        → Leads code (at input output (k + i) f memory) (at input output (k + (i + m)) g memory)
    leads_over m g small short e =
        subst (λ effect. Leads code (at input output (k + i) f memory) effect) (e ∙ jumps_to) leads_by
      where
        jumps_to : jumps (here input output (k + i) f memory) (registers_of g) (pos (4 * m)) ≡ Running (here input output (k + (i + m)) g memory)
        jumps_to =
            let s = here input output (k + i) f memory in
            ap (λ p. if p % 4 == 0 then Running (record s { registers = registers_of g; pc = p }) else faults s Jump) (target_pc_of k i m small short)
            ∙ ap (λ (b : Bool). if b then Running (here input output (k + (i + m)) g memory) else faults s Jump) (whole_pc_of (k + (i + m)))
