-- Loads and stores, near and far.
use Rattle.std.proofs.Common.{◌≡◌, ◌≢◌, ℕ, ◌+◌, ◌*◌, ◌%◌, ◌^◌, ◌<◌, ℤ, pos, ◌-ℤ◌, Bool, true, false, ◌==◌, nat_lt, if◌then◌else◌, [], ◌∷◌, length, Some, refl, sym, ap, ◌∙◌, subst, arith}
use Rattle.std.specs.Int.{w32, cast_signed, cast_unsigned}
use Rattle.std.proofs.lemmas.Bool.Decides.{nat_tests}
use Rattle.std.proofs.lemmas.Int.{ints}
use Rattle.sat_base.specs.declared.machine_fault.MachineFault.TheVariants.{Load, Store, Align}
use Rattle.code_lines.specs.declared.word.Word.{Word}
use Rattle.code_lines.specs.Words.{StandHere, Code}
use Rattle.code_lines.specs.Own.{Lui, Lw, Sw}
use Rattle.rv_encode.specs.State.{MachineState, Moment, Running, register, data_start, is_inside, next_pc, address_of}
use Rattle.rv_encode.specs.Effects.{sets, loads, stores, faults}
use Rattle.code_lines.specs.Leading.{Leads}
use Rattle.rv_encode.specs.Runs.{next_moment}
use Rattle.code_lines.proofs.Leading.{leads_then}
use Rattle.template_runs.specs.Machine.{IsBefore}
use Rattle.code_lines.specs.Lines.{IsLeft, with_value, can_be_set}
use Rattle.code_lines.specs.Pieces.{upper_of, lower_of}
use Rattle.code_lines.proofs.Lines.{next_is, next_place, leads_one, one_set, stands_first, stands_rest}
use Rattle.code_memory.specs.Memory.{IsSlot, word_in, with_word_in, base, access_line, IsLoaded, IsStored, LoadsAreDone, StoresAreDone}
use Rattle.code_memory.proofs.Words.{is_in, is_whole}

another : (n rd : ℕ) → n ≢ rd → (n == rd) ≡ false
another n rd other = grind (arith, nat_tests)

itself : (n : ℕ) → (n == n) ≡ true
itself n = grind (arith, nat_tests)

settable : (rd : ℕ) → rd ≢ 0 → rd < 32 → can_be_set (Some rd) ≡ true
settable rd some less = grind (arith, nat_tests)

-- ---- addresses

near_address : (slot : ℕ) → nat_lt slot 4096 ≡ true → (cast_unsigned w32 base + cast_unsigned w32 (pos slot -ℤ pos 2048)) % 2 ^ 32 ≡ data_start + slot
near_address slot near = grind (arith, ints, nat_tests)

far_address : (slot : ℕ) → slot < 4194304 → (cast_unsigned w32 (cast_signed w32 (upper_of (pos (data_start + slot)) * 2 ^ 12)) + cast_unsigned w32 (lower_of (pos (data_start + slot)))) % 2 ^ 32 ≡ data_start + slot
far_address slot small = grind (arith, ints)

address_by : (s : MachineState) (rs : ℕ) (x imm : ℤ) (address : ℕ) → register s rs ≡ x → (cast_unsigned w32 x + cast_unsigned w32 imm) % 2 ^ 32 ≡ address → address_of s rs imm ≡ address
address_by s rs x imm address is sum = ap (λ y. (cast_unsigned w32 y + cast_unsigned w32 imm) % 2 ^ 32) is ∙ sum

-- ---- one access

module _ (s : MachineState) (slot : ℕ) (at : IsSlot s.memory slot) where
  loaded : (rd : ℕ) → loads s rd (data_start + slot) ≡ sets s rd (word_in s.memory slot)
  loaded rd =
      let goes : Moment = sets s rd (word_in s.memory slot) in
      ap (λ (b : Bool). if b then (if is_inside s.memory (data_start + slot) 4 then goes else faults s Load) else faults s Align) (is_whole s.memory slot at)
      ∙ ap (λ (b : Bool). if b then goes else faults s Load) (is_in s.memory slot at)

  stored : (x : ℤ) → stores s (data_start + slot) x ≡ Running (record s { memory = with_word_in s.memory slot x; pc = next_pc s.pc })
  stored x =
      let goes : Moment = Running (record s { memory = with_word_in s.memory slot x; pc = next_pc s.pc }) in
      ap (λ (b : Bool). if b then (if is_inside s.memory (data_start + slot) 4 then goes else faults s Store) else faults s Align) (is_whole s.memory slot at)
      ∙ ap (λ (b : Bool). if b then goes else faults s Store) (is_in s.memory slot at)

module _ (code : Code) (k rs slot : ℕ) (imm : ℤ) (s : MachineState) (before : IsBefore k s) (at : IsSlot s.memory slot) (address : address_of s rs imm ≡ data_start + slot) where
  loads_one : (rd : ℕ) → StandHere code k (Lw rd rs imm ∷ []) → rd ≢ 0 → (t : MachineState) × Leads code (Running s) (Running t) × IsLoaded (k + 1) rd (word_in s.memory slot) s t
  loads_one rd stands some =
      let fit = stands.stand.0.fit in
      let done = one_set code k (Lw rd rs imm) s stands before (register s) (λ n. refl) rd (word_in s.memory slot) (settable rd some fit.0) (ap (loads s rd) address ∙ loaded s slot at rd) in
      let left = done.2 in (
        done.0,
        leads_one code k (Lw rd rs imm) s stands before (Running done.0) refl done.1,
        record {
          before = left.before;
          gives = left.file rd ∙ rw (itself rd) refl;
          others = λ n other five. left.file n ∙ rw (another n rd other) refl;
          memory = left.memory;
          input = left.input;
          output = left.output;
        },
      )

  stores_one : (value : ℕ) → StandHere code k (Sw rs value imm ∷ []) → (t : MachineState) × Leads code (Running s) (Running t) × IsStored (k + 1) slot (register s value) s t
  stores_one value stands =
      let t : MachineState = record s { memory = with_word_in s.memory slot (register s value); pc = next_pc s.pc } in (
        t,
        leads_one code k (Sw rs value imm) s stands before (Running t) refl (next_is code k (Sw rs value imm) s stands before ∙ ap (λ a. stores s a (register s value)) address ∙ stored s slot at (register s value)),
        record {
          before = record { pc = next_place code k (Sw rs value imm) s stands before; count = before.count; zero_is = before.zero_is };
          others = λ n five. refl;
          memory = refl;
          input = refl;
          output = refl;
        },
      )

-- ---- near and far

-- the upper bits of the address in x5
module _ (code : Code) (k slot : ℕ) (s : MachineState) (before : IsBefore k s) (at : IsSlot s.memory slot) (access : Word)
    (stands : StandHere code k (Lui 5 (upper_of (pos (data_start + slot))) ∷ access ∷ [])) where
  upper : (t : MachineState) × (next_moment code.words (Running s) ≡ Running t) × IsLeft (k + 1) (with_value (Some 5) (cast_signed w32 (upper_of (pos (data_start + slot)) * 2 ^ 12)) (register s)) s t
  upper =
      let instr = Lui 5 (upper_of (pos (data_start + slot))) in
      one_set code k instr s (stands_first code k instr (access ∷ []) stands) before (register s) (λ n. refl) 5 (cast_signed w32 (upper_of (pos (data_start + slot)) * 2 ^ 12)) refl refl

  abbrev far : MachineState
  far = upper.0

  far_leads : Leads code (Running s) (Running far)
  far_leads =
      let instr = Lui 5 (upper_of (pos (data_start + slot))) in leads_one code k instr s (stands_first code k instr (access ∷ []) stands) before (Running far) refl upper.1

  far_left : IsLeft (k + 1) (with_value (Some 5) (cast_signed w32 (upper_of (pos (data_start + slot)) * 2 ^ 12)) (register s)) s far
  far_left = upper.2

  far_at : IsSlot far.memory slot
  far_at = subst (λ m. IsSlot m slot) (sym far_left.memory) at

  far_address_is : address_of far 5 (lower_of (pos (data_start + slot))) ≡ data_start + slot
  far_address_is =
      let within = at.inside in
      let most = at.small in
      address_by far 5 (cast_signed w32 (upper_of (pos (data_start + slot)) * 2 ^ 12)) (lower_of (pos (data_start + slot))) (data_start + slot) (far_left.file 5) (far_address slot (omega arith))

loads_by : (near : Bool) (code : Code) (k rd slot : ℕ) (s : MachineState) → nat_lt slot 4096 ≡ near → StandHere code k (access_line near (λ rs imm. Lw rd rs imm) slot) → IsBefore k s
    → register s 3 ≡ base → IsSlot s.memory slot → rd ≢ 0
    → (t : MachineState) × Leads code (Running s) (Running t) × IsLoaded (k + length (access_line near (λ rs imm. Lw rd rs imm) slot)) rd (word_in s.memory slot) s t
loads_by true code k rd slot s near stands before based at some =
    loads_one code k 3 slot (pos slot -ℤ pos 2048) s before at (address_by s 3 base (pos slot -ℤ pos 2048) (data_start + slot) based (near_address slot near)) rd stands some
loads_by false code k rd slot s near stands before based at some =
    let imm = lower_of (pos (data_start + slot)) in
    let access = Lw rd 5 imm in
    let t = far code k slot s before at access stands in
    let left = far_left code k slot s before at access stands in
    let done = loads_one code (k + 1) 5 slot imm t left.before (far_at code k slot s before at access stands) (far_address_is code k slot s before at access stands) rd
    (stands_rest code k (Lui 5 (upper_of (pos (data_start + slot)))) (access ∷ []) stands) some in
    let last = done.2 in
    let whole : k + 1 + 1 ≡ k + 2 = omega arith in (
      done.0,
      leads_then code (Running s) (Running t) (Running done.0) (far_leads code k slot s before at access stands) done.1,
      record {
        before = subst (λ n. IsBefore n done.0) whole last.before;
        gives = last.gives ∙ ap (λ m. word_in m slot) left.memory;
        others = λ n other five. last.others n other five ∙ left.file n ∙ rw (another n 5 five) refl;
        memory = last.memory ∙ left.memory;
        input = last.input ∙ left.input;
        output = last.output ∙ left.output;
      },
    )

pub loads_are_done : LoadsAreDone
loads_are_done code k rd slot s stands before based at some = loads_by (nat_lt slot 4096) code k rd slot s refl stands before based at some

stores_by : (near : Bool) (code : Code) (k rs slot : ℕ) (s : MachineState) → nat_lt slot 4096 ≡ near → StandHere code k (access_line near (λ address imm. Sw address rs imm) slot) → IsBefore k s
    → register s 3 ≡ base → IsSlot s.memory slot → rs ≢ 5
    → (t : MachineState) × Leads code (Running s) (Running t) × IsStored (k + length (access_line near (λ address imm. Sw address rs imm) slot)) slot (register s rs) s t
stores_by true code k rs slot s near stands before based at other =
    stores_one code k 3 slot (pos slot -ℤ pos 2048) s before at (address_by s 3 base (pos slot -ℤ pos 2048) (data_start + slot) based (near_address slot near)) rs stands
stores_by false code k rs slot s near stands before based at other =
    let imm = lower_of (pos (data_start + slot)) in
    let access = Sw 5 rs imm in
    let t = far code k slot s before at access stands in
    let left = far_left code k slot s before at access stands in
    let done = stores_one code (k + 1) 5 slot imm t left.before (far_at code k slot s before at access stands) (far_address_is code k slot s before at access stands) rs
    (stands_rest code k (Lui 5 (upper_of (pos (data_start + slot)))) (access ∷ []) stands) in
    let last = done.2 in
    let value : register t rs ≡ register s rs = left.file rs ∙ rw (another rs 5 other) refl in
    let whole : k + 1 + 1 ≡ k + 2 = omega arith in (
      done.0,
      leads_then code (Running s) (Running t) (Running done.0) (far_leads code k slot s before at access stands) done.1,
      record {
        before = subst (λ n. IsBefore n done.0) whole last.before;
        others = λ n five. last.others n five ∙ left.file n ∙ rw (another n 5 five) refl;
        memory = last.memory ∙ ap (λ m. with_word_in m slot (register t rs)) left.memory ∙ ap (with_word_in s.memory slot) value;
        input = last.input ∙ left.input;
        output = last.output ∙ left.output;
      },
    )

pub stores_are_done : StoresAreDone
stores_are_done code k rs slot s stands before based at other = stores_by (nat_lt slot 4096) code k rs slot s refl stands before based at other
