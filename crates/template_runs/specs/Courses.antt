-- What a template does by itself: a run over values by the numbers of registers, which knows of each register whether
-- its value is known whatever the registers of the site are.
use Rattle.std.specs.Prelude.{ℕ, zero, suc, ◌-◌, ◌/◌, ◌%◌, ℤ, pos, negsuc, Bool, true, not, ◌&&◌, ◌||◌, ◌==◌, nat_lt, if◌then◌else◌, List, [], ◌∷◌}
use Rattle.std.specs.Ordering.{int_eq}
use Rattle.rv_encode.specs.declared.instruction.Instr.{Instr}
use Rattle.rv_encode.specs.Effects.{left_flag}
use Rattle.template_runs.specs.Parts.{Part, Sets, Jumps, Calls, Other, part_of}

-- the values of registers, which of them are known, which operands are known not to lie in the register of the result,
-- whether x10 and x17 may change, the registers that were written, and the samples that are left
pub record Course : Type 0 where
  pub value : ℕ → ℤ
  pub known : ℕ → Bool
  pub apart : ℕ → Bool
  pub calls : Bool
  pub written : List ℕ
  pub input : List ℤ

-- where a course comes: after the last word, with the value of the result, Overflow and the samples that are left; to a
-- stop at a site; or to what no template may do
pub data Final : Type 0 where
  Ends : (value flag : ℤ) → (input : List ℤ) → Final
  Stops : (site : ℤ) → Final
  Lost : Final

-- registers that may be one for a site: the result, the operands, and those of a call
abbrev pub is_shared : ℕ → Bool
is_shared number = (number == 8) || (number == 11) || (number == 12) || (number == 13) || (number == 10) || (number == 17)

-- the registers of an environment call, which are two
abbrev pub is_call : ℕ → Bool
is_call number = (number == 10) || (number == 17)

-- after a write to the first of two registers the value of the second may be another
abbrev pub may_be_one : (apart : ℕ → Bool) → (rd number : ℕ) → Bool
may_be_one apart rd number =
    is_shared rd && is_shared number && not (is_call rd && is_call number) && not ((rd == 8) && apart number)

-- other registers, which are the same for each site
abbrev pub is_free : ℕ → Bool
is_free number = (nat_lt 0 number && nat_lt number 8) || (nat_lt 23 number && nat_lt number 28) || (nat_lt 28 number && nat_lt number 32)

abbrev pub is_writable : ℕ → Bool
is_writable number = is_shared number || is_free number

-- the registers that the words between operands and result may change
abbrev pub is_scratch : ℕ → Bool
is_scratch number =
    (number == 5) || (number == 6) || (number == 7) || (number == 28) || (number == 29) || (number == 30) || (number == 31)

-- the registers that a template may change
abbrev pub is_changed : (calls : Bool) → ℕ → Bool
is_changed calls number = (number == 8) || (number == 27) || is_scratch number || (calls && is_call number)

abbrev pub are_changed : (calls : Bool) → List ℕ → Bool
are_changed calls [] = true
are_changed calls (number ∷ numbers) = is_changed calls number && are_changed calls numbers

-- what is known after a write: of registers that may be one with it, only that one
abbrev pub known_after : (known apart : ℕ → Bool) → (rd : ℕ) → ℕ → Bool
known_after known apart rd number = (number == rd) || (known number && not (may_be_one apart rd number))

abbrev pub value_after : (ℕ → ℤ) → (rd : ℕ) → ℤ → ℕ → ℤ
value_after value rd result number = if number == rd then result else value number

abbrev pub sets_value : Course → (rd : ℕ) → ℤ → Course
sets_value c rd result = record {
  value = value_after c.value rd result;
  known = known_after c.known c.apart rd;
  apart = c.apart;
  calls = c.calls;
  written = rd ∷ c.written;
  input = c.input;
}

-- what follows a number of words that are passed over
abbrev pub Rest : Type 0
Rest = (skip : ℕ) → Course → Final

-- a jump forward over whole words
abbrev pub jumps_by : ℤ → Rest → Course → Final
jumps_by (pos distance) rest c =
    if (distance % 4 == 0) && nat_lt 3 distance && nat_lt distance 4000 then rest (distance / 4 - 1) c else Lost
jumps_by (negsuc distance) rest c = Lost

-- an environment call: 1 asks whether a sample is left, 2 takes the next one, and 5 stops at the site in x10
abbrev pub takes_sample : List ℤ → Rest → Course → Final
takes_sample [] rest c = Lost
takes_sample (sample ∷ left) rest c = rest 0 (record (sets_value c 10 sample) { input = left })

abbrev pub call_of : ℤ → Rest → Course → Final
call_of number rest c =
    if int_eq number (pos 1) then rest 0 (sets_value c 10 (left_flag c.input)) else
    (if int_eq number (pos 2) then takes_sample c.input rest c else
    (if int_eq number (pos 3) then Lost else
    (if int_eq number (pos 4) then Lost else
    (if int_eq number (pos 5) then (if c.known 10 then Stops (c.value 10) else Lost) else Lost))))

abbrev pub step_of : Part → Rest → Course → Final
step_of (Sets rd rs1 rs2 f) rest c =
    if c.known rs1 && c.known rs2 && is_writable rd then rest 0 (sets_value c rd (f (c.value rs1) (c.value rs2))) else Lost
step_of (Jumps rs1 rs2 test imm) rest c =
    if c.known rs1 && c.known rs2 then (if test (c.value rs1) (c.value rs2) then jumps_by imm rest c else rest 0 c) else Lost
step_of Calls rest c = if c.known 17 then call_of (c.value 17) rest c else Lost
step_of Other rest c = Lost

-- after the last word the value of the result and Overflow are known, and no other register has changed than may
abbrev pub final : Course → Final
final c = if c.known 8 && c.known 27 && are_changed c.calls c.written then Ends (c.value 8) (c.value 27) c.input else Lost

-- the course over these words, of which so many are passed over first
abbrev pub runs : List Instr → (skip : ℕ) → Course → Final
runs [] zero c = final c
runs [] (suc skip) c = Lost
runs (instr ∷ instrs) zero c = step_of (part_of instr) (runs instrs) c
runs (instr ∷ instrs) (suc skip) c = runs instrs skip c
