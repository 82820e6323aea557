-- The count is brought up.
use Rattle.std.proofs.Common.{◌≡◌, ℕ, zero, suc, ◌+◌, ◌*◌, ◌%◌, ◌^◌, ◌<◌, ℤ, pos, Bool, true, false, nat_lt, [], ◌∷◌, ◌++◌, length, refl, sym, ap, ◌∙◌, subst, arith}
use Rattle.std.specs.Prelude.{FitsSigned}
use Rattle.std.specs.Int.{w32, cast_unsigned}
use Rattle.std.proofs.lemmas.Int.{ints}
use Rattle.code_lines.specs.Words.{Code, StandHere}
use Rattle.code_lines.specs.Own.{Add, Sltu}
use Rattle.code_lines.specs.Leading.{Leads}
use Rattle.rv_encode.specs.State.{MachineState, Running, register}
use Rattle.template_runs.specs.Machine.{IsBefore}
use Rattle.code_lines.specs.Lines.{file_after, is_line}
use Rattle.code_lines.specs.Pieces.{flush_code, count_code, count_line, number_line, is_near, count_in, HasHalves, IsNoCount}
use Rattle.code_lines.proofs.Leading.{leads_nowhere}
use Rattle.code_lines.proofs.Lines.{lines_run}
use Rattle.code_lines.proofs.Pieces.{counts_are_added}

count_lines : (near : Bool) (weight : ℕ) → is_line (count_line near weight) ≡ true
count_lines true weight = refl
count_lines false weight = number_first (is_near (pos weight))
  where
    number_first : (near : Bool) → is_line (number_line near 6 (pos weight) ++ (Add 24 24 6 ∷ Sltu 5 24 6 ∷ Add 25 25 5 ∷ [])) ≡ true
    number_first true = refl
    number_first false = refl

-- the machine after the count is brought up
pub record IsFlushed (k weight : ℕ) (t u : MachineState) : Type 0 where
  pub before : IsBefore k u
  pub count : count_in (register u) ≡ (count_in (register t) + weight) % 2 ^ 64
  pub halves : HasHalves (register u)
  pub others : (n : ℕ) → IsNoCount n → register u n ≡ register t n
  pub memory : u.memory ≡ t.memory
  pub input : u.input ≡ t.input
  pub output : u.output ≡ t.output

pub no_weight : (high low : ℤ) → FitsSigned w32 high → FitsSigned w32 low → cast_unsigned w32 high * 2 ^ 32 + cast_unsigned w32 low ≡ (cast_unsigned w32 high * 2 ^ 32 + cast_unsigned w32 low + 0) % 2 ^ 64
no_weight high low fits fits2 = grind (arith, ints)

pub flushed : (code : Code) (k weight : ℕ) (t : MachineState) → weight < 2 ^ 31 → StandHere code k (flush_code weight) → IsBefore k t → HasHalves (register t)
    → (u : MachineState) × Leads code (Running t) (Running u) × IsFlushed (k + length (flush_code weight)) weight t u
flushed code k zero t small stands before halves =
    let none : k ≡ k + 0 = omega arith in
    (t, leads_nowhere code (Running t), record { before = subst (λ n. IsBefore n t) none before; count = no_weight (register t 25) (register t 24) halves.1 halves.0; halves = halves; others = λ n apart. refl; memory = refl; input = refl; output = refl })
flushed code k (suc weight) t small stands before halves =
    let run = lines_run code k (count_code (suc weight)) t stands before (count_lines (nat_lt (suc weight) 2048) (suc weight)) in
    let u = run.0 in
    let left = run.2 in
    let counted = counts_are_added (suc weight) (register t) small before.zero_is halves in (
      u,
      run.1,
      record {
        before = left.before;
        count = ap (λ x. cast_unsigned w32 (register u 25) * 2 ^ 32 + cast_unsigned w32 x) (left.file 24) ∙ ap (λ x. cast_unsigned w32 x * 2 ^ 32 + cast_unsigned w32 (file_after (count_code (suc weight)) (register t) 24)) (left.file 25) ∙ counted.count;
        halves = (subst (FitsSigned w32) (sym (left.file 24)) counted.halves.0, subst (FitsSigned w32) (sym (left.file 25)) counted.halves.1);
        others = λ n apart. left.file n ∙ counted.others n apart;
        memory = left.memory;
        input = left.input;
        output = left.output;
      },
    )
