-- A branch over a jump, by distances from its end.
use Rattle.std.proofs.Common.{◌≡◌, Bool, true, false, ℕ, ℤ, pos, ◌+ℤ◌, ◌-ℤ◌, [], ◌∷◌, ◌++◌, ap, arith}
use Rattle.std.proofs.lemmas.Int.{ints}
use Rattle.code_jumps.specs.declared.branch.Test.{Test}
use Rattle.code_jumps.specs.declared.branch.Reach.{Reach}
use Rattle.code_jumps.specs.declared.branch.Reach.TheVariants.{Middle, Long}
use Rattle.code_jumps.specs.Jumps.{branch_by, jump_code, jump_where, opposite, past_code}

abbrev over : Bool → Reach
over true = Middle
over false = Long

-- how many bytes the branch goes over
abbrev step : Bool → ℤ
step true = pos 8
step false = pos 12

pub over_is : (near : Bool) (test : Test) (rs1 rs2 : ℕ) (distance : ℤ) → jump_where (over near) true test rs1 rs2 distance ≡ (branch_by (opposite test) rs1 rs2 (step near) ∷ []) ++ past_code near distance
over_is true test rs1 rs2 d = let e : (pos 2 +ℤ d) -ℤ pos 1 ≡ pos 1 +ℤ d = omega (arith, ints) in ap (λ n. branch_by (opposite test) rs1 rs2 (pos 8) ∷ jump_code true n) e
over_is false test rs1 rs2 d = let e : (pos 3 +ℤ d) -ℤ pos 1 ≡ pos 2 +ℤ d = omega (arith, ints) in ap (λ n. branch_by (opposite test) rs1 rs2 (pos 12) ∷ jump_code false n) e
