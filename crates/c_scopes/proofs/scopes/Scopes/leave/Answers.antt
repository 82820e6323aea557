use Rattle.std.proofs.Common.{◌≡◌, ℕ, ◌<◌, ◌-◌, List, [], ◌∷◌, length, drop, suc, sym, ap, ◌∙◌, arith}
use Rattle.c_scopes.proofs.scopes.Scopes.leave.Goals as goal

-- one less to forget, once one is forgotten
drop-next : {A : Type 0} (xs : List A) (n : ℕ) → n < length xs → drop (length (drop 1 xs) - n) (drop 1 xs) ≡ drop (length xs - n) xs
drop-next [] n less = absurd (omega arith)
drop-next (x ∷ xs) n less =
    let one : suc (length xs) - n ≡ suc (length xs - n) = omega arith in
    sym (ap (λ (k : ℕ). drop k (x ∷ xs)) one)

pub loop-self-preserved : goal.loop-self-preserved
loop-self-preserved g c =
    rw c.forget.ensures (drop-next c.loop-self.self c.args.len (rw (← c.len.ensures) c.loop-self-test.true) ∙ c.loop-self.invariant)
