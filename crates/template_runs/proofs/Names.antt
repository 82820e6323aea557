-- The registers of a site do not meet where a course knows their values.
use Rattle.std.proofs.Common.{◌≡◌, ◌≢◌, ℕ, ◌<◌, ◌≤◌, ◌⊎◌, Bool, true, false, not, ◌&&◌, ◌||◌, ◌==◌, inl, inr, refl, sym, ap, ◌∙◌, arith, ⊎_elim}
use Rattle.std.proofs.lemmas.Bool.{eqb-true, or_cases}
use Rattle.template_runs.specs.Courses.{is_shared, is_call, may_be_one, is_free, is_writable}
use Rattle.template_runs.specs.declared.registers.Registers.{Registers}
use Rattle.template_runs.specs.Renaming.{AreInRange, AreApart, renamed}

-- the registers whose values a course may know: those that a template may write, and x0
abbrev pub is_named : ℕ → Bool
is_named number = is_writable number || (number == 0)

pub and_parts : (a b : Bool) → (a && b) ≡ true → (a ≡ true) × (b ≡ true)
and_parts true true e = (refl, refl)
and_parts true false e = absurd (let f = e in cc)
and_parts false b e = absurd (let f = e in cc)

-- a number that is none of those of operands and result stays
stays : (regs : Registers) (n : ℕ) → (n ≢ 8) → (n ≢ 11) → (n ≢ 12) → (n ≢ 13) → renamed regs n ≡ n
stays regs n a b c d = grind (arith, eqb-true)

-- x1 to x7, x24 to x27 and x29 to x31
abbrev Outside : ℕ → Type 0
Outside n = (n < 8) ⊎ ((23 < n) × (n ≢ 28))

free_stays : (regs : Registers) (n : ℕ) → is_free n ≡ true → (renamed regs n ≡ n) × Outside n × (n ≢ 0) × (n < 32)
free_stays regs n free = grind (arith, stays)

-- x8 to x23, and x28
abbrev Inside : ℕ → Type 0
Inside n = (8 ≤ n) × (n < 32) × ((n ≤ 23) ⊎ (n ≡ 28))

shared_inside : (regs : Registers) → AreInRange regs → (n : ℕ) → is_shared n ≡ true → Inside (renamed regs n)
shared_inside regs range n shared = grind (arith, eqb-true, range)

pub writable_fits : (regs : Registers) → AreInRange regs → (rd : ℕ) → is_writable rd ≡ true → (renamed regs rd ≢ 0) × (renamed regs rd < 32)
writable_fits regs range rd writable =
    ⊎_elim
    (λ (shared : is_shared rd ≡ true). let within = shared_inside regs range rd shared in let low = within.0 in let high = within.1 in (λ none. omega arith, omega arith))
    (λ (free : is_free rd ≡ true). let stay = free_stays regs rd free in let is = stay.0 in let some = stay.2 in let less = stay.3 in (λ none. some (sym is ∙ none), omega arith))
    (or_cases (is_shared rd) (is_free rd) writable)

apart_sets : (n m : ℕ) → Inside n → Outside m → n ≢ m
apart_sets n m inside outside same = grind arith

-- a register that is shared and one that is not
shared_apart : (regs : Registers) → AreInRange regs → (n m : ℕ) → is_shared n ≡ true → is_free m ≡ true → renamed regs n ≢ renamed regs m
shared_apart regs range n m shared free same =
    let stay = free_stays regs m free in apart_sets (renamed regs n) m (shared_inside regs range n shared) stay.1 (same ∙ stay.0)

call_stays : (regs : Registers) (n : ℕ) → is_call n ≡ true → renamed regs n ≡ n
call_stays regs n call = grind (arith, eqb-true)

-- two calls, or the result and what is apart from it
why_apart : (a b c d : Bool) → a ≡ true → b ≡ true → (a && b && not c && not d) ≡ false → (c ≡ true) ⊎ (d ≡ true)
why_apart true true true d e f g = inl refl
why_apart true true false true e f g = inr refl
why_apart true true false false e f g = absurd (let h = g in cc)
why_apart true false c d e f g = absurd (let h = f in cc)
why_apart false b c d e f g = absurd (let h = e in cc)

-- what a course still knows after a write is in another register
pub known_apart : (regs : Registers) → AreInRange regs → (apart : ℕ → Bool) → AreApart regs apart → (n rd : ℕ) → is_named n ≡ true → is_writable rd ≡ true → n ≢ rd
    → may_be_one apart rd n ≡ false → renamed regs n ≢ renamed regs rd
known_apart regs range apart apart_is n rd named writable other unshared =
    ⊎_elim
    (λ (n_writable : is_writable n ≡ true).
    ⊎_elim
    (λ (n_shared : is_shared n ≡ true).
    ⊎_elim
    (λ (rd_shared : is_shared rd ≡ true). λ same.
    ⊎_elim
    (λ (calls : (is_call rd && is_call n) ≡ true).
    let are = and_parts (is_call rd) (is_call n) calls in
    other (sym (call_stays regs n are.1) ∙ same ∙ call_stays regs rd are.0))
    (λ (known : ((rd == 8) && apart n) ≡ true).
    let are = and_parts (rd == 8) (apart n) known in
    apart_is n are.1 (ap (renamed regs) (sym (eqb-true rd 8 are.0)) ∙ sym same))
    (why_apart (is_shared rd) (is_shared n) (is_call rd && is_call n) ((rd == 8) && apart n) rd_shared n_shared unshared))
    (λ (rd_free : is_free rd ≡ true). shared_apart regs range n rd n_shared rd_free)
    (or_cases (is_shared rd) (is_free rd) writable))
    (λ (n_free : is_free n ≡ true).
    ⊎_elim
    (λ (rd_shared : is_shared rd ≡ true). λ same. shared_apart regs range rd n rd_shared n_free (sym same))
    (λ (rd_free : is_free rd ≡ true). λ same. other (sym (free_stays regs n n_free).0 ∙ same ∙ (free_stays regs rd rd_free).0))
    (or_cases (is_shared rd) (is_free rd) writable))
    (or_cases (is_shared n) (is_free n) n_writable))
    (λ (zero_is : (n == 0) ≡ true). λ same.
    (writable_fits regs range rd writable).0 (sym same ∙ ap (renamed regs) (eqb-true n 0 zero_is)))
    (or_cases (is_writable n) (n == 0) named)
