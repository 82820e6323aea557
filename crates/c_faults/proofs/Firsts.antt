-- The first fault of a list is the lesser one of the first of its parts.
use Rattle.std.proofs.Common.{◌≡◌, ℕ, ◌+◌, ◌<◌, ◌≤◌, List, [], ◌∷◌, ◌++◌, Bool, true, false, ◌||◌, ◌&&◌, cond, Option, Some, None, get_or, drop, length, refl, sym, ap, ◌∙◌, arith}
use Rattle.std.specs.Prelude.{flat_map, nat_lt, ◌==◌}
use Rattle.std.proofs.lemmas.Bool.Decides.{nat_tests}
use Rattle.std.proofs.lemmas.List.{at_drop_more, at_drop_all}
use Rattle.sat_base.specs.declared.fault.Fault.{Fault}
use Rattle.sat_base.specs.Faults.{rank_of, is_before, lesser}
use Rattle.c_seen.specs.declared.seen.Seen.{Seen}
use Rattle.c_faults.specs.Faults.{rows, limits, faults_at, faults_in}
use Rattle.c_faults.specs.Told.{kept, first_of, first_among}

-- pairs of numbers in the order of the first, and then of the second
abbrev pub below : ℕ → ℕ → ℕ → ℕ → Bool
below t r u s = nat_lt t u || ((t == u) && nat_lt r s)

below-below : (t r u s v w : ℕ) → below u s t r ≡ true → below v w u s ≡ true → below v w t r ≡ true
below-below t r u s v w first second = grind (arith, nat_tests)

not_below : (t r u s v w : ℕ) → below u s t r ≡ false → below v w u s ≡ false → below v w t r ≡ false
not_below t r u s v w first second = grind (arith, nat_tests)

before-before : (a b c : Fault) → is_before b a ≡ true → is_before c b ≡ true → is_before c a ≡ true
before-before a b c = below-below a.tok (rank_of a.kind) b.tok (rank_of b.kind) c.tok (rank_of c.kind)

pub not_before : (a b c : Fault) → is_before b a ≡ false → is_before c b ≡ false → is_before c a ≡ false
not_before a b c = not_below a.tok (rank_of a.kind) b.tok (rank_of b.kind) c.tok (rank_of c.kind)

-- a choice between two, and then a third
choice : (a b c : Fault) (ba cb ca : Bool) → (ba ≡ true → cb ≡ true → ca ≡ true) → (ba ≡ false → cb ≡ false → ca ≡ false) →
    cond ba (cond cb (Some c) (Some b)) (cond ca (Some c) (Some a)) ≡ cond cb (cond ca (Some c) (Some a)) (cond ba (Some b) (Some a))
choice a b c true true true both none = refl
choice a b c true true false both none = cc (both refl refl)
choice a b c true false ca both none = refl
choice a b c false true ca both none = refl
choice a b c false false false both none = refl
choice a b c false false true both none = cc (none refl refl)

lesser-cond : (ba : Bool) (a b c : Fault) → lesser (cond ba (Some b) (Some a)) (Some c) ≡ cond ba (lesser (Some b) (Some c)) (lesser (Some a) (Some c))
lesser-cond true a b c = refl
lesser-cond false a b c = refl

cond-lesser : (cb : Bool) (a b c : Fault) → lesser (Some a) (cond cb (Some c) (Some b)) ≡ cond cb (lesser (Some a) (Some c)) (lesser (Some a) (Some b))
cond-lesser true a b c = refl
cond-lesser false a b c = refl

pub lesser-None : (a : Option Fault) → lesser a None ≡ a
lesser-None None = refl
lesser-None (Some a) = refl

pub lesser-assoc : (a b c : Option Fault) → lesser (lesser a b) c ≡ lesser a (lesser b c)
lesser-assoc None b c = refl
lesser-assoc (Some a) None c = refl
lesser-assoc (Some a) (Some b) None = lesser-None (lesser (Some a) (Some b))
lesser-assoc (Some a) (Some b) (Some c) =
    lesser-cond (is_before b a) a b c ∙ choice a b c (is_before b a) (is_before c b) (is_before c a) (before-before a b c) (not_before a b c) ∙ sym (cond-lesser (is_before c b) a b c)

first_of-append : (xs ys : List Fault) → first_of (xs ++ ys) ≡ lesser (first_of xs) (first_of ys)
first_of-append [] ys = refl
first_of-append (x ∷ xs) ys = ap (lesser (Some x)) (first_of-append xs ys) ∙ sym (lesser-assoc (Some x) (first_of xs) (first_of ys))

first_of-kept : (faults : List (Option Fault)) → first_of (kept faults) ≡ first_among faults
first_of-kept [] = refl
first_of-kept (None ∷ rest) = first_of-kept rest
first_of-kept (Some fault ∷ rest) = ap (lesser (Some fault)) (first_of-kept rest)

-- one more, as a loop goes on
pub first-next : (xs : List Seen) (i : ℕ) (d : Seen) → i < length xs → first_of (flat_map faults_at (drop i xs)) ≡ lesser (first_among (rows (get_or xs i d))) (first_of (flat_map faults_at (drop (i + 1) xs)))
first-next xs i d less =
    at_drop_more (λ (l : List Seen). first_of (flat_map faults_at l)) xs i d less ∙ first_of-append (kept (rows (get_or xs i d))) (flat_map faults_at (drop (i + 1) xs))
    ∙ ap (λ (f : Option Fault). lesser f (first_of (flat_map faults_at (drop (i + 1) xs)))) (first_of-kept (rows (get_or xs i d)))

pub first-end : (xs : List Seen) (i : ℕ) → length xs ≤ i → first_of (flat_map faults_at (drop i xs)) ≡ None
first-end xs i more = at_drop_all (λ (l : List Seen). first_of (flat_map faults_at l)) xs i more

pub among-next : (xs : List (Option Fault)) (i : ℕ) (d : Option Fault) → i < length xs → first_among (drop i xs) ≡ lesser (get_or xs i d) (first_among (drop (i + 1) xs))
among-next xs i d less = at_drop_more first_among xs i d less

pub among-end : (xs : List (Option Fault)) (i : ℕ) → length xs ≤ i → first_among (drop i xs) ≡ None
among-end xs i more = at_drop_all first_among xs i more

-- the faults, and then the limits
pub first-faults : (list : List Seen) → first_of (faults_in list) ≡ lesser (first_of (flat_map faults_at list)) (first_among (limits list))
first-faults list = first_of-append (flat_map faults_at list) (kept (limits list)) ∙ ap (lesser (first_of (flat_map faults_at list))) (first_of-kept (limits list))

pub ruleset firsts = (lesser-assoc, lesser-None, first-end, among-end, first-faults)
