-- Objects that are added to those before: which of them are those of a function, and which of a list of things begin.
use Rattle.std.proofs.Common.{◌≡◌, ℕ, ◌+◌, List, [], ◌∷◌, ◌++◌, Bool, true, false, length, refl, sym, ap, ◌∙◌, subst, append_assoc, length-append, arith}
use Rattle.std.specs.Prelude.{Some, None, ◌==◌, if◌then◌else◌}
use Rattle.std.proofs.lemmas.Bool.{and_parts, and_from, eqb-true, eq-eqb}
use Rattle.std.proofs.lemmas.Grind.{flat_map-append}
use Rattle.std.proofs.lemmas.List.{append-nil}
use Rattle.operator_meaning.specs.declared.object.Object.{Object}
use Rattle.lawful_sources.specs.Things.{Thing}
use Rattle.lawful_sources.specs.Objects.{is_number, own_from, follow_from, follow_one_another, begun, begun_in}
use Rattle.lawful_sources.proofs.Begun.{begins_nothing, none-begun}
use Rattle.lawful_sources.proofs.Passing.{Each}

-- ---- the objects of a function

abbrev pub own : ℕ → List Object → List ℕ
own function objects = own_from function 0 objects

-- these numbers, where the function is the one that adds them
abbrev pub if_own : Bool → List ℕ → List ℕ
if_own same numbers = if same then numbers else []

own-nothing : (same : Bool) → if_own same [] ≡ []
own-nothing true = refl
own-nothing false = refl

own-append : (same : Bool) (xs ys : List ℕ) → if_own same (xs ++ ys) ≡ if_own same xs ++ if_own same ys
own-append true xs ys = refl
own-append false xs ys = refl

after-first : (same : Bool) (x : ℕ) (all xs ys : List ℕ) → all ≡ xs ++ ys → (if same then x ∷ all else all) ≡ (if same then x ∷ xs else xs) ++ ys
after-first true x all xs ys p = ap (λ (l : List ℕ). x ∷ l) p
after-first false x all xs ys p = p

own-last : (function number : ℕ) (objects : List Object) (one : Object) → own_from function number (objects ++ one ∷ []) ≡ own_from function number objects ++ if_own (is_number function one.function) ((number + length objects) ∷ [])
own-last function number [] one = ap (λ (n : ℕ). if_own (is_number function one.function) (n ∷ [])) (omega arith)
own-last function number (object ∷ objects) one =
    after-first (is_number function object.function) number _ _ _
    (own-last function (number + 1) objects one ∙ ap (λ (n : ℕ). own_from function (number + 1) objects ++ if_own (is_number function one.function) (n ∷ [])) (omega arith))

-- what belongs to no function is no function's own
pub own-outside : (function : ℕ) (objects : List Object) (one : Object) → one.function ≡ None → own function (objects ++ one ∷ []) ≡ own function objects
own-outside function objects one p =
    own-last function 0 objects one ∙ ap (λ (o : _). own function objects ++ if_own (is_number function o) ((0 + length objects) ∷ [])) p ∙ append-nil (own function objects)

-- ---- numbers that follow one another

follow-at : (n m : ℕ) (xs : List ℕ) → n ≡ m → follow_from n xs ≡ true → follow_from m xs ≡ true
follow-at n m xs is p = subst (λ (k : ℕ). follow_from k xs ≡ true) is p

follow-append : (n : ℕ) (xs ys : List ℕ) → follow_from n xs ≡ true → follow_from (n + length xs) ys ≡ true → follow_from n (xs ++ ys) ≡ true
follow-append n [] ys p q = follow-at _ n ys (omega arith) q
follow-append n (x ∷ xs) ys p q = let both = and_parts (x == n) _ p in and_from (x == n) _ both.0 (follow-append (n + 1) xs ys both.1 (follow-at _ _ ys (omega arith) q))

follow-first : (n : ℕ) (xs : List ℕ) → follow_from n xs ≡ true → follow_one_another xs ≡ true
follow-first n [] p = refl
follow-first n (x ∷ xs) p = let both = and_parts (x == n) _ p in follow-at _ _ xs (ap (λ (k : ℕ). k + 1) (sym (eqb-true x n both.0))) both.1

-- ---- objects that a function adds

-- The objects that the function of a number adds are these, as another function or the same one sees it. They have the
-- numbers after those before, one after the other.
pub record Adds (function number : ℕ) (before after : List Object) (numbers : List ℕ) : Type 0 where
  pub is : own function after ≡ own function before ++ if_own (function == number) numbers
  pub row : follow_from (length before) numbers ≡ true
  pub long : length after ≡ length before + length numbers

module _ (function number : ℕ) where
  pub adds-nothing : (objects : List Object) → Adds function number objects objects []
  adds-nothing objects = record {
    is = sym (ap (λ (l : List ℕ). own function objects ++ l) (own-nothing (function == number)) ∙ append-nil (own function objects));
    row = refl;
    long = omega arith;
  }

  pub adds-one : (objects : List Object) (one : Object) → one.function ≡ Some number → Adds function number objects (objects ++ one ∷ []) (length objects ∷ [])
  adds-one objects one p = record {
    is = own-last function 0 objects one ∙ ap (λ (o : _). own function objects ++ if_own (is_number function o) ((0 + length objects) ∷ [])) p
        ∙ ap (λ (n : ℕ). own function objects ++ if_own (function == number) (n ∷ [])) (omega arith);
    row = and_from (length objects == length objects) true (eq-eqb _ _ refl) refl;
    long = length-append objects (one ∷ []);
  }

  pub adds-more : (before between after : List Object) (xs ys : List ℕ) → Adds function number before between xs → Adds function number between after ys → Adds function number before after (xs ++ ys)
  adds-more before between after xs ys p q = record {
    is = q.is ∙ ap (λ (l : List ℕ). l ++ if_own (function == number) ys) p.is ∙ append_assoc (own function before) _ _
        ∙ ap (λ (l : List ℕ). own function before ++ l) (sym (own-append (function == number) xs ys));
    row = follow-append (length before) xs ys p.row (follow-at _ _ ys p.long q.row);
    long = omega (arith, p.long, q.long, length-append xs ys);
  }

  pub numbers-follow : (before after : List Object) (numbers : List ℕ) → Adds function number before after numbers → follow_one_another numbers ≡ true
  numbers-follow before after numbers p = follow-first (length before) numbers p.row

  -- ---- by what begins in a list of things

  pub record Begins (before after : List Object) (things : List Thing) : Type 0 where
    pub adds : Adds function number before after (begun_in things)

  pub begins-nothing : (objects : List Object) (things : List Thing) → Each begins_nothing things → Begins objects objects things
  begins-nothing objects things p = record { adds = subst (Adds function number objects objects) (sym (none-begun things p)) (adds-nothing objects) }

  pub begins-more : (before between after : List Object) (xs ys : List Thing) → Begins before between xs → Begins between after ys → Begins before after (xs ++ ys)
  begins-more before between after xs ys p q = record { adds = subst (Adds function number before after) (sym (flat_map-append begun xs ys)) (adds-more before between after _ _ p.adds q.adds) }
