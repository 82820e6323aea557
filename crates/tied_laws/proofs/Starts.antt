-- The starts of a block's objects.
use Rattle.std.proofs.Common.{◌≡◌, ℕ, ◌+◌, List, [], ◌∷◌, ◌++◌, Bool, true, false, length, refl, inl, inr, arith, subst}
use Rattle.std.specs.Prelude.{◌==◌, ◌&&◌, Some}
use Rattle.std.proofs.lemmas.Bool.{cases_Bool}
use Rattle.std.proofs.lemmas.Bool.Decides.{nat_tests}
use Rattle.std.proofs.lemmas.List.{length-append}
use Rattle.c_tree.specs.declared.declaration.Decl.{Decl}
use Rattle.c_tree.specs.declared.declaration.Objects.{Objects}
use Rattle.c_typed.specs.declared.statement.Start.{Start}
use Rattle.tied_names.specs.Ties.{Here}
use Rattle.tied_statements.specs.Declarations.{after_declared, starts_of, starts_in_lists}
use Rattle.tied_laws.specs.Following.{follow, first_object}

pub both : (a b : Bool) → a ≡ true → b ≡ true → (a && b) ≡ true
both true b p q = q
both false b p q = cc

pub left : (a b : Bool) → (a && b) ≡ true → a ≡ true
left true b p = refl
left false b p = p

same-number : (n : ℕ) → (n == n) ≡ true
same-number n = grind (arith, nat_tests)

follow-at : (n m : ℕ) (starts : List Start) → n ≡ m → follow n starts ≡ true → follow m starts ≡ true
follow-at n m starts is p = subst (λ k. follow k starts ≡ true) is p

follow-append : (n : ℕ) (xs ys : List Start) → follow n xs ≡ true → follow (n + length xs) ys ≡ true → follow n (xs ++ ys) ≡ true
follow-append n [] ys p q = follow-at (n + 0) n ys (omega arith) q
follow-append n (x ∷ xs) ys p q =
    elim (cases_Bool (x.object == n)) [
      | inl matched ↦
          let rest : follow (n + 1) xs ≡ true = rw matched at p in
          rw matched (follow-append (n + 1) xs ys rest (follow-at (n + length (x ∷ xs)) (n + 1 + length xs) ys (omega arith) q))
      | inr apart ↦ let never : false ≡ true = rw apart at p in cc
    ]

pub follow-starts : (here : Here) (function : ℕ) (decls : List Decl) → follow (length here.objects) (starts_of here function decls).value ≡ true
follow-starts here function [] = refl
follow-starts here function (decl ∷ decls) =
    both (length here.objects == length here.objects) _ (same-number (length here.objects))
    (follow-at (length (after_declared here (Some function) decl).objects) (length here.objects + 1) (starts_of (after_declared here (Some function) decl) function decls).value (length-append here.objects _) (follow-starts (after_declared here (Some function) decl) function decls))

after-starts : (here : Here) (function : ℕ) (decls : List Decl) → length (starts_of here function decls).after.objects ≡ length here.objects + length (starts_of here function decls).value
after-starts here function [] = omega arith
after-starts here function (decl ∷ decls) = omega (arith, after-starts (after_declared here (Some function) decl) function decls, length-append here.objects)

pub follow-lists : (here : Here) (function : ℕ) (lists : List Objects) → follow (length here.objects) (starts_in_lists here function lists).value ≡ true
follow-lists here function [] = refl
follow-lists here function (list ∷ lists) =
    follow-append (length here.objects) (starts_of here function list.decls).value _ (follow-starts here function list.decls)
    (follow-at (length (starts_of here function list.decls).after.objects) _ _ (after-starts here function list.decls) (follow-lists (starts_of here function list.decls).after function lists))

-- they follow the first of them
pub follow-first : (n : ℕ) (starts : List Start) → follow n starts ≡ true → follow (first_object starts) starts ≡ true
follow-first n [] p = refl
follow-first n (start ∷ starts) p =
    let same : (start.object == n) ≡ true = left (start.object == n) _ p in
    let is : n ≡ start.object = grind (arith, nat_tests) in
    follow-at n start.object (start ∷ starts) is p
