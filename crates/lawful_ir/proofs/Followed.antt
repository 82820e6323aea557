-- What stands in the tree of a block's objects is what stands at them, where they follow one another.
use Rattle.std.proofs.Common.{◌≡◌, ℕ, suc, ◌+◌, ◌<◌, List, [], ◌∷◌, ◌++◌, Bool, true, false, length, map, refl, sym, ap, ◌∙◌, subst, arith}
use Rattle.std.proofs.lemmas.Bool.Decides.{nat_tests}
use Rattle.std.proofs.lemmas.List.Concat.{flat_map-append}
use Rattle.std.specs.Prelude.{◌==◌, not, flat_map, slice_get, Option, Some, None, option_map}
use Rattle.operator_meaning.specs.declared.object.Object.{Object}
use Rattle.c_typed.specs.declared.call.TypedArg.{TypedArg}
use Rattle.c_typed.specs.declared.statement.Start.{Start}
use Rattle.c_typed.specs.declared.typed.Typed.{Typed}
use Rattle.ir_arena.specs.Tree.{trees_from}
use Rattle.typed_meaning.specs.Statements.{option_of}
use Rattle.source_trees.specs.Expressions.{TreeSetting, argument_tree}
use Rattle.source_trees.specs.Statements.{first_object, started, starts_in}
use Rattle.lawful_sources.specs.Expressions.{argument_look}
use Rattle.lawful_sources.specs.Objects.{begun_in, follow_from, follow_one_another}
use Rattle.lawful_sources.specs.Statements.{in_start, in_value_of}
use Rattle.lawful_sources.specs.Things.{Taken, Begins, taken_by_object}
use Rattle.lawful_sources.proofs.Begun.{none-begun, expressions-begin-nothing, begins_nothing}
use Rattle.lawful_sources.proofs.Passing.{argument-passes}
use Rattle.lawful_ir.specs.Positions.{Of, given_as}
use Rattle.lawful_ir.specs.Walk.{Started, begun_along, value_in, object_at, stands, starts_stand}
use Rattle.lawful_ir.proofs.Alike.{left, right, never, moved, Agrees, setting_of, Goes, nothing, along, next, goes-by}
use Rattle.lawful_ir.proofs.Calling.{Gives}
use Rattle.lawful_ir.proofs.Expressions.{argument-walks}

-- ---- numbers that follow one another

pub same-by : (n m : ℕ) → (n == m) ≡ true → n ≡ m
same-by n m p = grind (arith, nat_tests)

pub follow-earlier : (n : ℕ) (xs ys : List ℕ) → follow_from n (xs ++ ys) ≡ true → follow_from n xs ≡ true
follow-earlier n [] ys p = refl
follow-earlier n (x ∷ xs) ys p = rw (left (x == n) _ p) (follow-earlier (n + 1) xs ys (right (x == n) _ p))

alone : (n : ℕ) (xs : List ℕ) → follow_from n xs ≡ true → follow_one_another xs ≡ true
alone n [] p = refl
alone n (x ∷ xs) p = subst (λ m. follow_from (m + 1) xs ≡ true) (sym (same-by x n (left (x == n) _ p))) (right (x == n) _ p)

pub follow-later : (n : ℕ) (xs ys : List ℕ) → follow_from n (xs ++ ys) ≡ true → follow_one_another ys ≡ true
follow-later n [] ys p = alone n ys p
follow-later n (x ∷ xs) ys p = follow-later (n + 1) xs ys (right (x == n) _ p)

pub one-earlier : (xs ys : List ℕ) → follow_one_another (xs ++ ys) ≡ true → follow_one_another xs ≡ true
one-earlier [] ys p = refl
one-earlier (x ∷ xs) ys p = follow-earlier (x + 1) xs ys p

pub one-later : (xs ys : List ℕ) → follow_one_another (xs ++ ys) ≡ true → follow_one_another ys ≡ true
one-later [] ys p = p
one-later (x ∷ xs) ys p = follow-later (x + 1) xs ys p

-- ---- objects

-- the first that starts with a value is another
abbrev differs : ℕ → List Started → Bool
differs n [] = true
differs n (start ∷ starts) = not (start.object == n)

begun-none : (n count : ℕ) (starts : List Started) → differs n starts ≡ true → begun_along n (suc count) starts ≡ Of (Begins n None) ∷ begun_along (n + 1) count starts
begun-none n count [] p = refl
begun-none n count (start ∷ starts) p = none-by (start.object == n) p refl
  where
    none-by : (b : Bool) → not b ≡ true → (start.object == n) ≡ b → begun_along n (suc count) (start ∷ starts) ≡ Of (Begins n None) ∷ begun_along (n + 1) count (start ∷ starts)
    none-by true q is = never q
    none-by false q is = rw is refl

pub taken-alike : (place : ℕ → ℕ) (x y : Option Object) → y ≡ option_map (moved place) x → taken_by_object y ≡ taken_by_object x
taken-alike place None y is = rw is refl
taken-alike place (Some o) y is = rw is refl

module _ (source tables : Typed) (numbers : List ℕ) (place : ℕ → ℕ) (agrees : Agrees source tables numbers place) where
  abbrev here : TreeSetting
  here = setting_of source numbers

  abbrev pub numbers_of : List Start → List ℕ
  numbers_of starts = map (λ (start : Start). start.object) starts

  abbrev valued_starts : List Start → List Started
  valued_starts starts = starts_stand tables (trees_from (starts_in here starts))

  -- the first that starts with a value has no smaller number
  first-differs : (n m object : ℕ) (value : Option TypedArg) (starts : List Start) → n < m → (object == m) ≡ true → differs n (valued_starts starts) ≡ true
      → differs n (starts_stand tables (trees_from (started object (option_of (argument_tree here) value) (starts_in here starts)))) ≡ true
  first-differs n m object None starts less is rest = rest
  first-differs n m object (Some value) starts less is rest = apart n m object less is
    where
      apart : (n m object : ℕ) → n < m → (object == m) ≡ true → not (object == n) ≡ true
      apart n m object less is = grind (arith, nat_tests)

  all-differ : (n m : ℕ) (starts : List Start) → n < m → follow_from m (numbers_of starts) ≡ true → differs n (valued_starts starts) ≡ true
  all-differ n m [] less p = refl
  all-differ n m (start ∷ starts) less p =
      first-differs n m start.object start.value starts less (left (start.object == m) _ p) (all-differ n (m + 1) starts (omega arith) (right (start.object == m) _ p))

  value-begins : (object : ℕ) (value : TypedArg) → Goes source tables numbers
      (stands tables (argument_tree here value) (given_as (taken_by_object (object_at tables object))) ++ (Of (Begins object (Some (value_in (argument_tree here value)))) ∷ []))
      (in_value_of source object (Some (argument_look source value)))
  value-begins object value =
      let walks : Gives source tables numbers place agrees (argument_tree here value) (argument_look source value) = argument-walks source tables numbers place agrees value in
      along source tables numbers _ _ _ _
      (subst (λ (t : Option Taken). Goes source tables numbers (stands tables (argument_tree here value) (given_as t)) ((argument_look source value).stands (taken_by_object (slice_get source.objects object))))
      (sym (taken-alike place _ _ (agrees.objects object))) (walks.given (taken_by_object (slice_get source.objects object))))
      (next source tables numbers (Of (Begins object (Some (value_in (argument_tree here value)))) ∷ []) [] (Begins object (Some (argument_look source value).value)) []
      (λ p. ap (λ v. Of (Begins object (Some v)) ∷ []) walks.value) (nothing source tables numbers))

  one-begins : (n object : ℕ) (value : Option TypedArg) (starts : List Start) → (object == n) ≡ true → differs n (valued_starts starts) ≡ true
      → Goes source tables numbers (begun_along (n + 1) (length starts) (valued_starts starts)) (flat_map (in_start source) starts)
      → Goes source tables numbers (begun_along n (suc (length starts)) (starts_stand tables (trees_from (started object (option_of (argument_tree here) value) (starts_in here starts)))))
      (in_value_of source object (option_map (argument_look source) value) ++ flat_map (in_start source) starts)
  one-begins n object None starts is other goes =
      goes-by source tables numbers _ _ _ (begun-none n (length starts) (valued_starts starts) other)
      (next source tables numbers (Of (Begins n None) ∷ []) _ (Begins object None) _ (λ p. ap (λ (k : ℕ). Of (Begins k None) ∷ []) (sym (same-by object n is))) goes)
  one-begins n object (Some value) starts is other goes =
      goes-by source tables numbers _ _ _ (rw is refl) (along source tables numbers _ _ _ _ (value-begins object value) goes)

  starts-go : (n : ℕ) (starts : List Start) → follow_from n (numbers_of starts) ≡ true → Goes source tables numbers (begun_along n (length starts) (valued_starts starts)) (flat_map (in_start source) starts)
  starts-go n [] p = nothing source tables numbers
  starts-go n (start ∷ starts) p =
      one-begins n start.object start.value starts (left (start.object == n) _ p) (all-differ n (n + 1) starts (omega arith) (right (start.object == n) _ p)) (starts-go (n + 1) starts (right (start.object == n) _ p))

  -- what stands at an object begins that alone
  one-begun : (object : ℕ) (value : Option TypedArg) → begun_in (in_value_of source object (option_map (argument_look source) value)) ≡ object ∷ []
  one-begun object None = refl
  one-begun object (Some value) =
      flat_map-append _ ((argument_look source value).stands (taken_by_object (slice_get source.objects object))) _
      ∙ ap (λ (l : List ℕ). l ++ object ∷ []) (none-begun _ (argument-passes source begins_nothing expressions-begin-nothing value (taken_by_object (slice_get source.objects object))))

  all-begun : (starts : List Start) → begun_in (flat_map (in_start source) starts) ≡ numbers_of starts
  all-begun [] = refl
  all-begun (start ∷ starts) =
      flat_map-append _ (in_start source start) (flat_map (in_start source) starts) ∙ ap (λ (l : List ℕ). l ++ begun_in (flat_map (in_start source) starts)) (one-begun start.object start.value) ∙ ap (λ (l : List ℕ). start.object ∷ l) (all-begun starts)

  from-first : (starts : List Start) → follow_one_another (numbers_of starts) ≡ true → follow_from (first_object starts) (numbers_of starts) ≡ true
  from-first [] p = refl
  from-first (start ∷ starts) p = let own : (start.object == start.object) ≡ true = grind (arith, nat_tests) in rw own p

  pub block-starts : (starts : List Start) → follow_one_another (begun_in (flat_map (in_start source) starts)) ≡ true
      → Goes source tables numbers (begun_along (first_object starts) (length starts) (valued_starts starts)) (flat_map (in_start source) starts)
  block-starts starts p = starts-go (first_object starts) starts (from-first starts (subst (λ (l : List ℕ). follow_one_another l ≡ true) (all-begun starts) p))
