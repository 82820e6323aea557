-- What holds of each function: one that is declared alone, and one that is defined. Item by item.
use Rattle.std.proofs.Common.{◌≡◌, ℕ, zero, suc, ◌+◌, ◌<◌, List, [], ◌∷◌, Bool, true, false, length, refl, inl, inr, arith, ◌∙◌}
use Rattle.std.specs.Prelude.{flat_map, ◌&&◌, nat_lt, slice_set, Option, Some, None}
use Rattle.std.specs.List.{list_all}
use Rattle.std.proofs.lemmas.Bool.{cases_Bool}
use Rattle.std.proofs.lemmas.Bool.Decides.{nat_tests}
use Rattle.std.proofs.lemmas.List.Folds.{list_all-append}
use Rattle.c_tree.specs.declared.function.Function.{Function}
use Rattle.c_tree.specs.declared.program.Item.{Item}
use Rattle.c_tree.specs.declared.program.Item.TheVariants as items
use Rattle.c_tree.specs.declared.statement.Block.{Block}
use Rattle.c_typed.specs.declared.typed.TypedFunction.{TypedFunction}
use Rattle.tied_names.specs.Ties.{Here, tie_of}
use Rattle.tied_statements.specs.Statements.{tied_block}
use Rattle.c_types.specs.Sources.{Source, function_number, functions_or, declared, defined, defining, number_of, after_declaration, parameters_of, inside_of, after_body, after_item, after_items}

pub both : (a b : Bool) → a ≡ true → b ≡ true → (a && b) ≡ true
both true b p q = q
both false b p q = cc

pub left : (a b : Bool) → (a && b) ≡ true → a ≡ true
left true b p = refl
left false b p = p

pub right : (a b : Bool) → (a && b) ≡ true → b ≡ true
right true b p = p
right false b p = cc

-- what passes in each passes in all
pub all-flat : {A B : Type 0} (parts : A → List B) (test : B → Bool) (xs : List A) → list_all (λ x. list_all test (parts x)) xs ≡ true → list_all test (flat_map parts xs) ≡ true
all-flat parts test [] p = refl
all-flat parts test (x ∷ xs) p = list_all-append test (parts x) (flat_map parts xs) ∙ both _ _ (left (list_all test (parts x)) _ p) (all-flat parts test xs (right (list_all test (parts x)) _ p))

-- what is asked of the body of a function, and of all bodies
abbrev pub GoodBody : (Function → Block → Type 0) → Function → Option Block → Type 0
GoodBody Good function None = Unit {0}
GoodBody Good function (Some body) = Good function body

abbrev pub AllGood : (Function → Block → Type 0) → List Item → Type 0
AllGood Good [] = Unit {0}
AllGood Good (items.Objects list ∷ rest) = AllGood Good rest
AllGood Good (items.Function function ∷ rest) = GoodBody Good function function.body × AllGood Good rest
AllGood Good (items.ExternFlag at ∷ rest) = AllGood Good rest

module _ (holds : TypedFunction → Bool) (Good : Function → Block → Type 0)
    (bare : (function : Function) → holds (declared function) ≡ true)
    (whole : (function : Function) (body : Block) → Good function body → (numbers : List ℕ) (here : Here) (number : ℕ) → holds (defined function numbers (tied_block body here (inside_of number function)).value) ≡ true) where
  added-or : (number : Option ℕ) (functions : List TypedFunction) (function : Function) → list_all holds functions ≡ true → list_all holds (functions_or number functions function) ≡ true
  added-or None functions function p = list_all-append holds functions (declared function ∷ []) ∙ both _ _ p (both _ _ (bare function) refl)
  added-or (Some number) functions function p = p

  set : (functions : List TypedFunction) (number : ℕ) (function : TypedFunction) → number < length functions → list_all holds functions ≡ true → holds function ≡ true → list_all holds (slice_set functions number function) ≡ true
  set [] number function less p q = absurd (omega arith)
  set (f ∷ functions) zero function less p q = both (holds function) _ q (right (holds f) _ p)
  set (f ∷ functions) (suc number) function less p q = both (holds f) _ (left (holds f) _ p) (set functions number function (omega arith) (right (holds f) _ p) q)

  defining-holds : (functions : List TypedFunction) (number : ℕ) (function : TypedFunction) → list_all holds functions ≡ true → holds function ≡ true → list_all holds (defining functions number function) ≡ true
  defining-holds functions number function p q =
      elim (cases_Bool (nat_lt number (length functions))) [
        | inl before ↦ let less : number < length functions = grind (arith, nat_tests) in rw before (set functions number function less p q)
        | inr other ↦ rw other p
      ]

  after-some : (s : Source) (number : ℕ) (function : Function) (body : Option Block) → GoodBody Good function body → list_all holds s.functions ≡ true → list_all holds (after_body s number function body).functions ≡ true
  after-some s number function None good p = p
  after-some s number function (Some body) good p =
      defining-holds s.functions number _ p (whole function body good (parameters_of s.here number function.params).numbers (parameters_of s.here number function.params).after number)

  pub after-all : (s : Source) (item : ℕ) (list : List Item) → AllGood Good list → list_all holds s.functions ≡ true → list_all holds (after_items s item list).functions ≡ true
  after-all s item [] good p = p
  after-all s item (items.Objects list ∷ rest) good p = after-all (after_item s item (items.Objects list)) (item + 1) rest good p
  after-all s item (items.Function function ∷ rest) good p =
      after-all (after_item s item (items.Function function)) (item + 1) rest good.1
      (after-some (after_declaration s item function) (number_of s function) function function.body good.0 (added-or (function_number (tie_of s.here function.name.name)) s.functions function p))
  after-all s item (items.ExternFlag at ∷ rest) good p = after-all s (item + 1) rest good p
