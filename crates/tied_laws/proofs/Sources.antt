-- The functions of a source, item by item.
use Rattle.std.proofs.Common.{◌≡◌, ℕ, zero, suc, ◌+◌, ◌<◌, List, [], ◌∷◌, ◌++◌, Bool, true, false, map, length, refl, inl, inr, arith}
use Rattle.std.specs.Prelude.{◌&&◌, nat_lt, slice_set, Option, Some, None}
use Rattle.std.proofs.lemmas.Bool.{cases_Bool}
use Rattle.std.proofs.lemmas.Bool.Decides.{nat_tests}
use Rattle.c_tree.specs.declared.function.Function.{Function}
use Rattle.c_tree.specs.declared.program.Item.{Item}
use Rattle.c_tree.specs.declared.program.Item.TheVariants as items
use Rattle.c_tree.specs.declared.statement.Block.{Block}
use Rattle.c_typed.specs.declared.typed.TypedFunction.{TypedFunction}
use Rattle.tied_names.specs.Ties.{tie_of}
use Rattle.c_types.specs.Sources.{Source, function_number, functions_or, declared, defining, number_of, after_declaration, parameters_of, inside_of, after_body, after_item, after_items}
use Rattle.tied_laws.specs.Following.{all_hold, function_follows}
use Rattle.tied_laws.proofs.Starts.{both, left}
use Rattle.tied_laws.proofs.Statements.{block-follows}

abbrev pub all_follow : List TypedFunction → Bool
all_follow functions = all_hold (map function_follows functions)

right : (a b : Bool) → (a && b) ≡ true → b ≡ true
right true b p = p
right false b p = cc

added : (functions : List TypedFunction) (function : Function) → all_follow functions ≡ true → all_follow (functions ++ declared function ∷ []) ≡ true
added [] function p = refl
added (f ∷ functions) function p = both (function_follows f) _ (left (function_follows f) _ p) (added functions function (right (function_follows f) _ p))

added-or : (number : Option ℕ) (functions : List TypedFunction) (function : Function) → all_follow functions ≡ true → all_follow (functions_or number functions function) ≡ true
added-or None functions function p = added functions function p
added-or (Some number) functions function p = p

set : (functions : List TypedFunction) (number : ℕ) (function : TypedFunction) → number < length functions → all_follow functions ≡ true → function_follows function ≡ true → all_follow (slice_set functions number function) ≡ true
set [] number function less p q = absurd (omega arith)
set (f ∷ functions) zero function less p q = both (function_follows function) _ q (right (function_follows f) _ p)
set (f ∷ functions) (suc number) function less p q = both (function_follows f) _ (left (function_follows f) _ p) (set functions number function (omega arith) (right (function_follows f) _ p) q)

after-declaration : (s : Source) (item : ℕ) (function : Function) → all_follow s.functions ≡ true → all_follow (after_declaration s item function).functions ≡ true
after-declaration s item function p = added-or (function_number (tie_of s.here function.name.name)) s.functions function p

defining-follows : (functions : List TypedFunction) (number : ℕ) (function : TypedFunction) → all_follow functions ≡ true → function_follows function ≡ true → all_follow (defining functions number function) ≡ true
defining-follows functions number function p q =
    elim (cases_Bool (nat_lt number (length functions))) [
      | inl before ↦ let less : number < length functions = grind (arith, nat_tests) in rw before (set functions number function less p q)
      | inr other ↦ rw other p
    ]

after-some : (s : Source) (number : ℕ) (function : Function) (body : Option Block) → all_follow s.functions ≡ true → all_follow (after_body s number function body).functions ≡ true
after-some s number function None p = p
after-some s number function (Some body) p =
    defining-follows s.functions number _ p (block-follows body (parameters_of s.here number function.params).after (inside_of number function))

after-one : (s : Source) (item : ℕ) (x : Item) → all_follow s.functions ≡ true → all_follow (after_item s item x).functions ≡ true
after-one s item (items.Objects list) p = p
after-one s item (items.Function function) p = after-some (after_declaration s item function) (number_of s function) function function.body (after-declaration s item function p)
after-one s item (items.ExternFlag at) p = p

pub after-all : (s : Source) (item : ℕ) (list : List Item) → all_follow s.functions ≡ true → all_follow (after_items s item list).functions ≡ true
after-all s item [] p = p
after-all s item (x ∷ rest) p = after-all (after_item s item x) (item + 1) rest (after-one s item x p)
