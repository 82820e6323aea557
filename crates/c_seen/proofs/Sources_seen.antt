-- What is seen in items, one more at a time, as the loops go through them.
use Rattle.std.proofs.Common.{◌≡◌, ℕ, ◌+◌, ◌<◌, ◌≤◌, List, [], ◌∷◌, ◌++◌, get_or, drop, length, refl, sym, ap, ◌∙◌}
use Rattle.std.proofs.lemmas.List.{at_drop_more, at_drop_all}
use Rattle.sat_base.specs.declared.name.At.{At}
use Rattle.c_scopes.specs.Scopes.{Known}
use Rattle.c_tree.specs.declared.declaration.Objects.{Objects}
use Rattle.c_tree.specs.declared.function.Function.{Function}
use Rattle.c_tree.specs.declared.program.Item.{Item}
use Rattle.c_tree.specs.declared.program.Item.TheVariants as items
use Rattle.c_seen.specs.declared.functions.Declaration.{Declaration}
use Rattle.c_seen.specs.Functions.{declaring_function, functions_from}
use Rattle.c_seen.specs.Meanings.{Names}
use Rattle.c_seen.specs.Sources.{seen_in_item, after_item, functions_after, seen_in_items}
use Rattle.c_seen.proofs.Lists.{lists}

next : {Y : Type 0} (F : List Item → Y) (xs : List Item) (i : ℕ) (x y : Item) → i < length xs → x ≡ get_or xs i x → x ≡ y → F (drop i xs) ≡ F (y ∷ drop (i + 1) xs)
next F xs i x y less is same = at_drop_more F xs i x less ∙ ap (λ (z : Item). F (z ∷ drop (i + 1) xs)) (sym is ∙ same)

pub items-next : (names : Names) (earlier : List (Known Declaration)) (xs : List Item) (i : ℕ) (x : Item) → i < length xs → x ≡ get_or xs i x →
    seen_in_items names earlier i (drop i xs) ≡ seen_in_item names earlier i x ++ seen_in_items (after_item names i x) (functions_after names.items earlier i x) (i + 1) (drop (i + 1) xs)
items-next names earlier xs i x less is = next (seen_in_items names earlier i) xs i x x less is refl

pub items-end : (names : Names) (earlier : List (Known Declaration)) (xs : List Item) (i : ℕ) → length xs ≤ i → seen_in_items names earlier i (drop i xs) ≡ []
items-end names earlier xs i more = at_drop_all (seen_in_items names earlier i) xs i more

pub functions-Function : (list : List Item) (functions : List (Known Declaration)) (xs : List Item) (i : ℕ) (x : Item) (function : Function) → i < length xs → x ≡ get_or xs i x → x ≡ items.Function function →
    functions_from list functions i (drop i xs) ≡ functions_from list (declaring_function list functions i function) (i + 1) (drop (i + 1) xs)
functions-Function list functions xs i x function less is same = next (functions_from list functions i) xs i x (items.Function function) less is same

pub functions-Objects : (list : List Item) (functions : List (Known Declaration)) (xs : List Item) (i : ℕ) (x : Item) (objects : Objects) → i < length xs → x ≡ get_or xs i x → x ≡ items.Objects objects →
    functions_from list functions i (drop i xs) ≡ functions_from list functions (i + 1) (drop (i + 1) xs)
functions-Objects list functions xs i x objects less is same = next (functions_from list functions i) xs i x (items.Objects objects) less is same

pub functions-ExternFlag : (list : List Item) (functions : List (Known Declaration)) (xs : List Item) (i : ℕ) (x : Item) (at : At) → i < length xs → x ≡ get_or xs i x → x ≡ items.ExternFlag at →
    functions_from list functions i (drop i xs) ≡ functions_from list functions (i + 1) (drop (i + 1) xs)
functions-ExternFlag list functions xs i x at less is same = next (functions_from list functions i) xs i x (items.ExternFlag at) less is same

pub functions-end : (list : List Item) (functions : List (Known Declaration)) (xs : List Item) (i : ℕ) → length xs ≤ i → functions_from list functions i (drop i xs) ≡ functions
functions-end list functions xs i more = at_drop_all (functions_from list functions i) xs i more

pub ruleset sources = (lists, items-next, items-end, functions-Function, functions-Objects, functions-ExternFlag, functions-end)
