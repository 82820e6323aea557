-- Items, parameters and constants, one more at a time.
use Rattle.std.proofs.Common.{◌≡◌, ℕ, ◌+◌, ◌<◌, ◌≤◌, List, [], ◌∷◌, ◌++◌, get_or, drop, length, refl, sym, ap, ◌∙◌, append_assoc}
use Rattle.std.proofs.lemmas.List.{append-nil, at_drop_more, at_drop_all}
use Rattle.c_tree.specs.declared.function.Param.{Param}
use Rattle.c_tree.specs.declared.program.Item.{Item}
use Rattle.tied_names.specs.declared.note.Note.{Note}
use Rattle.tied_names.specs.Numbers.{sites_in}
use Rattle.tied_names.specs.Ties.{Here}
use Rattle.std.specs.Prelude.{ℤ}
use Rattle.c_seen.specs.declared.seen.Seen.{Seen}
use Rattle.c_types.specs.Constants.{constant_in, new_constant, with_constant, constants_after}
use Rattle.c_types.specs.Sources.{Source, after_item, after_items, after_parameter, parameters_of}

next : {X Y : Type 0} (F : List X → Y) (xs : List X) (i : ℕ) (x : X) → i < length xs → x ≡ get_or xs i x → F (drop i xs) ≡ F (x ∷ drop (i + 1) xs)
next F xs i x less is = at_drop_more F xs i x less ∙ ap (λ (y : _). F (y ∷ drop (i + 1) xs)) (sym is)

pub items-next : (s : Source) (xs : List Item) (i : ℕ) (x : Item) → i < length xs → x ≡ get_or xs i x → after_items s i (drop i xs) ≡ after_items (after_item s i x) (i + 1) (drop (i + 1) xs)
items-next s xs i x less is = next (λ (l : List Item). after_items s i l) xs i x less is

pub items-end : (s : Source) (xs : List Item) (i : ℕ) → length xs ≤ i → after_items s i (drop i xs) ≡ s
items-end s xs i more = at_drop_all (λ (l : List Item). after_items s i l) xs i more

pub parameters-next : (here : Here) (function : ℕ) (xs : List Param) (i : ℕ) (x : Param) → i < length xs → x ≡ get_or xs i x → parameters_of here function (drop i xs) ≡ record {
  numbers = length here.objects ∷ (parameters_of (after_parameter here function x) function (drop (i + 1) xs)).numbers;
  after = (parameters_of (after_parameter here function x) function (drop (i + 1) xs)).after;
}
parameters-next here function xs i x less is = next (λ (l : List Param). parameters_of here function l) xs i x less is

pub parameters-end : (here : Here) (function : ℕ) (xs : List Param) (i : ℕ) → length xs ≤ i → parameters_of here function (drop i xs) ≡ record { numbers = []; after = here }
parameters-end here function xs i more = at_drop_all (λ (l : List Param). parameters_of here function l) xs i more

pub sites-next : (xs : List Note) (i : ℕ) (x : Note) → i < length xs → x ≡ get_or xs i x → sites_in (drop i xs) ≡ sites_in (x ∷ drop (i + 1) xs)
sites-next xs i x less is = next sites_in xs i x less is

pub sites-end : (xs : List Note) (i : ℕ) → length xs ≤ i → sites_in (drop i xs) ≡ []
sites-end xs i more = at_drop_all sites_in xs i more

pub constants-next : (before : List ℤ) (xs : List Seen) (i : ℕ) (x : Seen) → i < length xs → x ≡ get_or xs i x → constants_after before (drop i xs) ≡ new_constant before (constant_in x) ++ constants_after (with_constant before (constant_in x)) (drop (i + 1) xs)
constants-next before xs i x less is = next (constants_after before) xs i x less is

pub constants-end : (before : List ℤ) (xs : List Seen) (i : ℕ) → length xs ≤ i → constants_after before (drop i xs) ≡ []
constants-end before xs i more = at_drop_all (constants_after before) xs i more

pub ruleset sources = (constants-next, constants-end, append_assoc, append-nil, items-next, items-end, parameters-next, parameters-end, sites-next, sites-end)
