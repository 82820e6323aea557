-- Two lists of parameters, one more pair at a time.
use Rattle.std.proofs.Common.{◌≡◌, ℕ, ◌+◌, ◌<◌, ◌≤◌, List, ◌∷◌, true, ◌&&◌, get_or, drop, length, sym, ap, ◌∙◌}
use Rattle.std.proofs.lemmas.List.{at_drop_more, at_drop_all}
use Rattle.c_tree.specs.declared.function.Param.{Param}
use Rattle.c_seen.specs.Functions.{same_parameter, same_each}

pub each-next : (xs ys : List Param) (i : ℕ) (x y : Param) → i < length xs → i < length ys → x ≡ get_or xs i x → y ≡ get_or ys i y → same_each (drop i xs) (drop i ys) ≡ same_parameter x y && same_each (drop (i + 1) xs) (drop (i + 1) ys)
each-next xs ys i x y less fewer is that =
    at_drop_more (λ (l : List Param). same_each l (drop i ys)) xs i x less ∙ at_drop_more (λ (l : List Param). same_each (get_or xs i x ∷ drop (i + 1) xs) l) ys i y fewer
    ∙ ap (λ (z : Param). same_parameter z (get_or ys i y) && same_each (drop (i + 1) xs) (drop (i + 1) ys)) (sym is)
    ∙ ap (λ (z : Param). same_parameter x z && same_each (drop (i + 1) xs) (drop (i + 1) ys)) (sym that)

pub each-end : (xs ys : List Param) (i : ℕ) → length xs ≤ i → same_each (drop i xs) (drop i ys) ≡ true
each-end xs ys i more = at_drop_all (λ (l : List Param). same_each l (drop i ys)) xs i more

pub ruleset pairs = (each-next, each-end)
