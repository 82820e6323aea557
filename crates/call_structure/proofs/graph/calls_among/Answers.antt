use Rattle.std.proofs.Common.{unwrap_or, slice_get, ◌≡◌, ◌<◌, ℕ, ◌+◌, List, [], ◌∷◌, ◌++◌, length, take, map, sym, ap, ◌∙◌, arith}
use Rattle.std.proofs.lemmas.List.{take_more, map-append}
use Rattle.std.proofs.lemmas.Option.{unwrap_or-slice_get}
use Rattle.sat_base.specs.declared.name.At.{At}
use Rattle.call_structure.specs.Calls.{called_by, places_of}
use Rattle.call_structure.specs.Definitions.{nowhere}
use Rattle.call_structure.proofs.graph.calls_among.Goals as goal

-- one item more of a list that a function is made of
next : {A B : Type 0} (f : A → B) (xs : List A) (i : ℕ) (d x : A) (done new : List B) → i < length xs → x ≡ unwrap_or (slice_get xs i) d
    → done ≡ map f (take i xs) → new ≡ done ++ f x ∷ [] → new ≡ map f (take (i + 1) xs)
next f xs i d x done new low is before after =
    after ∙ ap (λ ys. ys ++ f x ∷ []) before ∙ ap (λ y. map f (take i xs) ++ f y ∷ []) (is ∙ unwrap_or-slice_get xs i d)
    ∙ sym (map-append f (take i xs) _) ∙ ap (map f) (sym (take_more xs i d low))

pub loop-place-preserved : goal.loop-place-preserved
loop-place-preserved c =
    next (λ (definition : ℕ × At). places_of c.args.definitions.now.entries (called_by c.args.typed.now definition.0))
    c.args.definitions.now.entries c.loop-place.place nowhere c.definition_at-number.result c.loop-place.graph c.push.new.self
    (omega arith) c.definition_at-number.ensures c.loop-place.invariant
    (c.in_ok-push.ensures ∙ ap (λ (row : List ℕ). c.loop-place.graph ++ row ∷ []) (c.in_ok-places_of.ensures ∙ ap (places_of c.args.definitions.now.entries) (c.as_slice.ensures ∙ c.in_ok-called.ensures)))
