-- The first function at a distance, as more functions are looked at.
use Rattle.std.proofs.Common.{◌≡◌, ℕ, ◌+◌, ◌<◌, ◌≤◌, List, length, get_or, sym, subst, inl, inr, arith, below_more, min}
use Rattle.std.specs.Prelude.{Option, Some, None, Contains, MatchOption}
use Rattle.std.proofs.lemmas.Bool.{cases_lt}
use Rattle.std.proofs.lemmas.List.{get_or_default}
use Rattle.call_graph.specs.Cycles.{IsNearest}
use Rattle.call_graph.specs.Distances.{distance_in}

module _ (called : List ℕ) (count : ℕ) (distances : List (Option ℕ)) (distance : ℕ) where
  pub nearest-not : (first : Option ℕ) → IsNearest called count distances distance first → (distance_in distances (get_or called count 0) ≡ Some distance → ⊥) → IsNearest called (count + 1) distances distance first
  nearest-not None nearest other = below_more _ _ nearest other
  nearest-not (Some g) nearest other = (nearest.0, nearest.1, below_more _ _ nearest.2 (λ is. absurd (other is)))

  pub nearest-least : (first : Option ℕ) (least : ℕ) → count < length called → IsNearest called count distances distance first → distance_in distances (get_or called count 0) ≡ Some distance →
      MatchOption first (least ≡ get_or called count 0) (λ g. least ≡ min g (get_or called count 0)) → IsNearest called (count + 1) distances distance (Some least)
  nearest-least None least within nearest at is =
      let among : Contains called (get_or called count 0) = (count, within, get_or_default called count (get_or called count 0) 0 within) in
      subst (λ g. IsNearest called (count + 1) distances distance (Some g)) (sym is) (among, at, below_more _ _ (λ k less near. absurd (nearest k less near)) (λ near. omega arith))
  nearest-least (Some g) least within nearest at is =
      elim (cases_lt g (get_or called count 0)) [
        | inl less ↦ subst (λ h. IsNearest called (count + 1) distances distance (Some h)) (let same : g ≡ least = omega (arith, is, less) in same) (nearest.0, nearest.1, below_more _ _ nearest.2 (λ near. omega (arith, less)))
        | inr more ↦
            let among : Contains called (get_or called count 0) = (count, within, get_or_default called count (get_or called count 0) 0 within) in
            subst (λ h. IsNearest called (count + 1) distances distance (Some h)) (let same : get_or called count 0 ≡ least = omega (arith, is, more) in same)
            (among, at, below_more _ _ (λ k less near. let old = nearest.2 k less near in omega (arith, old, more)) (λ near. omega arith))
      ]

pub nearest-all : (called : List ℕ) (count : ℕ) (distances : List (Option ℕ)) (distance : ℕ) (first : Option ℕ) → length called ≤ count → IsNearest called count distances distance first → IsNearest called (length called) distances distance first
nearest-all called count distances distance None all nearest = λ k less. nearest k (omega (arith, less, all))
nearest-all called count distances distance (Some g) all nearest = (nearest.0, nearest.1, λ k less. nearest.2 k (omega (arith, less, all)))
