-- How deep the calls of some expressions are nested.
use Rattle.std.proofs.Common.{◌≡◌, ℕ, ◌+◌, max, ◌≤◌, ◌⊎◌, List, [], ◌∷◌, ◌++◌, All, inl, inr, ap, ◌∙◌, arith}
use Rattle.std.proofs.lemmas.List.Elements.{All-nil, All-cons, All-head, All-tail}
use Rattle.sat_base.specs.declared.position.Pos.{Pos}
use Rattle.first_form.specs.declared.first.FirstExpr.{FirstExpr}
use Rattle.first_form.specs.declared.first.FirstExpr.TheVariants.{Add, Sub}
use Rattle.first_form.specs.Form.{nesting_of}
use Rattle.first_form.proofs.Calls.{nesting_of-Add, nesting_of-Sub}
use Rattle.sat_compile.specs.Emission.{deepest_of}

-- the deepest is within a bound where each is
pub deepest-within : (bound : ℕ) (es : List FirstExpr) → All (λ e. nesting_of e ≤ bound) es → deepest_of es ≤ bound
deepest-within bound [] all = omega arith
deepest-within bound (e ∷ es) all =
    omega (arith, All-head (λ e. nesting_of e ≤ bound) e es all, deepest-within bound es (All-tail (λ e. nesting_of e ≤ bound) e es all))

-- and each is where the deepest is
pub within-deepest : (bound : ℕ) (es : List FirstExpr) → deepest_of es ≤ bound → All (λ e. nesting_of e ≤ bound) es
within-deepest bound [] low = All-nil (λ e. nesting_of e ≤ bound)
within-deepest bound (e ∷ es) low = All-cons (λ e. nesting_of e ≤ bound) e es (omega (arith, low)) (within-deepest bound es (omega (arith, low)))

-- with one expression more
pub deepest_more : (es : List FirstExpr) (e : FirstExpr) → deepest_of (es ++ e ∷ []) ≡ max (nesting_of e) (deepest_of es)
deepest_more [] e = omega arith
deepest_more (x ∷ xs) e = omega (arith, deepest_more xs e)

-- a call of an operator
pub nested : (e left right : FirstExpr) → ((tok : ℕ) × (at : Pos) × (e ≡ Add tok at left right)) ⊎ ((tok : ℕ) × (at : Pos) × (e ≡ Sub tok at left right))
    → nesting_of e ≡ max (nesting_of left) (nesting_of right) + 1
nested e left right (inl (tok, at, is)) = ap nesting_of is ∙ nesting_of-Add tok at left right
nested e left right (inr (tok, at, is)) = ap nesting_of is ∙ nesting_of-Sub tok at left right
