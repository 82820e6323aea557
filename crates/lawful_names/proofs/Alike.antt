-- Declarations that agree: they give and take the same.
use Rattle.std.proofs.Common.{◌≡◌, List, [], ◌∷◌, Bool, true, false, map, length, refl, ap, ◌∙◌, arith}
use Rattle.std.specs.Prelude.{Option, Some, None, ◌&&◌, ◌==◌}
use Rattle.std.proofs.lemmas.Bool.{eqb-true}
use Rattle.sat_base.specs.declared.width.Width.{Width}
use Rattle.sat_base.specs.declared.width.Width.TheVariants.{W16, W32}
use Rattle.c_tree.specs.declared.function.Function.{Function}
use Rattle.c_tree.specs.declared.function.Param.{Param}
use Rattle.c_seen.specs.Functions.{is_view, same_width, same_gives, same_truth, same_parameter, same_each, same_parameters, is_alike}
use Rattle.lawful_laws.proofs.Functions.{left, right}
use Rattle.lawful_names.proofs.Agreement.{Sort, sort_of, sorts}

width-same : (one other : Width) → same_width one other ≡ true → one ≡ other
width-same W16 W16 p = refl
width-same W16 W32 p = cc
width-same W32 W16 p = cc
width-same W32 W32 p = refl

truth-same : (one other : Bool) → same_truth one other ≡ true → one ≡ other
truth-same true true p = refl
truth-same true false p = cc
truth-same false true p = cc
truth-same false false p = refl

gives-same : (one other : Option Width) → same_gives one other ≡ true → one ≡ other
gives-same None None p = refl
gives-same None (Some other) p = cc
gives-same (Some one) None p = cc
gives-same (Some one) (Some other) p = ap (λ (w : Width). Some w) (width-same one other p)

abbrev sort : Bool → Width → Bool → Sort
sort view width is_const = record { view = view; width = width; is_const = is_const }

sort-same : (one other : Param) → same_parameter one other ≡ true → sort_of one ≡ sort_of other
sort-same one other p =
    let views : is_view one ≡ is_view other = truth-same _ _ (left (same_truth (is_view one) (is_view other)) _ p) in
    let rest : (same_width one.width other.width && same_truth one.is_const other.is_const) ≡ true = right (same_truth (is_view one) (is_view other)) _ p in
    let widths : one.width ≡ other.width = width-same _ _ (left (same_width one.width other.width) _ rest) in
    let consts : one.is_const ≡ other.is_const = truth-same _ _ (right (same_width one.width other.width) _ rest) in
    ap (λ (v : Bool). sort v one.width one.is_const) views ∙ ap (λ (w : Width). sort (is_view other) w one.is_const) widths ∙ ap (λ (c : Bool). sort (is_view other) other.width c) consts

each-same : (ones others : List Param) → length ones ≡ length others → same_each ones others ≡ true → map sort_of ones ≡ map sort_of others
each-same [] [] long p = refl
each-same [] (other ∷ others) long p = absurd (omega arith)
each-same (one ∷ ones) [] long p = absurd (omega arith)
each-same (one ∷ ones) (other ∷ others) long p =
    ap (λ (s : Sort). s ∷ map sort_of ones) (sort-same one other (left (same_parameter one other) _ p))
    ∙ ap (λ (l : List Sort). sort_of other ∷ l) (each-same ones others (omega arith) (right (same_parameter one other) _ p))

pub alike-gives : (one other : Function) → is_alike one other ≡ true → one.gives ≡ other.gives
alike-gives one other p = gives-same one.gives other.gives (left (same_gives one.gives other.gives) _ p)

pub alike-sorts : (one other : Function) → is_alike one other ≡ true → sorts one ≡ sorts other
alike-sorts one other p =
    let params : same_parameters one.params other.params ≡ true = right (same_gives one.gives other.gives) _ p in
    each-same one.params other.params (eqb-true _ _ (left (length one.params == length other.params) _ params)) (right (length one.params == length other.params) _ params)
