-- The calls backwards, as callers are added.
use Rattle.std.proofs.Common.{◌≡◌, ◌≢◌, ℕ, zero, suc, ◌+◌, ◌<◌, ◌≤◌, List, [], ◌∷◌, ◌++◌, length, get_or, refl, sym, ap, ◌∙◌, subst, inl, inr, arith, below_more}
use Rattle.std.specs.Prelude.{unwrap_or, slice_set, replicate, Contains}
use Rattle.std.proofs.lemmas.Bool.{cases_eq, cases_lt}
use Rattle.std.proofs.lemmas.List.{get_or_default, get_or-replicate, length-set, length-replicate}
use Rattle.std.proofs.lemmas.List.Elements.{Contains-append_left, Contains-append_right, Contains-append_cases}
use Rattle.std.proofs.lemmas.Option.{slice_get_past, unwrap_or-slice_get}
use Rattle.std.proofs.Math.ListN.{get_or-eq_default}
use Rattle.call_graph.specs.Walks.{callees, Calls, Walk}
use Rattle.call_graph.specs.Backwards.{AddsCaller, IsReversed}
use Rattle.call_graph.proofs.Places.{only-one, read-set_same, read-set_other}
use Rattle.call_graph.proofs.Walking.{walk-then}

-- what calls is a function
pub caller-own : (graph : List (List ℕ)) (f g : ℕ) → Contains (callees graph f) g → f < length graph
caller-own graph f g among = elim (cases_lt f (length graph)) [
  | inl own ↦ own
  | inr past ↦
      let none : callees graph f ≡ [] = ap (λ o. unwrap_or o []) (slice_get_past graph f past) in
      let among : Contains [] g = rw none at among in
      absurd (omega (arith, among.1))
]

pub add-begun : (caller : ℕ) (called : List ℕ) (back : List (List ℕ)) → AddsCaller caller called 0 back back
add-begun caller called back = record {
  sized = refl;
  kept = λ f g among. among;
  added = λ k less. absurd (omega (arith, less));
  only = λ f g among. inl among;
}

module _ (caller : ℕ) (called : List ℕ) (k : ℕ) (before now : List (List ℕ)) (adds : AddsCaller caller called k before now) where
  abbrev callee : ℕ
  callee = get_or called k 0

  pub add-past : length before ≤ callee → AddsCaller caller called (k + 1) before now
  add-past past = record { sized = adds.sized; kept = adds.kept; added = below_more _ _ adds.added (λ own. absurd (omega (arith, own, past))); only = adds.only }

  abbrev pub connected : List (List ℕ)
  connected = slice_set now callee (callees now callee ++ caller ∷ [])

  pub add-connected : k < length called → callee < length now → AddsCaller caller called (k + 1) before connected
  add-connected within own =
      let here : callees connected callee ≡ callees now callee ++ caller ∷ [] = read-set_same [] now callee (callees now callee ++ caller ∷ []) own in
      let there : (g : ℕ) → g ≢ callee → callees connected g ≡ callees now g = λ g other. read-set_other [] now callee g (callees now callee ++ caller ∷ []) other in
      let keeps : (f g : ℕ) → Contains (callees now g) f → Contains (callees connected g) f = λ f g among. elim (cases_eq g callee) [
        | inl same ↦
            let old : Contains (callees now callee) f = subst (λ h. Contains (callees now h) f) same among in
            subst (λ h. Contains (callees connected h) f) (sym same) (subst (λ xs. Contains xs f) (sym here) (Contains-append_left (callees now callee) (caller ∷ []) f old))
        | inr other ↦ subst (λ xs. Contains xs f) (sym (there g other)) among
      ] in
      record {
        sized = length-set now callee (callees now callee ++ caller ∷ []) ∙ adds.sized;
        kept = λ f g among. keeps f g (adds.kept f g among);
        added = below_more _ _
            (λ j less own. keeps caller _ (adds.added j less own))
            (λ own. subst (λ xs. Contains xs caller) (sym here) (Contains-append_right (callees now callee) (caller ∷ []) caller (0, omega arith, refl)));
        only = λ f g among. elim (cases_eq g callee) [
          | inl same ↦
              let new : Contains (callees now callee ++ caller ∷ []) f = subst (λ xs. Contains xs f) here (subst (λ h. Contains (callees connected h) f) same among) in
              elim (Contains-append_cases (callees now callee) (caller ∷ []) f new) [
                | inl old ↦ adds.only f g (subst (λ h. Contains (callees now h) f) (sym same) old)
                | inr last ↦ inr (only-one caller f last, subst (Contains called) (sym same) (k, within, get_or_default called k callee 0 within))
              ]
          | inr other ↦ adds.only f g (subst (λ xs. Contains xs f) (there g other) among)
        ];
      }

pub all-added : (caller : ℕ) (called : List ℕ) (k : ℕ) (before now : List (List ℕ)) → length called ≤ k → AddsCaller caller called k before now → AddsCaller caller called (length called) before now
all-added caller called k before now all adds = record { sized = adds.sized; kept = adds.kept; added = λ j less. adds.added j (omega (arith, less, all)); only = adds.only }

-- the calls of so many functions are there backwards
pub record AreBackwards (graph : List (List ℕ)) (count : ℕ) (back : List (List ℕ)) : Type 0 where
  pub sized : length back ≡ length graph
  pub each : (f : ℕ) → f < count → (g : ℕ) → Calls graph f g → Contains (callees back g) f
  pub only : (f g : ℕ) → Contains (callees back g) f → Contains (callees graph f) g

pub none-backwards : (graph back : List (List ℕ)) → back ≡ replicate (length graph) [] → AreBackwards graph 0 back
none-backwards graph back is =
    let none : (g : ℕ) → callees back g ≡ [] = λ g. ap (λ b. callees b g) is ∙ unwrap_or-slice_get (replicate (length graph) []) g [] ∙ elim (cases_lt g (length graph)) [
      | inl own ↦ get_or-replicate (length graph) g [] [] own
      | inr past ↦ get_or-eq_default (replicate (length graph) []) [] (rw length-replicate past)
    ] in
    record {
      sized = ap length is ∙ length-replicate (length graph) [];
      each = λ f less. absurd (omega (arith, less));
      only = λ f g among. let no : Contains [] f = rw (none g) at among in absurd (omega (arith, no.1));
    }

pub more-backwards : (graph : List (List ℕ)) (count : ℕ) (before after : List (List ℕ)) (called : List ℕ) → called ≡ callees graph count → AreBackwards graph count before →
    AddsCaller count called (length called) before after → AreBackwards graph (count + 1) after
more-backwards graph count before after called is backwards adds = record {
  sized = adds.sized ∙ backwards.sized;
  each = below_more (λ f. (g : ℕ) → Calls graph f g → Contains (callees after g) f) _
      (λ f less g calls. adds.kept f g (backwards.each f less g calls))
      (λ g calls.
      let among : Contains called g = subst (λ xs. Contains xs g) (sym is) calls.0 in
      let same : get_or called among.0 0 ≡ g = get_or_default called among.0 0 g among.1 ∙ among.2 in
      let own : get_or called among.0 0 < length before = rw same (omega (arith, calls.1, backwards.sized)) in
      subst (λ h. Contains (callees after h) count) same (adds.added among.0 among.1 own));
  only = λ f g among. elim (adds.only f g among) [
    | inl old ↦ backwards.only f g old
    | inr new ↦ subst (λ h. Contains (callees graph h) g) (sym new.0) (subst (λ xs. Contains xs g) is new.1)
  ];
}

pub all-backwards : (graph : List (List ℕ)) (count : ℕ) (back : List (List ℕ)) → length graph ≤ count → AreBackwards graph count back → IsReversed graph back
all-backwards graph count back all backwards = record {
  sized = backwards.sized;
  each = λ f g calls. let own = caller-own graph f g calls.0 in (backwards.each f (omega (arith, own, all)) g calls, omega (arith, own, backwards.sized));
  only = λ f g calls. let own = caller-own back g f calls.0 in (backwards.only f g calls.0, omega (arith, own, backwards.sized));
}

-- walks backwards
walk-back : (graph back : List (List ℕ)) → ((f g : ℕ) → Calls graph f g → Calls back g f) → (n f g : ℕ) → Walk graph n f g → Walk back n g f
walk-back graph back turned zero f g is = sym is
walk-back graph back turned (suc n) f g walk = walk-then back n g walk.0 f (walk-back graph back turned n walk.0 g walk.2) (turned f walk.0 walk.1)

pub walk-there : (graph back : List (List ℕ)) → IsReversed graph back → (n f g : ℕ) → Walk back n g f → Walk graph n f g
walk-there graph back reversed n f g = walk-back back graph (λ h k calls. reversed.only k h calls) n g f

pub walk-here : (graph back : List (List ℕ)) → IsReversed graph back → (n f g : ℕ) → Walk graph n f g → Walk back n g f
walk-here graph back reversed n f g = walk-back graph back reversed.each n f g
