-- A wave, as it comes to functions.
use Rattle.std.proofs.Common.{◌≡◌, ◌≢◌, ℕ, ◌+◌, ◌<◌, ◌≤◌, List, [], ◌∷◌, ◌++◌, length, get_or, refl, sym, ap, ◌∙◌, subst, inl, inr, arith, below_more, length-append}
use Rattle.std.specs.Prelude.{Some, None, Contains, slice_set}
use Rattle.std.proofs.lemmas.Bool.{cases_eq}
use Rattle.std.proofs.lemmas.List.{get_or_default, length-set}
use Rattle.std.proofs.lemmas.List.Elements.{Contains-append_left, Contains-append_right, Contains-append_cases}
use Rattle.std.proofs.lemmas.List.Sums.{sum_by-set}
use Rattle.std.proofs.lemmas.Option.{unwrap_or-slice_get}
use Rattle.call_graph.specs.Walks.{callees, Calls}
use Rattle.call_graph.specs.Waves.{IsWave, NoneAt, Widens, Spreads, distance_at, open_count}
use Rattle.call_graph.specs.declared.distance.Wave.{Wave}
use Rattle.call_graph.proofs.Places.{only-one, read-set_same, read-set_other, read-within}

abbrev pub placed : Wave → ℕ → ℕ → Wave
placed wave f distance = record { distances = slice_set wave.distances f (Some distance); functions = wave.functions ++ f ∷ [] }

pub widen-begun : (called : List ℕ) (distance : ℕ) (before : Wave) → IsWave distance before → Widens called 0 distance before before
widen-begun called distance before wave = record {
  sized = refl;
  wave = wave;
  kept = λ f n is. is;
  only = λ f n is. inl is;
  reached = λ k less. absurd (omega (arith, less));
  fewer = refl;
}

module _ (called : List ℕ) (k distance : ℕ) (before now : Wave) (widens : Widens called k distance before now) where
  abbrev callee : ℕ
  callee = get_or called k 0

  pub widen-past : (callee < length before.distances → (n : ℕ) × (distance_at now callee ≡ Some n)) → Widens called (k + 1) distance before now
  widen-past has = record {
    sized = widens.sized;
    wave = widens.wave;
    kept = widens.kept;
    only = widens.only;
    reached = below_more _ _ widens.reached has;
    fewer = widens.fewer;
  }

  pub widen-placed : k < length called → distance_at now callee ≡ None → callee < length now.distances → Widens called (k + 1) distance before (placed now callee distance)
  widen-placed within none own =
      let here : distance_at (placed now callee distance) callee ≡ Some distance = read-set_same None now.distances callee (Some distance) own in
      let there : (f : ℕ) → f ≢ callee → distance_at (placed now callee distance) f ≡ distance_at now f = λ f other. read-set_other None now.distances callee f (Some distance) other in
      let keeps : (f n : ℕ) → distance_at now f ≡ Some n → distance_at (placed now callee distance) f ≡ Some n =
      λ f n is. there f (λ e. let no : None ≡ Some n = sym none ∙ ap (distance_at now) (sym e) ∙ is in cc) ∙ is in
      record {
        sized = length-set now.distances callee (Some distance) ∙ widens.sized;
        wave = record {
          each = λ f is. elim (cases_eq f callee) [
            | inl same ↦ Contains-append_right now.functions (callee ∷ []) f (subst (λ x. Contains (callee ∷ []) x) (sym same) (0, omega arith, refl))
            | inr other ↦ Contains-append_left now.functions (callee ∷ []) f (widens.wave.each f (sym (there f other) ∙ is))
          ];
          only = λ f among. elim (Contains-append_cases now.functions (callee ∷ []) f among) [
            | inl old ↦ keeps f distance (widens.wave.only f old)
            | inr new ↦ ap (distance_at (placed now callee distance)) (only-one callee f new) ∙ here
          ];
        };
        kept = λ f n is. keeps f n (widens.kept f n is);
        only = λ f n is. elim (cases_eq f callee) [
          | inl same ↦
              let e : Some n ≡ Some distance = sym is ∙ ap (distance_at (placed now callee distance)) same ∙ here in
              let among : Contains called callee = (k, within, get_or_default called k callee 0 within) in
              inr (cc, subst (Contains called) (sym same) among)
          | inr other ↦ widens.only f n (sym (there f other) ∙ is)
        ];
        reached = below_more _ _
            (λ j less within. let had = widens.reached j less within in (had.0, keeps _ had.0 had.1))
            (λ within. (distance, here));
        fewer =
            let is : get_or now.distances callee None ≡ None = sym (unwrap_or-slice_get now.distances callee None) ∙ none in
            let one : open_count (get_or now.distances callee None) ≡ 1 = ap open_count is in
            let sums = sum_by-set open_count now.distances callee (Some distance) None own in
            let longer = length-append now.functions (callee ∷ []) in
            omega (arith, one, sums, longer, widens.fewer);
      }

pub spread-begun : (graph : List (List ℕ)) (distance : ℕ) (before : Wave) → NoneAt distance before → Spreads graph 0 distance before (record { distances = before.distances; functions = [] })
spread-begun graph distance before none = record {
  sized = refl;
  wave = record { each = λ f is. absurd (none f is); only = λ f (k, within, is). absurd (omega (arith, within)) };
  kept = λ f n is. is;
  only = λ f n is. inl is;
  reached = λ k less. absurd (omega (arith, less));
  fewer = omega arith;
}

-- the functions that one more function calls
pub spread-more : (graph : List (List ℕ)) (k distance : ℕ) (before now after : Wave) (called : List ℕ) → length before.distances ≡ length graph → Spreads graph k distance before now →
    k < length before.functions → called ≡ callees graph (get_or before.functions k 0) → Widens called (length called) distance now after → Spreads graph (k + 1) distance before after
spread-more graph k distance before now after called sized spreads within is widens = record {
  sized = widens.sized ∙ spreads.sized;
  wave = widens.wave;
  kept = λ f n known. widens.kept f n (spreads.kept f n known);
  only = λ f n known. elim (widens.only f n known) [
    | inl old ↦ spreads.only f n old
    | inr new ↦
        let own : f < length after.distances = read-within after.distances f n known in
        let calls : Calls graph (get_or before.functions k 0) f = (subst (λ xs. Contains xs f) is new.1, omega (arith, own, widens.sized, spreads.sized, sized)) in
        inr (new.0, (get_or before.functions k 0, (k, within, get_or_default before.functions k (get_or before.functions k 0) 0 within), calls))
  ];
  reached = below_more (λ j. (f : ℕ) → Calls graph (get_or before.functions j 0) f → (n : ℕ) × (distance_at after f ≡ Some n)) _
      (λ j less f calls. let had = spreads.reached j less f calls in (had.0, widens.kept f had.0 had.1))
      (λ f calls.
      let among : Contains called f = subst (λ xs. Contains xs f) (sym is) calls.0 in
      let same : get_or called among.0 0 ≡ f = get_or_default called among.0 0 f among.1 ∙ among.2 in
      let own : get_or called among.0 0 < length now.distances = rw same (omega (arith, calls.1, spreads.sized, sized)) in
      let had = widens.reached among.0 among.1 own in
      (had.0, ap (distance_at after) (sym same) ∙ had.1));
  fewer = omega (arith, widens.fewer, spreads.fewer);
}

-- all of the functions, where the loop has gone through them
pub all-widened : (called : List ℕ) (k distance : ℕ) (before now : Wave) → length called ≤ k → Widens called k distance before now → Widens called (length called) distance before now
all-widened called k distance before now all widens = record {
  sized = widens.sized;
  wave = widens.wave;
  kept = widens.kept;
  only = widens.only;
  reached = λ j less. widens.reached j (omega (arith, less, all));
  fewer = widens.fewer;
}

pub all-spread : (graph : List (List ℕ)) (k distance : ℕ) (before now : Wave) → length before.functions ≤ k → Spreads graph k distance before now → Spreads graph (length before.functions) distance before now
all-spread graph k distance before now all spreads = record {
  sized = spreads.sized;
  wave = spreads.wave;
  kept = spreads.kept;
  only = spreads.only;
  reached = λ j less. spreads.reached j (omega (arith, less, all));
  fewer = spreads.fewer;
}
