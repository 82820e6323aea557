-- How the waves of a search give distances.
use Rattle.std.proofs.Common.{◌≡◌, ℕ, zero, suc, ◌+◌, ◌<◌, ◌≤◌, List, [], ◌∷◌, length, get_or, refl, sym, ap, ◌∙◌, subst, inl, inr, arith}
use Rattle.std.specs.Prelude.{Some, None, Contains, ◌⊎◌, replicate, sum_by}
use Rattle.std.proofs.lemmas.Bool.{cases_lt}
use Rattle.std.proofs.lemmas.Option.{unwrap_or-slice_get}
use Rattle.std.proofs.lemmas.List.{get_or-replicate, get_or_default, length-replicate}
use Rattle.std.proofs.Math.ListN.{get_or-eq_default}
use Rattle.std.proofs.lemmas.List.Folds.{sum_by-replicate}
use Rattle.call_graph.specs.Walks.{Calls, Walk}
use Rattle.call_graph.specs.Distances.{AreDistances, distance_in}
use Rattle.call_graph.specs.Waves.{NoneAt, Spreads, distance_at, open_functions, open_count}
use Rattle.call_graph.specs.declared.distance.Wave.{Wave}
use Rattle.call_graph.proofs.Places.{only-one}
use Rattle.call_graph.proofs.Walking.{walk-then}

-- a function lies so many calls from the start, which itself lies at none
abbrev pub LiesAt : (start : ℕ) → Wave → ℕ → ℕ → Type 0
LiesAt start wave n f = (n ≡ 0) × (f ≡ start) ⊎ (distance_at wave f ≡ Some n)

-- the distances that are known are of walks, and what lies nearer than the wave calls no function whose distance is
-- not known
pub record IsFront (graph : List (List ℕ)) (start distance : ℕ) (wave : Wave) : Type 0 where
  pub sized : length wave.distances ≡ length graph
  pub sound : (f n : ℕ) → distance_at wave f ≡ Some n → (1 ≤ n) × (n ≤ distance) × Walk graph n start f
  pub closed : (n f g : ℕ) → n < distance → LiesAt start wave n f → Calls graph f g → (m : ℕ) × (m ≤ n + 1) × (distance_at wave g ≡ Some m)
  pub each : (f : ℕ) → LiesAt start wave distance f → Contains wave.functions f
  pub only : (f : ℕ) → Contains wave.functions f → LiesAt start wave distance f
  pub room : 0 < length wave.functions → distance + open_functions wave ≤ length graph

all-open : (count : ℕ) → 0 + sum_by open_count (replicate count None) ≤ count
all-open count = let sum = sum_by-replicate open_count count None in omega arith

-- no distance is known, and the start is the only function
abbrev pub opening : ℕ → ℕ → Wave
opening count start = record { distances = replicate count None; functions = start ∷ [] }

pub front-begun : (graph : List (List ℕ)) (start : ℕ) (wave : Wave) → wave ≡ opening (length graph) start → IsFront graph start 0 wave
front-begun graph start wave is =
    let distances : wave.distances ≡ replicate (length graph) None = ap (λ w. w.distances) is in
    let functions : wave.functions ≡ start ∷ [] = ap (λ w. w.functions) is in
    let none : (f : ℕ) → distance_at wave f ≡ None = λ f. ap (λ ds. distance_in ds f) distances ∙ unwrap_or-slice_get (replicate (length graph) None) f None ∙ elim (cases_lt f (length graph)) [
      | inl own ↦ get_or-replicate (length graph) f None None own
      | inr past ↦ get_or-eq_default (replicate (length graph) None) None (rw length-replicate past)
    ] in
    let unknown : (f n : ℕ) → distance_at wave f ≡ Some n → ⊥ = λ f n is. let e : None ≡ Some n = sym (none f) ∙ is in cc in
    record {
      sized = ap length distances ∙ length-replicate (length graph) None;
      sound = λ f n is. absurd (unknown f n is);
      closed = λ n f g less. absurd (omega (arith, less));
      each = λ f lies. elim lies [
        | inl at ↦ rw functions (0, omega arith, sym at.1)
        | inr known ↦ absurd (unknown f 0 known)
      ];
      only = λ f among. inl (refl, only-one start f (rw functions at among));
      room = λ some. rw distances (all-open (length graph));
    }

walk-to : (graph : List (List ℕ)) (start distance : ℕ) (wave : Wave) (f : ℕ) → IsFront graph start distance wave → LiesAt start wave distance f → Walk graph distance start f
walk-to graph start distance wave f front lies = elim lies [
  | inl at ↦ subst (λ m. Walk graph m start f) (sym at.0) (sym at.1)
  | inr known ↦ (front.sound f distance known).2
]

-- one wave further
module _ (graph : List (List ℕ)) (start distance : ℕ) (before after : Wave) (front : IsFront graph start distance before) (spreads : Spreads graph (length before.functions) (distance + 1) before after) where
  lay-at : (n f : ℕ) → n ≤ distance → LiesAt start after n f → LiesAt start before n f
  lay-at n f less lies = elim lies [
    | inl at ↦ inl at
    | inr known ↦ elim (spreads.only f n known) [ inl old ↦ inr old | inr new ↦ absurd (omega (arith, less, new.0)) ]
  ]

  sound-after : (f n : ℕ) → distance_at after f ≡ Some n → (1 ≤ n) × (n ≤ distance + 1) × Walk graph n start f
  sound-after f n known = elim (spreads.only f n known) [
    | inl old ↦ let sound = front.sound f n old in (sound.0, omega (arith, sound.1), sound.2)
    | inr new ↦
        let longer : suc distance ≡ n = omega (arith, new.0) in
        let walk = walk-then graph distance start new.1.0 f (walk-to graph start distance before new.1.0 front (front.only new.1.0 new.1.1)) new.1.2 in
        (omega (arith, new.0), omega (arith, new.0), subst (λ m. Walk graph m start f) longer walk)
  ]

  -- what the functions of the last wave call is known now
  called-known : (f g : ℕ) → Contains before.functions f → Calls graph f g → (m : ℕ) × (m ≤ distance + 1) × (distance_at after g ≡ Some m)
  called-known f g (k, within, is) calls =
      let same : f ≡ get_or before.functions k 0 = sym is ∙ get_or_default before.functions k f 0 within in
      let had = spreads.reached k within g (subst (λ x. Calls graph x g) same calls) in
      (had.0, (sound-after g had.0 had.1).1, had.1)

  closed-after : (n f g : ℕ) → n < distance + 1 → LiesAt start after n f → Calls graph f g → (m : ℕ) × (m ≤ n + 1) × (distance_at after g ≡ Some m)
  closed-after n f g less lies calls = elim (cases_lt n distance) [
    | inl nearer ↦ let had = front.closed n f g nearer (lay-at n f (omega (arith, nearer)) lies) calls in (had.0, had.1, spreads.kept g had.0 had.2)
    | inr past ↦
        let same : n ≡ distance = omega (arith, less, past) in
        let among = front.each f (lay-at distance f (omega arith) (subst (λ m. LiesAt start after m f) same lies)) in
        let had = called-known f g among calls in
        (had.0, omega (arith, same, had.1), had.2)
  ]

  pub front-spread : 0 < length before.functions → IsFront graph start (distance + 1) after
  front-spread some = record {
    sized = spreads.sized ∙ front.sized;
    sound = sound-after;
    closed = closed-after;
    each = λ f lies. elim lies [ inl at ↦ absurd (omega (arith, at.0)) | inr known ↦ spreads.wave.each f known ];
    only = λ f among. inr (spreads.wave.only f among);
    room = λ more. let room = front.room some in omega (arith, room, more, spreads.fewer);
  }

-- no function lies at the distance of the next wave yet
pub none-further : (graph : List (List ℕ)) (start distance : ℕ) (wave : Wave) → IsFront graph start distance wave → NoneAt (distance + 1) wave
none-further graph start distance wave front f known = let sound = front.sound f (distance + 1) known in omega (arith, sound.1)

-- where a wave has no function, each walk is as long as a distance or longer
module _ (graph : List (List ℕ)) (start distance : ℕ) (wave : Wave) (front : IsFront graph start distance wave) (ended : wave.functions ≡ []) where
  nearer : (n f : ℕ) → LiesAt start wave n f → n < distance
  nearer n f lies =
      let bound : n ≤ distance = elim lies [ inl at ↦ omega (arith, at.0) | inr known ↦ (front.sound f n known).1 ] in
      elim (cases_lt n distance) [
        | inl less ↦ less
        | inr past ↦
            let same : n ≡ distance = omega (arith, bound, past) in
            let among : Contains [] f = rw ended at (front.each f (subst (λ m. LiesAt start wave m f) same lies)) in
            absurd (omega (arith, among.1))
      ]

  walk-known : (m n f g : ℕ) → LiesAt start wave n f → Walk graph (suc m) f g → (k : ℕ) × (k ≤ n + suc m) × (distance_at wave g ≡ Some k)
  walk-known zero n f g lies walk =
      let had = front.closed n f walk.0 (nearer n f lies) lies walk.1 in
      (had.0, omega (arith, had.1), ap (distance_at wave) (sym walk.2) ∙ had.2)
  walk-known (suc m) n f g lies walk =
      let had = front.closed n f walk.0 (nearer n f lies) lies walk.1 in
      let rest = walk-known m had.0 walk.0 g (inr had.2) walk.2 in
      (rest.0, omega (arith, had.1, rest.1), rest.2)

  least-known : (f n m : ℕ) → distance_at wave f ≡ Some n → 1 ≤ m → m < n → Walk graph m start f → ⊥
  least-known f n zero known some less walk = omega (arith, some)
  least-known f n (suc m) known some less walk =
      let had = walk-known m 0 start f (inl (refl, refl)) walk in
      let same : Some had.0 ≡ Some n = sym had.2 ∙ known in
      let is : had.0 ≡ n = cc in
      omega (arith, is, had.1, less)

  pub are-distances : AreDistances graph start wave.distances
  are-distances = record {
    reached = λ f n known. record { some = (front.sound f n known).0; walk = (front.sound f n known).2; least = λ m some less walk. least-known f n m known some less walk };
    others = λ f unknown reaches.
        let had = walk-known reaches.0 0 start f (inl (refl, refl)) reaches.1 in
        let no : None ≡ Some had.0 = sym unknown ∙ had.2 in
        cc;
  }

pub some-functions : (functions : List ℕ) → (functions ≡ [] → ⊥) → 0 < length functions
some-functions [] some = absurd (some refl)
some-functions (f ∷ rest) some = omega arith
