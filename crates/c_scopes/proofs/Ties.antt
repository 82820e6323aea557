-- The map of the newest places, as an entry comes or goes.
use Rattle.std.proofs.Common.{◌≡◌, ℕ, List, [], ◌∷◌, ◌++◌, Bool, true, false, cond, length, reverse, refl, sym, ap, ◌∙◌, inl, inr, Bor}
use Rattle.std.specs.Prelude.{Option, Some, None, Result, Ok, Err, OnOk, OnErr}
use Rattle.std.specs.Str.{bytes_eq}
use Rattle.std.specs.HashMap.{HashMap, get_by, UpdatesBy}
use Rattle.std.proofs.lemmas.Bool.{cases_Bool, cond-true, cond-false}
use Rattle.std.proofs.lemmas.Slice.Eq.{bytes_eq-Decides}
use Rattle.std.proofs.lemmas.Map.Text.{hash_map_updates_str}
use Rattle.std.proofs.lemmas.List.{reverse-append, length-reverse}
use Rattle.c_scopes.specs.declared.scopes.Entry.{Entry}
use Rattle.c_scopes.specs.declared.scopes.Scopes.TheInside.{Inside}
use Rattle.c_scopes.specs.Newest.{flat, place_in}
use Rattle.c_scopes.specs.Tied.{newest_in, Hides, Tied}

flat-cond : {A : Type 0} (b : Bool) (w o : Option (Option A)) → flat (cond b w o) ≡ cond b (flat w) (flat o)
flat-cond true w o = refl
flat-cond false w o = refl

-- the place of a name after one was inserted
placed : (bs : List ℕ) {S : Type 0} (m n : HashMap (Bor (List ℕ)) (Option ℕ) S) (w : Option (Option ℕ)) → UpdatesBy (λ x y. bytes_eq x.now y.now) (λ k. bytes_eq bs k.now) m n w → (name : List ℕ) → place_in n name ≡ cond (bytes_eq bs name) (flat w) (place_in m name)
placed bs m n w updates name = ap flat (hash_map_updates_str bs m n w updates name) ∙ flat-cond (bytes_eq bs name) w _

-- an entry comes, and the map has its place
pub newest-declared : {A S : Type 0} (e : Entry A) (es : List (Entry A)) (m n : HashMap (Bor (List ℕ)) (Option ℕ) S) →
    UpdatesBy (λ x y. bytes_eq x.now y.now) (λ k. bytes_eq e.name.now k.now) m n (Some (Some (length es))) →
    ((name : List ℕ) → place_in m name ≡ newest_in es name) → (name : List ℕ) → place_in n name ≡ newest_in (e ∷ es) name
newest-declared e es m n updates before name = placed e.name.now m n _ updates name ∙ ap (cond (bytes_eq e.name.now name) (Some (length es))) (before name)

same-name : (xs ys : List ℕ) → bytes_eq xs ys ≡ true → xs ≡ ys
same-name xs ys same = (bytes_eq-Decides xs ys).0 same

-- an entry goes, and the map has the place of the one that it hid
pub newest-forgotten : {A S : Type 0} (e : Entry A) (es : List (Entry A)) (m n : HashMap (Bor (List ℕ)) (Option ℕ) S) →
    UpdatesBy (λ x y. bytes_eq x.now y.now) (λ k. bytes_eq e.name.now k.now) m n (Some e.hidden) → e.hidden ≡ newest_in es e.name.now →
    ((name : List ℕ) → place_in m name ≡ newest_in (e ∷ es) name) → (name : List ℕ) → place_in n name ≡ newest_in es name
newest-forgotten e es m n updates hides before name =
    elim (cases_Bool (bytes_eq e.name.now name)) [
      | inl same ↦ placed e.name.now m n _ updates name ∙ cond-true _ e.hidden _ same ∙ hides ∙ ap (newest_in es) (same-name e.name.now name same)
      | inr other ↦ placed e.name.now m n _ updates name ∙ cond-false _ e.hidden _ other ∙ before name ∙ cond-false _ (Some (length es)) _ other
    ]

reverse-end : {A : Type 0} (xs : List A) (x : A) → reverse (xs ++ x ∷ []) ≡ x ∷ reverse xs
reverse-end xs x = reverse-append xs (x ∷ [])

-- the two fields hang together once an entry came
pub tied-declared : {A : Type 0} (s t : Inside A) (e : Entry A) → Tied s → t.entries.items ≡ s.entries.items ++ e ∷ [] → e.hidden ≡ place_in s.newest e.name.now →
    UpdatesBy (λ x y. bytes_eq x.now y.now) (λ k. bytes_eq e.name.now k.now) s.newest t.newest (Some (Some (length s.entries.items))) → Tied t
tied-declared s t e tied items hidden updates =
    let es : reverse t.entries.items ≡ e ∷ reverse s.entries.items = ap reverse items ∙ reverse-end s.entries.items e in
    let len : length (reverse s.entries.items) ≡ length s.entries.items = length-reverse s.entries.items in
    record {
      newest = λ name. newest-declared e (reverse s.entries.items) s.newest t.newest (rw len updates) tied.newest name ∙ ap (λ (xs : List (Entry _)). newest_in xs name) (sym es);
      hides = rw es (hidden ∙ tied.newest e.name.now, tied.hides);
    }

refused : {A S X : Type 0} (e : Entry A) (es : List (Entry A)) (m : HashMap (Bor (List ℕ)) (Option ℕ) S) → ((name : List ℕ) → place_in m name ≡ newest_in (e ∷ es) name) →
    get_by (λ k. bytes_eq e.name.now k.now) m ≡ None → X
refused e es m newest none =
    let itself : bytes_eq e.name.now e.name.now ≡ true = (bytes_eq-Decides e.name.now e.name.now).1 refl in
    let some : None ≡ Some (length es) = sym (ap flat none) ∙ newest e.name.now ∙ cond-true _ (Some (length es)) _ itself in
    cc

-- the two fields hang together once an entry went, as the map has a place for its name
pub tied-forgotten : {A E : Type 0} (s t : Inside A) (e : Entry A) (r : Result (Option (Option ℕ)) E) → Tied s → s.entries.items ≡ t.entries.items ++ e ∷ [] →
    OnOk r (UpdatesBy (λ x y. bytes_eq x.now y.now) (λ k. bytes_eq e.name.now k.now) s.newest t.newest (Some e.hidden)) →
    OnErr r (get_by (λ k. bytes_eq e.name.now k.now) s.newest ≡ None) → Tied t
tied-forgotten s t e (Ok old) tied items updates none =
    let es : reverse s.entries.items ≡ e ∷ reverse t.entries.items = ap reverse items ∙ reverse-end t.entries.items e in
    let newest : (name : List ℕ) → place_in s.newest name ≡ newest_in (e ∷ reverse t.entries.items) name = λ name. tied.newest name ∙ ap (λ (xs : List (Entry _)). newest_in xs name) es in
    let hides : (e.hidden ≡ newest_in (reverse t.entries.items) e.name.now) × Hides (reverse t.entries.items) = rw es at tied.hides in
    record { newest = newest-forgotten e (reverse t.entries.items) s.newest t.newest updates hides.0 newest; hides = hides.1 }
tied-forgotten s t e (Err error) tied items updates none =
    let es : reverse s.entries.items ≡ e ∷ reverse t.entries.items = ap reverse items ∙ reverse-end t.entries.items e in
    refused e (reverse t.entries.items) s.newest (λ name. tied.newest name ∙ ap (λ (xs : List (Entry _)). newest_in xs name) es) none
