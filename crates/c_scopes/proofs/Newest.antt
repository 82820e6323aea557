-- The newest entries of names, and what changes as an entry comes or goes. Lists of entries have the newest
-- first.
use Rattle.std.proofs.Common.{◌≡◌, ℕ, ◌<◌, zero, suc, List, [], ◌∷◌, ◌++◌, length, map, reverse, refl, sym, ap, ◌∙◌, inl, inr, arith}
use Rattle.std.specs.Prelude.{Option, Some, None, slice_get}
use Rattle.std.specs.Option.{option_map}
use Rattle.std.specs.Str.{bytes_eq}
use Rattle.std.proofs.lemmas.Bool.{cases_Bool}
use Rattle.std.proofs.lemmas.List.{reverse-append, reverse-reverse, length-reverse}
use Rattle.c_scopes.specs.declared.scopes.Entry.{Entry}
use Rattle.c_scopes.specs.declared.scopes.Declared.{Declared}
use Rattle.c_scopes.specs.Scopes.{meaning_of}
use Rattle.c_scopes.specs.Tied.{known_of, newest_in}

-- what is declared at a place, counted from the oldest
abbrev pub declared_at : {A : Type 0} → List (Entry A) → Option ℕ → Option (Declared A)
declared_at es None = None
declared_at es (Some place) = option_map (λ e. e.declared) (slice_get (reverse es) place)

pub newest-below : {A : Type 0} (es : List (Entry A)) (name : List ℕ) (place : ℕ) → newest_in es name ≡ Some place → place < length es
newest-below [] name place is = cc
newest-below (e ∷ es) name place is =
    elim (cases_Bool (bytes_eq e.name.now name)) [
      | inl same ↦ let at : Some (length es) ≡ Some place = rw same at is in let eq : length es ≡ place = cc in omega arith
      | inr other ↦ let at : newest_in es name ≡ Some place = rw other at is in omega (arith, newest-below es name place at)
    ]

slice_get-front : {A : Type 0} (xs ys : List A) (i : ℕ) → i < length xs → slice_get (xs ++ ys) i ≡ slice_get xs i
slice_get-front [] ys i less = absurd (omega arith)
slice_get-front (x ∷ xs) ys zero less = refl
slice_get-front (x ∷ xs) ys (suc i) less = slice_get-front xs ys i (omega arith)

slice_get-end : {A : Type 0} (xs : List A) (x : A) → slice_get (xs ++ x ∷ []) (length xs) ≡ Some x
slice_get-end [] x = refl
slice_get-end (y ∷ xs) x = slice_get-end xs x

at-older : {A : Type 0} (e : Entry A) (es : List (Entry A)) (name : List ℕ) (place : Option ℕ) → newest_in es name ≡ place → declared_at (e ∷ es) place ≡ declared_at es place
at-older e es name None is = refl
at-older e es name (Some place) is =
    let less : place < length (reverse es) = rw length-reverse (newest-below es name place is) in
    ap (option_map (λ (x : Entry _). x.declared)) (ap (λ (xs : List (Entry _)). slice_get xs place) (reverse-append (e ∷ []) es) ∙ slice_get-front (reverse es) (e ∷ []) place less)

at-end : {A : Type 0} (e : Entry A) (es : List (Entry A)) → declared_at (e ∷ es) (Some (length es)) ≡ Some e.declared
at-end e es =
    ap (option_map (λ (x : Entry _). x.declared)) (ap (λ (xs : List (Entry _)). slice_get xs (length es)) (reverse-append (e ∷ []) es) ∙ ap (slice_get (reverse es ++ e ∷ [])) (sym (length-reverse es)) ∙ slice_get-end (reverse es) e)

pub meaning-newest : {A : Type 0} (es : List (Entry A)) (name : List ℕ) → meaning_of (map known_of es) name ≡ declared_at es (newest_in es name)
meaning-newest [] name = refl
meaning-newest (e ∷ es) name =
    elim (cases_Bool (bytes_eq e.name.now name)) [
      | inl same ↦ rw same (sym (at-end e es))
      | inr other ↦ rw other (meaning-newest es name ∙ sym (at-older e es name (newest_in es name) refl))
    ]

-- what is declared at a place of the entries, oldest first
abbrev pub declared_in : {A : Type 0} → List (Entry A) → Option ℕ → Option (Declared A)
declared_in items None = None
declared_in items (Some place) = option_map (λ e. e.declared) (slice_get items place)

-- the newest declaration stands at the place that the map keeps
pub meaning-found : {A : Type 0} (items : List (Entry A)) (name : List ℕ) (place : Option ℕ) → newest_in (reverse items) name ≡ place → meaning_of (map known_of (reverse items)) name ≡ declared_in items place
meaning-found items name None is = meaning-newest (reverse items) name ∙ ap (declared_at (reverse items)) is
meaning-found items name (Some place) is = meaning-newest (reverse items) name ∙ ap (declared_at (reverse items)) is ∙ ap (λ (es : List (Entry _)). option_map (λ (x : Entry _). x.declared) (slice_get es place)) (reverse-reverse items)
