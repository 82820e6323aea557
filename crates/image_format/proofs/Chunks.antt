-- Bytes in chunks of one size, and what is spelled by chunks of one size.
use Rattle.std.proofs.Common.{◌≡◌, ℕ, zero, suc, ◌+◌, ◌*◌, ◌<◌, List, [], ◌∷◌, map, take, drop, get_or, length, refl, sym, ap, arith, inl, inr}
use Rattle.std.specs.List.{flat_map, AllByRecursion}
use Rattle.std.specs.Simd.{first_chunks}
use Rattle.std.proofs.lemmas.Bool.{cases_lt}
use Rattle.std.proofs.lemmas.List.{take_at, drop_at, take-append-drop, nil_from_length, length-append, length-drop, length-take, get_or-drop, get_or-take, get_or_past}

abbrev pub IsBytes : List ℕ → Type 0
IsBytes bytes = (i : ℕ) → get_or bytes i 0 < 256

pub IsBytes-drop : (n : ℕ) (bytes : List ℕ) → IsBytes bytes → IsBytes (drop n bytes)
IsBytes-drop n bytes h i = rw get_or-drop (h (n + i))

pub IsBytes-take : (n : ℕ) (bytes : List ℕ) → IsBytes bytes → IsBytes (take n bytes)
IsBytes-take n bytes h i =
    elim (cases_lt i n) [
      | inl lt ↦ rw (get_or-take n bytes i 0 lt) (h i)
      | inr le ↦ rw (get_or_past (take n bytes) i 0 (omega (arith, length-take n bytes))) (omega arith)
    ]

-- ---- what is spelled by chunks of one size is cut into them

pub first_chunks-flat_map : {A : Type 0} (size : ℕ) (spell : A → List ℕ) → ((item : A) → length (spell item) ≡ size) → (items : List A)
    → first_chunks size (length items) (flat_map spell items) ≡ map spell items
first_chunks-flat_map size spell len [] = refl
first_chunks-flat_map size spell len (item ∷ items) =
    rw (take_at (spell item) (flat_map spell items) size (len item), drop_at (spell item) (flat_map spell items) size (len item))
    (ap (λ chunks. spell item ∷ chunks) (first_chunks-flat_map size spell len items))

pub length-flat_map_of : {A : Type 0} (size : ℕ) (spell : A → List ℕ) → ((item : A) → length (spell item) ≡ size) → (items : List A)
    → length (flat_map spell items) ≡ size * length items
length-flat_map_of size spell len [] = omega arith
length-flat_map_of size spell len (item ∷ items) =
    omega (arith, length-append (spell item) (flat_map spell items), len item, length-flat_map_of size spell len items)

-- what is read of the spelling of each item is that item
pub map-map_back : {A : Type 0} (spell : A → List ℕ) (read : List ℕ → A) (items : List A)
    → AllByRecursion (λ item. read (spell item) ≡ item) items → map read (map spell items) ≡ items
map-map_back spell read [] back = refl
map-map_back spell read (item ∷ items) back = rw (back.0, map-map_back spell read items back.1) refl

-- ---- what is cut into chunks is spelled by them

-- what holds of each chunk
pub All-first_chunks : (size k : ℕ) (P Q : List ℕ → Type 0) → ((chunk : List ℕ) → length chunk ≡ size → IsBytes chunk → P chunk → Q chunk)
    → (bytes : List ℕ) → length bytes ≡ size * k → IsBytes bytes → AllByRecursion P (first_chunks size k bytes) → AllByRecursion Q (first_chunks size k bytes)
All-first_chunks size zero P Q each bytes len fits given = tt
All-first_chunks size (suc k) P Q each bytes len fits given = (
  each (take size bytes) (omega (arith, length-take size bytes, len)) (IsBytes-take size bytes fits) given.0,
  All-first_chunks size k P Q each (drop size bytes) (omega (arith, length-drop size bytes, len)) (IsBytes-drop size bytes fits) given.1,
)

pub flat_map-first_chunks : {A : Type 0} (size k : ℕ) (spell : A → List ℕ) (read : List ℕ → A) (bytes : List ℕ) → length bytes ≡ size * k
    → AllByRecursion (λ chunk. spell (read chunk) ≡ chunk) (first_chunks size k bytes) → flat_map spell (map read (first_chunks size k bytes)) ≡ bytes
flat_map-first_chunks size zero spell read bytes len back = sym (nil_from_length bytes (omega (arith, len)))
flat_map-first_chunks size (suc k) spell read bytes len back =
    rw (back.0, flat_map-first_chunks size k spell read (drop size bytes) (omega (arith, length-drop size bytes, len)) back.1)
    (take-append-drop size bytes)

pub length-first_chunks : (size k : ℕ) (bytes : List ℕ) → length (first_chunks size k bytes) ≡ k
length-first_chunks size zero bytes = refl
length-first_chunks size (suc k) bytes = ap suc (length-first_chunks size k (drop size bytes))

-- what holds of all, and what follows from it
pub All-weaker : {A : Type 0} (P Q : A → Type 0) → ((item : A) → P item → Q item) → (items : List A) → AllByRecursion P items → AllByRecursion Q items
All-weaker P Q each [] given = tt
All-weaker P Q each (item ∷ items) given = (each item given.0, All-weaker P Q each items given.1)

pub All-map : {A B : Type 0} (f : A → B) (P : B → Type 0) (items : List A) → AllByRecursion (λ item. P (f item)) items → AllByRecursion P (map f items)
All-map f P [] given = tt
All-map f P (item ∷ items) given = (given.0, All-map f P items given.1)
