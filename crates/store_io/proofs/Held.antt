-- What is found and what is changed in the files that a map in memory holds.
use Rattle.std.proofs.Common.{◌≡◌, ℕ, ◌∷◌, [], List, refl, sym, ap, ◌∙◌, cond, true, false, Some}
use Rattle.std.specs.Option.{option_map}
use Rattle.std.specs.Ordering.{nat_cmp, is_eq, match_ordering, eq_by_cmp}
use Rattle.std.specs.declared.cmp.Ordering.TheVariants.{Less, Equal, Greater}
use Rattle.std.specs.Cmp.Lexicographic.{slice_cmp}
use Rattle.std.proofs.lemmas.Cmp.{nat_list_cmp_total}
use Rattle.std.specs.declared.vec.Vec.{Vec}
use Rattle.std.specs.BTreeMap.{insert_entry, is_at}
use Rattle.std.specs.Map.{lookup}
use Rattle.std.specs.FinMap.{get, insert, from_entries, get-insert, get-from_entries, same_map, IsAntisymmetric, slice_cmp-IsAntisymmetric, nat_cmp-IsAntisymmetric}
use Rattle.std.specs.FinMap.Entries.{find, put, by_order, find-put}
use Rattle.store_io.specs.Held.{held_pairs, held_files}

-- names that compare alike are one
pub exact_names : IsAntisymmetric (slice_cmp nat_cmp)
exact_names = slice_cmp-IsAntisymmetric nat_cmp-IsAntisymmetric

-- an entry put in its place is inserted
from_entries-put : (es : List (List ℕ × List ℕ)) (k v : List ℕ) → from_entries {R = slice_cmp nat_cmp} (put (slice_cmp nat_cmp) k v es) ≡ insert (from_entries es) k v
from_entries-put es k v = same_map nat_list_cmp_total exact_names _ _ (λ q.
    get-from_entries nat_list_cmp_total (put (slice_cmp nat_cmp) k v es) q
    ∙ find-put (slice_cmp nat_cmp) nat_list_cmp_total q k v es
    ∙ sym (get-insert nat_list_cmp_total (from_entries es) k v q ∙ ap (cond (eq_by_cmp (slice_cmp nat_cmp) q k) (Some v)) (get-from_entries nat_list_cmp_total es q)))

-- to insert into the map is to put the bytes in their place
held_pairs-insert : {A : Type 0} (es : List (Vec ℕ A × Vec ℕ A)) (k v : Vec ℕ A) → held_pairs (insert_entry (λ x y. slice_cmp nat_cmp x.items y.items) es k v) ≡ put (slice_cmp nat_cmp) k.items v.items (held_pairs es)
held_pairs-insert [] k v = refl
held_pairs-insert {A} (e ∷ es) k v =
    elim (slice_cmp nat_cmp k.items e.0.items) as (λ o.
    held_pairs (match_ordering o ((k, v) ∷ e ∷ es) ((e.0, v) ∷ es) (e ∷ insert_entry (λ (x y : Vec ℕ A). slice_cmp nat_cmp x.items y.items) es k v))
    ≡ by_order o ((k.items, v.items) ∷ held_pairs (e ∷ es)) ((e.0.items, v.items) ∷ held_pairs es) ((e.0.items, e.1.items) ∷ put (slice_cmp nat_cmp) k.items v.items (held_pairs es))) [
      | Less ↦ refl
      | Equal ↦ refl
      | Greater ↦ ap (λ (ps : List (List ℕ × List ℕ)). (e.0.items, e.1.items) ∷ ps) (held_pairs-insert es k v)
    ]

-- what an insertion into the map leaves
pub held_files-insert : {A : Type 0} (es : List (Vec ℕ A × Vec ℕ A)) (k v : Vec ℕ A) → held_files (insert_entry (λ x y. slice_cmp nat_cmp x.items y.items) es k v) ≡ insert (held_files es) k.items v.items
held_files-insert es k v = ap (λ ps. from_entries ps) (held_pairs-insert es k v) ∙ from_entries-put (held_pairs es) k.items v.items

find-held : {A : Type 0} (q : List ℕ) (es : List (Vec ℕ A × Vec ℕ A)) → find (slice_cmp nat_cmp) q (held_pairs es) ≡ option_map (λ v. v.items) (lookup (is_at (λ k. slice_cmp nat_cmp q k.items)) es)
find-held q [] = refl
find-held {A} q (e ∷ es) =
    elim (is_eq (slice_cmp nat_cmp q e.0.items)) as (λ b.
    cond b (Some e.1.items) (find (slice_cmp nat_cmp) q (held_pairs es))
    ≡ option_map (λ (v : Vec ℕ A). v.items) (cond b (Some e.1) (lookup (is_at (λ k. slice_cmp nat_cmp q k.items)) es))) [
      | true ↦ refl
      | false ↦ find-held q es
    ]

-- what a look-up in the map finds
pub get-held_files : {A : Type 0} (q : List ℕ) (es : List (Vec ℕ A × Vec ℕ A)) → get (held_files es) q ≡ option_map (λ v. v.items) (lookup (is_at (λ k. slice_cmp nat_cmp q k.items)) es)
get-held_files q es = get-from_entries nat_list_cmp_total (held_pairs es) q ∙ find-held q es
