-- One more file among those that a store begins with.
use Rattle.std.proofs.Common.{◌≡◌, ◌≢◌, ℕ, suc, ◌<◌, ◌+◌, ◌∷◌, [], List, length, get_or, take, refl, sym, ap, ◌∙◌, cond, true, false, Some, None, arith}
use Rattle.std.proofs.lemmas.List.{take_more, get_or-take, get_or_default, map-append, length-take-le}
use Rattle.std.specs.Ordering.{nat_cmp, eq_by_cmp}
use Rattle.std.specs.Cmp.Lexicographic.{slice_cmp}
use Rattle.std.proofs.lemmas.Cmp.{nat_list_cmp_total}
use Rattle.std.proofs.lemmas.Map.Views.{tells_apart}
use Rattle.std.specs.FinMap.{insert, from_entries, from_entries_push}
use Rattle.std.specs.FinMap.Entries.{find}
use Rattle.store_io.specs.declared.entry.Entry.{Entry}
use Rattle.store_io.specs.Entries.{NamesDiffer, named_bytes, files_of}
use Rattle.store_io.proofs.Held.{exact_names}

-- no file is found under a name that none has
find_none : (q : List ℕ) (files : List Entry) → ((k : ℕ) (d : Entry) → k < length files → (get_or files k d).name ≢ q) → find (slice_cmp nat_cmp) q (named_bytes files) ≡ None
find_none q [] h = refl
find_none q (file ∷ files) h =
    elim (eq_by_cmp (slice_cmp nat_cmp) q file.name) as (λ b. eq_by_cmp (slice_cmp nat_cmp) q file.name ≡ b → cond b (Some file.bytes) (find (slice_cmp nat_cmp) q (named_bytes files)) ≡ None) [
      | true ↦ λ same. absurd (h 0 file (omega arith) (sym (tells_apart exact_names q file.name same)))
      | false ↦ λ _. find_none q files (λ k d below. h (suc k) d (omega arith))
    ] refl

-- the files before a place have other names than the one there
names_before : (files : List Entry) (i : ℕ) (file : Entry) → NamesDiffer files → i < length files → (k : ℕ) (d : Entry) → k < length (take i files) → (get_or (take i files) k d).name ≢ (get_or files i file).name
names_before files i file differ below k d within same =
    let short : k < i = omega (arith, length-take-le i files (omega arith)) in
    differ k i d short below (
    ap (λ (f : Entry). f.name) (sym (get_or-take i files k d short)) ∙ same
    ∙ ap (λ (f : Entry). f.name) (get_or_default files i file d below))

-- the files up to the next are those before it, and it
pub files_of-more : (files : List Entry) (i : ℕ) (file : Entry) → NamesDiffer files → i < length files → file ≡ get_or files i file → files_of (take (i + 1) files) ≡ insert (files_of (take i files)) file.name file.bytes
files_of-more files i file differ below is =
    let next : Entry = get_or files i file in
    ap (λ fs. files_of fs) (take_more files i file below)
    ∙ ap (λ es. from_entries es) (map-append (λ (f : Entry). (f.name, f.bytes)) (take i files) (next ∷ []))
    ∙ from_entries_push nat_list_cmp_total exact_names (named_bytes (take i files)) next.name next.bytes (find_none next.name (take i files) (names_before files i file differ below))
    ∙ ap (λ (f : Entry). insert (files_of (take i files)) f.name f.bytes) (sym is)
