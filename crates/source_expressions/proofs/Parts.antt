-- What is found and computed at sites, where the code has the same numbers in other words.
use Rattle.std.proofs.Common.{◌≡◌, ℕ, ◌+◌, ◌<◌, ◌++◌, ◌∷◌, [], List, length, drop, get_or, map, refl, sym, ap, ◌∙◌, subst}
use Rattle.std.proofs.lemmas.List.{at_drop_more}
use Rattle.std.specs.Prelude.{ℤ, Result, Ok, Option, Some, None}
use Rattle.std.specs.Option.{ok_or}
use Rattle.c_tree.specs.declared.expression.BinaryMark.{BinaryMark}
use Rattle.source_runs.specs.declared.halt.Halt.{Halt}
use Rattle.source_runs.specs.declared.halt.Halt.TheVariants.{Stopped}
use Rattle.source_runs.specs.State.{Kept}
use Rattle.source_runs.specs.Calls.{next_sample, after_sample, sample_in}
use Rattle.source_runs.specs.Runs.{Run, ◌>>=◌, ◌>>◌, reading, changing, at_site, found, gathered}
use Rattle.source_runs.specs.Marks.{decided, decided_or}
use Rattle.source_runs.specs.Follows.{Follows}
use Rattle.source_runs.proofs.Following.{follows-gives, follows-site, follows-found}
use Rattle.source_runs.proofs.Turning.{gathered-next}

pub site_so : {A : Type 0} (value value2 : Option A) (site site2 : ℕ) (r : Result A Halt) (kept : Kept)
    → value2 ≡ value → site2 ≡ site → r ≡ ok_or value2 (Stopped site2) → Follows (at_site site value) r kept kept
site_so value value2 site site2 r kept same place is =
    follows-site site value r kept (is ∙ ap (λ v. ok_or v (Stopped site2)) same ∙ ap (λ (n : ℕ). ok_or value (Stopped n)) place)

pub found_so : {A : Type 0} (value : Kept → Option A) (value2 : Option A) (site site2 : ℕ) (r : Result A Halt) (kept : Kept)
    → value2 ≡ value kept → site2 ≡ site → r ≡ ok_or value2 (Stopped site2) → Follows (found site value) r kept kept
found_so value value2 site site2 r kept same place is =
    follows-found site value r kept (is ∙ ap (λ v. ok_or v (Stopped site2)) same ∙ ap (λ (n : ℕ). ok_or (value kept) (Stopped n)) place)

pub decides : (mark : BinaryMark) (x x2 value value2 : ℤ) (rest : Run ℤ) (kept : Kept)
    → x2 ≡ x → Some value ≡ decided mark x2 → value2 ≡ value → Follows (decided_or (decided mark x) rest) (Ok value2) kept kept
decides mark x x2 value value2 rest kept read is same =
    subst (λ d. Follows (decided_or d rest) (Ok value2) kept kept) (is ∙ ap (decided mark) read) (follows-gives value value2 kept kept same refl)

pub leaves_open : (mark : BinaryMark) (x x2 : ℤ) (rest : Run ℤ) (r : Result ℤ Halt) (before after : Kept)
    → x2 ≡ x → None ≡ decided mark x2 → Follows rest r before after → Follows (decided_or (decided mark x) rest) r before after
leaves_open mark x x2 rest r before after read is one = subst (λ d. Follows (decided_or d rest) r before after) (is ∙ ap (decided mark) read) one

-- the next of several that are gathered
pub gathered_step : {X A : Type 0} (f : X → Run A) (done : List A) (xs : List X) (i : ℕ) (x : X) → i < length xs → x ≡ get_or xs i x
    → gathered done (map f (drop i xs)) ≡ (f x >>= (λ a. gathered (done ++ a ∷ []) (map f (drop (i + 1) xs))))
gathered_step f done xs i x within is =
    at_drop_more (λ ys. gathered done (map f ys)) xs i x within
    ∙ gathered-next done (f (get_or xs i x)) (map f (drop (i + 1) xs))
    ∙ ap (λ y. f y >>= (λ a. gathered (done ++ a ∷ []) (map f (drop (i + 1) xs)))) (sym is)

next_taken : (site : ℕ) (left : List ℤ) (kept : Kept)
    → Follows (sample_in site) (ok_or (next_sample (record kept { left = left })) (Stopped site)) (record kept { left = left }) (after_sample (record kept { left = left }))
unfolding sample_in found reading ◌>>=◌ ◌>>◌ changing at_site
next_taken site [] kept = record { from = λ sites. (refl, refl) }
next_taken site (x ∷ xs) kept = record { from = λ sites. (refl, refl) }

pub sample_taken : (site : ℕ) (value : Option ℤ) (r : Result ℤ Halt) (before after : Kept)
    → value ≡ next_sample before → after ≡ after_sample before → r ≡ ok_or value (Stopped site) → Follows (sample_in site) r before after
sample_taken site value r before after is rest same =
    let result : ok_or (next_sample before) (Stopped site) ≡ r = sym (same ∙ ap (λ v. ok_or v (Stopped site)) is) in
    subst (λ x. Follows (sample_in site) x before after) result (subst (λ (k : Kept). Follows (sample_in site) (ok_or (next_sample before) (Stopped site)) before k) (sym rest) (next_taken site before.left before))
