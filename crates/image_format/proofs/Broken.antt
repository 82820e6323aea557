-- Rules one after the other.
use Rattle.std.proofs.Common.{◌≡◌, ℕ, ◌+◌, ◌<◌, Bool, true, false, List, [], ◌∷◌, ◌++◌, map, take, drop, get_or, length, Option, Some, None, Result, Ok, Err, refl, sym, ap, subst, ◌∙◌}
use Rattle.std.specs.Result.{IsErrAnd}
use Rattle.std.proofs.lemmas.List.{drop_more, map_more}
use Rattle.std.specs.Option.{option_or, option_map}
use Rattle.image_format.specs.declared.refusal.ImageRefusal.{ImageRefusal}
use Rattle.image_format.specs.declared.refusal.ImageRefusal.TheVariants.{Shape, Memory}
use Rattle.image_format.specs.declared.image.SiteEntry.{SiteEntry}
use Rattle.image_format.specs.Parts.{entry_in}
use Rattle.image_format.specs.Rules.{first_broken, entry_rules, shape_from, entries_rules, TellsFirst, Judges}

-- the first of some rules, and then of others
pub first_broken-append : {A : Type 0} (rules others : List (Bool × A))
    → first_broken (rules ++ others) ≡ option_or (first_broken rules) (first_broken others)
first_broken-append [] others = refl
first_broken-append ((true, told) ∷ rules) others = refl
first_broken-append ((false, told) ∷ rules) others = first_broken-append rules others

pub append_first : {A : Type 0} (rules others : List (Bool × A)) (r s t : Option A)
    → r ≡ first_broken rules → s ≡ first_broken others → t ≡ option_or r s → t ≡ first_broken (rules ++ others)
append_first rules others r s t first second both =
    both ∙ ap (λ o. option_or o s) first ∙ ap (option_or (first_broken rules)) second ∙ sym (first_broken-append rules others)

-- the rules of an entry, with their places in the file
pub first_broken-map : (place : ℕ) (rules : List (Bool × ℕ))
    → first_broken (map (shape_from place) rules) ≡ option_map (λ offset. Shape (place + offset)) (first_broken rules)
first_broken-map place [] = refl
first_broken-map place ((true, offset) ∷ rules) = refl
first_broken-map place ((false, offset) ∷ rules) = first_broken-map place rules

-- an entry that keeps its rules, and one that breaks one
pub first_broken-goes_on : (code_words place : ℕ) (entry : List ℕ) (entries : List (List ℕ))
    → first_broken (entry_rules code_words entry) ≡ None
    → first_broken (entries_rules code_words place (entry ∷ entries)) ≡ first_broken (entries_rules code_words (place + 28) entries)
first_broken-goes_on code_words place entry entries kept =
    first_broken-append (map (shape_from place) (entry_rules code_words entry)) (entries_rules code_words (place + 28) entries)
    ∙ ap (λ o. option_or o (first_broken (entries_rules code_words (place + 28) entries)))
    (first_broken-map place (entry_rules code_words entry) ∙ ap (option_map (λ offset. Shape (place + offset))) kept)

pub first_broken-stops : (code_words place offset : ℕ) (entry : List ℕ) (entries : List (List ℕ))
    → first_broken (entry_rules code_words entry) ≡ Some offset
    → first_broken (entries_rules code_words place (entry ∷ entries)) ≡ Some (Shape (place + offset))
first_broken-stops code_words place offset entry entries broken =
    first_broken-append (map (shape_from place) (entry_rules code_words entry)) (entries_rules code_words (place + 28) entries)
    ∙ ap (λ o. option_or o (first_broken (entries_rules code_words (place + 28) entries)))
    (first_broken-map place (entry_rules code_words entry) ∙ ap (option_map (λ offset. Shape (place + offset))) broken)

-- the same for the entries from a place of a list on
pub goes_on_at : (code_words place i : ℕ) (entries : List (List ℕ)) → i < length entries
    → None ≡ first_broken (entry_rules code_words (get_or entries i []))
    → first_broken (entries_rules code_words place (drop i entries)) ≡ first_broken (entries_rules code_words (place + 28) (drop (i + 1) entries))
goes_on_at code_words place i entries within kept =
    ap (λ rest. first_broken (entries_rules code_words place rest)) (drop_more entries i [] within)
    ∙ first_broken-goes_on code_words place (get_or entries i []) (drop (i + 1) entries) (sym kept)

pub stops_at : (code_words place offset i : ℕ) (entries : List (List ℕ)) → i < length entries
    → Some offset ≡ first_broken (entry_rules code_words (get_or entries i []))
    → first_broken (entries_rules code_words place (drop i entries)) ≡ Some (Shape (place + offset))
stops_at code_words place offset i entries within broken =
    ap (λ rest. first_broken (entries_rules code_words place rest)) (drop_more entries i [] within)
    ∙ first_broken-stops code_words place offset (get_or entries i []) (drop (i + 1) entries) (sym broken)

-- one entry more is read
pub entries_more : (i : ℕ) (chunks : List (List ℕ)) (entries more : List SiteEntry) (entry : SiteEntry) → i < length chunks
    → entries ≡ map entry_in (take i chunks) → entry ≡ entry_in (get_or chunks i []) → more ≡ entries ++ entry ∷ []
    → more ≡ map entry_in (take (i + 1) chunks)
entries_more i chunks entries more entry within read last pushed = let step = map_more entry_in chunks i [] within in cc

-- ---- what is refused by rules, and by others after them

pub TellsFirst-append : (rules others : List (Bool × ImageRefusal)) (refusal : ImageRefusal) → TellsFirst rules refusal → TellsFirst (rules ++ others) refusal
TellsFirst-append rules others Memory refused = tt
TellsFirst-append rules others refusal refused =
    first_broken-append rules others ∙ ap (λ first. option_or first (first_broken others)) refused

pub TellsFirst-later : (rules others : List (Bool × ImageRefusal)) (refusal : ImageRefusal) → first_broken rules ≡ None
    → TellsFirst others refusal → TellsFirst (rules ++ others) refusal
TellsFirst-later rules others Memory kept refused = tt
TellsFirst-later rules others refusal kept refused =
    first_broken-append rules others ∙ ap (λ first. option_or first (first_broken others)) kept ∙ refused

pub first_broken-none : {A : Type 0} (rules others : List (Bool × A)) → first_broken rules ≡ None → first_broken others ≡ None
    → first_broken (rules ++ others) ≡ None
first_broken-none rules others kept later =
    first_broken-append rules others ∙ ap (λ first. option_or first (first_broken others)) kept ∙ later

-- the error of a `?`
pub judges_residual : {A : Type 0} (rules : List (Bool × ImageRefusal)) (value : A) (r : Result A ImageRefusal) (refusal : ImageRefusal)
    → IsErrAnd r (λ told. told ≡ refusal) → TellsFirst rules refusal → Judges rules value r
judges_residual rules value (Ok given) refusal same refused = absurd same
judges_residual rules value (Err told) refusal same refused = subst (λ (r : ImageRefusal). TellsFirst rules r) (sym same) refused
