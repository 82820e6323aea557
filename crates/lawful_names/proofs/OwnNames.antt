-- No two functions of a source without a fault have one name: under its name each is known by its number.
use Rattle.std.proofs.Common.{◌≡◌, ℕ, zero, suc, ◌+◌, List, [], ◌∷◌, ◌++◌, map, length, refl, sym, ap, ◌∙◌, inl, inr}
use Rattle.std.specs.Prelude.{Option, Some, None, option_map, slice_get}
use Rattle.std.proofs.lemmas.Bool.Decides.{eqb_tells}
use Rattle.std.proofs.lemmas.Option.{slice_get-map, none-some}
use Rattle.c_scopes.specs.Scopes.{Known}
use Rattle.c_tree.specs.declared.function.Function.{Function}
use Rattle.c_tree.specs.declared.program.Item.{Item}
use Rattle.c_tree.specs.declared.program.Item.TheVariants as items_of
use Rattle.c_tree.specs.declared.program.Program.{Program}
use Rattle.c_typed.specs.declared.typed.Typed.{Typed}
use Rattle.c_typed.specs.declared.typed.TypedFunction.{TypedFunction}
use Rattle.c_seen.specs.declared.functions.Declaration.{Declaration}
use Rattle.c_seen.specs.Meanings.{Names}
use Rattle.c_seen.specs.Sources as seen_sources
use Rattle.c_seen.specs.Sources.{functions_after}
use Rattle.c_types.specs.Sources.{Source, number_of, number_or, functions_or, declared, after_function, after_item, after_items}
use Rattle.lawful_sources.specs.Lawful.{name_of}
use Rattle.lawful_names.specs.Laws.{NamesDiffer}
use Rattle.lawful_names.proofs.Clean.{is_clean, when-clean}
use Rattle.lawful_names.proofs.Faultless.{seen-clean}
use Rattle.lawful_names.proofs.Keeping.{number_in, Covers, Fresh, Kept, some-same}
use Rattle.lawful_names.proofs.Reached.{Reached, Steps, steps, state_of, function-own, next-reached, next-keeps}
use Rattle.lawful_names.proofs.Sources.{reached, start_of, names_at_start}

-- ---- a function stands among those before, or is the one that is declared

before-last : {A : Type 0} (xs : List A) (y x : A) (k : ℕ) → (length xs ≡ k → ⊥) → slice_get (xs ++ y ∷ []) k ≡ Some x → slice_get xs k ≡ Some x
before-last [] y x zero apart p = absurd (apart refl)
before-last [] y x (suc k) apart p = p
before-last (z ∷ xs) y x zero apart p = p
before-last (z ∷ xs) y x (suc k) apart p = before-last xs y x k (λ same. apart (ap suc same)) p

among-before : (known : Option ℕ) (functions : List TypedFunction) (g : Function) (k : ℕ) (f : TypedFunction) → (number_or known (length functions) ≡ k → ⊥)
    → slice_get (functions_or known functions g) k ≡ Some f → slice_get functions k ≡ Some f
among-before None functions g k f apart p = before-last functions (declared g) f k apart p
among-before (Some number) functions g k f apart p = p

module _ (source : Typed) (items : List Item) where
  abbrev Here : Source → Names → List (Known Declaration) → ℕ → List Item → Type 0
  Here = Reached source items is_clean when-clean

  abbrev Numbered : Source → Type 0
  Numbered s = (k : ℕ) (f : TypedFunction) → slice_get s.functions k ≡ Some f → number_in s.here.known f.name ≡ Some k

  -- what is declared keeps its number
  stays : (s : Source) (names : Names) (before : List (Known Declaration)) (item : ℕ) (x : Item) (rest : List Item) → Here s names before item (x ∷ rest) → (name : List ℕ) (k : ℕ)
      → number_in s.here.known name ≡ Some k → number_in (after_item s item x).here.known name ≡ Some k
  stays s names before item x rest r name k p = by (r.covers name)
    where
      by : Covers source items name (state_of names s.here before s.functions) → number_in (after_item s item x).here.known name ≡ Some k
      by (Fresh none free) = let never : None ≡ Some k = sym free ∙ p in absurd (none-some k never)
      by (Kept number of keeps) = (next-keeps source items is_clean when-clean s names before item x rest r name number of keeps).numbered ∙ sym keeps.numbered ∙ p

  function-numbered : (s : Source) (names : Names) (before : List (Known Declaration)) (item : ℕ) (g : Function) (rest : List Item) → Here s names before item (items_of.Function g ∷ rest)
      → Numbered s → Numbered (after_function s item g)
  function-numbered s names before item g rest r all k f p =
      let t : Steps source items is_clean when-clean s names before item g = steps source items is_clean when-clean s names before item g rest r in
      elim (eqb_tells (number_of s g) k) [
        | inl same ↦
            let at : slice_get (after_function s item g).functions k ≡ Some t.ends.entry.typed = ap (slice_get (after_function s item g).functions) (sym same.1) ∙ t.ends.entry.stands in
            let named : f.name ≡ g.name.name = ap (λ (x : TypedFunction). x.name) (some-same f t.ends.entry.typed (sym p ∙ at)) ∙ t.ends.entry.named in
            ap (number_in (after_function s item g).here.known) named ∙ (function-own source items is_clean when-clean s names before item g rest r).numbered ∙ ap Some same.1
        | inr apart ↦
            stays s names before item (items_of.Function g) rest r f.name k
            (all k f (among-before (number_in s.here.known g.name.name) s.functions g k f apart.1 (sym (t.ends.others k apart.1) ∙ p)))
      ]

  next-numbered : (s : Source) (names : Names) (before : List (Known Declaration)) (item : ℕ) (x : Item) (rest : List Item) → Here s names before item (x ∷ rest) → Numbered s → Numbered (after_item s item x)
  next-numbered s names before item (items_of.Objects list) rest r all k f p = stays s names before item (items_of.Objects list) rest r f.name k (all k f p)
  next-numbered s names before item (items_of.Function g) rest r all k f p = function-numbered s names before item g rest r all k f p
  next-numbered s names before item (items_of.ExternFlag at) rest r all k f p = all k f p

  all-numbered : (s : Source) (names : Names) (before : List (Known Declaration)) (item : ℕ) (list : List Item) → Here s names before item list → Numbered s → Numbered (after_items s item list)
  all-numbered s names before item [] r all = all
  all-numbered s names before item (x ∷ rest) r all =
      all-numbered (after_item s item x) (seen_sources.after_item names item x) (functions_after names.items before item x) (item + 1) rest
      (next-reached source items is_clean when-clean s names before item x rest r) (next-numbered s names before item x rest r all)

-- ---- the whole source

abbrev ended : Program → Typed → Source
ended program typed = after_items (start_of program typed) 0 program.items

pub names-differ : NamesDiffer
names-differ program typed is name one other p q = some-same one other (sym (numbered one p) ∙ numbered other q)
  where
    all : (k : ℕ) (f : TypedFunction) → slice_get (ended program typed).functions k ≡ Some f → number_in (ended program typed).here.known f.name ≡ Some k
    all = all-numbered typed program.items (start_of program typed) (names_at_start program) [] 0 program.items (reached program typed is_clean when-clean is.tied (seen-clean program is.faultless)) (λ k f p. absurd (none-some f p))

    by : (k : ℕ) (x : Option TypedFunction) → slice_get typed.functions k ≡ x → option_map name_of x ≡ Some name → number_in (ended program typed).here.known name ≡ Some k
    by k None at p = absurd (none-some name p)
    by k (Some f) at p =
        let same : f.name ≡ name = cc in
        ap (number_in (ended program typed).here.known) (sym same) ∙ all k f (ap (λ (l : List TypedFunction). slice_get l k) (sym is.tied.functions) ∙ at)

    numbered : (k : ℕ) → slice_get (map name_of typed.functions) k ≡ Some name → number_in (ended program typed).here.known name ≡ Some k
    numbered k p = by k (slice_get typed.functions k) refl (sym (slice_get-map name_of typed.functions k) ∙ p)
