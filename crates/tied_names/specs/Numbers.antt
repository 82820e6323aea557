-- The numbers of sites, and the objects that are exposed.
use Rattle.std.specs.Prelude.{ℕ, suc, Bool, if◌then◌else◌, nat_lt, List, [], ◌∷◌}
use Rattle.std.specs.BTreeSet.{insert_key}
use Rattle.std.specs.List.{list_any}
use Rattle.std.specs.List.Sorted.{IsNonDecreasing}
use Rattle.std.specs.Ordering.{nat_cmp, is_eq}
use Rattle.operator_meaning.specs.declared.object.Site.{Site}
use Rattle.tied_names.specs.declared.note.Note.{Note}
use Rattle.tied_names.specs.declared.note.Note.TheVariants as note
use Rattle.tied_names.specs.declared.tokens.Tokens.TheInside.{Inside}

abbrev pub token_of : Site → ℕ
token_of site = site.tok

-- the tokens of the sites stand in their order
abbrev pub AreInOrder : Inside → Type 0
AreInOrder t = IsNonDecreasing t.tokens.items

-- the number of the site at a token: how many tokens of sites stand before it
abbrev pub number_in : List ℕ → ℕ → ℕ
number_in [] tok = 0
number_in (before ∷ tokens) tok = if nat_lt before tok then suc (number_in tokens tok) else 0

-- the site that it notes, if it is one
abbrev pub sites_in : List Note → List Site
sites_in [] = []
sites_in (note.Site site ∷ notes) = site ∷ sites_in notes
sites_in (note.Exposed number ∷ notes) = sites_in notes

-- the objects that are exposed by notes, in the order of their numbers, beside these
abbrev pub exposed_in : List ℕ → List Note → List ℕ
exposed_in numbers [] = numbers
exposed_in numbers (note.Site site ∷ notes) = exposed_in numbers notes
exposed_in numbers (note.Exposed number ∷ notes) = exposed_in (insert_key nat_cmp numbers number) notes

abbrev pub is_exposed : List ℕ → ℕ → Bool
is_exposed numbers number = list_any (λ other. is_eq (nat_cmp number other)) numbers
