-- How the two fields of `Scopes` hang together.
use Rattle.std.specs.Prelude.{◌≡◌, ℕ, List, [], ◌∷◌, Option, Some, None, if◌then◌else◌, length, map, reverse}
use Rattle.std.specs.Str.{bytes_eq}
use Rattle.c_scopes.specs.declared.scopes.Entry.{Entry}
use Rattle.c_scopes.specs.declared.scopes.Scopes.TheInside.{Inside}
use Rattle.c_scopes.specs.Newest.{place_in}
use Rattle.c_scopes.specs.Scopes.{Known}

abbrev pub known_of : {A : Type 0} → Entry A → Known A
known_of entry = (entry.name.now, entry.declared)

-- what is in scope, by the entries newest first
abbrev pub names_of : {A : Type 0} → Inside A → List (Known A)
names_of s = map known_of (reverse s.entries.items)

-- the place of the newest of these entries with this name, counted from the oldest
abbrev pub newest_in : {A : Type 0} → List (Entry A) → List ℕ → Option ℕ
newest_in [] name = None
newest_in (entry ∷ older) name = if bytes_eq entry.name.now name then Some (length older) else newest_in older name

-- each entry keeps the place of the one that it hides
abbrev pub Hides : {A : Type 0} → List (Entry A) → Type 0
Hides [] = Unit {0}
Hides (entry ∷ older) = (entry.hidden ≡ newest_in older entry.name.now) × Hides older

-- the map keeps the newest of each name
pub record Tied {A : Type 0} (s : Inside A) : Type 0 where
  pub newest : (name : List ℕ) → place_in s.newest name ≡ newest_in (reverse s.entries.items) name
  pub hides : Hides (reverse s.entries.items)
