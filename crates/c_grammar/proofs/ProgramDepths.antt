-- A program that is spelled is as deep as its tree.
use Rattle.std.proofs.Common.{◌≡◌, ◌≢◌, ℕ, List, [], ◌∷◌, refl, subst}
use Rattle.c_tree.specs.declared.program.Item.{Item}
use Rattle.c_grammar.specs.Nodes as a
use Rattle.c_grammar.specs.Parts.{each}
use Rattle.c_grammar.specs.Programs.{DepthsAreThoseOfTrees}
use Rattle.c_grammar.specs.Spelling as parts
use Rattle.c_grammar.proofs.Depths.{program_depth, whole_front}

-- a list of one item or more
pub record IsSome (items : List Item) : Type 0 where
  pub x : Item
  pub xs : List Item
  pub same : items ≡ x ∷ xs

pub some_of : (items : List Item) → items ≢ [] → IsSome items
some_of [] some = absurd (some refl)
some_of (x ∷ xs) some = record { x = x; xs = xs; same = refl }

pub depths_of_trees : DepthsAreThoseOfTrees
depths_of_trees program tokens s =
    let some = some_of program.items s.some in
    let depth = program_depth program.items s.spelled in
    let spelled = subst (λ (items : List Item). parts.Spells (each a.item items) s.depth tokens) some.same s.spelled in
    (depth, record { item = some.x; items = some.xs; front = subst (λ (d : ℕ). parts.Front (each a.item (some.x ∷ some.xs)) d tokens) depth (whole_front spelled) })
