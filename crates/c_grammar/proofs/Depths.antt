-- What the grammar counts as depth is the depth of the tree.
use Rattle.std.proofs.Common.{◌≡◌, ℕ, max, List, [], ◌∷◌, ◌++◌, refl, sym, ◌∙◌, arith}
use Rattle.c_tree.specs.declared.program.Item.{Item}
use Rattle.c_tree.specs.Depth.{deepest, depth_of_item}
use Rattle.c_grammar.specs.Nodes as a
use Rattle.c_grammar.specs.Parts.{Part, each}
use Rattle.c_grammar.specs.Spelling.{counted, Spells, Front, nothing, quoted, whole, lacking, broken_early, broken_late}
use Rattle.c_grammar.specs.Spots.{Spot}
use Rattle.c_grammar.proofs.NodeDepths.{depth_of_parts, each_depth}
use Rattle.c_grammar.proofs.RuleDepths.{rule_depth}

-- parts that are spelled are as deep as what they are in the tree
pub spelled_depth : {ps : List Part} {d : ℕ} {w : List Spot} → Spells ps d w → d ≡ depth_of_parts ps
spelled_depth nothing = refl
spelled_depth (quoted is rest) = spelled_depth rest
spelled_depth (whole rule early late rest _ e) = cc (e, spelled_depth early, spelled_depth late, spelled_depth rest, rule_depth rule late)

-- a source that is spelled is as deep as its tree
pub program_depth : (items : List Item) {d : ℕ} {w : List Spot} → Spells (each a.item items) d w → d ≡ deepest depth_of_item items
program_depth items spells = spelled_depth spells ∙ each_depth a.item items

-- what is spelled is a front of itself
pub whole_front : {ps : List Part} {d : ℕ} {w : List Spot} → Spells ps d w → Front ps d w
whole_front nothing = lacking
whole_front (quoted is rest) = quoted is (whole_front rest)
whole_front (whole rule early late rest joined e) = whole rule early late (whole_front rest) joined e

-- ---- parts that spell nothing

-- neither of two lists has anything in it
none_appended : (u v : List Spot) → u ++ v ≡ [] → (u ≡ []) × (v ≡ [])
none_appended [] v e = (refl, e)
none_appended (x ∷ u) v e = cc

none_counted : (u : List Spot) (below : ℕ) → u ≡ [] → counted u below ≡ below
none_counted u below e = rw e refl

-- parts that spell nothing have no depth
pub spells_nothing : {ps : List Part} {d : ℕ} {w : List Spot} → Spells ps d w → w ≡ [] → d ≡ 0
spells_nothing nothing none = refl
spells_nothing (quoted is rest) none = cc
spells_nothing (whole {c1 = c1} {c2 = c2} {u1 = u1} {u2 = u2} {v = v} rule early late rest joined e) none =
    let both = none_appended (u1 ++ u2) v (sym joined ∙ none) in let parts = none_appended u1 u2 both.0 in
    omega (arith, e, none_counted u2 (max c1 c2) parts.1, spells_nothing early parts.0, spells_nothing late parts.1, spells_nothing rest both.1)

front_of_nothing : {ps : List Part} {d : ℕ} {w : List Spot} → Front ps d w → w ≡ [] → d ≡ 0
front_of_nothing lacking none = refl
front_of_nothing (quoted is rest) none = cc
front_of_nothing (whole {c1 = c1} {c2 = c2} {u1 = u1} {u2 = u2} {v = v} rule early late rest joined e) none =
    let both = none_appended (u1 ++ u2) v (sym joined ∙ none) in let parts = none_appended u1 u2 both.0 in
    omega (arith, e, none_counted u2 (max c1 c2) parts.1, spells_nothing early parts.0, spells_nothing late parts.1, front_of_nothing rest both.1)
front_of_nothing (broken_early rule early) none = front_of_nothing early none
front_of_nothing (broken_late {c1 = c1} {c2 = c2} {u1 = u1} {u2 = u2} rule early late joined e) none =
    let both = none_appended u1 u2 (sym joined ∙ none) in
    omega (arith, e, none_counted u2 (max c1 c2) both.1, spells_nothing early both.0, front_of_nothing late both.1)

-- a front with no token in it has no depth
pub nothing_is_flat : {ps : List Part} {d : ℕ} → Front ps d [] → d ≡ 0
nothing_is_flat front = front_of_nothing front refl
