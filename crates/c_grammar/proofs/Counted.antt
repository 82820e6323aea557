-- Parts of the tree that spell a token at least, so that a node that they begin counts.
use Rattle.std.proofs.Common.{◌≡◌, ℕ, suc, List, [], ◌∷◌, ◌++◌, refl}
use Rattle.c_tree.specs.declared.call.Call.{Call}
use Rattle.c_tree.specs.declared.place.Place.{Place}
use Rattle.c_tree.specs.declared.simple.Simple.{Simple}
use Rattle.c_tree.specs.declared.statement.Block.{Block}
use Rattle.c_grammar.specs.Grammar as rule
use Rattle.c_grammar.specs.Nodes as a
use Rattle.c_grammar.specs.Parts.{Token, Part, token, node}
use Rattle.c_grammar.specs.Spelling.{counted, Spells, quoted, whole}
use Rattle.c_grammar.specs.Spots.{Spot}

-- there is a token in the list
pub data IsCounted : List Spot → Type 0 where
  counts : {x : Spot} {w : List Spot} → IsCounted (x ∷ w)

pub counted_suc : {w : List Spot} → IsCounted w → (n : ℕ) → counted w n ≡ suc n
counted_suc counts n = refl

counts_before : {u : List Spot} → IsCounted u → (v : List Spot) → IsCounted (u ++ v)
counts_before counts v = counts

counts_after : (u : List Spot) {v : List Spot} → IsCounted v → IsCounted (u ++ v)
counts_after [] later = later
counts_after (x ∷ u) later = counts

token_counts : {t : Token} {ps : List Part} {d : ℕ} {w : List Spot} → Spells (token t ∷ ps) d w → IsCounted w
token_counts (quoted is rest) = counts

-- ---- nodes in front

-- a node counts that has a token early, or late
early_counts : {u1 w : List Spot} (u2 v : List Spot) → w ≡ (u1 ++ u2) ++ v → IsCounted u1 → IsCounted w
early_counts u2 v e early = rw e (counts_before (counts_before early u2) v)

late_counts : {u2 w : List Spot} (u1 v : List Spot) → w ≡ (u1 ++ u2) ++ v → IsCounted u2 → IsCounted w
late_counts u1 v e late = rw e (counts_before (counts_after u1 late) v)

pub block_counts : {b : Block} {ps : List Part} {d : ℕ} {w : List Spot} → Spells (node (a.block b) ∷ ps) d w → IsCounted w
block_counts (whole rule.block early late rest e _) = early_counts _ _ e (token_counts early)

named_counts : {p : Place} {ps : List Part} {d : ℕ} {w : List Spot} → Spells (node (a.named p) ∷ ps) d w → IsCounted w
named_counts (whole (rule.plain _) early late rest e _) = late_counts _ _ e (token_counts late)
named_counts (whole (rule.index _) early late rest e _) = late_counts _ _ e (token_counts late)
named_counts (whole (rule.index2 _) early late rest e _) = late_counts _ _ e (token_counts late)

pub place_counts : {p : Place} {ps : List Part} {d : ℕ} {w : List Spot} → Spells (node (a.place p) ∷ ps) d w → IsCounted w
place_counts (whole rule.place_named early late rest e _) = early_counts _ _ e (named_counts early)
place_counts (whole (rule.deref _) early late rest e _) = late_counts _ _ e (token_counts late)

pub call_counts : {c : Call} {ps : List Part} {d : ℕ} {w : List Spot} → Spells (node (a.call c) ∷ ps) d w → IsCounted w
call_counts (whole (rule.call _) early late rest e _) = early_counts _ _ e (token_counts early)

pub simple_counts : {x : Simple} {ps : List Part} {d : ℕ} {w : List Spot} → Spells (node (a.simple x) ∷ ps) d w → IsCounted w
simple_counts (whole (rule.assign _) early late rest e _) = early_counts _ _ e (place_counts early)
simple_counts (whole (rule.step_after _) early late rest e _) = early_counts _ _ e (named_counts early)
simple_counts (whole (rule.step_before _) early late rest e _) = early_counts _ _ e (token_counts early)
simple_counts (whole (rule.set_overflow _) early late rest e _) = early_counts _ _ e (token_counts early)
simple_counts (whole (rule.simple_call _) early late rest e _) = early_counts _ _ e (call_counts early)
