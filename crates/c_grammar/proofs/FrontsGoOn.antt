-- The tokens of a front begin some program.
use Rattle.std.proofs.Common.{◌≡◌, ℕ, zero, suc, List, [], ◌∷◌, ◌++◌, ◌⊎◌, inl, inr, refl, ap, subst, ◌∙◌, sym, arith}
use Rattle.std.proofs.lemmas.List.{append-nil}
use Rattle.c_tree.specs.declared.program.Item.{Item}
use Rattle.c_grammar.specs.Grammar.{Rule}
use Rattle.c_grammar.specs.Nodes.{Node}
use Rattle.c_grammar.specs.Parts.{Part, node, each}
use Rattle.c_grammar.specs.Programs.{FrontsGoOn}
use Rattle.c_grammar.specs.Spots.{Spot}
use Rattle.c_grammar.proofs.Begun.{Spelled, Begun, Completed, GoesOn, begun_of, completed, from_nothing, goes_then, spelled_nothing, lacking, whole, broken}
use Rattle.c_grammar.proofs.RulesGoOn.{rule_goes}
use Rattle.c_grammar.proofs.Schemes.{begun_nothing, each_goes, tree_parts}
use Rattle.c_grammar.proofs.Shapes.{Kind, node_of, kind-is}
use Rattle.c_grammar.proofs.Shapes as k
use Rattle.c_grammar.proofs.Somes.{some}

-- a part of the tree that is broken in its rule
record Broken (h : ℕ) (n : Node) (w : List Spot) : Type 0 where
  pub early : List Part
  pub late : List Part
  pub rule : Rule n early late
  pub less : ℕ
  pub times : h ≡ suc less
  pub begun : Begun less (early ++ late) w

one_node : {h : ℕ} {n : Node} {ps : List Part} {w : List Spot} → Begun h (node n ∷ ps) w → ps ≡ [] → (w ≡ []) ⊎ (Spelled (node n ∷ []) w ⊎ Broken h n w)
one_node lacking none = inl refl
one_node {n = n} (whole {u = u} s b e) none =
    inr (inl (subst (Spelled (node n ∷ [])) (sym (e ∙ ap (λ (v : List Spot). u ++ v) (begun_nothing b none) ∙ append-nil u)) s))
one_node (broken {h = h} {early = early} {late = late} rule b) none = inr (inr (record { early = early; late = late; rule = rule; less = h; times = refl; begun = b }))

all_go : (h : ℕ) (kind : Kind) → GoesOn h (tree_parts kind)
all_go zero kind x w b = pick (one_node b refl)
  where
    pick : (w ≡ []) ⊎ (Spelled (tree_parts kind x) w ⊎ Broken 0 (node_of kind x) w) → Completed (tree_parts kind) w
    pick (inl e) = from_nothing (tree_parts kind) e (some kind)
    pick (inr (inl s)) = completed (tree_parts kind) x s
    pick (inr (inr y)) = let e = y.times in absurd (omega arith)
all_go (suc h) kind x w b = pick (all_go h) (one_node b refl)
  where
    pick : ((kind : Kind) → GoesOn h (tree_parts kind)) → (w ≡ []) ⊎ (Spelled (tree_parts kind x) w ⊎ Broken (suc h) (node_of kind x) w) → Completed (tree_parts kind) w
    pick below (inl e) = from_nothing (tree_parts kind) e (some kind)
    pick below (inr (inl s)) = completed (tree_parts kind) x s
    pick below (inr (inr y)) =
        let less : y.less ≡ h = omega (arith, y.times) in
        let again = subst (λ (m : ℕ). Begun m (y.early ++ y.late) w) less y.begun in
        subst (λ (other : Kind). Completed (tree_parts other) w) (kind-is kind x) (rule_goes h below y.rule w again)

abbrev items_parts : Item × List Item → List Part
items_parts x = tree_parts k.item x.0 ++ each (node_of k.item) x.1

pub fronts_go_on : FrontsGoOn
fronts_go_on depth tokens front =
    let b = begun_of front.front in
    let again = all_go b.times in
    let c = goes_then {B = λ x. List Item} (tree_parts k.item) (λ x. each (node_of k.item)) (again k.item) (λ x. each_goes b.times some again k.item)
    (λ x. record { it = []; more = []; spelled = spelled_nothing }) (front.item, front.items) tokens b.begun in
    record {
      program = record { items = c.it.0 ∷ c.it.1; end_tok = 0; end = record { line = 1; col = 1 } };
      more = c.more;
      spelled = record { some = λ e. cc; depth = c.spelled.depth; spelled = c.spelled.spelled };
    }
