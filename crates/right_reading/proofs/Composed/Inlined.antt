-- A part that is no node of the tree, and what its rule puts together in its place.
use Rattle.std.proofs.Common.{◌≡◌, ℕ, max, List, [], ◌∷◌, ◌++◌, refl, ap, subst, ◌∙◌, sym, arith}
use Rattle.std.proofs.lemmas.List.{append_assoc, append-nil}
use Rattle.c_grammar.specs.Grammar.{Rule}
use Rattle.c_grammar.specs.Nodes.{Node}
use Rattle.c_grammar.specs.Parts.{Token, Part, token, node, Is}
use Rattle.c_grammar.specs.Spelling.{counted, Spells, Front}
use Rattle.c_grammar.specs.Spelling as spelling
use Rattle.c_grammar.specs.Spots.{Spot}
use Rattle.c_grammar.proofs.Sequences.{FromNode, from_nothing, split, join}

-- ---- a front of two lists: of the first, or of the second after the first

pub record Passed (ps qs : List Part) (e : ℕ) (w : List Spot) : Type 0 where
  pub c : ℕ
  pub u : List Spot
  pub d : ℕ
  pub v : List Spot
  pub left : Spells ps c u
  pub right : Front qs d v
  pub tokens : w ≡ u ++ v
  pub depth : e ≡ max c d

pub data Cut (ps qs : List Part) (e : ℕ) (w : List Spot) : Type 0 where
  within : Front ps e w → Cut ps qs e w
  beyond : Passed ps qs e w → Cut ps qs e w

token_cut : {t : Token} {ps qs : List Part} {x : Spot} {d : ℕ} {w : List Spot} → Is t x → Cut ps qs d w → Cut (token t ∷ ps) qs d (x ∷ w)
token_cut is (within f) = within (spelling.quoted is f)
token_cut {x = x} is (beyond p) = beyond (record { c = p.c; u = x ∷ p.u; d = p.d; v = p.v; left = spelling.quoted is p.left; right = p.right; tokens = ap (λ (r : List Spot). x ∷ r) p.tokens; depth = p.depth })

node_cut : {n : Node} {early late ps qs : List Part} {c1 c2 d e : ℕ} {u1 u2 v w : List Spot} → Rule n early late → Spells early c1 u1 → Spells late c2 u2
    → w ≡ (u1 ++ u2) ++ v → e ≡ max (counted u2 (max c1 c2)) d → Cut ps qs d v → Cut (node n ∷ ps) qs e w
node_cut rule before behind tokens depth (within f) = within (spelling.whole rule before behind f tokens depth)
node_cut {c1 = c1} {c2 = c2} {u1 = u1} {u2 = u2} rule before behind tokens depth (beyond p) = beyond (record {
  c = max (counted u2 (max c1 c2)) p.c;
  u = (u1 ++ u2) ++ p.u;
  d = p.d;
  v = p.v;
  left = spelling.whole rule before behind p.left refl refl;
  right = p.right;
  tokens = tokens ∙ ap (λ (r : List Spot). (u1 ++ u2) ++ r) p.tokens ∙ simp append_assoc;
  depth = omega (arith, depth, p.depth);
})

cut_token : {t : Token} {ps qs all : List Part} {d : ℕ} {w : List Spot} → ((d : ℕ) (w : List Spot) → Front all d w → Cut ps qs d w) → Front (token t ∷ all) d w → Cut (token t ∷ ps) qs d w
cut_token next spelling.lacking = within spelling.lacking
cut_token next (spelling.quoted {d = d} {w = w} is f) = token_cut is (next d w f)

cut_node : {n : Node} {ps qs all : List Part} {d : ℕ} {w : List Spot} → ((d : ℕ) (w : List Spot) → Front all d w → Cut ps qs d w) → Front (node n ∷ all) d w → Cut (node n ∷ ps) qs d w
cut_node next spelling.lacking = within spelling.lacking
cut_node next (spelling.whole {d = d} {v = v} rule before behind f tokens depth) = node_cut rule before behind tokens depth (next d v f)
cut_node next (spelling.broken_early rule f) = within (spelling.broken_early rule f)
cut_node next (spelling.broken_late rule before f tokens depth) = within (spelling.broken_late rule before f tokens depth)

pub cut : (ps qs : List Part) (d : ℕ) (w : List Spot) → Front (ps ++ qs) d w → Cut ps qs d w
cut [] qs d w f = beyond (record { c = 0; u = []; d = d; v = w; left = spelling.nothing; right = f; tokens = refl; depth = omega arith })
cut (token t ∷ ps) qs d w f = cut_token (cut ps qs) f
cut (node n ∷ ps) qs d w f = cut_node (cut ps qs) f

-- ---- a rule with all of its parts early

pub fold_spelled : {n : Node} {early ps : List Part} {d : ℕ} {w : List Spot} → Rule n early [] → Spells (early ++ ps) d w → Spells (node n ∷ ps) d w
fold_spelled {early = early} {ps = ps} rule sp =
    let a = split early ps sp in
    spelling.whole rule a.left spelling.nothing a.right (a.tokens ∙ ap (λ (r : List Spot). r ++ a.v) (sym (append-nil a.u))) (omega (arith, a.depth))

folded : {n : Node} {early ps : List Part} {d : ℕ} {w : List Spot} → Rule n early [] → Cut early ps d w → Front (node n ∷ ps) d w
folded rule (within f) = spelling.broken_early rule f
folded rule (beyond p) = spelling.whole rule p.left spelling.nothing p.right (p.tokens ∙ ap (λ (r : List Spot). r ++ p.v) (sym (append-nil p.u))) (omega (arith, p.depth))

pub fold_front : {n : Node} {early ps : List Part} {d : ℕ} {w : List Spot} → Rule n early [] → Front (early ++ ps) d w → Front (node n ∷ ps) d w
fold_front {early = early} {ps = ps} {d = d} {w = w} rule f = folded rule (cut early ps d w f)

-- what the rule puts together stands in the node's place
pub unfold_spelled : {n : Node} {ps : List Part} {e : ℕ} {w : List Spot} (f : FromNode n ps e w) (early : List Part) → f.early ≡ early → f.late ≡ [] → Spells (early ++ ps) e w
unfold_spelled {ps = ps} {e = e} {w = w} f early is none =
    let nothing = from_nothing (subst (λ (qs : List Part). Spells qs f.c2 f.u2) none f.behind) in
    let before : Spells early f.c1 f.u1 = subst (λ (qs : List Part). Spells qs f.c1 f.u1) is f.before in
    let count : counted f.u2 (max f.c1 f.c2) ≡ max f.c1 f.c2 = ap (λ (u : List Spot). counted u (max f.c1 f.c2)) nothing.tokens in
    let tokens : f.u1 ++ f.v ≡ w = sym (f.tokens ∙ ap (λ (u : List Spot). (f.u1 ++ u) ++ f.v) nothing.tokens ∙ ap (λ (u : List Spot). u ++ f.v) (append-nil f.u1)) in
    let depth : max f.c1 f.d ≡ e = omega (arith, f.depth, count, nothing.depth) in
    subst (λ (u : List Spot). Spells (early ++ ps) e u) tokens (subst (λ (d : ℕ). Spells (early ++ ps) d (f.u1 ++ f.v)) depth (join before f.after))

-- ---- parts that stand for others: what is spelled by the ones is spelled by the others

pub record Becomes (ps qs : List Part) : Type 0 where
  pub spelled : (d : ℕ) (w : List Spot) → Spells ps d w → Spells qs d w
  pub front : (d : ℕ) (w : List Spot) → Front ps d w → Front qs d w

pub becomes_node : {n : Node} {early : List Part} (ps : List Part) → Rule n early [] → Becomes (early ++ ps) (node n ∷ ps)
becomes_node ps rule = record { spelled = λ d w sp. fold_spelled rule sp; front = λ d w f. fold_front rule f }

-- a rule with nothing after it
pub becomes_all : {n : Node} {early : List Part} → Rule n early [] → Becomes early (node n ∷ [])
becomes_all {n} {early} rule = record {
  spelled = λ d w sp. fold_spelled rule (subst (λ (ps : List Part). Spells ps d w) (sym (append-nil early)) sp);
  front = λ d w f. fold_front rule (subst (λ (ps : List Part). Front ps d w) (sym (append-nil early)) f);
}

pub becomes_then : {ps qs rs : List Part} → Becomes ps qs → Becomes qs rs → Becomes ps rs
becomes_then b c = record { spelled = λ d w sp. c.spelled d w (b.spelled d w sp); front = λ d w f. c.front d w (b.front d w f) }

pub becomes_same : {ps qs : List Part} → ps ≡ qs → Becomes ps qs
becomes_same e = record { spelled = λ d w sp. subst (λ (ps : List Part). Spells ps d w) e sp; front = λ d w f. subst (λ (ps : List Part). Front ps d w) e f }

under_spelled : {t : Token} {ps qs : List Part} {d : ℕ} {w : List Spot} → Becomes ps qs → Spells (token t ∷ ps) d w → Spells (token t ∷ qs) d w
under_spelled b (spelling.quoted {d = d} {w = w} is sp) = spelling.quoted is (b.spelled d w sp)

under_front : {t : Token} {ps qs : List Part} {d : ℕ} {w : List Spot} → Becomes ps qs → Front (token t ∷ ps) d w → Front (token t ∷ qs) d w
under_front b spelling.lacking = spelling.lacking
under_front b (spelling.quoted {d = d} {w = w} is f) = spelling.quoted is (b.front d w f)

pub becomes_under : {ps qs : List Part} (t : Token) → Becomes ps qs → Becomes (token t ∷ ps) (token t ∷ qs)
becomes_under t b = record { spelled = λ d w sp. under_spelled b sp; front = λ d w f. under_front b f }

-- ---- taken apart again

pub unfold_whole : {n : Node} {early ps : List Part} {c1 c2 d e : ℕ} {u1 u2 v w : List Spot} → Rule n early [] → Spells early c1 u1 → Spells [] c2 u2 → Spells ps d v → w ≡ (u1 ++ u2) ++ v → e ≡ max (counted u2 (max c1 c2)) d
    → Spells (early ++ ps) e w
unfold_whole {n} {early} {ps} {c1} {c2} {d} {e} {u1} {u2} {v} {w} rule before behind after tokens depth =
    let f : FromNode n ps e w = record { early = early; late = []; c1 = c1; c2 = c2; d = d; u1 = u1; u2 = u2; v = v; rule = rule; before = before; behind = behind; after = after; tokens = tokens; depth = depth } in
    unfold_spelled f early refl refl

pub unfold_all : {n : Node} {early : List Part} {c1 c2 d e : ℕ} {u1 u2 v w : List Spot} → Rule n early [] → Spells early c1 u1 → Spells [] c2 u2 → Spells [] d v → w ≡ (u1 ++ u2) ++ v → e ≡ max (counted u2 (max c1 c2)) d
    → Spells early e w
unfold_all {early = early} {e = e} {w = w} rule before behind after tokens depth = subst (λ (ps : List Part). Spells ps e w) (append-nil early) (unfold_whole rule before behind after tokens depth)
