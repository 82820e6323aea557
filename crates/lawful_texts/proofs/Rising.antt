-- The names of the functions that items declare stand in the order of the items.
use Rattle.std.proofs.Common.{◌≡◌, ℕ, suc, ◌+◌, ◌<◌, ◌≤◌, List, [], ◌∷◌, ◌++◌, refl, sym, ap, ◌∙◌, subst, inl, inr, arith}
use Rattle.std.specs.Prelude.{nat_lt}
use Rattle.std.proofs.lemmas.Bool.{cases_Bool}
use Rattle.std.proofs.lemmas.Bool.Decides.{nat_tests}
use Rattle.std.proofs.lemmas.List.{append-nil}
use Rattle.c_lexer.specs.declared.token.Token.{Token}
use Rattle.c_tree.specs.declared.function.Function.{Function}
use Rattle.c_tree.specs.declared.program.Item.{Item}
use Rattle.c_tree.specs.declared.program.Item.TheVariants as items
use Rattle.c_grammar.specs.Grammar.{Rule}
use Rattle.c_grammar.specs.Grammar as rule
use Rattle.c_grammar.specs.Nodes.{Node}
use Rattle.c_grammar.specs.Nodes as a
use Rattle.c_grammar.specs.Parts.{Part, node, each}
use Rattle.c_grammar.specs.Spelling as spelling
use Rattle.c_grammar.specs.Spelling.{Spells}
use Rattle.c_grammar.specs.Spots.{Spot, spot_of, spots_from}
use Rattle.c_grammar.proofs.Sequences.{FromNode, from_node}
use Rattle.lawful_texts.proofs.Noted.{one_at, own}
use Rattle.lawful_texts.proofs.Sites.{count_at, room-is, one-itself, one-apart, one-before}
use Rattle.lawful_texts.proofs.Walk.{Parts, ends, marks, stands, total, Within, walked}

-- from this token on
abbrev pub Rising : ℕ → List Item → Type 0
Rising n [] = Unit {0}
Rising n (items.Objects list ∷ rest) = Rising n rest
Rising n (items.Function g ∷ rest) = (n ≤ g.name.at.tok) × Rising (suc g.name.at.tok) rest
Rising n (items.ExternFlag at ∷ rest) = Rising n rest

rising-less : (m n : ℕ) → m ≤ n → (list : List Item) → Rising n list → Rising m list
rising-less m n less [] all = tt
rising-less m n less (items.Objects list ∷ rest) all = rising-less m n less rest all
rising-less m n less (items.Function g ∷ rest) all = (omega (arith, all.0), all.1)
rising-less m n less (items.ExternFlag at ∷ rest) all = rising-less m n less rest all

-- ---- the name of a function stands in what spells it

abbrev ItemNamed : ℕ → Item → ℕ → Type 0
ItemNamed tok (items.Objects list) k = Unit {0}
ItemNamed tok (items.Function g) k = one_at tok g.name.at.tok ≤ k
ItemNamed tok (items.ExternFlag at) k = Unit {0}

abbrev Claim : ℕ → Node → ℕ → Type 0
Claim tok (a.item x) k = ItemNamed tok x k
Claim tok (a.function g) k = one_at tok g.name.at.tok ≤ k
Claim tok n k = Unit {0}

by_rule : (tok : ℕ) {n : Node} {early late : List Part} {i j : ℕ} → Rule n early late → Parts (Claim tok) (own tok) early i → Parts (Claim tok) (own tok) late j → Claim tok n (i + j)
by_rule tok (rule.extern_flag e) all ends = rw e tt
by_rule tok (rule.extern_int e) all ends = rw e tt
by_rule tok (rule.item_objects e) all ends = rw e tt
by_rule tok (rule.item_function e) (stands f ends) ends = rw e (omega arith)
by_rule tok (rule.function e) (stands given (marks rest)) ends = rw e (omega arith)
by_rule tok other all more = tt

-- ---- tokens one after the other

-- these are all from one number on, and below the next
record Cut (text : List ℕ) (n : ℕ) (u v : List Spot) : Type 0 where
  next : ℕ
  more : List Token
  rest : v ≡ spots_from text next more
  grows : n ≤ next
  below : (tok : ℕ) → tok < n → total (count_at tok) u ≡ 0
  above : (tok : ℕ) → next ≤ tok → total (count_at tok) u ≡ 0

cut : (u : List Spot) (text : List ℕ) (n : ℕ) (list : List Token) (v : List Spot) → spots_from text n list ≡ u ++ v → Cut text n u v
cut [] text n list v is = record { next = n; more = list; rest = sym is; grows = omega arith; below = λ tok less. omega arith; above = λ tok more. omega arith }
cut (x ∷ u) text n [] v is = cc
cut (x ∷ u) text n (t ∷ list) v is =
    let later : spots_from text (suc n) list ≡ u ++ v = cc in
    let first : spot_of text n t ≡ x = cc in
    let at : x.at.tok ≡ n = ap (λ (s : Spot). s.at.tok) (sym first) in
    let c = cut u text (suc n) list v later in record {
      next = c.next;
      more = c.more;
      rest = c.rest;
      grows = omega (arith, c.grows);
      below = λ tok less. omega (arith, one-apart tok x.at.tok (omega arith), c.below tok (omega arith));
      above = λ tok most. omega (arith, one-before tok x.at.tok (omega (arith, c.grows)), c.above tok most);
    }

-- what an item is spelled by has its name in it
named-within : (g : Function) (x : Item) {rest : List Part} {d : ℕ} {w : List Spot} (f : FromNode (a.item x) rest d w) → x ≡ items.Function g → 1 ≤ total (count_at g.name.at.tok) (f.u1 ++ f.u2)
named-within g x f same =
    let tok : ℕ = g.name.at.tok in
    let whole : Spells (node (a.item x) ∷ []) _ (f.u1 ++ f.u2) = spelling.whole f.rule f.before f.behind spelling.nothing (sym (append-nil (f.u1 ++ f.u2))) refl in
    let w : Within (Claim tok) (own tok) (node (a.item x) ∷ []) (total (count_at tok) (f.u1 ++ f.u2)) = walked (Claim tok) (own tok) (count_at tok) (room-is tok) (λ n early late i j r p q. by_rule tok r p q) whole in
    omega (arith, named tok g x w.all same, w.within, one-itself tok g.name.at.tok refl)
  where
    named : (tok : ℕ) (g : Function) (x : Item) {k : ℕ} → Parts (Claim tok) (own tok) (node (a.item x) ∷ []) k → x ≡ items.Function g → one_at tok g.name.at.tok ≤ k
    named tok g x (stands {i = i} one ends) same = let there : ItemNamed tok (items.Function g) i = subst (λ (y : Item). ItemNamed tok y i) same one in omega arith

item-rises : (n next : ℕ) → n ≤ next → (x : Item) (list : List Item) → ((g : Function) → x ≡ items.Function g → (n ≤ g.name.at.tok) × (suc g.name.at.tok ≤ next)) → Rising next list → Rising n (x ∷ list)
item-rises n next grows (items.Objects o) list named all = rising-less n next grows list all
item-rises n next grows (items.Function g) list named all = let p = named g refl in (p.0, rising-less (suc g.name.at.tok) next p.1 list all)
item-rises n next grows (items.ExternFlag at) list named all = rising-less n next grows list all

at-least : (a b : ℕ) → (a < b → ⊥) → b ≤ a
at-least a b never =
    elim (cases_Bool (nat_lt a b)) [
      | inl is ↦ absurd (never (grind (arith, nat_tests)))
      | inr is ↦ grind (arith, nat_tests)
    ]

pub rising : (list : List Item) (text : List ℕ) (n : ℕ) (tokens : List Token) {d : ℕ} {w : List Spot} → Spells (each a.item list) d w → w ≡ spots_from text n tokens → Rising n list
rising [] text n tokens s is = tt
rising (x ∷ list) text n tokens s is =
    let f = from_node s in
    let c = cut (f.u1 ++ f.u2) text n tokens f.v (sym is ∙ f.tokens) in
    item-rises n c.next c.grows x list (λ g same. between g f c same) (rising list text c.next c.more f.after c.rest)
  where
    between : (g : Function) {x : Item} {rest : List Part} {d : ℕ} {w : List Spot} {text : List ℕ} {n : ℕ} (f : FromNode (a.item x) rest d w) (c : Cut text n (f.u1 ++ f.u2) f.v) → x ≡ items.Function g → (n ≤ g.name.at.tok) × (suc g.name.at.tok ≤ c.next)
    between g {x} {rest} {d} {w} f c same =
        let some : 1 ≤ total (count_at g.name.at.tok) (f.u1 ++ f.u2) = named-within g x f same in
        (at-least g.name.at.tok _ (λ less. omega (arith, c.below g.name.at.tok less)), at-least c.next (suc g.name.at.tok) (λ less. omega (arith, c.above g.name.at.tok (omega arith))))
