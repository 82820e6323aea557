-- Schemes of rules: what stands in a rule, and the part of the tree that is put together from it.
use Rattle.std.proofs.Common.{◌≡◌, ℕ, ℤ, pos, List, [], ◌∷◌, ◌++◌, ◌⊎◌, inl, inr, refl, ap, subst, ◌∙◌, sym}
use Rattle.std.proofs.lemmas.List.{append_assoc, append-nil}
use Rattle.sat_base.specs.declared.name.At.{At}
use Rattle.sat_base.specs.declared.name.Named.{Named}
use Rattle.c_grammar.specs.declared.symbol.Symbol.{Symbol}
use Rattle.c_grammar.specs.declared.symbol.Symbol.TheVariants as symbol
use Rattle.c_grammar.specs.Grammar.{Rule}
use Rattle.c_grammar.specs.Parts.{Token, Any, Kept, Called, Valued, Part, token, node, Is, each, followed, separated}
use Rattle.c_grammar.specs.Spelling as spelling
use Rattle.c_grammar.specs.Spots.{Spot}
use Rattle.c_grammar.proofs.Begun.{Spelled, Begun, After, Completed, GoesOn, by_rule, joined, spelled_nothing, completed, from_nothing, begun_split, goes_then, lacking, quoted, whole, broken}
use Rattle.c_grammar.proofs.Sequences.{split}
use Rattle.c_grammar.proofs.Shapes.{Kind, Tree, node_of, Slot, Values, parts_of, slot_parts}
use Rattle.c_grammar.proofs.Shapes as k

abbrev pub nowhere : At
nowhere = record { tok = 0; pos = record { line = 1; col = 1 } }

abbrev pub no_name : Named
no_name = record { at = nowhere; name = [] }

-- a token as it is wanted
abbrev spot_as : Token → Spot
spot_as (Any s) = record { at = nowhere; symbol = s; name = []; value = pos 0 }
spot_as (Kept s at) = record { at = at; symbol = s; name = []; value = pos 0 }
spot_as (Called name) = record { at = name.at; symbol = symbol.Name; name = name.name; value = pos 0 }
spot_as (Valued at v) = record { at = at; symbol = symbol.Int; name = []; value = v }

as-wanted : (t : Token) → Is t (spot_as t)
as-wanted (Any s) = refl
as-wanted (Kept s at) = (refl, refl)
as-wanted (Called name) = (refl, refl, refl)
as-wanted (Valued at v) = (refl, refl, refl)

abbrev pub tree_parts : (kind : Kind) → Tree kind → List Part
tree_parts kind x = node (node_of kind x) ∷ []

-- ---- of each slot there is something that tokens spell, where there is of each kind

abbrev token_parts : {A : Type 0} → (A → Token) → A → List Part
token_parts of x = token (of x) ∷ []

some_token : {A : Type 0} (of : A → Token) (x : A) → Completed (token_parts of) []
some_token of x = record { it = x; more = spot_as (of x) ∷ []; spelled = record { depth = 0; spelled = spelling.quoted (as-wanted (of x)) spelling.nothing } }

abbrev any_token : Symbol → Unit {0} → Token
any_token s u = Any s

pub record Something (s : Slot) : Type 0 where
  pub there : Completed (slot_parts s) []

pub some_quoted : (s : Symbol) → Something (k.quoted s)
some_quoted s = record { there = some_token (any_token s) tt }

pub some_held : (s : Symbol) → Something (k.held s)
some_held s = record { there = some_token (Kept s) nowhere }

pub some_name : Something k.name
some_name = record { there = some_token Called no_name }

pub some_number : Something k.number
some_number = record { there = some_token (λ (x : At × ℤ). Valued x.0 x.1) (nowhere, pos 0) }

pub some_tree : (kind : Kind) → Completed (tree_parts kind) [] → Something (k.tree kind)
some_tree kind some = record { there = some }

pub some_listed : (kind : Kind) → Completed (tree_parts kind) [] → Something (k.listed kind)
some_listed kind some = record { there = record { it = (some.it, []); more = some.more; spelled = some.spelled } }

module _ (some : (kind : Kind) → Completed (tree_parts kind) []) where
  some_slot : (s : Slot) → Something s
  some_slot (k.quoted s) = some_quoted s
  some_slot (k.held s) = some_held s
  some_slot k.name = some_name
  some_slot k.number = some_number
  some_slot (k.tree kind) = some_tree kind (some kind)
  some_slot (k.many kind) = record { there = record { it = []; more = []; spelled = spelled_nothing } }
  some_slot (k.listed kind) = some_listed kind (some kind)

pub record SomeOf (ss : List Slot) : Type 0 where
  pub all : Completed (parts_of ss) []

pub nothing : SomeOf []
nothing = record { all = record { it = tt; more = []; spelled = spelled_nothing } }

pub one_more : {s : Slot} {ss : List Slot} → Something s → SomeOf ss → SomeOf (s ∷ ss)
one_more x y = record { all = record { it = (x.there.it, y.all.it); more = x.there.more ++ y.all.more; spelled = joined x.there.spelled y.all.spelled } }

pub some_slots : ((kind : Kind) → Completed (tree_parts kind) []) → (ss : List Slot) → SomeOf ss
some_slots some [] = nothing
some_slots some (s ∷ ss) = one_more (some_slot some s) (some_slots some ss)

-- ---- what is begun goes on, where parts of the tree do

pub begun_nothing : {h : ℕ} {ps : List Part} {w : List Spot} → Begun h ps w → ps ≡ [] → w ≡ []
begun_nothing lacking e = refl
begun_nothing (quoted is b) e = cc
begun_nothing (whole x b f) e = cc
begun_nothing (broken rule b) e = cc

one_token : {h : ℕ} {t : Token} {ps : List Part} {w : List Spot} → Begun h (token t ∷ ps) w → ps ≡ [] → (w ≡ []) ⊎ Spelled (token t ∷ []) w
one_token lacking e = inl refl
one_token {t = t} (quoted {x = x} is b) e =
    inr (subst (λ (r : List Spot). Spelled (token t ∷ []) (x ∷ r)) (sym (begun_nothing b e)) (record { depth = 0; spelled = spelling.quoted is spelling.nothing }))

token_goes : {A : Type 0} {h : ℕ} (of : A → Token) → GoesOn h (token_parts of)
token_goes {A} of x w b = pick (one_token b refl)
  where
    pick : (w ≡ []) ⊎ Spelled (token (of x) ∷ []) w → Completed (token_parts of) w
    pick (inl e) = from_nothing (token_parts of) e (some_token of x)
    pick (inr s) = completed (token_parts of) x s

module _ (h : ℕ) (some : (kind : Kind) → Completed (tree_parts kind) []) (again : (kind : Kind) → GoesOn h (tree_parts kind)) where
  pub each_goes : (kind : Kind) → GoesOn h (each (node_of kind))
  each_goes kind [] w b = from_nothing (each (node_of kind)) (begun_nothing b refl) (record { it = []; more = []; spelled = spelled_nothing })
  each_goes kind (x ∷ xs) w b = pick (each_goes kind xs) (begun_split (tree_parts kind x) (each (node_of kind) xs) b)
    where
      pick : ((v : List Spot) → Begun h (each (node_of kind) xs) v → Completed (each (node_of kind)) v)
          → Begun h (tree_parts kind x) w ⊎ After h (tree_parts kind x) (each (node_of kind) xs) w → Completed (each (node_of kind)) w
      pick others (inl b) = let c = again kind x w b in record { it = c.it ∷ []; more = c.more; spelled = c.spelled }
      pick others (inr y) =
          let c = others y.v y.second in
          record { it = x ∷ c.it; more = c.more; spelled = subst (Spelled (each (node_of kind) (x ∷ c.it))) (sym (append_assoc y.u y.v c.more) ∙ ap (λ (r : List Spot). r ++ c.more) (sym y.tokens)) (joined y.first c.spelled) }

  abbrev next_parts : (kind : Kind) → Tree kind → List Part
  next_parts kind x = token (Any symbol.Comma) ∷ tree_parts kind x

  next_goes : (kind : Kind) → GoesOn h (next_parts kind)
  next_goes kind x w b = pick (begun_split (token (Any symbol.Comma) ∷ []) (tree_parts kind x) b)
    where
      pick : Begun h (token (Any symbol.Comma) ∷ []) w ⊎ After h (token (Any symbol.Comma) ∷ []) (tree_parts kind x) w → Completed (next_parts kind) w
      pick (inl b) =
          let c = token_goes (any_token symbol.Comma) tt w b in let d = some kind in
          record { it = d.it; more = c.more ++ d.more; spelled = subst (Spelled (next_parts kind d.it)) (append_assoc w c.more d.more) (joined c.spelled d.spelled) }
      pick (inr y) =
          let c = again kind x y.v y.second in
          record { it = c.it; more = c.more; spelled = subst (Spelled (next_parts kind c.it)) (sym (append_assoc y.u y.v c.more) ∙ ap (λ (r : List Spot). r ++ c.more) (sym y.tokens)) (joined y.first c.spelled) }

  followed_goes : (kind : Kind) → GoesOn h (followed (node_of kind))
  followed_goes kind [] w b = from_nothing (followed (node_of kind)) (begun_nothing b refl) (record { it = []; more = []; spelled = spelled_nothing })
  followed_goes kind (x ∷ xs) w b = pick (followed_goes kind xs) (begun_split (next_parts kind x) (followed (node_of kind) xs) b)
    where
      pick : ((v : List Spot) → Begun h (followed (node_of kind) xs) v → Completed (followed (node_of kind)) v)
          → Begun h (next_parts kind x) w ⊎ After h (next_parts kind x) (followed (node_of kind) xs) w → Completed (followed (node_of kind)) w
      pick others (inl b) = let c = next_goes kind x w b in record { it = c.it ∷ []; more = c.more; spelled = c.spelled }
      pick others (inr y) =
          let c = others y.v y.second in
          record { it = x ∷ c.it; more = c.more; spelled = subst (Spelled (followed (node_of kind) (x ∷ c.it))) (sym (append_assoc y.u y.v c.more) ∙ ap (λ (r : List Spot). r ++ c.more) (sym y.tokens)) (joined y.first c.spelled) }

  slot_goes : (s : Slot) → GoesOn h (slot_parts s)
  slot_goes (k.quoted s) = token_goes (any_token s)
  slot_goes (k.held s) = token_goes (Kept s)
  slot_goes k.name = token_goes Called
  slot_goes k.number = token_goes (λ (x : At × ℤ). Valued x.0 x.1)
  slot_goes (k.tree kind) = again kind
  slot_goes (k.many kind) = each_goes kind
  slot_goes (k.listed kind) =
      goes_then {B = λ x. List (Tree kind)} (tree_parts kind) (λ x. followed (node_of kind)) (again kind) (λ x. followed_goes kind) (λ x. record { it = []; more = []; spelled = spelled_nothing })

  pub slots_go : (ss : List Slot) → GoesOn h (parts_of ss)
  slots_go [] x w b = from_nothing (parts_of []) (begun_nothing b refl) nothing.all
  slots_go (s ∷ ss) x w b = goes_then {B = λ x. Values ss} (slot_parts s) (λ x. parts_of ss) (slot_goes s) (λ x. slots_go ss) (λ x. (some_slots some ss).all) x w b

-- ---- schemes

pub record Scheme (kind : Kind) : Type 0 where
  pub early : List Slot
  pub late : List Slot
  pub made : Values early → Values late → Tree kind
  pub rule : (x : Values early) (y : Values late) → Rule (node_of kind (made x y)) (parts_of early x) (parts_of late y)

-- all stands early in the rule, or all late
abbrev pub early : (kind : Kind) (ss : List Slot) (made : Values ss → Tree kind) → ((x : Values ss) → Rule (node_of kind (made x)) (parts_of ss x) []) → Scheme kind
early kind ss made rule = record { early = ss; late = []; made = λ x y. made x; rule = λ x y. rule x }

abbrev pub late : (kind : Kind) (ss : List Slot) (made : Values ss → Tree kind) → ((x : Values ss) → Rule (node_of kind (made x)) [] (parts_of ss x)) → Scheme kind
late kind ss made rule = record { early = []; late = ss; made = λ x y. made y; rule = λ x y. rule y }

-- nodes with commas between them, and nothing else
abbrev pub listed_only : (kind part : Kind) (made : Tree part × List (Tree part) → Tree kind) → ((x : Tree part × List (Tree part)) → Rule (node_of kind (made x)) (separated (node_of part) x.0 x.1) []) → Scheme kind
listed_only kind part made rule =
    early kind (k.listed part ∷ []) (λ v. made v.0)
    (λ v. subst (λ (ps : List Part). Rule (node_of kind (made v.0)) ps []) (sym (append-nil (separated (node_of part) v.0.0 v.0.1))) (rule v.0))

abbrev pub scheme_parts : {kind : Kind} (s : Scheme kind) → Values s.early × Values s.late → List Part
scheme_parts s x = parts_of s.early x.0 ++ parts_of s.late x.1

pub made_so : {kind : Kind} (s : Scheme kind) {w : List Spot} → Completed (scheme_parts s) w → Completed (tree_parts kind) w
made_so {kind} s {w} c =
    let p = split (parts_of s.early c.it.0) (parts_of s.late c.it.1) c.spelled.spelled in
    let x : Spelled (parts_of s.early c.it.0) p.u = record { depth = p.c; spelled = p.left } in
    let y : Spelled (parts_of s.late c.it.1) p.v = record { depth = p.d; spelled = p.right } in
    record { it = s.made c.it.0 c.it.1; more = c.more; spelled = subst (Spelled (tree_parts kind (s.made c.it.0 c.it.1))) (sym p.tokens) (by_rule (s.rule c.it.0 c.it.1) x y) }

pub some_so : {kind : Kind} (s : Scheme kind) → SomeOf s.early → SomeOf s.late → Completed (tree_parts kind) []
some_so s x y = made_so s (record { it = (x.all.it, y.all.it); more = x.all.more ++ y.all.more; spelled = joined x.all.spelled y.all.spelled })

module _ (h : ℕ) (some : (kind : Kind) → Completed (tree_parts kind) []) (again : (kind : Kind) → GoesOn h (tree_parts kind)) where
  pub goes_so : {kind : Kind} (s : Scheme kind) (x : Values s.early) (y : Values s.late) {w : List Spot} → Begun h (parts_of s.early x ++ parts_of s.late y) w → Completed (tree_parts kind) w
  goes_so s x y {w} b =
      made_so s
      (goes_then {B = λ x. Values s.late} (parts_of s.early) (λ x. parts_of s.late) (slots_go h some again s.early) (λ x. slots_go h some again s.late) (λ x. (some_slots some s.late).all) (x, y) w b)

  pub listed_goes : (kind part : Kind) (made : Tree part × List (Tree part) → Tree kind) (rule : (x : Tree part × List (Tree part)) → Rule (node_of kind (made x)) (separated (node_of part) x.0 x.1) [])
      → (x : Tree part) (xs : List (Tree part)) {w : List Spot} → Begun h (separated (node_of part) x xs ++ []) w → Completed (tree_parts kind) w
  listed_goes kind part made rule x xs {w} b =
      goes_so (listed_only kind part made rule) ((x, xs), tt) tt (subst (λ (ps : List Part). Begun h (ps ++ []) w) (sym (append-nil (separated (node_of part) x xs))) b)
