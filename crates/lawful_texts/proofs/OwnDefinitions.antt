-- The names in no two definitions of a source stand at one token: each stands after those before it.
use Rattle.std.proofs.Common.{◌≡◌, ℕ, zero, suc, ◌+◌, ◌<◌, ◌≤◌, ◌⊎◌, List, [], ◌∷◌, ◌++◌, Bool, true, false, map, length, refl, sym, ap, ◌∙◌, subst, inl, inr, arith}
use Rattle.std.specs.Prelude.{if◌then◌else◌, nat_lt, Option, Some, None, slice_get, slice_set}
use Rattle.std.proofs.lemmas.List.{map-append, map-set}
use Rattle.std.proofs.lemmas.Option.{none-some}
use Rattle.c_tree.specs.declared.function.Function.{Function}
use Rattle.c_tree.specs.declared.program.Item.{Item}
use Rattle.c_tree.specs.declared.program.Item.TheVariants as items_of
use Rattle.c_tree.specs.declared.statement.Block.{Block}
use Rattle.c_typed.specs.declared.typed.TypedFunction.{TypedFunction}
use Rattle.tied_names.specs.Ties.{tie_of}
use Rattle.c_types.specs.Sources.{Source, function_number, functions_or, declared, defined, number_of, parameters_of, body_of, after_declaration, after_body, after_function, after_item, after_items}
use Rattle.lawful_sources.specs.Lawful.{StandsOnce, definition_token}
use Rattle.lawful_names.proofs.Sources.{start_of}
use Rattle.lawful_texts.specs.Laws.{DefinitionsDiffer}
use Rattle.lawful_texts.proofs.Rising.{Rising, rising}

-- these tokens of definitions stand before one, and each of them once
record Apart (n : ℕ) (tokens : List (Option ℕ)) : Type 0 where
  below : (k token : ℕ) → slice_get tokens k ≡ Some (Some token) → token < n
  once : (token : ℕ) → StandsOnce tokens (Some token)

apart-more : (m n : ℕ) (tokens : List (Option ℕ)) → m ≤ n → Apart m tokens → Apart n tokens
apart-more m n tokens less a = record { below = λ k token p. let own : token < m = a.below k token p in omega arith; once = a.once }

-- ---- a declaration has none

before-none : (tokens : List (Option ℕ)) (k token : ℕ) → slice_get (tokens ++ None ∷ []) k ≡ Some (Some token) → slice_get tokens k ≡ Some (Some token)
before-none [] zero token p = cc
before-none [] (suc k) token p = p
before-none (t ∷ tokens) zero token p = p
before-none (t ∷ tokens) (suc k) token p = before-none tokens k token p

declared-apart : (n : ℕ) (known : Option ℕ) (functions : List TypedFunction) (g : Function) → Apart n (map definition_token functions) → Apart n (map definition_token (functions_or known functions g))
declared-apart n (Some number) functions g a = a
declared-apart n None functions g a = subst (Apart n) (sym (map-append definition_token functions (declared g ∷ []))) (record {
  below = λ k token p. a.below k token (before-none _ k token p);
  once = λ token one other p q. a.once token one other (before-none _ one token p) (before-none _ other token q);
})

-- ---- a definition has one that stands after all before

set-or-before : (tokens : List (Option ℕ)) (k own i token : ℕ) → slice_get (slice_set tokens k (Some own)) i ≡ Some (Some token) → ((own ≡ token) × (i ≡ k)) ⊎ (slice_get tokens i ≡ Some (Some token))
set-or-before [] k own i token p = absurd (none-some (Some token) p)
set-or-before (t ∷ tokens) zero own zero token p = inl (cc, refl)
set-or-before (t ∷ tokens) zero own (suc i) token p = inr p
set-or-before (t ∷ tokens) (suc k) own zero token p = inr p
set-or-before (t ∷ tokens) (suc k) own (suc i) token p = elim (set-or-before tokens k own i token p) [
  | inl new ↦ inl (new.0, ap suc new.1)
  | inr old ↦ inr old
]

set-apart : (n : ℕ) (tokens : List (Option ℕ)) (k own : ℕ) → n ≤ own → Apart n tokens → Apart (suc own) (slice_set tokens k (Some own))
set-apart n tokens k own more a = record {
  below = λ i token p. elim (set-or-before tokens k own i token p) [
    | inl new ↦ let same : own ≡ token = new.0 in omega arith
    | inr old ↦ let less : token < n = a.below i token old in omega arith
  ];
  once = λ token one other p q. elim (set-or-before tokens k own one token p) [
    | inl new ↦ elim (set-or-before tokens k own other token q) [
      | inl also ↦ new.1 ∙ sym also.1
      | inr old ↦ absurd (let same : own ≡ token = new.0 in let less : token < n = a.below other token old in omega arith)
    ]
    | inr old ↦ elim (set-or-before tokens k own other token q) [
      | inl new ↦ absurd (let same : own ≡ token = new.0 in let less : token < n = a.below one token old in omega arith)
      | inr also ↦ a.once token one other old also
    ]
  ];
}

defined-apart : (test : Bool) (n : ℕ) (functions : List TypedFunction) (k own : ℕ) (f : TypedFunction) → definition_token f ≡ Some own → n ≤ own → Apart n (map definition_token functions)
    → Apart (suc own) (map definition_token (if test then slice_set functions k f else functions))
defined-apart true n functions k own f is more a =
    subst (Apart (suc own)) (sym (map-set definition_token functions k f ∙ ap (slice_set (map definition_token functions) k) is)) (set-apart n (map definition_token functions) k own more a)
defined-apart false n functions k own f is more a = apart-more n (suc own) (map definition_token functions) (omega arith) a

-- ---- item by item

body-apart : (s : Source) (number n : ℕ) (g : Function) (body : Option Block) → n ≤ g.name.at.tok → Apart n (map definition_token s.functions) → Apart (suc g.name.at.tok) (map definition_token (after_body s number g body).functions)
body-apart s number n g None more a = apart-more n (suc g.name.at.tok) (map definition_token s.functions) (omega arith) a
body-apart s number n g (Some body) more a = defined-apart (nat_lt number (length s.functions)) n s.functions number g.name.at.tok (defined g (parameters_of s.here number g.params).numbers (body_of s number g body).value) refl more a

items-apart : (s : Source) (item : ℕ) (list : List Item) (n : ℕ) → Rising n list → Apart n (map definition_token s.functions) → (token : ℕ) → StandsOnce (map definition_token (after_items s item list).functions) (Some token)
items-apart s item [] n rises a = a.once
items-apart s item (items_of.Objects o ∷ rest) n rises a = items-apart (after_item s item (items_of.Objects o)) (item + 1) rest n rises a
items-apart s item (items_of.Function g ∷ rest) n rises a =
    items-apart (after_function s item g) (item + 1) rest (suc g.name.at.tok) rises.1
    (body-apart (after_declaration s item g) (number_of s g) n g g.body rises.0 (declared-apart n (function_number (tie_of s.here g.name.name)) s.functions g a))
items-apart s item (items_of.ExternFlag at ∷ rest) n rises a = items-apart s (item + 1) rest n rises a

pub definitions-differ : DefinitionsDiffer
definitions-differ program tokens typed spells tied token =
    subst (λ (l : List TypedFunction). StandsOnce (map definition_token l) (Some token)) (sym tied.functions)
    (items-apart (start_of program typed) 0 program.items 0 (rising program.items tokens.text 0 tokens.list spells.items.spelled refl)
    (record { below = λ k t p. absurd (none-some (Some t) p); once = λ t one other p. absurd (none-some (Some t) p) }) token)
