-- Reading items, and lists of them.
use Rattle.std.proofs.Common.{◌≡◌, ◌≢◌, ℕ, suc, Bool, true, false, List, [], ◌∷◌, ◌++◌, length, Some, refl, ap, subst, ◌∙◌, sym, arith}
use Rattle.std.proofs.lemmas.List.{append_assoc}
use Rattle.std.specs.Prelude.{not, Result, Ok}
use Rattle.sat_base.specs.declared.name.At.{At}
use Rattle.c_tree.specs.declared.program.Item.{Item}
use Rattle.c_tree.specs.declared.program.Item.TheVariants as item
use Rattle.c_tree.specs.declared.statement.Block.{Block}
use Rattle.c_grammar.specs.declared.symbol.Symbol.{Symbol}
use Rattle.c_grammar.specs.declared.symbol.Symbol.TheVariants as symbol
use Rattle.c_grammar.specs.Grammar.{Rule}
use Rattle.c_grammar.specs.Grammar as rule
use Rattle.right_reading.specs.Lists.{many}
use Rattle.c_grammar.specs.Nodes as a
use Rattle.c_grammar.specs.Parts.{Part, node, word, kept, each}
use Rattle.right_reading.specs.ReadDeclarations.{word_at, qualifiers_at}
use Rattle.right_reading.specs.ReadSource.{flag_type_at, extern_flag_at, qualified_item_at, item_at, before_end, items_at}
use Rattle.c_grammar.specs.Spelling.{Spells}
use Rattle.c_grammar.specs.Spots.{Spot}
use Rattle.right_reading.specs.Stream.{ahead, Fault, Parser, both, take_at}
use Rattle.c_grammar.specs.Symbols.{same_symbol, begins_objects}
use Rattle.right_reading.proofs.Composed.Alternatives.{by_seen, alternative, nothing_right, word_right, after_word, ends_after, ahead_is}
use Rattle.right_reading.proofs.Ahead.Begins.{begins_function, begins_item, spells_starts, wrong}
use Rattle.right_reading.proofs.Composed.Dependent.{then_right, then_read, seen_by}
use Rattle.item_reading.proofs.Items.ItemKinds.{read_item, parts_right}
use Rattle.item_reading.proofs.Items.ItemModel.{item_is}
use Rattle.item_reading.proofs.Items.ItemParts.{item_seen}
use Rattle.right_reading.proofs.Lists.Many.{front_of, one_and_many, many_right}
use Rattle.right_reading.specs.Right.{first, Ends, Stops, Right, always, Reads}
use Rattle.right_reading.specs.RightExpressions.{RightExpressions}
use Rattle.right_reading.proofs.Composed.Rules.{Chosen, no_parts, early_seen}
use Rattle.c_grammar.proofs.Sequences.{from_nothing}
use Rattle.c_grammar.proofs.SymbolSets.{among}
use Rattle.right_reading.proofs.Composed.Steps.{Right-both}
use Rattle.c_grammar.proofs.SymbolNumbers.{same-is, other-is}
use Rattle.right_reading.proofs.OneToken.Tokens.{Right-if, take_right, ahead-same}

-- ---- the flag

abbrev flag_parts : Bool → List Part
flag_parts true = word symbol.Flag ∷ []
flag_parts false = word symbol.IntWord ∷ []

flag_right : (n : ℕ) → Reads flag_parts n always flag_type_at
flag_right n [] ends = absurd ends
flag_right n (c ∷ cs) ends =
    Right-if flag_parts n always [] (c ∷ cs) (same_symbol c.symbol symbol.Flag) (Ok (true, cs)) (seen_by (λ (u : Unit {0}). false) (word_at symbol.IntWord (c ∷ cs)))
    (λ e. flag (same-is c.symbol symbol.Flag e))
    (λ e. by_seen (alternative flag_parts n always [] (c ∷ cs) (λ (u : Unit {0}). false) (other (other-is c.symbol symbol.Flag e))) (word_at symbol.IntWord (c ∷ cs)) (word_right symbol.IntWord (λ g. cc) n (c ∷ cs) ends))
  where
    flag : c.symbol ≡ symbol.Flag → Right flag_parts n always [] (c ∷ cs) (Ok (true, cs))
    flag is =
        by_seen (alternative flag_parts n always [] (c ∷ cs) (λ (u : Unit {0}). true) which) (Ok (tt, cs))
        (after_word symbol.Flag (λ g. cc) (λ (u : Unit {0}). []) n always c cs is ends (Ok (tt, cs))
        (nothing_right (λ (u : Unit {0}). []) n always cs tt (ends_after c cs is (λ g. cc) ends) refl (λ x d v t r sp st e h. (refl, (from_nothing sp).tokens))))
      where
        which : (b : Bool) (d : ℕ) (v t r : List Spot) → Spells (flag_parts b) d v → Stops always b t → v ++ t ≡ r → first r ≡ Some c → (u : Unit {0}) × (b ≡ true)
        which true d v t r sp st e h = (tt, refl)
        which false d v t r sp st e h = let g : symbol.Flag ≡ symbol.IntWord = sym is ∙ ahead_is t r (c ∷ cs) sp e h in absurd (cc)

    other : c.symbol ≢ symbol.Flag → (b : Bool) (d : ℕ) (v t r : List Spot) → Spells (flag_parts b) d v → Stops always b t → v ++ t ≡ r → first r ≡ Some c → (u : Unit {0}) × (b ≡ false)
    other ne true d v t r sp st e h = absurd (ne (ahead_is t r (c ∷ cs) sp e h))
    other ne false d v t r sp st e h = (tt, refl)

abbrev Extern : Type 0
Extern = At × (Bool × (Unit {0} × Unit {0}))

abbrev extern_parts : Extern → List Part
extern_parts x = kept symbol.Extern x.0 ∷ flag_parts x.1.0 ++ word symbol.Overflow ∷ word symbol.Semicolon ∷ []

abbrev extern_item : Extern → Item
extern_item x = item.ExternFlag x.0

abbrev extern_end : Unit {0} × Unit {0} → List Part
extern_end x = word symbol.Overflow ∷ word symbol.Semicolon ∷ []

abbrev extern_rest : Bool × (Unit {0} × Unit {0}) → List Part
extern_rest x = flag_parts x.0 ++ word symbol.Overflow ∷ word symbol.Semicolon ∷ []

extern_right : (n : ℕ) (i : List Spot) → Ends i → ahead i ≡ symbol.Extern → Right (λ (x : Item). node (a.item x) ∷ []) n always [] i (extern_flag_at i)
unfolding extern_flag_at
extern_right n i ends is =
    by_seen (early_seen a.item extern_parts n always always [] i extern_item by_rule which)
    (both (take_at symbol.Extern) (both flag_type_at (both (word_at symbol.Overflow) (word_at symbol.Semicolon))) i)
    (Right-both (λ (at : At). kept symbol.Extern at ∷ []) extern_rest n always always (λ x y c v s sp st. refl) (true, (tt, tt)) (take_at symbol.Extern) (both flag_type_at (both (word_at symbol.Overflow) (word_at symbol.Semicolon))) [] i
    (take_right symbol.Extern (λ g. cc) n i ends)
    (λ j more. Right-both flag_parts extern_end n always always (λ x y c v s sp st. refl) (tt, tt) flag_type_at (both (word_at symbol.Overflow) (word_at symbol.Semicolon)) [] j (flag_right n j more)
    (λ k more. Right-both (λ (u : Unit {0}). word symbol.Overflow ∷ []) (λ (u : Unit {0}). word symbol.Semicolon ∷ []) n always always (λ x y c v s sp st. refl) tt (word_at symbol.Overflow) (word_at symbol.Semicolon) [] k
    (word_right symbol.Overflow (λ g. cc) n k more) (word_right symbol.Semicolon (λ g. cc) n))))
  where
    by_rule : (x : Extern) → Rule (a.item (extern_item x)) (extern_parts x) []
    by_rule (at, (true, x)) = rule.extern_flag refl
    by_rule (at, (false, x)) = rule.extern_int refl

    which : (x : Item) (early late : List Part) (c1 c2 : ℕ) (u1 u2 s r : List Spot) → Rule (a.item x) early late → Spells early c1 u1 → Spells late c2 u2 → Stops always x s
        → (u1 ++ u2) ++ s ≡ r → first r ≡ first i → Chosen extern_parts no_parts always extern_item x early late s
    which x early late c1 c2 u1 u2 s r (rule.extern_flag {at = at} e) sp sq st eq h = record { a = (at, (true, (tt, tt))); same = e; is_early = refl; is_late = refl; stops = refl }
    which x early late c1 c2 u1 u2 s r (rule.extern_int {at = at} e) sp sq st eq h = record { a = (at, (false, (tt, tt))); same = e; is_early = refl; is_late = refl; stops = refl }
    which x early late c1 c2 u1 u2 s r (rule.item_objects e) sp sq st eq h =
        absurd (wrong begins_objects (ahead (u1 ++ (u2 ++ s))) symbol.Extern (spells_starts (u2 ++ s) sp) (ap ahead (sym (append_assoc u1 u2 s)) ∙ ap ahead eq ∙ ahead-same r i h ∙ is) refl)
    which x early late c1 c2 u1 u2 s r (rule.item_function e) sp sq st eq h =
        absurd (wrong begins_function (ahead (u1 ++ (u2 ++ s))) symbol.Extern (spells_starts (u2 ++ s) sp) (ap ahead (sym (append_assoc u1 u2 s)) ∙ ap ahead eq ∙ ahead-same r i h ∙ is) refl)

-- ---- the list

-- the end follows
abbrev is_end : Symbol → Bool
is_end s = same_symbol s symbol.End

-- the first item, and those that follow
abbrev pub read_items : Parser Block → ℕ → List Spot → Result ((Item × List Item) × List Spot) Fault
read_items block n i = then_read {B = λ x. List Item} (item_at block n i) (λ x j. many before_end (item_at block n) (suc (length j)) [] j)

pub items_are : (block : Parser Block) (n : ℕ) (i : List Spot) → items_at block n i ≡ seen_by front_of (read_items block n i)
unfolding items_at
items_are block n i = one_and_many before_end (item_at block n) (λ j. suc (length j)) (item_at block n i)

end_apart : (s : Symbol) → before_end s ≡ true → is_end s ≡ true → ⊥
end_apart s e f = let g : before_end s ≡ false = ap not f in cc (e, g)

item_begins : (x : Item) (c : ℕ) (v s : List Spot) → Spells (node (a.item x) ∷ []) c v → before_end (ahead (v ++ s)) ≡ true
item_begins x c v s sp = among begins_item before_end refl (ahead (v ++ s)) (spells_starts s sp)

pub item_filled : (x : Item) (c : ℕ) → Spells (node (a.item x) ∷ []) c [] → ⊥
item_filled x c sp = wrong begins_item symbol.End symbol.End (spells_starts [] sp) refl refl

module _ (n : ℕ) (block : Parser Block)
    (block_right : Reads (λ (b : Block). node (a.block b) ∷ []) n always block)
    (right : RightExpressions n) where
  pub item_right : Reads (λ (x : Item). node (a.item x) ∷ []) n always (item_at block n)
  unfolding item_at
  item_right i ends =
      Right-if (λ (x : Item). node (a.item x) ∷ []) n always [] i (same_symbol (ahead i) symbol.Extern) (extern_flag_at i) (qualified_item_at block n (qualifiers_at i).0 (qualifiers_at i).1)
      (λ e. extern_right n i ends (same-is (ahead i) symbol.Extern e))
      (λ e. subst (Right (λ (x : Item). node (a.item x) ∷ []) n always [] i) (sym (item_is block n i))
      (by_seen (item_seen n i (λ r h f. other-is (ahead i) symbol.Extern e (sym (ahead-same r i h) ∙ f))) (read_item block n i)
      (parts_right n block block_right right i ends)))

  -- one item or more, which the end follows
  pub items_right : Reads (λ (x : Item × List Item). each a.item (x.0 ∷ x.1)) n (λ x s. same_symbol s symbol.End) (read_items block n)
  items_right i ends =
      then_right (λ (x : Item). node (a.item x) ∷ []) (λ x. each a.item) n always (λ x ys s. is_end s) (λ x y c v s sp st. refl) (λ x. []) (item_at block n i) (λ x j. many before_end (item_at block n) (suc (length j)) [] j) [] i
      (item_right i ends)
      (λ x j r. many_right (λ (x : Item). node (a.item x) ∷ []) (each a.item) refl (λ x xs. refl) n always before_end is_end end_apart item_begins item_filled (λ x xs c v s sp st. refl) (item_at block n) (λ k ends h. item_right k ends) (suc (length j)) j r.ends (omega arith))
