-- Reading all items goes on up to the end.
use Rattle.std.proofs.Common.{◌≡◌, ℕ, zero, suc, ◌≤◌, ◌<◌, Bool, true, false, List, [], ◌∷◌, ◌++◌, length, length-append, refl, ap, ◌∙◌, sym, arith}
use Rattle.std.specs.Prelude.{not, Result, Ok, Err, if◌then◌else◌}
use Rattle.c_tree.specs.declared.program.Item.{Item}
use Rattle.c_tree.specs.declared.statement.Block.{Block}
use Rattle.c_grammar.specs.declared.symbol.Symbol.TheVariants as symbol
use Rattle.c_grammar.specs.Nodes as a
use Rattle.c_grammar.specs.Parts.{node}
use Rattle.c_grammar.specs.Spelling.{Spells}
use Rattle.c_grammar.specs.Spots.{Spot}
use Rattle.c_grammar.specs.Symbols.{same_symbol}
use Rattle.c_grammar.proofs.SymbolNumbers.{same-is}
use Rattle.right_reading.specs.Lists.{many}
use Rattle.right_reading.specs.ReadSource.{item_at, before_end, items_at}
use Rattle.right_reading.specs.Right.{Ends, Read, Reads, Right, always}
use Rattle.right_reading.specs.Stream.{ahead, Fault, Parser, ◌>>=◌}
use Rattle.item_reading.proofs.Items.ItemsRight.{item_filled}

not_not : (b : Bool) → not b ≡ false → b ≡ true
not_not true e = refl
not_not false e = cc

module _ (n : ℕ) (block : Parser Block) (right : Reads (λ (x : Item). node (a.item x) ∷ []) n always (item_at block n)) where
  shorter : (i : List Spot) (x : Item) (j : List Spot) → Read (λ (x : Item). node (a.item x) ∷ []) n always [] i x j → length j < length i
  shorter i x j r = step r.more r.whole r.spelled
    where
      step : (m : List Spot) → i ≡ m ++ j → Spells (node (a.item x) ∷ []) r.depth m → length j < length i
      step [] e sp = absurd (item_filled x r.depth sp)
      step (y ∷ ys) e sp = let k : length i ≡ suc (length (ys ++ j)) = ap length e in omega (arith, k, length-append ys j)

  many_end : (f : ℕ) (xs : List Item) (i : List Spot) → Ends i → length i ≤ f → (ys : List Item) (j : List Spot) → many before_end (item_at block n) f xs i ≡ Ok (ys, j) → ahead j ≡ symbol.End
  unfolding many
  many_end zero xs [] ends le ys j e = absurd ends
  many_end zero xs (c ∷ cs) ends le ys j e = absurd (omega arith)
  many_end (suc f) xs i ends le ys j e = step (λ zs k more less. many_end f zs k more less ys j) (before_end (ahead i)) refl e
    where
      on : ((zs : List Item) (k : List Spot) → Ends k → length k ≤ f → many before_end (item_at block n) f zs k ≡ Ok (ys, j) → ahead j ≡ symbol.End)
          → (y : Result (Item × List Spot) Fault) → Right (λ (x : Item). node (a.item x) ∷ []) n always [] i y → (y >>= (λ x. many before_end (item_at block n) f (xs ++ x.0 ∷ []) x.1)) ≡ Ok (ys, j) → ahead j ≡ symbol.End
      on again (Err g) r e = cc
      on again (Ok x) r e = let lt = shorter i x.0 x.1 r in again (xs ++ x.0 ∷ []) x.1 r.ends (omega (arith, lt)) e

      so_far : List Item → List Spot → Result (List Item × List Spot) Fault
      so_far zs k = Ok (zs, k)

      stays : so_far xs i ≡ so_far ys j → i ≡ j
      stays e = let pair : (xs, i) ≡ (ys, j) = cc in ap (λ (z : List Item × List Spot). z.1) pair

      step : ((zs : List Item) (k : List Spot) → Ends k → length k ≤ f → many before_end (item_at block n) f zs k ≡ Ok (ys, j) → ahead j ≡ symbol.End)
          → (b : Bool) → before_end (ahead i) ≡ b → (if b then item_at block n i >>= (λ x. many before_end (item_at block n) f (xs ++ x.0 ∷ []) x.1) else Ok (xs, i)) ≡ Ok (ys, j) → ahead j ≡ symbol.End
      step again true h e = on again (item_at block n i) (right i ends) e
      step again false h e =
          let is : same_symbol (ahead i) symbol.End ≡ true = not_not (same_symbol (ahead i) symbol.End) h in
          sym (ap ahead (stays e)) ∙ same-is (ahead i) symbol.End is

  pub items_end : (i : List Spot) → Ends i → (ys : List Item) (j : List Spot) → items_at block n i ≡ Ok (ys, j) → ahead j ≡ symbol.End
  unfolding items_at
  items_end i ends ys j e = first (item_at block n i) (right i ends) e
    where
      first : (y : Result (Item × List Spot) Fault) → Right (λ (x : Item). node (a.item x) ∷ []) n always [] i y → (y >>= (λ x. many before_end (item_at block n) (suc (length x.1)) (x.0 ∷ []) x.1)) ≡ Ok (ys, j) → ahead j ≡ symbol.End
      first (Err g) r e = cc
      first (Ok x) r e = many_end (suc (length x.1)) (x.0 ∷ []) x.1 r.ends (omega arith) ys j e
