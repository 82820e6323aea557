-- Blocks are read rightly, where objects and statements are.
use Rattle.std.proofs.Common.{◌≡◌, ◌≢◌, ℕ, Bool, true, false, List, [], ◌∷◌, ◌++◌, refl, ap, subst, ◌∙◌, sym, suc, length, arith}
use Rattle.std.specs.Prelude.{not}
use Rattle.sat_base.specs.declared.name.At.{At}
use Rattle.c_tree.specs.declared.declaration.Objects.{Objects}
use Rattle.c_tree.specs.declared.statement.Block.{Block}
use Rattle.c_tree.specs.declared.statement.Stmt.{Stmt}
use Rattle.c_grammar.specs.declared.symbol.Symbol.{Symbol}
use Rattle.c_grammar.specs.declared.symbol.Symbol.TheVariants as symbol
use Rattle.c_grammar.specs.Grammar as rule
use Rattle.c_grammar.specs.Nodes as a
use Rattle.c_grammar.specs.Parts.{Part, node, word, kept, each}
use Rattle.right_reading.specs.ReadStatements.{closed, block_objects_by, no_brace, statements_by, block_by}
use Rattle.c_grammar.specs.Spelling.{Spells}
use Rattle.c_grammar.specs.Spots.{Spot}
use Rattle.right_reading.specs.Stream.{ahead, Parser, both, take_at}
use Rattle.c_grammar.specs.Symbols.{same_symbol, begins_objects, begins_statement}
use Rattle.right_reading.proofs.Ahead.Begins.{spells_starts}
use Rattle.right_reading.proofs.Lists.Many.{stops_many, many_right}
use Rattle.right_reading.specs.Right.{Ends, Stops, Right, always, Reads}
use Rattle.right_reading.proofs.Composed.Rules.{Choice, no_parts, early_seen}
use Rattle.c_grammar.proofs.Sequences.{from_nothing}
use Rattle.statement_reading.proofs.Statements.StatementParts.{apart_by}
use Rattle.statement_reading.proofs.Statements.StatementStops.{stops_statement, no_else}
use Rattle.right_reading.proofs.Composed.Steps.{Right-both, Right-seen}
use Rattle.c_grammar.proofs.SymbolNumbers.{same-is}
use Rattle.right_reading.proofs.OneToken.Tokens.{take_right}
use Rattle.right_reading.proofs.OneToken.Words.{closed_right}
use Rattle.c_grammar.proofs.SymbolSets.{among}

abbrev of_objects : Objects → List Part
of_objects o = node (a.objects o) ∷ []

abbrev of_statement : Stmt → List Part
of_statement s = node (a.stmt s) ∷ []

abbrev each_objects : List Objects → List Part
each_objects xs = each a.objects xs

abbrev each_statement : List Stmt → List Part
each_statement xs = each a.stmt xs

-- ---- what may follow

-- what follows the declarations of a block does not begin one
abbrev ends_objects : Symbol → Bool
ends_objects s = not (begins_objects s)

abbrev is_brace : Symbol → Bool
is_brace s = same_symbol s symbol.CloseBrace

negated : (b : Bool) → b ≡ true → not b ≡ true → ⊥
negated true e f = cc
negated false e f = cc

negated_back : (b : Bool) → not b ≡ true → b ≡ true → ⊥
negated_back true e f = cc
negated_back false e f = cc

statement_no_objects : (s : Symbol) → begins_statement s ≡ true → ends_objects s ≡ true
statement_no_objects = among begins_statement ends_objects refl

objects_begin : (x : Objects) (c : ℕ) (v s : List Spot) → Spells (of_objects x) c v → begins_objects (ahead (v ++ s)) ≡ true
objects_begin x c v s sp = spells_starts s sp

objects_filled : (x : Objects) (c : ℕ) → Spells (of_objects x) c [] → ⊥
objects_filled x c sp = let e : begins_objects symbol.End ≡ true = spells_starts [] sp in cc

statement_begin : (x : Stmt) (c : ℕ) (v s : List Spot) → Spells (of_statement x) c v → no_brace (ahead (v ++ s)) ≡ true
statement_begin x c v s sp = let e = apart_by begins_statement (ahead (v ++ s)) symbol.CloseBrace (spells_starts s sp) refl in subst (λ (b : Bool). not b ≡ true) (sym e) refl

pub statement_filled : (x : Stmt) (c : ℕ) → Spells (node (a.stmt x) ∷ []) c [] → ⊥
statement_filled x c sp = let e : begins_statement symbol.End ≡ true = spells_starts [] sp in cc

-- no statement begins with `else`, and a `}` is none
statements_follow : (x : Stmt) (xs : List Stmt) (c : ℕ) (v s : List Spot) → Spells (each_statement xs) c v → Stops (stops_many {A = Stmt} is_brace) xs s → Stops stops_statement x (v ++ s)
statements_follow x [] c v s sp st =
    let e : v ++ s ≡ s = ap (λ (w : List Spot). w ++ s) (from_nothing sp).tokens in
    let k : ahead (v ++ s) ≡ symbol.CloseBrace = ap ahead e ∙ same-is (ahead s) symbol.CloseBrace st in
    no_else x (ahead (v ++ s)) (subst (λ (y : Symbol). same_symbol y symbol.Else ≡ false) (sym k) refl)
statements_follow x (y ∷ ys) c v s sp st = no_else x (ahead (v ++ s)) (apart_by begins_statement (ahead (v ++ s)) symbol.Else (spells_starts s sp) refl)

-- after the declarations stand statements, or a `}`
objects_follow : (os : List Objects) (xs : List Stmt) (c : ℕ) (v s : List Spot) → Spells (each_statement xs) c v → Stops (stops_many {A = Stmt} is_brace) xs s → Stops (stops_many {A = Objects} ends_objects) os (v ++ s)
objects_follow os [] c v s sp st =
    let e : v ++ s ≡ s = ap (λ (w : List Spot). w ++ s) (from_nothing sp).tokens in
    let k : ahead (v ++ s) ≡ symbol.CloseBrace = ap ahead e ∙ same-is (ahead s) symbol.CloseBrace st in
    subst (λ (y : Symbol). ends_objects y ≡ true) (sym k) refl
objects_follow os (x ∷ xs) c v s sp st = statement_no_objects (ahead (v ++ s)) (spells_starts s sp)

abbrev inner_parts : List Objects × List Stmt → List Part
inner_parts z = each a.objects z.0 ++ each a.stmt z.1

abbrev stops_inner : List Objects × List Stmt → Symbol → Bool
stops_inner z s = is_brace s

-- ---- blocks

abbrev block_parts : At × (List Objects × List Stmt) → List Part
block_parts z = kept symbol.OpenBrace z.0 ∷ each a.objects z.1.0 ++ each a.stmt z.1.1 ++ word symbol.CloseBrace ∷ []

abbrev block_of : At × (List Objects × List Stmt) → Block
block_of z = record { at = z.0; objects = z.1.0; stmts = z.1.1 }

block_choice : (i : List Spot) → Choice a.block block_parts no_parts (always {A = At × (List Objects × List Stmt)}) (always {A = Block}) [] i block_of
block_choice i x early late c1 c2 u1 u2 s r rule.block before behind st e h =
    record { a = (x.at, (x.objects, x.stmts)); same = refl; is_early = refl; is_late = refl; stops = refl }

module _ (n : ℕ) (objects : Parser Objects) (objects_right : Reads (λ (o : Objects). node (a.objects o) ∷ []) n always objects)
    (statement : Parser Stmt) (statement_right : Reads (λ (s : Stmt). node (a.stmt s) ∷ []) n stops_statement statement) where
  block_objects_right : Reads each_objects n (stops_many ends_objects) (block_objects_by objects)
  unfolding block_objects_by
  block_objects_right i ends =
      many_right of_objects each_objects refl (λ x xs. refl) n always begins_objects ends_objects (λ s e f. negated (begins_objects s) e f) objects_begin objects_filled (λ x xs c v s sp st. refl) objects (λ j ends h. objects_right j ends) (suc (length i)) i ends (omega arith)

  statements_right : Reads each_statement n (stops_many is_brace) (statements_by statement)
  unfolding statements_by
  statements_right i ends =
      many_right of_statement each_statement refl (λ x xs. refl) n stops_statement no_brace is_brace (λ s e f. negated_back (is_brace s) e f) statement_begin statement_filled statements_follow statement (λ j ends h. statement_right j ends) (suc (length i)) i ends (omega arith)

  pub block_right : Reads (λ (b : Block). node (a.block b) ∷ []) n always (block_by objects statement)
  unfolding block_by
  block_right i ends =
      let brace : symbol.OpenBrace ≢ symbol.End = λ e. cc in
      let last : symbol.CloseBrace ≢ symbol.End = λ e. cc in
      let pair = both (block_objects_by objects) (statements_by statement) in
      let inner : (j : List Spot) → Ends j → Right (λ (z : List Objects × List Stmt). inner_parts z ++ word symbol.CloseBrace ∷ []) n always [] j (closed pair symbol.CloseBrace j) =
      λ j ends_j. closed_right inner_parts n stops_inner symbol.CloseBrace last ([], []) pair (λ z. refl) j
      (Right-both each_objects each_statement n (stops_many ends_objects) (stops_many is_brace) objects_follow [] (block_objects_by objects) (statements_by statement) [] j (block_objects_right j ends_j) statements_right) in
      let r = Right-both (λ (at : At). kept symbol.OpenBrace at ∷ []) (λ (z : List Objects × List Stmt). inner_parts z ++ word symbol.CloseBrace ∷ []) n always always
      (λ x z c v s sp st. refl) ([], []) (take_at symbol.OpenBrace) (closed pair symbol.CloseBrace) [] i (take_right symbol.OpenBrace brace n i ends) inner in
      Right-seen block_parts (λ (b : Block). node (a.block b) ∷ []) n n (always {A = At × (List Objects × List Stmt)}) (always {A = Block}) [] i block_of
      (early_seen a.block block_parts n always always [] i block_of (λ z. rule.block) (block_choice i)) (both (take_at symbol.OpenBrace) (closed pair symbol.CloseBrace) i) r
