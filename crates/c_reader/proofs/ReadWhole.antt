-- What reading the items of all tokens says: the tree that they spell, or why they spell none.
use Rattle.std.proofs.Common.{◌≡◌, ◌≢◌, ℕ, ◌≤◌, max, true, false, List, [], ◌∷◌, refl, ap, subst, ◌∙◌, sym, arith}
use Rattle.std.specs.Prelude.{Result, Ok, Err}
use Rattle.sat_base.specs.declared.limits.TheConstants.{DEPTH}
use Rattle.sat_base.specs.declared.position.Pos.{Pos}
use Rattle.c_lexer.specs.declared.token.Tokens.{Tokens}
use Rattle.c_tree.specs.declared.program.Item.{Item}
use Rattle.c_tree.specs.declared.program.Program.{Program}
use Rattle.c_tree.specs.Depth.{deepest, depth_of_item}
use Rattle.c_grammar.specs.declared.refusal.ReadRefusal.{ReadRefusal}
use Rattle.c_grammar.specs.declared.refusal.ReadRefusal.TheVariants as refusal
use Rattle.c_grammar.specs.declared.symbol.Symbol.TheVariants as symbol
use Rattle.token_reader.specs.Gives.{Fails}
use Rattle.c_grammar.specs.Nodes as a
use Rattle.c_grammar.specs.Parts.{each}
use Rattle.c_grammar.specs.Programs.{IsRefused, SpellAtMostOne, stream_of}
use Rattle.right_reading.specs.ReadDeclarations.{objects_at}
use Rattle.right_reading.specs.ReadSource.{items_at}
use Rattle.right_reading.specs.ReadStatements.{block_with}
use Rattle.c_grammar.specs.Spelling as parts
use Rattle.c_grammar.specs.Spots.{Spot, spots_of, end_of}
use Rattle.right_reading.specs.Stream.{ahead, Fault}
use Rattle.right_reading.proofs.Composed.Dependent.{seen_by}
use Rattle.c_grammar.proofs.Depths.{program_depth}
use Rattle.c_grammar.proofs.ProgramDepths.{some_of}
use Rattle.item_reading.specs.Laws.{ReadsItems}
use Rattle.right_reading.proofs.Lists.Many.{front_of}
use Rattle.c_reader.proofs.Numbers.{ends-last}
use Rattle.c_reader.proofs.SourceRight.{source_right}
use Rattle.c_reader.proofs.Whole.{ItemsRight, all_read, syntax_fault, too_deep, same_items}

-- what is read of all tokens
abbrev pub whole_at : List Spot → Result (List Item × List Spot) Fault
whole_at i = items_at (block_with objects_at DEPTH) DEPTH i

pub record WholeTree (tokens : Tokens) (items : List Item) : Type 0 where
  pub some : items ≢ []
  pub depth : ℕ
  pub spelled : parts.Spells (each a.item items) depth (spots_of tokens)
  pub within : deepest depth_of_item items ≤ DEPTH

-- by what reading the first item and those after it gives
by_read : (tokens : Tokens) (y : Result ((Item × List Item) × List Spot) Fault) → ItemsRight DEPTH (stream_of tokens) y
    → (items : List Item) (j : List Spot) → seen_by front_of y ≡ Ok (items, j) → ahead j ≡ symbol.End → WholeTree tokens items
by_read tokens (Err f) r items j e is = cc
by_read tokens (Ok z) r items j e is =
    let pair : (z.0.0 ∷ z.0.1, z.1) ≡ (items, j) = cc in
    let same = ap (λ (x : List Item × List Spot). x.0) pair in
    let left = ap (λ (x : List Item × List Spot). x.1) pair in
    let sp = all_read tokens DEPTH z.0 z.1 r (ap ahead left ∙ is) in
    let spelled = subst (λ (xs : List Item). parts.Spells (each a.item xs) r.depth (spots_of tokens)) same sp in
    record { some = λ g. let h : z.0.0 ∷ z.0.1 ≡ [] = same ∙ g in cc; depth = r.depth; spelled = spelled; within = omega (arith, program_depth items spelled, r.within) }

by_fault : (tokens : Tokens) (y : Result ((Item × List Item) × List Spot) Fault) → ItemsRight DEPTH (stream_of tokens) y
    → (r : ReadRefusal) → Fails (seen_by front_of y) r → IsRefused tokens r
by_fault tokens y right refusal.Memory e = tt
by_fault tokens (Ok z) right (refusal.Syntax tok place) e = cc
by_fault tokens (Ok z) right (refusal.TooDeep tok place) e = cc
by_fault tokens (Err f) right (refusal.Syntax tok place) e =
    let same : f ≡ record { deep = false; at = record { tok = tok; pos = place } } = cc in
    syntax_fault tokens DEPTH (record { tok = tok; pos = place }) (subst (λ (g : Fault). ItemsRight DEPTH (stream_of tokens) (Err g)) same right)
by_fault tokens (Err f) right (refusal.TooDeep tok place) e =
    let same : f ≡ record { deep = true; at = record { tok = tok; pos = place } } = cc in
    too_deep tokens DEPTH (record { tok = tok; pos = place }) (subst (λ (g : Fault). ItemsRight DEPTH (stream_of tokens) (Err g)) same right) refl

module _ (tokens : Tokens) where
  all_right : ReadsItems (block_with objects_at DEPTH) DEPTH (stream_of tokens)
  all_right = source_right DEPTH (stream_of tokens) (ends-last (spots_of tokens) (end_of tokens) refl)

  pub whole_tree : (items : List Item) (j : List Spot) → whole_at (stream_of tokens) ≡ Ok (items, j) → WholeTree tokens items
  whole_tree items j e = by_read tokens all_right.read all_right.right items j (sym all_right.same ∙ e) (all_right.ended items j e)

  pub whole_refused : (r : ReadRefusal) → Fails (whole_at (stream_of tokens)) r → IsRefused tokens r
  whole_refused r e =
      by_fault tokens all_right.read all_right.right r (subst (λ (y : Result (List Item × List Spot) Fault). Fails y r) all_right.same e)

-- ---- at most one tree

abbrev made : List Item → ℕ → Pos → Program
made items end_tok end = record { items = items; end_tok = end_tok; end = end }

pub one_tree : SpellAtMostOne
one_tree tokens p q sp sq =
    let x = some_of p.items sp.items.some in
    let y = some_of q.items sq.items.some in
    let n = max sp.items.depth sq.items.depth in
    let i = stream_of tokens in
    let s1 = subst (λ (items : List Item). parts.Spells (each a.item items) sp.items.depth (spots_of tokens)) x.same sp.items.spelled in
    let s2 = subst (λ (items : List Item). parts.Spells (each a.item items) sq.items.depth (spots_of tokens)) y.same sq.items.spelled in
    let read = source_right n i (ends-last (spots_of tokens) (end_of tokens) refl) in
    let same = same_items n (spots_of tokens) (end_of tokens) read.read read.right refl
    (x.x, x.xs) (y.x, y.xs) sp.items.depth sq.items.depth s1 s2 (omega arith) (omega arith) in
    same_programs p q (x.same ∙ ap (λ (z : Item × List Item). z.0 ∷ z.1) same ∙ sym y.same) (sp.end_tok ∙ sym sq.end_tok) (sp.end ∙ sym sq.end)
  where
    same_programs : (p q : Program) → p.items ≡ q.items → p.end_tok ≡ q.end_tok → p.end ≡ q.end → p ≡ q
    same_programs p q e f g =
        ap (λ (x : List Item). made x p.end_tok p.end) e ∙ ap (λ (x : ℕ). made q.items x p.end) f ∙ ap (λ (x : Pos). made q.items q.end_tok x) g
