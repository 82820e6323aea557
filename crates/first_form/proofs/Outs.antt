-- The loop over the statements that write, and the statement after them.
use Rattle.std.proofs.Common.{◌≡◌, ℕ, ◌+◌, ◌<◌, ◌≤◌, ◌==◌, cond, Bool, true, false, List, [], ◌∷◌, ◌++◌, length, drop, get_or, Option, Some, None, refl, sym, ap, ◌∙◌, append_assoc, arith}
use Rattle.std.proofs.lemmas.Bool.{cond-true, cond-false}
use Rattle.std.proofs.lemmas.List.{append-nil, at_drop_more, at_drop_all}
use Rattle.c_tree.specs.declared.statement.Block.{Block}
use Rattle.c_tree.specs.declared.statement.Stmt.{Stmt}
use Rattle.first_form.specs.declared.first.FirstExpr.{FirstExpr}
use Rattle.first_form.specs.Finding.{◌>>=◌, out_of, returns_zero, outs_of, body_of, block_of}

-- what is found of all statements, by what was found so far and the rest
abbrev pub found_with : List FirstExpr → List Stmt → Option (List FirstExpr)
found_with outs rest = outs_of rest >>= (λ es. Some (outs ++ es))

pub found_first : (stmts : List Stmt) → outs_of stmts ≡ found_with [] stmts
found_first stmts = unchanged (outs_of stmts) where
  unchanged : (found : Option (List FirstExpr)) → found ≡ (found >>= (λ es. Some ([] ++ es)))
  unchanged None = refl
  unchanged (Some es) = refl

found_cons : (outs : List FirstExpr) (stmt : Stmt) (rest : List Stmt) (e : FirstExpr) → out_of stmt ≡ Some e → found_with outs (stmt ∷ rest) ≡ found_with (outs ++ e ∷ []) rest
unfolding outs_of
found_cons outs stmt rest e one =
    ap (λ (o : Option FirstExpr). (o >>= (λ x. outs_of rest >>= (λ xs. Some (x ∷ xs)))) >>= (λ es. Some (outs ++ es))) one ∙ moved (outs_of rest) where
      moved : (found : Option (List FirstExpr)) → ((found >>= (λ xs. Some (e ∷ xs))) >>= (λ es. Some (outs ++ es))) ≡ (found >>= (λ es. Some ((outs ++ e ∷ []) ++ es)))
      moved None = refl
      moved (Some es) = ap (λ (xs : List FirstExpr). Some xs) (sym (append_assoc outs (e ∷ []) es))

none_cons : (outs : List FirstExpr) (stmt : Stmt) (rest : List Stmt) → out_of stmt ≡ None → found_with outs (stmt ∷ rest) ≡ None
unfolding outs_of
none_cons outs stmt rest none = ap (λ (o : Option FirstExpr). (o >>= (λ x. outs_of rest >>= (λ xs. Some (x ∷ xs)))) >>= (λ es. Some (outs ++ es))) none

pub found_more : (outs : List FirstExpr) (stmts : List Stmt) (i : ℕ) (stmt : Stmt) (e : FirstExpr) → i < length stmts → stmt ≡ get_or stmts i stmt → out_of stmt ≡ Some e
    → found_with outs (drop i stmts) ≡ found_with (outs ++ e ∷ []) (drop (i + 1) stmts)
found_more outs stmts i stmt e within here one =
    at_drop_more (found_with outs) stmts i stmt within ∙ ap (λ (s : Stmt). found_with outs (s ∷ drop (i + 1) stmts)) (sym here) ∙ found_cons outs stmt (drop (i + 1) stmts) e one

pub found_none : (outs : List FirstExpr) (stmts : List Stmt) (i : ℕ) (stmt : Stmt) → i < length stmts → stmt ≡ get_or stmts i stmt → out_of stmt ≡ None → found_with outs (drop i stmts) ≡ None
found_none outs stmts i stmt within here none =
    at_drop_more (found_with outs) stmts i stmt within ∙ ap (λ (s : Stmt). found_with outs (s ∷ drop (i + 1) stmts)) (sym here) ∙ none_cons outs stmt (drop (i + 1) stmts) none

found_nil : (outs : List FirstExpr) → found_with outs [] ≡ Some outs
unfolding outs_of
found_nil outs = ap (λ (xs : List FirstExpr). Some xs) (append-nil outs)

pub found_all : (outs : List FirstExpr) (stmts : List Stmt) (i : ℕ) → length stmts ≤ i → found_with outs (drop i stmts) ≡ Some outs
found_all outs stmts i all = at_drop_all (found_with outs) stmts i all ∙ found_nil outs

-- a choice after the first of two steps is one before it
chosen : (b : Bool) (one : Option FirstExpr) (others : Option (List FirstExpr)) → (one >>= (λ x. cond b others None >>= (λ xs. Some (x ∷ xs)))) ≡ cond b (one >>= (λ x. others >>= (λ xs. Some (x ∷ xs)))) None
chosen true one others = refl
chosen false None others = refl
chosen false (Some x) others = refl

-- the last statement returns, and the others write
pub body_of-last : (stmts : List Stmt) (last : Stmt) → body_of (stmts ++ last ∷ []) ≡ cond (returns_zero last) (outs_of stmts) None
unfolding body_of outs_of
body_of-last [] last = refl
body_of-last (stmt ∷ []) last = chosen (returns_zero last) (out_of stmt) (Some [])
body_of-last (stmt ∷ next ∷ more) last =
    ap (λ (o : Option (List FirstExpr)). out_of stmt >>= (λ x. o >>= (λ xs. Some (x ∷ xs)))) (body_of-last (next ∷ more) last) ∙ chosen (returns_zero last) (out_of stmt) (outs_of (next ∷ more))

-- ---- blocks

pub block_of-objects : (block : Block) → (length block.objects == 0) ≡ false → block_of block ≡ None
unfolding block_of
block_of-objects block some = cond-false _ (body_of block.stmts) None some

block_of-without : (block : Block) → (length block.objects == 0) ≡ true → block_of block ≡ body_of block.stmts
unfolding block_of
block_of-without block none = cond-true _ (body_of block.stmts) None none

pub block_of-empty : (block : Block) → (length block.objects == 0) ≡ true → length block.stmts ≡ 0 → block_of block ≡ None
unfolding body_of
block_of-empty block none empty = block_of-without block none ∙ nothing block.stmts empty where
  nothing : (stmts : List Stmt) → length stmts ≡ 0 → body_of stmts ≡ None
  nothing [] e = refl
  nothing (stmt ∷ stmts) e = absurd (omega arith)

pub block_of-last : (block : Block) (stmts : List Stmt) (last : Stmt) → (length block.objects == 0) ≡ true → block.stmts ≡ stmts ++ last ∷ [] → block_of block ≡ cond (returns_zero last) (outs_of stmts) None
block_of-last block stmts last none whole = block_of-without block none ∙ ap body_of whole ∙ body_of-last stmts last
