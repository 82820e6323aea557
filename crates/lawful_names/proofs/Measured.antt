-- The objects that a statement declares, measured by what is seen of it: inductions over statements.
use Rattle.std.proofs.Common.{◌≡◌, ℕ, suc, ◌+◌, ◌≤◌, List, [], ◌∷◌, ◌++◌, Bool, true, false, map, length, sym, subst, arith}
use Rattle.std.specs.Prelude.{nat_lt, Option, Some, None}
use Rattle.sat_base.specs.declared.width.Width.{Width}
use Rattle.c_tree.specs.declared.declaration.Decl.{Decl}
use Rattle.c_tree.specs.declared.declaration.Objects.{Objects}
use Rattle.c_tree.specs.declared.statement.Block.{Block, ind-Block, roll-Block}
use Rattle.c_tree.specs.declared.statement.Stmt.TheOpen as node
use Rattle.c_tree.specs.declared.statement.Stmt.{Stmt, map-Stmt, roll-Stmt}
use Rattle.c_tree.specs.declared.statement.Stmt.TheVariants as stmt
use Rattle.c_typed.specs.declared.statement.TypedBlock.{TypedBlock}
use Rattle.c_typed.specs.declared.statement.TypedStmt.{TypedStmt}
use Rattle.operator_meaning.specs.declared.object.Object.{Object}
use Rattle.c_seen.specs.declared.seen.Seen.{Seen}
use Rattle.c_seen.specs.declared.seen.Seen.TheVariants as seen
use Rattle.c_seen.specs.declared.statements.Spot.{Spot}
use Rattle.c_seen.specs.Declarations as scope
use Rattle.c_seen.specs.Declarations.{object, dimension, initialiser, number, number_if_any, seen_in_declared, seen_in_objects, seen_in_lists, after_lists}
use Rattle.c_seen.specs.Meanings.{Names, is_taken}
use Rattle.c_seen.specs.Statements.{simples, seen_in_statement, seen_in_block, seen_in_statements}
use Rattle.c_seen.proofs.Statements_seen as sees
use Rattle.tied_names.specs.Numbers.{is_exposed}
use Rattle.tied_names.specs.Ties.{Here}
use Rattle.tied_objects.specs.Objects.{object_of}
use Rattle.tied_statements.specs.declared.statements.Inside.{Inside}
use Rattle.tied_statements.specs.Declarations.{with_objects, after_declared, starts_of, starts_in_lists}
use Rattle.tied_statements.specs.Statements.{Done, tied_statement, tied_block, tied_statements}
use Rattle.tied_statements.proofs.Statement_equations as ties
use Rattle.lawful_sources.proofs.Passing.{Each}
use Rattle.lawful_laws.proofs.Objects.{deeper}
use Rattle.lawful_laws.proofs.Statements.{earlier, later, tail, head}
use Rattle.lawful_names.proofs.Totals.{total, total-append}

module _ (sound : Seen → Bool) (measure : Object → ℕ) (cost : Seen → ℕ) where
  -- a declaration costs at least what its object measures
  pub declared-cost : (names : Names) (depth : ℕ) (decl : Decl) (one : Object) → (sound (seen.Object (object decl (nat_lt 0 depth))) ≡ true → measure one ≤ cost (seen.Object (object decl (nat_lt 0 depth))))
      → Each sound (seen_in_declared names depth decl) → measure one ≤ total cost (seen_in_declared names depth decl)
  declared-cost names depth decl one fits p =
      let ends : List Seen = seen.Name decl.name.at (is_taken names decl.name.name depth false) ∷ seen.Object (object decl (nat_lt 0 depth)) ∷ [] in
      let last : Each sound ends = later sound (initialiser names decl decl.init) _ (later sound (dimension names decl.cols) _ (later sound (dimension names decl.rows) _ p)) in
      let least : measure one ≤ cost (seen.Object (object decl (nat_lt 0 depth))) = fits (head sound _ _ (tail sound _ _ last)) in
      let first : total cost (seen_in_declared names depth decl) ≡ total cost (dimension names decl.rows) + total cost (dimension names decl.cols ++ (initialiser names decl decl.init ++ ends)) = total-append cost (dimension names decl.rows) _ in
      let second : total cost (dimension names decl.cols ++ (initialiser names decl decl.init ++ ends)) ≡ total cost (dimension names decl.cols) + total cost (initialiser names decl decl.init ++ ends) = total-append cost (dimension names decl.cols) _ in
      let third : total cost (initialiser names decl decl.init ++ ends) ≡ total cost (initialiser names decl decl.init) + total cost ends = total-append cost (initialiser names decl decl.init) ends in omega arith

  module _ (function : ℕ) (fits : (decl : Decl) (exposed : Bool) → sound (seen.Object (object decl true)) ≡ true → measure (object_of decl (Some function) exposed) ≤ cost (seen.Object (object decl true))) where
    fits-deep : (depth : ℕ) (decl : Decl) (exposed : Bool) → nat_lt 0 depth ≡ true → sound (seen.Object (object decl (nat_lt 0 depth))) ≡ true → measure (object_of decl (Some function) exposed) ≤ cost (seen.Object (object decl (nat_lt 0 depth)))
    fits-deep depth decl exposed deep p =
        subst (λ (b : Bool). measure (object_of decl (Some function) exposed) ≤ cost (seen.Object (object decl b))) (sym deep) (fits decl exposed (subst (λ (b : Bool). sound (seen.Object (object decl b)) ≡ true) deep p))

    starts-measure : (here : Here) (names : Names) (depth : ℕ) (decls : List Decl) → nat_lt 0 depth ≡ true → Each sound (seen_in_objects names depth decls)
        → total measure (starts_of here function decls).after.objects ≤ total measure here.objects + total cost (seen_in_objects names depth decls)
    starts-measure here names depth [] deep p = omega arith
    starts-measure here names depth (decl ∷ decls) deep p =
        let one : Object = object_of decl (Some function) (is_exposed here.exposed (length here.objects)) in
        let added : total measure (here.objects ++ one ∷ []) ≡ total measure here.objects + total measure (one ∷ []) = total-append measure here.objects (one ∷ []) in
        let costs : measure one ≤ total cost (seen_in_declared names depth decl) = declared-cost names depth decl one (fits-deep depth decl _ deep) (earlier sound _ _ p) in
        let rest : total measure (starts_of (after_declared here (Some function) decl) function decls).after.objects ≤ total measure (here.objects ++ one ∷ []) + total cost (seen_in_objects (scope.after_declared names depth decl) depth decls) =
        starts-measure (after_declared here (Some function) decl) (scope.after_declared names depth decl) depth decls deep (later sound (seen_in_declared names depth decl) _ p) in
        let all : total cost (seen_in_objects names depth (decl ∷ decls)) ≡ total cost (seen_in_declared names depth decl) + total cost (seen_in_objects (scope.after_declared names depth decl) depth decls) = total-append cost (seen_in_declared names depth decl) _ in omega arith

    lists-measure : (here : Here) (names : Names) (depth : ℕ) (lists : List Objects) → nat_lt 0 depth ≡ true → Each sound (seen_in_lists names depth lists)
        → total measure (starts_in_lists here function lists).after.objects ≤ total measure here.objects + total cost (seen_in_lists names depth lists)
    lists-measure here names depth [] deep p = omega arith
    lists-measure here names depth (list ∷ lists) deep p =
        let one : total measure (starts_of here function list.decls).after.objects ≤ total measure here.objects + total cost (seen_in_objects names depth list.decls) = starts-measure here names depth list.decls deep (earlier sound _ _ p) in
        let rest : total measure (starts_in_lists (starts_of here function list.decls).after function lists).after.objects ≤ total measure (starts_of here function list.decls).after.objects + total cost (seen_in_lists (scope.after_objects names depth list.decls) depth lists) =
        lists-measure (starts_of here function list.decls).after (scope.after_objects names depth list.decls) depth lists deep (later sound (seen_in_objects names depth list.decls) _ p) in
        let all : total cost (seen_in_lists names depth (list ∷ lists)) ≡ total cost (seen_in_objects names depth list.decls) + total cost (seen_in_lists (scope.after_objects names depth list.decls) depth lists) = total-append cost (seen_in_objects names depth list.decls) _ in omega arith

    -- what is added costs no more than what is seen
    pub record Costs (before after : ℕ) (list : List Seen) : Type 0 where
      pub is : after ≤ before + total cost list

    in-tail : (before after : ℕ) (x : Seen) (xs : List Seen) → Costs before after xs → Costs before after (x ∷ xs)
    in-tail before after x xs p = record { is = omega arith }

    in-right : (before after : ℕ) (xs ys : List Seen) → Costs before after ys → Costs before after (xs ++ ys)
    in-right before after xs ys p = record { is = omega (arith, total-append cost xs ys) }

    in-left : (before after : ℕ) (xs ys : List Seen) → Costs before after xs → Costs before after (xs ++ ys)
    in-left before after xs ys p = record { is = omega (arith, total-append cost xs ys) }

    in-both : (before middle after : ℕ) (xs ys : List Seen) → Costs before middle xs → Costs middle after ys → Costs before after (xs ++ ys)
    in-both before middle after xs ys p q = record { is = omega (arith, total-append cost xs ys) }

    in-none : (before : ℕ) (xs : List Seen) → Costs before before xs
    in-none before xs = record { is = omega arith }

    -- ---- statements

    abbrev inside_of : Option Width → Inside
    inside_of gives = record { function = function; gives = gives }

    abbrev spot : ℕ → Bool → Bool → Spot
    spot depth in_loop gives = record { depth = depth; in_loop = in_loop; gives = gives }

    abbrev StatementMeasures : Stmt → Type 0
    StatementMeasures x = (here : Here) (result : Option Width) (names : Names) (depth : ℕ) (in_loop gives : Bool) → nat_lt 0 depth ≡ true → Each sound (seen_in_statement x names (spot depth in_loop gives))
        → Costs (total measure here.objects) (total measure (tied_statement x here (inside_of result)).objects) (seen_in_statement x names (spot depth in_loop gives))

    abbrev BlockMeasures : Block → Type 0
    BlockMeasures x = (here : Here) (result : Option Width) (names : Names) (depth : ℕ) (in_loop gives : Bool) → nat_lt 0 depth ≡ true → Each sound (seen_in_block x names (spot depth in_loop gives))
        → Costs (total measure here.objects) (total measure (tied_block x here (inside_of result)).objects) (seen_in_block x names (spot depth in_loop gives))

    abbrev SS : Type 0
    SS = (x : Stmt) × StatementMeasures x

    abbrev SB : Type 0
    SB = (x : Block) × BlockMeasures x

    step : (x : Stmt) (here : Here) (result : Option Width) (names : Names) (depth : ℕ) (in_loop gives : Bool) (done : Done TypedStmt) (list : List Seen)
        → tied_statement x here (inside_of result) ≡ done → seen_in_statement x names (spot depth in_loop gives) ≡ list → (Each sound list → Costs (total measure here.objects) (total measure done.objects) list)
        → Each sound (seen_in_statement x names (spot depth in_loop gives)) → Costs (total measure here.objects) (total measure (tied_statement x here (inside_of result)).objects) (seen_in_statement x names (spot depth in_loop gives))
    step x here result names depth in_loop gives done list tied sees what p =
        subst (λ (d : Done TypedStmt). Costs (total measure here.objects) (total measure d.objects) (seen_in_statement x names (spot depth in_loop gives))) (sym tied)
        (subst (λ (l : List Seen). Costs (total measure here.objects) (total measure done.objects) l) (sym sees) (what (subst (λ (l : List Seen). Each sound l) sees p)))

    on_statement : (y : node.Stmt-F SS SB) → StatementMeasures (roll-Stmt (map-Stmt SS SB Stmt Block (λ q. q.0) (λ q. q.0) y))
    on_statement (node.Empty at) = subst StatementMeasures (sym (stmt.rolls-Empty at)) (λ here result names depth in_loop gives deep.
        step _ here result names depth in_loop gives _ _ (ties.tied-Empty at here _) (sees.sees-Empty at names _) (λ p. in-none _ _))
    on_statement (node.Block block) = subst StatementMeasures (sym (stmt.rolls-Block block.0)) (λ here result names depth in_loop gives deep.
        step _ here result names depth in_loop gives _ _ (ties.tied-Block block.0 here _) (sees.sees-Block block.0 names _)
        (λ p. in-tail _ _ _ _ (block.1 here result names (suc depth) in_loop gives (deeper depth) (tail sound _ _ p))))
    on_statement (node.Simple s) = subst StatementMeasures (sym (stmt.rolls-Simple s)) (λ here result names depth in_loop gives deep.
        step _ here result names depth in_loop gives _ _ (ties.tied-Simple s here _) (sees.sees-Simple s names _) (λ p. in-none _ _))
    on_statement (node.If at cond one None) = subst StatementMeasures (sym (stmt.rolls-If at cond one.0 None)) (λ here result names depth in_loop gives deep.
        step _ here result names depth in_loop gives _ _ (ties.tied-Then at cond one.0 here _) (sees.sees-If at cond one.0 None names _)
        (λ p. in-tail _ _ _ _ (in-right _ _ (number names cond) _ (in-left _ _ _ _ (one.1 here result names depth in_loop gives deep (earlier sound _ _ (later sound (number names cond) _ (tail sound _ _ p))))))))
    on_statement (node.If at cond one (Some other)) = subst StatementMeasures (sym (stmt.rolls-If at cond one.0 (Some other.0))) (λ here result names depth in_loop gives deep.
        step _ here result names depth in_loop gives _ _ (ties.tied-Else at cond one.0 other.0 here _) (sees.sees-If at cond one.0 (Some other.0) names _)
        (λ p.
        let parts : Each sound (seen_in_statement one.0 names (spot depth in_loop gives) ++ seen_in_statement other.0 names (spot depth in_loop gives)) = later sound (number names cond) _ (tail sound _ _ p) in
        in-tail _ _ _ _ (in-right _ _ (number names cond) _ (in-both _ _ _ (seen_in_statement one.0 names (spot depth in_loop gives)) _ (one.1 here result names depth in_loop gives deep (earlier sound _ _ parts))
        (other.1 (with_objects here (tied_statement one.0 here (inside_of result)).objects) result names depth in_loop gives deep (later sound (seen_in_statement one.0 names (spot depth in_loop gives)) _ parts))))))
    on_statement (node.While at cond body) = subst StatementMeasures (sym (stmt.rolls-While at cond body.0)) (λ here result names depth in_loop gives deep.
        step _ here result names depth in_loop gives _ _ (ties.tied-While at cond body.0 here _) (sees.sees-While at cond body.0 names _)
        (λ p. in-tail _ _ _ _ (in-right _ _ (number names cond) _ (body.1 here result names depth true gives deep (later sound (number names cond) _ (tail sound _ _ p))))))
    on_statement (node.Do at body cond) = subst StatementMeasures (sym (stmt.rolls-Do at body.0 cond)) (λ here result names depth in_loop gives deep.
        step _ here result names depth in_loop gives _ _ (ties.tied-Do at body.0 cond here _) (sees.sees-Do at body.0 cond names _)
        (λ p. in-tail _ _ _ _ (in-left _ _ _ _ (body.1 here result names depth true gives deep (earlier sound _ _ (tail sound _ _ p))))))
    on_statement (node.For at firsts cond lasts body) = subst StatementMeasures (sym (stmt.rolls-For at firsts cond lasts body.0)) (λ here result names depth in_loop gives deep.
        step _ here result names depth in_loop gives _ _ (ties.tied-For at firsts cond lasts body.0 here _) (sees.sees-For at firsts cond lasts body.0 names _)
        (λ p. in-tail _ _ _ _ (in-right _ _ (simples names firsts) _ (in-right _ _ (number_if_any names cond) _ (in-right _ _ (simples names lasts) _
        (body.1 here result names depth true gives deep (later sound (simples names lasts) _ (later sound (number_if_any names cond) _ (later sound (simples names firsts) _ (tail sound _ _ p))))))))))
    on_statement (node.Break at) = subst StatementMeasures (sym (stmt.rolls-Break at)) (λ here result names depth in_loop gives deep.
        step _ here result names depth in_loop gives _ _ (ties.tied-Break at here _) (sees.sees-Break at names _) (λ p. in-none _ _))
    on_statement (node.Continue at) = subst StatementMeasures (sym (stmt.rolls-Continue at)) (λ here result names depth in_loop gives deep.
        step _ here result names depth in_loop gives _ _ (ties.tied-Continue at here _) (sees.sees-Continue at names _) (λ p. in-none _ _))
    on_statement (node.Return at value) = subst StatementMeasures (sym (stmt.rolls-Return at value)) (λ here result names depth in_loop gives deep.
        step _ here result names depth in_loop gives _ _ (ties.tied-Return at value here _) (sees.sees-Return at value names _) (λ p. in-none _ _))

    listed : (ys : List SS) (here : Here) (result : Option Width) (names : Names) (depth : ℕ) (in_loop gives : Bool) → nat_lt 0 depth ≡ true → Each sound (seen_in_statements (map (λ (q : SS). q.0) ys) names (spot depth in_loop gives))
        → Costs (total measure here.objects) (total measure (tied_statements (map (λ (q : SS). q.0) ys) here (inside_of result)).objects) (seen_in_statements (map (λ (q : SS). q.0) ys) names (spot depth in_loop gives))
    listed [] here result names depth in_loop gives deep p = in-none _ []
    listed (y ∷ ys) here result names depth in_loop gives deep p =
        in-both _ _ _ (seen_in_statement y.0 names (spot depth in_loop gives)) _ (y.1 here result names depth in_loop gives deep (earlier sound _ _ p))
        (listed ys (with_objects here (tied_statement y.0 here (inside_of result)).objects) result names depth in_loop gives deep (later sound (seen_in_statement y.0 names (spot depth in_loop gives)) _ p))

    on_block : (y : node.Block-F SS SB) → BlockMeasures (record { at = y.at; objects = y.objects; stmts = map (λ (q : SS). q.0) y.stmts })
    on_block y here result names depth in_loop gives deep p =
        let block : Block = record { at = y.at; objects = y.objects; stmts = map (λ (q : SS). q.0) y.stmts } in
        let after : Here = (starts_in_lists here function y.objects).after in
        let parts : Each sound (seen_in_lists names depth y.objects ++ seen_in_statements block.stmts (after_lists names depth y.objects) (spot depth in_loop gives)) =
        subst (λ (l : List Seen). Each sound l) (sees.block-parts block names (spot depth in_loop gives)) p in
        subst (λ (d : Done TypedBlock). Costs (total measure here.objects) (total measure d.objects) (seen_in_block block names (spot depth in_loop gives))) (sym (ties.block-parts block here (inside_of result)))
        (subst (λ (l : List Seen). Costs (total measure here.objects) (total measure (tied_statements block.stmts after (inside_of result)).objects) l) (sym (sees.block-parts block names (spot depth in_loop gives)))
        (in-both _ _ _ (seen_in_lists names depth y.objects) _ (record { is = lists-measure here names depth y.objects deep (earlier sound _ _ parts) })
        (listed y.stmts after result (after_lists names depth y.objects) depth in_loop gives deep (later sound (seen_in_lists names depth y.objects) _ parts))))

    pub block-measures : (x : Block) → BlockMeasures x
    block-measures = ind-Block StatementMeasures BlockMeasures
        (λ x y is. subst (λ z. StatementMeasures (roll-Stmt z)) is (on_statement y))
        (λ x y is. subst (λ z. BlockMeasures (roll-Block z)) is (on_block y))
