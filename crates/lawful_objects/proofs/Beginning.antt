-- The objects that are added while a body is tied are those that it begins, in their order: an induction over the tree.
use Rattle.std.proofs.Common.{◌≡◌, ℕ, List, [], ◌∷◌, ◌++◌, false, length, map, refl, sym, subst}
use Rattle.std.specs.Prelude.{flat_map, option_map, slice_get, Option, Some, None}
use Rattle.std.proofs.lemmas.Grind.{flat_map-append}
use Rattle.c_tree.specs.declared.declaration.Decl.{Decl}
use Rattle.c_tree.specs.declared.declaration.Objects.{Objects}
use Rattle.c_tree.specs.declared.statement.Block.{Block, ind-Block, roll-Block}
use Rattle.c_tree.specs.declared.statement.Stmt.TheOpen as node
use Rattle.c_tree.specs.declared.statement.Stmt.{Stmt, map-Stmt, roll-Stmt}
use Rattle.c_tree.specs.declared.statement.Stmt.TheVariants as stmt
use Rattle.c_typed.specs.declared.call.TypedArg.{TypedArg}
use Rattle.c_typed.specs.declared.expression.TypedExpr.{TypedExpr}
use Rattle.c_typed.specs.declared.simple.TypedSimple.{TypedSimple}
use Rattle.c_typed.specs.declared.simple.TypedSimple.TheVariants as simple
use Rattle.c_typed.specs.declared.statement.TypedBlock.{TypedBlock}
use Rattle.c_typed.specs.declared.statement.TypedStmt.{TypedStmt}
use Rattle.c_typed.specs.declared.typed.Typed.{Typed}
use Rattle.operator_meaning.specs.declared.object.Object.{Object}
use Rattle.tied_names.specs.Ties.{Here}
use Rattle.tied_statements.specs.declared.statements.Inside.{Inside}
use Rattle.tied_statements.specs.Declarations.{with_objects, start_value, after_declared, starts_of, starts_in_lists}
use Rattle.tied_statements.specs.Statements.{Done, tied_statement, tied_block, tied_statements}
use Rattle.tied_statements.proofs.Statement_equations as ties
use Rattle.lawful_sources.specs.Things.{Written, Thing, Statement, taken_by_object}
use Rattle.lawful_sources.specs.Expressions.{argument_look}
use Rattle.lawful_sources.specs.Statements.{Spot, looped, Walk, in_option, in_simple, in_simples, in_value, in_returned, in_start, in_value_of, of_statement, of_block, all_of, in_statement, in_block}
use Rattle.lawful_sources.proofs.Begun.{begins_nothing, expressions-begin-nothing}
use Rattle.lawful_sources.proofs.Passing.{Each, none, next, joined, argument-passes, place-passes, call-passes, expression-passes}
use Rattle.lawful_sources.proofs.Statements as stands
use Rattle.lawful_objects.proofs.Adding.{adds-one, Begins, begins-nothing, begins-more}

module _ (source : Typed) where
  simple-begins-nothing : (x : TypedSimple) → Each begins_nothing (in_simple source x)
  unfolding in_simple
  simple-begins-nothing (simple.Assign at place mark mark_at site value) =
      joined begins_nothing _ _ (place-passes source begins_nothing expressions-begin-nothing place Written)
      (next begins_nothing _ _ refl (expression-passes source begins_nothing expressions-begin-nothing value _))
  simple-begins-nothing (simple.Step at place up mark_at site) =
      joined begins_nothing _ _ (place-passes source begins_nothing expressions-begin-nothing place Written) (next begins_nothing _ _ refl (none begins_nothing))
  simple-begins-nothing (simple.SetOverflow at value) = expression-passes source begins_nothing expressions-begin-nothing value _
  simple-begins-nothing (simple.Call call) = call-passes source begins_nothing expressions-begin-nothing call false

  simples-begin-nothing : (xs : List TypedSimple) → Each begins_nothing (in_simples source xs)
  simples-begin-nothing [] = none begins_nothing
  simples-begin-nothing (x ∷ xs) = joined begins_nothing _ _ (simple-begins-nothing x) (simples-begin-nothing xs)

  value-begins-nothing : (value : Option TypedExpr) → Each begins_nothing (in_option (in_value source) value)
  value-begins-nothing None = none begins_nothing
  value-begins-nothing (Some e) = expression-passes source begins_nothing expressions-begin-nothing e None

  returned-begins-nothing : (spot : Spot) (value : Option TypedExpr) → Each begins_nothing (in_option (in_returned source spot) value)
  returned-begins-nothing spot None = none begins_nothing
  returned-begins-nothing spot (Some e) = expression-passes source begins_nothing expressions-begin-nothing e spot.gives

  module _ (function number : ℕ) where
    -- ---- declarations

    one-begins : (objects : List Object) (one : Object) (value : Option TypedArg) → one.function ≡ Some number
        → Begins function number objects (objects ++ one ∷ []) (in_value_of source (length objects) (option_map (argument_look source) value))
    one-begins objects one None p = record { adds = adds-one function number objects one p }
    one-begins objects one (Some value) p =
        begins-more function number _ _ _ _ _ (begins-nothing function number objects _ (argument-passes source begins_nothing expressions-begin-nothing value (taken_by_object (slice_get source.objects (length objects)))))
        (record { adds = adds-one function number objects one p })

    starts-begin : (here : Here) (decls : List Decl) → Begins function number here.objects (starts_of here number decls).after.objects (flat_map (in_start source) (starts_of here number decls).value)
    starts-begin here [] = begins-nothing function number here.objects [] (none begins_nothing)
    starts-begin here (decl ∷ decls) =
        begins-more function number _ _ _ _ _ (one-begins here.objects _ (start_value here decl).value refl) (starts-begin (after_declared here (Some number) decl) decls)

    lists-begin : (here : Here) (lists : List Objects) → Begins function number here.objects (starts_in_lists here number lists).after.objects (flat_map (in_start source) (starts_in_lists here number lists).value)
    lists-begin here [] = begins-nothing function number here.objects [] (none begins_nothing)
    lists-begin here (list ∷ lists) =
        subst (Begins function number here.objects (starts_in_lists here number (list ∷ lists)).after.objects) (sym (flat_map-append (in_start source) (starts_of here number list.decls).value _))
        (begins-more function number _ _ _ _ _ (starts-begin here list.decls) (lists-begin (starts_of here number list.decls).after lists))

  -- ---- statements

  module _ (function : ℕ) where
    abbrev StatementBegins : Stmt → Type 0
    StatementBegins x = (here : Here) (inside : Inside) (spot : Spot) → Begins function inside.function here.objects (tied_statement x here inside).objects (in_statement source (tied_statement x here inside).value spot)

    abbrev BlockBegins : Block → Type 0
    BlockBegins x = (here : Here) (inside : Inside) (spot : Spot) → Begins function inside.function here.objects (tied_block x here inside).objects (in_block source (tied_block x here inside).value spot)

    abbrev SS : Type 0
    SS = (x : Stmt) × StatementBegins x

    abbrev SB : Type 0
    SB = (x : Block) × BlockBegins x

    step : (x : Stmt) (here : Here) (inside : Inside) (spot : Spot) (done : Done TypedStmt) (walk : Walk) → tied_statement x here inside ≡ done → in_statement source done.value ≡ walk
        → Begins function inside.function here.objects done.objects (walk spot) → Begins function inside.function here.objects (tied_statement x here inside).objects (in_statement source (tied_statement x here inside).value spot)
    step x here inside spot done walk tied stands p =
        subst (λ (d : Done TypedStmt). Begins function inside.function here.objects d.objects (in_statement source d.value spot)) (sym tied)
        (subst (λ (w : Walk). Begins function inside.function here.objects done.objects (w spot)) (sym stands) p)

    still : (inside : Inside) (objects : List Object) (things : List Thing) → Each begins_nothing things → Begins function inside.function objects objects things
    still inside = begins-nothing function inside.function

    more : (inside : Inside) (before between after : List Object) (xs ys : List Thing) → Begins function inside.function before between xs → Begins function inside.function between after ys → Begins function inside.function before after (xs ++ ys)
    more inside = begins-more function inside.function

    first : (before after : List Object) (inside : Inside) (things : List Thing) → Begins function inside.function before after things → Begins function inside.function before after (Statement ∷ things)
    first before after inside things p = record { adds = p.adds }

    number : (e : TypedExpr) → Each begins_nothing (in_value source e)
    number e = expression-passes source begins_nothing expressions-begin-nothing e None

    on_statement : (y : node.Stmt-F SS SB) → StatementBegins (roll-Stmt (map-Stmt SS SB Stmt Block (λ q. q.0) (λ q. q.0) y))
    unfolding of_statement
    on_statement (node.Empty at) = subst StatementBegins (sym (stmt.rolls-Empty at)) (λ here inside spot.
        step _ here inside spot _ _ (ties.tied-Empty at here inside) (stands.statement-Empty source at) (first _ _ inside _ (still inside here.objects [] (none begins_nothing))))
    on_statement (node.Block block) = subst StatementBegins (sym (stmt.rolls-Block block.0)) (λ here inside spot.
        step _ here inside spot _ _ (ties.tied-Block block.0 here inside) (stands.statement-Block source _) (first _ _ inside _ (block.1 here inside spot)))
    on_statement (node.Simple s) = subst StatementBegins (sym (stmt.rolls-Simple s)) (λ here inside spot.
        step _ here inside spot _ _ (ties.tied-Simple s here inside) (stands.statement-Simple source _) (first _ _ inside _ (still inside here.objects _ (simple-begins-nothing _))))
    on_statement (node.If at cond one None) = subst StatementBegins (sym (stmt.rolls-If at cond one.0 None)) (λ here inside spot.
        step _ here inside spot _ _ (ties.tied-Then at cond one.0 here inside) (stands.statement-Then source at _ _)
        (first _ _ inside _ (more inside _ _ _ _ _ (still inside here.objects _ (number _)) (more inside _ _ _ _ _ (one.1 here inside spot) (still inside _ [] (none begins_nothing))))))
    on_statement (node.If at cond one (Some other)) = subst StatementBegins (sym (stmt.rolls-If at cond one.0 (Some other.0))) (λ here inside spot.
        step _ here inside spot _ _ (ties.tied-Else at cond one.0 other.0 here inside) (stands.statement-Else source at _ _ _)
        (first _ _ inside _ (more inside _ _ _ _ _ (still inside here.objects _ (number _))
        (more inside _ _ _ _ _ (one.1 here inside spot) (other.1 (with_objects here (tied_statement one.0 here inside).objects) inside spot)))))
    on_statement (node.While at cond body) = subst StatementBegins (sym (stmt.rolls-While at cond body.0)) (λ here inside spot.
        step _ here inside spot _ _ (ties.tied-While at cond body.0 here inside) (stands.statement-While source at _ _)
        (first _ _ inside _ (more inside _ _ _ _ _ (still inside here.objects _ (number _)) (body.1 here inside (looped spot)))))
    on_statement (node.Do at body cond) = subst StatementBegins (sym (stmt.rolls-Do at body.0 cond)) (λ here inside spot.
        step _ here inside spot _ _ (ties.tied-Do at body.0 cond here inside) (stands.statement-Do source at _ _)
        (first _ _ inside _ (more inside _ _ _ _ _ (body.1 here inside (looped spot)) (still inside _ _ (number _)))))
    on_statement (node.For at firsts cond lasts body) = subst StatementBegins (sym (stmt.rolls-For at firsts cond lasts body.0)) (λ here inside spot.
        step _ here inside spot _ _ (ties.tied-For at firsts cond lasts body.0 here inside) (stands.statement-For source at _ _ _ _)
        (first _ _ inside _ (more inside _ _ _ _ _ (still inside here.objects _ (simples-begin-nothing _)) (more inside _ _ _ _ _ (still inside here.objects _ (value-begins-nothing _))
        (more inside _ _ _ _ _ (still inside here.objects _ (simples-begin-nothing _)) (body.1 here inside (looped spot)))))))
    on_statement (node.Break at) = subst StatementBegins (sym (stmt.rolls-Break at)) (λ here inside spot.
        step _ here inside spot _ _ (ties.tied-Break at here inside) (stands.statement-Break source at) (still inside here.objects _ (next begins_nothing _ _ refl (next begins_nothing _ _ refl (none begins_nothing)))))
    on_statement (node.Continue at) = subst StatementBegins (sym (stmt.rolls-Continue at)) (λ here inside spot.
        step _ here inside spot _ _ (ties.tied-Continue at here inside) (stands.statement-Continue source at) (still inside here.objects _ (next begins_nothing _ _ refl (next begins_nothing _ _ refl (none begins_nothing)))))
    on_statement (node.Return at value) = subst StatementBegins (sym (stmt.rolls-Return at value)) (λ here inside spot.
        step _ here inside spot _ _ (ties.tied-Return at value here inside) (stands.statement-Return source at _) (still inside here.objects _ (next begins_nothing _ _ refl (next begins_nothing _ _ refl (returned-begins-nothing spot _)))))

    listed : (ys : List SS) (here : Here) (inside : Inside) (spot : Spot) → Begins function inside.function here.objects (tied_statements (map (λ (q : SS). q.0) ys) here inside).objects
        (all_of (map (in_statement source) (tied_statements (map (λ (q : SS). q.0) ys) here inside).value) spot)
    listed [] here inside spot = still inside here.objects [] (none begins_nothing)
    listed (y ∷ ys) here inside spot = more inside _ _ _ _ _ (y.1 here inside spot) (listed ys (with_objects here (tied_statement y.0 here inside).objects) inside spot)

    on_block : (y : node.Block-F SS SB) → BlockBegins (record { at = y.at; objects = y.objects; stmts = map (λ (q : SS). q.0) y.stmts })
    unfolding of_block
    on_block y here inside spot =
        let block : Block = record { at = y.at; objects = y.objects; stmts = map (λ (q : SS). q.0) y.stmts } in
        subst (λ (d : Done TypedBlock). Begins function inside.function here.objects d.objects (in_block source d.value spot)) (sym (ties.block-parts block here inside))
        (subst (λ (w : Walk). Begins function inside.function here.objects (tied_statements block.stmts (starts_in_lists here inside.function y.objects).after inside).objects (w spot)) (sym (stands.block-is source _))
        (more inside _ _ _ _ _ (lists-begin function inside.function here y.objects) (listed y.stmts (starts_in_lists here inside.function y.objects).after inside spot)))

    pub block-begins : (x : Block) → BlockBegins x
    block-begins = ind-Block StatementBegins BlockBegins
        (λ x y is. subst (λ z. StatementBegins (roll-Stmt z)) is (on_statement y))
        (λ x y is. subst (λ z. BlockBegins (roll-Block z)) is (on_block y))
