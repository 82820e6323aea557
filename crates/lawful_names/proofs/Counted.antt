-- The statements of a source that passes no limit are few.
use Rattle.std.proofs.Common.{◌≡◌, ℕ, zero, suc, ◌+◌, ◌≤◌, List, [], ◌∷◌, ◌++◌, Bool, true, false, map, length, refl, sym, ap, ◌∙◌, subst, arith}
use Rattle.std.specs.Prelude.{not, flat_map, nat_lt, Option, Some, None, option_map, is_some, if◌then◌else◌, slice_set}
use Rattle.std.specs.List.{list_all, filter}
use Rattle.sat_base.specs.declared.fault.FaultKind.TheVariants as fault
use Rattle.sat_base.specs.declared.limits.TheConstants.{STATEMENTS}
use Rattle.sat_base.specs.declared.name.At.{At}
use Rattle.c_scopes.specs.Scopes.{Known}
use Rattle.c_tree.specs.declared.function.Function.{Function}
use Rattle.c_tree.specs.declared.program.Item.{Item}
use Rattle.c_tree.specs.declared.program.Item.TheVariants as items_of
use Rattle.c_tree.specs.declared.program.Program.{Program}
use Rattle.c_tree.specs.declared.statement.Block.{Block, ind-Block, roll-Block}
use Rattle.c_tree.specs.declared.statement.Stmt.TheOpen as node
use Rattle.c_tree.specs.declared.statement.Stmt.{Stmt, map-Stmt, roll-Stmt}
use Rattle.c_tree.specs.declared.statement.Stmt.TheVariants as stmt
use Rattle.c_typed.specs.declared.call.TypedArg.{TypedArg}
use Rattle.c_typed.specs.declared.expression.TypedExpr.{TypedExpr}
use Rattle.c_typed.specs.declared.simple.TypedSimple.{TypedSimple}
use Rattle.c_typed.specs.declared.simple.TypedSimple.TheVariants as simple
use Rattle.c_typed.specs.declared.statement.Start.{Start}
use Rattle.c_typed.specs.declared.statement.TypedBlock.{TypedBlock}
use Rattle.c_typed.specs.declared.statement.TypedStmt.{TypedStmt}
use Rattle.c_typed.specs.declared.typed.Typed.{Typed}
use Rattle.c_typed.specs.declared.typed.TypedFunction.{TypedFunction}
use Rattle.c_seen.specs.declared.functions.Declaration.{Declaration}
use Rattle.c_seen.specs.declared.seen.Seen.{Seen}
use Rattle.c_seen.specs.declared.seen.Seen.TheVariants as seen
use Rattle.c_seen.specs.declared.statements.Spot.{Spot as SeenSpot}
use Rattle.c_seen.specs.Declarations.{number, number_if_any, seen_in_objects, seen_in_lists, after_lists, seen_in_parameters, after_parameters}
use Rattle.c_seen.specs.Meanings.{Names}
use Rattle.c_seen.specs.Sources as seen_sources
use Rattle.c_seen.specs.Sources.{body_spot, seen_in_body, seen_in_function, seen_in_items, functions_after, seen_of, end_of}
use Rattle.c_seen.specs.Statements.{simples, seen_in_statement, seen_in_block, seen_in_statements}
use Rattle.c_seen.proofs.Statements_seen as sees
use Rattle.c_faults.specs.declared.limits.Quantity.TheVariants as of
use Rattle.c_faults.specs.Faults.{limits}
use Rattle.c_faults.specs.Limits.{passed}
use Rattle.tied_names.specs.Ties.{Here}
use Rattle.tied_statements.specs.declared.statements.Inside.{Inside}
use Rattle.tied_statements.specs.Declarations.{with_objects, starts_in_lists}
use Rattle.tied_statements.specs.Statements.{Done, tied_statement, tied_block, tied_statements}
use Rattle.tied_statements.proofs.Statement_equations as ties
use Rattle.c_types.specs.Sources.{Source, number_of, functions_or, declared, parameters_of, inside_of, after_declaration, after_body, after_function, after_item, after_items}
use Rattle.c_types.specs.Tied.{IsTyped}
use Rattle.lawful_sources.specs.Things.{Written, Thing, Statement}
use Rattle.lawful_sources.specs.Expressions.{argument_look}
use Rattle.lawful_sources.specs.Lawful.{is_statement}
use Rattle.lawful_sources.specs.Statements.{Spot, Walk, in_option, in_simple, in_simples, in_value, in_returned, in_start, in_value_of, of_statement, of_block, all_of, in_statement, in_block, in_function, in_source}
use Rattle.lawful_sources.proofs.Passing.{PassesExpressions, Each, none, next, joined, argument-passes, place-passes, call-passes, expression-passes}
use Rattle.lawful_sources.proofs.Statements as stands
use Rattle.lawful_laws.proofs.Functions.{left, right}
use Rattle.lawful_names.proofs.Clean.{AllNone, none-kept, untold}
use Rattle.lawful_names.proofs.Faultless.{no-limit}
use Rattle.lawful_names.proofs.Sources.{start_of, names_at_start}
use Rattle.lawful_names.proofs.Spent.{spent, spent-append, within-limit}
use Rattle.lawful_names.proofs.Totals.{total, total-append, one_if_passed, count-total}

-- ---- no statement stands in an expression

abbrev is_other : Thing → Bool
is_other thing = not (is_statement thing)

passes : PassesExpressions is_other
passes = record {
  places = λ object marks aim. refl;
  calls = λ callee arguments is_needed. refl;
  arguments = λ is_view taken. refl;
  marks = λ at site kind. refl;
  conversions = λ is due. refl;
  constants = λ value. refl;
}

abbrev statements : List Thing → ℕ
statements things = total (one_if_passed is_statement) things

none-by : (is : Bool) (rest : ℕ) → not is ≡ true → rest ≡ 0 → (if is then 1 else 0) + rest ≡ 0
none-by true rest p q = cc
none-by false rest p q = omega arith

free : (things : List Thing) → list_all is_other things ≡ true → statements things ≡ 0
free [] p = refl
free (thing ∷ things) p = none-by (is_statement thing) _ (left (is_other thing) (list_all is_other things) p) (free things (right (is_other thing) (list_all is_other things) p))

-- no more statements stand there than are seen
record Counts (things : List Thing) (list : List Seen) : Type 0 where
  is : statements things ≤ spent of.Statements list

counts-none : (things : List Thing) (list : List Seen) → Each is_other things → Counts things list
counts-none things list p = let none : statements things ≡ 0 = free things p.all in record { is = omega arith }

counts-both : (xs ys : List Thing) (first second : List Seen) → Counts xs first → Counts ys second → Counts (xs ++ ys) (first ++ second)
counts-both xs ys first second p q =
    let things : statements (xs ++ ys) ≡ statements xs + statements ys = total-append (one_if_passed is_statement) xs ys in
    let list : spent of.Statements (first ++ second) ≡ spent of.Statements first + spent of.Statements second = spent-append of.Statements first second in
    let one : statements xs ≤ spent of.Statements first = p.is in
    let other : statements ys ≤ spent of.Statements second = q.is in record { is = omega arith }

counts-first : (at : At) (things : List Thing) (list : List Seen) → Counts things list → Counts (Statement ∷ things) (seen.Statement at ∷ list)
counts-first at things list p = let one : statements things ≤ spent of.Statements list = p.is in record { is = omega arith }

module _ (source : Typed) where
  value-free : (e : TypedExpr) → Each is_other (in_value source e)
  value-free e = expression-passes source is_other passes e None

  simple-free : (x : TypedSimple) → Each is_other (in_simple source x)
  unfolding in_simple
  simple-free (simple.Assign at place mark mark_at site value) =
      joined is_other _ _ (place-passes source is_other passes place Written) (next is_other _ _ refl (expression-passes source is_other passes value _))
  simple-free (simple.Step at place up mark_at site) = joined is_other _ _ (place-passes source is_other passes place Written) (next is_other _ [] refl (none is_other))
  simple-free (simple.SetOverflow at value) = expression-passes source is_other passes value _
  simple-free (simple.Call call) = call-passes source is_other passes call false

  simples-free : (xs : List TypedSimple) → Each is_other (in_simples source xs)
  simples-free [] = none is_other
  simples-free (x ∷ xs) = joined is_other _ _ (simple-free x) (simples-free xs)

  option-free : (value : Option TypedExpr) → Each is_other (in_option (in_value source) value)
  option-free None = none is_other
  option-free (Some e) = value-free e

  returned-free : (spot : Spot) (value : Option TypedExpr) → Each is_other (in_option (in_returned source spot) value)
  returned-free spot None = none is_other
  returned-free spot (Some e) = expression-passes source is_other passes e spot.gives

  one-start : (object : ℕ) (value : Option TypedArg) → Each is_other (in_value_of source object (option_map (argument_look source) value))
  one-start object None = next is_other _ [] refl (none is_other)
  one-start object (Some value) = joined is_other _ _ (argument-passes source is_other passes value _) (next is_other _ [] refl (none is_other))

  starts-free : (starts : List Start) → Each is_other (flat_map (in_start source) starts)
  starts-free [] = none is_other
  starts-free (start ∷ starts) = joined is_other _ _ (one-start start.object start.value) (starts-free starts)

  -- ---- the induction

  abbrev StatementCounts : Stmt → Type 0
  StatementCounts x = (here : Here) (inside : Inside) (names : Names) (seen_spot : SeenSpot) (spot : Spot) → Counts (in_statement source (tied_statement x here inside).value spot) (seen_in_statement x names seen_spot)

  abbrev BlockCounts : Block → Type 0
  BlockCounts x = (here : Here) (inside : Inside) (names : Names) (seen_spot : SeenSpot) (spot : Spot) → Counts (in_block source (tied_block x here inside).value spot) (seen_in_block x names seen_spot)

  abbrev SS : Type 0
  SS = (x : Stmt) × StatementCounts x

  abbrev SB : Type 0
  SB = (x : Block) × BlockCounts x

  step : (x : Stmt) (here : Here) (inside : Inside) (names : Names) (seen_spot : SeenSpot) (spot : Spot) (done : Done TypedStmt) (list : List Seen) (walk : Walk)
      → tied_statement x here inside ≡ done → seen_in_statement x names seen_spot ≡ list → in_statement source done.value ≡ walk → Counts (walk spot) list
      → Counts (in_statement source (tied_statement x here inside).value spot) (seen_in_statement x names seen_spot)
  step x here inside names seen_spot spot done list walk tied sees stands p =
      subst (λ (d : Done TypedStmt). Counts (in_statement source d.value spot) (seen_in_statement x names seen_spot)) (sym tied)
      (subst (λ (w : Walk). Counts (w spot) (seen_in_statement x names seen_spot)) (sym stands) (subst (λ (l : List Seen). Counts (walk spot) l) (sym sees) p))

  on_statement : (y : node.Stmt-F SS SB) → StatementCounts (roll-Stmt (map-Stmt SS SB Stmt Block (λ q. q.0) (λ q. q.0) y))
  unfolding of_statement
  on_statement (node.Empty at) = subst StatementCounts (sym (stmt.rolls-Empty at)) (λ here inside names seen_spot spot.
      step _ here inside names seen_spot spot _ _ _ (ties.tied-Empty at here inside) (sees.sees-Empty at names _) (stands.statement-Empty source at) (counts-first at _ _ (counts-none _ _ (none is_other))))
  on_statement (node.Block block) = subst StatementCounts (sym (stmt.rolls-Block block.0)) (λ here inside names seen_spot spot.
      step _ here inside names seen_spot spot _ _ _ (ties.tied-Block block.0 here inside) (sees.sees-Block block.0 names _) (stands.statement-Block source _) (counts-first _ _ _ (block.1 here inside names _ spot)))
  on_statement (node.Simple s) = subst StatementCounts (sym (stmt.rolls-Simple s)) (λ here inside names seen_spot spot.
      step _ here inside names seen_spot spot _ _ _ (ties.tied-Simple s here inside) (sees.sees-Simple s names _) (stands.statement-Simple source _) (counts-first _ _ _ (counts-none _ _ (simple-free _))))
  on_statement (node.If at cond one None) = subst StatementCounts (sym (stmt.rolls-If at cond one.0 None)) (λ here inside names seen_spot spot.
      step _ here inside names seen_spot spot _ _ _ (ties.tied-Then at cond one.0 here inside) (sees.sees-If at cond one.0 None names _) (stands.statement-Then source at _ _)
      (counts-first at _ _ (counts-both _ _ _ _ (counts-none _ _ (value-free _)) (counts-both _ _ _ _ (one.1 here inside names seen_spot spot) (counts-none _ _ (none is_other))))))
  on_statement (node.If at cond one (Some other)) = subst StatementCounts (sym (stmt.rolls-If at cond one.0 (Some other.0))) (λ here inside names seen_spot spot.
      step _ here inside names seen_spot spot _ _ _ (ties.tied-Else at cond one.0 other.0 here inside) (sees.sees-If at cond one.0 (Some other.0) names _) (stands.statement-Else source at _ _ _)
      (counts-first at _ _ (counts-both _ _ _ _ (counts-none _ _ (value-free _)) (counts-both _ _ _ _ (one.1 here inside names seen_spot spot)
      (other.1 (with_objects here (tied_statement one.0 here inside).objects) inside names seen_spot spot)))))
  on_statement (node.While at cond body) = subst StatementCounts (sym (stmt.rolls-While at cond body.0)) (λ here inside names seen_spot spot.
      step _ here inside names seen_spot spot _ _ _ (ties.tied-While at cond body.0 here inside) (sees.sees-While at cond body.0 names _) (stands.statement-While source at _ _)
      (counts-first at _ _ (counts-both _ _ _ _ (counts-none _ _ (value-free _)) (body.1 here inside names _ _))))
  on_statement (node.Do at body cond) = subst StatementCounts (sym (stmt.rolls-Do at body.0 cond)) (λ here inside names seen_spot spot.
      step _ here inside names seen_spot spot _ _ _ (ties.tied-Do at body.0 cond here inside) (sees.sees-Do at body.0 cond names _) (stands.statement-Do source at _ _)
      (counts-first at _ _ (counts-both _ _ _ _ (body.1 here inside names _ _) (counts-none _ _ (value-free _)))))
  on_statement (node.For at firsts cond lasts body) = subst StatementCounts (sym (stmt.rolls-For at firsts cond lasts body.0)) (λ here inside names seen_spot spot.
      step _ here inside names seen_spot spot _ _ _ (ties.tied-For at firsts cond lasts body.0 here inside) (sees.sees-For at firsts cond lasts body.0 names _) (stands.statement-For source at _ _ _ _)
      (counts-first at _ _ (counts-both _ _ (simples names firsts) _ (counts-none _ _ (simples-free _)) (counts-both _ _ (number_if_any names cond) _ (counts-none _ _ (option-free _))
      (counts-both _ _ (simples names lasts) _ (counts-none _ _ (simples-free _)) (body.1 here inside names _ _))))))
  on_statement (node.Break at) = subst StatementCounts (sym (stmt.rolls-Break at)) (λ here inside names seen_spot spot.
      step _ here inside names seen_spot spot _ _ _ (ties.tied-Break at here inside) (sees.sees-Break at names _) (stands.statement-Break source at) (counts-first at _ _ (counts-none _ _ (next is_other _ [] refl (none is_other)))))
  on_statement (node.Continue at) = subst StatementCounts (sym (stmt.rolls-Continue at)) (λ here inside names seen_spot spot.
      step _ here inside names seen_spot spot _ _ _ (ties.tied-Continue at here inside) (sees.sees-Continue at names _) (stands.statement-Continue source at) (counts-first at _ _ (counts-none _ _ (next is_other _ [] refl (none is_other)))))
  on_statement (node.Return at value) = subst StatementCounts (sym (stmt.rolls-Return at value)) (λ here inside names seen_spot spot.
      step _ here inside names seen_spot spot _ _ _ (ties.tied-Return at value here inside) (sees.sees-Return at value names _) (stands.statement-Return source at _)
      (counts-first at _ _ (counts-none _ _ (next is_other _ _ refl (returned-free spot _)))))

  listed : (ys : List SS) (here : Here) (inside : Inside) (names : Names) (seen_spot : SeenSpot) (spot : Spot)
      → Counts (all_of (map (in_statement source) (tied_statements (map (λ (q : SS). q.0) ys) here inside).value) spot) (seen_in_statements (map (λ (q : SS). q.0) ys) names seen_spot)
  listed [] here inside names seen_spot spot = counts-none _ _ (none is_other)
  listed (y ∷ ys) here inside names seen_spot spot =
      counts-both _ _ _ _ (y.1 here inside names seen_spot spot) (listed ys (with_objects here (tied_statement y.0 here inside).objects) inside names seen_spot spot)

  on_block : (y : node.Block-F SS SB) → BlockCounts (record { at = y.at; objects = y.objects; stmts = map (λ (q : SS). q.0) y.stmts })
  unfolding of_block
  on_block y here inside names seen_spot spot =
      let block : Block = record { at = y.at; objects = y.objects; stmts = map (λ (q : SS). q.0) y.stmts } in
      let after : Here = (starts_in_lists here inside.function y.objects).after in
      let starts : List Thing = flat_map (in_start source) (starts_in_lists here inside.function y.objects).value in
      subst (λ (d : Done TypedBlock). Counts (in_block source d.value spot) (seen_in_block block names seen_spot)) (sym (ties.block-parts block here inside))
      (subst (λ (w : Walk). Counts (w spot) (seen_in_block block names seen_spot)) (sym (stands.block-is source _))
      (subst (λ (l : List Seen). Counts (starts ++ all_of (map (in_statement source) (tied_statements block.stmts after inside).value) spot) l) (sym (sees.block-parts block names seen_spot))
      (counts-both starts _ (seen_in_lists names seen_spot.depth y.objects) _ (counts-none _ _ (starts-free (starts_in_lists here inside.function y.objects).value))
      (listed y.stmts after inside (after_lists names seen_spot.depth y.objects) seen_spot spot))))

  block-counts : (x : Block) → BlockCounts x
  block-counts = ind-Block StatementCounts BlockCounts
      (λ x y is. subst (λ z. StatementCounts (roll-Stmt z)) is (on_statement y))
      (λ x y is. subst (λ z. BlockCounts (roll-Block z)) is (on_block y))

  -- ---- items

  abbrev of_function : TypedFunction → ℕ
  of_function function = statements (in_function source function)

  set-counts : (functions : List TypedFunction) (number : ℕ) (one : TypedFunction) → total of_function (slice_set functions number one) ≤ total of_function functions + of_function one
  set-counts [] number one = omega arith
  set-counts (f ∷ functions) zero one = omega arith
  set-counts (f ∷ functions) (suc number) one = omega (arith, set-counts functions number one)

  if-counts : (test : Bool) (functions : List TypedFunction) (number : ℕ) (one : TypedFunction) → total of_function (if test then slice_set functions number one else functions) ≤ total of_function functions + of_function one
  if-counts true functions number one = set-counts functions number one
  if-counts false functions number one = omega arith

  or-counts : (o : Option ℕ) (functions : List TypedFunction) (g : Function) → total of_function (functions_or o functions g) ≡ total of_function functions
  or-counts None functions g = omega (arith, total-append of_function functions (declared g ∷ []))
  or-counts (Some number) functions g = refl

  body-counts : (s : Source) (number : ℕ) (g : Function) (body : Option Block) (names : Names) → total of_function (after_body s number g body).functions ≤ total of_function s.functions + spent of.Statements (seen_in_body names g body)
  body-counts s number g None names = omega arith
  body-counts s number g (Some body) names =
      let inside : Inside = inside_of number g in
      let counts : Counts (in_block source (tied_block body (parameters_of s.here number g.params).after inside).value (record { in_loop = false; gives = g.gives })) (seen_in_block body names (body_spot g)) =
      block-counts body (parameters_of s.here number g.params).after inside names (body_spot g) (record { in_loop = false; gives = g.gives }) in
      let one : statements (in_block source (tied_block body (parameters_of s.here number g.params).after inside).value (record { in_loop = false; gives = g.gives })) ≤ spent of.Statements (seen_in_block body names (body_spot g)) = counts.is in
      let set : total of_function (after_body s number g (Some body)).functions ≤ total of_function s.functions + statements (in_block source (tied_block body (parameters_of s.here number g.params).after inside).value (record { in_loop = false; gives = g.gives })) =
      if-counts (nat_lt number (length s.functions)) s.functions number _ in omega arith

  items-count : (s : Source) (names : Names) (before : List (Known Declaration)) (item : ℕ) (list : List Item) → total of_function (after_items s item list).functions ≤ total of_function s.functions + spent of.Statements (seen_in_items names before item list)
  items-count s names before item [] = omega arith
  items-count s names before item (items_of.Objects list ∷ rest) =
      let more : total of_function (after_items (after_item s item (items_of.Objects list)) (item + 1) rest).functions ≤ total of_function s.functions + spent of.Statements (seen_in_items (seen_sources.after_item names item (items_of.Objects list)) before (item + 1) rest) =
      items-count (after_item s item (items_of.Objects list)) (seen_sources.after_item names item (items_of.Objects list)) before (item + 1) rest in
      let all : spent of.Statements (seen_in_items names before item (items_of.Objects list ∷ rest)) ≡ spent of.Statements (seen_in_objects names 0 list.decls) + spent of.Statements (seen_in_items (seen_sources.after_item names item (items_of.Objects list)) before (item + 1) rest) =
      spent-append of.Statements (seen_in_objects names 0 list.decls) _ in omega arith
  items-count s names before item (items_of.Function g ∷ rest) =
      let own : Names = seen_sources.after_function names item g in
      let after : List (Known Declaration) = functions_after names.items before item (items_of.Function g) in
      let declared_too : total of_function (after_declaration s item g).functions ≡ total of_function s.functions = or-counts _ s.functions g in
      let one : total of_function (after_function s item g).functions ≤ total of_function (after_declaration s item g).functions + spent of.Statements (seen_in_body (after_parameters own g.params) g g.body) =
      body-counts (after_declaration s item g) (number_of s g) g g.body (after_parameters own g.params) in
      let parts : spent of.Statements (seen_in_parameters own (is_some g.body) g.params ++ seen_in_body (after_parameters own g.params) g g.body)
      ≡ spent of.Statements (seen_in_parameters own (is_some g.body) g.params) + spent of.Statements (seen_in_body (after_parameters own g.params) g g.body) =
      spent-append of.Statements (seen_in_parameters own (is_some g.body) g.params) _ in
      let more : total of_function (after_items (after_function s item g) (item + 1) rest).functions ≤ total of_function (after_function s item g).functions + spent of.Statements (seen_in_items own after (item + 1) rest) =
      items-count (after_function s item g) own after (item + 1) rest in
      let all : spent of.Statements (seen_in_items names before item (items_of.Function g ∷ rest)) ≡ spent of.Statements (seen_in_function names before item g) + spent of.Statements (seen_in_items own after (item + 1) rest) =
      spent-append of.Statements (seen_in_function names before item g) _ in omega arith
  items-count s names before item (items_of.ExternFlag at ∷ rest) = items-count s names before (item + 1) rest

  source-counts : (functions : List TypedFunction) → statements (flat_map (in_function source) functions) ≡ total of_function functions
  source-counts [] = refl
  source-counts (f ∷ functions) = total-append (one_if_passed is_statement) (in_function source f) (flat_map (in_function source) functions) ∙ ap (λ (n : ℕ). of_function f + n) (source-counts functions)

pub statements-few : (program : Program) (source : Typed) → IsTyped program source → length (filter is_statement (in_source source)) ≤ STATEMENTS
statements-few program source is =
    let all : AllNone (limits (seen_of program)) = none-kept (limits (seen_of program)) (no-limit program is.faultless) in
    let most : spent of.Statements (seen_of program) ≤ STATEMENTS = within-limit of.Statements (λ left s. refl) STATEMENTS (seen_of program) (untold fault.TooManyStatements (passed of.Statements (seen_of program)) all.1.1.1.1.1.0) in
    let parts : spent of.Statements (seen_of program) ≡ spent of.Statements (seen_in_items (names_at_start program) [] 0 program.items) + spent of.Statements (end_of program ∷ []) =
    spent-append of.Statements (seen_in_items (names_at_start program) [] 0 program.items) (end_of program ∷ []) in
    let few : total (of_function source) (after_items (start_of program source) 0 program.items).functions ≤ 0 + spent of.Statements (seen_in_items (names_at_start program) [] 0 program.items) =
    items-count source (start_of program source) (names_at_start program) [] 0 program.items in
    let same : total (of_function source) source.functions ≡ total (of_function source) (after_items (start_of program source) 0 program.items).functions = ap (total (of_function source)) is.tied.functions in
    let flat : statements (in_source source) ≡ total (of_function source) source.functions = source-counts source source.functions in
    let count : length (filter is_statement (in_source source)) ≡ statements (in_source source) = count-total is_statement (in_source source) in omega arith
