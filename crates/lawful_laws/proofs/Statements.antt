-- What is seen to stand rightly in a statement stands rightly once its names are tied: an induction over the tree. The
-- test passes all that may stand in an expression, so it is about statements alone.
use Rattle.std.proofs.Common.{◌≡◌, ℕ, suc, List, [], ◌∷◌, ◌++◌, Bool, true, false, map, refl, sym, ap, ◌∙◌, subst}
use Rattle.std.specs.Prelude.{ℤ, flat_map, Option, Some, None, option_map, is_some}
use Rattle.std.specs.List.{list_all}
use Rattle.std.proofs.lemmas.List.Folds.{list_all-append}
use Rattle.sat_base.specs.declared.name.At.{At}
use Rattle.sat_base.specs.declared.width.Width.{Width}
use Rattle.c_tree.specs.declared.expression.Expr.{Expr}
use Rattle.c_tree.specs.declared.statement.Block.{Block, ind-Block, roll-Block}
use Rattle.c_tree.specs.declared.statement.Stmt.TheOpen as node
use Rattle.c_tree.specs.declared.statement.Stmt.{Stmt, map-Stmt, roll-Stmt}
use Rattle.c_tree.specs.declared.statement.Stmt.TheVariants as stmt
use Rattle.c_typed.specs.declared.call.TypedArg.{TypedArg}
use Rattle.c_typed.specs.declared.expression.TypedExpr.{TypedExpr}
use Rattle.c_typed.specs.declared.simple.TypedSimple.{TypedSimple}
use Rattle.c_typed.specs.declared.simple.TypedSimple.TheVariants as simple
use Rattle.c_typed.specs.declared.statement.Start.{Start}
use Rattle.c_typed.specs.declared.statement.TypedBlock.{TypedBlock}
use Rattle.c_typed.specs.declared.statement.TypedStmt.{TypedStmt}
use Rattle.c_typed.specs.declared.typed.Typed.{Typed}
use Rattle.c_seen.specs.declared.seen.Seen.{Seen}
use Rattle.c_seen.specs.declared.seen.Seen.TheVariants as seen
use Rattle.c_seen.specs.Declarations.{number_if_any, after_lists}
use Rattle.c_seen.specs.Meanings.{Names}
use Rattle.c_seen.specs.Statements.{simples, seen_in_statement, seen_in_block, seen_in_statements}
use Rattle.c_seen.specs.declared.statements.Spot.{Spot as SeenSpot}
use Rattle.c_seen.proofs.Statements_seen as sees
use Rattle.tied_names.specs.Ties.{Here}
use Rattle.tied_statements.specs.declared.statements.Inside.{Inside}
use Rattle.tied_statements.specs.Declarations.{with_objects, starts_in_lists}
use Rattle.tied_statements.specs.Statements.{Done, returned, tied_if_any, tied_statement, tied_block, tied_statements}
use Rattle.tied_statements.proofs.Statement_equations as ties
use Rattle.lawful_sources.specs.Things.{Written, Thing, Begins, Statement, Leave, Return}
use Rattle.lawful_sources.specs.Expressions.{argument_look}
use Rattle.lawful_sources.specs.Statements.{Spot, Walk, in_option, in_simple, in_simples, in_value, in_returned, in_start, in_value_of, of_statement, of_block, all_of, in_statement, in_block}
use Rattle.lawful_sources.proofs.Passing.{PassesExpressions, Each, none, next, joined, argument-passes, place-passes, call-passes, expression-passes}
use Rattle.lawful_sources.proofs.Statements as stands
use Rattle.lawful_laws.proofs.Functions.{left, right}

-- what the test passes beside expressions, by what is sound among the things seen
pub record Follows (test : Thing → Bool) (sound : Seen → Bool) : Type 0 where
  pub expressions : PassesExpressions test
  pub statements : test Statement ≡ true
  pub begins : (object : ℕ) (value : Option (Option ℤ)) → test (Begins object value) ≡ true
  pub leaves : (at : At) (in_loop : Bool) → sound (seen.Leave at in_loop) ≡ true → test (Leave in_loop) ≡ true
  pub returns : (at : At) (has_value gives : Bool) → sound (seen.Return at has_value gives) ≡ true → test (Return has_value gives) ≡ true

pub earlier : (sound : Seen → Bool) (xs ys : List Seen) → Each sound (xs ++ ys) → Each sound xs
earlier sound xs ys p = record { all = left (list_all sound xs) (list_all sound ys) (sym (list_all-append sound xs ys) ∙ p.all) }

pub later : (sound : Seen → Bool) (xs ys : List Seen) → Each sound (xs ++ ys) → Each sound ys
later sound xs ys p = record { all = right (list_all sound xs) (list_all sound ys) (sym (list_all-append sound xs ys) ∙ p.all) }

pub tail : (sound : Seen → Bool) (x : Seen) (xs : List Seen) → Each sound (x ∷ xs) → Each sound xs
tail sound x xs p = record { all = right (sound x) (list_all sound xs) p.all }

pub head : (sound : Seen → Bool) (x : Seen) (xs : List Seen) → Each sound (x ∷ xs) → sound x ≡ true
head sound x xs p = left (sound x) (list_all sound xs) p.all

-- a value stays where it is converted
value-stays : (gives : Option Width) (here : Here) (value : Option Expr) → is_some (returned gives (tied_if_any here value).value) ≡ is_some value
value-stays None here None = refl
value-stays None here (Some e) = refl
value-stays (Some width) here None = refl
value-stays (Some width) here (Some e) = refl

module _ (source : Typed) (test : Thing → Bool) (sound : Seen → Bool) (follows : Follows test sound) where
  simple-passes : (x : TypedSimple) → Each test (in_simple source x)
  unfolding in_simple
  simple-passes (simple.Assign at place mark mark_at site value) =
      joined test _ _ (place-passes source test follows.expressions place Written) (next test _ _ (follows.expressions.marks mark_at site _) (expression-passes source test follows.expressions value _))
  simple-passes (simple.Step at place up mark_at site) =
      joined test _ _ (place-passes source test follows.expressions place Written) (next test _ _ (follows.expressions.marks mark_at site _) (none test))
  simple-passes (simple.SetOverflow at value) = expression-passes source test follows.expressions value _
  simple-passes (simple.Call call) = call-passes source test follows.expressions call false

  simples-pass : (xs : List TypedSimple) → Each test (in_simples source xs)
  simples-pass [] = none test
  simples-pass (x ∷ xs) = joined test _ _ (simple-passes x) (simples-pass xs)

  value-passes : (value : Option TypedExpr) → Each test (in_option (in_value source) value)
  value-passes None = none test
  value-passes (Some e) = expression-passes source test follows.expressions e None

  returned-passes : (spot : Spot) (value : Option TypedExpr) → Each test (in_option (in_returned source spot) value)
  returned-passes spot None = none test
  returned-passes spot (Some e) = expression-passes source test follows.expressions e spot.gives

  one-start : (object : ℕ) (value : Option TypedArg) → Each test (in_value_of source object (option_map (argument_look source) value))
  one-start object None = next test (Begins object None) [] (follows.begins object None) (none test)
  one-start object (Some value) = joined test _ _ (argument-passes source test follows.expressions value _) (next test _ [] (follows.begins object _) (none test))

  start-passes : (start : Start) → Each test (in_start source start)
  start-passes start = one-start start.object start.value

  starts-pass : (starts : List Start) → Each test (flat_map (in_start source) starts)
  starts-pass [] = none test
  starts-pass (start ∷ starts) = joined test _ _ (start-passes start) (starts-pass starts)

  -- ---- the induction

  abbrev pub seen_spot : ℕ → Bool → Option Width → SeenSpot
  seen_spot depth in_loop gives = record { depth = depth; in_loop = in_loop; gives = is_some gives }

  abbrev pub spot : Bool → Option Width → Spot
  spot in_loop gives = record { in_loop = in_loop; gives = gives }

  abbrev pub StatementStands : Stmt → Type 0
  StatementStands x = (here : Here) (inside : Inside) (names : Names) (depth : ℕ) (in_loop : Bool) (gives : Option Width)
      → Each sound (seen_in_statement x names (seen_spot depth in_loop gives)) → Each test (in_statement source (tied_statement x here inside).value (spot in_loop gives))

  abbrev pub BlockStands : Block → Type 0
  BlockStands x = (here : Here) (inside : Inside) (names : Names) (depth : ℕ) (in_loop : Bool) (gives : Option Width)
      → Each sound (seen_in_block x names (seen_spot depth in_loop gives)) → Each test (in_block source (tied_block x here inside).value (spot in_loop gives))

  -- by what the statement is tied to, by what is seen in it, and by what stands in what it is tied to
  step : (x : Stmt) (here : Here) (inside : Inside) (names : Names) (depth : ℕ) (in_loop : Bool) (gives : Option Width) (done : Done TypedStmt) (list : List Seen) (walk : Walk)
      → tied_statement x here inside ≡ done → seen_in_statement x names (seen_spot depth in_loop gives) ≡ list → in_statement source done.value ≡ walk
      → (Each sound list → Each test (walk (spot in_loop gives)))
      → Each sound (seen_in_statement x names (seen_spot depth in_loop gives)) → Each test (in_statement source (tied_statement x here inside).value (spot in_loop gives))
  step x here inside names depth in_loop gives done list walk tied sees stands what given =
      subst (λ (d : Done TypedStmt). Each test (in_statement source d.value (spot in_loop gives))) (sym tied)
      (subst (λ (w : Walk). Each test (w (spot in_loop gives))) (sym stands) (what (subst (λ (l : List Seen). Each sound l) sees given)))

  first : (rest : List Thing) → Each test rest → Each test (Statement ∷ rest)
  first rest p = next test Statement rest follows.statements p

  value-of : (e : TypedExpr) → Each test (in_value source e)
  value-of e = expression-passes source test follows.expressions e None

  abbrev SS : Type 0
  SS = (x : Stmt) × StatementStands x

  abbrev SB : Type 0
  SB = (x : Block) × BlockStands x

  on_statement : (y : node.Stmt-F SS SB) → StatementStands (roll-Stmt (map-Stmt SS SB Stmt Block (λ q. q.0) (λ q. q.0) y))
  unfolding of_statement
  on_statement (node.Empty at) = subst StatementStands (sym (stmt.rolls-Empty at)) (λ here inside names depth in_loop gives.
      step _ here inside names depth in_loop gives _ _ _ (ties.tied-Empty at here inside) (sees.sees-Empty at names _) (stands.statement-Empty source at) (λ p. first [] (none test)))
  on_statement (node.Block block) = subst StatementStands (sym (stmt.rolls-Block block.0)) (λ here inside names depth in_loop gives.
      step _ here inside names depth in_loop gives _ _ _ (ties.tied-Block block.0 here inside) (sees.sees-Block block.0 names _) (stands.statement-Block source _)
      (λ p. first _ (block.1 here inside names (suc depth) in_loop gives (tail sound _ _ p))))
  on_statement (node.Simple s) = subst StatementStands (sym (stmt.rolls-Simple s)) (λ here inside names depth in_loop gives.
      step _ here inside names depth in_loop gives _ _ _ (ties.tied-Simple s here inside) (sees.sees-Simple s names _) (stands.statement-Simple source _) (λ p. first _ (simple-passes _)))
  on_statement (node.If at cond one None) = subst StatementStands (sym (stmt.rolls-If at cond one.0 None)) (λ here inside names depth in_loop gives.
      step _ here inside names depth in_loop gives _ _ _ (ties.tied-Then at cond one.0 here inside) (sees.sees-If at cond one.0 None names _) (stands.statement-Then source at _ _)
      (λ p. first _ (joined test _ _ (value-of _) (joined test _ _ (one.1 here inside names depth in_loop gives (earlier sound _ _ (later sound _ _ (tail sound _ _ p)))) (none test)))))
  on_statement (node.If at cond one (Some other)) = subst StatementStands (sym (stmt.rolls-If at cond one.0 (Some other.0))) (λ here inside names depth in_loop gives.
      step _ here inside names depth in_loop gives _ _ _ (ties.tied-Else at cond one.0 other.0 here inside) (sees.sees-If at cond one.0 (Some other.0) names _) (stands.statement-Else source at _ _ _)
      (λ p. first _ (joined test _ _ (value-of _) (joined test _ _ (one.1 here inside names depth in_loop gives (earlier sound _ _ (later sound _ _ (tail sound _ _ p))))
      (other.1 (with_objects here (tied_statement one.0 here inside).objects) inside names depth in_loop gives (later sound _ _ (later sound _ _ (tail sound _ _ p))))))))
  on_statement (node.While at cond body) = subst StatementStands (sym (stmt.rolls-While at cond body.0)) (λ here inside names depth in_loop gives.
      step _ here inside names depth in_loop gives _ _ _ (ties.tied-While at cond body.0 here inside) (sees.sees-While at cond body.0 names _) (stands.statement-While source at _ _)
      (λ p. first _ (joined test _ _ (value-of _) (body.1 here inside names depth true gives (later sound _ _ (tail sound _ _ p))))))
  on_statement (node.Do at body cond) = subst StatementStands (sym (stmt.rolls-Do at body.0 cond)) (λ here inside names depth in_loop gives.
      step _ here inside names depth in_loop gives _ _ _ (ties.tied-Do at body.0 cond here inside) (sees.sees-Do at body.0 cond names _) (stands.statement-Do source at _ _)
      (λ p. first _ (joined test _ _ (body.1 here inside names depth true gives (earlier sound _ _ (tail sound _ _ p))) (value-of _))))
  on_statement (node.For at firsts cond lasts body) = subst StatementStands (sym (stmt.rolls-For at firsts cond lasts body.0)) (λ here inside names depth in_loop gives.
      step _ here inside names depth in_loop gives _ _ _ (ties.tied-For at firsts cond lasts body.0 here inside) (sees.sees-For at firsts cond lasts body.0 names _) (stands.statement-For source at _ _ _ _)
      (λ p. first _ (joined test _ _ (simples-pass _) (joined test _ _ (value-passes _) (joined test _ _ (simples-pass _)
      (body.1 here inside names depth true gives (later sound (simples names lasts) _ (later sound (number_if_any names cond) _ (later sound (simples names firsts) _ (tail sound _ _ p))))))))))
  on_statement (node.Break at) = subst StatementStands (sym (stmt.rolls-Break at)) (λ here inside names depth in_loop gives.
      step _ here inside names depth in_loop gives _ _ _ (ties.tied-Break at here inside) (sees.sees-Break at names _) (stands.statement-Break source at)
      (λ p. first _ (next test _ [] (follows.leaves at in_loop (head sound _ _ (tail sound _ _ p))) (none test))))
  on_statement (node.Continue at) = subst StatementStands (sym (stmt.rolls-Continue at)) (λ here inside names depth in_loop gives.
      step _ here inside names depth in_loop gives _ _ _ (ties.tied-Continue at here inside) (sees.sees-Continue at names _) (stands.statement-Continue source at)
      (λ p. first _ (next test _ [] (follows.leaves at in_loop (head sound _ _ (tail sound _ _ p))) (none test))))
  on_statement (node.Return at value) = subst StatementStands (sym (stmt.rolls-Return at value)) (λ here inside names depth in_loop gives.
      step _ here inside names depth in_loop gives _ _ _ (ties.tied-Return at value here inside) (sees.sees-Return at value names _) (stands.statement-Return source at _)
      (λ p. first _ (next test _ _ (ap (λ (b : Bool). test (Return b (is_some gives))) (value-stays inside.gives here value) ∙ follows.returns at (is_some value) (is_some gives) (head sound _ _ (tail sound _ _ p)))
      (returned-passes (spot in_loop gives) _))))

  listed : (ys : List SS) (here : Here) (inside : Inside) (names : Names) (depth : ℕ) (in_loop : Bool) (gives : Option Width)
      → Each sound (seen_in_statements (map (λ (q : SS). q.0) ys) names (seen_spot depth in_loop gives))
      → Each test (all_of (map (in_statement source) (tied_statements (map (λ (q : SS). q.0) ys) here inside).value) (spot in_loop gives))
  listed [] here inside names depth in_loop gives p = none test
  listed (y ∷ ys) here inside names depth in_loop gives p =
      joined test _ _ (y.1 here inside names depth in_loop gives (earlier sound _ _ p)) (listed ys (with_objects here (tied_statement y.0 here inside).objects) inside names depth in_loop gives (later sound _ _ p))

  on_block : (y : node.Block-F SS SB) → BlockStands (record { at = y.at; objects = y.objects; stmts = map (λ (q : SS). q.0) y.stmts })
  unfolding of_block
  on_block y here inside names depth in_loop gives p =
      let block : Block = record { at = y.at; objects = y.objects; stmts = map (λ (q : SS). q.0) y.stmts } in
      subst (λ (d : Done TypedBlock). Each test (in_block source d.value (spot in_loop gives))) (sym (ties.block-parts block here inside))
      (subst (λ (w : Walk). Each test (w (spot in_loop gives))) (sym (stands.block-is source _))
      (joined test _ _ (starts-pass _)
      (listed y.stmts (starts_in_lists here inside.function y.objects).after inside (after_lists names depth y.objects) depth in_loop gives
      (later sound _ _ (subst (λ (l : List Seen). Each sound l) (sees.block-parts block names (seen_spot depth in_loop gives)) p)))))

  pub block-stands : (x : Block) → BlockStands x
  block-stands = ind-Block StatementStands BlockStands
      (λ x y is. subst (λ z. StatementStands (roll-Stmt z)) is (on_statement y))
      (λ x y is. subst (λ z. BlockStands (roll-Block z)) is (on_block y))
