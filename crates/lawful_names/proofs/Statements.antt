-- What stands in a statement without a fault passes each test that fits: an induction over the tree.
use Rattle.std.proofs.Common.{◌≡◌, ℕ, suc, List, [], ◌∷◌, ◌++◌, Bool, true, map, sym, subst}
use Rattle.std.specs.Prelude.{flat_map, Some, None, is_some}
use Rattle.c_tree.specs.declared.expression.Expr.{Expr}
use Rattle.c_tree.specs.declared.program.Item.{Item}
use Rattle.c_tree.specs.declared.statement.Block.{Block, ind-Block, roll-Block}
use Rattle.c_tree.specs.declared.statement.Stmt.TheOpen as node
use Rattle.c_tree.specs.declared.statement.Stmt.{Stmt, map-Stmt, roll-Stmt}
use Rattle.c_tree.specs.declared.statement.Stmt.TheVariants as stmt
use Rattle.c_typed.specs.declared.statement.TypedBlock.{TypedBlock}
use Rattle.c_typed.specs.declared.statement.TypedStmt.{TypedStmt}
use Rattle.c_typed.specs.declared.typed.Typed.{Typed}
use Rattle.operator_meaning.specs.declared.object.Object.{Object}
use Rattle.c_seen.specs.declared.seen.Kind.{Kind}
use Rattle.c_seen.specs.declared.seen.Seen.{Seen}
use Rattle.c_seen.specs.declared.statements.Spot.{Spot as SeenSpot}
use Rattle.c_seen.specs.Declarations.{number, number_if_any, seen_in_lists, after_lists}
use Rattle.c_seen.specs.Meanings.{Names}
use Rattle.c_seen.specs.Statements.{simples, seen_in_statement, seen_in_block, seen_in_statements}
use Rattle.c_seen.proofs.Statements_seen as sees
use Rattle.tied_names.specs.Ties.{Here}
use Rattle.tied_expressions.specs.Expressions.{tied_expression}
use Rattle.tied_statements.specs.declared.statements.Inside.{Inside}
use Rattle.tied_statements.specs.Declarations.{with_objects, starts_in_lists}
use Rattle.tied_statements.specs.Statements.{Done, tied_statement, tied_block, tied_statements}
use Rattle.tied_statements.proofs.Statement_equations as ties
use Rattle.lawful_sources.specs.Things.{Thing, Statement}
use Rattle.lawful_sources.specs.Statements.{Spot, Walk, in_value, in_start, of_statement, of_block, all_of, in_statement, in_block}
use Rattle.lawful_sources.proofs.Passing.{Each, none, next, joined}
use Rattle.lawful_laws.proofs.Statements.{earlier, later, tail}
use Rattle.lawful_sources.proofs.Statements as stands
use Rattle.lawful_names.proofs.Agreement.{Near}
use Rattle.lawful_names.proofs.Clean.{Clean}
use Rattle.lawful_names.proofs.Declarations.{Shapes, lists-stand}
use Rattle.lawful_names.proofs.Expressions.{number-stands}
use Rattle.lawful_names.proofs.Fitting.{Fits}
use Rattle.lawful_names.proofs.Simples.{simple-stands, simples-stand, value-if-any, returned-stands}
use Rattle.lawful_names.proofs.Within.{Within, within-more, statement-grows, statements-grow}

-- where a statement stands, as what is seen has it and as what stands has it
abbrev pub seen_spot : ℕ → Bool → Inside → SeenSpot
seen_spot depth in_loop inside = record { depth = depth; in_loop = in_loop; gives = is_some inside.gives }

abbrev pub spot : Bool → Inside → Spot
spot in_loop inside = record { in_loop = in_loop; gives = inside.gives }

-- the names stay what they are where more objects are declared
pub still-near : (source : Typed) (items : List Item) (Shaped : Kind → Object → Type 0) (names : Names) (here : Here) (objects : List Object) → Near source items Shaped names here → Near source items Shaped names (with_objects here objects)
still-near source items Shaped names here objects near = record { seen_items = near.seen_items; seen_functions = near.seen_functions; tied_items = near.tied_items; agree = near.agree }

module _ (source : Typed) (items : List Item) (Shaped : Kind → Object → Type 0) (sound : Seen → Bool) (clean : (s : Seen) → sound s ≡ true → Clean s) (shapes : Shapes Shaped sound)
    (test : Thing → Bool) (fits : Fits source items Shaped sound test) where
  abbrev StatementStands : Stmt → Type 0
  StatementStands x = (names : Names) (here : Here) (inside : Inside) (depth : ℕ) (in_loop : Bool) → Near source items Shaped names here → Within (tied_statement x here inside).objects source.objects
      → Each sound (seen_in_statement x names (seen_spot depth in_loop inside)) → Each test (in_statement source (tied_statement x here inside).value (spot in_loop inside))

  abbrev BlockStands : Block → Type 0
  BlockStands x = (names : Names) (here : Here) (inside : Inside) (depth : ℕ) (in_loop : Bool) → Near source items Shaped names here → Within (tied_block x here inside).objects source.objects
      → Each sound (seen_in_block x names (seen_spot depth in_loop inside)) → Each test (in_block source (tied_block x here inside).value (spot in_loop inside))

  -- by what the statement is tied to, by what is seen in it, and by what stands in what it is tied to
  step : (x : Stmt) (names : Names) (here : Here) (inside : Inside) (depth : ℕ) (in_loop : Bool) (done : Done TypedStmt) (list : List Seen) (walk : Walk)
      → tied_statement x here inside ≡ done → seen_in_statement x names (seen_spot depth in_loop inside) ≡ list → in_statement source done.value ≡ walk
      → (Within done.objects source.objects → Each sound list → Each test (walk (spot in_loop inside))) → Within (tied_statement x here inside).objects source.objects
      → Each sound (seen_in_statement x names (seen_spot depth in_loop inside)) → Each test (in_statement source (tied_statement x here inside).value (spot in_loop inside))
  step x names here inside depth in_loop done list walk tied sees stands what within given =
      subst (λ (d : Done TypedStmt). Each test (in_statement source d.value (spot in_loop inside))) (sym tied)
      (subst (λ (w : Walk). Each test (w (spot in_loop inside))) (sym stands)
      (what (subst (λ (d : Done TypedStmt). Within d.objects source.objects) tied within) (subst (λ (l : List Seen). Each sound l) sees given)))

  first : (rest : List Thing) → Each test rest → Each test (Statement ∷ rest)
  first rest p = next test Statement rest fits.statements p

  value-of : (x : Expr) (names : Names) (here : Here) → Near source items Shaped names here → Each sound (number names x) → Each test (in_value source (tied_expression x here).value)
  value-of x names here near p = number-stands source items Shaped sound clean test fits x names here near p

  abbrev SS : Type 0
  SS = (x : Stmt) × StatementStands x

  abbrev SB : Type 0
  SB = (x : Block) × BlockStands x

  on_statement : (y : node.Stmt-F SS SB) → StatementStands (roll-Stmt (map-Stmt SS SB Stmt Block (λ q. q.0) (λ q. q.0) y))
  unfolding of_statement
  on_statement (node.Empty at) = subst StatementStands (sym (stmt.rolls-Empty at)) (λ names here inside depth in_loop near.
      step _ names here inside depth in_loop _ _ _ (ties.tied-Empty at here inside) (sees.sees-Empty at names _) (stands.statement-Empty source at) (λ within p. first [] (none test)))
  on_statement (node.Block block) = subst StatementStands (sym (stmt.rolls-Block block.0)) (λ names here inside depth in_loop near.
      step _ names here inside depth in_loop _ _ _ (ties.tied-Block block.0 here inside) (sees.sees-Block block.0 names _) (stands.statement-Block source _)
      (λ within p. first _ (block.1 names here inside (suc depth) in_loop near within (tail sound _ _ p))))
  on_statement (node.Simple s) = subst StatementStands (sym (stmt.rolls-Simple s)) (λ names here inside depth in_loop near.
      step _ names here inside depth in_loop _ _ _ (ties.tied-Simple s here inside) (sees.sees-Simple s names _) (stands.statement-Simple source _)
      (λ within p. first _ (simple-stands source items Shaped sound clean test fits s names here near (tail sound _ _ p))))
  on_statement (node.If at cond one None) = subst StatementStands (sym (stmt.rolls-If at cond one.0 None)) (λ names here inside depth in_loop near.
      step _ names here inside depth in_loop _ _ _ (ties.tied-Then at cond one.0 here inside) (sees.sees-If at cond one.0 None names _) (stands.statement-Then source at _ _)
      (λ within p. first _ (joined test _ _ (value-of cond names here near (earlier sound _ _ (tail sound _ _ p)))
      (joined test _ _ (one.1 names here inside depth in_loop near within (earlier sound _ _ (later sound (number names cond) _ (tail sound _ _ p)))) (none test)))))
  on_statement (node.If at cond one (Some other)) = subst StatementStands (sym (stmt.rolls-If at cond one.0 (Some other.0))) (λ names here inside depth in_loop near.
      step _ names here inside depth in_loop _ _ _ (ties.tied-Else at cond one.0 other.0 here inside) (sees.sees-If at cond one.0 (Some other.0) names _) (stands.statement-Else source at _ _ _)
      (λ within p. first _ (joined test _ _ (value-of cond names here near (earlier sound _ _ (tail sound _ _ p)))
      (joined test _ _ (one.1 names here inside depth in_loop near (within-more _ _ _ (statement-grows other.0 (with_objects here (tied_statement one.0 here inside).objects) inside) within) (earlier sound _ _ (later sound (number names cond) _ (tail sound _ _ p))))
      (other.1 names (with_objects here (tied_statement one.0 here inside).objects) inside depth in_loop (still-near source items Shaped names here _ near) within
      (later sound (seen_in_statement one.0 names (seen_spot depth in_loop inside)) _ (later sound (number names cond) _ (tail sound _ _ p))))))))
  on_statement (node.While at cond body) = subst StatementStands (sym (stmt.rolls-While at cond body.0)) (λ names here inside depth in_loop near.
      step _ names here inside depth in_loop _ _ _ (ties.tied-While at cond body.0 here inside) (sees.sees-While at cond body.0 names _) (stands.statement-While source at _ _)
      (λ within p. first _ (joined test _ _ (value-of cond names here near (earlier sound _ _ (tail sound _ _ p))) (body.1 names here inside depth true near within (later sound (number names cond) _ (tail sound _ _ p))))))
  on_statement (node.Do at body cond) = subst StatementStands (sym (stmt.rolls-Do at body.0 cond)) (λ names here inside depth in_loop near.
      step _ names here inside depth in_loop _ _ _ (ties.tied-Do at body.0 cond here inside) (sees.sees-Do at body.0 cond names _) (stands.statement-Do source at _ _)
      (λ within p. first _ (joined test _ _ (body.1 names here inside depth true near within (earlier sound _ _ (tail sound _ _ p)))
      (value-of cond names (with_objects here (tied_statement body.0 here inside).objects) (still-near source items Shaped names here _ near) (later sound (seen_in_statement body.0 names (seen_spot depth true inside)) _ (tail sound _ _ p))))))
  on_statement (node.For at firsts cond lasts body) = subst StatementStands (sym (stmt.rolls-For at firsts cond lasts body.0)) (λ names here inside depth in_loop near.
      step _ names here inside depth in_loop _ _ _ (ties.tied-For at firsts cond lasts body.0 here inside) (sees.sees-For at firsts cond lasts body.0 names _) (stands.statement-For source at _ _ _ _)
      (λ within p.
      let beyond : Each sound (number_if_any names cond ++ (simples names lasts ++ seen_in_statement body.0 names (seen_spot depth true inside))) = later sound (simples names firsts) _ (tail sound _ _ p) in
      first _ (joined test _ _ (simples-stand source items Shaped sound clean test fits firsts names here near (earlier sound _ _ (tail sound _ _ p)))
      (joined test _ _ (value-if-any source items Shaped sound clean test fits cond names here near (earlier sound _ _ beyond))
      (joined test _ _ (simples-stand source items Shaped sound clean test fits lasts names here near (earlier sound _ _ (later sound (number_if_any names cond) _ beyond)))
      (body.1 names here inside depth true near within (later sound (simples names lasts) _ (later sound (number_if_any names cond) _ beyond))))))))
  on_statement (node.Break at) = subst StatementStands (sym (stmt.rolls-Break at)) (λ names here inside depth in_loop near.
      step _ names here inside depth in_loop _ _ _ (ties.tied-Break at here inside) (sees.sees-Break at names _) (stands.statement-Break source at) (λ within p. first _ (next test _ [] (fits.leaves in_loop) (none test))))
  on_statement (node.Continue at) = subst StatementStands (sym (stmt.rolls-Continue at)) (λ names here inside depth in_loop near.
      step _ names here inside depth in_loop _ _ _ (ties.tied-Continue at here inside) (sees.sees-Continue at names _) (stands.statement-Continue source at) (λ within p. first _ (next test _ [] (fits.leaves in_loop) (none test))))
  on_statement (node.Return at value) = subst StatementStands (sym (stmt.rolls-Return at value)) (λ names here inside depth in_loop near.
      step _ names here inside depth in_loop _ _ _ (ties.tied-Return at value here inside) (sees.sees-Return at value names _) (stands.statement-Return source at _)
      (λ within p. first _ (next test _ _ (fits.returns _ _) (returned-stands source items Shaped sound clean test fits inside.gives in_loop value names here near (tail sound _ _ (tail sound _ _ p))))))

  listed : (ys : List SS) (names : Names) (here : Here) (inside : Inside) (depth : ℕ) (in_loop : Bool) → Near source items Shaped names here → Within (tied_statements (map (λ (q : SS). q.0) ys) here inside).objects source.objects
      → Each sound (seen_in_statements (map (λ (q : SS). q.0) ys) names (seen_spot depth in_loop inside)) → Each test (all_of (map (in_statement source) (tied_statements (map (λ (q : SS). q.0) ys) here inside).value) (spot in_loop inside))
  listed [] names here inside depth in_loop near within p = none test
  listed (y ∷ ys) names here inside depth in_loop near within p =
      let after : Here = with_objects here (tied_statement y.0 here inside).objects in
      joined test _ _ (y.1 names here inside depth in_loop near (within-more _ _ _ (statements-grow (map (λ (q : SS). q.0) ys) after inside) within) (earlier sound _ _ p))
      (listed ys names after inside depth in_loop (still-near source items Shaped names here _ near) within (later sound (seen_in_statement y.0 names (seen_spot depth in_loop inside)) _ p))

  on_block : (y : node.Block-F SS SB) → BlockStands (record { at = y.at; objects = y.objects; stmts = map (λ (q : SS). q.0) y.stmts })
  unfolding of_block
  on_block y names here inside depth in_loop near within p =
      let block : Block = record { at = y.at; objects = y.objects; stmts = map (λ (q : SS). q.0) y.stmts } in
      let after : Here = (starts_in_lists here inside.function y.objects).after in
      let parts : Each sound (seen_in_lists names depth y.objects ++ seen_in_statements block.stmts (after_lists names depth y.objects) (seen_spot depth in_loop inside)) =
      subst (λ (l : List Seen). Each sound l) (sees.block-parts block names (seen_spot depth in_loop inside)) p in
      let objects : Within (tied_statements block.stmts after inside).objects source.objects = subst (λ (d : Done TypedBlock). Within d.objects source.objects) (ties.block-parts block here inside) within in
      let starts : Each test (flat_map (in_start source) (starts_in_lists here inside.function y.objects).value) × Near source items Shaped (after_lists names depth y.objects) after =
      lists-stand source items Shaped sound clean shapes test fits names here depth inside.function y.objects near (within-more _ _ _ (statements-grow block.stmts after inside) objects) (earlier sound _ _ parts) in
      subst (λ (d : Done TypedBlock). Each test (in_block source d.value (spot in_loop inside))) (sym (ties.block-parts block here inside))
      (subst (λ (w : Walk). Each test (w (spot in_loop inside))) (sym (stands.block-is source _))
      (joined test _ _ starts.0 (listed y.stmts (after_lists names depth y.objects) after inside depth in_loop starts.1 objects (later sound (seen_in_lists names depth y.objects) _ parts))))

  pub block-stands : (x : Block) → BlockStands x
  block-stands = ind-Block StatementStands BlockStands
      (λ x y is. subst (λ z. StatementStands (roll-Stmt z)) is (on_statement y))
      (λ x y is. subst (λ z. BlockStands (roll-Block z)) is (on_block y))
