-- The sites that stand in a statement without a fault are those that are noted in it: an induction over the tree.
use Rattle.std.proofs.Common.{◌≡◌, ℕ, suc, List, [], ◌∷◌, ◌++◌, Bool, true, map, length, refl, sym, subst}
use Rattle.std.specs.Prelude.{Some, None}
use Rattle.c_tree.specs.declared.expression.Expr.{Expr}
use Rattle.c_tree.specs.declared.program.Item.{Item}
use Rattle.c_tree.specs.declared.statement.Block.{Block, ind-Block, roll-Block}
use Rattle.c_tree.specs.declared.statement.Stmt.TheOpen as node
use Rattle.c_tree.specs.declared.statement.Stmt.{Stmt, map-Stmt, roll-Stmt}
use Rattle.c_tree.specs.declared.statement.Stmt.TheVariants as stmt
use Rattle.c_typed.specs.declared.statement.TypedBlock.{TypedBlock}
use Rattle.c_typed.specs.declared.statement.TypedStmt.{TypedStmt}
use Rattle.c_typed.specs.declared.typed.Typed.{Typed}
use Rattle.operator_meaning.specs.declared.object.Object.{Object}
use Rattle.operator_meaning.specs.declared.object.Site.{Site}
use Rattle.c_seen.specs.declared.seen.Kind.{Kind}
use Rattle.c_seen.specs.declared.seen.Seen.{Seen}
use Rattle.c_seen.specs.Declarations.{number, number_if_any, seen_in_lists, after_lists}
use Rattle.c_seen.specs.Meanings.{Names}
use Rattle.c_seen.specs.Statements.{simples, seen_in_statement, seen_in_block, seen_in_statements}
use Rattle.c_seen.proofs.Statements_seen as sees
use Rattle.tied_names.specs.declared.note.Note.{Note}
use Rattle.tied_names.specs.Ties.{Here}
use Rattle.tied_expressions.specs.Expressions.{tied_expression}
use Rattle.tied_statements.specs.declared.statements.Inside.{Inside}
use Rattle.tied_statements.specs.Declarations.{with_objects, starts_in_lists}
use Rattle.tied_statements.specs.Statements.{Done, tied_statement, tied_block, tied_statements}
use Rattle.tied_statements.proofs.Statement_equations as ties
use Rattle.lawful_sources.specs.Things.{Thing, Statement, Leave}
use Rattle.lawful_sources.specs.Statements.{Walk, in_value, of_statement, of_block, all_of, in_statement, in_block}
use Rattle.lawful_sources.proofs.Passing.{Each}
use Rattle.lawful_sources.proofs.Statements as stands
use Rattle.lawful_laws.proofs.Statements.{earlier, later, tail}
use Rattle.lawful_names.proofs.Agreement.{Near}
use Rattle.lawful_names.proofs.Clean.{Clean}
use Rattle.lawful_names.proofs.Declarations.{Shapes}
use Rattle.lawful_names.proofs.Statements.{seen_spot, spot, still-near}
use Rattle.lawful_names.proofs.Within.{Within, within-more, statement-grows, statements-grow}
use Rattle.lawful_sites.proofs.Declarations.{Started, lists-sites}
use Rattle.lawful_sites.proofs.Expressions.{number-sites}
use Rattle.lawful_sites.proofs.Marks.{Keeps}
use Rattle.lawful_sites.proofs.Simples.{simple-sites, simples-sites, value-if-any, returned-sites}
use Rattle.lawful_sites.proofs.Sited.{Sited, nothing, beside, both}
use Rattle.lawful_sites.proofs.Twins.{Twins, twins-with}

module _ (source : Typed) (items : List Item) (Shaped : Kind → Object → Type 0) (sound : Seen → Bool) (clean : (s : Seen) → sound s ≡ true → Clean s) (shapes : Shapes Shaped sound)
    {K : Type 0} (key : Site → K) (tokens : List ℕ) (keeps : Keeps key source items Shaped sound) where
  -- the sites that stand are those that are noted, and as many objects are declared on both sides
  pub record Goes (things : List Thing) (notes : List Note) (ones others : List Object) : Type 0 where
    pub sites : Sited key tokens things notes
    pub long : length others ≡ length ones

  abbrev StatementGoes : Stmt → Type 0
  StatementGoes x = (names : Names) (here other : Here) (inside : Inside) (depth : ℕ) (in_loop : Bool) → Near source items Shaped names here → Twins tokens here other → Within (tied_statement x here inside).objects source.objects
      → Each sound (seen_in_statement x names (seen_spot depth in_loop inside))
      → Goes (in_statement source (tied_statement x here inside).value (spot in_loop inside)) (tied_statement x other inside).notes (tied_statement x here inside).objects (tied_statement x other inside).objects

  abbrev BlockGoes : Block → Type 0
  BlockGoes x = (names : Names) (here other : Here) (inside : Inside) (depth : ℕ) (in_loop : Bool) → Near source items Shaped names here → Twins tokens here other → Within (tied_block x here inside).objects source.objects
      → Each sound (seen_in_block x names (seen_spot depth in_loop inside))
      → Goes (in_block source (tied_block x here inside).value (spot in_loop inside)) (tied_block x other inside).notes (tied_block x here inside).objects (tied_block x other inside).objects

  -- by what the statement is tied to on both sides, by what is seen in it, and by what stands in what it is tied to
  step : (x : Stmt) (names : Names) (here other : Here) (inside : Inside) (depth : ℕ) (in_loop : Bool) (done more : Done TypedStmt) (list : List Seen) (walk : Walk)
      → tied_statement x here inside ≡ done → tied_statement x other inside ≡ more → seen_in_statement x names (seen_spot depth in_loop inside) ≡ list → in_statement source done.value ≡ walk
      → (Within done.objects source.objects → Each sound list → Goes (walk (spot in_loop inside)) more.notes done.objects more.objects) → Within (tied_statement x here inside).objects source.objects
      → Each sound (seen_in_statement x names (seen_spot depth in_loop inside))
      → Goes (in_statement source (tied_statement x here inside).value (spot in_loop inside)) (tied_statement x other inside).notes (tied_statement x here inside).objects (tied_statement x other inside).objects
  step x names here other inside depth in_loop done more list walk one two sees stands what within given =
      subst (λ (d : Done TypedStmt). Goes (in_statement source (tied_statement x here inside).value (spot in_loop inside)) d.notes (tied_statement x here inside).objects d.objects) (sym two)
      (subst (λ (d : Done TypedStmt). Goes (in_statement source d.value (spot in_loop inside)) more.notes d.objects more.objects) (sym one)
      (subst (λ (w : Walk). Goes (w (spot in_loop inside)) more.notes done.objects more.objects) (sym stands)
      (what (subst (λ (d : Done TypedStmt). Within d.objects source.objects) one within) (subst (λ (l : List Seen). Each sound l) sees given))))

  first : (things : List Thing) (notes : List Note) (ones others : List Object) → Sited key tokens things notes → length others ≡ length ones → Goes (Statement ∷ things) notes ones others
  first things notes ones others p long = record { sites = beside key tokens Statement things notes refl refl p; long = long }

  leaves : (in_loop : Bool) → Sited key tokens (Leave in_loop ∷ []) []
  leaves in_loop = beside key tokens (Leave in_loop) [] [] refl refl (nothing key tokens)

  value-of : (x : Expr) (names : Names) (here other : Here) → Near source items Shaped names here → Twins tokens here other → Each sound (number names x) → Sited key tokens (in_value source (tied_expression x here).value) (tied_expression x other).notes
  value-of x names here other near twins p = number-sites source items Shaped sound clean key tokens keeps x names here other near twins p

  abbrev SS : Type 0
  SS = (x : Stmt) × StatementGoes x

  abbrev SB : Type 0
  SB = (x : Block) × BlockGoes x

  on_statement : (y : node.Stmt-F SS SB) → StatementGoes (roll-Stmt (map-Stmt SS SB Stmt Block (λ q. q.0) (λ q. q.0) y))
  unfolding of_statement
  on_statement (node.Empty at) = subst StatementGoes (sym (stmt.rolls-Empty at)) (λ names here other inside depth in_loop near twins.
      step _ names here other inside depth in_loop _ _ _ _ (ties.tied-Empty at here inside) (ties.tied-Empty at other inside) (sees.sees-Empty at names _) (stands.statement-Empty source at)
      (λ within p. first _ _ _ _ (nothing key tokens) twins.objects))
  on_statement (node.Block block) = subst StatementGoes (sym (stmt.rolls-Block block.0)) (λ names here other inside depth in_loop near twins.
      step _ names here other inside depth in_loop _ _ _ _ (ties.tied-Block block.0 here inside) (ties.tied-Block block.0 other inside) (sees.sees-Block block.0 names _) (stands.statement-Block source _)
      (λ within p.
      let b = block.1 names here other inside (suc depth) in_loop near twins within (tail sound _ _ p) in
      first _ _ _ _ b.sites b.long))
  on_statement (node.Simple s) = subst StatementGoes (sym (stmt.rolls-Simple s)) (λ names here other inside depth in_loop near twins.
      step _ names here other inside depth in_loop _ _ _ _ (ties.tied-Simple s here inside) (ties.tied-Simple s other inside) (sees.sees-Simple s names _) (stands.statement-Simple source _)
      (λ within p. first _ _ _ _ (simple-sites source items Shaped sound clean key tokens keeps s names here other near twins (tail sound _ _ p)) twins.objects))
  on_statement (node.If at cond one None) = subst StatementGoes (sym (stmt.rolls-If at cond one.0 None)) (λ names here other inside depth in_loop near twins.
      step _ names here other inside depth in_loop _ _ _ _ (ties.tied-Then at cond one.0 here inside) (ties.tied-Then at cond one.0 other inside) (sees.sees-If at cond one.0 None names _) (stands.statement-Then source at _ _)
      (λ within p.
      let b = one.1 names here other inside depth in_loop near twins within (earlier sound _ _ (later sound (number names cond) _ (tail sound _ _ p))) in
      first _ _ _ _ (both key tokens _ _ _ _ (value-of cond names here other near twins (earlier sound _ _ (tail sound _ _ p))) (both key tokens _ _ _ _ b.sites (nothing key tokens))) b.long))
  on_statement (node.If at cond one (Some two)) = subst StatementGoes (sym (stmt.rolls-If at cond one.0 (Some two.0))) (λ names here other inside depth in_loop near twins.
      step _ names here other inside depth in_loop _ _ _ _ (ties.tied-Else at cond one.0 two.0 here inside) (ties.tied-Else at cond one.0 two.0 other inside) (sees.sees-If at cond one.0 (Some two.0) names _) (stands.statement-Else source at _ _ _)
      (λ within p.
      let here_after : Here = with_objects here (tied_statement one.0 here inside).objects in
      let b = one.1 names here other inside depth in_loop near twins (within-more _ _ _ (statement-grows two.0 here_after inside) within) (earlier sound _ _ (later sound (number names cond) _ (tail sound _ _ p))) in
      let c = two.1 names here_after (with_objects other (tied_statement one.0 other inside).objects) inside depth in_loop (still-near source items Shaped names here _ near) (twins-with tokens here other _ _ twins b.long) within
      (later sound (seen_in_statement one.0 names (seen_spot depth in_loop inside)) _ (later sound (number names cond) _ (tail sound _ _ p))) in
      first _ _ _ _ (both key tokens _ _ _ _ (value-of cond names here other near twins (earlier sound _ _ (tail sound _ _ p))) (both key tokens _ _ _ _ b.sites c.sites)) c.long))
  on_statement (node.While at cond body) = subst StatementGoes (sym (stmt.rolls-While at cond body.0)) (λ names here other inside depth in_loop near twins.
      step _ names here other inside depth in_loop _ _ _ _ (ties.tied-While at cond body.0 here inside) (ties.tied-While at cond body.0 other inside) (sees.sees-While at cond body.0 names _) (stands.statement-While source at _ _)
      (λ within p.
      let b = body.1 names here other inside depth true near twins within (later sound (number names cond) _ (tail sound _ _ p)) in
      first _ _ _ _ (both key tokens _ _ _ _ (value-of cond names here other near twins (earlier sound _ _ (tail sound _ _ p))) b.sites) b.long))
  on_statement (node.Do at body cond) = subst StatementGoes (sym (stmt.rolls-Do at body.0 cond)) (λ names here other inside depth in_loop near twins.
      step _ names here other inside depth in_loop _ _ _ _ (ties.tied-Do at body.0 cond here inside) (ties.tied-Do at body.0 cond other inside) (sees.sees-Do at body.0 cond names _) (stands.statement-Do source at _ _)
      (λ within p.
      let b = body.1 names here other inside depth true near twins within (earlier sound _ _ (tail sound _ _ p)) in
      first _ _ _ _ (both key tokens _ _ _ _ b.sites (value-of cond names _ _ (still-near source items Shaped names here _ near) (twins-with tokens here other _ _ twins b.long)
      (later sound (seen_in_statement body.0 names (seen_spot depth true inside)) _ (tail sound _ _ p)))) b.long))
  on_statement (node.For at firsts cond lasts body) = subst StatementGoes (sym (stmt.rolls-For at firsts cond lasts body.0)) (λ names here other inside depth in_loop near twins.
      step _ names here other inside depth in_loop _ _ _ _ (ties.tied-For at firsts cond lasts body.0 here inside) (ties.tied-For at firsts cond lasts body.0 other inside) (sees.sees-For at firsts cond lasts body.0 names _) (stands.statement-For source at _ _ _ _)
      (λ within p.
      let beyond : Each sound (number_if_any names cond ++ (simples names lasts ++ seen_in_statement body.0 names (seen_spot depth true inside))) = later sound (simples names firsts) _ (tail sound _ _ p) in
      let b = body.1 names here other inside depth true near twins within (later sound (simples names lasts) _ (later sound (number_if_any names cond) _ beyond)) in
      first _ _ _ _ (both key tokens _ _ _ _ (simples-sites source items Shaped sound clean key tokens keeps firsts names here other near twins (earlier sound _ _ (tail sound _ _ p)))
      (both key tokens _ _ _ _ (value-if-any source items Shaped sound clean key tokens keeps cond names here other near twins (earlier sound _ _ beyond))
      (both key tokens _ _ _ _ (simples-sites source items Shaped sound clean key tokens keeps lasts names here other near twins (earlier sound _ _ (later sound (number_if_any names cond) _ beyond))) b.sites))) b.long))
  on_statement (node.Break at) = subst StatementGoes (sym (stmt.rolls-Break at)) (λ names here other inside depth in_loop near twins.
      step _ names here other inside depth in_loop _ _ _ _ (ties.tied-Break at here inside) (ties.tied-Break at other inside) (sees.sees-Break at names _) (stands.statement-Break source at) (λ within p. first _ _ _ _ (leaves in_loop) twins.objects))
  on_statement (node.Continue at) = subst StatementGoes (sym (stmt.rolls-Continue at)) (λ names here other inside depth in_loop near twins.
      step _ names here other inside depth in_loop _ _ _ _ (ties.tied-Continue at here inside) (ties.tied-Continue at other inside) (sees.sees-Continue at names _) (stands.statement-Continue source at) (λ within p. first _ _ _ _ (leaves in_loop) twins.objects))
  on_statement (node.Return at value) = subst StatementGoes (sym (stmt.rolls-Return at value)) (λ names here other inside depth in_loop near twins.
      step _ names here other inside depth in_loop _ _ _ _ (ties.tied-Return at value here inside) (ties.tied-Return at value other inside) (sees.sees-Return at value names _) (stands.statement-Return source at _)
      (λ within p. first _ _ _ _ (beside key tokens _ _ _ refl refl (returned-sites source items Shaped sound clean key tokens keeps inside.gives in_loop value names here other near twins (tail sound _ _ (tail sound _ _ p)))) twins.objects))

  listed : (ys : List SS) (names : Names) (here other : Here) (inside : Inside) (depth : ℕ) (in_loop : Bool) → Near source items Shaped names here → Twins tokens here other
      → Within (tied_statements (map (λ (q : SS). q.0) ys) here inside).objects source.objects → Each sound (seen_in_statements (map (λ (q : SS). q.0) ys) names (seen_spot depth in_loop inside))
      → Goes (all_of (map (in_statement source) (tied_statements (map (λ (q : SS). q.0) ys) here inside).value) (spot in_loop inside)) (tied_statements (map (λ (q : SS). q.0) ys) other inside).notes
      (tied_statements (map (λ (q : SS). q.0) ys) here inside).objects (tied_statements (map (λ (q : SS). q.0) ys) other inside).objects
  listed [] names here other inside depth in_loop near twins within p = record { sites = nothing key tokens; long = twins.objects }
  listed (y ∷ ys) names here other inside depth in_loop near twins within p =
      let after : Here = with_objects here (tied_statement y.0 here inside).objects in
      let b = y.1 names here other inside depth in_loop near twins (within-more _ _ _ (statements-grow (map (λ (q : SS). q.0) ys) after inside) within) (earlier sound _ _ p) in
      let c = listed ys names after (with_objects other (tied_statement y.0 other inside).objects) inside depth in_loop (still-near source items Shaped names here _ near) (twins-with tokens here other _ _ twins b.long) within
      (later sound (seen_in_statement y.0 names (seen_spot depth in_loop inside)) _ p) in
      record { sites = both key tokens _ _ _ _ b.sites c.sites; long = c.long }

  on_block : (y : node.Block-F SS SB) → BlockGoes (record { at = y.at; objects = y.objects; stmts = map (λ (q : SS). q.0) y.stmts })
  unfolding of_block
  on_block y names here other inside depth in_loop near twins within p =
      let block : Block = record { at = y.at; objects = y.objects; stmts = map (λ (q : SS). q.0) y.stmts } in
      let after : Here = (starts_in_lists here inside.function y.objects).after in
      let other_after : Here = (starts_in_lists other inside.function y.objects).after in
      let parts : Each sound (seen_in_lists names depth y.objects ++ seen_in_statements block.stmts (after_lists names depth y.objects) (seen_spot depth in_loop inside)) =
      subst (λ (l : List Seen). Each sound l) (sees.block-parts block names (seen_spot depth in_loop inside)) p in
      let objects : Within (tied_statements block.stmts after inside).objects source.objects = subst (λ (d : Done TypedBlock). Within d.objects source.objects) (ties.block-parts block here inside) within in
      let starts : Started source items Shaped sound clean shapes key tokens keeps (starts_in_lists here inside.function y.objects).value (starts_in_lists other inside.function y.objects).notes (after_lists names depth y.objects) after other_after =
      lists-sites source items Shaped sound clean shapes key tokens keeps names here other depth inside.function y.objects near twins (within-more _ _ _ (statements-grow block.stmts after inside) objects) (earlier sound _ _ parts) in
      let b = listed y.stmts (after_lists names depth y.objects) after other_after inside depth in_loop starts.near starts.twins objects (later sound (seen_in_lists names depth y.objects) _ parts) in
      subst (λ (d : Done TypedBlock). Goes (in_block source (tied_block block here inside).value (spot in_loop inside)) d.notes (tied_block block here inside).objects d.objects) (sym (ties.block-parts block other inside))
      (subst (λ (d : Done TypedBlock). Goes (in_block source d.value (spot in_loop inside)) ((starts_in_lists other inside.function y.objects).notes ++ (tied_statements block.stmts other_after inside).notes) d.objects (tied_statements block.stmts other_after inside).objects) (sym (ties.block-parts block here inside))
      (subst (λ (w : Walk). Goes (w (spot in_loop inside)) ((starts_in_lists other inside.function y.objects).notes ++ (tied_statements block.stmts other_after inside).notes) (tied_statements block.stmts after inside).objects (tied_statements block.stmts other_after inside).objects) (sym (stands.block-is source _))
      (record { sites = both key tokens _ _ _ _ starts.sites b.sites; long = b.long })))

  pub block-goes : (x : Block) → BlockGoes x
  block-goes = ind-Block StatementGoes BlockGoes
      (λ x y is. subst (λ z. StatementGoes (roll-Stmt z)) is (on_statement y))
      (λ x y is. subst (λ z. BlockGoes (roll-Block z)) is (on_block y))
