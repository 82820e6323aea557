-- In a statement views are given of the scalars that are exposed: an induction over the tree, in both walks.
use Rattle.std.proofs.Common.{◌≡◌, ℕ, suc, List, [], ◌∷◌, ◌++◌, Bool, true, length, map, refl, sym, subst}
use Rattle.std.specs.Prelude.{flat_map, nat_lt, Option, Some, None, is_some}
use Rattle.std.proofs.lemmas.Grind.{flat_map-append}
use Rattle.c_tree.specs.declared.declaration.Decl.{Decl}
use Rattle.c_tree.specs.declared.declaration.Objects.{Objects}
use Rattle.c_tree.specs.declared.expression.Expr.{Expr}
use Rattle.c_tree.specs.declared.program.Item.{Item}
use Rattle.c_tree.specs.declared.simple.Simple.{Simple}
use Rattle.c_tree.specs.declared.statement.Block.{Block, ind-Block, roll-Block}
use Rattle.c_tree.specs.declared.statement.Stmt.TheOpen as node
use Rattle.c_tree.specs.declared.statement.Stmt.{Stmt, map-Stmt, roll-Stmt}
use Rattle.c_tree.specs.declared.statement.Stmt.TheVariants as stmt
use Rattle.c_typed.specs.declared.statement.TypedBlock.{TypedBlock}
use Rattle.c_typed.specs.declared.statement.TypedStmt.{TypedStmt}
use Rattle.c_typed.specs.declared.typed.Typed.{Typed}
use Rattle.operator_meaning.specs.declared.object.Object.{Object}
use Rattle.c_seen.specs.declared.seen.Seen.{Seen}
use Rattle.c_seen.specs.declared.seen.Seen.TheVariants as seen
use Rattle.c_seen.specs.declared.statements.Spot.{Spot as SeenSpot}
use Rattle.c_seen.specs.Declarations as scope
use Rattle.c_seen.specs.Declarations.{object, dimension, number, number_if_any, seen_in_declared, seen_in_objects, seen_in_lists, after_lists}
use Rattle.c_seen.specs.Meanings.{Names}
use Rattle.c_seen.specs.Statements.{simples, seen_in_statement, seen_in_block, seen_in_statements}
use Rattle.c_seen.proofs.Statements_seen as sees
use Rattle.tied_names.specs.declared.note.Note.{Note}
use Rattle.tied_names.specs.Ties.{Here}
use Rattle.tied_expressions.specs.Expressions.{tied_expression}
use Rattle.tied_statements.specs.declared.statements.Inside.{Inside}
use Rattle.tied_statements.specs.Declarations.{with_objects, start_value, after_declared, starts_of, starts_in_lists}
use Rattle.tied_statements.specs.Statements.{Done, tied_simple, tied_simples, tied_if_any, returned, tied_statement, tied_block, tied_statements}
use Rattle.tied_statements.proofs.Statement_equations as ties
use Rattle.lawful_sources.specs.Things.{Thing, Statement}
use Rattle.lawful_sources.specs.Statements.{Spot, Walk, in_option, in_simple, in_simples, in_value, in_returned, in_start, of_statement, of_block, all_of, in_statement, in_block}
use Rattle.lawful_sources.proofs.Passing.{Each}
use Rattle.lawful_sources.proofs.Statements as stands
use Rattle.lawful_laws.proofs.Statements.{earlier, later, tail}
use Rattle.lawful_names.proofs.Clean.{Clean}
use Rattle.lawful_names.proofs.Declarations.{declared-near, object-sound}
use Rattle.lawful_names.proofs.Shapes.{Shaped, is_sound, sound-clean, sound-shapes}
use Rattle.lawful_names.proofs.Statements.{still-near}
use Rattle.lawful_names.proofs.Within.{Within, within-more, stands-last, starts-grow, lists-grow, statement-grows, statements-grow}
use Rattle.lawful_objects.proofs.Exposing.{Exposes, nothing, more, beyond}
use Rattle.lawful_objects.proofs.ExposingExpressions.{Close, number-exposes}
use Rattle.lawful_objects.proofs.ExposingSimples.{simple-exposes, simples-expose, value-exposes, returned-exposes, start-exposes}
use Rattle.lawful_objects.proofs.Walks.{Grown, Both, same-objects, still-both, both-declared}

module _ (source : Typed) (items : List Item) (exposed : List ℕ) where
  -- ---- declarations

  -- what is noted at starts of objects, and the place after them
  record Starting (names : Names) (one here : Here) (notes : List Note) (things : List Thing) : Type 0 where
    exposes : Exposes source notes things
    near : Close source items names here
    both : Both exposed one here

  start-alike : (names : Names) (one here : Here) (depth : ℕ) (decl : Decl) (function : ℕ) → Close source items names here → Both exposed one here → Within (after_declared here (Some function) decl).objects source.objects
      → Each is_sound (seen_in_declared names depth decl) → Exposes source (start_value one decl).notes (in_start source (record { object = length here.objects; value = (start_value here decl).value }))
  start-alike names one here depth decl function near b within p =
      let sounds : is_sound (seen.Object (object decl (nat_lt 0 depth))) ≡ true = object-sound source items Shaped is_sound sound-shapes names depth decl p in
      let good : Clean (seen.Object (object decl (nat_lt 0 depth))) = sound-clean _ sounds in
      subst (λ (h : Here). Exposes source (start_value h decl).notes (in_start source (record { object = length here.objects; value = (start_value here decl).value }))) (sym b.is)
      (start-exposes source items names here b.objects near decl (nat_lt 0 depth) function _ (length here.objects) (stands-last here.objects source.objects _ within) good.initialiser
      (earlier is_sound _ _ (later is_sound (dimension names decl.cols) _ (later is_sound (dimension names decl.rows) _ p))))

  starts-expose : (names : Names) (one here : Here) (depth function : ℕ) (decls : List Decl) → Close source items names here → Both exposed one here → Within (starts_of here function decls).after.objects source.objects → Each is_sound (seen_in_objects names depth decls)
      → Starting (scope.after_objects names depth decls) (starts_of one function decls).after (starts_of here function decls).after (starts_of one function decls).notes (flat_map (in_start source) (starts_of here function decls).value)
  starts-expose names one here depth function [] near b within p = record { exposes = nothing source; near = near; both = b }
  starts-expose names one here depth function (decl ∷ decls) near b within p =
      let own : Each is_sound (seen_in_declared names depth decl) = earlier is_sound (seen_in_declared names depth decl) (seen_in_objects (scope.after_declared names depth decl) depth decls) p in
      let inside : Within (after_declared here (Some function) decl).objects source.objects = within-more _ _ _ (starts-grow (after_declared here (Some function) decl) function decls) within in
      let rest : Starting (scope.after_objects (scope.after_declared names depth decl) depth decls) (starts_of (after_declared one (Some function) decl) function decls).after (starts_of (after_declared here (Some function) decl) function decls).after
      (starts_of (after_declared one (Some function) decl) function decls).notes (flat_map (in_start source) (starts_of (after_declared here (Some function) decl) function decls).value) =
      starts-expose (scope.after_declared names depth decl) (after_declared one (Some function) decl) (after_declared here (Some function) decl) depth function decls
      (declared-near source items Shaped is_sound sound-shapes names here depth decl (nat_lt 0 depth) (Some function) near inside (object-sound source items Shaped is_sound sound-shapes names depth decl own))
      (both-declared exposed one here (Some function) decl b) within (later is_sound (seen_in_declared names depth decl) _ p) in
      record { exposes = more source _ _ _ _ (start-alike names one here depth decl function near b inside own) rest.exposes; near = rest.near; both = rest.both }

  lists-expose : (names : Names) (one here : Here) (depth function : ℕ) (lists : List Objects) → Close source items names here → Both exposed one here → Within (starts_in_lists here function lists).after.objects source.objects → Each is_sound (seen_in_lists names depth lists)
      → Starting (after_lists names depth lists) (starts_in_lists one function lists).after (starts_in_lists here function lists).after (starts_in_lists one function lists).notes (flat_map (in_start source) (starts_in_lists here function lists).value)
  lists-expose names one here depth function [] near b within p = record { exposes = nothing source; near = near; both = b }
  lists-expose names one here depth function (list ∷ lists) near b within p =
      let later_names : Names = scope.after_objects names depth list.decls in
      let begun : Starting later_names (starts_of one function list.decls).after (starts_of here function list.decls).after (starts_of one function list.decls).notes (flat_map (in_start source) (starts_of here function list.decls).value) =
      starts-expose names one here depth function list.decls near b (within-more _ _ _ (lists-grow (starts_of here function list.decls).after function lists) within) (earlier is_sound (seen_in_objects names depth list.decls) _ p) in
      let rest : Starting (after_lists later_names depth lists) (starts_in_lists (starts_of one function list.decls).after function lists).after (starts_in_lists (starts_of here function list.decls).after function lists).after
      (starts_in_lists (starts_of one function list.decls).after function lists).notes (flat_map (in_start source) (starts_in_lists (starts_of here function list.decls).after function lists).value) =
      lists-expose later_names (starts_of one function list.decls).after (starts_of here function list.decls).after depth function lists begun.near begun.both within (later is_sound (seen_in_objects names depth list.decls) _ p) in
      record {
        exposes = subst (Exposes source (starts_in_lists one function (list ∷ lists)).notes) (sym (flat_map-append (in_start source) (starts_of here function list.decls).value _)) (more source _ _ _ _ begun.exposes rest.exposes);
        near = rest.near;
        both = rest.both;
      }

  -- ---- statements

  abbrev seen_spot : ℕ → Bool → Inside → SeenSpot
  seen_spot depth in_loop inside = record { depth = depth; in_loop = in_loop; gives = is_some inside.gives }

  abbrev spot : Bool → Inside → Spot
  spot in_loop inside = record { in_loop = in_loop; gives = inside.gives }

  -- what is noted in a part of the tree, and the objects after it
  pub record Goes (firsts objects : List Object) (notes : List Note) (things : List Thing) : Type 0 where
    pub exposes : Exposes source notes things
    pub grown : Grown exposed firsts objects

  abbrev StatementGoes : Stmt → Type 0
  StatementGoes x = (names : Names) (one here : Here) (inside : Inside) (depth : ℕ) (in_loop : Bool) → Close source items names here → Both exposed one here → Within (tied_statement x here inside).objects source.objects
      → Each is_sound (seen_in_statement x names (seen_spot depth in_loop inside))
      → Goes (tied_statement x one inside).objects (tied_statement x here inside).objects (tied_statement x one inside).notes (in_statement source (tied_statement x here inside).value (spot in_loop inside))

  abbrev BlockGoes : Block → Type 0
  BlockGoes x = (names : Names) (one here : Here) (inside : Inside) (depth : ℕ) (in_loop : Bool) → Close source items names here → Both exposed one here → Within (tied_block x here inside).objects source.objects
      → Each is_sound (seen_in_block x names (seen_spot depth in_loop inside))
      → Goes (tied_block x one inside).objects (tied_block x here inside).objects (tied_block x one inside).notes (in_block source (tied_block x here inside).value (spot in_loop inside))

  step : (x : Stmt) (names : Names) (one here : Here) (inside : Inside) (depth : ℕ) (in_loop : Bool) (done : Here → Done TypedStmt) (list : List Seen) (walk : Walk) → ((h : Here) → tied_statement x h inside ≡ done h)
      → seen_in_statement x names (seen_spot depth in_loop inside) ≡ list → in_statement source (done here).value ≡ walk
      → (Within (done here).objects source.objects → Each is_sound list → Goes (done one).objects (done here).objects (done one).notes (walk (spot in_loop inside))) → Within (tied_statement x here inside).objects source.objects
      → Each is_sound (seen_in_statement x names (seen_spot depth in_loop inside))
      → Goes (tied_statement x one inside).objects (tied_statement x here inside).objects (tied_statement x one inside).notes (in_statement source (tied_statement x here inside).value (spot in_loop inside))
  step x names one here inside depth in_loop done list walk tied sees stands what within given =
      subst (λ (d : Done TypedStmt). Goes d.objects (tied_statement x here inside).objects d.notes (in_statement source (tied_statement x here inside).value (spot in_loop inside))) (sym (tied one))
      (subst (λ (d : Done TypedStmt). Goes (done one).objects d.objects (done one).notes (in_statement source d.value (spot in_loop inside))) (sym (tied here))
      (subst (λ (w : Walk). Goes (done one).objects (done here).objects (done one).notes (w (spot in_loop inside))) (sym stands)
      (what (subst (λ (d : Done TypedStmt). Within d.objects source.objects) (tied here) within) (subst (λ (l : List Seen). Each is_sound l) sees given))))

  value-of : (x : Expr) (names : Names) (one here : Here) → Close source items names here → Both exposed one here → Each is_sound (number names x) → Exposes source (tied_expression x one).notes (in_value source (tied_expression x here).value)
  value-of x names one here near b p = subst (λ (h : Here). Exposes source (tied_expression x h).notes (in_value source (tied_expression x here).value)) (sym b.is) (number-exposes source items x names here b.objects near p)

  value-if-any : (x : Option Expr) (names : Names) (one here : Here) → Close source items names here → Both exposed one here → Each is_sound (number_if_any names x) → Exposes source (tied_if_any one x).notes (in_option (in_value source) (tied_if_any here x).value)
  value-if-any x names one here near b p = subst (λ (h : Here). Exposes source (tied_if_any h x).notes (in_option (in_value source) (tied_if_any here x).value)) (sym b.is) (value-exposes source items names here b.objects near x p)

  simples-of : (xs : List Simple) (names : Names) (one here : Here) → Close source items names here → Both exposed one here → Each is_sound (simples names xs) → Exposes source (tied_simples one xs).notes (in_simples source (tied_simples here xs).value)
  simples-of xs names one here near b p = subst (λ (h : Here). Exposes source (tied_simples h xs).notes (in_simples source (tied_simples here xs).value)) (sym b.is) (simples-expose source items names here b.objects near xs p)

  returned-of : (names : Names) (one here : Here) (inside : Inside) (in_loop : Bool) → Close source items names here → Both exposed one here → (value : Option Expr) → Each is_sound (number_if_any names value)
      → Exposes source (tied_if_any one value).notes (in_option (in_returned source (spot in_loop inside)) (returned inside.gives (tied_if_any here value).value))
  returned-of names one here inside in_loop near b value p =
      subst (λ (h : Here). Exposes source (tied_if_any h value).notes (in_option (in_returned source (spot in_loop inside)) (returned inside.gives (tied_if_any here value).value))) (sym b.is)
      (returned-exposes source items names here b.objects near inside.gives in_loop value p)

  -- a statement in which no object is declared
  still : (one here : Here) (notes : List Note) (things : List Thing) → Both exposed one here → Exposes source notes things → Goes one.objects here.objects notes (Statement ∷ things)
  still one here notes things b e = record { exposes = beyond source Statement notes things refl e; grown = same-objects exposed one here b }

  ends : (firsts objects : List Object) (notes : List Note) (things : List Thing) → Exposes source notes things → Grown exposed firsts objects → Goes firsts objects notes (Statement ∷ things)
  ends firsts objects notes things e g = record { exposes = beyond source Statement notes things refl e; grown = g }

  abbrev SS : Type 0
  SS = (x : Stmt) × StatementGoes x

  abbrev SB : Type 0
  SB = (x : Block) × BlockGoes x

  on_statement : (y : node.Stmt-F SS SB) → StatementGoes (roll-Stmt (map-Stmt SS SB Stmt Block (λ q. q.0) (λ q. q.0) y))
  unfolding of_statement
  on_statement (node.Empty at) = subst StatementGoes (sym (stmt.rolls-Empty at)) (λ names one here inside depth in_loop near b.
      step _ names one here inside depth in_loop _ _ _ (λ h. ties.tied-Empty at h inside) (sees.sees-Empty at names _) (stands.statement-Empty source at) (λ within p. still one here [] [] b (nothing source)))
  on_statement (node.Block block) = subst StatementGoes (sym (stmt.rolls-Block block.0)) (λ names one here inside depth in_loop near b.
      step _ names one here inside depth in_loop _ _ _ (λ h. ties.tied-Block block.0 h inside) (sees.sees-Block block.0 names _) (stands.statement-Block source _) (λ within p.
      let g : Goes (tied_block block.0 one inside).objects (tied_block block.0 here inside).objects (tied_block block.0 one inside).notes (in_block source (tied_block block.0 here inside).value (spot in_loop inside)) =
      block.1 names one here inside (suc depth) in_loop near b within (tail is_sound _ _ p) in ends _ _ _ _ g.exposes g.grown))
  on_statement (node.Simple s) = subst StatementGoes (sym (stmt.rolls-Simple s)) (λ names one here inside depth in_loop near b.
      step _ names one here inside depth in_loop _ _ _ (λ h. ties.tied-Simple s h inside) (sees.sees-Simple s names _) (stands.statement-Simple source _) (λ within p.
      still one here _ _ b (subst (λ (h : Here). Exposes source (tied_simple h s).notes (in_simple source (tied_simple here s).value)) (sym b.is) (simple-exposes source items names here b.objects near s (tail is_sound _ _ p)))))
  on_statement (node.If at cond this None) = subst StatementGoes (sym (stmt.rolls-If at cond this.0 None)) (λ names one here inside depth in_loop near b.
      step _ names one here inside depth in_loop _ _ _ (λ h. ties.tied-Then at cond this.0 h inside) (sees.sees-If at cond this.0 None names _) (stands.statement-Then source at _ _) (λ within p.
      let g : Goes (tied_statement this.0 one inside).objects (tied_statement this.0 here inside).objects (tied_statement this.0 one inside).notes (in_statement source (tied_statement this.0 here inside).value (spot in_loop inside)) =
      this.1 names one here inside depth in_loop near b within (earlier is_sound _ _ (later is_sound (number names cond) _ (tail is_sound _ _ p))) in
      ends _ _ _ _ (more source _ _ _ _ (value-of cond names one here near b (earlier is_sound _ _ (tail is_sound _ _ p))) (more source _ [] _ [] g.exposes (nothing source))) g.grown))
  on_statement (node.If at cond this (Some other)) = subst StatementGoes (sym (stmt.rolls-If at cond this.0 (Some other.0))) (λ names one here inside depth in_loop near b.
      step _ names one here inside depth in_loop _ _ _ (λ h. ties.tied-Else at cond this.0 other.0 h inside) (sees.sees-If at cond this.0 (Some other.0) names _) (stands.statement-Else source at _ _ _) (λ within p.
      let after : Here = with_objects here (tied_statement this.0 here inside).objects in
      let after_one : Here = with_objects one (tied_statement this.0 one inside).objects in
      let g : Goes (tied_statement this.0 one inside).objects (tied_statement this.0 here inside).objects (tied_statement this.0 one inside).notes (in_statement source (tied_statement this.0 here inside).value (spot in_loop inside)) =
      this.1 names one here inside depth in_loop near b (within-more _ _ _ (statement-grows other.0 after inside) within) (earlier is_sound _ _ (later is_sound (number names cond) _ (tail is_sound _ _ p))) in
      let r : Goes (tied_statement other.0 after_one inside).objects (tied_statement other.0 after inside).objects (tied_statement other.0 after_one inside).notes (in_statement source (tied_statement other.0 after inside).value (spot in_loop inside)) =
      other.1 names after_one after inside depth in_loop (still-near source items Shaped names here _ near) (still-both exposed one here _ _ b g.grown) within
      (later is_sound (seen_in_statement this.0 names (seen_spot depth in_loop inside)) _ (later is_sound (number names cond) _ (tail is_sound _ _ p))) in
      ends _ _ _ _ (more source _ _ _ _ (value-of cond names one here near b (earlier is_sound _ _ (tail is_sound _ _ p))) (more source _ _ _ _ g.exposes r.exposes)) r.grown))
  on_statement (node.While at cond body) = subst StatementGoes (sym (stmt.rolls-While at cond body.0)) (λ names one here inside depth in_loop near b.
      step _ names one here inside depth in_loop _ _ _ (λ h. ties.tied-While at cond body.0 h inside) (sees.sees-While at cond body.0 names _) (stands.statement-While source at _ _) (λ within p.
      let g : Goes (tied_statement body.0 one inside).objects (tied_statement body.0 here inside).objects (tied_statement body.0 one inside).notes (in_statement source (tied_statement body.0 here inside).value (spot true inside)) =
      body.1 names one here inside depth true near b within (later is_sound (number names cond) _ (tail is_sound _ _ p)) in
      ends _ _ _ _ (more source _ _ _ _ (value-of cond names one here near b (earlier is_sound _ _ (tail is_sound _ _ p))) g.exposes) g.grown))
  on_statement (node.Do at body cond) = subst StatementGoes (sym (stmt.rolls-Do at body.0 cond)) (λ names one here inside depth in_loop near b.
      step _ names one here inside depth in_loop _ _ _ (λ h. ties.tied-Do at body.0 cond h inside) (sees.sees-Do at body.0 cond names _) (stands.statement-Do source at _ _) (λ within p.
      let g : Goes (tied_statement body.0 one inside).objects (tied_statement body.0 here inside).objects (tied_statement body.0 one inside).notes (in_statement source (tied_statement body.0 here inside).value (spot true inside)) =
      body.1 names one here inside depth true near b within (earlier is_sound _ _ (tail is_sound _ _ p)) in
      ends _ _ _ _ (more source _ _ _ _ g.exposes (value-of cond names (with_objects one (tied_statement body.0 one inside).objects) (with_objects here (tied_statement body.0 here inside).objects)
      (still-near source items Shaped names here _ near) (still-both exposed one here _ _ b g.grown) (later is_sound (seen_in_statement body.0 names (seen_spot depth true inside)) _ (tail is_sound _ _ p)))) g.grown))
  on_statement (node.For at firsts cond lasts body) = subst StatementGoes (sym (stmt.rolls-For at firsts cond lasts body.0)) (λ names one here inside depth in_loop near b.
      step _ names one here inside depth in_loop _ _ _ (λ h. ties.tied-For at firsts cond lasts body.0 h inside) (sees.sees-For at firsts cond lasts body.0 names _) (stands.statement-For source at _ _ _ _) (λ within p.
      let past : Each is_sound (number_if_any names cond ++ (simples names lasts ++ seen_in_statement body.0 names (seen_spot depth true inside))) = later is_sound (simples names firsts) _ (tail is_sound _ _ p) in
      let g : Goes (tied_statement body.0 one inside).objects (tied_statement body.0 here inside).objects (tied_statement body.0 one inside).notes (in_statement source (tied_statement body.0 here inside).value (spot true inside)) =
      body.1 names one here inside depth true near b within (later is_sound (simples names lasts) _ (later is_sound (number_if_any names cond) _ past)) in
      ends _ _ _ _ (more source _ _ _ _ (simples-of firsts names one here near b (earlier is_sound _ _ (tail is_sound _ _ p))) (more source _ _ _ _ (value-if-any cond names one here near b (earlier is_sound _ _ past))
      (more source _ _ _ _ (simples-of lasts names one here near b (earlier is_sound _ _ (later is_sound (number_if_any names cond) _ past))) g.exposes))) g.grown))
  on_statement (node.Break at) = subst StatementGoes (sym (stmt.rolls-Break at)) (λ names one here inside depth in_loop near b.
      step _ names one here inside depth in_loop _ _ _ (λ h. ties.tied-Break at h inside) (sees.sees-Break at names _) (stands.statement-Break source at) (λ within p. still one here [] _ b (beyond source _ [] [] refl (nothing source))))
  on_statement (node.Continue at) = subst StatementGoes (sym (stmt.rolls-Continue at)) (λ names one here inside depth in_loop near b.
      step _ names one here inside depth in_loop _ _ _ (λ h. ties.tied-Continue at h inside) (sees.sees-Continue at names _) (stands.statement-Continue source at) (λ within p. still one here [] _ b (beyond source _ [] [] refl (nothing source))))
  on_statement (node.Return at value) = subst StatementGoes (sym (stmt.rolls-Return at value)) (λ names one here inside depth in_loop near b.
      step _ names one here inside depth in_loop _ _ _ (λ h. ties.tied-Return at value h inside) (sees.sees-Return at value names _) (stands.statement-Return source at _) (λ within p.
      still one here _ _ b (beyond source _ _ _ refl (returned-of names one here inside in_loop near b value (tail is_sound _ _ (tail is_sound _ _ p))))))

  listed : (ys : List SS) (names : Names) (one here : Here) (inside : Inside) (depth : ℕ) (in_loop : Bool) → Close source items names here → Both exposed one here → Within (tied_statements (map (λ (q : SS). q.0) ys) here inside).objects source.objects
      → Each is_sound (seen_in_statements (map (λ (q : SS). q.0) ys) names (seen_spot depth in_loop inside))
      → Goes (tied_statements (map (λ (q : SS). q.0) ys) one inside).objects (tied_statements (map (λ (q : SS). q.0) ys) here inside).objects (tied_statements (map (λ (q : SS). q.0) ys) one inside).notes
      (all_of (map (in_statement source) (tied_statements (map (λ (q : SS). q.0) ys) here inside).value) (spot in_loop inside))
  listed [] names one here inside depth in_loop near b within p = record { exposes = nothing source; grown = same-objects exposed one here b }
  listed (y ∷ ys) names one here inside depth in_loop near b within p =
      let after : Here = with_objects here (tied_statement y.0 here inside).objects in
      let after_one : Here = with_objects one (tied_statement y.0 one inside).objects in
      let stmts : List Stmt = map (λ (q : SS). q.0) ys in
      let g : Goes (tied_statement y.0 one inside).objects (tied_statement y.0 here inside).objects (tied_statement y.0 one inside).notes (in_statement source (tied_statement y.0 here inside).value (spot in_loop inside)) =
      y.1 names one here inside depth in_loop near b (within-more _ _ _ (statements-grow stmts after inside) within) (earlier is_sound _ _ p) in
      let r : Goes (tied_statements stmts after_one inside).objects (tied_statements stmts after inside).objects (tied_statements stmts after_one inside).notes (all_of (map (in_statement source) (tied_statements stmts after inside).value) (spot in_loop inside)) =
      listed ys names after_one after inside depth in_loop (still-near source items Shaped names here _ near) (still-both exposed one here _ _ b g.grown) within (later is_sound (seen_in_statement y.0 names (seen_spot depth in_loop inside)) _ p) in
      record { exposes = more source _ _ _ _ g.exposes r.exposes; grown = r.grown }

  on_block : (y : node.Block-F SS SB) → BlockGoes (record { at = y.at; objects = y.objects; stmts = map (λ (q : SS). q.0) y.stmts })
  unfolding of_block
  on_block y names one here inside depth in_loop near b within p =
      let block : Block = record { at = y.at; objects = y.objects; stmts = map (λ (q : SS). q.0) y.stmts } in
      let after : Here = (starts_in_lists here inside.function y.objects).after in
      let after_one : Here = (starts_in_lists one inside.function y.objects).after in
      let parts : Each is_sound (seen_in_lists names depth y.objects ++ seen_in_statements block.stmts (after_lists names depth y.objects) (seen_spot depth in_loop inside)) =
      subst (λ (l : List Seen). Each is_sound l) (sees.block-parts block names (seen_spot depth in_loop inside)) p in
      let objects : Within (tied_statements block.stmts after inside).objects source.objects = subst (λ (d : Done TypedBlock). Within d.objects source.objects) (ties.block-parts block here inside) within in
      let s : Starting (after_lists names depth y.objects) after_one after (starts_in_lists one inside.function y.objects).notes (flat_map (in_start source) (starts_in_lists here inside.function y.objects).value) =
      lists-expose names one here depth inside.function y.objects near b (within-more _ _ _ (statements-grow block.stmts after inside) objects) (earlier is_sound _ _ parts) in
      let r : Goes (tied_statements block.stmts after_one inside).objects (tied_statements block.stmts after inside).objects (tied_statements block.stmts after_one inside).notes
      (all_of (map (in_statement source) (tied_statements block.stmts after inside).value) (spot in_loop inside)) =
      listed y.stmts (after_lists names depth y.objects) after_one after inside depth in_loop s.near s.both objects (later is_sound (seen_in_lists names depth y.objects) _ parts) in
      subst (λ (d : Done TypedBlock). Goes d.objects (tied_block block here inside).objects d.notes (in_block source (tied_block block here inside).value (spot in_loop inside))) (sym (ties.block-parts block one inside))
      (subst (λ (d : Done TypedBlock). Goes (tied_statements block.stmts after_one inside).objects d.objects ((starts_in_lists one inside.function y.objects).notes ++ (tied_statements block.stmts after_one inside).notes)
      (in_block source d.value (spot in_loop inside))) (sym (ties.block-parts block here inside))
      (subst (λ (w : Walk). Goes (tied_statements block.stmts after_one inside).objects (tied_statements block.stmts after inside).objects ((starts_in_lists one inside.function y.objects).notes ++ (tied_statements block.stmts after_one inside).notes)
      (w (spot in_loop inside))) (sym (stands.block-is source _))
      (record { exposes = more source _ _ _ _ s.exposes r.exposes; grown = r.grown })))

  pub block-goes : (x : Block) → BlockGoes x
  block-goes = ind-Block StatementGoes BlockGoes
      (λ x y is. subst (λ z. StatementGoes (roll-Stmt z)) is (on_statement y))
      (λ x y is. subst (λ z. BlockGoes (roll-Block z)) is (on_block y))
