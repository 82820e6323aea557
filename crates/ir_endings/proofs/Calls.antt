-- What is called by the things that stand in a statement is what that calls: an induction over the statement.
use Rattle.std.proofs.Common.{◌≡◌, ℕ, List, [], ◌∷◌, ◌++◌, map, refl, sym, subst, append-nil, append_assoc}
use Rattle.std.specs.Prelude.{flat_map, Option, Some, None, option_map}
use Rattle.sat_base.specs.declared.width.Width.{Width}
use Rattle.c_typed.specs.declared.call.TypedArg.{TypedArg}
use Rattle.c_typed.specs.declared.expression.TypedExpr.{TypedExpr}
use Rattle.c_typed.specs.declared.simple.TypedSimple.{TypedSimple}
use Rattle.c_typed.specs.declared.simple.TypedSimple.TheVariants as simple
use Rattle.c_typed.specs.declared.statement.Start.{Start}
use Rattle.c_typed.specs.declared.statement.TypedBlock.{TypedBlock, roll-TypedBlock}
use Rattle.c_typed.specs.declared.statement.TypedStmt.{TypedStmt}
use Rattle.c_typed.specs.declared.statement.TypedStmt.TheOpen as node
use Rattle.c_typed.specs.declared.statement.TypedStmt.TheViews.{roll-TypedStmt}
use Rattle.c_typed.specs.declared.statement.TypedStmt.TheFolds.{map-TypedStmt, fold-roll-TypedStmt, fold_out-TypedBlock, ind-TypedBlock}
use Rattle.c_typed.specs.declared.typed.Typed.{Typed}
use Rattle.called_functions.specs.Called.{called_in_argument, called_in_expression, called_in_option, called_in_simple, called_in_start, called_in_statement, called_in_block, of_statement as statement_calls, of_block as block_calls}
use Rattle.lawful_sources.specs.Statements.{Spot, Walk, looped, all_of, in_option, in_simple, in_simples, in_value_of, in_start, of_statement, of_block, in_statement, in_block, in_body}
use Rattle.lawful_sources.specs.Expressions.{argument_look, in_expression}
use Rattle.lawful_sources.specs.Things.{Written, Thing}
use Rattle.lawful_ir.specs.Lawful.{called_number}
use Rattle.ir_endings.proofs.Called.{CallThese, call-none, call-along, call-later, call-three, argument-calls, place-calls, call-calls, expression-calls}

-- before a thing that is no call of a function
call-before : (things : List Thing) (x : Thing) (ns : List ℕ) → called_number x ≡ [] → CallThese things ns → CallThese (things ++ (x ∷ [])) ns
call-before things x ns none p = subst (CallThese (things ++ (x ∷ []))) (append-nil ns) (call-along things (x ∷ []) ns [] p (call-later x [] [] none call-none))

module _ (source : Typed) where
  simple-calls : (x : TypedSimple) → CallThese (in_simple source x) (called_in_simple x)
  unfolding in_simple called_in_simple
  simple-calls (simple.Assign at place mark mark_at site value) = call-along _ _ _ _ (place-calls source place Written) (call-later _ _ _ refl (expression-calls source value _))
  simple-calls (simple.Step at place up mark_at site) = call-before _ _ _ refl (place-calls source place Written)
  simple-calls (simple.SetOverflow at value) = expression-calls source value _
  simple-calls (simple.Call call) = call-calls source call _

  simples-call : (list : List TypedSimple) → CallThese (in_simples source list) (flat_map called_in_simple list)
  simples-call [] = call-none
  simples-call (x ∷ list) = call-along _ _ _ _ (simple-calls x) (simples-call list)

  option-calls : (due : Option Width) (value : Option TypedExpr) → CallThese (in_option (λ e. in_expression source e due) value) (called_in_option called_in_expression value)
  option-calls due None = call-none
  option-calls due (Some e) = expression-calls source e due

  value-calls : (object : ℕ) (value : Option TypedArg) → CallThese (in_value_of source object (option_map (argument_look source) value)) (called_in_option called_in_argument value)
  value-calls object None = call-later _ _ _ refl call-none
  value-calls object (Some value) = call-before _ _ _ refl (argument-calls source value _)

  starts-call : (starts : List Start) → CallThese (flat_map (in_start source) starts) (flat_map called_in_start starts)
  starts-call [] = call-none
  starts-call (start ∷ starts) = call-along _ _ _ _ (value-calls start.object start.value) (starts-call starts)

  -- ---- the induction

  abbrev StatementCalls : TypedStmt → Type 0
  StatementCalls x = (spot : Spot) → CallThese (in_statement source x spot) (called_in_statement x)

  abbrev BlockCalls : TypedBlock → Type 0
  BlockCalls x = (spot : Spot) → CallThese (in_block source x spot) (called_in_block x)

  abbrev SS : Type 0
  SS = (x : TypedStmt) × StatementCalls x

  abbrev SB : Type 0
  SB = (x : TypedBlock) × BlockCalls x

  statement-by : (x : TypedStmt) (walk : Walk) (numbers : List ℕ) → in_statement source x ≡ walk → called_in_statement x ≡ numbers → ((spot : Spot) → CallThese (walk spot) numbers) → StatementCalls x
  statement-by x walk numbers is same f spot = subst (λ (w : Walk). CallThese (w spot) (called_in_statement x)) (sym is) (subst (CallThese (walk spot)) (sym same) (f spot))

  stands : (z : node.TypedStmt-F TypedStmt TypedBlock) → in_statement source (roll-TypedStmt z) ≡ of_statement source (map-TypedStmt TypedStmt TypedBlock Walk Walk (in_statement source) (in_block source) z)
  stands = fold-roll-TypedStmt _ _ (of_statement source) (of_block source)

  calls : (z : node.TypedStmt-F TypedStmt TypedBlock) → called_in_statement (roll-TypedStmt z) ≡ statement_calls (map-TypedStmt TypedStmt TypedBlock (List ℕ) (List ℕ) called_in_statement called_in_block z)
  calls = fold-roll-TypedStmt _ _ statement_calls block_calls

  on_statement : (y : node.TypedStmt-F SS SB) → StatementCalls (roll-TypedStmt (map-TypedStmt SS SB TypedStmt TypedBlock (λ q. q.0) (λ q. q.0) y))
  unfolding of_statement statement_calls
  on_statement (node.Empty at) = statement-by _ _ _ (stands _) (calls _) (λ spot. call-later _ _ _ refl call-none)
  on_statement (node.Block block) = statement-by _ _ _ (stands _) (calls _) (λ spot. call-later _ _ _ refl (block.1 spot))
  on_statement (node.Simple one) = statement-by _ _ _ (stands _) (calls _) (λ spot. call-later _ _ _ refl (simple-calls one))
  on_statement (node.If at cond this None) = statement-by _ _ _ (stands _) (calls _) (λ spot.
      call-later _ _ _ refl (call-three (called_in_expression cond) (called_in_statement this.0) [] _ (call-along _ _ _ _ (expression-calls source cond None) (call-along _ _ _ _ (this.1 spot) call-none))))
  on_statement (node.If at cond this (Some other)) = statement-by _ _ _ (stands _) (calls _) (λ spot.
      call-later _ _ _ refl (call-three (called_in_expression cond) (called_in_statement this.0) (called_in_statement other.0) _
      (call-along _ _ _ _ (expression-calls source cond None) (call-along _ _ _ _ (this.1 spot) (other.1 spot)))))
  on_statement (node.While at cond body) = statement-by _ _ _ (stands _) (calls _) (λ spot. call-later _ _ _ refl (call-along _ _ _ _ (expression-calls source cond None) (body.1 (looped spot))))
  on_statement (node.Do at body cond) = statement-by _ _ _ (stands _) (calls _) (λ spot. call-later _ _ _ refl (call-along _ _ _ _ (body.1 (looped spot)) (expression-calls source cond None)))
  on_statement (node.For at first cond last body) = statement-by _ _ _ (stands _) (calls _) (λ spot.
      call-later _ _ _ refl (subst (CallThese _) (four (flat_map called_in_simple first) (called_in_option called_in_expression cond) (flat_map called_in_simple last) (called_in_statement body.0))
      (call-along _ _ _ _ (simples-call first) (call-along _ _ _ _ (option-calls None cond) (call-along _ _ _ _ (simples-call last) (body.1 (looped spot)))))))
    where
      four : (a b c d : List ℕ) → a ++ (b ++ (c ++ d)) ≡ ((a ++ b) ++ c) ++ d
      four a b c d = sym (simp append_assoc)
  on_statement (node.Break at) = statement-by _ _ _ (stands _) (calls _) (λ spot. call-later _ _ _ refl (call-later _ _ _ refl call-none))
  on_statement (node.Continue at) = statement-by _ _ _ (stands _) (calls _) (λ spot. call-later _ _ _ refl (call-later _ _ _ refl call-none))
  on_statement (node.Return at value) = statement-by _ _ _ (stands _) (calls _) (λ spot. call-later _ _ _ refl (call-later _ _ _ refl (option-calls spot.gives value)))

  listed : (ys : List SS) (spot : Spot) → CallThese (all_of (map (in_statement source) (map (λ (q : SS). q.0) ys)) spot) (flat_map (λ numbers. numbers) (map called_in_statement (map (λ (q : SS). q.0) ys)))
  listed [] spot = call-none
  listed (y ∷ ys) spot = call-along _ _ _ _ (y.1 spot) (listed ys spot)

  on_block : (y : node.TypedBlock-F SS SB) → BlockCalls (record { at = y.at; objects = y.objects; stmts = map (λ (q : SS). q.0) y.stmts })
  unfolding of_block block_calls
  on_block y spot =
      let block : TypedBlock = record { at = y.at; objects = y.objects; stmts = map (λ (q : SS). q.0) y.stmts } in
      subst (λ (w : Walk). CallThese (w spot) (called_in_block block)) (sym (fold_out-TypedBlock _ _ (of_statement source) (of_block source) block))
      (subst (CallThese _) (sym (fold_out-TypedBlock _ _ statement_calls block_calls block)) (call-along _ _ _ _ (starts-call y.objects) (listed y.stmts spot)))

  block-calls : (x : TypedBlock) → BlockCalls x
  block-calls = ind-TypedBlock StatementCalls BlockCalls
      (λ x y is. subst (λ z. StatementCalls (roll-TypedStmt z)) is (on_statement y))
      (λ x y is. subst (λ z. BlockCalls (roll-TypedBlock z)) is (on_block y))

  pub body-calls : (gives : Option Width) (body : Option TypedBlock) → CallThese (in_body source gives body) (called_in_option called_in_block body)
  body-calls gives None = call-none
  body-calls gives (Some body) = block-calls body _
