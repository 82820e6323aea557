-- Statements whose calls are lawful, and whose objects follow one another, have a tree.
use Rattle.std.proofs.Common.{◌≡◌, ℕ, ◌+◌, List, [], ◌∷◌, ◌++◌, Bool, true, false, IsTrue, map, refl, sym, ap, ◌∙◌, subst}
use Rattle.std.specs.Prelude.{Option, Some, None, ◌&&◌, ◌==◌, flat_map, option_map, slice_get}
use Rattle.std.specs.List.{list_all}
use Rattle.std.proofs.lemmas.Bool.{and_parts, and_from, eqb-true, eq-eqb}
use Rattle.std.proofs.lemmas.Grind.{flat_map-append}
use Rattle.c_typed.specs.declared.call.TypedArg.{TypedArg}
use Rattle.c_typed.specs.declared.expression.TypedExpr.{TypedExpr}
use Rattle.c_typed.specs.declared.simple.TypedSimple.{TypedSimple}
use Rattle.c_typed.specs.declared.simple.TypedSimple.TheVariants.{Assign, Step, SetOverflow, Call}
use Rattle.c_typed.specs.declared.statement.Start.{Start}
use Rattle.c_typed.specs.declared.statement.TypedBlock.{TypedBlock, roll-TypedBlock}
use Rattle.c_typed.specs.declared.statement.TypedStmt.{TypedStmt, roll-TypedStmt, map-TypedStmt}
use Rattle.c_typed.specs.declared.statement.TypedStmt.TheOpen as node
use Rattle.c_typed.specs.declared.statement.TypedStmt.TheFolds.{ind-TypedBlock}
use Rattle.c_typed.specs.declared.statement.TypedStmt.TheVariants as statement
use Rattle.c_typed.specs.declared.typed.Typed.{Typed}
use Rattle.source_trees.specs.Statements.{first_object}
use Rattle.typed_meaning.specs.Statements.{option_of}
use Rattle.tree_agreement.specs.Lawful.{all_hold, argument_fits, expression_fits}
use Rattle.statement_agreement.specs.Lawful.{follow, fits_where, simple_fits, start_fits, statement_fits, block_fits}
use Rattle.statement_agreement.proofs.LawfulStatements as fits
use Rattle.lawful_sources.specs.Things.{Written, Thing, Statement, taken_by_object}
use Rattle.lawful_sources.specs.Expressions.{argument_look}
use Rattle.lawful_sources.specs.Lawful.{is_whole}
use Rattle.lawful_sources.specs.Objects.{follow_from, follow_one_another, begun, begun_in}
use Rattle.lawful_sources.specs.Statements.{Spot, looped, Walk, in_option, in_simple, in_simples, in_value, in_returned, in_start, in_value_of, of_statement, of_block, all_of, in_statement, in_block}
use Rattle.lawful_sources.proofs.Begun.{begins_nothing, none-begun, expressions-begin-nothing}
use Rattle.lawful_sources.proofs.Passing.{argument-passes}
use Rattle.lawful_sources.proofs.Statements as stands
use Rattle.lawful_trees.proofs.Expressions.{is_lawful_call, later, both-parts, defined, Lawful, argument-fits, place-fits, call-fits, expression-fits}

-- ---- numbers that follow one another

front-from : (number : ℕ) (xs ys : List ℕ) → follow_from number (xs ++ ys) ≡ true → follow_from number xs ≡ true
front-from number [] ys p = refl
front-from number (x ∷ xs) ys p = let both = and_parts (x == number) _ p in and_from (x == number) _ both.0 (front-from (number + 1) xs ys both.1)

front-follows : (xs ys : List ℕ) → follow_one_another (xs ++ ys) ≡ true → follow_one_another xs ≡ true
front-follows [] ys p = refl
front-follows (x ∷ xs) ys p = front-from (x + 1) xs ys p

end-from : (number : ℕ) (xs ys : List ℕ) → follow_from number (xs ++ ys) ≡ true → follow_one_another ys ≡ true
end-from number [] [] p = refl
end-from number [] (y ∷ ys) p = let both = and_parts (y == number) _ p in subst (λ (k : ℕ). follow_from (k + 1) ys ≡ true) (sym (eqb-true y number both.0)) both.1
end-from number (x ∷ xs) ys p = end-from (number + 1) xs ys (and_parts (x == number) _ p).1

pub end-follows : (xs ys : List ℕ) → follow_one_another (xs ++ ys) ≡ true → follow_one_another ys ≡ true
end-follows [] ys p = p
end-follows (x ∷ xs) ys p = end-from (x + 1) xs ys p

-- ---- the objects of a block

abbrev objects_of : List Start → List ℕ
objects_of starts = map (λ (start : Start). start.object) starts

same-follow : (number : ℕ) (starts : List Start) → follow number starts ≡ follow_from number (objects_of starts)
same-follow number [] = refl
same-follow number (start ∷ starts) = ap (λ (b : Bool). start.object == number && b) (same-follow (number + 1) starts)

follow-first : (starts : List Start) → follow_one_another (objects_of starts) ≡ true → IsTrue (follow (first_object starts) starts)
follow-first [] p = refl
follow-first (start ∷ starts) p = and_from (start.object == start.object) _ (eq-eqb _ _ refl) (same-follow (start.object + 1) starts ∙ p)

module _ (source : Typed) where
  value-begins : (object : ℕ) (value : Option TypedArg) → begun_in (in_value_of source object (option_map (argument_look source) value)) ≡ object ∷ []
  value-begins object None = refl
  value-begins object (Some value) =
      flat_map-append begun ((argument_look source value).stands (taken_by_object (slice_get source.objects object))) _
      ∙ ap (λ (l : List ℕ). l ++ object ∷ []) (none-begun _ (argument-passes source begins_nothing expressions-begin-nothing value (taken_by_object (slice_get source.objects object))))

  starts-begin : (starts : List Start) → begun_in (flat_map (in_start source) starts) ≡ objects_of starts
  starts-begin [] = refl
  starts-begin (start ∷ starts) =
      flat_map-append begun (in_start source start) _ ∙ ap (λ (l : List ℕ). l ++ begun_in (flat_map (in_start source) starts)) (value-begins start.object start.value)
      ∙ ap (λ (l : List ℕ). start.object ∷ l) (starts-begin starts)

  -- ---- what stands in statements

  -- calls are lawful, and the objects that begin follow one another
  pub record Stands (things : List Thing) : Type 0 where
    pub lawful : Lawful source things
    pub row : follow_one_another (begun_in things) ≡ true

  parts : (xs ys : List Thing) → Stands (xs ++ ys) → Stands xs × Stands ys
  parts xs ys p =
      let two = both-parts (is_lawful_call source) xs ys p.lawful in
      let row : follow_one_another (begun_in xs ++ begun_in ys) ≡ true = subst (λ (l : List ℕ). follow_one_another l ≡ true) (flat_map-append begun xs ys) p.row in
      (record { lawful = two.0; row = front-follows (begun_in xs) _ row }, record { lawful = two.1; row = end-follows (begun_in xs) _ row })

  inside : (things : List Thing) → Stands (Statement ∷ things) → Stands things
  inside things p = record { lawful = later (is_lawful_call source) Statement things p.lawful; row = p.row }

  module _ (whole : list_all is_whole source.functions ≡ true) where
    both : (a b : Bool) → IsTrue a → IsTrue b → IsTrue (a && b)
    both = and_from

    -- ---- parts of statements

    value-fits : (e : TypedExpr) → Stands (in_value source e) → IsTrue (expression_fits (defined source) e)
    value-fits e p = expression-fits source whole e None p.lawful

    option-fits : (value : Option TypedExpr) → Stands (in_option (in_value source) value) → IsTrue (fits_where (option_of (expression_fits (defined source)) value))
    option-fits None p = refl
    option-fits (Some e) p = value-fits e p

    returned-fits : (spot : Spot) (value : Option TypedExpr) → Lawful source (in_option (in_returned source spot) value) → IsTrue (fits_where (option_of (expression_fits (defined source)) value))
    returned-fits spot None p = refl
    returned-fits spot (Some e) p = expression-fits source whole e spot.gives p

    simple-fits : (simple : TypedSimple) → Lawful source (in_simple source simple) → IsTrue (simple_fits (defined source) simple)
    unfolding in_simple
    simple-fits (Assign at place mark mark_at site value) p =
        let two = both-parts (is_lawful_call source) _ _ p in both _ _ (place-fits source whole place Written two.0) (expression-fits source whole value _ (later _ _ _ two.1))
    simple-fits (Step at place up mark_at site) p = place-fits source whole place Written (both-parts (is_lawful_call source) _ _ p).0
    simple-fits (SetOverflow at value) p = expression-fits source whole value _ p
    simple-fits (Call call) p = call-fits source whole call false p

    simples-fit : (simples : List TypedSimple) → Lawful source (in_simples source simples) → IsTrue (all_hold (map (simple_fits (defined source)) simples))
    simples-fit [] p = refl
    simples-fit (simple ∷ simples) p = let two = both-parts (is_lawful_call source) (in_simple source simple) _ p in both _ _ (simple-fits simple two.0) (simples-fit simples two.1)

    start-fits : (object : ℕ) (value : Option TypedArg) → Lawful source (in_value_of source object (option_map (argument_look source) value)) → IsTrue (fits_where (option_of (argument_fits (defined source)) value))
    start-fits object None p = refl
    start-fits object (Some value) p = argument-fits source whole value _ (both-parts (is_lawful_call source) _ _ p).0

    starts-fit : (starts : List Start) → Lawful source (flat_map (in_start source) starts) → IsTrue (all_hold (map (start_fits (defined source)) starts))
    starts-fit [] p = refl
    starts-fit (start ∷ starts) p = let two = both-parts (is_lawful_call source) (in_start source start) _ p in both _ _ (start-fits start.object start.value two.0) (starts-fit starts two.1)

    -- ---- the induction

    abbrev S : TypedStmt → Type 0
    S stmt = (spot : Spot) → Stands (in_statement source stmt spot) → IsTrue (statement_fits (defined source) stmt)

    abbrev B : TypedBlock → Type 0
    B block = (spot : Spot) → Stands (in_block source block spot) → IsTrue (block_fits (defined source) block)

    abbrev SS : Type 0
    SS = (s : TypedStmt) × S s

    abbrev SB : Type 0
    SB = (b : TypedBlock) × B b

    step : (stmt : TypedStmt) (walk : Walk) (fit : Bool) → in_statement source stmt ≡ walk → statement_fits (defined source) stmt ≡ fit → ((spot : Spot) → Stands (walk spot) → IsTrue fit) → S stmt
    step stmt walk fit is same f spot p = same ∙ f spot (subst (λ (w : Walk). Stands (w spot)) is p)

    on_statement : (y : node.TypedStmt-F SS SB) → S (roll-TypedStmt (map-TypedStmt SS SB TypedStmt TypedBlock (λ q. q.0) (λ q. q.0) y))
    unfolding of_statement
    on_statement (node.Empty at) = subst S (sym (statement.rolls-Empty at)) (step _ _ _ (stands.statement-Empty source at) (fits.statement-Empty _ at) (λ spot p. refl))
    on_statement (node.Block block) = subst S (sym (statement.rolls-Block block.0)) (step _ _ _ (stands.statement-Block source block.0) (fits.statement-Block _ block.0) (λ spot p. block.1 spot (inside _ p)))
    on_statement (node.Simple simple) = subst S (sym (statement.rolls-Simple simple)) (step _ _ _ (stands.statement-Simple source simple) (fits.statement-Simple _ simple) (λ spot p. simple-fits simple (inside _ p).lawful))
    on_statement (node.If at cond this None) = subst S (sym (statement.rolls-If at cond this.0 None)) (step _ _ _ (stands.statement-Then source at cond this.0) (fits.statement-If _ at cond this.0) (λ spot p.
        let two = parts _ _ (inside _ p) in both _ _ (value-fits cond two.0) (both _ _ (this.1 spot (parts _ _ two.1).0) refl)))
    on_statement (node.If at cond this (Some other)) = subst S (sym (statement.rolls-If at cond this.0 (Some other.0))) (step _ _ _ (stands.statement-Else source at cond this.0 other.0) (fits.statement-Else _ at cond this.0 other.0) (λ spot p.
        let two = parts _ _ (inside _ p) in let ends = parts _ _ two.1 in both _ _ (value-fits cond two.0) (both _ _ (this.1 spot ends.0) (other.1 spot ends.1))))
    on_statement (node.While at cond body) = subst S (sym (statement.rolls-While at cond body.0)) (step _ _ _ (stands.statement-While source at cond body.0) (fits.statement-While _ at cond body.0) (λ spot p.
        let two = parts _ _ (inside _ p) in both _ _ (value-fits cond two.0) (body.1 (looped spot) two.1)))
    on_statement (node.Do at body cond) = subst S (sym (statement.rolls-Do at body.0 cond)) (step _ _ _ (stands.statement-Do source at body.0 cond) (fits.statement-Do _ at body.0 cond) (λ spot p.
        let two = parts _ _ (inside _ p) in both _ _ (value-fits cond two.1) (body.1 (looped spot) two.0)))
    on_statement (node.For at first cond last body) = subst S (sym (statement.rolls-For at first cond last body.0)) (step _ _ _ (stands.statement-For source at first cond last body.0) (fits.statement-For _ at first cond last body.0) (λ spot p.
        let four = parts _ _ (inside _ p) in let three = parts _ _ four.1 in let two = parts _ _ three.1 in
        both _ _ (simples-fit first four.0.lawful) (both _ _ (option-fits cond three.0) (both _ _ (simples-fit last two.0.lawful) (body.1 (looped spot) two.1)))))
    on_statement (node.Break at) = subst S (sym (statement.rolls-Break at)) (step _ _ _ (stands.statement-Break source at) (fits.statement-Break _ at) (λ spot p. refl))
    on_statement (node.Continue at) = subst S (sym (statement.rolls-Continue at)) (step _ _ _ (stands.statement-Continue source at) (fits.statement-Continue _ at) (λ spot p. refl))
    on_statement (node.Return at value) = subst S (sym (statement.rolls-Return at value)) (step _ _ _ (stands.statement-Return source at value) (fits.statement-Return _ at value) (λ spot p.
        returned-fits spot value (later _ _ _ (inside _ p).lawful)))

    listed : (ys : List SS) (spot : Spot) → Stands (all_of (map (in_statement source) (map (λ (q : SS). q.0) ys)) spot) → IsTrue (all_hold (map (statement_fits (defined source)) (map (λ (q : SS). q.0) ys)))
    listed [] spot p = refl
    listed (y ∷ ys) spot p = let two = parts (in_statement source y.0 spot) _ p in both _ _ (y.1 spot two.0) (listed ys spot two.1)

    on_block : (y : node.TypedBlock-F SS SB) → B (record { at = y.at; objects = y.objects; stmts = map (λ (q : SS). q.0) y.stmts })
    unfolding of_block
    on_block y spot p =
        let two = parts (flat_map (in_start source) y.objects) _ (subst (λ (w : Walk). Stands (w spot)) (stands.block-is source _) p) in
        fits.block-is (defined source) _
        ∙ both _ _ (follow-first y.objects (subst (λ (l : List ℕ). follow_one_another l ≡ true) (starts-begin y.objects) two.0.row)) (both _ _ (starts-fit y.objects two.0.lawful) (listed y.stmts spot two.1))

    pub block-fits : (block : TypedBlock) → B block
    block-fits = ind-TypedBlock S B (λ x y is. subst (λ z. S (roll-TypedStmt z)) is (on_statement y)) (λ x y is. subst (λ z. B (roll-TypedBlock z)) is (on_block y))
