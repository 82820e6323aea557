-- Assignments, steps and calls are read rightly.
use Rattle.std.proofs.Common.{◌≡◌, ◌≢◌, ℕ, Bool, true, false, List, [], ◌∷◌, ◌++◌, ◌⊎◌, inl, inr, refl, ap, subst, ◌∙◌, sym}
use Rattle.std.proofs.lemmas.List.{append_assoc}
use Rattle.std.specs.Prelude.{Result, Ok, Err, if◌then◌else◌}
use Rattle.sat_base.specs.declared.name.At.{At}
use Rattle.sat_base.specs.declared.name.Named.{Named}
use Rattle.c_tree.specs.declared.expression.Expr.{Expr}
use Rattle.c_tree.specs.declared.place.Place.{Place}
use Rattle.c_tree.specs.declared.simple.Simple.{Simple}
use Rattle.c_tree.specs.declared.simple.Simple.TheVariants as simple
use Rattle.c_tree.specs.Starts.{start_of_place}
use Rattle.c_grammar.specs.declared.symbol.Symbol.{Symbol}
use Rattle.c_grammar.specs.declared.symbol.Symbol.TheVariants as symbol
use Rattle.c_grammar.specs.Grammar as rule
use Rattle.c_grammar.specs.Marks.{step_symbol}
use Rattle.c_grammar.specs.Nodes as a
use Rattle.c_grammar.specs.Parts.{Part, node, word, kept}
use Rattle.right_reading.specs.ReadExpressions.{expression_at, indirection_at, named_at, place_at}
use Rattle.right_reading.specs.Lists.{after}
use Rattle.right_reading.specs.ReadStatements.{mark_by, assignment_at, named_simple_by, named_simple_at, indirect_simple_at, set_overflow_at, step_before_at, simple_by, simple_at}
use Rattle.c_grammar.specs.Spelling.{Spells}
use Rattle.c_grammar.specs.Spots.{Spot}
use Rattle.right_reading.specs.Stream.{ahead, Fault, Parser, ◌>>=◌, both, take_at}
use Rattle.c_grammar.specs.Symbols.{same_symbol, step_of}
use Rattle.right_reading.proofs.Ahead.Begins.{starts, spells_starts}
use Rattle.right_reading.specs.Right.{first, Ends, Stops, Right, always, Reads}
use Rattle.right_reading.specs.RightExpressions.{RightExpressions}
use Rattle.right_reading.proofs.Composed.Rules.{Choice, no_parts, early_seen, token-ahead}
use Rattle.right_reading.proofs.Composed.Shifts.{unshift}
use Rattle.statement_reading.proofs.Simples.SimpleMarks.{any_place, stops_simple, simple_ends_expression, simple_ends_place, step_there, step_back, assign_ends_place, other_simple, other_no_place, other_no_name, other_no_overflow}
use Rattle.statement_reading.proofs.Simples.SimpleNamed.{Value, of_value, stops_value, value_at, any_value, value_right, named_simple_right}
use Rattle.right_reading.proofs.Composed.Steps.{Right-both, Right-seen}
use Rattle.right_reading.proofs.OneToken.Tokens.{ahead-same, take_right, any_expression}
use Rattle.right_reading.proofs.OneToken.Words.{mark_right, after_right}
use Rattle.right_reading.specs.Stops.{ends_place, stops_place, ends_expression, stops_expression}
use Rattle.right_reading.proofs.Composed.Dependent.{seen_by}

-- what such a list of parts may begin with, where it is spelled at the front
pub begins_with : (early : List Part) (t : Symbol) (c : ℕ) (u1 u2 s r i : List Spot) → Spells early c u1 → (u1 ++ u2) ++ s ≡ r → first r ≡ first i → ahead i ≡ t → starts early t ≡ true
begins_with early t c u1 u2 s r i sp e h is =
    let k : ahead (u1 ++ (u2 ++ s)) ≡ t = ap ahead (sym (append_assoc u1 u2 s) ∙ e) ∙ ahead-same r i h ∙ is in
    subst (λ (x : Symbol). starts early x ≡ true) k (spells_starts (u2 ++ s) sp)

abbrev of_place : Place → List Part
of_place p = node (a.place p) ∷ []

abbrev pub of_simple : Simple → List Part
of_simple x = node (a.simple x) ∷ []

-- ---- to a place behind a `*`

abbrev indirect_parts : Place × Value → List Part
indirect_parts x = node (a.place x.0) ∷ of_value x.1

abbrev stops_indirect : Place × Value → Symbol → Bool
stops_indirect x s = ends_expression s

abbrev assign_of : Place × Value → Simple
assign_of x = simple.Assign (start_of_place x.0) x.0 x.1.0.0 x.1.0.1 x.1.1

value_follows : (p : Place) (b : Value) (c : ℕ) (v s : List Spot) → Spells (of_value b) c v → Stops stops_value b s → Stops stops_place p (v ++ s)
value_follows p b c v s sp st = subst (λ (x : Symbol). stops_place p x ≡ true) (sym (token-ahead s sp)) (assign_ends_place b.0.0)

no_step_star : (up : Bool) → same_symbol symbol.Star (step_symbol up) ≡ true → ⊥
no_step_star true h = cc
no_step_star false h = cc

no_step_overflow : (up : Bool) → same_symbol symbol.Overflow (step_symbol up) ≡ true → ⊥
no_step_overflow true h = cc
no_step_overflow false h = cc

indirect_choice : (i : List Spot) → ahead i ≡ symbol.Star → Choice a.simple indirect_parts no_parts stops_indirect stops_simple [] i assign_of
indirect_choice i is x early late c1 c2 u1 u2 s r (rule.assign {p = p} {mark = mark} {mark_at = mark_at} {value = value} same) before behind st e h =
    record { a = (p, ((mark, mark_at), value)); same = same; is_early = refl; is_late = refl; stops = simple_ends_expression (ahead s) st }
indirect_choice i is x early late c1 c2 u1 u2 s r (rule.step_before {up = up} same) before behind st e h = absurd (no_step_star up (begins_with early symbol.Star c1 u1 u2 s r i before e h is))
indirect_choice i is x early late c1 c2 u1 u2 s r (rule.step_after same) before behind st e h = let k = begins_with early symbol.Star c1 u1 u2 s r i before e h is in absurd (cc)
indirect_choice i is x early late c1 c2 u1 u2 s r (rule.set_overflow same) before behind st e h = let k = begins_with early symbol.Star c1 u1 u2 s r i before e h is in absurd (cc)
indirect_choice i is x early late c1 c2 u1 u2 s r (rule.simple_call same) before behind st e h = let k = begins_with early symbol.Star c1 u1 u2 s r i before e h is in absurd (cc)

-- ---- to the word Overflow

abbrev overflow_parts : At × Expr → List Part
overflow_parts x = kept symbol.Overflow x.0 ∷ word symbol.Equal ∷ node (a.expr x.1) ∷ []

abbrev stops_overflow : At × Expr → Symbol → Bool
stops_overflow x s = ends_expression s

abbrev overflow_of : At × Expr → Simple
overflow_of x = simple.SetOverflow x.0 x.1

overflow_choice : (i : List Spot) → ahead i ≡ symbol.Overflow → Choice a.simple overflow_parts no_parts stops_overflow stops_simple [] i overflow_of
overflow_choice i is x early late c1 c2 u1 u2 s r (rule.set_overflow {at = at} {value = value} same) before behind st e h =
    record { a = (at, value); same = same; is_early = refl; is_late = refl; stops = simple_ends_expression (ahead s) st }
overflow_choice i is x early late c1 c2 u1 u2 s r (rule.step_before {up = up} same) before behind st e h = absurd (no_step_overflow up (begins_with early symbol.Overflow c1 u1 u2 s r i before e h is))
overflow_choice i is x early late c1 c2 u1 u2 s r (rule.step_after same) before behind st e h = let k = begins_with early symbol.Overflow c1 u1 u2 s r i before e h is in absurd (cc)
overflow_choice i is x early late c1 c2 u1 u2 s r (rule.assign same) before behind st e h = let k = begins_with early symbol.Overflow c1 u1 u2 s r i before e h is in absurd (cc)
overflow_choice i is x early late c1 c2 u1 u2 s r (rule.simple_call same) before behind st e h = let k = begins_with early symbol.Overflow c1 u1 u2 s r i before e h is in absurd (cc)

-- ---- a step whose mark stands first

abbrev step_parts : (Bool × At) × Place → List Part
step_parts x = kept (step_symbol x.0.0) x.0.1 ∷ node (a.place x.1) ∷ []

abbrev stops_step : (Bool × At) × Place → Symbol → Bool
stops_step x s = ends_place s

abbrev step_simple_of : (Bool × At) × Place → Simple
step_simple_of x = simple.Step x.0.1 x.1 x.0.0 x.0.1

abbrev step_mark_at : Parser (Bool × At)
step_mark_at i = mark_by (step_of (ahead i)) i

step_choice : (i : List Spot) → other_simple (ahead i) ≡ true → Choice a.simple step_parts no_parts stops_step stops_simple [] i step_simple_of
step_choice i other x early late c1 c2 u1 u2 s r (rule.step_before {p = p} {up = up} {mark_at = mark_at} same) before behind st e h =
    record { a = ((up, mark_at), p); same = same; is_early = refl; is_late = refl; stops = simple_ends_place (ahead s) st }
step_choice i other x early late c1 c2 u1 u2 s r (rule.assign same) before behind st e h =
    absurd (other_no_place (ahead i) other (begins_with early (ahead i) c1 u1 u2 s r i before e h refl))
step_choice i other x early late c1 c2 u1 u2 s r (rule.step_after same) before behind st e h =
    absurd (other_no_name (ahead i) other (begins_with early (ahead i) c1 u1 u2 s r i before e h refl))
step_choice i other x early late c1 c2 u1 u2 s r (rule.set_overflow same) before behind st e h =
    absurd (other_no_overflow (ahead i) other (begins_with early (ahead i) c1 u1 u2 s r i before e h refl))
step_choice i other x early late c1 c2 u1 u2 s r (rule.simple_call same) before behind st e h =
    absurd (other_no_name (ahead i) other (begins_with early (ahead i) c1 u1 u2 s r i before e h refl))

-- the name at the front
abbrev name_if : Bool → Spot → List Spot → Result (Named × List Spot) Fault
name_if b t xs = if b then Ok (record { at = t.at; name = t.name }, xs) else Err (record { deep = false; at = t.at })

module _ (n : ℕ) (right : RightExpressions n) where
  indirect_right : (i : List Spot) → Ends i → ahead i ≡ symbol.Star → Right of_simple n stops_simple [] i (indirect_simple_at n i)
  unfolding indirect_simple_at assignment_at place_at
  indirect_right i ends is =
      let star : place_at n i ≡ indirection_at n i = starred (same_symbol (ahead i) symbol.Star) (subst (λ (x : Symbol). same_symbol x symbol.Star ≡ true) (sym is) refl) in
      let r = Right-both of_place of_value n stops_place stops_value value_follows any_value (place_at n) (value_at n) [] i (right.place i ends) (value_right n right.expression) in
      let whole = Right-seen indirect_parts of_simple n n stops_indirect stops_simple [] i assign_of
      (early_seen a.simple indirect_parts n stops_indirect stops_simple [] i assign_of (λ x. rule.assign refl) (indirect_choice i is)) (both (place_at n) (value_at n) i) r in
      subst (λ (y : Result (Simple × List Spot) Fault). Right of_simple n stops_simple [] i y) (same (place_at n i) (indirection_at n i) star) whole
    where
      starred : (b : Bool) → b ≡ true → (if b then indirection_at n i else named_at n i) ≡ indirection_at n i
      starred true e = refl
      starred false e = cc

      joined : (p : Place) (y : Result (Value × List Spot) Fault) → seen_by assign_of (seen_by (λ (b : Value). let z : Place × Value = (p, b) in z) y) ≡ seen_by (λ (b : Value). assign_of (p, b)) y
      joined p (Ok y) = refl
      joined p (Err f) = refl

      alike : (y : Result (Place × List Spot) Fault) → seen_by assign_of (y >>= (λ x. seen_by (λ (b : Value). let z : Place × Value = (x.0, b) in z) (value_at n x.1)))
          ≡ (y >>= (λ x. seen_by (λ (b : Value). assign_of (x.0, b)) (value_at n x.1)))
      alike (Ok x) = joined x.0 (value_at n x.1)
      alike (Err f) = refl

      same : (y z : Result (Place × List Spot) Fault) → y ≡ z → seen_by assign_of (y >>= (λ x. seen_by (λ (b : Value). let w : Place × Value = (x.0, b) in w) (value_at n x.1)))
          ≡ (z >>= (λ x. seen_by (λ (b : Value). assign_of (x.0, b)) (value_at n x.1)))
      same y z e = alike y ∙ ap (λ (w : Result (Place × List Spot) Fault). w >>= (λ x. seen_by (λ (b : Value). assign_of (x.0, b)) (value_at n x.1))) e

  overflow_right : (i : List Spot) → Ends i → ahead i ≡ symbol.Overflow → Right of_simple n stops_simple [] i (set_overflow_at n i)
  unfolding set_overflow_at
  overflow_right i ends is =
      let other : symbol.Overflow ≢ symbol.End = λ e. cc in
      let equal : symbol.Equal ≢ symbol.End = λ e. cc in
      let r = Right-both (λ (at : At). kept symbol.Overflow at ∷ []) (λ (e : Expr). word symbol.Equal ∷ node (a.expr e) ∷ []) n always stops_expression (λ b c d v s sp st. refl) any_expression
      (take_at symbol.Overflow) (after symbol.Equal (expression_at n)) [] i (take_right symbol.Overflow other n i ends)
      (after_right (λ (e : Expr). node (a.expr e) ∷ []) n stops_expression symbol.Equal equal any_expression (expression_at n) right.expression) in
      Right-seen overflow_parts of_simple n n stops_overflow stops_simple [] i overflow_of
      (early_seen a.simple overflow_parts n stops_overflow stops_simple [] i overflow_of (λ x. rule.set_overflow refl) (overflow_choice i is))
      (both (take_at symbol.Overflow) (after symbol.Equal (expression_at n)) i) r

  step_right : (i : List Spot) → Ends i → other_simple (ahead i) ≡ true → Right of_simple n stops_simple [] i (step_before_at n i)
  unfolding step_before_at
  step_right i ends other =
      let r = Right-both (λ (b : Bool × At). kept (step_symbol b.0) b.1 ∷ []) of_place n always stops_place (λ b c d v s sp st. refl) any_place
      step_mark_at (place_at n) [] i (mark_right step_symbol step_of step_there step_back refl true n i ends) right.place in
      Right-seen step_parts of_simple n n stops_step stops_simple [] i step_simple_of
      (early_seen a.simple step_parts n stops_step stops_simple [] i step_simple_of (λ x. rule.step_before refl) (step_choice i other)) (both step_mark_at (place_at n) i) r

  name_right : (i : List Spot) → Ends i → ahead i ≡ symbol.Name → Right of_simple n stops_simple [] i (named_simple_at n i)
  unfolding named_simple_at
  name_right [] ends is = absurd ends
  name_right (t ∷ xs) ends is =
      let name : Named = record { at = t.at; name = t.name } in
      let after : Ends xs = behind ends in
      let r = named_simple_right n right.expression t name (is, refl, refl) xs after (right.indices t name (is, refl, refl) xs after) (right.arguments xs after) in
      let whole = unshift of_simple n stops_simple [] (t ∷ []) (t ∷ xs) xs refl (named_simple_by n name xs) r in
      subst (λ (y : Result (Simple × List Spot) Fault). Right of_simple n stops_simple [] (t ∷ xs) y)
      (sym (named (same_symbol t.symbol symbol.Name) (subst (λ (x : Symbol). same_symbol x symbol.Name ≡ true) (sym is) refl))) whole
    where
      behind : (t.symbol ≡ symbol.End) ⊎ Ends xs → Ends xs
      behind (inl e) = let k : symbol.Name ≡ symbol.End = sym is ∙ e in absurd (cc)
      behind (inr e) = e

      named : (b : Bool) → b ≡ true → (name_if b t xs >>= (λ x. named_simple_by n x.0 x.1))
          ≡ named_simple_by n (record { at = t.at; name = t.name }) xs
      named true e = refl
      named false e = cc

  by_symbol : (i : List Spot) → Ends i → (s : Symbol) → ahead i ≡ s → Right of_simple n stops_simple [] i (simple_by s n i)
  by_symbol i ends symbol.Name e = name_right i ends e
  by_symbol i ends symbol.Star e = indirect_right i ends e
  by_symbol i ends symbol.Overflow e = overflow_right i ends e
  by_symbol i ends s e = step_right i ends (subst (λ (x : Symbol). other_simple x ≡ true) (sym e) refl)

  pub simple_right : Reads (λ (x : Simple). node (a.simple x) ∷ []) n stops_simple (simple_at n)
  unfolding simple_at
  simple_right i ends = by_symbol i ends (ahead i) refl
