-- Reading an assignment, a step or a call that begins with a name.
use Rattle.std.proofs.Common.{◌≡◌, ◌≢◌, ℕ, max, ◌≤◌, ◌<◌, Bool, true, false, List, [], ◌∷◌, ◌++◌, Option, Some, None, ◌⊎◌, inl, inr, refl, ap, subst, ◌∙◌, sym, arith}
use Rattle.std.proofs.lemmas.List.{append_assoc, append-nil}
use Rattle.std.specs.Prelude.{Result, Ok, Err}
use Rattle.sat_base.specs.declared.name.At.{At}
use Rattle.sat_base.specs.declared.name.Named.{Named}
use Rattle.c_tree.specs.declared.call.Arg.{Arg}
use Rattle.c_tree.specs.declared.call.Call.{Call}
use Rattle.c_tree.specs.declared.expression.Expr.{Expr}
use Rattle.c_tree.specs.declared.place.Place.{Place}
use Rattle.c_tree.specs.declared.simple.AssignMark.{AssignMark}
use Rattle.c_tree.specs.declared.simple.AssignMark.TheVariants as assigns
use Rattle.c_tree.specs.declared.simple.Simple.{Simple}
use Rattle.c_tree.specs.declared.simple.Simple.TheVariants as simple
use Rattle.c_tree.specs.Starts.{start_of_place}
use Rattle.c_grammar.specs.declared.symbol.Symbol.{Symbol}
use Rattle.c_grammar.specs.declared.symbol.Symbol.TheVariants as symbol
use Rattle.c_grammar.specs.Grammar.{Rule}
use Rattle.c_grammar.specs.Grammar as rule
use Rattle.c_grammar.specs.Marks.{assign_symbol, step_symbol}
use Rattle.c_grammar.specs.Nodes as a
use Rattle.c_grammar.specs.Parts.{Called, Part, node, Is, word, kept, called}
use Rattle.right_reading.specs.ReadExpressions.{expression_at, indices_at, arguments_at}
use Rattle.right_reading.specs.ReadStatements.{mark_by, assignment_at, after_place, named_simple_by}
use Rattle.c_grammar.specs.Spelling.{counted, Spells, Front}
use Rattle.c_grammar.specs.Spelling as spelling
use Rattle.c_grammar.specs.Spots.{Spot, here}
use Rattle.right_reading.specs.Stream.{ahead, rest, Fault, Parser, ◌>>=◌, both}
use Rattle.c_grammar.specs.Symbols.{same_symbol, assign_mark, step_of}
use Rattle.right_reading.proofs.Ahead.Begins.{starts, spells_starts}
use Rattle.right_reading.proofs.Composed.Inlined.{fold_spelled, fold_front}
use Rattle.right_reading.specs.Right.{first, Ends, Stops, Read, Right, always, Reads}
use Rattle.right_reading.proofs.Composed.Rules.{Choice, no_parts, early_seen, token-ahead}
use Rattle.c_grammar.proofs.Sequences.{from_token, from_node, from_nothing, join}
use Rattle.statement_reading.proofs.Simples.SimpleMarks.{stops_simple, simple_ends_expression, assign_there, assign_back, step_there, step_back, assign_no_step, assign_ends_place, step_ends_place, is_mark, assign_is_mark, step_is_mark}
use Rattle.right_reading.proofs.Composed.Steps.{both_parts, both_stops, Right-both, Right-after, Seen, Right-seen}
use Rattle.c_grammar.proofs.SymbolNumbers.{same-is, other-is}
use Rattle.right_reading.proofs.OneToken.Tokens.{Right-if, ahead-same, nowhere, any_expression}
use Rattle.right_reading.proofs.OneToken.Words.{mark_right}
use Rattle.right_reading.specs.Stops.{stops_place, ends_expression, stops_expression}
use Rattle.right_reading.proofs.Composed.Dependent.{seen_by}

abbrev named_with : At → List ℕ → Named
named_with at text = record { at = at; name = text }

-- ---- the second token of what begins with a name

-- it goes on with the place, or it is the first of what follows the place
place_second : {p : Place} {early late qs : List Part} {c1 c2 d : ℕ} {u1 u2 v : List Spot} (s r : List Spot) (t : Spot) → Rule (a.named p) early late
    → Spells early c1 u1 → Spells late c2 u2 → Spells qs d v → ((u1 ++ u2) ++ v) ++ s ≡ t ∷ r → (starts qs (ahead r) ≡ true) ⊎ (ahead r ≡ symbol.OpenBracket)
place_second {qs = qs} {u1 = u1} {u2 = u2} {v = v} s r t (rule.plain is) before behind more e =
    let no = from_nothing before in
    let x = from_token behind in
    let last = from_nothing x.after in
    let k : x.x ∷ (v ++ s) ≡ t ∷ r = sym (ap (λ (w : List Spot). ((w ++ u2) ++ v) ++ s) no.tokens ∙ ap (λ (w : List Spot). (w ++ v) ++ s) (x.tokens ∙ ap (λ (w : List Spot). x.x ∷ w) last.tokens)) ∙ e in
    let l : v ++ s ≡ r = cc in
    inl (subst (λ (w : List Spot). starts qs (ahead w) ≡ true) l (spells_starts s more))
place_second {u1 = u1} {u2 = u2} {v = v} s r t (rule.index is) before behind more e =
    let no = from_nothing before in
    let x = from_token behind in
    let k : x.x ∷ (x.rest ++ (v ++ s)) ≡ t ∷ r = sym (ap (λ (w : List Spot). ((w ++ u2) ++ v) ++ s) no.tokens ∙ ap (λ (w : List Spot). (w ++ v) ++ s) x.tokens ∙ ap (λ (w : List Spot). x.x ∷ w) (append_assoc x.rest v s)) ∙ e in
    let l : x.rest ++ (v ++ s) ≡ r = cc in
    inr (sym (ap ahead l) ∙ token-ahead (v ++ s) x.after)
place_second {u1 = u1} {u2 = u2} {v = v} s r t (rule.index2 is) before behind more e =
    let no = from_nothing before in
    let x = from_token behind in
    let k : x.x ∷ (x.rest ++ (v ++ s)) ≡ t ∷ r = sym (ap (λ (w : List Spot). ((w ++ u2) ++ v) ++ s) no.tokens ∙ ap (λ (w : List Spot). (w ++ v) ++ s) x.tokens ∙ ap (λ (w : List Spot). x.x ∷ w) (append_assoc x.rest v s)) ∙ e in
    let l : x.rest ++ (v ++ s) ≡ r = cc in
    inr (sym (ap ahead l) ∙ token-ahead (v ++ s) x.after)

-- a mark after a place is no bracket that opens
marked_place : {p : Place} {qs : List Part} {c : ℕ} {u : List Spot} (mark : Symbol) (at : At) (s r : List Spot) (t : Spot) → is_mark mark ≡ true
    → Spells (node (a.named p) ∷ kept mark at ∷ qs) c u → u ++ s ≡ t ∷ r → ahead r ≡ symbol.OpenParen → ⊥
marked_place mark at s r t ok sp e opens =
    let f = from_node sp in
    no (place_second s r t f.rule f.before f.behind f.after (ap (λ (w : List Spot). w ++ s) (sym f.tokens) ∙ e))
  where
    no : (same_symbol (ahead r) mark ≡ true) ⊎ (ahead r ≡ symbol.OpenBracket) → ⊥
    no (inl k) =
        let is : symbol.OpenParen ≡ mark = sym opens ∙ same-is (ahead r) mark k in
        let bad : is_mark symbol.OpenParen ≡ true = subst (λ (x : Symbol). is_mark x ≡ true) (sym is) ok in
        cc
    no (inr k) = cc

-- the second token of a call
call_second : {c : Call} {early late : List Part} {c1 : ℕ} {u1 : List Spot} (u2 v s r : List Spot) (t : Spot) → Rule (a.call c) early late
    → Spells early c1 u1 → ((u1 ++ u2) ++ v) ++ s ≡ t ∷ r → ahead r ≡ symbol.OpenParen
call_second {u1 = u1} u2 v s r t (rule.call is) before e =
    let x = from_token before in
    let l0 : ((u1 ++ u2) ++ v) ++ s ≡ u1 ++ (u2 ++ (v ++ s)) = simp append_assoc in
    let k : x.x ∷ (x.rest ++ (u2 ++ (v ++ s))) ≡ t ∷ r = sym (l0 ∙ ap (λ (w : List Spot). w ++ (u2 ++ (v ++ s))) x.tokens) ∙ e in
    let l : x.rest ++ (u2 ++ (v ++ s)) ≡ r = cc in
    sym (ap ahead l) ∙ token-ahead (u2 ++ (v ++ s)) x.after

-- a place that begins with a name
named_of_place : {p : Place} {early late qs : List Part} {c1 c2 d c : ℕ} {u1 u2 v u : List Spot} (s : List Spot) → Rule (a.place p) early late
    → Spells early c1 u1 → Spells late c2 u2 → Spells qs d v → u ≡ (u1 ++ u2) ++ v → c ≡ max (counted u2 (max c1 c2)) d → ahead (u ++ s) ≡ symbol.Name → Spells (node (a.named p) ∷ qs) c u
named_of_place {p} {qs = qs} {c1 = c1} {c2 = c2} {d = d} {c = c} {u1 = u1} {u2 = u2} {v = v} {u = u} s rule.place_named before behind more tokens depth name =
    let no = from_nothing behind in
    let e : u ≡ u1 ++ v = tokens ∙ ap (λ (w : List Spot). (u1 ++ w) ++ v) no.tokens ∙ ap (λ (w : List Spot). w ++ v) (append-nil u1) in
    let k : counted u2 (max c1 c2) ≡ max c1 c2 = ap (λ (w : List Spot). counted w (max c1 c2)) no.tokens in
    let l : max c1 d ≡ c = omega (arith, depth, k, no.depth) in
    subst (λ (w : List Spot). Spells (node (a.named p) ∷ qs) c w) (sym e) (subst (λ (x : ℕ). Spells (node (a.named p) ∷ qs) x (u1 ++ v)) l (join before more))
named_of_place {u1 = u1} {u2 = u2} {v = v} {u = u} s (rule.deref is) before behind more tokens depth name =
    let no = from_nothing before in
    let e : u ++ s ≡ u2 ++ (v ++ s) = ap (λ (w : List Spot). w ++ s) tokens ∙ ap (λ (w : List Spot). ((w ++ u2) ++ v) ++ s) no.tokens ∙ append_assoc u2 v s in
    let k : symbol.Star ≡ symbol.Name = sym (token-ahead (v ++ s) behind) ∙ sym (ap ahead e) ∙ name in
    cc

-- ---- what is read after a place

abbrev pub Value : Type 0
Value = (AssignMark × At) × Expr

abbrev pub of_value : Value → List Part
of_value b = kept (assign_symbol b.0.0) b.0.1 ∷ node (a.expr b.1) ∷ []

abbrev pub stops_value : Value → Symbol → Bool
stops_value b s = ends_expression s

abbrev pub mark_at : Parser (AssignMark × At)
mark_at i = mark_by (assign_mark (ahead i)) i

abbrev pub value_at : ℕ → Parser Value
value_at n = both mark_at (expression_at n)

abbrev pub any_value : Value
any_value = ((assigns.Plain, nowhere), any_expression)

-- a step's mark, or a mark of assignment and a value
abbrev Tail : Type 0
Tail = (Bool × At) ⊎ Value

abbrev of_tail : Tail → List Part
of_tail (inl b) = kept (step_symbol b.0) b.1 ∷ []
of_tail (inr b) = of_value b

abbrev stops_tail : Tail → Symbol → Bool
stops_tail b s = ends_expression s

abbrev step_tail : Bool × At → Tail
step_tail b = inl b

abbrev value_tail : Value → Tail
value_tail b = inr b

abbrev tail_by : Option Bool → ℕ → Parser Tail
tail_by (Some up) n i = Ok (inl (up, here i), rest i)
tail_by None n i = seen_by value_tail (value_at n i)

abbrev tail_at : ℕ → Parser Tail
tail_at n i = tail_by (step_of (ahead i)) n i

abbrev of_step : Bool × At → List Part
of_step b = kept (step_symbol b.0) b.1 ∷ []

-- the place is spelled as one of any sort where a value follows
abbrev of_placed : Place → Tail → List Part
of_placed p (inl b) = node (a.named p) ∷ of_step b
of_placed p (inr b) = node (a.place p) ∷ of_value b

abbrev placed_parts : Place × Tail → List Part
placed_parts x = of_placed x.0 x.1

abbrev stops_placed : Place × Tail → Symbol → Bool
stops_placed x s = ends_expression s

abbrev simple_of : Place → Tail → Simple
simple_of p (inl b) = simple.Step (start_of_place p) p b.0 b.1
simple_of p (inr b) = simple.Assign (start_of_place p) p b.0.0 b.0.1 b.1

abbrev of_simple : Simple → List Part
of_simple x = node (a.simple x) ∷ []

abbrev of_named : Place → List Part
of_named p = node (a.named p) ∷ []

module _ (n : ℕ) (expression_right : Reads (λ (e : Expr). node (a.expr e) ∷ []) n stops_expression (expression_at n)) where
  pub value_right : Reads of_value n stops_value (value_at n)
  value_right i ends =
      Right-both (λ (x : AssignMark × At). kept (assign_symbol x.0) x.1 ∷ []) (λ (e : Expr). node (a.expr e) ∷ []) n always stops_expression (λ b c d v s sp st. refl) any_expression
      mark_at (expression_at n) [] i (mark_right assign_symbol assign_mark assign_there assign_back refl assigns.Plain n i ends) expression_right

  step_seen : (j : List Spot) (up : Bool) → step_of (ahead j) ≡ Some up → Seen of_step of_tail n n always stops_tail [] j step_tail
  step_seen j up is = record { forth = λ b c u sp. (c, sp, λ le. le); front = λ b c u f. (c, f, λ lt. lt); back = back }
    where
      back : (x : Tail) (d : ℕ) (v s r : List Spot) → Spells (of_tail x) d v → Stops stops_tail x s → v ++ s ≡ r → first r ≡ first j
          → (b : Bool × At) × (c : ℕ) × (x ≡ step_tail b) × Spells (of_step b) c v × Stops (always {A = Bool × At}) b s × (n < c → n < d)
      back (inl b) d v s r sp st e h = (b, d, refl, sp, refl, λ lt. lt)
      back (inr b) d v s r sp st e h =
          let k : ahead j ≡ assign_symbol b.0.0 = sym (ap ahead e ∙ ahead-same r j h) ∙ token-ahead s sp in
          let l : step_of (ahead j) ≡ None = subst (λ (x : Symbol). step_of x ≡ None) (sym k) (assign_no_step b.0.0) in
          absurd (cc (l, is))

  value_seen : (j : List Spot) → step_of (ahead j) ≡ None → Seen of_value of_tail n n stops_value stops_tail [] j value_tail
  value_seen j is = record { forth = λ b c u sp. (c, sp, λ le. le); front = λ b c u f. (c, f, λ lt. lt); back = back }
    where
      back : (x : Tail) (d : ℕ) (v s r : List Spot) → Spells (of_tail x) d v → Stops stops_tail x s → v ++ s ≡ r → first r ≡ first j
          → (b : Value) × (c : ℕ) × (x ≡ value_tail b) × Spells (of_value b) c v × Stops stops_value b s × (n < c → n < d)
      back (inl b) d v s r sp st e h =
          let k : ahead j ≡ step_symbol b.0 = sym (ap ahead e ∙ ahead-same r j h) ∙ token-ahead s sp in
          let l : step_of (ahead j) ≡ Some b.0 = subst (λ (x : Symbol). step_of x ≡ Some b.0) (sym k) (step_there b.0) in
          absurd (cc (l, is))
      back (inr b) d v s r sp st e h = (b, d, refl, sp, st, λ lt. lt)

  tail_right : (j : List Spot) → Ends j → Right of_tail n stops_tail [] j (tail_at n j)
  tail_right j ends = step (step_of (ahead j)) refl
    where
      step : (o : Option Bool) → step_of (ahead j) ≡ o → Right of_tail n stops_tail [] j (tail_by o n j)
      step (Some up) e =
          let r = mark_right step_symbol step_of step_there step_back refl true n j ends in
          Right-seen of_step of_tail n n always stops_tail [] j step_tail (step_seen j up e) (mark_by (Some up) j) (subst (λ (o : Option Bool). Right of_step n always [] j (mark_by o j)) e r)
      step None e = Right-seen of_value of_tail n n stops_value stops_tail [] j value_tail (value_seen j e) (value_at n j) (value_right j ends)

  tail_follows : (p : Place) (b : Tail) (c : ℕ) (v s : List Spot) → Spells (of_tail b) c v → Stops stops_tail b s → Stops stops_place p (v ++ s)
  tail_follows p (inl b) c v s sp st = subst (λ (x : Symbol). stops_place p x ≡ true) (sym (token-ahead s sp)) (step_ends_place b.0)
  tail_follows p (inr b) c v s sp st = subst (λ (x : Symbol). stops_place p x ≡ true) (sym (token-ahead s sp)) (assign_ends_place b.0.0)

  module _ (t : Spot) (name : Named) (is : Is (Called name) t) (i : List Spot) (ends_i : Ends i)
      (indices_right : Right of_named n stops_place (t ∷ []) i (indices_at n name i))
      (arguments_right : Right (λ (args : List Arg). word symbol.OpenParen ∷ node (a.args args) ∷ word symbol.CloseParen ∷ []) n always [] i (arguments_at n i)) where
    -- the name itself
    name_read : Read (λ (x : Named). called x ∷ []) n always (t ∷ []) i name i
    name_read = record { more = []; depth = 0; whole = refl; spelled = spelling.quoted is spelling.nothing; within = omega arith; ends = ends_i; only = only }
      where
        only : (x : Named) (c : ℕ) (v s r : List Spot) → Spells (called x ∷ []) c v → Stops (always {A = Named}) x s → v ++ s ≡ t ∷ r → first r ≡ first i → (x ≡ name) × (s ≡ r)
        only x c v s r sp st e h =
            let y = from_token sp in
            let no = from_nothing y.after in
            let k : y.x ∷ s ≡ t ∷ r = sym (ap (λ (w : List Spot). w ++ s) (y.tokens ∙ ap (λ (w : List Spot). y.x ∷ w) no.tokens)) ∙ e in
            let ex : y.x ≡ t = cc in
            let es : s ≡ r = cc in
            let g : Is (Called x) t = subst (λ (z : Spot). Is (Called x) z) ex y.is in
            let at : x.at ≡ name.at = sym g.1 ∙ is.1 in
            let text : x.name ≡ name.name = sym g.2 ∙ is.2 in
            (ap (λ (z : At). named_with z x.name) at ∙ ap (λ (z : List ℕ). named_with name.at z) text, es)

    begins_so : (early : List Part) (c : ℕ) (u1 u2 s r : List Spot) → Spells early c u1 → (u1 ++ u2) ++ s ≡ t ∷ r → starts early symbol.Name ≡ true
    begins_so early c u1 u2 s r sp e =
        let k : u1 ++ (u2 ++ s) ≡ t ∷ r = sym (append_assoc u1 u2 s) ∙ e in
        subst (λ (x : Symbol). starts early x ≡ true) (ap ahead k ∙ is.0) (spells_starts (u2 ++ s) sp)

    no_step : (up : Bool) → same_symbol symbol.Name (step_symbol up) ≡ true → ⊥
    no_step true h = cc
    no_step false h = cc

    -- ---- a call

    abbrev call_parts : Named × List Arg → List Part
    call_parts x = called x.0 ∷ word symbol.OpenParen ∷ node (a.args x.1) ∷ word symbol.CloseParen ∷ []

    abbrev call_of : Named × List Arg → Call
    call_of x = record { name = x.0; args = x.1 }

    call_choice : Choice a.call call_parts no_parts (always {A = Named × List Arg}) (always {A = Call}) (t ∷ []) i call_of
    call_choice x early late c1 c2 u1 u2 s r (rule.call {name = y} {args = args} same) before behind st e h = record { a = (y, args); same = same; is_early = refl; is_late = refl; stops = refl }

    simple_choice : ahead i ≡ symbol.OpenParen → Choice a.simple (λ (c : Call). node (a.call c) ∷ []) no_parts (always {A = Call}) stops_simple (t ∷ []) i simple.Call
    simple_choice opens x early late c1 c2 u1 u2 s r (rule.simple_call {c = c} same) before behind st e h = record { a = c; same = same; is_early = refl; is_late = refl; stops = refl }
    simple_choice opens x early late c1 c2 u1 u2 s r (rule.assign {p = p} {mark = mark} {mark_at = mark_at} same) before behind st e h =
        let f = from_node before in
        let k : u1 ++ (u2 ++ s) ≡ t ∷ r = sym (append_assoc u1 u2 s) ∙ e in
        let named = named_of_place (u2 ++ s) f.rule f.before f.behind f.after f.tokens f.depth (ap ahead k ∙ is.0) in
        absurd (marked_place (assign_symbol mark) mark_at (u2 ++ s) r t (assign_is_mark mark) named k (ahead-same r i h ∙ opens))
    simple_choice opens x early late c1 c2 u1 u2 s r (rule.step_after {up = up} {mark_at = mark_at} same) before behind st e h =
        let k : u1 ++ (u2 ++ s) ≡ t ∷ r = sym (append_assoc u1 u2 s) ∙ e in
        absurd (marked_place (step_symbol up) mark_at (u2 ++ s) r t (step_is_mark up) before k (ahead-same r i h ∙ opens))
    simple_choice opens x early late c1 c2 u1 u2 s r (rule.step_before {up = up} same) before behind st e h = absurd (no_step up (begins_so early c1 u1 u2 s r before e))
    simple_choice opens x early late c1 c2 u1 u2 s r (rule.set_overflow same) before behind st e h = let k = begins_so early c1 u1 u2 s r before e in absurd (cc)

    call_right : ahead i ≡ symbol.OpenParen → Right of_simple n stops_simple (t ∷ []) i (seen_by (λ (args : List Arg). simple.Call (record { name = name; args = args })) (arguments_at n i))
    call_right opens =
        let r = Right-after (λ (x : Named). called x ∷ []) (λ (args : List Arg). word symbol.OpenParen ∷ node (a.args args) ∷ word symbol.CloseParen ∷ []) n always always (λ b c d v s sp st. refl)
        (t ∷ []) i name i name_read (arguments_at n i) arguments_right in
        let named = seen_by (λ (args : List Arg). let x : Named × List Arg = (name, args) in x) (arguments_at n i) in
        let call = Right-seen call_parts (λ (c : Call). node (a.call c) ∷ []) n n (always {A = Named × List Arg}) (always {A = Call}) (t ∷ []) i call_of
        (early_seen a.call call_parts n always always (t ∷ []) i call_of (λ x. rule.call refl) call_choice) named r in
        let whole = Right-seen (λ (c : Call). node (a.call c) ∷ []) of_simple n n (always {A = Call}) stops_simple (t ∷ []) i simple.Call
        (early_seen a.simple (λ (c : Call). node (a.call c) ∷ []) n always stops_simple (t ∷ []) i simple.Call (λ c. rule.simple_call refl) (simple_choice opens)) (seen_by call_of named) call in
        subst (λ (y : Result (Simple × List Spot) Fault). Right of_simple n stops_simple (t ∷ []) i y) (same (arguments_at n i)) whole
      where
        same : (y : Result (List Arg × List Spot) Fault) → seen_by simple.Call (seen_by call_of (seen_by (λ (args : List Arg). let x : Named × List Arg = (name, args) in x) y))
            ≡ seen_by (λ (args : List Arg). simple.Call (record { name = name; args = args })) y
        same (Ok y) = refl
        same (Err f) = refl

    -- ---- a place and what follows it

    abbrev same_placed : Place × Tail → Place × Tail
    same_placed x = x

    placed_seen : Seen (both_parts of_named of_tail) placed_parts n n (both_stops stops_tail) stops_placed (t ∷ []) i same_placed
    placed_seen = record { forth = λ x c u sp. forth x.0 x.1 c u sp; front = λ x c u f. front x.0 x.1 c u f; back = λ x d v s r sp st e h. back x.0 x.1 d v s r sp st e h }
      where
        forth : (p : Place) (b : Tail) (c : ℕ) (u : List Spot) → Spells (node (a.named p) ∷ of_tail b) c u → (d : ℕ) × Spells (of_placed p b) d u × (c ≤ n → d ≤ n)
        forth p (inl b) c u sp = (c, sp, λ le. le)
        forth p (inr b) c u sp = (c, fold_spelled rule.place_named sp, λ le. le)

        front : (p : Place) (b : Tail) (c : ℕ) (u : List Spot) → Front (node (a.named p) ∷ of_tail b) c u → (d : ℕ) × Front (of_placed p b) d u × (n < c → n < d)
        front p (inl b) c u f = (c, f, λ lt. lt)
        front p (inr b) c u f = (c, fold_front rule.place_named f, λ lt. lt)

        back : (p : Place) (b : Tail) (d : ℕ) (v s r : List Spot) → Spells (of_placed p b) d v → Stops stops_placed (p, b) s → v ++ s ≡ t ∷ r → first r ≡ first i
            → (y : Place × Tail) × (c : ℕ) × ((p, b) ≡ y) × Spells (node (a.named y.0) ∷ of_tail y.1) c v × Stops (both_stops {A = Place} stops_tail) y s × (n < c → n < d)
        back p (inl b) d v s r sp st e h = ((p, inl b), d, refl, sp, st, λ lt. lt)
        back p (inr b) d v s r sp st e h =
            let f = from_node sp in
            let named = named_of_place s f.rule f.before f.behind f.after f.tokens f.depth (ap ahead e ∙ is.0) in
            ((p, inr b), d, refl, named, st, λ lt. lt)

    abbrev simple_of_placed : Place × Tail → Simple
    simple_of_placed x = simple_of x.0 x.1

    placed_rule : (p : Place) (b : Tail) → Rule (a.simple (simple_of p b)) (of_placed p b) []
    placed_rule p (inl b) = rule.step_after refl
    placed_rule p (inr b) = rule.assign refl

    placed_choice : ahead i ≢ symbol.OpenParen → Choice a.simple placed_parts no_parts stops_placed stops_simple (t ∷ []) i simple_of_placed
    placed_choice other x early late c1 c2 u1 u2 s r (rule.simple_call same) before behind st e h =
        let f = from_node before in
        let l : ((f.u1 ++ f.u2) ++ f.v) ++ (u2 ++ s) ≡ t ∷ r = ap (λ (w : List Spot). w ++ (u2 ++ s)) (sym f.tokens) ∙ sym (append_assoc u1 u2 s) ∙ e in
        absurd (other (sym (ahead-same r i h) ∙ call_second f.u2 f.v (u2 ++ s) r t f.rule f.before l))
    placed_choice other x early late c1 c2 u1 u2 s r (rule.assign {p = p} {mark = mark} {mark_at = mark_at} {value = value} same) before behind st e h =
        record { a = (p, inr ((mark, mark_at), value)); same = same; is_early = refl; is_late = refl; stops = simple_ends_expression (ahead s) st }
    placed_choice other x early late c1 c2 u1 u2 s r (rule.step_after {p = p} {up = up} {mark_at = mark_at} same) before behind st e h =
        record { a = (p, inl (up, mark_at)); same = same; is_early = refl; is_late = refl; stops = simple_ends_expression (ahead s) st }
    placed_choice other x early late c1 c2 u1 u2 s r (rule.step_before {up = up} same) before behind st e h = absurd (no_step up (begins_so early c1 u1 u2 s r before e))
    placed_choice other x early late c1 c2 u1 u2 s r (rule.set_overflow same) before behind st e h = let k = begins_so early c1 u1 u2 s r before e in absurd (cc)

    placed_right : ahead i ≢ symbol.OpenParen → Right of_simple n stops_simple (t ∷ []) i (indices_at n name i >>= (λ x. after_place (step_of (ahead x.1)) n x.0 x.1))
    unfolding assignment_at
    placed_right other =
        let r = Right-both of_named of_tail n stops_place stops_tail tail_follows (inr any_value) (indices_at n name) (tail_at n) (t ∷ []) i indices_right tail_right in
        let q = Right-seen (both_parts of_named of_tail) placed_parts n n (both_stops stops_tail) stops_placed (t ∷ []) i same_placed placed_seen (both (indices_at n name) (tail_at n) i) r in
        let whole = Right-seen placed_parts of_simple n n stops_placed stops_simple (t ∷ []) i simple_of_placed
        (early_seen a.simple placed_parts n stops_placed stops_simple (t ∷ []) i simple_of_placed (λ x. placed_rule x.0 x.1) (placed_choice other)) (seen_by same_placed (both (indices_at n name) (tail_at n) i)) q in
        subst (λ (y : Result (Simple × List Spot) Fault). Right of_simple n stops_simple (t ∷ []) i y) (same (indices_at n name i)) whole
      where
        joined : (p : Place) (y : Result (Value × List Spot) Fault) → seen_by simple_of_placed (seen_by same_placed (seen_by (λ (b : Tail). let z : Place × Tail = (p, b) in z) (seen_by value_tail y)))
            ≡ seen_by (λ (b : Value). simple.Assign (start_of_place p) p b.0.0 b.0.1 b.1) y
        joined p (Ok y) = refl
        joined p (Err f) = refl

        after : (p : Place) (j : List Spot) (o : Option Bool) → seen_by simple_of_placed (seen_by same_placed (seen_by (λ (b : Tail). let z : Place × Tail = (p, b) in z) (tail_by o n j))) ≡ after_place o n p j
        after p j (Some up) = refl
        after p j None = joined p (value_at n j)

        same : (y : Result (Place × List Spot) Fault) → seen_by simple_of_placed (seen_by same_placed (y >>= (λ x. seen_by (λ (b : Tail). let z : Place × Tail = (x.0, b) in z) (tail_at n x.1))))
            ≡ (y >>= (λ x. after_place (step_of (ahead x.1)) n x.0 x.1))
        same (Err f) = refl
        same (Ok x) = after x.0 x.1 (step_of (ahead x.1))

    -- what begins with the name
    pub named_simple_right : Right of_simple n stops_simple (t ∷ []) i (named_simple_by n name i)
    unfolding named_simple_by
    named_simple_right =
        Right-if of_simple n stops_simple (t ∷ []) i (same_symbol (ahead i) symbol.OpenParen)
        (seen_by (λ (args : List Arg). simple.Call (record { name = name; args = args })) (arguments_at n i)) (indices_at n name i >>= (λ x. after_place (step_of (ahead x.1)) n x.0 x.1))
        (λ h. call_right (same-is (ahead i) symbol.OpenParen h)) (λ h. placed_right (other-is (ahead i) symbol.OpenParen h))
