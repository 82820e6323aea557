-- Reading operands: an expression with no mark between operands outside brackets.
use Rattle.std.proofs.Common.{◌≡◌, ◌≢◌, ℕ, suc, ◌+◌, Bool, true, false, List, [], ◌∷◌, ◌++◌, Option, Some, None, ◌⊎◌, inl, inr, refl, ap, subst, ◌∙◌, sym}
use Rattle.std.proofs.lemmas.List.{append_assoc}
use Rattle.std.specs.Prelude.{Result, Ok, Err, if◌then◌else◌}
use Rattle.sat_base.specs.declared.name.At.{At}
use Rattle.sat_base.specs.declared.name.Named.{Named}
use Rattle.sat_base.specs.declared.width.Width.{Width}
use Rattle.c_tree.specs.declared.expression.Expr.{Expr}
use Rattle.c_tree.specs.declared.expression.ExprKind.TheVariants as kind
use Rattle.c_tree.specs.declared.expression.UnaryMark.{UnaryMark}
use Rattle.c_tree.specs.declared.expression.UnaryMark.TheVariants as unary
use Rattle.c_tree.specs.declared.place.Place.{Place}
use Rattle.c_grammar.specs.declared.symbol.Symbol.{Symbol}
use Rattle.c_grammar.specs.declared.symbol.Symbol.TheVariants as symbol
use Rattle.c_grammar.specs.Grammar.{Rule}
use Rattle.c_grammar.specs.Grammar as rule
use Rattle.c_grammar.specs.Marks.{unary_symbol}
use Rattle.c_grammar.specs.Nodes as a
use Rattle.c_grammar.specs.Parts.{Token, Kept, Called, Part, token, node, word, kept, Is}
use Rattle.right_reading.specs.ReadExpressions.{Readers, unmarked, reading, type_at, arguments_by, bracketed_by, named_by, operand_by, unary_by, next_unary}
use Rattle.c_grammar.specs.Spelling.{Spells}
use Rattle.c_grammar.specs.Spots.{Spot, here}
use Rattle.right_reading.specs.Stream.{ahead, rest, Fault, Parser, ◌>>=◌, both, mapped, take_at, name_at, number_at}
use Rattle.c_grammar.specs.Symbols.{same_symbol, unary_mark, width_of, begins_type, begins_expression}
use Rattle.right_reading.proofs.OneToken.Endings.{seen_twice}
use Rattle.right_reading.proofs.Composed.Dependent.{seen_by}
use Rattle.expression_reading.proofs.Parts.Arguments.{of_call, call_of, call_right}
use Rattle.expression_reading.proofs.Parts.Indices.{of_expression, of_named}
use Rattle.right_reading.proofs.Ahead.Begins.{spells_starts}
use Rattle.expression_reading.proofs.ByOperand.Looser.{done, same, loose, tighten, Seen-looser}
use Rattle.expression_reading.proofs.ByLimit.Lower.{RightReaders}
use Rattle.expression_reading.proofs.ByOperand.OperandRules.{of_marked, marked, Casting, of_cast, cast_of, of_brackets, bracketed, of_number, numbered, of_overflow, overflow_of, calling, ByRule, chosen, ByLead, marked_lead, by_lead, after_token, call_second, place_second}
use Rattle.expression_reading.proofs.ByOperand.Optional.{Read-known}
use Rattle.expression_reading.proofs.Parts.Places.{of_place, place_of_named}
use Rattle.right_reading.specs.Right.{first, Ends, Stops, Read, Right, always, Reads}
use Rattle.right_reading.proofs.Composed.Rules.{Chosen, Choice, no_parts, late_seen, token-ahead}
use Rattle.c_grammar.proofs.Sequences.{split, from_nothing}
use Rattle.right_reading.proofs.Composed.Shifts.{unshift}
use Rattle.right_reading.proofs.Composed.Steps.{both_parts, both_stops, Right-after, Right-both, Right-seen, Read-token}
use Rattle.right_reading.proofs.Ahead.Stops.{operand-place}
use Rattle.c_grammar.proofs.SymbolNumbers.{same-is, other-is}
use Rattle.right_reading.proofs.OneToken.Tokens.{ahead-same, nowhere, take_right, number_right, Right-if, any_expression}
use Rattle.expression_reading.proofs.Parts.Types.{of_type, stops_type, type_right, type_ahead}
use Rattle.right_reading.specs.Stops.{stops_place, ends_operand, stops_operand, ends_expression, stops_expression}
use Rattle.c_grammar.proofs.SymbolSets.{apart}

abbrev pub of_unary : Expr → List Part
of_unary e = node (a.unary e) ∷ []

abbrev RightUnary : ℕ → List Spot → List Spot → Result (Expr × List Spot) Fault → Type 0
RightUnary n before i y = Right of_unary (suc n) stops_operand before i y

-- what is read by one rule is an operand
module _ {A : Type 0} (of : A → List Part) (mk : A → Expr) (n : ℕ) (stops : A → Symbol → Bool) (before i : List Spot) (rule : (x : A) → Rule (a.unary (mk x)) [] (of x)) where
  pub by_rule : Choice (λ e. a.unary e) no_parts of stops stops_operand before i mk → (y : Result (A × List Spot) Fault) → Right of n stops before i y → RightUnary n before i (seen_by mk y)
  by_rule choice y right = Right-seen of of_unary n (suc n) stops stops_operand before i mk (late_seen (λ e. a.unary e) of n stops stops_operand before i mk rule choice) y right

  -- where the first token shows the rule
  pub by_first : (s : Symbol) → ((w : List Spot) → first w ≡ first i → ahead (before ++ w) ≡ s) → ((e : Expr) (early late : List Part) → ByLead s e early late → ByRule of mk e early late)
      → ((x : A) (t : Symbol) → ends_operand t ≡ true → stops x t ≡ true) → (y : Result (A × List Spot) Fault) → Right of n stops before i y → RightUnary n before i (seen_by mk y)
  by_first s is shows less y right = by_rule choice y right
    where
      choice : Choice (λ e. a.unary e) no_parts of stops stops_operand before i mk
      choice e early late c1 c2 u1 u2 t r rule sp1 sp2 st eq h =
          let k : ByLead s e early late = subst (λ (u : Symbol). ByLead u e early late) (is r h) (by_lead e u1 u2 t (before ++ r) rule sp1 sp2 eq) in
          let c = shows e early late k in
          chosen of mk stops e early late t c (less c.x (ahead t) st)

-- the first of i is the first of what begins as it does
first_is : (x : Spot) (xs : List Spot) (s : Symbol) → x.symbol ≡ s → (w : List Spot) → first w ≡ first (x ∷ xs) → ahead w ≡ s
first_is x xs s is w h = ahead-same w (x ∷ xs) h ∙ is

not_end : (s : Symbol) (x : Spot) → begins_expression s ≡ true → x.symbol ≡ s → x.symbol ≢ symbol.End
not_end s x b is f = let g : begins_expression symbol.End ≡ true = ap begins_expression (sym f ∙ is) ∙ b in cc

-- ---- a mark before an operand

abbrev of_mark : Symbol → At → List Part
of_mark s at = kept s at ∷ []

mark_begins : (m : UnaryMark) → begins_expression (unary_symbol m) ≡ true
mark_begins unary.Minus = refl
mark_begins _ = refl

-- the first token, whose place is kept
first_token : (s : Symbol) → begins_expression s ≡ true → (n : ℕ) (x : Spot) (xs : List Spot) → x.symbol ≡ s → Ends (x ∷ xs) → Read (of_mark s) n always [] (x ∷ xs) x.at xs
first_token s b n x xs is ends = Read-token (λ (at : At). Kept s at) n x.at x xs (is, refl) (not_end s x b is) (λ c q. sym q.1) ends

marked_right : (m : UnaryMark) (n : ℕ) (below : Readers) → RightReaders n below → (x : Spot) (xs : List Spot) → x.symbol ≡ unary_symbol m → Ends (x ∷ xs)
    → RightUnary n [] (x ∷ xs) (seen_by (λ part. unmarked x.at (kind.Unary m x.at part)) (below.unary xs))
marked_right m n below right x xs is ends = subst (λ (y : Result (Expr × List Spot) Fault). RightUnary n [] (x ∷ xs) y) (seen_twice (λ e. (x.at, e)) (marked m) (below.unary xs))
    (by_first (of_marked m) (marked m) n (both_stops stops_operand) [] (x ∷ xs) (λ z. rule.unary refl) (unary_symbol m) (first_is x xs (unary_symbol m) is) (marked_lead m) (λ z t st. st)
    (seen_by (λ e. (x.at, e)) (below.unary xs))
    (Right-after (of_mark (unary_symbol m)) of_unary n always stops_operand (λ y z c v s sp st. refl) [] (x ∷ xs) x.at xs token (below.unary xs) (right.unary xs token.ends)))
  where
    token : Read (of_mark (unary_symbol m)) n always [] (x ∷ xs) x.at xs
    token = first_token (unary_symbol m) (mark_begins m) n x xs is ends

-- ---- what begins with `(`, which was read already

open_known : (n : ℕ) (x : Spot) (j : List Spot) → x.symbol ≡ symbol.OpenParen → Ends j → Read (of_mark symbol.OpenParen) n always (x ∷ []) j x.at j
open_known n x j is ends = Read-known (λ (at : At). Kept symbol.OpenParen at) n x.at x j (is, refl) (λ c q. sym q.1) ends

open_lead : (e : Expr) {early late : List Part} {c1 c2 : ℕ} (u1 u2 s r : List Spot) (x : Spot) → x.symbol ≡ symbol.OpenParen → Rule (a.unary e) early late → Spells early c1 u1 → Spells late c2 u2 → (u1 ++ u2) ++ s ≡ x ∷ r
    → ByLead symbol.OpenParen e early late
open_lead e {early} {late} u1 u2 s r x is rule sp1 sp2 eq = subst (λ (u : Symbol). ByLead u e early late) is (by_lead e u1 u2 s (x ∷ r) rule sp1 sp2 eq)

type_expression : (s : Symbol) → begins_type s ≡ true → begins_expression s ≡ true → ⊥
type_expression = apart begins_type begins_expression refl

type_begins : (s : Symbol) (width : Width) → width_of s ≡ Some width → begins_type s ≡ true
type_begins symbol.Word16 width e = refl
type_begins symbol.Short width e = refl
type_begins symbol.Word32 width e = refl
type_begins symbol.Flag width e = refl
type_begins symbol.IntWord width e = refl
type_begins symbol.Long width e = refl
type_begins _ width e = cc

-- what is spelled after the first token, where nothing is early
second : {t : Token} {ps early late : List Part} {c1 c2 : ℕ} (u1 u2 s r : List Spot) (x : Spot) → early ≡ [] → late ≡ token t ∷ ps → Spells early c1 u1 → Spells late c2 u2 → (u1 ++ u2) ++ s ≡ x ∷ r
    → (v : List Spot) × Spells ps c2 v × (v ++ s ≡ r)
second {t} {ps} {early} {late} {c1} {c2} u1 u2 s r x is_early is_late sp1 sp2 eq =
    let none = from_nothing (subst (λ (qs : List Part). Spells qs c1 u1) is_early sp1) in
    after_token u2 s r x (subst (λ (qs : List Part). Spells qs c2 u2) is_late sp2) (ap (λ (w : List Spot). (w ++ u2) ++ s) (sym none.tokens) ∙ eq)

-- a cast, where a type is ahead
cast_choice : (e : Expr) {early late : List Part} {c1 c2 : ℕ} (u1 u2 s r : List Spot) (x : Spot) → x.symbol ≡ symbol.OpenParen → Rule (a.unary e) early late → Spells early c1 u1 → Spells late c2 u2 → (u1 ++ u2) ++ s ≡ x ∷ r
    → begins_type (ahead r) ≡ true → ByRule of_cast cast_of e early late
cast_choice e {early} {late} u1 u2 s r x is rule sp1 sp2 eq types = pick (open_lead e u1 u2 s r x is rule sp1 sp2 eq)
  where
    pick : ByRule of_cast cast_of e early late ⊎ ByRule of_brackets bracketed e early late → ByRule of_cast cast_of e early late
    pick (inl k) = k
    pick (inr k) =
        let b = second u1 u2 s r x k.is_early k.is_late sp1 sp2 eq in
        absurd (type_expression (ahead r) types (ap (λ (w : List Spot). begins_expression (ahead w)) (sym b.2) ∙ spells_starts s b.1))

-- brackets, where none is
brackets_choice : (e : Expr) {early late : List Part} {c1 c2 : ℕ} (u1 u2 s r : List Spot) (x : Spot) → x.symbol ≡ symbol.OpenParen → Rule (a.unary e) early late → Spells early c1 u1 → Spells late c2 u2 → (u1 ++ u2) ++ s ≡ x ∷ r
    → begins_type (ahead r) ≡ false → ByRule of_brackets bracketed e early late
brackets_choice e {early} {late} u1 u2 s r x is rule sp1 sp2 eq types = pick (open_lead e u1 u2 s r x is rule sp1 sp2 eq)
  where
    pick : ByRule of_cast cast_of e early late ⊎ ByRule of_brackets bracketed e early late → ByRule of_brackets bracketed e early late
    pick (inl k) =
        let b = second u1 u2 s r x k.is_early k.is_late sp1 sp2 eq in
        let p = split (node (a.type_ k.x.1.0.0 k.x.1.0.1) ∷ []) (word symbol.CloseParen ∷ node (a.unary k.x.1.1) ∷ []) b.1 in
        let all : p.u ++ (p.v ++ s) ≡ r = sym (append_assoc p.u p.v s) ∙ ap (λ (w : List Spot). w ++ s) (sym p.tokens) ∙ b.2 in
        let yes : begins_type (ahead r) ≡ true = ap (λ (w : List Spot). begins_type (ahead w)) (sym all) ∙ type_begins (ahead (p.u ++ (p.v ++ s))) k.x.1.0.1 (type_ahead (p.v ++ s) p.left) in
        cc
    pick (inr k) = k

abbrev of_close : At → List Part
of_close at = kept symbol.CloseParen at ∷ []

-- the parts of a cast, with all places
abbrev of_cast_parts : At × ((At × Width) × (At × Expr)) → List Part
of_cast_parts = both_parts (of_mark symbol.OpenParen) (both_parts of_type (both_parts of_close of_unary))

abbrev casting : At × ((At × Width) × (At × Expr)) → Casting
casting z = (z.0, (z.1.0, z.1.1.1))

abbrev stops_cast : Casting → Symbol → Bool
stops_cast z s = ends_operand s

cast_right : (n : ℕ) (below : Readers) → RightReaders n below → (x : Spot) (xs : List Spot) → x.symbol ≡ symbol.OpenParen → Ends xs → begins_type (ahead xs) ≡ true
    → RightUnary n (x ∷ []) xs (mapped (λ z. unmarked x.at (kind.Cast z.0.1 z.1.1)) (both type_at (both (take_at symbol.CloseParen) below.unary)) xs)
cast_right n below right x xs is ends types = subst (λ (y : Result (Expr × List Spot) Fault). RightUnary n (x ∷ []) xs y) same_result
    (by_rule of_cast cast_of n stops_cast (x ∷ []) xs (λ z. rule.cast refl) choice (seen_by casting (seen_by (λ y. (x.at, y)) inner)) whole)
  where
    inner : Result (((At × Width) × (At × Expr)) × List Spot) Fault
    inner = both type_at (both (take_at symbol.CloseParen) below.unary) xs

    choice : Choice (λ e. a.unary e) no_parts of_cast stops_cast stops_operand (x ∷ []) xs cast_of
    choice e early late c1 c2 u1 u2 s r rule sp1 sp2 st eq h =
        chosen of_cast cast_of stops_cast e early late s (cast_choice e u1 u2 s r x is rule sp1 sp2 eq (ap begins_type (ahead-same r xs h) ∙ types)) st

    after : (j : List Spot) → Ends j → Right (both_parts of_close of_unary) n (both_stops stops_operand) [] j (both (take_at symbol.CloseParen) below.unary j)
    after j ends = Right-both of_close of_unary n always stops_operand (λ y z c v s sp st. refl) any_expression (take_at symbol.CloseParen) below.unary [] j (take_right symbol.CloseParen (λ f. cc) n j ends) right.unary

    parts : Right (both_parts of_type (both_parts of_close of_unary)) n (both_stops (both_stops stops_operand)) [] xs (both type_at (both (take_at symbol.CloseParen) below.unary) xs)
    parts = Right-both of_type (both_parts of_close of_unary) n stops_type (both_stops stops_operand) (λ y z c v s sp st. ap (λ (t : Symbol). stops_type y t) (token-ahead s sp)) (nowhere, any_expression)
        type_at (both (take_at symbol.CloseParen) below.unary) [] xs (type_right n xs ends) after

    whole : Right of_cast n stops_cast (x ∷ []) xs (seen_by casting (seen_by (λ y. (x.at, y)) inner))
    whole = Right-seen of_cast_parts of_cast n n (both_stops (both_stops (both_stops stops_operand))) stops_cast (x ∷ []) xs casting
        (Seen-looser of_cast_parts of_cast n (both_stops (both_stops (both_stops stops_operand))) stops_cast (x ∷ []) xs casting (λ z. same (same (loose (same done))))
        (λ z d v s r sp st e h. let t = tighten (kept symbol.OpenParen z.0 ∷ node (a.type_ z.1.0.0 z.1.0.1) ∷ []) symbol.CloseParen (node (a.unary z.1.1) ∷ []) sp in ((z.0, (z.1.0, (t.0, z.1.1))), refl, t.1, st)))
        (seen_by (λ y. (x.at, y)) inner)
        (Right-after (of_mark symbol.OpenParen) (both_parts of_type (both_parts of_close of_unary)) n always (both_stops (both_stops stops_operand)) (λ y z c v s sp st. refl) (x ∷ []) xs x.at xs
        (open_known n x xs is ends) inner parts)

    same_result : seen_by cast_of (seen_by casting (seen_by (λ y. (x.at, y)) inner)) ≡ seen_by (λ z. unmarked x.at (kind.Cast z.0.1 z.1.1)) inner
    same_result = ap (λ (y : Result (Casting × List Spot) Fault). seen_by cast_of y) (seen_twice (λ y. (x.at, y)) casting inner) ∙ seen_twice (λ y. casting (x.at, y)) cast_of inner

abbrev of_brackets_parts : At × (Expr × At) → List Part
of_brackets_parts = both_parts (of_mark symbol.OpenParen) (both_parts of_expression of_close)

abbrev bracketing : At × (Expr × At) → At × Expr
bracketing z = (z.0, z.1.0)

brackets_right : (n : ℕ) (below : Readers) → RightReaders n below → (x : Spot) (xs : List Spot) → x.symbol ≡ symbol.OpenParen → Ends xs → begins_type (ahead xs) ≡ false
    → RightUnary n (x ∷ []) xs (mapped (λ z. record { at = x.at; brackets = z.0.brackets + 1; kind = z.0.kind }) (both below.expression (take_at symbol.CloseParen)) xs)
brackets_right n below right x xs is ends types = subst (λ (y : Result (Expr × List Spot) Fault). RightUnary n (x ∷ []) xs y) same_result
    (by_rule of_brackets bracketed n always (x ∷ []) xs (λ z. rule.brackets refl) choice (seen_by bracketing (seen_by (λ y. (x.at, y)) inner)) whole)
  where
    inner : Result ((Expr × At) × List Spot) Fault
    inner = both below.expression (take_at symbol.CloseParen) xs

    choice : Choice (λ e. a.unary e) no_parts of_brackets always stops_operand (x ∷ []) xs bracketed
    choice e early late c1 c2 u1 u2 s r rule sp1 sp2 st eq h =
        chosen of_brackets bracketed always e early late s (brackets_choice e u1 u2 s r x is rule sp1 sp2 eq (ap begins_type (ahead-same r xs h) ∙ types)) refl

    parts : Right (both_parts of_expression of_close) n (both_stops always) [] xs (both below.expression (take_at symbol.CloseParen) xs)
    parts = Right-both of_expression of_close n stops_expression always (λ y z c v s sp st. ap ends_expression (token-ahead s sp)) nowhere below.expression (take_at symbol.CloseParen) [] xs
        (right.expression xs ends) (λ j ends. take_right symbol.CloseParen (λ f. cc) n j ends)

    whole : Right of_brackets n always (x ∷ []) xs (seen_by bracketing (seen_by (λ y. (x.at, y)) inner))
    whole = Right-seen of_brackets_parts of_brackets n n (both_stops (both_stops always)) always (x ∷ []) xs bracketing
        (Seen-looser of_brackets_parts of_brackets n (both_stops (both_stops always)) always (x ∷ []) xs bracketing (λ z. same (same (loose done)))
        (λ z d v s r sp st e h. let t = tighten (kept symbol.OpenParen z.0 ∷ node (a.expr z.1) ∷ []) symbol.CloseParen [] sp in ((z.0, (z.1, t.0)), refl, t.1, refl)))
        (seen_by (λ y. (x.at, y)) inner)
        (Right-after (of_mark symbol.OpenParen) (both_parts of_expression of_close) n always (both_stops always) (λ y z c v s sp st. refl) (x ∷ []) xs x.at xs (open_known n x xs is ends) inner parts)

    same_result : seen_by bracketed (seen_by bracketing (seen_by (λ y. (x.at, y)) inner)) ≡ seen_by (λ z. record { at = x.at; brackets = z.0.brackets + 1; kind = z.0.kind }) inner
    same_result = ap (λ (y : Result ((At × Expr) × List Spot) Fault). seen_by bracketed y) (seen_twice (λ y. (x.at, y)) bracketing inner) ∙ seen_twice (λ y. bracketing (x.at, y)) bracketed inner

pub bracketed_right : (n : ℕ) (below : Readers) → RightReaders n below → (x : Spot) (xs : List Spot) → x.symbol ≡ symbol.OpenParen → Ends xs
    → Right (λ (e : Expr). node (a.unary e) ∷ []) (suc n) stops_operand (x ∷ []) xs (bracketed_by below x.at xs)
unfolding bracketed_by
bracketed_right n below right x xs is ends = Right-if of_unary (suc n) stops_operand (x ∷ []) xs (begins_type (ahead xs))
    (mapped (λ z. unmarked x.at (kind.Cast z.0.1 z.1.1)) (both type_at (both (take_at symbol.CloseParen) below.unary)) xs)
    (mapped (λ z. record { at = x.at; brackets = z.0.brackets + 1; kind = z.0.kind }) (both below.expression (take_at symbol.CloseParen)) xs)
    (cast_right n below right x xs is ends) (brackets_right n below right x xs is ends)

-- ---- what begins with a name, which was read already

name_lead : (e : Expr) {early late : List Part} {c1 c2 : ℕ} (u1 u2 s r : List Spot) (x : Spot) → x.symbol ≡ symbol.Name → Rule (a.unary e) early late → Spells early c1 u1 → Spells late c2 u2 → (u1 ++ u2) ++ s ≡ x ∷ r
    → ByLead symbol.Name e early late
name_lead e {early} {late} u1 u2 s r x is rule sp1 sp2 eq = subst (λ (u : Symbol). ByLead u e early late) is (by_lead e u1 u2 s (x ∷ r) rule sp1 sp2 eq)

-- what is late is all
late_only : {early late ps : List Part} {c1 c2 : ℕ} (u1 u2 s w : List Spot) → early ≡ [] → late ≡ ps → Spells early c1 u1 → Spells late c2 u2 → (u1 ++ u2) ++ s ≡ w → Spells ps c2 u2 × (u2 ++ s ≡ w)
late_only {early} {late} {ps} {c1} {c2} u1 u2 s w is_early is_late sp1 sp2 eq =
    let none = from_nothing (subst (λ (qs : List Part). Spells qs c1 u1) is_early sp1) in
    (subst (λ (qs : List Part). Spells qs c2 u2) is_late sp2, ap (λ (v : List Spot). (v ++ u2) ++ s) (sym none.tokens) ∙ eq)

call_choice : (e : Expr) {early late : List Part} {c1 c2 : ℕ} (u1 u2 s r : List Spot) (x : Spot) → x.symbol ≡ symbol.Name → Rule (a.unary e) early late → Spells early c1 u1 → Spells late c2 u2 → (u1 ++ u2) ++ s ≡ x ∷ r
    → Stops stops_operand e s → ahead r ≡ symbol.OpenParen → ByRule of_call calling e early late
call_choice e {early} {late} u1 u2 s r x is rule sp1 sp2 eq st paren = pick (name_lead e u1 u2 s r x is rule sp1 sp2 eq)
  where
    never : (ahead r ≡ symbol.OpenBracket) ⊎ (s ≡ r) → ⊥
    never (inl f) = let g : symbol.OpenParen ≡ symbol.OpenBracket = sym paren ∙ f in cc
    never (inr f) = let g : ends_operand symbol.OpenParen ≡ true = ap ends_operand (sym (ap ahead f ∙ paren)) ∙ st in cc

    pick : ByRule of_call calling e early late ⊎ ByRule of_place reading e early late → ByRule of_call calling e early late
    pick (inl k) = k
    pick (inr k) = let b = late_only u1 u2 s (x ∷ r) k.is_early k.is_late sp1 sp2 eq in absurd (never (place_second k.x u2 s r x b.0 b.1 is))

read_choice : (e : Expr) {early late : List Part} {c1 c2 : ℕ} (u1 u2 s r : List Spot) (x : Spot) → x.symbol ≡ symbol.Name → Rule (a.unary e) early late → Spells early c1 u1 → Spells late c2 u2 → (u1 ++ u2) ++ s ≡ x ∷ r
    → ahead r ≢ symbol.OpenParen → ByRule of_place reading e early late
read_choice e {early} {late} u1 u2 s r x is rule sp1 sp2 eq not = pick (name_lead e u1 u2 s r x is rule sp1 sp2 eq)
  where
    pick : ByRule of_call calling e early late ⊎ ByRule of_place reading e early late → ByRule of_place reading e early late
    pick (inl k) = let b = late_only u1 u2 s (x ∷ r) k.is_early k.is_late sp1 sp2 eq in absurd (not (call_second k.x u2 s r x b.0 b.1))
    pick (inr k) = k

call_value_right : (n : ℕ) (below : Readers) → RightReaders n below → (x : Spot) (name : Named) → Is (Called name) x → (xs : List Spot) → Ends xs → ahead xs ≡ symbol.OpenParen
    → RightUnary n (x ∷ []) xs (mapped (λ args. unmarked name.at (kind.Call (record { name = name; args = args }))) (arguments_by below) xs)
call_value_right n below right x name is xs ends paren =
    subst (λ (y : Result (Expr × List Spot) Fault). RightUnary n (x ∷ []) xs y) (seen_twice (λ args. call_of (name, args)) calling (arguments_by below xs))
    (by_rule of_call calling n always (x ∷ []) xs (λ c. rule.call_value refl) choice (seen_by (λ args. call_of (name, args)) (arguments_by below xs)) (call_right n below right x name is xs ends))
  where
    choice : Choice (λ e. a.unary e) no_parts of_call always stops_operand (x ∷ []) xs calling
    choice e early late c1 c2 u1 u2 s r rule sp1 sp2 st eq h = chosen of_call calling always e early late s (call_choice e u1 u2 s r x is.0 rule sp1 sp2 eq st (ahead-same r xs h ∙ paren)) refl

-- a place that begins with the name x
name_place_choice : (p : Place) {early late : List Part} {c1 c2 : ℕ} (u1 u2 s r : List Spot) (x : Spot) → x.symbol ≡ symbol.Name → Rule (a.place p) early late → Spells early c1 u1 → Spells late c2 u2
    → Stops stops_place p s → (u1 ++ u2) ++ s ≡ x ∷ r → Chosen of_named no_parts stops_place (λ (q : Place). q) p early late s
name_place_choice p u1 u2 s r x is rule.place_named sp1 sp2 st eq = record { a = p; same = refl; is_early = refl; is_late = refl; stops = st }
name_place_choice p u1 u2 s r x is (rule.deref e) sp1 sp2 st eq =
    let b = late_only u1 u2 s (x ∷ r) refl refl sp1 sp2 eq in
    let f : symbol.Star ≡ symbol.Name = sym (token-ahead s b.0) ∙ ap ahead b.1 ∙ is in
    cc

read_right : (n : ℕ) (below : Readers) → RightReaders n below → (x : Spot) (name : Named) → Is (Called name) x → (xs : List Spot) → Ends xs → ahead xs ≢ symbol.OpenParen
    → RightUnary n (x ∷ []) xs (mapped reading (below.indices name) xs)
read_right n below right x name is xs ends not =
    by_rule of_place reading n stops_place (x ∷ []) xs (λ p. rule.read refl) choice (below.indices name xs)
    (place_of_named n (x ∷ []) xs (below.indices name xs) (λ p early late c1 c2 u1 u2 s r rule sp1 sp2 st eq h. name_place_choice p u1 u2 s r x is.0 rule sp1 sp2 st eq) (right.indices x name is xs ends))
  where
    choice : Choice (λ e. a.unary e) no_parts of_place stops_place stops_operand (x ∷ []) xs reading
    choice e early late c1 c2 u1 u2 s r rule sp1 sp2 st eq h =
        chosen of_place reading stops_place e early late s (read_choice e u1 u2 s r x is.0 rule sp1 sp2 eq (λ f. not (sym (ahead-same r xs h) ∙ f))) (operand-place (ahead s) st)

pub named_operand_right : (n : ℕ) (below : Readers) → RightReaders n below → (x : Spot) (name : Named) → Is (Called name) x → (xs : List Spot) → Ends xs
    → Right (λ (e : Expr). node (a.unary e) ∷ []) (suc n) stops_operand (x ∷ []) xs (named_by below name xs)
unfolding named_by
named_operand_right n below right x name is xs ends = Right-if of_unary (suc n) stops_operand (x ∷ []) xs (same_symbol (ahead xs) symbol.OpenParen)
    (mapped (λ args. unmarked name.at (kind.Call (record { name = name; args = args }))) (arguments_by below) xs) (mapped reading (below.indices name) xs)
    (λ e. call_value_right n below right x name is xs ends (same-is (ahead xs) symbol.OpenParen e))
    (λ e. read_right n below right x name is xs ends (other-is (ahead xs) symbol.OpenParen e))

-- ---- all operands

star_right : (n : ℕ) (below : Readers) → RightReaders n below → (x : Spot) (xs : List Spot) → x.symbol ≡ symbol.Star → Ends (x ∷ xs) → RightUnary n [] (x ∷ xs) (mapped reading below.indirection (x ∷ xs))
star_right n below right x xs is ends =
    by_first of_place reading n always [] (x ∷ xs) (λ p. rule.read refl) symbol.Star (first_is x xs symbol.Star is) (λ e early late k. k) (λ p t st. refl) (below.indirection (x ∷ xs)) (right.indirection (x ∷ xs) ends is)

overflow_right : (n : ℕ) (x : Spot) (xs : List Spot) → x.symbol ≡ symbol.Overflow → Ends (x ∷ xs) → RightUnary n [] (x ∷ xs) (Ok (unmarked x.at (kind.ReadOverflow x.at), xs))
overflow_right n x xs is ends =
    by_first of_overflow overflow_of n always [] (x ∷ xs) (λ p. rule.read_overflow refl) symbol.Overflow (first_is x xs symbol.Overflow is) (λ e early late k. k) (λ p t st. refl) (Ok (x.at, xs))
    (first_token symbol.Overflow refl n x xs is ends)

-- a number, or nothing that begins an operand
number_operand : (s : Symbol) → ((e : Expr) (early late : List Part) → ByLead s e early late → ByRule of_number numbered e early late) → (n : ℕ) (x : Spot) (xs : List Spot) → x.symbol ≡ s → Ends (x ∷ xs)
    → RightUnary n [] (x ∷ xs) (mapped (λ z. unmarked z.0 (kind.Int z.1)) number_at (x ∷ xs))
number_operand s shows n x xs is ends =
    by_first of_number numbered n always [] (x ∷ xs) (λ p. rule.number refl) s (first_is x xs s is) shows (λ p t st. refl) (number_at (x ∷ xs)) (number_right n (x ∷ xs) ends)

left_end : (s : Symbol) (x : Spot) (xs : List Spot) → begins_expression s ≡ true → x.symbol ≡ s → Ends (x ∷ xs) → Ends xs
left_end s x xs b is (inl e) = absurd (not_end s x b is e)
left_end s x xs b is (inr e) = e

if_true : {A : Type 0} (b : Bool) (x y : A) → b ≡ true → (if b then x else y) ≡ x
if_true true x y e = refl
if_true false x y e = cc

name_operand : (n : ℕ) (below : Readers) → RightReaders n below → (x : Spot) (xs : List Spot) → x.symbol ≡ symbol.Name → Ends (x ∷ xs) → RightUnary n [] (x ∷ xs) (name_at (x ∷ xs) >>= (λ z. named_by below z.0 z.1))
name_operand n below right x xs is ends =
    subst (λ (y : Result (Named × List Spot) Fault). RightUnary n [] (x ∷ xs) (y >>= (λ z. named_by below z.0 z.1))) (sym read)
    (unshift of_unary (suc n) stops_operand [] (x ∷ []) (x ∷ xs) xs refl (named_by below name xs) (named_operand_right n below right x name (is, refl, refl) xs (left_end symbol.Name x xs refl is ends)))
  where
    name : Named
    name = record { at = x.at; name = x.name }

    read : name_at (x ∷ xs) ≡ Ok (name, xs)
    read = if_true (same_symbol x.symbol symbol.Name) (Ok (name, xs)) (Err (record { deep = false; at = x.at })) (ap (λ (s : Symbol). same_symbol s symbol.Name) is)

-- by the first symbol
abbrev by_symbol : Option UnaryMark → Symbol → Readers → Parser Expr
by_symbol (Some mark) s below i = mapped (λ part. unmarked (here i) (kind.Unary mark (here i) part)) below.unary (rest i)
by_symbol None s below i = operand_by s below i

unary_is : (o : Option UnaryMark) (below : Readers) (i : List Spot) → unary_by o below i ≡ by_symbol o (ahead i) below i
unfolding unary_by
unary_is (Some mark) below i = refl
unary_is None below i = refl

symbol_right : (s : Symbol) (n : ℕ) (below : Readers) → RightReaders n below → (x : Spot) (xs : List Spot) → x.symbol ≡ s → Ends (x ∷ xs) → RightUnary n [] (x ∷ xs) (by_symbol (unary_mark s) s below (x ∷ xs))
symbol_right symbol.Minus n below right x xs is ends = marked_right unary.Minus n below right x xs is ends
symbol_right symbol.Plus n below right x xs is ends = marked_right unary.Plus n below right x xs is ends
symbol_right symbol.Not n below right x xs is ends = marked_right unary.Not n below right x xs is ends
symbol_right symbol.Tilde n below right x xs is ends = marked_right unary.Invert n below right x xs is ends
symbol_right symbol.OpenParen n below right x xs is ends =
    unshift of_unary (suc n) stops_operand [] (x ∷ []) (x ∷ xs) xs refl (bracketed_by below x.at xs) (bracketed_right n below right x xs is (left_end symbol.OpenParen x xs refl is ends))
symbol_right symbol.Name n below right x xs is ends = name_operand n below right x xs is ends
symbol_right symbol.Star n below right x xs is ends = star_right n below right x xs is ends
symbol_right symbol.Overflow n below right x xs is ends = overflow_right n x xs is ends
symbol_right symbol.Int n below right x xs is ends = number_operand symbol.Int (λ e early late k. k) n x xs is ends
symbol_right s n below right x xs is ends = number_operand s (λ e early late k. absurd k) n x xs is ends

pub next_unary_right : (n : ℕ) (below : Readers) → RightReaders n below → Reads (λ (e : Expr). node (a.unary e) ∷ []) (suc n) stops_operand (next_unary below)
next_unary_right n below right [] ends = absurd ends
next_unary_right n below right (x ∷ xs) ends =
    subst (λ (y : Result (Expr × List Spot) Fault). RightUnary n [] (x ∷ xs) y) (sym (unary_is (unary_mark x.symbol) below (x ∷ xs))) (symbol_right x.symbol n below right x xs refl ends)
