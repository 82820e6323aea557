-- Reading indices, and the place that begins with a name.
use Rattle.std.proofs.Common.{◌≡◌, ◌≢◌, ℕ, suc, Bool, true, false, List, [], ◌∷◌, Option, Some, None, ◌⊎◌, inl, inr, refl, ap, subst, ◌∙◌, sym}
use Rattle.std.specs.Prelude.{Result, Ok, Err, if◌then◌else◌}
use Rattle.sat_base.specs.declared.name.At.{At}
use Rattle.sat_base.specs.declared.name.Named.{Named}
use Rattle.c_tree.specs.declared.expression.Expr.{Expr}
use Rattle.c_tree.specs.declared.place.Place.{Place}
use Rattle.c_tree.specs.declared.place.Place.TheVariants as place
use Rattle.c_grammar.specs.declared.symbol.Symbol.{Symbol}
use Rattle.c_grammar.specs.declared.symbol.Symbol.TheVariants as symbol
use Rattle.c_grammar.specs.Grammar.{Rule}
use Rattle.c_grammar.specs.Grammar as rule
use Rattle.c_grammar.specs.Nodes as a
use Rattle.c_grammar.specs.Parts.{Called, Part, node, word, kept, called, Is}
use Rattle.right_reading.specs.ReadExpressions.{index_by, plain_place, second_by, indices_by}
use Rattle.c_grammar.specs.Spots.{Spot}
use Rattle.right_reading.specs.Stream.{ahead, Fault, Parser, ◌>>=◌, both, take_at}
use Rattle.c_grammar.specs.Symbols.{same_symbol}
use Rattle.right_reading.proofs.OneToken.Endings.{seen_twice}
use Rattle.right_reading.proofs.Composed.Dependent.{seen_by}
use Rattle.expression_reading.proofs.ByOperand.Looser.{done, same, loose, tighten, Seen-looser}
use Rattle.expression_reading.proofs.ByOperand.Optional.{Right-maybe, Read-known}
use Rattle.right_reading.specs.Right.{Ends, Stops, Read, Right, always, Reads}
use Rattle.right_reading.proofs.Composed.Rules.{Chosen, no_parts, late_seen, token-ahead}
use Rattle.right_reading.proofs.Composed.Steps.{both_parts, both_stops, Right-after, Seen, Right-both, Right-seen}
use Rattle.right_reading.proofs.OneToken.Tokens.{nowhere, take_right, any_expression}
use Rattle.right_reading.specs.Stops.{ends_place, stops_place, ends_expression, stops_expression}

abbrev pub of_expression : Expr → List Part
of_expression e = node (a.expr e) ∷ []

-- what reads expressions is right
abbrev pub ReadsExpressions : ℕ → Parser Expr → Type 0
ReadsExpressions n expression = Reads of_expression n stops_expression expression

abbrev pub of_index : At × Expr → List Part
of_index x = kept symbol.OpenBracket x.0 ∷ node (a.expr x.1) ∷ word symbol.CloseBracket ∷ []

abbrev kept_one : Symbol → At → List Part
kept_one s at = kept s at ∷ []

abbrev index_parts : At × (Expr × At) → List Part
index_parts = both_parts (kept_one symbol.OpenBracket) (both_parts of_expression (kept_one symbol.CloseBracket))

abbrev without_end : At × (Expr × At) → At × Expr
without_end x = (x.0, x.1.0)

-- an index in its brackets
pub index_right : (n : ℕ) (expression : Parser Expr) → ReadsExpressions n expression → (i : List Spot) → Ends i
    → Right (λ (x : At × Expr). kept symbol.OpenBracket x.0 ∷ node (a.expr x.1) ∷ word symbol.CloseBracket ∷ []) n always [] i (index_by expression i)
unfolding index_by
index_right n expression right i ends = Right-seen index_parts of_index n n always always [] i without_end seen (both (take_at symbol.OpenBracket) (both expression (take_at symbol.CloseBracket)) i) outer
  where
    inner_right : (j : List Spot) → Ends j → Right (both_parts of_expression (kept_one symbol.CloseBracket)) n always [] j (both expression (take_at symbol.CloseBracket) j)
    inner_right j ends = Right-both of_expression (kept_one symbol.CloseBracket) n stops_expression always (λ e at c v s sp st. ap ends_expression (token-ahead s sp)) nowhere
        expression (take_at symbol.CloseBracket) [] j (right j ends) (λ k ends. take_right symbol.CloseBracket (λ f. cc) n k ends)

    outer : Right index_parts n always [] i (both (take_at symbol.OpenBracket) (both expression (take_at symbol.CloseBracket)) i)
    outer = Right-both (kept_one symbol.OpenBracket) (both_parts of_expression (kept_one symbol.CloseBracket)) n always always (λ e at c v s sp st. refl) (any_expression, nowhere)
        (take_at symbol.OpenBracket) (both expression (take_at symbol.CloseBracket)) [] i (take_right symbol.OpenBracket (λ f. cc) n i ends) inner_right

    seen : Seen index_parts of_index n n always always [] i without_end
    seen = Seen-looser index_parts of_index n always always [] i without_end (λ x. same (same (loose done)))
        (λ x d v s r sp st e h. let t = tighten (kept symbol.OpenBracket x.0 ∷ node (a.expr x.1) ∷ []) symbol.CloseBracket [] sp in ((x.0, (x.1, t.0)), refl, t.1, refl))

-- ---- what follows a name

abbrev pub Index : Type 0
Index = At × Expr

-- no index, one, or two
abbrev pub Tail : Type 0
Tail = Option (Index × Option Index)

abbrev pub of_second : Option Index → List Part
of_second None = []
of_second (Some x) = of_index x

abbrev pub of_pair : Index × Option Index → List Part
of_pair = both_parts of_index of_second

abbrev pub of_tail : Tail → List Part
of_tail None = []
of_tail (Some x) = of_pair x

abbrev stops_second : Option Index → Symbol → Bool
stops_second x s = ends_place s

abbrev pub stops_tail : Tail → Symbol → Bool
stops_tail x s = ends_place s

abbrev pub second_at : Parser Expr → Parser (Option Index)
second_at expression i = if same_symbol (ahead i) symbol.OpenBracket then seen_by Some (index_by expression i) else Ok (None, i)

abbrev pub pair_at : Parser Expr → Parser (Index × Option Index)
pair_at expression i = index_by expression i >>= (λ x. second_at expression x.1 >>= (λ y. Ok ((x.0, y.0), y.1)))

abbrev pub tail_at : Parser Expr → Parser Tail
tail_at expression i = if same_symbol (ahead i) symbol.OpenBracket then seen_by Some (pair_at expression i) else Ok (None, i)

maybe_index : {A : Type 0} (x : Option A) → (x ≡ None) ⊎ ((y : A) × (x ≡ Some y))
maybe_index None = inl refl
maybe_index (Some y) = inr (y, refl)

no_bracket : (s : Symbol) → ends_place s ≡ true → s ≢ symbol.OpenBracket
no_bracket s e f = let g : ends_place symbol.OpenBracket ≡ true = ap ends_place (sym f) ∙ e in cc

second_right : (n : ℕ) (expression : Parser Expr) → ReadsExpressions n expression → Reads of_second n stops_second (second_at expression)
second_right n expression right i ends =
    Right-maybe of_index of_second n always stops_second None Some symbol.OpenBracket refl (λ x. refl) maybe_index (λ x c u s sp. token-ahead s sp) no_bracket (λ x s st. refl)
    i ends (index_by expression i) (λ is. index_right n expression right i ends)

pair_right : (n : ℕ) (expression : Parser Expr) → ReadsExpressions n expression → Reads of_pair n (both_stops stops_second) (pair_at expression)
pair_right n expression right i ends = Right-both of_index of_second n always stops_second (λ x y c v s sp st. refl) None (index_by expression) (second_at expression) [] i
    (index_right n expression right i ends) (second_right n expression right)

pub tail_right : (n : ℕ) (expression : Parser Expr) → ReadsExpressions n expression → Reads of_tail n stops_tail (tail_at expression)
tail_right n expression right i ends =
    Right-maybe of_pair of_tail n (both_stops stops_second) stops_tail None Some symbol.OpenBracket refl (λ x. refl) maybe_index (λ x c u s sp. token-ahead s sp) no_bracket (λ x s st. st)
    i ends (pair_at expression i) (λ is. pair_right n expression right i ends)

-- ---- places

abbrev pub with_second : Named → Index → Option Index → Place
with_second name one None = place.Index name one.0 one.1
with_second name one (Some two) = place.Index2 name one.0 one.1 two.0 two.1

abbrev pub place_of : Named → Tail → Place
place_of name None = plain_place name
place_of name (Some x) = with_second name x.0 x.1

abbrev pub place_of_pair : Named × Tail → Place
place_of_pair x = place_of x.0 x.1

abbrev pub of_called : Named → List Part
of_called name = called name ∷ []

abbrev pub of_place_parts : Named × Tail → List Part
of_place_parts = both_parts of_called of_tail

abbrev pub of_named : Place → List Part
of_named p = node (a.named p) ∷ []

pub place_rule : (name : Named) (t : Tail) → Rule (a.named (place_of name t)) [] (called name ∷ of_tail t)
place_rule name None = rule.plain refl
place_rule name (Some x) = two x.0 x.1
  where
    two : (one : Index) (t : Option Index) → Rule (a.named (with_second name one t)) [] (called name ∷ of_pair (one, t))
    two one None = rule.index refl
    two one (Some y) = rule.index2 refl

pub place_choice : (p : Place) {early late : List Part} (s : List Spot) → Rule (a.named p) early late → Stops stops_place p s → Chosen no_parts of_place_parts (both_stops stops_tail) place_of_pair p early late s
place_choice p s (rule.plain {name = name} e) st = record { a = (name, None); same = e; is_early = refl; is_late = refl; stops = st }
place_choice p s (rule.index {name = name} {mark_at = at} {index = i} e) st = record { a = (name, Some ((at, i), None)); same = e; is_early = refl; is_late = refl; stops = st }
place_choice p s (rule.index2 {name = name} {first_at = at} {second_at = at2} {first = i} {second = j} e) st = record { a = (name, Some ((at, i), Some (at2, j))); same = e; is_early = refl; is_late = refl; stops = st }

-- the reader is that of names and what follows them
second_is : (expression : Parser Expr) (name : Named) (one : Index) (j : List Spot) → second_by expression name one j ≡ seen_by (λ t. with_second name one t) (second_at expression j)
unfolding second_by
second_is expression name one j = by_test (same_symbol (ahead j) symbol.OpenBracket) (index_by expression j)
  where
    by_test : (b : Bool) (y : Result (Index × List Spot) Fault)
        → (if b then seen_by (λ x. place.Index2 name one.0 one.1 x.0 x.1) y else Ok (place.Index name one.0 one.1, j)) ≡ seen_by (λ t. with_second name one t) (if b then seen_by Some y else Ok (None, j))
    by_test true (Ok y) = refl
    by_test true (Err f) = refl
    by_test false y = refl

pub indices_is : (expression : Parser Expr) (name : Named) (i : List Spot) → indices_by expression name i ≡ seen_by (λ t. place_of name t) (tail_at expression i)
unfolding indices_by
indices_is expression name i = by_test (same_symbol (ahead i) symbol.OpenBracket) (index_by expression i)
  where
    paired : (x : Index × List Spot) (y : Result (Option Index × List Spot) Fault)
        → seen_by (λ t. with_second name x.0 t) y ≡ seen_by (λ t. place_of name t) (seen_by Some (y >>= (λ z. Ok ((x.0, z.0), z.1))))
    paired x (Ok y) = refl
    paired x (Err f) = refl

    by_test : (b : Bool) (y : Result (Index × List Spot) Fault)
        → (if b then y >>= (λ x. second_by expression name x.0 x.1) else Ok (place.Plain name, i))
        ≡ seen_by (λ t. place_of name t) (if b then seen_by Some (y >>= (λ x. second_at expression x.1 >>= (λ z. Ok ((x.0, z.0), z.1)))) else Ok (None, i))
    by_test true (Ok y) = second_is expression name y.0 y.1 ∙ paired y (second_at expression y.1)
    by_test true (Err f) = refl
    by_test false y = refl

same_name : (name other : Named) (x : Spot) → Is (Called name) x → Is (Called other) x → other ≡ name
same_name name other x is is2 = ap (λ (at : At). with_name at other.name) (sym is2.1 ∙ is.1) ∙ ap (λ (n : List ℕ). with_name name.at n) (sym is2.2 ∙ is.2)
  where
    with_name : At → List ℕ → Named
    with_name at n = record { at = at; name = n }

-- a name that was read already
pub Read-name : (n : ℕ) (x : Spot) (name : Named) (j : List Spot) → Is (Called name) x → Ends j → Read (λ (name : Named). called name ∷ []) n always (x ∷ []) j name j
Read-name n x name j is ends = Read-known Called n name x j is (λ other is2. same_name name other x is is2) ends

-- the place that begins with a name, which was read already
pub indices_right : (n : ℕ) (expression : Parser Expr) → ReadsExpressions n expression → (x : Spot) (name : Named) → Is (Called name) x → (i : List Spot) → Ends i
    → Right (λ (p : Place). node (a.named p) ∷ []) (suc n) stops_place (x ∷ []) i (indices_by expression name i)
indices_right n expression right x name is i ends = subst (λ (y : Result (Place × List Spot) Fault). Right of_named (suc n) stops_place (x ∷ []) i y) (sym same_result) place
  where
    pair : Right of_place_parts n (both_stops stops_tail) (x ∷ []) i (seen_by (λ t. (name, t)) (tail_at expression i))
    pair = Right-after of_called of_tail n always stops_tail (λ p t c v s sp st. refl) (x ∷ []) i name i (Read-name n x name i is ends) (tail_at expression i) (tail_right n expression right i ends)

    place : Right of_named (suc n) stops_place (x ∷ []) i (seen_by place_of_pair (seen_by (λ t. (name, t)) (tail_at expression i)))
    place = Right-seen of_place_parts of_named n (suc n) (both_stops stops_tail) stops_place (x ∷ []) i place_of_pair
        (late_seen (λ p. a.named p) of_place_parts n (both_stops stops_tail) stops_place (x ∷ []) i place_of_pair (λ y. place_rule y.0 y.1)
        (λ p early late c1 c2 u1 u2 s r rule sp1 sp2 st e h. place_choice p s rule st))
        (seen_by (λ t. (name, t)) (tail_at expression i)) pair

    same_result : indices_by expression name i ≡ seen_by place_of_pair (seen_by (λ t. (name, t)) (tail_at expression i))
    same_result = indices_is expression name i ∙ sym (seen_twice (λ t. (name, t)) place_of_pair (tail_at expression i))
