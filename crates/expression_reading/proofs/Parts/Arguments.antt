-- Reading arguments and calls.
use Rattle.std.proofs.Common.{◌≡◌, ◌≢◌, ℕ, suc, Bool, true, false, List, [], ◌∷◌, ◌++◌, length, ◌⊎◌, inl, inr, refl, ap, subst, ◌∙◌, sym, arith}
use Rattle.std.proofs.lemmas.List.{append_assoc}
use Rattle.std.specs.Prelude.{Result, Ok, Err, if◌then◌else◌, ◌||◌}
use Rattle.sat_base.specs.declared.name.At.{At}
use Rattle.sat_base.specs.declared.name.Named.{Named}
use Rattle.c_tree.specs.declared.call.Arg.{Arg}
use Rattle.c_tree.specs.declared.call.Arg.TheVariants as arg
use Rattle.c_tree.specs.declared.call.Call.{Call}
use Rattle.c_tree.specs.declared.expression.Expr.{Expr}
use Rattle.c_tree.specs.declared.place.Place.{Place}
use Rattle.c_grammar.specs.declared.symbol.Symbol.{Symbol}
use Rattle.c_grammar.specs.declared.symbol.Symbol.TheVariants as symbol
use Rattle.c_grammar.specs.Grammar.{Rule}
use Rattle.c_grammar.specs.Grammar as rule
use Rattle.c_grammar.specs.Nodes as a
use Rattle.c_grammar.specs.Parts.{Kept, Called, Part, node, word, kept, followed, Is}
use Rattle.right_reading.specs.ReadExpressions.{Readers, argument_by, listed_by, arguments_by}
use Rattle.c_grammar.specs.Spelling.{Spells}
use Rattle.c_grammar.specs.Spelling as spelling
use Rattle.c_grammar.specs.Spots.{Spot}
use Rattle.right_reading.specs.Stream.{ahead, rest, Fault, Parser, ◌>>=◌, both, mapped, take_at}
use Rattle.c_grammar.specs.Symbols.{same_symbol, begins_expression}
use Rattle.right_reading.proofs.OneToken.Endings.{seen_twice}
use Rattle.right_reading.proofs.Composed.Dependent.{seen_by}
use Rattle.expression_reading.proofs.Parts.Indices.{of_expression, of_named, of_called, Read-name}
use Rattle.right_reading.proofs.Ahead.Begins.{spells_starts}
use Rattle.right_reading.proofs.Lists.Listed.{listed_as}
use Rattle.expression_reading.proofs.ByOperand.Looser.{done, same, loose, tighten, Seen-looser}
use Rattle.expression_reading.proofs.ByLimit.Lower.{RightReaders}
use Rattle.right_reading.specs.Right.{first, Ends, Stops, Read, Right, always, Reads}
use Rattle.right_reading.proofs.Composed.Rules.{Chosen, no_parts, early_seen, token-ahead}
use Rattle.c_grammar.proofs.Sequences.{from_token, from_node, from_nothing}
use Rattle.right_reading.proofs.Composed.Steps.{both_parts, both_stops, Right-after, Right-both, Right-seen, Read-token}
use Rattle.c_grammar.proofs.SymbolNumbers.{same-is, other-is}
use Rattle.right_reading.proofs.OneToken.Tokens.{ahead-same, nowhere, take_right, Right-if}
use Rattle.right_reading.specs.Stops.{ends_place, stops_place, ends_expression, stops_expression, stops_arg}
use Rattle.c_grammar.proofs.SymbolSets.{among}

-- ---- one argument

abbrev pub of_arg : Arg → List Part
of_arg x = node (a.arg x) ∷ []

pub expression_place : (s : Symbol) → ends_expression s ≡ true → ends_place s ≡ true
expression_place = among ends_expression ends_place refl

abbrev of_and : At → List Part
of_and at = kept symbol.And at ∷ []

abbrev address_of : At × Place → Arg
address_of x = arg.Address x.0 x.1

abbrev value_of : Expr → Arg
value_of e = arg.Value e

-- what is spelled begins as i does
pub spelled_ahead : (u1 u2 s r i : List Spot) → (u1 ++ u2) ++ s ≡ r → first r ≡ first i → ahead (u1 ++ (u2 ++ s)) ≡ ahead i
spelled_ahead u1 u2 s r i e h = ap ahead (sym (append_assoc u1 u2 s) ∙ e) ∙ ahead-same r i h

address_choice : (x : Arg) {early late : List Part} {c1 : ℕ} (u1 u2 s r i : List Spot) → Rule (a.arg x) early late → Spells early c1 u1 → ahead i ≡ symbol.And → Stops stops_arg x s
    → (u1 ++ u2) ++ s ≡ r → first r ≡ first i → Chosen (both_parts of_and of_named) no_parts (both_stops stops_place) address_of x early late s
address_choice x u1 u2 s r i (rule.address {at = at} {p = p} e) sp is st eq h = record { a = (at, p); same = e; is_early = refl; is_late = refl; stops = expression_place (ahead s) st }
address_choice x u1 u2 s r i (rule.value {e = e} f) sp is st eq h =
    let no : begins_expression symbol.And ≡ true = ap begins_expression (sym (spelled_ahead u1 u2 s r i eq h ∙ is)) ∙ spells_starts (u2 ++ s) sp in
    cc

value_choice : (x : Arg) {early late : List Part} {c1 : ℕ} (u1 u2 s r i : List Spot) → Rule (a.arg x) early late → Spells early c1 u1 → ahead i ≢ symbol.And → Stops stops_arg x s
    → (u1 ++ u2) ++ s ≡ r → first r ≡ first i → Chosen of_expression no_parts stops_expression value_of x early late s
value_choice x u1 u2 s r i (rule.address e) sp not st eq h = absurd (not (sym (spelled_ahead u1 u2 s r i eq h) ∙ token-ahead (u2 ++ s) sp))
value_choice x u1 u2 s r i (rule.value {e = e} f) sp not st eq h = record { a = e; same = f; is_early = refl; is_late = refl; stops = st }

address_right : (n : ℕ) (below : Readers) → RightReaders n below → (x : Spot) (xs : List Spot) → x.symbol ≡ symbol.And → Ends (x ∷ xs)
    → Right of_arg n stops_arg [] (x ∷ xs) (seen_by (λ p. arg.Address x.at p) (below.named xs))
address_right n below right x xs is ends = subst (λ (y : Result (Arg × List Spot) Fault). Right of_arg n stops_arg [] (x ∷ xs) y) (seen_twice (λ p. (x.at, p)) address_of (below.named xs))
    (Right-seen (both_parts of_and of_named) of_arg n n (both_stops stops_place) stops_arg [] (x ∷ xs) address_of
    (early_seen (λ y. a.arg y) (both_parts of_and of_named) n (both_stops stops_place) stops_arg [] (x ∷ xs) address_of (λ y. rule.address refl)
    (λ y early late c1 c2 u1 u2 s r rule sp1 sp2 st e h. address_choice y u1 u2 s r (x ∷ xs) rule sp1 is st e h))
    (seen_by (λ p. (x.at, p)) (below.named xs))
    (Right-after of_and of_named n always stops_place (λ y z c v s sp st. refl) [] (x ∷ xs) x.at xs token (below.named xs) (right.named xs token.ends)))
  where
    token : Read of_and n always [] (x ∷ xs) x.at xs
    token = Read-token (λ (at : At). Kept symbol.And at) n x.at x xs (is, refl) (λ f. let g : symbol.And ≡ symbol.End = sym is ∙ f in cc) (λ b q. sym q.1) ends

value_right : (n : ℕ) (below : Readers) → RightReaders n below → (i : List Spot) → ahead i ≢ symbol.And → Ends i → Right of_arg n stops_arg [] i (mapped arg.Value below.expression i)
value_right n below right i not ends =
    Right-seen of_expression of_arg n n stops_expression stops_arg [] i value_of
    (early_seen (λ y. a.arg y) of_expression n stops_expression stops_arg [] i value_of (λ y. rule.value refl)
    (λ y early late c1 c2 u1 u2 s r rule sp1 sp2 st e h. value_choice y u1 u2 s r i rule sp1 not st e h))
    (below.expression i) (right.expression i ends)

pub argument_right : (n : ℕ) (below : Readers) → RightReaders n below → Reads (λ (x : Arg). node (a.arg x) ∷ []) n stops_arg (argument_by below)
unfolding argument_by
argument_right n below right [] ends = absurd ends
argument_right n below right (x ∷ xs) ends =
    Right-if of_arg n stops_arg [] (x ∷ xs) (same_symbol x.symbol symbol.And) (seen_by (λ p. arg.Address x.at p) (below.named xs)) (mapped arg.Value below.expression (x ∷ xs))
    (λ e. address_right n below right x xs (same-is x.symbol symbol.And e) ends)
    (λ e. value_right n below right (x ∷ xs) (other-is x.symbol symbol.And e) ends)

-- ---- arguments with commas between them

abbrev close : Symbol → Bool
close s = same_symbol s symbol.CloseParen

abbrev pub stops_args : List Arg → Symbol → Bool
stops_args xs s = close s

abbrev pub of_args : List Arg → List Part
of_args xs = node (a.args xs) ∷ []

abbrev cons : Arg × List Arg → List Arg
cons z = z.0 ∷ z.1

abbrev of_listed : Arg × List Arg → List Part
of_listed z = node (a.arg z.0) ∷ followed a.arg z.1

abbrev stops_listed : Arg × List Arg → Symbol → Bool
stops_listed z s = close s

close_expression : (x : Arg) (s : Symbol) → close s ≡ true → ends_expression s ≡ true
close_expression x symbol.CloseParen e = refl
close_expression x _ e = cc

args_choice : (xs : List Arg) {early late : List Part} {c1 c2 : ℕ} (u1 u2 s r i : List Spot) → Rule (a.args xs) early late → Spells early c1 u1 → Spells late c2 u2 → close (ahead i) ≡ false → Stops stops_args xs s
    → (u1 ++ u2) ++ s ≡ r → first r ≡ first i → Chosen of_listed no_parts stops_listed cons xs early late s
args_choice xs u1 u2 s r i rule.no_args sp1 sp2 not st eq h =
    let same : s ≡ r = ap (λ (w : List Spot). w ++ s) (sym (from_nothing sp2).tokens) ∙ ap (λ (w : List Spot). (w ++ u2) ++ s) (sym (from_nothing sp1).tokens) ∙ eq in
    let no : close (ahead s) ≡ false = ap close (ap ahead same ∙ ahead-same r i h) ∙ not in
    cc
args_choice xs u1 u2 s r i (rule.args {x = x} {xs = ys}) sp1 sp2 not st eq h = record { a = (x, ys); same = refl; is_early = refl; is_late = refl; stops = st }

some_args_right : (n : ℕ) (below : Readers) → RightReaders n below → (i : List Spot) → Ends i → close (ahead i) ≡ false → Right of_args n stops_args [] i (listed_by below i)
unfolding listed_by
some_args_right n below right i ends not =
    listed_as a.arg n stops_arg close refl (λ x. refl) close_expression (argument_by below) (argument_right n below right) (λ j. suc (length j)) (λ j. omega arith) {of_y = of_args} {limit' = n} {stops_y = stops_args} {i = i}
    (early_seen (λ xs. a.args xs) of_listed n stops_listed stops_args [] i cons (λ z. rule.args)
    (λ xs early late c1 c2 u1 u2 s r rule sp1 sp2 st e h. args_choice xs u1 u2 s r i rule sp1 sp2 not st e h)) ends

-- ---- up to the `)`

abbrev of_inner : List Arg → List Part
of_inner xs = node (a.args xs) ∷ word symbol.CloseParen ∷ []

abbrev of_close : At → List Part
of_close at = kept symbol.CloseParen at ∷ []

abbrev inner_at : Readers → Parser (List Arg)
inner_at below i = if same_symbol (ahead i) symbol.CloseParen then Ok ([], rest i) else mapped (λ y. y.0) (both (listed_by below) (take_at symbol.CloseParen)) i

no_args_rule : (xs : List Arg) {early late : List Part} {c1 c2 : ℕ} (u1 u2 s r : List Spot) (y z : Spot) → Rule (a.args xs) early late → Spells early c1 u1 → Spells late c2 u2 → z.symbol ≡ symbol.CloseParen
    → (u1 ++ u2) ++ (y ∷ s) ≡ z ∷ r → (xs ≡ []) × (s ≡ r)
no_args_rule xs u1 u2 s r y z rule.no_args sp1 sp2 is e =
    let both : y ∷ s ≡ z ∷ r = ap (λ (w : List Spot). w ++ (y ∷ s)) (sym (from_nothing sp2).tokens) ∙ ap (λ (w : List Spot). (w ++ u2) ++ (y ∷ s)) (sym (from_nothing sp1).tokens) ∙ e in
    let same : s ≡ r = cc in
    (refl, same)
no_args_rule xs u1 u2 s r y z (rule.args {x = x}) sp1 sp2 is e =
    let it : ahead (u1 ++ (u2 ++ (y ∷ s))) ≡ symbol.CloseParen = ap ahead (sym (append_assoc u1 u2 (y ∷ s)) ∙ e) ∙ is in
    let no : (same_symbol symbol.CloseParen symbol.And || begins_expression symbol.CloseParen) ≡ true = ap (λ (t : Symbol). same_symbol t symbol.And || begins_expression t) (sym it) ∙ spells_starts (u2 ++ (y ∷ s)) sp1 in
    cc

-- no arguments where `)` is ahead
no_args : (xs : List Arg) (c : ℕ) (v s r : List Spot) (z : Spot) → Spells (of_inner xs) c v → z.symbol ≡ symbol.CloseParen → v ++ s ≡ z ∷ r → (xs ≡ []) × (s ≡ r)
no_args xs c v s r z sp is e =
    let f = from_node sp in
    let t = from_token f.after in
    let tokens : v ≡ (f.u1 ++ f.u2) ++ (t.x ∷ []) = f.tokens ∙ ap (λ (w : List Spot). (f.u1 ++ f.u2) ++ w) (t.tokens ∙ ap (λ (w : List Spot). t.x ∷ w) (from_nothing t.after).tokens) in
    let all : (f.u1 ++ f.u2) ++ (t.x ∷ s) ≡ z ∷ r = sym (append_assoc (f.u1 ++ f.u2) (t.x ∷ []) s) ∙ ap (λ (w : List Spot). w ++ s) (sym tokens) ∙ e in
    no_args_rule xs f.u1 f.u2 s r t.x z f.rule f.before f.behind is all

read_close : (n : ℕ) (i : List Spot) → Ends i → ahead i ≡ symbol.CloseParen → Read of_inner n always [] i [] (rest i)
read_close n [] ends is = absurd ends
read_close n (z ∷ zs) ends is = record {
  more = z ∷ [];
  depth = 0;
  whole = refl;
  spelled = spelling.whole rule.no_args spelling.nothing spelling.nothing (spelling.quoted is spelling.nothing) refl refl;
  within = omega arith;
  ends = left ends;
  only = λ xs c v s r sp st e h. no_args xs c v s r z sp is e;
}
  where
    left : (z.symbol ≡ symbol.End) ⊎ Ends zs → Ends zs
    left (inl e) = let f : symbol.CloseParen ≡ symbol.End = sym is ∙ e in cc
    left (inr e) = e

abbrev args_of : List Arg × At → List Arg
args_of x = x.0

inner_right : (n : ℕ) (below : Readers) → RightReaders n below → Reads of_inner n always (inner_at below)
inner_right n below right i ends = Right-if of_inner n always [] i (close (ahead i)) (Ok ([], rest i)) (mapped (λ y. y.0) (both (listed_by below) (take_at symbol.CloseParen)) i)
    (λ e. read_close n i ends (same-is (ahead i) symbol.CloseParen e))
    (λ e. Right-seen (both_parts of_args of_close) of_inner n n (both_stops always) always [] i args_of
    (Seen-looser (both_parts of_args of_close) of_inner n (both_stops always) always [] i args_of (λ x. same (loose done))
    (λ xs d v s r sp st eq h. let t = tighten (node (a.args xs) ∷ []) symbol.CloseParen [] sp in ((xs, t.0), refl, t.1, refl)))
    (both (listed_by below) (take_at symbol.CloseParen) i)
    (Right-both of_args of_close n stops_args always (λ xs at c v s sp st. ap close (token-ahead s sp)) nowhere (listed_by below) (take_at symbol.CloseParen) [] i
    (some_args_right n below right i ends e) (λ j ends. take_right symbol.CloseParen (λ f. cc) n j ends)))

abbrev of_open : At → List Part
of_open at = kept symbol.OpenParen at ∷ []

abbrev of_arguments : List Arg → List Part
of_arguments xs = word symbol.OpenParen ∷ node (a.args xs) ∷ word symbol.CloseParen ∷ []

abbrev after_open : At × List Arg → List Arg
after_open x = x.1

arguments_is : (below : Readers) (i : List Spot) → arguments_by below i ≡ seen_by after_open (both (take_at symbol.OpenParen) (inner_at below) i)
unfolding arguments_by
arguments_is below i = by_result (take_at symbol.OpenParen i)
  where
    plain : (x : At × List Spot) (y : Result (List Arg × List Spot) Fault) → y ≡ seen_by after_open (y >>= (λ y. Ok ((x.0, y.0), y.1)))
    plain x (Ok z) = refl
    plain x (Err f) = refl

    by_result : (y : Result (At × List Spot) Fault) → (y >>= (λ x. inner_at below x.1)) ≡ seen_by after_open (y >>= (λ x. inner_at below x.1 >>= (λ y. Ok ((x.0, y.0), y.1))))
    by_result (Ok x) = plain x (inner_at below x.1)
    by_result (Err f) = refl

pub arguments_right : (n : ℕ) (below : Readers) → RightReaders n below → (i : List Spot) → Ends i
    → Right (λ (xs : List Arg). word symbol.OpenParen ∷ node (a.args xs) ∷ word symbol.CloseParen ∷ []) n always [] i (arguments_by below i)
arguments_right n below right i ends = subst (λ (y : Result (List Arg × List Spot) Fault). Right of_arguments n always [] i y) (sym (arguments_is below i))
    (Right-seen (both_parts of_open of_inner) of_arguments n n (both_stops always) always [] i after_open
    (Seen-looser (both_parts of_open of_inner) of_arguments n (both_stops always) always [] i after_open (λ x. loose (same (same done)))
    (λ xs d v s r sp st e h. let t = tighten [] symbol.OpenParen (node (a.args xs) ∷ word symbol.CloseParen ∷ []) sp in ((t.0, xs), refl, t.1, refl)))
    (both (take_at symbol.OpenParen) (inner_at below) i)
    (Right-both of_open of_inner n always always (λ x y c v s sp st. refl) [] (take_at symbol.OpenParen) (inner_at below) [] i (take_right symbol.OpenParen (λ f. cc) n i ends) (inner_right n below right)))

-- ---- calls

abbrev pub of_call : Call → List Part
of_call c = node (a.call c) ∷ []

abbrev pub call_of : Named × List Arg → Call
call_of x = record { name = x.0; args = x.1 }

call_choice : (c : Call) {early late : List Part} (s : List Spot) → Rule (a.call c) early late → Chosen (both_parts of_called of_arguments) no_parts (both_stops always) call_of c early late s
call_choice c s (rule.call {name = name} {args = args} e) = record { a = (name, args); same = e; is_early = refl; is_late = refl; stops = refl }

-- a call whose name was read already
pub call_right : (n : ℕ) (below : Readers) → RightReaders n below → (x : Spot) (name : Named) → Is (Called name) x → (i : List Spot) → Ends i
    → Right (λ (c : Call). node (a.call c) ∷ []) n always (x ∷ []) i (mapped (λ args. call_of (name, args)) (arguments_by below) i)
call_right n below right x name is i ends = subst (λ (y : Result (Call × List Spot) Fault). Right of_call n always (x ∷ []) i y) (seen_twice (λ args. (name, args)) call_of (arguments_by below i))
    (Right-seen (both_parts of_called of_arguments) of_call n n (both_stops always) always (x ∷ []) i call_of
    (early_seen (λ c. a.call c) (both_parts of_called of_arguments) n (both_stops always) always (x ∷ []) i call_of (λ y. rule.call refl) (λ c early late c1 c2 u1 u2 s r rule sp1 sp2 st e h. call_choice c s rule))
    (seen_by (λ args. (name, args)) (arguments_by below i))
    (Right-after of_called of_arguments n always always (λ y z c v s sp st. refl) (x ∷ []) i name i (Read-name n x name i is ends) (arguments_by below i) (arguments_right n below right i ends)))
