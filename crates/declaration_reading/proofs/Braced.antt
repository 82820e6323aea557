-- Reading lists in braces, where a comma may stand before the `}`.
use Rattle.std.proofs.Common.{◌≡◌, ◌≢◌, ℕ, zero, suc, ◌≤◌, Bool, true, false, List, [], ◌∷◌, ◌++◌, length, Some, refl, ap, subst, ◌∙◌, sym, arith, length-append}
use Rattle.std.proofs.lemmas.List.{append_assoc, append-nil}
use Rattle.std.specs.Prelude.{Result, Ok, Err, if◌then◌else◌}
use Rattle.c_grammar.specs.declared.symbol.Symbol.{Symbol}
use Rattle.c_grammar.specs.declared.symbol.Symbol.TheVariants as symbol
use Rattle.c_grammar.specs.Nodes.{Node}
use Rattle.c_grammar.specs.Parts.{Part, node, word, followed}
use Rattle.right_reading.specs.ReadDeclarations.{word_at, more_braced, braced_at}
use Rattle.c_grammar.specs.Spelling.{Spells}
use Rattle.c_grammar.specs.Spelling as spelling
use Rattle.c_grammar.specs.Spots.{Spot}
use Rattle.right_reading.specs.Stream.{ahead, rest, Fault, Parser, ◌>>=◌}
use Rattle.c_grammar.specs.Symbols.{same_symbol}
use Rattle.right_reading.proofs.Composed.Alternatives.{by_seen, ahead_is, follows_token, follows_nothing, alternative, nothing_right, word_then, ends_after}
use Rattle.right_reading.proofs.Composed.Dependent.{then_right, then_read, seen_by, read_as}
use Rattle.right_reading.proofs.OneToken.Endings.{word_after, then_word}
use Rattle.right_reading.specs.Right.{first, Ends, Stops, Right, always, Reads}
use Rattle.c_grammar.proofs.Sequences.{from_token, from_nothing}
use Rattle.right_reading.proofs.Composed.Steps.{Seen}
use Rattle.c_grammar.proofs.SymbolNumbers.{same-is, other-is}
use Rattle.right_reading.proofs.OneToken.Tokens.{Right-if, ahead-same}

-- what follows the first: each of these after a comma, and maybe one more comma
abbrev pub tail_parts : {X : Type 0} → (X → Node) → List X → Bool → List Part
tail_parts of [] true = word symbol.Comma ∷ []
tail_parts of [] false = []
tail_parts of (y ∷ ys) comma = word symbol.Comma ∷ node (of y) ∷ tail_parts of ys comma

pub tail_true : {X : Type 0} (of : X → Node) (ys : List X) → tail_parts of ys true ≡ followed of ys ++ word symbol.Comma ∷ []
tail_true of [] = refl
tail_true of (y ∷ ys) = ap (λ (ps : List Part). word symbol.Comma ∷ node (of y) ∷ ps) (tail_true of ys)

pub tail_false : {X : Type 0} (of : X → Node) (ys : List X) → tail_parts of ys false ≡ followed of ys
tail_false of [] = refl
tail_false of (y ∷ ys) = ap (λ (ps : List Part). word symbol.Comma ∷ node (of y) ∷ ps) (tail_false of ys)

abbrev pub closes : {A : Type 0} → A → Symbol → Bool
closes a s = same_symbol s symbol.CloseBrace

-- ---- what is read, with whether the last comma is there

abbrev pub Tail : Type 0 → Type 0
Tail X = List X × Bool

abbrev pub tail_of : {X : Type 0} → X × Tail X → Tail X
tail_of x = (x.0 ∷ x.1.0, x.1.1)

unfoldable pub braced_tail : {X : Type 0} → ℕ → Parser X → Parser (Tail X)
braced_tail zero p i = Ok (([], false), i)
braced_tail (suc fuel) p i =
    if same_symbol (ahead i) symbol.Comma then
    (if same_symbol (ahead (rest i)) symbol.CloseBrace then Ok (([], true), rest i)
    else seen_by tail_of (then_read {B = λ x. Tail _} (p (rest i)) (λ x j. braced_tail fuel p j)))
    else Ok (([], false), i)

abbrev put : {X : Type 0} → List X → Tail X → List X
put xs t = xs ++ t.0

put_together : {X : Type 0} (xs : List X) (x : X) (m : Result (Tail X × List Spot) Fault) → seen_by (put (xs ++ x ∷ [])) m ≡ seen_by (put xs) (seen_by tail_of (then_read {B = λ x. Tail X} (Ok (x, [])) (λ x j. m)))
put_together {X} xs x (Ok z) = ap (λ (l : List X). read_as l z.1) (append_assoc xs (x ∷ []) z.0.0)
put_together xs x (Err f) = refl

braced_prepend : {X : Type 0} (fuel : ℕ) (p : Parser X) (xs : List X) (i : List Spot) → more_braced fuel p xs i ≡ seen_by (put xs) (braced_tail fuel p i)
unfolding more_braced braced_tail
braced_prepend {X} zero p xs i = ap (λ (l : List X). read_as l i) (sym (append-nil xs))
braced_prepend {X} (suc fuel) p xs i = step (λ ys j. braced_prepend fuel p ys j) (same_symbol (ahead i) symbol.Comma) (same_symbol (ahead (rest i)) symbol.CloseBrace) (p (rest i))
  where
    step : ((ys : List X) (j : List Spot) → more_braced fuel p ys j ≡ seen_by (put ys) (braced_tail fuel p j)) → (b c : Bool) (y : Result (X × List Spot) Fault)
        → (if b then (if c then Ok (xs, rest i) else (y >>= (λ x. more_braced fuel p (xs ++ x.0 ∷ []) x.1))) else Ok (xs, i))
        ≡ seen_by (put xs) (if b then (if c then Ok (([], true), rest i) else seen_by tail_of (then_read {B = λ x. Tail X} y (λ x j. braced_tail fuel p j))) else Ok (([], false), i))
    step more false c y = ap (λ (l : List X). read_as l i) (sym (append-nil xs))
    step more true true y = ap (λ (l : List X). read_as l (rest i)) (sym (append-nil xs))
    step more true false (Err f) = refl
    step more true false (Ok x) = more (xs ++ x.0 ∷ []) x.1 ∙ put_together xs x.0 (braced_tail fuel p x.1)

abbrev pub front_of : {X : Type 0} → X × Tail X → List X
front_of x = x.0 ∷ x.1.0

put_first : {X : Type 0} (x : X) (m : Result (Tail X × List Spot) Fault) → seen_by (put (x ∷ [])) m ≡ seen_by front_of (then_read {B = λ x. Tail X} (Ok (x, [])) (λ x j. m))
put_first x (Ok z) = refl
put_first x (Err f) = refl

one_and_tail : {X : Type 0} (p : Parser X) (y : Result (X × List Spot) Fault)
    → (y >>= (λ x. more_braced (length x.1) p (x.0 ∷ []) x.1)) ≡ seen_by front_of (then_read {B = λ x. Tail X} y (λ x j. braced_tail (length j) p j))
one_and_tail p (Ok x) = braced_prepend (length x.1) p (x.0 ∷ []) x.1 ∙ put_first x.0 (braced_tail (length x.1) p x.1)
one_and_tail p (Err f) = refl

module _ {X : Type 0} (of : X → Node) (limit : ℕ) (stops : Symbol → Bool) (at_comma : stops symbol.Comma ≡ true) (at_close : stops symbol.CloseBrace ≡ true) (p : Parser X)
    (begins : (x : X) (ps : List Part) (c : ℕ) (u s : List Spot) → Spells (node (of x) ∷ ps) c u → ahead (u ++ s) ≢ symbol.CloseBrace)
    (p_right : Reads (λ (x : X). node (of x) ∷ []) limit (λ x s. stops s) p) where
  abbrev parts : Tail X → List Part
  parts t = tail_parts of t.0 t.1

  abbrev pub one_parts : X × Tail X → List Part
  one_parts x = node (of x.0) ∷ tail_parts of x.1.0 x.1.1

  follows : (a : X) (b : Tail X) (c : ℕ) (v s : List Spot) → Spells (parts b) c v → Stops closes b s → stops (ahead (v ++ s)) ≡ true
  follows a ([], true) c v s sp st = follows_token stops s sp at_comma
  follows a ([], false) c v s sp st = follows_nothing stops s sp (ap stops (same-is (ahead s) symbol.CloseBrace st) ∙ at_close)
  follows a (y ∷ ys, b) c v s sp st = follows_token stops s sp at_comma

  one_right : (fuel : List Spot → ℕ) (i : List Spot) → Ends i → ((j : List Spot) → Ends j → length j ≤ length i → Right parts limit closes [] j (braced_tail (fuel j) p j))
      → Right one_parts limit closes [] i (then_read {B = λ x. Tail X} (p i) (λ x j. braced_tail (fuel j) p j))
  one_right fuel i ends next =
      then_right (λ (x : X). node (of x) ∷ []) (λ x. parts) limit (λ x s. stops s) (λ x. closes) follows (λ x. ([], false)) (p i) (λ x j. braced_tail (fuel j) p j) [] i (p_right i ends)
      (λ x j r. next j r.ends (omega (arith, ap (length {A = Spot}) r.whole, length-append r.more j)))

  not_there : (c : Spot) (cs : List Spot) → Ends (c ∷ cs) → same_symbol c.symbol symbol.Comma ≡ false → Right parts limit closes [] (c ∷ cs) (Ok (([], false), c ∷ cs))
  not_there c cs ends e = nothing_right parts limit closes (c ∷ cs) ([], false) ends refl which
    where
      which : (t : Tail X) (d : ℕ) (v s r : List Spot) → Spells (parts t) d v → Stops closes t s → v ++ s ≡ r → first r ≡ Some c → (t ≡ ([], false)) × (v ≡ [])
      which ([], false) d v s r sp st e2 h = (refl, (from_nothing sp).tokens)
      which ([], true) d v s r sp st e2 h = absurd (other-is c.symbol symbol.Comma e (ahead_is s r (c ∷ cs) sp e2 h))
      which (y ∷ ys, b) d v s r sp st e2 h = absurd (other-is c.symbol symbol.Comma e (ahead_is s r (c ∷ cs) sp e2 h))

  -- what begins with a comma, by what is ahead then
  nothing_after : (c : Spot) (cs v s r : List Spot) (d : ℕ) → c.symbol ≡ symbol.Comma → Spells [] d v → same_symbol (ahead s) symbol.CloseBrace ≡ true → v ++ s ≡ c ∷ r → ⊥
  nothing_after c cs v s r d is sp st e =
      let f : ahead s ≡ symbol.Comma = ap ahead (ap (λ (w : List Spot). w ++ s) (sym (from_nothing sp).tokens) ∙ e) ∙ is in
      let g : symbol.CloseBrace ≡ symbol.Comma = sym (same-is (ahead s) symbol.CloseBrace st) ∙ f in
      cc

  comma_after : (c : Spot) (cs v s r : List Spot) (d : ℕ) → Spells (word symbol.Comma ∷ []) d v → v ++ s ≡ c ∷ r → s ≡ r
  comma_after c cs v s r d sp e =
      let t = from_token sp in
      let n = from_nothing t.after in
      let e2 : t.x ∷ s ≡ c ∷ r = ap (λ (w : List Spot). w ++ s) (sym (t.tokens ∙ ap (λ (w : List Spot). t.x ∷ w) n.tokens)) ∙ e in
      cc

  more_after : (c : Spot) (v s r : List Spot) (d : ℕ) (y : X) (ps : List Part) → Spells (word symbol.Comma ∷ node (of y) ∷ ps) d v → v ++ s ≡ c ∷ r → ahead r ≢ symbol.CloseBrace
  more_after c v s r d y ps sp e close =
      let t = from_token sp in
      let e2 : t.x ∷ (t.rest ++ s) ≡ c ∷ r = ap (λ (w : List Spot). w ++ s) (sym t.tokens) ∙ e in
      let same : t.rest ++ s ≡ r = cc in
      begins y ps d t.rest s t.after (ap ahead same ∙ close)

  -- the last comma, and the `}` after it
  last : (c : Spot) (cs : List Spot) → Ends (c ∷ cs) → c.symbol ≡ symbol.Comma → same_symbol (ahead cs) symbol.CloseBrace ≡ true → Right parts limit closes [] (c ∷ cs) (Ok (([], true), cs))
  last c cs ends is close =
      record { more = c ∷ []; depth = 0; whole = refl; spelled = spelling.quoted is spelling.nothing; within = omega arith; ends = ends_after c cs is (λ g. cc) ends; only = which }
    where
      which : (t : Tail X) (d : ℕ) (v s r : List Spot) → Spells (parts t) d v → Stops closes t s → v ++ s ≡ c ∷ r → first r ≡ first cs → (t ≡ ([], true)) × (s ≡ r)
      which ([], false) d v s r sp st e h = absurd (nothing_after c cs v s r d is sp st e)
      which ([], true) d v s r sp st e h = (refl, comma_after c cs v s r d sp e)
      which (y ∷ ys, b) d v s r sp st e h = absurd (more_after c v s r d y (tail_parts of ys b) sp e (ahead-same r cs h ∙ same-is (ahead cs) symbol.CloseBrace close))

  -- a comma, and what follows it
  another : (fuel : ℕ) (c : Spot) (cs : List Spot) → Ends (c ∷ cs) → ((j : List Spot) → Ends j → length j ≤ fuel → Right parts limit closes [] j (braced_tail fuel p j)) → length (c ∷ cs) ≤ suc fuel
      → c.symbol ≡ symbol.Comma → same_symbol (ahead cs) symbol.CloseBrace ≡ false
      → Right parts limit closes [] (c ∷ cs) (seen_by tail_of (then_read {B = λ x. Tail X} (p cs) (λ x j. braced_tail fuel p j)))
  another fuel c cs ends next le is close =
      let left : Ends cs = ends_after c cs is (λ g. cc) ends in
      let seen : Seen (λ (x : X × Tail X). word symbol.Comma ∷ one_parts x) parts limit limit closes closes (c ∷ []) cs tail_of =
      alternative parts limit closes (c ∷ []) cs tail_of which in
      word_then symbol.Comma (λ g. cc) one_parts parts limit closes closes tail_of c cs is ends seen
      (then_read {B = λ x. Tail X} (p cs) (λ x j. braced_tail fuel p j))
      (one_right (λ j. fuel) cs left (λ j more less. next j more (omega arith)))
    where
      which : (t : Tail X) (d : ℕ) (v s r : List Spot) → Spells (parts t) d v → Stops closes t s → v ++ s ≡ c ∷ r → first r ≡ first cs → (a : X × Tail X) × (t ≡ tail_of a)
      which ([], false) d v s r sp st e h = absurd (nothing_after c cs v s r d is sp st e)
      which ([], true) d v s r sp st e h =
          let same : s ≡ r = comma_after c cs v s r d sp e in
          absurd (other-is (ahead cs) symbol.CloseBrace close (sym (ahead-same r cs h) ∙ ap ahead (sym same) ∙ same-is (ahead s) symbol.CloseBrace st))
      which (y ∷ ys, b) d v s r sp st e h = ((y, (ys, b)), refl)

  tail_right : (fuel : ℕ) (i : List Spot) → Ends i → length i ≤ fuel → Right parts limit closes [] i (braced_tail fuel p i)
  unfolding braced_tail
  tail_right fuel [] ends le = absurd ends
  tail_right zero (c ∷ cs) ends le = absurd (omega arith)
  tail_right (suc fuel) (c ∷ cs) ends le =
      let more : Result (Tail X × List Spot) Fault = seen_by tail_of (then_read {B = λ x. Tail X} (p cs) (λ x j. braced_tail fuel p j)) in
      Right-if parts limit closes [] (c ∷ cs) (same_symbol c.symbol symbol.Comma) (if same_symbol (ahead cs) symbol.CloseBrace then Ok (([], true), cs) else more) (Ok (([], false), c ∷ cs))
      (λ e. Right-if parts limit closes [] (c ∷ cs) (same_symbol (ahead cs) symbol.CloseBrace) (Ok (([], true), cs)) more
      (last c cs ends (same-is c.symbol symbol.Comma e))
      (another fuel c cs ends (λ j more less. tail_right fuel j more less) le (same-is c.symbol symbol.Comma e)))
      (not_there c cs ends)

  pub braced_as : {of_y : List X → List Part} {limit' : ℕ} {stops_y : List X → Symbol → Bool} {i : List Spot}
      → Seen one_parts of_y limit limit' closes stops_y [] i front_of → Ends i
      → Right of_y limit' stops_y [] i (p i >>= (λ x. more_braced (length x.1) p (x.0 ∷ []) x.1))
  braced_as {of_y = of_y} {limit' = limit'} {stops_y = stops_y} {i = i} seen ends =
      subst (Right of_y limit' stops_y [] i) (sym (one_and_tail p (p i)))
      (by_seen seen (then_read {B = λ x. Tail X} (p i) (λ x j. braced_tail (length j) p j)) (one_right length i ends (λ j more less. tail_right (length j) j more (omega arith))))

  -- one or more, and the `}` that follows
  pub closed_at : List Spot → Result ((X × Tail X) × List Spot) Fault
  closed_at i = word_after symbol.CloseBrace (then_read {B = λ x. Tail X} (p i) (λ x j. braced_tail (length j) p j))

  pub closed_right : Reads (λ x. one_parts x ++ word symbol.CloseBrace ∷ []) limit always closed_at
  unfolding closed_at
  closed_right i ends =
      then_word symbol.CloseBrace (λ g. cc) one_parts limit closes (λ x. refl) i (then_read {B = λ x. Tail X} (p i) (λ x j. braced_tail (length j) p j))
      (one_right length i ends (λ j more less. tail_right (length j) j more (omega arith)))

  pub closed_is : (i : List Spot) → braced_at p i ≡ seen_by front_of (closed_at i)
  unfolding closed_at braced_at
  closed_is i = ap (word_after symbol.CloseBrace) (one_and_tail p (p i)) ∙ word_seen (then_read {B = λ x. Tail X} (p i) (λ x j. braced_tail (length j) p j))
    where
      word_seen : (m : Result ((X × Tail X) × List Spot) Fault) → word_after symbol.CloseBrace (seen_by front_of m) ≡ seen_by front_of (word_after symbol.CloseBrace m)
      word_seen (Err f) = refl
      word_seen (Ok x) = step (word_at symbol.CloseBrace x.1)
        where
          step : (m : Result (Unit {0} × List Spot) Fault) → (m >>= (λ z. read_as (front_of x.0) z.1)) ≡ seen_by front_of (m >>= (λ z. Ok (x.0, z.1)))
          step (Ok z) = refl
          step (Err f) = refl
