-- What reading all items says of the whole list of tokens.
use Rattle.std.proofs.Common.{◌≡◌, ◌≢◌, ◌⊎◌, inl, inr, ℕ, suc, ◌≤◌, ◌<◌, Bool, true, false, List, [], ◌∷◌, ◌++◌, length, take, drop, refl, ap, subst, ◌∙◌, sym, arith}
use Rattle.std.proofs.lemmas.List.{append_assoc, length-append, take-append-le}
use Rattle.sat_base.specs.declared.limits.TheConstants.{DEPTH}
use Rattle.sat_base.specs.declared.name.At.{At}
use Rattle.std.specs.Prelude.{Result, Ok, Err}
use Rattle.c_lexer.specs.declared.token.Tokens.{Tokens}
use Rattle.c_tree.specs.declared.program.Item.{Item}
use Rattle.c_tree.specs.declared.program.Program.{Program}
use Rattle.c_tree.specs.Depth.{depth_of}
use Rattle.c_grammar.specs.declared.symbol.Symbol.{Symbol}
use Rattle.c_grammar.specs.declared.symbol.Symbol.TheVariants as symbol
use Rattle.c_grammar.specs.Nodes as a
use Rattle.c_grammar.specs.Parts.{each}
use Rattle.c_grammar.specs.Programs.{SpellsItems, FrontSpells, Through, place_of, stream_of, IsSyntaxFault, IsTooDeep}
use Rattle.c_grammar.specs.Spelling as parts
use Rattle.c_grammar.specs.Spots.{Spot, spots_of, end_of, here}
use Rattle.right_reading.specs.Stream.{ahead, Fault}
use Rattle.c_grammar.proofs.Depths.{program_depth}
use Rattle.c_grammar.proofs.ProgramDepths.{some_of}
use Rattle.c_reader.proofs.Numbers.{length-spots, number-here, only-end, begins-alike, drop-length, take-length}
use Rattle.item_reading.specs.Laws.{items_parts, items_stops}
use Rattle.right_reading.specs.Right.{first_only, Ends, Read, Bad, Refused, Right}

abbrev pub ItemsRight : ℕ → List Spot → Result ((Item × List Item) × List Spot) Fault → Type 0
ItemsRight n i y = Right items_parts n items_stops [] i y

fronts : (x : Item × List Item) (d : ℕ) (more rest t u : List Spot) → more ≡ t → more ++ first_only rest ≡ u → parts.Front (items_parts x) d more ⊎ parts.Front (items_parts x) d (more ++ first_only rest) → FrontSpells d t ⊎ FrontSpells d u
fronts x d more rest t u e f (inl a) = inl (record { item = x.0; items = x.1; front = subst (λ (w : List Spot). parts.Front (items_parts x) d w) e a })
fronts x d more rest t u e f (inr a) = inr (record { item = x.0; items = x.1; front = subst (λ (w : List Spot). parts.Front (items_parts x) d w) f a })

module _ (tokens : Tokens) (n : ℕ) where
  -- the tokens that were gone over are the first of all
  gone_over : (more rest : List Spot) → stream_of tokens ≡ more ++ rest → Ends rest → length more ≤ length tokens.list
  gone_over more [] whole ends = absurd ends
  gone_over more (y ∷ ys) whole ends =
      omega (arith, ap length whole, length-append (spots_of tokens) (end_of tokens ∷ []), length-append more (y ∷ ys), length-spots tokens.text 0 tokens.list)

  dead_items : (f : Fault) (q : Refused items_parts n items_stops [] (stream_of tokens) f) → (program : Program) (spelled : List Spot) (s : SpellsItems program spelled) → Through tokens (length q.more) spelled → Bad f.deep n (depth_of program)
  dead_items f q program spelled s through =
      let some = some_of program.items s.some in
      let e : take (suc (length q.more)) (spelled ++ end_of tokens ∷ []) ≡ take (suc (length q.more)) (q.more ++ q.rest) = through ∙ ap (take (suc (length q.more))) q.whole in
      let b = begins-alike q.more q.rest (spelled ++ end_of tokens ∷ []) q.ends e in
      let sp = subst (λ (items : List Item). parts.Spells (each a.item items) s.depth spelled) some.same s.spelled in
      subst (λ (d : ℕ). Bad f.deep n d) (program_depth program.items s.spelled) (q.dead (some.x, some.xs) s.depth spelled (end_of tokens ∷ []) b.0 sp refl b.1 b.2)

  -- what was gone over is the front of the tokens
  front-of : (more rest : List Spot) → stream_of tokens ≡ more ++ rest → length more ≤ length tokens.list → more ≡ take (length more) (spots_of tokens)
  front-of more rest whole le =
      sym (take-length more rest) ∙ ap (take (length more)) (sym whole) ∙ take-append-le (length more) (spots_of tokens) (end_of tokens ∷ []) (omega (arith, le, length-spots tokens.text 0 tokens.list))

  number-is : (at : At) (more rest : List Spot) → stream_of tokens ≡ more ++ rest → Ends rest → at ≡ here rest → at.tok ≡ length more
  number-is at more rest whole ends place =
      omega (arith, ap (λ (x : At). x.tok) place, number-here tokens.text 0 tokens.list (end_of tokens) more rest (omega arith) whole ends)

  place-is : (at : At) (more rest : List Spot) → stream_of tokens ≡ more ++ rest → at ≡ here rest → at.tok ≡ length more → at.pos ≡ place_of tokens at.tok
  place-is at more rest whole place number =
      ap (λ (x : At). x.pos) place ∙ ap (λ (x : List Spot). (here x).pos) (sym (drop-length more rest)) ∙ ap (λ (x : List Spot). (here (drop (length more) x)).pos) (sym whole)
      ∙ ap (λ (k : ℕ). (here (drop k (stream_of tokens))).pos) (sym number)

  pub syntax_fault : (at : At) → Refused items_parts n items_stops [] (stream_of tokens) (record { deep = false; at = at }) → IsSyntaxFault tokens at.tok at.pos
  syntax_fault at q =
      let number = number-is at q.more q.rest q.whole q.ends q.place in
      let le = gone_over q.more q.rest q.whole q.ends in
      let front = front-of q.more q.rest q.whole le ∙ ap (λ (k : ℕ). take k (spots_of tokens)) (sym number) in
      record {
        within = omega (arith, number, le);
        place = place-is at q.more q.rest q.whole q.place number;
        none = λ program spelled s through. dead_items (record { deep = false; at = at }) q program spelled s (subst (λ (k : ℕ). Through tokens k spelled) number through);
        depth = q.front.1;
        front = record { item = q.front.0.0; items = q.front.0.1; front = subst (λ (w : List Spot). parts.Front (items_parts q.front.0) q.front.1 w) front q.front.2 };
      }

  -- where the token at which reading stops is not the end
  before-end : (more rest : List Spot) → stream_of tokens ≡ more ++ rest → Ends rest → ahead rest ≢ symbol.End → length more < length tokens.list
  before-end more [] whole ends other = absurd ends
  before-end more (y ∷ []) whole (inl e) other = absurd (other e)
  before-end more (y ∷ []) whole (inr e) other = absurd e
  before-end more (y ∷ (z ∷ zs)) whole ends other =
      omega (arith, ap length whole, length-append (spots_of tokens) (end_of tokens ∷ []), length-append more (y ∷ (z ∷ zs)), length-spots tokens.text 0 tokens.list)

  one-more : (more rest : List Spot) → stream_of tokens ≡ more ++ rest → Ends rest → length more < length tokens.list → more ++ first_only rest ≡ take (suc (length more)) (spots_of tokens)
  one-more more [] whole ends lt = absurd ends
  one-more more (y ∷ ys) whole ends lt =
      let w : stream_of tokens ≡ (more ++ (y ∷ [])) ++ ys = whole ∙ sym (append_assoc more (y ∷ []) ys) in
      let le : length (more ++ (y ∷ [])) ≤ length tokens.list = omega (arith, length-append more (y ∷ []), lt) in
      let count : length (more ++ (y ∷ [])) ≡ suc (length more) = omega (arith, length-append more (y ∷ [])) in
      front-of (more ++ (y ∷ [])) ys w le ∙ ap (λ (k : ℕ). take k (spots_of tokens)) count

  pub too_deep : (at : At) → Refused items_parts n items_stops [] (stream_of tokens) (record { deep = true; at = at }) → n ≡ DEPTH → IsTooDeep tokens at.tok at.pos
  too_deep at q limit =
      let number = number-is at q.more q.rest q.whole q.ends q.place in
      let lt = before-end q.more q.rest q.whole q.ends q.front.4 in
      let front = front-of q.more q.rest q.whole (omega (arith, lt)) ∙ ap (λ (k : ℕ). take k (spots_of tokens)) (sym number) in
      let more = one-more q.more q.rest q.whole q.ends lt ∙ ap (λ (k : ℕ). take (suc k) (spots_of tokens)) (sym number) in
      record {
        within = omega (arith, number, lt);
        place = place-is at q.more q.rest q.whole q.place number;
        deeper = λ program spelled s through. subst (λ (k : ℕ). k < depth_of program) limit (dead_items (record { deep = true; at = at }) q program spelled s (subst (λ (k : ℕ). Through tokens k spelled) number through));
        depth = q.front.1;
        deep = omega (arith, q.front.3, limit);
        front = fronts (q.front.0) (q.front.1) q.more q.rest (take at.tok (spots_of tokens)) (take (suc at.tok) (spots_of tokens)) front more q.front.2;
      }

  pub all_read : (x : Item × List Item) (j : List Spot) → (q : Read items_parts n items_stops [] (stream_of tokens) x j) → ahead j ≡ symbol.End → parts.Spells (each a.item (x.0 ∷ x.1)) q.depth (spots_of tokens)
  all_read x j q is =
      let o = only-end tokens.text 0 tokens.list (end_of tokens) q.more j q.whole is q.ends in
      subst (λ (w : List Spot). parts.Spells (items_parts x) q.depth w) o.0 q.spelled

-- ---- at most one tree

pub same_items : (n : ℕ) (w : List Spot) (e : Spot) (y : Result ((Item × List Item) × List Spot) Fault) → Right items_parts n items_stops [] (w ++ e ∷ []) y → e.symbol ≡ symbol.End
    → (p q : Item × List Item) (c d : ℕ) → parts.Spells (items_parts p) c w → parts.Spells (items_parts q) d w → c ≤ n → d ≤ n → p ≡ q
same_items n w e (Ok z) r is p q c d sp sq lc ld =
    let stops : items_stops p e.symbol ≡ true = subst (λ (s : Symbol). items_stops p s ≡ true) (sym is) refl in
    let stops2 : items_stops q e.symbol ≡ true = subst (λ (s : Symbol). items_stops q s ≡ true) (sym is) refl in
    let a1 = r.only p c w (e ∷ []) z.1 sp stops r.whole refl in
    let a2 = r.only q d w (e ∷ []) z.1 sq stops2 r.whole refl in
    a1.0 ∙ sym a2.0
same_items n w e (Err f) r is p q c d sp sq lc ld =
    let stops : items_stops p e.symbol ≡ true = subst (λ (s : Symbol). items_stops p s ≡ true) (sym is) refl in
    absurd (no_bad f.deep n c lc (r.dead p c w (e ∷ []) r.rest sp stops r.whole refl))
  where
    no_bad : (deep : Bool) (n c : ℕ) → c ≤ n → Bad deep n c → ⊥
    no_bad false n c le bad = bad
    no_bad true n c le bad = omega arith
