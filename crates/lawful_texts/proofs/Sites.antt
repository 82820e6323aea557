-- No two sites of a source that is spelled have one token, and each is at one of the tokens.
use Rattle.std.proofs.Common.{◌≡◌, ℕ, zero, suc, ◌+◌, ◌<◌, ◌≤◌, List, [], ◌∷◌, length, inl, inr, refl, ap, ◌∙◌, arith}
use Rattle.std.specs.Prelude.{◌==◌, false, nat_lt, slice_index_or}
use Rattle.std.specs.List.{sum_by}
use Rattle.std.proofs.lemmas.Bool.{cases_Bool}
use Rattle.std.proofs.lemmas.Bool.Decides.{nat_tests}
use Rattle.std.proofs.lemmas.List.Sums.{sum_by-cons}
use Rattle.std.proofs.lemmas.List.Sorted.{sum_by-IsPermutation}
use Rattle.c_lexer.specs.declared.token.Token.{Token}
use Rattle.c_lexer.specs.declared.token.Tokens.{Tokens}
use Rattle.c_tree.specs.declared.program.Program.{Program}
use Rattle.c_typed.specs.declared.typed.Typed.{Typed}
use Rattle.c_grammar.specs.Nodes as a
use Rattle.c_grammar.specs.Parts.{Any, Kept, Called, Valued, Is, each}
use Rattle.c_grammar.specs.Parts as parts
use Rattle.c_grammar.specs.Programs.{Spells}
use Rattle.c_grammar.specs.Spots.{Spot, spots_from, spots_of}
use Rattle.operator_meaning.specs.declared.object.Site.{Site}
use Rattle.tied_names.specs.declared.note.Note.{Note}
use Rattle.tied_names.specs.declared.note.Note.TheVariants as note
use Rattle.tied_names.specs.Numbers.{sites_in}
use Rattle.c_types.specs.Sources.{opening}
use Rattle.c_types.specs.Tied.{IsTied, notes_of}
use Rattle.lawful_texts.specs.Laws.{SitesHaveOwnTokens}
use Rattle.lawful_texts.proofs.Noted.{one_at, noted, own, Claim, by_rule, items-noted}
use Rattle.lawful_texts.proofs.Walk.{total, Within, walked}

pub one-itself : (tok other : ℕ) → other ≡ tok → one_at tok other ≡ 1
unfolding one_at
one-itself tok other is = grind (arith, nat_tests)

pub one-apart : (tok other : ℕ) → tok < other → one_at tok other ≡ 0
unfolding one_at
one-apart tok other less = grind (arith, nat_tests)

pub one-before : (tok other : ℕ) → other < tok → one_at tok other ≡ 0
unfolding one_at
one-before tok other less = grind (arith, nat_tests)

one-other : (tok other : ℕ) → (other == tok) ≡ false → one_at tok other ≡ 0
unfolding one_at
one-other tok other is = rw is refl

one-most : (tok other : ℕ) → one_at tok other ≤ 1
unfolding one_at
one-most tok other = grind (arith, nat_tests)

-- ---- the tokens

abbrev pub count_at : ℕ → Spot → ℕ
count_at tok x = one_at tok x.at.tok

pub room-is : (tok : ℕ) (t : parts.Token) (x : Spot) → Is t x → own tok t ≤ count_at tok x
room-is tok (Any s) x is = omega arith
room-is tok (Kept s at) x is = rw is.1 (omega arith)
room-is tok (Called name) x is = rw is.1 (omega arith)
room-is tok (Valued at value) x is = rw is.1 (omega arith)

none-later : (tok : ℕ) (text : List ℕ) (n : ℕ) (list : List Token) → tok < n → total (count_at tok) (spots_from text n list) ≡ 0
none-later tok text n [] less = omega arith
none-later tok text n (t ∷ list) less = omega (arith, one-apart tok n less, none-later tok text (suc n) list (omega arith))

none-beyond : (tok : ℕ) (text : List ℕ) (n : ℕ) (list : List Token) → n + length list ≤ tok → total (count_at tok) (spots_from text n list) ≡ 0
none-beyond tok text n [] least = omega arith
none-beyond tok text n (t ∷ list) least = omega (arith, one-before tok n (omega arith), none-beyond tok text (suc n) list (omega arith))

-- each token stands once
stands-once : (tok : ℕ) (text : List ℕ) (n : ℕ) (list : List Token) → total (count_at tok) (spots_from text n list) ≤ 1
stands-once tok text n [] = omega arith
stands-once tok text n (t ∷ list) =
    elim (cases_Bool (n == tok)) [
      | inl same ↦ let is : n ≡ tok = grind (arith, nat_tests) in omega (arith, one-most tok n, none-later tok text (suc n) list (omega arith))
      | inr other ↦ omega (arith, one-other tok n other, stands-once tok text (suc n) list)
    ]

-- ---- the sites

abbrev count_site : ℕ → Site → ℕ
count_site tok site = one_at tok site.tok

sites-noted : (tok : ℕ) (notes : List Note) → sum_by (count_site tok) (sites_in notes) ≡ noted tok notes
sites-noted tok [] = refl
sites-noted tok (note.Site site ∷ notes) = sum_by-cons (count_site tok) site (sites_in notes) ∙ ap (λ (n : ℕ). one_at tok site.tok + n) (sites-noted tok notes)
sites-noted tok (note.Exposed number ∷ notes) = omega (arith, sites-noted tok notes)

one-there : (tok : ℕ) (sites : List Site) (j : ℕ) (d : Site) → j < length sites → (slice_index_or sites j d).tok ≡ tok → 1 ≤ sum_by (count_site tok) sites
one-there tok [] j d less is = absurd (omega arith)
one-there tok (s ∷ sites) zero d less is = omega (arith, sum_by-cons (count_site tok) s sites, one-itself tok s.tok is)
one-there tok (s ∷ sites) (suc j) d less is = omega (arith, sum_by-cons (count_site tok) s sites, one-there tok sites j d (omega arith) is)

two-there : (tok : ℕ) (sites : List Site) (i j : ℕ) (d : Site) → i < j → j < length sites → (slice_index_or sites i d).tok ≡ tok → (slice_index_or sites j d).tok ≡ tok → 2 ≤ sum_by (count_site tok) sites
two-there tok [] i j d less within is that = absurd (omega arith)
two-there tok (s ∷ sites) i zero d less within is that = absurd (omega arith)
two-there tok (s ∷ sites) zero (suc j) d less within is that = omega (arith, sum_by-cons (count_site tok) s sites, one-itself tok s.tok is, one-there tok sites j d (omega arith) that)
two-there tok (s ∷ sites) (suc i) (suc j) d less within is that = omega (arith, sum_by-cons (count_site tok) s sites, two-there tok sites i j d (omega arith) (omega arith) is that)

-- ---- the whole source

-- at one token there are no more sites than the token stands in the text
no-more : (tok : ℕ) (program : Program) (tokens : Tokens) (typed : Typed) → Spells program tokens → IsTied program typed → sum_by (count_site tok) typed.sites ≤ total (count_at tok) (spots_of tokens)
no-more tok program tokens typed spells tied =
    let all : Within (Claim tok) (own tok) (each a.item program.items) (total (count_at tok) (spots_of tokens)) =
    walked (Claim tok) (own tok) (count_at tok) (room-is tok) (λ n early late i j r p q. by_rule tok r p q) spells.items.spelled in
    omega (
      arith,
      sum_by-IsPermutation (count_site tok) (sites_in (notes_of program)) typed.sites tied.sites,
      sites-noted tok (notes_of program),
      items-noted tok program.items all.all (opening program.items [] []) 0,
      all.within,
    )

pub own-tokens : SitesHaveOwnTokens
own-tokens program tokens typed spells tied i j d less within same =
    let tok : ℕ = (slice_index_or typed.sites j d).tok in
    omega (arith, two-there tok typed.sites i j d less within same refl, no-more tok program tokens typed spells tied, stands-once tok tokens.text 0 tokens.list)

-- each site is at one of the tokens
pub at-a-token : (program : Program) (tokens : Tokens) (typed : Typed) → Spells program tokens → IsTied program typed → (j : ℕ) (d : Site) → j < length typed.sites → (slice_index_or typed.sites j d).tok < length tokens.list
at-a-token program tokens typed spells tied j d within =
    let tok : ℕ = (slice_index_or typed.sites j d).tok in
    elim (cases_Bool (nat_lt tok (length tokens.list))) [
      | inl before ↦ grind (arith, nat_tests)
      | inr beyond ↦
          let least : 0 + length tokens.list ≤ tok = grind (arith, nat_tests) in
          absurd (omega (arith, one-there tok typed.sites j d within refl, no-more tok program tokens typed spells tied, none-beyond tok tokens.text 0 tokens.list least))
    ]
