-- The numbers of tokens, and lists that begin alike.
use Rattle.std.proofs.Common.{◌≡◌, ◌≢◌, ℕ, suc, ◌+◌, List, [], ◌∷◌, ◌++◌, length, take, drop, Some, refl, ap, ◌∙◌, sym, arith, inl, inr, Bool, true, false}
use Rattle.std.specs.Prelude.{not, ◌&&◌, if◌then◌else◌}
use Rattle.std.specs.Str.{bytes_eq}
use Rattle.std.proofs.lemmas.List.{length-append}
use Rattle.c_lexer.specs.declared.token.Token.{Token}
use Rattle.c_lexer.specs.declared.token.TokenKind.{TokenKind}
use Rattle.c_lexer.specs.declared.token.TokenKind.TheVariants as kind
use Rattle.c_grammar.specs.declared.symbol.Symbol.{Symbol}
use Rattle.c_grammar.specs.declared.symbol.Symbol.TheVariants as symbol
use Rattle.c_grammar.specs.Spots.{Spot, bytes_of, spot_of, spots_from, symbol_of, symbol_written, words, marks, here}
use Rattle.right_reading.specs.Stream.{ahead}
use Rattle.c_grammar.specs.Symbols.{same_symbol}
use Rattle.right_reading.specs.Right.{first, Ends}
use Rattle.c_grammar.proofs.SymbolNumbers.{other-is}

pub length-spots : (text : List ℕ) (tok : ℕ) (tokens : List Token) → length (spots_from text tok tokens) ≡ length tokens
length-spots text tok [] = refl
length-spots text tok (t ∷ ts) = ap suc (length-spots text (suc tok) ts)

-- a token has its number, and so has the end
pub number-here : (text : List ℕ) (tok : ℕ) (tokens : List Token) (e : Spot) (more rest : List Spot) → e.at.tok ≡ tok + length tokens → spots_from text tok tokens ++ e ∷ [] ≡ more ++ rest → Ends rest
    → (here rest).tok ≡ tok + length more
number-here text tok tokens e more [] number whole ends = absurd ends
number-here text tok [] e [] (y ∷ ys) number whole ends = let s : e ≡ y = cc in ap (λ (z : Spot). z.at.tok) (sym s) ∙ number
number-here text tok (t ∷ ts) e [] (y ∷ ys) number whole ends = let s : spot_of text tok t ≡ y = cc in omega (arith, ap (λ (z : Spot). z.at.tok) s)
number-here text tok [] e (x ∷ xs) (y ∷ ys) number whole ends = let s : [] ≡ xs ++ (y ∷ ys) = cc in absurd (omega (arith, ap length s, length-append xs (y ∷ ys)))
number-here text tok (t ∷ ts) e (x ∷ xs) (y ∷ ys) number whole ends =
    let s : spots_from text (suc tok) ts ++ e ∷ [] ≡ xs ++ (y ∷ ys) = cc in
    omega (arith, number-here text (suc tok) ts e xs (y ∷ ys) (omega (arith, number)) s ends)

-- ---- no token is the end

abbrev without_end : List (List ℕ × Symbol) → Bool
without_end [] = true
without_end (x ∷ xs) = not (same_symbol x.1 symbol.End) && without_end xs

written-no-end : (table : List (List ℕ × Symbol)) (bytes : List ℕ) → without_end table ≡ true → symbol_written table bytes ≢ symbol.End
written-no-end [] bytes none e = cc
written-no-end (x ∷ xs) bytes none e = test (written-no-end xs bytes) (bytes_eq x.0 bytes) (same_symbol x.1 symbol.End) refl none e
  where
    test : (without_end xs ≡ true → symbol_written xs bytes ≡ symbol.End → ⊥) → (b c : Bool) → same_symbol x.1 symbol.End ≡ c → (not c && without_end xs) ≡ true → (if b then x.1 else symbol_written xs bytes) ≡ symbol.End → ⊥
    test again true true same h f = cc
    test again true false same h f = other-is x.1 symbol.End same f
    test again false true same h f = cc
    test again false false same h f = again h f

symbol-no-end : (k : TokenKind) (bytes : List ℕ) → symbol_of k bytes ≢ symbol.End
symbol-no-end kind.Name bytes e = cc
symbol-no-end (kind.Int value) bytes e = cc
symbol-no-end kind.Word bytes e = written-no-end words bytes refl e
symbol-no-end kind.Mark bytes e = written-no-end marks bytes refl e

-- what is left at the end of all tokens is what stands for it
pub only-end : (text : List ℕ) (tok : ℕ) (tokens : List Token) (e : Spot) (more j : List Spot) → spots_from text tok tokens ++ e ∷ [] ≡ more ++ j → ahead j ≡ symbol.End → Ends j → (more ≡ spots_from text tok tokens) × (j ≡ e ∷ [])
only-end text tok tokens e more [] whole is ends = absurd ends
only-end text tok [] e [] (y ∷ ys) whole is ends = (refl, sym whole)
only-end text tok (t ∷ ts) e [] (y ∷ ys) whole is ends =
    let s : spot_of text tok t ≡ y = cc in
    absurd (symbol-no-end t.kind (bytes_of text t) (ap (λ (z : Spot). z.symbol) s ∙ is))
only-end text tok [] e (x ∷ xs) (y ∷ ys) whole is ends = let s : [] ≡ xs ++ (y ∷ ys) = cc in absurd (omega (arith, ap length s, length-append xs (y ∷ ys)))
only-end text tok (t ∷ ts) e (x ∷ xs) (y ∷ ys) whole is ends =
    let s : spots_from text (suc tok) ts ++ e ∷ [] ≡ xs ++ (y ∷ ys) = cc in
    let h : spot_of text tok t ≡ x = cc in
    let o = only-end text (suc tok) ts e xs (y ∷ ys) s is ends in
    (ap (λ (z : Spot). z ∷ xs) (sym h) ∙ ap (λ (z : List Spot). spot_of text tok t ∷ z) o.0, o.1)

pub ends-last : (xs : List Spot) (e : Spot) → e.symbol ≡ symbol.End → Ends (xs ++ e ∷ [])
ends-last [] e is = inl is
ends-last (x ∷ xs) e is = inr (ends-last xs e is)

-- ---- lists that begin alike

pub drop-length : {A : Type 0} (xs ys : List A) → drop (length xs) (xs ++ ys) ≡ ys
drop-length [] ys = refl
drop-length (x ∷ xs) ys = drop-length xs ys

pub take-length : {A : Type 0} (xs ys : List A) → take (length xs) (xs ++ ys) ≡ xs
take-length [] ys = refl
take-length (x ∷ xs) ys = ap (λ (r : List _). x ∷ r) (take-length xs ys)

-- what begins as xs and the first of ys do
pub begins-alike : (more rest w : List Spot) → Ends rest → take (suc (length more)) w ≡ take (suc (length more)) (more ++ rest) → (r : List Spot) × (w ≡ more ++ r) × (first r ≡ first rest)
begins-alike [] [] w ends e = absurd ends
begins-alike [] (y ∷ ys) [] ends e = cc
begins-alike [] (y ∷ ys) (x ∷ xs) ends e = let s : x ≡ y = cc in (x ∷ xs, refl, ap (λ (z : Spot). Some z) s)
begins-alike (m ∷ ms) rest [] ends e = cc
begins-alike (m ∷ ms) rest (x ∷ xs) ends e =
    let s : x ≡ m = cc in
    let t : take (suc (length ms)) xs ≡ take (suc (length ms)) (ms ++ rest) = cc in
    let b = begins-alike ms rest xs ends t in
    (b.0, ap (λ (z : Spot). z ∷ xs) s ∙ ap (λ (z : List Spot). m ∷ z) b.1, b.2)
