-- What may follow expressions and places.
use Rattle.std.proofs.Common.{◌≡◌, ℕ, suc, Bool, true, false, Option, Some, None, refl, ap, ◌∙◌, sym, arith}
use Rattle.std.specs.Prelude.{◌&&◌, ◌==◌, nat_lt, if◌then◌else◌}
use Rattle.std.proofs.lemmas.Bool.{eqb-true}
use Rattle.std.proofs.lemmas.Bool.Decides.{nat_tests}
use Rattle.c_tree.specs.declared.expression.BinaryMark.{BinaryMark}
use Rattle.c_tree.specs.declared.expression.BinaryMark.TheVariants as mark
use Rattle.c_grammar.specs.declared.symbol.Symbol.{Symbol}
use Rattle.c_grammar.specs.declared.symbol.Symbol.TheVariants as symbol
use Rattle.c_grammar.specs.Marks.{binary_symbol, rank_of}
use Rattle.right_reading.specs.ReadExpressions.{ranked}
use Rattle.c_grammar.specs.Symbols.{binary_mark}
use Rattle.right_reading.specs.Stops.{ends_place, ends_operand, loose, ends_chain, ends_expression}
use Rattle.c_grammar.proofs.SymbolSets.{among}

pub mark-of-symbol : (m : BinaryMark) → binary_mark (binary_symbol m) ≡ Some m
mark-of-symbol mark.Either = refl
mark-of-symbol _ = refl

ranked-own : (m : BinaryMark) → ranked (rank_of m) (Some m) ≡ Some m
ranked-own mark.Either = refl
ranked-own _ = refl

pub ranked-same : (k : ℕ) (m : BinaryMark) (s : Symbol) → s ≡ binary_symbol m → rank_of m ≡ k → ranked k (binary_mark s) ≡ Some m
ranked-same k m s e r =
    ap (λ (t : Symbol). ranked k (binary_mark t)) e ∙ ap (ranked k) (mark-of-symbol m) ∙ ap (λ (n : ℕ). ranked n (Some m)) (sym r) ∙ ranked-own m

-- a symbol that is a mark of this rank
pub ranked-is : (k : ℕ) (s : Symbol) (m : BinaryMark) → ranked k (binary_mark s) ≡ Some m → (s ≡ binary_symbol m) × (rank_of m ≡ k)
ranked-is k s m e = step (binary_mark s) refl e
  where
    symbol-of-mark : (s : Symbol) (m : BinaryMark) → binary_mark s ≡ Some m → s ≡ binary_symbol m
    symbol-of-mark symbol.OrOr m e = let g : mark.Either ≡ m = cc in ap binary_symbol g
    symbol-of-mark symbol.AndAnd m e = let g : mark.Both ≡ m = cc in ap binary_symbol g
    symbol-of-mark symbol.Or m e = let g : mark.BitOr ≡ m = cc in ap binary_symbol g
    symbol-of-mark symbol.Xor m e = let g : mark.BitXor ≡ m = cc in ap binary_symbol g
    symbol-of-mark symbol.And m e = let g : mark.BitAnd ≡ m = cc in ap binary_symbol g
    symbol-of-mark symbol.EqualEqual m e = let g : mark.Eq ≡ m = cc in ap binary_symbol g
    symbol-of-mark symbol.NotEqual m e = let g : mark.Ne ≡ m = cc in ap binary_symbol g
    symbol-of-mark symbol.Less m e = let g : mark.Lt ≡ m = cc in ap binary_symbol g
    symbol-of-mark symbol.LessEqual m e = let g : mark.Le ≡ m = cc in ap binary_symbol g
    symbol-of-mark symbol.Greater m e = let g : mark.Gt ≡ m = cc in ap binary_symbol g
    symbol-of-mark symbol.GreaterEqual m e = let g : mark.Ge ≡ m = cc in ap binary_symbol g
    symbol-of-mark symbol.Plus m e = let g : mark.Plus ≡ m = cc in ap binary_symbol g
    symbol-of-mark symbol.Minus m e = let g : mark.Minus ≡ m = cc in ap binary_symbol g
    symbol-of-mark symbol.Star m e = let g : mark.Times ≡ m = cc in ap binary_symbol g
    symbol-of-mark _ m e = cc

    test : (b : Bool) (m' : BinaryMark) → (rank_of m' == k) ≡ b → (if b then Some m' else None) ≡ Some m → binary_mark s ≡ Some m' → (s ≡ binary_symbol m) × (rank_of m ≡ k)
    test true m' r f g = let same : m' ≡ m = cc in (symbol-of-mark s m (g ∙ ap (λ (x : BinaryMark). Some x) same), ap rank_of (sym same) ∙ eqb-true (rank_of m') k r)
    test false m' r f g = cc

    step : (o : Option BinaryMark) → binary_mark s ≡ o → ranked k o ≡ Some m → (s ≡ binary_symbol m) × (rank_of m ≡ k)
    step None f g = cc
    step (Some m') f g = test (rank_of m' == k) m' refl g f

-- a mark of rank k does not stop a chain of that rank
pub loose-not : (k : ℕ) (m : BinaryMark) (s : Symbol) → s ≡ binary_symbol m → rank_of m ≡ k → ends_chain k s ≡ true → ⊥
loose-not k m s e r h =
    let same : ends_chain k s ≡ (ends_operand s && nat_lt k k) = ap (λ (o : Option BinaryMark). ends_operand s && loose k o) (ap binary_mark e ∙ mark-of-symbol m) ∙ ap (λ (n : ℕ). ends_operand s && nat_lt k n) r in
    no (ends_operand s) k (sym same ∙ h)
  where
    no : (b : Bool) (k : ℕ) → (b && nat_lt k k) ≡ true → ⊥
    no true k e = grind (arith, nat_tests)
    no false k e = cc

-- but one of rank k - 1
pub loose-lower : (k : ℕ) (m : BinaryMark) (s : Symbol) → s ≡ binary_symbol m → rank_of m ≡ suc k → ends_chain k s ≡ true
loose-lower k m s e r =
    ap (λ (o : Option BinaryMark). ends_operand s && loose k o) (ap binary_mark e ∙ mark-of-symbol m) ∙ ap (λ (n : ℕ). ends_operand s && nat_lt k n) r
    ∙ ap (λ (t : Symbol). ends_operand t && nat_lt k (suc k)) e ∙ ap (λ (b : Bool). b && nat_lt k (suc k)) (marks-end m) ∙ yes k
  where
    marks-end : (m : BinaryMark) → ends_operand (binary_symbol m) ≡ true
    marks-end mark.Either = refl
    marks-end _ = refl

    yes : (k : ℕ) → (true && nat_lt k (suc k)) ≡ true
    yes k = grind (arith, nat_tests)

-- what stops a chain of a rank stops one of a lower rank
pub looser : (k : ℕ) (s : Symbol) → ends_chain (suc k) s ≡ true → ends_chain k s ≡ true
looser k s = test (ends_operand s) (binary_mark s)
  where
    test : (b : Bool) (o : Option BinaryMark) → (b && loose (suc k) o) ≡ true → (b && loose k o) ≡ true
    test false o e = e
    test true None e = e
    test true (Some m) e = grind (arith, nat_tests)

-- and an operand
pub chain-operand : (k : ℕ) (s : Symbol) → ends_chain k s ≡ true → ends_operand s ≡ true
chain-operand k s = test (ends_operand s) (loose k (binary_mark s))
  where
    test : (b c : Bool) → (b && c) ≡ true → b ≡ true
    test true c e = refl
    test false c e = e

-- what ends an expression is no mark and no `?`
pub expression-chain : (k : ℕ) (s : Symbol) → ends_expression s ≡ true → ends_chain k s ≡ true
expression-chain k symbol.Question e = cc
expression-chain k symbol.OpenParen e = cc
expression-chain k symbol.OpenBracket e = cc
expression-chain k symbol.End e = cc
expression-chain k symbol.OrOr e = cc
expression-chain k symbol.AndAnd e = cc
expression-chain k symbol.Or e = cc
expression-chain k symbol.Xor e = cc
expression-chain k symbol.And e = cc
expression-chain k symbol.EqualEqual e = cc
expression-chain k symbol.NotEqual e = cc
expression-chain k symbol.Less e = cc
expression-chain k symbol.LessEqual e = cc
expression-chain k symbol.Greater e = cc
expression-chain k symbol.GreaterEqual e = cc
expression-chain k symbol.Plus e = cc
expression-chain k symbol.Minus e = cc
expression-chain k symbol.Star e = cc
expression-chain k _ e = refl

pub operand-place : (s : Symbol) → ends_operand s ≡ true → ends_place s ≡ true
operand-place = among ends_operand ends_place refl
