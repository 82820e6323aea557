-- Each number among the tokens of a text has 32 bits: one that is written, by the limits of numerals, and one that is
-- named, since each value that a directive defines has.
use Rattle.std.proofs.Common.{◌≡◌, ℕ, ◌≤◌, List, [], ◌∷◌, Bool, true, false, refl, ◌∙◌, subst, arith}
use Rattle.std.specs.Prelude.{ℤ, pos, if◌then◌else◌, Option, Some, None, IfSome, is_some, option_and_then, option_map}
use Rattle.std.specs.List.{list_all}
use Rattle.std.specs.Option.{option_map_or}
use Rattle.std.specs.Str.{bytes_eq}
use Rattle.std.proofs.lemmas.Bool.Decides.{nat_tests}
use Rattle.std.proofs.lemmas.Int.{ints}
use Rattle.std.proofs.lemmas.List.Folds.{list_all-append}
use Rattle.sat_base.specs.declared.width.Width.TheVariants.{W32}
use Rattle.c_lexer.specs.declared.token.Token.{Token}
use Rattle.c_lexer.specs.declared.token.TokenKind.{TokenKind}
use Rattle.c_lexer.specs.declared.token.TokenKind.TheVariants as kind
use Rattle.c_lexer.specs.Definition.{IsDefinition, Alone, Negative, Bracketed}
use Rattle.c_lexer.specs.Expression.{Part, operand_by, within}
use Rattle.c_lexer.specs.Names.{is_reserved, value_named, with_definition, predefined}
use Rattle.c_lexer.specs.Number.{numeral, signed_pattern, is_octal, is_hexadecimal, octal_or_decimal, digits_number, without_suffix, number_value}
use Rattle.c_lexer.specs.Obeyed.{IsObeyed, Include, Define}
use Rattle.c_lexer.specs.Sum.{Fits, IsSum, Product, Plus, Minus, IsProduct, Unary, Times, IsUnary, Operand, Opposite, Brackets}
use Rattle.c_lexer.specs.Text.{Piece, word_kind, token_kind, pieces_of, AreTokens, Nothing, Blank, Directive, Taken}
use Rattle.c_lexer.proofs.SumSteps.{of_within}
use Rattle.c_grammar.specs.Spots.{value_of}
use Rattle.lawful_sources.specs.Objects.{fits_width}
use Rattle.lawful_laws.proofs.Functions.{both, left, right}
use Rattle.lawful_typed.specs.Laws.{NumbersOfTextsFit}
use Rattle.lawful_typed.specs.Numbers.{token_fits}

-- has 32 bits
abbrev Narrow : ℤ → Type 0
Narrow value = fits_width W32 value ≡ true

abbrev AtMost : ℕ → ℕ → Type 0
AtMost most n = n ≤ most

either : {A : Type 0} (P : A → Type 0) (test : Bool) {one other : A} → P one → P other → P (if test then one else other)
either P true p q = p
either P false p q = q

mapped : {A B : Type 0} (P : A → Type 0) (Q : B → Type 0) (f : A → B) → ((x : A) → P x → Q (f x)) → (o : Option A) → IfSome o P → IfSome (option_map f o) Q
mapped P Q f each None p = tt
mapped P Q f each (Some x) p = each x p

-- ---- numbers that are written

tested : (test : Bool) (n most : ℕ) → (test ≡ true → n ≤ most) → IfSome (if test then Some n else None) (AtMost most)
tested true n most p = p refl
tested false n most p = tt

numeral-most : (radix most : ℕ) (digits : List ℕ) → IfSome (numeral radix most digits) (AtMost most)
unfolding numeral
numeral-most radix most digits = tested _ _ most (λ p. grind (arith, nat_tests))

octal-most : (digits : List ℕ) → IfSome (octal_or_decimal digits) (AtMost 2147483647)
unfolding octal_or_decimal
octal-most digits = either (λ (o : Option ℕ). IfSome o (AtMost 2147483647)) (is_octal digits) (numeral-most 8 2147483647 _) (numeral-most 10 2147483647 digits)

number-narrow : (n : ℕ) → n ≤ 2147483647 → Narrow (pos n)
number-narrow n p = grind (arith, nat_tests, ints)

pattern-narrow : (n : ℕ) → n ≤ 0xFFFFFFFF → Narrow (signed_pattern n)
pattern-narrow n p = grind (arith, nat_tests, ints)

digits-narrow : (digits : List ℕ) → IfSome (digits_number digits) Narrow
unfolding digits_number
digits-narrow digits =
    either (λ (o : Option ℤ). IfSome o Narrow) (is_hexadecimal digits)
    (mapped (AtMost 0xFFFFFFFF) Narrow signed_pattern pattern-narrow _ (numeral-most 16 0xFFFFFFFF _))
    (mapped (AtMost 2147483647) Narrow pos number-narrow _ (octal-most digits))

-- ---- what directives define

value-narrow : (value : ℤ) → Fits value → Narrow value
value-narrow value p = grind (arith, nat_tests, ints)

kept-within : (o : Option ℤ) (value : ℤ) → option_and_then within o ≡ Some value → Fits value
kept-within None value p = cc
kept-within (Some other) value p = (of_within other value p).1

mutual
  sum-fits : {names : List (List ℕ × ℤ)} {ps : List Part} {v : ℤ} → IsSum names ps v → Fits v
  sum-fits (Product product) = product-fits product
  sum-fits (Plus sum mark is product fits) = fits
  sum-fits (Minus sum mark is product fits) = fits

  product-fits : {names : List (List ℕ × ℤ)} {ps : List Part} {v : ℤ} → IsProduct names ps v → Fits v
  product-fits (Unary unary) = unary-fits unary
  product-fits (Times product mark is unary fits) = fits

  unary-fits : {names : List (List ℕ × ℤ)} {ps : List Part} {v : ℤ} → IsUnary names ps v → Fits v
  unary-fits {names} {ps} {v} (Operand part opens signs valued) = kept-within (operand_by names part.bytes part.kind) v valued
  unary-fits (Opposite mark is unary fits) = fits
  unary-fits (Brackets opening opens sum closing closes) = sum-fits sum

definition-fits : (names : List (List ℕ × ℤ)) (ps : List Part) (v : ℤ) → IsDefinition names ps v → Fits v
definition-fits names ps v (Alone part valued) = kept-within (operand_by names part.bytes part.kind) v valued
definition-fits names ps v (Negative mark number is kind valued fits) = fits
definition-fits names ps v (Bracketed opening opens sum closing closes) = sum-fits sum

-- ---- numbers that are named

abbrev names_fit : List (List ℕ × ℤ) → Bool
names_fit names = list_all (λ (d : List ℕ × ℤ). fits_width W32 d.1) names

abbrev NamesFit : List (List ℕ × ℤ) → Type 0
NamesFit names = names_fit names ≡ true

named-narrow : (names : List (List ℕ × ℤ)) (name : List ℕ) → NamesFit names → IfSome (value_named names name) Narrow
named-narrow [] name p = tt
named-narrow (d ∷ names) name p =
    either (λ (o : Option ℤ). IfSome o Narrow) (bytes_eq name d.0) {one = Some d.1} (left (fits_width W32 d.1) _ p) (named-narrow names name (right (fits_width W32 d.1) _ p))

one-more : (names : List (List ℕ × ℤ)) (name : List ℕ) (v : ℤ) → NamesFit names → Narrow v → NamesFit (with_definition names name v)
unfolding with_definition
one-more names name v p q =
    either NamesFit (is_some (value_named names name)) p (list_all-append _ names ((name, v) ∷ []) ∙ both (names_fit names) _ p (both (fits_width W32 v) true q refl))

obeyed-fit : (names : List (List ℕ × ℤ)) (parts : List Part) (after : List (List ℕ × ℤ)) → IsObeyed names parts after → NamesFit names → NamesFit after
obeyed-fit names parts after (Include word rest is) p = p
obeyed-fit names parts after (Define {v = v} word name first rest is named spaced spelled may) p =
    one-more names name.bytes v p (value-narrow v (definition-fits names (first ∷ rest) v spelled))

-- ---- the tokens

abbrev NarrowKind : TokenKind → Type 0
NarrowKind k = Narrow (value_of k)

named-kind : (o : Option ℤ) → IfSome o Narrow → NarrowKind (option_map_or (λ (v : ℤ). kind.Int v) o kind.Name)
named-kind None p = refl
named-kind (Some v) p = p

token-narrow : (names : List (List ℕ × ℤ)) (piece : Piece) → NamesFit names → IfSome (token_kind names piece.bytes piece.kind) NarrowKind
token-narrow names piece p =
    let word : NarrowKind (word_kind names piece.bytes) = either NarrowKind (is_reserved piece.bytes) {one = kind.Word} refl (named-kind (value_named names piece.bytes) (named-narrow names piece.bytes p)) in
    let number : IfSome (option_map kind.Int (number_value piece.bytes)) NarrowKind = mapped Narrow NarrowKind kind.Int (λ v q. q) _ (digits-narrow (without_suffix piece.bytes)) in
    grind (arith, word, number)

tokens-fit : (names : List (List ℕ × ℤ)) (pieces : List Piece) (tokens : List Token) → AreTokens names pieces tokens → NamesFit names → list_all token_fits tokens ≡ true
tokens-fit names pieces tokens Nothing p = refl
tokens-fit names pieces tokens (Blank {ps = ps} is rest) p = tokens-fit names ps tokens rest p
tokens-fit names pieces tokens (Directive {after = after} {p = piece} {ps = ps} is obeyed rest) p = tokens-fit after ps tokens rest (obeyed-fit names piece.parts after obeyed p)
tokens-fit names pieces tokens (Taken {p = piece} {ps = ps} {ts = ts} is rest) p =
    both _ _ (subst (λ (o : Option TokenKind). IfSome o NarrowKind) is (token-narrow names piece p)) (tokens-fit names ps ts rest p)

pub numbers-of-texts : NumbersOfTextsFit
numbers-of-texts text tokens cut = tokens-fit predefined (pieces_of text) tokens.list cut.by_cases refl
