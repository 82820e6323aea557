-- The names of the basic operators, by their table.
use Rattle.std.proofs.Common.{◌≡◌, ℕ, Bool, true, false, List, [], ◌∷◌, codes, Option, Some, None, refl, sym, subst, inl, inr}
use Rattle.std.specs.List.{list_any, list_all}
use Rattle.std.specs.Option.{MatchOption, is_some}
use Rattle.std.specs.Str.{bytes_eq, IsUtf8, is_utf8, chars}
use Rattle.std.proofs.lemmas.Bool.{false≢true, and_parts, or_cases, or_left, or_right, false_from_ne_true}
use Rattle.std.proofs.lemmas.List.Folds.{list_any_at}
use Rattle.std.proofs.lemmas.Slice.Eq.{bytes_eq-Decides}
use Rattle.std.proofs.lemmas.Str.{IsUtf8-from_is_utf8}
use lib.Utf8.{encode}
use Rattle.operator_meaning.specs.Table.{row_of, IsNameOf, IsNoName}
use Rattle.operator_meaning.specs.declared.operator.Op.{Op}
use Rattle.operator_meaning.specs.declared.operator.Op.TheVariants.{Add, Round}
use Rattle.operator_meaning.specs.declared.operator.TheConstants.{OPERATORS}
use Rattle.operator_meaning.specs.Order.{place_of}
use Rattle.operator_meaning.proofs.Names.{place_within, at_place}
use Rattle.c_lexer.specs.CuttingLaws.{OperatorsAreNamed}
use Rattle.c_lexer.specs.Names.{is_basic}

abbrev is_row : List ℕ → Op → Bool
is_row word op = bytes_eq word (row_of op).name

-- the operator with this name, of which holds what holds of all
record Found (test : Op → Bool) (word : List ℕ) : Type 0 where
  pub op : Op
  pub passes : test op ≡ true
  pub name : word ≡ (row_of op).name

find : (test : Op → Bool) (word : List ℕ) (ops : List Op) → list_any (is_row word) ops ≡ true → list_all test ops ≡ true → Found test word
find test word [] named all = absurd (false≢true named)
find test word (op ∷ ops) named all =
    let both = and_parts (test op) (list_all test ops) all in
    elim (or_cases (is_row word op) (list_any (is_row word) ops) named) [
      | inl here ↦ record { op = op; passes = both.0; name = (bytes_eq-Decides word (row_of op).name).0 here }
      | inr there ↦ find test word ops there both.1
    ]

named : (word : List ℕ) (op : Op) → IsNameOf word op → is_basic word ≡ true
named word op (inl e) =
    let here : is_row word op ≡ true = (bytes_eq-Decides word (row_of op).name).1 e in
    or_right (bytes_eq word (codes "round_fx")) (list_any (is_row word) OPERATORS)
    (list_any_at (is_row word) OPERATORS (place_of op) Add (place_within op) (subst (λ (o : Op). is_row word o ≡ true) (sym (at_place op)) here))
named word op (inr e) = or_left (bytes_eq word (codes "round_fx")) (list_any (is_row word) OPERATORS) ((bytes_eq-Decides word (codes "round_fx")).1 e.0)

named_by : (word : List ℕ) → is_basic word ≡ true → (op : Op) × IsNameOf word op
named_by word basic =
    elim (or_cases (bytes_eq word (codes "round_fx")) (list_any (is_row word) OPERATORS) basic) [
      | inl also ↦ (Round, inr ((bytes_eq-Decides word (codes "round_fx")).0 also, refl))
      | inr row ↦ let found = find (λ _. true) word OPERATORS row refl in (found.op, inl found.name)
    ]

unnamed : (word : List ℕ) → IsNoName word → is_basic word ≡ false
unnamed word none =
    false_from_ne_true (is_basic word) (λ basic. let name = named_by word basic in none name.0 name.1)

pub basic_is : (word : List ℕ) (o : Option Op) → MatchOption o (IsNoName word) (IsNameOf word) → is_some o ≡ is_basic word
basic_is word None none = sym (unnamed word none)
basic_is word (Some op) is = sym (named word op is)

pub operators_are_named : OperatorsAreNamed
operators_are_named word = (named_by word, λ name. named word name.0 name.1)

-- the names are UTF-8
names_are_text : list_all (λ op. is_utf8 (row_of op).name) OPERATORS ≡ true
unfolding is_utf8 chars encode
names_are_text = refl

also_is_text : is_utf8 (codes "round_fx") ≡ true
unfolding is_utf8 chars encode
also_is_text = refl

pub no_text : (word : List ℕ) → (IsUtf8 word → ⊥) → is_basic word ≡ false
no_text word foreign =
    false_from_ne_true (is_basic word) (λ basic.
    elim (or_cases (bytes_eq word (codes "round_fx")) (list_any (is_row word) OPERATORS) basic) [
      | inl also ↦ foreign (subst IsUtf8 (sym ((bytes_eq-Decides word (codes "round_fx")).0 also)) (IsUtf8-from_is_utf8 (codes "round_fx") also_is_text))
      | inr row ↦ let found = find (λ op. is_utf8 (row_of op).name) word OPERATORS row names_are_text in foreign (subst IsUtf8 (sym found.name) (IsUtf8-from_is_utf8 (row_of found.op).name found.passes))
    ])
