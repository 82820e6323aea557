-- The operator of a name by the table is the one that has the name.
use Rattle.std.proofs.Common.{◌≡◌, ℕ, ◌<◌, zero, suc, Bool, true, false, List, [], ◌∷◌, length, get_or, codes, refl, sym, ap, ◌∙◌, subst, inl, inr, arith}
use Rattle.std.specs.Prelude.{Option, Some, None}
use Rattle.std.specs.List.{find}
use Rattle.std.specs.Option.{MatchOption}
use Rattle.std.specs.Str.{bytes_eq}
use Rattle.std.proofs.lemmas.Bool.{cases_Bool}
use Rattle.std.proofs.lemmas.Slice.Eq.{bytes_eq-Decides}
use Rattle.operator_meaning.specs.Table.{row_of, IsNameOf, IsNoName}
use Rattle.operator_meaning.specs.declared.operator.Op.{Op}
use Rattle.operator_meaning.specs.declared.operator.Op.TheVariants.{Add, Round}
use Rattle.operator_meaning.specs.declared.operator.TheConstants.{OPERATORS}
use Rattle.operator_meaning.proofs.Names.{place_within, at_place, names_are_distinct}
use Rattle.operator_meaning.specs.Order.{place_of}
use Rattle.predefined_calls.specs.Calls.{operator_of}

find-passes : {X : Type 0} (test : X → Bool) (xs : List X) (x : X) → find test xs ≡ Some x → test x ≡ true
find-passes test [] x e = cc
find-passes test (y ∷ ys) x e =
    elim (cases_Bool (test y)) [
      | inl same ↦ let it : Some y ≡ Some x = rw same at e in let one : y ≡ x = cc in subst (λ (z : _). test z ≡ true) one same
      | inr other ↦ find-passes test ys x (rw other at e)
    ]

find-none : {X : Type 0} (test : X → Bool) (xs : List X) (i : ℕ) (d : X) → find test xs ≡ None → i < length xs → test (get_or xs i d) ≡ true → ⊥
find-none test [] i d e less is = omega arith
find-none test (y ∷ ys) zero d e less is = let never : Some y ≡ None = rw is at e in cc
find-none test (y ∷ ys) (suc i) d e less is =
    elim (cases_Bool (test y)) [
      | inl same ↦ let never : Some y ≡ None = rw same at e in cc
      | inr other ↦ find-none test ys i d (rw other at e) (omega arith) is
    ]

abbrev has_name : List ℕ → Op → Bool
has_name name op = bytes_eq name (row_of op).name

operator-sound : (name : List ℕ) (op : Op) → operator_of name ≡ Some op → IsNameOf name op
unfolding operator_of
operator-sound name op e =
    elim (cases_Bool (bytes_eq name (codes "round_fx"))) [
      | inl same ↦
          let it : Some Round ≡ Some op = rw same at e in
          let one : op ≡ Round = cc in
          inr ((bytes_eq-Decides name (codes "round_fx")).0 same, one)
      | inr other ↦ inl ((bytes_eq-Decides name (row_of op).name).0 (find-passes (has_name name) OPERATORS op (rw other at e)))
    ]

operator-complete : (name : List ℕ) (op : Op) → IsNameOf name op → operator_of name ≡ None → ⊥
unfolding operator_of
operator-complete name op is e =
    elim (cases_Bool (bytes_eq name (codes "round_fx"))) [
      | inl same ↦ let never : Some Round ≡ None = rw same at e in cc
      | inr other ↦
          elim is [
            | inl row ↦
                let here : has_name name op ≡ true = (bytes_eq-Decides name (row_of op).name).1 row in
                find-none (has_name name) OPERATORS (place_of op) Add (rw other at e) (place_within op) (subst (λ (o : Op). has_name name o ≡ true) (sym (at_place op)) here)
            | inr also ↦ let both : true ≡ false = sym ((bytes_eq-Decides name (codes "round_fx")).1 also.0) ∙ other in cc
          ]
    ]

by-name : (name : List ℕ) (o found : Option Op) → operator_of name ≡ found → MatchOption o (IsNoName name) (IsNameOf name) → o ≡ found
by-name name None None e is = refl
by-name name None (Some p) e none = absurd (none p (operator-sound name p e))
by-name name (Some op) None e is = absurd (operator-complete name op is e)
by-name name (Some op) (Some p) e is = ap Some (names_are_distinct name op p is (operator-sound name p e))

-- what is found by name is what the table says
pub operator-found : (name : List ℕ) (o : Option Op) → MatchOption o (IsNoName name) (IsNameOf name) → o ≡ operator_of name
operator-found name o is = by-name name o (operator_of name) refl is
