-- Expressions: what is found is the expression of the form, and it is found wherever there is one.
use Rattle.std.proofs.Common.{◌≡◌, ℕ, ◌≤◌, true, cond, ◌&&◌, int_le, List, [], ◌∷◌, Option, Some, None, ℤ, pos, negsuc, codes, refl, sym, ap, subst, ◌∙◌, inl, inr, arith}
use Rattle.std.specs.Str.{bytes_eq}
use Rattle.std.proofs.lemmas.Bool.{cases_Bool, cond-true, cond-false}
use Rattle.std.proofs.lemmas.Bool.Decides.{nat_tests}
use Rattle.std.proofs.lemmas.Int.{ints}
use Rattle.std.proofs.lemmas.Option.{none-some, same_Some}
use Rattle.std.proofs.lemmas.Slice.Eq.{bytes_eq-Decides}
use Rattle.sat_base.specs.declared.name.Named.{Named}
use Rattle.sat_base.specs.declared.position.Pos.{Pos}
use Rattle.c_tree.specs.declared.call.Arg.{Arg, Value', Address}
use Rattle.c_tree.specs.declared.expression.ExprKind.{ExprKind, Int as Number, Call', Row_of-Arg, end_of-Arg, more_of-Arg}
use Rattle.first_form.specs.declared.first.FirstExpr.{FirstExpr, Int, Add', Sub', more_of-FirstExpr as boxed, end_of-FirstExpr as end}
use Rattle.first_form.specs.declared.form.Operator.{Operator}
use Rattle.first_form.specs.declared.form.Operator.TheVariants as operators
use Rattle.first_form.specs.Form.{IsOperand, IsCalled, IsExpr, AreOperands, IsArgument}
use Rattle.first_form.specs.Finding.{◌>>=◌, operand_of, operator_of, call_of, call_on, expression_of, argument_of, operands_of}
use Rattle.first_form.proofs.Calls.{Add-boxed, Sub-boxed}

-- the value of a step that did not fail
pub bind_some : {A B : Type 0} (o : Option A) (f : A → Option B) (y : B) → (o >>= f) ≡ Some y → (x : A) × (o ≡ Some x) × (f x ≡ Some y)
bind_some (Some x) f y e = (x, refl, e)
bind_some None f y e = absurd (none-some y e)

-- ---- numbers

operand_tested : (n : ℤ) → (int_le (pos 0) n && int_le n (pos 32767)) ≡ true → IsOperand n
operand_tested (pos m) e = (m, refl, grind (arith, nat_tests, ints))
operand_tested (negsuc m) e = absurd (grind (arith, nat_tests, ints))

operand_some : (n : ℤ) (e : FirstExpr) → operand_of n ≡ Some e → (Int n ≡ e) × IsOperand n
unfolding operand_of
operand_some n e h =
    elim (cases_Bool (int_le (pos 0) n && int_le n (pos 32767))) [
      | inl is ↦ (same_Some (Int n) e (sym (cond-true _ (Some (Int n)) None is) ∙ h), operand_tested n is)
      | inr not ↦ absurd (none-some e (sym (cond-false _ (Some (Int n)) None not) ∙ h))
    ]

operand_of-pos : (m : ℕ) → m ≤ 32767 → operand_of (pos m) ≡ Some (Int (pos m))
unfolding operand_of
operand_of-pos m low =
    let is : (int_le (pos 0) (pos m) && int_le (pos m) (pos 32767)) ≡ true = grind (arith, nat_tests, ints) in cond-true _ (Some (Int (pos m))) None is

operand_of-IsOperand : (n : ℤ) → IsOperand n → operand_of n ≡ Some (Int n)
operand_of-IsOperand n operand = subst (λ (z : ℤ). operand_of z ≡ Some (Int z)) (sym operand.1) (operand_of-pos operand.0 operand.2)

-- ---- operators

abbrev name_of : Operator → List ℕ
name_of operators.Add = codes "add"
name_of operators.Sub = codes "sub"

operator_of_some : (name : List ℕ) (operator : Operator) → operator_of name ≡ Some operator → name ≡ name_of operator
unfolding operator_of
operator_of_some name operator e =
    let others = cond (bytes_eq name (codes "sub")) (Some operators.Sub) None in
    elim (cases_Bool (bytes_eq name (codes "add"))) [
      | inl is ↦
          let same : operators.Add ≡ operator = same_Some operators.Add operator (sym (cond-true _ (Some operators.Add) others is) ∙ e) in
          (bytes_eq-Decides name (codes "add")).0 is ∙ ap name_of same
      | inr not ↦
          elim (cases_Bool (bytes_eq name (codes "sub"))) [
            | inl is ↦
                let same : operators.Sub ≡ operator = same_Some operators.Sub operator (sym (cond-false _ (Some operators.Add) others not ∙ cond-true _ (Some operators.Sub) None is) ∙ e) in
                (bytes_eq-Decides name (codes "sub")).0 is ∙ ap name_of same
            | inr nor ↦ absurd (none-some operator (sym (cond-false _ (Some operators.Add) others not ∙ cond-false _ (Some operators.Sub) None nor) ∙ e))
          ]
    ]

operator_of-name_of : (operator : Operator) → operator_of (name_of operator) ≡ Some operator
unfolding operator_of
operator_of-name_of operators.Add = refl
operator_of-name_of operators.Sub = refl

-- ---- calls

-- a call as the definitions by cases match on it
abbrev call_tree : Operator → ℕ → Pos → FirstExpr → FirstExpr → FirstExpr
call_tree operators.Add tok at left right = Add' tok at tt (boxed left end) tt (boxed right end)
call_tree operators.Sub tok at left right = Sub' tok at tt (boxed left end) tt (boxed right end)

call_of-tree : (operator : Operator) (name : Named) (left right : FirstExpr) → call_of operator name.at left right ≡ call_tree operator name.at.tok name.at.pos left right
call_of-tree operators.Add name left right = Add-boxed name.at.tok name.at.pos left right
call_of-tree operators.Sub name left right = Sub-boxed name.at.tok name.at.pos left right

-- what was found of a call, by what was found in its arguments
record IsFound (name : Named) (found : List (Option FirstExpr)) (e : FirstExpr) : Type 0 where
  operator : Operator
  left : FirstExpr
  right : FirstExpr
  named : name.name ≡ name_of operator
  operands : found ≡ Some left ∷ Some right ∷ []
  whole : call_tree operator name.at.tok name.at.pos left right ≡ e

call_some : (name : Named) (found : List (Option FirstExpr)) (e : FirstExpr) → call_on name found ≡ Some e → IsFound name found e
unfolding call_on
call_some name (one ∷ other ∷ []) e h =
    let o = bind_some (operator_of name.name) _ e h in
    let l = bind_some one _ e o.2 in
    let r = bind_some other _ e l.2 in
    record {
      operator = o.0;
      left = l.0;
      right = r.0;
      named = operator_of_some name.name o.0 o.1;
      operands = ap (λ (x : Option FirstExpr). x ∷ other ∷ []) l.1 ∙ ap (λ (x : Option FirstExpr). Some l.0 ∷ x ∷ []) r.1;
      whole = sym (call_of-tree o.0 name l.0 r.0) ∙ same_Some (call_of o.0 name.at l.0 r.0) e r.2;
    }
call_some name found e h = absurd (none-some e h)

IsExpr-call : (operator : Operator) (name : Named) (shape args : _) (left right : FirstExpr)
    → name.name ≡ name_of operator → AreOperands args left right → IsExpr (Call' name shape args) (call_tree operator name.at.tok name.at.pos left right)
IsExpr-call operators.Add name shape args left right named operands = (record { named = named; number = refl; place = refl }, operands)
IsExpr-call operators.Sub name shape args left right named operands = (record { named = named; number = refl; place = refl }, operands)

call_on-tree : (operator : Operator) (name : Named) (tok : ℕ) (at : Pos) (left right : FirstExpr) (found : List (Option FirstExpr))
    → IsCalled name (name_of operator) tok at → found ≡ Some left ∷ Some right ∷ [] → call_on name found ≡ Some (call_tree operator tok at left right)
unfolding call_on
call_on-tree operator name tok at left right found called operands =
    let named : operator_of name.name ≡ Some operator = ap operator_of called.named ∙ operator_of-name_of operator in
    let here = ap (call_on name) operands in
    let there : call_on name (Some left ∷ Some right ∷ []) ≡ Some (call_of operator name.at left right) =
    ap (λ (o : Option Operator). o >>= (λ operator. Some (call_of operator name.at left right))) named in
    let tree = call_of-tree operator name left right in
    let placed : call_tree operator name.at.tok name.at.pos left right ≡ call_tree operator tok at left right =
    ap (λ (n : ℕ). call_tree operator n name.at.pos left right) (sym called.number) ∙ ap (λ (p : Pos). call_tree operator tok p left right) (sym called.place) in
    here ∙ there ∙ ap (λ (e : FirstExpr). Some e) (tree ∙ placed)

-- ---- expressions

mutual
  expression_sound : (kind : ExprKind) (e : FirstExpr) → expression_of kind ≡ Some e → IsExpr kind e
  expression_sound (Number n) e h = let both = operand_some n e h in subst (IsExpr (Number n)) both.0 (refl, both.1)
  expression_sound (Call' name shape args) e h =
      let found = call_some name (operands_of args) e h in
      subst (IsExpr (Call' name shape args)) found.whole
      (IsExpr-call found.operator name shape args found.left found.right found.named (operands_sound args found.left found.right found.operands))
  expression_sound kind e h = absurd (none-some e h)

  operands_sound : {m : _} (args : Row_of-Arg m) (left right : FirstExpr) → operands_of args ≡ Some left ∷ Some right ∷ [] → AreOperands args left right
  operands_sound (more_of-Arg one (more_of-Arg other end_of-Arg)) left right h = (argument_sound one left (cc), argument_sound other right (cc))
  operands_sound args left right h = absurd (cc)

  pub argument_sound : (arg : Arg) (e : FirstExpr) → argument_of arg ≡ Some e → IsArgument arg e
  argument_sound (Value' at brackets kind) e h = expression_sound kind e h
  argument_sound (Address at place) e h = absurd (none-some e h)

mutual
  expression_complete : (kind : ExprKind) (e : FirstExpr) → IsExpr kind e → expression_of kind ≡ Some e
  expression_complete (Number n) (Int m) h = operand_of-IsOperand n h.1 ∙ ap (λ (z : ℤ). Some (Int z)) (sym h.0)
  expression_complete (Call' name _ args) (Add' tok at _ (boxed left end) _ (boxed right end)) h =
      call_on-tree operators.Add name tok at left right (operands_of args) h.0 (operands_complete args left right h.1)
  expression_complete (Call' name _ args) (Sub' tok at _ (boxed left end) _ (boxed right end)) h =
      call_on-tree operators.Sub name tok at left right (operands_of args) h.0 (operands_complete args left right h.1)
  expression_complete kind e h = absurd h

  operands_complete : {m : _} (args : Row_of-Arg m) (left right : FirstExpr) → AreOperands args left right → operands_of args ≡ Some left ∷ Some right ∷ []
  operands_complete (more_of-Arg one (more_of-Arg other end_of-Arg)) left right h =
      ap (λ (found : Option FirstExpr). found ∷ argument_of other ∷ []) (argument_complete one left h.0) ∙ ap (λ (found : Option FirstExpr). Some left ∷ found ∷ []) (argument_complete other right h.1)
  operands_complete args left right h = absurd h

  pub argument_complete : (arg : Arg) (e : FirstExpr) → IsArgument arg e → argument_of arg ≡ Some e
  argument_complete (Value' at brackets kind) e h = expression_complete kind e h
  argument_complete (Address at place) e h = absurd h
