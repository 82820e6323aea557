-- The marks of a chain, one turn at a time.
use Rattle.std.proofs.Common.{◌≡◌, ℕ, suc, ◌+◌, ◌-◌, ◌<◌, ◌≤◌, nat_le, Bool, true, false, List, Option, Some, None, ap, subst, ◌∙◌, sym, arith}
use Rattle.std.proofs.lemmas.Bool.Decides.{nat_tests}
use Rattle.std.specs.Prelude.{Result, Ok, Err, if◌then◌else◌, IsErrAnd}
use Rattle.c_tree.specs.declared.expression.BinaryMark.{BinaryMark}
use Rattle.c_tree.specs.declared.expression.Expr.{Expr}
use Rattle.c_tree.specs.declared.expression.ExprKind.TheVariants as kind
use Rattle.c_tree.specs.Depth.{depth_of_expression}
use Rattle.c_grammar.specs.declared.refusal.ReadRefusal.{ReadRefusal}
use Rattle.c_grammar.specs.declared.refusal.ReadRefusal.TheVariants as refusal
use Rattle.c_grammar.specs.Spots.{Spot, here}
use Rattle.c_grammar.specs.Symbols.{binary_mark}
use Rattle.right_reading.specs.ReadExpressions.{ranked, if_mark, marks_at, unmarked}
use Rattle.right_reading.specs.Stream.{ahead, rest, Fault, Parser, ◌>>=◌, too_deep_at}
use Rattle.token_reader.specs.Gives.{Fails}
use Rattle.token_reader.proofs.Loops.{fails_on}
use Rattle.expression_parser.specs.declared.measured.Measured.{Measured}
use Rattle.expression_parser.specs.Heights.{Measures}

module _ (rank limit : ℕ) (right : Parser Expr) where
  abbrev after_mark : ℕ → Expr → BinaryMark → Parser Expr
  after_mark f l mark k = right (rest k) >>= (λ x. marks_at f rank limit right (unmarked l.at (kind.Binary mark (here k) l x.0)) x.1)

  abbrev goes_on : ℕ → Expr → BinaryMark → List Spot → Bool → Result (Expr × List Spot) Fault
  goes_on f l mark i deep = if deep then too_deep_at i else after_mark f l mark i

  marked : (f : ℕ) (l : Expr) (i : List Spot) (m : BinaryMark) → ranked rank (binary_mark (ahead i)) ≡ Some m → marks_at (suc f) rank limit right l i ≡ goes_on f l m i (nat_le limit (depth_of_expression l))
  unfolding marks_at
  marked f l i m e = ap (λ (o : Option BinaryMark). if_mark o limit l (after_mark f l) i) e

  module _ (start : Result (Expr × List Spot) Fault) (turns at : ℕ) (l : Expr) (i : List Spot) (kept : marks_at (turns - at) rank limit right l i ≡ start) where
    one_more : at < turns → marks_at (suc (turns - (at + 1))) rank limit right l i ≡ start
    one_more lt = let turn : turns - at ≡ suc (turns - (at + 1)) = omega arith in ap (λ (n : ℕ). marks_at n rank limit right l i) (sym turn) ∙ kept

    pub marks_stop : ranked rank (binary_mark (ahead i)) ≡ None → at < turns → start ≡ Ok (l, i)
    unfolding marks_at
    marks_stop e lt = sym (one_more lt) ∙ ap (λ (o : Option BinaryMark). if_mark o limit l (after_mark (turns - (at + 1)) l) i) e

    pub marks_end : turns ≤ at → start ≡ Ok (l, i)
    unfolding marks_at
    marks_end le = let none : turns - at ≡ 0 = omega arith in sym kept ∙ ap (λ (n : ℕ). marks_at n rank limit right l i) none

    module _ (m : BinaryMark) (is : ranked rank (binary_mark (ahead i)) ≡ Some m) (lt : at < turns) where
      pub marks_deep : limit ≤ depth_of_expression l → start ≡ too_deep_at i
      marks_deep high =
          let full : nat_le limit (depth_of_expression l) ≡ true = grind (arith, nat_tests) in
          sym (one_more lt) ∙ marked (turns - (at + 1)) l i m is ∙ ap (goes_on (turns - (at + 1)) l m i) full

      marks_more : depth_of_expression l < limit → after_mark (turns - (at + 1)) l m i ≡ start
      marks_more low =
          let stays : nat_le limit (depth_of_expression l) ≡ false = grind (arith, nat_tests) in
          sym (ap (goes_on (turns - (at + 1)) l m i) stays) ∙ sym (marked (turns - (at + 1)) l i m is) ∙ one_more lt

      abbrev marks_after : Expr × List Spot → Result (Expr × List Spot) Fault
      marks_after x = marks_at (turns - (at + 1)) rank limit right (unmarked l.at (kind.Binary m (here i) l x.0)) x.1

      -- a right operand that is refused
      pub marks_fail : (e : ReadRefusal) → depth_of_expression l < limit → Fails (right (rest i)) e → Fails start e
      marks_fail e low bad = subst (λ (y : Result (Expr × List Spot) Fault). Fails y e) (marks_more low) (fails_on e (right (rest i)) marks_after bad)

      -- one mark and its right operand
      pub marks_next : (r : Expr) (j : List Spot) → depth_of_expression l < limit → right (rest i) ≡ Ok (r, j) → marks_at (turns - (at + 1)) rank limit right (unmarked l.at (kind.Binary m (here i) l r)) j ≡ start
      marks_next r j low read = sym (ap (λ (y : Result (Expr × List Spot) Fault). y >>= marks_after) read) ∙ marks_more low

-- ---- refusals

-- what was refused is what is answered
pub measures_failed : {T : Type 0} (depth : T → ℕ) (limit : ℕ) (r : Result (Measured T) ReadRefusal) (e : ReadRefusal) (j : List Spot) (read : Result (T × List Spot) Fault) → IsErrAnd r (λ f. f ≡ e) → Fails read e → Measures depth limit read r j
measures_failed depth limit (Ok m) e j read same bad = absurd same
measures_failed depth limit (Err f) e j read same bad = subst (λ (g : ReadRefusal). Fails read g) (sym same) bad

pub fails_deep : {A : Type 0} (r : ReadRefusal) (i : List Spot) (y : Result A Fault) → r ≡ refusal.TooDeep (here i).tok (here i).pos → y ≡ Err (record { deep = true; at = here i }) → Fails y r
fails_deep r i y e f = subst (λ (x : ReadRefusal). Fails y x) (sym e) f
