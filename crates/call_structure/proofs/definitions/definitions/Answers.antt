use Rattle.std.proofs.Common.{◌≡◌, ◌<◌, ℕ, suc, ◌+◌, List, [], ◌∷◌, ◌++◌, length, drop, get_or, sym, ap, ◌∙◌, arith, append_assoc, length-drop, drop-cons, nat_eq, rules}
use Rattle.std.proofs.lemmas.List.{append-nil, nil_from_length}
use Rattle.std.proofs.lemmas.Grind.{common_steps}
use Rattle.std.proofs.lemmas.List.Sorted.{answers_always}
use Rattle.indexmap.proofs.CallerLemmas.{insert_entry-new}
use Rattle.indexmap.specs.IndexMap.{get}
use Rattle.c_typed.specs.declared.typed.TypedFunction.{TypedFunction}
use Rattle.sat_base.specs.declared.name.At.{At}
use Rattle.call_structure.specs.Definitions.{defined_from, definition_of}
use Rattle.call_structure.proofs.definitions.definitions.Goals as goal
use Rattle.call_structure.proofs.definitions.definitions.Goals.{in-Some+in_ok-numbered+in_ok-insert, in_default}

-- one function more
next : (functions : List TypedFunction) (number : ℕ) (function : TypedFunction) (done new : List (ℕ × At)) (whole : List (ℕ × At))
    → number < length functions → function ≡ get_or functions number function → new ≡ done ++ definition_of number function.defined
    → done ++ defined_from number (drop number functions) ≡ whole → new ++ defined_from (number + 1) (drop (number + 1) functions) ≡ whole
next functions number function done new whole low is more all =
    let one : number + 1 ≡ suc number = omega arith in
    let cons : drop number functions ≡ function ∷ drop (suc number) functions =
    drop-cons functions number function low ∙ ap (λ f. f ∷ drop (suc number) functions) (sym is) in
    ap (λ n. new ++ defined_from n (drop n functions)) one ∙ ap (λ ds. ds ++ defined_from (suc number) (drop (suc number) functions)) more
    ∙ append_assoc done (definition_of number function.defined) (defined_from (suc number) (drop (suc number) functions))
    ∙ ap (λ fs. done ++ defined_from number fs) (sym cons) ∙ all

pub loop-number-preserved : goal.loop-number-preserved
loop-number-preserved c = elim c.match-function.branch [
  | in-Some+in_ok-numbered+in_ok-insert w ↦ record {
    all = next c.as_slice-function-items.result.now c.loop-number.number c.function-item.result c.loop-number.definitions.entries c.match-function.definitions.entries
        (defined_from 0 c.as_slice-function-items.result.now) c.loop-number-test.true c.function-item.is
        (ap (λ ds. ds.entries) w.definitions-is ∙ w.in_ok-insert.ensures.entries
        ∙ insert_entry-new nat_eq c.loop-number.definitions w.in_ok-numbered.field-0 w.in-Some.name (c.loop-number.invariant.later w.in_ok-numbered.field-0 (omega (arith, w.in_ok-numbered.ensures)))
        ∙ ap (λ (n : ℕ). c.loop-number.definitions.entries ++ (n, w.in-Some.name) ∷ []) w.in_ok-numbered.ensures
        ∙ ap (λ d. c.loop-number.definitions.entries ++ definition_of c.loop-number.number d) (sym w.in-Some.is))
        c.loop-number.invariant.all;
    later = λ number above. ap (λ ds. get nat_eq ds number) w.definitions-is ∙ grind (arith, common_steps, w.in_ok-numbered.ensures, w.in_ok-insert.ensures.updates.0 number, c.loop-number.invariant.later number);
  }
  | in_default w ↦ record {
    all = next c.as_slice-function-items.result.now c.loop-number.number c.function-item.result c.loop-number.definitions.entries c.match-function.definitions.entries
        (defined_from 0 c.as_slice-function-items.result.now) c.loop-number-test.true c.function-item.is
        (ap (λ ds. ds.entries) w.definitions-is ∙ sym (ap (λ d. c.loop-number.definitions.entries ++ definition_of c.loop-number.number d) w.in_default.is ∙ append-nil c.loop-number.definitions.entries))
        c.loop-number.invariant.all;
    later = λ number above. ap (λ ds. get nat_eq ds number) w.definitions-is ∙ c.loop-number.invariant.later number (omega arith);
  }
]

pub returns : goal.returns
returns c = record {
  each =
      let none : drop c.loop-number.number c.as_slice-function-items.result.now ≡ [] =
      nil_from_length _ (omega (arith, length-drop c.loop-number.number c.as_slice-function-items.result.now)) in
      let all : c.loop-number.definitions.entries ≡ defined_from 0 c.args.typed.now.functions =
      sym (append-nil c.loop-number.definitions.entries) ∙ ap (λ fs. c.loop-number.definitions.entries ++ defined_from c.loop-number.number fs) (sym none)
      ∙ c.loop-number.invariant.all ∙ ap (defined_from 0) c.as_slice-function-items.ensures in
      rw (← all) c.in_ok-sort_by_key.ensures.reordered.0;
  in_order = c.in_ok-sort_by_key.ensures.sorted (λ (definition : ℕ × At). definition.1.tok)
      (answers_always _ (λ a r. r ≡ a.1.0.now.tok) _ (λ f a r later k. search rules));
}
