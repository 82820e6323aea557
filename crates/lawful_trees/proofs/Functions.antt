-- A lawful source has a tree: its bodies have, and main is defined.
use Rattle.std.proofs.Common.{◌≡◌, ℕ, zero, suc, ◌<◌, List, [], ◌∷◌, Bool, true, false, IsTrue, length, get_or, refl, sym, ap, ◌∙◌, subst, inl, inr, arith}
use Rattle.std.specs.Prelude.{Option, Some, None, ◌&&◌, All, flat_map, if◌then◌else◌, is_some, slice_get}
use Rattle.std.specs.List.{list_all, list_any, position, position_or_len}
use Rattle.std.proofs.lemmas.Bool.{and_parts, and_from, or_cases, lt-ltb}
use Rattle.std.proofs.lemmas.List.Elements.{All-from_get_or}
use Rattle.std.proofs.lemmas.List.Folds.{list_all-append}
use Rattle.std.proofs.lemmas.List.Quantifiers.{position-Some}
use Rattle.std.proofs.lemmas.Option.{slice_get-get_or}
use Rattle.sat_base.specs.declared.width.Width.{Width}
use Rattle.c_typed.specs.declared.statement.TypedBlock.{TypedBlock}
use Rattle.c_typed.specs.declared.typed.Typed.{Typed}
use Rattle.c_typed.specs.declared.typed.TypedFunction.{TypedFunction}
use Rattle.call_structure.specs.Orders.{IsCallersFirst}
use Rattle.typed_meaning.specs.Observed.{is_main}
use Rattle.typed_meaning.specs.Statements.{option_of}
use Rattle.whole_trees.specs.Sources.{nameless}
use Rattle.statement_agreement.specs.Lawful.{fits_where, block_fits}
use Rattle.source_agreement.specs.Agreement.{is_defined, FitsIn, HasTree}
use Rattle.lawful_sources.specs.Things.{Thing}
use Rattle.lawful_sources.specs.Lawful.{IsLawful, is_good_main}
use Rattle.lawful_sources.specs.Objects.{follow_one_another, is_complete}
use Rattle.lawful_sources.specs.Rows.{is_main as is_named_main, callee_is_defined, arguments_are_counted}
use Rattle.lawful_sources.specs.Statements.{in_body, in_function, in_source}
use Rattle.lawful_trees.proofs.Expressions.{is_lawful_call, defined-where}
use Rattle.lawful_trees.proofs.Statements.{end-follows, Stands, block-fits}

-- ---- bodies

both-tests : (one other : Thing → Bool) (things : List Thing) → list_all one things ≡ true → list_all other things ≡ true → list_all (λ thing. one thing && other thing) things ≡ true
both-tests one other [] p q = refl
both-tests one other (thing ∷ things) p q =
    let ones = and_parts (one thing) _ p in let others = and_parts (other thing) _ q in
    and_from _ _ (and_from _ _ ones.0 others.0) (both-tests one other things ones.1 others.1)

-- what passes in all functions, passes in each
in-each : (test : Thing → Bool) (things : TypedFunction → List Thing) (functions : List TypedFunction) (number : ℕ) (f : TypedFunction) → slice_get functions number ≡ Some f → list_all test (flat_map things functions) ≡ true → list_all test (things f) ≡ true
in-each test things [] number f is p = cc
in-each test things (g ∷ functions) zero f is p =
    let same : g ≡ f = cc in ap (λ (h : TypedFunction). list_all test (things h)) (sym same) ∙ (and_parts (list_all test (things g)) _ (sym (list_all-append test (things g) _) ∙ p)).0
in-each test things (g ∷ functions) (suc number) f is p = in-each test things functions number f is (and_parts (list_all test (things g)) _ (sym (list_all-append test (things g) _) ∙ p)).1

module _ (typed : Typed) (lawful : IsLawful typed) where
  stands : (number : ℕ) (f : TypedFunction) → slice_get typed.functions number ≡ Some f → Stands typed (in_function typed f)
  stands number f is = record {
    lawful = record { all = in-each (is_lawful_call typed) (in_function typed) typed.functions number f is (both-tests (callee_is_defined typed) (arguments_are_counted typed) (in_source typed) lawful.callees_are_defined lawful.arguments_are_counted) };
    row = end-follows f.params _ (subst (λ (l : List ℕ). follow_one_another l ≡ true) (sym (lawful.objects_are_declared number f is)) (lawful.objects_follow number));
  }

  body-fits : (gives : Option Width) (body : Option TypedBlock) → Stands typed (in_body typed gives body) → IsTrue (fits_where (option_of (block_fits (is_defined typed.functions)) body))
  body-fits gives None p = refl
  body-fits gives (Some body) p = block-fits typed lawful.functions_are_whole body _ p

  bodies : All (FitsIn typed.functions) typed.functions
  bodies = All-from_get_or (FitsIn typed.functions) typed.functions nameless (λ i within.
      let f : TypedFunction = get_or typed.functions i nameless in body-fits f.gives f.body (stands i f (slice_get-get_or typed.functions i nameless within)))

-- ---- main

good-is-main : (f : TypedFunction) → is_good_main f ≡ true → is_main f ≡ true
good-is-main f p = let named = and_parts (is_named_main f) _ p in and_from _ _ named.0 (and_parts (is_some f.body) _ named.1).0

main-first : (f : TypedFunction) (functions : List TypedFunction) (is : Bool) → is_main f ≡ is → list_any is_good_main (f ∷ functions) ≡ true
    → (list_any is_good_main functions ≡ true → position_or_len is_main functions < length functions) → position_or_len is_main (f ∷ functions) < length (f ∷ functions)
main-first f functions true is p later = rw is (omega arith)
main-first f functions false is p later = elim (or_cases (is_good_main f) _ p) [
  | inl good ↦ let main : is_main f ≡ true = good-is-main f good in cc
  | inr others ↦ let within = later others in rw is (omega arith)
]

main-within : (functions : List TypedFunction) → list_any is_good_main functions ≡ true → position_or_len is_main functions < length functions
main-within [] p = cc
main-within (f ∷ functions) p = main-first f functions (is_main f) refl p (main-within functions)

-- the first function named main that has a body
pub record Main (functions : List TypedFunction) : Type 0 where
  pub number : ℕ
  pub found : position is_main functions ≡ Some number
  pub complete : is_complete (slice_get functions number) ≡ true

pub main-of : (functions : List TypedFunction) → list_any is_good_main functions ≡ true → Main functions
main-of functions p =
    let number : ℕ = position_or_len is_main functions in
    let found : position is_main functions ≡ Some number = ap (λ (b : Bool). if b then Some number else None) (lt-ltb number (length functions) (main-within functions p)) in
    let main = position-Some is_main functions number nameless found in
    record {
      number = number;
      found = found;
      complete = ap is_complete (slice_get-get_or functions number nameless main.0) ∙ (and_parts (is_named_main (get_or functions number nameless)) _ main.1).1;
    }

pub has-tree : (typed : Typed) (order : List ℕ) → IsLawful typed → IsCallersFirst typed order → HasTree typed
has-tree typed order lawful callers_first =
    let main : Main typed.functions = main-of typed.functions lawful.has_main in record {
      order = order;
      callers_first = callers_first;
      bodies = bodies typed lawful;
      main = main.number;
      found = main.found;
      main_defined = defined-where typed.functions main.number lawful.functions_are_whole main.complete;
    }
