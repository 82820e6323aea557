-- What holds of each thing that stands in a lawful source holds of it as it stands in the tree.
use Rattle.std.proofs.Common.{◌≡◌, ℕ, zero, suc, List, [], ◌∷◌, ◌++◌, Bool, true, map, sym, subst}
use Rattle.std.proofs.lemmas.List.Concat.{flat_map-append}
use Rattle.std.proofs.lemmas.List.Elements.{All-nil, All-cons, All-head, All-tail, All-append}
use Rattle.std.proofs.lemmas.List.Sums.{AllPass-from_list_all, list_all-from_AllPass}
use Rattle.std.specs.List.{All}
use Rattle.std.specs.Prelude.{flat_map, Some, None, option_map}
use Rattle.c_typed.specs.declared.typed.Typed.{Typed}
use Rattle.c_typed.specs.declared.typed.TypedFunction.{TypedFunction}
use Rattle.ir_arena.specs.declared.ir.Ir.{Ir}
use Rattle.lawful_ir.specs.Built.{IsTreeOf}
use Rattle.typed_meaning.specs.Expressions.{site_at}
use Rattle.whole_trees.specs.Sources.{function_at, numbers_defined}
use Rattle.lawful_sources.specs.Lawful.{IsLawful, Everywhere}
use Rattle.lawful_sources.specs.Statements.{in_function, in_source}
use Rattle.lawful_sources.specs.Things.{Thing, Call, Mark, Conversion}
use Rattle.lawful_sources.proofs.Passing.{Each}
use Rattle.lawful_ir.specs.Lawful.{tables_of, things_in, EverywhereIn}
use Rattle.lawful_ir.specs.Positions.{TreeThing, things_of, thing_of}
use Rattle.lawful_ir.specs.Walk.{site_token}
use Rattle.lawful_ir.proofs.Alike.{head, tail, fine, all_of, converts, renamed}
use Rattle.lawful_ir.proofs.Kept.{all-fine}
use Rattle.lawful_ir.proofs.Wholes.{numbers, stands-are, defined_things, defined-pass}

-- ---- parts of a list

apart : {A : Type 0} (P : A → Type 0) (xs ys : List A) → All P (xs ++ ys) → All P xs × All P ys
apart P [] ys all = (All-nil P, all)
apart P (x ∷ xs) ys all =
    let rest : All P xs × All P ys = apart P xs ys (All-tail P x (xs ++ ys) all) in
    (All-cons P x xs (All-head P x (xs ++ ys) all) rest.0, rest.1)

module _ (typed : Typed) (P : Thing → Type 0) where
  -- a number that no function has is that of one with no body
  in-one : (functions : List TypedFunction) (number : ℕ) → All P (flat_map (in_function typed) functions) → All P (in_function typed (function_at functions number))
  in-one [] number all = All-nil P
  in-one (function ∷ functions) zero all = (apart P (in_function typed function) _ all).0
  in-one (function ∷ functions) (suc number) all = in-one functions number (apart P (in_function typed function) _ all).1

  in-these : (list : List ℕ) → All P (in_source typed) → All P (flat_map (in_function typed) (map (function_at typed.functions) list))
  in-these [] all = All-nil P
  in-these (number ∷ list) all = All-append P _ _ (in-one typed.functions number all) (in-these list all)

module _ (typed : Typed) (ir : Ir) (lawful : IsLawful typed) (is : IsTreeOf typed ir) where
  -- a thing as it stands in the tree, where it stands there
  abbrev pub stood : Thing → Thing
  stood (Call callee arguments is_needed) = Call (renamed (numbers typed ir lawful is) callee) arguments is_needed
  stood (Mark at site kind) = Mark (site_token ir.sites (site_at site)) (option_map (λ k. site_at site) kind) kind
  stood thing = thing

  one-holds : (Q : Thing → Type 0) (x : Thing) → Q (stood x) → All Q (things_of (converts (tables_of ir) (numbers typed ir lawful is) x))
  one-holds Q (Mark at site None) q = All-nil Q
  one-holds Q (Conversion None None) q = All-nil Q
  one-holds Q (Conversion None (Some due)) q = All-cons Q _ [] q (All-nil Q)
  one-holds Q x q = All-cons Q _ [] q (All-nil Q)

  things-hold : (P Q : Thing → Type 0) → ((x : Thing) → fine typed x ≡ true → P x → Q (stood x)) → (list : List Thing) → Each (fine typed) list → All P list
      → All Q (things_of (all_of typed (tables_of ir) (numbers typed ir lawful is) list))
  things-hold P Q holds [] each all = All-nil Q
  things-hold P Q holds (x ∷ list) each all =
      subst (All Q) (sym (flat_map-append thing_of (converts (tables_of ir) (numbers typed ir lawful is) x) _))
      (All-append Q _ _ (one-holds Q x (holds x (head (fine typed) x list each) (All-head P x list all)))
      (things-hold P Q holds list (tail (fine typed) x list each) (All-tail P x list all)))

  pub hold : (P Q : Thing → Type 0) → ((x : Thing) → fine typed x ≡ true → P x → Q (stood x)) → All P (in_source typed) → All Q (things_in ir)
  hold P Q holds all =
      subst (λ (l : List TreeThing). All Q (things_of l)) (sym (stands-are typed ir lawful is (all-fine typed lawful)))
      (things-hold P Q holds (defined_things typed ir lawful is) (defined-pass typed ir lawful is (fine typed) (all-fine typed lawful)) (in-these typed P (numbers_defined is.definitions) all))

  -- a test by the tables of the source, and by those of the tree
  abbrev pub Passes : (Typed → Thing → Bool) → Type 0
  Passes test = (x : Thing) → fine typed x ≡ true → test typed x ≡ true → test (tables_of ir) (stood x) ≡ true

  pub pass : (test : Typed → Thing → Bool) → Passes test → Everywhere typed (test typed) → EverywhereIn ir (test (tables_of ir))
  pass test passes all =
      list_all-from_AllPass (test (tables_of ir)) (things_in ir)
      (hold (λ x. test typed x ≡ true) (λ x. test (tables_of ir) x ≡ true) passes (AllPass-from_list_all (test typed) (in_source typed) all))
