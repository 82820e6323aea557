-- What stands in the bodies of functions, once one that had none has one.
use Rattle.std.proofs.Common.{◌≡◌, ℕ, zero, suc, ◌<◌, List, [], ◌∷◌, ◌++◌, Bool, true, false, length, refl, sym, ap, ◌∙◌, subst, append_assoc, arith}
use Rattle.std.specs.Prelude.{flat_map, nat_lt, slice_get, slice_set, Option, Some, None, is_some, if◌then◌else◌}
use Rattle.std.specs.List.Sorted.{IsPermutation}
use Rattle.std.proofs.lemmas.Bool.Decides.{nat_tests}
use Rattle.std.proofs.lemmas.Grind.{flat_map-append}
use Rattle.std.proofs.lemmas.List.{append-nil, length-set}
use Rattle.std.proofs.lemmas.List.Sorted.{IsPermutation-append_comm, IsPermutation-append_right}
use Rattle.std.proofs.lemmas.Option.{slice_get_within}
use Rattle.c_tree.specs.declared.function.Function.{Function}
use Rattle.c_typed.specs.declared.typed.TypedFunction.{TypedFunction}
use Rattle.c_types.specs.Sources.{functions_or, declared, defining}
use Rattle.lawful_names.proofs.Keeping.{some-same}
use Rattle.lawful_sites.proofs.Twins.{one-more}

pub defining-long : (functions : List TypedFunction) (number : ℕ) (one : TypedFunction) → length (defining functions number one) ≡ length functions
defining-long functions number one = by (nat_lt number (length functions))
  where
    by : (is : Bool) → length (if is then slice_set functions number one else functions) ≡ length functions
    by true = length-set functions number one
    by false = refl

pub declared-long : (o : Option ℕ) (ones others : List TypedFunction) (g : Function) → length others ≡ length ones → length (functions_or o others g) ≡ length (functions_or o ones g)
declared-long None ones others g long = one-more ones others (declared g) (declared g) long
declared-long (Some number) ones others g long = long

pub nothing-there : {A : Type 0} (o : Option A) → is_some o ≡ false → o ≡ None
nothing-there None p = refl
nothing-there (Some x) p = cc

module _ {K : Type 0} (of : TypedFunction → List K) where
  set-standing : (functions : List TypedFunction) (number : ℕ) (old one : TypedFunction) → slice_get functions number ≡ Some old → of old ≡ [] → IsPermutation (flat_map of (slice_set functions number one)) (flat_map of functions ++ of one)
  set-standing [] number old one at free = cc
  set-standing (f ∷ functions) zero old one at free =
      subst (λ (l : List K). IsPermutation (of one ++ flat_map of functions) ((l ++ flat_map of functions) ++ of one)) (sym (ap of (some-same f old at) ∙ free)) (IsPermutation-append_comm (of one) (flat_map of functions))
  set-standing (f ∷ functions) (suc number) old one at free =
      subst (λ (l : List K). IsPermutation (of f ++ flat_map of (slice_set functions number one)) l) (sym (append_assoc (of f) (flat_map of functions) (of one)))
      (IsPermutation-append_right (of f) _ _ (set-standing functions number old one at free))

  pub defining-standing : (functions : List TypedFunction) (number : ℕ) (old one : TypedFunction) → slice_get functions number ≡ Some old → of old ≡ [] → IsPermutation (flat_map of (defining functions number one)) (flat_map of functions ++ of one)
  defining-standing functions number old one at free =
      let less : number < length functions = slice_get_within functions number old at in
      let within : nat_lt number (length functions) ≡ true = grind (arith, nat_tests) in rw within (set-standing functions number old one at free)

  pub declared-standing : (o : Option ℕ) (functions : List TypedFunction) (g : Function) → of (declared g) ≡ [] → flat_map of (functions_or o functions g) ≡ flat_map of functions
  declared-standing None functions g free =
      flat_map-append of functions (declared g ∷ []) ∙ ap (λ (l : List K). flat_map of functions ++ (l ++ [])) free ∙ append-nil (flat_map of functions)
  declared-standing (Some number) functions g free = refl
