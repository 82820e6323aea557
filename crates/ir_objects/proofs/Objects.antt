-- The objects of a tree are those of its source, where each function has its number in the tree.
use Rattle.std.proofs.Common.{◌≡◌, ◌≤◌, ℕ, ◌+◌, List, [], ◌∷◌, Bool, true, map, refl, sym, ap, ◌∙◌, subst}
use Rattle.std.proofs.lemmas.List.Folds.{list_all-map}
use Rattle.std.proofs.lemmas.List.Sums.{length-filter, sum_by-cons}
use Rattle.std.proofs.lemmas.Option.{slice_get-map}
use Rattle.std.specs.Prelude.{◌&&◌, if◌then◌else◌, slice_get, Option, Some, None, option_map}
use Rattle.std.specs.List.{list_all, sum_by}
use Rattle.operator_meaning.specs.declared.object.Object.{Object}
use Rattle.c_typed.specs.declared.typed.Typed.{Typed}
use Rattle.c_typed.specs.declared.typed.TypedFunction.{TypedFunction}
use Rattle.call_structure.specs.Reaching.{IsDefined}
use Rattle.ir_arena.specs.declared.ir.Ir.{Ir}
use Rattle.ir_arena.specs.Tree.{TreeFunction}
use Rattle.ir_arena.specs.Placed.{function_of}
use Rattle.lawful_ir.specs.Built.{IsTreeOf}
use Rattle.source_agreement.proofs.Numbers.{there}
use Rattle.whole_trees.specs.Sources.{number_in, renumbered, setting_for, function_at, functions_along, numbers_defined}
use Rattle.lawful_sources.specs.Lawful.{IsLawful, is_own, count}
use Rattle.lawful_sources.specs.Objects.{is_complete, has_function, is_number, own_from, is_parameter_object}
use Rattle.lawful_ir.specs.Lawful.{table_function, tables_of}
use Rattle.lawful_ir.proofs.Alike.{left, right, never}
use Rattle.lawful_ir.proofs.Wholes.{at-all, objects-are, functions-are, complete-defined, table-there}
use Rattle.ir_objects.proofs.Numbers.{number_from, same-function}

module _ (typed : Typed) (ir : Ir) (lawful : IsLawful typed) (is : IsTreeOf typed ir) where
  abbrev moved : Object → Object
  moved object = renumbered is.definitions object

  abbrev owned : Object → Bool
  owned object = has_function typed object object.function

  -- ---- tests and sums of all objects

  alls : (test other : Object → Bool) → ((object : Object) → test object ≡ true → other (moved object) ≡ true) → (objects : List Object)
      → list_all test objects ≡ true → list_all other (map moved objects) ≡ true
  alls test other keeps [] p = refl
  alls test other keeps (object ∷ objects) p = rw (keeps object (left (test object) _ p)) (alls test other keeps objects (right (test object) _ p))

  pub all-kept : (test other : Object → Bool) → ((object : Object) → test object ≡ true → other (moved object) ≡ true) → list_all test typed.objects ≡ true → list_all other ir.objects ≡ true
  all-kept test other keeps p = ap (list_all other) (objects-are typed ir lawful is) ∙ alls test other keeps typed.objects p

  sums : (size other : Object → ℕ) → ((object : Object) → owned object ≡ true → size (moved object) ≡ other object) → (objects : List Object)
      → list_all owned objects ≡ true → sum_by size (map moved objects) ≡ sum_by other objects
  sums size other same [] p = refl
  sums size other same (object ∷ objects) p =
      cc (sum_by-cons size (moved object) (map moved objects), sum_by-cons other object objects, same object (left (owned object) _ p), sums size other same objects (right (owned object) _ p))

  pub sums-are : (size other : Object → ℕ) → ((object : Object) → owned object ≡ true → size (moved object) ≡ other object) → sum_by size ir.objects ≡ sum_by other typed.objects
  sums-are size other same = ap (sum_by size) (objects-are typed ir lawful is) ∙ sums size other same typed.objects lawful.objects_have_functions

  -- ---- the functions of objects

  defined-where : (number : ℕ) → is_complete (slice_get typed.functions number) ≡ true → IsDefined typed.functions number
  defined-where number complete = by (slice_get typed.functions number) refl complete
    where
      by : (function : Option TypedFunction) → slice_get typed.functions number ≡ function → is_complete function ≡ true → IsDefined typed.functions number
      by None at p = never p
      by (Some function) at p = complete-defined typed ir lawful is number function at p

  -- a function of an object of the source is one of the tree's by its number there
  pub owner-there : (object : Object) (owner : Option ℕ) → has_function typed object owner ≡ true → has_function (tables_of ir) (moved object) (option_map (number_in is.definitions) owner) ≡ true
  owner-there object None p = p
  owner-there object (Some number) p =
      let found = there typed is.definitions is.are number (defined-where number p) in
      let g = table-there typed ir lawful is (number_in is.definitions number) _ ir.functions
      (ap (λ (l : List TreeFunction). slice_get l (number_in is.definitions number)) (functions-are typed ir lawful is) ∙ found.is) in
      ap is_complete (slice_get-map table_function ir.functions (number_in is.definitions number) ∙ ap (option_map table_function) g.1)

  -- the function of a number in the tree, or else a number that no function has
  abbrev pub source_number : ℕ → ℕ
  source_number number = number_from typed is.definitions is.are number

  own-alike : (number : ℕ) (object : Object) (owner : Option ℕ) → has_function typed object owner ≡ true → is_number number (option_map (number_in is.definitions) owner) ≡ is_number (source_number number) owner
  own-alike number object None p = refl
  own-alike number object (Some function) p = same-function typed is.definitions is.are number function (defined-where function p)

  -- a function of the tree has no more objects of a kind than one of the source may have
  pub few-are : (test : Object → Bool) → ((object : Object) → test (moved object) ≡ test object) → (limit : ℕ) → ((function : ℕ) → count (λ object. is_own function object && test object) typed.objects ≤ limit)
      → (number : ℕ) → count (λ object. is_own number object && test object) ir.objects ≤ limit
  few-are test same limit few number =
      let as_many = sums-are _ (λ object. if is_own (source_number number) object && test object then 1 else 0) (λ object p. rw (own-alike number object object.function p, same object) refl) in
      subst (λ (n : ℕ). n ≤ limit) (sym (length-filter _ ir.objects ∙ as_many ∙ sym (length-filter _ typed.objects))) (few (source_number number))

  -- a function of the tree has the objects that the function of its number has in the source
  owns : (number first : ℕ) (objects : List Object) → list_all owned objects ≡ true → own_from number first (map moved objects) ≡ own_from (source_number number) first objects
  owns number first [] p = refl
  owns number first (object ∷ objects) p = rw (own-alike number object object.function (left (owned object) _ p), owns number (first + 1) objects (right (owned object) _ p)) refl

  pub owns-are : (number : ℕ) → own_from number 0 ir.objects ≡ own_from (source_number number) 0 typed.objects
  owns-are number = ap (own_from number 0) (objects-are typed ir lawful is) ∙ owns number 0 typed.objects lawful.objects_have_functions

  -- ---- parameters

  -- an object is a parameter in the tree where it is one in the source
  parameter-alike : (object : Option Object) → is_parameter_object (option_map moved object) ≡ is_parameter_object object
  parameter-alike None = refl
  parameter-alike (Some object) = refl

  pub parameters-alike : (params : List ℕ) → list_all (λ number. is_parameter_object (slice_get ir.objects number)) params ≡ list_all (λ number. is_parameter_object (slice_get typed.objects number)) params
  parameters-alike params =
      ap (λ (objects : List Object). list_all (λ number. is_parameter_object (slice_get objects number)) params) (objects-are typed ir lawful is) ∙ simp (slice_get-map moved typed.objects, parameter-alike)

  module _ (test : List ℕ → Bool) (none : test [] ≡ true) (all : list_all (λ (f : TypedFunction). test f.params) typed.functions ≡ true) where
    params-pass : (list : List ℕ) (first : ℕ) → list_all (λ (f : TreeFunction). test f.params) (functions_along (setting_for typed is.definitions) (map (function_at typed.functions) list) first) ≡ true
    params-pass [] first = refl
    params-pass (number ∷ list) first = rw (by (slice_get typed.functions number) refl) (params-pass list _)
      where
        by : (function : Option TypedFunction) → slice_get typed.functions number ≡ function → test (function_at typed.functions number).params ≡ true
        by None at = rw at none
        by (Some function) at = rw at (at-all (λ (f : TypedFunction). test f.params) typed.functions number function all at)

    -- the parameters of each function of the tree pass where those of each function of the source do
    pub params-kept : list_all (λ (f : TypedFunction). test f.params) (tables_of ir).functions ≡ true
    params-kept =
        list_all-map (λ (f : TypedFunction). test f.params) table_function ir.functions ∙ sym (list_all-map (λ (f : TreeFunction). test f.params) function_of ir.functions)
        ∙ ap (list_all (λ (f : TreeFunction). test f.params)) (functions-are typed ir lawful is) ∙ params-pass (numbers_defined is.definitions) 0
