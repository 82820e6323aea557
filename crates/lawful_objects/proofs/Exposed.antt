-- An object is marked as exposed exactly where it is a scalar of which a view is given.
use Rattle.std.proofs.Common.{◌≡◌, ℕ, suc, ◌+◌, List, [], ◌∷◌, Bool, true, false, refl, sym, ap, ◌∙◌, subst, arith, Ordering, Less, Equal, Greater}
use Rattle.std.specs.Prelude.{◌&&◌, ◌||◌, ◌==◌, if◌then◌else◌, flat_map, slice_get}
use Rattle.std.specs.BTreeSet.{insert_key}
use Rattle.std.specs.Cmp.{nat_cmp_is}
use Rattle.std.specs.FinMap.{nat_cmp-IsAntisymmetric}
use Rattle.std.specs.List.{list_any}
use Rattle.std.specs.Ordering.{nat_cmp, is_eq, match_ordering}
use Rattle.std.proofs.lemmas.Bool.{eqb-true, eq-eqb}
use Rattle.std.proofs.lemmas.List.Folds.{list_any-append}
use Rattle.c_tree.specs.declared.program.Program.{Program}
use Rattle.c_typed.specs.declared.typed.Typed.{Typed}
use Rattle.c_typed.specs.declared.typed.TypedFunction.{TypedFunction}
use Rattle.operator_meaning.specs.declared.object.Object.{Object}
use Rattle.predefined_calls.specs.Calls.{callee_of}
use Rattle.c_seen.specs.Sources.{seen_of}
use Rattle.tied_names.specs.declared.note.Note.{Note}
use Rattle.tied_names.specs.declared.note.Note.TheVariants as note
use Rattle.tied_names.specs.Numbers.{exposed_in, is_exposed}
use Rattle.c_types.specs.Sources.{opening, after_items}
use Rattle.c_types.specs.Tied.{IsTyped, notes_of}
use Rattle.lawful_sources.specs.Things.{Bare, Once, Twice, Star, Read, Written, Given, Thing, Place, Call, Argument, Mark, Conversion, Begins, Constant, Statement, Leave, Return}
use Rattle.lawful_sources.specs.Objects.{is_scalar, is_given, same_truth, exposed_from}
use Rattle.lawful_sources.specs.Statements.{in_function, in_source}
use Rattle.lawful_laws.proofs.Functions.{both}
use Rattle.lawful_names.specs.Spelled.{AllSpelled}
use Rattle.lawful_names.proofs.Agreement.{predefined-agrees}
use Rattle.lawful_names.proofs.Faultless.{seen-clean}
use Rattle.lawful_names.proofs.Predefined.{call-is-predefined}
use Rattle.lawful_names.proofs.Shapes.{Shaped, is_sound, sound-clean, all-sound}
use Rattle.lawful_names.proofs.Sources.{reached, start_of, names_at_start}
use Rattle.lawful_names.proofs.Truths.{both-ways}
use Rattle.lawful_objects.proofs.Exposing.{exposes, scalar_at, giving, gives}
use Rattle.lawful_objects.proofs.ExposingExpressions.{Close}
use Rattle.lawful_objects.proofs.ExposingItems.{Alike, items-alike}
use Rattle.lawful_objects.proofs.Walks.{Marked}

-- ---- numbers that are noted

same-by : (n k : ℕ) (same : Bool) → (n == k) ≡ same → is_eq (nat_cmp n k) ≡ same
same-by n k true p = let is : n ≡ k = eqb-true n k p in ap is_eq (sym (nat_cmp_is n k Equal is))
same-by n k false p = apart (nat_cmp n k) refl
  where
    apart : (o : Ordering) → nat_cmp n k ≡ o → is_eq o ≡ false
    apart Less q = refl
    apart Equal q = both-ways (n == k) (eq-eqb n k (nat_cmp-IsAntisymmetric n k q)) p
    apart Greater q = refl

or-false : (a : Bool) → (a || false) ≡ a
or-false true = refl
or-false false = refl

or-swapped : (a b c : Bool) → (a || (b || c)) ≡ (b || (a || c))
or-swapped true true c = refl
or-swapped true false c = refl
or-swapped false b c = refl

or-twice : (a b : Bool) → (a || b) ≡ (a || (a || b))
or-twice true b = refl
or-twice false b = refl

or-moved : (a b c : Bool) → ((a || b) || c) ≡ (b || (a || c))
or-moved true true c = refl
or-moved true false c = refl
or-moved false b c = refl

inserted-by : (n k x : ℕ) (numbers : List ℕ) (o : Ordering) → nat_cmp k x ≡ o → is_exposed (insert_key nat_cmp numbers k) n ≡ (is_eq (nat_cmp n k) || is_exposed numbers n)
    → is_exposed (match_ordering o (k ∷ x ∷ numbers) (x ∷ numbers) (x ∷ insert_key nat_cmp numbers k)) n ≡ (is_eq (nat_cmp n k) || is_exposed (x ∷ numbers) n)
inserted-by n k x numbers Less q p = refl
inserted-by n k x numbers Equal q p =
    let same : k ≡ x = nat_cmp-IsAntisymmetric k x q in
    or-twice (is_eq (nat_cmp n x)) (is_exposed numbers n) ∙ ap (λ (m : ℕ). is_eq (nat_cmp n m) || is_exposed (x ∷ numbers) n) (sym same)
inserted-by n k x numbers Greater q p = ap (λ (b : Bool). is_eq (nat_cmp n x) || b) p ∙ or-swapped (is_eq (nat_cmp n x)) _ _

inserted : (n k : ℕ) (numbers : List ℕ) → is_exposed (insert_key nat_cmp numbers k) n ≡ (is_eq (nat_cmp n k) || is_exposed numbers n)
inserted n k [] = refl
inserted n k (x ∷ numbers) = inserted-by n k x numbers (nat_cmp k x) refl (inserted n k numbers)

noted-in : (numbers : List ℕ) (notes : List Note) (n : ℕ) → is_exposed (exposed_in numbers notes) n ≡ (is_exposed numbers n || is_exposed (exposes notes) n)
noted-in numbers [] n = sym (or-false (is_exposed numbers n))
noted-in numbers (note.Site site ∷ notes) n = noted-in numbers notes n
noted-in numbers (note.Exposed k ∷ notes) n =
    noted-in (insert_key nat_cmp numbers k) notes n ∙ ap (λ (b : Bool). b || is_exposed (exposes notes) n) (inserted n k numbers) ∙ or-moved (is_eq (nat_cmp n k)) _ _

-- ---- things of which views are given

and-false : (a : Bool) → (a && false) ≡ false
and-false true = refl
and-false false = refl

and-or : (s a b : Bool) → ((s && a) || (s && b)) ≡ (s && (a || b))
and-or true a b = refl
and-or false a b = refl

none-is : (s : Bool) → false ≡ (s && false)
none-is s = sym (and-false s)

module _ (source : Typed) where
  bare-given : (n k : ℕ) (given same : Bool) → (n == k) ≡ same → scalar_at (slice_get source.objects k) ≡ given → is_exposed (if given then k ∷ [] else []) n ≡ (scalar_at (slice_get source.objects n) && same)
  bare-given n k true true p q = ap (λ (b : Bool). b || false) (same-by n k true p) ∙ sym (ap (λ (b : Bool). b && true) (ap (λ (m : ℕ). scalar_at (slice_get source.objects m)) (eqb-true n k p) ∙ q))
  bare-given n k true false p q = ap (λ (b : Bool). b || false) (same-by n k false p) ∙ none-is _
  bare-given n k false true p q = sym (ap (λ (b : Bool). b && true) (ap (λ (m : ℕ). scalar_at (slice_get source.objects m)) (eqb-true n k p) ∙ q))
  bare-given n k false false p q = none-is _

  one-given : (n : ℕ) (thing : Thing) → is_exposed (giving source thing) n ≡ (scalar_at (slice_get source.objects n) && is_given n thing)
  one-given n (Place k Bare Read) = none-is _
  one-given n (Place k Bare Written) = none-is _
  one-given n (Place k Bare (Given taken)) = bare-given n k (scalar_at (slice_get source.objects k)) (n == k) refl refl
  one-given n (Place k Once aim) = none-is _
  one-given n (Place k Twice aim) = none-is _
  one-given n (Place k Star aim) = none-is _
  one-given n (Call callee arguments is_needed) = none-is _
  one-given n (Argument is_view taken) = none-is _
  one-given n (Mark at site kind) = none-is _
  one-given n (Conversion is due) = none-is _
  one-given n (Begins object value) = none-is _
  one-given n (Constant value) = none-is _
  one-given n Statement = none-is _
  one-given n (Leave in_loop) = none-is _
  one-given n (Return has_value gives) = none-is _

  all-given : (n : ℕ) (things : List Thing) → is_exposed (gives source things) n ≡ (scalar_at (slice_get source.objects n) && list_any (is_given n) things)
  all-given n [] = none-is _
  all-given n (thing ∷ things) =
      list_any-append _ (giving source thing) (gives source things) ∙ ap (λ (b : Bool). b || is_exposed (gives source things) n) (one-given n thing)
      ∙ ap (λ (b : Bool). (scalar_at (slice_get source.objects n) && is_given n thing) || b) (all-given n things) ∙ and-or (scalar_at (slice_get source.objects n)) _ _

  -- ---- each object by its number

  same-truths : (one other : Bool) → one ≡ other → same_truth one other ≡ true
  same-truths true other p = sym p
  same-truths false true p = cc
  same-truths false false p = refl

  marked-rightly : (exposed : List ℕ) (things : List Thing) (number : ℕ) (objects : List Object) → Marked exposed number objects → ((k : ℕ) → slice_get objects k ≡ slice_get source.objects (number + k))
      → ((n : ℕ) → is_exposed exposed n ≡ (scalar_at (slice_get source.objects n) && list_any (is_given n) things)) → exposed_from things number objects ≡ true
  marked-rightly exposed things number [] m same told = refl
  marked-rightly exposed things number (object ∷ objects) m same told =
      let here : scalar_at (slice_get source.objects number) ≡ is_scalar object = ap scalar_at (ap (slice_get source.objects) (omega arith) ∙ sym (same 0)) in
      both _ _ (same-truths _ _ (m.0 ∙ told number ∙ ap (λ (b : Bool). b && list_any (is_given number) things) here))
      (marked-rightly exposed things (number + 1) objects m.1 (λ k. same (suc k) ∙ ap (slice_get source.objects) (omega arith)) told)

-- ---- the whole source

pub exposed-given : (program : Program) (source : Typed) → AllSpelled program → IsTyped program source → exposed_from (in_source source) 0 source.objects ≡ true
exposed-given program source spelled is =
    let exposed : List ℕ = exposed_in [] (notes_of program) in
    let near : Close source program.items (names_at_start program) (start_of program source).here =
    record { seen_items = refl; seen_functions = refl; tied_items = refl; agree = λ name. predefined-agrees source program.items Shaped name (callee_of name) (call-is-predefined name) } in
    let alike : Alike source program.items exposed (after_items (opening program.items [] []) 0 program.items) (after_items (start_of program source) 0 program.items) =
    items-alike source program.items exposed (opening program.items [] []) (start_of program source) (names_at_start program) [] 0 program.items
    (reached program source is_sound sound-clean is.tied (all-sound (seen_of program) (seen-clean program is.faultless) spelled)) near
    (record { both = record { objects = []; is = refl; marks = refl; grown = record { long = refl; marked = tt } }; many = refl; told = λ n. refl }) in
    marked-rightly source exposed (in_source source) 0 source.objects (subst (Marked exposed 0) (sym is.tied.objects) alike.both.grown.marked) (λ k. ap (slice_get source.objects) (omega arith))
    (λ n. noted-in [] (notes_of program) n ∙ alike.told n ∙ ap (λ (l : List TypedFunction). is_exposed (gives source (flat_map (in_function source) l)) n) (sym is.tied.functions) ∙ all-given source n (in_source source))
