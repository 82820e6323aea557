-- The lines about calls, arguments and conversions, and that numbers are the source's own, fit.
use Rattle.std.proofs.Common.{◌≡◌, ℕ, suc, ◌<◌, List, [], ◌∷◌, Bool, true, false, length, refl, sym, ap, ◌∙◌, arith}
use Rattle.std.specs.Prelude.{Option, Some, None, is_some, ◌||◌, not, nat_lt, slice_get, codes}
use Rattle.std.specs.Str.{bytes_eq}
use Rattle.std.proofs.lemmas.Bool.{eq-eqb}
use Rattle.std.proofs.lemmas.Bool.Decides.{nat_tests}
use Rattle.std.proofs.lemmas.List.{length-map}
use Rattle.std.proofs.lemmas.Option.{slice_get_within}
use Rattle.sat_base.specs.declared.width.Width.{Width}
use Rattle.sat_base.specs.declared.width.Width.TheVariants.{W16, W32}
use Rattle.c_tree.specs.declared.program.Item.{Item}
use Rattle.c_typed.specs.declared.typed.Typed.{Typed}
use Rattle.c_typed.specs.declared.typed.TypedFunction.{TypedFunction}
use Rattle.operator_meaning.specs.declared.object.Object.{Object}
use Rattle.predefined_calls.specs.Calls.{gives_of, takes_of}
use Rattle.c_seen.specs.declared.seen.Kind.{Kind}
use Rattle.c_seen.specs.declared.seen.Seen.{Seen}
use Rattle.lawful_sources.specs.Objects.{is_complete}
use Rattle.lawful_sources.specs.Rows.{callee_exists, object_exists, function_exists, parameter_count, takes_count, arguments_are_counted, argument_fits, gives_number, gives_value, value_is_given, is_defined, callee_is_defined, is_called_main, is_no_main, main_is_not_called, same_conversion, conversion_stands}
use Rattle.lawful_names.proofs.Agreement.{Sort, sort_of, sorts, AreParameters, IsFunction}
use Rattle.lawful_names.proofs.Fitting.{Fits, IsGoodCall}
use Rattle.lawful_names.proofs.Predefined.{of-predefined}

exists : {A : Type 0} (xs : List A) (n : ℕ) (x : A) → slice_get xs n ≡ Some x → nat_lt n (length xs) ≡ true
exists xs n x p = let less : n < length xs = slice_get_within xs n x p in grind (arith, nat_tests)

same-count : (source : Typed) (numbers : List ℕ) (list : List Sort) → AreParameters source numbers list → length numbers ≡ length list
same-count source [] [] all = refl
same-count source [] (sort ∷ list) all = absurd all
same-count source (number ∷ numbers) [] all = absurd all
same-count source (number ∷ numbers) (sort ∷ list) all = ap suc (same-count source numbers list all.1)

not-needed : (is_needed gives : Bool) → (is_needed ≡ true → gives ≡ true) → (not is_needed || gives) ≡ true
not-needed true gives p = p refl
not-needed false gives p = refl

same-itself : (width : Option Width) → same_conversion width width ≡ true
same-itself None = refl
same-itself (Some W16) = refl
same-itself (Some W32) = refl

module _ (source : Typed) (items : List Item) (Shaped : Kind → Object → Type 0) (sound : Seen → Bool) where
  parameter-count : (name : List ℕ) (item number arguments : ℕ) (is_needed : Bool) (f : IsFunction source items name item number) → IsGoodCall items name (is_some f.declaration.gives) (length f.declaration.params) arguments is_needed
      → arguments ≡ parameter_count (slice_get source.functions number)
  parameter-count name item number arguments is_needed f good =
      good.count ∙ sym (length-map f.declaration.params sort_of) ∙ sym (same-count source f.function.params (sorts f.declaration) (f.parameters (f.defined ∙ good.complete))) ∙ sym (ap parameter_count f.stands)

  pub objects-fit : Fits source items Shaped sound (object_exists source)
  objects-fit = record {
    places = λ at kind width is_const tied marks purpose o q c. exists source.objects tied.number o.object o.stands;
    calls = λ name item number arguments is_needed f good. refl;
    predefined = λ callee is_needed own given. refl;
    numbers = λ width. refl;
    views = λ width is_const. refl;
    marks = λ at site kind. refl;
    conversions = λ width. refl;
    constants = λ value. refl;
    begins = λ number object value stands starts. exists source.objects number object stands;
    statements = refl;
    leaves = λ in_loop. refl;
    returns = λ has_value gives. refl;
  }

  pub functions-fit : Fits source items Shaped sound (function_exists source)
  functions-fit = record {
    places = λ at kind width is_const tied marks purpose o q c. refl;
    calls = λ name item number arguments is_needed f good. exists source.functions number f.function f.stands;
    predefined = λ callee is_needed own given. of-predefined (λ c. callee_exists source c ≡ true) (λ op. refl) refl refl refl refl refl refl refl refl callee own;
    numbers = λ width. refl;
    views = λ width is_const. refl;
    marks = λ at site kind. refl;
    conversions = λ width. refl;
    constants = λ value. refl;
    begins = λ number object value stands starts. refl;
    statements = refl;
    leaves = λ in_loop. refl;
    returns = λ has_value gives. refl;
  }

  pub counts-fit : Fits source items Shaped sound (arguments_are_counted source)
  counts-fit = record {
    places = λ at kind width is_const tied marks purpose o q c. refl;
    calls = λ name item number arguments is_needed f good. eq-eqb _ _ (parameter-count name item number arguments is_needed f good);
    predefined = λ callee is_needed own given. eq-eqb _ _ (sym (of-predefined (λ c. takes_count source c ≡ length (takes_of c)) (λ op. refl) refl refl refl refl refl refl refl refl callee own));
    numbers = λ width. refl;
    views = λ width is_const. refl;
    marks = λ at site kind. refl;
    conversions = λ width. refl;
    constants = λ value. refl;
    begins = λ number object value stands starts. refl;
    statements = refl;
    leaves = λ in_loop. refl;
    returns = λ has_value gives. refl;
  }

  pub arguments-fit : Fits source items Shaped sound argument_fits
  arguments-fit = record {
    places = λ at kind width is_const tied marks purpose o q c. refl;
    calls = λ name item number arguments is_needed f good. refl;
    predefined = λ callee is_needed own given. refl;
    numbers = λ width. refl;
    views = λ width is_const. refl;
    marks = λ at site kind. refl;
    conversions = λ width. refl;
    constants = λ value. refl;
    begins = λ number object value stands starts. refl;
    statements = refl;
    leaves = λ in_loop. refl;
    returns = λ has_value gives. refl;
  }

  pub values-fit : Fits source items Shaped sound (value_is_given source)
  values-fit = record {
    places = λ at kind width is_const tied marks purpose o q c. refl;
    calls = λ name item number arguments is_needed f good. not-needed is_needed _ (λ p. ap gives_number f.stands ∙ ap is_some f.gives ∙ good.needed p);
    predefined = λ callee is_needed own given.
        not-needed is_needed _ (λ p. of-predefined (λ c. gives_value source c ≡ is_some (gives_of c)) (λ op. refl) refl refl refl refl refl refl refl refl callee own ∙ given p);
    numbers = λ width. refl;
    views = λ width is_const. refl;
    marks = λ at site kind. refl;
    conversions = λ width. refl;
    constants = λ value. refl;
    begins = λ number object value stands starts. refl;
    statements = refl;
    leaves = λ in_loop. refl;
    returns = λ has_value gives. refl;
  }

  pub callees-fit : Fits source items Shaped sound (callee_is_defined source)
  callees-fit = record {
    places = λ at kind width is_const tied marks purpose o q c. refl;
    calls = λ name item number arguments is_needed f good. ap is_complete f.stands ∙ f.defined ∙ good.complete;
    predefined = λ callee is_needed own given. of-predefined (λ c. is_defined source c ≡ true) (λ op. refl) refl refl refl refl refl refl refl refl callee own;
    numbers = λ width. refl;
    views = λ width is_const. refl;
    marks = λ at site kind. refl;
    conversions = λ width. refl;
    constants = λ value. refl;
    begins = λ number object value stands starts. refl;
    statements = refl;
    leaves = λ in_loop. refl;
    returns = λ has_value gives. refl;
  }

  pub main-fits : Fits source items Shaped sound (main_is_not_called source)
  main-fits = record {
    places = λ at kind width is_const tied marks purpose o q c. refl;
    calls = λ name item number arguments is_needed f good. ap (λ (o : Option TypedFunction). not (is_called_main o)) f.stands ∙ ap (λ (n : List ℕ). not (bytes_eq n (codes "main"))) f.named ∙ ap not good.other;
    predefined = λ callee is_needed own given. of-predefined (λ c. is_no_main source c ≡ true) (λ op. refl) refl refl refl refl refl refl refl refl callee own;
    numbers = λ width. refl;
    views = λ width is_const. refl;
    marks = λ at site kind. refl;
    conversions = λ width. refl;
    constants = λ value. refl;
    begins = λ number object value stands starts. refl;
    statements = refl;
    leaves = λ in_loop. refl;
    returns = λ has_value gives. refl;
  }

  pub conversions-fit : Fits source items Shaped sound conversion_stands
  conversions-fit = record {
    places = λ at kind width is_const tied marks purpose o q c. refl;
    calls = λ name item number arguments is_needed f good. refl;
    predefined = λ callee is_needed own given. refl;
    numbers = λ width. refl;
    views = λ width is_const. refl;
    marks = λ at site kind. refl;
    conversions = same-itself;
    constants = λ value. refl;
    begins = λ number object value stands starts. refl;
    statements = refl;
    leaves = λ in_loop. refl;
    returns = λ has_value gives. refl;
  }
