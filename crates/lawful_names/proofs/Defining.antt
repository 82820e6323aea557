-- One more function: what is kept of it and of all others once it is declared, and defined where it has a body.
use Rattle.std.proofs.Common.{◌≡◌, ℕ, ◌<◌, List, ◌∷◌, Bool, true, false, length, refl, sym, ap, ◌∙◌, subst, arith}
use Rattle.std.specs.Prelude.{Option, Some, None, is_some, ◌||◌, nat_lt, slice_get}
use Rattle.std.specs.Str.{bytes_eq}
use Rattle.std.proofs.lemmas.Bool.Decides.{nat_tests}
use Rattle.std.proofs.lemmas.Option.{slice_get_within}
use Rattle.std.proofs.lemmas.Slice.Eq.{bytes_eq-Decides}
use Rattle.c_scopes.specs.declared.scopes.Declared.{Declared}
use Rattle.c_scopes.specs.Scopes.{Known, meaning_of}
use Rattle.c_tree.specs.declared.function.Function.{Function}
use Rattle.c_tree.specs.declared.program.Item.{Item}
use Rattle.c_tree.specs.declared.statement.Block.{Block}
use Rattle.c_typed.specs.declared.typed.Typed.{Typed}
use Rattle.c_typed.specs.declared.typed.TypedFunction.{TypedFunction}
use Rattle.predefined_calls.specs.Calls.{callee_of}
use Rattle.c_seen.specs.declared.functions.Declaration.{Declaration}
use Rattle.c_seen.specs.declared.seen.Meaning.TheVariants as means
use Rattle.c_seen.specs.declared.seen.Seen.TheVariants as seen
use Rattle.c_seen.specs.Functions.{function_at, functions_of, is_defined, defined_by, is_alike, differs, declaring_function}
use Rattle.c_seen.specs.Sources.{function_seen}
use Rattle.tied_names.specs.declared.tie.Tie.{Tie}
use Rattle.tied_names.specs.declared.tie.Tie.TheVariants as ties
use Rattle.tied_names.specs.Ties.{Here, tied_or}
use Rattle.c_types.specs.Sources.{Source, function_number, defined, parameters_of, number_or, functions_or, defining, inside_of, body_of, after_body}
use Rattle.lawful_names.proofs.Agreement.{sorts, AreParameters, IsFunction}
use Rattle.lawful_names.proofs.Alike.{alike-gives, alike-sorts}
use Rattle.lawful_names.proofs.Clean.{Clean}
use Rattle.lawful_names.proofs.Keeping.{State, number_in, Keeps, Covers, Fresh, Kept, passed, found, get-append, get-set, get-if, some-same, parameters-are, keeps-other, Entry, own_number, own_functions, kept-alike, entry-of}
use Rattle.lawful_names.proofs.Within.{Within, within-more, block-grows}

pub get-defined : (functions : List TypedFunction) (number : ℕ) (one typed : TypedFunction) → slice_get functions number ≡ Some typed → slice_get (defining functions number one) number ≡ Some one
get-defined functions number one typed p =
    let less : number < length functions = slice_get_within functions number typed p in
    let within : nat_lt number (length functions) ≡ true = grind (arith, nat_tests) in rw within (get-set functions number one less)

get-functions : (o : Option ℕ) (functions : List TypedFunction) (g : Function) (k : ℕ) (x : TypedFunction) → slice_get functions k ≡ Some x → slice_get (functions_or o functions g) k ≡ slice_get functions k
get-functions None functions g k x p = get-append functions _ k x p
get-functions (Some number) functions g k x p = refl

same-name : (name : List ℕ) → bytes_eq name name ≡ true
same-name name = (bytes_eq-Decides name name).1 refl

module _ (source : Typed) (items : List Item) where
  -- the functions once the body is among them: the own one has it, and all others stay
  pub record Finished (g : Function) (number : ℕ) (before after : List TypedFunction) (is_complete : Bool) : Type 0 where
    pub entry : Entry source items g.name.name g number after is_complete
    pub others : (k : ℕ) → (number ≡ k → ⊥) → slice_get after k ≡ slice_get before k

  pub finished : (s : Source) (number : ℕ) (g : Function) (body : Option Block) (is_complete : Bool) → Entry source items g.name.name g number s.functions is_complete → Within (after_body s number g body).here.objects source.objects
      → Finished g number s.functions (after_body s number g body).functions (is_some body || is_complete)
  finished s number g None is_complete e within = record { entry = e; others = λ k apart. refl }
  finished s number g (Some body) is_complete e within =
      let after : Here = (parameters_of s.here number g.params).after in
      let one : TypedFunction = defined g (parameters_of s.here number g.params).numbers (body_of s number g body).value in record {
        entry = record {
          typed = one;
          stands = get-defined s.functions number one e.typed e.stands;
          named = refl;
          gives = refl;
          complete = refl;
          parameters = λ p. parameters-are source s.here number g.params (within-more _ _ _ (block-grows body after (inside_of number g)) within);
        };
        others = λ k apart. get-if (nat_lt number (length s.functions)) s.functions number k one apart;
      }

  -- what is in scope once an item has declared it
  abbrev pub with_function : State → ℕ → Function → ℕ → List TypedFunction → State
  with_function st item g number functions = record {
    seen = (g.name.name, record { depth = 0; what = means.Function item }) ∷ st.seen;
    tied = (g.name.name, record { depth = 0; what = ties.Function number item }) ∷ st.tied;
    earlier = declaring_function items st.earlier item g;
    functions = functions;
  }

  abbrev IsFinished : Function → State → List TypedFunction → Type 0
  IsFinished g st functions = Finished g (own_number st g.name.name) (own_functions st g) functions (is_some g.body || is_defined st.earlier g.name.name)

  pub own-keeps : (g : Function) (st : State) (item : ℕ) (functions : List TypedFunction) → function_at items item ≡ Some g → IsFinished g st functions
      → Keeps source items g.name.name (own_number st g.name.name) g (with_function st item g (own_number st g.name.name) functions)
  own-keeps g st item functions at f = record {
    last = item;
    scoped = found g.name.name g.name.name _ st.seen (same-name g.name.name);
    numbered = ap (λ (o : Option (Declared Tie)). function_number (tied_or o (callee_of g.name.name)))
        (found g.name.name g.name.name (record { depth = 0; what = ties.Function (own_number st g.name.name) item }) st.tied (same-name g.name.name));
    newest = record { item = item; differs = differs items st.earlier g; is_defined = is_some g.body || is_defined st.earlier g.name.name };
    known = found g.name.name g.name.name _ st.earlier (same-name g.name.name);
    function = g;
    declares = at;
    gives = refl;
    takes = refl;
    typed = f.entry.typed;
    stands = f.entry.stands;
    named = f.entry.named;
    typed_gives = f.entry.gives;
    complete = f.entry.complete;
    parameters = f.entry.parameters;
  }

  -- by another declaration that gives and takes the same
  keeps-as : (name : List ℕ) (number : ℕ) (one other : Function) (st : State) → one.gives ≡ other.gives → sorts one ≡ sorts other → Keeps source items name number one st → Keeps source items name number other st
  keeps-as name number one other st gives takes k = record {
    last = k.last;
    scoped = k.scoped;
    numbered = k.numbered;
    newest = k.newest;
    known = k.known;
    function = k.function;
    declares = k.declares;
    gives = k.gives ∙ gives;
    takes = k.takes ∙ takes;
    typed = k.typed;
    stands = k.stands;
    named = k.named;
    typed_gives = k.typed_gives ∙ gives;
    complete = k.complete;
    parameters = λ p. subst (AreParameters source k.typed.params) takes (k.parameters p);
  }

  -- another name has another number
  apart-numbers : (g : Function) (name : List ℕ) (number : ℕ) (of : Function) (st : State) → bytes_eq g.name.name name ≡ false → (complete : Bool) → Entry source items g.name.name g (own_number st g.name.name) (own_functions st g) complete
      → Keeps source items name number of st → own_number st g.name.name ≡ number → ⊥
  apart-numbers g name number of st apart complete e k is =
      let one : slice_get (own_functions st g) number ≡ Some e.typed = ap (slice_get (own_functions st g)) (sym is) ∙ e.stands in
      let other : slice_get (own_functions st g) number ≡ Some k.typed = get-functions (number_in st.tied g.name.name) st.functions g number k.typed k.stands ∙ k.stands in
      let same : e.typed ≡ k.typed = some-same e.typed k.typed (sym one ∙ other) in
      let names : g.name.name ≡ name = sym e.named ∙ ap (λ (t : TypedFunction). t.name) same ∙ k.named in
      let equal : bytes_eq g.name.name name ≡ true = (bytes_eq-Decides g.name.name name).1 names in
      let never : true ≡ false = sym equal ∙ apart in cc

  function-keeps-by : (g : Function) (name : List ℕ) (same : Bool) → bytes_eq g.name.name name ≡ same → (number : ℕ) (of : Function) (st : State) (item : ℕ) (functions : List TypedFunction) → function_at items item ≡ Some g
      → Clean (seen.Function (function_seen items st.earlier g)) → Covers source items g.name.name st → IsFinished g st functions
      → Keeps source items name number of st → Keeps source items name number of (with_function st item g (own_number st g.name.name) functions)
  function-keeps-by g name false is number of st item functions at c all f k =
      keeps-other source items g.name.name name is number of st _ _ _ functions (passed g.name.name name _ st.earlier is)
      (f.others number (apart-numbers g name number of st is _ (entry-of source items g st c all) k) ∙ get-functions (number_in st.tied g.name.name) st.functions g number k.typed k.stands) k
  function-keeps-by g name true is number of st item functions at c all f k =
      let names : g.name.name ≡ name = (bytes_eq-Decides g.name.name name).0 is in
      let mine : Keeps source items g.name.name number of st = subst (λ (n : List ℕ). Keeps source items n number of st) (sym names) k in
      let alike : is_alike mine.function g ≡ true = kept-alike source items g number of st c mine in
      let own : own_number st g.name.name ≡ number = ap (λ (o : Option ℕ). number_or o (length st.functions)) mine.numbered in
      subst (λ (n : List ℕ). Keeps source items n number of (with_function st item g (own_number st g.name.name) functions)) names
      (subst (λ (n : ℕ). Keeps source items g.name.name n of (with_function st item g (own_number st g.name.name) functions)) own
      (keeps-as g.name.name (own_number st g.name.name) g of _ (sym (alike-gives mine.function g alike) ∙ mine.gives) (sym (alike-sorts mine.function g alike) ∙ mine.takes) (own-keeps g st item functions at f)))

  pub function-keeps : (g : Function) (name : List ℕ) (number : ℕ) (of : Function) (st : State) (item : ℕ) (functions : List TypedFunction) → function_at items item ≡ Some g
      → Clean (seen.Function (function_seen items st.earlier g)) → Covers source items g.name.name st → IsFinished g st functions
      → Keeps source items name number of st → Keeps source items name number of (with_function st item g (own_number st g.name.name) functions)
  function-keeps g name = function-keeps-by g name (bytes_eq g.name.name name) refl

  fresh-function : (g : Function) (name : List ℕ) (same : Bool) → bytes_eq g.name.name name ≡ same → (st : State) (item : ℕ) (functions : List TypedFunction) → function_at items item ≡ Some g → IsFinished g st functions
      → meaning_of st.earlier name ≡ None → number_in st.tied name ≡ None → Covers source items name (with_function st item g (own_number st g.name.name) functions)
  fresh-function g name false is st item functions at f none free =
      Fresh (passed g.name.name name _ st.earlier is ∙ none)
      (ap (λ (o : Option (Declared Tie)). function_number (tied_or o (callee_of name))) (passed g.name.name name (record { depth = 0; what = ties.Function (own_number st g.name.name) item }) st.tied is) ∙ free)
  fresh-function g name true is st item functions at f none free =
      let names : g.name.name ≡ name = (bytes_eq-Decides g.name.name name).0 is in
      subst (λ (n : List ℕ). Covers source items n (with_function st item g (own_number st g.name.name) functions)) names (Kept (own_number st g.name.name) g (own-keeps g st item functions at f))

  pub function-covers : (g : Function) (name : List ℕ) (st : State) (item : ℕ) (functions : List TypedFunction) → function_at items item ≡ Some g
      → Clean (seen.Function (function_seen items st.earlier g)) → Covers source items g.name.name st → IsFinished g st functions
      → Covers source items name st → Covers source items name (with_function st item g (own_number st g.name.name) functions)
  function-covers g name st item functions at c all f (Fresh none free) = fresh-function g name (bytes_eq g.name.name name) refl st item functions at f none free
  function-covers g name st item functions at c all f (Kept number of k) = Kept number of (function-keeps g name number of st item functions at c all f k)

  -- ---- at the end of the source

  pub kept-function : (name : List ℕ) (number item : ℕ) (g : Function) (st : State) → source.functions ≡ st.functions → functions_of items ≡ st.earlier → function_at items item ≡ Some g
      → Keeps source items name number g st → IsFunction source items name item number
  kept-function name number item g st functions earlier at k = record {
    function = k.typed;
    stands = ap (λ (l : List TypedFunction). slice_get l number) functions ∙ k.stands;
    named = k.named;
    declaration = g;
    declares = at;
    gives = k.typed_gives;
    defined = k.complete ∙ sym (ap (λ (l : List (Known Declaration)). is_defined l name) earlier ∙ ap defined_by k.known);
    parameters = k.parameters;
  }
