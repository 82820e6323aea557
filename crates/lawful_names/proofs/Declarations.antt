-- Objects that are declared in a block: once they are, names stand for what they are tied to, and they start rightly.
use Rattle.std.proofs.Common.{◌≡◌, ℕ, List, [], ◌∷◌, ◌++◌, Bool, true, false, length, refl, sym, ap, ◌∙◌, subst}
use Rattle.std.specs.Prelude.{flat_map, Option, Some, None, option_map, is_none, not, ◌||◌, if◌then◌else◌, nat_lt, slice_get}
use Rattle.std.specs.Str.{bytes_eq}
use Rattle.std.proofs.lemmas.Grind.{flat_map-append}
use Rattle.sat_base.specs.declared.name.At.{At}
use Rattle.sat_base.specs.declared.width.Width.{Width}
use Rattle.c_scopes.specs.Scopes.{meaning_of}
use Rattle.c_tree.specs.declared.call.Arg.{Arg}
use Rattle.c_tree.specs.declared.declaration.Decl.{Decl}
use Rattle.c_tree.specs.declared.declaration.Init.{Init}
use Rattle.c_tree.specs.declared.declaration.Init.TheVariants as init
use Rattle.c_tree.specs.declared.declaration.Objects.{Objects}
use Rattle.c_tree.specs.declared.function.Param.{Param}
use Rattle.c_tree.specs.declared.program.Item.{Item}
use Rattle.c_typed.specs.declared.call.TypedArg.{TypedArg}
use Rattle.c_typed.specs.declared.statement.Start.{Start}
use Rattle.c_typed.specs.declared.typed.Typed.{Typed}
use Rattle.operator_meaning.specs.declared.object.Object.{Object}
use Rattle.predefined_calls.specs.Calls.{callee_of}
use Rattle.declared_objects.specs.Initialisers.{bad_init}
use Rattle.declared_objects.specs.Lengths.{is_array}
use Rattle.c_seen.specs.declared.seen.Kind.{Kind}
use Rattle.c_seen.specs.declared.seen.Kind.TheVariants as kinds
use Rattle.c_seen.specs.declared.seen.Seen.{Seen}
use Rattle.c_seen.specs.declared.seen.Seen.TheVariants as seen
use Rattle.c_seen.specs.declared.seen.Wanted.{Wanted}
use Rattle.c_seen.specs.Declarations as scope
use Rattle.c_seen.specs.Declarations.{object, dimension, initialiser, is_static, wanted_of, meaning_of_declared, seen_in_declared, seen_in_objects, seen_in_lists, after_lists}
use Rattle.c_seen.specs.Expressions.{seen_in_argument}
use Rattle.c_seen.specs.Functions.{is_view}
use Rattle.c_seen.specs.Meanings.{Names, kind_of}
use Rattle.c_faults.specs.Rows.{at_if}
use Rattle.tied_names.specs.declared.tie.Asked.{Asked}
use Rattle.tied_names.specs.declared.tie.Asked.TheVariants as asks
use Rattle.tied_names.specs.Numbers.{is_exposed}
use Rattle.tied_names.specs.Ties.{Here}
use Rattle.tied_objects.specs.Objects.{object_of, object_of_parameter}
use Rattle.tied_expressions.specs.Expressions.{tied_argument}
use Rattle.tied_statements.specs.Declarations.{tie_to, after_declared, asked_by, start_value, starts_of, starts_in_lists}
use Rattle.lawful_sources.specs.Things.{Taken, Number, View, Thing, taken_by, taken_by_object}
use Rattle.lawful_sources.specs.Expressions.{argument_look, in_argument}
use Rattle.lawful_sources.specs.Statements.{in_value_of, in_start}
use Rattle.lawful_sources.proofs.Passing.{Each, none, next, joined}
use Rattle.lawful_laws.proofs.Objects.{declared-sound}
use Rattle.lawful_laws.proofs.Statements.{earlier, later}
use Rattle.lawful_names.proofs.Agreement.{Near, is_pointing, newest-agrees}
use Rattle.lawful_names.proofs.Clean.{Clean, never}
use Rattle.lawful_names.proofs.Expressions.{argument-stands}
use Rattle.lawful_names.proofs.Fitting.{Fits, wanted_for, asked_for}
use Rattle.lawful_names.proofs.Starting.{is_one, ByValue, Starts}
use Rattle.lawful_names.proofs.Values.{argument-values}
use Rattle.lawful_names.proofs.Within.{Within, within-more, stands-last, starts-grow, lists-grow}

-- the kind of each object that is declared rightly shows in it
pub record Shapes (Shaped : Kind → Object → Type 0) (sound : Seen → Bool) : Type 0 where
  pub declared : (decl : Decl) (is_local : Bool) (function : Option ℕ) (exposed : Bool) → sound (seen.Object (object decl is_local)) ≡ true → Shaped (kind_of decl) (object_of decl function exposed)
  pub parameters : (param : Param) (function : ℕ) (exposed : Bool) → Shaped (if is_view param then kinds.View else kinds.Scalar) (object_of_parameter param function exposed)

-- ---- names

pointing : (pointer array line : Bool) → pointer ≡ is_pointing (if pointer then kinds.View else (if not array then kinds.Scalar else (if line then kinds.Array else kinds.Table)))
pointing true array line = refl
pointing false true true = refl
pointing false true false = refl
pointing false false line = refl

module _ (source : Typed) (items : List Item) (Shaped : Kind → Object → Type 0) (sound : Seen → Bool) (shapes : Shapes Shaped sound) where
  pub declared-near : (names : Names) (here : Here) (depth : ℕ) (decl : Decl) (is_local : Bool) (function : Option ℕ) → Near source items Shaped names here → Within (after_declared here function decl).objects source.objects
      → sound (seen.Object (object decl is_local)) ≡ true → Near source items Shaped (scope.after_declared names depth decl) (after_declared here function decl)
  declared-near names here depth decl is_local function near within p =
      let exposed : Bool = is_exposed here.exposed (length here.objects) in
      let one : Object = object_of decl function exposed in
      record {
        seen_items = near.seen_items;
        seen_functions = near.seen_functions;
        tied_items = near.tied_items;
        agree = λ name. newest-agrees source items Shaped name (bytes_eq decl.name.name name) (record { depth = depth; what = meaning_of_declared decl }) (record { depth = 0; what = tie_to (length here.objects) one })
            (meaning_of names.known name) (meaning_of here.known name) (callee_of name)
            (λ same. record {
              object = one;
              stands = stands-last here.objects source.objects one within;
              tied_as = refl;
              views = pointing decl.pointer (is_array decl) (is_none decl.cols);
              widths = refl;
              consts = refl;
              shape = shapes.declared decl is_local function exposed p;
            })
            (near.agree name);
      }

  pub object-sound : (names : Names) (depth : ℕ) (decl : Decl) → Each sound (seen_in_declared names depth decl) → sound (seen.Object (object decl (nat_lt 0 depth))) ≡ true
  object-sound names depth decl p = declared-sound sound names depth decl p

-- ---- starts

-- the one value that an object starts with
abbrev value_in : Bool → Here → Asked → Init → Option TypedArg
value_in true here asked start = None
value_in false here asked init.Nothing = None
value_in false here asked (init.One arg) = Some (tied_argument arg here asked).value
value_in false here asked (init.Flat values) = None
value_in false here asked (init.Rows rows) = None

start-by : (here : Here) (decl : Decl) (static : Bool) (start : Init) → (start_value here (record decl { is_static = static; init = start })).value ≡ value_in static here (asked_by decl) start
start-by here decl true start = refl
start-by here decl false init.Nothing = refl
start-by here decl false (init.One arg) = refl
start-by here decl false (init.Flat values) = refl
start-by here decl false (init.Rows rows) = refl

start-is : (here : Here) (decl : Decl) → (start_value here decl).value ≡ value_in decl.is_static here (asked_by decl) decl.init
start-is here decl = start-by here decl decl.is_static decl.init

pub no-array : (array rest : Bool) (at : At) → at_if (array || rest) at ≡ None → array ≡ false
no-array true rest at p = absurd (never at p)
no-array false rest at p = refl

pub wanted-start : (decl : Decl) (pointer array line : Bool) → array ≡ false → wanted_of (if pointer then kinds.View else (if not array then kinds.Scalar else (if line then kinds.Array else kinds.Table))) decl
    ≡ wanted_for (if pointer then View decl.width decl.is_const else Number decl.width)
wanted-start decl true array line p = refl
wanted-start decl false true line p = cc
wanted-start decl false false line p = refl

pub asked-start : (pointer : Bool) (width : Width) (is_const : Bool) → (if pointer then asks.View else asks.Number width) ≡ asked_for (if pointer then View width is_const else Number width)
asked-start true width is_const = refl
asked-start false width is_const = refl

module _ (source : Typed) (items : List Item) (Shaped : Kind → Object → Type 0) (sound : Seen → Bool) (clean : (s : Seen) → sound s ≡ true → Clean s) (shapes : Shapes Shaped sound)
    (test : Thing → Bool) (fits : Fits source items Shaped sound test) where
  one-value : (names : Names) (here : Here) → Near source items Shaped names here → (decl : Decl) (is_local : Bool) (function : ℕ) (exposed : Bool) (number : ℕ) → slice_get source.objects number ≡ Some (object_of decl (Some function) exposed)
      → sound (seen.Object (object decl is_local)) ≡ true → is_array decl ≡ false → (arg : Arg) → decl.is_static ≡ false → decl.init ≡ init.One arg → Each sound (seen_in_argument arg names (wanted_of (kind_of decl) decl))
      → Each test (in_value_of source number (Some (argument_look source (tied_argument arg here (asked_by decl)).value)))
  one-value names here near decl is_local function exposed number stands good single arg automatic given_one p =
      let one : Object = object_of decl (Some function) exposed in
      let given : Each sound (seen_in_argument arg names (wanted_for (taken_by one))) = subst (λ (w : Wanted). Each sound (seen_in_argument arg names w)) (wanted-start decl decl.pointer (is_array decl) (is_none decl.cols) single) p in
      let passes : Each test (in_argument source (tied_argument arg here (asked_for (taken_by one))).value (Some (taken_by one))) = argument-stands source items Shaped sound clean test fits arg names here (taken_by one) near given in
      let by : ByValue decl (argument_look source (tied_argument arg here (asked_by decl)).value).value = record {
        automatic = automatic;
        arg = arg;
        given = given_one;
        is = λ q. ap (λ (b : Bool). (argument_look source (tied_argument arg here (if b then asks.View else asks.Number decl.width)).value).value) q ∙ argument-values source arg here decl.width;
      } in
      let starts : Starts sound one (Some (argument_look source (tied_argument arg here (asked_by decl)).value).value) =
      record { decl = decl; is_local = is_local; function = function; exposed = exposed; is = refl; sounds = good; starts = by } in
      joined test _ _ (subst (λ (a : Asked). Each test (in_argument source (tied_argument arg here a).value (taken_by_object (slice_get source.objects number)))) (sym (asked-start decl.pointer decl.width decl.is_const))
      (subst (λ (o : Option Taken). Each test (in_argument source (tied_argument arg here (asked_for (taken_by one))).value o)) (sym (ap taken_by_object stands)) passes))
      (next test _ [] (fits.begins number one _ stands starts) (none test))

  bare-stands : (decl : Decl) (is_local : Bool) (function : ℕ) (exposed : Bool) (number : ℕ) → slice_get source.objects number ≡ Some (object_of decl (Some function) exposed) → sound (seen.Object (object decl is_local)) ≡ true
      → (decl.is_static ≡ false → is_one decl.init ≡ false) → Each test (in_value_of source number None)
  bare-stands decl is_local function exposed number stands good bare =
      next test _ [] (fits.begins number _ None stands (record { decl = decl; is_local = is_local; function = function; exposed = exposed; is = refl; sounds = good; starts = bare })) (none test)

  start-stands : (names : Names) (here : Here) → Near source items Shaped names here → (decl : Decl) (is_local : Bool) (function : ℕ) (exposed : Bool) (number : ℕ) → slice_get source.objects number ≡ Some (object_of decl (Some function) exposed)
      → sound (seen.Object (object decl is_local)) ≡ true → (static : Bool) → decl.is_static ≡ static → (start : Init) → decl.init ≡ start → at_if (bad_init decl (is_static is_local decl) start) decl.name.at ≡ None → Each sound (initialiser names decl start)
      → Each test (in_value_of source number (option_map (argument_look source) (value_in static here (asked_by decl) start)))
  start-stands names here near decl is_local function exposed number stands good true held start is fine p = bare-stands decl is_local function exposed number stands good (λ q. let both : true ≡ false = sym held ∙ q in cc)
  start-stands names here near decl is_local function exposed number stands good false held init.Nothing is fine p = bare-stands decl is_local function exposed number stands good (λ q. ap is_one is)
  start-stands names here near decl is_local function exposed number stands good false held (init.One arg) is fine p =
      one-value names here near decl is_local function exposed number stands good (no-array (is_array decl) _ decl.name.at fine) arg held is p
  start-stands names here near decl is_local function exposed number stands good false held (init.Flat values) is fine p = bare-stands decl is_local function exposed number stands good (λ q. ap is_one is)
  start-stands names here near decl is_local function exposed number stands good false held (init.Rows rows) is fine p = bare-stands decl is_local function exposed number stands good (λ q. ap is_one is)

  declared-stands : (names : Names) (here : Here) (depth : ℕ) (decl : Decl) (function : ℕ) → Near source items Shaped names here → Within (after_declared here (Some function) decl).objects source.objects
      → Each sound (seen_in_declared names depth decl) → Each test (in_start source (record { object = length here.objects; value = (start_value here decl).value }))
  declared-stands names here depth decl function near within p =
      let exposed : Bool = is_exposed here.exposed (length here.objects) in
      let sounds : sound (seen.Object (object decl (nat_lt 0 depth))) ≡ true = object-sound source items Shaped sound shapes names depth decl p in
      let good : Clean (seen.Object (object decl (nat_lt 0 depth))) = clean _ sounds in
      subst (λ (v : Option TypedArg). Each test (in_value_of source (length here.objects) (option_map (argument_look source) v))) (sym (start-is here decl))
      (start-stands names here near decl (nat_lt 0 depth) function exposed (length here.objects) (stands-last here.objects source.objects _ within) sounds decl.is_static refl decl.init refl good.initialiser
      (earlier sound _ _ (later sound (dimension names decl.cols) _ (later sound (dimension names decl.rows) _ p))))

  pub starts-stand : (names : Names) (here : Here) (depth function : ℕ) (decls : List Decl) → Near source items Shaped names here → Within (starts_of here function decls).after.objects source.objects
      → Each sound (seen_in_objects names depth decls) → Each test (flat_map (in_start source) (starts_of here function decls).value) × Near source items Shaped (scope.after_objects names depth decls) (starts_of here function decls).after
  starts-stand names here depth function [] near within p = (none test, near)
  starts-stand names here depth function (decl ∷ decls) near within p =
      let first : Each sound (seen_in_declared names depth decl) = earlier sound (seen_in_declared names depth decl) (seen_in_objects (scope.after_declared names depth decl) depth decls) p in
      let inside : Within (after_declared here (Some function) decl).objects source.objects = within-more _ _ _ (starts-grow (after_declared here (Some function) decl) function decls) within in
      let rest : Each test (flat_map (in_start source) (starts_of (after_declared here (Some function) decl) function decls).value)
      × Near source items Shaped (scope.after_objects (scope.after_declared names depth decl) depth decls) (starts_of (after_declared here (Some function) decl) function decls).after =
      starts-stand (scope.after_declared names depth decl) (after_declared here (Some function) decl) depth function decls
      (declared-near source items Shaped sound shapes names here depth decl (nat_lt 0 depth) (Some function) near inside (object-sound source items Shaped sound shapes names depth decl first)) within
      (later sound (seen_in_declared names depth decl) (seen_in_objects (scope.after_declared names depth decl) depth decls) p) in
      (joined test _ _ (declared-stands names here depth decl function near inside first) rest.0, rest.1)

  flat-append : (xs ys : List Start) → Each test (flat_map (in_start source) xs) → Each test (flat_map (in_start source) ys) → Each test (flat_map (in_start source) (xs ++ ys))
  flat-append xs ys p q = subst (λ (l : List Thing). Each test l) (sym (flat_map-append (in_start source) xs ys)) (joined test _ _ p q)

  pub lists-stand : (names : Names) (here : Here) (depth function : ℕ) (lists : List Objects) → Near source items Shaped names here → Within (starts_in_lists here function lists).after.objects source.objects
      → Each sound (seen_in_lists names depth lists) → Each test (flat_map (in_start source) (starts_in_lists here function lists).value) × Near source items Shaped (after_lists names depth lists) (starts_in_lists here function lists).after
  lists-stand names here depth function [] near within p = (none test, near)
  lists-stand names here depth function (list ∷ lists) near within p =
      let more : List Seen = seen_in_lists (scope.after_objects names depth list.decls) depth lists in
      let inside : Within (starts_of here function list.decls).after.objects source.objects = within-more _ _ _ (lists-grow (starts_of here function list.decls).after function lists) within in
      let first : Each test (flat_map (in_start source) (starts_of here function list.decls).value) × Near source items Shaped (scope.after_objects names depth list.decls) (starts_of here function list.decls).after =
      starts-stand names here depth function list.decls near inside (earlier sound (seen_in_objects names depth list.decls) more p) in
      let rest : Each test (flat_map (in_start source) (starts_in_lists (starts_of here function list.decls).after function lists).value)
      × Near source items Shaped (after_lists (scope.after_objects names depth list.decls) depth lists) (starts_in_lists (starts_of here function list.decls).after function lists).after =
      lists-stand (scope.after_objects names depth list.decls) (starts_of here function list.decls).after depth function lists first.1 within (later sound (seen_in_objects names depth list.decls) more p) in
      (flat-append _ _ first.0 rest.0, rest.1)
