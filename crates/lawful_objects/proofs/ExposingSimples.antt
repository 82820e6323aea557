-- In a simple statement, and in the value that an object starts with, views are given of the scalars that are exposed.
use Rattle.std.proofs.Common.{◌≡◌, ℕ, List, [], ◌∷◌, Bool, true, false, refl, sym, ap, subst}
use Rattle.std.specs.Prelude.{Option, Some, None, option_map, slice_get, is_none}
use Rattle.sat_base.specs.declared.width.Width.{Width}
use Rattle.sat_base.specs.declared.width.Width.TheVariants.{W32}
use Rattle.c_tree.specs.declared.call.Arg.{Arg}
use Rattle.c_tree.specs.declared.declaration.Decl.{Decl}
use Rattle.c_tree.specs.declared.declaration.Init.{Init}
use Rattle.c_tree.specs.declared.declaration.Init.TheVariants as init
use Rattle.c_tree.specs.declared.expression.Expr.{Expr}
use Rattle.c_tree.specs.declared.program.Item.{Item}
use Rattle.c_tree.specs.declared.simple.AssignMark.{AssignMark}
use Rattle.c_tree.specs.declared.simple.AssignMark.TheVariants as mark
use Rattle.c_tree.specs.declared.simple.Simple.{Simple}
use Rattle.c_tree.specs.declared.simple.Simple.TheVariants as simple
use Rattle.c_typed.specs.declared.call.TypedArg.{TypedArg}
use Rattle.c_typed.specs.declared.expression.TypedExpr.{TypedExpr}
use Rattle.c_typed.specs.declared.typed.Typed.{Typed}
use Rattle.declared_objects.specs.Lengths.{is_array}
use Rattle.declared_objects.specs.Initialisers.{bad_init}
use Rattle.operator_meaning.specs.declared.object.Object.{Object}
use Rattle.c_seen.specs.declared.seen.Need.TheVariants as needs
use Rattle.c_seen.specs.declared.seen.Wanted.{Wanted}
use Rattle.c_seen.specs.Declarations.{number_if_any, initialiser, is_static, wanted_of}
use Rattle.c_seen.specs.Expressions.{seen_in_place, seen_in_argument}
use Rattle.c_seen.specs.Meanings.{Names, kind_of}
use Rattle.c_seen.specs.Statements.{seen_in_simple, simples}
use Rattle.c_faults.specs.Rows.{at_if}
use Rattle.tied_names.specs.declared.note.Note.{Note}
use Rattle.tied_names.specs.declared.tie.Asked.{Asked}
use Rattle.tied_names.specs.Ties.{Here}
use Rattle.tied_objects.specs.Objects.{object_of}
use Rattle.tied_expressions.specs.Expressions.{tied_argument}
use Rattle.tied_expressions.specs.Sites.{Tied}
use Rattle.tied_statements.specs.Declarations.{asked_by, start_value}
use Rattle.tied_statements.specs.Statements.{assign_kind, assigned, tied_simple, tied_simples, tied_if_any, returned}
use Rattle.lawful_sources.specs.Things.{Taken, taken_by, taken_by_object}
use Rattle.lawful_sources.specs.Expressions.{argument_look, in_argument, in_expression}
use Rattle.lawful_sources.specs.Statements.{due_by, in_option, in_simple, in_simples, in_value, in_value_of, in_returned}
use Rattle.lawful_sources.proofs.Passing.{Each}
use Rattle.lawful_laws.proofs.Statements.{earlier, later}
use Rattle.lawful_names.proofs.Declarations.{no-array, wanted-start, asked-start}
use Rattle.lawful_names.proofs.Fitting.{Writes, wanted_for, asked_for}
use Rattle.lawful_names.proofs.Shapes.{is_sound}
use Rattle.lawful_objects.proofs.Exposing.{first, Exposes, nothing, more, beyond, before, noted}
use Rattle.lawful_objects.proofs.ExposingExpressions.{Close, converted, argument-exposes, place-exposes, call-exposes, number-exposes}

-- the one value that an object starts with, by its initialiser
abbrev start_in : Bool → Here → Asked → Init → Tied (Option TypedArg)
start_in true here asked start = record { value = None; notes = [] }
start_in false here asked init.Nothing = record { value = None; notes = [] }
start_in false here asked (init.One arg) = record { value = Some (tied_argument arg here asked).value; notes = (tied_argument arg here asked).notes }
start_in false here asked (init.Flat values) = record { value = None; notes = [] }
start_in false here asked (init.Rows rows) = record { value = None; notes = [] }

start-by : (here : Here) (decl : Decl) (static : Bool) (start : Init) → start_value here (record decl { is_static = static; init = start }) ≡ start_in static here (asked_by decl) start
start-by here decl true start = refl
start-by here decl false init.Nothing = refl
start-by here decl false (init.One arg) = refl
start-by here decl false (init.Flat values) = refl
start-by here decl false (init.Rows rows) = refl

start-is : (here : Here) (decl : Decl) → start_value here decl ≡ start_in decl.is_static here (asked_by decl) decl.init
start-is here decl = start-by here decl decl.is_static decl.init

module _ (source : Typed) (items : List Item) where
  -- ---- simple statements

  assigned-exposes : (m : AssignMark) (width : Width) (target : Option Object) (x : TypedExpr) (ns : List Note) → Exposes source ns (in_expression source x None) → Exposes source ns (in_expression source (assigned m width x) (due_by m target))
  assigned-exposes mark.Plain width target x ns p = converted source items width _ x ns p
  assigned-exposes mark.Plus width target x ns p = p
  assigned-exposes mark.Minus width target x ns p = p
  assigned-exposes mark.Times width target x ns p = p
  assigned-exposes mark.And width target x ns p = p
  assigned-exposes mark.Or width target x ns p = p
  assigned-exposes mark.Xor width target x ns p = p

  module _ (names : Names) (here : Here) (objects : List Object) (near : Close source items names here) where
    pub simple-exposes : (x : Simple) → Each is_sound (seen_in_simple names x) → Exposes source (tied_simple (first objects here) x).notes (in_simple source (tied_simple here x).value)
    unfolding in_simple
    simple-exposes (simple.Assign at target m mark_at value) p =
        more source _ _ _ _ (place-exposes source items target names here objects Writes near (earlier is_sound _ _ p)) (noted source (assign_kind m) mark_at _ _ (beyond source _ _ _ refl
        (assigned-exposes m _ _ _ _ (number-exposes source items value names here objects near (later is_sound (seen_in_place target names false needs.Target) _ p)))))
    simple-exposes (simple.Step at target up mark_at) p =
        more source _ _ _ _ (place-exposes source items target names here objects Writes near p) (record { is = refl })
    simple-exposes (simple.SetOverflow at value) p = converted source items W32 _ _ _ (number-exposes source items value names here objects near p)
    simple-exposes (simple.Call call) p = call-exposes source items call names here objects false near p

    pub simples-expose : (list : List Simple) → Each is_sound (simples names list) → Exposes source (tied_simples (first objects here) list).notes (in_simples source (tied_simples here list).value)
    simples-expose [] p = nothing source
    simples-expose (x ∷ list) p = more source _ _ _ _ (simple-exposes x (earlier is_sound _ _ p)) (simples-expose list (later is_sound (seen_in_simple names x) _ p))

    pub value-exposes : (value : Option Expr) → Each is_sound (number_if_any names value) → Exposes source (tied_if_any (first objects here) value).notes (in_option (in_value source) (tied_if_any here value).value)
    value-exposes None p = nothing source
    value-exposes (Some x) p = number-exposes source items x names here objects near p

    pub returned-exposes : (gives : Option Width) (in_loop : Bool) (value : Option Expr) → Each is_sound (number_if_any names value)
        → Exposes source (tied_if_any (first objects here) value).notes (in_option (in_returned source (record { in_loop = in_loop; gives = gives })) (returned gives (tied_if_any here value).value))
    returned-exposes None in_loop None p = nothing source
    returned-exposes None in_loop (Some x) p = number-exposes source items x names here objects near p
    returned-exposes (Some width) in_loop None p = nothing source
    returned-exposes (Some width) in_loop (Some x) p = converted source items width _ _ _ (number-exposes source items x names here objects near p)

    -- ---- starts

    one-exposes : (decl : Decl) (function : ℕ) (exposed : Bool) (number : ℕ) → slice_get source.objects number ≡ Some (object_of decl (Some function) exposed) → is_array decl ≡ false → (arg : Arg) → Each is_sound (seen_in_argument arg names (wanted_of (kind_of decl) decl))
        → Exposes source (tied_argument arg (first objects here) (asked_by decl)).notes (in_value_of source number (Some (argument_look source (tied_argument arg here (asked_by decl)).value)))
    one-exposes decl function exposed number stands single arg p =
        let one : Object = object_of decl (Some function) exposed in
        let given : Each is_sound (seen_in_argument arg names (wanted_for (taken_by one))) = subst (λ (w : Wanted). Each is_sound (seen_in_argument arg names w)) (wanted-start decl decl.pointer (is_array decl) (is_none decl.cols) single) p in
        before source _ _ _
        (subst (λ (a : Asked). Exposes source (tied_argument arg (first objects here) a).notes (in_argument source (tied_argument arg here a).value (taken_by_object (slice_get source.objects number)))) (sym (asked-start decl.pointer decl.width decl.is_const))
        (subst (λ (o : Option Taken). Exposes source (tied_argument arg (first objects here) (asked_for (taken_by one))).notes (in_argument source (tied_argument arg here (asked_for (taken_by one))).value o)) (sym (ap taken_by_object stands))
        (argument-exposes source items arg names here objects (taken_by one) near given)))
        (beyond source _ [] [] refl (nothing source))

    begins : (number : ℕ) → Exposes source [] (in_value_of source number None)
    begins number = beyond source _ [] [] refl (nothing source)

    start-exposes-by : (decl : Decl) (is_local : Bool) (function : ℕ) (exposed : Bool) (number : ℕ) → slice_get source.objects number ≡ Some (object_of decl (Some function) exposed) → (static : Bool) (start : Init)
        → at_if (bad_init decl (is_static is_local decl) start) decl.name.at ≡ None → Each is_sound (initialiser names decl start)
        → Exposes source (start_in static (first objects here) (asked_by decl) start).notes (in_value_of source number (option_map (argument_look source) (start_in static here (asked_by decl) start).value))
    start-exposes-by decl is_local function exposed number stands true start fine p = begins number
    start-exposes-by decl is_local function exposed number stands false init.Nothing fine p = begins number
    start-exposes-by decl is_local function exposed number stands false (init.One arg) fine p = one-exposes decl function exposed number stands (no-array (is_array decl) _ decl.name.at fine) arg p
    start-exposes-by decl is_local function exposed number stands false (init.Flat values) fine p = begins number
    start-exposes-by decl is_local function exposed number stands false (init.Rows rows) fine p = begins number

    pub start-exposes : (decl : Decl) (is_local : Bool) (function : ℕ) (exposed : Bool) (number : ℕ) → slice_get source.objects number ≡ Some (object_of decl (Some function) exposed)
        → at_if (bad_init decl (is_static is_local decl) decl.init) decl.name.at ≡ None → Each is_sound (initialiser names decl decl.init)
        → Exposes source (start_value (first objects here) decl).notes (in_value_of source number (option_map (argument_look source) (start_value here decl).value))
    start-exposes decl is_local function exposed number stands fine p =
        subst (λ (t : Tied (Option TypedArg)). Exposes source t.notes (in_value_of source number (option_map (argument_look source) (start_value here decl).value))) (sym (start-is (first objects here) decl))
        (subst (λ (t : Tied (Option TypedArg)). Exposes source (start_in decl.is_static (first objects here) (asked_by decl) decl.init).notes (in_value_of source number (option_map (argument_look source) t.value))) (sym (start-is here decl))
        (start-exposes-by decl is_local function exposed number stands decl.is_static decl.init fine p))
