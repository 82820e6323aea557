-- In an expression, a place, a call or an argument views are given of the scalars that are exposed: an induction over
-- the tree, by what is seen in it and by what it is tied to in both walks.
use Rattle.std.proofs.Common.{◌≡◌, ℕ, ◌+◌, ◌<◌, List, [], ◌∷◌, ◌++◌, Bool, true, false, map, length, refl, sym, ap, ◌∙◌, subst, arith}
use Rattle.std.specs.Prelude.{Option, Some, None, not, ◌&&◌, ◌==◌, if◌then◌else◌, slice_get}
use Rattle.std.proofs.lemmas.List.{length-map}
use Rattle.sat_base.specs.declared.name.At.{At}
use Rattle.sat_base.specs.declared.name.Named.{Named}
use Rattle.sat_base.specs.declared.width.Width.{Width}
use Rattle.c_tree.specs.declared.call.Arg.{Arg, ind-Arg, map-Arg, roll-Arg}
use Rattle.c_tree.specs.declared.call.Arg.TheOpen as node
use Rattle.c_tree.specs.declared.call.Arg.TheVariants as arg
use Rattle.c_tree.specs.declared.call.Call.{Call, ind-Call, roll-Call}
use Rattle.c_tree.specs.declared.expression.Expr.{Expr, roll-Expr}
use Rattle.c_tree.specs.declared.expression.ExprKind.{ExprKind, ind-ExprKind, map-ExprKind, roll-ExprKind}
use Rattle.c_tree.specs.declared.expression.ExprKind.TheVariants as kind
use Rattle.c_tree.specs.declared.place.Place.{Place, ind-Place, map-Place, roll-Place}
use Rattle.c_tree.specs.declared.place.Place.TheVariants as places
use Rattle.c_tree.specs.declared.program.Item.{Item}
use Rattle.c_typed.specs.declared.call.Callee.{Callee}
use Rattle.c_typed.specs.declared.call.TypedArg.{TypedArg}
use Rattle.c_typed.specs.declared.call.TypedArg.TheVariants as argument
use Rattle.c_typed.specs.declared.call.TypedCall.{TypedCall}
use Rattle.c_typed.specs.declared.expression.TypedExpr.{TypedExpr}
use Rattle.c_typed.specs.declared.expression.TypedExprKind.{TypedExprKind}
use Rattle.c_typed.specs.declared.place.TypedPlace.{TypedPlace}
use Rattle.c_typed.specs.declared.typed.Typed.{Typed}
use Rattle.operator_meaning.specs.declared.object.Object.{Object}
use Rattle.operator_meaning.specs.declared.site.SiteKind.{SiteKind}
use Rattle.c_seen.specs.declared.seen.Kind.{Kind}
use Rattle.c_seen.specs.declared.seen.Kind.TheVariants as kinds
use Rattle.c_seen.specs.declared.seen.Marks.TheVariants as with_marks
use Rattle.c_seen.specs.declared.seen.Meaning.{Meaning}
use Rattle.c_seen.specs.declared.seen.Meaning.TheVariants as means
use Rattle.c_seen.specs.declared.seen.Need.TheVariants as needs
use Rattle.c_seen.specs.declared.seen.Seen.{Seen}
use Rattle.c_seen.specs.declared.seen.Seen.TheVariants as seen
use Rattle.c_seen.specs.declared.seen.View.{View as SeenView}
use Rattle.c_seen.specs.declared.seen.Wanted.{Wanted}
use Rattle.c_seen.specs.declared.seen.Wanted.TheVariants as wants
use Rattle.c_seen.specs.Expressions.{constants_in, placed, seen_in_expression, seen_in_kind, constant_of_kind, seen_in_place, seen_in_call, seen_in_argument, arguments_from}
use Rattle.c_seen.specs.Meanings.{Names, meaning, called_by, wanted_at}
use Rattle.c_seen.proofs.Expressions_seen as sees
use Rattle.tied_names.specs.declared.note.Note.{Note}
use Rattle.tied_names.specs.declared.note.Note.TheVariants as note
use Rattle.tied_names.specs.declared.tie.Asked.{Asked}
use Rattle.tied_names.specs.declared.tie.Asked.TheVariants as asks
use Rattle.tied_names.specs.declared.tie.Tie.{Tie}
use Rattle.tied_names.specs.declared.tie.TiedObject.{TiedObject}
use Rattle.tied_names.specs.Ties.{Here, tie_of, object_of, callee_by, call_kind, asked_of, is_scalar}
use Rattle.tied_expressions.specs.Expressions.{tied_expression, tied_kind, viewed_kind, tied_place, tied_call, tied_argument, arguments_from as tied_arguments}
use Rattle.tied_expressions.specs.Sites.{Tied, noted_if, exposed_if, with_conversion}
use Rattle.tied_expressions.proofs.Tied_equations as said
use Rattle.lawful_sources.specs.Things.{Bare, Taken, Number, View, Given, taken_at}
use Rattle.lawful_sources.specs.Things.{Place as ThePlace}
use Rattle.lawful_sources.specs.Expressions.{Look, Argued, Placed, Calling, argued_from, of_argument, of_kind, of_place, of_call, argument_look, kind_look, in_place, in_call, in_expression, in_argument}
use Rattle.lawful_sources.proofs.Passing.{Each, call-is, expression-is}
use Rattle.lawful_laws.proofs.Functions.{left, right}
use Rattle.lawful_laws.proofs.Statements.{earlier, later, tail, head}
use Rattle.lawful_names.proofs.Agreement.{Near, IsObject}
use Rattle.lawful_names.proofs.Calls.{TakesAt, CallFits, call_seen, call-fits, called-no-view}
use Rattle.lawful_names.proofs.Clean.{Clean, never}
use Rattle.lawful_names.proofs.Expressions.{place-stands}
use Rattle.lawful_names.proofs.Fitting.{Purpose, Reads, Writes, Gives, ampersand_of, need_for, use_of, place_seen, wanted_for, asked_for, need_if, NamesObject, place-names}
use Rattle.lawful_names.proofs.Looks as looks
use Rattle.lawful_names.proofs.Shapes.{Shaped, shows, is_sound, sound-clean}
use Rattle.lawful_names.proofs.Truths.{is-false}
use Rattle.lawful_objects.proofs.Exposing.{first, exposes, scalar_at, Exposes, nothing, more, beyond, sited, noted, values, any, any-fits}

-- ---- one place

scalar-alike : (source : Typed) (kind : Kind) (width : Width) (is_const : Bool) (tied : TiedObject) → IsObject source Shaped kind width is_const tied → scalar_at (slice_get source.objects tied.number) ≡ is_scalar tied
scalar-alike source kind width is_const tied o = ap scalar_at o.stands ∙ sym (ap is_scalar o.tied_as)

no-rows : (view rows : Bool) → rows ≡ false → (not view && rows) ≡ false
no-rows true rows p = refl
no-rows false rows p = p

-- a scalar is given as a view by `&` alone
no-scalar : (kind : Kind) (view : Bool) (rows columns : ℕ) (at : At) (width : Width) (is_const : Bool) (given : SeenView) (begins : At) → shows kind view rows columns ≡ true
    → Clean (seen.Place (place_seen at with_marks.None (Gives false given begins) (Some (means.Object kind width is_const)))) → (not view && rows == 0) ≡ false
no-scalar kinds.Scalar view rows columns at width is_const given begins p c = absurd (never begins c.view)
no-scalar kinds.Array view rows columns at width is_const given begins p c = no-rows view _ (is-false (rows == 0) (left (not (rows == 0)) _ (right (not view) _ p)))
no-scalar kinds.Table view rows columns at width is_const given begins p c = no-rows view _ (is-false (rows == 0) (left (not (rows == 0)) _ (right (not view) _ p)))
no-scalar kinds.View view rows columns at width is_const given begins p c = ap (λ (b : Bool). not b && rows == 0) (left view _ p)

exposed-by : (tied scalar : Bool) (number : ℕ) → scalar ≡ tied → exposes (if tied then note.Exposed number ∷ [] else []) ≡ (if scalar then number ∷ [] else []) ++ []
exposed-by true true number p = refl
exposed-by true false number p = cc
exposed-by false true number p = cc
exposed-by false false number p = refl

unexposed-by : (scalar : Bool) (number : ℕ) → scalar ≡ false → [] ≡ (if scalar then number ∷ [] else []) ++ []
unexposed-by true number p = cc
unexposed-by false number p = refl

module _ (source : Typed) (items : List Item) where
  abbrev pub Close : Names → Here → Type 0
  Close names here = Near source items Shaped names here

  bare-by : (purpose : Purpose) (at : At) (m : Option Meaning) (tied : TiedObject) (kind : Kind) (width : Width) (is_const : Bool) → m ≡ Some (means.Object kind width is_const) → IsObject source Shaped kind width is_const tied
      → Clean (seen.Place (place_seen at with_marks.None purpose m)) → Exposes source (exposed_if (ampersand_of purpose) tied) (ThePlace tied.number Bare (use_of purpose) ∷ [])
  bare-by Reads at m tied kind width is_const is o c = record { is = refl }
  bare-by Writes at m tied kind width is_const is o c = record { is = refl }
  bare-by (Gives true given begins) at m tied kind width is_const is o c = record { is = exposed-by (is_scalar tied) _ tied.number (scalar-alike source kind width is_const tied o) }
  bare-by (Gives false given begins) at m tied kind width is_const is o c = record {
    is = unexposed-by _ tied.number (ap scalar_at o.stands
        ∙ no-scalar kind o.object.view o.object.rows o.object.columns at width is_const given begins o.shape (subst (λ (m : Option Meaning). Clean (seen.Place (place_seen at with_marks.None (Gives false given begins) m))) is c));
  }

  -- ---- what is shown of each node

  abbrev KindExposes : ExprKind → Type 0
  KindExposes x = (names : Names) (here : Here) (objects : List Object) → Close names here
      → (Each is_sound (seen_in_kind x names needs.Number) → Exposes source (tied_kind x (first objects here)).notes ((kind_look source (tied_kind x here).value).stands None))
      × ((at : At) (view : SeenView) → Each is_sound (seen_in_kind x names (needs.View view at)) → Exposes source (viewed_kind x at (first objects here)).notes (in_argument source (viewed_kind x at here).value (Some (View view.width view.is_const))))

  abbrev ExpressionExposes : Expr → Type 0
  ExpressionExposes x = KindExposes x.kind

  abbrev PlaceExposes : Place → Type 0
  PlaceExposes x = (names : Names) (here : Here) (objects : List Object) (purpose : Purpose) → Close names here → Each is_sound (seen_in_place x names (ampersand_of purpose) (need_for purpose))
      → Exposes source (tied_place x (first objects here) (ampersand_of purpose)).notes (in_place source (tied_place x here (ampersand_of purpose)).value (use_of purpose))

  abbrev CallExposes : Call → Type 0
  CallExposes x = (names : Names) (here : Here) (objects : List Object) (is_needed : Bool) → Close names here → Each is_sound (seen_in_call x names (need_if is_needed))
      → Exposes source (tied_call x (first objects here)).notes (in_call source (tied_call x here).value is_needed)

  abbrev ArgumentExposes : Arg → Type 0
  ArgumentExposes x = (names : Names) (here : Here) (objects : List Object) (taken : Taken) → Close names here → Each is_sound (seen_in_argument x names (wanted_for taken))
      → Exposes source (tied_argument x (first objects here) (asked_for taken)).notes (in_argument source (tied_argument x here (asked_for taken)).value (Some taken))

  -- ---- steps

  expression-number : (x : Expr) → ExpressionExposes x → (names : Names) (here : Here) (objects : List Object) → Close names here → Each is_sound (seen_in_expression x names needs.Number)
      → Exposes source (tied_expression x (first objects here)).notes (in_expression source (tied_expression x here).value None)
  expression-number x each names here objects near p =
      subst (λ (t : Tied TypedExpr). Exposes source t.notes (in_expression source (tied_expression x here).value None)) (sym (said.tied-expression x (first objects here)))
      (subst (λ (t : Tied TypedExpr). Exposes source (tied_kind x.kind (first objects here)).notes (in_expression source t.value None)) (sym (said.tied-expression x here))
      (subst (λ (l : Look). Exposes source (tied_kind x.kind (first objects here)).notes (l.stands None)) (sym (expression-is source _))
      ((each names here objects near).0 (subst (λ (l : List Seen). Each is_sound l) (sees.expression-kind x names needs.Number) p))))

  pub converted : (width : Width) (due : Option Width) (x : TypedExpr) (ns : List Note) → Exposes source ns (in_expression source x None) → Exposes source ns (in_expression source (with_conversion width x) due)
  unfolding of_kind
  converted width due x ns p =
      subst (λ (l : Look). Exposes source ns (l.stands due)) (sym (expression-is source (with_conversion width x) ∙ looks.kind-Convert source width x)) (beyond source _ ns _ refl p)

  number-by : (x : ExprKind) (names : Names) (here : Here) (objects : List Object) (tied : Here → Tied TypedExprKind) (list : List Seen) (look : Look) → ((h : Here) → tied_kind x h ≡ tied h)
      → seen_in_kind x names needs.Number ≡ list → kind_look source (tied here).value ≡ look → (Each is_sound list → Exposes source (tied (first objects here)).notes (look.stands None))
      → Each is_sound (seen_in_kind x names needs.Number) → Exposes source (tied_kind x (first objects here)).notes ((kind_look source (tied_kind x here).value).stands None)
  number-by x names here objects tied list look ties sees is what p =
      subst (λ (t : Tied TypedExprKind). Exposes source t.notes ((kind_look source (tied_kind x here).value).stands None)) (sym (ties (first objects here)))
      (subst (λ (t : Tied TypedExprKind). Exposes source (tied (first objects here)).notes ((kind_look source t.value).stands None)) (sym (ties here))
      (subst (λ (l : Look). Exposes source (tied (first objects here)).notes (l.stands None)) (sym is) (what (subst (λ (l : List Seen). Each is_sound l) sees p))))

  -- what is no place is no view
  viewed-no : (X : Type 0) (at : At) (list rest : List Seen) → list ≡ seen.NoView at ∷ rest → Each is_sound list → X
  viewed-no X at list rest is p = absurd (never at (sound-clean _ (head is_sound _ _ (subst (λ (l : List Seen). Each is_sound l) is p))).view)

  call-no-view : (X : Type 0) (call : Call) (names : Names) (at : At) (view : SeenView) → Each is_sound (seen_in_call call names (needs.View view at)) → X
  call-no-view X call names at view p =
      absurd (called-no-view call.name.at (called_by names call.name.name) (length call.args) view at
      (sound-clean _ (head is_sound _ _ (subst (λ (l : List Seen). Each is_sound l) (sees.call-arguments call names (needs.View view at)) p))))

  -- a place of which a view is given
  address-exposes : (at : At) (taken : Taken) (ns : List Note) (named : TypedPlace) → Exposes source ns (in_place source named (Given (Some taken))) → Exposes source ns (in_argument source (argument.Address at named) (Some taken))
  unfolding of_argument
  address-exposes at taken ns named p = subst (λ (l : Argued). Exposes source ns (l.stands (Some taken))) (sym (looks.argument-Address source at named)) (beyond source _ ns _ refl p)

  given : (at : At) (view : SeenView) (named : Place) (names : Names) (here : Here) (objects : List Object) → Close names here → PlaceExposes named → Each is_sound (seen_in_kind (kind.Read named) names (needs.View view at))
      → Exposes source (viewed_kind (kind.Read named) at (first objects here)).notes (in_argument source (viewed_kind (kind.Read named) at here).value (Some (View view.width view.is_const)))
  given at view named names here objects near each p =
      subst (λ (t : Tied TypedArg). Exposes source t.notes (in_argument source (viewed_kind (kind.Read named) at here).value (Some (View view.width view.is_const)))) (sym (said.viewed-Read named at (first objects here)))
      (subst (λ (t : Tied TypedArg). Exposes source (tied_place named (first objects here) false).notes (in_argument source t.value (Some (View view.width view.is_const)))) (sym (said.viewed-Read named at here))
      (address-exposes at (View view.width view.is_const) _ _ (each names here objects (Gives false view at) near (subst (λ (l : List Seen). Each is_sound l) (sees.sees-Read named names (needs.View view at)) p))))

  place-by : (x : Place) (names : Names) (here : Here) (objects : List Object) (purpose : Purpose) (tied : Here → Tied TypedPlace) (list : List Seen) (look : Placed) → ((h : Here) → tied_place x h (ampersand_of purpose) ≡ tied h)
      → seen_in_place x names (ampersand_of purpose) (need_for purpose) ≡ list → in_place source (tied here).value ≡ look → (Each is_sound list → Exposes source (tied (first objects here)).notes (look (use_of purpose)))
      → Each is_sound (seen_in_place x names (ampersand_of purpose) (need_for purpose)) → Exposes source (tied_place x (first objects here) (ampersand_of purpose)).notes (in_place source (tied_place x here (ampersand_of purpose)).value (use_of purpose))
  place-by x names here objects purpose tied list look ties sees is what p =
      subst (λ (t : Tied TypedPlace). Exposes source t.notes (in_place source (tied_place x here (ampersand_of purpose)).value (use_of purpose))) (sym (ties (first objects here)))
      (subst (λ (t : Tied TypedPlace). Exposes source (tied (first objects here)).notes (in_place source t.value (use_of purpose))) (sym (ties here))
      (subst (λ (l : Placed). Exposes source (tied (first objects here)).notes (l (use_of purpose))) (sym is) (what (subst (λ (l : List Seen). Each is_sound l) sees p))))

  bare : (name : Named) (purpose : Purpose) (names : Names) (here : Here) → Close names here → Each is_sound (placed name with_marks.None names (ampersand_of purpose) (need_for purpose) ∷ [])
      → Exposes source (exposed_if (ampersand_of purpose) (object_of here name.name)) (ThePlace (object_of here name.name).number Bare (use_of purpose) ∷ [])
  bare name purpose names here near p =
      let c : Clean (seen.Place (place_seen name.at with_marks.None purpose (meaning names name.name))) = sound-clean _ (head is_sound _ _ p) in
      let o : NamesObject source items Shaped (meaning names name.name) (tie_of here name.name) = place-names source items Shaped name.at name.name with_marks.None purpose (meaning names name.name) (tie_of here name.name) (near.agree name.name) c in
      bare-by purpose name.at (meaning names name.name) (object_of here name.name) o.kind o.width o.is_const o.stands_for o.is c

  -- ---- calls and arguments

  value-exposes : (x : Expr) → ExpressionExposes x → ArgumentExposes (arg.Value x)
  unfolding of_argument
  value-exposes x each names here objects (Number width) near p =
      subst (λ (t : Tied TypedArg). Exposes source t.notes (in_argument source (tied_argument (arg.Value x) here (asks.Number width)).value (Some (Number width)))) (sym (said.argument-Number x (first objects here) width))
      (subst (λ (t : Tied TypedArg). Exposes source (tied_expression x (first objects here)).notes (in_argument source t.value (Some (Number width)))) (sym (said.argument-Number x here width))
      (subst (λ (l : Argued). Exposes source (tied_expression x (first objects here)).notes (l.stands (Some (Number width)))) (sym (looks.argument-Value source _))
      (beyond source _ _ _ refl (converted width _ _ _ (expression-number x each names here objects near (subst (λ (l : List Seen). Each is_sound l) (sees.argument-Value x names wants.Number) p))))))
  value-exposes x each names here objects (View width is_const) near p =
      let view : SeenView = record { width = width; is_const = is_const } in
      subst (λ (t : Tied TypedArg). Exposes source t.notes (in_argument source (tied_argument (arg.Value x) here asks.View).value (Some (View width is_const)))) (sym (said.argument-View x (first objects here)))
      (subst (λ (t : Tied TypedArg). Exposes source (viewed_kind x.kind x.at (first objects here)).notes (in_argument source t.value (Some (View width is_const)))) (sym (said.argument-View x here))
      ((each names here objects near).1 x.at view (subst (λ (l : List Seen). Each is_sound l) (sees.argument-Value x names (wants.View view) ∙ sees.expression-kind x names (needs.View view x.at)) p)))

  address-given : (at : At) (x : Place) → PlaceExposes x → ArgumentExposes (arg.Address at x)
  address-given at x each names here objects (Number width) near p =
      absurd ((place-stands source items Shaped is_sound sound-clean any (any-fits source items) x names here near).1 (subst (λ (l : List Seen). Each is_sound l) (sees.argument-Address at x names wants.Number) p))
  address-given at x each names here objects (View width is_const) near p =
      let view : SeenView = record { width = width; is_const = is_const } in
      subst (λ (t : Tied TypedArg). Exposes source t.notes (in_argument source (tied_argument (arg.Address at x) here asks.View).value (Some (View width is_const)))) (sym (said.argument-Address at x (first objects here) asks.View))
      (subst (λ (t : Tied TypedArg). Exposes source (tied_place x (first objects here) true).notes (in_argument source t.value (Some (View width is_const)))) (sym (said.argument-Address at x here asks.View))
      (address-exposes at (View width is_const) _ _ (each names here objects (Gives true view at) near (subst (λ (l : List Seen). Each is_sound l) (sees.argument-Address at x names (wants.View view)) p))))

  argument-given : (x : Arg) → ArgumentExposes x → (names : Names) (here : Here) (objects : List Object) → Close names here → (callee : Callee) (m : Option Meaning) (t : Option Tie) (place : ℕ) → TakesAt source items m t callee place
      → Each is_sound (seen_in_argument x names (wanted_at names.items m place)) → Exposes source (tied_argument x (first objects here) (asked_of here.items t place)).notes (in_argument source (tied_argument x here (asked_of here.items t place)).value (taken_at source callee place))
  argument-given x each names here objects near callee m t place one p =
      subst (λ (a : Asked). Exposes source (tied_argument x (first objects here) a).notes (in_argument source (tied_argument x here a).value (taken_at source callee place))) (sym (ap (λ (l : List Item). asked_of l t place) near.tied_items ∙ one.asked))
      (subst (λ (o : Option Taken). Exposes source (tied_argument x (first objects here) (asked_for one.taken)).notes (in_argument source (tied_argument x here (asked_for one.taken)).value o)) (sym one.takes)
      (each names here objects one.taken near (subst (λ (w : Wanted). Each is_sound (seen_in_argument x names w)) (ap (λ (l : List Item). wanted_at l m place) near.seen_items ∙ one.wanted) p)))

  -- ---- the induction

  abbrev SA : Type 0
  SA = (x : Arg) × ArgumentExposes x

  abbrev SK : Type 0
  SK = (x : ExprKind) × KindExposes x

  abbrev SP : Type 0
  SP = (x : Place) × PlaceExposes x

  abbrev SC : Type 0
  SC = (x : Call) × CallExposes x

  abbrev SE : Type 0
  SE = (x : Expr) × ExpressionExposes x

  on_kind : (y : node.ExprKind-F SA SK SP SC SE) → KindExposes (roll-ExprKind (map-ExprKind SA SK SP SC SE Arg ExprKind Place Call Expr (λ q. q.0) (λ q. q.0) (λ q. q.0) (λ q. q.0) (λ q. q.0) y))
  unfolding of_kind
  on_kind (node.Int value) = subst KindExposes (sym (kind.rolls-Int value)) (λ names here objects near. (
    number-by _ names here objects _ _ _ (said.tied-Int value) (sees.sees-Int value names needs.Number) (looks.kind-Int source value) (λ p. beyond source _ [] [] refl (nothing source)),
    λ at view. viewed-no _ at _ _ (sees.sees-Int value names (needs.View view at)),
  ))
  on_kind (node.Read named) = subst KindExposes (sym (kind.rolls-Read named.0)) (λ names here objects near. (
    number-by _ names here objects _ _ _ (said.tied-Read named.0) (sees.sees-Read named.0 names needs.Number) (looks.kind-Read source _) (λ p. beyond source _ _ _ refl (named.1 names here objects Reads near p)),
    λ at view p. given at view named.0 names here objects near named.1 p,
  ))
  on_kind (node.ReadOverflow word_at) = subst KindExposes (sym (kind.rolls-ReadOverflow word_at)) (λ names here objects near. (
    number-by _ names here objects _ _ _ (said.tied-ReadOverflow word_at) (sees.sees-ReadOverflow word_at names needs.Number) (looks.kind-ReadOverflow source word_at) (λ p. beyond source _ [] [] refl (nothing source)),
    λ at view. viewed-no _ at _ _ (sees.sees-ReadOverflow word_at names (needs.View view at)),
  ))
  on_kind (node.Unary mark mark_at part) = subst KindExposes (sym (kind.rolls-Unary mark mark_at part.0)) (λ names here objects near. (
    number-by _ names here objects _ _ _ (said.tied-Unary mark mark_at part.0) (sees.sees-Unary mark mark_at part.0 names needs.Number) (looks.kind-Unary source mark mark_at _ _)
        (λ p. beyond source _ _ _ refl (noted source _ mark_at _ _ (beyond source _ _ _ refl (expression-number part.0 part.1 names here objects near p)))),
    λ at view. viewed-no _ at _ _ (sees.sees-Unary mark mark_at part.0 names (needs.View view at)),
  ))
  on_kind (node.Binary mark mark_at one other) = subst KindExposes (sym (kind.rolls-Binary mark mark_at one.0 other.0)) (λ names here objects near. (
    number-by _ names here objects _ _ _ (said.tied-Binary mark mark_at one.0 other.0) (sees.sees-Binary mark mark_at one.0 other.0 names needs.Number) (looks.kind-Binary source mark mark_at _ _ _)
        (λ p. beyond source _ _ _ refl (more source _ _ _ _ (expression-number one.0 one.1 names here objects near (earlier is_sound _ _ p)) (noted source _ mark_at _ _ (beyond source _ _ _ refl (more source [] _ _ _ (values source _)
        (expression-number other.0 other.1 names here objects near (later is_sound (constants_in mark (constant_of_kind one.0.kind one.0.at) (constant_of_kind other.0.kind other.0.at)) _ (later is_sound (seen_in_expression one.0 names needs.Number) _ p)))))))),
    λ at view. viewed-no _ at _ _ (sees.sees-Binary mark mark_at one.0 other.0 names (needs.View view at)),
  ))
  on_kind (node.Cast width part) = subst KindExposes (sym (kind.rolls-Cast width part.0)) (λ names here objects near. (
    number-by _ names here objects _ _ _ (said.tied-Cast width part.0) (sees.sees-Cast width part.0 names needs.Number) (looks.kind-Cast source width _)
        (λ p. beyond source _ _ _ refl (expression-number part.0 part.1 names here objects near p)),
    λ at view. viewed-no _ at _ _ (sees.sees-Cast width part.0 names (needs.View view at)),
  ))
  on_kind (node.Choose cond one other) = subst KindExposes (sym (kind.rolls-Choose cond.0 one.0 other.0)) (λ names here objects near. (
    number-by _ names here objects _ _ _ (said.tied-Choose cond.0 one.0 other.0) (sees.sees-Choose cond.0 one.0 other.0 names needs.Number) (looks.kind-Choose source _ _ _)
        (λ p. beyond source _ _ _ refl (more source _ _ _ _ (expression-number cond.0 cond.1 names here objects near (earlier is_sound _ _ p))
        (more source _ _ _ _ (expression-number one.0 one.1 names here objects near (earlier is_sound _ _ (later is_sound (seen_in_expression cond.0 names needs.Number) _ p)))
        (expression-number other.0 other.1 names here objects near (later is_sound (seen_in_expression one.0 names needs.Number) _ (later is_sound (seen_in_expression cond.0 names needs.Number) _ p)))))),
    λ at view. viewed-no _ at _ _ (sees.sees-Choose cond.0 one.0 other.0 names (needs.View view at)),
  ))
  on_kind (node.Call call) = subst KindExposes (sym (kind.rolls-Call call.0)) (λ names here objects near. (
    number-by _ names here objects _ _ _ (said.tied-Call call.0) (sees.sees-Call call.0 names needs.Number) (looks.kind-Call source _) (λ p. beyond source _ _ _ refl (call.1 names here objects true near p)),
    λ at view p. call-no-view _ call.0 names at view (subst (λ (l : List Seen). Each is_sound l) (sees.sees-Call call.0 names (needs.View view at)) p),
  ))

  on_place : (y : node.Place-F SA SK SP SC SE) → PlaceExposes (roll-Place (map-Place SA SK SP SC SE Arg ExprKind Place Call Expr (λ q. q.0) (λ q. q.0) (λ q. q.0) (λ q. q.0) (λ q. q.0) y))
  unfolding of_place
  on_place (node.Plain name) = subst PlaceExposes (sym (places.rolls-Plain name)) (λ names here objects purpose near.
      place-by _ names here objects purpose _ _ _ (λ h. said.place-Plain name h _) (sees.place-Plain name names _ _) (looks.place-Plain source _ _) (λ p. bare name purpose names here near p))
  on_place (node.Index name mark_at index) = subst PlaceExposes (sym (places.rolls-Index name mark_at index.0)) (λ names here objects purpose near.
      place-by _ names here objects purpose _ _ _ (λ h. said.place-Index name mark_at index.0 h _) (sees.place-Index name mark_at index.0 names _ _) (looks.place-Index source _ _ _ _ _)
      (λ p. beyond source _ _ _ refl (sited source _ _ _ (beyond source _ _ _ refl (expression-number index.0 index.1 names here objects near (tail is_sound _ _ p))))))
  on_place (node.Index2 name first_at one second_at other) = subst PlaceExposes (sym (places.rolls-Index2 name first_at one.0 second_at other.0)) (λ names here objects purpose near.
      place-by _ names here objects purpose _ _ _ (λ h. said.place-Index2 name first_at one.0 second_at other.0 h _) (sees.place-Index2 name first_at one.0 second_at other.0 names _ _) (looks.place-Index2 source _ _ _ _ _ _ _ _)
      (λ p. beyond source _ _ _ refl (sited source _ _ _ (beyond source _ _ _ refl (more source _ _ _ _ (expression-number one.0 one.1 names here objects near (earlier is_sound _ _ (tail is_sound _ _ p)))
      (sited source _ _ _ (beyond source _ _ _ refl (expression-number other.0 other.1 names here objects near (later is_sound (seen_in_expression one.0 names needs.Number) _ (tail is_sound _ _ p))))))))))
  on_place (node.Deref star_at name) = subst PlaceExposes (sym (places.rolls-Deref star_at name)) (λ names here objects purpose near.
      place-by _ names here objects purpose _ _ _ (λ h. said.place-Deref star_at name h _) (sees.place-Deref star_at name names _ _) (looks.place-Deref source _ _ _ _)
      (λ p. beyond source _ _ _ refl (record { is = refl })))

  on_argument : (y : node.Arg-F SA SK SP SC SE) → ArgumentExposes (roll-Arg (map-Arg SA SK SP SC SE Arg ExprKind Place Call Expr (λ q. q.0) (λ q. q.0) (λ q. q.0) (λ q. q.0) (λ q. q.0) y))
  on_argument (node.Value value) = subst ArgumentExposes (sym (arg.rolls-Value value.0)) (value-exposes value.0 value.1)
  on_argument (node.Address at named) = subst ArgumentExposes (sym (arg.rolls-Address at named.0)) (address-given at named.0 named.1)

  arguments-expose : (ys : List SA) (names : Names) (here : Here) (objects : List Object) → Close names here → (callee : Callee) (m : Option Meaning) (t : Option Tie) (place count : ℕ) → place + length ys ≡ count
      → ((k : ℕ) → k < count → TakesAt source items m t callee k) → Each is_sound (arguments_from (map (λ (q : SA). q.0) ys) names m place)
      → Exposes source (tied_arguments (map (λ (q : SA). q.0) ys) (first objects here) t place).notes (argued_from source callee place (map (argument_look source) (tied_arguments (map (λ (q : SA). q.0) ys) here t place).value))
  arguments-expose [] names here objects near callee m t place count is takes p = nothing source
  arguments-expose (y ∷ ys) names here objects near callee m t place count is takes p =
      more source _ _ _ _ (argument-given y.0 y.1 names here objects near callee m t place (takes place (omega arith)) (earlier is_sound _ _ p))
      (arguments-expose ys names here objects near callee m t (place + 1) count (omega arith) takes (later is_sound (seen_in_argument y.0 names (wanted_at names.items m place)) _ p))

  on_call : (y : node.Call-F SA SK SP SC SE) → CallExposes (record { name = y.name; args = map (λ (q : SA). q.0) y.args })
  unfolding of_call
  on_call y names here objects is_needed near p =
      let call : Call = record { name = y.name; args = map (λ (q : SA). q.0) y.args } in
      let parts : Each is_sound (call_seen source items Shaped call.name.at (called_by names call.name.name) (length call.args) is_needed ∷ arguments_from call.args names (meaning names call.name.name) 0) =
      subst (λ (l : List Seen). Each is_sound l) (sees.call-arguments call names (need_if is_needed)) p in
      let good : CallFits source items Shaped any (meaning names call.name.name) (tie_of here call.name.name) (length call.args) is_needed =
      call-fits source items Shaped is_sound any (any-fits source items) names near.seen_items near.seen_functions call.name.at call.name.name _ _ (near.agree call.name.name) (length call.args) is_needed (sound-clean _ (head is_sound _ _ parts)) in
      let long : length call.args ≡ length y.args = length-map y.args (λ (q : SA). q.0) in
      let kind : Option SiteKind = call_kind (callee_by (tie_of here call.name.name)) in
      let notes : List Note = noted_if kind call.name.at ++ (tied_arguments call.args (first objects here) (tie_of here call.name.name) 0).notes in
      subst (λ (t : Tied TypedCall). Exposes source t.notes (in_call source (tied_call call here).value is_needed)) (sym (said.call-parts call (first objects here)))
      (subst (λ (t : Tied TypedCall). Exposes source notes (in_call source t.value is_needed)) (sym (said.call-parts call here))
      (subst (λ (l : Calling). Exposes source notes (l is_needed)) (sym (call-is source _))
      (beyond source _ _ _ refl (noted source kind call.name.at _ _ (beyond source _ _ _ refl
      (arguments-expose y.args names here objects near (callee_by (tie_of here call.name.name)) (meaning names call.name.name) (tie_of here call.name.name) 0 (length call.args) (omega (arith, long)) good.takes (tail is_sound _ _ parts)))))))

  on_expression : (y : node.Expr-F SA SK SP SC SE) → ExpressionExposes (record { at = y.at; brackets = y.brackets; kind = y.kind.0 })
  on_expression y = y.kind.1

  pub argument-exposes : (x : Arg) → ArgumentExposes x
  argument-exposes = ind-Arg ArgumentExposes KindExposes PlaceExposes CallExposes ExpressionExposes
      (λ x y is. subst (λ z. ArgumentExposes (roll-Arg z)) is (on_argument y))
      (λ x y is. subst (λ z. KindExposes (roll-ExprKind z)) is (on_kind y))
      (λ x y is. subst (λ z. PlaceExposes (roll-Place z)) is (on_place y))
      (λ x y is. subst (λ z. CallExposes (roll-Call z)) is (on_call y))
      (λ x y is. subst (λ z. ExpressionExposes (roll-Expr z)) is (on_expression y))

  pub place-exposes : (x : Place) → PlaceExposes x
  place-exposes = ind-Place ArgumentExposes KindExposes PlaceExposes CallExposes ExpressionExposes
      (λ x y is. subst (λ z. ArgumentExposes (roll-Arg z)) is (on_argument y))
      (λ x y is. subst (λ z. KindExposes (roll-ExprKind z)) is (on_kind y))
      (λ x y is. subst (λ z. PlaceExposes (roll-Place z)) is (on_place y))
      (λ x y is. subst (λ z. CallExposes (roll-Call z)) is (on_call y))
      (λ x y is. subst (λ z. ExpressionExposes (roll-Expr z)) is (on_expression y))

  pub call-exposes : (x : Call) → CallExposes x
  call-exposes = ind-Call ArgumentExposes KindExposes PlaceExposes CallExposes ExpressionExposes
      (λ x y is. subst (λ z. ArgumentExposes (roll-Arg z)) is (on_argument y))
      (λ x y is. subst (λ z. KindExposes (roll-ExprKind z)) is (on_kind y))
      (λ x y is. subst (λ z. PlaceExposes (roll-Place z)) is (on_place y))
      (λ x y is. subst (λ z. CallExposes (roll-Call z)) is (on_call y))
      (λ x y is. subst (λ z. ExpressionExposes (roll-Expr z)) is (on_expression y))

  kind-exposes : (x : ExprKind) → KindExposes x
  kind-exposes = ind-ExprKind ArgumentExposes KindExposes PlaceExposes CallExposes ExpressionExposes
      (λ x y is. subst (λ z. ArgumentExposes (roll-Arg z)) is (on_argument y))
      (λ x y is. subst (λ z. KindExposes (roll-ExprKind z)) is (on_kind y))
      (λ x y is. subst (λ z. PlaceExposes (roll-Place z)) is (on_place y))
      (λ x y is. subst (λ z. CallExposes (roll-Call z)) is (on_call y))
      (λ x y is. subst (λ z. ExpressionExposes (roll-Expr z)) is (on_expression y))

  -- an expression that has to be a number
  pub number-exposes : (x : Expr) (names : Names) (here : Here) (objects : List Object) → Close names here → Each is_sound (seen_in_expression x names needs.Number)
      → Exposes source (tied_expression x (first objects here)).notes (in_expression source (tied_expression x here).value None)
  number-exposes x = expression-number x (kind-exposes x.kind)
