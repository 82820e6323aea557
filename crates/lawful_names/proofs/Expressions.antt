-- What stands in an expression, a place, a call or an argument without a fault passes each test that fits: an induction
-- over the tree, by what is seen in it and by what it is tied to.
use Rattle.std.proofs.Common.{◌≡◌, ℕ, suc, ◌+◌, ◌<◌, List, [], ◌∷◌, Bool, true, false, map, length, refl, sym, ap, ◌∙◌, subst, arith}
use Rattle.std.specs.Prelude.{ℤ, Option, Some, None}
use Rattle.std.proofs.lemmas.List.{length-map}
use Rattle.sat_base.specs.declared.name.At.{At}
use Rattle.sat_base.specs.declared.name.Named.{Named}
use Rattle.sat_base.specs.declared.width.Width.{Width}
use Rattle.c_tree.specs.declared.call.Arg.{Arg, ind-Arg, map-Arg, roll-Arg}
use Rattle.c_tree.specs.declared.call.Arg.TheOpen as node
use Rattle.c_tree.specs.declared.call.Arg.TheVariants as arg
use Rattle.c_tree.specs.declared.call.Call.{Call, ind-Call, roll-Call}
use Rattle.c_tree.specs.declared.expression.Expr.{Expr, roll-Expr}
use Rattle.c_tree.specs.declared.expression.ExprKind.{ExprKind, ind-ExprKind, map-ExprKind, roll-ExprKind}
use Rattle.c_tree.specs.declared.expression.ExprKind.TheVariants as kind
use Rattle.c_tree.specs.declared.place.Place.{Place, ind-Place, map-Place, roll-Place}
use Rattle.c_tree.specs.declared.place.Place.TheVariants as places
use Rattle.c_tree.specs.declared.program.Item.{Item}
use Rattle.c_typed.specs.declared.call.Callee.{Callee}
use Rattle.c_typed.specs.declared.call.TypedArg.{TypedArg}
use Rattle.c_typed.specs.declared.call.TypedArg.TheVariants as argument
use Rattle.c_typed.specs.declared.call.TypedCall.{TypedCall}
use Rattle.c_typed.specs.declared.expression.TypedExpr.{TypedExpr}
use Rattle.c_typed.specs.declared.expression.TypedExprKind.{TypedExprKind}
use Rattle.c_typed.specs.declared.place.TypedPlace.{TypedPlace}
use Rattle.c_typed.specs.declared.typed.Typed.{Typed}
use Rattle.operator_meaning.specs.declared.object.Object.{Object}
use Rattle.operator_meaning.specs.declared.site.SiteKind.{SiteKind}
use Rattle.c_seen.specs.declared.seen.Kind.{Kind}
use Rattle.c_seen.specs.declared.seen.Marks.{Marks as SeenMarks}
use Rattle.c_seen.specs.declared.seen.Marks.TheVariants as with_marks
use Rattle.c_seen.specs.declared.seen.Meaning.{Meaning}
use Rattle.c_seen.specs.declared.seen.Need.TheVariants as needs
use Rattle.c_seen.specs.declared.seen.Seen.{Seen}
use Rattle.c_seen.specs.declared.seen.View.{View as SeenView}
use Rattle.c_seen.specs.declared.seen.Wanted.{Wanted}
use Rattle.c_seen.specs.declared.seen.Wanted.TheVariants as wants
use Rattle.c_seen.specs.Expressions.{constants_in, placed, seen_in_expression, seen_in_kind, constant_of_kind, seen_in_place, seen_in_call, seen_in_argument, arguments_from}
use Rattle.c_seen.specs.Meanings.{Names, meaning, called_by, wanted_at}
use Rattle.c_seen.proofs.Expressions_seen as sees
use Rattle.tied_names.specs.declared.tie.Asked.{Asked}
use Rattle.tied_names.specs.declared.tie.Asked.TheVariants as asks
use Rattle.tied_names.specs.declared.tie.Tie.{Tie}
use Rattle.tied_names.specs.Ties.{Here, tie_of, object_of, callee_by, asked_of}
use Rattle.tied_expressions.specs.Expressions.{tied_expression, tied_kind, viewed_kind, tied_place, tied_call, tied_argument, arguments_from as tied_arguments}
use Rattle.tied_expressions.specs.Sites.{Tied, with_conversion}
use Rattle.tied_expressions.proofs.Tied_equations as said
use Rattle.lawful_sources.specs.Things.{Taken, Number, View, Use, Given, Thing, Call as TheCall, Argument, Mark, Conversion, Constant, taken_at}
use Rattle.lawful_sources.specs.Things.{Place as ThePlace}
use Rattle.lawful_sources.specs.Expressions.{Look, Argued, Placed, Calling, argued_from, of_argument, of_kind, of_place, of_call, argument_look, kind_look, in_place, in_call, in_expression, in_argument}
use Rattle.lawful_sources.proofs.Passing.{Each, none, next, joined, call-is, expression-is}
use Rattle.lawful_laws.proofs.Statements.{earlier, later, tail, head}
use Rattle.lawful_names.proofs.Agreement.{Near}
use Rattle.lawful_names.proofs.Calls.{TakesAt, CallFits, call_seen, call-fits}
use Rattle.lawful_names.proofs.Clean.{Clean}
use Rattle.lawful_names.proofs.Fitting.{Purpose, Reads, Gives, ampersand_of, need_for, use_of, marks_of, view_of, wanted_for, asked_for, need_if, Fits, place-fits}
use Rattle.lawful_names.proofs.Looks as looks
use Rattle.lawful_names.proofs.NoViews.{viewed-no, call-no-view, no-address}

module _ (source : Typed) (items : List Item) (Shaped : Kind → Object → Type 0) (sound : Seen → Bool) (clean : (s : Seen) → sound s ≡ true → Clean s)
    (test : Thing → Bool) (fits : Fits source items Shaped sound test) where
  -- an expression by what stands in its brackets: where a number is needed, and where a view is
  abbrev pub KindStands : ExprKind → Type 0
  KindStands x = (names : Names) (here : Here) → Near source items Shaped names here
      → (Each sound (seen_in_kind x names needs.Number) → Each test ((kind_look source (tied_kind x here).value).stands None))
      × ((at : At) (view : SeenView) → Each sound (seen_in_kind x names (needs.View view at)) → Each test (in_argument source (viewed_kind x at here).value (Some (View view.width view.is_const))))

  abbrev pub ExpressionStands : Expr → Type 0
  ExpressionStands x = KindStands x.kind

  -- a place, for what is done with it; and no address stands where a number is needed
  abbrev pub PlaceStands : Place → Type 0
  PlaceStands x = (names : Names) (here : Here) → Near source items Shaped names here
      → ((purpose : Purpose) → Each sound (seen_in_place x names (ampersand_of purpose) (need_for purpose)) → Each test (in_place source (tied_place x here (ampersand_of purpose)).value (use_of purpose)))
      × (Each sound (seen_in_place x names true needs.Number) → ⊥)

  abbrev pub CallStands : Call → Type 0
  CallStands x = (names : Names) (here : Here) (is_needed : Bool) → Near source items Shaped names here
      → Each sound (seen_in_call x names (need_if is_needed)) → Each test (in_call source (tied_call x here).value is_needed)

  abbrev pub ArgumentStands : Arg → Type 0
  ArgumentStands x = (names : Names) (here : Here) (taken : Taken) → Near source items Shaped names here
      → Each sound (seen_in_argument x names (wanted_for taken)) → Each test (in_argument source (tied_argument x here (asked_for taken)).value (Some taken))

  -- ---- steps

  one-conversion : (width : Option Width) (things : List Thing) → Each test things → Each test (Conversion width width ∷ things)
  one-conversion width things p = next test _ things (fits.conversions width) p

  one-mark : (at : At) (site : Option ℕ) (kind : Option SiteKind) (things : List Thing) → Each test things → Each test (Mark at site kind ∷ things)
  one-mark at site kind things p = next test _ things (fits.marks at site kind) p

  values : (constants : List ℤ) → Each test (map Constant constants)
  values [] = none test
  values (value ∷ rest) = next test (Constant value) _ (fits.constants value) (values rest)

  pub expression-number : (x : Expr) → ExpressionStands x → (names : Names) (here : Here) → Near source items Shaped names here
      → Each sound (seen_in_expression x names needs.Number) → Each test (in_expression source (tied_expression x here).value None)
  expression-number x stands names here near p =
      subst (λ (t : Tied TypedExpr). Each test (in_expression source t.value None)) (sym (said.tied-expression x here))
      (subst (λ (l : Look). Each test (l.stands None)) (sym (expression-is source _))
      ((stands names here near).0 (subst (λ (l : List Seen). Each sound l) (sees.expression-kind x names needs.Number) p)))

  pub converted : (width : Width) (x : TypedExpr) → Each test (in_expression source x None) → Each test (in_expression source (with_conversion width x) (Some width))
  unfolding of_kind
  converted width x p =
      subst (λ (l : Look). Each test (l.stands (Some width))) (sym (expression-is source (with_conversion width x) ∙ looks.kind-Convert source width x)) (one-conversion (Some width) _ p)

  number-by : (x : ExprKind) (names : Names) (here : Here) (t : Tied TypedExprKind) (list : List Seen) (look : Look)
      → tied_kind x here ≡ t → seen_in_kind x names needs.Number ≡ list → kind_look source t.value ≡ look → (Each sound list → Each test (look.stands None))
      → Each sound (seen_in_kind x names needs.Number) → Each test ((kind_look source (tied_kind x here).value).stands None)
  number-by x names here t list look tied sees is what p =
      subst (λ (t : Tied TypedExprKind). Each test ((kind_look source t.value).stands None)) (sym tied)
      (subst (λ (l : Look). Each test (l.stands None)) (sym is) (what (subst (λ (l : List Seen). Each sound l) sees p)))

  address-stands : (at : At) (purpose : Purpose) (taken : Taken) → use_of purpose ≡ Given (Some taken) → (named : TypedPlace) → test (Argument true (Some taken)) ≡ true
      → Each test (in_place source named (use_of purpose)) → Each test (in_argument source (argument.Address at named) (Some taken))
  unfolding of_argument
  address-stands at purpose taken is named fits-it p =
      subst (λ (l : Argued). Each test (l.stands (Some taken))) (sym (looks.argument-Address source at named)) (next test _ _ fits-it (subst (λ (u : Use). Each test (in_place source named u)) is p))

  -- a place is given as a view without `&`
  given : (at : At) (view : SeenView) (named : Place) (names : Names) (here : Here) → Near source items Shaped names here
      → ((purpose : Purpose) → Each sound (seen_in_place named names (ampersand_of purpose) (need_for purpose)) → Each test (in_place source (tied_place named here (ampersand_of purpose)).value (use_of purpose)))
      → Each sound (seen_in_kind (kind.Read named) names (needs.View view at)) → Each test (in_argument source (viewed_kind (kind.Read named) at here).value (Some (View view.width view.is_const)))
  given at view named names here near stands p =
      subst (λ (t : Tied TypedArg). Each test (in_argument source t.value (Some (View view.width view.is_const)))) (sym (said.viewed-Read named at here))
      (address-stands at (Gives false view at) (View view.width view.is_const) refl _ (fits.views view.width view.is_const)
      (stands (Gives false view at) (subst (λ (l : List Seen). Each sound l) (sees.sees-Read named names (needs.View view at)) p)))

  -- ---- places

  place-by : (x : Place) (names : Names) (here : Here) (purpose : Purpose) (t : Tied TypedPlace) (list : List Seen) (look : Placed)
      → tied_place x here (ampersand_of purpose) ≡ t → seen_in_place x names (ampersand_of purpose) (need_for purpose) ≡ list → in_place source t.value ≡ look → (Each sound list → Each test (look (use_of purpose)))
      → Each sound (seen_in_place x names (ampersand_of purpose) (need_for purpose)) → Each test (in_place source (tied_place x here (ampersand_of purpose)).value (use_of purpose))
  place-by x names here purpose t list look tied sees is what p =
      subst (λ (t : Tied TypedPlace). Each test (in_place source t.value (use_of purpose))) (sym tied)
      (subst (λ (l : Placed). Each test (l (use_of purpose))) (sym is) (what (subst (λ (l : List Seen). Each sound l) sees p)))

  one-place : (name : Named) (marks : SeenMarks) (purpose : Purpose) (names : Names) (here : Here) → Near source items Shaped names here → (list : List Seen) (things : List Thing)
      → Each sound (placed name marks names (ampersand_of purpose) (need_for purpose) ∷ list) → Each test things → Each test (ThePlace (object_of here name.name).number (marks_of marks) (use_of purpose) ∷ things)
  one-place name marks purpose names here near list things p rest =
      next test _ things (place-fits source items Shaped sound test fits name.at name.name marks purpose (meaning names name.name) (tie_of here name.name) (near.agree name.name) (head sound _ _ p) (clean _ (head sound _ _ p))) rest

  -- ---- calls and arguments

  value-stands : (x : Expr) → ExpressionStands x → ArgumentStands (arg.Value x)
  unfolding of_argument
  value-stands x stands names here (Number width) near p =
      subst (λ (t : Tied TypedArg). Each test (in_argument source t.value (Some (Number width)))) (sym (said.argument-Number x here width))
      (subst (λ (l : Argued). Each test (l.stands (Some (Number width)))) (sym (looks.argument-Value source _))
      (next test _ _ (fits.numbers width) (converted width _ (expression-number x stands names here near (subst (λ (l : List Seen). Each sound l) (sees.argument-Value x names wants.Number) p)))))
  value-stands x stands names here (View width is_const) near p =
      subst (λ (t : Tied TypedArg). Each test (in_argument source t.value (Some (View width is_const)))) (sym (said.argument-View x here))
      ((stands names here near).1 x.at (view_of width is_const)
      (subst (λ (l : List Seen). Each sound l) (sees.argument-Value x names (wants.View (view_of width is_const)) ∙ sees.expression-kind x names (needs.View (view_of width is_const) x.at)) p))

  address-given : (at : At) (x : Place) → PlaceStands x → ArgumentStands (arg.Address at x)
  address-given at x stands names here (Number width) near p = absurd ((stands names here near).1 (subst (λ (l : List Seen). Each sound l) (sees.argument-Address at x names wants.Number) p))
  address-given at x stands names here (View width is_const) near p =
      subst (λ (t : Tied TypedArg). Each test (in_argument source t.value (Some (View width is_const)))) (sym (said.argument-Address at x here asks.View))
      (address-stands at (Gives true (view_of width is_const) at) (View width is_const) refl _ (fits.views width is_const)
      ((stands names here near).0 (Gives true (view_of width is_const) at) (subst (λ (l : List Seen). Each sound l) (sees.argument-Address at x names (wants.View (view_of width is_const))) p)))

  argument-given : (x : Arg) → ArgumentStands x → (names : Names) (here : Here) → Near source items Shaped names here → (callee : Callee) (m : Option Meaning) (t : Option Tie) (place : ℕ) → TakesAt source items m t callee place
      → Each sound (seen_in_argument x names (wanted_at names.items m place)) → Each test (in_argument source (tied_argument x here (asked_of here.items t place)).value (taken_at source callee place))
  argument-given x stands names here near callee m t place one p =
      subst (λ (a : Asked). Each test (in_argument source (tied_argument x here a).value (taken_at source callee place))) (sym (ap (λ (l : List Item). asked_of l t place) near.tied_items ∙ one.asked))
      (subst (λ (o : Option Taken). Each test (in_argument source (tied_argument x here (asked_for one.taken)).value o)) (sym one.takes)
      (stands names here one.taken near (subst (λ (w : Wanted). Each sound (seen_in_argument x names w)) (ap (λ (l : List Item). wanted_at l m place) near.seen_items ∙ one.wanted) p)))

  tied-length : (args : List Arg) (here : Here) (t : Option Tie) (n : ℕ) → length (tied_arguments args here t n).value ≡ length args
  tied-length [] here t n = refl
  tied-length (x ∷ args) here t n = ap suc (tied-length args here t (n + 1))

  -- ---- the induction

  abbrev SA : Type 0
  SA = (x : Arg) × ArgumentStands x

  abbrev SK : Type 0
  SK = (x : ExprKind) × KindStands x

  abbrev SP : Type 0
  SP = (x : Place) × PlaceStands x

  abbrev SC : Type 0
  SC = (x : Call) × CallStands x

  abbrev SE : Type 0
  SE = (x : Expr) × ExpressionStands x

  on_kind : (y : node.ExprKind-F SA SK SP SC SE) → KindStands (roll-ExprKind (map-ExprKind SA SK SP SC SE Arg ExprKind Place Call Expr (λ q. q.0) (λ q. q.0) (λ q. q.0) (λ q. q.0) (λ q. q.0) y))
  unfolding of_kind
  on_kind (node.Int value) = subst KindStands (sym (kind.rolls-Int value)) (λ names here near. (
    number-by _ names here _ _ _ (said.tied-Int value here) (sees.sees-Int value names needs.Number) (looks.kind-Int source value) (λ p. one-conversion None [] (none test)),
    λ at view. viewed-no sound clean _ names at view _ _ (sees.sees-Int value names (needs.View view at)),
  ))
  on_kind (node.Read named) = subst KindStands (sym (kind.rolls-Read named.0)) (λ names here near. (
    number-by _ names here _ _ _ (said.tied-Read named.0 here) (sees.sees-Read named.0 names needs.Number) (looks.kind-Read source _) (λ p. one-conversion None _ ((named.1 names here near).0 Reads p)),
    λ at view p. given at view named.0 names here near (named.1 names here near).0 p,
  ))
  on_kind (node.ReadOverflow word_at) = subst KindStands (sym (kind.rolls-ReadOverflow word_at)) (λ names here near. (
    number-by _ names here _ _ _ (said.tied-ReadOverflow word_at here) (sees.sees-ReadOverflow word_at names needs.Number) (looks.kind-ReadOverflow source word_at) (λ p. one-conversion None [] (none test)),
    λ at view. viewed-no sound clean _ names at view _ _ (sees.sees-ReadOverflow word_at names (needs.View view at)),
  ))
  on_kind (node.Unary mark mark_at part) = subst KindStands (sym (kind.rolls-Unary mark mark_at part.0)) (λ names here near. (
    number-by _ names here _ _ _ (said.tied-Unary mark mark_at part.0 here) (sees.sees-Unary mark mark_at part.0 names needs.Number) (looks.kind-Unary source mark mark_at _ _)
        (λ p. one-conversion None _ (one-mark mark_at _ _ _ (expression-number part.0 part.1 names here near p))),
    λ at view. viewed-no sound clean _ names at view _ _ (sees.sees-Unary mark mark_at part.0 names (needs.View view at)),
  ))
  on_kind (node.Binary mark mark_at one other) = subst KindStands (sym (kind.rolls-Binary mark mark_at one.0 other.0)) (λ names here near. (
    number-by _ names here _ _ _ (said.tied-Binary mark mark_at one.0 other.0 here) (sees.sees-Binary mark mark_at one.0 other.0 names needs.Number) (looks.kind-Binary source mark mark_at _ _ _)
        (λ p. one-conversion None _ (joined test _ _ (expression-number one.0 one.1 names here near (earlier sound _ _ p)) (one-mark mark_at _ _ _ (joined test _ _ (values _)
        (expression-number other.0 other.1 names here near (later sound (constants_in mark (constant_of_kind one.0.kind one.0.at) (constant_of_kind other.0.kind other.0.at)) _ (later sound (seen_in_expression one.0 names needs.Number) _ p))))))),
    λ at view. viewed-no sound clean _ names at view _ _ (sees.sees-Binary mark mark_at one.0 other.0 names (needs.View view at)),
  ))
  on_kind (node.Cast width part) = subst KindStands (sym (kind.rolls-Cast width part.0)) (λ names here near. (
    number-by _ names here _ _ _ (said.tied-Cast width part.0 here) (sees.sees-Cast width part.0 names needs.Number) (looks.kind-Cast source width _)
        (λ p. one-conversion None _ (expression-number part.0 part.1 names here near p)),
    λ at view. viewed-no sound clean _ names at view _ _ (sees.sees-Cast width part.0 names (needs.View view at)),
  ))
  on_kind (node.Choose cond one other) = subst KindStands (sym (kind.rolls-Choose cond.0 one.0 other.0)) (λ names here near. (
    number-by _ names here _ _ _ (said.tied-Choose cond.0 one.0 other.0 here) (sees.sees-Choose cond.0 one.0 other.0 names needs.Number) (looks.kind-Choose source _ _ _)
        (λ p. one-conversion None _ (joined test _ _ (expression-number cond.0 cond.1 names here near (earlier sound _ _ p))
        (joined test _ _ (expression-number one.0 one.1 names here near (earlier sound _ _ (later sound (seen_in_expression cond.0 names needs.Number) _ p)))
        (expression-number other.0 other.1 names here near (later sound (seen_in_expression one.0 names needs.Number) _ (later sound (seen_in_expression cond.0 names needs.Number) _ p)))))),
    λ at view. viewed-no sound clean _ names at view _ _ (sees.sees-Choose cond.0 one.0 other.0 names (needs.View view at)),
  ))
  on_kind (node.Call call) = subst KindStands (sym (kind.rolls-Call call.0)) (λ names here near. (
    number-by _ names here _ _ _ (said.tied-Call call.0 here) (sees.sees-Call call.0 names needs.Number) (looks.kind-Call source _) (λ p. one-conversion None _ (call.1 names here true near p)),
    λ at view p. absurd (call-no-view sound clean call.0 names at view (subst (λ (l : List Seen). Each sound l) (sees.sees-Call call.0 names (needs.View view at)) p)),
  ))

  on_place : (y : node.Place-F SA SK SP SC SE) → PlaceStands (roll-Place (map-Place SA SK SP SC SE Arg ExprKind Place Call Expr (λ q. q.0) (λ q. q.0) (λ q. q.0) (λ q. q.0) (λ q. q.0) y))
  unfolding of_place
  on_place (node.Plain name) = subst PlaceStands (sym (places.rolls-Plain name)) (λ names here near. (
    λ purpose. place-by _ names here purpose _ _ _ (said.place-Plain name here _) (sees.place-Plain name names _ _) (looks.place-Plain source _ _)
        (λ p. one-place name with_marks.None purpose names here near _ [] p (none test)),
    no-address sound clean _ name _ names _ (sees.place-Plain name names true needs.Number),
  ))
  on_place (node.Index name mark_at index) = subst PlaceStands (sym (places.rolls-Index name mark_at index.0)) (λ names here near. (
    λ purpose. place-by _ names here purpose _ _ _ (said.place-Index name mark_at index.0 here _) (sees.place-Index name mark_at index.0 names _ _) (looks.place-Index source _ _ _ _ _)
        (λ p. one-place name (with_marks.Once mark_at) purpose names here near _ _ p (one-mark mark_at _ _ _ (expression-number index.0 index.1 names here near (tail sound _ _ p)))),
    no-address sound clean _ name _ names _ (sees.place-Index name mark_at index.0 names true needs.Number),
  ))
  on_place (node.Index2 name first_at first second_at second) = subst PlaceStands (sym (places.rolls-Index2 name first_at first.0 second_at second.0)) (λ names here near. (
    λ purpose. place-by _ names here purpose _ _ _ (said.place-Index2 name first_at first.0 second_at second.0 here _) (sees.place-Index2 name first_at first.0 second_at second.0 names _ _) (looks.place-Index2 source _ _ _ _ _ _ _ _)
        (λ p. one-place name (with_marks.Twice first_at) purpose names here near _ _ p (one-mark first_at _ _ _ (joined test _ _ (expression-number first.0 first.1 names here near (earlier sound _ _ (tail sound _ _ p)))
        (one-mark second_at _ _ _ (expression-number second.0 second.1 names here near (later sound (seen_in_expression first.0 names needs.Number) _ (tail sound _ _ p))))))),
    no-address sound clean _ name _ names _ (sees.place-Index2 name first_at first.0 second_at second.0 names true needs.Number),
  ))
  on_place (node.Deref star_at name) = subst PlaceStands (sym (places.rolls-Deref star_at name)) (λ names here near. (
    λ purpose. place-by _ names here purpose _ _ _ (said.place-Deref star_at name here _) (sees.place-Deref star_at name names _ _) (looks.place-Deref source _ _ _ _)
        (λ p. one-place name (with_marks.Star star_at) purpose names here near _ _ p (one-mark star_at _ _ [] (none test))),
    no-address sound clean _ name _ names _ (sees.place-Deref star_at name names true needs.Number),
  ))

  on_argument : (y : node.Arg-F SA SK SP SC SE) → ArgumentStands (roll-Arg (map-Arg SA SK SP SC SE Arg ExprKind Place Call Expr (λ q. q.0) (λ q. q.0) (λ q. q.0) (λ q. q.0) (λ q. q.0) y))
  on_argument (node.Value value) = subst ArgumentStands (sym (arg.rolls-Value value.0)) (value-stands value.0 value.1)
  on_argument (node.Address at named) = subst ArgumentStands (sym (arg.rolls-Address at named.0)) (address-given at named.0 named.1)

  arguments-stand : (ys : List SA) (names : Names) (here : Here) → Near source items Shaped names here → (callee : Callee) (m : Option Meaning) (t : Option Tie) (place count : ℕ) → place + length ys ≡ count
      → ((k : ℕ) → k < count → TakesAt source items m t callee k) → Each sound (arguments_from (map (λ (q : SA). q.0) ys) names m place)
      → Each test (argued_from source callee place (map (argument_look source) (tied_arguments (map (λ (q : SA). q.0) ys) here t place).value))
  arguments-stand [] names here near callee m t place count is takes p = none test
  arguments-stand (y ∷ ys) names here near callee m t place count is takes p =
      joined test _ _ (argument-given y.0 y.1 names here near callee m t place (takes place (omega arith)) (earlier sound _ _ p))
      (arguments-stand ys names here near callee m t (place + 1) count (omega arith) takes (later sound (seen_in_argument y.0 names (wanted_at names.items m place)) _ p))

  on_call : (y : node.Call-F SA SK SP SC SE) → CallStands (record { name = y.name; args = map (λ (q : SA). q.0) y.args })
  unfolding of_call
  on_call y names here is_needed near p =
      let call : Call = record { name = y.name; args = map (λ (q : SA). q.0) y.args } in
      let parts : Each sound (call_seen source items Shaped call.name.at (called_by names call.name.name) (length call.args) is_needed ∷ arguments_from call.args names (meaning names call.name.name) 0) =
      subst (λ (l : List Seen). Each sound l) (sees.call-arguments call names (need_if is_needed)) p in
      let good : CallFits source items Shaped test (meaning names call.name.name) (tie_of here call.name.name) (length call.args) is_needed =
      call-fits source items Shaped sound test fits names near.seen_items near.seen_functions call.name.at call.name.name _ _ (near.agree call.name.name) (length call.args) is_needed (clean _ (head sound _ _ parts)) in
      let count : length (map (argument_look source) (tied_arguments call.args here (tie_of here call.name.name) 0).value) ≡ length call.args =
      length-map (tied_arguments call.args here (tie_of here call.name.name) 0).value (argument_look source) ∙ tied-length call.args here (tie_of here call.name.name) 0 in
      let long : length call.args ≡ length y.args = length-map y.args (λ (q : SA). q.0) in
      subst (λ (t : Tied TypedCall). Each test (in_call source t.value is_needed)) (sym (said.call-parts call here))
      (subst (λ (l : Calling). Each test (l is_needed)) (sym (call-is source _))
      (next test _ _ (subst (λ (n : ℕ). test (TheCall (callee_by (tie_of here call.name.name)) n is_needed) ≡ true) (sym count) good.stands)
      (one-mark _ _ _ _ (arguments-stand y.args names here near (callee_by (tie_of here call.name.name)) (meaning names call.name.name) (tie_of here call.name.name) 0 (length call.args)
      (omega (arith, long)) good.takes (tail sound _ _ parts)))))

  on_expression : (y : node.Expr-F SA SK SP SC SE) → ExpressionStands (record { at = y.at; brackets = y.brackets; kind = y.kind.0 })
  on_expression y = y.kind.1

  pub argument-stands : (x : Arg) → ArgumentStands x
  argument-stands = ind-Arg ArgumentStands KindStands PlaceStands CallStands ExpressionStands
      (λ x y is. subst (λ z. ArgumentStands (roll-Arg z)) is (on_argument y))
      (λ x y is. subst (λ z. KindStands (roll-ExprKind z)) is (on_kind y))
      (λ x y is. subst (λ z. PlaceStands (roll-Place z)) is (on_place y))
      (λ x y is. subst (λ z. CallStands (roll-Call z)) is (on_call y))
      (λ x y is. subst (λ z. ExpressionStands (roll-Expr z)) is (on_expression y))

  pub place-stands : (x : Place) → PlaceStands x
  place-stands = ind-Place ArgumentStands KindStands PlaceStands CallStands ExpressionStands
      (λ x y is. subst (λ z. ArgumentStands (roll-Arg z)) is (on_argument y))
      (λ x y is. subst (λ z. KindStands (roll-ExprKind z)) is (on_kind y))
      (λ x y is. subst (λ z. PlaceStands (roll-Place z)) is (on_place y))
      (λ x y is. subst (λ z. CallStands (roll-Call z)) is (on_call y))
      (λ x y is. subst (λ z. ExpressionStands (roll-Expr z)) is (on_expression y))

  pub call-stands : (x : Call) → CallStands x
  call-stands = ind-Call ArgumentStands KindStands PlaceStands CallStands ExpressionStands
      (λ x y is. subst (λ z. ArgumentStands (roll-Arg z)) is (on_argument y))
      (λ x y is. subst (λ z. KindStands (roll-ExprKind z)) is (on_kind y))
      (λ x y is. subst (λ z. PlaceStands (roll-Place z)) is (on_place y))
      (λ x y is. subst (λ z. CallStands (roll-Call z)) is (on_call y))
      (λ x y is. subst (λ z. ExpressionStands (roll-Expr z)) is (on_expression y))

  pub kind-stands : (x : ExprKind) → KindStands x
  kind-stands = ind-ExprKind ArgumentStands KindStands PlaceStands CallStands ExpressionStands
      (λ x y is. subst (λ z. ArgumentStands (roll-Arg z)) is (on_argument y))
      (λ x y is. subst (λ z. KindStands (roll-ExprKind z)) is (on_kind y))
      (λ x y is. subst (λ z. PlaceStands (roll-Place z)) is (on_place y))
      (λ x y is. subst (λ z. CallStands (roll-Call z)) is (on_call y))
      (λ x y is. subst (λ z. ExpressionStands (roll-Expr z)) is (on_expression y))

  -- an expression that has to be a number
  pub number-stands : (x : Expr) (names : Names) (here : Here) → Near source items Shaped names here → Each sound (seen_in_expression x names needs.Number) → Each test (in_expression source (tied_expression x here).value None)
  number-stands x = expression-number x (kind-stands x.kind)
