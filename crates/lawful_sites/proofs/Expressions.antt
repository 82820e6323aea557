-- The sites that stand in an expression, a place, a call or an argument without a fault are those that are noted in it:
-- an induction over the tree, by what is seen in it and by what it is tied to.
use Rattle.std.proofs.Common.{◌≡◌, ℕ, ◌+◌, ◌<◌, List, [], ◌∷◌, ◌++◌, Bool, true, false, map, length, refl, sym, ap, ◌∙◌, subst, arith}
use Rattle.std.specs.Prelude.{Option, Some, None, slice_get}
use Rattle.std.proofs.lemmas.List.{length-map}
use Rattle.sat_base.specs.declared.name.At.{At}
use Rattle.sat_base.specs.declared.name.Named.{Named}
use Rattle.sat_base.specs.declared.width.Width.{Width}
use Rattle.c_tree.specs.declared.call.Arg.{Arg, ind-Arg, map-Arg, roll-Arg}
use Rattle.c_tree.specs.declared.call.Arg.TheOpen as node
use Rattle.c_tree.specs.declared.call.Arg.TheVariants as arg
use Rattle.c_tree.specs.declared.call.Call.{Call, ind-Call, roll-Call}
use Rattle.c_tree.specs.declared.expression.Expr.{Expr, roll-Expr}
use Rattle.c_tree.specs.declared.expression.ExprKind.{ExprKind, ind-ExprKind, map-ExprKind, roll-ExprKind}
use Rattle.c_tree.specs.declared.expression.ExprKind.TheVariants as kind
use Rattle.c_tree.specs.declared.place.Place.{Place, ind-Place, map-Place, roll-Place}
use Rattle.c_tree.specs.declared.place.Place.TheVariants as places
use Rattle.c_tree.specs.declared.program.Item.{Item}
use Rattle.c_typed.specs.declared.call.Callee.{Callee}
use Rattle.c_typed.specs.declared.call.TypedArg.{TypedArg}
use Rattle.c_typed.specs.declared.call.TypedArg.TheVariants as argument
use Rattle.c_typed.specs.declared.call.TypedCall.{TypedCall}
use Rattle.c_typed.specs.declared.expression.TypedExpr.{TypedExpr}
use Rattle.c_typed.specs.declared.expression.TypedExprKind.{TypedExprKind}
use Rattle.c_typed.specs.declared.place.TypedPlace.{TypedPlace}
use Rattle.c_typed.specs.declared.typed.Typed.{Typed}
use Rattle.operator_meaning.specs.declared.object.Object.{Object}
use Rattle.operator_meaning.specs.declared.object.Site.{Site}
use Rattle.c_seen.specs.declared.seen.Kind.{Kind}
use Rattle.c_seen.specs.declared.seen.Marks.{Marks as SeenMarks}
use Rattle.c_seen.specs.declared.seen.Marks.TheVariants as with_marks
use Rattle.c_seen.specs.declared.seen.Meaning.{Meaning}
use Rattle.c_seen.specs.declared.seen.Need.TheVariants as needs
use Rattle.c_seen.specs.declared.seen.Seen.{Seen}
use Rattle.c_seen.specs.declared.seen.View.{View as SeenView}
use Rattle.c_seen.specs.declared.seen.Wanted.{Wanted}
use Rattle.c_seen.specs.declared.seen.Wanted.TheVariants as wants
use Rattle.c_seen.specs.Expressions.{constants_in, placed, seen_in_expression, seen_in_kind, constant_of_kind, seen_in_place, seen_in_call, seen_in_argument, arguments_from}
use Rattle.c_seen.specs.Meanings.{Names, meaning, called_by, wanted_at}
use Rattle.c_seen.proofs.Expressions_seen as sees
use Rattle.tied_names.specs.declared.note.Note.{Note}
use Rattle.tied_names.specs.declared.tie.Asked.{Asked}
use Rattle.tied_names.specs.declared.tie.Asked.TheVariants as asks
use Rattle.tied_names.specs.declared.tie.Tie.{Tie}
use Rattle.tied_names.specs.Ties.{Here, tie_of, object_of, callee_by, call_kind, asked_of}
use Rattle.tied_expressions.specs.Expressions.{tied_expression, tied_kind, viewed_kind, tied_place, tied_call, tied_argument, arguments_from as tied_arguments}
use Rattle.tied_expressions.specs.Sites.{Tied, noted_if, with_conversion}
use Rattle.tied_expressions.proofs.Tied_equations as said
use Rattle.lawful_sources.specs.Things.{Taken, Number, View, Use, Given, Thing, Conversion, taken_at}
use Rattle.lawful_sources.specs.Expressions.{Look, Argued, Placed, Calling, argued_from, of_argument, of_kind, of_place, of_call, argument_look, kind_look, in_place, in_call, in_expression, in_argument}
use Rattle.lawful_sources.specs.Rows.{object_exists}
use Rattle.lawful_sources.proofs.Passing.{Each, call-is, expression-is}
use Rattle.lawful_laws.proofs.Statements.{earlier, later, tail, head}
use Rattle.lawful_names.proofs.Agreement.{Near}
use Rattle.lawful_names.proofs.Calls.{TakesAt, CallFits, call_seen, call-fits}
use Rattle.lawful_names.proofs.Clean.{Clean}
use Rattle.lawful_names.proofs.Fitting.{Purpose, Reads, Gives, ampersand_of, need_for, use_of, view_of, wanted_for, asked_for, need_if}
use Rattle.lawful_names.proofs.Looks as looks
use Rattle.lawful_names.proofs.NoViews.{viewed-no, call-no-view, no-address}
use Rattle.lawful_names.proofs.Tests.{objects-fit}
use Rattle.lawful_sites.proofs.Marks.{SameIndices, Keeps, same-indices, unary-kinds, binary-kinds, call-kinds}
use Rattle.lawful_sites.proofs.Sited.{Sited, nothing, exposed, beside, both, values, site, mark}
use Rattle.lawful_sites.proofs.Twins.{Twins, tie-same}

module _ (source : Typed) (items : List Item) (Shaped : Kind → Object → Type 0) (sound : Seen → Bool) (clean : (s : Seen) → sound s ≡ true → Clean s)
    {K : Type 0} (key : Site → K) (tokens : List ℕ) (keeps : Keeps key source items Shaped sound) where
  abbrev Sites : List Thing → List Note → Type 0
  Sites things notes = Sited key tokens things notes

  -- an expression by what stands in its brackets: where a number is needed, and where a view is
  abbrev KindSited : ExprKind → Type 0
  KindSited x = (names : Names) (here other : Here) → Near source items Shaped names here → Twins tokens here other
      → (Each sound (seen_in_kind x names needs.Number) → Sites ((kind_look source (tied_kind x here).value).stands None) (tied_kind x other).notes)
      × ((at : At) (view : SeenView) → Each sound (seen_in_kind x names (needs.View view at)) → Sites (in_argument source (viewed_kind x at here).value (Some (View view.width view.is_const))) (viewed_kind x at other).notes)

  abbrev ExpressionSited : Expr → Type 0
  ExpressionSited x = KindSited x.kind

  -- a place, for what is done with it; and no address stands where a number is needed
  abbrev PlaceSited : Place → Type 0
  PlaceSited x = (names : Names) (here other : Here) → Near source items Shaped names here → Twins tokens here other
      → ((purpose : Purpose) → Each sound (seen_in_place x names (ampersand_of purpose) (need_for purpose)) → Sites (in_place source (tied_place x here (ampersand_of purpose)).value (use_of purpose)) (tied_place x other (ampersand_of purpose)).notes)
      × (Each sound (seen_in_place x names true needs.Number) → ⊥)

  abbrev CallSited : Call → Type 0
  CallSited x = (names : Names) (here other : Here) (is_needed : Bool) → Near source items Shaped names here → Twins tokens here other
      → Each sound (seen_in_call x names (need_if is_needed)) → Sites (in_call source (tied_call x here).value is_needed) (tied_call x other).notes

  abbrev ArgumentSited : Arg → Type 0
  ArgumentSited x = (names : Names) (here other : Here) (taken : Taken) → Near source items Shaped names here → Twins tokens here other
      → Each sound (seen_in_argument x names (wanted_for taken)) → Sites (in_argument source (tied_argument x here (asked_for taken)).value (Some taken)) (tied_argument x other (asked_for taken)).notes

  -- ---- steps

  expression-number : (x : Expr) → ExpressionSited x → (names : Names) (here other : Here) → Near source items Shaped names here → Twins tokens here other
      → Each sound (seen_in_expression x names needs.Number) → Sites (in_expression source (tied_expression x here).value None) (tied_expression x other).notes
  expression-number x sited names here other near twins p =
      subst (λ (t : Tied TypedExpr). Sites (in_expression source (tied_expression x here).value None) t.notes) (sym (said.tied-expression x other))
      (subst (λ (t : Tied TypedExpr). Sites (in_expression source t.value None) (tied_kind x.kind other).notes) (sym (said.tied-expression x here))
      (subst (λ (l : Look). Sites (l.stands None) (tied_kind x.kind other).notes) (sym (expression-is source _))
      ((sited names here other near twins).0 (subst (λ (l : List Seen). Each sound l) (sees.expression-kind x names needs.Number) p))))

  pub converted : (width : Width) (due : Option Width) (x : TypedExpr) (notes : List Note) → Sites (in_expression source x None) notes → Sites (in_expression source (with_conversion width x) due) notes
  unfolding of_kind
  converted width due x notes p =
      subst (λ (l : Look). Sites (l.stands due) notes) (sym (expression-is source (with_conversion width x) ∙ looks.kind-Convert source width x)) (beside key tokens _ _ notes refl refl p)

  number-by : (x : ExprKind) (names : Names) (here other : Here) (t u : Tied TypedExprKind) (list : List Seen) (look : Look)
      → tied_kind x here ≡ t → tied_kind x other ≡ u → seen_in_kind x names needs.Number ≡ list → kind_look source t.value ≡ look → (Each sound list → Sites (look.stands None) u.notes)
      → Each sound (seen_in_kind x names needs.Number) → Sites ((kind_look source (tied_kind x here).value).stands None) (tied_kind x other).notes
  number-by x names here other t u list look one two sees is what p =
      subst (λ (t : Tied TypedExprKind). Sites ((kind_look source (tied_kind x here).value).stands None) t.notes) (sym two)
      (subst (λ (t : Tied TypedExprKind). Sites ((kind_look source t.value).stands None) u.notes) (sym one)
      (subst (λ (l : Look). Sites (l.stands None) u.notes) (sym is) (what (subst (λ (l : List Seen). Each sound l) sees p))))

  one-conversion : (things : List Thing) (notes : List Note) → Sites things notes → Sites (Conversion None None ∷ things) notes
  one-conversion things notes p = beside key tokens (Conversion None None) things notes refl refl p

  address-sited : (at : At) (purpose : Purpose) (taken : Taken) → use_of purpose ≡ Given (Some taken) → (named : TypedPlace) (notes : List Note)
      → Sites (in_place source named (use_of purpose)) notes → Sites (in_argument source (argument.Address at named) (Some taken)) notes
  unfolding of_argument
  address-sited at purpose taken is named notes p =
      subst (λ (l : Argued). Sites (l.stands (Some taken)) notes) (sym (looks.argument-Address source at named))
      (beside key tokens _ _ notes refl refl (subst (λ (u : Use). Sites (in_place source named u) notes) is p))

  -- a place is given as a view without `&`
  given : (at : At) (view : SeenView) (named : Place) → PlaceSited named → (names : Names) (here other : Here) → Near source items Shaped names here → Twins tokens here other
      → Each sound (seen_in_kind (kind.Read named) names (needs.View view at)) → Sites (in_argument source (viewed_kind (kind.Read named) at here).value (Some (View view.width view.is_const))) (viewed_kind (kind.Read named) at other).notes
  given at view named sited names here other near twins p =
      subst (λ (t : Tied TypedArg). Sites (in_argument source (viewed_kind (kind.Read named) at here).value (Some (View view.width view.is_const))) t.notes) (sym (said.viewed-Read named at other))
      (subst (λ (t : Tied TypedArg). Sites (in_argument source t.value (Some (View view.width view.is_const))) (tied_place named other false).notes) (sym (said.viewed-Read named at here))
      (address-sited at (Gives false view at) (View view.width view.is_const) refl _ _
      ((sited names here other near twins).0 (Gives false view at) (subst (λ (l : List Seen). Each sound l) (sees.sees-Read named names (needs.View view at)) p))))

  -- ---- places

  place-by : (x : Place) (names : Names) (here other : Here) (purpose : Purpose) (t u : Tied TypedPlace) (list : List Seen) (look : Placed)
      → tied_place x here (ampersand_of purpose) ≡ t → tied_place x other (ampersand_of purpose) ≡ u → seen_in_place x names (ampersand_of purpose) (need_for purpose) ≡ list → in_place source t.value ≡ look
      → (Each sound list → Sites (look (use_of purpose)) u.notes)
      → Each sound (seen_in_place x names (ampersand_of purpose) (need_for purpose)) → Sites (in_place source (tied_place x here (ampersand_of purpose)).value (use_of purpose)) (tied_place x other (ampersand_of purpose)).notes
  place-by x names here other purpose t u list look one two sees is what p =
      subst (λ (t : Tied TypedPlace). Sites (in_place source (tied_place x here (ampersand_of purpose)).value (use_of purpose)) t.notes) (sym two)
      (subst (λ (t : Tied TypedPlace). Sites (in_place source t.value (use_of purpose)) u.notes) (sym one)
      (subst (λ (l : Placed). Sites (l (use_of purpose)) u.notes) (sym is) (what (subst (λ (l : List Seen). Each sound l) sees p))))

  indices : (name : Named) (marks : SeenMarks) (purpose : Purpose) (names : Names) (here other : Here) → Near source items Shaped names here → Twins tokens here other → (list : List Seen)
      → Each sound (placed name marks names (ampersand_of purpose) (need_for purpose) ∷ list) → SameIndices key marks purpose (slice_get source.objects (object_of here name.name).number) (object_of other name.name)
  indices name marks purpose names here other near twins list p =
      same-indices key source items Shaped sound clean tokens keeps name.at name.name marks purpose names here other near twins (head sound _ _ p)

  -- ---- calls and arguments

  value-sited : (x : Expr) → ExpressionSited x → ArgumentSited (arg.Value x)
  unfolding of_argument
  value-sited x sited names here other (Number width) near twins p =
      subst (λ (t : Tied TypedArg). Sites (in_argument source (tied_argument (arg.Value x) here (asks.Number width)).value (Some (Number width))) t.notes) (sym (said.argument-Number x other width))
      (subst (λ (t : Tied TypedArg). Sites (in_argument source t.value (Some (Number width))) (tied_expression x other).notes) (sym (said.argument-Number x here width))
      (subst (λ (l : Argued). Sites (l.stands (Some (Number width))) (tied_expression x other).notes) (sym (looks.argument-Value source _))
      (beside key tokens _ _ _ refl refl (converted width (Some width) _ _ (expression-number x sited names here other near twins (subst (λ (l : List Seen). Each sound l) (sees.argument-Value x names wants.Number) p))))))
  value-sited x sited names here other (View width is_const) near twins p =
      subst (λ (t : Tied TypedArg). Sites (in_argument source (tied_argument (arg.Value x) here asks.View).value (Some (View width is_const))) t.notes) (sym (said.argument-View x other))
      (subst (λ (t : Tied TypedArg). Sites (in_argument source t.value (Some (View width is_const))) (viewed_kind x.kind x.at other).notes) (sym (said.argument-View x here))
      ((sited names here other near twins).1 x.at (view_of width is_const)
      (subst (λ (l : List Seen). Each sound l) (sees.argument-Value x names (wants.View (view_of width is_const)) ∙ sees.expression-kind x names (needs.View (view_of width is_const) x.at)) p)))

  address-given : (at : At) (x : Place) → PlaceSited x → ArgumentSited (arg.Address at x)
  address-given at x sited names here other (Number width) near twins p = absurd ((sited names here other near twins).1 (subst (λ (l : List Seen). Each sound l) (sees.argument-Address at x names wants.Number) p))
  address-given at x sited names here other (View width is_const) near twins p =
      subst (λ (t : Tied TypedArg). Sites (in_argument source (tied_argument (arg.Address at x) here asks.View).value (Some (View width is_const))) t.notes) (sym (said.argument-Address at x other asks.View))
      (subst (λ (t : Tied TypedArg). Sites (in_argument source t.value (Some (View width is_const))) (tied_place x other true).notes) (sym (said.argument-Address at x here asks.View))
      (address-sited at (Gives true (view_of width is_const) at) (View width is_const) refl _ _
      ((sited names here other near twins).0 (Gives true (view_of width is_const) at) (subst (λ (l : List Seen). Each sound l) (sees.argument-Address at x names (wants.View (view_of width is_const))) p))))

  argument-given : (x : Arg) → ArgumentSited x → (names : Names) (here other : Here) → Near source items Shaped names here → Twins tokens here other → (callee : Callee) (m : Option Meaning) (t : Option Tie) (place : ℕ) → TakesAt source items m t callee place
      → Each sound (seen_in_argument x names (wanted_at names.items m place))
      → Sites (in_argument source (tied_argument x here (asked_of here.items t place)).value (taken_at source callee place)) (tied_argument x other (asked_of other.items t place)).notes
  argument-given x sited names here other near twins callee m t place one p =
      let asked : asked_of here.items t place ≡ asked_for one.taken = ap (λ (l : List Item). asked_of l t place) near.tied_items ∙ one.asked in
      let asked_there : asked_of other.items t place ≡ asked_for one.taken = ap (λ (l : List Item). asked_of l t place) twins.items ∙ asked in
      subst (λ (a : Asked). Sites (in_argument source (tied_argument x here (asked_of here.items t place)).value (taken_at source callee place)) (tied_argument x other a).notes) (sym asked_there)
      (subst (λ (a : Asked). Sites (in_argument source (tied_argument x here a).value (taken_at source callee place)) (tied_argument x other (asked_for one.taken)).notes) (sym asked)
      (subst (λ (o : Option Taken). Sites (in_argument source (tied_argument x here (asked_for one.taken)).value o) (tied_argument x other (asked_for one.taken)).notes) (sym one.takes)
      (sited names here other one.taken near twins (subst (λ (w : Wanted). Each sound (seen_in_argument x names w)) (ap (λ (l : List Item). wanted_at l m place) near.seen_items ∙ one.wanted) p))))

  -- ---- the induction

  abbrev SA : Type 0
  SA = (x : Arg) × ArgumentSited x

  abbrev SK : Type 0
  SK = (x : ExprKind) × KindSited x

  abbrev SP : Type 0
  SP = (x : Place) × PlaceSited x

  abbrev SC : Type 0
  SC = (x : Call) × CallSited x

  abbrev SE : Type 0
  SE = (x : Expr) × ExpressionSited x

  on_kind : (y : node.ExprKind-F SA SK SP SC SE) → KindSited (roll-ExprKind (map-ExprKind SA SK SP SC SE Arg ExprKind Place Call Expr (λ q. q.0) (λ q. q.0) (λ q. q.0) (λ q. q.0) (λ q. q.0) y))
  unfolding of_kind
  on_kind (node.Int value) = subst KindSited (sym (kind.rolls-Int value)) (λ names here other near twins. (
    number-by _ names here other _ _ _ _ (said.tied-Int value here) (said.tied-Int value other) (sees.sees-Int value names needs.Number) (looks.kind-Int source value) (λ p. one-conversion [] [] (nothing key tokens)),
    λ at view. viewed-no sound clean _ names at view _ _ (sees.sees-Int value names (needs.View view at)),
  ))
  on_kind (node.Read named) = subst KindSited (sym (kind.rolls-Read named.0)) (λ names here other near twins. (
    number-by _ names here other _ _ _ _ (said.tied-Read named.0 here) (said.tied-Read named.0 other) (sees.sees-Read named.0 names needs.Number) (looks.kind-Read source _)
        (λ p. one-conversion _ _ ((named.1 names here other near twins).0 Reads p)),
    λ at view p. given at view named.0 named.1 names here other near twins p,
  ))
  on_kind (node.ReadOverflow word_at) = subst KindSited (sym (kind.rolls-ReadOverflow word_at)) (λ names here other near twins. (
    number-by _ names here other _ _ _ _ (said.tied-ReadOverflow word_at here) (said.tied-ReadOverflow word_at other) (sees.sees-ReadOverflow word_at names needs.Number) (looks.kind-ReadOverflow source word_at)
        (λ p. one-conversion [] [] (nothing key tokens)),
    λ at view. viewed-no sound clean _ names at view _ _ (sees.sees-ReadOverflow word_at names (needs.View view at)),
  ))
  on_kind (node.Unary sign mark_at part) = subst KindSited (sym (kind.rolls-Unary sign mark_at part.0)) (λ names here other near twins. (
    number-by _ names here other _ _ _ _ (said.tied-Unary sign mark_at part.0 here) (said.tied-Unary sign mark_at part.0 other) (sees.sees-Unary sign mark_at part.0 names needs.Number) (looks.kind-Unary source sign mark_at _ _)
        (λ p. one-conversion _ _ (mark key tokens here twins.numbers mark_at _ _ _ _ _ (unary-kinds key mark_at sign) (expression-number part.0 part.1 names here other near twins p))),
    λ at view. viewed-no sound clean _ names at view _ _ (sees.sees-Unary sign mark_at part.0 names (needs.View view at)),
  ))
  on_kind (node.Binary sign mark_at one two) = subst KindSited (sym (kind.rolls-Binary sign mark_at one.0 two.0)) (λ names here other near twins. (
    number-by _ names here other _ _ _ _ (said.tied-Binary sign mark_at one.0 two.0 here) (said.tied-Binary sign mark_at one.0 two.0 other) (sees.sees-Binary sign mark_at one.0 two.0 names needs.Number) (looks.kind-Binary source sign mark_at _ _ _)
        (λ p. one-conversion _ _ (both key tokens _ _ _ _ (expression-number one.0 one.1 names here other near twins (earlier sound _ _ p)) (mark key tokens here twins.numbers mark_at _ _ _ _ _ (binary-kinds key mark_at sign)
        (values key tokens _ _ _ (expression-number two.0 two.1 names here other near twins
        (later sound (constants_in sign (constant_of_kind one.0.kind one.0.at) (constant_of_kind two.0.kind two.0.at)) _ (later sound (seen_in_expression one.0 names needs.Number) _ p))))))),
    λ at view. viewed-no sound clean _ names at view _ _ (sees.sees-Binary sign mark_at one.0 two.0 names (needs.View view at)),
  ))
  on_kind (node.Cast width part) = subst KindSited (sym (kind.rolls-Cast width part.0)) (λ names here other near twins. (
    number-by _ names here other _ _ _ _ (said.tied-Cast width part.0 here) (said.tied-Cast width part.0 other) (sees.sees-Cast width part.0 names needs.Number) (looks.kind-Cast source width _)
        (λ p. one-conversion _ _ (expression-number part.0 part.1 names here other near twins p)),
    λ at view. viewed-no sound clean _ names at view _ _ (sees.sees-Cast width part.0 names (needs.View view at)),
  ))
  on_kind (node.Choose cond one two) = subst KindSited (sym (kind.rolls-Choose cond.0 one.0 two.0)) (λ names here other near twins. (
    number-by _ names here other _ _ _ _ (said.tied-Choose cond.0 one.0 two.0 here) (said.tied-Choose cond.0 one.0 two.0 other) (sees.sees-Choose cond.0 one.0 two.0 names needs.Number) (looks.kind-Choose source _ _ _)
        (λ p. one-conversion _ _ (both key tokens _ _ _ _ (expression-number cond.0 cond.1 names here other near twins (earlier sound _ _ p))
        (both key tokens _ _ _ _ (expression-number one.0 one.1 names here other near twins (earlier sound _ _ (later sound (seen_in_expression cond.0 names needs.Number) _ p)))
        (expression-number two.0 two.1 names here other near twins (later sound (seen_in_expression one.0 names needs.Number) _ (later sound (seen_in_expression cond.0 names needs.Number) _ p)))))),
    λ at view. viewed-no sound clean _ names at view _ _ (sees.sees-Choose cond.0 one.0 two.0 names (needs.View view at)),
  ))
  on_kind (node.Call call) = subst KindSited (sym (kind.rolls-Call call.0)) (λ names here other near twins. (
    number-by _ names here other _ _ _ _ (said.tied-Call call.0 here) (said.tied-Call call.0 other) (sees.sees-Call call.0 names needs.Number) (looks.kind-Call source _) (λ p. one-conversion _ _ (call.1 names here other true near twins p)),
    λ at view p. absurd (call-no-view sound clean call.0 names at view (subst (λ (l : List Seen). Each sound l) (sees.sees-Call call.0 names (needs.View view at)) p)),
  ))

  on_place : (y : node.Place-F SA SK SP SC SE) → PlaceSited (roll-Place (map-Place SA SK SP SC SE Arg ExprKind Place Call Expr (λ q. q.0) (λ q. q.0) (λ q. q.0) (λ q. q.0) (λ q. q.0) y))
  unfolding of_place
  on_place (node.Plain name) = subst PlaceSited (sym (places.rolls-Plain name)) (λ names here other near twins. (
    λ purpose. place-by _ names here other purpose _ _ _ _ (said.place-Plain name here _) (said.place-Plain name other _) (sees.place-Plain name names _ _) (looks.place-Plain source _ _)
        (λ p. beside key tokens _ [] _ refl refl (exposed key tokens (ampersand_of purpose) (object_of other name.name))),
    no-address sound clean _ name _ names _ (sees.place-Plain name names true needs.Number),
  ))
  on_place (node.Index name mark_at index) = subst PlaceSited (sym (places.rolls-Index name mark_at index.0)) (λ names here other near twins. (
    λ purpose. place-by _ names here other purpose _ _ _ _ (said.place-Index name mark_at index.0 here _) (said.place-Index name mark_at index.0 other _) (sees.place-Index name mark_at index.0 names _ _) (looks.place-Index source _ _ _ _ _)
        (λ p. beside key tokens _ _ _ refl refl (site key tokens here twins.numbers mark_at _ _ _ _ (indices name (with_marks.Once mark_at) purpose names here other near twins _ p mark_at)
        (expression-number index.0 index.1 names here other near twins (tail sound _ _ p)))),
    no-address sound clean _ name _ names _ (sees.place-Index name mark_at index.0 names true needs.Number),
  ))
  on_place (node.Index2 name first_at first second_at second) = subst PlaceSited (sym (places.rolls-Index2 name first_at first.0 second_at second.0)) (λ names here other near twins. (
    λ purpose. place-by _ names here other purpose _ _ _ _ (said.place-Index2 name first_at first.0 second_at second.0 here _) (said.place-Index2 name first_at first.0 second_at second.0 other _)
        (sees.place-Index2 name first_at first.0 second_at second.0 names _ _) (looks.place-Index2 source _ _ _ _ _ _ _ _)
        (λ p. beside key tokens _ _ _ refl refl (site key tokens here twins.numbers first_at _ _ _ _ ((indices name (with_marks.Twice first_at) purpose names here other near twins _ p).0 first_at)
        (both key tokens _ _ _ _ (expression-number first.0 first.1 names here other near twins (earlier sound _ _ (tail sound _ _ p)))
        (site key tokens here twins.numbers second_at _ _ _ _ ((indices name (with_marks.Twice first_at) purpose names here other near twins _ p).1 second_at)
        (expression-number second.0 second.1 names here other near twins (later sound (seen_in_expression first.0 names needs.Number) _ (tail sound _ _ p))))))),
    no-address sound clean _ name _ names _ (sees.place-Index2 name first_at first.0 second_at second.0 names true needs.Number),
  ))
  on_place (node.Deref star_at name) = subst PlaceSited (sym (places.rolls-Deref star_at name)) (λ names here other near twins. (
    λ purpose. place-by _ names here other purpose _ _ _ _ (said.place-Deref star_at name here _) (said.place-Deref star_at name other _) (sees.place-Deref star_at name names _ _) (looks.place-Deref source _ _ _ _)
        (λ p. beside key tokens _ _ _ refl refl (site key tokens here twins.numbers star_at _ _ [] [] refl (nothing key tokens))),
    no-address sound clean _ name _ names _ (sees.place-Deref star_at name names true needs.Number),
  ))

  on_argument : (y : node.Arg-F SA SK SP SC SE) → ArgumentSited (roll-Arg (map-Arg SA SK SP SC SE Arg ExprKind Place Call Expr (λ q. q.0) (λ q. q.0) (λ q. q.0) (λ q. q.0) (λ q. q.0) y))
  on_argument (node.Value value) = subst ArgumentSited (sym (arg.rolls-Value value.0)) (value-sited value.0 value.1)
  on_argument (node.Address at named) = subst ArgumentSited (sym (arg.rolls-Address at named.0)) (address-given at named.0 named.1)

  arguments-sited : (ys : List SA) (names : Names) (here other : Here) → Near source items Shaped names here → Twins tokens here other → (callee : Callee) (m : Option Meaning) (t : Option Tie) (place count : ℕ) → place + length ys ≡ count
      → ((k : ℕ) → k < count → TakesAt source items m t callee k) → Each sound (arguments_from (map (λ (q : SA). q.0) ys) names m place)
      → Sites (argued_from source callee place (map (argument_look source) (tied_arguments (map (λ (q : SA). q.0) ys) here t place).value)) (tied_arguments (map (λ (q : SA). q.0) ys) other t place).notes
  arguments-sited [] names here other near twins callee m t place count is takes p = nothing key tokens
  arguments-sited (y ∷ ys) names here other near twins callee m t place count is takes p =
      both key tokens _ _ _ _ (argument-given y.0 y.1 names here other near twins callee m t place (takes place (omega arith)) (earlier sound _ _ p))
      (arguments-sited ys names here other near twins callee m t (place + 1) count (omega arith) takes (later sound (seen_in_argument y.0 names (wanted_at names.items m place)) _ p))

  on_call : (y : node.Call-F SA SK SP SC SE) → CallSited (record { name = y.name; args = map (λ (q : SA). q.0) y.args })
  unfolding of_call
  on_call y names here other is_needed near twins p =
      let call : Call = record { name = y.name; args = map (λ (q : SA). q.0) y.args } in
      let tie : Option Tie = tie_of here call.name.name in
      let notes : List Note = noted_if (call_kind (callee_by tie)) call.name.at ++ (tied_arguments call.args other tie 0).notes in
      let parts : Each sound (call_seen source items Shaped call.name.at (called_by names call.name.name) (length call.args) is_needed ∷ arguments_from call.args names (meaning names call.name.name) 0) =
      subst (λ (l : List Seen). Each sound l) (sees.call-arguments call names (need_if is_needed)) p in
      let good : CallFits source items Shaped (object_exists source) (meaning names call.name.name) tie (length call.args) is_needed =
      call-fits source items Shaped sound (object_exists source) (objects-fit source items Shaped sound) names near.seen_items near.seen_functions call.name.at call.name.name _ _ (near.agree call.name.name) (length call.args) is_needed (clean _ (head sound _ _ parts)) in
      let long : length call.args ≡ length y.args = length-map y.args (λ (q : SA). q.0) in
      subst (λ (t : Tied TypedCall). Sites (in_call source (tied_call call here).value is_needed) t.notes) (sym (said.call-parts call other))
      (subst (λ (t : Option Tie). Sites (in_call source (tied_call call here).value is_needed) (noted_if (call_kind (callee_by t)) call.name.at ++ (tied_arguments call.args other t 0).notes)) (sym (tie-same tokens here other twins call.name.name))
      (subst (λ (t : Tied TypedCall). Sites (in_call source t.value is_needed) notes) (sym (said.call-parts call here))
      (subst (λ (l : Calling). Sites (l is_needed) notes) (sym (call-is source _))
      (beside key tokens _ _ _ refl refl (mark key tokens here twins.numbers call.name.at _ _ _ _ _ (call-kinds key call.name.at (callee_by tie))
      (arguments-sited y.args names here other near twins (callee_by tie) (meaning names call.name.name) tie 0 (length call.args) (omega (arith, long)) good.takes (tail sound _ _ parts)))))))

  on_expression : (y : node.Expr-F SA SK SP SC SE) → ExpressionSited (record { at = y.at; brackets = y.brackets; kind = y.kind.0 })
  on_expression y = y.kind.1

  pub argument-sites : (x : Arg) → ArgumentSited x
  argument-sites = ind-Arg ArgumentSited KindSited PlaceSited CallSited ExpressionSited
      (λ x y is. subst (λ z. ArgumentSited (roll-Arg z)) is (on_argument y))
      (λ x y is. subst (λ z. KindSited (roll-ExprKind z)) is (on_kind y))
      (λ x y is. subst (λ z. PlaceSited (roll-Place z)) is (on_place y))
      (λ x y is. subst (λ z. CallSited (roll-Call z)) is (on_call y))
      (λ x y is. subst (λ z. ExpressionSited (roll-Expr z)) is (on_expression y))

  pub place-sites : (x : Place) → PlaceSited x
  place-sites = ind-Place ArgumentSited KindSited PlaceSited CallSited ExpressionSited
      (λ x y is. subst (λ z. ArgumentSited (roll-Arg z)) is (on_argument y))
      (λ x y is. subst (λ z. KindSited (roll-ExprKind z)) is (on_kind y))
      (λ x y is. subst (λ z. PlaceSited (roll-Place z)) is (on_place y))
      (λ x y is. subst (λ z. CallSited (roll-Call z)) is (on_call y))
      (λ x y is. subst (λ z. ExpressionSited (roll-Expr z)) is (on_expression y))

  pub call-sites : (x : Call) → CallSited x
  call-sites = ind-Call ArgumentSited KindSited PlaceSited CallSited ExpressionSited
      (λ x y is. subst (λ z. ArgumentSited (roll-Arg z)) is (on_argument y))
      (λ x y is. subst (λ z. KindSited (roll-ExprKind z)) is (on_kind y))
      (λ x y is. subst (λ z. PlaceSited (roll-Place z)) is (on_place y))
      (λ x y is. subst (λ z. CallSited (roll-Call z)) is (on_call y))
      (λ x y is. subst (λ z. ExpressionSited (roll-Expr z)) is (on_expression y))

  pub kind-sites : (x : ExprKind) → KindSited x
  kind-sites = ind-ExprKind ArgumentSited KindSited PlaceSited CallSited ExpressionSited
      (λ x y is. subst (λ z. ArgumentSited (roll-Arg z)) is (on_argument y))
      (λ x y is. subst (λ z. KindSited (roll-ExprKind z)) is (on_kind y))
      (λ x y is. subst (λ z. PlaceSited (roll-Place z)) is (on_place y))
      (λ x y is. subst (λ z. CallSited (roll-Call z)) is (on_call y))
      (λ x y is. subst (λ z. ExpressionSited (roll-Expr z)) is (on_expression y))

  -- an expression that has to be a number
  pub number-sites : (x : Expr) (names : Names) (here other : Here) → Near source items Shaped names here → Twins tokens here other
      → Each sound (seen_in_expression x names needs.Number) → Sites (in_expression source (tied_expression x here).value None) (tied_expression x other).notes
  number-sites x = expression-number x (kind-sites x.kind)
