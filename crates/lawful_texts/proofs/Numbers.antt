-- The constants in expressions, and in what is made of them: what the rules of the grammar need.
use Rattle.std.proofs.Common.{◌≡◌, List, [], ◌∷◌, ◌++◌, Bool, true, false, refl, sym, ap, ◌∙◌, subst}
use Rattle.std.specs.Prelude.{ℤ, Option, Some, None, is_some}
use Rattle.sat_base.specs.declared.name.At.{At}
use Rattle.sat_base.specs.declared.width.Width.{Width}
use Rattle.sat_base.specs.declared.width.Width.TheVariants.{W16, W32}
use Rattle.c_tree.specs.declared.call.Arg.{Arg}
use Rattle.c_tree.specs.declared.call.Arg.TheVariants as arg
use Rattle.c_tree.specs.declared.call.Call.{Call}
use Rattle.c_tree.specs.declared.expression.BinaryMark.{BinaryMark}
use Rattle.c_tree.specs.declared.expression.BinaryMark.TheVariants as binary
use Rattle.c_tree.specs.declared.expression.Expr.{Expr}
use Rattle.c_tree.specs.declared.expression.ExprKind.{ExprKind}
use Rattle.c_tree.specs.declared.expression.ExprKind.TheVariants as kind
use Rattle.c_tree.specs.declared.expression.UnaryMark.{UnaryMark}
use Rattle.c_tree.specs.declared.expression.UnaryMark.TheVariants as unary
use Rattle.c_tree.specs.declared.simple.AssignMark.{AssignMark}
use Rattle.c_tree.specs.declared.simple.AssignMark.TheVariants as mark
use Rattle.c_tree.specs.declared.place.Place.{Place}
use Rattle.c_tree.specs.declared.statement.Stmt.{Stmt}
use Rattle.c_typed.specs.declared.call.TypedArg.{TypedArg}
use Rattle.c_typed.specs.declared.call.TypedArg.TheOpen as node
use Rattle.c_typed.specs.declared.call.TypedCall.{TypedCall}
use Rattle.c_typed.specs.declared.expression.TypedExpr.{TypedExpr}
use Rattle.c_typed.specs.declared.expression.TypedExprKind.{TypedExprKind}
use Rattle.c_typed.specs.declared.place.TypedPlace.{TypedPlace}
use Rattle.c_typed.specs.declared.statement.TypedStmt.{TypedStmt}
use Rattle.c_typed.specs.declared.typed.Typed.{Typed}
use Rattle.constant_expressions.specs.Folding.{converted, unary_value, binary_value, folded, folded_kind}
use Rattle.constant_expressions.proofs.Constants.{folded-Binary}
use Rattle.c_seen.specs.declared.seen.Need.{Need}
use Rattle.c_seen.specs.declared.seen.Need.TheVariants as needs
use Rattle.c_seen.specs.declared.seen.Seen.{Seen}
use Rattle.c_seen.specs.declared.seen.Seen.TheVariants as seen
use Rattle.c_seen.specs.declared.seen.View.{View as SeenView}
use Rattle.c_seen.specs.declared.seen.Wanted.{Wanted}
use Rattle.c_seen.specs.declared.seen.Wanted.TheVariants as wants
use Rattle.c_seen.specs.declared.statements.Spot.{Spot as SeenSpot}
use Rattle.c_seen.specs.Declarations.{number, number_if_any}
use Rattle.c_seen.specs.Expressions.{is_relation, no_view, constants_in, constant_of_kind, integer_of_kind, seen_in_expression, seen_in_kind, seen_in_place, seen_in_call, seen_in_argument}
use Rattle.c_seen.specs.Meanings.{Names, called_by, need_of}
use Rattle.c_seen.specs.Statements.{seen_in_statement}
use Rattle.c_seen.proofs.Expressions_seen as sees
use Rattle.tied_names.specs.declared.tie.Asked.{Asked}
use Rattle.tied_names.specs.declared.tie.Asked.TheVariants as asks
use Rattle.tied_names.specs.Ties.{Here}
use Rattle.tied_expressions.specs.Expressions.{tied_expression, tied_kind, viewed_kind, tied_place, tied_call, tied_argument}
use Rattle.tied_expressions.specs.Sites.{Tied, unary_kind, number_if, with_conversion}
use Rattle.tied_expressions.proofs.Tied_equations as said
use Rattle.tied_statements.specs.declared.statements.Inside.{Inside}
use Rattle.tied_statements.specs.Statements.{Done, assigned, tied_if_any, returned, tied_statement}
use Rattle.lawful_sources.specs.Things.{Thing, Taken, Use, Given, Conversion, due_of}
use Rattle.lawful_sources.specs.Expressions.{Look, Argued, Placed, Calling, opposite, of_argument, of_kind, argument_look, expression_look, kind_look, in_place, in_call, in_expression, in_argument}
use Rattle.lawful_sources.specs.Statements.{Spot, Walk, in_option, in_value, in_returned, in_statement}
use Rattle.lawful_sources.proofs.Passing.{expression-is}
use Rattle.lawful_laws.proofs.Statements.{later, head}
use Rattle.lawful_names.proofs.Calls.{called-no-view}
use Rattle.lawful_names.proofs.Clean.{is_clean, when-clean, never}
use Rattle.lawful_names.proofs.Looks as looks
use Rattle.lawful_texts.proofs.Alike.{Suits, Near}
use Rattle.lawful_texts.proofs.Claims.{Sound, KindSame, ArgumentSame, MaybeSame}
use Rattle.lawful_texts.proofs.Same.{Same, values, turned, nothing, more_things, passed, both-none, no-view, opposite-same}

-- ---- constant expressions

pub record BinarySome (m : BinaryMark) (left right : Option ℤ) : Type 0 where
  pub relation : is_relation m ≡ false
  pub first : is_some left ≡ true
  pub second : is_some right ≡ true

-- no relation is a constant expression
pub binary-some : (m : BinaryMark) (left right : Option ℤ) → is_some (binary_value m left right) ≡ true → BinarySome m left right
binary-some m None right p = cc
binary-some m (Some left) None p = cc
binary-some binary.Plus (Some left) (Some right) p = record { relation = refl; first = refl; second = refl }
binary-some binary.Minus (Some left) (Some right) p = record { relation = refl; first = refl; second = refl }
binary-some binary.Times (Some left) (Some right) p = record { relation = refl; first = refl; second = refl }
binary-some m (Some left) (Some right) p = cc

no-relation : (m : BinaryMark) (ss ts : List Seen) → is_relation m ≡ false → values (constants_in m ss ts) ≡ []
no-relation m ss ts p = rw p refl

pub unary-some : (m : UnaryMark) (part : Option ℤ) → is_some (unary_value m part) ≡ true → is_some part ≡ true
unary-some m None p = cc
unary-some m (Some value) p = refl

pub converted-some : (width : Width) (part : Option ℤ) → is_some (converted width part) ≡ true → is_some part ≡ true
converted-some W16 None p = p
converted-some W32 None p = p
converted-some width (Some value) p = refl

-- ---- views

pub never-view : (first : At) (rest : List Seen) → Sound (seen.NoView first ∷ rest) → ⊥
never-view first rest p = never first (when-clean _ (head is_clean _ _ p)).view

pub never-called : (call : Call) (names : Names) (view : SeenView) (first : At) → Sound (seen_in_call call names (needs.View view first)) → ⊥
never-called call names view first p =
    called-no-view call.name.at (called_by names call.name.name) _ view first (when-clean _ (head is_clean _ _ (rw sees.call-arguments at p)))

pub after-view : (need : Need) (rest : List Seen) → Sound (no_view need ++ rest) → Sound rest
after-view need rest p = later is_clean (no_view need) rest p

pub plain-same : (need : Need) (due : Option Width) (things : List Thing) (list : List Seen) → Same things list → Same (Conversion None due ∷ things) (no_view need ++ list)
plain-same need due things list same = more_things _ _ _ refl (passed things (no_view need) list (no-view need) same)

module _ (source : Typed) where
  -- ---- by what a part is tied to, by what is seen in it, and by what stands in what it is tied to

  pub kind-look : (x : ExprKind) (here : Here) (t : Tied TypedExprKind) (look : Look) → tied_kind x here ≡ t → kind_look source t.value ≡ look → kind_look source (tied_kind x here).value ≡ look
  kind-look x here t look tied is = ap (λ (t : Tied TypedExprKind). kind_look source t.value) tied ∙ is

  pub kind-by : (x : ExprKind) (names : Names) (here : Here) (need : Need) (due : Option Width) (t : Tied TypedExprKind) (list : List Seen) (look : Look)
      → tied_kind x here ≡ t → seen_in_kind x names need ≡ list → kind_look source t.value ≡ look → (Sound list → Same (look.stands due) list)
      → Sound (seen_in_kind x names need) → Same ((kind_look source (tied_kind x here).value).stands due) (seen_in_kind x names need)
  kind-by x names here need due t list look tied sees is what p =
      turned _ _ _ _ (ap (λ (l : Look). l.stands due) (kind-look x here t look tied is)) sees (what (subst Sound sees p))

  pub argument-by : (x : Arg) (names : Names) (here : Here) (asked : Asked) (wanted : Wanted) (taken : Option Taken) (t : Tied TypedArg) (list : List Seen) (look : Argued)
      → tied_argument x here asked ≡ t → seen_in_argument x names wanted ≡ list → argument_look source t.value ≡ look → (Sound list → Same (look.stands taken) list)
      → Sound (seen_in_argument x names wanted) → Same (in_argument source (tied_argument x here asked).value taken) (seen_in_argument x names wanted)
  argument-by x names here asked wanted taken t list look tied sees is what p =
      turned _ _ _ _ (ap (λ (t : Tied TypedArg). in_argument source t.value taken) tied ∙ ap (λ (l : Argued). l.stands taken) is) sees (what (subst Sound sees p))

  pub place-by : (x : Place) (names : Names) (here : Here) (ampersand : Bool) (need : Need) (aim : Use) (t : Tied TypedPlace) (list : List Seen) (look : Placed)
      → tied_place x here ampersand ≡ t → seen_in_place x names ampersand need ≡ list → in_place source t.value ≡ look → (Sound list → Same (look aim) list)
      → Sound (seen_in_place x names ampersand need) → Same (in_place source (tied_place x here ampersand).value aim) (seen_in_place x names ampersand need)
  place-by x names here ampersand need aim t list look tied sees is what p =
      turned _ _ _ _ (ap (λ (t : Tied TypedPlace). in_place source t.value aim) tied ∙ ap (λ (l : Placed). l aim) is) sees (what (subst Sound sees p))

  pub call-by : (x : Call) (names : Names) (here : Here) (need : Need) (is_needed : Bool) (t : Tied TypedCall) (list : List Seen) (look : Calling)
      → tied_call x here ≡ t → seen_in_call x names need ≡ list → in_call source t.value ≡ look → (Sound list → Same (look is_needed) list)
      → Sound (seen_in_call x names need) → Same (in_call source (tied_call x here).value is_needed) (seen_in_call x names need)
  call-by x names here need is_needed t list look tied sees is what p =
      turned _ _ _ _ (ap (λ (t : Tied TypedCall). in_call source t.value is_needed) tied ∙ ap (λ (l : Calling). l is_needed) is) sees (what (subst Sound sees p))

  pub statement-by : (x : Stmt) (names : Names) (here : Here) (inside : Inside) (spot : SeenSpot) (at : Spot) (done : Done TypedStmt) (list : List Seen) (walk : Walk)
      → tied_statement x here inside ≡ done → seen_in_statement x names spot ≡ list → in_statement source done.value ≡ walk → (Sound list → Same (walk at) list)
      → Sound (seen_in_statement x names spot) → Same (in_statement source (tied_statement x here inside).value at) (seen_in_statement x names spot)
  statement-by x names here inside spot at done list walk tied sees is what p =
      turned _ _ _ _ (ap (λ (d : Done TypedStmt). in_statement source d.value at) tied ∙ ap (λ (w : Walk). w at) is) sees (what (subst Sound sees p))

  -- ---- expressions

  look-is : (e : Expr) (here : Here) → expression_look source (tied_expression e here).value ≡ kind_look source (tied_kind e.kind here).value
  look-is e here = ap (λ (t : Tied TypedExpr). expression_look source t.value) (said.tied-expression e here) ∙ expression-is source _

  pub expression-same : (e : Expr) → KindSame source e.kind → (names : Names) (here : Here) (need : Need) (due : Option Width) → Near names here → Sound (seen_in_expression e names need)
      → Same (in_expression source (tied_expression e here).value due) (seen_in_expression e names need)
  expression-same e one names here need due near p =
      turned _ _ _ _ (ap (λ (l : Look). l.stands due) (look-is e here)) (sees.expression-kind e names need) (one.number names here need due near (subst Sound (sees.expression-kind e names need) p))

  pub expression-flat : (e : Expr) → KindSame source e.kind → (names : Names) → is_some (folded e) ≡ true → values (number names e) ≡ []
  expression-flat e one names some = rw sees.expression-kind (one.flat names needs.Number some)

  pub expression-constant : (e : Expr) → KindSame source e.kind → (here : Here) → (expression_look source (tied_expression e here).value).constant ≡ values (constant_of_kind e.kind e.at)
  expression-constant e one here = ap (λ (l : Look). l.constant) (look-is e here) ∙ one.constant here e.at

  pub converted-same : (width : Width) (due : Option Width) (x : TypedExpr) (list : List Seen) → Same (in_expression source x None) list → Same (in_expression source (with_conversion width x) due) list
  unfolding of_kind
  converted-same width due x list same =
      turned _ _ list list (ap (λ (l : Look). l.stands due) (expression-is source (with_conversion width x) ∙ looks.kind-Convert source width x)) refl (more_things _ _ _ refl same)

  signed-look : (m : UnaryMark) (mark_at : At) (part : Expr) (here : Here) → kind_look source (tied_kind (kind.Unary m mark_at part) here).value
      ≡ of_kind source (node.Unary m mark_at (number_if here (unary_kind m) mark_at) (kind_look source (tied_kind part.kind here).value))
  signed-look m mark_at part here =
      ap (λ (t : Tied TypedExprKind). kind_look source t.value) (said.tied-Unary m mark_at part here) ∙ looks.kind-Unary source m mark_at _ _
      ∙ ap (λ (l : Look). of_kind source (node.Unary m mark_at (number_if here (unary_kind m) mark_at) l)) (look-is part here)

  pub signed-integer : (m : UnaryMark) (mark_at : At) (part : Expr) → KindSame source part.kind → (here : Here)
      → (kind_look source (tied_kind (kind.Unary m mark_at part) here).value).integer ≡ integer_of_kind (kind.Unary m mark_at part)
  unfolding of_kind
  signed-integer unary.Plus mark_at part one here = ap (λ (l : Look). l.integer) (signed-look unary.Plus mark_at part here) ∙ one.integer here ∙ sym (sees.integer-Plus mark_at part)
  signed-integer unary.Minus mark_at part one here = ap (λ (l : Look). l.integer) (signed-look unary.Minus mark_at part here) ∙ sym (sees.integer-Minus mark_at part)
  signed-integer unary.Not mark_at part one here = ap (λ (l : Look). l.integer) (signed-look unary.Not mark_at part here) ∙ sym (sees.integer-Not mark_at part)
  signed-integer unary.Invert mark_at part one here = ap (λ (l : Look). l.integer) (signed-look unary.Invert mark_at part here) ∙ sym (sees.integer-Invert mark_at part)

  pub signed-constant : (m : UnaryMark) (mark_at : At) (part : Expr) → KindSame source part.kind → (here : Here) (at : At)
      → (kind_look source (tied_kind (kind.Unary m mark_at part) here).value).constant ≡ values (constant_of_kind (kind.Unary m mark_at part) at)
  unfolding of_kind
  signed-constant unary.Plus mark_at part one here at =
      ap (λ (l : Look). l.constant) (signed-look unary.Plus mark_at part here) ∙ one.constant here part.at ∙ sym (ap values (sees.constant-Plus mark_at part at))
  signed-constant unary.Minus mark_at part one here at =
      ap (λ (l : Look). l.constant) (signed-look unary.Minus mark_at part here) ∙ ap opposite (one.integer here) ∙ opposite-same (integer_of_kind part.kind) at ∙ sym (ap values (sees.constant-Minus mark_at part at))
  signed-constant unary.Not mark_at part one here at = ap (λ (l : Look). l.constant) (signed-look unary.Not mark_at part here) ∙ sym (ap values (sees.constant-Not mark_at part at))
  signed-constant unary.Invert mark_at part one here at = ap (λ (l : Look). l.constant) (signed-look unary.Invert mark_at part here) ∙ sym (ap values (sees.constant-Invert mark_at part at))

  pub binary-flat : (m : BinaryMark) (mark_at : At) (left right : Expr) → KindSame source left.kind → KindSame source right.kind → (names : Names) (need : Need)
      → is_some (folded_kind (kind.Binary m mark_at left right)) ≡ true → values (seen_in_kind (kind.Binary m mark_at left right) names need) ≡ []
  binary-flat m mark_at left right one other names need some =
      let b : BinarySome m (folded left) (folded right) = binary-some m (folded left) (folded right) (ap is_some (sym (folded-Binary m mark_at left right)) ∙ some) in
      rw sees.sees-Binary (both-none (no_view need) _ (no-view need) (both-none (number names left) _ (expression-flat left one names b.first)
      (both-none (constants_in m (constant_of_kind left.kind left.at) (constant_of_kind right.kind right.at)) _ (no-relation m (constant_of_kind left.kind left.at) (constant_of_kind right.kind right.at) b.relation) (expression-flat right other names b.second))))

  -- ---- arguments

  pub viewed-read : (place : Place) (names : Names) (here : Here) (need : Need) (at : At) (taken : Option Taken)
      → (Sound (seen_in_place place names false need) → Same (in_place source (tied_place place here false).value (Given taken)) (seen_in_place place names false need)) → Sound (seen_in_kind (kind.Read place) names need)
      → Same (in_argument source (viewed_kind (kind.Read place) at here).value taken) (seen_in_kind (kind.Read place) names need)
  unfolding of_argument
  viewed-read place names here need at taken what p =
      turned _ _ _ _ (ap (λ (t : Tied TypedArg). in_argument source t.value taken) (said.viewed-Read place at here) ∙ ap (λ (l : Argued). l.stands taken) (looks.argument-Address source at _)) (sees.sees-Read place names need)
      (more_things _ _ _ refl (what (subst Sound (sees.sees-Read place names need) p)))

  value-by : (e : Expr) → KindSame source e.kind → (names : Names) (here : Here) (asked : Asked) (wanted : Wanted) (taken : Option Taken) → Suits asked wanted → Near names here
      → Sound (seen_in_argument (arg.Value e) names wanted) → Same (in_argument source (tied_argument (arg.Value e) here asked).value taken) (seen_in_argument (arg.Value e) names wanted)
  unfolding of_argument
  value-by e one names here (asks.Number width) wanted taken suits near =
      argument-by _ names here (asks.Number width) wanted taken _ _ _ (said.argument-Number e here width) (sees.argument-Value e names wanted) (looks.argument-Value source _)
      (λ q. more_things _ _ _ refl (converted-same width (due_of taken) _ _ (expression-same e one names here (need_of wanted e.at) None near q)))
  value-by e one names here asks.View wants.Number taken suits near = absurd suits
  value-by e one names here asks.View (wants.View view) taken suits near =
      argument-by _ names here asks.View (wants.View view) taken _ _ _ (said.argument-View e here) (sees.argument-Value e names (wants.View view) ∙ sees.expression-kind e names (needs.View view e.at)) refl
      (λ q. one.view names here view e.at e.at taken near q)
  value-by e one names here asks.View wants.Nothing taken suits near = absurd suits

  pub value-same : (e : Expr) → KindSame source e.kind → ArgumentSame source (arg.Value e)
  value-same e one = record { same = value-by e one; flat = λ names wanted some. rw (sees.argument-Value, sees.expression-kind) (one.flat names (need_of wanted e.at) some) }

  -- ---- what may be missing

  pub maybe-same : (value : Option Expr) → MaybeSame source value → (names : Names) (here : Here) → Near names here → Sound (number_if_any names value)
      → Same (in_option (in_value source) (tied_if_any here value).value) (number_if_any names value)
  maybe-same None one names here near p = nothing
  maybe-same (Some e) one names here near p = expression-same e one names here needs.Number None near p

  pub returned-same : (gives : Option Width) (at : Spot) (value : Option Expr) → MaybeSame source value → (names : Names) (here : Here) → Near names here → Sound (number_if_any names value)
      → Same (in_option (in_returned source at) (returned gives (tied_if_any here value).value)) (number_if_any names value)
  returned-same None at None one names here near p = nothing
  returned-same None at (Some e) one names here near p = expression-same e one names here needs.Number at.gives near p
  returned-same (Some width) at None one names here near p = nothing
  returned-same (Some width) at (Some e) one names here near p = converted-same width at.gives _ _ (expression-same e one names here needs.Number None near p)

  pub assigned-same : (m : AssignMark) (width : Width) (due : Option Width) (e : Expr) → KindSame source e.kind → (names : Names) (here : Here) → Near names here → Sound (number names e)
      → Same (in_expression source (assigned m width (tied_expression e here).value) due) (number names e)
  assigned-same mark.Plain width due e one names here near p = converted-same width due _ _ (expression-same e one names here needs.Number None near p)
  assigned-same mark.Plus width due e one names here near p = expression-same e one names here needs.Number due near p
  assigned-same mark.Minus width due e one names here near p = expression-same e one names here needs.Number due near p
  assigned-same mark.Times width due e one names here near p = expression-same e one names here needs.Number due near p
  assigned-same mark.And width due e one names here near p = expression-same e one names here needs.Number due near p
  assigned-same mark.Or width due e one names here near p = expression-same e one names here needs.Number due near p
  assigned-same mark.Xor width due e one names here near p = expression-same e one names here needs.Number due near p
