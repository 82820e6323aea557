-- Expressions whose calls are lawful have a tree: an induction over what stands in them.
use Rattle.std.proofs.Common.{◌≡◌, ℕ, zero, suc, ◌+◌, List, [], ◌∷◌, ◌++◌, Bool, true, IsTrue, length, map, refl, sym, ◌∙◌, subst, arith}
use Rattle.std.specs.Prelude.{Option, None, ◌&&◌, ◌==◌, is_none as is_nothing, is_some, if◌then◌else◌, slice_get}
use Rattle.std.specs.List.{list_all}
use Rattle.std.proofs.lemmas.Bool.{and_parts, and_from, eqb-true}
use Rattle.std.proofs.lemmas.List.{length-map}
use Rattle.std.proofs.lemmas.List.Folds.{list_all-append}
use Rattle.sat_base.specs.declared.width.Width.{Width}
use Rattle.c_typed.specs.declared.call.Callee.{Callee}
use Rattle.c_typed.specs.declared.call.Callee.TheVariants.{Function, Operator, Move16, Move32, Logic16, Logic32, Test, SampleIn, SampleLeft, SampleOut}
use Rattle.c_typed.specs.declared.call.TypedArg.{TypedArg}
use Rattle.c_typed.specs.declared.call.TypedArg.TheOpen as node
use Rattle.c_typed.specs.declared.call.TypedArg.TheViews.{roll-TypedArg, roll-TypedExprKind, roll-TypedPlace}
use Rattle.c_typed.specs.declared.call.TypedArg.TheFolds.{map-TypedArg, map-TypedExprKind, map-TypedPlace, fold-roll-TypedArg, fold-roll-TypedExprKind, fold-roll-TypedPlace, ind-TypedArg, ind-TypedPlace, ind-TypedCall, ind-TypedExpr}
use Rattle.c_typed.specs.declared.call.TypedCall.{TypedCall, roll-TypedCall}
use Rattle.c_typed.specs.declared.expression.TypedExpr.{TypedExpr, roll-TypedExpr}
use Rattle.c_typed.specs.declared.expression.TypedExprKind.{TypedExprKind}
use Rattle.c_typed.specs.declared.place.TypedPlace.{TypedPlace}
use Rattle.c_typed.specs.declared.typed.Typed.{Typed}
use Rattle.c_typed.specs.declared.typed.TypedFunction.{TypedFunction}
use Rattle.tree_agreement.specs.Lawful.{all_hold, is_none, is_one, takes, of_argument as argument_of, of_kind as kind_of, of_place as place_of, of_call as call_of, of_expression as expression_of, argument_fits, kind_fits, place_fits, call_fits, expression_fits}
use Rattle.tree_agreement.proofs.LawfulParts as fits
use Rattle.source_agreement.specs.Agreement.{is_defined}
use Rattle.lawful_sources.specs.Things.{Taken, Use, Read, Given, Thing, taken_at}
use Rattle.lawful_sources.specs.Expressions.{Look, Argued, Placed, Calling, argued_from, of_argument, of_kind, of_place, of_call, argument_look, kind_look, in_place, in_call, in_expression, in_argument}
use Rattle.lawful_sources.specs.Lawful.{is_whole}
use Rattle.lawful_sources.specs.Objects.{is_complete}
use Rattle.lawful_sources.specs.Rows as rows
use Rattle.lawful_sources.proofs.Passing.{Each, roll_argument, roll_kind, roll_place, call-is, expression-is}

-- ---- what passes

-- what is called is defined, and has as many arguments as it takes
abbrev pub is_lawful_call : Typed → Thing → Bool
is_lawful_call source thing = rows.callee_is_defined source thing && rows.arguments_are_counted source thing

pub later : {A : Type 0} (test : A → Bool) (x : A) (rest : List A) → Each test (x ∷ rest) → Each test rest
later test x rest p = record { all = (and_parts (test x) _ p.all).1 }

pub both-parts : {A : Type 0} (test : A → Bool) (xs ys : List A) → Each test (xs ++ ys) → Each test xs × Each test ys
both-parts test xs ys p =
    let both = and_parts (list_all test xs) _ (sym (list_all-append test xs ys) ∙ p.all) in (record { all = both.0 }, record { all = both.1 })

-- ---- functions that are defined

whole-defined : (f : TypedFunction) → is_whole f ≡ true → is_some f.body ≡ true → is_some f.defined ≡ true
whole-defined f whole complete = subst (λ (b : Bool). (if b then is_some f.defined else (is_nothing f.defined && length f.params == 0)) ≡ true) complete whole

-- a function that is complete has the name in its definition
pub defined-where : (functions : List TypedFunction) (number : ℕ) → list_all is_whole functions ≡ true → is_complete (slice_get functions number) ≡ true → IsTrue (is_defined functions number)
defined-where [] number whole complete = cc
defined-where (f ∷ functions) zero whole complete = whole-defined f (and_parts (is_whole f) _ whole).0 complete
defined-where (f ∷ functions) (suc number) whole complete = defined-where functions number (and_parts (is_whole f) _ whole).1 complete

-- ---- as many arguments

none-taken : (list : List Bool) → length list ≡ 0 → IsTrue (is_none list)
none-taken [] p = refl
none-taken (x ∷ list) p = absurd (omega arith)

one-taken : (list : List Bool) → length list ≡ 1 → IsTrue (is_one list)
one-taken [] p = absurd (omega arith)
one-taken (x ∷ list) p = none-taken list (omega arith)

module _ (source : Typed) where
  abbrev pub defined : ℕ → Bool
  defined = is_defined source.functions

  abbrev pub Lawful : List Thing → Type 0
  Lawful = Each (is_lawful_call source)

  counted : (args : List TypedArg) (n : ℕ) → (length (map (argument_look source) args) == n) ≡ true → length (map (argument_fits defined) args) ≡ n
  counted args n p = let is : length (map (argument_look source) args) ≡ n = eqb-true _ n p in omega (arith, length-map args (argument_look source), length-map args (argument_fits defined))

  module _ (whole : list_all is_whole source.functions ≡ true) where
    taken : (callee : Callee) (args : List TypedArg) → rows.is_defined source callee ≡ true → (length (map (argument_look source) args) == rows.takes_count source callee) ≡ true → IsTrue (takes defined callee (map (argument_fits defined) args))
    taken (Function number) args p q = defined-where source.functions number whole p
    taken (Operator op) args p q = refl
    taken SampleOut args p q = one-taken _ (counted args 1 q)
    taken Move16 args p q = none-taken _ (counted args 0 q)
    taken Move32 args p q = none-taken _ (counted args 0 q)
    taken Logic16 args p q = none-taken _ (counted args 0 q)
    taken Logic32 args p q = none-taken _ (counted args 0 q)
    taken Test args p q = none-taken _ (counted args 0 q)
    taken SampleIn args p q = none-taken _ (counted args 0 q)
    taken SampleLeft args p q = none-taken _ (counted args 0 q)

    -- ---- the induction

    abbrev A : TypedArg → Type 0
    A a = (taken : Option Taken) → Lawful (in_argument source a taken) → IsTrue (argument_fits defined a)

    abbrev K : TypedExprKind → Type 0
    K k = (due : Option Width) → Lawful ((kind_look source k).stands due) → IsTrue (kind_fits defined k)

    abbrev P : TypedPlace → Type 0
    P p = (aim : Use) → Lawful (in_place source p aim) → IsTrue (place_fits defined p)

    abbrev C : TypedCall → Type 0
    C c = (is_needed : Bool) → Lawful (in_call source c is_needed) → IsTrue (call_fits defined c)

    abbrev E : TypedExpr → Type 0
    E e = (due : Option Width) → Lawful (in_expression source e due) → IsTrue (expression_fits defined e)

    abbrev SA : Type 0
    SA = (a : TypedArg) × A a

    abbrev SK : Type 0
    SK = (k : TypedExprKind) × K k

    abbrev SP : Type 0
    SP = (p : TypedPlace) × P p

    abbrev SC : Type 0
    SC = (c : TypedCall) × C c

    abbrev SE : Type 0
    SE = (e : TypedExpr) × E e

    rest : (thing : Thing) (things : List Thing) → Lawful (thing ∷ things) → Lawful things
    rest = later (is_lawful_call source)

    parts : (xs ys : List Thing) → Lawful (xs ++ ys) → Lawful xs × Lawful ys
    parts = both-parts (is_lawful_call source)

    both : (a b : Bool) → IsTrue a → IsTrue b → IsTrue (a && b)
    both = and_from

    argument-by : (a : TypedArg) (look : Argued) (fit : Bool) → argument_look source a ≡ look → argument_fits defined a ≡ fit → ((taken : Option Taken) → Lawful (look.stands taken) → IsTrue fit) → A a
    argument-by a look fit is same f taken p = same ∙ f taken (subst (λ (l : Argued). Lawful (l.stands taken)) is p)

    kind-by : (k : TypedExprKind) (look : Look) (fit : Bool) → kind_look source k ≡ look → kind_fits defined k ≡ fit → ((due : Option Width) → Lawful (look.stands due) → IsTrue fit) → K k
    kind-by k look fit is same f due p = same ∙ f due (subst (λ (l : Look). Lawful (l.stands due)) is p)

    place-by : (place : TypedPlace) (placed : Placed) (fit : Bool) → in_place source place ≡ placed → place_fits defined place ≡ fit → ((aim : Use) → Lawful (placed aim) → IsTrue fit) → P place
    place-by place placed fit is same f aim p = same ∙ f aim (subst (λ (w : Placed). Lawful (w aim)) is p)

    fit-argument : (z : node.TypedArg-F TypedArg TypedExprKind TypedPlace TypedCall TypedExpr) → argument_fits defined (roll-TypedArg z)
        ≡ argument_of defined (map-TypedArg TypedArg TypedExprKind TypedPlace TypedCall TypedExpr Bool Bool Bool Bool Bool (argument_fits defined) (kind_fits defined) (place_fits defined) (call_fits defined) (expression_fits defined) z)
    fit-argument = fold-roll-TypedArg _ _ _ _ _ (argument_of defined) (kind_of defined) (place_of defined) (call_of defined) (expression_of defined)

    fit-kind : (z : node.TypedExprKind-F TypedArg TypedExprKind TypedPlace TypedCall TypedExpr) → kind_fits defined (roll-TypedExprKind z)
        ≡ kind_of defined (map-TypedExprKind TypedArg TypedExprKind TypedPlace TypedCall TypedExpr Bool Bool Bool Bool Bool (argument_fits defined) (kind_fits defined) (place_fits defined) (call_fits defined) (expression_fits defined) z)
    fit-kind = fold-roll-TypedExprKind _ _ _ _ _ (argument_of defined) (kind_of defined) (place_of defined) (call_of defined) (expression_of defined)

    fit-place : (z : node.TypedPlace-F TypedArg TypedExprKind TypedPlace TypedCall TypedExpr) → place_fits defined (roll-TypedPlace z)
        ≡ place_of defined (map-TypedPlace TypedArg TypedExprKind TypedPlace TypedCall TypedExpr Bool Bool Bool Bool Bool (argument_fits defined) (kind_fits defined) (place_fits defined) (call_fits defined) (expression_fits defined) z)
    fit-place = fold-roll-TypedPlace _ _ _ _ _ (argument_of defined) (kind_of defined) (place_of defined) (call_of defined) (expression_of defined)

    on_argument : (y : node.TypedArg-F SA SK SP SC SE) → A (roll-TypedArg (map-TypedArg SA SK SP SC SE TypedArg TypedExprKind TypedPlace TypedCall TypedExpr (λ q. q.0) (λ q. q.0) (λ q. q.0) (λ q. q.0) (λ q. q.0) y))
    unfolding of_argument argument_of
    on_argument (node.Value value) = argument-by _ _ _ (roll_argument source _) (fit-argument _) (λ taken p. value.1 _ (rest _ _ p))
    on_argument (node.Address at place) = argument-by _ _ _ (roll_argument source _) (fit-argument _) (λ taken p. place.1 (Given taken) (rest _ _ p))

    on_kind : (y : node.TypedExprKind-F SA SK SP SC SE) → K (roll-TypedExprKind (map-TypedExprKind SA SK SP SC SE TypedArg TypedExprKind TypedPlace TypedCall TypedExpr (λ q. q.0) (λ q. q.0) (λ q. q.0) (λ q. q.0) (λ q. q.0) y))
    unfolding of_kind kind_of
    on_kind (node.Int value) = kind-by _ _ _ (roll_kind source _) (fit-kind _) (λ due p. refl)
    on_kind (node.Read place) = kind-by _ _ _ (roll_kind source _) (fit-kind _) (λ due p. place.1 Read (rest _ _ p))
    on_kind (node.ReadOverflow word_at) = kind-by _ _ _ (roll_kind source _) (fit-kind _) (λ due p. refl)
    on_kind (node.Unary mark mark_at site part) = kind-by _ _ _ (roll_kind source _) (fit-kind _) (λ due p. part.1 None (rest _ _ (rest _ _ p)))
    on_kind (node.Binary mark mark_at site one other) = kind-by _ _ _ (roll_kind source _) (fit-kind _) (λ due p.
        let ends = parts _ _ (rest _ _ p) in both _ _ (one.1 None ends.0) (other.1 None (parts _ _ (rest _ _ ends.1)).1))
    on_kind (node.Cast width part) = kind-by _ _ _ (roll_kind source _) (fit-kind _) (λ due p. part.1 None (rest _ _ p))
    on_kind (node.Convert width part) = kind-by _ _ _ (roll_kind source _) (fit-kind _) (λ due p. part.1 None (rest _ _ p))
    on_kind (node.Choose cond one other) = kind-by _ _ _ (roll_kind source _) (fit-kind _) (λ due p.
        let three = parts _ _ (rest _ _ p) in let two = parts _ _ three.1 in both _ _ (cond.1 None three.0) (both _ _ (one.1 None two.0) (other.1 None two.1)))
    on_kind (node.Call call) = kind-by _ _ _ (roll_kind source _) (fit-kind _) (λ due p. call.1 true (rest _ _ p))

    on_place : (y : node.TypedPlace-F SA SK SP SC SE) → P (roll-TypedPlace (map-TypedPlace SA SK SP SC SE TypedArg TypedExprKind TypedPlace TypedCall TypedExpr (λ q. q.0) (λ q. q.0) (λ q. q.0) (λ q. q.0) (λ q. q.0) y))
    unfolding of_place place_of
    on_place (node.Plain at object) = place-by _ _ _ (roll_place source _) (fit-place _) (λ aim p. refl)
    on_place (node.Index at object mark_at site index) = place-by _ _ _ (roll_place source _) (fit-place _) (λ aim p. index.1 None (rest _ _ (rest _ _ p)))
    on_place (node.Index2 at object first_at first_site first second_at second_site second) = place-by _ _ _ (roll_place source _) (fit-place _) (λ aim p.
        let two = parts _ _ (rest _ _ (rest _ _ p)) in both _ _ (first.1 None two.0) (second.1 None (rest _ _ two.1)))
    on_place (node.Deref star_at site at object) = place-by _ _ _ (roll_place source _) (fit-place _) (λ aim p. refl)

    arguments-fit : (callee : Callee) (place : ℕ) (ys : List SA) → Lawful (argued_from source callee place (map (argument_look source) (map (λ (q : SA). q.0) ys))) → IsTrue (all_hold (map (argument_fits defined) (map (λ (q : SA). q.0) ys)))
    arguments-fit callee place [] p = refl
    arguments-fit callee place (y ∷ ys) p = let two = parts _ _ p in both _ _ (y.1 (taken_at source callee place) two.0) (arguments-fit callee (place + 1) ys two.1)

    on_call : (y : node.TypedCall-F SA SK SP SC SE) → C (record { at = y.at; callee = y.callee; site = y.site; args = map (λ (q : SA). q.0) y.args })
    unfolding of_call
    on_call y is_needed p =
        let args : List TypedArg = map (λ (q : SA). q.0) y.args in
        let call : TypedCall = record { at = y.at; callee = y.callee; site = y.site; args = args } in
        let stands : Lawful (of_call source (record { at = y.at; callee = y.callee; site = y.site; args = map (argument_look source) args }) is_needed) = subst (λ (w : Calling). Lawful (w is_needed)) (call-is source call) p in
        let itself = and_parts (rows.is_defined source y.callee) _ (and_parts (rows.is_defined source y.callee && (length (map (argument_look source) args) == rows.takes_count source y.callee)) _ stands.all).0 in
        fits.call-is defined call ∙ both _ _ (taken y.callee args itself.0 itself.1) (arguments-fit y.callee 0 y.args (rest _ _ (rest _ _ stands)))

    on_expression : (y : node.TypedExpr-F SA SK SP SC SE) → E (record { at = y.at; brackets = y.brackets; kind = y.kind.0 })
    on_expression y due p =
        fits.expression-is defined _ ∙ y.kind.1 due (subst (λ (l : Look). Lawful (l.stands due)) (expression-is source _) p)

    pub argument-fits : (x : TypedArg) → A x
    argument-fits = ind-TypedArg A K P C E
        (λ x y is. subst (λ z. A (roll-TypedArg z)) is (on_argument y))
        (λ x y is. subst (λ z. K (roll-TypedExprKind z)) is (on_kind y))
        (λ x y is. subst (λ z. P (roll-TypedPlace z)) is (on_place y))
        (λ x y is. subst (λ z. C (roll-TypedCall z)) is (on_call y))
        (λ x y is. subst (λ z. E (roll-TypedExpr z)) is (on_expression y))

    pub place-fits : (x : TypedPlace) → P x
    place-fits = ind-TypedPlace A K P C E
        (λ x y is. subst (λ z. A (roll-TypedArg z)) is (on_argument y))
        (λ x y is. subst (λ z. K (roll-TypedExprKind z)) is (on_kind y))
        (λ x y is. subst (λ z. P (roll-TypedPlace z)) is (on_place y))
        (λ x y is. subst (λ z. C (roll-TypedCall z)) is (on_call y))
        (λ x y is. subst (λ z. E (roll-TypedExpr z)) is (on_expression y))

    pub call-fits : (x : TypedCall) → C x
    call-fits = ind-TypedCall A K P C E
        (λ x y is. subst (λ z. A (roll-TypedArg z)) is (on_argument y))
        (λ x y is. subst (λ z. K (roll-TypedExprKind z)) is (on_kind y))
        (λ x y is. subst (λ z. P (roll-TypedPlace z)) is (on_place y))
        (λ x y is. subst (λ z. C (roll-TypedCall z)) is (on_call y))
        (λ x y is. subst (λ z. E (roll-TypedExpr z)) is (on_expression y))

    pub expression-fits : (x : TypedExpr) → E x
    expression-fits = ind-TypedExpr A K P C E
        (λ x y is. subst (λ z. A (roll-TypedArg z)) is (on_argument y))
        (λ x y is. subst (λ z. K (roll-TypedExprKind z)) is (on_kind y))
        (λ x y is. subst (λ z. P (roll-TypedPlace z)) is (on_place y))
        (λ x y is. subst (λ z. C (roll-TypedCall z)) is (on_call y))
        (λ x y is. subst (λ z. E (roll-TypedExpr z)) is (on_expression y))
