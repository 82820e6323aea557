-- Calls of the functions of a source do what calls of those of its tree do.
use Rattle.std.proofs.Common.{◌≡◌, ◌≤◌, ℕ, zero, suc, ◌+◌, Bool, false, IsTrue, List, [], ◌∷◌, length, All, Contains, refl, sym, ap, ◌∙◌, subst, inl, inr, arith, true≢false}
use Rattle.std.specs.Prelude.{ℤ, pos, ◌==◌, ◌||◌, Option, Some, None}
use Rattle.std.specs.Int.{int_wrap}
use Rattle.std.proofs.lemmas.Bool.Decides.{eqb_tells}
use Rattle.std.proofs.lemmas.List.Elements.{All-get_or}
use Rattle.std.proofs.lemmas.Option.{slice_get_within, get_or_from_slice_get}
use Rattle.sat_base.specs.declared.name.At.{At}
use Rattle.sat_base.specs.declared.width.Width.{Width}
use Rattle.sat_base.specs.declared.width.Width.TheVariants.{W16, W32}
use Rattle.c_typed.specs.declared.statement.TypedBlock.{TypedBlock}
use Rattle.c_typed.specs.declared.typed.Typed.{Typed}
use Rattle.c_typed.specs.declared.typed.TypedFunction.{TypedFunction}
use Rattle.source_runs.specs.declared.halt.Flow.{Flow}
use Rattle.source_runs.specs.declared.halt.Flow.TheVariants.{Normal, Return}
use Rattle.source_runs.specs.declared.location.Given.{Given}
use Rattle.source_runs.specs.Runs.{Run, gives, ◌>>=◌, ◌>>◌, changing}
use Rattle.source_runs.specs.State.{Kept}
use Rattle.source_runs.specs.Calls.{table_numbered}
use Rattle.typed_meaning.specs.Expressions.{Setting, Called}
use Rattle.typed_meaning.specs.Statements.{option_of}
use Rattle.typed_meaning.specs.Observed.{returned, body_meaning, function_meaning, setting_of, called_at}
use Rattle.call_structure.specs.Definitions.{AreDefinitions}
use Rattle.call_structure.specs.Calls.{called_in_function}
use Rattle.call_structure.specs.Reaching.{IsDefined, CallsFunction}
use Rattle.call_structure.proofs.Places.{first_or, here, further}
use Rattle.called_functions.specs.Called.{called_in_option, called_in_block}
use Rattle.ir_arena.specs.Tree.{IrTree}
use Rattle.tree_meaning.specs.Parts.{NodeMeaning, plain_acts}
use Rattle.tree_meaning.specs.Trees.{meaning_with}
use Rattle.tree_meaning.specs.Observed.{tree_setting, function_with, called_with}
use Rattle.source_trees.specs.Statements.{block_tree}
use Rattle.tree_agreement.specs.Agreement.{Renumbers}
use Rattle.tree_agreement.proofs.Runs.{regrouped}
use Rattle.statement_agreement.specs.Lawful.{fits_where, block_fits}
use Rattle.statement_agreement.proofs.Whole.{block_agrees}
use Rattle.fitting_calls.specs.Keeping.{Keeps}
use Rattle.fitting_calls.proofs.Statements.{bodies_keep_fitting}
use Rattle.whole_trees.specs.Sources.{number_in, numbers_of, setting_for, nameless, body_tree, function_tree, whole_tree}
use Rattle.source_agreement.specs.Agreement.{is_defined, FitsIn}
use Rattle.source_agreement.proofs.Objects.{changed, shapes_alike, opened_alike, given_alike, tree_same}
use Rattle.source_agreement.proofs.Orders.{Follow}
use Rattle.source_agreement.proofs.Numbers.{defined_by, number_is, there}

-- ---- lists of functions as sets

is_in : List ℕ → ℕ → Bool
is_in [] number = false
is_in (f ∷ functions) number = (f == number) || is_in functions number

in_list : (functions : List ℕ) (number : ℕ) → IsTrue (is_in functions number) → Contains functions number
unfolding is_in
in_list [] number holds = absurd (true≢false (sym holds))
in_list (f ∷ functions) number holds = elim (eqb_tells f number) [
  | inl same ↦ subst (Contains (f ∷ functions)) same.1 (here f functions)
  | inr apart ↦ further f functions number (in_list functions number (rw apart.0 at holds))
]

listed : (functions : List ℕ) (number : ℕ) → Contains functions number → IsTrue (is_in functions number)
unfolding is_in
listed [] number there = absurd (let low = there.1 in omega (arith, low))
listed (f ∷ functions) number there = elim (eqb_tells f number) [
  | inl same ↦ rw same.0 refl
  | inr apart ↦ rw apart.0 (first_or (λ n. IsTrue (is_in functions number)) f number functions there (λ same. absurd (apart.1 same)) (λ later. listed functions number later))
]

-- ---- one function

-- a body that ends without a `return` gives what one gives that returns 0
ends_at_zero : (width : Option Width) → returned width Normal ≡ returned width (Return (pos 0))
unfolding int_wrap
ends_at_zero None = refl
ends_at_zero (Some W16) = refl
ends_at_zero (Some W32) = refl

-- what follows the same run, and goes on to the same, makes the same whole
after_same : {A B C : Type 0} (run : Run A) (one other : Run B) (next : B → Run C) → (one >>= next) ≡ (other >>= next) → (run >> one >>= next) ≡ (run >> other >>= next)
unfolding ◌>>◌
after_same run one other next same =
    regrouped run (λ _. one) next ∙ ap (λ r. run >>= (λ _. r)) same ∙ sym (regrouped run (λ _. other) next)

module _ (typed : Typed) (definitions : List (ℕ × At)) (are : AreDefinitions typed definitions) (bodies : All (FitsIn typed.functions) typed.functions) (turns : ℕ) where
  abbrev over : Setting
  over = tree_setting (whole_tree typed definitions) turns

  abbrev source_setting : Setting
  source_setting = setting_of typed turns

  -- over the objects of the tree, what they do over those of the source
  same_over : (called : Called) (tree : IrTree) → meaning_with plain_acts over called tree ≡ meaning_with plain_acts source_setting called tree
  same_over called tree =
      tree_same (changed definitions typed.objects) typed.objects (shapes_alike definitions typed.objects) (opened_alike definitions typed.objects) (table_numbered typed.weights) turns plain_acts called tree

  module _ (called tree_called : Called) (later : List ℕ) (renumbers : Renumbers (is_in later) (numbers_of typed definitions) called tree_called) where
    abbrev Body : Option Width → Option TypedBlock → Type 0
    Body width body =
        (first : ℕ) → ((meaning_with plain_acts over tree_called (body_tree (setting_for typed definitions) body first).tree).flow >>= (λ flow. gives (returned width flow)))
        ≡ (body_meaning source_setting called body >>= (λ flow. gives (returned width flow)))

    body_same : (width : Option Width) (body : Option TypedBlock) → IsTrue (fits_where (option_of (block_fits (is_in later)) body)) → Body width body
    unfolding body_meaning ◌>>=◌
    body_same width None fits first = ap (λ (x : ℤ). gives x) (ends_at_zero width)
    body_same width (Some body) fits first =
        ap (λ (run : Run Flow). run >>= (λ flow. gives (returned width flow)))
        (ap (λ (part : NodeMeaning). part.flow) (same_over tree_called (block_tree (setting_for typed definitions) body first).tree) ∙ block_agrees source_setting (numbers_of typed definitions) called tree_called (is_in later) renumbers body fits first)

    given_same : (function : TypedFunction) (first : ℕ) → IsTrue (fits_where (option_of (block_fits (is_in later)) function.body)) → (givens : List Given)
        → function_with plain_acts over tree_called (Some (function_tree (setting_for typed definitions) function first).function) givens ≡ function_meaning source_setting called (Some function) givens
    unfolding function_with function_meaning ◌>>◌
    given_same function first fits givens =
        ap (λ (to : Kept → Kept). changing to >> (meaning_with plain_acts over tree_called (body_tree (setting_for typed definitions) function.body (first + 1)).tree).flow >>= (λ flow. gives (returned function.gives flow)))
        (given_alike definitions typed.objects function.params givens)
        ∙ after_same _ _ _ _ (body_same function.gives function.body fits (first + 1))

    function_same : (function : TypedFunction) (first : ℕ) → IsTrue (fits_where (option_of (block_fits (is_in later)) function.body))
        → function_with plain_acts over tree_called (Some (function_tree (setting_for typed definitions) function first).function) ≡ function_meaning source_setting called (Some function)
    function_same function first fits = λ i givens. given_same function first fits givens i

  -- ---- all functions, the last ones first

  defined_in : (order : List ℕ) → Follow typed order → (number : ℕ) → Contains order number → IsDefined typed.functions number
  defined_in [] follow number among = absurd (let low = among.1 in omega (arith, low))
  defined_in (f ∷ later) follow number among =
      first_or (IsDefined typed.functions) f number later among (λ same. subst (IsDefined typed.functions) same follow.0) (λ rest. defined_in later follow.2 number rest)

  body_keeps : (defined in_later : ℕ → Bool) (body : Option TypedBlock) → IsTrue (fits_where (option_of (block_fits defined) body)) → Keeps defined in_later (called_in_option called_in_block body)
      → IsTrue (fits_where (option_of (block_fits in_later) body))
  body_keeps defined in_later None fits kept = refl
  body_keeps defined in_later (Some body) fits kept = bodies_keep_fitting defined in_later body fits kept

  -- a body calls functions that come later alone
  body_fits : (f : ℕ) (later : List ℕ) (defined : IsDefined typed.functions f) → ((g : ℕ) → CallsFunction typed f g → Contains later g)
      → IsTrue (fits_where (option_of (block_fits (is_in later)) defined.1.function.body))
  body_fits f later defined calls =
      let own = All-get_or (FitsIn typed.functions) typed.functions f nameless (slice_get_within typed.functions f defined.1.function defined.1.there) bodies in
      body_keeps (is_defined typed.functions) (is_in later) defined.1.function.body
      (subst (FitsIn typed.functions) (get_or_from_slice_get typed.functions f defined.1.function nameless defined.1.there) own)
      (λ g among holds. listed later g (calls g (record {
        caller = defined;
        callee = defined_by typed.functions g holds;
        called = subst (λ (o : Option TypedFunction). Contains (called_in_function o) g) (sym defined.1.there) among;
      })))

  abbrev pub Same : ℕ → ℕ → ℕ → Type 0
  Same depth tree_depth number =
      called_with plain_acts tree_depth (whole_tree typed definitions) turns (number_in definitions number) ≡ called_at depth typed turns number

  -- so many calls in one another suffice for these functions
  abbrev Suffice : List ℕ → Type 0
  Suffice order = (number : ℕ) → Contains order number → (depth tree_depth : ℕ) → length order ≤ depth → length order ≤ tree_depth → Same depth tree_depth number

  first_same : (f : ℕ) (later : List ℕ) → Follow typed (f ∷ later) → Suffice later → (depth tree_depth : ℕ) → length (f ∷ later) ≤ depth → length (f ∷ later) ≤ tree_depth → Same depth tree_depth f
  unfolding called_with called_at
  first_same f later follow rest zero tree_depth enough tree_enough = absurd (omega (arith, enough))
  first_same f later follow rest (suc depth) zero enough tree_enough = absurd (omega (arith, tree_enough))
  first_same f later follow rest (suc depth) (suc tree_depth) enough tree_enough =
      let place = there typed definitions are f follow.0 in
      let renumbers : Renumbers (is_in later) (numbers_of typed definitions) (called_at depth typed turns) (called_with plain_acts tree_depth (whole_tree typed definitions) turns) = record {
        same = λ number holds.
            ap (called_with plain_acts tree_depth (whole_tree typed definitions) turns) (number_is typed definitions number (defined_in later follow.2 number (in_list later number holds)))
            ∙ rest number (in_list later number holds) depth tree_depth (omega (arith, enough)) (omega (arith, tree_enough));
      } in
      ap (function_with plain_acts over (called_with plain_acts tree_depth (whole_tree typed definitions) turns)) place.is
      ∙ function_same (called_at depth typed turns) (called_with plain_acts tree_depth (whole_tree typed definitions) turns) later renumbers follow.0.1.function place.first (body_fits f later follow.0 follow.1)
      ∙ ap (function_meaning source_setting (called_at depth typed turns)) (sym follow.0.1.there)

  pub calls_same : (order : List ℕ) → Follow typed order → Suffice order
  calls_same [] follow number among depth tree_depth enough tree_enough = absurd (let low = among.1 in omega (arith, low))
  calls_same (f ∷ later) follow number among depth tree_depth enough tree_enough =
      first_or (Same depth tree_depth) f number later among
      (λ same. subst (Same depth tree_depth) same (first_same f later follow (calls_same later follow.2) depth tree_depth enough tree_enough))
      (λ rest. calls_same later follow.2 number rest depth tree_depth (omega (arith, enough)) (omega (arith, tree_enough)))
