-- What stands in the tree of an argument and of a call is what stands in them.
use Rattle.std.proofs.Common.{◌≡◌, ℕ, suc, ◌+◌, List, [], ◌∷◌, true, false, length, refl, sym, ap, ◌∙◌, subst, append-nil, arith}
use Rattle.std.proofs.lemmas.Bool.Decides.{nat_tests}
use Rattle.std.specs.Prelude.{◌==◌, Option, Some, None, slice_get}
use Rattle.sat_base.specs.declared.name.At.{At}
use Rattle.operator_meaning.specs.declared.operator.Op.{Op}
use Rattle.operator_meaning.specs.declared.site.SiteKind.{SiteKind}
use Rattle.operator_meaning.specs.declared.site.SiteKind.TheVariants as sites
use Rattle.weight_table.specs.declared.counted.Counted.TheVariants as counted
use Rattle.weight_table.specs.Weight.{first_weight}
use Rattle.c_typed.specs.declared.call.Callee.{Callee}
use Rattle.c_typed.specs.declared.call.Callee.TheVariants.{Function, Operator, Move16, Move32, Logic16, Logic32, Test, SampleIn, SampleLeft, SampleOut}
use Rattle.c_typed.specs.declared.call.TypedArg.TheOpen as node
use Rattle.c_typed.specs.declared.typed.Typed.{Typed}
use Rattle.source_runs.specs.declared.location.Access.{Access}
use Rattle.source_runs.specs.declared.location.Access.TheVariants.{Address}
use Rattle.typed_meaning.specs.Expressions.{site_at}
use Rattle.ir_arena.specs.Tree as tree
use Rattle.ir_arena.specs.Tree.{IrTree, IrTarget, trees_from}
use Rattle.source_trees.specs.Expressions.{called_tree}
use Rattle.lawful_sources.specs.Expressions.{Look, Argued, Placed, Calling, argued_from, call_kind, of_argument}
use Rattle.lawful_sources.specs.Objects.{is_complete}
use Rattle.lawful_sources.specs.Rows.{takes_count, is_defined}
use Rattle.lawful_sources.specs.Things.{Taken, Given, Call, Argument, Mark, taken_at, due_of}
use Rattle.lawful_sources.proofs.Passing.{Each}
use Rattle.lawful_ir.specs.Positions.{TreeThing, Of, Position, given_as, needs, around, called}
use Rattle.lawful_ir.specs.Walk.{integer_in, constant_in, value_in, count_in, computed, operated, operand_position, argument_position, stands, each_stands, numbers_stand}
use Rattle.lawful_ir.proofs.Alike.{left, right, head, tail, earlier, never, fine, all_of, number_at, Agrees, setting_of, Goes, nothing, along, next}
use Rattle.lawful_ir.proofs.Marked.{Walks}
use Rattle.lawful_ir.proofs.Reached.{Reaches, same-number}

no-more : {A : Type 0} (list : List A) → (length list == 0) ≡ true → list ≡ []
no-more [] p = refl
no-more (x ∷ list) p = absurd (some (length list) p)
  where
    some : (n : ℕ) → (suc n == 0) ≡ true → ⊥
    some n q = grind (arith, nat_tests)

no-more-than-one : {A : Type 0} (x y : A) (list : List A) → (length (x ∷ y ∷ list) == 1) ≡ true → ⊥
no-more-than-one x y list p = some (length list) p
  where
    some : (n : ℕ) → (suc (suc n) == 1) ≡ true → ⊥
    some n q = grind (arith, nat_tests)

module _ (source tables : Typed) (numbers : List ℕ) (place : ℕ → ℕ) (agrees : Agrees source tables numbers place) where
  -- the tree of an argument, by what that is
  pub record Gives (node : IrTree) (look : Argued) : Type 0 where
    pub value : value_in node ≡ look.value
    pub given : (taken : Option Taken) → Goes source tables numbers (stands tables node (given_as taken)) (look.stands taken)

  pub value-gives : (part : IrTree) (look : Look) → Walks source tables numbers part look → Gives part (of_argument source (node.Value look))
  unfolding of_argument
  value-gives part look walks = record { value = walks.value; given = λ taken. record { is = λ p. walks.stand (Some taken) (due_of taken) (tail (fine source) (Argument false taken) _ p) } }

  pub address-gives : (at : At) (target : Access → IrTarget) (placed : Placed) → Reaches source tables numbers place agrees target placed → Gives (tree.Address (target Address)) (of_argument source (node.Address at placed))
  unfolding of_argument
  address-gives at target placed reaches =
      record { value = refl; given = λ taken. next source tables numbers (Of (Argument true taken) ∷ []) _ (Argument true taken) _ (λ p. refl) (reaches.reached (Given taken)) }

  -- several arguments
  abbrev pub AllGive : List IrTree → List Argued → Type 0
  AllGive [] [] = Unit {0}
  AllGive (node ∷ nodes) (look ∷ looks) = Gives node look × AllGive nodes looks
  AllGive nodes looks = ⊥

  counted-alike : (nodes : List IrTree) (looks : List Argued) → AllGive nodes looks → count_in (trees_from nodes) ≡ length looks
  counted-alike [] [] all = refl
  counted-alike [] (look ∷ looks) all = absurd all
  counted-alike (node ∷ nodes) [] all = absurd all
  counted-alike (node ∷ nodes) (look ∷ looks) all = ap suc (counted-alike nodes looks all.1)

  numbered-alike : (nodes : List IrTree) (looks : List Argued) → AllGive nodes looks → length (numbers_stand tables (trees_from nodes)) ≡ length looks
  numbered-alike [] [] all = refl
  numbered-alike [] (look ∷ looks) all = absurd all
  numbered-alike (node ∷ nodes) [] all = absurd all
  numbered-alike (node ∷ nodes) (look ∷ looks) all = ap suc (numbered-alike nodes looks all.1)

  arguments-go : (callee : Callee) (position : ℕ → Position) → ((k : ℕ) → position k ≡ given_as (taken_at source callee k)) → (nodes : List IrTree) (looks : List Argued) (n : ℕ) → AllGive nodes looks
      → Goes source tables numbers (each_stands tables (trees_from nodes) position n) (argued_from source callee n looks)
  arguments-go callee position is [] [] n all = nothing source tables numbers
  arguments-go callee position is [] (look ∷ looks) n all = absurd all
  arguments-go callee position is (node ∷ nodes) [] n all = absurd all
  arguments-go callee position is (node ∷ nodes) (look ∷ looks) n all =
      along source tables numbers _ _ _ _ (subst (λ (p : Position). Goes source tables numbers (stands tables node p) (look.stands (taken_at source callee n))) (sym (is n)) (all.0.given (taken_at source callee n)))
      (arguments-go callee position is nodes looks (n + 1) all.1)

  -- ---- calls

  -- no index stands there
  abbrev pub IsPlain : Position → Type 0
  IsPlain position = (site : ℕ) (kind : SiteKind) (weight : ℕ) (operands : List (List TreeThing)) (arguments : List TreeThing)
      → operated tables position site kind weight operands arguments ≡ computed tables position site kind weight operands arguments

  -- the tree of a call, by what that is
  pub record Invokes (node : IrTree) (calling : Calling) : Type 0 where
    pub integer : integer_in node ≡ None
    pub constant : constant_in node ≡ []
    pub value : value_in node ≡ None
    pub invoked : (position : Position) → IsPlain position → Each (fine source) (calling (needs position)) → stands tables node position ≡ around position (all_of source tables numbers (calling (needs position)))

  -- what a call is, by what is called
  abbrev pub calling_of : Callee → At → Option ℕ → List Argued → Calling
  calling_of callee at site looks is_needed = Call callee (length looks) is_needed ∷ Mark at site (call_kind callee) ∷ argued_from source callee 0 looks

  function-invoked : (number : ℕ) (at : At) (site : Option ℕ) (nodes : List IrTree) (looks : List Argued) → AllGive nodes looks → (position : Position) → Each (fine source) (calling_of (Function number) at site looks (needs position))
      → called position (Function (number_at numbers number)) (count_in (trees_from nodes)) (each_stands tables (trees_from nodes) (argument_position tables (Function (number_at numbers number))) 0)
      ≡ around position (all_of source tables numbers (calling_of (Function number) at site looks (needs position)))
  function-invoked number at site nodes looks all position p =
      rw (
        counted-alike nodes looks all,
        (arguments-go (Function number) (argument_position tables (Function (number_at numbers number)))
            (λ k. ap given_as (agrees.functions number (right _ (is_complete (slice_get source.functions number)) (head (fine source) _ _ p)) k)) nodes looks 0 all).is (tail (fine source) _ _ (tail (fine source) _ _ p)),
      ) refl

  operator-invoked : (op : Op) (at : At) (site : Option ℕ) (nodes : List IrTree) (looks : List Argued) → AllGive nodes looks → (position : Position) → IsPlain position → Each (fine source) (calling_of (Operator op) at site looks (needs position))
      → stands tables (tree.Operate (site_at site) (sites.Call op) (trees_from nodes) (first_weight (counted.Call op))) position ≡ around position (all_of source tables numbers (calling_of (Operator op) at site looks (needs position)))
  operator-invoked op at site nodes looks all position plain p =
      plain (site_at site) (sites.Call op) (first_weight (counted.Call op)) _ _
      ∙ rw (
        same-number (first_weight (counted.Call op)),
        numbered-alike nodes looks all,
        (arguments-go (Operator op) (operand_position tables (sites.Call op)) (λ k. refl) nodes looks 0 all).is (tail (fine source) _ _ (tail (fine source) _ _ p)),
      ) refl

  -- a call that takes nothing
  lone-call : (callee : Callee) (at : At) (site : Option ℕ) (looks : List Argued) (position : Position) (things : List TreeThing) → (length looks == 0) ≡ true
      → ((looks : List Argued) → looks ≡ [] → things ≡ all_of source tables numbers (calling_of callee at site looks (needs position)))
      → around position things ≡ around position (all_of source tables numbers (calling_of callee at site looks (needs position)))
  lone-call callee at site looks position things p f = ap (around position) (f looks (no-more looks p))

  -- the calls that take nothing take nothing
  empty : (callee : Callee) (at : At) (site : Option ℕ) (looks : List Argued) (position : Position) → Each (fine source) (calling_of callee at site looks (needs position))
      → (length looks == takes_count source callee) ≡ true
  empty callee at site looks position p =
      left (length looks == takes_count source callee) (is_defined source callee) (head (fine source) _ _ p)

  pub called-invokes : (callee : Callee) (at : At) (site : Option ℕ) (nodes : List IrTree) (looks : List Argued) → AllGive nodes looks → Invokes (called_tree (setting_of source numbers) callee (site_at site) nodes) (calling_of callee at site looks)
  called-invokes (Function number) at site nodes looks all =
      record { integer = refl; constant = refl; value = refl; invoked = λ position plain p. function-invoked number at site nodes looks all position p }
  called-invokes (Operator op) at site nodes looks all =
      record { integer = refl; constant = refl; value = refl; invoked = λ position plain p. operator-invoked op at site nodes looks all position plain p }
  called-invokes Move16 at site nodes looks all =
      record { integer = refl; constant = refl; value = refl; invoked = λ position plain p. lone-call Move16 at site looks position _ (empty Move16 at site looks position p) (λ l is. rw is refl) }
  called-invokes Move32 at site nodes looks all =
      record { integer = refl; constant = refl; value = refl; invoked = λ position plain p. lone-call Move32 at site looks position _ (empty Move32 at site looks position p) (λ l is. rw is refl) }
  called-invokes Logic16 at site nodes looks all =
      record { integer = refl; constant = refl; value = refl; invoked = λ position plain p. lone-call Logic16 at site looks position _ (empty Logic16 at site looks position p) (λ l is. rw is refl) }
  called-invokes Logic32 at site nodes looks all =
      record { integer = refl; constant = refl; value = refl; invoked = λ position plain p. lone-call Logic32 at site looks position _ (empty Logic32 at site looks position p) (λ l is. rw is refl) }
  called-invokes Test at site nodes looks all =
      record { integer = refl; constant = refl; value = refl; invoked = λ position plain p. lone-call Test at site looks position _ (empty Test at site looks position p) (λ l is. rw is refl) }
  called-invokes SampleIn at site nodes looks all =
      record {
        integer = refl;
        constant = refl;
        value = refl;
        invoked = λ position plain p. plain (site_at site) sites.Sample 0 [] [] ∙ lone-call SampleIn at site looks position _ (empty SampleIn at site looks position p) (λ l is. rw is refl);
      }
  called-invokes SampleLeft at site nodes looks all =
      record { integer = refl; constant = refl; value = refl; invoked = λ position plain p. lone-call SampleLeft at site looks position _ (empty SampleLeft at site looks position p) (λ l is. rw is refl) }
  called-invokes SampleOut at site [] [] all =
      record { integer = refl; constant = refl; value = refl; invoked = λ position plain p. never (empty SampleOut at site [] position p) }
  called-invokes SampleOut at site [] (look ∷ looks) all = absurd all
  called-invokes SampleOut at site (node ∷ nodes) [] all = absurd all
  called-invokes SampleOut at site (node ∷ nodes) (look ∷ other ∷ looks) all =
      record { integer = refl; constant = refl; value = refl; invoked = λ position plain p. absurd (no-more-than-one look other looks (empty SampleOut at site (look ∷ other ∷ looks) position p)) }
  called-invokes SampleOut at site (node ∷ nodes) (look ∷ []) all =
      record {
        integer = refl;
        constant = refl;
        value = refl;
        invoked = λ position plain p. ap (λ (l : List TreeThing). around position (Of (Call SampleOut 1 (needs position)) ∷ l))
            ((all.0.given (taken_at source SampleOut 0)).is (earlier (fine source) _ [] (tail (fine source) _ _ (tail (fine source) _ _ p))) ∙ sym (ap (all_of source tables numbers) (append-nil (look.stands (taken_at source SampleOut 0)))));
      }
