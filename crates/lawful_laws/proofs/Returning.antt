-- A function that gives a number surely returns, where its body lacks no `return`.
use Rattle.std.proofs.Common.{◌≡◌, ℕ, List, [], Bool, true, false, refl, ap, ◌∙◌, inl, inr}
use Rattle.std.specs.Prelude.{not, ◌&&◌, ◌||◌, Option, Some, None, is_some, is_none}
use Rattle.std.proofs.lemmas.Bool.{cases_Bool}
use Rattle.sat_base.specs.declared.width.Width.{Width}
use Rattle.c_tree.specs.declared.function.Function.{Function}
use Rattle.c_tree.specs.declared.statement.Block.{Block}
use Rattle.constant_expressions.specs.Returning.{returns_in}
use Rattle.c_scopes.specs.Scopes.{Known}
use Rattle.c_seen.specs.declared.functions.Declaration.{Declaration}
use Rattle.c_seen.specs.declared.seen.Seen.{Seen}
use Rattle.c_seen.specs.declared.seen.Seen.TheVariants as seen
use Rattle.c_seen.specs.declared.seen.SeenFunction.{SeenFunction}
use Rattle.c_seen.specs.Meanings.{Names}
use Rattle.c_seen.specs.Sources.{is_main, body_lacks_return, seen_in_function}
use Rattle.c_faults.specs.Faults.{faults_at}
use Rattle.tied_names.specs.Ties.{Here}
use Rattle.tied_statements.specs.Statements.{tied_block}
use Rattle.c_types.specs.Sources.{declared, defined, inside_of}
use Rattle.lawful_sources.specs.Lawful.{returns_surely}
use Rattle.lawful_sources.specs.Returns.{Ending}
use Rattle.lawful_sources.proofs.Passing.{Each}
use Rattle.lawful_laws.proofs.Functions.{GoodBody}
use Rattle.lawful_laws.proofs.Statements.{head}
use Rattle.lawful_laws.proofs.Endings.{block-ends}
use Rattle.lawful_laws.proofs.Sound.{functions-hold}
use Rattle.lawful_laws.specs.Laws.{FunctionsReturn}

abbrev sound : Seen → Bool
sound (seen.Function function) = not function.lacks_return
sound s = true

sound-function : (function : SeenFunction) → faults_at (seen.Function function) ≡ [] → not function.lacks_return ≡ true
sound-function function none =
    elim (cases_Bool function.lacks_return) [
      | inl lacks ↦ let some = rw lacks at none in cc
      | inr returns ↦ rw returns refl
    ]

each : (s : Seen) → faults_at s ≡ [] → sound s ≡ true
each (seen.Place p) none = refl
each (seen.Call call) none = refl
each (seen.NoView at) none = refl
each (seen.Name at is_taken) none = refl
each (seen.Object object) none = refl
each (seen.Parameter param) none = refl
each (seen.Function function) none = sound-function function none
each (seen.Statement at) none = refl
each (seen.Constant at value) none = refl
each (seen.Leave at in_loop) none = refl
each (seen.Return at has_value gives) none = refl
each (seen.End at has_main) none = refl

abbrev Good : Function → Block → Type 0
Good function body = not (body_lacks_return function (Some body)) ≡ true

good-body : (function : Function) (body : Option Block) → not (body_lacks_return function body) ≡ true → GoodBody Good function body
good-body function None p = tt
good-body function (Some body) p = p

good : (names : Names) (before : List (Known Declaration)) (item : ℕ) (function : Function) → Each sound (seen_in_function names before item function) → GoodBody Good function function.body
good names before item function p = good-body function function.body (head sound _ _ p)

always : (one other : Bool) → (one || (other || true)) ≡ true
always true other = refl
always false true = refl
always false false = refl

bare : (function : Function) → returns_surely (declared function) ≡ true
bare function = always (is_none function.gives) (is_main function)

surely : (gives : Option Width) (main returns : Bool) → not (is_some gives && (not main && not returns)) ≡ true → (is_none gives || (main || returns)) ≡ true
surely None main returns p = refl
surely (Some width) true returns p = refl
surely (Some width) false true p = refl
surely (Some width) false false p = p

whole : (function : Function) (body : Block) → Good function body → (numbers : List ℕ) (here : Here) (number : ℕ) → returns_surely (defined function numbers (tied_block body here (inside_of number function)).value) ≡ true
whole function body p numbers here number =
    ap (λ (e : Ending). is_none function.gives || (is_main function || e.returns)) (block-ends body here (inside_of number function)) ∙ surely function.gives (is_main function) (returns_in body) p

pub functions-return : FunctionsReturn
functions-return program typed is = functions-hold sound each returns_surely Good bare whole good program typed is
