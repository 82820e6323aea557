-- The parameters of each function of a source that passes no limit are few.
use Rattle.std.proofs.Common.{◌≡◌, ℕ, suc, ◌+◌, ◌-◌, ◌≤◌, List, [], ◌∷◌, ◌++◌, Bool, true, false, length, refl, sym, ap, ◌∙◌, append_assoc, arith}
use Rattle.std.specs.Prelude.{Option, Some, None, is_some, not, ◌&&◌, nat_lt, nat_le, if◌then◌else◌}
use Rattle.std.specs.List.{list_all}
use Rattle.std.proofs.lemmas.Bool.Decides.{nat_tests}
use Rattle.sat_base.specs.declared.fault.FaultKind.TheVariants as fault
use Rattle.sat_base.specs.declared.limits.TheConstants.{PARAMETERS}
use Rattle.sat_base.specs.declared.name.At.{At}
use Rattle.sat_base.specs.declared.name.Named.{Named}
use Rattle.c_scopes.specs.Scopes.{Known}
use Rattle.c_tree.specs.declared.function.Function.{Function}
use Rattle.c_tree.specs.declared.function.Param.{Param}
use Rattle.c_tree.specs.declared.program.Item.{Item}
use Rattle.c_tree.specs.declared.program.Item.TheVariants as items_of
use Rattle.c_tree.specs.declared.program.Program.{Program}
use Rattle.c_tree.specs.declared.statement.Block.{Block}
use Rattle.c_typed.specs.declared.typed.Typed.{Typed}
use Rattle.c_seen.specs.declared.functions.Declaration.{Declaration}
use Rattle.c_seen.specs.declared.seen.Seen.{Seen}
use Rattle.c_seen.specs.declared.seen.Seen.TheVariants as seen
use Rattle.c_seen.specs.Declarations as scope
use Rattle.c_seen.specs.Declarations.{dimension, parameter, name_of_parameter, seen_in_objects, seen_in_parameter, seen_in_parameters, after_parameters}
use Rattle.c_seen.specs.Meanings.{Names, is_taken}
use Rattle.c_seen.specs.Sources as seen_sources
use Rattle.c_seen.specs.Sources.{function_seen, seen_in_body, seen_in_function, seen_in_items, functions_after, seen_of, end_of}
use Rattle.c_faults.specs.declared.limits.Quantity.{Quantity}
use Rattle.c_faults.specs.declared.limits.Quantity.TheVariants as of
use Rattle.c_faults.specs.Faults.{limits}
use Rattle.c_faults.specs.Limits.{amount, place, limit_of, is_by_function, is_function, left_at, past_or, first_past, passed}
use Rattle.tied_names.specs.Ties.{Here}
use Rattle.c_types.specs.Sources.{Source, number_of, after_parameter, parameters_of, after_declaration, after_body, after_function, after_item, after_items}
use Rattle.c_types.specs.Tied.{IsTyped}
use Rattle.lawful_sources.specs.Lawful.{has_few_parameters}
use Rattle.lawful_sources.proofs.Passing.{Each, none, next, joined}
use Rattle.lawful_laws.proofs.Functions.{left, right}
use Rattle.lawful_names.proofs.Clean.{AllNone, none-kept, untold, never}
use Rattle.lawful_names.proofs.Faultless.{no-limit}
use Rattle.lawful_names.proofs.NoFunctions.{is_inner, dimension-inner}
use Rattle.lawful_names.proofs.Sources.{added-or, if-holds, start_of, names_at_start}
use Rattle.lawful_names.proofs.Spent.{spent, spent-append}

-- ---- from one part of what is seen to the next

pub record Remains (quantity : Quantity) (list : List Seen) : Type 0 where
  pub still : ℕ
  pub none_past : first_past quantity still list ≡ None

pub past-later : (at : At) (left cost : ℕ) (over : Bool) (later : ℕ → Option At) → past_or at (if over then None else Some (left - cost)) later ≡ None → later (left - cost) ≡ None
past-later at left cost true later p = absurd (never at p)
past-later at left cost false later p = p

pub remains : (quantity : Quantity) (left : ℕ) (xs ys : List Seen) → first_past quantity left (xs ++ ys) ≡ None → Remains quantity ys
remains quantity left [] ys p = record { still = left; none_past = p }
remains quantity left (s ∷ xs) ys p =
    remains quantity (left_at quantity left s - amount quantity s) xs ys
    (past-later (place s) (left_at quantity left s) (amount quantity s) (nat_lt (left_at quantity left s) (amount quantity s)) (λ still. first_past quantity still (xs ++ ys)) p)

past-room : (at : At) (left cost : ℕ) (over : Bool) (later : ℕ → Option At) → nat_lt left cost ≡ over → past_or at (if over then None else Some (left - cost)) later ≡ None → cost ≤ left
past-room at left cost true later is p = absurd (never at p)
past-room at left cost false later is p = grind (arith, nat_tests)

left-inner : (quantity : Quantity) (left : ℕ) (by inner : Bool) → not inner ≡ true → (if by && inner then limit_of quantity else left) ≡ left
left-inner quantity left true true p = cc
left-inner quantity left false inner p = refl
left-inner quantity left true false p = refl

-- where no function begins, all is counted together
pub inner-spent : (quantity : Quantity) (most : ℕ) (xs ys : List Seen) → Each is_inner xs → first_past quantity most (xs ++ ys) ≡ None → spent quantity xs ≤ most
inner-spent quantity most [] ys inner p = omega arith
inner-spent quantity most (s ∷ xs) ys inner p =
    let same : left_at quantity most s ≡ most = left-inner quantity most (is_by_function quantity) (is_function s) (left (is_inner s) (list_all is_inner xs) inner.all) in
    let room : amount quantity s ≤ left_at quantity most s = past-room (place s) (left_at quantity most s) (amount quantity s) _ (λ still. first_past quantity still (xs ++ ys)) refl p in
    let rest : spent quantity xs ≤ left_at quantity most s - amount quantity s =
    inner-spent quantity (left_at quantity most s - amount quantity s) xs ys (record { all = right (is_inner s) (list_all is_inner xs) inner.all })
    (past-later (place s) (left_at quantity most s) (amount quantity s) (nat_lt (left_at quantity most s) (amount quantity s)) (λ still. first_past quantity still (xs ++ ys)) p) in omega arith

-- ---- parameters

name-inner : (names : Names) (name : Option Named) → Each is_inner (name_of_parameter names name)
name-inner names None = none is_inner
name-inner names (Some name) = next is_inner _ [] refl (none is_inner)

pub parameters-inner : (names : Names) (defined : Bool) (params : List Param) → Each is_inner (seen_in_parameters names defined params)
parameters-inner names defined [] = none is_inner
parameters-inner names defined (param ∷ params) =
    joined is_inner _ _ (joined is_inner _ _ (dimension-inner names param.dim) (next is_inner _ _ refl (name-inner names param.name))) (parameters-inner (scope.after_parameter names param) defined params)

parameters-spent : (names : Names) (defined : Bool) (params : List Param) → length params ≤ spent of.Parameters (seen_in_parameters names defined params)
parameters-spent names defined [] = omega arith
parameters-spent names defined (param ∷ params) =
    let rest : length params ≤ spent of.Parameters (seen_in_parameters (scope.after_parameter names param) defined params) = parameters-spent (scope.after_parameter names param) defined params in
    let one : spent of.Parameters (seen_in_parameter names defined param) ≡ spent of.Parameters (dimension names param.dim) + spent of.Parameters (seen.Parameter (parameter param defined) ∷ name_of_parameter names param.name) =
    spent-append of.Parameters (dimension names param.dim) _ in
    let all : spent of.Parameters (seen_in_parameters names defined (param ∷ params)) ≡ spent of.Parameters (seen_in_parameter names defined param) + spent of.Parameters (seen_in_parameters (scope.after_parameter names param) defined params) =
    spent-append of.Parameters (seen_in_parameter names defined param) _ in omega arith

numbers-length : (here : Here) (number : ℕ) (params : List Param) → length (parameters_of here number params).numbers ≡ length params
numbers-length here number [] = refl
numbers-length here number (param ∷ params) = ap suc (numbers-length (after_parameter here number param) number params)

few : (count : ℕ) → count ≤ PARAMETERS → nat_le count PARAMETERS ≡ true
few count p = grind (arith, nat_tests)

-- ---- items

function-few : (still : ℕ) (names : Names) (before : List (Known Declaration)) (item : ℕ) (g : Function) (rest : List Seen) → first_past of.Parameters still (seen_in_function names before item g ++ rest) ≡ None → length g.params ≤ PARAMETERS
function-few still names before item g rest p =
    let own : Names = seen_sources.after_function names item g in
    let body : List Seen = seen_in_body (after_parameters own g.params) g g.body in
    let parts : List Seen = seen_in_parameters own (is_some g.body) g.params in
    let later : first_past of.Parameters (PARAMETERS - 0) (seen.Name g.name.at (is_taken names g.name.name 0 true) ∷ ((parts ++ body) ++ rest)) ≡ None =
    past-later g.name.at PARAMETERS 0 (nat_lt PARAMETERS 0) (λ still. first_past of.Parameters still (seen.Name g.name.at (is_taken names g.name.name 0 true) ∷ ((parts ++ body) ++ rest))) p in
    let after : first_past of.Parameters (PARAMETERS - 0 - 0) ((parts ++ body) ++ rest) ≡ None =
    past-later g.name.at (PARAMETERS - 0) 0 (nat_lt (PARAMETERS - 0) 0) (λ still. first_past of.Parameters still ((parts ++ body) ++ rest)) later in
    let most : spent of.Parameters parts ≤ PARAMETERS - 0 - 0 =
    inner-spent of.Parameters (PARAMETERS - 0 - 0) parts (body ++ rest) (parameters-inner own (is_some g.body) g.params) (ap (first_past of.Parameters (PARAMETERS - 0 - 0)) (sym (append_assoc parts body rest)) ∙ after) in
    let least : length g.params ≤ spent of.Parameters parts = parameters-spent own (is_some g.body) g.params in omega arith

body-few : (s : Source) (number : ℕ) (g : Function) (body : Option Block) → length g.params ≤ PARAMETERS → list_all has_few_parameters s.functions ≡ true → list_all has_few_parameters (after_body s number g body).functions ≡ true
body-few s number g None p q = q
body-few s number g (Some body) p q =
    let long : length (parameters_of s.here number g.params).numbers ≡ length g.params = numbers-length s.here number g.params in
    if-holds has_few_parameters (nat_lt number (length s.functions)) s.functions number _ (few (length (parameters_of s.here number g.params).numbers) (omega arith)) q

items-few : (s : Source) (names : Names) (before : List (Known Declaration)) (item : ℕ) (list : List Item) (ends : List Seen) → Remains of.Parameters (seen_in_items names before item list ++ ends) → list_all has_few_parameters s.functions ≡ true
    → list_all has_few_parameters (after_items s item list).functions ≡ true
items-few s names before item [] ends r q = q
items-few s names before item (items_of.Objects list ∷ rest) ends r q =
    let more : List Seen = seen_in_items (seen_sources.after_item names item (items_of.Objects list)) before (item + 1) rest in
    items-few (after_item s item (items_of.Objects list)) (seen_sources.after_item names item (items_of.Objects list)) before (item + 1) rest ends
    (remains of.Parameters r.still (seen_in_objects names 0 list.decls) (more ++ ends) (ap (first_past of.Parameters r.still) (sym (append_assoc (seen_in_objects names 0 list.decls) more ends)) ∙ r.none_past)) q
items-few s names before item (items_of.Function g ∷ rest) ends r q =
    let own : Names = seen_sources.after_function names item g in
    let after : List (Known Declaration) = functions_after names.items before item (items_of.Function g) in
    let more : List Seen = seen_in_items own after (item + 1) rest in
    let past : first_past of.Parameters r.still (seen_in_function names before item g ++ (more ++ ends)) ≡ None =
    ap (first_past of.Parameters r.still) (sym (append_assoc (seen_in_function names before item g) more ends)) ∙ r.none_past in
    items-few (after_function s item g) own after (item + 1) rest ends (remains of.Parameters r.still (seen_in_function names before item g) (more ++ ends) past)
    (body-few (after_declaration s item g) (number_of s g) g g.body (function-few r.still names before item g (more ++ ends) past) (added-or has_few_parameters _ s.functions g (few 0 (omega arith)) q))
items-few s names before item (items_of.ExternFlag at ∷ rest) ends r q = items-few s names before (item + 1) rest ends r q

pub parameters-few : (program : Program) (source : Typed) → IsTyped program source → list_all has_few_parameters source.functions ≡ true
parameters-few program source is =
    let all : AllNone (limits (seen_of program)) = none-kept (limits (seen_of program)) (no-limit program is.faultless) in
    ap (list_all has_few_parameters) is.tied.functions
    ∙ items-few (start_of program source) (names_at_start program) [] 0 program.items (end_of program ∷ []) (record { still = PARAMETERS; none_past = untold fault.TooManyParameters (passed of.Parameters (seen_of program)) all.1.1.0 }) refl
