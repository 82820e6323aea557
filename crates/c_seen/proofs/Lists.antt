-- What is seen in lists, one more at a time, as the loops go through them.
use Rattle.std.proofs.Common.{◌≡◌, ℕ, suc, ◌+◌, ◌<◌, ◌≤◌, List, [], ◌∷◌, ◌++◌, Bool, Option, Some, None, get_or, drop, length, refl, sym, ap, ◌∙◌, append_assoc, arith}
use Rattle.std.specs.Prelude.{flat_map}
use Rattle.std.proofs.lemmas.List.{append-nil, at_drop_more, at_drop_all}
use Rattle.c_tree.specs.declared.call.Arg.{Arg}
use Rattle.c_tree.specs.declared.declaration.Decl.{Decl}
use Rattle.c_tree.specs.declared.declaration.Objects.{Objects}
use Rattle.c_tree.specs.declared.function.Param.{Param}
use Rattle.c_tree.specs.declared.statement.Stmt.{Stmt}
use Rattle.c_seen.specs.declared.seen.Meaning.{Meaning}
use Rattle.c_seen.specs.declared.statements.Spot.{Spot}
use Rattle.c_seen.specs.Declarations.{seen_in_declared, after_declared, seen_in_objects, after_objects, seen_in_lists, after_lists, seen_in_parameter, after_parameter, seen_in_parameters, after_parameters}
use Rattle.c_seen.specs.Expressions.{seen_in_argument, arguments_from}
use Rattle.c_seen.specs.Meanings.{Names, wanted_at}
use Rattle.c_seen.specs.Statements.{seen_in_statement, seen_in_statements}

-- a function of what is left, where x is the next
next : {X Y : Type 0} (F : List X → Y) (xs : List X) (i : ℕ) (x : X) → i < length xs → x ≡ get_or xs i x → F (drop i xs) ≡ F (x ∷ drop (i + 1) xs)
next F xs i x less is = at_drop_more F xs i x less ∙ ap (λ (y : _). F (y ∷ drop (i + 1) xs)) (sym is)

pub flat-next : {X Y : Type 0} (f : X → List Y) (xs : List X) (i : ℕ) (x : X) → i < length xs → x ≡ get_or xs i x → flat_map f (drop i xs) ≡ f x ++ flat_map f (drop (i + 1) xs)
flat-next f xs i x less is = next (flat_map f) xs i x less is

pub flat-end : {X Y : Type 0} (f : X → List Y) (xs : List X) (i : ℕ) → length xs ≤ i → flat_map f (drop i xs) ≡ []
flat-end f xs i more = at_drop_all (flat_map f) xs i more

pub objects-next : (names : Names) (depth : ℕ) (xs : List Decl) (i : ℕ) (x : Decl) → i < length xs → x ≡ get_or xs i x → seen_in_objects names depth (drop i xs) ≡ seen_in_declared names depth x ++ seen_in_objects (after_declared names depth x) depth (drop (i + 1) xs)
objects-next names depth xs i x less is = next (λ (l : List Decl). seen_in_objects names depth l) xs i x less is

pub objects-end : (names : Names) (depth : ℕ) (xs : List Decl) (i : ℕ) → length xs ≤ i → seen_in_objects names depth (drop i xs) ≡ []
objects-end names depth xs i more = at_drop_all (λ (l : List Decl). seen_in_objects names depth l) xs i more

pub after-objects-next : (names : Names) (depth : ℕ) (xs : List Decl) (i : ℕ) (x : Decl) → i < length xs → x ≡ get_or xs i x → after_objects names depth (drop i xs) ≡ after_objects (after_declared names depth x) depth (drop (i + 1) xs)
after-objects-next names depth xs i x less is = next (λ (l : List Decl). after_objects names depth l) xs i x less is

pub after-objects-end : (names : Names) (depth : ℕ) (xs : List Decl) (i : ℕ) → length xs ≤ i → after_objects names depth (drop i xs) ≡ names
after-objects-end names depth xs i more = at_drop_all (λ (l : List Decl). after_objects names depth l) xs i more

pub lists-next : (names : Names) (depth : ℕ) (xs : List Objects) (i : ℕ) (x : Objects) → i < length xs → x ≡ get_or xs i x → seen_in_lists names depth (drop i xs) ≡ seen_in_objects names depth x.decls ++ seen_in_lists (after_objects names depth x.decls) depth (drop (i + 1) xs)
lists-next names depth xs i x less is = next (λ (l : List Objects). seen_in_lists names depth l) xs i x less is

pub lists-end : (names : Names) (depth : ℕ) (xs : List Objects) (i : ℕ) → length xs ≤ i → seen_in_lists names depth (drop i xs) ≡ []
lists-end names depth xs i more = at_drop_all (λ (l : List Objects). seen_in_lists names depth l) xs i more

pub after-lists-next : (names : Names) (depth : ℕ) (xs : List Objects) (i : ℕ) (x : Objects) → i < length xs → x ≡ get_or xs i x → after_lists names depth (drop i xs) ≡ after_lists (after_objects names depth x.decls) depth (drop (i + 1) xs)
after-lists-next names depth xs i x less is = next (λ (l : List Objects). after_lists names depth l) xs i x less is

pub after-lists-end : (names : Names) (depth : ℕ) (xs : List Objects) (i : ℕ) → length xs ≤ i → after_lists names depth (drop i xs) ≡ names
after-lists-end names depth xs i more = at_drop_all (λ (l : List Objects). after_lists names depth l) xs i more

pub parameters-next : (names : Names) (is_defined : Bool) (xs : List Param) (i : ℕ) (x : Param) → i < length xs → x ≡ get_or xs i x → seen_in_parameters names is_defined (drop i xs) ≡ seen_in_parameter names is_defined x ++ seen_in_parameters (after_parameter names x) is_defined (drop (i + 1) xs)
parameters-next names is_defined xs i x less is = next (λ (l : List Param). seen_in_parameters names is_defined l) xs i x less is

pub parameters-end : (names : Names) (is_defined : Bool) (xs : List Param) (i : ℕ) → length xs ≤ i → seen_in_parameters names is_defined (drop i xs) ≡ []
parameters-end names is_defined xs i more = at_drop_all (λ (l : List Param). seen_in_parameters names is_defined l) xs i more

pub after-parameters-next : (names : Names) (xs : List Param) (i : ℕ) (x : Param) → i < length xs → x ≡ get_or xs i x → after_parameters names (drop i xs) ≡ after_parameters (after_parameter names x) (drop (i + 1) xs)
after-parameters-next names xs i x less is = next (λ (l : List Param). after_parameters names l) xs i x less is

pub after-parameters-end : (names : Names) (xs : List Param) (i : ℕ) → length xs ≤ i → after_parameters names (drop i xs) ≡ names
after-parameters-end names xs i more = at_drop_all (λ (l : List Param). after_parameters names l) xs i more

pub arguments-next : (names : Names) (callee : Option Meaning) (xs : List Arg) (i : ℕ) (x : Arg) → i < length xs → x ≡ get_or xs i x → arguments_from (drop i xs) names callee i ≡ seen_in_argument x names (wanted_at names.items callee i) ++ arguments_from (drop (i + 1) xs) names callee (i + 1)
arguments-next names callee xs i x less is = next (λ (l : List Arg). arguments_from l names callee i) xs i x less is

pub arguments-end : (names : Names) (callee : Option Meaning) (xs : List Arg) (i : ℕ) → length xs ≤ i → arguments_from (drop i xs) names callee i ≡ []
arguments-end names callee xs i more = at_drop_all (λ (l : List Arg). arguments_from l names callee i) xs i more

pub statements-next : (names : Names) (spot : Spot) (xs : List Stmt) (i : ℕ) (x : Stmt) → i < length xs → x ≡ get_or xs i x → seen_in_statements (drop i xs) names spot ≡ seen_in_statement x names spot ++ seen_in_statements (drop (i + 1) xs) names spot
statements-next names spot xs i x less is = next (λ (l : List Stmt). seen_in_statements l names spot) xs i x less is

pub statements-end : (names : Names) (spot : Spot) (xs : List Stmt) (i : ℕ) → length xs ≤ i → seen_in_statements (drop i xs) names spot ≡ []
statements-end names spot xs i more = at_drop_all (λ (l : List Stmt). seen_in_statements l names spot) xs i more

pub ruleset lists = (append_assoc, append-nil, flat-next, flat-end, objects-next, objects-end, after-objects-next, after-objects-end, lists-next, lists-end, after-lists-next, after-lists-end, parameters-next, parameters-end, after-parameters-next, after-parameters-end, arguments-next, arguments-end, statements-next, statements-end)
