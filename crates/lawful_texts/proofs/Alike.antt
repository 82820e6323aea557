-- The names that are in scope, as they are seen and as they are tied: where an argument is asked for a view, a view is
-- wanted of it.
use Rattle.std.proofs.Common.{◌≡◌, ℕ, List, [], ◌∷◌, Bool, true, false, refl}
use Rattle.std.specs.Prelude.{Option, Some, None, if◌then◌else◌, nat_lt, length, slice_get}
use Rattle.std.specs.Str.{bytes_eq}
use Rattle.sat_base.specs.declared.name.Named.{Named}
use Rattle.c_scopes.specs.declared.scopes.Declared.{Declared}
use Rattle.c_scopes.specs.Scopes.{Known, meaning_of}
use Rattle.c_tree.specs.declared.declaration.Decl.{Decl}
use Rattle.c_tree.specs.declared.declaration.Objects.{Objects}
use Rattle.c_tree.specs.declared.function.Function.{Function}
use Rattle.c_tree.specs.declared.function.Param.{Param}
use Rattle.c_tree.specs.declared.program.Item.{Item}
use Rattle.c_typed.specs.declared.call.Callee.{Callee}
use Rattle.predefined_calls.specs.Calls.{callee_of, takes_of}
use Rattle.operator_meaning.specs.declared.object.Object.{Object}
use Rattle.operator_meaning.specs.Table.{width_at}
use Rattle.sat_base.specs.declared.width.Width.{Width}
use Rattle.sat_base.specs.declared.width.Width.TheVariants.{W32}
use Rattle.c_seen.specs.declared.seen.Meaning.{Meaning}
use Rattle.c_seen.specs.declared.seen.Meaning.TheVariants as means
use Rattle.c_seen.specs.declared.seen.Wanted.{Wanted}
use Rattle.c_seen.specs.declared.seen.Wanted.TheVariants as wants
use Rattle.c_seen.specs.Declarations as scope
use Rattle.c_seen.specs.Declarations.{meaning_of_declared, meaning_of_parameter}
use Rattle.c_seen.specs.Functions.{function_at}
use Rattle.c_seen.specs.Meanings.{Names, known_or, wanted_if_any, wanted_of_function, wanted_at}
use Rattle.tied_names.specs.declared.tie.Asked.{Asked}
use Rattle.tied_names.specs.declared.tie.Asked.TheVariants as asks
use Rattle.tied_names.specs.declared.tie.Tie.{Tie}
use Rattle.tied_names.specs.declared.tie.Tie.TheVariants as ties
use Rattle.tied_names.specs.Ties.{Here, tied_or, asked_if_any, asked_by_function, asked_of}
use Rattle.tied_statements.specs.Declarations.{after_declared, after_objects, starts_of, starts_in_lists}
use Rattle.c_types.specs.Sources.{after_named, after_parameter, parameters_of, parameter_of}

-- a view is asked for only where one is wanted
abbrev pub Suits : Asked → Wanted → Type 0
Suits (asks.Number width) wanted = Unit {0}
Suits asks.View wants.Number = ⊥
Suits asks.View (wants.View view) = Unit {0}
Suits asks.View wants.Nothing = ⊥

pub record Alike (items : List Item) (seen : List (Known Meaning)) (others : List Item) (tied : List (Known Tie)) : Type 0 where
  pub same : others ≡ items
  pub suits : (name : List ℕ) (place : ℕ) → Suits (asked_of others (tied_or (meaning_of tied name) (callee_of name)) place) (wanted_at items (known_or (meaning_of seen name) (callee_of name)) place)

abbrev pub Near : Names → Here → Type 0
Near names here = Alike names.items names.known here.items here.known

-- ---- what parameters take

param-suits : (view : Bool) (width : Width) (is_const : Bool) → Suits (if view then asks.View else asks.Number width) (if view then wants.View (record { width = width; is_const = is_const }) else wants.Number)
param-suits true width is_const = tt
param-suits false width is_const = tt

any-suits : (param : Option Param) → Suits (asked_if_any param) (wanted_if_any param)
any-suits None = tt
any-suits (Some param) = param-suits _ param.width param.is_const

function-suits : (function : Option Function) (place : ℕ) → Suits (asked_by_function function place) (wanted_of_function function place)
function-suits None place = tt
function-suits (Some function) place = any-suits (slice_get function.params place)

number-suits : (test : Bool) (one other : Width) (wanted : Wanted) → Suits (if test then asks.Number one else asks.Number other) wanted
number-suits true one other wanted = tt
number-suits false one other wanted = tt

predefined-suits : (items others : List Item) (callee : Option Callee) (place : ℕ) → Suits (asked_of others (tied_or None callee) place) (wanted_at items (known_or None callee) place)
predefined-suits items others None place = tt
predefined-suits items others (Some callee) place = number-suits (nat_lt place (length (takes_of callee))) (width_at (takes_of callee) place) W32 _

-- ---- one more name

pub none-declared : (items : List Item) → Alike items [] items []
none-declared items = record { same = refl; suits = λ name place. predefined-suits items items (callee_of name) place }

newest-suits : (items others : List Item) (test : Bool) (one : Declared Meaning) (other : Declared Tie) (older : Option (Declared Meaning)) (before : Option (Declared Tie)) (callee : Option Callee) (place : ℕ)
    → Suits (asked_of others (Some other.what) place) (wanted_at items (Some one.what) place) → Suits (asked_of others (tied_or before callee) place) (wanted_at items (known_or older callee) place)
    → Suits (asked_of others (tied_or (if test then Some other else before) callee) place) (wanted_at items (known_or (if test then Some one else older) callee) place)
newest-suits items others true one other older before callee place new old = new
newest-suits items others false one other older before callee place new old = old

one-more : (items others : List Item) (seen : List (Known Meaning)) (tied : List (Known Tie)) (name : List ℕ) (one : Declared Meaning) (other : Declared Tie)
    → ((place : ℕ) → Suits (asked_of others (Some other.what) place) (wanted_at items (Some one.what) place)) → Alike items seen others tied → Alike items ((name, one) ∷ seen) others ((name, other) ∷ tied)
one-more items others seen tied name one other new near = record {
  same = near.same;
  suits = λ n place. newest-suits items others (bytes_eq name n) one other (meaning_of seen n) (meaning_of tied n) (callee_of n) place (new place) (near.suits n place);
}

pub function-near : (names : Names) (here : Here) (item number : ℕ) (g : Function) → Near names here
    → Alike names.items ((g.name.name, record { depth = 0; what = means.Function item }) ∷ names.known) here.items ((g.name.name, record { depth = 0; what = ties.Function number item }) ∷ here.known)
function-near names here item number g near =
    one-more names.items here.items names.known here.known g.name.name (record { depth = 0; what = means.Function item }) (record { depth = 0; what = ties.Function number item })
    (λ place. rw near.same (function-suits (function_at names.items item) place)) near

pub declared-near : (names : Names) (here : Here) (depth : ℕ) (function : Option ℕ) (decl : Decl) → Near names here → Near (scope.after_declared names depth decl) (after_declared here function decl)
declared-near names here depth function decl near = one-more names.items here.items names.known here.known decl.name.name _ _ (λ place. tt) near

pub objects-near : (names : Names) (here : Here) (decls : List Decl) → Near names here → Near (scope.after_objects names 0 decls) (after_objects here decls)
objects-near names here [] near = near
objects-near names here (decl ∷ decls) near = objects-near (scope.after_declared names 0 decl) (after_declared here None decl) decls (declared-near names here 0 None decl near)

pub line-near : (names : Names) (here : Here) (depth function : ℕ) (decls : List Decl) → Near names here → Near (scope.after_objects names depth decls) (starts_of here function decls).after
line-near names here depth function [] near = near
line-near names here depth function (decl ∷ decls) near =
    line-near (scope.after_declared names depth decl) (after_declared here (Some function) decl) depth function decls (declared-near names here depth (Some function) decl near)

pub lists-near : (names : Names) (here : Here) (depth function : ℕ) (lists : List Objects) → Near names here → Near (scope.after_lists names depth lists) (starts_in_lists here function lists).after
lists-near names here depth function [] near = near
lists-near names here depth function (list ∷ lists) near =
    lists-near (scope.after_objects names depth list.decls) (starts_of here function list.decls).after depth function lists (line-near names here depth function list.decls near)

named-near : (names : Names) (here : Here) (object : Object) (meaning : Meaning) (name : Option Named) → Near names here
    → Near (scope.after_named names meaning name) (after_named here object name)
named-near names here object meaning None near = near
named-near names here object meaning (Some name) near = one-more names.items here.items names.known here.known name.name _ _ (λ place. tt) near

pub parameters-near : (names : Names) (here : Here) (function : ℕ) (params : List Param) → Near names here → Near (scope.after_parameters names params) (parameters_of here function params).after
parameters-near names here function [] near = near
parameters-near names here function (param ∷ params) near =
    parameters-near (scope.after_parameter names param) (after_parameter here function param) function params (named-near names here (parameter_of here function param) (meaning_of_parameter param) param.name near)
