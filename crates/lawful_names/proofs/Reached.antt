-- The items one after another, on both sides: what is kept of each function holds at the end of the source.
use Rattle.std.proofs.Common.{◌≡◌, ℕ, suc, ◌+◌, List, [], ◌∷◌, Bool, true, false, refl, sym, ap, ◌∙◌, subst, arith}
use Rattle.std.specs.Prelude.{Option, Some, None, is_some, ◌||◌, slice_get}
use Rattle.c_scopes.specs.Scopes.{Known}
use Rattle.c_tree.specs.declared.declaration.Decl.{Decl}
use Rattle.c_tree.specs.declared.function.Function.{Function}
use Rattle.c_tree.specs.declared.program.Item.{Item}
use Rattle.c_tree.specs.declared.program.Item.TheVariants as items_of
use Rattle.c_tree.specs.declared.statement.Block.{Block}
use Rattle.c_typed.specs.declared.typed.Typed.{Typed}
use Rattle.c_typed.specs.declared.typed.TypedFunction.{TypedFunction}
use Rattle.operator_meaning.specs.declared.object.Object.{Object}
use Rattle.c_seen.specs.declared.functions.Declaration.{Declaration}
use Rattle.c_seen.specs.declared.seen.Seen.{Seen}
use Rattle.c_seen.specs.declared.seen.Seen.TheVariants as seen
use Rattle.c_seen.specs.Declarations as scope
use Rattle.c_seen.specs.Declarations.{dimension, initialiser, seen_in_declared, seen_in_objects}
use Rattle.c_seen.specs.Functions.{function_at, function_in, functions_of, functions_from, is_defined, declaring_function}
use Rattle.c_seen.specs.Meanings.{Names, is_taken}
use Rattle.c_seen.specs.Sources as seen_sources
use Rattle.c_seen.specs.Sources.{function_seen, seen_in_function, seen_in_items, functions_after}
use Rattle.tied_names.specs.Ties.{Here}
use Rattle.tied_statements.specs.Declarations.{after_declared, after_objects}
use Rattle.c_types.specs.Sources.{Source, number_of, after_declaration, after_body, after_function, after_item, after_items, parameters_of, inside_of}
use Rattle.lawful_sources.proofs.Passing.{Each}
use Rattle.lawful_laws.proofs.Statements.{earlier, later, head}
use Rattle.lawful_names.proofs.Agreement.{IsFunction}
use Rattle.lawful_names.proofs.Clean.{Clean}
use Rattle.lawful_names.proofs.Defining.{Finished, finished, with_function, own-keeps, function-keeps, function-covers, kept-function}
use Rattle.lawful_names.proofs.Keeping.{State, Keeps, Covers, object-keeps, object-covers, own_number, own_functions, entry-of}
use Rattle.lawful_names.proofs.Within.{Within, within-itself, within-more, objects-grow, parameters-grow, block-grows}

-- ---- the objects of the source grow

pub body-grows : (s : Source) (number : ℕ) (g : Function) (body : Option Block) → Within s.here.objects (after_body s number g body).here.objects
body-grows s number g None = within-itself s.here.objects
body-grows s number g (Some body) = within-more _ _ _ (parameters-grow s.here number g.params) (block-grows body (parameters_of s.here number g.params).after (inside_of number g))

item-grows : (s : Source) (item : ℕ) (x : Item) → Within s.here.objects (after_item s item x).here.objects
item-grows s item (items_of.Objects list) = objects-grow s.here list.decls
item-grows s item (items_of.Function g) = body-grows (after_declaration s item g) (number_of s g) g g.body
item-grows s item (items_of.ExternFlag at) = within-itself s.here.objects

pub items-grow : (s : Source) (item : ℕ) (list : List Item) → Within s.here.objects (after_items s item list).here.objects
items-grow s item [] = within-itself s.here.objects
items-grow s item (x ∷ rest) = within-more _ _ _ (item-grows s item x) (items-grow (after_item s item x) (item + 1) rest)

-- ---- one more item

abbrev pub state_of : Names → Here → List (Known Declaration) → List TypedFunction → State
state_of names here before functions = record { seen = names.known; tied = here.known; earlier = before; functions = functions }

module _ (source : Typed) (items : List Item) (sound : Seen → Bool) (clean : (s : Seen) → sound s ≡ true → Clean s) where
  -- what holds before these items, the last of the source
  pub record Reached (s : Source) (names : Names) (before : List (Known Declaration)) (item : ℕ) (list : List Item) : Type 0 where
    pub seen_items : names.items ≡ items
    pub covers : (name : List ℕ) → Covers source items name (state_of names s.here before s.functions)
    pub objects : source.objects ≡ (after_items s item list).here.objects
    pub functions : source.functions ≡ (after_items s item list).functions
    pub declarations : functions_of items ≡ functions_from items before item list
    pub aligned : (k : ℕ) → slice_get list k ≡ slice_get items (item + k)
    pub sounds : Each sound (seen_in_items names before item list)

  pub within-source : (s : Source) (names : Names) (before : List (Known Declaration)) (item : ℕ) (list : List Item) → Reached s names before item list → Within s.here.objects source.objects
  within-source s names before item list r = subst (λ (l : List Object). Within s.here.objects l) (sym r.objects) (items-grow s item list)

  name-sound : (names : Names) (decl : Decl) → Each sound (seen_in_declared names 0 decl) → sound (seen.Name decl.name.at (is_taken names decl.name.name 0 false)) ≡ true
  name-sound names decl p = head sound _ _ (later sound (initialiser names decl decl.init) _ (later sound (dimension names decl.cols) _ (later sound (dimension names decl.rows) _ p)))

  objects-keep : (names : Names) (here : Here) (before : List (Known Declaration)) (functions : List TypedFunction) (decls : List Decl) → Each sound (seen_in_objects names 0 decls) → (name : List ℕ) (number : ℕ) (of : Function)
      → Keeps source items name number of (state_of names here before functions) → Keeps source items name number of (state_of (scope.after_objects names 0 decls) (after_objects here decls) before functions)
  objects-keep names here before functions [] p name number of k = k
  objects-keep names here before functions (decl ∷ decls) p name number of k =
      objects-keep (scope.after_declared names 0 decl) (after_declared here None decl) before functions decls (later sound (seen_in_declared names 0 decl) _ p) name number of
      (object-keeps source items decl.name.name name decl.name.at number of (state_of names here before functions) _ _ (clean _ (name-sound names decl (earlier sound _ _ p))) k)

  objects-cover : (names : Names) (here : Here) (before : List (Known Declaration)) (functions : List TypedFunction) (decls : List Decl) → Each sound (seen_in_objects names 0 decls) → (name : List ℕ)
      → Covers source items name (state_of names here before functions) → Covers source items name (state_of (scope.after_objects names 0 decls) (after_objects here decls) before functions)
  objects-cover names here before functions [] p name c = c
  objects-cover names here before functions (decl ∷ decls) p name c =
      objects-cover (scope.after_declared names 0 decl) (after_declared here None decl) before functions decls (later sound (seen_in_declared names 0 decl) _ p) name
      (object-covers source items decl.name.name name decl.name.at (state_of names here before functions) _ _ (clean _ (name-sound names decl (earlier sound _ _ p))) c)

  -- ---- a function

  body-state : (names : Names) (s : Source) (before : List (Known Declaration)) (number : ℕ) (g : Function) (body : Option Block)
      → state_of names (after_body s number g body).here before (after_body s number g body).functions ≡ state_of names s.here before (after_body s number g body).functions
  body-state names s before number g None = refl
  body-state names s before number g (Some body) = refl

  abbrev st_of : Names → Source → List (Known Declaration) → State
  st_of names s before = state_of names s.here before s.functions

  abbrev after_own : Names → Source → List (Known Declaration) → ℕ → Function → State
  after_own names s before item g = with_function source items (st_of names s before) item g (own_number (st_of names s before) g.name.name) (after_function s item g).functions

  function-state : (names : Names) (s : Source) (before : List (Known Declaration)) (item : ℕ) (g : Function) → names.items ≡ items
      → after_own names s before item g ≡ st_of (seen_sources.after_function names item g) (after_function s item g) (declaring_function names.items before item g)
  function-state names s before item g same =
      ap (λ (l : List Item). state_of (seen_sources.after_function names item g) (after_declaration s item g).here (declaring_function l before item g) (after_function s item g).functions) (sym same)
      ∙ sym (body-state (seen_sources.after_function names item g) (after_declaration s item g) (declaring_function names.items before item g) (number_of s g) g g.body)

  -- what an item that is a function gives for the step
  pub record Steps (s : Source) (names : Names) (before : List (Known Declaration)) (item : ℕ) (g : Function) : Type 0 where
    pub at : function_at items item ≡ Some g
    pub tells : Clean (seen.Function (function_seen items before g))
    pub ends : Finished source items g (own_number (st_of names s before) g.name.name) (own_functions (st_of names s before) g) (after_function s item g).functions (is_some g.body || is_defined before g.name.name)

  pub steps : (s : Source) (names : Names) (before : List (Known Declaration)) (item : ℕ) (g : Function) (rest : List Item) → Reached s names before item (items_of.Function g ∷ rest) → Steps s names before item g
  steps s names before item g rest r =
      let here : slice_get items item ≡ Some (items_of.Function g) = ap (slice_get items) (omega arith) ∙ sym (r.aligned 0) in
      let tells : Clean (seen.Function (function_seen items before g)) =
      subst (λ (l : List Item). Clean (seen.Function (function_seen l before g))) r.seen_items (clean _ (head sound _ _ (earlier sound (seen_in_function names before item g) _ r.sounds))) in
      let within : Within (after_function s item g).here.objects source.objects = subst (λ (l : List Object). Within (after_function s item g).here.objects l) (sym r.objects) (items-grow (after_function s item g) (item + 1) rest) in record {
        at = ap function_in here;
        tells = tells;
        ends = finished source items (after_declaration s item g) (number_of s g) g g.body (is_defined before g.name.name)
            (entry-of source items g (st_of names s before) tells (r.covers g.name.name)) within;
      }

  function-keep : (s : Source) (names : Names) (before : List (Known Declaration)) (item : ℕ) (g : Function) (rest : List Item) → Reached s names before item (items_of.Function g ∷ rest) → (name : List ℕ) (number : ℕ) (of : Function)
      → Keeps source items name number of (st_of names s before) → Keeps source items name number of (st_of (seen_sources.after_function names item g) (after_function s item g) (declaring_function names.items before item g))
  function-keep s names before item g rest r name number of k =
      let t : Steps s names before item g = steps s names before item g rest r in
      subst (Keeps source items name number of) (function-state names s before item g r.seen_items)
      (function-keeps source items g name number of (st_of names s before) item (after_function s item g).functions t.at t.tells (r.covers g.name.name) t.ends k)

  function-cover : (s : Source) (names : Names) (before : List (Known Declaration)) (item : ℕ) (g : Function) (rest : List Item) → Reached s names before item (items_of.Function g ∷ rest) → (name : List ℕ)
      → Covers source items name (st_of (seen_sources.after_function names item g) (after_function s item g) (declaring_function names.items before item g))
  function-cover s names before item g rest r name =
      let t : Steps s names before item g = steps s names before item g rest r in
      subst (Covers source items name) (function-state names s before item g r.seen_items)
      (function-covers source items g name (st_of names s before) item (after_function s item g).functions t.at t.tells (r.covers g.name.name) t.ends (r.covers name))

  pub function-own : (s : Source) (names : Names) (before : List (Known Declaration)) (item : ℕ) (g : Function) (rest : List Item) → Reached s names before item (items_of.Function g ∷ rest)
      → Keeps source items g.name.name (number_of s g) g (st_of (seen_sources.after_function names item g) (after_function s item g) (declaring_function names.items before item g))
  function-own s names before item g rest r =
      let t : Steps s names before item g = steps s names before item g rest r in
      subst (Keeps source items g.name.name (number_of s g) g) (function-state names s before item g r.seen_items) (own-keeps source items g (st_of names s before) item (after_function s item g).functions t.at t.ends)

  -- ---- any item

  shifted : (item : ℕ) (x : Item) (rest : List Item) → ((k : ℕ) → slice_get (x ∷ rest) k ≡ slice_get items (item + k)) → (k : ℕ) → slice_get rest k ≡ slice_get items (item + 1 + k)
  shifted item x rest aligned k = aligned (suc k) ∙ ap (slice_get items) (omega arith)

  pub next-reached : (s : Source) (names : Names) (before : List (Known Declaration)) (item : ℕ) (x : Item) (rest : List Item) → Reached s names before item (x ∷ rest)
      → Reached (after_item s item x) (seen_sources.after_item names item x) (functions_after names.items before item x) (item + 1) rest
  next-reached s names before item (items_of.Objects list) rest r = record {
    seen_items = objects-stay names list.decls ∙ r.seen_items;
    covers = λ name. objects-cover names s.here before s.functions list.decls (earlier sound _ _ r.sounds) name (r.covers name);
    objects = r.objects;
    functions = r.functions;
    declarations = r.declarations;
    aligned = shifted item _ rest r.aligned;
    sounds = later sound (seen_in_objects names 0 list.decls) _ r.sounds;
  }
    where
      objects-stay : (names : Names) (decls : List Decl) → (scope.after_objects names 0 decls).items ≡ names.items
      objects-stay names [] = refl
      objects-stay names (decl ∷ decls) = objects-stay (scope.after_declared names 0 decl) decls
  next-reached s names before item (items_of.Function g) rest r = record {
    seen_items = r.seen_items;
    covers = function-cover s names before item g rest r;
    objects = r.objects;
    functions = r.functions;
    declarations = r.declarations ∙ ap (λ (l : List Item). functions_from items (declaring_function l before item g) (item + 1) rest) (sym r.seen_items);
    aligned = shifted item _ rest r.aligned;
    sounds = later sound (seen_in_function names before item g) _ r.sounds;
  }
  next-reached s names before item (items_of.ExternFlag at) rest r = record {
    seen_items = r.seen_items;
    covers = r.covers;
    objects = r.objects;
    functions = r.functions;
    declarations = r.declarations;
    aligned = shifted item _ rest r.aligned;
    sounds = r.sounds;
  }

  pub next-keeps : (s : Source) (names : Names) (before : List (Known Declaration)) (item : ℕ) (x : Item) (rest : List Item) → Reached s names before item (x ∷ rest) → (name : List ℕ) (number : ℕ) (of : Function)
      → Keeps source items name number of (st_of names s before) → Keeps source items name number of (st_of (seen_sources.after_item names item x) (after_item s item x) (functions_after names.items before item x))
  next-keeps s names before item (items_of.Objects list) rest r name number of k = objects-keep names s.here before s.functions list.decls (earlier sound _ _ r.sounds) name number of k
  next-keeps s names before item (items_of.Function g) rest r name number of k = function-keep s names before item g rest r name number of k
  next-keeps s names before item (items_of.ExternFlag at) rest r name number of k = k

  -- at the end of the source
  pub at-end : (s : Source) (names : Names) (before : List (Known Declaration)) (item : ℕ) (list : List Item) → Reached s names before item list → (name : List ℕ) (number declared : ℕ) (g : Function) → function_at items declared ≡ Some g
      → Keeps source items name number g (st_of names s before) → IsFunction source items name declared number
  at-end s names before item [] r name number declared g at k = kept-function source items name number declared g (st_of names s before) r.functions r.declarations at k
  at-end s names before item (x ∷ rest) r name number declared g at k =
      at-end (after_item s item x) (seen_sources.after_item names item x) (functions_after names.items before item x) (item + 1) rest (next-reached s names before item x rest r) name number declared g at
      (next-keeps s names before item x rest r name number g k)
