-- The constants in declarations of objects and parameters: only in what an automatic object starts with are there any.
use Rattle.std.proofs.Common.{◌≡◌, ℕ, List, [], ◌++◌, Bool, true, false, refl, subst}
use Rattle.std.specs.Prelude.{ℤ, nat_lt, not, ◌&&◌, if◌then◌else◌, Option, Some, None, option_map, is_some, is_none}
use Rattle.sat_base.specs.declared.name.At.{At}
use Rattle.sat_base.specs.declared.name.Named.{Named}
use Rattle.sat_base.specs.declared.width.Width.{Width}
use Rattle.c_tree.specs.declared.declaration.Decl.{Decl}
use Rattle.c_tree.specs.declared.declaration.Init.{Init}
use Rattle.c_tree.specs.declared.declaration.Init.TheVariants as init
use Rattle.c_tree.specs.declared.expression.Expr.{Expr}
use Rattle.c_typed.specs.declared.typed.Typed.{Typed}
use Rattle.constant_expressions.specs.Folding.{folded}
use Rattle.declared_objects.specs.Initialisers.{some_variable, bad_init}
use Rattle.declared_objects.specs.Lengths.{at_least_one, length_written, bad_length, is_array}
use Rattle.c_seen.specs.declared.seen.Kind.{Kind}
use Rattle.c_seen.specs.declared.seen.Kind.TheVariants as kinds
use Rattle.c_seen.specs.declared.seen.Seen.{Seen}
use Rattle.c_seen.specs.declared.seen.Seen.TheVariants as seen
use Rattle.c_seen.specs.Declarations as scope
use Rattle.c_seen.specs.Declarations.{number_if_any, numbers, row, dimension, wanted_of, initialiser, is_static, seen_in_declared, name_of_parameter}
use Rattle.c_seen.specs.Meanings.{Names, is_taken, kind_of}
use Rattle.c_faults.specs.Rows.{at_if}
use Rattle.tied_names.specs.declared.tie.Asked.TheVariants as asks
use Rattle.tied_names.specs.Ties.{Here}
use Rattle.tied_statements.specs.Declarations.{asked_by, start_value}
use Rattle.lawful_sources.specs.Expressions.{argument_look}
use Rattle.lawful_sources.specs.Statements.{in_value_of}
use Rattle.lawful_laws.proofs.Statements.{earlier, later, tail, head}
use Rattle.lawful_names.proofs.Clean.{Clean, is_clean, when-clean, never}
use Rattle.lawful_texts.proofs.Alike.{Suits, Near}
use Rattle.lawful_texts.proofs.Claims.{Sound, MaybeSame, StartSame, DeclaredSame}
use Rattle.lawful_texts.proofs.Lengths.{neither}
use Rattle.lawful_texts.proofs.Numbers.{expression-flat}
use Rattle.lawful_texts.proofs.Same.{Same, values, more_things, passed, none-seen, both-none, then-thing, then-none}

pub not-told : (bad : Bool) (at : At) → at_if bad at ≡ None → bad ≡ false
not-told true at p = absurd (never at p)
not-told false at p = refl

pub not-some : {A : Type 0} (bad : Bool) (x : A) → (if bad then Some x else None) ≡ None → bad ≡ false
not-some true x p = cc
not-some false x p = refl

pub name-flat : (names : Names) (name : Option Named) → values (name_of_parameter names name) ≡ []
name-flat names None = refl
name-flat names (Some name) = refl

length-constant : (e : Expr) → is_none (length_written (Some e)) ≡ false → is_some (folded e) ≡ true
length-constant e bad = constant-by (folded e) bad
  where
    constant-by : (value : Option ℤ) → is_none (at_least_one value) ≡ false → is_some value ≡ true
    constant-by None p = cc
    constant-by (Some value) p = refl

suits-by : (pointer : Bool) (width : Width) (kind : Kind) (decl : Decl) → Suits (if pointer then asks.View else asks.Number width) (wanted_of (if pointer then kinds.View else kind) decl)
suits-by true width kind decl = tt
suits-by false width kind decl = tt

start-suits : (decl : Decl) → Suits (asked_by decl) (wanted_of (kind_of decl) decl)
start-suits decl = suits-by decl.pointer decl.width _ decl

not-both : (static constant : Bool) → (static && not constant) ≡ false → static ≡ true → constant ≡ true
not-both true true p q = refl
not-both true false p q = cc
not-both false constant p q = cc

module _ (source : Typed) where
  pub length-flat : (e : Option Expr) → MaybeSame source e → (is_some e && is_none (length_written e)) ≡ false → (names : Names) → values (number_if_any names e) ≡ []
  length-flat None one bad names = refl
  length-flat (Some e) one bad names = expression-flat source e one names (length-constant e bad)

  start-flat : (decl : Decl) (start : Init) → StartSame source start → (static : Bool) → bad_init decl static start ≡ false → static ≡ true → (names : Names) → values (initialiser names decl start) ≡ []
  start-flat decl init.Nothing one static bad is names = refl
  start-flat decl (init.One x) one static bad is names = one.flat names _ (not-both static _ (neither (is_array decl) _ bad).1 is)
  start-flat decl (init.Flat vs) one static bad is names = one (neither (some_variable vs) _ (neither (not (is_array decl)) _ bad).1).0 names
  start-flat decl (init.Rows rows) one static bad is names = one _ (neither _ _ (neither (is_none decl.cols) _ (neither (not (is_array decl)) _ bad).1).1).1 names

  bare : (object : ℕ) (list : List Seen) → values list ≡ [] → Same (in_value_of source object None) list
  bare object list none = more_things _ [] list refl (none-seen list none)

  start-same : (decl : Decl) (static : Bool) (start : Init) → StartSame source start → (names : Names) (here : Here) (object : ℕ) → let d : Decl = record decl { is_static = static; init = start } in
      bad_init d static start ≡ false → Near names here → Sound (initialiser names d start) → Same (in_value_of source object (option_map (argument_look source) (start_value here d).value)) (initialiser names d start)
  start-same decl true start one names here object bad near p = bare object _ (start-flat (record decl { is_static = true; init = start }) start one true bad refl names)
  start-same decl false init.Nothing one names here object bad near p = bare object [] refl
  start-same decl false (init.One x) one names here object bad near p =
      let d : Decl = record decl { is_static = false; init = init.One x } in then-thing _ _ _ refl (one.same names here (asked_by d) (wanted_of (kind_of d) d) _ (start-suits d) near p)
  start-same decl false (init.Flat vs) one names here object bad near p = bare object _ (one (neither (some_variable vs) _ (neither (not (is_array decl)) _ bad).1).0 names)
  start-same decl false (init.Rows rows) one names here object bad near p = bare object _ (one _ (neither _ _ (neither (is_none decl.cols) _ (neither (not (is_array decl)) _ bad).1).1).1 names)

  -- ---- an object

  -- what is known of an object without a fault
  record Declared (names : Names) (depth : ℕ) (decl : Decl) : Type 0 where
    start : Sound (initialiser names decl decl.init)
    long : bad_length decl ≡ false
    begins : bad_init decl (is_static (nat_lt 0 depth) decl) decl.init ≡ false

  declared : (names : Names) (depth : ℕ) (decl : Decl) → Sound (seen_in_declared names depth decl) → Declared names depth decl
  declared names depth decl p =
      let after : Sound (initialiser names decl decl.init ++ _) = later is_clean (dimension names decl.cols) _ (later is_clean (dimension names decl.rows) _ p) in
      let c : Clean (seen.Object (scope.object decl (nat_lt 0 depth))) = when-clean _ (head is_clean _ _ (tail is_clean (seen.Name decl.name.at (is_taken names decl.name.name depth false)) _ (later is_clean (initialiser names decl decl.init) _ after))) in
      record { start = earlier is_clean _ _ after; long = not-told _ _ c.length; begins = not-told _ _ c.initialiser }

  pub declared-same : (decl : Decl) → (bad_length decl ≡ false → (names : Names) → (values (dimension names decl.rows) ≡ []) × (values (dimension names decl.cols) ≡ [])) → StartSame source decl.init → DeclaredSame source decl
  declared-same decl brackets one = record {
    inner = λ names here depth object deep near p.
        let d : Declared names depth decl = declared names depth decl p in
        let flat : (values (dimension names decl.rows) ≡ []) × (values (dimension names decl.cols) ≡ []) = brackets d.long names in
        let bad : bad_init decl decl.is_static decl.init ≡ false = subst (λ (local : Bool). bad_init decl (is_static local decl) decl.init ≡ false) deep d.begins in
        passed _ (dimension names decl.rows) _ flat.0 (passed _ (dimension names decl.cols) _ flat.1
        (then-none _ _ _ (start-same decl decl.is_static decl.init one names here object bad near d.start) refl));
    outer = λ names p.
        let d : Declared names 0 decl = declared names 0 decl p in
        let flat : (values (dimension names decl.rows) ≡ []) × (values (dimension names decl.cols) ≡ []) = brackets d.long names in
        both-none (dimension names decl.rows) _ flat.0 (both-none (dimension names decl.cols) _ flat.1
        (both-none (initialiser names decl decl.init) _ (start-flat decl decl.init one true d.begins refl names) refl));
  }
