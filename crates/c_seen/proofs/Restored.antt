-- A scope that is left leaves the names in scope that were before it.
use Rattle.std.proofs.Common.{◌≡◌, ℕ, ◌-◌, List, [], ◌∷◌, ◌++◌, Option, Some, None, drop, length, refl, ap, ◌∙◌, arith}
use Rattle.std.proofs.lemmas.List.{drop_at, length-append}
use Rattle.sat_base.specs.declared.name.Named.{Named}
use Rattle.c_scopes.specs.Scopes.{Known}
use Rattle.c_tree.specs.declared.declaration.Decl.{Decl}
use Rattle.c_tree.specs.declared.declaration.Objects.{Objects}
use Rattle.c_tree.specs.declared.function.Param.{Param}
use Rattle.c_tree.specs.declared.program.Item.{Item}
use Rattle.c_seen.specs.declared.functions.Declaration.{Declaration}
use Rattle.c_seen.specs.declared.scope.Scope.{Scope}
use Rattle.c_seen.specs.declared.seen.Meaning.{Meaning}
use Rattle.c_seen.specs.Declarations.{meaning_of_declared, after_declared, after_objects, after_lists, after_parameter, after_named, meaning_of_parameter, after_parameters}
use Rattle.c_seen.specs.Meanings.{Names, names_of, declaring}

-- there are more names, newer ones
pub record Extends (a b : Names) : Type 0 where
  pub items : b.items ≡ a.items
  pub functions : b.functions ≡ a.functions
  pub newer : List (Known Meaning)
  pub known : b.known ≡ newer ++ a.known

extends-itself : (a : Names) → Extends a a
extends-itself a = record { items = refl; functions = refl; newer = []; known = refl }

extends-declaring : (a b : Names) (name : List ℕ) (depth : ℕ) (what : Meaning) → Extends a b → Extends a (declaring b name depth what)
extends-declaring a b name depth what e =
    record { items = e.items; functions = e.functions; newer = (name, record { depth = depth; what = what }) ∷ e.newer; known = ap (λ (ks : List (Known Meaning)). (name, record { depth = depth; what = what }) ∷ ks) e.known }

extends-objects : (a b : Names) (depth : ℕ) (decls : List Decl) → Extends a b → Extends a (after_objects b depth decls)
extends-objects a b depth [] e = e
extends-objects a b depth (decl ∷ decls) e =
    extends-objects a (after_declared b depth decl) depth decls (extends-declaring a b decl.name.name depth (meaning_of_declared decl) e)

extends-lists : (a b : Names) (depth : ℕ) (lists : List Objects) → Extends a b → Extends a (after_lists b depth lists)
extends-lists a b depth [] e = e
extends-lists a b depth (list ∷ lists) e = extends-lists a (after_objects b depth list.decls) depth lists (extends-objects a b depth list.decls e)

extends-named : (a b : Names) (what : Meaning) (name : Option Named) → Extends a b → Extends a (after_named b what name)
extends-named a b what None e = e
extends-named a b what (Some name) e = extends-declaring a b name.name 1 what e

extends-parameters : (a b : Names) (params : List Param) → Extends a b → Extends a (after_parameters b params)
extends-parameters a b [] e = e
extends-parameters a b (param ∷ params) e = extends-parameters a (after_parameter b param) params (extends-named a b (meaning_of_parameter param) param.name e)

-- what is in scope once all but the oldest are forgotten
abbrev left : Scope → ℕ → Names
left s len = names_of (record s { names = drop (length s.names - len) s.names })

restored : (a : Names) (s : Scope) (len : ℕ) → Extends a (names_of s) → len ≡ length a.known → left s len ≡ a
restored a s len e is =
    let long : length s.names ≡ length (e.newer ++ a.known) = ap length e.known in
    let count : length e.newer ≡ length s.names - len = omega (arith, long, is, length-append e.newer a.known) in
    let known : drop (length s.names - len) s.names ≡ a.known = ap (drop (length s.names - len)) e.known ∙ drop_at e.newer a.known (length s.names - len) count in
    ap (λ (k : List (Known Meaning)). let n : Names = record { items = s.items.now; functions = s.functions.now; known = k } in n) known
    ∙ ap (λ (i : List Item). let n : Names = record { items = i; functions = s.functions.now; known = a.known } in n) e.items
    ∙ ap (λ (f : List (Known Declaration)). let n : Names = record { items = a.items; functions = f; known = a.known } in n) e.functions

-- after the objects of a block
pub restored-lists : (a : Names) (s : Scope) (len depth : ℕ) (lists : List Objects) → names_of s ≡ after_lists a depth lists → len ≡ length a.known → left s len ≡ a
restored-lists a s len depth lists is length_is = restored a s len (rw is (extends-lists a a depth lists (extends-itself a))) length_is

-- after the parameters of a function
pub restored-parameters : (a : Names) (s : Scope) (len : ℕ) (params : List Param) → names_of s ≡ after_parameters a params → len ≡ length a.known → left s len ≡ a
restored-parameters a s len params is length_is = restored a s len (rw is (extends-parameters a a params (extends-itself a))) length_is
