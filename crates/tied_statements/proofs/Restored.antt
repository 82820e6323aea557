-- A scope that is left leaves the names in scope that were before it.
use Rattle.std.proofs.Common.{◌≡◌, ℕ, ◌-◌, List, [], ◌∷◌, ◌++◌, drop, length, refl, ap, ◌∙◌, arith}
use Rattle.std.specs.Prelude.{Some}
use Rattle.std.proofs.lemmas.List.{drop_at, length-append}
use Rattle.c_scopes.specs.Scopes.{Known}
use Rattle.c_tree.specs.declared.declaration.Decl.{Decl}
use Rattle.c_tree.specs.declared.declaration.Objects.{Objects}
use Rattle.c_tree.specs.declared.program.Item.{Item}
use Rattle.operator_meaning.specs.declared.object.Object.{Object}
use Rattle.tied_names.specs.declared.tie.Tie.{Tie}
use Rattle.tied_names.specs.declared.ties.Ties.{Ties}
use Rattle.tied_names.specs.Numbers.{is_exposed}
use Rattle.tied_names.specs.Ties.{Here, here_of}
use Rattle.tied_objects.specs.Objects.{object_of}
use Rattle.tied_statements.specs.Declarations.{tie_to, with_objects, after_object, after_declared, starts_of, starts_in_lists}

-- there are more names, newer ones, and all else but the objects is the same
pub record Extends (a b : Here) : Type 0 where
  pub items : b.items ≡ a.items
  pub tokens : b.tokens ≡ a.tokens
  pub exposed : b.exposed ≡ a.exposed
  pub newer : List (Known Tie)
  pub known : b.known ≡ newer ++ a.known

pub extends-itself : (a : Here) → Extends a a
extends-itself a = record { items = refl; tokens = refl; exposed = refl; newer = []; known = refl }

pub extends-objects : (a b : Here) (objects : List Object) → Extends a b → Extends a (with_objects b objects)
extends-objects a b objects e = record { items = e.items; tokens = e.tokens; exposed = e.exposed; newer = e.newer; known = e.known }

pub extends-object : (a b : Here) (name : List ℕ) (object : Object) → Extends a b → Extends a (after_object b name object)
extends-object a b name object e = record {
  items = e.items;
  tokens = e.tokens;
  exposed = e.exposed;
  newer = (name, record { depth = 0; what = tie_to (length b.objects) object }) ∷ e.newer;
  known = ap (λ (ks : List (Known Tie)). (name, record { depth = 0; what = tie_to (length b.objects) object }) ∷ ks) e.known;
}

extends-starts : (a b : Here) (function : ℕ) (decls : List Decl) → Extends a b → Extends a (starts_of b function decls).after
extends-starts a b function [] e = e
extends-starts a b function (decl ∷ decls) e =
    extends-starts a (after_declared b (Some function) decl) function decls
    (extends-object a b decl.name.name (object_of decl (Some function) (is_exposed b.exposed (length b.objects))) e)

pub extends-lists : (a b : Here) (function : ℕ) (lists : List Objects) → Extends a b → Extends a (starts_in_lists b function lists).after
extends-lists a b function [] e = e
extends-lists a b function (list ∷ lists) e = extends-lists a (starts_of b function list.decls).after function lists (extends-starts a b function list.decls e)

-- what is in scope once all but the oldest are forgotten
abbrev pub left : Ties → ℕ → Here
left s len = here_of (record s { names = drop (length s.names - len) s.names })

abbrev here_with : List Item → List ℕ → List ℕ → List (Known Tie) → List Object → Here
here_with items tokens exposed known objects = record { items = items; tokens = tokens; exposed = exposed; known = known; objects = objects }

pub restored : (a : Here) (s : Ties) (len : ℕ) (objects : List Object) → Extends a (here_of s) → len ≡ length a.known → s.objects ≡ objects → left s len ≡ with_objects a objects
restored a s len objects e is same =
    let long : length s.names ≡ length (e.newer ++ a.known) = ap length e.known in
    let count : length e.newer ≡ length s.names - len = omega (arith, long, is, length-append e.newer a.known) in
    let known : drop (length s.names - len) s.names ≡ a.known = ap (drop (length s.names - len)) e.known ∙ drop_at e.newer a.known (length s.names - len) count in
    ap (λ (k : List (Known Tie)). here_with s.items.now s.facts.now.tokens s.facts.now.exposed.keys k s.objects) known
    ∙ ap (λ (i : List Item). here_with i s.facts.now.tokens s.facts.now.exposed.keys a.known s.objects) e.items
    ∙ ap (λ (t : List ℕ). here_with a.items t s.facts.now.exposed.keys a.known s.objects) e.tokens
    ∙ ap (λ (x : List ℕ). here_with a.items a.tokens x a.known s.objects) e.exposed
    ∙ ap (λ (o : List Object). here_with a.items a.tokens a.exposed a.known o) same
