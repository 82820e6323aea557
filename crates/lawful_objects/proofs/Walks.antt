-- The two walks over a source side by side: the same names, and as many objects; in the second one the objects are
-- marked by the numbers of those that are exposed.
use Rattle.std.proofs.Common.{◌≡◌, ℕ, ◌+◌, List, [], ◌∷◌, ◌++◌, length, refl, sym, ap, ◌∙◌, subst, arith, length-append}
use Rattle.std.specs.Prelude.{Option, Some, None}
use Rattle.sat_base.specs.declared.name.Named.{Named}
use Rattle.c_tree.specs.declared.declaration.Decl.{Decl}
use Rattle.c_tree.specs.declared.function.Param.{Param}
use Rattle.operator_meaning.specs.declared.object.Object.{Object}
use Rattle.tied_names.specs.declared.tie.Tie.{Tie}
use Rattle.tied_names.specs.Numbers.{is_exposed}
use Rattle.tied_names.specs.Ties.{Here}
use Rattle.tied_statements.specs.Declarations.{tie_to, with_objects, after_object, after_declared, after_objects}
use Rattle.c_types.specs.Sources.{after_named, after_parameter, parameters_of}
use Rattle.lawful_objects.proofs.Exposing.{first}

-- from the object with this number on, each is marked by these
abbrev pub Marked : List ℕ → ℕ → List Object → Type 0
Marked exposed number [] = Unit {0}
Marked exposed number (object ∷ objects) = (object.exposed ≡ is_exposed exposed number) × Marked exposed (number + 1) objects

marked-last : (exposed : List ℕ) (number : ℕ) (objects : List Object) (one : Object) → Marked exposed number objects → one.exposed ≡ is_exposed exposed (number + length objects) → Marked exposed number (objects ++ one ∷ [])
marked-last exposed number [] one m p = (p ∙ ap (is_exposed exposed) (omega arith), tt)
marked-last exposed number (object ∷ objects) one m p = (m.0, marked-last exposed (number + 1) objects one m.1 (p ∙ ap (is_exposed exposed) (omega arith)))

module _ (exposed : List ℕ) where
  -- the objects of both walks
  pub record Grown (firsts objects : List Object) : Type 0 where
    pub long : length firsts ≡ length objects
    pub marked : Marked exposed 0 objects

  grown-last : (firsts objects : List Object) (one other : Object) → other.exposed ≡ is_exposed exposed (length objects) → Grown firsts objects → Grown (firsts ++ one ∷ []) (objects ++ other ∷ [])
  grown-last firsts objects one other p g =
      let long : length firsts ≡ length objects = g.long in record {
        long = length-append firsts (one ∷ []) ∙ ap (λ (n : ℕ). n + 1) long ∙ sym (length-append objects (other ∷ []));
        marked = marked-last exposed 0 objects other g.marked (p ∙ ap (is_exposed exposed) (omega arith));
      }

  -- one place, as the first walk and as the second one has it
  pub record Both (one here : Here) : Type 0 where
    pub objects : List Object
    pub is : one ≡ first objects here
    pub marks : here.exposed ≡ exposed
    pub grown : Grown objects here.objects

  pub same-objects : (one here : Here) → Both one here → Grown one.objects here.objects
  same-objects one here b = subst (λ (h : Here). Grown h.objects here.objects) (sym b.is) b.grown

  pub still-both : (one here : Here) (firsts objects : List Object) → Both one here → Grown firsts objects → Both (with_objects one firsts) (with_objects here objects)
  still-both one here firsts objects b g = record { objects = firsts; is = ap (λ (h : Here). with_objects h firsts) b.is; marks = b.marks; grown = g }

  -- ---- one more object

  both-object : (one here : Here) (name : List ℕ) (a c : Object) → ((n : ℕ) → tie_to n a ≡ tie_to n c) → c.exposed ≡ is_exposed exposed (length here.objects) → Both one here → Both (after_object one name a) (after_object here name c)
  both-object one here name a c same p b = record {
    objects = b.objects ++ a ∷ [];
    is = ap (λ (h : Here). after_object h name a) b.is
        ∙ ap (λ (t : Tie). record { items = here.items; tokens = []; exposed = []; known = (name, record { depth = 0; what = t }) ∷ here.known; objects = b.objects ++ a ∷ [] })
        (ap (λ (n : ℕ). tie_to n a) b.grown.long ∙ same (length here.objects));
    marks = b.marks;
    grown = grown-last b.objects here.objects a c p b.grown;
  }

  marked-by : (here : Here) → here.exposed ≡ exposed → is_exposed here.exposed (length here.objects) ≡ is_exposed exposed (length here.objects)
  marked-by here p = ap (λ (l : List ℕ). is_exposed l (length here.objects)) p

  pub both-declared : (one here : Here) (function : Option ℕ) (decl : Decl) → Both one here → Both (after_declared one function decl) (after_declared here function decl)
  both-declared one here function decl b = both-object one here decl.name.name _ _ (λ n. refl) (marked-by here b.marks) b

  pub both-objects : (one here : Here) (decls : List Decl) → Both one here → Both (after_objects one decls) (after_objects here decls)
  both-objects one here [] b = b
  both-objects one here (decl ∷ decls) b = both-objects (after_declared one None decl) (after_declared here None decl) decls (both-declared one here None decl b)

  both-named : (one here : Here) (name : Option Named) (a c : Object) → ((n : ℕ) → tie_to n a ≡ tie_to n c) → c.exposed ≡ is_exposed exposed (length here.objects) → Both one here → Both (after_named one a name) (after_named here c name)
  both-named one here None a c same p b = still-both one here _ _ b (grown-last one.objects here.objects a c p (same-objects one here b))
  both-named one here (Some name) a c same p b = both-object one here name.name a c same p b

  pub both-parameters : (one here : Here) (function : ℕ) (params : List Param) → Both one here → Both (parameters_of one function params).after (parameters_of here function params).after
  both-parameters one here function [] b = b
  both-parameters one here function (param ∷ params) b =
      both-parameters (after_parameter one function param) (after_parameter here function param) function params (both-named one here param.name _ _ (λ n. refl) (marked-by here b.marks) b)
