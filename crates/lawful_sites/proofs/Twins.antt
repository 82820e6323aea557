-- Two places of a source that are alike but for the numbers of its sites and for what is exposed: its notes are made at
-- the one, and its functions at the other.
use Rattle.std.proofs.Common.{◌≡◌, ℕ, List, [], ◌∷◌, ◌++◌, false, length, ap, ◌∙◌, arith}
use Rattle.std.specs.Prelude.{Option, Some, None}
use Rattle.std.proofs.lemmas.List.{length-append}
use Rattle.c_scopes.specs.Scopes.{Known, meaning_of}
use Rattle.c_tree.specs.declared.declaration.Decl.{Decl}
use Rattle.c_tree.specs.declared.function.Param.{Param}
use Rattle.operator_meaning.specs.declared.object.Object.{Object}
use Rattle.predefined_calls.specs.Calls.{callee_of}
use Rattle.sat_base.specs.declared.name.Named.{Named}
use Rattle.tied_names.specs.declared.tie.Tie.{Tie}
use Rattle.tied_names.specs.Ties.{Here, tied_or, tie_of, object_by, object_of, declaring}
use Rattle.tied_objects.specs.Objects.{object_of_parameter}
use Rattle.tied_objects.specs.Objects.{object_of as declared_object}
use Rattle.tied_statements.specs.Declarations.{tie_to, with_objects, after_declared, after_objects}
use Rattle.c_types.specs.Sources.{parameter_of, after_named, after_parameter, parameters_of}

pub one-more : {A : Type 0} (ones others : List A) (one other : A) → length others ≡ length ones → length (others ++ other ∷ []) ≡ length (ones ++ one ∷ [])
one-more ones others one other long = omega (arith, long, length-append ones (one ∷ []), length-append others (other ∷ []))

module _ (tokens : List ℕ) where
  pub record Twins (here other : Here) : Type 0 where
    pub numbers : here.tokens ≡ tokens
    pub items : other.items ≡ here.items
    pub known : other.known ≡ here.known
    pub objects : length other.objects ≡ length here.objects

  pub tie-same : (here other : Here) → Twins here other → (name : List ℕ) → tie_of other name ≡ tie_of here name
  tie-same here other twins name = ap (λ (k : List (Known Tie)). tied_or (meaning_of k name) (callee_of name)) twins.known

  pub object-same : (here other : Here) → Twins here other → (name : List ℕ) → object_of other name ≡ object_of here name
  object-same here other twins name = ap object_by (tie-same here other twins name)

  pub twins-with : (here other : Here) (ones others : List Object) → Twins here other → length others ≡ length ones → Twins (with_objects here ones) (with_objects other others)
  twins-with here other ones others twins long = record { numbers = twins.numbers; items = twins.items; known = twins.known; objects = long }

  pub twins-name : (here other : Here) (name : List ℕ) (one two : Tie) → Twins here other → two ≡ one → Twins (declaring here name one) (declaring other name two)
  twins-name here other name one two twins same = record {
    numbers = twins.numbers;
    items = twins.items;
    known = ap (λ (t : Tie). (name, record { depth = 0; what = t }) ∷ other.known) same ∙ ap (λ (k : List (Known Tie)). (name, record { depth = 0; what = one }) ∷ k) twins.known;
    objects = twins.objects;
  }

  more-objects : (here other : Here) (one two : Object) → Twins here other → Twins (with_objects here (here.objects ++ one ∷ [])) (with_objects other (other.objects ++ two ∷ []))
  more-objects here other one two twins = twins-with here other _ _ twins (one-more here.objects other.objects one two twins.objects)

  pub twins-declared : (here other : Here) (function : Option ℕ) (decl : Decl) → Twins here other → Twins (after_declared here function decl) (after_declared other function decl)
  twins-declared here other function decl twins =
      twins-name _ _ decl.name.name _ _ (more-objects here other _ _ twins) (ap (λ (n : ℕ). tie_to n (declared_object decl function false)) twins.objects)

  pub twins-objects : (here other : Here) (decls : List Decl) → Twins here other → Twins (after_objects here decls) (after_objects other decls)
  twins-objects here other [] twins = twins
  twins-objects here other (decl ∷ decls) twins = twins-objects (after_declared here None decl) (after_declared other None decl) decls (twins-declared here other None decl twins)

  twins-named : (here other : Here) (function : ℕ) (param : Param) (name : Option Named) → Twins here other → Twins (after_named here (parameter_of here function param) name) (after_named other (parameter_of other function param) name)
  twins-named here other function param None twins = more-objects here other _ _ twins
  twins-named here other function param (Some name) twins =
      twins-name _ _ name.name _ _ (more-objects here other _ _ twins) (ap (λ (n : ℕ). tie_to n (object_of_parameter param function false)) twins.objects)

  pub twins-parameters : (here other : Here) (function : ℕ) (params : List Param) → Twins here other → Twins (parameters_of here function params).after (parameters_of other function params).after
  twins-parameters here other function [] twins = twins
  twins-parameters here other function (param ∷ params) twins =
      twins-parameters (after_parameter here function param) (after_parameter other function param) function params (twins-named here other function param param.name twins)
