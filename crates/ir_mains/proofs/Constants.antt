-- The relational constants of a tree are those that stand in it: the tree has kept those of its source.
use Rattle.std.proofs.Common.{◌≡◌, ℕ, List, [], ◌∷◌, refl, sym, ap, ◌∙◌}
use Rattle.std.proofs.lemmas.List.Concat.{flat_map-append}
use Rattle.std.specs.Prelude.{flat_map, Some, None}
use Rattle.c_typed.specs.declared.typed.Typed.{Typed}
use Rattle.c_typed.specs.declared.typed.TypedFunction.{TypedFunction}
use Rattle.lawful_sources.specs.Lawful.{standing_constant, constants_standing, distinct_after}
use Rattle.lawful_sources.specs.Statements.{in_function}
use Rattle.lawful_sources.specs.Things.{Thing, Place, Call, Argument, Mark, Conversion, Begins, Constant, Statement, Leave, Return}
use Rattle.lawful_ir.specs.Lawful.{tables_of}
use Rattle.lawful_ir.specs.Positions.{TreeThing, things_of, thing_of}
use Rattle.lawful_ir.proofs.Alike.{all_of, converts}
use Rattle.lawful_ir.proofs.Kept.{all-fine}
use Rattle.lawful_ir.proofs.Wholes.{numbers, defined_things, stands-are}
use Rattle.ir_mains.specs.Laws.{ConstantsStand}
use Rattle.ir_mains.proofs.Ordered.{ordered}

module _ (source tables : Typed) (table : List ℕ) where
  constant-kept : (x : Thing) → constants_standing (things_of (converts tables table x)) ≡ standing_constant x
  constant-kept (Place object marks aim) = refl
  constant-kept (Call callee count is_needed) = refl
  constant-kept (Argument is_view taken) = refl
  constant-kept (Mark at site None) = refl
  constant-kept (Mark at site (Some kind)) = refl
  constant-kept (Conversion None None) = refl
  constant-kept (Conversion None (Some due)) = refl
  constant-kept (Conversion (Some width) due) = refl
  constant-kept (Begins object value) = refl
  constant-kept (Constant value) = refl
  constant-kept Statement = refl
  constant-kept (Leave in_loop) = refl
  constant-kept (Return has_value gives) = refl

  constants-kept : (list : List Thing) → constants_standing (things_of (all_of source tables table list)) ≡ constants_standing list
  constants-kept [] = refl
  constants-kept (x ∷ list) =
      ap constants_standing (flat_map-append thing_of (converts tables table x) (all_of source tables table list))
      ∙ flat_map-append standing_constant (things_of (converts tables table x)) (things_of (all_of source tables table list))
      ∙ rw (constant-kept x, constants-kept list) refl

pub constants-stand : ConstantsStand
constants-stand typed ir lawful is =
    is.is.constants ∙ lawful.constants_stand
    ∙ ap (λ (l : List TypedFunction). distinct_after [] (constants_standing (flat_map (in_function typed) l))) (sym (ordered typed is.definitions is.are lawful))
    ∙ ap (distinct_after []) (sym (ap (λ (l : List TreeThing). constants_standing (things_of l)) (stands-are typed ir lawful is (all-fine typed lawful))
    ∙ constants-kept typed (tables_of ir) (numbers typed ir lawful is) (defined_things typed ir lawful is)))
