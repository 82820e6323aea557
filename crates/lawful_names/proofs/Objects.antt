-- The objects of a source have shapes, by what is seen of their declarations.
use Rattle.std.proofs.Common.{◌≡◌, ℕ, [], ◌∷◌, Bool, true, false, refl, sym, ap, ◌∙◌}
use Rattle.std.specs.Prelude.{not, ◌&&◌, ◌||◌, ◌==◌, if◌then◌else◌, Some, None}
use Rattle.std.specs.List.{list_all}
use Rattle.c_tree.specs.declared.program.Program.{Program}
use Rattle.c_typed.specs.declared.typed.Typed.{Typed}
use Rattle.operator_meaning.specs.declared.object.Storage.TheVariants.{Static, Automatic}
use Rattle.c_seen.specs.declared.seen.Kind.{Kind}
use Rattle.c_seen.specs.declared.seen.Kind.TheVariants as kinds
use Rattle.c_seen.specs.Functions.{is_view}
use Rattle.c_seen.specs.Meanings.{kind_of}
use Rattle.c_seen.specs.Sources.{seen_in_items, end_of, seen_of}
use Rattle.tied_objects.specs.Objects.{rows_in, columns_in}
use Rattle.c_types.specs.Tied.{IsTyped}
use Rattle.lawful_sources.specs.Objects.{is_parameter, has_shape}
use Rattle.lawful_sources.proofs.Passing.{Each}
use Rattle.lawful_laws.proofs.Objects.{HoldsOfObjects, items-hold}
use Rattle.lawful_laws.proofs.Statements.{earlier}
use Rattle.lawful_names.specs.Spelled.{AllSpelled}
use Rattle.lawful_names.proofs.Faultless.{seen-clean}
use Rattle.lawful_names.proofs.Shapes.{shows, is_sound, all-sound, sound-shapes}
use Rattle.lawful_names.proofs.Sources.{start_of, names_at_start}

abbrev shown : Kind → Bool → Bool → Bool → Bool
shown kinds.Scalar view no_rows no_columns = not view && (no_rows && no_columns)
shown kinds.Array view no_rows no_columns = not view && (not no_rows && no_columns)
shown kinds.Table view no_rows no_columns = not view && (not no_rows && not no_columns)
shown kinds.View view no_rows no_columns = view && (no_rows && no_columns)

shown-by : (kind : Kind) (view : Bool) (rows columns : ℕ) → shows kind view rows columns ≡ shown kind view (rows == 0) (columns == 0)
shown-by kinds.Scalar view rows columns = refl
shown-by kinds.Array view rows columns = refl
shown-by kinds.Table view rows columns = refl
shown-by kinds.View view rows columns = refl

shape-by : (kind : Kind) (view parameter no_rows no_columns : Bool) → parameter ≡ false → shown kind view no_rows no_columns ≡ true → ((not no_rows || no_columns) && (not (view || parameter) || no_rows)) ≡ true
shape-by kind view true no_rows no_columns q p = cc
shape-by kinds.Scalar true false no_rows no_columns q p = cc
shape-by kinds.Scalar false false true true q p = refl
shape-by kinds.Scalar false false true false q p = cc
shape-by kinds.Scalar false false false no_columns q p = cc
shape-by kinds.Array true false no_rows no_columns q p = cc
shape-by kinds.Array false false true no_columns q p = cc
shape-by kinds.Array false false false true q p = refl
shape-by kinds.Array false false false false q p = cc
shape-by kinds.Table true false no_rows no_columns q p = cc
shape-by kinds.Table false false true no_columns q p = cc
shape-by kinds.Table false false false true q p = cc
shape-by kinds.Table false false false false q p = refl
shape-by kinds.View false false no_rows no_columns q p = cc
shape-by kinds.View true false true true q p = refl
shape-by kinds.View true false true false q p = cc
shape-by kinds.View true false false no_columns q p = cc

no-parameter : (outer static : Bool) → is_parameter (if outer || static then Static else Automatic) ≡ false
no-parameter true static = refl
no-parameter false true = refl
no-parameter false false = refl

either : (view : Bool) → (not (view || true) || true) ≡ true
either true = refl
either false = refl

holds : HoldsOfObjects is_sound has_shape
holds = record {
  inner = λ decl function exposed p. shape-by (kind_of decl) decl.pointer _ _ _ (no-parameter false decl.is_static)
      (sym (shown-by (kind_of decl) decl.pointer (rows_in decl) (columns_in decl)) ∙ sound-shapes.declared decl true (Some function) exposed p);
  outer = λ decl exposed p. shape-by (kind_of decl) decl.pointer _ _ _ (no-parameter true decl.is_static)
      (sym (shown-by (kind_of decl) decl.pointer (rows_in decl) (columns_in decl)) ∙ sound-shapes.declared decl false None exposed p);
  parameters = λ param function exposed. either (is_view param);
}

pub objects-shaped : (program : Program) (source : Typed) → AllSpelled program → IsTyped program source → list_all has_shape source.objects ≡ true
objects-shaped program source spelled is =
    let all : Each is_sound (seen_of program) = record { all = all-sound (seen_of program) (seen-clean program is.faultless) spelled } in
    ap (list_all has_shape) is.tied.objects
    ∙ items-hold is_sound has_shape holds (start_of program source) (names_at_start program) [] 0 program.items (earlier is_sound (seen_in_items (names_at_start program) [] 0 program.items) (end_of program ∷ []) all) refl
