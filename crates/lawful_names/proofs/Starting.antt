-- How an object of a block starts: with no value, or with one.
use Rattle.std.proofs.Common.{◌≡◌, ℕ, Bool, true, false}
use Rattle.std.specs.Prelude.{ℤ, Option, Some, None}
use Rattle.c_tree.specs.declared.call.Arg.{Arg}
use Rattle.c_tree.specs.declared.declaration.Decl.{Decl}
use Rattle.c_tree.specs.declared.declaration.Init.{Init}
use Rattle.c_tree.specs.declared.declaration.Init.TheVariants as init
use Rattle.operator_meaning.specs.declared.object.Object.{Object}
use Rattle.c_seen.specs.declared.seen.Seen.{Seen}
use Rattle.c_seen.specs.declared.seen.Seen.TheVariants as seen
use Rattle.c_seen.specs.Declarations.{object}
use Rattle.tied_objects.specs.Objects.{object_of}
use Rattle.lawful_names.proofs.Values.{argument_value}

abbrev pub is_one : Init → Bool
is_one init.Nothing = false
is_one (init.One arg) = true
is_one (init.Flat values) = false
is_one (init.Rows rows) = false

-- by one value, which a pointer has too
pub record ByValue (decl : Decl) (value : Option ℤ) : Type 0 where
  pub automatic : decl.is_static ≡ false
  pub arg : Arg
  pub given : decl.init ≡ init.One arg
  pub is : decl.pointer ≡ false → value ≡ argument_value decl.width arg

abbrev pub StartsBy : Decl → Option (Option ℤ) → Type 0
StartsBy decl None = decl.is_static ≡ false → is_one decl.init ≡ false
StartsBy decl (Some value) = ByValue decl value

pub record Starts (sound : Seen → Bool) (one : Object) (value : Option (Option ℤ)) : Type 0 where
  pub decl : Decl
  pub is_local : Bool
  pub function : ℕ
  pub exposed : Bool
  pub is : one ≡ object_of decl (Some function) exposed
  pub sounds : sound (seen.Object (object decl is_local)) ≡ true
  pub starts : StartsBy decl value
