-- The objects of blocks begin well: each has the value that it starts with, where that is a constant expression.
use Rattle.std.proofs.Common.{◌≡◌, ℕ, List, [], Bool, true, false, refl, ap, ◌∙◌, subst}
use Rattle.std.specs.Prelude.{ℤ, pos, Option, Some, None, is_none, is_some, not, ◌&&◌, ◌||◌, ◌==◌, if◌then◌else◌, unwrap_or}
use Rattle.std.proofs.lemmas.Bool.Decides.{Decides-int_eq}
use Rattle.sat_base.specs.declared.name.At.{At}
use Rattle.sat_base.specs.declared.width.Width.{Width}
use Rattle.sat_base.specs.declared.width.Width.TheVariants.{W16, W32}
use Rattle.sat_base.specs.Clip.{low16}
use Rattle.c_tree.specs.declared.call.Arg.{Arg, Value', Address}
use Rattle.c_tree.specs.declared.declaration.Decl.{Decl}
use Rattle.c_tree.specs.declared.declaration.Init.{Init}
use Rattle.c_tree.specs.declared.declaration.Init.TheVariants as init
use Rattle.c_tree.specs.declared.program.Item.{Item}
use Rattle.c_typed.specs.declared.typed.Typed.{Typed}
use Rattle.operator_meaning.specs.declared.object.Object.{Object}
use Rattle.operator_meaning.specs.declared.object.Storage.TheVariants.{Static, Automatic}
use Rattle.constant_expressions.specs.Folding.{converted, folded_kind}
use Rattle.declared_objects.specs.Initialisers.{is_missing, bad_init}
use Rattle.declared_objects.specs.Lengths.{is_array, rows_of, elements_of}
use Rattle.c_seen.specs.declared.seen.Kind.TheVariants as kinds
use Rattle.c_seen.specs.declared.seen.Seen.TheVariants as seen
use Rattle.c_seen.specs.Declarations as scope
use Rattle.c_seen.specs.Declarations.{object}
use Rattle.c_faults.specs.Rows.{at_if}
use Rattle.tied_objects.specs.Initial.{filled, value_if, given_value, values_by, initial_values}
use Rattle.tied_objects.specs.Objects.{rows_in, columns_in, object_of}
use Rattle.lawful_sources.specs.Objects.{is_static, is_parameter, value_agrees, begins_with, begins_well}
use Rattle.lawful_laws.proofs.Functions.{both, left, right}
use Rattle.lawful_names.proofs.Clean.{Clean, never}
use Rattle.lawful_names.proofs.Declarations.{no-array}
use Rattle.lawful_names.proofs.Fitting.{Fits}
use Rattle.lawful_names.proofs.Shapes.{kind_by, shows, Shaped, is_sound, sound-clean, sound-shapes}
use Rattle.lawful_names.proofs.Starting.{is_one, ByValue, StartsBy}
use Rattle.lawful_names.proofs.Values.{argument_value}
use Rattle.lawful_names.proofs.Truths.{or-left, or-right, both-ways}

-- ---- values

agrees-by : (width : Width) (value : Option ℤ) → value_agrees (value_if width value) (converted width value) ≡ true
agrees-by width None = refl
agrees-by W16 (Some value) = (Decides-int_eq (low16 value) (low16 value)).1 refl
agrees-by W32 (Some value) = (Decides-int_eq value value).1 refl

agrees : (width : Width) (arg : Arg) → value_agrees (given_value width arg) (argument_value width arg) ≡ true
agrees width (Value' at brackets inside) = agrees-by width (folded_kind inside)
agrees width (Address at place) = refl

zero-agrees : (decl : Decl) → decl.pointer ≡ false → is_array decl ≡ false → decl.init ≡ init.Nothing → value_agrees (initial_values decl) (Some (pos 0)) ≡ true
zero-agrees decl plain single none =
    ap (λ (b : Bool). value_agrees (if b then None else values_by decl decl.init) (Some (pos 0))) plain
    ∙ ap (λ (i : Init). value_agrees (values_by decl i) (Some (pos 0))) none
    ∙ ap (λ (b : Bool). value_agrees (Some (filled (if b then unwrap_or (elements_of decl) 0 else 1) [])) (Some (pos 0))) single

-- ---- without a value

no-pointer : {A : Type 0} (static : Bool) (at : At) → at_if (true && (static || true)) at ≡ None → A
no-pointer true at p = absurd (never at p)
no-pointer false at p = absurd (never at p)

no-list : {A : Type 0} (array rest : Bool) (at : At) → array ≡ false → at_if (not array || rest) at ≡ None → A
no-list true rest at p q = both-ways true refl p
no-list false rest at p q = absurd (never at q)

shown-rows : (line view : Bool) (rows columns : ℕ) → shows (if line then kinds.Array else kinds.Table) view rows columns ≡ true → not (rows == 0) ≡ true
shown-rows true view rows columns p = left (not (rows == 0)) _ (right (not view) _ p)
shown-rows false view rows columns p = left (not (rows == 0)) _ (right (not view) _ p)

array-rows : (decl : Decl) (is_local : Bool) → decl.pointer ≡ false → is_array decl ≡ true → is_sound (seen.Object (object decl is_local)) ≡ true → not (rows_in decl == 0) ≡ true
array-rows decl is_local plain array p =
    let shape : shows (kind_by decl.pointer (is_array decl) decl.cols) decl.pointer (rows_in decl) (columns_in decl) ≡ true = sound-shapes.declared decl is_local None false p in
    shown-rows (is_none decl.cols) decl.pointer (rows_in decl) (columns_in decl)
    (subst (λ (b : Bool). shows (if not b then kinds.Scalar else (if is_none decl.cols then kinds.Array else kinds.Table)) decl.pointer (rows_in decl) (columns_in decl) ≡ true) array
    (subst (λ (b : Bool). shows (kind_by b (is_array decl) decl.cols) decl.pointer (rows_in decl) (columns_in decl) ≡ true) plain shape))

pointer-single : (decl : Decl) → decl.pointer ≡ true → is_array decl ≡ false
pointer-single decl p = ap (λ (b : Bool). not b && is_some decl.rows) p

both-not : (view rest : Bool) → view ≡ false → rest ≡ true → (not view && rest) ≡ true
both-not true rest p q = cc
both-not false rest p q = q

bare-start : (decl : Decl) (is_local : Bool) → is_sound (seen.Object (object decl is_local)) ≡ true → Clean (seen.Object (object decl is_local)) → (pointer : Bool) → decl.pointer ≡ pointer → (array : Bool) → is_array decl ≡ array
    → (start : Init) → decl.init ≡ start → is_one start ≡ false → (not decl.pointer && (not (rows_in decl == 0) || value_agrees (initial_values decl) (Some (pos 0)))) ≡ true
bare-start decl is_local s c pointer p array q (init.One arg) r one = let wrong : true ≡ false = one in cc
bare-start decl is_local s c true p array q init.Nothing r one =
    no-pointer (scope.is_static is_local decl) decl.name.at
    (subst (λ (i : Init). at_if (true && (scope.is_static is_local decl || is_missing i)) decl.name.at ≡ None) r (subst (λ (b : Bool). at_if (b && (scope.is_static is_local decl || is_missing decl.init)) decl.name.at ≡ None) p c.pointer))
bare-start decl is_local s c true p array q (init.Flat values) r one =
    no-list (is_array decl) _ decl.name.at (pointer-single decl p) (subst (λ (i : Init). at_if (bad_init decl (scope.is_static is_local decl) i) decl.name.at ≡ None) r c.initialiser)
bare-start decl is_local s c true p array q (init.Rows rows) r one =
    no-list (is_array decl) _ decl.name.at (pointer-single decl p) (subst (λ (i : Init). at_if (bad_init decl (scope.is_static is_local decl) i) decl.name.at ≡ None) r c.initialiser)
bare-start decl is_local s c false p true q start r one = both-not decl.pointer _ p (or-left _ _ (array-rows decl is_local p q s))
bare-start decl is_local s c false p false q init.Nothing r one = both-not decl.pointer _ p (or-right (not (rows_in decl == 0)) _ (zero-agrees decl p q r))
bare-start decl is_local s c false p false q (init.Flat values) r one =
    no-list (is_array decl) _ decl.name.at q (subst (λ (i : Init). at_if (bad_init decl (scope.is_static is_local decl) i) decl.name.at ≡ None) r c.initialiser)
bare-start decl is_local s c false p false q (init.Rows rows) r one =
    no-list (is_array decl) _ decl.name.at q (subst (λ (i : Init). at_if (bad_init decl (scope.is_static is_local decl) i) decl.name.at ≡ None) r c.initialiser)

bare-by : (static rest : Bool) → (static ≡ false → rest ≡ true) → (not (is_parameter (if static then Static else Automatic)) && (is_static (if static then Static else Automatic) || rest)) ≡ true
bare-by true rest p = refl
bare-by false rest p = p refl

-- ---- with a value

valued-by : (static rest : Bool) → static ≡ false → rest ≡ true
    → (not (is_parameter (if static then Static else Automatic)) && (not (is_static (if static then Static else Automatic) || is_parameter (if static then Static else Automatic)) && rest)) ≡ true
valued-by true rest p q = cc
valued-by false rest p q = q

single-rows : (decl : Decl) → is_array decl ≡ false → (rows_in decl == 0) ≡ true
single-rows decl p = ap (λ (b : Bool). (if b then unwrap_or (rows_of decl) 0 else 0) == 0) p

valued-start : (decl : Decl) (value : Option ℤ) → ByValue decl value → (is_local : Bool) → Clean (seen.Object (object decl is_local)) → (pointer : Bool) → decl.pointer ≡ pointer
    → (decl.pointer || (rows_in decl == 0 && value_agrees (initial_values decl) value)) ≡ true
valued-start decl value by is_local c true p = or-left _ _ p
valued-start decl value by is_local c false p =
    let single : is_array decl ≡ false = no-array (is_array decl) _ decl.name.at (subst (λ (i : Init). at_if (bad_init decl (scope.is_static is_local decl) i) decl.name.at ≡ None) by.given c.initialiser) in
    or-right decl.pointer _ (both _ _ (single-rows decl single)
    (ap (λ (b : Bool). value_agrees (if b then None else values_by decl decl.init) value) p
    ∙ ap (λ (i : Init). value_agrees (values_by decl i) value) by.given
    ∙ ap (value_agrees (given_value decl.width by.arg)) (by.is p)
    ∙ agrees decl.width by.arg))

start-well : (decl : Decl) (is_local : Bool) (function : ℕ) (exposed : Bool) (value : Option (Option ℤ)) → is_sound (seen.Object (object decl is_local)) ≡ true → StartsBy decl value → begins_with (Some (object_of decl (Some function) exposed)) value ≡ true
start-well decl is_local function exposed None s bare =
    bare-by decl.is_static _ (λ automatic. bare-start decl is_local s (sound-clean (seen.Object (object decl is_local)) s) decl.pointer refl (is_array decl) refl decl.init refl (bare automatic))
start-well decl is_local function exposed (Some value) s by = valued-by decl.is_static _ by.automatic (valued-start decl value by is_local (sound-clean (seen.Object (object decl is_local)) s) decl.pointer refl)

pub begins-fit : (source : Typed) (items : List Item) → Fits source items Shaped is_sound (begins_well source)
begins-fit source items = record {
  places = λ at kind width is_const tied marks purpose o q c. refl;
  calls = λ name item number arguments is_needed f good. refl;
  predefined = λ callee is_needed own given. refl;
  numbers = λ width. refl;
  views = λ width is_const. refl;
  marks = λ at site kind. refl;
  conversions = λ width. refl;
  constants = λ value. refl;
  begins = λ number object value stands starts.
      ap (λ (o : Option Object). begins_with o value) (stands ∙ ap (λ (o : Object). Some o) starts.is) ∙ start-well starts.decl starts.is_local starts.function starts.exposed value starts.sounds starts.starts;
  statements = refl;
  leaves = λ in_loop. refl;
  returns = λ has_value gives. refl;
}
