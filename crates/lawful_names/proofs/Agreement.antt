-- What a name stands for, as what is seen has it, and what it is tied to: the two agree.
use Rattle.std.proofs.Common.{◌≡◌, ℕ, List, [], ◌∷◌, Bool, true, false, map, refl}
use Rattle.std.specs.Prelude.{Option, Some, None, is_some, if◌then◌else◌, slice_get}
use Rattle.sat_base.specs.declared.width.Width.{Width}
use Rattle.c_scopes.specs.declared.scopes.Declared.{Declared}
use Rattle.c_tree.specs.declared.function.Function.{Function}
use Rattle.c_tree.specs.declared.function.Param.{Param}
use Rattle.c_tree.specs.declared.program.Item.{Item}
use Rattle.c_typed.specs.declared.call.Callee.{Callee}
use Rattle.c_typed.specs.declared.call.Callee.TheVariants as callees
use Rattle.c_typed.specs.declared.typed.Typed.{Typed}
use Rattle.c_typed.specs.declared.typed.TypedFunction.{TypedFunction}
use Rattle.operator_meaning.specs.declared.object.Object.{Object}
use Rattle.c_seen.specs.declared.seen.Kind.{Kind}
use Rattle.c_seen.specs.declared.seen.Kind.TheVariants as kinds
use Rattle.c_seen.specs.declared.seen.Meaning.{Meaning}
use Rattle.c_seen.specs.declared.seen.Meaning.TheVariants as means
use Rattle.c_seen.specs.Functions.{is_view, function_at, functions_of, is_defined}
use Rattle.c_seen.specs.Meanings.{Names, known_or, meaning}
use Rattle.tied_names.specs.declared.tie.Tie.{Tie}
use Rattle.tied_names.specs.declared.tie.Tie.TheVariants as ties
use Rattle.tied_names.specs.declared.tie.TiedObject.{TiedObject}
use Rattle.tied_names.specs.Ties.{Here, tied_or, tie_of}

-- ---- parameters

-- what a parameter takes
pub record Sort : Type 0 where
  pub view : Bool
  pub width : Width
  pub is_const : Bool

abbrev pub sort_of : Param → Sort
sort_of param = record { view = is_view param; width = param.width; is_const = param.is_const }

abbrev pub sorts : Function → List Sort
sorts function = map sort_of function.params

-- the object of this number takes what the parameter does
pub record IsParameter (source : Typed) (number : ℕ) (sort : Sort) : Type 0 where
  pub object : Object
  pub stands : slice_get source.objects number ≡ Some object
  pub views : object.view ≡ sort.view
  pub widths : object.width ≡ sort.width
  pub consts : object.is_const ≡ sort.is_const

abbrev pub AreParameters : Typed → List ℕ → List Sort → Type 0
AreParameters source [] [] = Unit {0}
AreParameters source [] (sort ∷ rest) = ⊥
AreParameters source (number ∷ numbers) [] = ⊥
AreParameters source (number ∷ numbers) (sort ∷ rest) = IsParameter source number sort × AreParameters source numbers rest

-- ---- what names stand for

abbrev pub is_pointing : Kind → Bool
is_pointing kinds.Scalar = false
is_pointing kinds.Array = false
is_pointing kinds.Table = false
is_pointing kinds.View = true

-- an object that a name is tied to, by what is seen of it; `Shaped` says how its kind shows in it
pub record IsObject (source : Typed) (Shaped : Kind → Object → Type 0) (kind : Kind) (width : Width) (is_const : Bool) (tied : TiedObject) : Type 0 where
  pub object : Object
  pub stands : slice_get source.objects tied.number ≡ Some object
  pub tied_as : tied ≡ record { number = tied.number; width = object.width; rows = object.rows; columns = object.columns; view = object.view }
  pub views : object.view ≡ is_pointing kind
  pub widths : object.width ≡ width
  pub consts : object.is_const ≡ is_const
  pub shape : Shaped kind object

-- a function that a name is tied to, where the item declares it
pub record IsFunction (source : Typed) (items : List Item) (name : List ℕ) (item number : ℕ) : Type 0 where
  pub function : TypedFunction
  pub stands : slice_get source.functions number ≡ Some function
  pub named : function.name ≡ name
  pub declaration : Function
  pub declares : function_at items item ≡ Some declaration
  pub gives : function.gives ≡ declaration.gives
  pub defined : is_some function.body ≡ is_defined (functions_of items) name
  pub parameters : is_some function.body ≡ true → AreParameters source function.params (sorts declaration)

abbrev pub is_predefined : Callee → Bool
is_predefined (callees.Function number) = false
is_predefined callee = true

module _ (source : Typed) (items : List Item) (Shaped : Kind → Object → Type 0) where
  abbrev pub Agrees : List ℕ → Option Meaning → Option Tie → Type 0
  Agrees name None None = Unit {0}
  Agrees name (Some (means.Object kind width is_const)) (Some (ties.Object tied)) = IsObject source Shaped kind width is_const tied
  Agrees name (Some (means.Function item)) (Some (ties.Function number declared)) = IsFunction source items name item number × (item ≡ declared)
  Agrees name (Some (means.Predefined callee)) (Some (ties.Predefined other)) = (callee ≡ other) × (is_predefined callee ≡ true)
  Agrees name meaning tie = ⊥

  -- what is seen and what is tied stand at one place of the source
  pub record Near (names : Names) (here : Here) : Type 0 where
    pub seen_items : names.items ≡ items
    pub seen_functions : names.functions ≡ functions_of items
    pub tied_items : here.items ≡ items
    pub agree : (name : List ℕ) → Agrees name (meaning names name) (tie_of here name)

  -- one more name is declared
  pub newest-agrees : (name : List ℕ) (same : Bool) (one : Declared Meaning) (other : Declared Tie) (older : Option (Declared Meaning)) (before : Option (Declared Tie)) (callee : Option Callee)
      → (same ≡ true → Agrees name (Some one.what) (Some other.what)) → Agrees name (known_or older callee) (tied_or before callee)
      → Agrees name (known_or (if same then Some one else older) callee) (tied_or (if same then Some other else before) callee)
  newest-agrees name true one other older before callee new old = new refl
  newest-agrees name false one other older before callee new old = old

  -- before any is declared
  pub predefined-agrees : (name : List ℕ) (callee : Option Callee) → ((c : Callee) → callee ≡ Some c → is_predefined c ≡ true) → Agrees name (known_or None callee) (tied_or None callee)
  predefined-agrees name None own = tt
  predefined-agrees name (Some callee) own = (refl, own callee refl)
