-- The cuts of a tree: the parameters of each function, the heads of its loops in the order of their keywords, and its
-- return. At a head ranges are stated of the tracked variables that are in scope, those that an inner name hides
-- included, in the order of their declarations.
use Rattle.std.specs.Prelude.{ℕ, zero, suc, ◌+◌, ◌==◌, ◌&&◌, not, Bool, true, false, if◌then◌else◌, List, [], ◌∷◌, ◌++◌, map, Option, Some, None, slice_get}
use Rattle.sat_base.specs.declared.width.Width.{Width}
use Rattle.operator_meaning.specs.declared.object.Object.{Object}
use Rattle.operator_meaning.specs.declared.object.Storage.{Storage}
use Rattle.operator_meaning.specs.declared.object.Storage.TheVariants.{Static}
use Rattle.source_runs.specs.Shapes.{shape_of}
use Rattle.ir_arena.specs.declared.ir.CutKind.TheVariants.{Entry, Head, Exit}
use Rattle.ir_arena.specs.declared.ir.CutPlace.{CutPlace}
use Rattle.ir_arena.specs.Tree.{IrTree, IrTrees, TreeFunction, IrWhole, Block, If, Loop, end, more}

abbrev pub is_static : Storage → Bool
is_static Static = true
is_static storage = false

abbrev pub tracked_where : Option Object → Bool
tracked_where None = false
tracked_where (Some object) = (object.rows == 0) && (not object.view && (not object.exposed && not (is_static object.storage)))

-- an automatic scalar or a scalar parameter to which no `&` is applied
abbrev pub is_tracked : List Object → ℕ → Bool
is_tracked objects number = tracked_where (slice_get objects number)

-- the tracked ones of these many objects, from this number on
abbrev pub tracked_from : List Object → ℕ → ℕ → List ℕ
tracked_from objects number zero = []
tracked_from objects number (suc count) =
    if is_tracked objects number then number ∷ tracked_from objects (number + 1) count else tracked_from objects (number + 1) count

abbrev pub widths_of : List Object → List ℕ → List Width
widths_of objects variables = map (λ number. (shape_of objects number).width) variables

abbrev pub head_cut : List Object → ℕ → List ℕ → CutPlace
head_cut objects function variables = record { kind = Head; function = function; variables = variables; widths = widths_of objects variables }

module _ (objects : List Object) (function : ℕ) where
  abbrev mutual
    pub heads : List ℕ → IrTree → List CutPlace
    heads variables (Block first count starts parts) = heads_in (variables ++ tracked_from objects first count) parts
    heads variables (If cond this other) = heads variables this ++ heads_in variables other
    heads variables (Loop cut tests_first first cond last body) = head_cut objects function variables ∷ heads variables body
    heads variables tree = []

    pub heads_in : List ℕ → IrTrees → List CutPlace
    heads_in variables end = []
    heads_in variables (more first rest) = heads variables first ++ heads_in variables rest

-- ---- those of a function, and of all

abbrev pub tracked_in : List Object → List ℕ → List ℕ
tracked_in objects [] = []
tracked_in objects (number ∷ numbers) = if is_tracked objects number then number ∷ tracked_in objects numbers else tracked_in objects numbers

abbrev pub entry_cut : List Object → ℕ → List ℕ → CutPlace
entry_cut objects function variables = record { kind = Entry; function = function; variables = variables; widths = widths_of objects variables }

-- the width of what a function gives, if it gives a number
abbrev pub given_width : Option Width → List Width
given_width None = []
given_width (Some width) = width ∷ []

abbrev pub exit_cut : ℕ → Option Width → CutPlace
exit_cut function gives = record { kind = Exit; function = function; variables = []; widths = given_width gives }

-- at a function's entry ranges are stated of its tracked parameters, and at its return of what it gives
abbrev pub function_cuts : List Object → ℕ → TreeFunction → List CutPlace
function_cuts objects number function =
    entry_cut objects number (tracked_in objects function.params) ∷ heads objects number (tracked_in objects function.params) function.body
    ++ exit_cut number function.gives ∷ []

-- those of several functions in order, of which the first has this number
abbrev pub cuts_from : List Object → ℕ → List TreeFunction → List CutPlace
cuts_from objects number [] = []
cuts_from objects number (function ∷ functions) = function_cuts objects number function ++ cuts_from objects (number + 1) functions

-- all cuts of a tree
abbrev pub cuts_of : IrWhole → List CutPlace
cuts_of tree = cuts_from tree.objects 0 tree.functions
