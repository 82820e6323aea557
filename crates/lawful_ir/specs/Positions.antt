-- The things that stand in a tree, and where a node stands.
use Rattle.std.specs.Prelude.{ℕ, ◌==◌, Bool, true, false, List, [], ◌∷◌, ◌++◌, flat_map, Option, Some, None}
use Rattle.sat_base.specs.declared.width.Width.{Width}
use Rattle.operator_meaning.specs.declared.site.SiteKind.{SiteKind}
use Rattle.operator_meaning.specs.declared.site.SiteKind.TheVariants.{Bound, ViewBound, ViewEdge}
use Rattle.c_typed.specs.declared.call.Callee.{Callee}
use Rattle.lawful_sources.specs.Statements.{Spot, looped}
use Rattle.lawful_sources.specs.Things.{Taken, Thing, Call, Argument, Conversion, Statement, due_of}

-- A thing as it stands in a source, where a site's token is that of its number; or a node where none of its kind may
-- stand, or with other parts than it takes.
pub data TreeThing : Type 0 where
  Of : Thing → TreeThing
  Misplaced : TreeThing

-- where a node stands
pub data Position : Type 0 where
  -- a number, with what is taken of it where it is an argument or the one value of an object, and the implied
  -- conversion that is due
  Valued : (passed : Option (Option Taken)) → (due : Option Width) → Position
  -- an index, with the kind that its site has to have, and how many operands it has
  Indexing : (due : SiteKind) → (operands : ℕ) → Position
  -- what an object of a block starts with
  Starting : Position
  -- an assignment, a step or a call in the head of a loop
  Acting : Position
  Stating : Spot → Position
  -- the block of a function
  Body : Spot → Position

-- an argument, by what is taken
abbrev pub given_as : Option Taken → Position
given_as taken = Valued (Some taken) (due_of taken)

-- a number that is used as it is
abbrev pub plainly : Position
plainly = Valued None None

abbrev pub placed_if : Bool → List TreeThing → List TreeThing
placed_if true things = things
placed_if false things = Misplaced ∷ []

-- where no conversion is and none is due, nothing stands
abbrev pub turned : Option Width → Option Width → List TreeThing
turned None None = []
turned None (Some due) = Of (Conversion None (Some due)) ∷ []
turned (Some width) due = Of (Conversion (Some width) due) ∷ []

abbrev pub before : Option (Option Taken) → List TreeThing
before None = []
before (Some taken) = Of (Argument false taken) ∷ []

-- what gives a number, by the implied conversion that it is
abbrev pub valued : Position → Option Width → List TreeThing → List TreeThing
valued (Valued passed due) is things = before passed ++ (turned is due ++ things)
valued position is things = Misplaced ∷ []

-- a view is given
abbrev pub viewed : Position → (Option Taken → List TreeThing) → List TreeThing
viewed (Valued (Some taken) due) things = Of (Argument true taken) ∷ things taken
viewed position things = Misplaced ∷ []

-- whether what a call gives is needed
abbrev pub needs : Position → Bool
needs (Valued passed due) = true
needs position = false

-- an assignment, a step or a call: in the head of a loop, or as a statement
abbrev pub acted : Position → List TreeThing → List TreeThing
acted Acting things = things
acted (Stating spot) things = Of Statement ∷ things
acted position things = Misplaced ∷ []

abbrev pub around : Position → List TreeThing → List TreeThing
around (Valued passed due) things = valued (Valued passed due) None things
around position things = acted position things

abbrev pub called : Position → Callee → ℕ → List TreeThing → List TreeThing
called position callee count rest = around position (Of (Call callee count (needs position)) ∷ rest)

abbrev pub stated : Position → List TreeThing → List TreeThing
stated (Stating spot) things = Of Statement ∷ things
stated position things = Misplaced ∷ []

abbrev pub blocked : Position → List TreeThing → List TreeThing
blocked (Stating spot) things = Of Statement ∷ things
blocked (Body spot) things = things
blocked position things = Misplaced ∷ []

-- outside of all loops, in a function that gives nothing
abbrev pub nowhere : Spot
nowhere = record { in_loop = false; gives = None }

abbrev pub spot_in : Position → Spot
spot_in (Stating spot) = spot
spot_in (Body spot) = spot
spot_in position = nowhere

-- a part of a statement, and the body of a loop
abbrev pub inside : Position → Position
inside position = Stating (spot_in position)

abbrev pub inside_loop : Position → Position
inside_loop position = Stating (looped (spot_in position))

abbrev pub returning : Position → Position
returning position = Valued None (spot_in position).gives

-- the kinds of an index
abbrev pub is_kind : SiteKind → SiteKind → Bool
is_kind (Bound one) (Bound other) = one == other
is_kind ViewBound ViewBound = true
is_kind ViewEdge ViewEdge = true
is_kind one other = false

-- what the things are in a source
abbrev pub thing_of : TreeThing → List Thing
thing_of (Of thing) = thing ∷ []
thing_of Misplaced = []

abbrev pub things_of : List TreeThing → List Thing
things_of things = flat_map thing_of things

abbrev pub is_placed : TreeThing → Bool
is_placed (Of thing) = true
is_placed Misplaced = false
