-- The faults of a source: their words, and which of several is told.
use Rattle.std.specs.Prelude.{ℕ, List, Option, Some, None, Bool, nat_lt, ◌==◌, ◌&&◌, ◌||◌, if◌then◌else◌, codes}
use Rattle.sat_base.specs.declared.fault.Fault.{Fault}
use Rattle.sat_base.specs.declared.fault.FaultKind.{FaultKind}
use Rattle.sat_base.specs.declared.fault.FaultKind.TheVariants.{UnknownName, DuplicateName, ArgumentCount, NumberNeeded, NotAnArray, NotAFunction, ConstWritten, BadInitialiser, VoidValue, MissingReturn, WrongReturn, OutsideALoop, NoMain, ElementWidth, WrongShape, BadLength, ViewNeeded, DeclarationsDiffer, NoDefinition, DefinedTwice, MainCalled, PointerUse, TooManyFunctions, TooManyScalars, TooManyParameters, TooMuchData, TooManyConstants, TooManyStatements, TooManyViews, Memory}

-- a kind of fault: its place in the order in which faults are told on one token, and its words
pub record Told : Type 0 where
  pub rank : ℕ
  pub words : List ℕ

abbrev told : ℕ → List ℕ → Told
told rank words = record { rank = rank; words = words }

abbrev pub told_of : FaultKind → Told
told_of UnknownName = told 0 (codes "unknown name")
told_of DuplicateName = told 1 (codes "duplicate name")
told_of ArgumentCount = told 2 (codes "wrong number of arguments")
told_of NumberNeeded = told 3 (codes "number needed")
told_of NotAnArray = told 4 (codes "not an array")
told_of NotAFunction = told 5 (codes "not a function")
told_of ConstWritten = told 6 (codes "const written")
told_of BadInitialiser = told 7 (codes "bad initialiser")
told_of VoidValue = told 8 (codes "void value used")
told_of MissingReturn = told 9 (codes "missing return")
told_of WrongReturn = told 10 (codes "wrong return")
told_of OutsideALoop = told 11 (codes "outside a loop")
told_of NoMain = told 12 (codes "no main")
told_of ElementWidth = told 13 (codes "element width")
told_of WrongShape = told 14 (codes "wrong shape")
told_of BadLength = told 15 (codes "bad length")
told_of ViewNeeded = told 16 (codes "view needed")
told_of DeclarationsDiffer = told 17 (codes "declarations differ")
told_of NoDefinition = told 18 (codes "no definition")
told_of DefinedTwice = told 19 (codes "defined twice")
told_of MainCalled = told 20 (codes "main called")
told_of PointerUse = told 21 (codes "pointer use")
told_of TooManyFunctions = told 22 (codes "limit functions")
told_of TooManyScalars = told 23 (codes "limit scalars")
told_of TooManyParameters = told 24 (codes "limit parameters")
told_of TooMuchData = told 25 (codes "limit data")
told_of TooManyConstants = told 26 (codes "limit constants")
told_of TooManyStatements = told 27 (codes "limit statements")
told_of TooManyViews = told 28 (codes "limit views")
told_of Memory = told 29 (codes "out of memory")

abbrev pub text_of : FaultKind → List ℕ
text_of kind = (told_of kind).words

abbrev pub rank_of : FaultKind → ℕ
rank_of kind = (told_of kind).rank

-- by token, and on one token by the order of the kinds
abbrev pub is_before : Fault → Fault → Bool
is_before one other =
    nat_lt one.tok other.tok || ((one.tok == other.tok) && nat_lt (rank_of one.kind) (rank_of other.kind))

-- of two faults that may be there the one that is told: the left one, unless the right one comes before it
abbrev pub lesser : Option Fault → Option Fault → Option Fault
lesser None right = right
lesser (Some one) None = Some one
lesser (Some one) (Some other) = if is_before other one then Some other else Some one
