-- The lines of what a lawful tree is that hold of the tree of every lawful source, for use beside one another.
use Rattle.std.proofs.Common.{refl, ◌∙◌, sym, ap}
use Rattle.ir_cuts.specs.Cuts.{cuts_of}
use Rattle.lawful_ir.proofs.Kept.{nodes-placed, kept-alike}
use Rattle.lawful_ir.proofs.Wholes.{sites-are}
use Rattle.lawful_ir.specs.Laws.{NodesArePlaced, ArgumentsFit, ReturnsFit, LeavesStandInLoops, ConversionsStand, ConstantsAreFew, SitesAreFew, SitesAreInOrder, WeightsAreKnown, CutsStand}

pub nodes-are-placed : NodesArePlaced
nodes-are-placed = λ typed ir lawful is. nodes-placed typed ir lawful is

pub arguments-fit : ArgumentsFit
arguments-fit = λ typed ir lawful is. kept-alike typed ir lawful is _ (λ callee other count is_needed. refl) (λ at other site number kind. refl) lawful.arguments_fit

pub returns-fit : ReturnsFit
returns-fit = λ typed ir lawful is. kept-alike typed ir lawful is _ (λ callee other count is_needed. refl) (λ at other site number kind. refl) lawful.returns_fit

pub leaves-stand-in-loops : LeavesStandInLoops
leaves-stand-in-loops = λ typed ir lawful is. kept-alike typed ir lawful is _ (λ callee other count is_needed. refl) (λ at other site number kind. refl) lawful.leaves_stand_in_loops

pub conversions-stand : ConversionsStand
conversions-stand = λ typed ir lawful is. kept-alike typed ir lawful is _ (λ callee other count is_needed. refl) (λ at other site number kind. refl) lawful.conversions_stand

pub constants-are-few : ConstantsAreFew
constants-are-few = λ typed ir lawful is. rw is.is.constants lawful.constants_are_few

pub sites-are-few : SitesAreFew
sites-are-few = λ typed ir lawful is. rw (sites-are typed ir lawful is) lawful.sites_are_few

pub sites-are-in-order : SitesAreInOrder
sites-are-in-order = λ typed ir lawful is. rw (sites-are typed ir lawful is) lawful.sites_are_in_order

pub weights-are-known : WeightsAreKnown
weights-are-known = λ typed ir lawful is. is.is.weights ∙ lawful.weights_are_known

pub cuts-stand : CutsStand
cuts-stand = λ typed ir lawful is. is.is.cuts ∙ ap cuts_of (sym is.is.tree)
