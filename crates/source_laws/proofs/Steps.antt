-- Each single step of a run goes on from itself.
use Rattle.std.proofs.Common.{◌≡◌, ℕ, List, [], ◌∷◌, refl, ◌∙◌}
use Rattle.std.specs.Prelude.{ℤ, Option, Some, None, slice_get}
use Rattle.operator_meaning.specs.declared.operator.Op.{Op}
use Rattle.operator_meaning.specs.Value.{value_of}
use Rattle.operator_meaning.specs.declared.object.Object.{Object}
use Rattle.operator_meaning.specs.declared.object.Storage.TheVariants.{Static, Automatic, Parameter}
use Rattle.weight_table.specs.declared.counted.Counted.{Counted}
use Rattle.weight_table.specs.declared.table.Table.{Table}
use Rattle.c_tree.specs.declared.expression.BinaryMark.{BinaryMark}
use Rattle.c_tree.specs.declared.expression.BinaryMark.TheVariants as binary
use Rattle.c_tree.specs.declared.expression.UnaryMark.{UnaryMark}
use Rattle.c_tree.specs.declared.expression.UnaryMark.TheVariants as unary
use Rattle.c_tree.specs.declared.simple.AssignMark.{AssignMark}
use Rattle.c_tree.specs.declared.simple.AssignMark.TheVariants as assign
use Rattle.c_typed.specs.declared.call.Callee.{Callee}
use Rattle.c_typed.specs.declared.call.Callee.TheVariants.{Function, Operator, Move16, Move32, Logic16, Logic32, Test, SampleIn, SampleLeft, SampleOut}
use Rattle.sat_base.specs.Clip.{low16}
use Rattle.source_runs.specs.declared.location.Given.{Given}
use Rattle.source_runs.specs.declared.location.Given.TheVariants.{Number, View}
use Rattle.source_runs.specs.declared.shape.Shape.{Shape}
use Rattle.source_runs.specs.Shapes.{shape_of}
use Rattle.source_runs.specs.State.{Kept, put}
use Rattle.source_runs.specs.Runs.{Run, changing}
use Rattle.source_runs.specs.Steps.{given_to, given_to_all, opened}
use Rattle.source_runs.specs.Marks.{unary_meaning, both_meaning, binary_meaning, decided, decided_or, assigned}
use Rattle.source_runs.specs.Calls.{operated, operator_call, counting, sample_in, sample_left, sample_out}
use Rattle.typed_meaning.specs.Expressions.{Called, callee_meaning}
use Rattle.source_laws.proofs.Extending.{Extends, extends-gives, extends-reading, extends-changing, extends-keeping, extends-site, extends-next, extends-and, extends-found}

-- ---- marks

pub extends-unary : (mark : UnaryMark) (site : ℕ) (x : ℤ) → Extends (unary_meaning mark site x) (unary_meaning mark site x)
unfolding unary_meaning
extends-unary unary.Minus site x = extends-site site _
extends-unary unary.Plus site x = extends-gives _
extends-unary unary.Not site x = extends-gives _
extends-unary unary.Invert site x = extends-gives _

extends-both : (mark : BinaryMark) (site : ℕ) (x y : ℤ) → Extends (both_meaning mark site x y) (both_meaning mark site x y)
unfolding both_meaning
extends-both binary.Plus site x y = extends-site site _
extends-both binary.Minus site x y = extends-site site _
extends-both binary.Times site x y = extends-site site _
extends-both binary.BitAnd site x y = extends-gives _
extends-both binary.BitOr site x y = extends-gives _
extends-both binary.BitXor site x y = extends-gives _
extends-both binary.Eq site x y = extends-gives _
extends-both binary.Ne site x y = extends-gives _
extends-both binary.Lt site x y = extends-gives _
extends-both binary.Le site x y = extends-gives _
extends-both binary.Gt site x y = extends-gives _
extends-both binary.Ge site x y = extends-gives _
extends-both binary.Both site x y = extends-gives _
extends-both binary.Either site x y = extends-gives _

extends-decided : (value : Option ℤ) (rest longer : Run ℤ) → Extends rest longer → Extends (decided_or value rest) (decided_or value longer)
extends-decided (Some value) rest longer one = extends-gives value
extends-decided None rest longer one = one

pub extends-binary : (mark : BinaryMark) (site : ℕ) (left longer right farther : Run ℤ) → Extends left longer → Extends right farther
    → Extends (binary_meaning mark site left right) (binary_meaning mark site longer farther)
unfolding binary_meaning
extends-binary mark site left longer right farther one two =
    extends-next _ _ _ _ one (λ x. extends-decided (decided mark x) _ _ (extends-next _ _ _ _ two (extends-both mark site x)))

pub extends-assigned : (mark : AssignMark) (site : ℕ) (old value : ℤ) → Extends (assigned mark site old value) (assigned mark site old value)
unfolding assigned
extends-assigned assign.Plain site old value = extends-gives _
extends-assigned assign.Plus site old value = extends-site site _
extends-assigned assign.Minus site old value = extends-site site _
extends-assigned assign.Times site old value = extends-site site _
extends-assigned assign.And site old value = extends-gives _
extends-assigned assign.Or site old value = extends-gives _
extends-assigned assign.Xor site old value = extends-gives _

-- ---- calls

extends-operated : (table : Table) (site : ℕ) (op : Op) (args : List ℤ) → Extends (operated table site op args) (operated table site op args)
unfolding operated
extends-operated table site op args =
    extends-next _ _ _ _ (extends-site site (value_of op args)) (λ value. extends-and _ _ _ _ (extends-keeping _ (λ kept. refl)) (extends-gives value))

extends-operator_call : (table : Table) (site : ℕ) (op : Op) (givens : List Given) → Extends (operator_call table site op givens) (operator_call table site op givens)
unfolding operator_call
extends-operator_call table site op givens = extends-operated table site op _

extends-counting : (table : Table) (what : Counted) → Extends (counting table what) (counting table what)
unfolding counting
extends-counting table what = extends-keeping _ (λ kept. refl)

extends-sample_in : (site : ℕ) → Extends (sample_in site) (sample_in site)
unfolding sample_in
extends-sample_in site = extends-next _ _ _ _ (extends-found site _) (λ x. extends-and _ _ _ _ (extends-keeping _ (λ kept. refl)) (extends-gives x))

extends-sample_left : Extends sample_left sample_left
unfolding sample_left
extends-sample_left = extends-reading _

extends-sample_out : (value : ℤ) → Extends (sample_out value) (sample_out value)
unfolding sample_out
extends-sample_out value = extends-changing (put value) (λ kept. (low16 value ∷ [], refl))

-- what is called beside the functions of the source is the same
pub extends-callee : (objects : List Object) (table : Table) (turns more : ℕ) (called longer : Called)
    → ((number : ℕ) (givens : List Given) → Extends (called number givens) (longer number givens))
    → (callee : Callee) (site : ℕ) (givens : List Given)
    → Extends (callee_meaning (record { objects = objects; table = table; turns = turns }) called callee site givens) (callee_meaning (record { objects = objects; table = table; turns = more }) longer callee site givens)
unfolding callee_meaning
extends-callee objects table turns more called longer each (Function number) site givens = each number givens
extends-callee objects table turns more called longer each (Operator op) site givens = extends-operator_call table site op givens
extends-callee objects table turns more called longer each Move16 site givens = extends-and _ _ _ _ (extends-counting table _) (extends-gives _)
extends-callee objects table turns more called longer each Move32 site givens = extends-and _ _ _ _ (extends-counting table _) (extends-gives _)
extends-callee objects table turns more called longer each Logic16 site givens = extends-and _ _ _ _ (extends-counting table _) (extends-gives _)
extends-callee objects table turns more called longer each Logic32 site givens = extends-and _ _ _ _ (extends-counting table _) (extends-gives _)
extends-callee objects table turns more called longer each Test site givens = extends-and _ _ _ _ (extends-counting table _) (extends-gives _)
extends-callee objects table turns more called longer each SampleIn site givens = extends-sample_in site
extends-callee objects table turns more called longer each SampleLeft site givens = extends-sample_left
extends-callee objects table turns more called longer each SampleOut site givens = extends-and _ _ _ _ (extends-sample_out _) (extends-gives _)

-- ---- objects

given_to-output : (shape : Shape) (given : Given) (kept : Kept) → (given_to shape given kept).output ≡ kept.output
given_to-output shape (Number value) kept = refl
given_to-output shape (View at) kept = refl

pub given_to_all-output : (objects : List Object) (params : List ℕ) (givens : List Given) (kept : Kept) → (given_to_all objects params givens kept).output ≡ kept.output
given_to_all-output objects [] givens kept = refl
given_to_all-output objects (param ∷ params) [] kept = refl
given_to_all-output objects (param ∷ params) (given ∷ more) kept =
    given_to_all-output objects params more (given_to (shape_of objects param) given kept) ∙ given_to-output (shape_of objects param) given kept

pub extends-given_to : (shape : Shape) (given : Given) → Extends (changing (given_to shape given)) (changing (given_to shape given))
extends-given_to shape given = extends-keeping (given_to shape given) (given_to-output shape given)

pub extends-given_to_all : (objects : List Object) (params : List ℕ) (givens : List Given) → Extends (changing (given_to_all objects params givens)) (changing (given_to_all objects params givens))
extends-given_to_all objects params givens = extends-keeping (given_to_all objects params givens) (given_to_all-output objects params givens)

opened-output : (objects : List Object) (number : ℕ) (kept : Kept) → (opened objects number kept).output ≡ kept.output
opened-output objects number kept =
    elim (slice_get objects number) as (λ o. slice_get objects number ≡ o → (opened objects number kept).output ≡ kept.output) [
      | None ↦ λ missing. rw missing refl
      | Some object ↦ λ there. elim object.storage as (λ storage. object.storage ≡ storage → (opened objects number kept).output ≡ kept.output) [
        | Static ↦ λ is. rw (there, is) refl
        | Automatic ↦ λ is. rw (there, is) refl
        | Parameter ↦ λ is. rw (there, is) refl
      ] refl
    ] refl

pub extends-opened : (objects : List Object) (number : ℕ) → Extends (changing (opened objects number)) (changing (opened objects number))
extends-opened objects number = extends-keeping (opened objects number) (opened-output objects number)
