-- A predefined call is no function of the source.
use Rattle.std.proofs.Common.{◌≡◌, ℕ, List, Bool, true, false, refl, sym}
use Rattle.std.specs.Prelude.{Option, Some, None, if◌then◌else◌, codes}
use Rattle.std.specs.Str.{bytes_eq}
use Rattle.operator_meaning.specs.declared.operator.Op.{Op}
use Rattle.c_typed.specs.declared.call.Callee.{Callee}
use Rattle.c_typed.specs.declared.call.Callee.TheVariants as callees
use Rattle.predefined_calls.specs.Calls.{callee_of, other_call, other_or, operator_of}
use Rattle.c_types.specs.Sources.{function_number}
use Rattle.tied_names.specs.Ties.{tied_or}
use Rattle.lawful_names.proofs.Agreement.{is_predefined}

abbrev IsCall : Option Callee → Type 0
IsCall None = Unit {0}
IsCall (Some callee) = is_predefined callee ≡ true

chosen : (test : Bool) (callee : Callee) (rest : Option Callee) → is_predefined callee ≡ true → IsCall rest → IsCall (if test then Some callee else rest)
chosen true callee rest p q = p
chosen false callee rest p q = q

other-is : (name : List ℕ) → IsCall (other_call name)
unfolding other_call
other-is name =
    chosen (bytes_eq name (codes "move16")) callees.Move16 _ refl (chosen (bytes_eq name (codes "move32")) callees.Move32 _ refl
    (chosen (bytes_eq name (codes "logic16")) callees.Logic16 _ refl (chosen (bytes_eq name (codes "logic32")) callees.Logic32 _ refl
    (chosen (bytes_eq name (codes "test")) callees.Test _ refl (chosen (bytes_eq name (codes "sample_in")) callees.SampleIn _ refl
    (chosen (bytes_eq name (codes "sample_left")) callees.SampleLeft _ refl (chosen (bytes_eq name (codes "sample_out")) callees.SampleOut _ refl tt)))))))

either : (callee : Option Callee) (op : Option Op) → IsCall callee → IsCall (other_or callee op)
either (Some callee) op p = p
either None None p = tt
either None (Some op) p = refl

is-call : (o : Option Callee) (callee : Callee) → IsCall o → o ≡ Some callee → is_predefined callee ≡ true
is-call None callee p is = cc
is-call (Some other) callee p is = let same : other ≡ callee = cc in rw (sym same) p

pub call-is-predefined : (name : List ℕ) (callee : Callee) → callee_of name ≡ Some callee → is_predefined callee ≡ true
call-is-predefined name callee = is-call (callee_of name) callee (either (other_call name) (operator_of name) (other-is name))

-- it has no number
no-number : (callee : Option Callee) → function_number (tied_or None callee) ≡ None
no-number None = refl
no-number (Some callee) = refl

pub no-function : (name : List ℕ) → function_number (tied_or None (callee_of name)) ≡ None
no-function name = no-number (callee_of name)

-- what holds of each predefined call
pub of-predefined : (C : Callee → Type 0) → ((op : Op) → C (callees.Operator op)) → C callees.Move16 → C callees.Move32 → C callees.Logic16 → C callees.Logic32 → C callees.Test → C callees.SampleIn → C callees.SampleLeft
    → C callees.SampleOut → (callee : Callee) → is_predefined callee ≡ true → C callee
of-predefined C operator move16 move32 logic16 logic32 test sample_in sample_left sample_out (callees.Function number) p = let never : false ≡ true = p in absurd (apart never)
  where
    apart : false ≡ true → ⊥
    apart q = cc
of-predefined C operator move16 move32 logic16 logic32 test sample_in sample_left sample_out (callees.Operator op) p = operator op
of-predefined C operator move16 move32 logic16 logic32 test sample_in sample_left sample_out callees.Move16 p = move16
of-predefined C operator move16 move32 logic16 logic32 test sample_in sample_left sample_out callees.Move32 p = move32
of-predefined C operator move16 move32 logic16 logic32 test sample_in sample_left sample_out callees.Logic16 p = logic16
of-predefined C operator move16 move32 logic16 logic32 test sample_in sample_left sample_out callees.Logic32 p = logic32
of-predefined C operator move16 move32 logic16 logic32 test sample_in sample_left sample_out callees.Test p = test
of-predefined C operator move16 move32 logic16 logic32 test sample_in sample_left sample_out callees.SampleIn p = sample_in
of-predefined C operator move16 move32 logic16 logic32 test sample_in sample_left sample_out callees.SampleLeft p = sample_left
of-predefined C operator move16 move32 logic16 logic32 test sample_in sample_left sample_out callees.SampleOut p = sample_out
