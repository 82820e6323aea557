-- A tree whose functions have an order has no recursion, however it is tied; and how faults are passed on.
use Rattle.std.proofs.Common.{◌≡◌, ℕ, zero, suc, ℤ, List, map, sym, ap, ◌∙◌, subst, inl, inr, Contains, slice_get}
use Rattle.c_tree.specs.declared.program.Program.{Program}
use Rattle.c_typed.specs.declared.typed.Typed.{Typed}
use Rattle.c_types.specs.Tied.{IsTyped, source_with}
use Rattle.c_types.specs.Tied.{IsRefused}
use Rattle.c_types.proofs.Sorted_once.{one-sorted}
use Rattle.operator_meaning.specs.declared.object.Object.{Object}
use Rattle.operator_meaning.specs.declared.object.Site.{Site}
use Rattle.c_typed.specs.declared.typed.TypedFunction.{TypedFunction}
use Rattle.tied_names.specs.Numbers.{token_of}
use Rattle.call_structure.specs.declared.refusal.OrderRefusal.TheVariants.{Recursive}
use Rattle.call_structure.specs.Calls.{called_in_function}
use Rattle.call_structure.specs.Reaching.{IsDefined, CallsFunction, CallWalk}
use Rattle.call_structure.proofs.Reaching.{orders_are_free, recursions_are}
use Rattle.sat_base.specs.declared.fault.Fault.{Fault}
use Rattle.sat_base.specs.declared.position.Pos.{Pos}
use Rattle.sat_compile.specs.declared.refusal.CompileRefusal.{CompileRefusal}
use Rattle.sat_compile.specs.Checked.{IsChecked, IsRecursive, IsUnchecked}
use Rattle.sat_compile.specs.Passing.{IsFaultPassed}
use Rattle.sat_compile.specs.Passing as passing

typed_with : List Object → List TypedFunction → List Site → List ℤ → ℕ → Typed
typed_with objects functions sites constants weights = record { objects = objects; functions = functions; sites = sites; constants = constants; weights = weights }

-- a tree is tied in one way
pub one_typed : (program : Program) (a b : Typed) → IsTyped program a → IsTyped program b → a ≡ b
unfolding typed_with
one_typed program a b one other =
    let p = one.tied in
    let q = other.tied in
    let sites : a.sites ≡ b.sites = one-sorted a.sites b.sites p.in_order q.in_order (λ x. p.stable x ∙ sym (q.stable x)) in
    let objects : a.objects ≡ b.objects = p.objects ∙ ap (λ (s : List Site). (source_with program (map token_of s)).here.objects) sites ∙ sym q.objects in
    let functions : a.functions ≡ b.functions = p.functions ∙ ap (λ (s : List Site). (source_with program (map token_of s)).functions) sites ∙ sym q.functions in
    ap (λ (o : List Object). typed_with o a.functions a.sites a.constants a.weights) objects
    ∙ ap (λ (f : List TypedFunction). typed_with b.objects f a.sites a.constants a.weights) functions
    ∙ ap (λ (s : List Site). typed_with b.objects b.functions s a.constants a.weights) sites
    ∙ ap (λ (k : List ℤ). typed_with b.objects b.functions b.sites k a.weights) (p.constants ∙ sym q.constants)
    ∙ ap (λ (w : ℕ). typed_with b.objects b.functions b.sites b.constants w) (p.weights ∙ sym q.weights)

-- so its functions are the same
same_functions : (program : Program) (a b : Typed) → IsTyped program a → IsTyped program b → a.functions ≡ b.functions
same_functions program a b one other = ap (λ (t : Typed). t.functions) (one_typed program a b one other)

-- ---- walks are those of the functions

calls_same : (a b : Typed) → a.functions ≡ b.functions → (f g : ℕ) → CallsFunction a f g → CallsFunction b f g
calls_same a b same f g calls = record {
  caller = subst (λ fs. IsDefined fs f) same calls.caller;
  callee = subst (λ fs. IsDefined fs g) same calls.callee;
  called = subst (λ fs. Contains (called_in_function (slice_get fs f)) g) same calls.called;
}

walk_same : (a b : Typed) → a.functions ≡ b.functions → (n f g : ℕ) → CallWalk a n f g → CallWalk b n f g
walk_same a b same zero f g walk = walk
walk_same a b same (suc n) f g walk = (walk.0, calls_same a b same f walk.0 walk.1, walk_same a b same n walk.0 g walk.2)

-- a tree whose functions have an order has no recursion, however it is tied
pub no_recursion : (program : Program) (typed : Typed) (functions : List ℕ) → IsChecked program typed functions → (pos : Pos) (names : List (List ℕ)) → IsRecursive program pos names → ⊥
no_recursion program typed functions checked pos names recursive =
    let same = same_functions program recursive.typed typed recursive.tied checked.tied in
    let there = recursions_are recursive.typed (Recursive pos recursive.cycle) recursive.recursion in
    orders_are_free typed functions checked.order there.0 (there.1.0, walk_same recursive.typed typed same (suc there.1.0) there.0 there.0 there.1.1)

-- ---- how faults are passed on

pub fault_passed : (program : Program) (fault : Fault) (refusal : CompileRefusal) → IsRefused program fault → IsFaultPassed fault refusal → IsUnchecked program refusal
fault_passed program fault refusal refused (passing.wants_memory is) = tt
fault_passed program fault refusal (inl first) (passing.faulty other) = first
fault_passed program fault refusal (inr memory) (passing.faulty other) = absurd (other (ap (λ (f : Fault). f.kind) memory))
