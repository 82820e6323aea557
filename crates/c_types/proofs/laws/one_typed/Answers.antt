use Rattle.std.proofs.Common.{◌≡◌, ℕ, List, map, sym, ap, ◌∙◌}
use Rattle.operator_meaning.specs.declared.object.Object.{Object}
use Rattle.operator_meaning.specs.declared.object.Site.{Site}
use Rattle.c_tree.specs.declared.program.Program.{Program}
use Rattle.c_typed.specs.declared.typed.Typed.{Typed}
use Rattle.c_typed.specs.declared.typed.TypedFunction.{TypedFunction}
use Rattle.std.specs.Prelude.{ℤ}
use Rattle.tied_names.specs.Numbers.{token_of}
use Rattle.c_types.specs.Tied.{IsTied, source_with}
use Rattle.c_types.proofs.Sorted_once.{one-sorted}
use Rattle.c_types.proofs.laws.one_typed.Goals as goal

typed_with : List Object → List TypedFunction → List Site → List ℤ → ℕ → Typed
typed_with objects functions sites constants weights = record { objects = objects; functions = functions; sites = sites; constants = constants; weights = weights }

one : (program : Program) (a b : Typed) → IsTied program a → IsTied program b → a ≡ b
unfolding typed_with
one program a b p q =
    let sites : a.sites ≡ b.sites = one-sorted a.sites b.sites p.in_order q.in_order (λ x. p.stable x ∙ sym (q.stable x)) in
    let objects : a.objects ≡ b.objects = p.objects ∙ ap (λ (s : List Site). (source_with program (map token_of s)).here.objects) sites ∙ sym q.objects in
    let functions : a.functions ≡ b.functions = p.functions ∙ ap (λ (s : List Site). (source_with program (map token_of s)).functions) sites ∙ sym q.functions in
    ap (λ (o : List Object). typed_with o a.functions a.sites a.constants a.weights) objects
    ∙ ap (λ (f : List TypedFunction). typed_with b.objects f a.sites a.constants a.weights) functions
    ∙ ap (λ (s : List Site). typed_with b.objects b.functions s a.constants a.weights) sites
    ∙ ap (λ (k : List ℤ). typed_with b.objects b.functions b.sites k a.weights) (p.constants ∙ sym q.constants)
    ∙ ap (λ (w : ℕ). typed_with b.objects b.functions b.sites b.constants w) (p.weights ∙ sym q.weights)

pub returns : goal.returns
returns c = one
