-- The function of each object has a definition, and an object of no function is static.
use Rattle.std.proofs.Common.{◌≡◌, ℕ, ◌+◌, ◌≤◌, List, [], ◌∷◌, Bool, true, false, refl, ap, arith}
use Rattle.std.specs.Prelude.{if◌then◌else◌}
use Rattle.std.specs.List.{list_all}
use Rattle.c_tree.specs.declared.program.Program.{Program}
use Rattle.c_typed.specs.declared.typed.Typed.{Typed}
use Rattle.operator_meaning.specs.declared.object.Object.{Object}
use Rattle.c_seen.specs.declared.seen.Seen.{Seen}
use Rattle.c_seen.specs.Sources.{seen_in_items}
use Rattle.c_types.specs.Sources.{after_items}
use Rattle.c_types.specs.Tied.{IsTyped}
use Rattle.lawful_sources.specs.Objects.{has_function}
use Rattle.lawful_names.proofs.Clean.{is_clean, when-clean}
use Rattle.lawful_names.proofs.Faultless.{seen-clean}
use Rattle.lawful_names.proofs.MeasuredItems.{Measures, items-measure}
use Rattle.lawful_names.proofs.Sources.{reached, start_of, names_at_start}
use Rattle.lawful_names.proofs.Totals.{total, all-pass}

abbrev failing : Typed → Object → ℕ
failing source object = if has_function source object object.function then 0 else 1

abbrev pub free : Seen → ℕ
free s = 0

none-failing : (passes : Bool) → passes ≡ true → (if passes then 0 else 1) ≤ 0
none-failing true p = omega arith
none-failing false p = cc

pub no-cost : (list : List Seen) → total free list ≡ 0
no-cost [] = refl
no-cost (s ∷ rest) = omega (arith, no-cost rest)

measures : (source : Typed) → Measures source is_clean (failing source) free
measures source = record {
  of = λ number whole. record { inner = λ decl exposed p. none-failing _ whole; parameters = λ param exposed p. none-failing _ whole };
  outer = λ decl exposed p. omega arith;
}

pub objects-owned : (program : Program) (source : Typed) → IsTyped program source → list_all (λ object. has_function source object object.function) source.objects ≡ true
objects-owned program source is =
    let most : total (failing source) (after_items (start_of program source) 0 program.items).here.objects ≤ 0 + total free (seen_in_items (names_at_start program) [] 0 program.items) =
    items-measure source program.items is_clean when-clean (failing source) free (measures source) (start_of program source) (names_at_start program) [] 0 program.items (reached program source is_clean when-clean is.tied (seen-clean program is.faultless)) in
    let none : total free (seen_in_items (names_at_start program) [] 0 program.items) ≡ 0 = no-cost (seen_in_items (names_at_start program) [] 0 program.items) in
    let same : total (failing source) source.objects ≡ total (failing source) (after_items (start_of program source) 0 program.items).here.objects = ap (total (failing source)) is.tied.objects in
    all-pass (λ object. has_function source object object.function) source.objects (omega arith)
