-- The objects and the sites of a layout.
use Rattle.std.proofs.Common.{◌≡◌, ℕ, Bool, true, false, List, refl, sym, ap, ◌∙◌}
use Rattle.std.specs.Prelude.{Option, Some, None, not, ◌==◌, ◌&&◌, slice_get, map, option_map}
use Rattle.std.proofs.lemmas.Bool.{and_parts, not-true}
use Rattle.std.proofs.lemmas.Option.{slice_get-map}
use Rattle.operator_meaning.specs.declared.object.Object.{Object}
use Rattle.operator_meaning.specs.declared.object.Site.{Site}
use Rattle.source_runs.specs.Shapes.{shape_of}
use Rattle.code_stacks.specs.Places.{Layout}
use Rattle.expression_code.specs.Straight.{is_wordless}
use Rattle.expression_code.specs.Laws.{AreScalars}
use Rattle.data_layout.specs.declared.layout.DataLayout.{DataLayout}
use Rattle.data_layout.specs.Laid.{HasVariables, HasWordless, wordless_where}
use Rattle.data_layout.specs.Layouts.{layout_of, is_true}
use Rattle.data_layout.specs.Slots.{is_scalar_at}

no-view : (objects : List Object) (number : ℕ) (found : Option Object) → slice_get objects number ≡ found → is_scalar_at objects number ≡ true → (shape_of objects number).view ≡ false
no-view objects number None is scalar = rw is refl
no-view objects number (Some object) is scalar =
    let test : (not object.view && object.rows == 0) ≡ true = rw is at scalar in
    rw is (not-true object.view (and_parts (not object.view) (object.rows == 0) test).0)

-- no variable is a view
pub no-views : (objects : List Object) (l : Layout) → HasVariables objects l → AreScalars objects l
no-views objects l scalars = λ number is. no-view objects number (slice_get objects number) refl (sym (scalars number) ∙ is)

sites-if : (found : Option Site) → is_true (option_map (λ site. is_wordless site.kind) found) ≡ wordless_where found
sites-if None = refl
sites-if (Some site) = refl

pub sites-are : (sites : List Site) (layout : DataLayout) → layout.wordless ≡ map (λ site. is_wordless site.kind) sites → HasWordless sites (layout_of layout)
sites-are sites layout is = λ number.
    ap (λ (flags : List Bool). is_true (slice_get flags number)) is ∙ ap is_true (slice_get-map (λ site. is_wordless site.kind) sites number) ∙ sites-if (slice_get sites number)
