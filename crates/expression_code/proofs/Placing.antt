-- Operands as they are placed on the stack: each converted to the width of its place.
use Rattle.std.proofs.Common.{◌≡◌, ℕ, ◌+◌, ◌≤◌, ℤ, pos, Bool, true, false, List, [], ◌∷◌, ◌++◌, length, length-append, map, refl, sym, subst, arith}
use Rattle.std.specs.Prelude.{FitsSigned}
use Rattle.std.specs.List.{range_with_len}
use Rattle.std.specs.Int.{w16, w32}
use Rattle.std.proofs.Math.Seq.{get_or-append_seam}
use Rattle.std.proofs.lemmas.Int.{int_wrap_fits}
use Rattle.sat_base.specs.Clip.{low16}
use Rattle.sat_base.specs.declared.width.Width.{Width}
use Rattle.sat_base.specs.declared.width.Width.TheVariants.{W16, W32}
use Rattle.operator_meaning.specs.declared.object.Object.{Object}
use Rattle.operator_meaning.specs.declared.operator.Op.{Op}
use Rattle.operator_meaning.specs.Table.{row_of, arity_of, FitsWidth, FitWidths}
use Rattle.source_runs.specs.declared.location.Given.TheVariants.{Number}
use Rattle.source_runs.specs.Calls.{operand_at, operands_of}
use Rattle.source_runs.specs.State.{SourceState, converted}
use Rattle.rv_encode.specs.State.{MachineState, Running}
use Rattle.code_lines.proofs.Leading.{leads_nowhere}
use Rattle.code_lines.specs.Words.{StandHere, Code}
use Rattle.code_stacks.specs.Places.{Layout, IsLaidOut}
use Rattle.code_stacks.specs.Agreement.{IsWith}
use Rattle.expression_code.specs.Code.{first_width, other_widths, convert_code, narrow_line}
use Rattle.expression_code.proofs.Computing.{Leaves, computed}
use Rattle.expression_code.proofs.Numbers.{low_fits}
use Rattle.expression_code.proofs.Values.{narrows}

abbrev pub placed : List Width → List ℤ → List ℤ
placed widths [] = []
placed widths (x ∷ xs) = converted (first_width widths) x ∷ placed (other_widths widths) xs

-- each has the width of its place
abbrev pub FitPlaces : List Width → List ℤ → Type 0
FitPlaces widths [] = Unit {0}
FitPlaces widths (x ∷ xs) = FitsWidth (first_width widths) (converted (first_width widths) x) × FitPlaces (other_widths widths) xs

pub placed_long : (widths : List Width) (numbers : List ℤ) → length (placed widths numbers) ≡ length numbers
placed_long widths [] = refl
placed_long widths (x ∷ xs) = omega (arith, placed_long (other_widths widths) xs)

pub placed_fit : (widths : List Width) (numbers : List ℤ) → length numbers ≡ length widths → FitPlaces widths numbers → FitWidths widths (placed widths numbers)
placed_fit [] [] same fit = tt
placed_fit [] (x ∷ xs) same fit = absurd (omega arith)
placed_fit (w ∷ ws) [] same fit = absurd (omega arith)
placed_fit (w ∷ ws) (x ∷ xs) same fit = (fit.0, placed_fit ws xs (omega arith) fit.1)

-- the operands that an operator takes of numbers that are given
abbrev taken_by : List Width → List ℤ → List ℤ
taken_by widths numbers = map (λ place. operand_at widths place (map Number numbers)) (range_with_len 0 (length widths))

taken : (widths : List Width) (numbers : List ℤ) → length widths ≤ 3 → length numbers ≡ length widths → taken_by widths numbers ≡ placed widths numbers
taken [] [] few same = refl
taken [] (x ∷ xs) few same = absurd (omega arith)
taken (w ∷ []) [] few same = absurd (omega arith)
taken (w ∷ []) (x ∷ []) few same = refl
taken (w ∷ []) (x ∷ y ∷ ys) few same = absurd (omega arith)
taken (w ∷ v ∷ []) [] few same = absurd (omega arith)
taken (w ∷ v ∷ []) (x ∷ []) few same = absurd (omega arith)
taken (w ∷ v ∷ []) (x ∷ y ∷ []) few same = refl
taken (w ∷ v ∷ []) (x ∷ y ∷ z ∷ zs) few same = absurd (omega arith)
taken (w ∷ v ∷ u ∷ []) [] few same = absurd (omega arith)
taken (w ∷ v ∷ u ∷ []) (x ∷ []) few same = absurd (omega arith)
taken (w ∷ v ∷ u ∷ []) (x ∷ y ∷ []) few same = absurd (omega arith)
taken (w ∷ v ∷ u ∷ []) (x ∷ y ∷ z ∷ []) few same = refl
taken (w ∷ v ∷ u ∷ []) (x ∷ y ∷ z ∷ a ∷ more) few same = absurd (omega arith)
taken (w ∷ v ∷ u ∷ t ∷ ts) numbers few same = absurd (omega arith)

pub operands_placed : (op : Op) (numbers : List ℤ) → arity_of op ≤ 3 → length numbers ≡ arity_of op → operands_of op (map Number numbers) ≡ placed (row_of op).takes numbers
operands_placed op numbers few same = taken (row_of op).takes numbers few same

-- ---- one operand

module _ (code : Code) (objects : List Object) (l : Layout) (laid : IsLaidOut code l) where
  pub top_fits : (k lag : ℕ) (values : List ℤ) (x : ℤ) (s : SourceState) (m : MachineState) → IsWith objects l k lag (values ++ x ∷ []) s m → FitsSigned w32 x
  top_fits k lag values x s m is =
      subst (FitsSigned w32) (get_or-append_seam values x [] (pos 0)) (is.stack (length values) (omega (arith, length-append values (x ∷ [])))).1

  pub convert_done : (k lag : ℕ) (values : List ℤ) (x : ℤ) (width : Width) (shown : Bool) (s : SourceState) (m : MachineState) → (shown ≡ true → FitsSigned w16 x) → length values + 1 ≤ l.depth
      → StandHere code k (convert_code objects l width shown (length values)) → IsWith objects l k lag (values ++ x ∷ []) s m
      → Leaves code objects l (k + length (convert_code objects l width shown (length values))) lag (values ++ converted width x ∷ []) s m × FitsWidth width (converted width x)
  convert_done k lag values x W32 shown s m fits room stands is =
      let none : k ≡ k + 0 = omega arith in
      ((m, leads_nowhere code (Running m), subst (λ n. IsWith objects l n lag (values ++ x ∷ []) s m) none is), top_fits k lag values x s m is)
  convert_done k lag values x W16 true s m fits room stands is =
      let none : k ≡ k + 0 = omega arith in
      let same : x ≡ low16 x = sym (int_wrap_fits w16 x (fits refl)) in
      ((m, leads_nowhere code (Running m), subst (λ y. IsWith objects l (k + 0) lag (values ++ y ∷ []) s m) same (subst (λ n. IsWith objects l n lag (values ++ x ∷ []) s m) none is)), low_fits x)
  convert_done k lag values x W16 false s m fits room stands is = (
    computed code objects l laid k lag values (x ∷ []) (low16 x) (narrow_line (length values)) s m (omega arith) room (omega arith) stands is
        (narrows code objects l laid (length values) s.kept.overflow x (top_fits k lag values x s m is)),
    low_fits x,
  )
