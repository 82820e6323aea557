-- Lines that compute what expressions mean.
use Rattle.std.proofs.Common.{◌≡◌, ◌≢◌, ℕ, ◌^◌, ◌<◌, ℤ, pos, Bool, true, false, not, ◌==◌, int_lt, int_le, List, [], ◌∷◌, Some, refl, sym, ◌∙◌, arith}
use Rattle.std.specs.Prelude.{FitsSigned}
use Rattle.std.specs.Int.{w32, cast_signed, cast_unsigned, int_wrapping_add, int_bit_and, int_bit_or, int_bit_xor, int_bit_not}
use Rattle.std.specs.Ordering.{int_eq}
use Rattle.std.proofs.lemmas.Bool.Decides.{nat_tests}
use Rattle.std.proofs.lemmas.Int.{ints}
use Rattle.std.proofs.lemmas.Nat.{and_le_l, or_lt, xor_lt}
use Rattle.sat_base.specs.Clip.{low16}
use Rattle.c_tree.specs.declared.expression.BinaryMark.{BinaryMark}
use Rattle.c_tree.specs.declared.expression.BinaryMark.TheVariants as binary
use Rattle.operator_meaning.specs.declared.object.Object.{Object}
use Rattle.source_runs.specs.Marks.{truth}
use Rattle.code_lines.specs.Own.{Addi}
use Rattle.code_lines.specs.Lines.{File, file_after, is_line, can_be_set}
use Rattle.code_lines.specs.Pieces.{is_near, number_line, number_code}
use Rattle.code_lines.proofs.Pieces.{numbers_are_made}
use Rattle.code_stacks.specs.Places.{Layout, IsLaidOut, stack_register}
use Rattle.code_stacks.specs.Operands.{operand_register}
use Rattle.code_stacks.proofs.Registers.{stack_work, operand_work, work_apart}
use Rattle.expression_code.specs.Code.{narrow_line, not_line, truth_line, invert_line, binary_line}
use Rattle.expression_code.specs.Straight.{is_straight_mark}
use Rattle.expression_code.proofs.Computing.{AreIn, Computes}
use Rattle.expression_code.proofs.Numbers.{zero_test, above_zero, equal_test, unequal_test, turned_test, not_less, narrowed, inverted, low_fits, truth_fits}
use Rattle.code_lines.specs.Words.{Code}

itself : (n : ℕ) → (n == n) ≡ true
itself n = grind (arith, nat_tests)

another : (n rd : ℕ) → n ≢ rd → (n == rd) ≡ false
another n rd other = grind (arith, nat_tests)

settable : (depth : ℕ) → can_be_set (Some (stack_register depth)) ≡ true
settable depth =
    let work = stack_work depth in
    let least = work.least in
    let most = work.most in
    grind (arith, nat_tests)

low_fits_32 : (x : ℤ) → FitsSigned w32 (low16 x)
low_fits_32 x = let fits = low_fits x in grind (arith, ints)

number_lines : (near : Bool) (depth : ℕ) (n : ℤ) → is_line (number_line near (stack_register depth) n) ≡ true
number_lines true depth n = rw (settable depth) refl
number_lines false depth n = rw (settable depth) refl

no_zero : (depth : ℕ) → stack_register depth ≢ 0
no_zero depth = work_apart (stack_register depth) 0 (stack_work depth) refl

-- the value of a straight mark
abbrev pub marked : BinaryMark → ℤ → ℤ → ℤ
marked binary.BitAnd x y = int_bit_and w32 x y
marked binary.BitOr x y = int_bit_or w32 x y
marked binary.BitXor x y = int_bit_xor w32 x y
marked binary.Eq x y = truth (int_eq x y)
marked binary.Ne x y = truth (not (int_eq x y))
marked binary.Lt x y = truth (int_lt x y)
marked binary.Le x y = truth (int_le x y)
marked binary.Gt x y = truth (int_lt y x)
marked binary.Ge x y = truth (int_le y x)
marked mark x y = pos 0

number_others : (near : Bool) (rd : ℕ) (n : ℤ) (f : File) (m : ℕ) → m ≢ rd → file_after (number_line near rd n) f m ≡ f m
number_others true rd n f m apart = rw (another m rd apart) refl
number_others false rd n f m apart = rw (another m rd apart) refl

cast_fits : (n : ℕ) → n < 2 ^ 32 → FitsSigned w32 (cast_signed w32 n)
cast_fits n small = grind (arith, ints)

as_word : (x : ℤ) → FitsSigned w32 x → cast_unsigned w32 x < 2 ^ 32
as_word x fits = grind (arith, ints)

none_added : (x : ℤ) → FitsSigned w32 x → int_wrapping_add w32 x (pos 0) ≡ x
none_added x fits = grind (arith, ints)

not_fits : (x : ℤ) → FitsSigned w32 x → FitsSigned w32 (int_bit_not w32 x)
not_fits x fits = grind (arith, ints)

pub marked_fits : (mark : BinaryMark) (x y : ℤ) → FitsSigned w32 x → FitsSigned w32 y → FitsSigned w32 (marked mark x y)
marked_fits binary.BitAnd x y fits fits2 = cast_fits _ (omega (arith, and_le_l (cast_unsigned w32 x) (cast_unsigned w32 y), as_word x fits))
marked_fits binary.BitOr x y fits fits2 = cast_fits _ (or_lt 32 _ _ (as_word x fits) (as_word y fits2))
marked_fits binary.BitXor x y fits fits2 = cast_fits _ (xor_lt 32 _ _ (as_word x fits) (as_word y fits2))
marked_fits binary.Eq x y fits fits2 = truth_fits (int_eq x y)
marked_fits binary.Ne x y fits fits2 = truth_fits (not (int_eq x y))
marked_fits binary.Lt x y fits fits2 = truth_fits (int_lt x y)
marked_fits binary.Le x y fits fits2 = truth_fits (int_le x y)
marked_fits binary.Gt x y fits fits2 = truth_fits (int_lt y x)
marked_fits binary.Ge x y fits fits2 = truth_fits (int_le y x)
marked_fits mark x y fits fits2 = truth_fits false

module _ (code : Code) (objects : List Object) (l : Layout) (laid : IsLaidOut code l) (depth : ℕ) (overflow : ℤ) where
  abbrev r : ℕ
  r = stack_register depth

  pub makes_number : (n : ℤ) → FitsSigned w32 n → Computes code objects l laid depth [] overflow (number_code r n) n
  makes_number n fits = record {
    sets = number_lines (is_near n) depth n;
    gives = λ f are zero flag. (numbers_are_made r n f (no_zero depth) fits zero).0;
    others = λ f m apart five. number_others (is_near n) r n f m apart;
    fits = fits;
  }

  pub reads_flag : FitsSigned w32 overflow → Computes code objects l laid depth [] overflow (Addi r 27 (pos 0) ∷ []) overflow
  reads_flag fits = record {
    sets = rw (settable depth) refl;
    gives = λ f are zero flag. rw (itself r, flag) (none_added overflow fits);
    others = λ f m apart five. rw (another m r apart) refl;
    fits = fits;
  }

  pub narrows : (x : ℤ) → FitsSigned w32 x → Computes code objects l laid depth (x ∷ []) overflow (narrow_line depth) (low16 x)
  narrows x fits = record {
    sets = rw (settable depth) refl;
    gives = λ f are zero flag. rw (itself r, are 0 (omega arith)) (narrowed x fits);
    others = λ f m apart five. rw (another m r apart) refl;
    fits = low_fits_32 x;
  }

  pub negates : (x : ℤ) → FitsSigned w32 x → Computes code objects l laid depth (x ∷ []) overflow (not_line depth) (truth (int_eq x (pos 0)))
  negates x fits = record {
    sets = rw (settable depth) refl;
    gives = λ f are zero flag. rw (itself r, are 0 (omega arith)) (zero_test x fits);
    others = λ f m apart five. rw (another m r apart) refl;
    fits = truth_fits (int_eq x (pos 0));
  }

  pub tells : (x : ℤ) → FitsSigned w32 x → Computes code objects l laid depth (x ∷ []) overflow (truth_line depth) (truth (not (int_eq x (pos 0))))
  tells x fits = record {
    sets = rw (settable depth) refl;
    gives = λ f are zero flag. rw (itself r, are 0 (omega arith), zero) (above_zero x fits);
    others = λ f m apart five. rw (another m r apart) refl;
    fits = truth_fits (not (int_eq x (pos 0)));
  }

  pub inverts : (x : ℤ) → FitsSigned w32 x → Computes code objects l laid depth (x ∷ []) overflow (invert_line depth) (int_bit_not w32 x)
  inverts x fits = record {
    sets = rw (settable depth) refl;
    gives = λ f are zero flag.
        let apart = another (operand_register depth 0) 5 (work_apart (operand_register depth 0) 5 (operand_work depth 0) refl) in
        rw (itself r, apart, are 0 (omega arith), zero) (inverted x fits);
    others = λ f m apart five. rw (another m r apart, another m 5 five) refl;
    fits = not_fits x fits;
  }

  module _ (x y : ℤ) (fits : FitsSigned w32 x) (fits2 : FitsSigned w32 y) where
    marks : (mark : BinaryMark) → is_straight_mark mark ≡ true → (f : File) → AreIn code objects l laid depth (x ∷ y ∷ []) f → f 0 ≡ pos 0 → file_after (binary_line mark depth) f r ≡ marked mark x y
    marks binary.BitAnd is f are zero = rw (itself r, are 0 (omega arith), are 1 (omega arith)) refl
    marks binary.BitOr is f are zero = rw (itself r, are 0 (omega arith), are 1 (omega arith)) refl
    marks binary.BitXor is f are zero = rw (itself r, are 0 (omega arith), are 1 (omega arith)) refl
    marks binary.Eq is f are zero = rw (itself r, are 0 (omega arith), are 1 (omega arith)) (equal_test x y fits fits2)
    marks binary.Ne is f are zero = rw (itself r, another 0 r (λ e. no_zero depth (sym e)), are 0 (omega arith), are 1 (omega arith), zero) (unequal_test x y fits fits2)
    marks binary.Lt is f are zero = rw (itself r, are 0 (omega arith), are 1 (omega arith)) refl
    marks binary.Le is f are zero = rw (itself r, are 0 (omega arith), are 1 (omega arith)) (turned_test (int_lt y x) ∙ not_less x y)
    marks binary.Gt is f are zero = rw (itself r, are 0 (omega arith), are 1 (omega arith)) refl
    marks binary.Ge is f are zero = rw (itself r, are 0 (omega arith), are 1 (omega arith)) (turned_test (int_lt x y) ∙ not_less y x)
    marks mark is f are zero = let e = is in cc

    mark_lines : (mark : BinaryMark) → is_straight_mark mark ≡ true → is_line (binary_line mark depth) ≡ true
    mark_lines binary.BitAnd is = rw (settable depth) refl
    mark_lines binary.BitOr is = rw (settable depth) refl
    mark_lines binary.BitXor is = rw (settable depth) refl
    mark_lines binary.Eq is = rw (settable depth) refl
    mark_lines binary.Ne is = rw (settable depth) refl
    mark_lines binary.Lt is = rw (settable depth) refl
    mark_lines binary.Le is = rw (settable depth) refl
    mark_lines binary.Gt is = rw (settable depth) refl
    mark_lines binary.Ge is = rw (settable depth) refl
    mark_lines mark is = let e = is in cc

    mark_others : (mark : BinaryMark) → is_straight_mark mark ≡ true → (f : File) (m : ℕ) → m ≢ r → file_after (binary_line mark depth) f m ≡ f m
    mark_others binary.BitAnd is f m apart = rw (another m r apart) refl
    mark_others binary.BitOr is f m apart = rw (another m r apart) refl
    mark_others binary.BitXor is f m apart = rw (another m r apart) refl
    mark_others binary.Eq is f m apart = rw (another m r apart) refl
    mark_others binary.Ne is f m apart = rw (another m r apart) refl
    mark_others binary.Lt is f m apart = rw (another m r apart) refl
    mark_others binary.Le is f m apart = rw (another m r apart) refl
    mark_others binary.Gt is f m apart = rw (another m r apart) refl
    mark_others binary.Ge is f m apart = rw (another m r apart) refl
    mark_others mark is f m apart = let e = is in cc

    pub marks_two : (mark : BinaryMark) → is_straight_mark mark ≡ true → Computes code objects l laid depth (x ∷ y ∷ []) overflow (binary_line mark depth) (marked mark x y)
    marks_two mark is = record {
      sets = mark_lines mark is;
      gives = λ f are zero flag. marks mark is f are zero;
      others = λ f m apart five. mark_others mark is f m apart;
      fits = marked_fits mark x y fits fits2;
    }
