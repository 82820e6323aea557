-- Plain arithmetic: a site stops where its value has not 32 bits.
use Rattle.std.proofs.Common.{◌≡◌, ℕ, ◌+◌, ◌≤◌, ℤ, ◌+ℤ◌, ◌-ℤ◌, ◌*ℤ◌, true, ◌&&◌, List, [], ◌∷◌, ◌++◌, length, length-append, append_assoc, append-nil, refl, sym, ap, ◌∙◌, subst, arith}
use Rattle.std.specs.Prelude.{FitsSigned, take, neg_ℤ}
use Rattle.std.specs.Int.{w32}
use Rattle.sat_base.specs.declared.width.Width.TheVariants.{W32}
use Rattle.operator_meaning.specs.declared.site.SiteKind.{SiteKind}
use Rattle.operator_meaning.specs.declared.site.SiteKind.TheVariants as kind
use Rattle.operator_meaning.specs.declared.site.Form.TheVariants.{Plain}
use Rattle.operator_meaning.specs.Table.{FitWidths}
use Rattle.operator_lowering.specs.Sites.{of_32_bits}
use Rattle.source_runs.specs.Marks.{within, plain}
use Rattle.source_runs.specs.Runs.{at_site, ◌>>=◌}
use Rattle.typed_meaning.specs.Expressions.{Setting, Called}
use Rattle.ir_arena.specs.Tree.{IrTree, end, more}
use Rattle.tree_meaning.specs.Trees.{value_meaning}
use Rattle.code_lines.specs.declared.word.Word.{Word}
use Rattle.code_lines.specs.Words.{StandHere, Code}
use Rattle.rv_encode.specs.State.{Running}
use Rattle.code_runs.specs.Doing.{Bond, Does}
use Rattle.code_runs.proofs.Parts.{in_turn}
use Rattle.code_stacks.specs.Places.{Layout, IsLaidOut}
use Rattle.code_stacks.specs.Agreement.{IsWith, With}
use Rattle.code_stacks.proofs.Operands.{first_stands, second_stands}
use Rattle.expression_code.specs.Code.{around, expression_code, weight_of, weights_of, template_code}
use Rattle.expression_code.specs.Laws.{AreScalars}
use Rattle.expression_code.specs.Straight.{is_straight, are_straight, heights_of}
use Rattle.expression_code.proofs.Operators.{plain_done, IsPlain}
use Rattle.expression_code.proofs.Placing.{top_fits}
use Rattle.expression_code.proofs.Leaves.{both_true, some_height, Valued, DoesExpression}
use Rattle.expression_code.proofs.Pairs.{comes_as, pair_does}
use Rattle.expression_code.proofs.Sites.{IsTold}

module _ (code : Code) (turns : ℕ) (l : Layout) (laid : IsLaidOut code l) (here : Setting) (called : Called) (scalars : AreScalars here.objects l) where
  abbrev At : (k lag : ℕ) → List ℤ → Bond
  At k lag values = With here.objects l k lag values

  abbrev code_of : IrTree → ℕ → List Word
  code_of e depth = expression_code here.objects l e depth

  -- ---- plain arithmetic

  tidy_two : (xs ys zs : List Word) → ((xs ++ []) ++ ((ys ++ []) ++ [])) ++ zs ≡ xs ++ (ys ++ zs)
  tidy_two xs ys zs =
      ap (λ v. (v ++ ((ys ++ []) ++ [])) ++ zs) (append-nil xs) ∙ ap (λ v. (xs ++ v) ++ zs) (append-nil (ys ++ []) ∙ append-nil ys) ∙ append_assoc xs ys zs

  tidy_one : (xs zs : List Word) → ((xs ++ []) ++ []) ++ zs ≡ xs ++ zs
  tidy_one xs zs = ap (λ v. v ++ zs) (append-nil (xs ++ []) ∙ append-nil xs)

  module _ (kind : SiteKind) (site : ℕ) where
    abbrev words : (depth count : ℕ) → List Word
    words depth count = around l depth count (template_code kind Plain site depth count)

    -- two operands, and a site that stops where their value has not 32 bits
    pub two_plain : (left right : IrTree) → DoesExpression code turns l laid here called scalars left → DoesExpression code turns l laid here called scalars right → (f : ℤ → ℤ → ℤ) → ((x y : ℤ) → FitsSigned w32 x → FitsSigned w32 y → IsPlain code turns here.objects l laid kind (x ∷ y ∷ []) (f x y)) → ((depth : ℕ) → IsTold code kind Plain site depth 2)
        → (k lag : ℕ) (values : List ℤ) (P : ℤ → Type 0) → ((y : ℤ) → P y) → are_straight l (more left (more right end)) ≡ true → length values + heights_of (more left (more right end)) ≤ l.depth
        → StandHere code k (((code_of left (length values) ++ []) ++ ((code_of right (length values + 1) ++ []) ++ [])) ++ words (length values) 2)
        → Does code turns (At k lag values) (value_meaning here called left >>= (λ x. value_meaning here called right >>= (λ y. at_site site (within (f x y)))))
        (λ y s m. IsWith here.objects l (k + length (((code_of left (length values) ++ []) ++ ((code_of right (length values + 1) ++ []) ++ [])) ++ words (length values) 2)) (lag + (weights_of (more left (more right end)) + 0)) (values ++ y ∷ []) s m × P y)
    two_plain left right does does_right f plain are_told k lag values P holds straight room stands =
        let parts = both_true (is_straight l left) (is_straight l right && true) straight in
        let parts2 = both_true (is_straight l right) true parts.1 in
        let depth = length values in
        let xs = code_of left depth in
        let ys = code_of right (depth + 1) in
        let zs = words depth 2 in
        let tidy = tidy_two xs ys zs in
        let place = k + length (((xs ++ []) ++ ((ys ++ []) ++ [])) ++ zs) in
        let whole : k + length xs + length ys + length zs ≡ place = omega (arith, ap length tidy, length-append xs (ys ++ zs), length-append ys zs) in
        let late : lag + weight_of left + weight_of right ≡ lag + (weights_of (more left (more right end)) + 0) = omega arith in
        let some = some_height right in
        pair_does code turns l laid here called scalars left right does does_right k lag values (λ x y. at_site site (within (f x y))) zs _ parts.0 parts2.0 (omega arith) (omega arith) (subst (StandHere code k) tidy stands)
        (λ x y s m fits fits2 standing at.
        comes_as code turns l laid here called scalars (Running m) s.sites _ _ (at_site site (within (f x y)) s)
        (λ v t n done. (subst (λ g. IsWith here.objects l place g (values ++ v ∷ []) t n) late (subst (λ e. IsWith here.objects l e (lag + weight_of left + weight_of right) (values ++ v ∷ []) t n) whole done.0), holds v))
        (plain_done code turns here.objects l laid (k + length xs + length ys) (lag + weight_of left + weight_of right) values (x ∷ y ∷ []) kind site (f x y) s m (plain x y fits fits2) (omega arith) (omega (arith, some)) (omega (arith, some)) (are_told (length values)) standing at))

    -- one operand
    pub one_plain : (part : IrTree) → DoesExpression code turns l laid here called scalars part → (f : ℤ → ℤ) → ((x : ℤ) → FitsSigned w32 x → IsPlain code turns here.objects l laid kind (x ∷ []) (f x)) → ((depth : ℕ) → IsTold code kind Plain site depth 1)
        → (k lag : ℕ) (values : List ℤ) (P : ℤ → Type 0) → ((y : ℤ) → P y) → are_straight l (more part end) ≡ true → length values + heights_of (more part end) ≤ l.depth
        → StandHere code k (((code_of part (length values) ++ []) ++ []) ++ words (length values) 1)
        → Does code turns (At k lag values) (value_meaning here called part >>= (λ x. at_site site (within (f x))))
        (λ y s m. IsWith here.objects l (k + length (((code_of part (length values) ++ []) ++ []) ++ words (length values) 1)) (lag + (weights_of (more part end) + 0)) (values ++ y ∷ []) s m × P y)
    one_plain part does f plain are_told k lag values P holds straight room stands =
        let parts = both_true (is_straight l part) true straight in
        let depth = length values in
        let xs = code_of part depth in
        let zs = words depth 1 in
        let tidy = tidy_one xs zs in
        let standing : StandHere code k (xs ++ zs) = subst (StandHere code k) tidy stands in
        let place = k + length (((xs ++ []) ++ []) ++ zs) in
        let whole : k + length xs + length zs ≡ place = omega (arith, ap length tidy, length-append xs zs) in
        let late : lag + weight_of part ≡ lag + (weights_of (more part end) + 0) = omega arith in
        let some = some_height part in
        in_turn code turns (At k lag values) (value_meaning here called part) (Valued code turns l laid here called scalars (k + length xs) (lag + weight_of part) values part) (λ x. at_site site (within (f x))) _
        (does k lag values parts.0 (omega arith) (first_stands code k xs zs standing))
        (λ x s m valued.
        let fits = top_fits code here.objects l laid (k + length xs) (lag + weight_of part) values x s m valued.0 in
        comes_as code turns l laid here called scalars (Running m) s.sites _ _ (at_site site (within (f x)) s)
        (λ v t n done. (subst (λ g. IsWith here.objects l place g (values ++ v ∷ []) t n) late (subst (λ e. IsWith here.objects l e (lag + weight_of part) (values ++ v ∷ []) t n) whole done.0), holds v))
        (plain_done code turns here.objects l laid (k + length xs) (lag + weight_of part) values (x ∷ []) kind site (f x) s m (plain x fits) (omega arith) (omega (arith, some)) (omega (arith, some)) (are_told (length values)) (second_stands code k xs zs standing) valued.0))

  -- two registers hold two numbers
  two_same : (a b c x y : ℤ) → take 2 (a ∷ b ∷ c ∷ []) ≡ x ∷ y ∷ [] → (a ≡ x) × (b ≡ y)
  two_same a b c x y same = let e : a ∷ b ∷ [] ≡ x ∷ y ∷ [] = same in (cc, cc)

  two_fit : (a b c x y : ℤ) → FitsSigned w32 x → FitsSigned w32 y → take 2 (a ∷ b ∷ c ∷ []) ≡ x ∷ y ∷ [] → FitWidths (W32 ∷ W32 ∷ []) (take 2 (a ∷ b ∷ c ∷ []))
  two_fit a b c x y fits fits2 same = subst (FitWidths (W32 ∷ W32 ∷ [])) (sym same) (fits, (fits2, tt))

  pub sum_plain : (x y : ℤ) → FitsSigned w32 x → FitsSigned w32 y → IsPlain code turns here.objects l laid kind.Sum (x ∷ y ∷ []) (x +ℤ y)
  sum_plain x y fits fits2 = record {
    operands = λ a b c same. two_fit a b c x y fits fits2 same;
    unclipped = λ a b c. refl;
    value = λ a b c input same. let e = two_same a b c x y same in ap (λ v. of_32_bits (v +ℤ b)) e.0 ∙ ap (λ v. of_32_bits (x +ℤ v)) e.1;
    raised = λ a b c. refl;
    calls = refl;
    samples = λ input. refl;
    form_is = refl;
  }

  pub difference_plain : (x y : ℤ) → FitsSigned w32 x → FitsSigned w32 y → IsPlain code turns here.objects l laid kind.Difference (x ∷ y ∷ []) (x -ℤ y)
  difference_plain x y fits fits2 = record {
    operands = λ a b c same. two_fit a b c x y fits fits2 same;
    unclipped = λ a b c. refl;
    value = λ a b c input same. let e = two_same a b c x y same in ap (λ v. of_32_bits (v -ℤ b)) e.0 ∙ ap (λ v. of_32_bits (x -ℤ v)) e.1;
    raised = λ a b c. refl;
    calls = refl;
    samples = λ input. refl;
    form_is = refl;
  }

  pub product_plain : (x y : ℤ) → FitsSigned w32 x → FitsSigned w32 y → IsPlain code turns here.objects l laid kind.Product (x ∷ y ∷ []) (x *ℤ y)
  product_plain x y fits fits2 = record {
    operands = λ a b c same. two_fit a b c x y fits fits2 same;
    unclipped = λ a b c. refl;
    value = λ a b c input same. let e = two_same a b c x y same in ap (λ v. of_32_bits (v *ℤ b)) e.0 ∙ ap (λ v. of_32_bits (x *ℤ v)) e.1;
    raised = λ a b c. refl;
    calls = refl;
    samples = λ input. refl;
    form_is = refl;
  }

  pub opposite_plain : (x : ℤ) → FitsSigned w32 x → IsPlain code turns here.objects l laid kind.Opposite (x ∷ []) (neg_ℤ x)
  opposite_plain x fits = record {
    operands = λ a b c same. subst (FitWidths (W32 ∷ [])) (sym same) (fits, tt);
    unclipped = λ a b c. refl;
    value = λ a b c input same. let e : a ∷ [] ≡ x ∷ [] = same in let f : a ≡ x = cc in ap (λ v. of_32_bits (neg_ℤ v)) f;
    raised = λ a b c. refl;
    calls = refl;
    samples = λ input. refl;
    form_is = refl;
  }
