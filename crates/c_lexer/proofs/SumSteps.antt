-- The steps of an evaluation, one for each form of expression.
use Rattle.std.proofs.Common.{◌≡◌, ◌≢◌, ℕ, codes, Bool, true, false, not, if◌then◌else◌, List, [], ◌∷◌, ◌++◌, Option, Some, None, ℤ, pos, neg_ℤ, ◌+ℤ◌, ◌*ℤ◌, refl, sym, ap, ◌∙◌, subst, arith}
use Rattle.std.proofs.lemmas.Int.{ints}
use Rattle.std.proofs.lemmas.Option.{option_and_then_some, same_Some}
use Rattle.std.proofs.lemmas.Bool.{false_from_ne_true}
use Rattle.std.proofs.lemmas.Slice.Eq.{bytes_eq-Decides}
use Rattle.std.proofs.Math.IntN.{neg_ℤ-neg_ℤ}
use Rattle.std.specs.Str.{bytes_eq}
use Rattle.c_lexer.specs.declared.expression.Evaluation.{Evaluation}
use Rattle.c_lexer.specs.declared.expression.Frame.{Frame}
use Rattle.c_lexer.specs.Expression.{◌>>=◌, Part, within, operand_of, first_frame, with_sign, signed_of, product_of, total_of, after_factor, after_term, at_operand, at_mark, closed, after_part, after_parts}
use Rattle.c_lexer.specs.Sum.{Fits}
use Rattle.c_lexer.proofs.Facts.{split_last_snoc}

-- ---- numbers within 32 bits

pub within_of : (v : ℤ) → Fits v → within v ≡ Some v
within_of v h = grind (arith, ints)

pub of_within : (v w : ℤ) → within v ≡ Some w → (w ≡ v) × Fits w
of_within v w h = grind (arith, ints)

pub zero_plus : (v : ℤ) → pos 0 +ℤ v ≡ v
zero_plus v = omega (arith, ints)

pub one_times : (v : ℤ) → pos 1 *ℤ v ≡ v
one_times v = omega (arith, ints)

-- ---- steps in a row

abbrev pub state : List Frame → Frame → Option ℤ → Evaluation
state outer frame value = record { outer = outer; frame = frame; value = value }

abbrev pub Leads : List (List ℕ × ℤ) → Evaluation → List Part → Evaluation → Type 0
Leads names e parts last = after_parts names e parts ≡ Some last

pub leads_on : (names : List (List ℕ × ℤ)) (e next last : Evaluation) (part : Part) (parts : List Part) → after_part names e part ≡ Some next → Leads names next parts last → Leads names e (part ∷ parts) last
leads_on names e next last part parts h k = ap (λ o. o >>= (λ n. after_parts names n parts)) h ∙ k

pub leads_far : (names : List (List ℕ × ℤ)) (e middle last : Evaluation) (ps qs : List Part) → Leads names e ps middle → Leads names middle qs last → Leads names e (ps ++ qs) last
leads_far names e middle last [] qs h k = subst (λ n. Leads names n qs last) (sym (same_Some e middle h)) k
leads_far names e middle last (p ∷ ps) qs h k =
    option_and_then_some (λ n. after_parts names n ps) (after_part names e p) middle h
    (λ next first more. leads_on names e next last p (ps ++ qs) first (leads_far names next middle last ps qs more k))

pub differs : (bytes text : List ℕ) → bytes ≢ text → bytes_eq bytes text ≡ false
differs bytes text h = false_from_ne_true _ (λ e. h ((bytes_eq-Decides bytes text).0 e))

-- ---- where an operand is wanted

module _ (names : List (List ℕ × ℤ)) (outer : List Frame) (f : Frame) (part : Part) where
  pub at_sign : part.bytes ≡ codes "-" → after_part names (state outer f None) part ≡ Some (state outer (with_sign f) None)
  unfolding at_operand
  at_sign is = rw is refl

  pub at_opening : part.bytes ≡ codes "(" → after_part names (state outer f None) part ≡ Some (state (outer ++ f ∷ []) first_frame None)
  unfolding at_operand
  at_opening is = rw is refl

  pub at_value : (v p : ℤ) → part.bytes ≢ codes "(" → part.bytes ≢ codes "-" → operand_of names part ≡ Some v → product_of f v ≡ Some p → after_part names (state outer f None) part ≡ Some (state outer f (Some p))
  unfolding at_operand
  at_value v p no_bracket no_sign valued product =
      let bracket = differs part.bytes (codes "(") no_bracket in
      let sign = differs part.bytes (codes "-") no_sign in
      rw (bracket, sign, valued, product) refl

-- ---- after an operand

module _ (names : List (List ℕ × ℤ)) (outer : List Frame) (f : Frame) (p : ℤ) (part : Part) where
  pub at_times : part.bytes ≡ codes "*" → after_part names (state outer f (Some p)) part ≡ Some (state outer (after_factor f p) None)
  unfolding at_mark
  at_times is = rw is refl

  pub at_plus : (t : ℤ) → part.bytes ≡ codes "+" → total_of f p ≡ Some t → after_part names (state outer f (Some p)) part ≡ Some (state outer (after_term t false) None)
  unfolding at_mark
  at_plus t is total = rw (is, total) refl

  pub at_minus : (t : ℤ) → part.bytes ≡ codes "-" → total_of f p ≡ Some t → after_part names (state outer f (Some p)) part ≡ Some (state outer (after_term t true) None)
  unfolding at_mark
  at_minus t is total = rw (is, total) refl

  pub at_closing : (g : Frame) (t q : ℤ) → part.bytes ≡ codes ")" → total_of f p ≡ Some t → product_of g t ≡ Some q → after_part names (state (outer ++ g ∷ []) f (Some p)) part ≡ Some (state outer g (Some q))
  unfolding at_mark closed
  at_closing g t q is total product = rw (is, total, split_last_snoc outer g, product) refl

-- ---- the value of a factor with its signs

-- signs that are odd in number are some
abbrev pub HasSigns : Frame → Type 0
HasSigns f = f.negated ≡ false → f.negative ≡ false

pub one_sign_more : (f : Frame) (v : ℤ) → HasSigns f → Fits v → Fits (neg_ℤ v) → product_of (with_sign f) v ≡ product_of f (neg_ℤ v)
unfolding product_of signed_of
one_sign_more f v signs fits opposite =
    let first = within_of (neg_ℤ v) opposite in
    let second = within_of v fits in
    rw (neg_ℤ-neg_ℤ, first, second) (by f.negated f.negative signs) where
      by : (negated negative : Bool) → (negated ≡ false → negative ≡ false)
          → within (f.factor *ℤ (if not negative then neg_ℤ v else v))
          ≡ ((if negated then Some (if negative then v else neg_ℤ v) else Some (neg_ℤ v)) >>= (λ signed. within (f.factor *ℤ signed)))
      by true true signs = refl
      by true false signs = refl
      by false true signs = cc (signs refl)
      by false false signs = refl
