-- Parts that spell a sum are read to its value.
use Rattle.std.proofs.Common.{◌≡◌, ℕ, Bool, true, false, List, [], ◌∷◌, ◌++◌, Some, None, ℤ, codes, pos, ◌+ℤ◌, ◌-ℤ◌, ◌*ℤ◌, refl, ◌∙◌}
use Rattle.std.proofs.lemmas.Option.{option_and_then_some}
use Rattle.c_lexer.specs.declared.expression.Frame.{Frame}
use Rattle.c_lexer.specs.Expression.{Part, within, operand_by, first_frame, with_sign, signed_of, product_of, total_of, after_factor, after_term, after_part, final_value, expression_value}
use Rattle.c_lexer.specs.Sum.{Fits, IsSum, IsProduct, IsUnary, Product, Plus, Minus, Unary, Times, Operand, Opposite, Brackets}
use Rattle.c_lexer.proofs.SumSteps.{within_of, of_within, zero_plus, one_times, state, Leads, leads_on, leads_far, at_sign, at_opening, at_value, at_times, at_plus, at_minus, at_closing, HasSigns, one_sign_more}

module _ (names : List (List ℕ × ℤ)) where
  -- ---- each value lies within 32 bits

  mutual
    pub sum_fits : (ps : List Part) (v : ℤ) → IsSum names ps v → Fits v
    sum_fits ps v (Product p) = product_fits _ _ p
    sum_fits ps v (Plus s mark is p fits) = fits
    sum_fits ps v (Minus s mark is p fits) = fits

    pub product_fits : (ps : List Part) (v : ℤ) → IsProduct names ps v → Fits v
    product_fits ps v (Unary u) = unary_fits _ _ u
    product_fits ps v (Times p mark is u fits) = fits

    pub unary_fits : (ps : List Part) (v : ℤ) → IsUnary names ps v → Fits v
    unary_fits ps v (Operand part no_bracket no_sign valued) = option_and_then_some within (operand_by names part.bytes part.kind) v valued (λ w e h. (of_within w v h).1)
    unary_fits ps v (Opposite mark is u fits) = fits
    unary_fits ps v (Brackets opening opens s closing closes) = sum_fits _ _ s

  -- ---- how an evaluation stands after a unary expression, a product and a sum

  abbrev framed : ℤ → Bool → ℤ → Bool → Bool → Frame
  framed sum subtracts factor negated negative = record { sum = sum; subtracts = subtracts; factor = factor; negated = negated; negative = negative }

  -- p is the product up to the unary expression, whose own signs the frame has too
  record ReadsUnary (outer : List Frame) (f : Frame) (ps : List Part) (p : ℤ) : Type 0 where
    negated : Bool
    negative : Bool
    leads : Leads names (state outer f None) ps (state outer (framed f.sum f.subtracts f.factor negated negative) (Some p))

  record ReadsProduct (outer : List Frame) (sum : ℤ) (subtracts : Bool) (ps : List Part) (v : ℤ) : Type 0 where
    factor : ℤ
    negated : Bool
    negative : Bool
    leads : Leads names (state outer (after_term sum subtracts) None) ps (state outer (framed sum subtracts factor negated negative) (Some v))

  record ReadsSum (outer : List Frame) (ps : List Part) (v : ℤ) : Type 0 where
    frame : Frame
    product : ℤ
    leads : Leads names (state outer first_frame None) ps (state outer frame (Some product))
    total : total_of frame product ≡ Some v

  -- ---- products and sums in their frames

  first_product : (sum : ℤ) (subtracts : Bool) (v : ℤ) → Fits v → product_of (after_term sum subtracts) v ≡ Some v
  unfolding product_of signed_of
  first_product sum subtracts v fits = rw one_times (within_of v fits)

  next_product : (f : Frame) (v w : ℤ) → Fits (v *ℤ w) → product_of (after_factor f v) w ≡ Some (v *ℤ w)
  unfolding product_of signed_of
  next_product f v w fits = within_of (v *ℤ w) fits

  first_total : (v factor : ℤ) (negated negative : Bool) → Fits v → total_of (framed (pos 0) false factor negated negative) v ≡ Some v
  unfolding total_of
  first_total v factor negated negative fits = rw zero_plus (within_of v fits)

  sum_total : (v w factor : ℤ) (negated negative : Bool) → Fits (v +ℤ w) → total_of (framed v false factor negated negative) w ≡ Some (v +ℤ w)
  unfolding total_of
  sum_total v w factor negated negative fits = within_of (v +ℤ w) fits

  difference_total : (v w factor : ℤ) (negated negative : Bool) → Fits (v -ℤ w) → total_of (framed v true factor negated negative) w ≡ Some (v -ℤ w)
  unfolding total_of
  difference_total v w factor negated negative fits = within_of (v -ℤ w) fits

  -- ---- by the cases

  one_product : (ps : List Part) (v : ℤ) → Fits v → (outer : List Frame) → ReadsProduct outer (pos 0) false ps v → ReadsSum outer ps v
  one_product ps v fits outer r =
      record { frame = framed (pos 0) false r.factor r.negated r.negative; product = v; leads = r.leads; total = first_total v r.factor r.negated r.negative fits }

  plus : (ps qs : List Part) (v w : ℤ) (mark : Part) → mark.bytes ≡ codes "+" → Fits (v +ℤ w) → (outer : List Frame)
      → ReadsSum outer ps v → ReadsProduct outer v false qs w → ReadsSum outer (ps ++ mark ∷ qs) (v +ℤ w)
  plus ps qs v w mark is fits outer s p =
      let first = state outer first_frame None in
      let middle = state outer s.frame (Some s.product) in
      let next = state outer (after_term v false) None in
      let frame = framed v false p.factor p.negated p.negative in
      let last = state outer frame (Some w) in
      record {
        frame = frame;
        product = w;
        leads = leads_far names first middle last ps (mark ∷ qs) s.leads (leads_on names middle next last mark qs (at_plus names outer s.frame s.product mark v is s.total) p.leads);
        total = sum_total v w p.factor p.negated p.negative fits;
      }

  minus : (ps qs : List Part) (v w : ℤ) (mark : Part) → mark.bytes ≡ codes "-" → Fits (v -ℤ w) → (outer : List Frame)
      → ReadsSum outer ps v → ReadsProduct outer v true qs w → ReadsSum outer (ps ++ mark ∷ qs) (v -ℤ w)
  minus ps qs v w mark is fits outer s p =
      let first = state outer first_frame None in
      let middle = state outer s.frame (Some s.product) in
      let next = state outer (after_term v true) None in
      let frame = framed v true p.factor p.negated p.negative in
      let last = state outer frame (Some w) in
      record {
        frame = frame;
        product = w;
        leads = leads_far names first middle last ps (mark ∷ qs) s.leads (leads_on names middle next last mark qs (at_minus names outer s.frame s.product mark v is s.total) p.leads);
        total = difference_total v w p.factor p.negated p.negative fits;
      }

  one_unary : (ps : List Part) (v : ℤ) (outer : List Frame) (sum : ℤ) (subtracts : Bool) → ReadsUnary outer (after_term sum subtracts) ps v → ReadsProduct outer sum subtracts ps v
  one_unary ps v outer sum subtracts r = record { factor = pos 1; negated = r.negated; negative = r.negative; leads = r.leads }

  times : (ps qs : List Part) (v w : ℤ) (mark : Part) → mark.bytes ≡ codes "*" → (outer : List Frame) (sum : ℤ) (subtracts : Bool)
      → ReadsProduct outer sum subtracts ps v → ReadsUnary outer (framed sum subtracts v false false) qs (v *ℤ w) → ReadsProduct outer sum subtracts (ps ++ mark ∷ qs) (v *ℤ w)
  times ps qs v w mark is outer sum subtracts p u =
      let first = state outer (after_term sum subtracts) None in
      let frame = framed sum subtracts p.factor p.negated p.negative in
      let middle = state outer frame (Some v) in
      let next = state outer (framed sum subtracts v false false) None in
      let last = state outer (framed sum subtracts v u.negated u.negative) (Some (v *ℤ w)) in
      record {
        factor = v;
        negated = u.negated;
        negative = u.negative;
        leads = leads_far names first middle last ps (mark ∷ qs) p.leads (leads_on names middle next last mark qs (at_times names outer frame v mark is) u.leads);
      }

  opposite : (ps : List Part) (p : ℤ) (mark : Part) → mark.bytes ≡ codes "-" → (outer : List Frame) (f : Frame) → ReadsUnary outer (with_sign f) ps p → ReadsUnary outer f (mark ∷ ps) p
  opposite ps p mark is outer f u =
      let next = state outer (with_sign f) None in
      let last = state outer (framed f.sum f.subtracts f.factor u.negated u.negative) (Some p) in
      record { negated = u.negated; negative = u.negative; leads = leads_on names (state outer f None) next last mark ps (at_sign names outer f mark is) u.leads }

  brackets : (ps : List Part) (v p : ℤ) (opening closing : Part) → opening.bytes ≡ codes "(" → closing.bytes ≡ codes ")" → (outer : List Frame) (f : Frame) → product_of f v ≡ Some p
      → ReadsSum (outer ++ f ∷ []) ps v → ReadsUnary outer f (opening ∷ (ps ++ closing ∷ [])) p
  brackets ps v p opening closing opens closes outer f product s =
      let first = state outer f None in
      let inside = state (outer ++ f ∷ []) first_frame None in
      let middle = state (outer ++ f ∷ []) s.frame (Some s.product) in
      let last = state outer f (Some p) in
      let end = leads_on names middle last last closing [] (at_closing names outer s.frame s.product closing f v p closes s.total product) refl in
      record {
        negated = f.negated;
        negative = f.negative;
        leads = leads_on names first inside last opening (ps ++ closing ∷ []) (at_opening names outer f opening opens) (leads_far names inside middle last ps (closing ∷ []) s.leads end);
      }

  operand : (part : Part) (v p : ℤ) (outer : List Frame) (f : Frame) → after_part names (state outer f None) part ≡ Some (state outer f (Some p)) → ReadsUnary outer f (part ∷ []) p
  operand part v p outer f step =
      let last = state outer f (Some p) in
      record { negated = f.negated; negative = f.negative; leads = leads_on names (state outer f None) last last part [] step refl }

  mutual
    reads_sum : (ps : List Part) (v : ℤ) → IsSum names ps v → (outer : List Frame) → ReadsSum outer ps v
    reads_sum ps v (Product p) outer = one_product ps v (product_fits ps v p) outer (reads_product _ _ p outer (pos 0) false)
    reads_sum ps v (Plus {v = a} s mark is p fits) outer = plus _ _ a _ mark is fits outer (reads_sum _ _ s outer) (reads_product _ _ p outer a false)
    reads_sum ps v (Minus {v = a} s mark is p fits) outer = minus _ _ a _ mark is fits outer (reads_sum _ _ s outer) (reads_product _ _ p outer a true)

    reads_product : (ps : List Part) (v : ℤ) → IsProduct names ps v → (outer : List Frame) (sum : ℤ) (subtracts : Bool) → ReadsProduct outer sum subtracts ps v
    reads_product ps v (Unary u) outer sum subtracts =
        let first = first_product sum subtracts v (unary_fits ps v u) in
        one_unary ps v outer sum subtracts (reads_unary _ _ u outer (after_term sum subtracts) v (λ e. refl) first)
    reads_product ps v (Times {v = a} {w = b} p mark is u fits) outer sum subtracts =
        let frame = framed sum subtracts a false false in
        times _ _ a b mark is outer sum subtracts (reads_product _ _ p outer sum subtracts) (reads_unary _ _ u outer frame (a *ℤ b) (λ e. refl) (next_product frame a b fits))

    reads_unary : (ps : List Part) (v : ℤ) → IsUnary names ps v → (outer : List Frame) (f : Frame) (p : ℤ) → HasSigns f → product_of f v ≡ Some p → ReadsUnary outer f ps p
    reads_unary ps v (Operand part no_bracket no_sign valued) outer f p signs product =
        operand part v p outer f (at_value names outer f part v p no_bracket no_sign valued product)
    reads_unary ps v (Opposite {v = a} mark is u fits) outer f p signs product =
        let same = one_sign_more f a signs (unary_fits _ _ u) fits in
        opposite _ p mark is outer f (reads_unary _ _ u outer (with_sign f) p (λ e. cc e) (same ∙ product))
    reads_unary ps v (Brackets opening opens s closing closes) outer f p signs product =
        brackets _ v p opening closing opens closes outer f product (reads_sum _ _ s (outer ++ f ∷ []))

  pub sum_is_read : (ps : List Part) (v : ℤ) → IsSum names ps v → expression_value names ps ≡ Some v
  unfolding final_value
  sum_is_read ps v s =
      let r = reads_sum ps v s [] in
      rw (r.leads, r.total) refl
