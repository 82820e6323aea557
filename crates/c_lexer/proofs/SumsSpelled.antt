-- Parts that are read to a value spell a sum with it.
use Rattle.std.proofs.Common.{◌≡◌, ◌≢◌, ◌==◌, ℕ, Bool, true, false, if◌then◌else◌, ◌⊎◌, inl, inr, List, [], ◌∷◌, ◌++◌, length, codes, Option, Some, None, ℤ, pos, neg_ℤ, ◌+ℤ◌, ◌-ℤ◌, ◌*ℤ◌, refl, sym, ap, ◌∙◌, subst, append_assoc, append-nil, arith}
use Rattle.std.proofs.lemmas.Bool.{cases_Bool, true≢false}
use Rattle.std.proofs.lemmas.Bool.Decides.{nat_tests}
use Rattle.std.proofs.lemmas.Option.{option_and_then_some, none-some, same_Some}
use Rattle.std.proofs.lemmas.Slice.Eq.{bytes_eq-Decides}
use Rattle.std.specs.Str.{bytes_eq}
use Rattle.c_lexer.specs.declared.expression.Evaluation.{Evaluation}
use Rattle.c_lexer.specs.declared.expression.Frame.{Frame}
use Rattle.c_lexer.specs.Expression.{◌>>=◌, Part, within, operand_of, first_frame, with_sign, signed_of, product_of, total_of, after_factor, after_term, split_last, at_operand, at_mark, closed, after_part, after_parts, first_evaluation, final_value, expression_value}
use Rattle.c_lexer.specs.Sum.{Fits, IsSum, IsProduct, IsUnary, Product, Plus, Minus, Unary, Times, Operand, Opposite, Brackets}
use Rattle.c_lexer.proofs.Facts.{split_last_snoc}
use Rattle.c_lexer.proofs.SumSteps.{of_within, zero_plus, one_times, state, at_sign, at_opening, at_times, HasSigns, one_sign_more}
use Rattle.c_lexer.proofs.SumsRead.{unary_fits}

module _ (names : List (List ℕ × ℤ)) where
  -- ---- what the parts spell that were read inside the innermost brackets

  -- before an operand: terms, and then factors and signs
  record IsBefore (f : Frame) (ps : List Part) : Type 0 where
    terms : List Part
    factors : List Part
    spelled : ps ≡ terms ++ factors
    signs : HasSigns f
    sums : (qs : List Part) (v t : ℤ) → IsProduct names qs v → total_of f v ≡ Some t → IsSum names (terms ++ qs) t
    products : (qs : List Part) (v p : ℤ) → IsUnary names qs v → product_of f v ≡ Some p → IsProduct names (factors ++ qs) p

  -- after an operand: terms, and then a product
  record IsAfter (f : Frame) (p : ℤ) (ps : List Part) : Type 0 where
    terms : List Part
    factors : List Part
    spelled : ps ≡ terms ++ factors
    product : IsProduct names factors p
    sums : (qs : List Part) (v t : ℤ) → IsProduct names qs v → total_of f v ≡ Some t → IsSum names (terms ++ qs) t

  abbrev IsInside : Frame → Option ℤ → List Part → Type 0
  IsInside f None ps = IsBefore f ps
  IsInside f (Some p) ps = IsAfter f p ps

  -- before a first factor
  before_factor : (sum : ℤ) (subtracts : Bool) (terms : List Part)
      → ((qs : List Part) (v t : ℤ) → IsProduct names qs v → total_of (after_term sum subtracts) v ≡ Some t → IsSum names (terms ++ qs) t) → IsBefore (after_term sum subtracts) terms
  unfolding product_of signed_of
  before_factor sum subtracts terms sums =
      record {
        terms = terms;
        factors = [];
        spelled = sym (append-nil terms);
        signs = λ e. refl;
        sums = sums;
        products = λ qs v p u h. subst (IsProduct names qs) (sym ((of_within _ p h).0 ∙ one_times v)) (Unary u);
      }

  before_all : IsBefore first_frame []
  unfolding total_of
  before_all = before_factor (pos 0) false [] (λ qs v t p h. subst (IsSum names qs) (sym ((of_within _ t h).0 ∙ zero_plus v)) (Product p))

  after_plus : (ps : List Part) (sum : ℤ) (part : Part) → part.bytes ≡ codes "+" → IsSum names ps sum → IsBefore (after_term sum false) (ps ++ part ∷ [])
  unfolding total_of
  after_plus ps sum part is s =
      before_factor sum false (ps ++ part ∷ []) (λ qs v t p h.
      let found = of_within (sum +ℤ v) t h in
      let fits = subst Fits found.0 found.1 in
      rw (append_assoc ps (part ∷ []) qs) (subst (IsSum names (ps ++ part ∷ qs)) (sym found.0) (Plus s part is p fits)))

  after_minus : (ps : List Part) (sum : ℤ) (part : Part) → part.bytes ≡ codes "-" → IsSum names ps sum → IsBefore (after_term sum true) (ps ++ part ∷ [])
  unfolding total_of
  after_minus ps sum part is s =
      before_factor sum true (ps ++ part ∷ []) (λ qs v t p h.
      let found = of_within (sum -ℤ v) t h in
      let fits = subst Fits found.0 found.1 in
      rw (append_assoc ps (part ∷ []) qs) (subst (IsSum names (ps ++ part ∷ qs)) (sym found.0) (Minus s part is p fits)))

  opposite_fits : (f : Frame) (v p : ℤ) → product_of (with_sign f) v ≡ Some p → Fits (neg_ℤ v)
  unfolding product_of signed_of
  opposite_fits f v p h =
      let sign = λ (n : ℤ). Some (if (with_sign f).negative then n else v) in
      option_and_then_some (λ signed. within (f.factor *ℤ signed)) (within (neg_ℤ v) >>= sign) p h
      (λ signed e _. option_and_then_some sign (within (neg_ℤ v)) signed e (λ n opposite _. let found = of_within (neg_ℤ v) n opposite in subst Fits found.0 found.1))

  after_sign : (f : Frame) (ps : List Part) (part : Part) → part.bytes ≡ codes "-" → IsBefore f ps → IsBefore (with_sign f) (ps ++ part ∷ [])
  unfolding total_of
  after_sign f ps part is b =
      record {
        terms = b.terms;
        factors = b.factors ++ part ∷ [];
        spelled = ap (λ xs. xs ++ part ∷ []) b.spelled ∙ append_assoc b.terms b.factors (part ∷ []);
        signs = λ e. cc e;
        sums = b.sums;
        products = λ qs v p u h.
            let opposite = opposite_fits f v p h in
            let same = one_sign_more f v b.signs (unary_fits names qs v u) opposite in
            rw (append_assoc b.factors (part ∷ []) qs) (b.products (part ∷ qs) (neg_ℤ v) p (Opposite part is u opposite) (sym same ∙ h));
      }

  after_times : (f : Frame) (p : ℤ) (ps : List Part) (part : Part) → part.bytes ≡ codes "*" → IsAfter f p ps → IsBefore (after_factor f p) (ps ++ part ∷ [])
  unfolding total_of product_of signed_of
  after_times f p ps part is a =
      record {
        terms = a.terms;
        factors = a.factors ++ part ∷ [];
        spelled = ap (λ xs. xs ++ part ∷ []) a.spelled ∙ append_assoc a.terms a.factors (part ∷ []);
        signs = λ e. refl;
        sums = a.sums;
        products = λ qs v q u h.
            let found = of_within (p *ℤ v) q h in
            let fits = subst Fits found.0 found.1 in
            rw (append_assoc a.factors (part ∷ []) qs) (subst (IsProduct names (a.factors ++ part ∷ qs)) (sym found.0) (Times a.product part is u fits));
      }

  after_unary : (f : Frame) (ps qs : List Part) (v p : ℤ) → IsBefore f ps → IsUnary names qs v → product_of f v ≡ Some p → IsAfter f p (ps ++ qs)
  after_unary f ps qs v p b u h =
      record {
        terms = b.terms;
        factors = b.factors ++ qs;
        spelled = ap (λ xs. xs ++ qs) b.spelled ∙ append_assoc b.terms b.factors qs;
        product = b.products qs v p u h;
        sums = b.sums;
      }

  whole : (f : Frame) (p t : ℤ) (ps : List Part) → IsAfter f p ps → total_of f p ≡ Some t → IsSum names ps t
  whole f p t ps a h = subst (λ xs. IsSum names xs t) (sym a.spelled) (a.sums a.factors p t a.product h)

  -- ---- what all parts spell that were read

  -- up to the last bracket that is open
  data AreOpen : List Frame → List Part → Type 0 where
    NoBracket : AreOpen [] []
    OneMore : {fs : List Frame} {ps qs : List Part} → AreOpen fs ps → (f : Frame) → IsBefore f qs → (part : Part) → part.bytes ≡ codes "(" → AreOpen (fs ++ f ∷ []) (ps ++ (qs ++ part ∷ []))

  record HasRead (e : Evaluation) (ps : List Part) : Type 0 where
    outside : List Part
    here : List Part
    spelled : ps ≡ outside ++ here
    open_brackets : AreOpen e.outer outside
    inside : IsInside e.frame e.value here

  -- where the text is, or is not
  is_or_not : (bytes text : List ℕ) → (bytes ≡ text) ⊎ (bytes_eq bytes text ≡ false)
  is_or_not bytes text =
      elim (cases_Bool (bytes_eq bytes text)) [
        | inl same ↦ inl ((bytes_eq-Decides bytes text).0 same)
        | inr differs ↦ inr differs
      ]

  not_text : (bytes text : List ℕ) → bytes_eq bytes text ≡ false → bytes ≢ text
  not_text bytes text differs same = true≢false (sym ((bytes_eq-Decides bytes text).1 same) ∙ differs)

  -- ---- one part more

  -- the innermost brackets end
  ends_brackets : (outer : List Frame) (f : Frame) (value : Option ℤ) (t : ℤ) (outside here ps : List Part) (part : Part) (last : Evaluation)
      → part.bytes ≡ codes ")" → ps ≡ outside ++ here → AreOpen outer outside → IsSum names here t → closed (state outer f value) t ≡ Some last → HasRead last (ps ++ part ∷ [])
  unfolding closed split_last
  ends_brackets outer f value t outside here ps part last is spelled NoBracket sum h = absurd (none-some last h)
  ends_brackets outer f value t outside here ps part last is spelled (OneMore {fs = fs} {ps = far} {qs = near} opens g before opening begins) sum h =
      let known : (product_of g t >>= (λ p. Some (state fs g (Some p)))) ≡ Some last = rw (split_last_snoc fs g) at h in
      option_and_then_some (λ p. Some (state fs g (Some p))) (product_of g t) last known
      (λ p product end. subst (λ e. HasRead e (ps ++ part ∷ [])) (same_Some _ _ end)
      (record {
        outside = far;
        here = near ++ opening ∷ (here ++ part ∷ []);
        spelled = ap (λ xs. xs ++ part ∷ []) spelled
            ∙ append_assoc (far ++ (near ++ opening ∷ [])) here (part ∷ [])
            ∙ append_assoc far (near ++ opening ∷ []) (here ++ part ∷ [])
            ∙ ap (λ xs. far ++ xs) (append_assoc near (opening ∷ []) (here ++ part ∷ []));
        open_brackets = opens;
        inside = after_unary g near (opening ∷ (here ++ part ∷ [])) t p before (Brackets opening begins sum part is) product;
      }))

  module _ (outer : List Frame) (f : Frame) (outside here ps : List Part) (spelled : ps ≡ outside ++ here) (opens : AreOpen outer outside) (part : Part) where
    -- an evaluation that is known to be the next one has read the part
    read_by : (next last : Evaluation) → Some next ≡ Some last → HasRead next (ps ++ part ∷ []) → HasRead last (ps ++ part ∷ [])
    read_by next last same r = subst (λ e. HasRead e (ps ++ part ∷ [])) (same_Some next last same) r

    -- the same brackets stay open
    goes_on : (g : Frame) (next : Option ℤ) → IsInside g next (here ++ part ∷ []) → HasRead (state outer g next) (ps ++ part ∷ [])
    goes_on g next inside =
        record {
          outside = outside;
          here = here ++ part ∷ [];
          spelled = ap (λ xs. xs ++ part ∷ []) spelled ∙ append_assoc outside here (part ∷ []);
          open_brackets = opens;
          inside = inside;
        }

    begins_brackets : part.bytes ≡ codes "(" → IsBefore f here → HasRead (state (outer ++ f ∷ []) first_frame None) (ps ++ part ∷ [])
    begins_brackets is before =
        record {
          outside = outside ++ (here ++ part ∷ []);
          here = [];
          spelled = ap (λ xs. xs ++ part ∷ []) spelled ∙ append_assoc outside here (part ∷ []) ∙ sym (append-nil _);
          open_brackets = OneMore opens f before part is;
          inside = before_all;
        }

    -- where an operand is wanted
    reads_value : (last : Evaluation) → bytes_eq part.bytes (codes "(") ≡ false → bytes_eq part.bytes (codes "-") ≡ false → IsBefore f here
        → after_part names (state outer f None) part ≡ Some last → HasRead last (ps ++ part ∷ [])
    unfolding at_operand
    reads_value last no_bracket no_sign before h =
        let known : (operand_of names part >>= (λ v. product_of f v >>= (λ p. Some (state outer f (Some p))))) ≡ Some last = rw (no_bracket, no_sign) at h in
        option_and_then_some (λ v. product_of f v >>= (λ p. Some (state outer f (Some p)))) (operand_of names part) last known
        (λ v valued more. option_and_then_some (λ p. Some (state outer f (Some p))) (product_of f v) last more
        (λ p product end.
        let unary = Operand part (not_text part.bytes (codes "(") no_bracket) (not_text part.bytes (codes "-") no_sign) valued in
        read_by _ last end (goes_on f (Some p) (after_unary f here (part ∷ []) v p before unary product))))

    reads_before : (last : Evaluation) → IsBefore f here → after_part names (state outer f None) part ≡ Some last → HasRead last (ps ++ part ∷ [])
    reads_before last before h =
        elim (is_or_not part.bytes (codes "(")) [
          | inl bracket ↦ read_by _ last (sym (at_opening names outer f part bracket) ∙ h) (begins_brackets bracket before)
          | inr no_bracket ↦
              elim (is_or_not part.bytes (codes "-")) [
                | inl sign ↦ read_by _ last (sym (at_sign names outer f part sign) ∙ h) (goes_on (with_sign f) None (after_sign f here part sign before))
                | inr no_sign ↦ reads_value last no_bracket no_sign before h
              ]
        ]

    -- after an operand
    reads_plus : (p : ℤ) (last : Evaluation) → part.bytes ≡ codes "+" → IsAfter f p here → after_part names (state outer f (Some p)) part ≡ Some last → HasRead last (ps ++ part ∷ [])
    unfolding at_mark
    reads_plus p last is after h =
        let known : (total_of f p >>= (λ t. Some (state outer (after_term t false) None))) ≡ Some last = rw is at h in
        option_and_then_some (λ t. Some (state outer (after_term t false) None)) (total_of f p) last known
        (λ t total end. read_by _ last end (goes_on (after_term t false) None (after_plus here t part is (whole f p t here after total))))

    reads_minus : (p : ℤ) (last : Evaluation) → part.bytes ≡ codes "-" → IsAfter f p here → after_part names (state outer f (Some p)) part ≡ Some last → HasRead last (ps ++ part ∷ [])
    unfolding at_mark
    reads_minus p last is after h =
        let known : (total_of f p >>= (λ t. Some (state outer (after_term t true) None))) ≡ Some last = rw is at h in
        option_and_then_some (λ t. Some (state outer (after_term t true) None)) (total_of f p) last known
        (λ t total end. read_by _ last end (goes_on (after_term t true) None (after_minus here t part is (whole f p t here after total))))

    reads_closing : (p : ℤ) (last : Evaluation) → part.bytes ≡ codes ")" → IsAfter f p here → after_part names (state outer f (Some p)) part ≡ Some last → HasRead last (ps ++ part ∷ [])
    unfolding at_mark
    reads_closing p last is after h =
        let known : (total_of f p >>= (λ t. closed (state outer f (Some p)) t)) ≡ Some last = rw is at h in
        option_and_then_some (λ t. closed (state outer f (Some p)) t) (total_of f p) last known
        (λ t total end. ends_brackets outer f (Some p) t outside here ps part last is spelled opens (whole f p t here after total) end)

    no_mark : (p : ℤ) (last : Evaluation) → bytes_eq part.bytes (codes "*") ≡ false → bytes_eq part.bytes (codes "+") ≡ false → bytes_eq part.bytes (codes "-") ≡ false
        → bytes_eq part.bytes (codes ")") ≡ false → after_part names (state outer f (Some p)) part ≡ Some last → ⊥
    unfolding at_mark
    no_mark p last no_star no_plus no_minus no_bracket h = none-some last (rw (no_star, no_plus, no_minus, no_bracket) at h)

    reads_after : (p : ℤ) (last : Evaluation) → IsAfter f p here → after_part names (state outer f (Some p)) part ≡ Some last → HasRead last (ps ++ part ∷ [])
    reads_after p last after h =
        elim (is_or_not part.bytes (codes "*")) [
          | inl star ↦ read_by _ last (sym (at_times names outer f p part star) ∙ h) (goes_on (after_factor f p) None (after_times f p here part star after))
          | inr no_star ↦
              elim (is_or_not part.bytes (codes "+")) [
                | inl plus ↦ reads_plus p last plus after h
                | inr no_plus ↦
                    elim (is_or_not part.bytes (codes "-")) [
                      | inl minus ↦ reads_minus p last minus after h
                      | inr no_minus ↦
                          elim (is_or_not part.bytes (codes ")")) [
                            | inl bracket ↦ reads_closing p last bracket after h
                            | inr no_bracket ↦ absurd (no_mark p last no_star no_plus no_minus no_bracket h)
                          ]
                    ]
              ]
        ]

    reads_part : (value : Option ℤ) (last : Evaluation) → IsInside f value here → after_part names (state outer f value) part ≡ Some last → HasRead last (ps ++ part ∷ [])
    reads_part None last before h = reads_before last before h
    reads_part (Some p) last after h = reads_after p last after h

  -- ---- from the first part to the last

  reads_all : (parts ps : List Part) (e last : Evaluation) → HasRead e ps → after_parts names e parts ≡ Some last → HasRead last (ps ++ parts)
  reads_all [] ps e last r h = rw (append-nil ps) (subst (λ n. HasRead n ps) (same_Some e last h) r)
  reads_all (part ∷ parts) ps e last r h =
      option_and_then_some (λ n. after_parts names n parts) (after_part names e part) last h
      (λ next first more.
      let s = reads_part e.outer e.frame r.outside r.here ps r.spelled r.open_brackets part e.value next r.inside first in
      rw (← append_assoc ps (part ∷ []) parts) (reads_all parts (ps ++ part ∷ []) next last s more))

  some_open : (fs : List Frame) (f : Frame) → (length (fs ++ f ∷ []) == 0) ≡ false
  some_open [] f = refl
  some_open (g ∷ fs) f = grind (arith, nat_tests)

  ends : (outer : List Frame) (f : Frame) (value : Option ℤ) (outside here : List Part) (v : ℤ) → AreOpen outer outside → IsInside f value here → final_value (state outer f value) ≡ Some v → IsSum names (outside ++ here) v
  unfolding final_value
  ends outer f None outside here v NoBracket inside h = absurd (none-some v h)
  ends outer f (Some p) outside here v NoBracket inside h = whole f p v here inside h
  ends outer f value outside here v (OneMore {fs = fs} opens g before part is) inside h = absurd (none-some v (rw (some_open fs g) at h))

  pub sum_is_spelled : (parts : List Part) (v : ℤ) → expression_value names parts ≡ Some v → IsSum names parts v
  sum_is_spelled parts v h =
      option_and_then_some final_value (after_parts names first_evaluation parts) v h
      (λ last leads end.
      let first : HasRead first_evaluation [] = record { outside = []; here = []; spelled = refl; open_brackets = NoBracket; inside = before_all } in
      let r = reads_all parts [] first_evaluation last first leads in
      subst (λ ps. IsSum names ps v) (sym r.spelled) (ends last.outer last.frame last.value r.outside r.here v r.open_brackets r.inside end))
