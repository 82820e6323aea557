-- Where a site stops on some operands of a box, it stops at a corner. The widths of operands are few.
use Rattle.std.proofs.Common.{ℕ, ◌≤◌, inl, inr, ℤ, pos, ◌+ℤ◌, ◌-ℤ◌, ◌*ℤ◌, ◌≤ℤ◌, ◌<ℤ◌, neg_ℤ, FitsSigned, w32, List, [], ◌∷◌, length, arith, lit≤}
use Rattle.std.proofs.lemmas.Int.{ints, by_lt_z}
use Rattle.sat_base.specs.declared.width.Width.{Width}
use Rattle.sat_base.specs.declared.width.Width.TheVariants.{W16, W32}
use Rattle.operator_meaning.specs.Table.{row_of}
use Rattle.operator_meaning.specs.Value.{IsInvalid}
use Rattle.operator_meaning.specs.declared.operator.Op.{Op}
use Rattle.operator_meaning.specs.declared.operator.Op.TheVariants.{Add, Sub, AbsS, Shl, Shr, ExtractH, ExtractL, Mult, LMult, Negate, Round, LMac, LMsu, MacR, MsuR, LAdd, LSub, LNegate, MultR, LShl, LShr, ShrR, LShrR, LAbs, LDepositH, LDepositL, NormS, NormL, DivS}
use Rattle.operator_meaning.specs.declared.site.SiteKind.{SiteKind}
use Rattle.operator_meaning.specs.declared.site.SiteKind.TheVariants.{Call, Sum, Difference, Product, Opposite, Bound, ViewBound, ViewEdge, Sample}
use Rattle.range_transfer.specs.Site.{widths_of, HasBox, Stops}
use Rattle.range_transfer.proofs.Reach.{ReachesEnd, ReachesEnds, one, two, by_steady}
use Rattle.range_transfer.proofs.Steady.{Steady, Rises, Falls, add_up, added_up, sub_up, subtracted_down, neg_down, times_steady, timed_steady, unfit_outer}

unfit : (f : ℤ → ℤ) → Steady f → ReachesEnd W32 (λ (x : ℤ). FitsSigned w32 (f x) → ⊥)
unfit f steady = by_steady W32 (λ (x : ℤ). FitsSigned w32 x → ⊥) f unfit_outer steady

-- what never holds reaches everything
pub never_holds : (widths : List Width) (P : List ℤ → Type 0) → ((xs : List ℤ) → P xs → ⊥) → ReachesEnds widths P
never_holds [] P none = tt
never_holds (w ∷ widths) P none = (λ xs fits lo x hi low high le le' h. absurd (none (x ∷ xs) h), λ x fits. never_holds widths (λ (xs : List ℤ). P (x ∷ xs)) (λ xs h. none (x ∷ xs) h))

divides_first : (b : ℤ) → ReachesEnd W16 (λ (a : ℤ). (pos 0 ≤ℤ a) × (a ≤ℤ b) × (pos 0 <ℤ b) → ⊥)
divides_first b lo a hi low high le le' h =
    by_lt_z a (pos 0)
    (λ negative. inl (λ v. omega (arith, ints, negative, le, v)))
    (λ some. by_lt_z b a
    (λ above. inr (λ v. omega (arith, ints, above, le', v)))
    (λ within. inl (λ v. h (some, within, v.2))))

divides_second : (a : ℤ) → ReachesEnd W16 (λ (b : ℤ). (pos 0 ≤ℤ a) × (a ≤ℤ b) × (pos 0 <ℤ b) → ⊥)
divides_second a lo b hi low high le le' h = inl (λ v. h (v.0, omega (arith, ints, v, le), omega (arith, ints, v, le)))

bounded : (n : ℕ) → ReachesEnd W32 (λ (x : ℤ). (pos 0 ≤ℤ x) × (x <ℤ pos n) → ⊥)
bounded n lo x hi low high le le' h =
    by_lt_z x (pos 0)
    (λ negative. inl (λ v. omega (arith, ints, negative, le, v)))
    (λ some. inr (λ v. h (some, omega (arith, ints, v, le'))))

invalid_reach : (op : Op) → ReachesEnds (row_of op).takes (IsInvalid op)
invalid_reach DivS = two W16 W16 (IsInvalid DivS) (λ b f. divides_first b) (λ a f. divides_second a)
invalid_reach Add = never_holds (row_of Add).takes (IsInvalid Add) (λ xs h. h)
invalid_reach Sub = never_holds (row_of Sub).takes (IsInvalid Sub) (λ xs h. h)
invalid_reach AbsS = never_holds (row_of AbsS).takes (IsInvalid AbsS) (λ xs h. h)
invalid_reach Shl = never_holds (row_of Shl).takes (IsInvalid Shl) (λ xs h. h)
invalid_reach Shr = never_holds (row_of Shr).takes (IsInvalid Shr) (λ xs h. h)
invalid_reach ExtractH = never_holds (row_of ExtractH).takes (IsInvalid ExtractH) (λ xs h. h)
invalid_reach ExtractL = never_holds (row_of ExtractL).takes (IsInvalid ExtractL) (λ xs h. h)
invalid_reach Mult = never_holds (row_of Mult).takes (IsInvalid Mult) (λ xs h. h)
invalid_reach LMult = never_holds (row_of LMult).takes (IsInvalid LMult) (λ xs h. h)
invalid_reach Negate = never_holds (row_of Negate).takes (IsInvalid Negate) (λ xs h. h)
invalid_reach Round = never_holds (row_of Round).takes (IsInvalid Round) (λ xs h. h)
invalid_reach LMac = never_holds (row_of LMac).takes (IsInvalid LMac) (λ xs h. h)
invalid_reach LMsu = never_holds (row_of LMsu).takes (IsInvalid LMsu) (λ xs h. h)
invalid_reach MacR = never_holds (row_of MacR).takes (IsInvalid MacR) (λ xs h. h)
invalid_reach MsuR = never_holds (row_of MsuR).takes (IsInvalid MsuR) (λ xs h. h)
invalid_reach LAdd = never_holds (row_of LAdd).takes (IsInvalid LAdd) (λ xs h. h)
invalid_reach LSub = never_holds (row_of LSub).takes (IsInvalid LSub) (λ xs h. h)
invalid_reach LNegate = never_holds (row_of LNegate).takes (IsInvalid LNegate) (λ xs h. h)
invalid_reach MultR = never_holds (row_of MultR).takes (IsInvalid MultR) (λ xs h. h)
invalid_reach LShl = never_holds (row_of LShl).takes (IsInvalid LShl) (λ xs h. h)
invalid_reach LShr = never_holds (row_of LShr).takes (IsInvalid LShr) (λ xs h. h)
invalid_reach ShrR = never_holds (row_of ShrR).takes (IsInvalid ShrR) (λ xs h. h)
invalid_reach LShrR = never_holds (row_of LShrR).takes (IsInvalid LShrR) (λ xs h. h)
invalid_reach LAbs = never_holds (row_of LAbs).takes (IsInvalid LAbs) (λ xs h. h)
invalid_reach LDepositH = never_holds (row_of LDepositH).takes (IsInvalid LDepositH) (λ xs h. h)
invalid_reach LDepositL = never_holds (row_of LDepositL).takes (IsInvalid LDepositL) (λ xs h. h)
invalid_reach NormS = never_holds (row_of NormS).takes (IsInvalid NormS) (λ xs h. h)
invalid_reach NormL = never_holds (row_of NormL).takes (IsInvalid NormL) (λ xs h. h)

pub stops_reach : (kind : SiteKind) → HasBox kind → ReachesEnds (widths_of kind) (Stops kind)
stops_reach (Call op) boxed = invalid_reach op
stops_reach Sum boxed = two W32 W32 (Stops Sum) (λ y f. unfit (λ (x : ℤ). x +ℤ y) (Rises (add_up y))) (λ x f. unfit (λ (y : ℤ). x +ℤ y) (Rises (added_up x)))
stops_reach Difference boxed = two W32 W32 (Stops Difference) (λ y f. unfit (λ (x : ℤ). x -ℤ y) (Rises (sub_up y))) (λ x f. unfit (λ (y : ℤ). x -ℤ y) (Falls (subtracted_down x)))
stops_reach Product boxed = two W32 W32 (Stops Product) (λ y f. unfit (λ (x : ℤ). x *ℤ y) (times_steady y)) (λ x f. unfit (λ (y : ℤ). x *ℤ y) (timed_steady x))
stops_reach Opposite boxed = one W32 (Stops Opposite) (unfit neg_ℤ (Falls neg_down))
stops_reach (Bound n) boxed = one W32 (Stops (Bound n)) (bounded n)
stops_reach ViewBound boxed = absurd boxed
stops_reach ViewEdge boxed = absurd boxed
stops_reach Sample boxed = absurd boxed

-- ---- no site has more than three operands

few_operands : (op : Op) → length (row_of op).takes ≤ 3
few_operands Add = lit≤ tt
few_operands Sub = lit≤ tt
few_operands AbsS = lit≤ tt
few_operands Shl = lit≤ tt
few_operands Shr = lit≤ tt
few_operands ExtractH = lit≤ tt
few_operands ExtractL = lit≤ tt
few_operands Mult = lit≤ tt
few_operands LMult = lit≤ tt
few_operands Negate = lit≤ tt
few_operands Round = lit≤ tt
few_operands LMac = lit≤ tt
few_operands LMsu = lit≤ tt
few_operands MacR = lit≤ tt
few_operands MsuR = lit≤ tt
few_operands LAdd = lit≤ tt
few_operands LSub = lit≤ tt
few_operands LNegate = lit≤ tt
few_operands MultR = lit≤ tt
few_operands LShl = lit≤ tt
few_operands LShr = lit≤ tt
few_operands ShrR = lit≤ tt
few_operands LShrR = lit≤ tt
few_operands LAbs = lit≤ tt
few_operands LDepositH = lit≤ tt
few_operands LDepositL = lit≤ tt
few_operands NormS = lit≤ tt
few_operands NormL = lit≤ tt
few_operands DivS = lit≤ tt

pub few_widths : (kind : SiteKind) → length (widths_of kind) ≤ 3
few_widths (Call op) = few_operands op
few_widths Sum = lit≤ tt
few_widths Difference = lit≤ tt
few_widths Product = lit≤ tt
few_widths Opposite = lit≤ tt
few_widths (Bound n) = lit≤ tt
few_widths ViewBound = lit≤ tt
few_widths ViewEdge = lit≤ tt
few_widths Sample = lit≤ tt
