-- Each operator stands in the list of all of them, and no two have one name.
use Rattle.std.proofs.Common.{◌≡◌, ℕ, ◌<◌, get_or, List, [], ◌∷◌, Option, Some, None, inl, inr, if◌then◌else◌, bytes_eq, codes, refl, sym, ap, ◌∙◌, lit<}
use Rattle.std.specs.Prelude.{slice_get}
use Rattle.operator_meaning.specs.Order.{place_of}
use Rattle.operator_meaning.specs.Table.{row_of, IsNameOf}
use Rattle.operator_meaning.specs.declared.operator.Op.{Op}
use Rattle.operator_meaning.specs.declared.operator.Op.TheVariants.{Add, Sub, AbsS, Shl, Shr, ExtractH, ExtractL, Mult, LMult, Negate, Round, LMac, LMsu, MacR, MsuR, LAdd, LSub, LNegate, MultR, LShl, LShr, ShrR, LShrR, LAbs, LDepositH, LDepositL, NormS, NormL, DivS}
use Rattle.operator_meaning.specs.declared.operator.TheConstants.{OPERATORS}

pub place_within : (op : Op) → place_of op < 29
place_within Add = lit< tt
place_within Sub = lit< tt
place_within AbsS = lit< tt
place_within Shl = lit< tt
place_within Shr = lit< tt
place_within ExtractH = lit< tt
place_within ExtractL = lit< tt
place_within Mult = lit< tt
place_within LMult = lit< tt
place_within Negate = lit< tt
place_within Round = lit< tt
place_within LMac = lit< tt
place_within LMsu = lit< tt
place_within MacR = lit< tt
place_within MsuR = lit< tt
place_within LAdd = lit< tt
place_within LSub = lit< tt
place_within LNegate = lit< tt
place_within MultR = lit< tt
place_within LShl = lit< tt
place_within LShr = lit< tt
place_within ShrR = lit< tt
place_within LShrR = lit< tt
place_within LAbs = lit< tt
place_within LDepositH = lit< tt
place_within LDepositL = lit< tt
place_within NormS = lit< tt
place_within NormL = lit< tt
place_within DivS = lit< tt

pub at_place : (op : Op) → get_or OPERATORS (place_of op) Add ≡ op
at_place Add = refl
at_place Sub = refl
at_place AbsS = refl
at_place Shl = refl
at_place Shr = refl
at_place ExtractH = refl
at_place ExtractL = refl
at_place Mult = refl
at_place LMult = refl
at_place Negate = refl
at_place Round = refl
at_place LMac = refl
at_place LMsu = refl
at_place MacR = refl
at_place MsuR = refl
at_place LAdd = refl
at_place LSub = refl
at_place LNegate = refl
at_place MultR = refl
at_place LShl = refl
at_place LShr = refl
at_place ShrR = refl
at_place LShrR = refl
at_place LAbs = refl
at_place LDepositH = refl
at_place LDepositL = refl
at_place NormS = refl
at_place NormL = refl
at_place DivS = refl

-- the list of all operators has each at its place
pub stands_at_place : (op : Op) → slice_get OPERATORS (place_of op) ≡ Some op
stands_at_place Add = refl
stands_at_place Sub = refl
stands_at_place AbsS = refl
stands_at_place Shl = refl
stands_at_place Shr = refl
stands_at_place ExtractH = refl
stands_at_place ExtractL = refl
stands_at_place Mult = refl
stands_at_place LMult = refl
stands_at_place Negate = refl
stands_at_place Round = refl
stands_at_place LMac = refl
stands_at_place LMsu = refl
stands_at_place MacR = refl
stands_at_place MsuR = refl
stands_at_place LAdd = refl
stands_at_place LSub = refl
stands_at_place LNegate = refl
stands_at_place MultR = refl
stands_at_place LShl = refl
stands_at_place LShr = refl
stands_at_place ShrR = refl
stands_at_place LShrR = refl
stands_at_place LAbs = refl
stands_at_place LDepositH = refl
stands_at_place LDepositL = refl
stands_at_place NormS = refl
stands_at_place NormL = refl
stands_at_place DivS = refl

-- ---- at most one operator has a name

-- the operator that a text names, by looking through all of them
abbrev named : List Op → List ℕ → Option Op
named [] text = None
named (op ∷ ops) text = if bytes_eq text (row_of op).name then Some op else named ops text

finds_name : (op : Op) → named OPERATORS (row_of op).name ≡ Some op
finds_name Add = refl
finds_name Sub = refl
finds_name AbsS = refl
finds_name Shl = refl
finds_name Shr = refl
finds_name ExtractH = refl
finds_name ExtractL = refl
finds_name Mult = refl
finds_name LMult = refl
finds_name Negate = refl
finds_name Round = refl
finds_name LMac = refl
finds_name LMsu = refl
finds_name MacR = refl
finds_name MsuR = refl
finds_name LAdd = refl
finds_name LSub = refl
finds_name LNegate = refl
finds_name MultR = refl
finds_name LShl = refl
finds_name LShr = refl
finds_name ShrR = refl
finds_name LShrR = refl
finds_name LAbs = refl
finds_name LDepositH = refl
finds_name LDepositL = refl
finds_name NormS = refl
finds_name NormL = refl
finds_name DivS = refl

finds_other : (op : Op) → (row_of op).name ≡ codes "round_fx" → ⊥
finds_other op e = let other : Some op ≡ None = sym (finds_name op) ∙ ap (named OPERATORS) e in cc

pub names_are_distinct : (text : List ℕ) (p q : Op) → IsNameOf text p → IsNameOf text q → p ≡ q
names_are_distinct text p q (inl e) (inl f) = let same : Some p ≡ Some q = sym (finds_name p) ∙ ap (named OPERATORS) (sym e ∙ f) ∙ finds_name q in cc
names_are_distinct text p q (inl e) (inr f) = absurd (finds_other p (sym e ∙ f.0))
names_are_distinct text p q (inr e) (inl f) = absurd (finds_other q (sym f ∙ e.0))
names_are_distinct text p q (inr e) (inr f) = e.1 ∙ sym f.1
