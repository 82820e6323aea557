-- The operators' names are texts, so that what is no text is no operator's name.
use Rattle.std.proofs.Common.{◌≡◌, ℕ, true, List, codes, refl, sym, subst, inl, inr}
use Rattle.std.specs.Str.{IsUtf8, is_utf8, chars}
use Rattle.std.proofs.lemmas.Str.{IsUtf8-from_is_utf8}
use lib.Utf8.{encode}
use Rattle.operator_meaning.specs.declared.operator.Op.{Op}
use Rattle.operator_meaning.specs.declared.operator.Op.TheVariants.{Add, Sub, AbsS, Shl, Shr, ExtractH, ExtractL, Mult, LMult, Negate, Round, LMac, LMsu, MacR, MsuR, LAdd, LSub, LNegate, MultR, LShl, LShr, ShrR, LShrR, LAbs, LDepositH, LDepositL, NormS, NormL, DivS}
use Rattle.operator_meaning.specs.Table.{row_of, IsNoName}

name_is_text : (op : Op) → is_utf8 (row_of op).name ≡ true
unfolding is_utf8 chars encode
name_is_text Add = refl
name_is_text Sub = refl
name_is_text AbsS = refl
name_is_text Shl = refl
name_is_text Shr = refl
name_is_text ExtractH = refl
name_is_text ExtractL = refl
name_is_text Mult = refl
name_is_text LMult = refl
name_is_text Negate = refl
name_is_text Round = refl
name_is_text LMac = refl
name_is_text LMsu = refl
name_is_text MacR = refl
name_is_text MsuR = refl
name_is_text LAdd = refl
name_is_text LSub = refl
name_is_text LNegate = refl
name_is_text MultR = refl
name_is_text LShl = refl
name_is_text LShr = refl
name_is_text ShrR = refl
name_is_text LShrR = refl
name_is_text LAbs = refl
name_is_text LDepositH = refl
name_is_text LDepositL = refl
name_is_text NormS = refl
name_is_text NormL = refl
name_is_text DivS = refl

also_is_text : is_utf8 (codes "round_fx") ≡ true
unfolding is_utf8 chars encode
also_is_text = refl

pub no_text : (name : List ℕ) → (IsUtf8 name → ⊥) → IsNoName name
no_text name foreign op (inl e) = foreign (subst IsUtf8 (sym e) (IsUtf8-from_is_utf8 (row_of op).name (name_is_text op)))
no_text name foreign op (inr e) = foreign (subst IsUtf8 (sym e.0) (IsUtf8-from_is_utf8 (codes "round_fx") also_is_text))
