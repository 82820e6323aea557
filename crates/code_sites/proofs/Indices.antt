-- The sites of indices: of the kind that is due, with as many operands as that takes.
use Rattle.std.proofs.Common.{◌≡◌, ℕ, zero, suc, ◌==◌, Bool, true, false, refl, ap}
use Rattle.std.specs.Prelude.{if◌then◌else◌, Option, Some, None}
use Rattle.std.proofs.lemmas.Bool.{eqb-true}
use Rattle.operator_meaning.specs.declared.object.Object.{Object}
use Rattle.operator_meaning.specs.declared.site.SiteKind.{SiteKind}
use Rattle.operator_meaning.specs.declared.site.SiteKind.TheVariants as kinds
use Rattle.c_typed.specs.declared.typed.Typed.{Typed}
use Rattle.lawful_sources.specs.Expressions.{index_kind, view_kind}
use Rattle.lawful_sources.specs.Things.{Marks, Bare, Once, Twice, Star, Use, Given}
use Rattle.lawful_ir.specs.Positions.{Position, Indexing, is_kind}
use Rattle.lawful_ir.specs.Walk.{index_position, operand_position}
use Rattle.code_sites.specs.Operands.{takes}

-- the kind that an index has is the one that is due
pub kind-is : (due kind : SiteKind) → is_kind due kind ≡ true → due ≡ kind
kind-is (kinds.Bound one) (kinds.Bound other) is = ap kinds.Bound (eqb-true one other is)
kind-is kinds.ViewBound kinds.ViewBound is = refl
kind-is kinds.ViewEdge kinds.ViewEdge is = refl
kind-is due kind is = absurd (let f = is in cc)

-- a position at which an index has as many operands as its kind takes
abbrev pub is_fair : Position → Bool
is_fair (Indexing due count) = takes due count
is_fair position = true

view-fair : (aim : Use) → takes (view_kind aim) 1 ≡ true
view-fair (Given taken) = refl
view-fair aim = refl

either-fair : (b : Bool) (one other : SiteKind) → takes one 1 ≡ true → takes other 1 ≡ true → takes (if b then one else other) 1 ≡ true
either-fair true one other p q = p
either-fair false one other p q = q

one-fair : (object : Option Object) (aim : Use) → takes (index_kind object aim) 1 ≡ true
one-fair None aim = refl
one-fair (Some object) aim = either-fair object.view _ _ (view-fair aim) (either-fair (object.columns == 0) _ _ refl refl)

pub index-fair : (object : Option Object) (aim : Use) (marks : Marks) (place : ℕ) → is_fair (index_position object aim marks place) ≡ true
index-fair object aim Bare place = refl
index-fair object aim Once place = one-fair object aim
index-fair None aim Twice zero = refl
index-fair (Some object) aim Twice zero = refl
index-fair None aim Twice (suc place) = refl
index-fair (Some object) aim Twice (suc place) = refl
index-fair object aim Star place = refl

pub operand-fair : (tables : Typed) (kind : SiteKind) (place : ℕ) → is_fair (operand_position tables kind place) ≡ true
operand-fair tables (kinds.Call op) place = refl
operand-fair tables kind place = refl
