-- Which marks are sites, what is noted of them, and implied conversions.
use Rattle.std.specs.Prelude.{ℕ, Bool, ◌&&◌, if◌then◌else◌, List, [], ◌∷◌, Option, Some, None}
use Rattle.sat_base.specs.declared.name.At.{At}
use Rattle.sat_base.specs.declared.width.Width.{Width}
use Rattle.c_tree.specs.declared.expression.BinaryMark.{BinaryMark}
use Rattle.c_tree.specs.declared.expression.BinaryMark.TheVariants as binary
use Rattle.c_tree.specs.declared.expression.UnaryMark.{UnaryMark}
use Rattle.c_tree.specs.declared.expression.UnaryMark.TheVariants as unary
use Rattle.c_typed.specs.declared.expression.TypedExpr.{TypedExpr}
use Rattle.c_typed.specs.declared.expression.TypedExprKind.TheVariants as typed
use Rattle.operator_meaning.specs.declared.site.SiteKind.{SiteKind}
use Rattle.operator_meaning.specs.declared.site.SiteKind.TheVariants as kinds
use Rattle.tied_names.specs.declared.note.Note.{Note}
use Rattle.tied_names.specs.declared.note.Note.TheVariants as note
use Rattle.tied_names.specs.declared.tie.TiedObject.{TiedObject}
use Rattle.tied_names.specs.Numbers.{number_in}
use Rattle.tied_names.specs.Ties.{Here, is_scalar}

-- a part of the tree once its names are tied, and what is noted in it, in the order of its tokens
pub record Tied (A : Type 0) : Type 0 where
  pub value : A
  pub notes : List Note

abbrev pub unary_kind : UnaryMark → Option SiteKind
unary_kind unary.Minus = Some kinds.Opposite
unary_kind unary.Plus = None
unary_kind unary.Not = None
unary_kind unary.Invert = None

abbrev pub binary_kind : BinaryMark → Option SiteKind
binary_kind binary.Plus = Some kinds.Sum
binary_kind binary.Minus = Some kinds.Difference
binary_kind binary.Times = Some kinds.Product
binary_kind _ = None

-- the number of the site at a token that is one
abbrev pub number_if : Here → Option SiteKind → At → Option ℕ
number_if here None at = None
number_if here (Some kind) at = Some (number_in here.tokens at.tok)

abbrev pub noted_if : Option SiteKind → At → List Note
noted_if None at = []
noted_if (Some kind) at = note.Site (record { tok = at.tok; pos = at.pos; kind = kind }) ∷ []

-- a scalar is exposed where `&` is applied to it
abbrev pub exposed_if : Bool → TiedObject → List Note
exposed_if ampersand object = if ampersand && is_scalar object then note.Exposed object.number ∷ [] else []

-- the implied conversion of a value to a width
abbrev pub with_conversion : Width → TypedExpr → TypedExpr
with_conversion width e = record { at = e.at; brackets = 0; kind = typed.Convert width e }
