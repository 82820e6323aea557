-- What is promised of the image of a source, whatever the source is.
use Rattle.std.specs.Prelude.{◌≡◌, ℕ, ◌+◌, ◌≤◌, ◌⊎◌, List, [], ◌∷◌, map, take, drop, All}
use Rattle.image_format.specs.declared.image.Image.{Image}
use Rattle.image_format.specs.declared.image.SiteEntry.{SiteEntry}
use Rattle.image_format.specs.Readable.{IsReadable}
use Rattle.image_format.specs.RunsAlike.{RunsAlike}
use Rattle.operator_meaning.specs.declared.object.Site.{Site}
use Rattle.operator_meaning.specs.declared.site.Form.{Form}
use Rattle.operator_meaning.specs.declared.site.Form.TheVariants.{Plain, Clamp, Flag}
use Rattle.operator_meaning.specs.declared.site.Guard.{Guard}
use Rattle.operator_meaning.specs.declared.site.Guard.TheVariants.{Kept, Gone}
use Rattle.operator_meaning.specs.declared.site.SiteKind.{SiteKind}
use Rattle.operator_meaning.specs.declared.site.SiteKind.TheVariants.{Call, Sum, Difference, Product, Opposite, Bound, ViewBound, ViewEdge, Sample}
use Rattle.operator_meaning.specs.Order.{place_of}
use Rattle.operator_meaning.specs.Table.{arity_of}
use Rattle.rv_encode.specs.Words.{encoded}
use Rattle.sat_compile.specs.Source.{Source, Treatment}
use Rattle.sat_compile.specs.Templates.{Registers, template}

-- ---- how an entry tells its site

-- the operators first, in the order of their table
abbrev pub kind_number : SiteKind → ℕ
kind_number (Call op) = place_of op
kind_number Sum = 29
kind_number Difference = 30
kind_number Product = 31
kind_number Opposite = 32
kind_number (Bound n) = 33
kind_number ViewBound = 34
kind_number ViewEdge = 35
kind_number Sample = 36

abbrev pub form_number : Form → ℕ
form_number Plain = 0
form_number Clamp = 1
form_number Flag = 2

abbrev pub guard_number : Guard → ℕ
guard_number Gone = 0
guard_number Kept = 1

-- how many values an index may have, and 0 for all that is no index into an array
abbrev pub bound_of : SiteKind → ℕ
bound_of (Bound n) = n
bound_of kind = 0

-- how many operand registers a site has
abbrev pub operands_of : SiteKind → ℕ
operands_of (Call op) = arity_of op
operands_of Sum = 2
operands_of Difference = 2
operands_of Product = 2
operands_of Opposite = 1
operands_of (Bound n) = 1
operands_of ViewBound = 3
operands_of ViewEdge = 3
operands_of Sample = 0

-- the registers that an entry records
abbrev pub registers_of : SiteEntry → Registers
registers_of entry = record { result = entry.result; first = entry.reg_a; second = entry.reg_b; third = entry.reg_c }

-- an entry tells its site and how it is compiled, and the code has there exactly the site's words on the registers
-- that it records
pub record IsEntryOf (code : List ℕ) (site : Site) (treatment : Treatment) (entry : SiteEntry) : Type 0 where
  pub line : entry.line ≡ site.pos.line
  pub col : entry.col ≡ site.pos.col
  pub kind : entry.kind ≡ kind_number site.kind
  pub bound : entry.bound ≡ bound_of site.kind
  pub form : entry.form ≡ form_number treatment.form
  pub guard : entry.guard ≡ guard_number treatment.guard
  pub operands : entry.operands ≡ operands_of site.kind
  pub words : take entry.words (drop entry.first code) ≡ map encoded (template site.kind treatment (registers_of entry))

-- one entry for each site, in order
abbrev pub AreEntriesOf : List ℕ → List Site → List Treatment → List SiteEntry → Type 0
AreEntriesOf code [] [] [] = Unit {0}
AreEntriesOf code (site ∷ sites) (treatment ∷ treatments) (entry ∷ entries) =
    IsEntryOf code site treatment entry × AreEntriesOf code sites treatments entries
AreEntriesOf code sites treatments entries = ⊥

-- the words of one of them end before those of the other begin
abbrev pub AreDisjoint : SiteEntry → SiteEntry → Type 0
AreDisjoint left right = (left.first + left.words ≤ right.first) ⊎ (right.first + right.words ≤ left.first)

-- each of them is so with all that follow
abbrev pub AreApart : List SiteEntry → Type 0
AreApart [] = Unit {0}
AreApart (entry ∷ entries) = All (AreDisjoint entry) entries × AreApart entries

pub record HoldsSites (sites : List Site) (treatments : List Treatment) (image : Image) : Type 0 where
  pub entries : AreEntriesOf image.code sites treatments image.sites
  -- the words of different entries do not overlap
  pub apart : AreApart image.sites

-- The image does what the source does, has one entry for each of its sites, and is one that an image file can hold,
-- so that whoever reads the file gets this image back.
pub record Compiles (source : Source) (image : Image) : Type 0 where
  pub alike : RunsAlike source.observed image
  pub sites : HoldsSites source.sites source.treatments image
  pub readable : IsReadable image
