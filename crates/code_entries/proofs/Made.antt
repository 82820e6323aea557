-- Of which pieces code is made, and how those of two parts join.
use Rattle.std.proofs.Common.{◌≡◌, Bool, true, false, if◌then◌else◌, List, [], ◌∷◌, ◌++◌, refl, ap, ◌∙◌, append-nil}
use Rattle.std.proofs.lemmas.Grind.{flat_map-append}
use Rattle.std.specs.List.{list_all}
use Rattle.template_runs.specs.declared.registers.Registers.{Registers}
use Rattle.code_lines.specs.declared.word.Word.{Word}
use Rattle.code_lines.specs.declared.word.Word.TheVariants.{Own, First, Further}
use Rattle.code_pieces.specs.declared.piece.Entry.{Entry}
use Rattle.code_pieces.specs.declared.piece.Piece.TheVariants.{Single, Template}
use Rattle.code_pieces.specs.Pieces.{entries_of, words_of}
use Rattle.code_entries.specs.Pieces.{IsMade}

-- ---- parts

pub joined : {xs ys : List Word} {es fs : List Entry} → IsMade xs es → IsMade ys fs → IsMade (xs ++ ys) (es ++ fs)
joined {xs} {ys} {es} {fs} one other = record {
  pieces = one.pieces ++ other.pieces;
  as_words = rw (flat_map-append words_of one.pieces other.pieces, one.as_words, other.as_words) refl;
  as_entries = rw (flat_map-append entries_of one.pieces other.pieces, one.as_entries, other.as_entries) refl;
}

-- the same entries, written otherwise
pub listed : {xs : List Word} {es fs : List Entry} → IsMade xs es → es ≡ fs → IsMade xs fs
listed {xs} {es} {fs} made same = record { pieces = made.pieces; as_words = made.as_words; as_entries = made.as_entries ∙ same }

-- behind a part there are no further sites
pub before_plain : {xs ys : List Word} {es : List Entry} → IsMade xs es → IsMade ys [] → IsMade (xs ++ ys) es
before_plain {xs} {ys} {es} one other = listed (joined one other) (append-nil es)

pub either : (b : Bool) {xs ys : List Word} {es : List Entry} → IsMade xs es → IsMade ys es → IsMade (if b then xs else ys) es
either true one other = one
either false one other = other

-- ---- words of the code's own

abbrev pub is_own : Word → Bool
is_own (Own instr) = true
is_own word = false

pub plain : (words : List Word) → list_all is_own words ≡ true → IsMade words []
plain [] own = record { pieces = []; as_words = refl; as_entries = refl }
plain (Own instr ∷ words) own =
    let rest = plain words own in
    record { pieces = Single instr ∷ rest.pieces; as_words = ap (λ (others : List Word). Own instr ∷ others) rest.as_words; as_entries = rest.as_entries }
plain (First site instr ∷ words) own = absurd (let e = own in cc)
plain (Further instr ∷ words) own = absurd (let e = own in cc)

pub none : IsMade [] []
none = plain [] refl

-- ---- sites

pub template_made : (entry : Entry) (regs : Registers) → IsMade (words_of (Template entry regs)) (entry ∷ [])
template_made entry regs = record { pieces = Template entry regs ∷ []; as_words = append-nil (words_of (Template entry regs)); as_entries = refl }
