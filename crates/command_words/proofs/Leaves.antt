-- What clap makes of the words after a verb, where none of them is a flag.
use Rattle.std.proofs.Common.{◌≡◌, ◌∙◌, ℕ, true, false, List, [], ◌∷◌, ◌++◌, length, Option, Some, None, refl, sym, ap, ap₂, append-nil, append_assoc, codes}
use Rattle.std.proofs.lemmas.Bool.{ne_eqb}
use Rattle.std.specs.List.{All, fold}
use Rattle.std.specs.Prelude.{option_and_then}
use Rattle.std.proofs.lemmas.List.Elements.{All-head, All-tail}
use Rattle.std.specs.Str.{bytes_eq}
use Rattle.clap.specs.Lexer.{long_of, long_of_rest, short_of, short_of_rest, strip_byte}
use Rattle.clap.specs.Kinds.{Kinds, or_else, range_kinds}
use Rattle.clap.specs.Faults.{check_fault, defaults_fault, level_fault, settle_fault, turn_fault, values_fault, walk_fault}
use Rattle.clap.specs.Walk.{Held, Rule, Text, Walk, finished, nothing_held, positional, rows_after, settled, takes_several, walk, walk_from, walked}
use Rattle.clap.specs.Simple.{Shape, built, built_leaf, filled, inherited, with_index}
use Rattle.clap.specs.declared.error.kind.ErrorKind.TheVariants.{MissingRequiredArgument}
use Rattle.command_words.specs.Command.{IsName}
use Rattle.command_words.specs.Table.{row_read, row_shape, table, words_rule}

-- a name is no flag
pub not_dashes : (word : Text) → IsName word → bytes_eq word (45 ∷ 45 ∷ []) ≡ false
not_dashes [] named = absurd named
not_dashes (first ∷ rest) named = rw (ne_eqb first 45 named) refl

no_dash : (word : Text) → IsName word → strip_byte 45 word ≡ None
no_dash [] named = absurd named
no_dash (first ∷ rest) named = rw (ne_eqb first 45 named) refl

pub no_long : (word : Text) → IsName word → long_of word ≡ None
no_long word named = ap (λ (rest : Option Text). option_and_then long_of_rest (option_and_then (strip_byte 45) rest)) (no_dash word named)

pub no_short : (word : Text) → IsName word → short_of word ≡ None
no_short word named = ap (option_and_then short_of_rest) (no_dash word named)

-- the words of a row, as clap builds them
abbrev pub built_rule : ℕ → Rule
built_rule count = with_index 1 (filled (words_rule count))

abbrev pub built_row : List ℕ × ℕ → Shape
built_row row = built_leaf (inherited (built table).top (row_shape row))

-- these words were met so far
abbrev pub met : List Text → Walk
met words = record {
  held = record { rows = []; pending = Some (codes "words", words); skip = 0 };
  waiting = positional;
  position = 1;
  is_trailing = false;
  stopped = None;
}

-- any text is a value
any_value : (count : ℕ) (words : List Text) → values_fault (built_rule count) words ≡ []
any_value count [] = refl
any_value count (word ∷ words) = any_value count words

pub or_nothing : (kinds : Kinds) → or_else kinds [] ≡ kinds
or_nothing [] = refl
or_nothing (kind ∷ kinds) = refl

-- what is told at the end of the words
abbrev told : Shape → Kinds → Held → Kinds
told row fault held = or_else fault (or_else [] (or_else (settle_fault row.rules row.args_override_self held)
    (or_else (defaults_fault (settled row.rules held).rows row.rules) (check_fault row (finished row.rules held) false))))

module _ (verb : List ℕ) (count : ℕ) (several : takes_several (built_rule count) ≡ true) where
  first : (word : Text) → IsName word → walked (built_rule count ∷ []) [] (walk_from nothing_held) word ≡ met (word ∷ [])
  unfolding walked
  first word named = rw (not_dashes word named, no_long word named, no_short word named, several) refl

  next : (before : List Text) (word : Text) → IsName word → walked (built_rule count ∷ []) [] (met before) word ≡ met (before ++ word ∷ [])
  unfolding walked
  next before word named = rw (not_dashes word named, no_long word named, no_short word named, several) refl

  all_met : (before words : List Text) → All IsName words → fold (walked (built_rule count ∷ []) []) (met before) words ≡ met (before ++ words)
  all_met before [] named = ap met (sym (append-nil before))
  all_met before (word ∷ words) named =
      ap (λ (w : Walk). fold (walked (built_rule count ∷ []) []) w words) (next before word (All-head IsName word words named))
      ∙ all_met (before ++ word ∷ []) words (All-tail IsName word words named) ∙ ap met (append_assoc before (word ∷ []) words)

  end : (word : Text) (words : List Text) → All IsName (word ∷ words)
      → walk (built_rule count ∷ []) [] nothing_held (word ∷ words) ≡ met (word ∷ words)
  end word words named =
      ap (λ (w : Walk). fold (walked (built_rule count ∷ []) []) w words) (first word (All-head IsName word words named)) ∙ all_met (word ∷ []) words (All-tail IsName word words named)

  -- the words are kept in their order
  pub row_rows : (word : Text) (words : List Text) → All IsName (word ∷ words)
      → rows_after (built_rule count ∷ []) [] (word ∷ words) ≡ row_read (word ∷ words) ∷ []
  row_rows word words named = ap (λ (w : Walk). finished (built_rule count ∷ []) w.held) (end word words named)

  -- no word is a fault by itself
  first_fault : (word : Text) → IsName word → turn_fault (built_row (verb, count)) [] (walk_from nothing_held) word ≡ []
  first_fault word named = rw (not_dashes word named, no_long word named, no_short word named) refl

  next_fault : (before : List Text) (word : Text) → IsName word → turn_fault (built_row (verb, count)) [] (met before) word ≡ []
  next_fault before word named = rw (not_dashes word named, no_long word named, no_short word named, several) refl

  no_fault : (before words : List Text) → All IsName words → walk_fault (built_row (verb, count)) [] (met before) words ≡ []
  unfolding walk_fault
  no_fault before [] named = refl
  no_fault before (word ∷ words) named =
      ap₂ (λ k (w : Walk). or_else k (walk_fault (built_row (verb, count)) [] w words)) (next_fault before word (All-head IsName word words named)) (next before word (All-head IsName word words named))
      ∙ no_fault (before ++ word ∷ []) words (All-tail IsName word words named)

  no_walk_fault : (word : Text) (words : List Text) → All IsName (word ∷ words)
      → walk_fault (built_row (verb, count)) [] (walk_from nothing_held) (word ∷ words) ≡ []
  unfolding walk_fault
  no_walk_fault word words named =
      ap₂ (λ k (w : Walk). or_else k (walk_fault (built_row (verb, count)) [] w words)) (first_fault word (All-head IsName word words named)) (first word (All-head IsName word words named))
      ∙ no_fault (word ∷ []) words (All-tail IsName word words named)

  -- the fault is their number
  told_of : (word : Text) (words : List Text) → told (built_row (verb, count)) [] (met (word ∷ words)).held ≡ range_kinds count count (length (word ∷ words))
  unfolding defaults_fault
  told_of word words = rw (any_value count (word ∷ words)) (ap (λ k. or_else k []) (or_nothing _) ∙ or_nothing _)

  pub row_fault : (word : Text) (words : List Text) → All IsName (word ∷ words)
      → level_fault (built_row (verb, count)) [] nothing_held (word ∷ words) false [] ≡ range_kinds count count (length (word ∷ words))
  row_fault word words named =
      ap₂ (told (built_row (verb, count))) (no_walk_fault word words named) (ap (λ (w : Walk). w.held) (end word words named)) ∙ told_of word words

-- no word is a fault
pub no_words : (verb : List ℕ) (count : ℕ) → level_fault (built_row (verb, count)) [] nothing_held [] false [] ≡ MissingRequiredArgument ∷ []
unfolding walk_fault defaults_fault
no_words verb count = refl
