-- What clap makes of words, where a table has rows and nothing else.
use Rattle.std.proofs.Common.{◌≡◌, ◌∙◌, ◌&&◌, ◌++◌, Bool, true, false, List, [], ◌∷◌, map, Some, None, option_map, is_some, refl, sym, ap, ap₂}
use Rattle.std.specs.Prelude.{if◌then◌else◌}
use Rattle.std.specs.List.{find, fold}
use Rattle.clap.specs.Kinds.{Kinds, or_else}
use Rattle.clap.specs.Faults.{built_fault, check_fault, defaults_fault, entered_fault, level_fault, settle_fault, turn_fault, walk_fault}
use Rattle.clap.specs.Walk.{Text, Walk, answers_to, finished, nothing_held, rows_after, settled, walk, walk_from, walked}
use Rattle.clap.specs.Simple.{App, Shape, built, entered, label_of}
use Rattle.clap.specs.declared.error.kind.ErrorKind.TheVariants.{DisplayHelp, InvalidSubcommand, UnknownArgument}
use Rattle.clap.proofs.WalkLemmas.{find-map, walk_stopped}
use Rattle.command_words.specs.Command.{IsName}
use Rattle.command_words.specs.Table.{table}
use Rattle.command_words.proofs.Leaves.{no_long, no_short, not_dashes, or_nothing}

-- a built table, with these rows
abbrev pub with_rows : List Shape → App
with_rows subs = record { top = (built table).top; subs = subs }

-- a verb was met, and these words after it
abbrev after_verb : Text → List Text → Walk
after_verb verb seen = record (walk_from nothing_held) { stopped = Some (verb, seen) }

-- what is told at the end of the words
abbrev told : App → Kinds → Walk → Kinds
told app fault end = or_else fault (or_else (entered_fault app end.stopped)
    (or_else (settle_fault app.top.rules app.top.args_override_self end.held)
    (or_else (defaults_fault (settled app.top.rules end.held).rows app.top.rules)
    (check_fault app.top (finished app.top.rules end.held) (is_some (entered app end.stopped))))))

-- no word asks for help
no_help : (asks : Bool) → or_else (if asks && false then DisplayHelp ∷ InvalidSubcommand ∷ [] else []) [] ≡ []
no_help true = refl
no_help false = refl

module _ (subs : List Shape) (verb : Text) where
  -- a verb of no row is a fault
  pub unknown : (rest : List Text) → IsName verb → find (λ s. answers_to verb (label_of s)) subs ≡ None
      → built_fault (with_rows subs) nothing_held (verb ∷ rest) ≡ UnknownArgument ∷ InvalidSubcommand ∷ []
  unfolding walk_fault
  unknown rest named none =
      let no_name : find (answers_to verb) (map label_of subs) ≡ None = sym (find-map (answers_to verb) label_of subs) ∙ ap (option_map label_of) none in
      let turn : turn_fault (built table).top (map label_of subs) (walk_from nothing_held) verb ≡ UnknownArgument ∷ InvalidSubcommand ∷ [] =
      rw (no_name, not_dashes verb named, no_long verb named, no_short verb named) refl in
      let names = map label_of subs in
      let top = (built table).top in
      ap (λ (k : Kinds). told (with_rows subs) (or_else k (walk_fault top names (walked top.rules names (walk_from nothing_held) verb) rest))
      (walk top.rules names nothing_held (verb ∷ rest))) turn

  no_fault : (seen rest : List Text) → walk_fault (built table).top (map label_of subs) (after_verb verb seen) rest ≡ []
  unfolding walk_fault walked
  no_fault seen [] = refl
  no_fault seen (word ∷ rest) = no_fault (seen ++ word ∷ []) rest

  module _ (row : Shape) (label : label_of row ≡ (verb, [])) (found : find (λ s. answers_to verb (label_of s)) subs ≡ Some row) where
    name : find (answers_to verb) (map label_of subs) ≡ Some (verb, [])
    name = sym (find-map (answers_to verb) label_of subs) ∙ ap (option_map label_of) found ∙ ap Some label

    step : walked (built table).top.rules (map label_of subs) (walk_from nothing_held) verb ≡ after_verb verb []
    unfolding walked
    step = rw name refl

    end : (rest : List Text) → walk (built table).top.rules (map label_of subs) nothing_held (verb ∷ rest) ≡ after_verb verb rest
    end rest = ap (λ (w : Walk). fold (walked (built table).top.rules (map label_of subs)) w rest) step
        ∙ sym (walk_stopped (built table).top.rules (map label_of subs) (walk_from nothing_held) verb [] rest)

    verb_fault : turn_fault (built table).top (map label_of subs) (walk_from nothing_held) verb ≡ []
    verb_fault = rw name (no_help _)

    no_walk_fault : (rest : List Text) → walk_fault (built table).top (map label_of subs) (walk_from nothing_held) (verb ∷ rest) ≡ []
    unfolding walk_fault
    no_walk_fault rest =
        ap₂ (λ (k : Kinds) (w : Walk). or_else k (walk_fault (built table).top (map label_of subs) w rest)) verb_fault step ∙ no_fault [] rest

    told_of : (rest : List Text) → told (with_rows subs) [] (after_verb verb rest) ≡ level_fault row [] nothing_held rest false []
    unfolding defaults_fault
    told_of rest = rw found (or_nothing _)

    -- the words after a verb are read by its row
    pub known : (rest : List Text) → built_fault (with_rows subs) nothing_held (verb ∷ rest) ≡ level_fault row [] nothing_held rest false []
    known rest = ap₂ (told (with_rows subs)) (no_walk_fault rest) (end rest) ∙ told_of rest

    pub rows_known : (rest : List Text)
        → entered (with_rows subs) (walk (built table).top.rules (map label_of subs) nothing_held (verb ∷ rest)).stopped ≡ Some (row.name, rows_after row.rules [] rest)
    rows_known rest = ap (λ (w : Walk). entered (with_rows subs) w.stopped) (end rest) ∙ ap (option_map (λ (s : Shape). (s.name, rows_after s.rules [] rest))) found
