-- What the front of a file tells of the whole.
use Rattle.std.proofs.Common.{◌≡◌, ℕ, ◌+◌, ◌%◌, ◌<◌, ◌≤◌, Bool, true, false, not, ◌||◌, eqb, ltb, List, ◌∷◌, take, length, Some, refl, sym, ap, ◌∙◌, ⊎_elim, true≢false, arith}
use Rattle.std.proofs.lemmas.List.{get_or-drop, get_or-take, length-take, take_all}
use Rattle.std.proofs.lemmas.Bool.{ltb-false, le-ltb, lt-ltb, cases_lt}
use Rattle.std.proofs.lemmas.Bool.Decides.{nat_tests}
use Rattle.image_format.specs.declared.header.Counts.{Counts}
use Rattle.image_format.specs.declared.refusal.ImageRefusal.{ImageRefusal}
use Rattle.image_format.specs.declared.refusal.ImageRefusal.TheVariants.{Short, Magic, Version, Shape, Extra}
use Rattle.image_format.specs.Parts.{file_word, counts_in, file_bytes_of, first_entry_of, entries_in, entries_part}
use Rattle.image_format.specs.Rules.{first_broken, magic, image_rules, entries_rules, first_refusal}
use Rattle.image_format.proofs.EntryBytes.{all_kept}
use Rattle.image_runs.specs.declared.limits.TheConstants.{IMAGE_BYTES}
use Rattle.image_runs.specs.Fronts.{ImagesFit, FrontsAreRefusedAlike}

-- a number within the front is that of the whole
word_of_front : (n place : ℕ) (file : List ℕ) → place + 4 ≤ n → file_word (take n file) place ≡ file_word file place
word_of_front n place file within =
    let at = λ (k : ℕ) (low : k < 4). get_or-drop place (take n file) k 0 ∙ get_or-take n file (place + k) 0 (omega arith) ∙ sym (get_or-drop place file k 0) in
    let a = at 0 (omega arith) in
    let b = at 1 (omega arith) in
    let c = at 2 (omega arith) in
    let d = at 3 (omega arith) in
    rw (a, b, c, d) refl

-- ---- lists of rules

module _ {A : Type 0} where
  kept_first : (test : Bool) (told : A) (rules : List (Bool × A)) → test ≡ false → first_broken ((test, told) ∷ rules) ≡ first_broken rules
  kept_first true told rules kept = absurd (true≢false kept)
  kept_first false told rules kept = refl

  broken_first : (test : Bool) (told : A) (rules : List (Bool × A)) → test ≡ true → first_broken ((test, told) ∷ rules) ≡ Some told
  broken_first true told rules broken = refl
  broken_first false told rules broken = absurd (true≢false (sym broken))

  same_first : (test : Bool) (told : A) (rules others : List (Bool × A)) → (test ≡ false → first_broken rules ≡ first_broken others)
      → first_broken ((test, told) ∷ rules) ≡ first_broken ((test, told) ∷ others)
  same_first true told rules others same = refl
  same_first false told rules others same = same refl

-- the rules of a file of this length whose beginning tells this, from the end to the front
module _ (counts : Counts) (given : ℕ) (rest : List (Bool × ImageRefusal)) where
  abbrev from_length : List (Bool × ImageRefusal)
  from_length = (ltb given (file_bytes_of counts), Short given) ∷ (ltb (file_bytes_of counts) given, Extra (file_bytes_of counts)) ∷ rest

  abbrev from_sites : List (Bool × ImageRefusal)
  from_sites = (ltb 131072 counts.sites, Shape 16) ∷ from_length

  abbrev from_memory : List (Bool × ImageRefusal)
  from_memory = (ltb 16777216 counts.memory || not (eqb (counts.memory % 4) 0), Shape 12) ∷ from_sites

  abbrev from_words : List (Bool × ImageRefusal)
  from_words = (ltb 16777216 counts.words, Shape 8) ∷ from_memory

  abbrev from_version : ℕ → List (Bool × ImageRefusal)
  from_version version = (not (eqb version 1), Version version) ∷ from_words

  abbrev from_magic : ℕ → ℕ → List (Bool × ImageRefusal)
  from_magic first version = (not (eqb first magic), Magic) ∷ from_version version

  abbrev rules_of : ℕ → ℕ → List (Bool × ImageRefusal)
  rules_of first version = (ltb given 20, Short given) ∷ from_magic first version

memory_few : (memory : ℕ) → (ltb 16777216 memory || not (eqb (memory % 4) 0)) ≡ false → memory ≤ 16777216
memory_few memory kept = grind (arith, nat_tests)

fits : (counts : Counts) → ltb 16777216 counts.words ≡ false → (ltb 16777216 counts.memory || not (eqb (counts.memory % 4) 0)) ≡ false
    → ltb 131072 counts.sites ≡ false → file_bytes_of counts ≤ IMAGE_BYTES
fits counts words memory sites =
    let w = ltb-false _ _ words in
    let m = memory_few counts.memory memory in
    let s = ltb-false _ _ sites in
    omega (arith, w, m, s)

-- two files that are both too long are refused alike, where they begin alike
module _ (counts : Counts) (a b : ℕ) (xs ys : List (Bool × ImageRefusal)) (long : IMAGE_BYTES < a) (longer : IMAGE_BYTES < b) where
  extra : (n : ℕ) (more : List (Bool × ImageRefusal)) → IMAGE_BYTES < n → file_bytes_of counts ≤ IMAGE_BYTES
      → first_broken (from_length counts n more) ≡ Some (Extra (file_bytes_of counts))
  extra n more above few =
      kept_first (ltb n (file_bytes_of counts)) (Short n) ((ltb (file_bytes_of counts) n, Extra (file_bytes_of counts)) ∷ more) (le-ltb n (file_bytes_of counts) (omega arith))
      ∙ broken_first (ltb (file_bytes_of counts) n) (Extra (file_bytes_of counts)) more (lt-ltb (file_bytes_of counts) n (omega arith))

  alike_from_words : first_broken (from_words counts a xs) ≡ first_broken (from_words counts b ys)
  alike_from_words =
      same_first (ltb 16777216 counts.words) (Shape 8) (from_memory counts a xs) (from_memory counts b ys) (λ words.
      same_first (ltb 16777216 counts.memory || not (eqb (counts.memory % 4) 0)) (Shape 12) (from_sites counts a xs) (from_sites counts b ys) (λ memory.
      same_first (ltb 131072 counts.sites) (Shape 16) (from_length counts a xs) (from_length counts b ys) (λ sites.
      let few = fits counts words memory sites in extra a xs long few ∙ sym (extra b ys longer few))))

  too_long : (first version : ℕ) → first_broken (rules_of counts a xs first version) ≡ first_broken (rules_of counts b ys first version)
  too_long first version =
      kept_first (ltb a 20) (Short a) (from_magic counts a xs first version) (le-ltb a 20 (omega arith))
      ∙ same_first (not (eqb first magic)) Magic (from_version counts a xs version) (from_version counts b ys version) (λ _.
      same_first (not (eqb version 1)) (Version version) (from_words counts a xs) (from_words counts b ys) (λ _. alike_from_words))
      ∙ sym (kept_first (ltb b 20) (Short b) (from_magic counts b ys first version) (le-ltb b 20 (omega arith)))

pub images_fit : ImagesFit
images_fit bytes none =
    let rules = all_kept (image_rules bytes) none in
    let few = fits (counts_in bytes) rules.1.1.1.0 rules.1.1.1.1.0 rules.1.1.1.1.1.0 in
    let extra = ltb-false _ _ rules.1.1.1.1.1.1.1.0 in
    omega (arith, few, extra)

entries_of : List ℕ → List (Bool × ImageRefusal)
entries_of bytes = let counts = counts_in bytes in entries_rules counts.words (first_entry_of counts) (entries_in (entries_part counts bytes))

-- what a file's rules are
rules_are : (bytes : List ℕ) → first_refusal bytes ≡ first_broken (rules_of (counts_in bytes) (length bytes) (entries_of bytes) (file_word bytes 0) (file_word bytes 4))
unfolding entries_of
rules_are bytes = refl

counts_of_front : (n : ℕ) (file : List ℕ) → 20 ≤ n → counts_in (take n file) ≡ counts_in file
counts_of_front n file within =
    let a = word_of_front n 8 file (omega arith) in
    let b = word_of_front n 12 file (omega arith) in
    let c = word_of_front n 16 file (omega arith) in
    cc

alike : (file front : List ℕ) → IMAGE_BYTES + 1 < length file → front ≡ take (IMAGE_BYTES + 1) file → first_refusal front ≡ first_refusal file
alike file front long is =
    let n = IMAGE_BYTES + 1 in
    let given : IMAGE_BYTES < length front = omega (arith, ap length is, length-take n file) in
    let counts : counts_in front ≡ counts_in file = ap counts_in is ∙ counts_of_front n file (omega arith) in
    let first : file_word front 0 ≡ file_word file 0 = ap (λ bytes. file_word bytes 0) is ∙ word_of_front n 0 file (omega arith) in
    let version : file_word front 4 ≡ file_word file 4 = ap (λ bytes. file_word bytes 4) is ∙ word_of_front n 4 file (omega arith) in
    rules_are front
    ∙ ap (λ cs. first_broken (rules_of cs (length front) (entries_of front) (file_word front 0) (file_word front 4))) counts
    ∙ ap (λ w. first_broken (rules_of (counts_in file) (length front) (entries_of front) w (file_word front 4))) first
    ∙ ap (λ w. first_broken (rules_of (counts_in file) (length front) (entries_of front) (file_word file 0) w)) version
    ∙ too_long (counts_in file) (length front) (length file) (entries_of front) (entries_of file) given (omega arith) (file_word file 0) (file_word file 4)
    ∙ sym (rules_are file)

pub fronts_are_refused_alike : FrontsAreRefusedAlike
fronts_are_refused_alike file = ⊎_elim
    (λ long. alike file (take (IMAGE_BYTES + 1) file) long refl)
    (λ short. ap first_refusal (take_all (IMAGE_BYTES + 1) file short))
    (cases_lt (IMAGE_BYTES + 1) (length file))
