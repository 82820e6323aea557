use Rattle.std.proofs.Common.{◌≡◌, ◌<◌, ◌≤◌, ℕ, List, [], ◌∷◌, Bor, map, length, get_or, arith, refl}
use Rattle.command_words.proofs.words.asked.Goals as goal

-- lists of two and of four, by their elements
two : (words : List (Bor (List ℕ))) (word : Bor (List ℕ)) → 2 ≤ length words → length words < 3
    → map (λ w. w.now) words ≡ (get_or words 0 word).now ∷ (get_or words 1 word).now ∷ []
two [] word low high = absurd (omega arith)
two (a ∷ []) word low high = absurd (omega arith)
two (a ∷ b ∷ []) word low high = refl
two (a ∷ b ∷ c ∷ words) word low high = absurd (omega arith)

four : (words : List (Bor (List ℕ))) (word : Bor (List ℕ)) → 4 ≤ length words → length words < 5
    → map (λ w. w.now) words ≡ (get_or words 0 word).now ∷ (get_or words 1 word).now ∷ (get_or words 2 word).now ∷ (get_or words 3 word).now ∷ []
four [] word low high = absurd (omega arith)
four (a ∷ []) word low high = absurd (omega arith)
four (a ∷ b ∷ []) word low high = absurd (omega arith)
four (a ∷ b ∷ c ∷ []) word low high = absurd (omega arith)
four (a ∷ b ∷ c ∷ d ∷ []) word low high = refl
four (a ∷ b ∷ c ∷ d ∷ e ∷ words) word low high = absurd (omega arith)

-- what stands past the end of a list
abbrev past : Bor (List ℕ)
past = record { ref_ptr = (0, 0); now = [] }

pub returns-in-len2-clause-found : goal.returns-in-len2-clause-found
returns-in-len2-clause-found c = rw (two c.args.rest.now past (omega arith) (omega arith)) c.build_asked.ensures.found

pub returns-in-len4-clause-found : goal.returns-in-len4-clause-found
returns-in-len4-clause-found c = rw (four c.args.rest.now past (omega arith) (omega arith)) c.run_asked.ensures.found

pub returns-in-len4-clause-none : goal.returns-in-len4-clause-none
returns-in-len4-clause-none c = rw (four c.args.rest.now past (omega arith) (omega arith)) c.run_asked.ensures.none
