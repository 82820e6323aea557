-- Branches of which the code is known.
use Rattle.std.proofs.Common.{◌≡◌, ℕ, List, [], ◌++◌, sym, subst}
use Rattle.std.specs.Prelude.{Result, OnOk}
use Rattle.code_lines.specs.declared.word.Word.{Word}
use Rattle.code_stacks.specs.Places.{Layout}
use Rattle.code_pieces.specs.declared.piece.Entry.{Entry}
use Rattle.code_pieces.specs.declared.piece.Piece.{Piece}
use Rattle.code_pieces.specs.Pieces.{Appends, Consists, all_entries, all_words}
use Rattle.code_pieces.proofs.Growing.{stays_without_sites}
use Rattle.expression_words.specs.Branches.{behind_code}

pub chosen_as : {E : Type 0} (r : Result Unit E) (l : Layout) (depth weight : ℕ) (old new this other : List Piece) (xs ys : List Word) (es fs : List Entry) → Consists this xs es → Consists other ys fs
    → OnOk r (Appends old new (behind_code l depth weight (all_words this) (all_words other)) (all_entries this ++ all_entries other)) → OnOk r (Appends old new (behind_code l depth weight xs ys) (es ++ fs))
chosen_as r l depth weight old new this other xs ys es fs one two is =
    subst (λ (zs : List Word). OnOk r (Appends old new (behind_code l depth weight zs ys) (es ++ fs))) one.as_words
    (subst (λ (zs : List Word). OnOk r (Appends old new (behind_code l depth weight (all_words this) zs) (es ++ fs))) two.as_words
    (subst (λ (gs : List Entry). OnOk r (Appends old new (behind_code l depth weight (all_words this) (all_words other)) (gs ++ fs))) one.as_entries
    (subst (λ (gs : List Entry). OnOk r (Appends old new (behind_code l depth weight (all_words this) (all_words other)) (all_entries this ++ gs))) two.as_entries is)))

-- code to which nothing is appended
pub stays_as : (pieces : List Piece) (words : List Word) (entries : List Entry) → words ≡ [] → entries ≡ [] → Appends pieces pieces words entries
stays_as pieces words entries none no_entries =
    subst (λ (ws : List Word). Appends pieces pieces ws entries) (sym none) (subst (λ (es : List Entry). Appends pieces pieces [] es) (sym no_entries) (stays_without_sites pieces))
