-- Code that grows, step by step.
use Rattle.std.proofs.Common.{◌≡◌, List, [], ◌++◌, refl, sym, ap, subst, ◌∙◌, append_assoc}
use Rattle.std.specs.Prelude.{Result, Ok, Err, OnOk}
use Rattle.std.proofs.lemmas.List.{append-nil}
use Rattle.code_lines.specs.declared.word.Word.{Word}
use Rattle.code_pieces.specs.declared.piece.Entry.{Entry}
use Rattle.code_pieces.specs.declared.piece.Piece.{Piece}
use Rattle.code_pieces.specs.Pieces.{Appends, Consists, Extends, all_entries, all_words}

adds_then : {A : Type 0} (old mid new xs ys : List A) → mid ≡ old ++ xs → new ≡ mid ++ ys → new ≡ old ++ (xs ++ ys)
adds_then old mid new xs ys first second = second ∙ ap (λ zs. zs ++ ys) first ∙ append_assoc old xs ys

pub extends_then : {old mid new : List Piece} {xs ys : List Word} → Extends old mid xs → Extends mid new ys → Extends old new (xs ++ ys)
extends_then {old} {mid} {new} {xs} {ys} first second = record {
  as_words = adds_then (all_words old) (all_words mid) (all_words new) xs ys first.as_words second.as_words;
  as_entries = second.as_entries ∙ first.as_entries;
}

pub on_extends_then : {E : Type 0} (r : Result Unit E) (old mid new : List Piece) (xs ys : List Word) → Extends old mid xs → OnOk r (Extends mid new ys) → OnOk r (Extends old new (xs ++ ys))
on_extends_then (Ok t) old mid new xs ys first second = extends_then first second
on_extends_then (Err e) old mid new xs ys first second = tt

-- the same of words that are known to be those of both
pub on_extends_as : {E : Type 0} (r : Result Unit E) (old mid new : List Piece) (xs ys all : List Word) → Extends old mid xs → OnOk r (Extends mid new ys) → all ≡ xs ++ ys → OnOk r (Extends old new all)
on_extends_as r old mid new xs ys all first second is = subst (λ words. OnOk r (Extends old new words)) (sym is) (on_extends_then r old mid new xs ys first second)

-- ---- code with sites

pub appends_then : {old mid new : List Piece} {xs ys : List Word} {es fs : List Entry} → Appends old mid xs es → Appends mid new ys fs → Appends old new (xs ++ ys) (es ++ fs)
appends_then {old} {mid} {new} {xs} {ys} {es} {fs} first second = record {
  as_words = adds_then (all_words old) (all_words mid) (all_words new) xs ys first.as_words second.as_words;
  as_entries = adds_then (all_entries old) (all_entries mid) (all_entries new) es fs first.as_entries second.as_entries;
}

-- words of the code's own are words without sites
pub without_sites : {old new : List Piece} {xs : List Word} → Extends old new xs → Appends old new xs []
without_sites {old} {new} first = record { as_words = first.as_words; as_entries = first.as_entries ∙ sym (append-nil (all_entries old)) }

pub on_without_sites : {E : Type 0} (r : Result Unit E) (old new : List Piece) (xs : List Word) → OnOk r (Extends old new xs) → OnOk r (Appends old new xs [])
on_without_sites (Ok t) old new xs is = without_sites is
on_without_sites (Err e) old new xs is = tt

pub on_appends_then : {E : Type 0} (r : Result Unit E) (old mid new : List Piece) (xs ys : List Word) (es fs : List Entry) → Appends old mid xs es → OnOk r (Appends mid new ys fs)
    → OnOk r (Appends old new (xs ++ ys) (es ++ fs))
on_appends_then (Ok t) old mid new xs ys es fs first second = appends_then first second
on_appends_then (Err e) old mid new xs ys es fs first second = tt

-- own words behind those of sites, and before them
pub on_appends_own : {E : Type 0} (r : Result Unit E) (old mid new : List Piece) (xs ys : List Word) (es : List Entry) → Appends old mid xs es → OnOk r (Extends mid new ys)
    → OnOk r (Appends old new (xs ++ ys) es)
on_appends_own (Ok t) old mid new xs ys es first second = record {
  as_words = adds_then (all_words old) (all_words mid) (all_words new) xs ys first.as_words second.as_words;
  as_entries = second.as_entries ∙ first.as_entries;
}
on_appends_own (Err e) old mid new xs ys es first second = tt

pub on_own_appends : {E : Type 0} (r : Result Unit E) (old mid new : List Piece) (xs ys : List Word) (es : List Entry) → Extends old mid xs → OnOk r (Appends mid new ys es)
    → OnOk r (Appends old new (xs ++ ys) es)
on_own_appends (Ok t) old mid new xs ys es first second = record {
  as_words = adds_then (all_words old) (all_words mid) (all_words new) xs ys first.as_words second.as_words;
  as_entries = second.as_entries ∙ ap (λ zs. zs ++ es) first.as_entries;
}
on_own_appends (Err e) old mid new xs ys es first second = tt

pub ruleset growing = (on_extends_then, on_without_sites, on_appends_then, on_appends_own, on_own_appends)

-- ---- the same words, said otherwise

pub stays : (pieces : List Piece) → Extends pieces pieces []
stays pieces = record { as_words = sym (append-nil (all_words pieces)); as_entries = refl }

pub on_extends_same : {E : Type 0} (r : Result Unit E) (old new : List Piece) (xs all : List Word) → OnOk r (Extends old new xs) → all ≡ xs → OnOk r (Extends old new all)
on_extends_same r old new xs all extends is = subst (λ words. OnOk r (Extends old new words)) (sym is) extends

pub on_appends_same : {E : Type 0} (r : Result Unit E) (old new : List Piece) (xs all : List Word) (es : List Entry) → OnOk r (Appends old new xs es) → all ≡ xs → OnOk r (Appends old new all es)
on_appends_same r old new xs all es appends is = subst (λ words. OnOk r (Appends old new words es)) (sym is) appends

pub stays_without_sites : (pieces : List Piece) → Appends pieces pieces [] []
stays_without_sites pieces = without_sites (stays pieces)

-- ---- code from nothing

pub consists : (pieces : List Piece) (words : List Word) (entries : List Entry) → Appends [] pieces words entries → Consists pieces words entries
consists pieces words entries is = record { as_words = is.as_words; as_entries = is.as_entries }

pub consists_own : (pieces : List Piece) (words : List Word) → Extends [] pieces words → Consists pieces words []
consists_own pieces words is = record { as_words = is.as_words; as_entries = is.as_entries }

pub consists_then : (old new : List Piece) (xs ys : List Word) (es : List Entry) → Consists old xs es → Extends old new ys → Consists new (xs ++ ys) es
consists_then old new xs ys es is more = record { as_words = more.as_words ∙ ap (λ zs. zs ++ ys) is.as_words; as_entries = more.as_entries ∙ is.as_entries }
