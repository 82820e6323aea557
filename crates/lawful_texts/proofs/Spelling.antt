-- In a source that is spelled and has no fault each array has an element, and no `&` stands before `*`.
use Rattle.std.proofs.Common.{◌≡◌, List, [], ◌∷◌, Bool, true, false, refl, arith}
use Rattle.std.specs.Prelude.{◌||◌, None}
use Rattle.std.specs.List.{list_all}
use Rattle.sat_base.specs.declared.name.At.{At}
use Rattle.c_grammar.specs.Nodes as a
use Rattle.c_grammar.specs.Parts.{each}
use Rattle.c_seen.specs.declared.seen.Seen.{Seen}
use Rattle.c_seen.specs.declared.seen.Seen.TheVariants as seen
use Rattle.c_seen.specs.Sources.{end_of, seen_of}
use Rattle.c_faults.specs.Rows.{at_if}
use Rattle.lawful_sources.proofs.Passing.{Each, none, next, joined}
use Rattle.lawful_laws.proofs.Functions.{both, left, right}
use Rattle.lawful_names.specs.Spelled.{is_spelled}
use Rattle.lawful_names.proofs.Clean.{Clean, is_clean, when-clean, never}
use Rattle.lawful_names.proofs.Faultless.{seen-clean}
use Rattle.lawful_names.proofs.Sources.{names_at_start}
use Rattle.lawful_texts.specs.Laws.{TextsAreSpelled}
use Rattle.lawful_texts.proofs.Allowed.{passes, Claim, own, items-pass, by_rule}
use Rattle.lawful_texts.proofs.Walk.{Within, walked}

good-length : (bad good : Bool) (at : At) → (bad || good) ≡ true → at_if bad at ≡ None → good ≡ true
good-length true good at p q = absurd (never at q)
good-length false good at p q = p

spelled-where : (s : Seen) → passes s ≡ true → Clean s → is_spelled s ≡ true
spelled-where (seen.Place place) p c = p
spelled-where (seen.Object one) p c = good-length one.has_bad_length _ one.at p c.length
spelled-where s p c = refl

all-spelled : (list : List Seen) → list_all passes list ≡ true → list_all is_clean list ≡ true → list_all is_spelled list ≡ true
all-spelled [] p q = refl
all-spelled (s ∷ rest) p q =
    both (is_spelled s) _ (spelled-where s (left (passes s) (list_all passes rest) p) (when-clean s (left (is_clean s) (list_all is_clean rest) q)))
    (all-spelled rest (right (passes s) (list_all passes rest) p) (right (is_clean s) (list_all is_clean rest) q))

pub texts-spelled : TextsAreSpelled
texts-spelled program tokens typed spells is =
    let all : Within Claim own (each a.item program.items) _ = walked Claim own (λ x. 0) (λ t x same. omega arith) (λ n early late i j r p q. by_rule r p q) spells.items.spelled in
    let passed : Each passes (seen_of program) = joined passes _ _ (items-pass program.items all.all (names_at_start program) [] 0) (next passes (end_of program) [] refl (none passes)) in
    all-spelled (seen_of program) passed.all (seen-clean program is.faultless)
