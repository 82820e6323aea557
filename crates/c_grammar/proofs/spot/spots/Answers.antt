use Rattle.std.proofs.Common.{rules, ◌≡◌, ℕ, ◌-◌, length, List, [], ◌∷◌, ◌++◌, get_or, All, arith, take, drop, ap, subst, sym, ◌∙◌}
use Rattle.std.proofs.lemmas.List.{length-append}
use Rattle.std.proofs.lemmas.List.Elements.{All-tail}
use Rattle.std.specs.Prelude.{map}
use Rattle.c_lexer.specs.Spans.{LiesIn}
use Rattle.c_lexer.specs.declared.token.Token.{Token}
use Rattle.c_lexer.specs.declared.token.TokenKind.TheVariants as kinds
use Rattle.c_grammar.specs.declared.spot.Spot as declared
use Rattle.c_grammar.specs.Spots.{seen, spot_of, spots_from, spots_of}
use Rattle.c_grammar.proofs.SpotSteps.{one_less, one_spot}
use Rattle.c_grammar.proofs.spot.spots.Goals as goal

pub loop-left-preserved : goal.loop-left-preserved
loop-left-preserved c =
    let v = c.loop-left.invariant in
    let text = c.args.tokens.now.text in
    let made = c.loop-left.spots.items in
    let l = one_less c.loop-left.left.now (record { kind = kinds.Word; start = 0; len = 0; pos = record { line = 0; col = 0 } }) c.in-len1-up.len_at_least in
    let number : c.len.result ≡ length made = search rules in
    let is : seen c.spot_of.result ≡ spot_of text (length made) l.t = c.spot_of.ensures ∙ ap (λ (x : List ℕ). spot_of x c.len.result (get_or c.loop-left.left.now 0 (record { kind = kinds.Word; start = 0; len = 0; pos = record { line = 0; col = 0 } }))) c.as_slice-text.ensures ∙ ap (λ (x : Token). spot_of text c.len.result x) l.first ∙ ap (λ (n : ℕ). spot_of text n l.t) number in
    let before : map seen made ++ spots_from text (length made) (l.t ∷ l.ts) ≡ spots_of c.args.tokens.now = ap (λ (x : List Token). map seen made ++ spots_from text (length made) x) (sym l.whole) ∙ v.same in
    let same = one_spot text made c.spot_of.result l.t l.ts (spots_of c.args.tokens.now) is before in
    let items = c.in_ok-push.ensures.items in
    let counts = ap length l.whole in
    record {
      same = ap (λ (x : List declared.Spot). map seen x ++ spots_from text (length x) (take (length c.loop-left.left.now - 1) (drop 1 c.loop-left.left.now))) items ∙ ap (λ (x : List Token). map seen (made ++ c.spot_of.result ∷ []) ++ spots_from text (length (made ++ c.spot_of.result ∷ [])) x) l.rest ∙ same;
      count = omega (arith, v.count, ap length items, length-append made (c.spot_of.result ∷ []), ap length l.rest, counts);
      within = subst (λ (x : List Token). All (LiesIn text) x) (sym l.rest) (All-tail (LiesIn text) l.t l.ts (subst (λ (x : List Token). All (LiesIn text) x) l.whole v.within));
    }
