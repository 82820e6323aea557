use Rattle.std.proofs.Common.{◌≡◌, ◌⊎◌, Some, ◌+◌, length, drop, IfOk, sym, ap, subst, ◌∙◌, arith}
use Rattle.std.proofs.lemmas.List.{length-take-le}
use Rattle.c_lexer.specs.Directive.{line_bytes}
use Rattle.c_lexer.specs.Judging.{IsJudged, Follows}
use Rattle.c_lexer.specs.Lexeme.{lexeme_of}
use Rattle.c_lexer.specs.Text.{Piece, fault_at}
use Rattle.c_lexer.specs.Views.{names_of}
use Rattle.c_lexer.specs.declared.token.LexRefusal.TheVariants.{Memory}
use Rattle.c_lexer.proofs.Judged.{hash_at, plain_at, directive_len}
use Rattle.c_lexer.proofs.lexer.Lexer.next.Goals as goal

pub returns-then-is_hash-clause-judged : goal.returns-then-is_hash-clause-judged
returns-then-is_hash-clause-judged c =
    let is : c.lexeme_of-piece.result ≡ lexeme_of (drop c.args.at.at c.args.at.text.now) = c.lexeme_of-piece.ensures.value ∙ ap lexeme_of c.rest.ensures in
    subst (λ (p : Piece). IsJudged c.args.self.now p c.directive.new.self c.directive.result) (sym (hash_at c.args.at.text.now c.args.at.at c.lexeme_of-piece.result is (sym c.is_hash.ensures ∙ c.if-is_hash.true))) c.directive.ensures.judged

pub returns-then-is_hash-clause-len : goal.returns-then-is_hash-clause-len
returns-then-is_hash-clause-len c =
    let is : c.lexeme_of-piece.result ≡ lexeme_of (drop c.args.at.at c.args.at.text.now) = c.lexeme_of-piece.ensures.value ∙ ap lexeme_of c.rest.ensures in
    subst (λ (p : Piece). IfOk c.directive.result (λ len. len ≡ length p.bytes)) (sym (hash_at c.args.at.text.now c.args.at.at c.lexeme_of-piece.result is (sym c.is_hash.ensures ∙ c.if-is_hash.true)))
    (directive_len c.args.at.text.now c.args.at.at (line_bytes (drop (c.args.at.at + 1) c.args.at.text.now)) c.directive.result c.directive.ensures.len c.directive.ensures.within)

pub returns-in-Ok-clause-judged : goal.returns-in-Ok-clause-judged
returns-in-Ok-clause-judged c =
    let is : c.lexeme_of-piece.result ≡ lexeme_of (drop c.args.at.at c.args.at.text.now) = c.lexeme_of-piece.ensures.value ∙ ap lexeme_of c.rest.ensures in
    subst (λ (p : Piece). Follows c.args.self.now p c.piece.new.self) (sym (plain_at c.args.at.text.now c.args.at.at c.lexeme_of-piece.result is (sym c.is_hash.ensures ∙ c.if-is_hash.false))) c.in-Ok.ensures

pub returns-in-Ok-clause-len : goal.returns-in-Ok-clause-len
returns-in-Ok-clause-len c =
    let is : c.lexeme_of-piece.result ≡ lexeme_of (drop c.args.at.at c.args.at.text.now) = c.lexeme_of-piece.ensures.value ∙ ap lexeme_of c.rest.ensures in
    let rest : length c.rest.result.now ≡ length (drop c.args.at.at c.args.at.text.now) = ap length c.rest.ensures in
    subst (λ (p : Piece). c.lexeme_of-piece.result.len ≡ length p.bytes) (sym (plain_at c.args.at.text.now c.args.at.at c.lexeme_of-piece.result is (sym c.is_hash.ensures ∙ c.if-is_hash.false)))
    (sym (length-take-le c.lexeme_of-piece.result.len (drop c.args.at.at c.args.at.text.now) (omega (arith, rest, c.lexeme_of-piece.ensures.within))))

pub returns-in-Err-clause-judged : goal.returns-in-Err-clause-judged
returns-in-Err-clause-judged c =
    let is : c.lexeme_of-piece.result ≡ lexeme_of (drop c.args.at.at c.args.at.text.now) = c.lexeme_of-piece.ensures.value ∙ ap lexeme_of c.rest.ensures in
    subst (λ (p : Piece). (c.in-Err.refusal ≡ Memory) ⊎ (fault_at (names_of c.args.self.now.names) c.args.self.now.on_line (length c.args.self.now.list) p ≡ Some c.in-Err.refusal))
    (sym (plain_at c.args.at.text.now c.args.at.at c.lexeme_of-piece.result is (sym c.is_hash.ensures ∙ c.if-is_hash.false))) c.in-Err.ensures
