use Rattle.std.proofs.Common.{◌≡◌, ℕ, ◌+◌, ◌-◌, ◌∙◌, arith, take, drop, sym, ap, subst}
use Rattle.c_lexer.specs.declared.lexeme.Kind.{Kind}
use Rattle.c_lexer.specs.declared.lexeme.Kind.TheVariants.{Word}
use Rattle.c_lexer.specs.declared.lexeme.Lexeme.{Lexeme}
use Rattle.c_lexer.specs.Judging.{IsJudged, plain_piece}
use Rattle.c_lexer.specs.Text.{word_kind}
use Rattle.c_lexer.specs.Views.{names_of}
use Rattle.c_lexer.proofs.Judged.{judged_word}
use Rattle.c_lexer.proofs.lexer.Lexer.piece.Goals as goal

pub returns-in-Word : goal.returns-in-Word
returns-in-Word c =
    let word : Lexeme = record { kind = Word; len = c.args.piece.len } in
    let same : c.args.piece ≡ word = ap (λ (k : Kind). record c.args.piece { kind = k }) c.in-Word.is in
    let long : c.args.at.at + c.args.piece.len - c.args.at.at ≡ c.args.piece.len = omega arith in
    let kind = c.word_kind.ensures ∙ ap (λ (n : ℕ). word_kind (names_of c.args.self.now.names) (take n (drop c.args.at.at c.args.at.text.now))) long in
    subst (λ (l : Lexeme). IsJudged c.args.self.now (plain_piece c.args.at.text.now c.args.at.at l) c.push.new.self c.push.result) (sym same)
    (judged_word c.args.self.now c.push.new.self c.args.at.text.now c.args.at.at c.args.piece.len c.word_kind.result c.args.at.pos c.push.result kind c.requires.within c.args.at.place c.push.ensures)
