-- What is told of a text that is refused: a place, and words.
use Rattle.std.specs.Prelude.{◌≡◌, ℕ, List, [], ◌∷◌, ◌++◌, codes}
use Rattle.std.specs.List.{flat_map}
use Rattle.std.specs.Fmt.{decimal}
use Rattle.sat_base.specs.Faults.{text_of}
use Rattle.sat_base.specs.declared.position.Pos.{Pos}
use Rattle.sat_base.specs.Position.{first_position}
use Rattle.c_lexer.specs.declared.token.LexRefusal.{LexRefusal}
use Rattle.c_lexer.specs.declared.token.LexRefusal.TheVariants as lexical
use Rattle.c_grammar.specs.declared.refusal.ReadRefusal.{ReadRefusal}
use Rattle.c_grammar.specs.declared.refusal.ReadRefusal.TheVariants as reading
use Rattle.sat_compile.specs.declared.refusal.LexKind.{LexKind}
use Rattle.sat_compile.specs.declared.refusal.LexKind.TheVariants.{BadByte, OpenComment, BadNumber, BadDirective, TooManyTokens}
use Rattle.sat_compile.specs.declared.refusal.CompileRefusal.{CompileRefusal}
use Rattle.sat_compile.specs.declared.refusal.CompileRefusal.TheVariants.{TooLong, Lex, Syntax, TooDeep, Faulty, Recursive, NotYet, Memory}

abbrev pub place_of : CompileRefusal → Pos
place_of TooLong = first_position
place_of (Lex kind at) = at
place_of (Syntax tok at) = at
place_of (TooDeep tok at) = at
place_of (Faulty fault) = fault.pos
place_of (Recursive pos names) = pos
place_of NotYet = first_position
place_of Memory = first_position

abbrev pub lexical_words : LexKind → List ℕ
lexical_words BadByte = codes "bad byte"
lexical_words OpenComment = codes "open comment"
lexical_words BadNumber = codes "bad number"
lexical_words BadDirective = codes "bad directive"
lexical_words TooManyTokens = codes "too many tokens"

abbrev pub words_of : CompileRefusal → List ℕ
words_of TooLong = codes "source too long"
words_of (Lex kind at) = lexical_words kind
words_of (Syntax tok at) = codes "syntax"
words_of (TooDeep tok at) = codes "too deep"
words_of (Faulty fault) = text_of fault.kind
words_of (Recursive pos names) = codes "recursion"
words_of NotYet = codes "not yet"
words_of Memory = codes "out of memory"

-- the names that are told after the words
abbrev pub names_of : CompileRefusal → List (List ℕ)
names_of TooLong = []
names_of (Lex kind at) = []
names_of (Syntax tok at) = []
names_of (TooDeep tok at) = []
names_of (Faulty fault) = []
names_of (Recursive pos names) = names
names_of NotYet = []
names_of Memory = []

-- each behind a space
abbrev pub spaced : List ℕ → List ℕ
spaced name = 32 ∷ name

-- the line that tells a place and words
abbrev pub error_line : Pos → List ℕ → List ℕ
error_line at words = codes "error " ++ decimal at.line ++ codes ":" ++ decimal at.col ++ codes " " ++ words ++ 10 ∷ []

abbrev pub refusal_line : CompileRefusal → List ℕ
refusal_line refusal = error_line (place_of refusal) (words_of refusal ++ flat_map spaced (names_of refusal))

-- ---- how the refusals of the lexer and of the reader are passed on

abbrev pub lexical_passed : LexRefusal → CompileRefusal
lexical_passed (lexical.BadByte at) = Lex BadByte at
lexical_passed (lexical.OpenComment at) = Lex OpenComment at
lexical_passed (lexical.BadNumber at) = Lex BadNumber at
lexical_passed (lexical.BadDirective at) = Lex BadDirective at
lexical_passed (lexical.TooManyTokens at) = Lex TooManyTokens at
lexical_passed lexical.Memory = Memory

abbrev pub IsLexicalPassed : LexRefusal → CompileRefusal → Type 0
IsLexicalPassed refusal passed = passed ≡ lexical_passed refusal

abbrev pub reading_passed : ReadRefusal → CompileRefusal
reading_passed (reading.Syntax tok at) = Syntax tok at
reading_passed (reading.TooDeep tok at) = TooDeep tok at
reading_passed reading.Memory = Memory

abbrev pub IsReadingPassed : ReadRefusal → CompileRefusal → Type 0
IsReadingPassed refusal passed = passed ≡ reading_passed refusal

-- the lexer's refusal of a kind, at a place
abbrev pub lexical_fault : LexKind → Pos → LexRefusal
lexical_fault BadByte at = lexical.BadByte at
lexical_fault OpenComment at = lexical.OpenComment at
lexical_fault BadNumber at = lexical.BadNumber at
lexical_fault BadDirective at = lexical.BadDirective at
lexical_fault TooManyTokens at = lexical.TooManyTokens at
