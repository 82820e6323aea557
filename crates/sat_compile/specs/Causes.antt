-- Why a text is refused.
use Rattle.std.specs.Prelude.{◌≡◌, ◌≢◌, ◌≤◌, ◌<◌, ℕ, List, length, Some}
use Rattle.sat_base.specs.declared.limits.TheConstants.{SOURCE_BYTES}
use Rattle.c_lexer.specs.declared.token.Tokens.{Tokens}
use Rattle.c_lexer.specs.Text.{first_lexical_fault}
use Rattle.c_tree.specs.declared.program.Program.{Program}
use Rattle.c_grammar.specs.Programs.{IsSyntaxFault, IsTooDeep}
use Rattle.first_form.specs.declared.first.First.{First}
use Rattle.first_form.specs.Form.{IsFirst}
use Rattle.sat_compile.specs.declared.refusal.CompileRefusal.{CompileRefusal}
use Rattle.sat_compile.specs.declared.refusal.CompileRefusal.TheVariants.{TooLong, Lex, Syntax, TooDeep, Faulty, Recursive, NotYet, Memory}
use Rattle.c_typed.specs.declared.typed.Typed.{Typed}
use Rattle.sat_compile.specs.Accepted.{HasTokens, HasTree}
use Rattle.sat_compile.specs.Checked.{IsChecked, IsUnchecked}
use Rattle.sat_compile.specs.Telling.{lexical_fault, refusal_line}

-- the text is that of a source, which has not the first form
pub record HasOtherForm (text : List ℕ) : Type 0 where
  pub program : Program
  pub tree : HasTree text program
  pub typed : Typed
  pub functions : List ℕ
  pub checked : IsChecked program typed functions
  pub other : (first : First) → IsFirst program first → ⊥

-- The text is too long; or else it breaks a lexical rule, here first; or else its tokens spell no program, and
-- none goes on with this token; or each program that goes on with this one is too deep; or the tree of the program that they
-- spell has a fault or passes a limit, here first; or a function in it reaches itself. Or the text is that of a source
-- that has not the first form. Memory may want at any time.
abbrev pub IsCause : List ℕ → CompileRefusal → Type 0
IsCause text TooLong = SOURCE_BYTES < length text
IsCause text (Lex kind at) = (length text ≤ SOURCE_BYTES) × (first_lexical_fault text ≡ Some (lexical_fault kind at))
IsCause text (Syntax tok at) = (tokens : Tokens) × HasTokens text tokens × IsSyntaxFault tokens tok at
IsCause text (TooDeep tok at) = (tokens : Tokens) × HasTokens text tokens × IsTooDeep tokens tok at
IsCause text (Faulty fault) = (program : Program) × HasTree text program × IsUnchecked program (Faulty fault)
IsCause text (Recursive pos names) = (program : Program) × HasTree text program × IsUnchecked program (Recursive pos names)
IsCause text NotYet = HasOtherForm text
IsCause text Memory = Unit {0}

-- the line tells of the text why it is refused
pub record MayShow (text line : List ℕ) : Type 0 where
  pub refusal : CompileRefusal
  pub other : refusal ≢ Memory
  pub cause : IsCause text refusal
  pub told : line ≡ refusal_line refusal

-- why there is no source in the text, whatever form it has
abbrev pub IsNoSource : List ℕ → CompileRefusal → Type 0
IsNoSource text refusal = IsCause text refusal × (refusal ≢ NotYet)

-- the line tells why there is no source in the text
pub record TellsNoSource (text line : List ℕ) : Type 0 where
  pub refusal : CompileRefusal
  pub other : refusal ≢ Memory
  pub none : IsNoSource text refusal
  pub told : line ≡ refusal_line refusal
