-- A text has at most one source, and no line refuses an accepted text.
use Rattle.std.proofs.Common.{◌≡◌, ◌≢◌, ◌⊎◌, ℕ, List, refl, sym, ap, ◌∙◌, subst, inl, inr, arith}
use Rattle.std.proofs.lemmas.Option.{none-some}
use Rattle.sat_base.specs.declared.position.Pos.{Pos}
use Rattle.c_lexer.specs.declared.token.Token.{Token}
use Rattle.c_lexer.specs.declared.token.Tokens.{Tokens}
use Rattle.c_lexer.specs.Text.{IsCut}
use Rattle.c_tree.specs.declared.program.Program.{Program}
use Rattle.c_typed.specs.declared.typed.Typed.{Typed}
use Rattle.c_types.specs.Tied.{IsTyped}
use Rattle.c_grammar.specs.Programs.{Spells, IsSyntaxFault, IsTooDeep}
use Rattle.c_reader.proofs.ReadWhole.{one_tree}
use Rattle.first_form.specs.Form.{IsFirst}
use Rattle.first_form.proofs.Statements.{at_most_one}
use Rattle.sat_compile.specs.declared.refusal.CompileRefusal.{CompileRefusal}
use Rattle.sat_compile.specs.declared.refusal.CompileRefusal.TheVariants.{TooLong, Lex, Syntax, TooDeep, Faulty, Recursive, NotYet, Memory}
use Rattle.sat_compile.specs.Accepted.{HasTree, IsSource, IsAccepted}
use Rattle.sat_compile.specs.Causes.{HasOtherForm, IsCause, MayShow, TellsNoSource}
use Rattle.sat_compile.specs.Checked.{IsUnchecked}
use Rattle.sat_compile.proofs.Recursion.{one_typed, no_recursion}
use Rattle.sat_compile.specs.FirstSource.{source_of}
use Rattle.sat_compile.specs.Source.{Source}

-- a text has one list of tokens
one_cut : (text : List ℕ) (p q : Tokens) → IsCut text p → IsCut text q → p ≡ q
one_cut text p q one other =
    let a = one.text ∙ sym other.text in
    let b = one.list ∙ sym other.list in
    let c = one.end ∙ sym other.end in
    ap (λ (x : List ℕ). made x p.list p.end) a ∙ ap (λ (x : List Token). made q.text x p.end) b ∙ ap (made q.text q.list) c
  where
    made : List ℕ → List Token → Pos → Tokens
    made text list end = record { text = text; list = list; end = end }

-- one tree
one_program : (text : List ℕ) (p q : Program) → HasTree text p → HasTree text q → p ≡ q
one_program text p q one other =
    let same = one_cut text other.tokens one.tokens other.has.cut one.has.cut in
    one_tree one.tokens p q one.spelled (subst (λ (t : Tokens). Spells q t) same other.spelled)

-- and one source
pub one_source : (text : List ℕ) (p q : Source) → IsAccepted text p → IsAccepted text q → p ≡ q
one_source text p q one other =
    let same = one_program text other.program one.program other.tree one.tree in
    let first = at_most_one one.program one.first other.first one.form (subst (λ (t : Program). IsFirst t other.first) same other.form) in
    one.is ∙ ap source_of first ∙ sym other.is

-- the source of a text is tied in one way
pub one_tied_source : (text : List ℕ) (p q : Typed) (f g : List ℕ) → IsSource text p f → IsSource text q g → p ≡ q
one_tied_source text p q f g one other =
    let same = one_program text other.program one.program other.tree one.tree in
    one_typed one.program p q one.checked.tied (subst (λ (t : Program). IsTyped t q) same other.checked.tied)

-- nothing is told of the text of a source but its form
pub no_cause_of_source : (text : List ℕ) (typed : Typed) (functions : List ℕ) → IsSource text typed functions
    → (refusal : CompileRefusal) → refusal ≢ Memory → refusal ≢ NotYet → IsCause text refusal → ⊥
no_cause_of_source text typed functions source TooLong other ready cause = omega (arith, cause, source.tree.has.short)
no_cause_of_source text typed functions source (Lex kind at) other ready cause = none-some _ (sym source.tree.has.cut.faultless ∙ cause.1)
no_cause_of_source text typed functions source (Syntax tok at) other ready cause =
    let same = one_cut text cause.0 source.tree.tokens cause.1.cut source.tree.has.cut in
    let fault = subst (λ (t : Tokens). IsSyntaxFault t tok at) same cause.2 in
    fault.none source.program _ source.tree.spelled.items refl
no_cause_of_source text typed functions source (TooDeep tok at) other ready cause =
    let same = one_cut text cause.0 source.tree.tokens cause.1.cut source.tree.has.cut in
    let fault = subst (λ (t : Tokens). IsTooDeep t tok at) same cause.2 in
    omega (arith, fault.deeper source.program _ source.tree.spelled.items refl, source.tree.shallow)
no_cause_of_source text typed functions source (Faulty fault) other ready cause =
    let same = one_program text cause.0 source.program cause.1 source.tree in
    none-some fault (sym source.checked.tied.faultless ∙ subst (λ (t : Program). IsUnchecked t (Faulty fault)) same cause.2)
no_cause_of_source text typed functions source (Recursive pos names) other ready cause =
    let same = one_program text cause.0 source.program cause.1 source.tree in
    no_recursion source.program typed functions source.checked pos names (subst (λ (t : Program). IsUnchecked t (Recursive pos names)) same cause.2)
no_cause_of_source text typed functions source NotYet other ready cause = ready refl
no_cause_of_source text typed functions source Memory other ready cause = other refl

-- no line tells that there is no source in the text of a source
pub no_source_not_told : (text line : List ℕ) (typed : Typed) (functions : List ℕ) → IsSource text typed functions → TellsNoSource text line → ⊥
no_source_not_told text line typed functions source tells =
    no_cause_of_source text typed functions source tells.refusal tells.other tells.none.1 tells.none.0

no_other_form : (text : List ℕ) (source : Source) → IsAccepted text source → HasOtherForm text → ⊥
no_other_form text source accepted cause =
    let same = one_program text accepted.program cause.program accepted.tree cause.tree in
    cause.other accepted.first (subst (λ (t : Program). IsFirst t accepted.first) same accepted.form)

no_cause : (text : List ℕ) (source : Source) → IsAccepted text source → (refusal : CompileRefusal) → refusal ≢ Memory
    → ((refusal ≡ NotYet) ⊎ (refusal ≢ NotYet)) → IsCause text refusal → ⊥
no_cause text source accepted refusal other (inl late) cause =
    no_other_form text source accepted (subst (IsCause text) late cause)
no_cause text source accepted refusal other (inr ready) cause =
    no_cause_of_source text accepted.typed accepted.functions
    (record { program = accepted.program; tree = accepted.tree; checked = accepted.checked }) refusal other ready cause

-- whether a text is refused for its form alone
is_late : (refusal : CompileRefusal) → (refusal ≡ NotYet) ⊎ (refusal ≢ NotYet)
is_late TooLong = inr (λ e. cc)
is_late (Lex kind at) = inr (λ e. cc)
is_late (Syntax tok at) = inr (λ e. cc)
is_late (TooDeep tok at) = inr (λ e. cc)
is_late (Faulty fault) = inr (λ e. cc)
is_late (Recursive pos names) = inr (λ e. cc)
is_late NotYet = inl refl
is_late Memory = inr (λ e. cc)

pub not_shown : (text line : List ℕ) (source : Source) → IsAccepted text source → MayShow text line → ⊥
not_shown text line source accepted shown = no_cause text source accepted shown.refusal shown.other (is_late shown.refusal) shown.cause
