-- Statements by what they begin with.
use Rattle.std.proofs.Common.{◌≡◌, ◌≢◌, ℕ, suc, ◌-◌, List, refl, ap, subst, ◌∙◌, sym, arith}
use Rattle.std.specs.Prelude.{Result}
use Rattle.c_tree.specs.declared.declaration.Objects.{Objects}
use Rattle.c_tree.specs.declared.statement.Stmt.{Stmt}
use Rattle.c_grammar.specs.declared.refusal.ReadRefusal.{ReadRefusal}
use Rattle.c_grammar.specs.declared.symbol.Symbol.{Symbol}
use Rattle.c_grammar.specs.declared.symbol.Symbol.TheVariants as symbol
use Rattle.c_grammar.specs.Spots.{Spot}
use Rattle.right_reading.specs.ReadStatements.{simple_statement_at, next_statement, statement_with}
use Rattle.right_reading.specs.Stream.{ahead, Fault, Parser}
use Rattle.right_reading.specs.ReadDeclarations.{objects_at}
use Rattle.token_reader.specs.Gives.{Gives}

other_than : (s : Symbol) (objects : Parser Objects) (n : ℕ) (statement : Parser Stmt) → s ≢ symbol.If → s ≢ symbol.While → s ≢ symbol.Do → s ≢ symbol.For → s ≢ symbol.Break → s ≢ symbol.Continue → s ≢ symbol.Return
    → s ≢ symbol.OpenBrace → s ≢ symbol.Semicolon → next_statement s objects n statement ≡ simple_statement_at n
other_than symbol.If objects n statement h1 h2 h3 h4 h5 h6 h7 h8 h9 = absurd (h1 refl)
other_than symbol.While objects n statement h1 h2 h3 h4 h5 h6 h7 h8 h9 = absurd (h2 refl)
other_than symbol.Do objects n statement h1 h2 h3 h4 h5 h6 h7 h8 h9 = absurd (h3 refl)
other_than symbol.For objects n statement h1 h2 h3 h4 h5 h6 h7 h8 h9 = absurd (h4 refl)
other_than symbol.Break objects n statement h1 h2 h3 h4 h5 h6 h7 h8 h9 = absurd (h5 refl)
other_than symbol.Continue objects n statement h1 h2 h3 h4 h5 h6 h7 h8 h9 = absurd (h6 refl)
other_than symbol.Return objects n statement h1 h2 h3 h4 h5 h6 h7 h8 h9 = absurd (h7 refl)
other_than symbol.OpenBrace objects n statement h1 h2 h3 h4 h5 h6 h7 h8 h9 = absurd (h8 refl)
other_than symbol.Semicolon objects n statement h1 h2 h3 h4 h5 h6 h7 h8 h9 = absurd (h9 refl)
other_than _ objects n statement h1 h2 h3 h4 h5 h6 h7 h8 h9 = refl

-- a statement within a limit that is not 0 and its lower one
statement_below : (objects : ℕ → Parser Objects) (limit below : ℕ) (i : List Spot) → limit ≡ suc below → statement_with objects limit i ≡ next_statement (ahead i) (objects below) below (statement_with objects below) i
unfolding statement_with
statement_below objects limit below i e = ap (λ (n : ℕ). statement_with objects n i) e

pub simple_below : (objects : ℕ → Parser Objects) (limit below : ℕ) (i : List Spot) (s : Symbol) → limit ≡ suc below → s ≡ ahead i → s ≢ symbol.If → s ≢ symbol.While → s ≢ symbol.Do → s ≢ symbol.For → s ≢ symbol.Break → s ≢ symbol.Continue
    → s ≢ symbol.Return → s ≢ symbol.OpenBrace → s ≢ symbol.Semicolon → simple_statement_at below i ≡ statement_with objects limit i
simple_below objects limit below i s e is h1 h2 h3 h4 h5 h6 h7 h8 h9 =
    sym (statement_below objects limit below i e ∙ ap (λ (t : Symbol). next_statement t (objects below) below (statement_with objects below) i) (sym is)
    ∙ ap (λ (p : Parser Stmt). p i) (other_than s (objects below) below (statement_with objects below) h1 h2 h3 h4 h5 h6 h7 h8 h9))

-- what begins with this symbol
pub gives_statement : (limit : ℕ) (i : List Spot) (s : Symbol) (r : Result Stmt ReadRefusal) (j : List Spot) → limit ≢ 0 → s ≡ ahead i
    → Gives (next_statement s (objects_at (limit - 1)) (limit - 1) (statement_with objects_at (limit - 1)) i) r j → Gives (statement_with objects_at limit i) r j
gives_statement limit i s r j some is gives =
    let below : limit ≡ suc (limit - 1) = omega (arith, some) in
    let same = statement_below objects_at limit (limit - 1) i below ∙ ap (λ (t : Symbol). next_statement t (objects_at (limit - 1)) (limit - 1) (statement_with objects_at (limit - 1)) i) (sym is) in
    subst (λ (y : Result (Stmt × List Spot) Fault). Gives y r j) (sym same) gives
