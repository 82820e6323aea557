-- What may follow statements: after one that ends in an `if` without `else` no `else` is left.
use Rattle.std.proofs.Common.{◌≡◌, ℕ, zero, suc, Bool, true, false, List, Option, Some, None, refl, ap, subst, sym}
use Rattle.std.specs.Prelude.{Result, Ok, Err, not, ◌&&◌, if◌then◌else◌}
use Rattle.sat_base.specs.declared.name.At.{At}
use Rattle.c_tree.specs.declared.declaration.Objects.{Objects}
use Rattle.c_tree.specs.declared.expression.Expr.{Expr}
use Rattle.c_tree.specs.declared.simple.Simple.{Simple}
use Rattle.c_tree.specs.declared.statement.Stmt.{Stmt}
use Rattle.c_tree.specs.declared.statement.Stmt.TheVariants as stmt
use Rattle.c_tree.proofs.StatementBoxes.{If-boxed, Else-boxed, While-boxed, For-boxed}
use Rattle.c_grammar.specs.declared.symbol.Symbol.{Symbol}
use Rattle.c_grammar.specs.declared.symbol.Symbol.TheVariants as symbol
use Rattle.c_grammar.specs.Grammar.{ends_open}
use Rattle.right_reading.specs.Lists.{after}
use Rattle.right_reading.specs.ReadStatements.{closed, condition_at, simples_before_at, expression_before_semicolon_at, simple_at, block_by, else_by, if_by, while_by, do_by, for_by, break_at, continue_at, return_at, simple_statement_at, next_statement, statement_with}
use Rattle.c_grammar.specs.Spots.{Spot}
use Rattle.right_reading.specs.Stream.{ahead, rest, Fault, Parser, ◌>>=◌, both, take_at}
use Rattle.c_grammar.specs.Symbols.{same_symbol}
use Rattle.right_reading.proofs.Composed.Dependent.{seen_by}

abbrev pub stops_statement : Stmt → Symbol → Bool
stops_statement s t = not (ends_open s && same_symbol t symbol.Else)

no_open_else : (opens is_else : Bool) → is_else ≡ false → not (opens && is_else) ≡ true
no_open_else true b e = subst (λ (x : Bool). not x ≡ true) (sym e) refl
no_open_else false b e = refl

-- anything else than `else` may follow any of them
pub no_else : (s : Stmt) (t : Symbol) → same_symbol t symbol.Else ≡ false → stops_statement s t ≡ true
no_else s t e = no_open_else (ends_open s) (same_symbol t symbol.Else) e

-- what an `else` may follow
pub else_after : (opens : Bool) → not (opens && true) ≡ true → opens ≡ false
else_after true e = cc
else_after false e = refl

-- ---- whether they end open is known by their last part

pub open-If : (at : At) (cond : Expr) (branch : Stmt) → ends_open (stmt.If at cond branch None) ≡ true
open-If at cond branch = ap ends_open (If-boxed at cond branch)

pub open-Else : (at : At) (cond : Expr) (branch other : Stmt) → ends_open (stmt.If at cond branch (Some other)) ≡ ends_open other
open-Else at cond branch other = ap ends_open (Else-boxed at cond branch other)

pub open-While : (at : At) (cond : Expr) (body : Stmt) → ends_open (stmt.While at cond body) ≡ ends_open body
open-While at cond body = ap ends_open (While-boxed at cond body)

pub open-For : (at : At) (first : List Simple) (cond : Option Expr) (last : List Simple) (body : Stmt) → ends_open (stmt.For at first cond last body) ≡ ends_open body
open-For at first cond last body = ap ends_open (For-boxed at first cond last body)

-- the same may follow where both end open or neither does
pub stops_alike : (s s' : Stmt) (t : Symbol) → ends_open s ≡ ends_open s' → stops_statement s' t ≡ true → stops_statement s t ≡ true
stops_alike s s' t e h = subst (λ (b : Bool). not (b && same_symbol t symbol.Else) ≡ true) (sym e) h

-- ---- what holds of all that is read

abbrev pub Post : {A : Type 0} → (A → List Spot → Type 0) → Result (A × List Spot) Fault → Type 0
Post P (Ok x) = P x.0 x.1
Post P (Err f) = Unit {0}

post_bind : {A B : Type 0} (P : B → List Spot → Type 0) (y : Result (A × List Spot) Fault) (g : A × List Spot → Result (B × List Spot) Fault) → ((x : A × List Spot) → Post P (g x)) → Post P (y >>= g)
post_bind P (Ok x) g h = h x
post_bind P (Err f) g h = tt

post_onward : {A B : Type 0} (P : B → List Spot → Type 0) (f : A → B) (y : Result (A × List Spot) Fault) → Post (λ x k. P (f x) k) y → Post P (seen_by f y)
post_onward P f (Ok x) h = h
post_onward P f (Err e) h = tt

post_onward_by : {A B : Type 0} (P : B → List Spot → Type 0) (Q : A → List Spot → Type 0) (f : A → B) (y : Result (A × List Spot) Fault) → ((x : A) (k : List Spot) → Q x k → P (f x) k) → Post Q y → Post P (seen_by f y)
post_onward_by P Q f (Ok x) g h = g x.0 x.1 h
post_onward_by P Q f (Err e) g h = tt

post_all : {A : Type 0} (P : A → List Spot → Type 0) (y : Result (A × List Spot) Fault) → ((x : A) (k : List Spot) → P x k) → Post P y
post_all P (Ok x) h = h x.0 x.1
post_all P (Err e) h = tt

pub post_both : {A B : Type 0} (Q : B → List Spot → Type 0) (p : Parser A) (q : Parser B) (i : List Spot) → ((j : List Spot) → Post Q (q j)) → Post (λ (x : A × B) k. Q x.1 k) (both p q i)
post_both {A} {B} Q p q i h = step (p i)
  where
    last : (x : A) (y : Result (B × List Spot) Fault) → Post Q y → Post (λ (z : A × B) k. Q z.1 k) (seen_by (λ (b : B). let z : A × B = (x, b) in z) y)
    last x (Ok y) g = g
    last x (Err f) g = tt

    step : (y : Result (A × List Spot) Fault) → Post (λ (z : A × B) k. Q z.1 k) (y >>= (λ x. seen_by (λ (b : B). let z : A × B = (x.0, b) in z) (q x.1)))
    step (Ok x) = last x.0 (q x.1) (h x.1)
    step (Err f) = tt

-- ---- statements

abbrev pub Closes : Stmt → List Spot → Type 0
Closes s k = stops_statement s (ahead k) ≡ true

module _ (n : ℕ) (statement : Parser Stmt) (again : (i : List Spot) → Post Closes (statement i)) where
  else_closes : (at : At) (cond : Expr) (branch : Stmt) (i : List Spot) → Post Closes (else_by statement at cond branch i)
  unfolding else_by
  else_closes at cond branch i = step (same_symbol (ahead i) symbol.Else) refl
    where
      other : (y : Result (Stmt × List Spot) Fault) → Post Closes y → Post Closes (y >>= (λ x. Ok (stmt.If at cond branch (Some x.0), x.1)))
      other (Ok x) h = stops_alike (stmt.If at cond branch (Some x.0)) x.0 (ahead x.1) (open-Else at cond branch x.0) h
      other (Err f) h = tt

      step : (b : Bool) → same_symbol (ahead i) symbol.Else ≡ b
          → Post Closes (if b then statement (rest i) >>= (λ x. Ok (stmt.If at cond branch (Some x.0), x.1)) else Ok (stmt.If at cond branch None, i))
      step true e = other (statement (rest i)) (again (rest i))
      step false e = no_else (stmt.If at cond branch None) (ahead i) e

  if_closes : (i : List Spot) → Post Closes (if_by n statement i)
  unfolding if_by
  if_closes i = post_bind Closes (both (take_at symbol.If) (both (condition_at n) statement) i) (λ x. else_by statement x.0.0 x.0.1.0 x.0.1.1 x.1) (λ x. else_closes x.0.0 x.0.1.0 x.0.1.1 x.1)

  while_closes : (i : List Spot) → Post Closes (while_by n statement i)
  unfolding while_by
  while_closes i =
      post_onward_by Closes (λ (x : At × (Expr × Stmt)) k. Closes x.1.1 k) (λ (x : At × (Expr × Stmt)). stmt.While x.0 x.1.0 x.1.1) (both (take_at symbol.While) (both (condition_at n) statement) i)
      (λ x k h. stops_alike (stmt.While x.0 x.1.0 x.1.1) x.1.1 (ahead k) (open-While x.0 x.1.0 x.1.1) h)
      (post_both (λ (x : Expr × Stmt) k. Closes x.1 k) (take_at symbol.While) (both (condition_at n) statement) i (λ j. post_both Closes (condition_at n) statement j again))

  do_closes : (i : List Spot) → Post Closes (do_by n statement i)
  unfolding do_by
  do_closes i =
      post_onward Closes (λ (x : At × (Stmt × Expr)). stmt.Do x.0 x.1.0 x.1.1) (both (take_at symbol.Do) (both statement (after symbol.While (closed (condition_at n) symbol.Semicolon))) i)
      (post_all (λ x k. Closes (stmt.Do x.0 x.1.0 x.1.1) k) (both (take_at symbol.Do) (both statement (after symbol.While (closed (condition_at n) symbol.Semicolon))) i) (λ x k. refl))

  for_closes : (i : List Spot) → Post Closes (for_by n statement i)
  unfolding for_by
  for_closes i =
      let body = λ (j : List Spot). post_both Closes (simples_before_at symbol.CloseParen n) statement j again in
      let test = λ (j : List Spot). post_both (λ (x : List Simple × Stmt) k. Closes x.1 k) (expression_before_semicolon_at n) (both (simples_before_at symbol.CloseParen n) statement) j body in
      let first = λ (j : List Spot). post_both (λ (x : Option Expr × (List Simple × Stmt)) k. Closes x.1.1 k) (after symbol.OpenParen (simples_before_at symbol.Semicolon n))
      (both (expression_before_semicolon_at n) (both (simples_before_at symbol.CloseParen n) statement)) j test in
      let whole = both (take_at symbol.For) (both (after symbol.OpenParen (simples_before_at symbol.Semicolon n)) (both (expression_before_semicolon_at n) (both (simples_before_at symbol.CloseParen n) statement))) in
      post_onward_by Closes (λ (x : At × (List Simple × (Option Expr × (List Simple × Stmt)))) k. Closes x.1.1.1.1 k)
      (λ (x : At × (List Simple × (Option Expr × (List Simple × Stmt)))). stmt.For x.0 x.1.0 x.1.1.0 x.1.1.1.0 x.1.1.1.1) (whole i)
      (λ x k h. stops_alike (stmt.For x.0 x.1.0 x.1.1.0 x.1.1.1.0 x.1.1.1.1) x.1.1.1.1 (ahead k) (open-For x.0 x.1.0 x.1.1.0 x.1.1.1.0 x.1.1.1.1) h)
      (post_both (λ (x : List Simple × (Option Expr × (List Simple × Stmt))) k. Closes x.1.1.1 k) (take_at symbol.For)
      (both (after symbol.OpenParen (simples_before_at symbol.Semicolon n)) (both (expression_before_semicolon_at n) (both (simples_before_at symbol.CloseParen n) statement))) i first)

-- one that ends in nothing else than a mark
shut : {A : Type 0} (f : A → Stmt) → ((x : A) (k : List Spot) → Closes (f x) k) → (y : Result (A × List Spot) Fault) → Post Closes (seen_by f y)
shut f h y = post_onward Closes f y (post_all (λ x k. Closes (f x) k) y h)

next_closes : (s : Symbol) (objects : Parser Objects) (n : ℕ) (statement : Parser Stmt) → ((i : List Spot) → Post Closes (statement i)) → (i : List Spot) → Post Closes (next_statement s objects n statement i)
unfolding break_at continue_at return_at simple_statement_at
next_closes symbol.Semicolon objects n statement again i = shut stmt.Empty (λ x k. refl) (take_at symbol.Semicolon i)
next_closes symbol.OpenBrace objects n statement again i = shut stmt.Block (λ x k. refl) (block_by objects statement i)
next_closes symbol.If objects n statement again i = if_closes n statement again i
next_closes symbol.While objects n statement again i = while_closes n statement again i
next_closes symbol.Do objects n statement again i = do_closes n statement again i
next_closes symbol.For objects n statement again i = for_closes n statement again i
next_closes symbol.Break objects n statement again i = shut stmt.Break (λ x k. refl) (closed (take_at symbol.Break) symbol.Semicolon i)
next_closes symbol.Continue objects n statement again i = shut stmt.Continue (λ x k. refl) (closed (take_at symbol.Continue) symbol.Semicolon i)
next_closes symbol.Return objects n statement again i = shut (λ (x : At × Option Expr). stmt.Return x.0 x.1) (λ x k. refl) (both (take_at symbol.Return) (expression_before_semicolon_at n) i)
next_closes _ objects n statement again i = shut stmt.Simple (λ x k. refl) (closed (simple_at n) symbol.Semicolon i)

-- after a statement that is read and ends open no `else` is ahead
pub statement_closes : (objects : ℕ → Parser Objects) (n : ℕ) (i : List Spot) → Post Closes (statement_with objects n i)
unfolding statement_with
statement_closes objects zero i = tt
statement_closes objects (suc n) i = next_closes (ahead i) (objects n) n (statement_with objects n) (λ j. statement_closes objects n j) i
