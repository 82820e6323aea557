-- Reading quoted tokens, names and numbers.
use Rattle.std.proofs.Common.{◌≡◌, ◌≢◌, ℕ, Bool, true, false, List, [], ◌∷◌, refl, ap, ◌∙◌, sym, ℤ}
use Rattle.std.specs.Prelude.{Result, Ok, Err, if◌then◌else◌, pos}
use Rattle.sat_base.specs.declared.name.At.{At}
use Rattle.sat_base.specs.declared.name.Named.{Named}
use Rattle.c_grammar.specs.declared.symbol.Symbol.{Symbol}
use Rattle.c_grammar.specs.declared.symbol.Symbol.TheVariants as symbol
use Rattle.c_grammar.specs.Parts.{Kept, Called, Valued, Part, kept, called, valued}
use Rattle.c_grammar.specs.Spots.{Spot}
use Rattle.right_reading.specs.Stream.{ahead, Fault, take_at, name_at, number_at}
use Rattle.c_grammar.specs.Symbols.{same_symbol}
use Rattle.right_reading.specs.Right.{first, Ends, Right, always}
use Rattle.right_reading.proofs.Composed.Steps.{Read-token, Refused-token}
use Rattle.c_grammar.proofs.SymbolNumbers.{same-is, other-is}
use Rattle.c_tree.specs.declared.expression.Expr.{Expr}
use Rattle.c_tree.specs.declared.expression.ExprKind.TheVariants as kind

abbrev name_with : At → List ℕ → Named
name_with at n = record { at = at; name = n }

pub nowhere : At
nowhere = record { tok = 0; pos = record { line = 1; col = 1 } }

pub any_expression : Expr
any_expression = record { at = nowhere; brackets = 0; kind = kind.Int (pos 0) }

pub no_name : Named
no_name = record { at = nowhere; name = [] }

-- what begins with the same token has the same symbol ahead
pub ahead-same : (i j : List Spot) → first i ≡ first j → ahead i ≡ ahead j
ahead-same [] [] e = refl
ahead-same [] (y ∷ ys) e = cc
ahead-same (x ∷ xs) [] e = cc
ahead-same (x ∷ xs) (y ∷ ys) e = let s : x ≡ y = cc in ap (λ (z : Spot). z.symbol) s

-- by cases on a test
pub Right-if : {A : Type 0} (of : A → List Part) (limit : ℕ) (stops : A → Symbol → Bool) (before i : List Spot) (b : Bool) (x y : Result (A × List Spot) Fault)
    → (b ≡ true → Right of limit stops before i x) → (b ≡ false → Right of limit stops before i y) → Right of limit stops before i (if b then x else y)
Right-if of limit stops before i true x y p q = p refl
Right-if of limit stops before i false x y p q = q refl

-- a quoted token that is kept
pub take_right : (s : Symbol) → s ≢ symbol.End → (limit : ℕ) (i : List Spot) → Ends i → Right (λ (at : At). kept s at ∷ []) limit always [] i (take_at s i)
take_right s more limit [] ends = absurd ends
take_right s more limit (x ∷ xs) ends =
    Right-if (λ (at : At). kept s at ∷ []) limit always [] (x ∷ xs) (same_symbol x.symbol s) (Ok (x.at, xs)) (Err (record { deep = false; at = x.at }))
    (λ e. let is = same-is x.symbol s e in Read-token (λ (at : At). Kept s at) limit x.at x xs (is, refl) (λ f. more (sym is ∙ f)) (λ a q. sym q.1) ends)
    (λ e. Refused-token (λ (at : At). Kept s at) limit x.at (x ∷ xs) ends (λ a y f q. let g : x ≡ y = cc in other-is x.symbol s e (ap (λ (z : Spot). z.symbol) g ∙ q.0)))

pub name_right : (limit : ℕ) (i : List Spot) → Ends i → Right (λ (name : Named). called name ∷ []) limit always [] i (name_at i)
name_right limit [] ends = absurd ends
name_right limit (x ∷ xs) ends =
    Right-if (λ (name : Named). called name ∷ []) limit always [] (x ∷ xs) (same_symbol x.symbol symbol.Name) (Ok (record { at = x.at; name = x.name }, xs)) (Err (record { deep = false; at = x.at }))
    (λ e. let is = same-is x.symbol symbol.Name e in Read-token Called limit (record { at = x.at; name = x.name }) x xs (is, refl, refl) (λ f. let g : symbol.Name ≡ symbol.End = sym is ∙ f in cc) (λ a q. same_name a x q.1 q.2) ends)
    (λ e. Refused-token Called limit (record { at = x.at; name = x.name }) (x ∷ xs) ends (λ a y f q. let g : x ≡ y = cc in other-is x.symbol symbol.Name e (ap (λ (z : Spot). z.symbol) g ∙ q.0)))
  where
    same_name : (a : Named) (x : Spot) → x.at ≡ a.at → x.name ≡ a.name → a ≡ record { at = x.at; name = x.name }
    same_name a x e f = ap (λ (at : At). name_with at a.name) (sym e) ∙ ap (λ (n : List ℕ). name_with x.at n) (sym f)

pub number_right : (limit : ℕ) (i : List Spot) → Ends i → Right (λ (n : At × ℤ). valued n.0 n.1 ∷ []) limit always [] i (number_at i)
number_right limit [] ends = absurd ends
number_right limit (x ∷ xs) ends =
    Right-if (λ (n : At × ℤ). valued n.0 n.1 ∷ []) limit always [] (x ∷ xs) (same_symbol x.symbol symbol.Int) (Ok ((x.at, x.value), xs)) (Err (record { deep = false; at = x.at }))
    (λ e. let is = same-is x.symbol symbol.Int e in Read-token (λ (n : At × ℤ). Valued n.0 n.1) limit (x.at, x.value) x xs (is, refl, refl) (λ f. let g : symbol.Int ≡ symbol.End = sym is ∙ f in cc) (λ a q. same_number a x q.1 q.2) ends)
    (λ e. Refused-token (λ (n : At × ℤ). Valued n.0 n.1) limit (x.at, x.value) (x ∷ xs) ends (λ a y f q. let g : x ≡ y = cc in other-is x.symbol symbol.Int e (ap (λ (z : Spot). z.symbol) g ∙ q.0)))
  where
    same_number : (a : At × ℤ) (x : Spot) → x.at ≡ a.0 → x.value ≡ a.1 → a ≡ (x.at, x.value)
    same_number a x e f = ap (λ (at : At). (at, a.1)) (sym e) ∙ ap (λ (v : ℤ). (x.at, v)) (sym f)
