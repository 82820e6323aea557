-- Values that are added one after the other.
use Rattle.std.proofs.Common.{◌≡◌, ℕ, zero, suc, ◌+◌, ◌-◌, ◌<◌, ◌≤◌, List, [], ◌∷◌, ◌++◌, get_or, drop, map, length, refl, sym, ap, ◌∙◌, append_assoc, arith}
use Rattle.std.specs.Prelude.{pos, flat_map, replicate}
use Rattle.std.proofs.lemmas.List.{append-nil, at_drop_more, at_drop_all, length-map, length-append}
use Rattle.sat_base.specs.declared.width.Width.{Width}
use Rattle.c_tree.specs.declared.declaration.Row.{Row}
use Rattle.c_tree.specs.declared.expression.Expr.{Expr}
use Rattle.tied_objects.specs.Initial.{constant, filled_row}

pub constants-next : (width : Width) (xs : List Expr) (i : ℕ) (x : Expr) → i < length xs → x ≡ get_or xs i x → map (constant width) (drop i xs) ≡ constant width x ∷ map (constant width) (drop (i + 1) xs)
constants-next width xs i x less is = at_drop_more (map (constant width)) xs i x less ∙ ap (λ (y : Expr). constant width y ∷ map (constant width) (drop (i + 1) xs)) (sym is)

pub constants-end : (width : Width) (xs : List Expr) (i : ℕ) → length xs ≤ i → map (constant width) (drop i xs) ≡ []
constants-end width xs i more = at_drop_all (map (constant width)) xs i more

pub rows-next : (width : Width) (columns : ℕ) (xs : List Row) (i : ℕ) (x : Row) → i < length xs → x ≡ get_or xs i x → flat_map (filled_row width columns) (drop i xs) ≡ filled_row width columns x ++ flat_map (filled_row width columns) (drop (i + 1) xs)
rows-next width columns xs i x less is = at_drop_more (flat_map (filled_row width columns)) xs i x less ∙ ap (λ (y : Row). filled_row width columns y ++ flat_map (filled_row width columns) (drop (i + 1) xs)) (sym is)

pub rows-end : (width : Width) (columns : ℕ) (xs : List Row) (i : ℕ) → length xs ≤ i → flat_map (filled_row width columns) (drop i xs) ≡ []
rows-end width columns xs i more = at_drop_all (flat_map (filled_row width columns)) xs i more

pub zeros-next : (left : ℕ) → 0 < left → replicate left (pos 0) ≡ pos 0 ∷ replicate (left - 1) (pos 0)
zeros-next left more = let e : left ≡ suc (left - 1) = omega arith in ap (λ (n : ℕ). replicate n (pos 0)) e

pub zeros-end : (left : ℕ) → left ≤ 0 → replicate left (pos 0) ≡ []
zeros-end left none = let e : left ≡ zero = omega arith in ap (λ (n : ℕ). replicate n (pos 0)) e

pub ruleset fillings = (append_assoc, append-nil, constants-next, constants-end, rows-next, rows-end, zeros-next, zeros-end, length-map, length-append)
