-- The marks of assignments and steps, and what may follow these.
use Rattle.std.proofs.Common.{◌≡◌, Bool, true, false, [], Some, None, refl, ap, subst}
use Rattle.c_tree.specs.declared.place.Place.{Place}
use Rattle.c_tree.specs.declared.place.Place.TheVariants as place
use Rattle.c_tree.specs.declared.simple.AssignMark.{AssignMark}
use Rattle.c_tree.specs.declared.simple.AssignMark.TheVariants as assigns
use Rattle.c_tree.specs.declared.simple.Simple.{Simple}
use Rattle.c_tree.specs.declared.simple.Simple.TheVariants as simple
use Rattle.c_grammar.specs.declared.symbol.Symbol.{Symbol}
use Rattle.c_grammar.specs.declared.symbol.Symbol.TheVariants as symbol
use Rattle.c_grammar.specs.Marks.{assign_symbol, step_symbol}
use Rattle.c_grammar.specs.Symbols.{same_symbol, assign_mark, step_of}
use Rattle.right_reading.proofs.Ahead.Begins.{begins_place, begins_name}
use Rattle.c_grammar.proofs.SymbolNumbers.{same-is}
use Rattle.right_reading.proofs.OneToken.Tokens.{no_name}
use Rattle.right_reading.specs.Stops.{ends_place, ends_expression}
use Rattle.c_grammar.proofs.SymbolSets.{among, apart}

-- ---- some trees

pub any_place : Place
any_place = place.Plain no_name

pub any_simple : Simple
any_simple = simple.Call (record { name = no_name; args = [] })

-- ---- what may follow

-- a mark that may stand after an assignment, a step or a call
abbrev pub ends_simple : Symbol → Bool
ends_simple symbol.Semicolon = true
ends_simple symbol.Comma = true
ends_simple symbol.CloseParen = true
ends_simple _ = false

abbrev pub stops_simple : Simple → Symbol → Bool
stops_simple x s = ends_simple s

pub simple_ends_expression : (s : Symbol) → ends_simple s ≡ true → ends_expression s ≡ true
simple_ends_expression = among ends_simple ends_expression refl

pub simple_ends_place : (s : Symbol) → ends_simple s ≡ true → ends_place s ≡ true
simple_ends_place = among ends_simple ends_place refl

-- ---- marks

pub assign_there : (m : AssignMark) → assign_mark (assign_symbol m) ≡ Some m
assign_there assigns.Plain = refl
assign_there _ = refl

pub assign_back : (s : Symbol) (m : AssignMark) → assign_mark s ≡ Some m → s ≡ assign_symbol m
assign_back symbol.Equal m e = let k : assigns.Plain ≡ m = cc in ap assign_symbol k
assign_back symbol.PlusEqual m e = let k : assigns.Plus ≡ m = cc in ap assign_symbol k
assign_back symbol.MinusEqual m e = let k : assigns.Minus ≡ m = cc in ap assign_symbol k
assign_back symbol.StarEqual m e = let k : assigns.Times ≡ m = cc in ap assign_symbol k
assign_back symbol.AndEqual m e = let k : assigns.And ≡ m = cc in ap assign_symbol k
assign_back symbol.OrEqual m e = let k : assigns.Or ≡ m = cc in ap assign_symbol k
assign_back symbol.XorEqual m e = let k : assigns.Xor ≡ m = cc in ap assign_symbol k
assign_back _ m e = cc

pub step_there : (up : Bool) → step_of (step_symbol up) ≡ Some up
step_there true = refl
step_there false = refl

pub step_back : (s : Symbol) (up : Bool) → step_of s ≡ Some up → s ≡ step_symbol up
step_back symbol.PlusPlus up e = let k : true ≡ up = cc in ap step_symbol k
step_back symbol.MinusMinus up e = let k : false ≡ up = cc in ap step_symbol k
step_back _ up e = cc

pub assign_no_step : (m : AssignMark) → step_of (assign_symbol m) ≡ None
assign_no_step assigns.Plain = refl
assign_no_step _ = refl

pub assign_ends_place : (m : AssignMark) → ends_place (assign_symbol m) ≡ true
assign_ends_place assigns.Plain = refl
assign_ends_place _ = refl

pub step_ends_place : (up : Bool) → ends_place (step_symbol up) ≡ true
step_ends_place true = refl
step_ends_place false = refl

-- neither a bracket that opens nor a name, and no other sign that a statement may begin with
abbrev pub is_mark : Symbol → Bool
is_mark symbol.OpenParen = false
is_mark symbol.OpenBracket = false
is_mark symbol.Name = false
is_mark symbol.Star = false
is_mark symbol.Overflow = false
is_mark _ = true

pub assign_is_mark : (m : AssignMark) → is_mark (assign_symbol m) ≡ true
assign_is_mark assigns.Plain = refl
assign_is_mark _ = refl

pub step_is_mark : (up : Bool) → is_mark (step_symbol up) ≡ true
step_is_mark true = refl
step_is_mark false = refl

-- ---- where an assignment, a step or a call begins with none of these

abbrev pub other_simple : Symbol → Bool
other_simple symbol.Name = false
other_simple symbol.Star = false
other_simple symbol.Overflow = false
other_simple _ = true

pub other_no_place : (s : Symbol) → other_simple s ≡ true → begins_place s ≡ true → ⊥
other_no_place = apart other_simple begins_place refl

pub other_no_name : (s : Symbol) → other_simple s ≡ true → begins_name s ≡ true → ⊥
other_no_name = apart other_simple begins_name refl

pub other_no_overflow : (s : Symbol) → other_simple s ≡ true → same_symbol s symbol.Overflow ≡ true → ⊥
other_no_overflow s h k = let e : other_simple symbol.Overflow ≡ true = subst (λ (x : Symbol). other_simple x ≡ true) (same-is s symbol.Overflow k) h in cc
