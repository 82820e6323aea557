-- What the marks of expressions and assignments do with numbers.
use Rattle.std.specs.Prelude.{ℕ, ℤ, pos, negsuc, ◌+ℤ◌, ◌-ℤ◌, ◌*ℤ◌, neg_ℤ, int_le, int_lt, ◌&&◌, Bool, not, Option, Some, None, if◌then◌else◌}
use Rattle.std.specs.Int.{w32, int_bit_and, int_bit_or, int_bit_xor, int_bit_not}
use Rattle.std.specs.Ordering.{int_eq}
use Rattle.c_tree.specs.declared.expression.BinaryMark.{BinaryMark}
use Rattle.c_tree.specs.declared.expression.BinaryMark.TheVariants as binary
use Rattle.c_tree.specs.declared.expression.UnaryMark.{UnaryMark}
use Rattle.c_tree.specs.declared.expression.UnaryMark.TheVariants as unary
use Rattle.c_tree.specs.declared.simple.AssignMark.{AssignMark}
use Rattle.c_tree.specs.declared.simple.AssignMark.TheVariants as assign
use Rattle.source_runs.specs.Runs.{Run, gives, at_site, ◌>>=◌, holds}

-- the whole-number value of plain arithmetic, where it has 32 bits
abbrev pub within : ℤ → Option ℤ
within z = if int_le (negsuc 2147483647) z && int_le z (pos 2147483647) then Some z else None

-- plain arithmetic: a value that leaves 32 bits is an arithmetic stop
abbrev pub plain : ℕ → ℤ → Run ℤ
plain site z = at_site site (within z)

-- a relation, `!`, `&&` and `||` give 0 or 1
abbrev pub truth : Bool → ℤ
truth holds = if holds then pos 1 else pos 0

unfoldable pub unary_meaning : UnaryMark → ℕ → ℤ → Run ℤ
unary_meaning unary.Minus site x = plain site (neg_ℤ x)
unary_meaning unary.Plus site x = gives x
unary_meaning unary.Not site x = gives (truth (int_eq x (pos 0)))
unary_meaning unary.Invert site x = gives (int_bit_not w32 x)

-- a mark between two operands that are both evaluated
unfoldable pub both_meaning : BinaryMark → ℕ → ℤ → ℤ → Run ℤ
both_meaning binary.Plus site x y = plain site (x +ℤ y)
both_meaning binary.Minus site x y = plain site (x -ℤ y)
both_meaning binary.Times site x y = plain site (x *ℤ y)
both_meaning binary.BitAnd site x y = gives (int_bit_and w32 x y)
both_meaning binary.BitOr site x y = gives (int_bit_or w32 x y)
both_meaning binary.BitXor site x y = gives (int_bit_xor w32 x y)
both_meaning binary.Eq site x y = gives (truth (int_eq x y))
both_meaning binary.Ne site x y = gives (truth (not (int_eq x y)))
both_meaning binary.Lt site x y = gives (truth (int_lt x y))
both_meaning binary.Le site x y = gives (truth (int_le x y))
both_meaning binary.Gt site x y = gives (truth (int_lt y x))
both_meaning binary.Ge site x y = gives (truth (int_le y x))
both_meaning binary.Both site x y = gives (truth (holds y))
both_meaning binary.Either site x y = gives (truth (holds y))

-- the value where the left operand decides alone: of `&&` where it is 0, and of `||` where it is not
abbrev pub decided : BinaryMark → ℤ → Option ℤ
decided binary.Both x = if holds x then None else Some (pos 0)
decided binary.Either x = if holds x then Some (pos 1) else None
decided mark x = None

abbrev pub decided_or : Option ℤ → Run ℤ → Run ℤ
decided_or (Some value) rest = gives value
decided_or None rest = rest

-- the left operand is evaluated first, and the right one only where that does not decide
unfoldable pub binary_meaning : BinaryMark → ℕ → Run ℤ → Run ℤ → Run ℤ
binary_meaning mark site left right = left >>= (λ x. decided_or (decided mark x) (right >>= both_meaning mark site x))

-- the value that an assignment writes, of the old value and the right side
unfoldable pub assigned : AssignMark → ℕ → ℤ → ℤ → Run ℤ
assigned assign.Plain site old value = gives value
assigned assign.Plus site old value = plain site (old +ℤ value)
assigned assign.Minus site old value = plain site (old -ℤ value)
assigned assign.Times site old value = plain site (old *ℤ value)
assigned assign.And site old value = gives (int_bit_and w32 old value)
assigned assign.Or site old value = gives (int_bit_or w32 old value)
assigned assign.Xor site old value = gives (int_bit_xor w32 old value)
