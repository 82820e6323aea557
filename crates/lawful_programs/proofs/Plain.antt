-- What is asked of a part of a tree before code is emitted for it, and how its own parts have it.
use Rattle.std.proofs.Common.{◌≡◌, ℕ, ◌+◌, ◌≤◌, Bool, true, arith}
use Rattle.std.specs.Prelude.{◌&&◌}
use Rattle.ir_arena.specs.Costs.{cost_of, costs_of}
use Rattle.ir_arena.specs.Tree.{IrTree, IrTrees}
use Rattle.lawful_ir.proofs.Alike.{left, right}
use Rattle.lawful_programs.specs.Form.{are_scalar_trees, has_numbers, have_numbers, is_scalar_tree}

-- what is read of a part: whether it is over scalars, whether its integers have 32 bits, and what it costs
pub record Part : Type 0 where
  pub form : Bool
  pub numbers : Bool
  pub cost : ℕ

abbrev pub tree : IrTree → Part
tree e = record { form = is_scalar_tree e; numbers = has_numbers e; cost = cost_of e }

abbrev pub row : IrTrees → Part
row trees = record { form = are_scalar_trees trees; numbers = have_numbers trees; cost = costs_of trees }

abbrev pub pair : Part → Part → Part
pair one other = record { form = one.form && other.form; numbers = one.numbers && other.numbers; cost = one.cost + other.cost }

-- it costs no more words than a jump reaches
pub record Plain (part : Part) : Type 0 where
  pub formed : part.form ≡ true
  pub small : part.numbers ≡ true
  pub cheap : part.cost ≤ 16777216

abbrev pub IsPlain : IrTree → Type 0
IsPlain e = Plain (tree e)

abbrev pub ArePlain : IrTrees → Type 0
ArePlain trees = Plain (row trees)

-- the one part of what costs at most so much, and one of its two parts

pub only_part : (part : Part) (most : ℕ) → Plain (record part { cost = most }) → part.cost ≤ most → Plain part
only_part part most plain less = record { formed = plain.formed; small = plain.small; cheap = omega (arith, plain.cheap) }

module _ (one other : Part) (most : ℕ) (plain : Plain (record (pair one other) { cost = most })) where
  pub first_part : one.cost ≤ most → Plain one
  first_part less = record { formed = left one.form other.form plain.formed; small = left one.numbers other.numbers plain.small; cheap = omega (arith, plain.cheap) }

  pub second_part : other.cost ≤ most → Plain other
  second_part less = record { formed = right one.form other.form plain.formed; small = right one.numbers other.numbers plain.small; cheap = omega (arith, plain.cheap) }
