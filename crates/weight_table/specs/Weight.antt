-- What operators and counting calls count.
use Rattle.std.specs.Prelude.{ℕ}
use Rattle.operator_meaning.specs.declared.operator.Op.TheVariants.{Add, Sub, AbsS, Shl, Shr, ExtractH, ExtractL, Mult, LMult, Negate, Round, LMac, LMsu, MacR, MsuR, LAdd, LSub, LNegate, MultR, LShl, LShr, ShrR, LShrR, LAbs, LDepositH, LDepositL, NormS, NormL, DivS}
use Rattle.weight_table.specs.declared.counted.Counted.{Counted}
use Rattle.weight_table.specs.declared.counted.Counted.TheVariants.{Call, Move16, Move32, Logic16, Logic32, Test}
use Rattle.weight_table.specs.declared.table.Table.{Table}
use Rattle.weight_table.specs.declared.table.Table.TheVariants.{One}

-- the first table
abbrev pub first_weight : Counted → ℕ
first_weight (Call Add) = 1
first_weight (Call Sub) = 1
first_weight (Call AbsS) = 1
first_weight (Call Shl) = 1
first_weight (Call Shr) = 1
first_weight (Call ExtractH) = 1
first_weight (Call ExtractL) = 1
first_weight (Call Mult) = 1
first_weight (Call LMult) = 1
first_weight (Call Negate) = 1
first_weight (Call Round) = 1
first_weight (Call LMac) = 1
first_weight (Call LMsu) = 1
first_weight (Call MacR) = 2
first_weight (Call MsuR) = 2
first_weight (Call LAdd) = 2
first_weight (Call LSub) = 2
first_weight (Call LNegate) = 2
first_weight (Call MultR) = 2
first_weight (Call LShl) = 2
first_weight (Call LShr) = 2
first_weight (Call ShrR) = 2
first_weight (Call LShrR) = 3
first_weight (Call LAbs) = 3
first_weight (Call LDepositH) = 2
first_weight (Call LDepositL) = 2
first_weight (Call NormS) = 15
first_weight (Call NormL) = 30
first_weight (Call DivS) = 18
first_weight Move16 = 1
first_weight Move32 = 2
first_weight Logic16 = 1
first_weight Logic32 = 2
first_weight Test = 2

-- what a call counts by a table
abbrev pub weight_of : Table → Counted → ℕ
weight_of One what = first_weight what
