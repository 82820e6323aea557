-- The first token of each node. Brackets around an expression are part of it.
use Rattle.sat_base.specs.declared.name.At.{At}
use Rattle.c_tree.specs.declared.call.Arg.{Arg, Value', Address}
use Rattle.c_tree.specs.declared.place.Place.{Place, Plain, Index', Index2', Deref}
use Rattle.c_tree.specs.declared.program.Item.{Item}
use Rattle.c_tree.specs.declared.program.Item.TheVariants as items
use Rattle.c_tree.specs.declared.simple.Simple.{Simple}
use Rattle.c_tree.specs.declared.simple.Simple.TheVariants as simple
use Rattle.c_tree.specs.declared.statement.Stmt.{Stmt, Empty, Block', Simple as SimpleStmt, If', While', Do', For', Break, Continue, Return}

abbrev pub start_of_place : Place → At
start_of_place (Plain name) = name.at
start_of_place (Index' name mark_at _ index) = name.at
start_of_place (Index2' name first_at _ first second_at _ second) = name.at
start_of_place (Deref star_at name) = star_at

abbrev pub start_of_argument : Arg → At
start_of_argument (Value' at brackets kind) = at
start_of_argument (Address at place) = at

abbrev pub start_of_simple : Simple → At
start_of_simple (simple.Assign at place mark mark_at value) = at
start_of_simple (simple.Step at place up mark_at) = at
start_of_simple (simple.SetOverflow at value) = at
start_of_simple (simple.Call call) = call.name.at

abbrev pub start_of_statement : Stmt → At
start_of_statement (Empty at) = at
start_of_statement (Block' at objects _ stmts) = at
start_of_statement (SimpleStmt simple) = start_of_simple simple
start_of_statement (If' at cond _ branch other) = at
start_of_statement (While' at cond _ body) = at
start_of_statement (Do' at _ body cond) = at
start_of_statement (For' at first cond last _ body) = at
start_of_statement (Break at) = at
start_of_statement (Continue at) = at
start_of_statement (Return at value) = at

abbrev pub start_of_item : Item → At
start_of_item (items.Objects objects) = objects.at
start_of_item (items.Function function) = function.at
start_of_item (items.ExternFlag at) = at
