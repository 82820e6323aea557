-- What the lexer gives, and no fault tells: the integers that objects start with have 32 bits. In a pattern `boxed` is
-- a box with an expression in it, by its three fields.
use Rattle.std.specs.Prelude.{◌≡◌, Bool, true, ◌&&◌, Option, Some, None}
use Rattle.std.specs.List.{list_all}
use Rattle.sat_base.specs.declared.width.Width.TheVariants.{W32}
use Rattle.c_tree.specs.declared.call.Arg.{Arg, Value', Address}
use Rattle.c_tree.specs.declared.declaration.Decl.{Decl}
use Rattle.c_tree.specs.declared.declaration.Init.{Init}
use Rattle.c_tree.specs.declared.declaration.Init.TheVariants as init
use Rattle.c_tree.specs.declared.declaration.Objects.{Objects}
use Rattle.c_tree.specs.declared.declaration.Row.{Row}
use Rattle.c_tree.specs.declared.expression.Expr.{Expr}
use Rattle.c_tree.specs.declared.expression.ExprKind.{ExprKind, Int, Unary', Binary', Cast', more_of-Expr as boxed}
use Rattle.c_tree.specs.declared.program.Item.{Item}
use Rattle.c_tree.specs.declared.program.Item.TheVariants as items
use Rattle.c_tree.specs.declared.program.Program.{Program}
use Rattle.c_tree.specs.declared.statement.Block.{Block, fold-Block}
use Rattle.c_tree.specs.declared.statement.Stmt.TheOpen as node
use Rattle.lawful_sources.specs.Objects.{fits_width}

-- ---- constant expressions

-- the integers from which the value of a constant expression is folded have 32 bits
abbrev pub kind_fits : ExprKind → Bool
kind_fits (Int value) = fits_width W32 value
kind_fits (Unary' mark mark_at _ (boxed at brackets kind _)) = kind_fits kind
kind_fits (Binary' mark mark_at _ (boxed at brackets kind _) _ (boxed at2 brackets2 kind2 _)) = kind_fits kind && kind_fits kind2
kind_fits (Cast' width _ (boxed at brackets kind _)) = kind_fits kind
kind_fits kind = true

-- and so have those in an expression, by what stands in its brackets
abbrev pub expression_fits : Expr → Bool
expression_fits e = kind_fits e.kind

-- an address has no value
abbrev pub argument_fits : Arg → Bool
argument_fits (Value' at brackets kind) = kind_fits kind
argument_fits (Address at place) = true

-- ---- declarations

abbrev pub row_fits : Row → Bool
row_fits row = list_all expression_fits row.values

-- an object without an initialiser is all 0
abbrev pub initialiser_fits : Init → Bool
initialiser_fits init.Nothing = true
initialiser_fits (init.One arg) = argument_fits arg
initialiser_fits (init.Flat values) = list_all expression_fits values
initialiser_fits (init.Rows rows) = list_all row_fits rows

abbrev pub declaration_fits : Decl → Bool
declaration_fits decl = initialiser_fits decl.init

abbrev pub declarations_fit : Objects → Bool
declarations_fit list = list_all declaration_fits list.decls

-- ---- statements

abbrev pub fits_if_any : Option Bool → Bool
fits_if_any None = true
fits_if_any (Some fits) = fits

-- the test of a part of which it is known
abbrev pub itself : Bool → Bool
itself fits = fits

-- only blocks have declarations: all in the blocks of a statement
unfoldable pub of_statement : node.Stmt-F Bool Bool → Bool
of_statement (node.Empty at) = true
of_statement (node.Block block) = block
of_statement (node.Simple one) = true
of_statement (node.If at cond one other) = one && fits_if_any other
of_statement (node.While at cond body) = body
of_statement (node.Do at body cond) = body
of_statement (node.For at first cond last body) = body
of_statement (node.Break at) = true
of_statement (node.Continue at) = true
of_statement (node.Return at value) = true

unfoldable pub of_block : node.Block-F Bool Bool → Bool
of_block block = list_all declarations_fit block.objects && list_all itself block.stmts

abbrev pub block_fits : Block → Bool
block_fits = fold-Block Bool Bool of_statement of_block

abbrev pub body_fits : Option Block → Bool
body_fits None = true
body_fits (Some block) = block_fits block

-- ---- the whole source

abbrev pub item_fits : Item → Bool
item_fits (items.Objects list) = declarations_fit list
item_fits (items.Function function) = body_fits function.body
item_fits (items.ExternFlag at) = true

-- each integer that the value of an object is folded from has 32 bits
abbrev pub IntegersFit : Program → Type 0
IntegersFit program = list_all item_fits program.items ≡ true
