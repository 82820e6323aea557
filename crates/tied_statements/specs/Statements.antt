-- Statements and blocks whose names are tied, by what is in scope where they stand and by the function that they
-- stand in.
use Rattle.std.specs.Prelude.{ℕ, Bool, false, if◌then◌else◌, List, [], ◌∷◌, ◌++◌, Option, Some, None}
use Rattle.sat_base.specs.declared.width.Width.{Width}
use Rattle.sat_base.specs.declared.width.Width.TheVariants.{W32}
use Rattle.c_tree.specs.declared.expression.Expr.{Expr}
use Rattle.c_tree.specs.declared.place.Place.{Place, Plain, Index', Index2', Deref}
use Rattle.c_tree.specs.declared.simple.AssignMark.{AssignMark}
use Rattle.c_tree.specs.declared.simple.AssignMark.TheVariants as mark
use Rattle.c_tree.specs.declared.simple.Simple.{Simple}
use Rattle.c_tree.specs.declared.simple.Simple.TheVariants as simple
use Rattle.c_tree.specs.declared.statement.Block.{Block, fold-Block}
use Rattle.c_tree.specs.declared.statement.Stmt.TheOpen as node
use Rattle.c_tree.specs.declared.statement.Stmt.{Stmt, fold-Stmt}
use Rattle.c_typed.specs.declared.expression.TypedExpr.{TypedExpr}
use Rattle.c_typed.specs.declared.simple.TypedSimple.{TypedSimple}
use Rattle.c_typed.specs.declared.simple.TypedSimple.TheVariants as typed_simple
use Rattle.c_typed.specs.declared.statement.TypedBlock.{TypedBlock}
use Rattle.c_typed.specs.declared.statement.TypedStmt.{TypedStmt}
use Rattle.c_typed.specs.declared.statement.TypedStmt.TheVariants as typed
use Rattle.operator_meaning.specs.declared.object.Object.{Object}
use Rattle.operator_meaning.specs.declared.site.SiteKind.{SiteKind}
use Rattle.operator_meaning.specs.declared.site.SiteKind.TheVariants as kinds
use Rattle.tied_names.specs.declared.note.Note.{Note}
use Rattle.tied_names.specs.Ties.{Here, object_of}
use Rattle.tied_expressions.specs.Expressions.{tied_expression, tied_place, tied_call}
use Rattle.tied_expressions.specs.Sites.{Tied, number_if, noted_if, with_conversion}
use Rattle.tied_statements.specs.declared.statements.Inside.{Inside}
use Rattle.tied_statements.specs.Declarations.{with_objects, starts_in_lists}

abbrev pub name_in : Place → List ℕ
name_in (Plain name) = name.name
name_in (Index' name mark_at _ index) = name.name
name_in (Index2' name first_at _ first second_at _ second) = name.name
name_in (Deref star_at name) = name.name

abbrev pub assign_kind : AssignMark → Option SiteKind
assign_kind mark.Plain = None
assign_kind mark.Plus = Some kinds.Sum
assign_kind mark.Minus = Some kinds.Difference
assign_kind mark.Times = Some kinds.Product
assign_kind mark.And = None
assign_kind mark.Or = None
assign_kind mark.Xor = None

abbrev pub step_kind : Bool → SiteKind
step_kind up = if up then kinds.Sum else kinds.Difference

-- the value that `=` assigns is converted to the width of its target; compound marks take theirs as it is
abbrev pub assigned : AssignMark → Width → TypedExpr → TypedExpr
assigned mark.Plain width e = with_conversion width e
assigned mark.Plus width e = e
assigned mark.Minus width e = e
assigned mark.Times width e = e
assigned mark.And width e = e
assigned mark.Or width e = e
assigned mark.Xor width e = e

abbrev pub tied_simple : Here → Simple → Tied TypedSimple
tied_simple here (simple.Assign at target mark mark_at value) = record {
  value = typed_simple.Assign at (tied_place target here false).value mark mark_at (number_if here (assign_kind mark) mark_at)
      (assigned mark (object_of here (name_in target)).width (tied_expression value here).value);
  notes = (tied_place target here false).notes ++ (noted_if (assign_kind mark) mark_at ++ (tied_expression value here).notes);
}
tied_simple here (simple.Step at target up mark_at) = record {
  value = typed_simple.Step at (tied_place target here false).value up mark_at (number_if here (Some (step_kind up)) mark_at);
  notes = (tied_place target here false).notes ++ noted_if (Some (step_kind up)) mark_at;
}
tied_simple here (simple.SetOverflow at value) = record {
  value = typed_simple.SetOverflow at (with_conversion W32 (tied_expression value here).value);
  notes = (tied_expression value here).notes;
}
tied_simple here (simple.Call call) = record { value = typed_simple.Call (tied_call call here).value; notes = (tied_call call here).notes }

abbrev pub tied_simples : Here → List Simple → Tied (List TypedSimple)
tied_simples here [] = record { value = []; notes = [] }
tied_simples here (one ∷ rest) = record { value = (tied_simple here one).value ∷ (tied_simples here rest).value; notes = (tied_simple here one).notes ++ (tied_simples here rest).notes }

abbrev pub tied_if_any : Here → Option Expr → Tied (Option TypedExpr)
tied_if_any here None = record { value = None; notes = [] }
tied_if_any here (Some e) = record { value = Some (tied_expression e here).value; notes = (tied_expression e here).notes }

-- the value that is returned is converted to what the function gives
abbrev pub returned : Option Width → Option TypedExpr → Option TypedExpr
returned None value = value
returned (Some width) None = None
returned (Some width) (Some e) = Some (with_conversion width e)

-- a statement whose names are tied, what is noted in it, and all objects that are declared up to its end
pub record Done (A : Type 0) : Type 0 where
  pub value : A
  pub notes : List Note
  pub objects : List Object

abbrev pub Walk : Type 0 → Type 0
Walk A = Here → Inside → Done A

abbrev pub all_of : List (Walk TypedStmt) → Walk (List TypedStmt)
all_of [] here inside = record { value = []; notes = []; objects = here.objects }
all_of (one ∷ rest) here inside = record {
  value = (one here inside).value ∷ (all_of rest (with_objects here (one here inside).objects) inside).value;
  notes = (one here inside).notes ++ (all_of rest (with_objects here (one here inside).objects) inside).notes;
  objects = (all_of rest (with_objects here (one here inside).objects) inside).objects;
}

abbrev pub else_of : Option (Walk TypedStmt) → Walk (Option TypedStmt)
else_of None here inside = record { value = None; notes = []; objects = here.objects }
else_of (Some one) here inside = record { value = Some (one here inside).value; notes = (one here inside).notes; objects = (one here inside).objects }

-- in a block the names of its objects are in scope; after it those are that were before it
abbrev pub of_block : node.Block-F (Walk TypedStmt) (Walk TypedBlock) → Walk TypedBlock
of_block block = λ here inside. record {
  value = record {
    at = block.at;
    objects = (starts_in_lists here inside.function block.objects).value;
    stmts = (all_of block.stmts (starts_in_lists here inside.function block.objects).after inside).value;
  };
  notes = (starts_in_lists here inside.function block.objects).notes ++ (all_of block.stmts (starts_in_lists here inside.function block.objects).after inside).notes;
  objects = (all_of block.stmts (starts_in_lists here inside.function block.objects).after inside).objects;
}

abbrev pub of_statement : node.Stmt-F (Walk TypedStmt) (Walk TypedBlock) → Walk TypedStmt
of_statement (node.Empty at) = λ here inside. record { value = typed.Empty at; notes = []; objects = here.objects }
of_statement (node.Block block) = λ here inside. record { value = typed.Block (block here inside).value; notes = (block here inside).notes; objects = (block here inside).objects }
of_statement (node.Simple s) = λ here inside. record { value = typed.Simple (tied_simple here s).value; notes = (tied_simple here s).notes; objects = here.objects }
of_statement (node.If at cond one other) = λ here inside. record {
  value = typed.If at (tied_expression cond here).value (one here inside).value (else_of other (with_objects here (one here inside).objects) inside).value;
  notes = (tied_expression cond here).notes ++ ((one here inside).notes ++ (else_of other (with_objects here (one here inside).objects) inside).notes);
  objects = (else_of other (with_objects here (one here inside).objects) inside).objects;
}
of_statement (node.While at cond body) = λ here inside. record {
  value = typed.While at (tied_expression cond here).value (body here inside).value;
  notes = (tied_expression cond here).notes ++ (body here inside).notes;
  objects = (body here inside).objects;
}
of_statement (node.Do at body cond) = λ here inside. record {
  value = typed.Do at (body here inside).value (tied_expression cond (with_objects here (body here inside).objects)).value;
  notes = (body here inside).notes ++ (tied_expression cond (with_objects here (body here inside).objects)).notes;
  objects = (body here inside).objects;
}
of_statement (node.For at first cond last body) = λ here inside. record {
  value = typed.For at (tied_simples here first).value (tied_if_any here cond).value (tied_simples here last).value (body here inside).value;
  notes = (tied_simples here first).notes ++ ((tied_if_any here cond).notes ++ ((tied_simples here last).notes ++ (body here inside).notes));
  objects = (body here inside).objects;
}
of_statement (node.Break at) = λ here inside. record { value = typed.Break at; notes = []; objects = here.objects }
of_statement (node.Continue at) = λ here inside. record { value = typed.Continue at; notes = []; objects = here.objects }
of_statement (node.Return at value) = λ here inside. record {
  value = typed.Return at (returned inside.gives (tied_if_any here value).value);
  notes = (tied_if_any here value).notes;
  objects = here.objects;
}

unfoldable pub tied_statement : Stmt → Here → Inside → Done TypedStmt
tied_statement = fold-Stmt (Walk TypedStmt) (Walk TypedBlock) of_statement of_block

unfoldable pub tied_block : Block → Here → Inside → Done TypedBlock
tied_block = fold-Block (Walk TypedStmt) (Walk TypedBlock) of_statement of_block

abbrev pub tied_else : Option Stmt → Here → Inside → Done (Option TypedStmt)
tied_else None here inside = record { value = None; notes = []; objects = here.objects }
tied_else (Some stmt) here inside = record { value = Some (tied_statement stmt here inside).value; notes = (tied_statement stmt here inside).notes; objects = (tied_statement stmt here inside).objects }

-- statements that follow one another
abbrev pub tied_statements : List Stmt → Here → Inside → Done (List TypedStmt)
tied_statements [] here inside = record { value = []; notes = []; objects = here.objects }
tied_statements (stmt ∷ stmts) here inside = record {
  value = (tied_statement stmt here inside).value ∷ (tied_statements stmts (with_objects here (tied_statement stmt here inside).objects) inside).value;
  notes = (tied_statement stmt here inside).notes ++ (tied_statements stmts (with_objects here (tied_statement stmt here inside).objects) inside).notes;
  objects = (tied_statements stmts (with_objects here (tied_statement stmt here inside).objects) inside).objects;
}
