-- The grammar of sources, rule by rule. A rule says of a part of the tree what it is put together from, in two
-- runs: what stands early, and then what stands from that token on at which the part counts as a node of the
-- tree. A part that is no node of its own has its whole rule in the early run. Brackets around an expression
-- count as a node. The grammar is that of ISO/IEC 9899:1990, 6.3 to 6.7, for the words of the profile.
use Rattle.std.specs.Prelude.{◌≡◌, ℕ, zero, suc, ◌+◌, Bool, true, false, ℤ, List, [], ◌∷◌, ◌++◌, Option, Some, None}
use Rattle.sat_base.specs.declared.name.At.{At}
use Rattle.sat_base.specs.declared.name.Named.{Named}
use Rattle.sat_base.specs.declared.width.Width.{Width}
use Rattle.sat_base.specs.declared.width.Width.TheVariants.{W16, W32}
use Rattle.c_tree.specs.declared.call.Arg.{Arg}
use Rattle.c_tree.specs.declared.call.Arg.TheVariants as arg
use Rattle.c_tree.specs.declared.call.Call.{Call}
use Rattle.c_tree.specs.declared.declaration.Decl.{Decl}
use Rattle.c_tree.specs.declared.declaration.Dim.{Dim}
use Rattle.c_tree.specs.declared.declaration.Init.{Init}
use Rattle.c_tree.specs.declared.declaration.Init.TheVariants as init
use Rattle.c_tree.specs.declared.declaration.Objects.{Objects}
use Rattle.c_tree.specs.declared.declaration.Row.{Row}
use Rattle.c_tree.specs.declared.expression.BinaryMark.{BinaryMark}
use Rattle.c_tree.specs.declared.expression.Expr.{Expr}
use Rattle.c_tree.specs.declared.expression.ExprKind.TheVariants as kind
use Rattle.c_tree.specs.declared.expression.UnaryMark.{UnaryMark}
use Rattle.c_tree.specs.declared.function.Function.{Function}
use Rattle.c_tree.specs.declared.function.Param.{Param}
use Rattle.c_tree.specs.declared.place.Place.{Place}
use Rattle.c_tree.specs.declared.place.Place.TheVariants as place
use Rattle.c_tree.specs.declared.program.Item.{Item}
use Rattle.c_tree.specs.declared.program.Item.TheVariants as item
use Rattle.c_tree.specs.declared.simple.AssignMark.{AssignMark}
use Rattle.c_tree.specs.declared.simple.Simple.{Simple}
use Rattle.c_tree.specs.declared.simple.Simple.TheVariants as simple
use Rattle.c_tree.specs.declared.statement.Block.{Block}
use Rattle.c_tree.specs.declared.statement.Stmt.{Stmt, If', While', For', Empty, Block', Do', Break, Continue, Return, Held-Stmt-If-3, None', Some', more_of-Stmt as stmt_in_box}
use Rattle.c_tree.specs.declared.statement.Stmt.{Simple as SimpleStmt}
use Rattle.c_tree.specs.declared.statement.Stmt.TheVariants as stmt
use Rattle.c_tree.specs.Starts.{start_of_place}
use Rattle.c_grammar.specs.declared.symbol.Symbol.TheVariants.{Extern, Flag, IntWord, Overflow, Static, Const, Void, Word16, Short, Word32, Long, If, Else, While, Do, For, OpenParen, CloseParen, OpenBracket, CloseBracket, OpenBrace, CloseBrace, Comma, Semicolon, Question, Colon, Equal, And, Star}
use Rattle.c_grammar.specs.declared.symbol.Symbol.TheVariants as symbol
use Rattle.c_grammar.specs.Marks.{assign_symbol, step_symbol, unary_symbol, binary_symbol, rank_of}
use Rattle.c_grammar.specs.Nodes.{Node}
use Rattle.c_grammar.specs.Nodes as a
use Rattle.c_grammar.specs.Parts.{Part, node, word, kept, called, valued, each, separated}

-- whether a statement ends in an `if` that has no `else`
abbrev mutual
  pub ends_open : Stmt → Bool
  ends_open (Empty at) = false
  ends_open (Block' at objects _ stmts) = false
  ends_open (SimpleStmt simple) = false
  ends_open (If' at cond _ branch other) = open_else other
  ends_open (While' at cond _ (stmt_in_box body _)) = ends_open body
  ends_open (Do' at _ body cond) = false
  ends_open (For' at first cond last _ (stmt_in_box body _)) = ends_open body
  ends_open (Break at) = false
  ends_open (Continue at) = false
  ends_open (Return at value) = false

  pub open_else : Held-Stmt-If-3 → Bool
  open_else None' = true
  open_else (Some' _ (stmt_in_box branch _)) = ends_open branch

pub data Rule : Node → List Part → List Part → Type 0 where
  -- ---- items: declarations and definitions at file scope
  extern_flag : {i : Item} {at : At} → i ≡ item.ExternFlag at
      → Rule (a.item i) (kept Extern at ∷ word Flag ∷ word Overflow ∷ word Semicolon ∷ []) []
  extern_int : {i : Item} {at : At} → i ≡ item.ExternFlag at
      → Rule (a.item i) (kept Extern at ∷ word IntWord ∷ word Overflow ∷ word Semicolon ∷ []) []
  item_objects : {i : Item} {objects : Objects} → i ≡ item.Objects objects → Rule (a.item i) (node (a.objects objects) ∷ []) []
  item_function : {i : Item} {function : Function} → i ≡ item.Function function → Rule (a.item i) (node (a.function function) ∷ []) []
  -- ---- objects: qualifiers, a type, and declarators
  objects : {o : Objects} {at : At} {is_static is_const : Bool} {width : Width} {d : Decl} {ds : List Decl}
      → o ≡ record { at = at; decls = d ∷ ds }
      → Rule (a.objects o) (node (a.specifiers at is_static is_const width) ∷ separated (a.declarator is_static is_const width) d ds ++ word Semicolon ∷ []) []
  no_qualifier : {at : At} {width : Width} → Rule (a.specifiers at false false width) (node (a.type_ at width) ∷ []) []
  static : {at type_at : At} {width : Width} → Rule (a.specifiers at true false width) (kept Static at ∷ node (a.type_ type_at width) ∷ []) []
  const : {at type_at : At} {width : Width} → Rule (a.specifiers at false true width) (kept Const at ∷ node (a.type_ type_at width) ∷ []) []
  static_const : {at type_at : At} {width : Width} → Rule (a.specifiers at true true width) (kept Static at ∷ word Const ∷ node (a.type_ type_at width) ∷ []) []
  const_static : {at type_at : At} {width : Width} → Rule (a.specifiers at true true width) (kept Const at ∷ word Static ∷ node (a.type_ type_at width) ∷ []) []
  word16 : {at : At} → Rule (a.type_ at W16) (kept Word16 at ∷ []) []
  short : {at : At} → Rule (a.type_ at W16) (kept Short at ∷ []) []
  short_int : {at : At} → Rule (a.type_ at W16) (kept Short at ∷ word IntWord ∷ []) []
  word32 : {at : At} → Rule (a.type_ at W32) (kept Word32 at ∷ []) []
  flag : {at : At} → Rule (a.type_ at W32) (kept Flag at ∷ []) []
  int : {at : At} → Rule (a.type_ at W32) (kept IntWord at ∷ []) []
  long : {at : At} → Rule (a.type_ at W32) (kept Long at ∷ []) []
  long_int : {at : At} → Rule (a.type_ at W32) (kept Long at ∷ word IntWord ∷ []) []
  view : {is_static is_const : Bool} {width : Width} {d : Decl} {at : At} {name : Named} {start : Init}
      → d ≡ record { at = at; name = name; width = width; pointer = true; rows = None; cols = None; init = start; is_static = is_static; is_const = is_const }
      → Rule (a.declarator is_static is_const width d) (kept Star at ∷ called name ∷ node (a.view_start start) ∷ []) []
  object : {is_static is_const : Bool} {width : Width} {d : Decl} {name : Named} {rows cols : Option Dim} {start : Init}
      → d ≡ record { at = name.at; name = name; width = width; pointer = false; rows = rows; cols = cols; init = start; is_static = is_static; is_const = is_const }
      → Rule (a.declarator is_static is_const width d) (called name ∷ node (a.dimensions rows cols) ∷ node (a.start start) ∷ []) []
  scalar : Rule (a.dimensions None None) [] []
  array : {rows : Dim} → Rule (a.dimensions (Some rows) None) (node (a.dimension rows) ∷ []) []
  table : {rows : Dim} {at : At} {length : Expr}
      → Rule (a.dimensions (Some rows) (Some (record { at = at; length = Some length }))) (node (a.dimension rows) ∷ kept OpenBracket at ∷ node (a.expr length) ∷ word CloseBracket ∷ []) []
  dimension : {d : Dim} → Rule (a.dimension d) (kept OpenBracket d.at ∷ node (a.maybe_expr d.length) ∷ word CloseBracket ∷ []) []
  -- ---- initialisers
  view_nothing : Rule (a.view_start init.Nothing) [] []
  view_one : {value : Arg} → Rule (a.view_start (init.One value)) (word Equal ∷ node (a.arg value) ∷ []) []
  nothing : Rule (a.start init.Nothing) [] []
  one : {value : Expr} → Rule (a.start (init.One (arg.Value value))) (word Equal ∷ node (a.expr value) ∷ []) []
  flat : {values : List Expr} → Rule (a.start (init.Flat values)) (word Equal ∷ word OpenBrace ∷ node (a.values values) ∷ word CloseBrace ∷ []) []
  rows : {row : Row} {rows : List Row}
      → Rule (a.start (init.Rows (row ∷ rows))) (word Equal ∷ word OpenBrace ∷ separated a.row row rows ++ word CloseBrace ∷ []) []
  rows_and_comma : {row : Row} {rows : List Row}
      → Rule (a.start (init.Rows (row ∷ rows))) (word Equal ∷ word OpenBrace ∷ separated a.row row rows ++ word Comma ∷ word CloseBrace ∷ []) []
  row : {r : Row} → Rule (a.row r) (word OpenBrace ∷ node (a.values r.values) ∷ word CloseBrace ∷ []) []
  values : {value : Expr} {values : List Expr} → Rule (a.values (value ∷ values)) (separated a.expr value values) []
  values_and_comma : {value : Expr} {values : List Expr} → Rule (a.values (value ∷ values)) (separated a.expr value values ++ word Comma ∷ []) []
  -- ---- functions
  function : {f : Function} {at : At} {name : Named} {gives : Option Width} {params : List Param} {body : Option Block} {is_static : Bool}
      → f ≡ record { at = at; name = name; gives = gives; params = params; body = body; is_static = is_static }
      → Rule (a.function f) (node (a.given at is_static gives) ∷ called name ∷ word OpenParen ∷ node (a.params params) ∷ word CloseParen ∷ node (a.body body) ∷ []) []
  given : {at : At} {gives : Option Width} → Rule (a.given at false gives) (node (a.result at gives) ∷ []) []
  given_static : {at result_at : At} {gives : Option Width} → Rule (a.given at true gives) (kept Static at ∷ node (a.result result_at gives) ∷ []) []
  result_type : {at : At} {width : Width} → Rule (a.result at (Some width)) (node (a.type_ at width) ∷ []) []
  result_void : {at : At} → Rule (a.result at None) (kept Void at ∷ []) []
  no_params : Rule (a.params []) [] []
  void_params : Rule (a.params []) (word Void ∷ []) []
  params : {p : Param} {ps : List Param} → Rule (a.params (p ∷ ps)) (separated a.param p ps) []
  number_param : {p : Param} {at type_at : At} {name : Option Named} {width : Width} {is_const : Bool}
      → p ≡ record { at = at; type_at = type_at; name = name; width = width; is_const = is_const; pointer = false; dim = None }
      → Rule (a.param p) (node (a.param_type at type_at is_const width) ∷ node (a.maybe_name name) ∷ []) []
  view_param : {p : Param} {at type_at : At} {name : Option Named} {width : Width} {is_const : Bool}
      → p ≡ record { at = at; type_at = type_at; name = name; width = width; is_const = is_const; pointer = true; dim = None }
      → Rule (a.param p) (node (a.param_type at type_at is_const width) ∷ word Star ∷ node (a.maybe_name name) ∷ []) []
  array_param : {p : Param} {at type_at : At} {name : Option Named} {width : Width} {is_const : Bool} {dim : Dim}
      → p ≡ record { at = at; type_at = type_at; name = name; width = width; is_const = is_const; pointer = false; dim = Some dim }
      → Rule (a.param p) (node (a.param_type at type_at is_const width) ∷ node (a.maybe_name name) ∷ node (a.dimension dim) ∷ []) []
  param_type : {at : At} {width : Width} → Rule (a.param_type at at false width) (node (a.type_ at width) ∷ []) []
  const_param_type : {at type_at : At} {width : Width} → Rule (a.param_type at type_at true width) (kept Const at ∷ node (a.type_ type_at width) ∷ []) []
  no_name : Rule (a.maybe_name None) [] []
  a_name : {name : Named} → Rule (a.maybe_name (Some name)) (called name ∷ []) []
  declared : Rule (a.body None) (word Semicolon ∷ []) []
  defined : {block : Block} → Rule (a.body (Some block)) (node (a.block block) ∷ []) []
  -- ---- statements
  block : {b : Block} → Rule (a.block b) (kept OpenBrace b.at ∷ each a.objects b.objects ++ each a.stmt b.stmts ++ word CloseBrace ∷ []) []
  empty : {s : Stmt} {at : At} → s ≡ stmt.Empty at → Rule (a.stmt s) [] (kept Semicolon at ∷ [])
  block_stmt : {s : Stmt} {block : Block} → s ≡ stmt.Block block → Rule (a.stmt s) [] (node (a.block block) ∷ [])
  simple_stmt : {s : Stmt} {simple : Simple} → s ≡ stmt.Simple simple → Rule (a.stmt s) [] (node (a.simple simple) ∷ word Semicolon ∷ [])
  if_ : {s : Stmt} {at : At} {cond : Expr} {branch : Stmt} → s ≡ stmt.If at cond branch None
      → Rule (a.stmt s) [] (kept If at ∷ word OpenParen ∷ node (a.expr cond) ∷ word CloseParen ∷ node (a.stmt branch) ∷ [])
  -- an `else` belongs to the nearest `if` before it that has none
  if_else : {s : Stmt} {at : At} {cond : Expr} {branch other : Stmt} → s ≡ stmt.If at cond branch (Some other) → ends_open branch ≡ false
      → Rule (a.stmt s) [] (kept If at ∷ word OpenParen ∷ node (a.expr cond) ∷ word CloseParen ∷ node (a.stmt branch) ∷ word Else ∷ node (a.stmt other) ∷ [])
  while_ : {s : Stmt} {at : At} {cond : Expr} {body : Stmt} → s ≡ stmt.While at cond body
      → Rule (a.stmt s) [] (kept While at ∷ word OpenParen ∷ node (a.expr cond) ∷ word CloseParen ∷ node (a.stmt body) ∷ [])
  do_ : {s : Stmt} {at : At} {body : Stmt} {cond : Expr} → s ≡ stmt.Do at body cond
      → Rule (a.stmt s) [] (kept Do at ∷ node (a.stmt body) ∷ word While ∷ word OpenParen ∷ node (a.expr cond) ∷ word CloseParen ∷ word Semicolon ∷ [])
  for_ : {s : Stmt} {at : At} {first last : List Simple} {cond : Option Expr} {body : Stmt} → s ≡ stmt.For at first cond last body
      → Rule (a.stmt s) [] (kept For at ∷ word OpenParen ∷ node (a.simples first) ∷ word Semicolon ∷ node (a.maybe_expr cond) ∷ word Semicolon ∷ node (a.simples last) ∷ word CloseParen ∷ node (a.stmt body) ∷ [])
  break : {s : Stmt} {at : At} → s ≡ stmt.Break at → Rule (a.stmt s) [] (kept symbol.Break at ∷ word Semicolon ∷ [])
  continue : {s : Stmt} {at : At} → s ≡ stmt.Continue at → Rule (a.stmt s) [] (kept symbol.Continue at ∷ word Semicolon ∷ [])
  return : {s : Stmt} {at : At} {value : Option Expr} → s ≡ stmt.Return at value
      → Rule (a.stmt s) [] (kept symbol.Return at ∷ node (a.maybe_expr value) ∷ word Semicolon ∷ [])
  no_simples : Rule (a.simples []) [] []
  simples : {x : Simple} {xs : List Simple} → Rule (a.simples (x ∷ xs)) (separated a.simple x xs) []
  assign : {x : Simple} {p : Place} {mark : AssignMark} {mark_at : At} {value : Expr} → x ≡ simple.Assign (start_of_place p) p mark mark_at value
      → Rule (a.simple x) (node (a.place p) ∷ kept (assign_symbol mark) mark_at ∷ node (a.expr value) ∷ []) []
  step_after : {x : Simple} {p : Place} {up : Bool} {mark_at : At} → x ≡ simple.Step (start_of_place p) p up mark_at
      → Rule (a.simple x) (node (a.named p) ∷ kept (step_symbol up) mark_at ∷ []) []
  step_before : {x : Simple} {p : Place} {up : Bool} {mark_at : At} → x ≡ simple.Step mark_at p up mark_at
      → Rule (a.simple x) (kept (step_symbol up) mark_at ∷ node (a.place p) ∷ []) []
  set_overflow : {x : Simple} {at : At} {value : Expr} → x ≡ simple.SetOverflow at value
      → Rule (a.simple x) (kept Overflow at ∷ word Equal ∷ node (a.expr value) ∷ []) []
  simple_call : {x : Simple} {c : Call} → x ≡ simple.Call c → Rule (a.simple x) (node (a.call c) ∷ []) []
  -- ---- places and calls
  place_named : {p : Place} → Rule (a.place p) (node (a.named p) ∷ []) []
  deref : {p : Place} {star_at : At} {name : Named} → p ≡ place.Deref star_at name → Rule (a.place p) [] (kept Star star_at ∷ called name ∷ [])
  plain : {p : Place} {name : Named} → p ≡ place.Plain name → Rule (a.named p) [] (called name ∷ [])
  index : {p : Place} {name : Named} {mark_at : At} {index : Expr} → p ≡ place.Index name mark_at index
      → Rule (a.named p) [] (called name ∷ kept OpenBracket mark_at ∷ node (a.expr index) ∷ word CloseBracket ∷ [])
  index2 : {p : Place} {name : Named} {first_at second_at : At} {first second : Expr} → p ≡ place.Index2 name first_at first second_at second
      → Rule (a.named p) [] (called name ∷ kept OpenBracket first_at ∷ node (a.expr first) ∷ word CloseBracket ∷ kept OpenBracket second_at ∷ node (a.expr second) ∷ word CloseBracket ∷ [])
  call : {c : Call} {name : Named} {args : List Arg} → c ≡ record { name = name; args = args }
      → Rule (a.call c) (called name ∷ word OpenParen ∷ node (a.args args) ∷ word CloseParen ∷ []) []
  no_args : Rule (a.args []) [] []
  args : {x : Arg} {xs : List Arg} → Rule (a.args (x ∷ xs)) (separated a.arg x xs) []
  address : {x : Arg} {at : At} {p : Place} → x ≡ arg.Address at p → Rule (a.arg x) (kept And at ∷ node (a.named p) ∷ []) []
  value : {x : Arg} {e : Expr} → x ≡ arg.Value e → Rule (a.arg x) (node (a.expr e) ∷ []) []
  -- ---- expressions
  no_expr : Rule (a.maybe_expr None) [] []
  an_expr : {e : Expr} → Rule (a.maybe_expr (Some e)) (node (a.expr e) ∷ []) []
  plain_expr : {e : Expr} → Rule (a.expr e) (node (a.chain 9 e) ∷ []) []
  choose : {e cond one other : Expr} → e ≡ record { at = cond.at; brackets = 0; kind = kind.Choose cond one other }
      → Rule (a.expr e) (node (a.chain 9 cond) ∷ []) (word Question ∷ node (a.expr one) ∷ word Colon ∷ node (a.expr other) ∷ [])
  -- a chain of marks of one rank, grouped from the left; its operands are of lower ranks
  operand : {n : ℕ} {e : Expr} → Rule (a.chain (suc n) e) (node (a.chain n e) ∷ []) []
  binary : {n : ℕ} {e left right : Expr} {mark : BinaryMark} {mark_at : At} → rank_of mark ≡ suc n
      → e ≡ record { at = left.at; brackets = 0; kind = kind.Binary mark mark_at left right }
      → Rule (a.chain (suc n) e) (node (a.chain (suc n) left) ∷ []) (kept (binary_symbol mark) mark_at ∷ node (a.chain n right) ∷ [])
  no_chain : {e : Expr} → Rule (a.chain zero e) (node (a.unary e) ∷ []) []
  unary : {e part : Expr} {mark : UnaryMark} {mark_at : At} → e ≡ record { at = mark_at; brackets = 0; kind = kind.Unary mark mark_at part }
      → Rule (a.unary e) [] (kept (unary_symbol mark) mark_at ∷ node (a.unary part) ∷ [])
  cast : {e part : Expr} {at type_at : At} {width : Width} → e ≡ record { at = at; brackets = 0; kind = kind.Cast width part }
      → Rule (a.unary e) [] (kept OpenParen at ∷ node (a.type_ type_at width) ∷ word CloseParen ∷ node (a.unary part) ∷ [])
  brackets : {e inner : Expr} {at : At} → e ≡ record { at = at; brackets = inner.brackets + 1; kind = inner.kind }
      → Rule (a.unary e) [] (kept OpenParen at ∷ node (a.expr inner) ∷ word CloseParen ∷ [])
  number : {e : Expr} {at : At} {value : ℤ} → e ≡ record { at = at; brackets = 0; kind = kind.Int value } → Rule (a.unary e) [] (valued at value ∷ [])
  read_overflow : {e : Expr} {at : At} → e ≡ record { at = at; brackets = 0; kind = kind.ReadOverflow at } → Rule (a.unary e) [] (kept Overflow at ∷ [])
  call_value : {e : Expr} {c : Call} → e ≡ record { at = c.name.at; brackets = 0; kind = kind.Call c } → Rule (a.unary e) [] (node (a.call c) ∷ [])
  read : {e : Expr} {p : Place} → e ≡ record { at = start_of_place p; brackets = 0; kind = kind.Read p } → Rule (a.unary e) [] (node (a.place p) ∷ [])
