-- What is begun by a rule goes on, where its parts do.
use Rattle.std.proofs.Common.{◌≡◌, ℕ, zero, suc, ◌+◌, Bool, true, false, List, [], ◌∷◌, ◌++◌, ◌⊎◌, inl, inr, None, Some, refl, ap, subst, ◌∙◌, sym}
use Rattle.std.proofs.lemmas.List.{append_assoc, append-nil}
use Rattle.sat_base.specs.declared.name.At.{At}
use Rattle.sat_base.specs.declared.width.Width.{Width}
use Rattle.sat_base.specs.declared.width.Width.TheVariants.{W16, W32}
use Rattle.c_tree.specs.declared.call.Arg.TheVariants as args
use Rattle.c_tree.specs.declared.declaration.Init.TheVariants as inits
use Rattle.c_tree.specs.declared.declaration.Decl.{Decl}
use Rattle.c_tree.specs.declared.expression.BinaryMark.{BinaryMark}
use Rattle.c_tree.specs.declared.expression.Expr.{Expr}
use Rattle.c_tree.specs.declared.expression.ExprKind.TheVariants as exprs
use Rattle.c_tree.specs.declared.place.Place.TheVariants as places
use Rattle.c_tree.specs.declared.program.Item.TheVariants as items
use Rattle.c_tree.specs.declared.simple.Simple.TheVariants as simples
use Rattle.c_tree.specs.declared.statement.Block.{Block}
use Rattle.c_tree.specs.declared.statement.Stmt.{Stmt}
use Rattle.c_tree.specs.declared.statement.Stmt.TheVariants as stmts
use Rattle.c_tree.specs.Starts.{start_of_place}
use Rattle.c_grammar.specs.declared.symbol.Symbol.TheVariants as symbol
use Rattle.c_grammar.specs.Grammar.{Rule, ends_open}
use Rattle.c_grammar.specs.Grammar as rule
use Rattle.c_grammar.specs.Marks.{assign_symbol, step_symbol, unary_symbol, binary_symbol, rank_of}
use Rattle.c_grammar.specs.Nodes.{Node}
use Rattle.c_grammar.specs.Nodes as a
use Rattle.c_grammar.specs.Parts.{Part, word, kept, each}
use Rattle.c_grammar.specs.Spots.{Spot}
use Rattle.c_grammar.proofs.Begun.{Spelled, Begun, After, Completed, GoesOn, by_rule, joined, spelled_nothing, begun_split, goes_then}
use Rattle.c_grammar.proofs.Schemes.{tree_parts, Scheme, early, late, goes_so, listed_goes, slots_go}
use Rattle.c_grammar.proofs.Shapes.{Kind, Slot, Values, parts_of, kind_of}
use Rattle.c_grammar.proofs.Shapes as k
use Rattle.c_grammar.proofs.Somes.{some, some_declared, declared_slots, objects_made, objects_parts}

module _ (h : ℕ) (again : (kind : Kind) → GoesOn h (tree_parts kind)) where
  go : {kind : Kind} (s : Scheme kind) (x : Values s.early) (y : Values s.late) {w : List Spot} → Begun h (parts_of s.early x ++ parts_of s.late y) w → Completed (tree_parts kind) w
  go = goes_so h some again

  -- ---- declarations of objects

  objects_go : (at : At) (is_static is_const : Bool) (width : Width) (d : Decl) (ds : List Decl) {w : List Spot}
      → Begun h (objects_parts ((at, is_static, is_const, width), ((d, ds), (tt, tt)))) w → Completed (tree_parts k.objects) w
  objects_go at is_static is_const width d ds {w} b =
      objects_made
      (goes_then {B = λ x. Values (declared_slots x)} (tree_parts k.specifiers) (λ x. parts_of (declared_slots x)) (again k.specifiers) (λ x. slots_go h some again (declared_slots x)) (λ x. (some_declared x).all)
      ((at, is_static, is_const, width), ((d, ds), (tt, tt))) w b)

  flat_objects : (at : At) (is_static is_const : Bool) (width : Width) (d : Decl) (ds : List Decl) {w : List Spot}
      → Begun h (objects_parts ((at, is_static, is_const, width), ((d, ds), (tt, tt))) ++ []) w → Begun h (objects_parts ((at, is_static, is_const, width), ((d, ds), (tt, tt)))) w
  flat_objects at is_static is_const width d ds {w} b = subst (λ (ps : List Part). Begun h ps w) (append-nil (objects_parts ((at, is_static, is_const, width), ((d, ds), (tt, tt))))) b

  -- ---- blocks

  abbrev block_slots : List Slot
  block_slots = k.held symbol.OpenBrace ∷ k.many k.objects ∷ k.many k.stmt ∷ k.quoted symbol.CloseBrace ∷ []

  abbrev block_end : List Part
  block_end = word symbol.CloseBrace ∷ []

  abbrev block_made : Values block_slots → Block
  block_made v = record { at = v.0; objects = v.1.0; stmts = v.1.1.0 }

  grouped : (b : Block) → (each a.objects b.objects ++ each a.stmt b.stmts) ++ block_end ≡ each a.objects b.objects ++ (each a.stmt b.stmts ++ block_end)
  grouped b = append_assoc (each a.objects b.objects) (each a.stmt b.stmts) block_end

  block_goes : (x : Block) {w : List Spot} → Begun h ((kept symbol.OpenBrace x.at ∷ each a.objects x.objects ++ each a.stmt x.stmts ++ block_end) ++ []) w → Completed (tree_parts k.block) w
  block_goes x {w} b =
      go (early k.block block_slots block_made (λ v. subst (λ (ps : List Part). Rule (a.block (block_made v)) (kept symbol.OpenBrace v.0 ∷ ps) []) (grouped (block_made v)) rule.block))
      (x.at, (x.objects, (x.stmts, (tt, tt)))) tt (subst (λ (ps : List Part). Begun h ((kept symbol.OpenBrace x.at ∷ ps) ++ []) w) (grouped x) b)

  -- ---- conditions: what is begun of the first branch, or lacks its `else`, goes on with none

  abbrev if_slots : List Slot
  if_slots = k.held symbol.If ∷ k.quoted symbol.OpenParen ∷ k.tree k.expr ∷ k.quoted symbol.CloseParen ∷ k.tree k.stmt ∷ []

  abbrev if_scheme : Scheme k.stmt
  if_scheme = late k.stmt if_slots (λ v. stmts.If v.0 v.1.1.0 v.1.1.1.1.0 None) (λ v. rule.if_ refl)

  abbrev if_values : At → Expr → Stmt → Values if_slots
  if_values at cond branch = (at, (tt, (cond, (tt, (branch, tt)))))

  abbrev else_slots : List Slot
  else_slots = k.quoted symbol.Else ∷ k.tree k.stmt ∷ []

  else_goes : (at : At) (cond : Expr) (branch other : Stmt) → ends_open branch ≡ false → {w : List Spot}
      → Begun h (parts_of if_slots (at, (tt, (cond, (tt, (branch, tt))))) ++ parts_of else_slots (tt, (other, tt))) w → Completed (tree_parts k.stmt) w
  else_goes at cond branch other closed {w} b = pick (begun_split (parts_of if_slots (if_values at cond branch)) (parts_of else_slots (tt, (other, tt))) b)
    where
      pick : Begun h (parts_of if_slots (if_values at cond branch)) w ⊎ After h (parts_of if_slots (if_values at cond branch)) (parts_of else_slots (tt, (other, tt))) w → Completed (tree_parts k.stmt) w
      pick (inl b) = go if_scheme tt (if_values at cond branch) b
      pick (inr y) =
          let c = slots_go h some again else_slots (tt, (other, tt)) y.v y.second in
          let s = by_rule (rule.if_else refl closed) spelled_nothing (joined y.first c.spelled) in
          let e : y.u ++ (y.v ++ c.more) ≡ w ++ c.more = sym (append_assoc y.u y.v c.more) ∙ ap (λ (r : List Spot). r ++ c.more) (sym y.tokens) in
          record { it = stmts.If at cond branch (Some c.it.1.0); more = c.more; spelled = subst (Spelled (tree_parts k.stmt (stmts.If at cond branch (Some c.it.1.0)))) e s }

  -- ---- expressions

  abbrev choice_scheme : Scheme k.expr
  choice_scheme = record {
    early = k.tree (k.chain 9) ∷ [];
    late = k.quoted symbol.Question ∷ k.tree k.expr ∷ k.quoted symbol.Colon ∷ k.tree k.expr ∷ [];
    made = λ x y. record { at = x.0.at; brackets = 0; kind = exprs.Choose x.0 y.1.0 y.1.1.1.0 };
    rule = λ x y. rule.choose refl;
  }

  abbrev binary_scheme : (n : ℕ) (mark : BinaryMark) → rank_of mark ≡ suc n → Scheme (k.chain (suc n))
  binary_scheme n mark rank = record {
    early = k.tree (k.chain (suc n)) ∷ [];
    late = k.held (binary_symbol mark) ∷ k.tree (k.chain n) ∷ [];
    made = λ x y. record { at = x.0.at; brackets = 0; kind = exprs.Binary mark y.0 x.0 y.1.0 };
    rule = λ x y. rule.binary rank refl;
  }

  -- ---- rule by rule

  pub rule_goes : {n : Node} {early late : List Part} → Rule n early late → (w : List Spot) → Begun h (early ++ late) w → Completed (tree_parts (kind_of n)) w
  rule_goes (rule.extern_flag {at = at} is) w b =
      go (early k.item (k.held symbol.Extern ∷ k.quoted symbol.Flag ∷ k.quoted symbol.Overflow ∷ k.quoted symbol.Semicolon ∷ [])
      (λ v. items.ExternFlag v.0) (λ v. rule.extern_flag refl)) (at, (tt, (tt, (tt, tt)))) tt b
  rule_goes (rule.extern_int {at = at} is) w b =
      go (early k.item (k.held symbol.Extern ∷ k.quoted symbol.IntWord ∷ k.quoted symbol.Overflow ∷ k.quoted symbol.Semicolon ∷ [])
      (λ v. items.ExternFlag v.0) (λ v. rule.extern_int refl)) (at, (tt, (tt, (tt, tt)))) tt b
  rule_goes (rule.item_objects {objects = x} is) w b =
      go (early k.item (k.tree k.objects ∷ [])
      (λ v. items.Objects v.0) (λ v. rule.item_objects refl)) (x, tt) tt b
  rule_goes (rule.item_function {function = x} is) w b =
      go (early k.item (k.tree k.function ∷ [])
      (λ v. items.Function v.0) (λ v. rule.item_function refl)) (x, tt) tt b
  rule_goes (rule.objects {at = at} {is_static = is_static} {is_const = is_const} {width = width} {d = d} {ds = ds} is) w b = objects_go at is_static is_const width d ds (flat_objects at is_static is_const width d ds b)
  rule_goes (rule.no_qualifier {at = at} {width = width}) w b =
      go (early k.specifiers (k.tree k.type_ ∷ [])
      (λ v. (v.0.0, false, false, v.0.1)) (λ v. rule.no_qualifier)) ((at, width), tt) tt b
  rule_goes (rule.static {at = at} {type_at = other} {width = width}) w b =
      go (early k.specifiers (k.held symbol.Static ∷ k.tree k.type_ ∷ [])
      (λ v. (v.0, true, false, v.1.0.1)) (λ v. rule.static)) (at, ((other, width), tt)) tt b
  rule_goes (rule.const {at = at} {type_at = other} {width = width}) w b =
      go (early k.specifiers (k.held symbol.Const ∷ k.tree k.type_ ∷ [])
      (λ v. (v.0, false, true, v.1.0.1)) (λ v. rule.const)) (at, ((other, width), tt)) tt b
  rule_goes (rule.static_const {at = at} {type_at = other} {width = width}) w b =
      go (early k.specifiers (k.held symbol.Static ∷ k.quoted symbol.Const ∷ k.tree k.type_ ∷ [])
      (λ v. (v.0, true, true, v.1.1.0.1)) (λ v. rule.static_const)) (at, (tt, ((other, width), tt))) tt b
  rule_goes (rule.const_static {at = at} {type_at = other} {width = width}) w b =
      go (early k.specifiers (k.held symbol.Const ∷ k.quoted symbol.Static ∷ k.tree k.type_ ∷ [])
      (λ v. (v.0, true, true, v.1.1.0.1)) (λ v. rule.const_static)) (at, (tt, ((other, width), tt))) tt b
  rule_goes (rule.word16 {at = at}) w b = go (early k.type_ (k.held symbol.Word16 ∷ []) (λ v. (v.0, W16)) (λ v. rule.word16)) (at, tt) tt b
  rule_goes (rule.short {at = at}) w b = go (early k.type_ (k.held symbol.Short ∷ []) (λ v. (v.0, W16)) (λ v. rule.short)) (at, tt) tt b
  rule_goes (rule.short_int {at = at}) w b =
      go (early k.type_ (k.held symbol.Short ∷ k.quoted symbol.IntWord ∷ [])
      (λ v. (v.0, W16)) (λ v. rule.short_int)) (at, (tt, tt)) tt b
  rule_goes (rule.word32 {at = at}) w b = go (early k.type_ (k.held symbol.Word32 ∷ []) (λ v. (v.0, W32)) (λ v. rule.word32)) (at, tt) tt b
  rule_goes (rule.flag {at = at}) w b = go (early k.type_ (k.held symbol.Flag ∷ []) (λ v. (v.0, W32)) (λ v. rule.flag)) (at, tt) tt b
  rule_goes (rule.int {at = at}) w b = go (early k.type_ (k.held symbol.IntWord ∷ []) (λ v. (v.0, W32)) (λ v. rule.int)) (at, tt) tt b
  rule_goes (rule.long {at = at}) w b = go (early k.type_ (k.held symbol.Long ∷ []) (λ v. (v.0, W32)) (λ v. rule.long)) (at, tt) tt b
  rule_goes (rule.long_int {at = at}) w b =
      go (early k.type_ (k.held symbol.Long ∷ k.quoted symbol.IntWord ∷ [])
      (λ v. (v.0, W32)) (λ v. rule.long_int)) (at, (tt, tt)) tt b
  rule_goes (rule.view {is_static = is_static} {is_const = is_const} {width = width} {at = at} {name = name} {start = x} is) w b =
      go (early (k.declarator is_static is_const width) (k.held symbol.Star ∷ k.name ∷ k.tree k.view_start ∷ [])
      (λ v. record { at = v.0; name = v.1.0; width = width; pointer = true; rows = None; cols = None; init = v.1.1.0; is_static = is_static; is_const = is_const }) (λ v. rule.view refl)) (at, (name, (x, tt))) tt b
  rule_goes (rule.object {is_static = is_static} {is_const = is_const} {width = width} {name = name} {rows = rows} {cols = cols} {start = x} is) w b =
      go (early (k.declarator is_static is_const width) (k.name ∷ k.tree k.dimensions ∷ k.tree k.start ∷ [])
      (λ v. record { at = v.0.at; name = v.0; width = width; pointer = false; rows = v.1.0.0; cols = v.1.0.1; init = v.1.1.0; is_static = is_static; is_const = is_const }) (λ v. rule.object refl)) (name, ((rows, cols), (x, tt))) tt b
  rule_goes rule.scalar w b = go (early k.dimensions ([]) (λ v. (None, None)) (λ v. rule.scalar)) tt tt b
  rule_goes (rule.array {rows = x}) w b = go (early k.dimensions (k.tree k.dimension ∷ []) (λ v. (Some v.0, None)) (λ v. rule.array)) (x, tt) tt b
  rule_goes (rule.table {rows = x} {at = at} {length = e}) w b =
      go (early k.dimensions (k.tree k.dimension ∷ k.held symbol.OpenBracket ∷ k.tree k.expr ∷ k.quoted symbol.CloseBracket ∷ [])
      (λ v. (Some v.0, Some (record { at = v.1.0; length = Some v.1.1.0 }))) (λ v. rule.table)) (x, (at, (e, (tt, tt)))) tt b
  rule_goes (rule.dimension {d = d}) w b =
      go (early k.dimension (k.held symbol.OpenBracket ∷ k.tree k.maybe_expr ∷ k.quoted symbol.CloseBracket ∷ [])
      (λ v. record { at = v.0; length = v.1.0 }) (λ v. rule.dimension)) (d.at, (d.length, (tt, tt))) tt b
  rule_goes rule.view_nothing w b = go (early k.view_start ([]) (λ v. inits.Nothing) (λ v. rule.view_nothing)) tt tt b
  rule_goes (rule.view_one {value = x}) w b =
      go (early k.view_start (k.quoted symbol.Equal ∷ k.tree k.arg ∷ [])
      (λ v. inits.One v.1.0) (λ v. rule.view_one)) (tt, (x, tt)) tt b
  rule_goes rule.nothing w b = go (early k.start ([]) (λ v. inits.Nothing) (λ v. rule.nothing)) tt tt b
  rule_goes (rule.one {value = x}) w b =
      go (early k.start (k.quoted symbol.Equal ∷ k.tree k.expr ∷ [])
      (λ v. inits.One (args.Value v.1.0)) (λ v. rule.one)) (tt, (x, tt)) tt b
  rule_goes (rule.flat {values = xs}) w b =
      go (early k.start (k.quoted symbol.Equal ∷ k.quoted symbol.OpenBrace ∷ k.tree k.values ∷ k.quoted symbol.CloseBrace ∷ [])
      (λ v. inits.Flat v.1.1.0) (λ v. rule.flat)) (tt, (tt, (xs, (tt, tt)))) tt b
  rule_goes (rule.rows {row = x} {rows = xs}) w b =
      go (early k.start (k.quoted symbol.Equal ∷ k.quoted symbol.OpenBrace ∷ k.listed k.row ∷ k.quoted symbol.CloseBrace ∷ [])
      (λ v. inits.Rows (v.1.1.0.0 ∷ v.1.1.0.1)) (λ v. rule.rows)) (tt, (tt, ((x, xs), (tt, tt)))) tt b
  rule_goes (rule.rows_and_comma {row = x} {rows = xs}) w b =
      go (early k.start (k.quoted symbol.Equal ∷ k.quoted symbol.OpenBrace ∷ k.listed k.row ∷ k.quoted symbol.Comma ∷ k.quoted symbol.CloseBrace ∷ [])
      (λ v. inits.Rows (v.1.1.0.0 ∷ v.1.1.0.1)) (λ v. rule.rows_and_comma)) (tt, (tt, ((x, xs), (tt, (tt, tt))))) tt b
  rule_goes (rule.row {r = r}) w b =
      go (early k.row (k.quoted symbol.OpenBrace ∷ k.tree k.values ∷ k.quoted symbol.CloseBrace ∷ [])
      (λ v. record { values = v.1.0 }) (λ v. rule.row)) (tt, (r.values, (tt, tt))) tt b
  rule_goes (rule.values {value = x} {values = xs}) w b = listed_goes h some again k.values k.expr (λ x. x.0 ∷ x.1) (λ x. rule.values) x xs b
  rule_goes (rule.values_and_comma {value = x} {values = xs}) w b =
      go (early k.values (k.listed k.expr ∷ k.quoted symbol.Comma ∷ [])
      (λ v. v.0.0 ∷ v.0.1) (λ v. rule.values_and_comma)) ((x, xs), (tt, tt)) tt b
  rule_goes (rule.function {at = at} {name = name} {gives = gives} {params = ps} {body = x} {is_static = is_static} is) w b =
      go (early k.function (k.tree k.given ∷ k.name ∷ k.quoted symbol.OpenParen ∷ k.tree k.params ∷ k.quoted symbol.CloseParen ∷ k.tree k.body ∷ [])
      (λ v. record { at = v.0.0; name = v.1.0; gives = v.0.2; params = v.1.1.1.0; body = v.1.1.1.1.1.0; is_static = v.0.1 }) (λ v. rule.function refl)) ((at, is_static, gives), (name, (tt, (ps, (tt, (x, tt)))))) tt b
  rule_goes (rule.given {at = at} {gives = gives}) w b =
      go (early k.given (k.tree k.result ∷ [])
      (λ v. (v.0.0, false, v.0.1)) (λ v. rule.given)) ((at, gives), tt) tt b
  rule_goes (rule.given_static {at = at} {result_at = other} {gives = gives}) w b =
      go (early k.given (k.held symbol.Static ∷ k.tree k.result ∷ [])
      (λ v. (v.0, true, v.1.0.1)) (λ v. rule.given_static)) (at, ((other, gives), tt)) tt b
  rule_goes (rule.result_type {at = at} {width = width}) w b =
      go (early k.result (k.tree k.type_ ∷ [])
      (λ v. (v.0.0, Some v.0.1)) (λ v. rule.result_type)) ((at, width), tt) tt b
  rule_goes (rule.result_void {at = at}) w b = go (early k.result (k.held symbol.Void ∷ []) (λ v. (v.0, None)) (λ v. rule.result_void)) (at, tt) tt b
  rule_goes rule.no_params w b = go (early k.params ([]) (λ v. []) (λ v. rule.no_params)) tt tt b
  rule_goes rule.void_params w b = go (early k.params (k.quoted symbol.Void ∷ []) (λ v. []) (λ v. rule.void_params)) (tt, tt) tt b
  rule_goes (rule.params {p = x} {ps = xs}) w b = listed_goes h some again k.params k.param (λ x. x.0 ∷ x.1) (λ x. rule.params) x xs b
  rule_goes (rule.number_param {at = at} {type_at = other} {name = name} {width = width} {is_const = is_const} is) w b =
      go (early k.param (k.tree k.param_type ∷ k.tree k.maybe_name ∷ [])
      (λ v. record { at = v.0.0; type_at = v.0.1; name = v.1.0; width = v.0.3; is_const = v.0.2; pointer = false; dim = None }) (λ v. rule.number_param refl)) ((at, other, is_const, width), (name, tt)) tt b
  rule_goes (rule.view_param {at = at} {type_at = other} {name = name} {width = width} {is_const = is_const} is) w b =
      go (early k.param (k.tree k.param_type ∷ k.quoted symbol.Star ∷ k.tree k.maybe_name ∷ [])
      (λ v. record { at = v.0.0; type_at = v.0.1; name = v.1.1.0; width = v.0.3; is_const = v.0.2; pointer = true; dim = None }) (λ v. rule.view_param refl)) ((at, other, is_const, width), (tt, (name, tt))) tt b
  rule_goes (rule.array_param {at = at} {type_at = other} {name = name} {width = width} {is_const = is_const} {dim = x} is) w b =
      go (early k.param (k.tree k.param_type ∷ k.tree k.maybe_name ∷ k.tree k.dimension ∷ [])
      (λ v. record { at = v.0.0; type_at = v.0.1; name = v.1.0; width = v.0.3; is_const = v.0.2; pointer = false; dim = Some v.1.1.0 }) (λ v. rule.array_param refl)) ((at, other, is_const, width), (name, (x, tt))) tt b
  rule_goes (rule.param_type {at = at} {width = width}) w b =
      go (early k.param_type (k.tree k.type_ ∷ [])
      (λ v. (v.0.0, v.0.0, false, v.0.1)) (λ v. rule.param_type)) ((at, width), tt) tt b
  rule_goes (rule.const_param_type {at = at} {type_at = other} {width = width}) w b =
      go (early k.param_type (k.held symbol.Const ∷ k.tree k.type_ ∷ [])
      (λ v. (v.0, v.1.0.0, true, v.1.0.1)) (λ v. rule.const_param_type)) (at, ((other, width), tt)) tt b
  rule_goes rule.no_name w b = go (early k.maybe_name ([]) (λ v. None) (λ v. rule.no_name)) tt tt b
  rule_goes (rule.a_name {name = name}) w b = go (early k.maybe_name (k.name ∷ []) (λ v. Some v.0) (λ v. rule.a_name)) (name, tt) tt b
  rule_goes rule.declared w b = go (early k.body (k.quoted symbol.Semicolon ∷ []) (λ v. None) (λ v. rule.declared)) (tt, tt) tt b
  rule_goes (rule.defined {block = x}) w b = go (early k.body (k.tree k.block ∷ []) (λ v. Some v.0) (λ v. rule.defined)) (x, tt) tt b
  rule_goes (rule.block {b = x}) w b = block_goes x b
  rule_goes (rule.empty {at = at} is) w b = go (late k.stmt (k.held symbol.Semicolon ∷ []) (λ v. stmts.Empty v.0) (λ v. rule.empty refl)) tt (at, tt) b
  rule_goes (rule.block_stmt {block = x} is) w b =
      go (late k.stmt (k.tree k.block ∷ [])
      (λ v. stmts.Block v.0) (λ v. rule.block_stmt refl)) tt (x, tt) b
  rule_goes (rule.simple_stmt {simple = x} is) w b =
      go (late k.stmt (k.tree k.simple ∷ k.quoted symbol.Semicolon ∷ [])
      (λ v. stmts.Simple v.0) (λ v. rule.simple_stmt refl)) tt (x, (tt, tt)) b
  rule_goes (rule.if_ {at = at} {cond = cond} {branch = branch} is) w b = go if_scheme tt (at, (tt, (cond, (tt, (branch, tt))))) b
  rule_goes (rule.if_else {at = at} {cond = cond} {branch = branch} {other = other} is closed) w b = else_goes at cond branch other closed b
  rule_goes (rule.while_ {at = at} {cond = cond} {body = body} is) w b =
      go (late k.stmt (k.held symbol.While ∷ k.quoted symbol.OpenParen ∷ k.tree k.expr ∷ k.quoted symbol.CloseParen ∷ k.tree k.stmt ∷ [])
      (λ v. stmts.While v.0 v.1.1.0 v.1.1.1.1.0) (λ v. rule.while_ refl)) tt (at, (tt, (cond, (tt, (body, tt))))) b
  rule_goes (rule.do_ {at = at} {body = body} {cond = cond} is) w b =
      go (late k.stmt (k.held symbol.Do ∷ k.tree k.stmt ∷ k.quoted symbol.While ∷ k.quoted symbol.OpenParen ∷ k.tree k.expr ∷ k.quoted symbol.CloseParen ∷ k.quoted symbol.Semicolon ∷ [])
      (λ v. stmts.Do v.0 v.1.0 v.1.1.1.1.0) (λ v. rule.do_ refl)) tt (at, (body, (tt, (tt, (cond, (tt, (tt, tt))))))) b
  rule_goes (rule.for_ {at = at} {first = first} {last = last} {cond = cond} {body = body} is) w b =
      go (late k.stmt (k.held symbol.For ∷ k.quoted symbol.OpenParen ∷ k.tree k.simples ∷ k.quoted symbol.Semicolon ∷ k.tree k.maybe_expr ∷ k.quoted symbol.Semicolon ∷ k.tree k.simples ∷ k.quoted symbol.CloseParen ∷ k.tree k.stmt ∷ [])
      (λ v. stmts.For v.0 v.1.1.0 v.1.1.1.1.0 v.1.1.1.1.1.1.0 v.1.1.1.1.1.1.1.1.0) (λ v. rule.for_ refl)) tt (at, (tt, (first, (tt, (cond, (tt, (last, (tt, (body, tt))))))))) b
  rule_goes (rule.break {at = at} is) w b =
      go (late k.stmt (k.held symbol.Break ∷ k.quoted symbol.Semicolon ∷ [])
      (λ v. stmts.Break v.0) (λ v. rule.break refl)) tt (at, (tt, tt)) b
  rule_goes (rule.continue {at = at} is) w b =
      go (late k.stmt (k.held symbol.Continue ∷ k.quoted symbol.Semicolon ∷ [])
      (λ v. stmts.Continue v.0) (λ v. rule.continue refl)) tt (at, (tt, tt)) b
  rule_goes (rule.return {at = at} {value = x} is) w b =
      go (late k.stmt (k.held symbol.Return ∷ k.tree k.maybe_expr ∷ k.quoted symbol.Semicolon ∷ [])
      (λ v. stmts.Return v.0 v.1.0) (λ v. rule.return refl)) tt (at, (x, (tt, tt))) b
  rule_goes rule.no_simples w b = go (early k.simples ([]) (λ v. []) (λ v. rule.no_simples)) tt tt b
  rule_goes (rule.simples {x = x} {xs = xs}) w b = listed_goes h some again k.simples k.simple (λ x. x.0 ∷ x.1) (λ x. rule.simples) x xs b
  rule_goes (rule.assign {p = p} {mark = mark} {mark_at = at} {value = e} is) w b =
      go (early k.simple (k.tree k.place ∷ k.held (assign_symbol mark) ∷ k.tree k.expr ∷ [])
      (λ v. simples.Assign (start_of_place v.0) v.0 mark v.1.0 v.1.1.0) (λ v. rule.assign refl)) (p, (at, (e, tt))) tt b
  rule_goes (rule.step_after {p = p} {up = up} {mark_at = at} is) w b =
      go (early k.simple (k.tree k.named ∷ k.held (step_symbol up) ∷ [])
      (λ v. simples.Step (start_of_place v.0) v.0 up v.1.0) (λ v. rule.step_after refl)) (p, (at, tt)) tt b
  rule_goes (rule.step_before {p = p} {up = up} {mark_at = at} is) w b =
      go (early k.simple (k.held (step_symbol up) ∷ k.tree k.place ∷ [])
      (λ v. simples.Step v.0 v.1.0 up v.0) (λ v. rule.step_before refl)) (at, (p, tt)) tt b
  rule_goes (rule.set_overflow {at = at} {value = e} is) w b =
      go (early k.simple (k.held symbol.Overflow ∷ k.quoted symbol.Equal ∷ k.tree k.expr ∷ [])
      (λ v. simples.SetOverflow v.0 v.1.1.0) (λ v. rule.set_overflow refl)) (at, (tt, (e, tt))) tt b
  rule_goes (rule.simple_call {c = c} is) w b =
      go (early k.simple (k.tree k.call ∷ [])
      (λ v. simples.Call v.0) (λ v. rule.simple_call refl)) (c, tt) tt b
  rule_goes (rule.place_named {p = p}) w b = go (early k.place (k.tree k.named ∷ []) (λ v. v.0) (λ v. rule.place_named)) (p, tt) tt b
  rule_goes (rule.deref {star_at = at} {name = name} is) w b =
      go (late k.place (k.held symbol.Star ∷ k.name ∷ [])
      (λ v. places.Deref v.0 v.1.0) (λ v. rule.deref refl)) tt (at, (name, tt)) b
  rule_goes (rule.plain {name = name} is) w b = go (late k.named (k.name ∷ []) (λ v. places.Plain v.0) (λ v. rule.plain refl)) tt (name, tt) b
  rule_goes (rule.index {name = name} {mark_at = at} {index = e} is) w b =
      go (late k.named (k.name ∷ k.held symbol.OpenBracket ∷ k.tree k.expr ∷ k.quoted symbol.CloseBracket ∷ [])
      (λ v. places.Index v.0 v.1.0 v.1.1.0) (λ v. rule.index refl)) tt (name, (at, (e, (tt, tt)))) b
  rule_goes (rule.index2 {name = name} {first_at = at} {second_at = other} {first = e} {second = f} is) w b =
      go (late k.named (k.name ∷ k.held symbol.OpenBracket ∷ k.tree k.expr ∷ k.quoted symbol.CloseBracket ∷ k.held symbol.OpenBracket ∷ k.tree k.expr ∷ k.quoted symbol.CloseBracket ∷ [])
      (λ v. places.Index2 v.0 v.1.0 v.1.1.0 v.1.1.1.1.0 v.1.1.1.1.1.0) (λ v. rule.index2 refl)) tt (name, (at, (e, (tt, (other, (f, (tt, tt))))))) b
  rule_goes (rule.call {name = name} {args = xs} is) w b =
      go (early k.call (k.name ∷ k.quoted symbol.OpenParen ∷ k.tree k.args ∷ k.quoted symbol.CloseParen ∷ [])
      (λ v. record { name = v.0; args = v.1.1.0 }) (λ v. rule.call refl)) (name, (tt, (xs, (tt, tt)))) tt b
  rule_goes rule.no_args w b = go (early k.args ([]) (λ v. []) (λ v. rule.no_args)) tt tt b
  rule_goes (rule.args {x = x} {xs = xs}) w b = listed_goes h some again k.args k.arg (λ x. x.0 ∷ x.1) (λ x. rule.args) x xs b
  rule_goes (rule.address {at = at} {p = p} is) w b =
      go (early k.arg (k.held symbol.And ∷ k.tree k.named ∷ [])
      (λ v. args.Address v.0 v.1.0) (λ v. rule.address refl)) (at, (p, tt)) tt b
  rule_goes (rule.value {e = e} is) w b = go (early k.arg (k.tree k.expr ∷ []) (λ v. args.Value v.0) (λ v. rule.value refl)) (e, tt) tt b
  rule_goes rule.no_expr w b = go (early k.maybe_expr ([]) (λ v. None) (λ v. rule.no_expr)) tt tt b
  rule_goes (rule.an_expr {e = e}) w b = go (early k.maybe_expr (k.tree k.expr ∷ []) (λ v. Some v.0) (λ v. rule.an_expr)) (e, tt) tt b
  rule_goes (rule.plain_expr {e = e}) w b = go (early k.expr (k.tree (k.chain 9) ∷ []) (λ v. v.0) (λ v. rule.plain_expr)) (e, tt) tt b
  rule_goes (rule.choose {cond = cond} {one = e} {other = f} is) w b = go choice_scheme (cond, tt) (tt, (e, (tt, (f, tt)))) b
  rule_goes (rule.operand {n = n} {e = e}) w b = go (early (k.chain (suc n)) (k.tree (k.chain n) ∷ []) (λ v. v.0) (λ v. rule.operand)) (e, tt) tt b
  rule_goes (rule.binary {n = n} {left = e} {right = f} {mark = mark} {mark_at = at} rank is) w b = go (binary_scheme n mark rank) (e, tt) (at, (f, tt)) b
  rule_goes (rule.no_chain {e = e}) w b = go (early (k.chain zero) (k.tree k.unary ∷ []) (λ v. v.0) (λ v. rule.no_chain)) (e, tt) tt b
  rule_goes (rule.unary {part = e} {mark = mark} {mark_at = at} is) w b =
      go (late k.unary (k.held (unary_symbol mark) ∷ k.tree k.unary ∷ [])
      (λ v. record { at = v.0; brackets = 0; kind = exprs.Unary mark v.0 v.1.0 }) (λ v. rule.unary refl)) tt (at, (e, tt)) b
  rule_goes (rule.cast {part = e} {at = at} {type_at = other} {width = width} is) w b =
      go (late k.unary (k.held symbol.OpenParen ∷ k.tree k.type_ ∷ k.quoted symbol.CloseParen ∷ k.tree k.unary ∷ [])
      (λ v. record { at = v.0; brackets = 0; kind = exprs.Cast v.1.0.1 v.1.1.1.0 }) (λ v. rule.cast refl)) tt (at, ((other, width), (tt, (e, tt)))) b
  rule_goes (rule.brackets {inner = e} {at = at} is) w b =
      go (late k.unary (k.held symbol.OpenParen ∷ k.tree k.expr ∷ k.quoted symbol.CloseParen ∷ [])
      (λ v. record { at = v.0; brackets = v.1.0.brackets + 1; kind = v.1.0.kind }) (λ v. rule.brackets refl)) tt (at, (e, (tt, tt))) b
  rule_goes (rule.number {at = at} {value = x} is) w b =
      go (late k.unary (k.number ∷ [])
      (λ v. record { at = v.0.0; brackets = 0; kind = exprs.Int v.0.1 }) (λ v. rule.number refl)) tt ((at, x), tt) b
  rule_goes (rule.read_overflow {at = at} is) w b =
      go (late k.unary (k.held symbol.Overflow ∷ [])
      (λ v. record { at = v.0; brackets = 0; kind = exprs.ReadOverflow v.0 }) (λ v. rule.read_overflow refl)) tt (at, tt) b
  rule_goes (rule.call_value {c = c} is) w b =
      go (late k.unary (k.tree k.call ∷ [])
      (λ v. record { at = v.0.name.at; brackets = 0; kind = exprs.Call v.0 }) (λ v. rule.call_value refl)) tt (c, tt) b
  rule_goes (rule.read {p = p} is) w b =
      go (late k.unary (k.tree k.place ∷ [])
      (λ v. record { at = start_of_place v.0; brackets = 0; kind = exprs.Read v.0 }) (λ v. rule.read refl)) tt (p, tt) b
