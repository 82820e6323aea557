-- How deep a part of the tree is, and the parts of a rule.
use Rattle.std.proofs.Common.{◌≡◌, ℕ, max, List, [], ◌∷◌, ◌++◌, arith}
use Rattle.c_tree.specs.Depth.{deepest, depth_if_any, depth_of_place, depth_of_argument, depth_of_expression, depth_of_call, depth_of_dimension, depth_of_values, depth_of_initialiser, depth_of_declared, depth_of_objects, depth_of_simple, depth_of_statement, depth_of_block, depth_of_parameter, depth_of_function, depth_of_item}
use Rattle.c_grammar.specs.Nodes.{Node}
use Rattle.c_grammar.specs.Nodes as a
use Rattle.c_grammar.specs.Parts.{Part, token, node, each, followed}

-- the depth of what the part is in the tree; a part with no nodes in it has none
abbrev pub depth_of_node : Node → ℕ
depth_of_node (a.item i) = depth_of_item i
depth_of_node (a.objects o) = depth_of_objects o
depth_of_node (a.specifiers at is_static is_const width) = 0
depth_of_node (a.type_ at width) = 0
depth_of_node (a.declarator is_static is_const width d) = depth_of_declared d
depth_of_node (a.dimensions rows cols) = max (depth_if_any depth_of_dimension rows) (depth_if_any depth_of_dimension cols)
depth_of_node (a.dimension d) = depth_of_dimension d
depth_of_node (a.start i) = depth_of_initialiser i
depth_of_node (a.view_start i) = depth_of_initialiser i
depth_of_node (a.row r) = depth_of_values r
depth_of_node (a.values vs) = deepest depth_of_expression vs
depth_of_node (a.function f) = depth_of_function f
depth_of_node (a.given at is_static gives) = 0
depth_of_node (a.result at gives) = 0
depth_of_node (a.params ps) = deepest depth_of_parameter ps
depth_of_node (a.param p) = depth_of_parameter p
depth_of_node (a.param_type at type_at is_const width) = 0
depth_of_node (a.maybe_name name) = 0
depth_of_node (a.body b) = depth_if_any depth_of_block b
depth_of_node (a.block b) = depth_of_block b
depth_of_node (a.stmt s) = depth_of_statement s
depth_of_node (a.simples xs) = deepest depth_of_simple xs
depth_of_node (a.simple x) = depth_of_simple x
depth_of_node (a.place p) = depth_of_place p
depth_of_node (a.named p) = depth_of_place p
depth_of_node (a.call c) = depth_of_call c
depth_of_node (a.args xs) = deepest depth_of_argument xs
depth_of_node (a.arg x) = depth_of_argument x
depth_of_node (a.maybe_expr e) = depth_if_any depth_of_expression e
depth_of_node (a.expr e) = depth_of_expression e
depth_of_node (a.chain n e) = depth_of_expression e
depth_of_node (a.unary e) = depth_of_expression e

-- the greatest depth in these parts
abbrev pub depth_of_parts : List Part → ℕ
depth_of_parts [] = 0
depth_of_parts (token t ∷ ps) = depth_of_parts ps
depth_of_parts (node n ∷ ps) = max (depth_of_node n) (depth_of_parts ps)

-- ---- parts one after the other

pub append_depth : (ps qs : List Part) → depth_of_parts (ps ++ qs) ≡ max (depth_of_parts ps) (depth_of_parts qs)
append_depth [] qs = omega arith
append_depth (token t ∷ ps) qs = append_depth ps qs
append_depth (node n ∷ ps) qs = omega (arith, append_depth ps qs)

pub each_depth : {A : Type 0} (of : A → Node) (xs : List A) → depth_of_parts (each of xs) ≡ deepest (λ x. depth_of_node (of x)) xs
each_depth of [] = omega arith
each_depth of (x ∷ xs) = omega (arith, each_depth of xs)

pub followed_depth : {A : Type 0} (of : A → Node) (xs : List A) → depth_of_parts (followed of xs) ≡ deepest (λ x. depth_of_node (of x)) xs
followed_depth of [] = omega arith
followed_depth of (x ∷ xs) = omega (arith, followed_depth of xs)

pub followed_then_depth : {A : Type 0} (of : A → Node) (xs : List A) (rest : List Part)
    → depth_of_parts (followed of xs ++ rest) ≡ max (deepest (λ x. depth_of_node (of x)) xs) (depth_of_parts rest)
followed_then_depth of xs rest = omega (arith, append_depth (followed of xs) rest, followed_depth of xs)
