use Rattle.std.proofs.Common.{◌≡◌, ℕ, ◌+◌, ◌<◌, ◌++◌, ◌∷◌, ◌∙◌, List, length, get_or, map, drop, sym, ap, append_assoc}
use Rattle.std.proofs.lemmas.List.{at_drop_more, map_push}
use Rattle.std.proofs.lemmas.Option.{unwrap_or-slice_get}
use Rattle.c_typed.specs.declared.typed.TypedFunction.{TypedFunction}
use Rattle.ir_arena.specs.declared.ir.IrFunction.{IrFunction}
use Rattle.ir_arena.specs.Placed.{function_of}
use Rattle.ir_arena.specs.Tree.{TreeFunction}
use Rattle.ir_expressions.specs.Building.{setting}
use Rattle.source_trees.specs.Expressions.{TreeSetting}
use Rattle.whole_trees.specs.Sources.{nameless, function_at, function_tree, functions_along}
use Rattle.whole_trees.proofs.function_trees.functions.Goals as goal

-- the next function
along : (here : TreeSetting) (functions : List TypedFunction) (defined : List ℕ) (i first : ℕ) (source : TypedFunction)
    → i < length defined → function_at functions (get_or defined i 0) ≡ source
    → functions_along here (map (function_at functions) (drop i defined)) first
    ≡ (function_tree here source first).function ∷ functions_along here (map (function_at functions) (drop (i + 1) defined)) (function_tree here source first).next
along here functions defined i first source within is =
    at_drop_more (λ numbers. functions_along here (map (function_at functions) numbers) first) defined i 0 within
    ∙ ap (λ (f : TypedFunction). (function_tree here f first).function ∷ functions_along here (map (function_at functions) (drop (i + 1) defined)) (function_tree here f first).next) is

-- and its name
named : (functions : List TypedFunction) (defined : List ℕ) (i : ℕ) (source : TypedFunction) → i < length defined → function_at functions (get_or defined i 0) ≡ source
    → map (λ (n : ℕ). (function_at functions n).name) (drop i defined) ≡ source.name ∷ map (λ (n : ℕ). (function_at functions n).name) (drop (i + 1) defined)
named functions defined i source within is =
    at_drop_more (λ numbers. map (λ (n : ℕ). (function_at functions n).name) numbers) defined i 0 within
    ∙ ap (λ (f : TypedFunction). f.name ∷ map (λ (n : ℕ). (function_at functions n).name) (drop (i + 1) defined)) is

pub loop-number-preserved : goal.loop-number-preserved
loop-number-preserved c =
    let number = get_or c.args.defined.now c.loop-number.number-index 0 in
    let there : function_at c.args.functions.now number ≡ c.in-Some.source.now = unwrap_or-slice_get c.args.functions.now number nameless ∙ sym (c.in-Some.ensures.lookup.3.1 nameless) in (
      rw (c.in_ok-push.ensures.ok, map_push, append_assoc, c.in_ok-next.ensures.tree, c.in_ok-next.ensures.cuts)
          (ap (λ (more : List TreeFunction). map function_of c.loop-number.made ++ more) (sym (along (setting c.args.build.now) c.args.functions.now c.args.defined.now c.loop-number.number-index c.loop-number.first c.in-Some.source.now c.loop-number-test.true there)) ∙ c.loop-number.invariant.0),
      rw (c.in_ok-push.ensures.ok, map_push, append_assoc, c.in_ok-next.ensures.name)
          (ap (λ more. map (λ (function : IrFunction). function.name) c.loop-number.made ++ more) (sym (named c.args.functions.now c.args.defined.now c.loop-number.number-index c.in-Some.source.now c.loop-number-test.true there)) ∙ c.loop-number.invariant.1),
    )
