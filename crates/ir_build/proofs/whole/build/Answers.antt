use Rattle.std.proofs.lemmas.Result.{IfOk-weaker}
use Rattle.lawful_trees.proofs.Functions.{has-tree}
use Rattle.lawful_trees.proofs.Short.{are-short}
use Rattle.lawful_ir.specs.Built.{IsTreeOf, DoesAs}
use Rattle.lawful_ir.specs.Lawful.{IsLawfulTree}
use Rattle.ir_build.proofs.Fields.{HasFields, is_tree, with_fields}
use Rattle.ir_build.proofs.Lawful.{trees-are-lawful}
use Rattle.ir_build.proofs.Runs.{trees_do}
use Rattle.ir_build.proofs.whole.build.Goals as goal

pub tree_functions-requires : goal.tree_functions-requires
tree_functions-requires c = are-short c.args.typed.now c.requires.lawful

pub returns : goal.returns
returns c =
    let typed = c.args.typed.now in
    let definitions = c.in_ok-definitions.definitions.entries in
    let made = c.in_ok-functions.functions in
    let has = c.with_functions.ensures in
    let tree =
    IfOk-weaker c.with_functions.result (HasFields typed definitions made) (IsTreeOf typed)
    (λ ir fields. record {
      definitions = definitions;
      are = c.in_ok-definitions.ensures;
      is = is_tree typed definitions made ir (record { trees = c.in_ok-functions.ensures.trees; names = c.in_ok-functions.ensures.names }) fields;
    })
    (with_fields typed definitions made c.with_functions.result has.functions has.main has.objects has.sites has.cuts has.constants has.weights)
    in
    record {
      tree = tree;
      lawful = IfOk-weaker c.with_functions.result (IsTreeOf typed) IsLawfulTree (λ ir of. trees-are-lawful typed ir c.args.order.now.functions c.requires.lawful c.requires.order of) tree;
      runs = IfOk-weaker c.with_functions.result (IsTreeOf typed) (DoesAs typed) (λ ir of. trees_do typed ir of (has-tree typed c.args.order.now.functions c.requires.lawful c.requires.order)) tree;
    }
