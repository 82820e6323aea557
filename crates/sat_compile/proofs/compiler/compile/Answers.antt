use Rattle.std.proofs.Common.{◌≤◌, length, arith}
use Rattle.sat_base.specs.declared.limits.TheConstants.{SOURCE_BYTES}
use Rattle.sat_compile.proofs.Compiled.{read_as, operands_of, nested_little, few_tokens, image_is}
use Rattle.sat_compile.proofs.Sizes.{code_small}
use Rattle.sat_compile.proofs.compiler.compile.Goals as goal

pub image_of-requires-clause-operands : goal.image_of-requires-clause-operands
image_of-requires-clause-operands c =
    let short : length c.args.text.now ≤ SOURCE_BYTES = omega arith in
    let read = read_as c.args.text.now c.in_ok-tokens.tokens c.in_ok-program.program c.in_ok-first.field-0 c.in-Some.first
    short c.in_ok-tokens.ensures.cut c.in_ok-tokens.ensures.few c.in_ok-program.ensures.tree c.in_ok-program.ensures.shallow c.in_ok-first.ensures.found c.in-Some.is in
    operands_of _ _ _ c.in-Some.first read

pub image_of-requires-clause-nesting : goal.image_of-requires-clause-nesting
image_of-requires-clause-nesting c =
    let short : length c.args.text.now ≤ SOURCE_BYTES = omega arith in
    let read = read_as c.args.text.now c.in_ok-tokens.tokens c.in_ok-program.program c.in_ok-first.field-0 c.in-Some.first
    short c.in_ok-tokens.ensures.cut c.in_ok-tokens.ensures.few c.in_ok-program.ensures.tree c.in_ok-program.ensures.shallow c.in_ok-first.ensures.found c.in-Some.is in
    nested_little _ _ _ c.in-Some.first read

pub image_of-requires-clause-fits : goal.image_of-requires-clause-fits
image_of-requires-clause-fits c =
    let short : length c.args.text.now ≤ SOURCE_BYTES = omega arith in
    let read = read_as c.args.text.now c.in_ok-tokens.tokens c.in_ok-program.program c.in_ok-first.field-0 c.in-Some.first
    short c.in_ok-tokens.ensures.cut c.in_ok-tokens.ensures.few c.in_ok-program.ensures.tree c.in_ok-program.ensures.shallow c.in_ok-first.ensures.found c.in-Some.is in
    code_small c.in-Some.first (few_tokens _ _ _ c.in-Some.first read)

pub returns-clause-built : goal.returns-clause-built
returns-clause-built c =
    let short : length c.args.text.now ≤ SOURCE_BYTES = omega arith in
    let read = read_as c.args.text.now c.in_ok-tokens.tokens c.in_ok-program.program c.in_ok-first.field-0 c.in-Some.first
    short c.in_ok-tokens.ensures.cut c.in_ok-tokens.ensures.few c.in_ok-program.ensures.tree c.in_ok-program.ensures.shallow c.in_ok-first.ensures.found c.in-Some.is in
    image_is _ _ _ c.in-Some.first read c.in_ok-_source._source.typed c.in_ok-_source._source.order.functions c.in_ok-_source.ensures.checked c.in_ok-image.image c.in_ok-image.ensures.image c.in_ok-image.ensures.numbers
