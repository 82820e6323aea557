use Rattle.std.proofs.Common.{◌+◌, ◌≤◌, length, arith}
use Rattle.operator_lowering.specs.Words.{is_in_place}
use Rattle.operator_lowering.proofs.Puts.{operator_parts, room_after}
use Rattle.operator_lowering.proofs.words.Words.put_operator.Goals as goal

pub put-requires-clause-room : goal.put-requires-clause-room
put-requires-clause-room c =
    let xs = c.operator_words.result.0.now in
    let ys = c.operator_words.result.1.now in
    let few : length xs + length ys ≤ 90 = (operator_parts c.args.op c.args.form (is_in_place c.args.regs) xs ys c.operator_words.ensures).2 in
    let short = c.requires.room in
    omega arith

pub put-requires-clause-fit : goal.put-requires-clause-fit
put-requires-clause-fit c = (operator_parts c.args.op c.args.form (is_in_place c.args.regs) c.operator_words.result.0.now c.operator_words.result.1.now c.operator_words.ensures).0

pub put-requires-2-clause-room : goal.put-requires-2-clause-room
put-requires-2-clause-room c =
    let xs = c.operator_words.result.0.now in
    let ys = c.operator_words.result.1.now in
    room_after c.args.regs c.args.self.now c.put.new.self xs (length ys) c.put.ensures c.requires.room (operator_parts c.args.op c.args.form (is_in_place c.args.regs) xs ys c.operator_words.ensures).2

pub put-requires-2-clause-fit : goal.put-requires-2-clause-fit
put-requires-2-clause-fit c = (operator_parts c.args.op c.args.form (is_in_place c.args.regs) c.operator_words.result.0.now c.operator_words.result.1.now c.operator_words.ensures).1
