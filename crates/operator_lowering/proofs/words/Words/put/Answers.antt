use Rattle.std.proofs.Common.{sym, ap, ◌∙◌, subst, ◌++◌, ◌∷◌, [], length, ◌<◌, map, take}
use Rattle.template_runs.specs.Renaming.{all_over}
use Rattle.std.proofs.lemmas.List.{take_all}
use Rattle.rv_encode.specs.Words.{Fits, encoded}
use Rattle.operator_lowering.proofs.Puts.{fits_at, put_more, room_more}
use Rattle.operator_lowering.proofs.words.Words.put.Goals as goal

pub encode-requires : goal.encode-requires
encode-requires c =
    subst Fits (sym c.over.ensures) (fits_at c.args.regs c.requires.range c.args.instrs.now c.requires.fit c.loop-instr.instr-index _ c.loop-instr-test.true)

pub push-requires : goal.push-requires
push-requires c =
    let room = room_more c.args.regs c.args.self.now c.args.instrs.now c.loop-instr.instr-index 96 c.loop-instr-test.true c.requires.room in
    let same = c.loop-instr.invariant in
    subst (λ l. length l < 96) (sym same) room

pub loop-instr-preserved : goal.loop-instr-preserved
loop-instr-preserved c =
    c.push.ensures ∙ ap (λ l. l ++ c.encode.result ∷ []) c.loop-instr.invariant
    ∙ ap (λ w. (c.args.self.now ++ map encoded (all_over c.args.regs (take c.loop-instr.instr-index c.args.instrs.now))) ++ w ∷ []) (c.encode.ensures.word ∙ ap encoded c.over.ensures)
    ∙ put_more c.args.regs c.args.self.now c.args.instrs.now c.loop-instr.instr-index _ c.loop-instr-test.true

pub returns : goal.returns
returns c =
    c.loop-instr.invariant ∙ ap (λ l. c.args.self.now ++ map encoded (all_over c.args.regs l)) (take_all c.loop-instr.instr-index c.args.instrs.now c.loop-instr-test.false)
