use Rattle.std.proofs.Common.{ap, ◌∙◌}
use Rattle.rv_encode.specs.Words.{word_of}
use Rattle.rv_encode.specs.Decoding.{decoded}
use Rattle.rv_encode.proofs.Encodings.{encoded_decodes}
use Rattle.rv_encode.proofs.encoding.encode.Goals as goal

pub returns-clause-back : goal.returns-clause-back
returns-clause-back c =
    ap decoded (c.word_of.ensures ∙ ap word_of c.row_of.ensures.value) ∙ encoded_decodes c.args.instr c.requires
