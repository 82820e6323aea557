use Rattle.std.proofs.Common.{◌≡◌, IfSome, IsNone, subst, sym, ap, ◌∙◌}
use Rattle.rv_encode.specs.Words.{Fits, encoded, IsOffTable, funct3, funct7}
use Rattle.rv_encode.specs.Decoding.{decoded, instr_at}
use Rattle.rv_encode.proofs.Decodings.{decoded_on_table, decoded_off_table}
use Rattle.rv_encode.proofs.decoding.decode.Goals as goal

-- what is found is what the definition finds
is_decoded : (c : goal.After-instr_at) → c.instr_at.result ≡ decoded c.args.word
is_decoded c =
    let word = c.args.word in
    c.instr_at.ensures ∙ ap (λ opcode. instr_at opcode (funct3 word) (funct7 word) word) c.bits.ensures

pub returns-clause-on_table : goal.returns-clause-on_table
returns-clause-on_table c =
    subst (λ found. IfSome found (λ instr. Fits instr × (encoded instr ≡ c.args.word))) (sym (is_decoded c))
    (decoded_on_table c.args.word c.ranges.word.fits)

pub returns-clause-off_table : goal.returns-clause-off_table
returns-clause-off_table c =
    subst (λ found. (IsNone found → IsOffTable c.args.word) × (IsOffTable c.args.word → IsNone found)) (sym (is_decoded c))
    (decoded_off_table c.args.word c.ranges.word.fits)
