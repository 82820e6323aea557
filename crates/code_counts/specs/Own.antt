-- What the words of the code's own do: which of them write Overflow, and which compare.
use Rattle.std.specs.Prelude.{pos, Bool, false}
use Rattle.rv_encode.specs.declared.register.TheConstants.{OVERFLOW}
use Rattle.rv_encode.specs.Comparing.{is_comparing}
use Rattle.code_lines.specs.declared.word.Word.{Word}
use Rattle.code_lines.specs.declared.word.Word.TheVariants.{Own}
use Rattle.code_lines.specs.Own as own
use Rattle.simple_code.specs.Code.{value_register}
use Rattle.template_fields.specs.Writes.{is_overflow_write}

-- a word of the code's own that writes Overflow
abbrev pub writes_overflow : Word → Bool
writes_overflow (Own instr) = is_overflow_write instr
writes_overflow word = false

-- the one by which an assignment writes it: its value is copied
abbrev pub copy_to_overflow : Word
copy_to_overflow = own.Addi OVERFLOW value_register (pos 0)

-- a word of the code's own that compares
abbrev pub compares : Word → Bool
compares (Own instr) = is_comparing instr
compares word = false
