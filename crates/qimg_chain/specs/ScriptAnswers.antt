-- The text of an answer to a line of a script.
use Rattle.std.specs.Prelude.{ℕ, List, ◌++◌, codes, decimal}
use Rattle.hex.specs.Hex.{encode_lower}
use Rattle.imago_storage.specs.Fault.{number_of}
use Rattle.qimg_chain.specs.CheckNumbers.{check_number}
use Rattle.qimg_chain.specs.declared.script.answer.Answer.{Answer}
use Rattle.qimg_chain.specs.declared.script.answer.Answer.TheVariants.{Number, Bytes, Done, Refused, Unsound}

-- The text of an error with this number.
abbrev pub error_text : ℕ → List ℕ
error_text number = codes "error " ++ decimal number

-- The text of an answer, without a line feed.
abbrev pub answer_text : Answer → List ℕ
answer_text (Number n) = decimal n
answer_text (Bytes bytes) = encode_lower bytes
answer_text Done = codes "ok"
answer_text (Refused fault) = error_text (number_of fault)
answer_text (Unsound fault) = error_text (check_number fault)
