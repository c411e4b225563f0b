-- The words of faults.
use Rattle.std.specs.Prelude.{ℕ, List, codes}
use Rattle.mscp_reader.specs.declared.fault.Cause.{Cause}
use Rattle.mscp_reader.specs.declared.fault.Cause.TheVariants.{Size, Lines, Long, Byte, Word, Count, Number, Hex, Status, Unit, Config, Header, Events}

-- the word of a cause (profile)
abbrev pub cause_word : Cause → List ℕ
cause_word Size = codes "size"
cause_word Lines = codes "lines"
cause_word Long = codes "long"
cause_word Byte = codes "byte"
cause_word Word = codes "word"
cause_word Count = codes "count"
cause_word Number = codes "number"
cause_word Hex = codes "hex"
cause_word Status = codes "status"
cause_word Unit = codes "unit"
cause_word Config = codes "config"
cause_word Header = codes "header"
cause_word Events = codes "events"
