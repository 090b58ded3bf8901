-- The calls of a sheet that entries make.
use Rattle.std.specs.Prelude.{ℕ, List}
use Rattle.sheet.specs.Sheet.{Call, arrow, mark, line, text}
use Rattle.junction.specs.declared.entry.Entry.{Entry}
use Rattle.junction.specs.declared.entry.Entry.TheVariants.{Arrow, Mark, Line, Text}

-- A text uses the names of the marks.
abbrev pub entry_call : List ℕ → Entry → Call
entry_call names (Arrow from to number) = arrow from to number
entry_call names (Mark stage m number) = mark stage m number
entry_call names (Line word) = line word
entry_call names (Text bytes) = text names bytes.now
