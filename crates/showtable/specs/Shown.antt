-- How numbers and faults are printed.
use Rattle.std.specs.Prelude.{ℕ, List, codes, decimal, Some, None, Option}
use Rattle.scale.specs.Refusals.{shown_refusal}
use Rattle.showtable.specs.declared.fault.Fault.{Fault}
use Rattle.showtable.specs.declared.fault.Fault.TheVariants.{Memory, CutShort, Refused}

abbrev pub shown_number : Option ℕ → List ℕ
shown_number (Some n) = decimal n
shown_number None = codes "none"

-- a refusal by its number and name; a word that is cut short has those of a bad file word
abbrev pub shown_fault : Fault → List ℕ
shown_fault Memory = codes "out of memory"
shown_fault CutShort = codes "17 Word"
shown_fault (Refused why) = shown_refusal why
