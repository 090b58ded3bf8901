-- What loading a table from bytes comes to.
use Rattle.std.specs.Prelude.{◌≡◌, ℕ, ◌%◌, List, length, Ok, Err, Result}
use Rattle.orders.specs.Words.{verdict}
use Rattle.table.specs.Bytes.{whole_words}
use Rattle.showtable.specs.declared.fault.Fault.{Fault}
use Rattle.showtable.specs.declared.fault.Fault.TheVariants.{Memory, CutShort, Refused}

-- Whole words, and what the table says of them; a word that is cut short is found first.
abbrev pub Loads : List ℕ → Result (Unit {0}) Fault → Type 0
Loads bytes (Ok x) = (length bytes % 4 ≡ 0) × (verdict (whole_words bytes) ≡ Ok tt)
Loads bytes (Err Memory) = Unit {0}
Loads bytes (Err CutShort) = length bytes % 4 ≡ 0 → ⊥
Loads bytes (Err (Refused why)) = (length bytes % 4 ≡ 0) × (verdict (whole_words bytes) ≡ Err why)
