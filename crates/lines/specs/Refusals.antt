-- The refusals of this layer, with the numbers and names by which they are reported. Assumes nothing.
use Rattle.std.specs.Prelude.{ℕ, List, ◌++◌, codes, decimal}
use Rattle.lines.specs.declared.Refusal.{Refusal}
use Rattle.lines.specs.declared.Refusal.TheVariants.{Line, Full, Names, Text}

-- the number of a refusal
abbrev pub number_of : Refusal → ℕ
number_of Line = 7
number_of Full = 8
number_of Names = 15
number_of Text = 16

-- the name of a refusal, as bytes
abbrev pub name_of : Refusal → List ℕ
name_of Line = codes "Line"
name_of Full = codes "Full"
name_of Names = codes "Names"
name_of Text = codes "Text"

-- how a refusal is shown: its number and its name
abbrev pub shown_refusal : Refusal → List ℕ
shown_refusal r = decimal (number_of r) ++ (codes " " ++ name_of r)
