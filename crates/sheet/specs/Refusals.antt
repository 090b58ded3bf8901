-- The refusals of a sheet's calls: the number and the name of each.
use Rattle.std.specs.Prelude.{ℕ, List, ◌++◌, codes, decimal}
use Rattle.lines.specs.declared.Refusal as lined
use Rattle.lines.specs.declared.Refusal.TheVariants as reading
use Rattle.sheet.specs.declared.state.Refusal.{Refusal}
use Rattle.sheet.specs.declared.state.Refusal.TheVariants.{Size, Stretch, Words, State, Mark, Value, Line, Full, Answer, Logic, Names, Text}

abbrev pub refusal_number : Refusal → ℕ
refusal_number Size = 1
refusal_number Stretch = 2
refusal_number Words = 3
refusal_number State = 4
refusal_number Mark = 5
refusal_number Value = 6
refusal_number Line = 7
refusal_number Full = 8
refusal_number Answer = 9
refusal_number Logic = 10
refusal_number Names = 15
refusal_number Text = 16

abbrev pub refusal_name : Refusal → List ℕ
refusal_name Size = codes "Size"
refusal_name Stretch = codes "Stretch"
refusal_name Words = codes "Words"
refusal_name State = codes "State"
refusal_name Mark = codes "Mark"
refusal_name Value = codes "Value"
refusal_name Line = codes "Line"
refusal_name Full = codes "Full"
refusal_name Answer = codes "Answer"
refusal_name Logic = codes "Logic"
refusal_name Names = codes "Names"
refusal_name Text = codes "Text"

-- How a refusal is shown: its number and its name.
abbrev pub shown_refusal : Refusal → List ℕ
shown_refusal r = decimal (refusal_number r) ++ (codes " " ++ refusal_name r)

-- A refusal of the layer that reads words and texts, as the sheet's.
abbrev pub text_refusal : lined.Refusal → Refusal
text_refusal reading.Line = Line
text_refusal reading.Full = Full
text_refusal reading.Names = Names
text_refusal reading.Text = Text
