-- What a plan prints, as text.
use Rattle.std.specs.Prelude.{ℕ, List, [], ◌∷◌, ◌++◌, Some, None, codes, decimal, Option}
use Rattle.scale.specs.Refusals as logics
use Rattle.sheet.specs.Refusals as sheets
use Rattle.report.specs.declared.Output.{Output}
use Rattle.report.specs.declared.Output.TheVariants.{Rounds, Value}
use Rattle.report.specs.declared.Refusal.{Refusal}
use Rattle.report.specs.declared.Refusal.TheVariants.{Word, Logic, Sheet}
use Rattle.report.specs.declared.Stop.{Stop}

abbrev pub refusal_number : Refusal → ℕ
refusal_number Word = 17
refusal_number (Logic r) = logics.refusal_number r
refusal_number (Sheet r) = sheets.refusal_number r

abbrev pub output_text : Output → List ℕ
output_text (Rounds k) = codes "rounds " ++ decimal k
output_text (Value line stage number) = decimal line ++ (codes " " ++ (decimal stage ++ (codes " " ++ decimal number)))

abbrev pub stop_text : Stop → List ℕ
stop_text s = codes "word " ++ (decimal s.word ++ (codes " refusal " ++ decimal (refusal_number s.refusal)))

abbrev pub on_a_line : List ℕ → List ℕ
on_a_line text = text ++ codes "\n"

abbrev pub outputs_text : List Output → List ℕ
outputs_text [] = []
outputs_text (o ∷ os) = on_a_line (output_text o) ++ outputs_text os

abbrev pub stopped_text : Option Stop → List ℕ
stopped_text None = []
stopped_text (Some s) = on_a_line (stop_text s)

-- a line for each output, and one for the refusal
abbrev pub text_of : List Output → Option Stop → List ℕ
text_of os s = outputs_text os ++ stopped_text s
