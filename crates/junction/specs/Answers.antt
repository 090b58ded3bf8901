-- What is printed of an answer.
use Rattle.std.specs.Prelude.{ℕ, List, [], ◌++◌, cond, codes, decimal, eqb, Ok, Err, Result, ⊤}
use Rattle.std.specs.Option.{unwrap_or}
use Rattle.scale.specs.Model.{Model, number_of}
use Rattle.sheet.specs.declared.state.Refusal.{Refusal}
use Rattle.sheet.specs.Refusals.{shown_refusal}
use Rattle.junction.specs.declared.answers.Answer.{Answer}
use Rattle.junction.specs.declared.answers.Answer.TheVariants.{Opened, Entered, Rounds, Value, Refused}

-- The names of the six values, by their numbers.
abbrev pub value_name : ℕ → List ℕ
value_name n =
    cond (eqb n 0) (codes "F")
    (cond (eqb n 1) (codes "N")
    (cond (eqb n 2) (codes "DK")
    (cond (eqb n 3) (codes "DC")
    (cond (eqb n 4) (codes "S")
    (cond (eqb n 5) (codes "T") [])))))

abbrev pub answer_text : Answer → List ℕ
answer_text Opened = codes "opened"
answer_text Entered = codes "entered"
answer_text (Rounds count) = codes "rounds " ++ decimal count
answer_text (Value number) = decimal number ++ (codes " " ++ value_name number)
answer_text (Refused why) = codes "refusal " ++ shown_refusal why

abbrev pub entered_answer : Result ⊤ Refusal → Answer
entered_answer (Ok _) = Entered
entered_answer (Err why) = Refused why

-- The value read goes by its number; one that has none by 0.
abbrev pub reading_answer : {V : Type 0} → Model V → Result V Refusal → Answer
reading_answer m (Ok v) = Value (unwrap_or (number_of m v) 0)
reading_answer m (Err why) = Refused why
