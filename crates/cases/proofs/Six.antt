-- The table Six is a logic, and what it answers.
use Rattle.std.proofs.Common.{◌≡◌, ℕ, true, List, [], ◌∷◌, Ok, refl, ◌∙◌, ap₂, lit≤}
use Rattle.orders.specs.Orders.{under, listed, ordered, latticed, spread, opposing, greatest_of, highest_of, meet_of, join_of, lowest_of}
use Rattle.orders.specs.Words.{readable, rows_of, opposites_of, law_verdict}
use Rattle.orders.proofs.Verdicts.{passed, verdict_read}
use Rattle.table.specs.Laws.{order_lawful, order_opposed}
use Rattle.ctl.specs.Formulas.{EX, AX}
use Rattle.ctl.specs.Theorems.{Meaning}
use Rattle.ctl.specs.Computed.{at, value}
use Rattle.ctl.proofs.Meant.{meant}
use Rattle.cases.specs.Logics.{model, opposite, partner, ops}
use Rattle.cases.specs.Facts.{plan_of, FactHolds, loads, joins, meets}
use Rattle.cases.specs.Cases.{p, six, six_words, six_loop}

abbrev six_rows : List ℕ
six_rows = 1 ∷ 3 ∷ 7 ∷ 11 ∷ 31 ∷ 63 ∷ 0 ∷ 0 ∷ 0 ∷ 0 ∷ 0 ∷ 0 ∷ 0 ∷ 0 ∷ 0 ∷ 0 ∷ []

abbrev six_opposites : List ℕ
six_opposites = 5 ∷ 4 ∷ 2 ∷ 3 ∷ 1 ∷ 0 ∷ 0 ∷ 0 ∷ 0 ∷ 0 ∷ 0 ∷ 0 ∷ 0 ∷ 0 ∷ 0 ∷ 0 ∷ []

rows_are : rows_of six_words ≡ six_rows
unfolding rows_of
rows_are = refl

opposites_are : opposites_of six_words ≡ six_opposites
unfolding opposites_of
opposites_are = refl

-- each law, tried at all values
tried : law_verdict 6 six_rows six_opposites ≡ Ok tt
unfolding law_verdict ordered latticed spread opposing greatest_of meet_of join_of
tried = refl

laws_hold : law_verdict 6 (rows_of six_words) (opposites_of six_words) ≡ Ok tt
laws_hold = ap₂ (law_verdict 6) rows_are opposites_are ∙ tried

laid : readable six_words ≡ true
unfolding readable
laid = refl

pub six_loads : FactHolds (loads six_words)
six_loads = verdict_read six_words 6 (rows_of six_words) (opposites_of six_words) laid refl refl refl ∙ laws_hold

pub six_meant : Meaning (ops six)
six_meant =
    let rows = rows_of six_words in
    let opposites = opposites_of six_words in
    let laws = passed 6 rows opposites laws_hold in
    meant (model six) (opposite six) (partner six)
    (order_lawful 6 (under rows) (lit≤ tt) (lit≤ tt) laws.0 laws.1 laws.2)
    (order_opposed 6 (under rows) (lit≤ tt) (lit≤ tt) laws.0 laws.1 laws.2 (listed opposites) laws.3)
    (lit≤ tt)

pub six_join : FactHolds (joins six 2 3 4)
unfolding rows_of join_of meet_of greatest_of
six_join = refl

pub six_meet : FactHolds (meets six 2 3 1)
unfolding rows_of meet_of greatest_of
six_meet = refl

pub loop_ex : at (ops six) (value (ops six) (plan_of six_loop) (EX p)) 0 ≡ 1
unfolding rows_of join_of meet_of greatest_of lowest_of highest_of
loop_ex = refl

pub loop_ax : at (ops six) (value (ops six) (plan_of six_loop) (AX p)) 0 ≡ 4
unfolding rows_of opposites_of join_of meet_of greatest_of lowest_of highest_of
loop_ax = refl
