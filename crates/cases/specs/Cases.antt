-- The worked cases.
use Rattle.std.specs.Prelude.{ℕ, List, [], ◌∷◌}
use Rattle.ctl.specs.Formulas.{Formula, F, T, mark, EX, AX, EF, AF, EG, AG}
use Rattle.cases.specs.Logics.{Made, chain_of, table_of, pair_of, twist_over}
use Rattle.cases.specs.Facts.{Sheet, Fact, loads, joins, meets, opposes, partners, valued, takes, EachHolds}

-- The table Six: F, N, DK, DC, S and T are the numbers 0 to 5. DK and DC stand side by side above N and below S.
abbrev pub six_words : List ℕ
six_words = 0x60050001 ∷ 0x60040003 ∷ 0x60020007 ∷ 0x6003000B ∷ 0x6001001F ∷ 0x6000003F ∷ []

abbrev pub six : Made
six = table_of six_words

-- The only mark of each plan.
abbrev pub p : Formula
p = mark 0

-- Chain of 3, two stages: the arrow from 0 to 1 is 1, the arrow from 1 to itself 2, p is 2 at stage 1, and the rest is 0.
abbrev pub two_stages : Sheet
two_stages = record { logic = chain_of 3; arrows = (0 ∷ 1 ∷ []) ∷ (0 ∷ 2 ∷ []) ∷ []; marks = (0 ∷ 2 ∷ []) ∷ [] }

-- Chain of 2, one stage, no arrow, p lowest.
abbrev pub no_arrow : Sheet
no_arrow = record { logic = chain_of 2; arrows = (0 ∷ []) ∷ []; marks = (0 ∷ []) ∷ [] }

-- Six, one stage: its arrow to itself is DK, and p is DC.
abbrev pub six_loop : Sheet
six_loop = record { logic = six; arrows = (2 ∷ []) ∷ []; marks = (3 ∷ []) ∷ [] }

-- Chain of 2, three stages: highest arrows from 0 to 1, from 1 to 2 and from 2 to itself, and p is highest at stage 2 alone.
abbrev pub three_stages : Sheet
three_stages = record { logic = chain_of 2; arrows = (0 ∷ 1 ∷ 0 ∷ []) ∷ (0 ∷ 0 ∷ 1 ∷ []) ∷ (0 ∷ 0 ∷ 1 ∷ []) ∷ []; marks = (0 ∷ 0 ∷ 1 ∷ []) ∷ [] }

abbrev pub cases : List (List Fact)
cases =
    -- the words of Six make a table, in which DK join DC is S and their meet is N
    (loads six_words ∷ joins six 2 3 4 ∷ meets six 2 3 1 ∷ [])
    -- in Six the cuts are partners as N with T and DK with DC
    ∷ (partners six 1 5 ∷ partners six 2 3 ∷ [])
    -- one step: EX p is no more than the arrow, and AX p is highest, since p is where the arrow leads
    ∷ (valued two_stages (EX p) 0 1 ∷ valued two_stages (AX p) 0 2 ∷ [])
    -- some path comes to p
    ∷ (valued two_stages (EF p) 0 1 ∷ [])
    -- every path comes to p
    ∷ (valued two_stages (AF p) 0 1 ∷ [])
    -- p holds all along the loop at stage 1; at stage 0 it is lowest from the start
    ∷ (valued two_stages (EG p) 1 2 ∷ valued two_stages (AG p) 0 0 ∷ [])
    -- at a stage with no arrow AX p is highest and EX p lowest, and AF p is lowest as p is
    ∷ (valued no_arrow (AX p) 0 1 ∷ valued no_arrow (EX p) 0 0 ∷ valued no_arrow (AF p) 0 0 ∷ [])
    -- an arrow DK and a mark DC: EX p is N, and AX p is S
    ∷ (valued six_loop (EX p) 0 1 ∷ valued six_loop (AX p) 0 4 ∷ [])
    -- in the twist over the chain of 2 number 1 join number 2 is number 3
    ∷ (joins (twist_over (chain_of 2)) 1 2 3 ∷ [])
    -- p two steps away takes three rounds
    ∷ (takes three_stages (EF p) 3 ∷ [])
    -- EF F is lowest from the start, and EF T is highest after one round
    ∷ (takes three_stages (EF F) 0 ∷ takes three_stages (EF T) 1 ∷ [])
    -- in the pair of two chains of 3 the opposite of number 2 is number 6
    ∷ (opposes (pair_of (chain_of 3) (chain_of 3)) 2 6 ∷ [])
    ∷ []

-- Every case holds.
abbrev pub CasesHold : Type 0
CasesHold = EachHolds cases
