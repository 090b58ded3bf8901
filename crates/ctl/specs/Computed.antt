-- The value of a formula and the rounds of an until, computed over lists, for worked cases.
-- What the value is stands in Values; a theorem says that what is computed here is that value.
use Rattle.std.specs.Prelude.{ℕ, zero, suc, Bool, true, false, ◌&&◌, List, [], ◌∷◌, slice_index_or}
use Rattle.ctl.specs.Operations.{Ops, as_read}
use Rattle.ctl.specs.Formulas.{Plan, Formula, F, T, mark, not, EX, AX, and, or, until}
use Rattle.ctl.specs.Values.{Row, ex, ax, round}

-- The row that a list holds, and the list of a row's first n.
abbrev pub at : {V : Type 0} → Ops V → List V → Row V
at o xs s = slice_index_or xs s o.lowest

abbrev pub listed : {V : Type 0} → ℕ → Row V → List V
listed zero x = []
listed (suc n) x = x 0 ∷ listed n (λ s. x (suc s))

-- The list after k rounds.
abbrev pub rounds : {V : Type 0} → Ops V → ℕ → (Row V → Row V) → ℕ → List V
rounds o n step zero = listed n (λ s. o.lowest)
rounds o n step (suc k) = listed n (step (at o (rounds o n step k)))

-- The value of a formula: an until after as many rounds as there are stages.
abbrev pub value : {V : Type 0} → Ops V → Plan V → Formula → List V
value o p F = listed p.stages (λ s. o.lowest)
value o p T = listed p.stages (λ s. o.highest)
value o p (mark m) = listed p.stages (λ s. as_read o (p.mark s m))
value o p (not f) = let x = at o (value o p f) in listed p.stages (λ s. o.opposite (x s))
value o p (EX f) = let x = at o (value o p f) in listed p.stages (ex o p x)
value o p (AX f) = let x = at o (value o p f) in listed p.stages (ax o p x)
value o p (and f g) = let x = at o (value o p f) in let y = at o (value o p g) in listed p.stages (λ s. o.meet (x s) (y s))
value o p (or f g) = let x = at o (value o p f) in let y = at o (value o p g) in listed p.stages (λ s. o.join (x s) (y s))
value o p (until w f g) = let x = at o (value o p f) in let y = at o (value o p g) in rounds o p.stages (round o p w x y) p.stages

-- Whether two lists hold the same values.
abbrev pub alike : {V : Type 0} → Ops V → List V → List V → Bool
alike o [] ys = true
alike o (x ∷ xs) [] = true
alike o (x ∷ xs) (y ∷ ys) = (o.leq x y && o.leq y x) && alike o xs ys

-- How many of at most k rounds, from the list z on, change something.
abbrev pub changes : {V : Type 0} → Ops V → ℕ → (Row V → Row V) → ℕ → List V → ℕ
changes o n step zero z = 0
changes o n step (suc k) z =
    let next = listed n (step (at o z)) in elim (alike o z next) [ true ↦ 0 | false ↦ suc (changes o n step k next) ]

-- How many rounds a formula takes.
abbrev pub counted : {V : Type 0} → Ops V → Plan V → Formula → ℕ
counted o p F = 0
counted o p T = 0
counted o p (mark m) = 0
counted o p (not f) = 0
counted o p (EX f) = 0
counted o p (AX f) = 0
counted o p (and f g) = 0
counted o p (or f g) = 0
counted o p (until w f g) =
    changes o p.stages (round o p w (at o (value o p f)) (at o (value o p g))) (suc p.stages) (listed p.stages (λ s. o.lowest))
