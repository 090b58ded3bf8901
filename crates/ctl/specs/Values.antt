-- The value of a formula at each stage, and the rounds by which an until is settled.
use Rattle.std.specs.Prelude.{◌≡◌, ℕ, zero, suc, ◌<◌}
use Rattle.ctl.specs.declared.Paths.{Paths}
use Rattle.ctl.specs.declared.Paths.TheVariants.{One, All}
use Rattle.ctl.specs.Operations.{Ops, Below, as_read}
use Rattle.ctl.specs.Formulas.{Plan, Formula, F, T, mark, not, EX, AX, and, or, until}

-- An entry for each stage.
abbrev pub Row : Type 0 → Type 0
Row V = ℕ → V

-- Two rows agree at each of n stages.
abbrev pub Same : {V : Type 0} → ℕ → Row V → Row V → Type 0
Same n x y = (s : ℕ) → s < n → x s ≡ y s

-- The join over the stages below n.
abbrev pub joined : {V : Type 0} → Ops V → ℕ → Row V → V
joined o zero x = o.lowest
joined o (suc n) x = o.join (joined o n x) (x n)

-- EX f at s: the join over stages t of arrow(s, t) meet f(t).
abbrev pub ex : {V : Type 0} → Ops V → Plan V → Row V → Row V
ex o p f s = joined o p.stages (λ t. o.meet (p.arrow s t) (f t))

-- AX f: not EX not f.
abbrev pub ax : {V : Type 0} → Ops V → Plan V → Row V → Row V
ax o p f s = o.opposite (ex o p (λ t. o.opposite (f t)) s)

-- What an until asks of the next stages: EX Z along one path, AX Z and EX Z along all.
abbrev pub next : {V : Type 0} → Ops V → Plan V → Paths → Row V → Row V
next o p One z s = ex o p z s
next o p All z s = o.meet (ax o p z s) (ex o p z s)

-- One round of an until: g or (f and what is asked of the next stages).
abbrev pub round : {V : Type 0} → Ops V → Plan V → Paths → Row V → Row V → Row V → Row V
round o p w f g z s = o.join (g s) (o.meet (f s) (next o p w z s))

-- z solves Z = step Z, and is at or below each solution, stage by stage.
pub record Least {V : Type 0} (o : Ops V) (n : ℕ) (step : Row V → Row V) (z : Row V) : Type 0 where
  pub solves : Same n z (step z)
  pub least : (w : Row V) → Same n w (step w) → (s : ℕ) → s < n → Below o (z s) (w s)

-- z is the value of a formula, stage by stage; an until is the least solution of its round.
abbrev pub Value : {V : Type 0} → Ops V → Plan V → Formula → Row V → Type 0
Value o p F z = Same p.stages z (λ s. o.lowest)
Value o p T z = Same p.stages z (λ s. o.highest)
Value o p (mark m) z = Same p.stages z (λ s. as_read o (p.mark s m))
Value {V} o p (not f) z = (x : Row V) × Value o p f x × Same p.stages z (λ s. o.opposite (x s))
Value {V} o p (EX f) z = (x : Row V) × Value o p f x × Same p.stages z (ex o p x)
Value {V} o p (AX f) z = (x : Row V) × Value o p f x × Same p.stages z (ax o p x)
Value {V} o p (and f g) z = (x : Row V) × (y : Row V) × Value o p f x × Value o p g y × Same p.stages z (λ s. o.meet (x s) (y s))
Value {V} o p (or f g) z = (x : Row V) × (y : Row V) × Value o p f x × Value o p g y × Same p.stages z (λ s. o.join (x s) (y s))
Value {V} o p (until w f g) z = (x : Row V) × (y : Row V) × Value o p f x × Value o p g y × Least o p.stages (round o p w x y) z

-- The row after k rounds: lowest everywhere at first, and each round computes every stage from the row before.
abbrev pub after : {V : Type 0} → Ops V → (Row V → Row V) → ℕ → Row V
after o step zero s = o.lowest
after o step (suc k) s = step (after o step k) s

-- Of those rounds k change something: each of the first k does, and the next does not.
pub record Rounds {V : Type 0} (o : Ops V) (n : ℕ) (step : Row V → Row V) (k : ℕ) : Type 0 where
  pub changing : (i : ℕ) → i < k → Same n (after o step (suc i)) (after o step i) → ⊥
  pub still : Same n (after o step (suc k)) (after o step k)

-- Settling a formula that is an until takes k rounds that change something; any other takes none.
abbrev pub Takes : {V : Type 0} → Ops V → Plan V → Formula → ℕ → Type 0
Takes o p F k = k ≡ 0
Takes o p T k = k ≡ 0
Takes o p (mark m) k = k ≡ 0
Takes o p (not f) k = k ≡ 0
Takes o p (EX f) k = k ≡ 0
Takes o p (AX f) k = k ≡ 0
Takes o p (and f g) k = k ≡ 0
Takes o p (or f g) k = k ≡ 0
Takes {V} o p (until w f g) k = (x y : Row V) → Value o p f x → Value o p g y → Rounds o p.stages (round o p w x y) k
