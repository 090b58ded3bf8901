-- A formula read at a cut and a stage, by true and false alone.
use Rattle.std.specs.Prelude.{◌≡◌, ℕ, ◌<◌, Bool, true, ◌⊎◌}
use Rattle.ctl.specs.declared.Paths.TheVariants.{One, All}
use Rattle.ctl.specs.Operations.{Ops, Carries}
use Rattle.ctl.specs.Formulas.{Plan, Formula, F, T, mark, not, EX, AX, and, or, until}

-- The arrow from s leads to a stage t and carries cut j.
pub record Arrow {V : Type 0} (o : Ops V) (p : Plan V) (j s t : ℕ) : Type 0 where
  pub stage : t < p.stages
  pub carries : Carries o j (p.arrow s t)

-- A finite run from s by arrows that carry cut j: it ends where g holds, and f holds before the end.
pub data Run {V : Type 0} (o : Ops V) (p : Plan V) (j : ℕ) (f g : ℕ → Type 0) : ℕ → Type 0 where
  ends : {s : ℕ} → g s → Run o p j f g s
  goes : {s : ℕ} (t : ℕ) → f s → Arrow o p j s t → Run o p j f g t → Run o p j f g s

-- The stage is in the set.
abbrev pub In : (ℕ → Bool) → ℕ → Type 0
In set s = set s ≡ true

-- The set contains each stage where g holds,
-- and each where f holds, every arrow carrying the partner of cut j leads into the set, and some arrow carrying j leads into it.
pub record Closed {V : Type 0} (o : Ops V) (p : Plan V) (j : ℕ) (f g : ℕ → Type 0) (set : ℕ → Bool) : Type 0 where
  pub ends : (s : ℕ) → s < p.stages → g s → In set s
  pub goes : (s : ℕ) → s < p.stages → f s →
      ((t : ℕ) → Arrow o p (o.partner j) s t → In set t) → ((t : ℕ) × Arrow o p j s t × In set t) → In set s

-- The formula holds at cut j, at stage s.
abbrev pub Holds : {V : Type 0} → Ops V → Plan V → Formula → ℕ → ℕ → Type 0
Holds o p F j s = ⊥
Holds o p T j s = Unit {0}
Holds o p (mark m) j s = Carries o j (p.mark s m)
Holds o p (not f) j s = Holds o p f (o.partner j) s → ⊥
Holds o p (EX f) j s = (t : ℕ) × Arrow o p j s t × Holds o p f j t
Holds o p (AX f) j s = (t : ℕ) → Arrow o p (o.partner j) s t → Holds o p f j t
Holds o p (and f g) j s = Holds o p f j s × Holds o p g j s
Holds o p (or f g) j s = Holds o p f j s ⊎ Holds o p g j s
Holds o p (until One f g) j s = Run o p j (Holds o p f j) (Holds o p g j) s
Holds o p (until All f g) j s = (set : ℕ → Bool) → Closed o p j (Holds o p f j) (Holds o p g j) set → In set s
