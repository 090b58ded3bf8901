-- Plans that agree on the entries of their stages and marks give the same values and counts.
use Rattle.std.proofs.Common.{◌≡◌, ℕ, ◌<◌, sym, refl, ap, ◌∙◌}
use Rattle.ctl.specs.declared.Paths.{Paths}
use Rattle.ctl.specs.Operations.{Ops, as_read}
use Rattle.ctl.specs.Formulas.{Plan, Formula, F, T, mark, not, EX, AX, and, or, until}
use Rattle.ctl.specs.Values.{Row, round, Value, Rounds, Takes}
use Rattle.ctl.proofs.Alike.{ex_alike, ax_alike, after_alike, least_alike, rounds_same}

-- the marks of a formula are below a
abbrev pub Bounded : ℕ → Formula → Type 0
Bounded a F = Unit {0}
Bounded a T = Unit {0}
Bounded a (mark m) = m < a
Bounded a (not f) = Bounded a f
Bounded a (EX f) = Bounded a f
Bounded a (AX f) = Bounded a f
Bounded a (and f g) = Bounded a f × Bounded a g
Bounded a (or f g) = Bounded a f × Bounded a g
Bounded a (until w f g) = Bounded a f × Bounded a g

-- two plans of n stages agree on their entries
pub record Agreeing {V : Type 0} (n a : ℕ) (f g : ℕ → ℕ → V) (h k : ℕ → ℕ → V) : Type 0 where
  pub arrows : (s t : ℕ) → s < n → t < n → f s t ≡ g s t
  pub marks : (s m : ℕ) → s < n → m < a → h s m ≡ k s m

abbrev pub with_entries : {V : Type 0} → ℕ → (ℕ → ℕ → V) → (ℕ → ℕ → V) → Plan V
with_entries n f h = record { stages = n; arrow = f; mark = h }

pub turned : {V : Type 0} {n a : ℕ} {f g h k : ℕ → ℕ → V} → Agreeing n a f g h k → Agreeing n a g f k h
turned e = record { arrows = λ s t p q. sym (e.arrows s t p q); marks = λ s m p q. sym (e.marks s m p q) }

-- the rounds are the same
pub rounds_alike : {V : Type 0} (o : Ops V) (n a : ℕ) (f g : ℕ → ℕ → V) (h k : ℕ → ℕ → V) → Agreeing n a f g h k → (w : Paths) (b c : Row V) (r : ℕ) →
    Rounds o n (round o (with_entries n f h) w b c) r → Rounds o n (round o (with_entries n g k) w b c) r
rounds_alike o n a f g h k e w b c r q = rounds_same o n r _ _ (after_alike o n f g h k e.arrows w b c b c (λ s l. refl) (λ s l. refl)) q

-- so are the values
pub value_alike : {V : Type 0} (o : Ops V) (n a : ℕ) (f g : ℕ → ℕ → V) (h k : ℕ → ℕ → V) → Agreeing n a f g h k → (φ : Formula) → Bounded a φ → (z : Row V) →
    Value o (with_entries n f h) φ z → Value o (with_entries n g k) φ z
value_alike o n a f g h k e F b z v = v
value_alike o n a f g h k e T b z v = v
value_alike o n a f g h k e (mark m) b z v = λ s l. v s l ∙ ap (as_read o) (e.marks s m l b)
value_alike o n a f g h k e (not φ) b z v = (v.0, value_alike o n a f g h k e φ b v.0 v.1, v.2)
value_alike o n a f g h k e (EX φ) b z v =
    (v.0, value_alike o n a f g h k e φ b v.0 v.1, λ s l. v.2 s l ∙ ex_alike o n f g h k e.arrows v.0 v.0 (λ t m. refl) s l)
value_alike o n a f g h k e (AX φ) b z v =
    (v.0, value_alike o n a f g h k e φ b v.0 v.1, λ s l. v.2 s l ∙ ax_alike o n f g h k e.arrows v.0 v.0 (λ t m. refl) s l)
value_alike o n a f g h k e (and φ ψ) b z v =
    (v.0, v.1, value_alike o n a f g h k e φ b.0 v.0 v.2, value_alike o n a f g h k e ψ b.1 v.1 v.3, v.4)
value_alike o n a f g h k e (or φ ψ) b z v =
    (v.0, v.1, value_alike o n a f g h k e φ b.0 v.0 v.2, value_alike o n a f g h k e ψ b.1 v.1 v.3, v.4)
value_alike o n a f g h k e (until w φ ψ) b z v = (
  v.0,
  v.1,
  value_alike o n a f g h k e φ b.0 v.0 v.2,
  value_alike o n a f g h k e ψ b.1 v.1 v.3,
  least_alike o n f g h k e.arrows w v.0 v.1 v.0 v.1 (λ t m. refl) (λ t m. refl) z v.4,
)

-- and the counts
pub takes_alike : {V : Type 0} (o : Ops V) (n a : ℕ) (f g : ℕ → ℕ → V) (h k : ℕ → ℕ → V) → Agreeing n a f g h k → (φ : Formula) → Bounded a φ → (r : ℕ) →
    Takes o (with_entries n f h) φ r → Takes o (with_entries n g k) φ r
takes_alike o n a f g h k e F b r t = t
takes_alike o n a f g h k e T b r t = t
takes_alike o n a f g h k e (mark m) b r t = t
takes_alike o n a f g h k e (not φ) b r t = t
takes_alike o n a f g h k e (EX φ) b r t = t
takes_alike o n a f g h k e (AX φ) b r t = t
takes_alike o n a f g h k e (and φ ψ) b r t = t
takes_alike o n a f g h k e (or φ ψ) b r t = t
takes_alike o n a f g h k e (until w φ ψ) b r t = λ x y p q.
    rounds_alike o n a f g h k e w x y r
    (t x y (value_alike o n a g f k h (turned e) φ b.0 x p) (value_alike o n a g f k h (turned e) ψ b.1 y q))
