-- Plans and rows that agree have the same rounds, and are the value of the same formulas.
use Rattle.std.proofs.Common.{◌≡◌, ℕ, zero, suc, ◌<◌, sym, refl, ap, ◌∙◌, subst, ap₂, arith}
use Rattle.ctl.specs.declared.Paths.{Paths}
use Rattle.ctl.specs.declared.Paths.TheVariants.{One, All}
use Rattle.ctl.specs.Operations.{Ops, Below}
use Rattle.ctl.specs.Formulas.{Plan, Formula, F, T, mark, not, EX, AX, and, or, until}
use Rattle.ctl.specs.Values.{Row, Same, Least, Value, after, Rounds, joined, ex, ax, next, round}

pub joined_same : {V : Type 0} (o : Ops V) (n : ℕ) (x y : Row V) → Same n x y → joined o n x ≡ joined o n y
joined_same o zero x y e = refl
joined_same o (suc n) x y e = ap₂ o.join (joined_same o n x y (λ s h. e s (omega arith))) (e n (omega arith))

-- two plans of n stages with these arrows, which agree
module _ {V : Type 0} (o : Ops V) (n : ℕ) (f g : ℕ → ℕ → V) (h k : ℕ → ℕ → V) (arrows : (s t : ℕ) → s < n → t < n → f s t ≡ g s t) where
  abbrev p : Plan V
  p = record { stages = n; arrow = f; mark = h }

  abbrev q : Plan V
  q = record { stages = n; arrow = g; mark = k }

  pub ex_alike : (x y : Row V) → Same n x y → Same n (ex o p x) (ex o q y)
  ex_alike x y e s l = joined_same o n _ _ (λ t m. ap₂ o.meet (arrows s t l m) (e t m))

  pub ax_alike : (x y : Row V) → Same n x y → Same n (ax o p x) (ax o q y)
  ax_alike x y e s l = ap o.opposite (ex_alike (λ t. o.opposite (x t)) (λ t. o.opposite (y t)) (λ t m. ap o.opposite (e t m)) s l)

  next_alike : (w : Paths) (x y : Row V) → Same n x y → Same n (next o p w x) (next o q w y)
  next_alike One x y e s l = ex_alike x y e s l
  next_alike All x y e s l = ap₂ o.meet (ax_alike x y e s l) (ex_alike x y e s l)

  -- an until between rows b and c in the one, and between d and e in the other
  module _ (w : Paths) (b c d e : Row V) (eb : Same n b d) (ec : Same n c e) where
    pub round_alike : (x y : Row V) → Same n x y → Same n (round o p w b c x) (round o q w d e y)
    round_alike x y r s l = ap₂ o.join (ec s l) (ap₂ o.meet (eb s l) (next_alike w x y r s l))

    pub after_alike : (i : ℕ) → Same n (after o (round o p w b c) i) (after o (round o q w d e) i)
    after_alike zero s l = refl
    after_alike (suc i) s l = round_alike _ _ (after_alike i) s l

    pub least_alike : (x : Row V) → Least o n (round o p w b c) x → Least o n (round o q w d e) x
    least_alike x r = record {
      solves = λ s l. r.solves s l ∙ round_alike x x (λ t m. refl) s l;
      least = λ z is. r.least z (λ s l. is s l ∙ sym (round_alike z z (λ t m. refl) s l));
    }

-- a row that agrees with the least solution is the least solution
pub least_same : {V : Type 0} (o : Ops V) (n : ℕ) (step : Row V → Row V) (x y : Row V) → Same n x y → Same n (step x) (step y) → Least o n step x → Least o n step y
least_same o n step x y e r l = record {
  solves = λ s h. sym (e s h) ∙ l.solves s h ∙ r s h;
  least = λ w is s h. subst (λ v. Below o v (w s)) (e s h) (l.least w is s h);
}

-- rounds that agree take the same number
pub rounds_same : {V : Type 0} (o : Ops V) (n k : ℕ) (step to : Row V → Row V) → ((i : ℕ) → Same n (after o step i) (after o to i)) → Rounds o n step k → Rounds o n to k
rounds_same o n k step to e r = record {
  changing = λ i h is. r.changing i h (λ s u. e (suc i) s u ∙ is s u ∙ sym (e i s u));
  still = λ s u. sym (e (suc k) s u) ∙ r.still s u ∙ e k s u;
}

module _ {V : Type 0} (o : Ops V) (p : Plan V) where
  -- rounds of one plan
  pub round_same : (w : Paths) (f g x y : Row V) → Same p.stages x y → Same p.stages (round o p w f g x) (round o p w f g y)
  round_same w f g x y e = round_alike o p.stages p.arrow p.arrow p.mark p.mark (λ s t l m. refl) w f g f g (λ s l. refl) (λ s l. refl) x y e

  -- rounds between sides that agree
  pub other_rows : (w : Paths) (f g x y : Row V) → Same p.stages f x → Same p.stages g y → (k : ℕ) →
      Same p.stages (after o (round o p w f g) k) (after o (round o p w x y) k)
  other_rows w f g x y ef eg k = after_alike o p.stages p.arrow p.arrow p.mark p.mark (λ s t l m. refl) w f g x y ef eg k

  -- a row that agrees with the value of a formula is its value
  pub value_same : (φ : Formula) (x y : Row V) → Same p.stages x y → Value o p φ x → Value o p φ y
  value_same F x y e v = λ s h. sym (e s h) ∙ v s h
  value_same T x y e v = λ s h. sym (e s h) ∙ v s h
  value_same (mark m) x y e v = λ s h. sym (e s h) ∙ v s h
  value_same (not f) x y e v = (v.0, v.1, λ s h. sym (e s h) ∙ v.2 s h)
  value_same (EX f) x y e v = (v.0, v.1, λ s h. sym (e s h) ∙ v.2 s h)
  value_same (AX f) x y e v = (v.0, v.1, λ s h. sym (e s h) ∙ v.2 s h)
  value_same (and f g) x y e v = (v.0, v.1, v.2, v.3, λ s h. sym (e s h) ∙ v.4 s h)
  value_same (or f g) x y e v = (v.0, v.1, v.2, v.3, λ s h. sym (e s h) ∙ v.4 s h)
  value_same (until w f g) x y e v = (v.0, v.1, v.2, v.3, least_same o p.stages (round o p w v.0 v.1) x y e (round_same w v.0 v.1 x y e) v.4)
