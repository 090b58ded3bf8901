-- A fact about a formula, from what is computed over lists.
use Rattle.std.proofs.Common.{◌≡◌, ℕ, ◌<◌, length, sym, ◌∙◌}
use Rattle.ctl.specs.Operations.{Ops}
use Rattle.ctl.specs.Formulas.{Plan, Formula, F, T, mark, not, EX, AX, and, or, until}
use Rattle.ctl.specs.Values.{Row, Takes}
use Rattle.ctl.specs.Theorems.{Meaning}
use Rattle.ctl.specs.Computed.{at, value, counted}
use Rattle.cases.specs.Logics.{Entry, model, ops}
use Rattle.cases.specs.Facts.{Sheet, plan_of, ValueIs, TakesOnly}

-- a formula takes one count of rounds only
takes_once : {V : Type 0} (o : Ops V) (p : Plan V) (f : Formula) → Meaning o → (k i : ℕ) → Takes o p f k → Takes o p f i → i ≡ k
takes_once o p F m k i a b = b ∙ sym a
takes_once o p T m k i a b = b ∙ sym a
takes_once o p (mark n) m k i a b = b ∙ sym a
takes_once o p (not f) m k i a b = b ∙ sym a
takes_once o p (EX f) m k i a b = b ∙ sym a
takes_once o p (AX f) m k i a b = b ∙ sym a
takes_once o p (and f g) m k i a b = b ∙ sym a
takes_once o p (or f g) m k i a b = b ∙ sym a
takes_once o p (until w f g) m k i a b =
    let x = m.exists p f in
    let y = m.exists p g in
    (m.settle p w x.0 y.0).count i k (b x.0 y.0 x.1 y.1) (a x.0 y.0 x.1 y.1)

module _ (p : Sheet) (m : Meaning (ops p.logic)) (f : Formula) where
  pub by_value : (s v : ℕ) → s < length p.arrows → at (ops p.logic) (value (ops p.logic) (plan_of p) f) s ≡ (model p.logic).value v → ValueIs p f s v
  by_value s v h e =
      let c = (m.computed (plan_of p) f).0 in
      let row : Row (Entry p.logic) = at (ops p.logic) (value (ops p.logic) (plan_of p) f) in
      record { within = h; exists = (row, c); always = λ z w. m.once (plan_of p) f z row w c s h ∙ e }

  pub by_count : TakesOnly p f (counted (ops p.logic) (plan_of p) f)
  by_count =
      let c = (m.computed (plan_of p) f).1 in
      record { taken = c; only = λ i t. takes_once (ops p.logic) (plan_of p) f m (counted (ops p.logic) (plan_of p) f) i c t }
