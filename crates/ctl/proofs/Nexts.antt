-- What a cut carries of EX, AX and a round of an until.
use Rattle.std.proofs.Common.{ℕ, zero, suc, ◌<◌, ◌⊎◌, ◌↔◌, sym, subst, inl, inr, ⊎_elim, arith}
use Rattle.std.proofs.lemmas.Bool.{cases_order}
use Rattle.ctl.specs.declared.Paths.{Paths}
use Rattle.ctl.specs.declared.Paths.TheVariants.{One, All}
use Rattle.ctl.specs.Operations.{Ops, Carries}
use Rattle.ctl.specs.Formulas.{Plan}
use Rattle.ctl.specs.Values.{Row, joined, ex, ax, next, round}
use Rattle.ctl.specs.Readings.{Arrow}
use Rattle.ctl.proofs.Cuts.{Cutting, decided}

module _ {V : Type 0} (o : Ops V) (c : Cutting o) where
  joined_some : (j : ℕ) → j < o.cuts → (n : ℕ) (x : Row V) → Carries o j (joined o n x) → (t : ℕ) × (t < n) × Carries o j (x t)
  joined_some j lt zero x h = absurd (c.no_lowest j lt h)
  joined_some j lt (suc n) x h =
      ⊎_elim (λ k. let r = joined_some j lt n x k in (r.0, (let u = r.1 in omega arith), r.2)) (λ k. (n, omega arith, k))
      ((c.join_either j (joined o n x) (x n) lt).0 h)

  joined_has : (j : ℕ) → j < o.cuts → (n : ℕ) (x : Row V) (t : ℕ) → t < n → Carries o j (x t) → Carries o j (joined o n x)
  joined_has j lt zero x t u h = absurd (omega arith)
  joined_has j lt (suc n) x t u h =
      (c.join_either j (joined o n x) (x n) lt).1
      (⊎_elim (λ e. inr (subst (λ i. Carries o j (x i)) e h))
      (⊎_elim (λ l. inl (joined_has j lt n x t l h)) (λ l. absurd (omega arith))) (cases_order t n))

  module _ (p : Plan V) where
    -- some arrow that carries the cut leads to a stage whose entry carries it
    abbrev pub Some : ℕ → Row V → ℕ → Type 0
    Some j x s = (t : ℕ) × Arrow o p j s t × Carries o j (x t)

    -- every arrow that carries the partner does
    abbrev pub Every : ℕ → Row V → ℕ → Type 0
    Every j x s = (t : ℕ) → Arrow o p (o.partner j) s t → Carries o j (x t)

    abbrev pub Next : Paths → ℕ → Row V → ℕ → Type 0
    Next One j x s = Some j x s
    Next All j x s = Every j x s × Some j x s

    pub ex_some : (j : ℕ) → j < o.cuts → (x : Row V) (s : ℕ) → Carries o j (ex o p x s) ↔ Some j x s
    ex_some j lt x s = (
      λ h.
          let r = joined_some j lt p.stages (λ t. o.meet (p.arrow s t) (x t)) h in
          let both = (c.meet_both j (p.arrow s r.0) (x r.0) lt).0 r.2 in
          (r.0, record { stage = r.1; carries = both.0 }, both.1),
      λ r. joined_has j lt p.stages (λ t. o.meet (p.arrow s t) (x t)) r.0 r.1.stage
          ((c.meet_both j (p.arrow s r.0) (x r.0) lt).1 (r.1.carries, r.2)),
    )

    module _ (j : ℕ) (lt : j < o.cuts) where
      pub ax_every : (x : Row V) (s : ℕ) → Carries o j (ax o p x s) ↔ Every j x s
      ax_every x s =
          let pl : o.partner j < o.cuts = c.partner_less j lt in
          let y : Row V = λ t. o.opposite (x t) in (
            λ h t a. ⊎_elim (λ k. k)
                (λ not_so. absurd ((c.opposite_fails j (ex o p y s) lt).0 h
                ((ex_some (o.partner j) pl y s).1 (
                  t,
                  a,
                  (c.opposite_fails (o.partner j) (x t) pl).1 (λ k. not_so (subst (λ i. Carries o i (x t)) (c.partner_twice j lt) k)),
                ))))
                (decided o j (x t)),
            λ all. (c.opposite_fails j (ex o p y s) lt).1 (λ k.
                let r = (ex_some (o.partner j) pl y s).0 k in
                (c.opposite_fails (o.partner j) (x r.0) pl).0 r.2
                (subst (λ i. Carries o i (x r.0)) (sym (c.partner_twice j lt)) (all r.0 r.1))),
          )

      next_is : (w : Paths) (z : Row V) (s : ℕ) → Carries o j (next o p w z s) ↔ Next w j z s
      next_is One z s = ex_some j lt z s
      next_is All z s =
          let both = c.meet_both j (ax o p z s) (ex o p z s) lt in (
            λ h. ((ax_every z s).0 (both.0 h).0, (ex_some j lt z s).0 (both.0 h).1),
            λ h. both.1 ((ax_every z s).1 h.0, (ex_some j lt z s).1 h.1),
          )

      pub round_is : (w : Paths) (f g z : Row V) (s : ℕ) → Carries o j (round o p w f g z s) ↔ (Carries o j (g s) ⊎ (Carries o j (f s) × Next w j z s))
      round_is w f g z s =
          let either = c.join_either j (g s) (o.meet (f s) (next o p w z s)) lt in
          let both = c.meet_both j (f s) (next o p w z s) lt in (
            λ h. ⊎_elim (λ k. inl k) (λ k. inr ((both.0 k).0, (next_is w z s).0 (both.0 k).1)) (either.0 h),
            λ h. either.1 (⊎_elim (λ k. inl k) (λ k. inr (both.1 (k.0, (next_is w z s).1 k.1))) h),
          )

    -- what is asked of the next stages stays, where each entry carries what it did
    pub next_more : (w : Paths) (j : ℕ) (x y : Row V) (s : ℕ) → ((t : ℕ) → t < p.stages → Carries o j (x t) → Carries o j (y t)) → Next w j x s → Next w j y s
    next_more One j x y s u r = (r.0, r.1, u r.0 r.1.stage r.2)
    next_more All j x y s u r = ((λ t a. u t a.stage (r.0 t a)), (r.1.0, r.1.1, u r.1.0 r.1.1.stage r.1.2))
