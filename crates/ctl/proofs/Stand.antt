-- Rounds from lowest rise at each cut, stand still after as many as there are stages, and lead to the least solution.
use Rattle.std.proofs.Common.{◌≡◌, ℕ, zero, suc, ◌+◌, ◌<◌, ◌≤◌, Bool, true, false, ◌⊎◌, sym, refl, ap, ◌∙◌, subst, inl, inr, ⊎_elim, arith}
use mathlib.Core.Bool.{false≢true}
use Rattle.std.proofs.lemmas.Bool.{cases_lt, cases_order}
use Rattle.ctl.specs.declared.Paths.{Paths}
use Rattle.ctl.specs.Operations.{Ops, Valid, Carries}
use Rattle.ctl.specs.Formulas.{Plan}
use Rattle.ctl.specs.Values.{Row, Same, Least, after, Rounds, round}
use Rattle.ctl.specs.Theorems.{Settles, UntilsSettle}
use Rattle.ctl.proofs.Cuts.{Cutting}
use Rattle.ctl.proofs.Nexts.{round_is, next_more}
use Rattle.ctl.proofs.Counts.{count, count_le, grows}

-- what cut j carries of x it carries of y
abbrev pub Under : {V : Type 0} → Ops V → ℕ → ℕ → Row V → Row V → Type 0
Under o n j x y = (s : ℕ) → s < n → Carries o j (x s) → Carries o j (y s)

-- a round that keeps that, at every cut, and gives values
pub record Steady {V : Type 0} (o : Ops V) (n : ℕ) (step : Row V → Row V) : Type 0 where
  pub keeps : (j : ℕ) → j < o.cuts → (x y : Row V) → Under o n j x y → Under o n j (step x) (step y)
  pub valid : (x : Row V) (s : ℕ) → Valid o (step x s)

-- a round of an until does
pub steady : {V : Type 0} (o : Ops V) → Cutting o → (p : Plan V) (w : Paths) (f g : Row V) → Steady o p.stages (round o p w f g)
steady o c p w f g = record {
  keeps = λ j lt x y u s h k.
      (round_is o c p j lt w f g y s).1
      (⊎_elim (λ a. inl a) (λ a. inr (a.0, next_more o c p w j x y s u a.1)) ((round_is o c p j lt w f g x s).0 k));
  valid = λ x s. c.answers.join_valid _ _;
}

-- values that carry the same cuts are the same
pub same_by_cuts : {V : Type 0} (o : Ops V) → Cutting o → (u v : V) → Valid o u → Valid o v → ((j : ℕ) → j < o.cuts → Carries o j u → Carries o j v) →
    ((j : ℕ) → j < o.cuts → Carries o j v → Carries o j u) → u ≡ v
same_by_cuts o c u v hu hv to from = c.anti u v hu hv (c.tells u v to) (c.tells v u from)

module _ {V : Type 0} (o : Ops V) (c : Cutting o) (n : ℕ) (step : Row V → Row V) (firm : Steady o n step) where
  -- rows that agree have the same round
  pub step_same : (x y : Row V) → Same n x y → Same n (step x) (step y)
  step_same x y e s h =
      same_by_cuts o c (step x s) (step y s) (firm.valid x s) (firm.valid y s)
      (λ j lt k. firm.keeps j lt x y (λ t u. subst (Carries o j) (e t u)) s h k)
      (λ j lt k. firm.keeps j lt y x (λ t u. subst (Carries o j) (sym (e t u))) s h k)

  -- after any number of rounds there are values
  pub after_valid : (k s : ℕ) → Valid o (after o step k s)
  after_valid zero s = c.answers.lowest_valid
  after_valid (suc k) s = firm.valid (after o step k) s

  rises : (j : ℕ) → j < o.cuts → (k : ℕ) → Under o n j (after o step k) (after o step (suc k))
  rises j lt zero s h a = absurd (c.no_lowest j lt a)
  rises j lt (suc k) s h a = firm.keeps j lt (after o step k) (after o step (suc k)) (rises j lt k) s h a

  abbrev set : ℕ → ℕ → ℕ → Bool
  set j k s = o.leq (o.cut j) (after o step k s)

  stands_or_grows : (j : ℕ) → j < o.cuts → (k : ℕ) → Under o n j (after o step (suc k)) (after o step k) ⊎ (k < count n (set j (suc k)))
  stands_or_grows j lt zero =
      ⊎_elim (λ back. inl back) (λ more. inr (omega arith)) (grows n (set j 0) (set j 1) (rises j lt 0))
  stands_or_grows j lt (suc k) =
      ⊎_elim (λ back. inl (firm.keeps j lt (after o step (suc k)) (after o step k) back))
      (λ h. ⊎_elim (λ back. inl back) (λ more. inr (omega arith)) (grows n (set j (suc k)) (set j (suc (suc k))) (rises j lt (suc k))))
      (stands_or_grows j lt k)

  falls : (j : ℕ) → j < o.cuts → (k : ℕ) → n ≤ k → Under o n j (after o step (suc k)) (after o step k)
  falls j lt k h =
      ⊎_elim (λ back. back) (λ more. absurd (let le = count_le n (set j (suc k)) in omega arith)) (stands_or_grows j lt k)

  -- after n rounds nothing changes
  stands : (k : ℕ) → n ≤ k → Same n (after o step (suc k)) (after o step k)
  stands k le s h =
      same_by_cuts o c (after o step (suc k) s) (after o step k s) (after_valid (suc k) s) (after_valid k s)
      (λ j lt. falls j lt k le s h) (λ j lt. rises j lt k s h)

  -- so a round that changes something is among the first n
  pub early : (k : ℕ) → (Same n (after o step (suc k)) (after o step k) → ⊥) → k < n
  early k moves = ⊎_elim (λ h. h) (λ le. absurd (moves (stands k le))) (cases_lt k n)

  under_solution : (w : Row V) → Same n w (step w) → (j : ℕ) → j < o.cuts → (k : ℕ) → Under o n j (after o step k) w
  under_solution w is j lt zero s h a = absurd (c.no_lowest j lt a)
  under_solution w is j lt (suc k) s h a =
      subst (Carries o j) (sym (is s h)) (firm.keeps j lt (after o step k) w (under_solution w is j lt k) s h a)

  -- where nothing changes is the least solution
  pub rests_least : (k : ℕ) → Same n (after o step (suc k)) (after o step k) → Least o n step (after o step k)
  rests_least k still = record {
    solves = λ s h. sym (still s h);
    least = λ w is s h. c.tells (after o step k s) (w s) (λ j lt. under_solution w is j lt k s h);
  }

  -- that is reached in n rounds
  pub reaches : Least o n step (after o step n)
  reaches = rests_least n (stands n (omega arith))

  few : (k : ℕ) → Rounds o n step k → k ≤ n
  few zero r = omega arith
  few (suc k) r = early k (r.changing k (omega arith))

  not_later : (k i : ℕ) → Rounds o n step k → Rounds o n step i → k ≤ i
  not_later k i a b = ⊎_elim (λ h. absurd (a.changing i h b.still)) (λ le. le) (cases_lt i k)

  -- whether rows of values are the same can be told
  tell : (x y : Row V) → ((s : ℕ) → Valid o (x s)) → ((s : ℕ) → Valid o (y s)) → (k : ℕ) → Same k x y ⊎ (Same k x y → ⊥)
  tell x y vx vy zero = inl (λ s h. absurd (omega arith))
  tell x y vx vy (suc k) =
      ⊎_elim
      (λ rest. go rest (o.leq (x k) (y k)) (o.leq (y k) (x k)) refl refl)
      (λ differ. inr (λ e. differ (λ s h. e s (omega arith))))
      (tell x y vx vy k)
    where
      all : Same k x y → x k ≡ y k → Same (suc k) x y
      all rest e s h = ⊎_elim (λ i. subst (λ m. x m ≡ y m) (sym i) e) (⊎_elim (λ l. rest s l) (λ l. absurd (omega arith))) (cases_order s k)

      go : Same k x y → (a b : Bool) → o.leq (x k) (y k) ≡ a → o.leq (y k) (x k) ≡ b → Same (suc k) x y ⊎ (Same (suc k) x y → ⊥)
      go rest true true ea eb = inl (all rest (c.anti (x k) (y k) (vx k) (vy k) ea eb))
      go rest false b ea eb = inr (λ e. false≢true (sym ea ∙ ap (λ v. o.leq v (y k)) (e k (omega arith)) ∙ c.same (y k)))
      go rest true false ea eb = inr (λ e. false≢true (sym eb ∙ ap (λ v. o.leq (y k) v) (e k (omega arith)) ∙ c.same (y k)))

  -- how many rounds change something, where those below i do and `left` more are to be told
  told : (left i : ℕ) → i + left ≡ n → ((k : ℕ) → k < i → Same n (after o step (suc k)) (after o step k) → ⊥) → (k : ℕ) × Rounds o n step k
  told zero i e moves = (i, record { changing = moves; still = stands i (omega arith) })
  told (suc left) i e moves =
      ⊎_elim (λ s. (i, record { changing = moves; still = s }))
      (λ m. told left (suc i) (omega arith)
      (λ k h. ⊎_elim (λ same. subst (λ a. Same n (after o step (suc a)) (after o step a) → ⊥) (sym same) m)
      (⊎_elim (λ l. moves k l) (λ l. absurd (omega arith))) (cases_order k i)))
      (tell (after o step (suc i)) (after o step i) (after_valid (suc i)) (after_valid i) n)

  pub settles : Settles o n step
  settles = record {
    rest = told n 0 (omega arith) (λ k h. absurd (omega arith));
    few = few;
    count = λ k i a b. let le = not_later k i a b in let ge = not_later i k b a in omega arith;
    least = λ k r. rests_least k r.still;
    once = λ x y lx ly s h.
        c.anti (x s) (y s)
        (subst (Valid o) (sym (lx.solves s h)) (firm.valid x s)) (subst (Valid o) (sym (ly.solves s h)) (firm.valid y s))
        (lx.least y ly.solves s h) (ly.least x lx.solves s h);
  }

pub untils_settle : {V : Type 0} (o : Ops V) → Cutting o → UntilsSettle o
untils_settle o c p w f g = settles o c p.stages (round o p w f g) (steady o c p w f g)
