-- A cut is at or below the value of a formula exactly when the formula's reading holds; so each formula has one value.
use Rattle.std.proofs.Common.{ℕ, zero, suc, ◌<◌, Bool, ◌↔◌, sym, refl, subst, inl, inr, ⊎_elim}
use Rattle.ctl.specs.declared.Paths.{Paths}
use Rattle.ctl.specs.declared.Paths.TheVariants.{One, All}
use Rattle.ctl.specs.Operations.{Ops, Valid, Carries}
use Rattle.ctl.specs.Formulas.{Plan, Formula, F, T, mark, not, EX, AX, and, or, until}
use Rattle.ctl.specs.Values.{Row, Same, Least, Value, after, ex, ax, round}
use Rattle.ctl.specs.Readings.{Run, In, Closed, Holds}
use Rattle.ctl.specs.Theorems.{ReadingAgrees, ValueExists, ValueOnce}
use Rattle.ctl.proofs.Cuts.{Cutting, joined_valid}
use Rattle.ctl.proofs.Nexts.{ex_some, ax_every, round_is}
use Rattle.ctl.proofs.Stand.{steady, same_by_cuts, reaches}

module _ {V : Type 0} (o : Ops V) (c : Cutting o) (p : Plan V) where
  -- an until at a cut, where x and y are read as P and Q
  module _ (j : ℕ) (lt : j < o.cuts) (x y : Row V) (P Q : ℕ → Type 0)
      (at_x : (s : ℕ) → s < p.stages → Carries o j (x s) ↔ P s) (at_y : (s : ℕ) → s < p.stages → Carries o j (y s) ↔ Q s) where
    to_run : (k s : ℕ) → s < p.stages → Carries o j (after o (round o p One x y) k s) → Run o p j P Q s
    to_run zero s h a = absurd (c.no_lowest j lt a)
    to_run (suc k) s h a =
        ⊎_elim (λ d. Run.ends ((at_y s h).0 d))
        (λ d. let r = d.1 in Run.goes r.0 ((at_x s h).0 d.0) r.1 (to_run k r.0 r.1.stage r.2))
        ((round_is o c p j lt One x y (after o (round o p One x y) k) s).0 a)

    from_run : (z : Row V) → Same p.stages z (round o p One x y z) → {s : ℕ} → Run o p j P Q s → s < p.stages → Carries o j (z s)
    from_run z is {s} (Run.ends q) h = subst (Carries o j) (sym (is s h)) ((round_is o c p j lt One x y z s).1 (inl ((at_y s h).1 q)))
    from_run z is {s} (Run.goes t f a r) h =
        subst (Carries o j) (sym (is s h))
        ((round_is o c p j lt One x y z s).1 (inr ((at_x s h).1 f, (t, a, from_run z is r a.stage))))

    to_sets : (set : ℕ → Bool) → Closed o p j P Q set → (k s : ℕ) → s < p.stages → Carries o j (after o (round o p All x y) k s) → In set s
    to_sets set closed zero s h a = absurd (c.no_lowest j lt a)
    to_sets set closed (suc k) s h a =
        ⊎_elim (λ d. closed.ends s h ((at_y s h).0 d))
        (λ d. let r = d.1.1 in
        closed.goes s h ((at_x s h).0 d.0) (λ t b. to_sets set closed k t b.stage (d.1.0 t b))
        (r.0, r.1, to_sets set closed k r.0 r.1.stage r.2))
        ((round_is o c p j lt All x y (after o (round o p All x y) k) s).0 a)

    -- the stages where a solution carries cut j
    carried : (z : Row V) → Same p.stages z (round o p All x y z) → Closed o p j P Q (λ t. o.leq (o.cut j) (z t))
    carried z is = record {
      ends = λ s h q. subst (Carries o j) (sym (is s h)) ((round_is o c p j lt All x y z s).1 (inl ((at_y s h).1 q)));
      goes = λ s h f every some. subst (Carries o j) (sym (is s h)) ((round_is o c p j lt All x y z s).1 (inr ((at_x s h).1 f, (every, some))));
    }

    -- what the least solution carries is carried after as many rounds as there are stages
    reached : (w : Paths) (z : Row V) → Least o p.stages (round o p w x y) z → (s : ℕ) → s < p.stages → Carries o j (z s) →
        Carries o j (after o (round o p w x y) p.stages s)
    reached w z l s h a =
        let end : Row V = after o (round o p w x y) p.stages in
        c.through j (z s) (end s) lt a (l.least end (reaches o c p.stages (round o p w x y) (steady o c p w x y)).solves s h)

    one_agrees : (z : Row V) → Least o p.stages (round o p One x y) z → (s : ℕ) → s < p.stages → Carries o j (z s) ↔ Run o p j P Q s
    one_agrees z l s h = (λ a. to_run p.stages s h (reached One z l s h a), λ r. from_run z l.solves r h)

    all_agrees : (z : Row V) → Least o p.stages (round o p All x y) z → (s : ℕ) → s < p.stages →
        Carries o j (z s) ↔ ((set : ℕ → Bool) → Closed o p j P Q set → In set s)
    all_agrees z l s h = (
      λ a set closed. to_sets set closed p.stages s h (reached All z l s h a),
      λ all. all (λ t. o.leq (o.cut j) (z t)) (carried z l.solves),
    )

  agrees : (φ : Formula) (z : Row V) → Value o p φ z → (j : ℕ) → j < o.cuts → (s : ℕ) → s < p.stages → Carries o j (z s) ↔ Holds o p φ j s
  agrees F z v j lt s h = (λ a. c.no_lowest j lt (subst (Carries o j) (v s h) a), λ e. absurd e)
  agrees T z v j lt s h = (λ a. tt, λ u. subst (Carries o j) (sym (v s h)) (c.all_highest j lt))
  agrees (mark m) z v j lt s h = (
    λ a. (c.read_both j (p.mark s m)).0 (subst (Carries o j) (v s h) a),
    λ a. subst (Carries o j) (sym (v s h)) ((c.read_both j (p.mark s m)).1 a),
  )
  agrees (not f) z v j lt s h =
      let x = v.0 in
      let inner = agrees f x v.1 (o.partner j) (c.partner_less j lt) s h in (
        λ a k. (c.opposite_fails j (x s) lt).0 (subst (Carries o j) (v.2 s h) a) (inner.1 k),
        λ fails. subst (Carries o j) (sym (v.2 s h)) ((c.opposite_fails j (x s) lt).1 (λ k. fails (inner.0 k))),
      )
  agrees (EX f) z v j lt s h =
      let x = v.0 in (
        λ a. let r = (ex_some o c p j lt x s).0 (subst (Carries o j) (v.2 s h) a) in (r.0, r.1, (agrees f x v.1 j lt r.0 r.1.stage).0 r.2),
        λ r. subst (Carries o j) (sym (v.2 s h)) ((ex_some o c p j lt x s).1 (r.0, r.1, (agrees f x v.1 j lt r.0 r.1.stage).1 r.2)),
      )
  agrees (AX f) z v j lt s h =
      let x = v.0 in (
        λ a t b. (agrees f x v.1 j lt t b.stage).0 ((ax_every o c p j lt x s).0 (subst (Carries o j) (v.2 s h) a) t b),
        λ all. subst (Carries o j) (sym (v.2 s h)) ((ax_every o c p j lt x s).1 (λ t b. (agrees f x v.1 j lt t b.stage).1 (all t b))),
      )
  agrees (and f g) z v j lt s h =
      let left = agrees f v.0 v.2 j lt s h in
      let right = agrees g v.1 v.3 j lt s h in
      let both = c.meet_both j (v.0 s) (v.1 s) lt in (
        λ a. let b = both.0 (subst (Carries o j) (v.4 s h) a) in (left.0 b.0, right.0 b.1),
        λ b. subst (Carries o j) (sym (v.4 s h)) (both.1 (left.1 b.0, right.1 b.1)),
      )
  agrees (or f g) z v j lt s h =
      let left = agrees f v.0 v.2 j lt s h in
      let right = agrees g v.1 v.3 j lt s h in
      let either = c.join_either j (v.0 s) (v.1 s) lt in (
        λ a. ⊎_elim (λ k. inl (left.0 k)) (λ k. inr (right.0 k)) (either.0 (subst (Carries o j) (v.4 s h) a)),
        λ e. subst (Carries o j) (sym (v.4 s h)) (either.1 (⊎_elim (λ k. inl (left.1 k)) (λ k. inr (right.1 k)) e)),
      )
  agrees (until One f g) z v j lt s h =
      one_agrees j lt v.0 v.1 (Holds o p f j) (Holds o p g j) (λ t u. agrees f v.0 v.2 j lt t u) (λ t u. agrees g v.1 v.3 j lt t u) z v.4 s h
  agrees (until All f g) z v j lt s h =
      all_agrees j lt v.0 v.1 (Holds o p f j) (Holds o p g j) (λ t u. agrees f v.0 v.2 j lt t u) (λ t u. agrees g v.1 v.3 j lt t u) z v.4 s h

  valued : (φ : Formula) → (z : Row V) × Value o p φ z
  valued F = (_, λ s h. refl)
  valued T = (_, λ s h. refl)
  valued (mark m) = (_, λ s h. refl)
  valued (not f) = let r = valued f in ((λ s. o.opposite (r.0 s)), (r.0, r.1, λ s h. refl))
  valued (EX f) = let r = valued f in (ex o p r.0, (r.0, r.1, λ s h. refl))
  valued (AX f) = let r = valued f in (ax o p r.0, (r.0, r.1, λ s h. refl))
  valued (and f g) = let r = valued f in let q = valued g in ((λ s. o.meet (r.0 s) (q.0 s)), (r.0, q.0, r.1, q.1, λ s h. refl))
  valued (or f g) = let r = valued f in let q = valued g in ((λ s. o.join (r.0 s) (q.0 s)), (r.0, q.0, r.1, q.1, λ s h. refl))
  valued (until w f g) =
      let r = valued f in let q = valued g in (
        after o (round o p w r.0 q.0) p.stages,
        (r.0, q.0, r.1, q.1, reaches o c p.stages (round o p w r.0 q.0) (steady o c p w r.0 q.0)),
      )

  -- it is a value at each stage
  is_valid : (φ : Formula) (z : Row V) → Value o p φ z → (s : ℕ) → s < p.stages → Valid o (z s)
  is_valid F z v s h = subst (Valid o) (sym (v s h)) c.answers.lowest_valid
  is_valid T z v s h = subst (Valid o) (sym (v s h)) c.answers.highest_valid
  is_valid (mark m) z v s h = subst (Valid o) (sym (v s h)) (c.answers.read_valid _)
  is_valid (not f) z v s h = subst (Valid o) (sym (v.2 s h)) (c.answers.opposite_valid _)
  is_valid (EX f) z v s h = subst (Valid o) (sym (v.2 s h)) (joined_valid o c.answers p.stages _)
  is_valid (AX f) z v s h = subst (Valid o) (sym (v.2 s h)) (c.answers.opposite_valid _)
  is_valid (and f g) z v s h = subst (Valid o) (sym (v.4 s h)) (c.answers.meet_valid _ _)
  is_valid (or f g) z v s h = subst (Valid o) (sym (v.4 s h)) (c.answers.join_valid _ _)
  is_valid (until w f g) z v s h = subst (Valid o) (sym (v.4.solves s h)) (c.answers.join_valid _ _)

-- the value of a formula is a value at each stage
pub value_valid : {V : Type 0} (o : Ops V) → Cutting o → (p : Plan V) (φ : Formula) (z : Row V) → Value o p φ z → (s : ℕ) → s < p.stages → Valid o (z s)
value_valid o c p φ z v s h = is_valid o c p φ z v s h

pub reading_agrees : {V : Type 0} (o : Ops V) → Cutting o → ReadingAgrees o
reading_agrees o c p φ z v j lt s h = agrees o c p φ z v j lt s h

pub value_exists : {V : Type 0} (o : Ops V) → Cutting o → ValueExists o
value_exists o c p φ = valued o c p φ

pub value_once : {V : Type 0} (o : Ops V) → Cutting o → ValueOnce o
value_once o c p φ z w vz vw s h =
    same_by_cuts o c (z s) (w s) (value_valid o c p φ z vz s h) (value_valid o c p φ w vw s h)
    (λ j lt a. (agrees o c p φ w vw j lt s h).1 ((agrees o c p φ z vz j lt s h).0 a))
    (λ j lt a. (agrees o c p φ z vz j lt s h).1 ((agrees o c p φ w vw j lt s h).0 a))
