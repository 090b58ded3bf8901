-- What a cut carries of each operation, for every pattern.
use Rattle.std.proofs.Common.{◌≡◌, ℕ, zero, suc, ◌<◌, not, ◌||◌, ◌⊎◌, ◌↔◌, sym, ap, ◌∙◌, ap₂, inl, inr, ⊎_elim}
use mathlib.Core.Bool.{false≢true}
use Rattle.std.proofs.lemmas.Bool.{or_cases, or_left, or_right, cases_Bool, not_from_false, not-true}
use Rattle.scale.specs.Model.{Model, Is, read}
use Rattle.scale.specs.Laws.{Lawful, Opposed}
use Rattle.scale.proofs.Readings.{read_is, read_same}
use Rattle.ctl.specs.Operations.{Ops, ops_of, Small, Valid, as_read, Below, Carries}
use Rattle.ctl.specs.Values.{Row, joined}

-- What the operations answer is a value, whatever they are given.
pub record Sound {V : Type 0} (o : Ops V) : Type 0 where
  pub lowest_valid : Valid o o.lowest
  pub highest_valid : Valid o o.highest
  pub meet_valid : (u v : V) → Valid o (o.meet u v)
  pub join_valid : (u v : V) → Valid o (o.join u v)
  pub opposite_valid : (v : V) → Valid o (o.opposite v)
  pub read_valid : (v : V) → Valid o (as_read o v)

pub sound : {V : Type 0} (m : Model V) (opposite : V → V) (partner : ℕ → ℕ) → Lawful m → Opposed m opposite partner → Sound (ops_of m opposite partner)
sound m opposite partner l op = record {
  lowest_valid = l.low;
  highest_valid = l.high;
  meet_valid = λ u v. l.meet_valid (read m u) (read m v) (read_is m l u) (read_is m l v);
  join_valid = λ u v. l.join_valid (read m u) (read m v) (read_is m l u) (read_is m l v);
  opposite_valid = λ v. op.opposite_valid (read m v) (read_is m l v);
  read_valid = read_is m l;
}

pub joined_valid : {V : Type 0} (o : Ops V) → Sound o → (n : ℕ) (x : Row V) → Valid o (joined o n x)
joined_valid o a zero x = a.lowest_valid
joined_valid o a (suc n) x = a.join_valid _ _

-- All that the theorems rest on.
pub record Cutting {V : Type 0} (o : Ops V) : Type 0 where
  pub answers : Sound o
  -- the order, and how the cuts tell it
  pub same : (v : V) → Below o v v
  pub anti : (u v : V) → Valid o u → Valid o v → Below o u v → Below o v u → u ≡ v
  pub through : (j : ℕ) (u v : V) → j < o.cuts → Carries o j u → Below o u v → Carries o j v
  pub tells : (u v : V) → ((j : ℕ) → j < o.cuts → Carries o j u → Carries o j v) → Below o u v
  -- what a cut carries
  pub no_lowest : (j : ℕ) → j < o.cuts → Carries o j o.lowest → ⊥
  pub all_highest : (j : ℕ) → j < o.cuts → Carries o j o.highest
  pub meet_both : (j : ℕ) (u v : V) → j < o.cuts → Carries o j (o.meet u v) ↔ (Carries o j u × Carries o j v)
  pub join_either : (j : ℕ) (u v : V) → j < o.cuts → Carries o j (o.join u v) ↔ (Carries o j u ⊎ Carries o j v)
  pub read_both : (j : ℕ) (v : V) → Carries o j (as_read o v) ↔ Carries o j v
  pub opposite_fails : (j : ℕ) (v : V) → j < o.cuts → Carries o j (o.opposite v) ↔ (Carries o (o.partner j) v → ⊥)
  pub partner_less : (j : ℕ) → j < o.cuts → o.partner j < o.cuts
  pub partner_twice : (j : ℕ) → j < o.cuts → o.partner (o.partner j) ≡ j

-- carried or not
pub decided : {V : Type 0} (o : Ops V) (j : ℕ) (v : V) → Carries o j v ⊎ (Carries o j v → ⊥)
decided o j v = ⊎_elim (λ e. inl e) (λ e. inr (λ h. false≢true (sym e ∙ h))) (cases_Bool (o.leq (o.cut j) v))

module _ {V : Type 0} (m : Model V) (opposite : V → V) (partner : ℕ → ℕ) (l : Lawful m) (op : Opposed m opposite partner) (small : Small m) where
  abbrev ops : Ops V
  ops = ops_of m opposite partner

  is : (v : V) → Is m (read m v)
  is v = read_is m l v

  -- a value, read once more
  again : (v : V) → Is m v → read m v ≡ v
  again v h = read_same m l v h

  module _ (j : ℕ) (lt : j < m.cuts) where
    valid : Is m (m.cut j)
    valid = (l.counted small).cut_valid j lt

    -- what the cut carries, by the order of values
    of_pattern : (v : V) → m.leq (read m (m.cut j)) (read m v) ≡ m.leq (m.cut j) (read m v)
    of_pattern v = ap (λ c. m.leq c (read m v)) (again (m.cut j) valid)

    of_value : (v : V) → Is m v → m.leq (read m (m.cut j)) (read m v) ≡ m.leq (m.cut j) v
    of_value v h = of_pattern v ∙ ap (m.leq (m.cut j)) (again v h)

    both : (u v : V) → Carries ops j (ops.meet u v) ↔ (Carries ops j u × Carries ops j v)
    both u v =
        let x : V = read m u in
        let y : V = read m v in
        let c : V = m.cut j in
        let w : Is m (m.meet x y) = l.meet_valid x y (is u) (is v) in
        let e : m.leq (read m c) (read m (m.meet x y)) ≡ m.leq c (m.meet x y) = of_value (m.meet x y) w in (
          λ h. (
            of_pattern u ∙ l.through c (m.meet x y) x valid w (is u) (sym e ∙ h) (l.meet_first x y (is u) (is v)),
            of_pattern v ∙ l.through c (m.meet x y) y valid w (is v) (sym e ∙ h) (l.meet_second x y (is u) (is v)),
          ),
          λ h. e ∙ l.meet_most x y c (is u) (is v) valid (sym (of_pattern u) ∙ h.0) (sym (of_pattern v) ∙ h.1),
        )

    either : (u v : V) → Carries ops j (ops.join u v) ↔ (Carries ops j u ⊎ Carries ops j v)
    either u v =
        let x : V = read m u in
        let y : V = read m v in
        let c : V = m.cut j in
        let e : m.leq (read m c) (read m (m.join x y)) ≡ (m.leq c x || m.leq c y) =
        of_value (m.join x y) (l.join_valid x y (is u) (is v)) ∙ (l.counted small).cut_join j x y lt (is u) (is v) in (
          λ h. ⊎_elim (λ k. inl (of_pattern u ∙ k)) (λ k. inr (of_pattern v ∙ k)) (or_cases _ _ (sym e ∙ h)),
          λ h. e ∙ ⊎_elim (λ k. or_left _ _ (sym (of_pattern u) ∙ k)) (λ k. or_right _ _ (sym (of_pattern v) ∙ k)) h,
        )

  less : (j : ℕ) → j < m.cuts → partner j < m.cuts
  less j lt = op.partner_less small j lt

  fails : (j : ℕ) (v : V) → j < m.cuts → Carries ops j (ops.opposite v) ↔ (Carries ops (partner j) v → ⊥)
  fails j v lt =
      let x : V = read m v in
      let e : m.leq (read m (m.cut j)) (read m (opposite x)) ≡ not (m.leq (m.cut (partner j)) x) =
      of_value j lt (opposite x) (op.opposite_valid x (is v)) ∙ op.cut_opposite small j x lt (is v) in
      let q : m.leq (read m (m.cut (partner j))) x ≡ m.leq (m.cut (partner j)) x = of_pattern (partner j) (less j lt) v in (
        λ h k. false≢true (sym (not-true _ (sym e ∙ h)) ∙ sym q ∙ k),
        λ h. e ∙ not_from_false _ (⊎_elim (λ k. absurd (h (q ∙ k))) (λ k. k) (cases_Bool (m.leq (m.cut (partner j)) x))),
      )

  module _ (j : ℕ) (lt : j < m.cuts) where
    -- the opposite of the opposite, as it is read
    back : (v : V) → ops.opposite (ops.opposite v) ≡ read m v
    back v = ap opposite (again (opposite (read m v)) (op.opposite_valid (read m v) (is v))) ∙ op.twice (read m v) (is v)

    read_twice : (v : V) → read m (read m v) ≡ read m v
    read_twice v = again (read m v) (is v)

    to_second : (v : V) → Carries ops j v → Carries ops (partner (partner j)) v
    to_second v h =
        let there : Carries ops j (ops.opposite (ops.opposite v)) =
        ap (m.leq (read m (m.cut j))) (ap (read m) (back v) ∙ read_twice v) ∙ h in
        ⊎_elim (λ k. k)
        (λ not_so. absurd ((fails j (ops.opposite v) lt).0 there ((fails (partner j) v (less j lt)).1 not_so)))
        (decided ops (partner (partner j)) v)

    from_second : (v : V) → Carries ops (partner (partner j)) v → Carries ops j v
    from_second v h =
        sym (ap (m.leq (read m (m.cut j))) (ap (read m) (back v) ∙ read_twice v))
        ∙ (fails j (ops.opposite v) lt).1 (λ k. (fails (partner j) v (less j lt)).0 k h)

    second : partner (partner j) ≡ j
    second =
        let i : ℕ = partner (partner j) in
        let il : i < m.cuts = less (partner j) (less j lt) in
        let c : V = m.cut i in
        let d : V = m.cut j in
        let vc : Is m c = valid i il in
        let vd : Is m d = valid j lt in
        (l.counted small).cut_once i j il lt (l.anti c d vc vd
        (sym (of_value i il d vd) ∙ to_second d (of_value j lt d vd ∙ l.same d vd))
        (sym (of_value j lt c vc) ∙ from_second c (of_value i il c vc ∙ l.same c vc)))

  pub cutting : Cutting (ops_of m opposite partner)
  cutting = record {
    answers = sound m opposite partner l op;
    same = λ v. l.same (read m v) (is v);
    anti = λ u v hu hv h k.
        l.anti u v hu hv (sym (ap₂ m.leq (again u hu) (again v hv)) ∙ h) (sym (ap₂ m.leq (again v hv) (again u hu)) ∙ k);
    through = λ j u v lt h k. of_pattern j lt v ∙ l.through (m.cut j) (read m u) (read m v) (valid j lt) (is u) (is v) (sym (of_pattern j lt u) ∙ h) k;
    tells = λ u v all. (l.counted small).cut_tells (read m u) (read m v) (is u) (is v) (λ j lt h. sym (of_pattern j lt v) ∙ all j lt (of_pattern j lt u ∙ h));
    no_lowest = λ j lt h. false≢true (sym ((l.counted small).cut_low j lt) ∙ sym (of_value j lt m.lowest l.low) ∙ h);
    all_highest = λ j lt. of_value j lt m.highest l.high ∙ l.le_high (m.cut j) (valid j lt);
    meet_both = λ j u v lt. both j lt u v;
    join_either = λ j u v lt. either j lt u v;
    read_both = λ j v.
        let e : m.leq (read m (m.cut j)) (read m (read m v)) ≡ m.leq (read m (m.cut j)) (read m v) = ap (m.leq (read m (m.cut j))) (again (read m v) (is v)) in
        (λ h. sym e ∙ h, λ h. e ∙ h);
    opposite_fails = fails;
    partner_less = less;
    partner_twice = second;
  }
