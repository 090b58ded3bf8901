-- A scale turned upside down is a scale.
use Rattle.std.specs.Prelude.{◌≡◌, ℕ, ◌-◌, ◌<◌, not, ◌&&◌, ◌||◌}
use Rattle.std.proofs.Common.{sym, ap, ◌∙◌, subst, inl, inr, arith}
use Rattle.std.proofs.lemmas.Bool.{both_ways, cases_Bool, and_from, and_parts}
use Rattle.scale.specs.Model.{Model, Is, Le}
use Rattle.scale.specs.Laws.{Lawful, Counted}
use Rattle.scale.proofs.Bools.{same_test, not_not, not_and}

abbrev pub dual : {V : Type 0} → Model V → Model V
dual m = record {
  valid = m.valid;
  leq = λ u v. m.leq v u;
  meet = m.join;
  join = m.meet;
  lowest = m.highest;
  highest = m.lowest;
  size = m.size;
  cuts = m.cuts;
  cut = m.ceiling;
  ceiling = m.cut;
  value = λ n. m.value (m.size - 1 - n);
  number = λ v. m.size - 1 - m.number v;
}

module _ {V : Type 0} (m : Model V) (l : Lawful m) where
  -- join spreads over meet
  join_spreads : (u v w : V) → Is m u → Is m v → Is m w → m.join u (m.meet v w) ≡ m.meet (m.join u v) (m.join u w)
  join_spreads u v w p q r =
      let vw = l.meet_valid v w q r in
      let uv = l.join_valid u v p q in
      let uw = l.join_valid u w p r in
      let x = l.join_valid u (m.meet v w) p vw in
      let y = l.meet_valid (m.join u v) (m.join u w) uv uw in
      let wu = l.meet_valid w u r p in
      let wv = l.meet_valid w v r q in
      let xu = l.join_first u (m.meet v w) p vw in
      let xvw = l.join_second u (m.meet v w) p vw in
      let up =
      l.join_least u (m.meet v w) (m.meet (m.join u v) (m.join u w)) p vw y
      (l.meet_most (m.join u v) (m.join u w) u uv uw p (l.join_first u v p q) (l.join_first u w p r))
      (l.meet_most (m.join u v) (m.join u w) (m.meet v w) uv uw vw
      (l.through (m.meet v w) v (m.join u v) vw q uv (l.meet_first v w q r) (l.join_second u v p q))
      (l.through (m.meet v w) w (m.join u w) vw r uw (l.meet_second v w q r) (l.join_second u w p r))) in
      -- (u ∨ v) ∧ w is at or below the left side
      let t = l.meet_valid (m.join u v) w uv r in
      let t' = l.meet_valid w (m.join u v) r uv in
      let low1 : Le m (m.meet w (m.join u v)) (m.join u (m.meet v w)) =
      subst (λ z. Le m z (m.join u (m.meet v w))) (sym (l.spreads w u v r p q))
      (l.join_least (m.meet w u) (m.meet w v) (m.join u (m.meet v w)) wu wv x
      (l.through (m.meet w u) u (m.join u (m.meet v w)) wu p x (l.meet_second w u r p) xu)
      (l.through (m.meet w v) (m.meet v w) (m.join u (m.meet v w)) wv vw x
      (l.meet_most v w (m.meet w v) q r wv (l.meet_second w v r q) (l.meet_first w v r q)) xvw)) in
      let low2 : Le m (m.meet (m.join u v) w) (m.join u (m.meet v w)) =
      l.through (m.meet (m.join u v) w) (m.meet w (m.join u v)) (m.join u (m.meet v w)) t t' x
      (l.meet_most w (m.join u v) (m.meet (m.join u v) w) r uv t (l.meet_second (m.join u v) w uv r) (l.meet_first (m.join u v) w uv r)) low1 in
      let tu = l.meet_valid (m.join u v) u uv p in
      let down : Le m (m.meet (m.join u v) (m.join u w)) (m.join u (m.meet v w)) =
      subst (λ z. Le m z (m.join u (m.meet v w))) (sym (l.spreads (m.join u v) u w uv p r))
      (l.join_least (m.meet (m.join u v) u) (m.meet (m.join u v) w) (m.join u (m.meet v w)) tu t x
      (l.through (m.meet (m.join u v) u) u (m.join u (m.meet v w)) tu p x (l.meet_second (m.join u v) u uv p) xu) low2) in
      l.anti (m.join u (m.meet v w)) (m.meet (m.join u v) (m.join u w)) x y up down

  module _ (k : Counted m) where
    -- a cut is at or below a meet exactly when it is at or below both
    cut_meet : (j : ℕ) (u v : V) → j < m.cuts → Is m u → Is m v → m.leq (m.cut j) (m.meet u v) ≡ (m.leq (m.cut j) u && m.leq (m.cut j) v)
    cut_meet j u v h p q =
        let c = k.cut_valid j h in
        let uv = l.meet_valid u v p q in
        same_test (m.leq (m.cut j) (m.meet u v)) (m.leq (m.cut j) u && m.leq (m.cut j) v)
        (λ e.
        and_from (m.leq (m.cut j) u) (m.leq (m.cut j) v)
        (l.through (m.cut j) (m.meet u v) u c uv p e (l.meet_first u v p q))
        (l.through (m.cut j) (m.meet u v) v c uv q e (l.meet_second u v p q)))
        (λ e.
        l.meet_most u v (m.cut j) p q c
        (and_parts (m.leq (m.cut j) u) (m.leq (m.cut j) v) e).0
        (and_parts (m.leq (m.cut j) u) (m.leq (m.cut j) v) e).1)

    -- equal ceilings: the cuts are at or below the same values
    ceiling_le : (i j : ℕ) → i < m.cuts → j < m.cuts → m.ceiling i ≡ m.ceiling j → Le m (m.cut i) (m.cut j)
    ceiling_le i j hi hj e =
        let c = k.cut_valid j hj in
        sym (not_not (m.leq (m.cut i) (m.cut j)))
        ∙ ap not (sym (k.cut_ceiling i (m.cut j) hi c) ∙ ap (m.leq (m.cut j)) e ∙ k.cut_ceiling j (m.cut j) hj c)
        ∙ not_not (m.leq (m.cut j) (m.cut j))
        ∙ l.same (m.cut j) c

    dual_counted : Counted (dual m)
    dual_counted = record {
      fewer = k.fewer;
      cut_valid = k.ceiling_valid;
      ceiling_valid = k.cut_valid;
      cut_low = λ j h. k.cut_ceiling j m.highest h l.high ∙ ap not (l.le_high (m.cut j) (k.cut_valid j h));
      cut_once = λ i j hi hj e. k.cut_once i j hi hj (l.anti (m.cut i) (m.cut j) (k.cut_valid i hi) (k.cut_valid j hj) (ceiling_le i j hi hj e) (ceiling_le j i hj hi (sym e)));
      cut_join = λ j u v h p q.
          k.cut_ceiling j (m.meet u v) h (l.meet_valid u v p q)
          ∙ ap not (cut_meet j u v h p q)
          ∙ not_and (m.leq (m.cut j) u) (m.leq (m.cut j) v)
          ∙ ap (λ x. x || not (m.leq (m.cut j) v)) (sym (k.cut_ceiling j u h p))
          ∙ ap (λ y. m.leq u (m.ceiling j) || y) (sym (k.cut_ceiling j v h q));
      cut_tells = λ u v p q f.
          k.cut_tells v u q p
          (λ j h e.
          elim (cases_Bool (m.leq (m.cut j) u)) [
            | inl t ↦ t
            | inr t ↦
                let under = f j h (k.cut_ceiling j u h p ∙ ap not t) in
                let z = sym (k.cut_ceiling j v h q) ∙ under in
                absurd (both_ways (not (m.leq (m.cut j) v)) (ap not e) z)
          ]);
      cut_ceiling = λ j v h p. sym (not_not (m.leq (m.cut j) v)) ∙ ap not (sym (k.cut_ceiling j v h p));
      value_valid = λ n h. k.value_valid (m.size - 1 - n) (omega arith);
      number_less = λ v p. omega (arith, k.number_less v p);
      value_number = λ v p.
          let e : m.size - 1 - (m.size - 1 - m.number v) ≡ m.number v = omega (arith, k.number_less v p) in
          ap m.value e ∙ k.value_number v p;
      number_value = λ n h.
          let e = k.number_value (m.size - 1 - n) (omega arith) in
          omega (arith, e);
    }

  pub dual_lawful : Lawful (dual m)
  dual_lawful = record {
    low = l.high;
    high = l.low;
    differ = l.differ;
    low_le = l.le_high;
    le_high = l.low_le;
    same = l.same;
    through = λ u v w p q r h k. l.through w v u r q p k h;
    anti = λ u v p q h k. l.anti u v p q k h;
    meet_valid = l.join_valid;
    meet_first = l.join_first;
    meet_second = l.join_second;
    meet_most = l.join_least;
    join_valid = l.meet_valid;
    join_first = l.meet_first;
    join_second = l.meet_second;
    join_least = l.meet_most;
    spreads = join_spreads;
    at_least = l.at_least;
    at_most = l.at_most;
    no_cuts = l.no_cuts;
    counted = λ h. dual_counted (l.counted h);
  }
