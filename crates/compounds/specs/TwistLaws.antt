-- The twist over a scale is a scale and a logic: it is the pair of the scale and its dual, under other names.
use Rattle.std.specs.Prelude.{◌≡◌, ℕ, ◌+◌, ◌-◌, ◌*◌, ◌<◌, ◌≤◌, Bool, true, false, cond, not, ◌||◌, nat_le, nat_lt, refl}
use Rattle.std.proofs.Common.{sym, ap, ◌∙◌, arith}
use Rattle.std.proofs.lemmas.Bool.{leb-true, lt-ltb, le-ltb, cond-true, cond-false, and_parts}
use Rattle.scale.specs.Model.{Model, Is}
use Rattle.scale.specs.Laws.{Lawful, Counted, Opposed}
use Rattle.scale.proofs.Bools.{not_not, and_comm}
use Rattle.compounds.specs.Pairs.{pair, pair_at}
use Rattle.compounds.specs.Twists.{twist, twist_at, twist_model, twist_opposite, twist_partner}
use Rattle.compounds.specs.PairLaws.{pair_at_lawful, first_tells, second_tells, each, first_few}
use Rattle.compounds.specs.DualLaws.{dual, dual_lawful}
use Rattle.compounds.specs.declared.pair.PairValue.{PairValue}
use Rattle.compounds.specs.declared.twist.TwistValue.{TwistValue}

abbrev there : {V : Type 0} → TwistValue V → PairValue V V
there v = pair v.pro v.con

abbrev back : {V : Type 0} → PairValue V V → TwistValue V
back v = twist v.first v.second

there_cond : {V : Type 0} (t : Bool) (x y : TwistValue V) → there (cond t x y) ≡ cond t (there x) (there y)
there_cond true x y = refl
there_cond false x y = refl

module _ {V : Type 0} (few : Bool) (m : Model V) where
  cut_there : (j : ℕ) → there ((twist_at few m).cut j) ≡ (pair_at few m (dual m)).cut j
  cut_there j = there_cond (nat_lt j m.cuts) (twist (m.cut j) m.highest) (twist m.lowest (m.ceiling (j - m.cuts)))

  ceiling_there : (j : ℕ) → there ((twist_at few m).ceiling j) ≡ (pair_at few m (dual m)).ceiling j
  ceiling_there j = there_cond (nat_lt j m.cuts) (twist (m.ceiling j) m.lowest) (twist m.highest (m.cut (j - m.cuts)))

  cut_le : (j : ℕ) (v : TwistValue V) → (twist_at few m).leq ((twist_at few m).cut j) v ≡ (pair_at few m (dual m)).leq ((pair_at few m (dual m)).cut j) (there v)
  cut_le j v = ap (λ c. (pair_at few m (dual m)).leq c (there v)) (cut_there j)

  moved_counted : Counted (pair_at few m (dual m)) → Counted (twist_at few m)
  moved_counted k = record {
    fewer = k.fewer;
    cut_valid = λ j h. ap (pair_at few m (dual m)).valid (cut_there j) ∙ k.cut_valid j h;
    ceiling_valid = λ j h. ap (pair_at few m (dual m)).valid (ceiling_there j) ∙ k.ceiling_valid j h;
    cut_low = λ j h. cut_le j (twist m.lowest m.highest) ∙ k.cut_low j h;
    cut_once = λ i j h l e. k.cut_once i j h l (sym (cut_there i) ∙ ap there e ∙ cut_there j);
    cut_join = λ j u v h p q.
        cut_le j ((twist_at few m).join u v)
        ∙ k.cut_join j (there u) (there v) h p q
        ∙ ap (λ x. x || (pair_at few m (dual m)).leq ((pair_at few m (dual m)).cut j) (there v)) (sym (cut_le j u))
        ∙ ap (λ y. (twist_at few m).leq ((twist_at few m).cut j) u || y) (sym (cut_le j v));
    cut_tells = λ u v p q f. k.cut_tells (there u) (there v) p q (λ j h e. sym (cut_le j v) ∙ f j h (cut_le j u ∙ e));
    cut_ceiling = λ j v h p.
        ap ((pair_at few m (dual m)).leq (there v)) (ceiling_there j) ∙ k.cut_ceiling j (there v) h p ∙ ap not (sym (cut_le j v));
    value_valid = λ n h. k.value_valid n h;
    number_less = λ v p. k.number_less (there v) p;
    value_number = λ v p. ap back (k.value_number (there v) p);
    number_value = λ n h. k.number_value n h;
  }

  moved : Lawful (pair_at few m (dual m)) → Lawful (twist_at few m)
  moved l = record {
    low = l.low;
    high = l.high;
    differ = l.differ;
    low_le = λ v p. l.low_le (there v) p;
    le_high = λ v p. l.le_high (there v) p;
    same = λ v p. l.same (there v) p;
    through = λ u v w p q r h k. l.through (there u) (there v) (there w) p q r h k;
    anti = λ u v p q h k. ap back (l.anti (there u) (there v) p q h k);
    meet_valid = λ u v p q. l.meet_valid (there u) (there v) p q;
    meet_first = λ u v p q. l.meet_first (there u) (there v) p q;
    meet_second = λ u v p q. l.meet_second (there u) (there v) p q;
    meet_most = λ u v w p q r h k. l.meet_most (there u) (there v) (there w) p q r h k;
    join_valid = λ u v p q. l.join_valid (there u) (there v) p q;
    join_first = λ u v p q. l.join_first (there u) (there v) p q;
    join_second = λ u v p q. l.join_second (there u) (there v) p q;
    join_least = λ u v w p q r h k. l.join_least (there u) (there v) (there w) p q r h k;
    spreads = λ u v w p q r. ap back (l.spreads (there u) (there v) (there w) p q r);
    at_least = l.at_least;
    at_most = l.at_most;
    no_cuts = l.no_cuts;
    counted = λ h. moved_counted (l.counted h);
  }

pub twist_lawful : {V : Type 0} (m : Model V) → Lawful m → Lawful (twist_model m)
twist_lawful m l = moved (nat_le (m.size * m.size) 4096) m (pair_at_lawful (nat_le (m.size * m.size) 4096) m (dual m) l (dual_lawful m l) (leb-true (m.size * m.size) 4096))

first_partner : (h j : ℕ) → j < h → twist_partner h j ≡ h + j
first_partner h j l = cond-true (nat_lt j h) _ _ (lt-ltb j h l)

second_partner : (h k : ℕ) → twist_partner h (h + k) ≡ k
second_partner h k = cond-false (nat_lt (h + k) h) _ _ (le-ltb (h + k) h (omega arith)) ∙ (let e : h + k - h ≡ k = omega arith in e)

module _ {V : Type 0} (m : Model V) (l : Lawful m) where
  partner_within : (few : Bool) → (twist_at few m).size ≤ 4096 → (j : ℕ) → j < (twist_at few m).cuts → twist_partner m.cuts j < (twist_at few m).cuts
  partner_within true k =
      let s = first_few m.size m.size l.at_least k in
      let d = dual_lawful m l in
      each true m (dual m) l d (l.counted s) (d.counted s) (λ j. twist_partner m.cuts j < m.cuts + m.cuts)
      (λ j h. rw (first_partner m.cuts j h) (omega arith))
      (λ j h. rw (second_partner m.cuts j) (omega arith))
  partner_within false k = absurd (omega arith)

  turned : (few : Bool) → (twist_at few m).size ≤ 4096 → (j : ℕ) (v : TwistValue V) → j < (twist_at few m).cuts → Is (twist_at few m) v → (twist_at few m).leq ((twist_at few m).cut j) (twist_opposite v) ≡ not ((twist_at few m).leq ((twist_at few m).cut (twist_partner m.cuts j)) v)
  turned true k j v h p =
      let s = first_few m.size m.size l.at_least k in
      let d = dual_lawful m l in
      let c = l.counted s in
      let e = d.counted s in
      let w = and_parts (m.valid v.pro) (m.valid v.con) p in
      let o = there (twist_opposite v) in
      each true m (dual m) l d c e (λ i. (twist_at true m).leq ((twist_at true m).cut i) (twist_opposite v) ≡ not ((twist_at true m).leq ((twist_at true m).cut (twist_partner m.cuts i)) v))
      (λ i n.
      cut_le true m i (twist_opposite v)
      ∙ first_tells true m (dual m) l d c e i o n w.0
      ∙ sym (not_not (m.leq (m.cut i) v.con))
      ∙ ap not
      (sym (c.cut_ceiling i v.con n w.1)
      ∙ sym (second_tells true m (dual m) l d c e i (there v) w.0)
      ∙ sym (cut_le true m (m.cuts + i) v)
      ∙ ap (λ x. (twist_at true m).leq ((twist_at true m).cut x) v) (sym (first_partner m.cuts i n))))
      (λ i n.
      cut_le true m (m.cuts + i) (twist_opposite v)
      ∙ second_tells true m (dual m) l d c e i o w.1
      ∙ c.cut_ceiling i v.pro n w.0
      ∙ ap not
      (sym (first_tells true m (dual m) l d c e i (there v) n w.1)
      ∙ sym (cut_le true m i v)
      ∙ ap (λ x. (twist_at true m).leq ((twist_at true m).cut x) v) (sym (second_partner m.cuts i))))
      j h
  turned false k j v h p = absurd (omega arith)

  pub twist_opposed : Opposed (twist_model m) twist_opposite (twist_partner m.cuts)
  twist_opposed = record {
    opposite_valid = λ v p. and_comm (m.valid v.con) (m.valid v.pro) ∙ p;
    twice = λ v p. refl;
    turns = λ u v p q. and_comm (m.leq v.con u.con) (m.leq u.pro v.pro);
    partner_less = partner_within (nat_le (m.size * m.size) 4096);
    cut_opposite = turned (nat_le (m.size * m.size) 4096);
  }
