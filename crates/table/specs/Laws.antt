-- A distributive lattice with opposites is a logic: its cuts are the values that are no join of two others.
use Rattle.std.specs.Prelude.{◌≡◌, ℕ, zero, suc, ◌<◌, ◌≤◌, Bool, true, false, not, ◌&&◌, ◌||◌, ◌⊎◌, ◌==◌, ◌≢◌, nat_eq, nat_lt}
use Rattle.std.proofs.Math.Path.{refl}
use Rattle.std.proofs.Common.{sym, ap, ◌∙◌, subst, arith}
use Rattle.std.proofs.Math.Logic.{inl, inr}
use Rattle.std.proofs.lemmas.Bool.{and_parts, and_cases, or_cases, or_parts, or_left, or_right, cases_eq, cases_Bool, both_ways, and_from, not-true, not-false, eqb-true, eqb-false, eq-eqb, ne_eqb, ltb-true, lt-ltb}
use Rattle.scale.specs.Laws.{Lawful, Counted, Opposed}
use Rattle.scale.proofs.Bools.{same_test, not_not}
use Rattle.orders.specs.Finite.{every, how_many}
use Rattle.orders.specs.Orders.{implies, ordered, latticed, spread, meet_of, join_of, lowest_of, highest_of, irreducible_at, irreducible, cut_count_of, cut_of, ceiling_of, opposed_at, opposing, partner_of}
use Rattle.orders.proofs.Finites.{so, implies_from, every_all, every_from, every_not, pick_is, how_many_before, how_many_most, how_many_less, nth_is, nth_of}
use Rattle.table.specs.Tables.{order_model}
use Rattle.table.specs.Lattices.{Lattice, lattice_from, greatest_is, is_greatest_from}

module _ (n : ℕ) (le : ℕ → ℕ → Bool) (l : Lattice n le) where
  -- what irreducible says
  not_low : (c : ℕ) → irreducible n le c ≡ true → c ≢ lowest_of n le
  unfolding irreducible
  not_low c h e =
      let w = and_parts (not (c == lowest_of n le)) (every n (λ a. every n (λ b. irreducible_at n le c a b))) h in
      both_ways (not (c == lowest_of n le)) (ap not (eq-eqb c (lowest_of n le) e)) w.0

  one_part : (c a b : ℕ) → irreducible n le c ≡ true → a < n → b < n → join_of n le a b ≡ c → (a ≡ c) ⊎ (b ≡ c)
  unfolding irreducible
  one_part c a b h ha hb e =
      let w = and_parts (not (c == lowest_of n le)) (every n (λ a. every n (λ b. irreducible_at n le c a b))) h in
      let t = every_all (λ b. irreducible_at n le c a b) n (every_all (λ a. every n (λ b. irreducible_at n le c a b)) n w.1 a ha) b hb in
      elim (or_cases (a == c) (b == c) (so (join_of n le a b == c) (a == c || b == c) t (eq-eqb (join_of n le a b) c e))) [
        | inl y ↦ inl (eqb-true a c y)
        | inr y ↦ inr (eqb-true b c y)
      ]

  -- a value that is not irreducible is lowest, or the join of two others
  parts : (v : ℕ) → irreducible n le v ≡ false → (v ≡ lowest_of n le) ⊎ ((a : ℕ) × (b : ℕ) × (a < n) × (b < n) × (join_of n le a b ≡ v) × (a ≢ v) × (b ≢ v))
  unfolding irreducible
  parts v h =
      elim (and_cases (not (v == lowest_of n le)) (every n (λ a. every n (λ b. irreducible_at n le v a b))) h) [
        | inl e ↦ inl (eqb-true v (lowest_of n le) (not-false (v == lowest_of n le) e))
        | inr e ↦
            let x = every_not (λ a. every n (λ b. irreducible_at n le v a b)) n e in
            let a = x.0 in
            let y = every_not (λ b. irreducible_at n le v a b) n x.2 in
            let b = y.0 in
            let z = or_parts (not (join_of n le a b == v)) (a == v || b == v) y.2 in
            let o = or_parts (a == v) (b == v) z.1 in
            inr (a, b, x.1, y.1, eqb-true (join_of n le a b) v (not-false (join_of n le a b == v) z.0), eqb-false a v o.0, eqb-false b v o.1)
      ]

  -- an irreducible value at or below a join is at or below one of the two
  prime : (c a b : ℕ) → irreducible n le c ≡ true → c < n → a < n → b < n → le c (join_of n le a b) ≡ true → (le c a ≡ true) ⊎ (le c b ≡ true)
  prime c a b w hc ha hb h =
      let meet = meet_of n le in
      let join = join_of n le in
      let j = l.join_less a b ha hb in
      let e : meet c (join a b) ≡ c =
      l.anti (meet c (join a b)) c (l.meet_less c (join a b) hc j) hc (l.meet_first c (join a b) hc j) (l.meet_most c (join a b) c hc j hc (l.same c hc) h) in
      let f : join (meet c a) (meet c b) ≡ c = sym (l.spreads c a b hc ha hb) ∙ e in
      elim (one_part c (meet c a) (meet c b) w (l.meet_less c a hc ha) (l.meet_less c b hc hb) f) [
        | inl q ↦ inl (subst (λ x. le x a ≡ true) q (l.meet_second c a hc ha))
        | inr q ↦ inr (subst (λ x. le x b ≡ true) q (l.meet_second c b hc hb))
      ]

  low_only : (c : ℕ) → c < n → le c (lowest_of n le) ≡ true → c ≡ lowest_of n le
  low_only c h t = l.anti c (lowest_of n le) h l.low_less t (l.low_le c h)

  cut_not_low : (c : ℕ) → irreducible n le c ≡ true → c < n → le c (lowest_of n le) ≡ false
  cut_not_low c w h = elim (cases_Bool (le c (lowest_of n le))) [ inl t ↦ absurd (not_low c w (low_only c h t)) | inr t ↦ t ]

  -- fewer values are at or below a lower one
  fewer_below : (a u : ℕ) → a < n → u < n → le a u ≡ true → (a ≢ u) → how_many n (λ x. le x a) < how_many n (λ x. le x u)
  fewer_below a u ha hu h ne =
      how_many_less (λ x. le x a) (λ x. le x u) n u (λ i hi k. l.through i a u hi ha hu k h) hu
      (elim (cases_Bool (le u a)) [ inl t ↦ absurd (ne (l.anti a u ha hu h t)) | inr t ↦ t ])
      (l.same u hu)

  -- the irreducible values tell the order
  tells : (k u v : ℕ) → how_many n (λ x. le x u) ≤ k → u < n → v < n → ((c : ℕ) → c < n → irreducible n le c ≡ true → le c u ≡ true → le c v ≡ true) → le u v ≡ true
  tells zero u v h hu hv f = absurd (omega (arith, how_many_before (λ x. le x u) n u hu (l.same u hu)))
  tells (suc k) u v h hu hv f =
      elim (cases_Bool (irreducible n le u)) [
        | inl w ↦ f u hu w (l.same u hu)
        | inr w ↦
            elim (parts u w) [
              | inl e ↦ ap (λ x. le x v) e ∙ l.low_le v hv
              | inr p ↦
                  let a = p.0 in
                  let b = p.1 in
                  let ha = p.2 in
                  let hb = p.3 in
                  let au : le a u ≡ true = subst (λ x. le a x ≡ true) p.4 (l.join_first a b ha hb) in
                  let bu : le b u ≡ true = subst (λ x. le b x ≡ true) p.4 (l.join_second a b ha hb) in
                  let av = tells k a v (omega (arith, fewer_below a u ha hu au p.5)) ha hv (λ c hc w t. f c hc w (l.through c a u hc ha hu t au)) in
                  let bv = tells k b v (omega (arith, fewer_below b u hb hu bu p.6)) hb hv (λ c hc w t. f c hc w (l.through c b u hc hb hu t bu)) in
                  subst (λ x. le x v ≡ true) p.4 (l.join_least a b v ha hb hv av bv)
            ]
      ]

  -- the join of the values below k that c is not at or below
  clear : (c : ℕ) → irreducible n le c ≡ true → c < n → (k : ℕ) → k ≤ n → (m : ℕ) × (m < n) × (le c m ≡ false) × ((v : ℕ) → v < k → le c v ≡ false → le v m ≡ true)
  clear c w hc zero h = (lowest_of n le, l.low_less, cut_not_low c w hc, λ v g e. absurd (omega arith))
  clear c w hc (suc k) h =
      let r = clear c w hc k (omega arith) in
      let m = r.0 in
      let hm = r.1 in
      elim (cases_Bool (le c k)) [
        | inl t ↦ (
          m,
          hm,
          r.2,
          λ v g e. elim (cases_eq v k) [ inl q ↦ absurd (both_ways (le c k) (sym (ap (le c) q) ∙ e) t) | inr q ↦ r.3 v (omega arith) e ],
        )
        | inr t ↦
            let j = join_of n le m k in
            let hj = l.join_less m k hm h in (
              j,
              hj,
              elim (cases_Bool (le c j)) [
                | inl y ↦ elim (prime c m k w hc hm h y) [ inl z ↦ absurd (both_ways (le c m) r.2 z) | inr z ↦ absurd (both_ways (le c k) t z) ]
                | inr y ↦ y
              ],
              λ v g e.
                  elim (cases_eq v k) [
                    | inl q ↦ ap (λ x. le x j) q ∙ l.join_second m k hm h
                    | inr q ↦ l.through v m j (omega arith) hm hj (r.3 v (omega arith) e) (l.join_first m k hm h)
                  ],
            )
      ]

  -- the ceiling of an irreducible value
  ceiling_is : (c : ℕ) → irreducible n le c ≡ true → c < n → (ceiling_of n le c < n) × (le c (ceiling_of n le c) ≡ false) × ((v : ℕ) → v < n → le c v ≡ false → le v (ceiling_of n le c) ≡ true)
  unfolding ceiling_of
  ceiling_is c w hc =
      let r = clear c w hc n (omega arith) in
      let P : ℕ → Bool = λ v. not (le c v) in
      let g = greatest_is n le P r.0 r.1 (is_greatest_from n le P r.0 (ap not r.2) (λ x hx p. r.3 x hx (not-true (le c x) p))) in
      (g.0, not-true _ g.1, λ v h e. g.2 v h (ap not e))

  ceiling_tells : (c v : ℕ) → irreducible n le c ≡ true → c < n → v < n → le v (ceiling_of n le c) ≡ not (le c v)
  ceiling_tells c v w hc hv =
      let g = ceiling_is c w hc in
      let m = ceiling_of n le c in
      same_test (le v m) (not (le c v))
      (λ t. elim (cases_Bool (le c v)) [ inl e ↦ absurd (both_ways (le c m) g.1 (l.through c v m hc hv g.0 e t)) | inr e ↦ ap not e ])
      (λ t. g.2 v hv (not-true (le c v) t))

  -- the cuts
  cut_is : (j : ℕ) → j < cut_count_of n le → (cut_of n le j < n) × (irreducible n le (cut_of n le j) ≡ true) × (how_many (cut_of n le j) (irreducible n le) ≡ j)
  unfolding cut_of cut_count_of
  cut_is j h = nth_is (irreducible n le) n j h

  cut_at : (c : ℕ) → c < n → irreducible n le c ≡ true → (how_many c (irreducible n le) < cut_count_of n le) × (cut_of n le (how_many c (irreducible n le)) ≡ c)
  unfolding cut_of cut_count_of
  cut_at c h w = (how_many_before (irreducible n le) n c h w, nth_of (irreducible n le) n c h w)

  fewer_cuts : cut_count_of n le < n
  unfolding cut_count_of
  fewer_cuts =
      let low = lowest_of n le in
      let z : irreducible n le low ≡ false = elim (cases_Bool (irreducible n le low)) [ inl t ↦ absurd (not_low low t refl) | inr t ↦ t ] in
      omega (arith, how_many_less (irreducible n le) (λ x. true) n low (λ i h k. refl) l.low_less z refl, how_many_most (λ x. true) n)

  counted : Counted (order_model n le)
  counted = record {
    fewer = fewer_cuts;
    cut_valid = λ j h. lt-ltb (cut_of n le j) n (cut_is j h).0;
    ceiling_valid = λ j h. let w = cut_is j h in lt-ltb (ceiling_of n le (cut_of n le j)) n (ceiling_is (cut_of n le j) w.1 w.0).0;
    cut_low = λ j h. let w = cut_is j h in cut_not_low (cut_of n le j) w.1 w.0;
    cut_once = λ i j hi hj e. sym (cut_is i hi).2 ∙ ap (λ x. how_many x (irreducible n le)) e ∙ (cut_is j hj).2;
    cut_join = λ j u v h p q.
        let c = cut_of n le j in
        let w = cut_is j h in
        let hu = ltb-true u n p in
        let hv = ltb-true v n q in
        let x = join_of n le u v in
        same_test (le c x) (le c u || le c v)
        (λ t. elim (prime c u v w.1 w.0 hu hv t) [ inl y ↦ or_left (le c u) (le c v) y | inr y ↦ or_right (le c u) (le c v) y ])
        (λ t.
        elim (or_cases (le c u) (le c v) t) [
          | inl y ↦ l.through c u x w.0 hu (l.join_less u v hu hv) y (l.join_first u v hu hv)
          | inr y ↦ l.through c v x w.0 hv (l.join_less u v hu hv) y (l.join_second u v hu hv)
        ]);
    cut_tells = λ u v p q f.
        tells (how_many n (λ x. le x u)) u v (omega arith) (ltb-true u n p) (ltb-true v n q)
        (λ c hc w t. let e = cut_at c hc w in subst (λ x. le x v ≡ true) e.1 (f (how_many c (irreducible n le)) e.0 (ap (λ x. le x u) e.1 ∙ t)));
    cut_ceiling = λ j v h p. let w = cut_is j h in ceiling_tells (cut_of n le j) v w.1 w.0 (ltb-true v n p);
    value_valid = λ k h. lt-ltb k n h;
    number_less = λ v p. ltb-true v n p;
    value_number = λ v p. refl;
    number_value = λ k h. refl;
  }

  differ : le (highest_of n le) (lowest_of n le) ≡ false
  differ =
      let high = highest_of n le in
      let low = lowest_of n le in
      elim (cases_Bool (le high low)) [
        | inl t ↦
            let h0 : 0 < n = omega (arith, l.least) in
            let h1 : 1 < n = omega (arith, l.least) in
            let one : (v : ℕ) → v < n → v ≡ low = λ v h. low_only v h (l.through v high low h l.high_less l.low_less (l.le_high v h) t) in
            absurd (omega (arith, one 0 h0, one 1 h1))
        | inr t ↦ t
      ]

  lawful : n ≤ 16 → Lawful (order_model n le)
  lawful most = record {
    low = lt-ltb (lowest_of n le) n l.low_less;
    high = lt-ltb (highest_of n le) n l.high_less;
    differ = differ;
    low_le = λ v p. l.low_le v (ltb-true v n p);
    le_high = λ v p. l.le_high v (ltb-true v n p);
    same = λ v p. l.same v (ltb-true v n p);
    through = λ u v w p q r h k. l.through u v w (ltb-true u n p) (ltb-true v n q) (ltb-true w n r) h k;
    anti = λ u v p q h k. l.anti u v (ltb-true u n p) (ltb-true v n q) h k;
    meet_valid = λ u v p q. lt-ltb (meet_of n le u v) n (l.meet_less u v (ltb-true u n p) (ltb-true v n q));
    meet_first = λ u v p q. l.meet_first u v (ltb-true u n p) (ltb-true v n q);
    meet_second = λ u v p q. l.meet_second u v (ltb-true u n p) (ltb-true v n q);
    meet_most = λ u v w p q r h k. l.meet_most u v w (ltb-true u n p) (ltb-true v n q) (ltb-true w n r) h k;
    join_valid = λ u v p q. lt-ltb (join_of n le u v) n (l.join_less u v (ltb-true u n p) (ltb-true v n q));
    join_first = λ u v p q. l.join_first u v (ltb-true u n p) (ltb-true v n q);
    join_second = λ u v p q. l.join_second u v (ltb-true u n p) (ltb-true v n q);
    join_least = λ u v w p q r h k. l.join_least u v w (ltb-true u n p) (ltb-true v n q) (ltb-true w n r) h k;
    spreads = λ u v w p q r. l.spreads u v w (ltb-true u n p) (ltb-true v n q) (ltb-true w n r);
    at_least = l.least;
    at_most = omega arith;
    no_cuts = λ e. absurd (omega arith);
    counted = λ h. counted;
  }

  module _ (opp : ℕ → ℕ) (x : opposing n le opp ≡ true) where
    opposed_is : (v w : ℕ) → v < n → w < n → opposed_at n le opp v w ≡ true
    unfolding opposing
    opposed_is v w hv hw = every_all (λ w. opposed_at n le opp v w) n (every_all (λ v. every n (λ w. opposed_at n le opp v w)) n x v hv) w hw

    less : (v : ℕ) → v < n → opp v < n
    less v h =
        let p = and_parts (nat_lt (opp v) n && opp (opp v) == v) (implies (le v v) (le (opp v) (opp v))) (opposed_is v v h h) in
        ltb-true (opp v) n (and_parts (nat_lt (opp v) n) (opp (opp v) == v) p.0).0

    twice : (v : ℕ) → v < n → opp (opp v) ≡ v
    twice v h =
        let p = and_parts (nat_lt (opp v) n && opp (opp v) == v) (implies (le v v) (le (opp v) (opp v))) (opposed_is v v h h) in
        eqb-true (opp (opp v)) v (and_parts (nat_lt (opp v) n) (opp (opp v) == v) p.0).1

    reverses : (v w : ℕ) → v < n → w < n → le v w ≡ true → le (opp w) (opp v) ≡ true
    reverses v w hv hw t =
        so (le v w) (le (opp w) (opp v)) (and_parts (nat_lt (opp v) n && opp (opp v) == v) (implies (le v w) (le (opp w) (opp v))) (opposed_is v w hv hw)).1 t

    turns : (u v : ℕ) → u < n → v < n → le (opp v) (opp u) ≡ le u v
    turns u v hu hv =
        same_test (le (opp v) (opp u)) (le u v)
        (λ t. ap (λ y. le y v) (sym (twice u hu)) ∙ ap (le (opp (opp u))) (sym (twice v hv)) ∙ reverses (opp v) (opp u) (less v hv) (less u hu) t)
        (reverses u v hu hv)

    module _ (c : ℕ) (w : irreducible n le c ≡ true) (hc : c < n) where
      -- d, the opposite of c's ceiling: at or below v exactly when c is not at or below the opposite of v
      facing_less : opp (ceiling_of n le c) < n
      facing_less = less (ceiling_of n le c) (ceiling_is c w hc).0

      facing : (v : ℕ) → v < n → le (opp (ceiling_of n le c)) v ≡ not (le c (opp v))
      facing v hv =
          let m = ceiling_of n le c in
          ap (le (opp m)) (sym (twice v hv)) ∙ turns (opp v) m (less v hv) (ceiling_is c w hc).0 ∙ ceiling_tells c (opp v) w hc (less v hv)

      facing_low : opp (ceiling_of n le c) ≡ lowest_of n le → ⊥
      facing_low e =
          let m = ceiling_of n le c in
          let up : le c m ≡ true = sym (turns c m hc (ceiling_is c w hc).0) ∙ ap (λ y. le y (opp c)) e ∙ l.low_le (opp c) (less c hc) in
          both_ways (le c m) (ceiling_is c w hc).1 up

      -- d is no join of two others
      facing_one : (a b : ℕ) → a < n → b < n → join_of n le a b ≡ opp (ceiling_of n le c) → (a ≡ opp (ceiling_of n le c)) ⊎ (b ≡ opp (ceiling_of n le c))
      facing_one a b ha hb e =
          let d = opp (ceiling_of n le c) in
          let hd = facing_less in
          let ad : le a d ≡ true = subst (λ y. le a y ≡ true) e (l.join_first a b ha hb) in
          let bd : le b d ≡ true = subst (λ y. le b y ≡ true) e (l.join_second a b ha hb) in
          elim (cases_Bool (le d a)) [
            | inl y ↦ inl (l.anti a d ha hd ad y)
            | inr y ↦
                elim (cases_Bool (le d b)) [
                  | inl z ↦ inr (l.anti b d hb hd bd z)
                  | inr z ↦
                      let ca : le c (opp a) ≡ true = not-false (le c (opp a)) (sym (facing a ha) ∙ y) in
                      let cb : le c (opp b) ≡ true = not-false (le c (opp b)) (sym (facing b hb) ∙ z) in
                      let ac : le a (opp c) ≡ true = ap (λ y. le y (opp c)) (sym (twice a ha)) ∙ reverses c (opp a) hc (less a ha) ca in
                      let bc : le b (opp c) ≡ true = ap (λ y. le y (opp c)) (sym (twice b hb)) ∙ reverses c (opp b) hc (less b hb) cb in
                      let dc : le d (opp c) ≡ true = subst (λ y. le y (opp c) ≡ true) e (l.join_least a b (opp c) ha hb (less c hc) ac bc) in
                      let cd : le c (opp d) ≡ true = ap (λ y. le y (opp d)) (sym (twice c hc)) ∙ reverses d (opp c) hd (less c hc) dc in
                      absurd (both_ways (le d d) (facing d hd ∙ ap not cd) (l.same d hd))
                ]
          ]

      facing_irreducible : irreducible n le (opp (ceiling_of n le c)) ≡ true
      unfolding irreducible
      facing_irreducible =
          let d = opp (ceiling_of n le c) in
          and_from (not (d == lowest_of n le)) (every n (λ a. every n (λ b. irreducible_at n le d a b))) (ap not (ne_eqb d (lowest_of n le) facing_low))
          (every_from (λ a. every n (λ b. irreducible_at n le d a b)) n
          (λ a ha.
          every_from (λ b. irreducible_at n le d a b) n
          (λ b hb.
          implies_from (join_of n le a b == d) (a == d || b == d)
          (λ y.
          elim (facing_one a b ha hb (eqb-true (join_of n le a b) d y)) [
            | inl z ↦ or_left (a == d) (b == d) (eq-eqb a d z)
            | inr z ↦ or_right (a == d) (b == d) (eq-eqb b d z)
          ]))))

    -- the partner of cut j is the cut that is the opposite of its ceiling
    partner_is : (j : ℕ) → j < cut_count_of n le → (partner_of n le opp j < cut_count_of n le) × (cut_of n le (partner_of n le opp j) ≡ opp (ceiling_of n le (cut_of n le j)))
    unfolding partner_of
    partner_is j h =
        let c = cut_of n le j in
        let w = cut_is j h in
        let d = opp (ceiling_of n le c) in
        let a = cut_at d (facing_less c w.1 w.0) (facing_irreducible c w.1 w.0) in
        let p = pick_is (λ i. nat_eq (cut_of n le i) d) (cut_count_of n le) (how_many d (irreducible n le)) a.0 (eq-eqb (cut_of n le (how_many d (irreducible n le))) d a.1) in
        (p.0, eqb-true _ d p.1)

    opposed : Opposed (order_model n le) opp (partner_of n le opp)
    opposed = record {
      opposite_valid = λ v p. lt-ltb (opp v) n (less v (ltb-true v n p));
      twice = λ v p. twice v (ltb-true v n p);
      turns = λ u v p q. turns u v (ltb-true u n p) (ltb-true v n q);
      partner_less = λ s j h. (partner_is j h).0;
      cut_opposite = λ s j v h p.
          let w = cut_is j h in
          let c = cut_of n le j in
          sym (not_not (le c (opp v))) ∙ ap not (sym (facing c w.1 w.0 v (ltb-true v n p)) ∙ ap (λ y. le y v) (sym (partner_is j h).1));
    }

-- What the tests of a table make: a logic.
module _ (n : ℕ) (le : ℕ → ℕ → Bool) (least : 2 ≤ n) (most : n ≤ 16) (o : ordered n le ≡ true) (m : latticed n le ≡ true) (d : spread n le ≡ true) where
  pub order_lawful : Lawful (order_model n le)
  order_lawful = lawful n le (lattice_from n le least o m d) most

  pub order_opposed : (opp : ℕ → ℕ) → opposing n le opp ≡ true → Opposed (order_model n le) opp (partner_of n le opp)
  order_opposed opp x = opposed n le (lattice_from n le least o m d) opp x
