-- What the tests of a relation say: greatest values, meets and joins, and values below and above all.
use Rattle.std.specs.Prelude.{◌≡◌, ℕ, zero, suc, ◌-◌, ◌<◌, ◌≤◌, Bool, true, ◌&&◌, ◌==◌}
use Rattle.std.proofs.Math.Path.{refl}
use Rattle.std.proofs.Common.{ap, ◌∙◌, inl, inr, arith}
use Rattle.std.proofs.lemmas.Bool.{and_parts, and_from, cases_eq, eqb-true}
use Rattle.orders.specs.Finite.{every, some, pick}
use Rattle.orders.specs.Orders.{implies, turned, below_both, order_at, ordered, is_greatest, greatest_of, highest_of, lowest_of, meet_of, join_of, bounded_at, latticed, spread_at, spread}
use Rattle.orders.proofs.Finites.{so, implies_from, every_all, every_from, pick_is, some_is}

module _ (n : ℕ) (le : ℕ → ℕ → Bool) where
  -- where a set has a greatest value, the one that is picked is it
  pub greatest_is : (P : ℕ → Bool) (w : ℕ) → w < n → is_greatest n le P w ≡ true → (greatest_of n le P < n) × (P (greatest_of n le P) ≡ true) × ((x : ℕ) → x < n → P x ≡ true → le x (greatest_of n le P) ≡ true)
  unfolding greatest_of
  greatest_is P w h e =
      let q = pick_is (is_greatest n le P) n w h e in
      let g = pick n (is_greatest n le P) in
      let p = and_parts (P g) (every n (λ x. implies (P x) (le x g))) q.1 in
      (q.0, p.0, λ x hx px. so (P x) (le x g) (every_all (λ x. implies (P x) (le x g)) n p.1 x hx) px)

  pub is_greatest_from : (P : ℕ → Bool) (w : ℕ) → P w ≡ true → ((x : ℕ) → x < n → P x ≡ true → le x w ≡ true) → is_greatest n le P w ≡ true
  is_greatest_from P w p f =
      and_from (P w) (every n (λ x. implies (P x) (le x w))) p
      (every_from (λ x. implies (P x) (le x w)) n (λ x h. implies_from (P x) (le x w) (f x h)))

  pub meet_is : (u v : ℕ) → some n (is_greatest n le (below_both le u v)) ≡ true → (meet_of n le u v < n) × (le (meet_of n le u v) u ≡ true) × (le (meet_of n le u v) v ≡ true) × ((x : ℕ) → x < n → le x u ≡ true → le x v ≡ true → le x (meet_of n le u v) ≡ true)
  unfolding meet_of
  meet_is u v e =
      let s = some_is (is_greatest n le (below_both le u v)) n e in
      let g = greatest_is (below_both le u v) s.0 s.1 s.2 in
      let m = greatest_of n le (below_both le u v) in
      let b = and_parts (le m u) (le m v) g.1 in
      (g.0, b.0, b.1, λ x hx p q. g.2 x hx (and_from (le x u) (le x v) p q))

  -- the value that is at or above all, where there is one
  highest_is : (b : ℕ) → b < n → ((v : ℕ) → v < n → le v b ≡ true) → (highest_of n le < n) × ((v : ℕ) → v < n → le v (highest_of n le) ≡ true)
  unfolding highest_of
  highest_is b h f =
      let g = greatest_is (λ v. true) b h (is_greatest_from (λ v. true) b refl (λ x hx _. f x hx)) in
      (g.0, λ v hv. g.2 v hv refl)

  -- where each two values have a bound above them, all up to k have one
  bound : (f : ℕ → ℕ → ℕ) → ((v : ℕ) → v < n → le v v ≡ true) → ((u v w : ℕ) → u < n → v < n → w < n → le u v ≡ true → le v w ≡ true → le u w ≡ true)
      → ((u v : ℕ) → u < n → v < n → (f u v < n) × (le u (f u v) ≡ true) × (le v (f u v) ≡ true))
      → (k : ℕ) → k < n → (b : ℕ) × (b < n) × ((v : ℕ) → v ≤ k → le v b ≡ true)
  bound f same through over zero h = (0, h, λ v g. let e : v ≡ 0 = omega arith in ap (λ x. le x 0) e ∙ same 0 h)
  bound f same through over (suc k) h =
      let r = bound f same through over k (omega arith) in
      let a = r.0 in
      let o = over a (suc k) r.1 h in (
        f a (suc k),
        o.0,
        λ v g.
            elim (cases_eq v (suc k)) [
              | inl e ↦ ap (λ x. le x (f a (suc k))) e ∙ o.2
              | inr e ↦ through v a (f a (suc k)) (omega arith) r.1 o.0 (r.2 v (omega arith)) o.1
            ],
      )

-- A distributive lattice on the numbers below n.
pub record Lattice (n : ℕ) (le : ℕ → ℕ → Bool) : Type 0 where
  pub least : 2 ≤ n
  pub same : (v : ℕ) → v < n → le v v ≡ true
  pub through : (u v w : ℕ) → u < n → v < n → w < n → le u v ≡ true → le v w ≡ true → le u w ≡ true
  pub anti : (u v : ℕ) → u < n → v < n → le u v ≡ true → le v u ≡ true → u ≡ v
  pub meet_less : (u v : ℕ) → u < n → v < n → meet_of n le u v < n
  pub meet_first : (u v : ℕ) → u < n → v < n → le (meet_of n le u v) u ≡ true
  pub meet_second : (u v : ℕ) → u < n → v < n → le (meet_of n le u v) v ≡ true
  pub meet_most : (u v w : ℕ) → u < n → v < n → w < n → le w u ≡ true → le w v ≡ true → le w (meet_of n le u v) ≡ true
  pub join_less : (u v : ℕ) → u < n → v < n → join_of n le u v < n
  pub join_first : (u v : ℕ) → u < n → v < n → le u (join_of n le u v) ≡ true
  pub join_second : (u v : ℕ) → u < n → v < n → le v (join_of n le u v) ≡ true
  pub join_least : (u v w : ℕ) → u < n → v < n → w < n → le u w ≡ true → le v w ≡ true → le (join_of n le u v) w ≡ true
  pub spreads : (u v w : ℕ) → u < n → v < n → w < n → meet_of n le u (join_of n le v w) ≡ join_of n le (meet_of n le u v) (meet_of n le u w)
  pub low_less : lowest_of n le < n
  pub low_le : (v : ℕ) → v < n → le (lowest_of n le) v ≡ true
  pub high_less : highest_of n le < n
  pub le_high : (v : ℕ) → v < n → le v (highest_of n le) ≡ true

-- The tests make one.
module _ (n : ℕ) (le : ℕ → ℕ → Bool) (least : 2 ≤ n) (o : ordered n le ≡ true) (m : latticed n le ≡ true) (d : spread n le ≡ true) where
  order_is : (u v w : ℕ) → u < n → v < n → w < n → order_at le u v w ≡ true
  unfolding ordered
  order_is u v w hu hv hw =
      every_all (λ w. order_at le u v w) n
      (every_all (λ v. every n (λ w. order_at le u v w)) n (every_all (λ u. every n (λ v. every n (λ w. order_at le u v w))) n o u hu) v hv) w hw

  order_parts : (u v w : ℕ) → u < n → v < n → w < n → (le u u ≡ true) × (implies (le u v && le v u) (u == v) ≡ true) × (implies (le u v && le v w) (le u w) ≡ true)
  order_parts u v w hu hv hw =
      let p = and_parts (le u u) (implies (le u v && le v u) (u == v) && implies (le u v && le v w) (le u w)) (order_is u v w hu hv hw) in
      let q = and_parts (implies (le u v && le v u) (u == v)) (implies (le u v && le v w) (le u w)) p.1 in
      (p.0, q.0, q.1)

  same : (v : ℕ) → v < n → le v v ≡ true
  same v h = (order_parts v v v h h h).0

  through : (u v w : ℕ) → u < n → v < n → w < n → le u v ≡ true → le v w ≡ true → le u w ≡ true
  through u v w hu hv hw x y = so (le u v && le v w) (le u w) (order_parts u v w hu hv hw).2 (and_from (le u v) (le v w) x y)

  bounds : (u v : ℕ) → u < n → v < n → (some n (is_greatest n le (below_both le u v)) ≡ true) × (some n (is_greatest n (turned le) (below_both (turned le) u v)) ≡ true)
  unfolding latticed
  bounds u v hu hv =
      and_parts (some n (is_greatest n le (below_both le u v))) (some n (is_greatest n (turned le) (below_both (turned le) u v)))
      (every_all (λ v. bounded_at n le u v) n (every_all (λ u. every n (λ v. bounded_at n le u v)) n m u hu) v hv)

  met : (u v : ℕ) → u < n → v < n → (meet_of n le u v < n) × (le (meet_of n le u v) u ≡ true) × (le (meet_of n le u v) v ≡ true) × ((x : ℕ) → x < n → le x u ≡ true → le x v ≡ true → le x (meet_of n le u v) ≡ true)
  met u v hu hv = meet_is n le u v (bounds u v hu hv).0

  joins : (u v : ℕ) → u < n → v < n → (join_of n le u v < n) × (le u (join_of n le u v) ≡ true) × (le v (join_of n le u v) ≡ true) × ((x : ℕ) → x < n → le u x ≡ true → le v x ≡ true → le (join_of n le u v) x ≡ true)
  unfolding join_of
  joins u v hu hv = meet_is n (turned le) u v (bounds u v hu hv).1

  high : (highest_of n le < n) × ((v : ℕ) → v < n → le v (highest_of n le) ≡ true)
  high =
      let b = bound n le (join_of n le) same through (λ u v hu hv. let j = joins u v hu hv in (j.0, j.1, j.2)) (n - 1) (omega arith) in
      highest_is n le b.0 b.1 (λ v h. b.2 v (omega arith))

  low : (lowest_of n le < n) × ((v : ℕ) → v < n → le (lowest_of n le) v ≡ true)
  unfolding lowest_of
  low =
      let b = bound n (turned le) (meet_of n le) same (λ u v w hu hv hw x y. through w v u hw hv hu y x) (λ u v hu hv. let j = met u v hu hv in (j.0, j.1, j.2)) (n - 1) (omega arith) in
      highest_is n (turned le) b.0 b.1 (λ v h. b.2 v (omega arith))

  spreads : (u v w : ℕ) → u < n → v < n → w < n → meet_of n le u (join_of n le v w) ≡ join_of n le (meet_of n le u v) (meet_of n le u w)
  unfolding spread
  spreads u v w hu hv hw =
      eqb-true (meet_of n le u (join_of n le v w)) (join_of n le (meet_of n le u v) (meet_of n le u w))
      (every_all (λ w. spread_at n le u v w) n
      (every_all (λ v. every n (λ w. spread_at n le u v w)) n (every_all (λ u. every n (λ v. every n (λ w. spread_at n le u v w))) n d u hu) v hv) w hw)

  pub lattice_from : Lattice n le
  lattice_from = record {
    least = least;
    same = same;
    through = through;
    anti = λ u v hu hv x y. eqb-true u v (so (le u v && le v u) (u == v) (order_parts u v v hu hv hv).1 (and_from (le u v) (le v u) x y));
    meet_less = λ u v hu hv. (met u v hu hv).0;
    meet_first = λ u v hu hv. (met u v hu hv).1;
    meet_second = λ u v hu hv. (met u v hu hv).2;
    meet_most = λ u v w hu hv hw x y. (met u v hu hv).3 w hw x y;
    join_less = λ u v hu hv. (joins u v hu hv).0;
    join_first = λ u v hu hv. (joins u v hu hv).1;
    join_second = λ u v hu hv. (joins u v hu hv).2;
    join_least = λ u v w hu hv hw x y. (joins u v hu hv).3 w hw x y;
    spreads = spreads;
    low_less = low.0;
    low_le = low.1;
    high_less = high.0;
    le_high = high.1;
  }
