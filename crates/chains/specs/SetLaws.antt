-- The sets of k members, 1 to 12, are a scale and a logic: everything is said bit by bit.
use Rattle.std.specs.Prelude.{◌≡◌, ℕ, zero, suc, ◌-◌, ◌/◌, ◌%◌, ◌^◌, ◌<◌, ◌≤◌, min, max, Bool, true, false, not, ◌&&◌, ◌||◌, ◌==◌, nat_eq, refl}
use Rattle.std.proofs.Common.{sym, ap, ◌∙◌, subst, inl, inr, mul_comm, pow-suc, div-one, arith, pow_pos, pow_mono}
use Rattle.std.proofs.Math.Nat.{div-div-eq-div-mul}
use Rattle.std.specs.Int.Bits.{bit_and, bit_or, and_step, or_step, and_lt, and_zero_l, and_zero_r, and_self}
use Rattle.std.proofs.lemmas.Nat.{and_shr, or_shr, or_lt, and_comm}
use Rattle.std.proofs.Math.Pow.{pow-lt}
use Rattle.std.proofs.lemmas.Bool.Decides.{nat_tests}
use Rattle.std.proofs.lemmas.Bool.{and_parts, and_from, or_cases, or_right, cases_Bool, both_ways, eqb-true, eq-eqb, ne_eqb, ltb-true, lt-ltb, not-true}
use Rattle.scale.specs.Laws.{Lawful, Counted, Opposed}
use Rattle.scale.proofs.Bools.{same_test, and_so, and_over_or}
use Rattle.chains.specs.Sets.{sets, sets_opposite, sets_partner}

-- bit j of a number
abbrev pub bit_of : ℕ → ℕ → Bool
bit_of row j = row / 2 ^ j % 2 == 1

-- one bit
odd_min : (p q : ℕ) → p < 2 → q < 2 → (min p q == 1) ≡ (p == 1 && q == 1)
odd_min p q hp hq = grind (arith, nat_tests)

odd_max : (p q : ℕ) → p < 2 → q < 2 → (max p q == 1) ≡ (p == 1 || q == 1)
odd_max p q hp hq = grind (arith, nat_tests)

odd_not : (p : ℕ) → p < 2 → (1 - p == 1) ≡ not (p == 1)
odd_not p hp = grind (arith, nat_tests)

odd_eq : (p q : ℕ) → p < 2 → q < 2 → (p == 1) ≡ (q == 1) → p ≡ q
odd_eq p q hp hq e = grind (arith, nat_tests)

and_odd : (a b : ℕ) → bit_and a b % 2 ≡ min (a % 2) (b % 2)
and_odd a b = let e = and_step a b in omega arith

or_odd : (a b : ℕ) → bit_or a b % 2 ≡ max (a % 2) (b % 2)
or_odd a b = let e = or_step a b in omega arith

pub bit_of_and : (a b j : ℕ) → bit_of (bit_and a b) j ≡ (bit_of a j && bit_of b j)
bit_of_and a b j =
    ap (λ x. nat_eq (x % 2) 1) (and_shr a b j) ∙ ap (λ x. nat_eq x 1) (and_odd (a / 2 ^ j) (b / 2 ^ j)) ∙ odd_min (a / 2 ^ j % 2) (b / 2 ^ j % 2) (omega arith) (omega arith)

pub bit_of_or : (a b j : ℕ) → bit_of (bit_or a b) j ≡ (bit_of a j || bit_of b j)
bit_of_or a b j =
    ap (λ x. nat_eq (x % 2) 1) (or_shr a b j) ∙ ap (λ x. nat_eq x 1) (or_odd (a / 2 ^ j) (b / 2 ^ j)) ∙ odd_max (a / 2 ^ j % 2) (b / 2 ^ j % 2) (omega arith) (omega arith)

half_bit : (u j : ℕ) → bit_of (u / 2) j ≡ bit_of u (suc j)
half_bit u j = ap (λ x. nat_eq (x % 2) 1) (div-div-eq-div-mul u 2 (2 ^ j) ∙ ap (λ x. u / x) (mul_comm 2 (2 ^ j) ∙ sym (pow-suc 2 j)))

zero_bit : (u : ℕ) → bit_of u 0 ≡ (u % 2 == 1)
zero_bit u = ap (λ x. nat_eq (x % 2) 1) (div-one u)

no_bit : (j : ℕ) → bit_of 0 j ≡ false
no_bit zero = refl
no_bit (suc j) = sym (half_bit 0 j) ∙ no_bit j

ext : (k u v : ℕ) → u < 2 ^ k → v < 2 ^ k → ((j : ℕ) → j < k → bit_of u j ≡ bit_of v j) → u ≡ v
ext zero u v hu hv f = omega arith
ext (suc k) u v hu hv f =
    let p = pow-suc 2 k in
    let h : u / 2 ≡ v / 2 = ext k (u / 2) (v / 2) (omega arith) (omega arith) (λ j l. half_bit u j ∙ f (suc j) (omega arith) ∙ sym (half_bit v j)) in
    let o : u % 2 ≡ v % 2 = odd_eq (u % 2) (v % 2) (omega arith) (omega arith) (sym (zero_bit u) ∙ f 0 (omega arith) ∙ zero_bit v) in
    omega arith

flip_bit : (k v j : ℕ) → v < 2 ^ k → j < k → bit_of (2 ^ k - 1 - v) j ≡ not (bit_of v j)
flip_bit zero v j h l = absurd (omega arith)
flip_bit (suc k) v zero h l =
    let p = pow-suc 2 k in
    let e : (2 ^ suc k - 1 - v) % 2 ≡ 1 - v % 2 = omega arith in
    zero_bit (2 ^ suc k - 1 - v) ∙ ap (λ x. nat_eq x 1) e ∙ odd_not (v % 2) (omega arith) ∙ ap not (sym (zero_bit v))
flip_bit (suc k) v (suc j) h l =
    let p = pow-suc 2 k in
    let e : (2 ^ suc k - 1 - v) / 2 ≡ 2 ^ k - 1 - v / 2 = omega arith in
    sym (half_bit (2 ^ suc k - 1 - v) j) ∙ ap (λ x. bit_of x j) e ∙ flip_bit k (v / 2) j (omega arith) (omega arith) ∙ ap not (half_bit v j)

one_bit : (i j : ℕ) → bit_of (2 ^ i) j ≡ (i == j)
one_bit zero zero = refl
one_bit zero (suc j) = sym (half_bit 1 j) ∙ no_bit j ∙ sym (ne_eqb 0 (suc j) (λ e. omega arith))
one_bit (suc i) zero =
    let p = pow-suc 2 i in
    let e : 2 ^ suc i % 2 ≡ 0 = omega arith in
    zero_bit (2 ^ suc i) ∙ ap (λ x. nat_eq x 1) e ∙ sym (ne_eqb (suc i) 0 (λ z. omega arith))
one_bit (suc i) (suc j) =
    let p = pow-suc 2 i in
    let e : 2 ^ suc i / 2 ≡ 2 ^ i = omega arith in
    sym (half_bit (2 ^ suc i) j) ∙ ap (λ x. bit_of x j) e ∙ one_bit i j ∙ same_test (i == j) (suc i == suc j) (λ t. eq-eqb (suc i) (suc j) (ap suc (eqb-true i j t))) (λ t. let q = eqb-true (suc i) (suc j) t in eq-eqb i j (omega arith))

few_pow : (k : ℕ) → k < 2 ^ k
few_pow zero = omega arith
few_pow (suc k) = let p = pow-suc 2 k in let h = few_pow k in omega arith

-- the order, bit by bit
le_to : (u v j : ℕ) → (bit_and u v == u) ≡ true → bit_of u j ≡ true → bit_of v j ≡ true
le_to u v j h b = (and_parts (bit_of u j) (bit_of v j) (sym (bit_of_and u v j) ∙ ap (λ x. bit_of x j) (eqb-true (bit_and u v) u h) ∙ b)).1

module _ (k : ℕ) (least : 1 ≤ k) (most : k ≤ 12) where
  le_from : (u v : ℕ) → u < 2 ^ k → v < 2 ^ k → ((j : ℕ) → j < k → bit_of u j ≡ true → bit_of v j ≡ true) → (bit_and u v == u) ≡ true
  le_from u v hu hv f = eq-eqb (bit_and u v) u (ext k (bit_and u v) u (and_lt k u v hu hv) hu (λ j h. bit_of_and u v j ∙ and_so (bit_of u j) (bit_of v j) (f j h)))

  high_bit : (j : ℕ) → j < k → bit_of (2 ^ k - 1) j ≡ true
  high_bit j h = let e : 2 ^ k - 1 ≡ 2 ^ k - 1 - 0 = omega arith in ap (λ x. bit_of x j) e ∙ flip_bit k 0 j (pow_pos k) h ∙ ap not (no_bit j)

  cut_bit : (j v : ℕ) → j < k → v < 2 ^ k → (bit_and (2 ^ j) v == 2 ^ j) ≡ bit_of v j
  cut_bit j v h hv =
      same_test (bit_and (2 ^ j) v == 2 ^ j) (bit_of v j)
      (λ t. le_to (2 ^ j) v j t (one_bit j j ∙ eq-eqb j j refl))
      (λ t. le_from (2 ^ j) v (pow-lt h) hv (λ i l b. subst (λ x. bit_of v x ≡ true) (eqb-true j i (sym (one_bit j i) ∙ b)) t))

  two : 2 ≤ 2 ^ k
  two = pow_mono {i = 1} {j = k} least

  sets_counted : Counted (sets k)
  sets_counted = record {
    fewer = few_pow k;
    cut_valid = λ j h. lt-ltb (2 ^ j) (2 ^ k) (pow-lt h);
    ceiling_valid = λ j h. lt-ltb (2 ^ k - 1 - 2 ^ j) (2 ^ k) (omega (arith, two));
    cut_low = λ j h. cut_bit j 0 h (pow_pos k) ∙ no_bit j;
    cut_once = λ i j hi hj e. sym (eqb-true j i (sym (one_bit j i) ∙ ap (λ x. bit_of x i) (sym e) ∙ one_bit i i ∙ eq-eqb i i refl));
    cut_join = λ j u v h p q.
        let hu = ltb-true u (2 ^ k) p in
        let hv = ltb-true v (2 ^ k) q in
        cut_bit j (bit_or u v) h (or_lt k u v hu hv) ∙ bit_of_or u v j ∙ ap (λ x. x || bit_of v j) (sym (cut_bit j u h hu)) ∙ ap (λ y. (bit_and (2 ^ j) u == 2 ^ j) || y) (sym (cut_bit j v h hv));
    cut_tells = λ u v p q f.
        let hu = ltb-true u (2 ^ k) p in
        let hv = ltb-true v (2 ^ k) q in
        le_from u v hu hv (λ j h b. sym (cut_bit j v h hv) ∙ f j h (cut_bit j u h hu ∙ b));
    cut_ceiling = λ j v h p.
        let hv = ltb-true v (2 ^ k) p in
        let c = 2 ^ k - 1 - 2 ^ j in
        let hc : 2 ^ k - 1 - 2 ^ j < 2 ^ k = omega (arith, two) in
        same_test (bit_and v c == v) (not (bit_and (2 ^ j) v == 2 ^ j))
        (λ t.
        elim (cases_Bool (bit_of v j)) [
          | inl b ↦ absurd (both_ways (bit_of c j) (flip_bit k (2 ^ j) j (pow-lt h) h ∙ ap not (one_bit j j ∙ eq-eqb j j refl)) (le_to v c j t b))
          | inr b ↦ ap not (cut_bit j v h hv ∙ b)
        ])
        (λ t.
        le_from v c hv hc
        (λ i l b.
        flip_bit k (2 ^ j) i (pow-lt h) l ∙ ap not (one_bit j i)
        ∙ ap not (ne_eqb j i (λ e. both_ways (bit_of v j) (sym (cut_bit j v h hv) ∙ not-true (bit_and (2 ^ j) v == 2 ^ j) t) (ap (bit_of v) e ∙ b)))));
    value_valid = λ n h. lt-ltb n (2 ^ k) h;
    number_less = λ v p. ltb-true v (2 ^ k) p;
    value_number = λ v p. refl;
    number_value = λ n h. refl;
  }

  pub sets_lawful : Lawful (sets k)
  sets_lawful = record {
    low = lt-ltb 0 (2 ^ k) (pow_pos k);
    high = lt-ltb (2 ^ k - 1) (2 ^ k) (omega (arith, two));
    differ = ap (λ x. nat_eq x (2 ^ k - 1)) (and_zero_r (2 ^ k - 1)) ∙ ne_eqb 0 (2 ^ k - 1) (λ e. omega (arith, two));
    low_le = λ v p. eq-eqb (bit_and 0 v) 0 (and_zero_l v);
    le_high = λ v p. le_from v (2 ^ k - 1) (ltb-true v (2 ^ k) p) (omega (arith, two)) (λ j h b. high_bit j h);
    same = λ v p. eq-eqb (bit_and v v) v (and_self v);
    through = λ u v w p q r h l. le_from u w (ltb-true u (2 ^ k) p) (ltb-true w (2 ^ k) r) (λ j i b. le_to v w j l (le_to u v j h b));
    anti = λ u v p q h l. sym (eqb-true (bit_and u v) u h) ∙ and_comm u v ∙ eqb-true (bit_and v u) v l;
    meet_valid = λ u v p q. lt-ltb (bit_and u v) (2 ^ k) (and_lt k u v (ltb-true u (2 ^ k) p) (ltb-true v (2 ^ k) q));
    meet_first = λ u v p q. let hu = ltb-true u (2 ^ k) p in let hv = ltb-true v (2 ^ k) q in le_from (bit_and u v) u (and_lt k u v hu hv) hu (λ j h b. (and_parts (bit_of u j) (bit_of v j) (sym (bit_of_and u v j) ∙ b)).0);
    meet_second = λ u v p q. let hu = ltb-true u (2 ^ k) p in let hv = ltb-true v (2 ^ k) q in le_from (bit_and u v) v (and_lt k u v hu hv) hv (λ j h b. (and_parts (bit_of u j) (bit_of v j) (sym (bit_of_and u v j) ∙ b)).1);
    meet_most = λ u v w p q r h l.
        let hu = ltb-true u (2 ^ k) p in let hv = ltb-true v (2 ^ k) q in
        le_from w (bit_and u v) (ltb-true w (2 ^ k) r) (and_lt k u v hu hv) (λ j i b. bit_of_and u v j ∙ and_from (bit_of u j) (bit_of v j) (le_to w u j h b) (le_to w v j l b));
    join_valid = λ u v p q. lt-ltb (bit_or u v) (2 ^ k) (or_lt k u v (ltb-true u (2 ^ k) p) (ltb-true v (2 ^ k) q));
    join_first = λ u v p q. let hu = ltb-true u (2 ^ k) p in let hv = ltb-true v (2 ^ k) q in le_from u (bit_or u v) hu (or_lt k u v hu hv) (λ j h b. bit_of_or u v j ∙ ap (λ x. x || bit_of v j) b);
    join_second = λ u v p q. let hu = ltb-true u (2 ^ k) p in let hv = ltb-true v (2 ^ k) q in le_from v (bit_or u v) hv (or_lt k u v hu hv) (λ j h b. bit_of_or u v j ∙ or_right (bit_of u j) (bit_of v j) b);
    join_least = λ u v w p q r h l.
        let hu = ltb-true u (2 ^ k) p in let hv = ltb-true v (2 ^ k) q in
        le_from (bit_or u v) w (or_lt k u v hu hv) (ltb-true w (2 ^ k) r)
        (λ j i b. elim (or_cases (bit_of u j) (bit_of v j) (sym (bit_of_or u v j) ∙ b)) [ inl x ↦ le_to u w j h x | inr x ↦ le_to v w j l x ]);
    spreads = λ u v w p q r.
        let hu = ltb-true u (2 ^ k) p in let hv = ltb-true v (2 ^ k) q in let hw = ltb-true w (2 ^ k) r in
        ext k (bit_and u (bit_or v w)) (bit_or (bit_and u v) (bit_and u w)) (and_lt k u (bit_or v w) hu (or_lt k v w hv hw)) (or_lt k (bit_and u v) (bit_and u w) (and_lt k u v hu hv) (and_lt k u w hu hw))
        (λ j h.
        bit_of_and u (bit_or v w) j ∙ ap (λ x. bit_of u j && x) (bit_of_or v w j) ∙ and_over_or (bit_of u j) (bit_of v j) (bit_of w j)
        ∙ ap (λ x. x || (bit_of u j && bit_of w j)) (sym (bit_of_and u v j)) ∙ ap (λ y. bit_of (bit_and u v) j || y) (sym (bit_of_and u w j)) ∙ sym (bit_of_or (bit_and u v) (bit_and u w) j));
    at_least = two;
    at_most = omega (arith, pow_mono {i = k} {j = 12} most);
    no_cuts = λ e. absurd (omega (arith, pow_mono {i = k} {j = 12} most));
    counted = λ h. sets_counted;
  }

  pub sets_opposed : Opposed (sets k) (sets_opposite k) sets_partner
  sets_opposed = record {
    opposite_valid = λ v p. lt-ltb (2 ^ k - 1 - v) (2 ^ k) (omega (arith, two));
    twice = λ v p. omega (arith, ltb-true v (2 ^ k) p);
    turns = λ u v p q.
        let hu = ltb-true u (2 ^ k) p in let hv = ltb-true v (2 ^ k) q in
        let ou : 2 ^ k - 1 - u < 2 ^ k = omega (arith, two) in let ov : 2 ^ k - 1 - v < 2 ^ k = omega (arith, two) in
        same_test (bit_and (2 ^ k - 1 - v) (2 ^ k - 1 - u) == 2 ^ k - 1 - v) (bit_and u v == u)
        (λ t.
        le_from u v hu hv
        (λ j h b.
        elim (cases_Bool (bit_of v j)) [
          | inl y ↦ y
          | inr y ↦ absurd (both_ways (bit_of (2 ^ k - 1 - u) j) (flip_bit k u j hu h ∙ ap not b) (le_to (2 ^ k - 1 - v) (2 ^ k - 1 - u) j t (flip_bit k v j hv h ∙ ap not y)))
        ]))
        (λ t.
        le_from (2 ^ k - 1 - v) (2 ^ k - 1 - u) ov ou
        (λ j h b.
        elim (cases_Bool (bit_of u j)) [
          | inl y ↦ absurd (both_ways (bit_of (2 ^ k - 1 - v) j) (flip_bit k v j hv h ∙ ap not (le_to u v j t y)) b)
          | inr y ↦ flip_bit k u j hu h ∙ ap not y
        ]));
    partner_less = λ s j h. h;
    cut_opposite = λ s j v h p.
        let hv = ltb-true v (2 ^ k) p in
        cut_bit j (2 ^ k - 1 - v) h (omega (arith, two)) ∙ flip_bit k v j hv h ∙ ap not (sym (cut_bit j v h hv));
  }
