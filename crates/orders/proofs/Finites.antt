-- Tests of the numbers below n: what each says.
use Rattle.std.proofs.Common.{◌≡◌, ℕ, zero, suc, ◌+◌, ◌<◌, ◌≤◌, Bool, true, false, cond, ◌&&◌, eqb, ◌⊎◌, sym, refl, ap, ◌∙◌, inl, inr, arith}
use Rattle.std.proofs.lemmas.Bool.{and_parts, and_from, and_cases, cases_eq, cases_lt, cases_Bool, both_ways, eq-eqb, ne_eqb, cond-true, cond-false, and_left, and_right, or_left, or_right, or_from}
use Rattle.orders.specs.Finite.{every, some, pick, how_many, nth}
use Rattle.orders.specs.Orders.{implies, alike}

-- implications of tests
pub so : (x y : Bool) → implies x y ≡ true → x ≡ true → y ≡ true
so true y h e = h
so false y h e = absurd (both_ways false refl e)

pub implies_from : (x y : Bool) → (x ≡ true → y ≡ true) → implies x y ≡ true
implies_from true y f = f refl
implies_from false y f = refl

pub same_from : (x y : Bool) → alike x y ≡ true → x ≡ y
same_from true true h = refl
same_from true false h = sym h
same_from false true h = h
same_from false false h = refl

pub alike_from : (x y : Bool) → x ≡ y → alike x y ≡ true
alike_from true y e = ap (λ b. alike true b) (sym e)
alike_from false y e = ap (λ b. alike false b) (sym e)

module _ (P : ℕ → Bool) where
  pub every_all : (n : ℕ) → every n P ≡ true → (i : ℕ) → i < n → P i ≡ true
  every_all zero h i k = absurd (omega arith)
  every_all (suc n) h i k =
      let w = and_parts (every n P) (P n) h in
      elim (cases_eq i n) [ inl q ↦ ap P q ∙ w.1 | inr q ↦ every_all n w.0 i (omega arith) ]

  pub every_from : (n : ℕ) → ((i : ℕ) → i < n → P i ≡ true) → every n P ≡ true
  every_from zero f = refl
  every_from (suc n) f = and_from (every n P) (P n) (every_from n (λ i h. f i (omega arith))) (f n (omega arith))

  -- a test that fails fails somewhere
  pub every_not : (n : ℕ) → every n P ≡ false → (i : ℕ) × (i < n) × (P i ≡ false)
  every_not zero h = absurd (both_ways true h refl)
  every_not (suc n) h =
      elim (and_cases (every n P) (P n) h) [
        | inl e ↦ let w = every_not n e in (w.0, omega (arith, w.1), w.2)
        | inr e ↦ (n, omega arith, e)
      ]

  -- where there is such a number, it is one
  pub pick_is : (n i : ℕ) → i < n → P i ≡ true → (pick n P < n) × (P (pick n P) ≡ true)
  pick_is zero i h e = absurd (omega arith)
  pick_is (suc n) i h e =
      elim (cases_Bool (P n)) [
        | inl y ↦ let q : pick (suc n) P ≡ n = cond-true (P n) n (pick n P) y in (omega arith, ap P q ∙ y)
        | inr y ↦
            let q : pick (suc n) P ≡ pick n P = cond-false (P n) n (pick n P) y in
            let l : i < n = elim (cases_eq i n) [ inl z ↦ absurd (both_ways (P n) y (sym (ap P z) ∙ e)) | inr z ↦ omega arith ] in
            let w = pick_is n i l e in
            (omega (arith, w.0), ap P q ∙ w.1)
      ]

  pub pick_none : (n : ℕ) → ((i : ℕ) → i < n → P i ≡ false) → pick n P ≡ 0
  pick_none zero f = refl
  pick_none (suc n) f = cond-false (P n) n (pick n P) (f n (omega arith)) ∙ pick_none n (λ i h. f i (omega arith))

  pub some_at : (n i : ℕ) → i < n → P i ≡ true → some n P ≡ true
  some_at zero i h e = absurd (omega arith)
  some_at (suc n) i h e =
      elim (cases_eq i n) [
        | inl q ↦ or_right (some n P) (P n) (sym (ap P q) ∙ e)
        | inr q ↦ or_left (some n P) (P n) (some_at n i (omega arith) e)
      ]

  -- some number passes, or none does
  pub some_or : (n : ℕ) → ((i : ℕ) × (i < n) × (P i ≡ true)) ⊎ ((some n P ≡ false) × ((i : ℕ) → i < n → P i ≡ false))
  some_or zero = inr (refl, λ i h. absurd (omega arith))
  some_or (suc n) =
      elim (cases_Bool (P n)) [
        | inl y ↦ inl (n, omega arith, y)
        | inr y ↦
            elim (some_or n) [
              | inl w ↦ inl (w.0, omega (arith, w.1), w.2)
              | inr w ↦ inr (or_from (some n P) (P n) w.0 y, λ i h. elim (cases_eq i n) [ inl q ↦ ap P q ∙ y | inr q ↦ w.1 i (omega arith) ])
            ]
      ]

  pub pick_less : (n : ℕ) → 0 < n → pick n P < n
  pick_less n h = elim (some_or n) [ inl w ↦ (pick_is n w.0 w.1 w.2).0 | inr w ↦ omega (arith, pick_none n w.1) ]

  -- the number picked passes exactly where some number does
  pub pick_some : (n : ℕ) → 0 < n → P (pick n P) ≡ some n P
  pick_some n h =
      elim (some_or n) [
        | inl w ↦ (pick_is n w.0 w.1 w.2).1 ∙ sym (some_at n w.0 w.1 w.2)
        | inr w ↦ w.1 (pick n P) (omega (arith, pick_none n w.1)) ∙ sym w.0
      ]

  pub some_is : (n : ℕ) → some n P ≡ true → (i : ℕ) × (i < n) × (P i ≡ true)
  some_is n e = elim (some_or n) [ inl w ↦ w | inr w ↦ absurd (both_ways (some n P) w.0 e) ]

  -- counting
  pub how_many_yes : (n : ℕ) → P n ≡ true → how_many (suc n) P ≡ how_many n P + 1
  how_many_yes n e = ap (λ b. how_many n P + cond b 1 0) e

  pub how_many_no : (n : ℕ) → P n ≡ false → how_many (suc n) P ≡ how_many n P
  how_many_no n e = let h : how_many (suc n) P ≡ how_many n P + 0 = ap (λ b. how_many n P + cond b 1 0) e in omega arith

  how_many_step : (n : ℕ) → how_many n P ≤ how_many (suc n) P
  how_many_step n = elim (cases_Bool (P n)) [ inl e ↦ omega (arith, how_many_yes n e) | inr e ↦ omega (arith, how_many_no n e) ]

  pub how_many_most : (n : ℕ) → how_many n P ≤ n
  how_many_most zero = omega arith
  how_many_most (suc n) =
      elim (cases_Bool (P n)) [ inl e ↦ omega (arith, how_many_yes n e, how_many_most n) | inr e ↦ omega (arith, how_many_no n e, how_many_most n) ]

  -- below a number that P holds of there are fewer
  pub how_many_before : (n v : ℕ) → v < n → P v ≡ true → how_many v P < how_many n P
  how_many_before zero v h e = absurd (omega arith)
  how_many_before (suc n) v h e =
      elim (cases_eq v n) [
        | inl q ↦ omega (arith, how_many_yes n (sym (ap P q) ∙ e), ap (λ x. how_many x P) q)
        | inr q ↦ omega (arith, how_many_before n v (omega arith) e, how_many_step n)
      ]

  pub nth_here : (n j : ℕ) → P n ≡ true → j ≡ how_many n P → nth (suc n) P j ≡ n
  nth_here n j e q = cond-true (P n && eqb j (how_many n P)) n (nth n P j) (and_from (P n) (eqb j (how_many n P)) e (eq-eqb j (how_many n P) q))

  pub nth_on : (n j : ℕ) → (j ≡ how_many n P → ⊥) → nth (suc n) P j ≡ nth n P j
  nth_on n j q = cond-false (P n && eqb j (how_many n P)) n (nth n P j) (and_right (P n) (eqb j (how_many n P)) (ne_eqb j (how_many n P) q))

  pub nth_skip : (n j : ℕ) → P n ≡ false → nth (suc n) P j ≡ nth n P j
  nth_skip n j e = cond-false (P n && eqb j (how_many n P)) n (nth n P j) (and_left (P n) (eqb j (how_many n P)) e)

  -- number j is below n, P holds of it, and j numbers come before it
  pub nth_is : (n j : ℕ) → j < how_many n P → (nth n P j < n) × (P (nth n P j) ≡ true) × (how_many (nth n P j) P ≡ j)
  nth_is zero j h = absurd (omega arith)
  nth_is (suc n) j h =
      elim (cases_lt j (how_many n P)) [
        | inl k ↦
            let w = nth_is n j k in
            let e : nth (suc n) P j ≡ nth n P j = nth_on n j (λ q. omega arith) in
            (omega (arith, e, w.0), ap P e ∙ w.1, ap (λ x. how_many x P) e ∙ w.2)
        | inr k ↦
            elim (cases_Bool (P n)) [
              | inl y ↦
                  let q : j ≡ how_many n P = omega (arith, how_many_yes n y) in
                  let e : nth (suc n) P j ≡ n = nth_here n j y q in
                  (omega (arith, e), ap P e ∙ y, ap (λ x. how_many x P) e ∙ sym q)
              | inr y ↦ absurd (omega (arith, how_many_no n y))
            ]
      ]

  -- a number that P holds of has its place
  pub nth_of : (n v : ℕ) → v < n → P v ≡ true → nth n P (how_many v P) ≡ v
  nth_of zero v h e = absurd (omega arith)
  nth_of (suc n) v h e =
      elim (cases_eq v n) [
        | inl q ↦ nth_here n (how_many v P) (sym (ap P q) ∙ e) (ap (λ x. how_many x P) q) ∙ sym q
        | inr q ↦
            let k : v < n = omega arith in
            nth_on n (how_many v P) (λ z. omega (arith, how_many_before n v k e)) ∙ nth_of n v k e
      ]

module _ (P Q : ℕ → Bool) where
  -- tests that agree below n
  pub every_same : (n : ℕ) → ((i : ℕ) → i < n → P i ≡ Q i) → every n P ≡ every n Q
  every_same zero f = refl
  every_same (suc n) f = ap (λ b. b && P n) (every_same n (λ i h. f i (omega arith))) ∙ ap (λ b. every n Q && b) (f n (omega arith))

  pub pick_same : (n : ℕ) → ((i : ℕ) → i < n → P i ≡ Q i) → pick n P ≡ pick n Q
  pick_same zero f = refl
  pick_same (suc n) f = ap (λ b. cond b n (pick n P)) (f n (omega arith)) ∙ ap (λ x. cond (Q n) n x) (pick_same n (λ i h. f i (omega arith)))

  -- P holds of no more numbers than Q, and of fewer where Q holds of one more
  how_many_le : (n : ℕ) → ((i : ℕ) → i < n → P i ≡ true → Q i ≡ true) → how_many n P ≤ how_many n Q
  how_many_le zero f = omega arith
  how_many_le (suc n) f =
      let h = how_many_le n (λ i k. f i (omega arith)) in
      elim (cases_Bool (P n)) [
        | inl e ↦ omega (arith, how_many_yes P n e, how_many_yes Q n (f n (omega arith) e))
        | inr e ↦ omega (arith, how_many_no P n e, how_many_step Q n)
      ]

  pub how_many_less : (n j : ℕ) → ((i : ℕ) → i < n → P i ≡ true → Q i ≡ true) → j < n → P j ≡ false → Q j ≡ true → how_many n P < how_many n Q
  how_many_less zero j f h p q = absurd (omega arith)
  how_many_less (suc n) j f h p q =
      elim (cases_eq j n) [
        | inl e ↦
            let k = how_many_le n (λ i k. f i (omega arith)) in
            omega (arith, how_many_no P n (sym (ap P e) ∙ p), how_many_yes Q n (sym (ap Q e) ∙ q))
        | inr e ↦
            let k = how_many_less n j (λ i k. f i (omega arith)) (omega arith) p q in
            elim (cases_Bool (P n)) [
              | inl y ↦ omega (arith, how_many_yes P n y, how_many_yes Q n (f n (omega arith) y))
              | inr y ↦ omega (arith, how_many_no P n y, how_many_step Q n)
            ]
      ]
