-- Cuts by their values, and places in the list of the values.
use Rattle.std.proofs.Common.{◌≡◌, ℕ, ◌%◌, ◌<◌, ◌≤◌, Bool, true, false, eqb, ltb, List, length, get_or, map, Some, None, sym, refl, ap, ◌∙◌, inl, inr, arith}
use Rattle.std.specs.List.{range_with_len, slice_get, position, position_or_len}
use Rattle.std.specs.Option.{unwrap_or}
use Rattle.std.proofs.lemmas.Bool.{cases_lt, cond-true, cond-false, ne_eqb, eqb-true, lt-ltb}
use Rattle.std.proofs.lemmas.Bool.Decides.{nat_tests}
use Rattle.std.proofs.lemmas.List.{get_or-map, length-map}
use Rattle.std.proofs.lemmas.List.FromFn.{length-map-range_with_len, get_or-map-range_with_len, fill_by_all}
use Rattle.std.proofs.lemmas.List.Sums.{position_or_len_is}
use Rattle.std.proofs.lemmas.Option.{slice_get-get_or, slice_get_past}
use Rattle.scale.specs.Model.{only_if}
use Rattle.orders.specs.Finite.{pick, how_many}
use Rattle.orders.specs.Orders.{irreducible, cut_count_of, cut_of, ceiling_of, partner_of}
use Rattle.orders.proofs.Finites.{some_or, pick_is, pick_none, pick_same, nth_is}
use Rattle.table.specs.Cuts.{irreducibles_of, cut_from, cut_entry, cuts_of}

-- Where each number stands once in a list, its first place is its last.
module _ (xs : List ℕ) (x : ℕ) (once : (i j : ℕ) → i < length xs → j < length xs → get_or xs i 0 ≡ get_or xs j 0 → i ≡ j) where
  pub place_picked : unwrap_or (position (λ v. eqb v x) xs) 0 ≡ pick (length xs) (λ i. eqb (get_or xs i 0) x)
  place_picked =
      let n = length xs in
      let P : ℕ → Bool = λ i. eqb (get_or xs i 0) x in
      let p = position_or_len (λ v. eqb v x) xs in
      elim (some_or P n) [
        | inl w ↦
            let m = pick_is P n w.0 w.1 w.2 in
            let i = pick n P in
            let here : get_or xs i 0 ≡ x = eqb-true (get_or xs i 0) x m.1 in
            let is : p ≡ i =
            position_or_len_is (λ v. eqb v x) xs i 0 (omega (arith, m.0)) (λ k h. ne_eqb (get_or xs k 0) x (λ e. omega (arith, once k i (omega (arith, m.0)) m.0 (e ∙ sym here), h))) (λ _. m.1) in
            let within : ltb p n ≡ true = lt-ltb p n (omega (arith, is, m.0)) in
            ap (λ o. unwrap_or o 0) (cond-true (ltb p n) (Some p) None within) ∙ is
        | inr w ↦
            let is : p ≡ n = position_or_len_is (λ v. eqb v x) xs n 0 (omega arith) (λ k h. w.1 k h) (λ h. absurd (omega arith)) in
            let without : ltb p n ≡ false = grind (arith, nat_tests) in
            ap (λ o. unwrap_or o 0) (cond-false (ltb p n) (Some p) None without) ∙ sym (pick_none P n w.1)
      ]

-- the element with a number, of a list made from a function
pub listed_at : {X : Type 0} (f : ℕ → X) (m j : ℕ) → slice_get (map f (range_with_len 0 m)) j ≡ only_if (ltb j m) (f j)
listed_at f m j =
    let xs = map f (range_with_len 0 m) in
    let long = length-map-range_with_len f 0 m in
    elim (cases_lt j m) [
      | inl h ↦
          slice_get-get_or xs j (f j) (omega (arith, long))
          ∙ ap Some (get_or-map-range_with_len f 0 m j j (f j) h (omega arith))
          ∙ ap (λ b. only_if b (f j)) (sym (lt-ltb j m h))
      | inr h ↦
          let past : ltb j m ≡ false = grind (arith, nat_tests) in
          slice_get_past xs j (omega (arith, long)) ∙ ap (λ b. only_if b (f j)) (sym past)
    ]

module _ (n : ℕ) (le : ℕ → ℕ → Bool) (most : n ≤ 16) where
  pub irreducibles_long : length (irreducibles_of n le) ≡ cut_count_of n le
  unfolding irreducibles_of
  irreducibles_long = length-map-range_with_len (cut_of n le) 0 (cut_count_of n le)

  pub irreducibles_at : (j : ℕ) → j < cut_count_of n le → get_or (irreducibles_of n le) j 0 ≡ cut_of n le j
  unfolding irreducibles_of
  irreducibles_at j h = get_or-map-range_with_len (cut_of n le) 0 (cut_count_of n le) j j 0 h (omega arith)

  place_of_cut : (j : ℕ) → j < cut_count_of n le → (cut_of n le j < n) × (how_many (cut_of n le j) (irreducible n le) ≡ j)
  unfolding cut_count_of cut_of
  place_of_cut j h = let w = nth_is (irreducible n le) n j h in (w.0, w.2)

  -- the cut that is made of value j is cut j
  pub cut_made : (opp : ℕ → ℕ) (j : ℕ) → j < cut_count_of n le → cut_from n le opp (irreducibles_of n le) (cut_of n le j) ≡ cut_entry n le opp j
  unfolding partner_of
  cut_made opp j h =
      let xs = irreducibles_of n le in
      let c = cut_of n le j in
      let small : c % 16 ≡ c = omega (arith, (place_of_cut j h).0) in
      let once : (i k : ℕ) → i < length xs → k < length xs → get_or xs i 0 ≡ get_or xs k 0 → i ≡ k =
      λ i k hi hk e.
      let li : i < cut_count_of n le = omega (arith, irreducibles_long) in
      let lk : k < cut_count_of n le = omega (arith, irreducibles_long) in
      let same : cut_of n le i ≡ cut_of n le k = sym (irreducibles_at i li) ∙ e ∙ irreducibles_at k lk in
      sym (place_of_cut i li).1 ∙ ap (λ x. how_many x (irreducible n le)) same ∙ (place_of_cut k lk).1 in
      let d = opp (ceiling_of n le c) in
      let partner : unwrap_or (position (λ v. eqb v d) xs) 0 ≡ partner_of n le opp j =
      place_picked xs d once
      ∙ pick_same (λ i. eqb (get_or xs i 0) d) (λ i. eqb (cut_of n le i) d) (length xs) (λ i k. ap (λ x. eqb x d) (irreducibles_at i (omega (arith, irreducibles_long))))
      ∙ ap (λ m. pick m (λ i. eqb (cut_of n le i) d)) irreducibles_long in
      rw (small, partner) refl

  pub cuts_made : (opp : ℕ → ℕ) → map (cut_from n le opp (irreducibles_of n le)) (irreducibles_of n le) ≡ cuts_of n le opp
  unfolding cuts_of
  cuts_made opp =
      let xs = irreducibles_of n le in
      let f = cut_from n le opp xs in
      let m = cut_count_of n le in
      fill_by_all (cut_entry n le opp) (map f xs) m (cut_entry n le opp 0) (length-map xs f ∙ irreducibles_long)
      (λ j h. get_or-map f xs j 0 (cut_entry n le opp 0) (omega (arith, irreducibles_long)) ∙ ap f (irreducibles_at j h) ∙ cut_made opp j h)
