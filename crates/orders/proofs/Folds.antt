-- A set as the fold of a chain of iterators that sets a bit for each item.
use Rattle.std.proofs.Common.{◌≡◌, ℕ, zero, suc, ◌+◌, ◌*◌, ◌%◌, ◌^◌, ◌<◌, ◌≤◌, Bool, true, false, cond, ◌&&◌, ◌||◌, eqb, ltb, List, [], ◌∷◌, ◌++◌, sym, refl, ap, ◌∙◌, inl, inr, arith}
use lib.Bits.{bit_or}
use Rattle.std.specs.List.{range_with_len, filter, list_any, list_all}
use Rattle.std.proofs.Math.Bool.{or-false}
use Rattle.std.proofs.lemmas.Bool.{and_parts, and_from, cases_eq, eq-eqb, eqb-true, ltb-true, lt-ltb, or_left, or_right}
use Rattle.std.proofs.lemmas.List.Folds.{list_any-append, list_all-append}
use Rattle.std.proofs.lemmas.Map.Views.{any-filter_same}
use Rattle.scale.proofs.Bools.{and_true}
use Rattle.orders.specs.Orders.{member}
use Rattle.orders.proofs.Bits.{no_member, one_more}

-- v is in the set exactly when it is in the list, whose numbers are below 16
abbrev pub Collects : ℕ → List ℕ → ℕ → Type 0
Collects v ys set = list_all (λ y. ltb y 16) ys ≡ true → member set v ≡ list_any (λ y. eqb y v) ys

module _ (v : ℕ) where
  pub collects_none : Collects v [] 0
  collects_none e = no_member v

  pub collects_more : (ys : List ℕ) (a x b : ℕ) → Collects v ys a → b ≡ bit_or a (1 * 2 ^ x % 65536) → Collects v (ys ++ x ∷ []) b
  collects_more ys a x b h is e =
      let w = and_parts (list_all (λ y. ltb y 16) ys) (ltb x 16 && true) (sym (list_all-append (λ y. ltb y 16) ys (x ∷ [])) ∙ e) in
      let small = ltb-true x 16 (and_parts (ltb x 16) true w.1).0 in
      ap (λ s. member s v) is
      ∙ one_more a x v small
      ∙ ap (λ t. t || eqb x v) (h w.0)
      ∙ sym (list_any-append (λ y. eqb y v) ys (x ∷ []) ∙ ap (λ t. list_any (λ y. eqb y v) ys || t) (or-false (eqb x v)))

module _ (P : ℕ → Bool) where
  all_small : (a n : ℕ) → a + n ≤ 16 → list_all (λ y. ltb y 16) (filter P (range_with_len a n)) ≡ true
  all_small a zero h = refl
  all_small a (suc n) h = kept (P a) (filter P (range_with_len (a + 1) n)) (lt-ltb a 16 (omega arith)) (all_small (a + 1) n (omega arith))
    where
      kept : (p : Bool) (ys : List ℕ) → ltb a 16 ≡ true → list_all (λ y. ltb y 16) ys ≡ true → list_all (λ y. ltb y 16) (cond p (a ∷ ys) ys) ≡ true
      kept true ys s e = and_from (ltb a 16) (list_all (λ y. ltb y 16) ys) s e
      kept false ys s e = e

  in_range : (a n v : ℕ) → a ≤ v → v < a + n → list_any (λ y. eqb y v) (range_with_len a n) ≡ true
  in_range a zero v l h = absurd (omega arith)
  in_range a (suc n) v l h =
      elim (cases_eq a v) [
        | inl q ↦ or_left (eqb a v) (list_any (λ y. eqb y v) (range_with_len (a + 1) n)) (eq-eqb a v q)
        | inr q ↦ or_right (eqb a v) (list_any (λ y. eqb y v) (range_with_len (a + 1) n)) (in_range (a + 1) n v (omega arith) (omega arith))
      ]

  -- the numbers below n that P holds of, where the set has collected them
  pub collected : (n v set : ℕ) → n ≤ 16 → v < n → Collects v (filter P (range_with_len 0 n)) set → member set v ≡ P v
  collected n v set most h e =
      e (all_small 0 n (omega arith))
      ∙ any-filter_same (λ y. eqb y v) P (P v) (λ k t. ap P (eqb-true k v t)) (range_with_len 0 n)
      ∙ and_true (P v) (list_any (λ y. eqb y v) (range_with_len 0 n)) (in_range 0 n v (omega arith) (omega arith))
