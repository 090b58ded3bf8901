-- The cuts of the table Six are the values 1, 2, 3 and 5, and 1 is the partner of 5 and 2 of 3.
use Rattle.std.proofs.Common.{◌≡◌, ℕ, zero, suc, ◌+◌, ◌<◌, Bool, true, false, cond, ◌&&◌, eqb, ltb, [], ◌∷◌, get_or, Some, refl, ap, ◌∙◌, ap₂, arith}
use Rattle.scale.specs.Model.{only_if}
use Rattle.scale.specs.Numbers.{cut_number}
use Rattle.orders.specs.Finite.{every, pick, how_many, nth}
use Rattle.orders.specs.Orders.{under, listed, alike, greatest_of, highest_of, meet_of, join_of, lowest_of, irreducible, cut_count_of, cut_of, ceiling_of, partner_of}
use Rattle.orders.specs.Words.{rows_of, opposites_of}
use Rattle.orders.proofs.Finites.{every_all, pick_same, same_from}
use Rattle.cases.specs.Logics.{model, partner}
use Rattle.cases.specs.Facts.{FactHolds, partners, Partnered}
use Rattle.cases.specs.Cases.{six, six_words}

-- counting and listing by a test depend on its answers below n alone
module _ (P Q : ℕ → Bool) where
  how_many_same : (n : ℕ) → ((i : ℕ) → i < n → P i ≡ Q i) → how_many n P ≡ how_many n Q
  how_many_same zero e = refl
  how_many_same (suc n) e = ap₂ (λ a b. a + cond b 1 0) (how_many_same n (λ i h. e i (omega arith))) (e n (omega arith))

  nth_same : (n j : ℕ) → ((i : ℕ) → i < n → P i ≡ Q i) → nth n P j ≡ nth n Q j
  nth_same n j e =
      pick_same (λ v. P v && eqb j (how_many v P)) (λ v. Q v && eqb j (how_many v Q)) n
      (λ v h. ap₂ (λ a b. a && eqb j b) (e v h) (how_many_same v (λ i k. e i (omega arith))))

abbrev le : ℕ → ℕ → Bool
le = under (rows_of six_words)

abbrev opp : ℕ → ℕ
opp = listed (opposites_of six_words)

-- which values are cuts
abbrev is_cut : ℕ → Bool
is_cut v = get_or (false ∷ true ∷ true ∷ true ∷ false ∷ true ∷ []) v false

tested : every 6 (λ v. alike (irreducible 6 le v) (is_cut v)) ≡ true
unfolding rows_of irreducible lowest_of highest_of join_of meet_of greatest_of
tested = refl

cuts_are : (v : ℕ) → v < 6 → irreducible 6 le v ≡ is_cut v
cuts_are v h = same_from (irreducible 6 le v) (is_cut v) (every_all (λ v. alike (irreducible 6 le v) (is_cut v)) 6 tested v h)

count_is : cut_count_of 6 le ≡ 4
unfolding cut_count_of
count_is = how_many_same (irreducible 6 le) is_cut 6 cuts_are

cut_is : (j : ℕ) → cut_of 6 le j ≡ nth 6 is_cut j
unfolding cut_of
cut_is j = nth_same (irreducible 6 le) is_cut 6 j cuts_are

numbered : (j : ℕ) → cut_number (model six) j ≡ only_if (ltb j 4) (nth 6 is_cut j)
numbered j = ap₂ (λ c v. only_if (ltb j c) v) count_is (cut_is j)

facing : (j : ℕ) → partner six j ≡ pick 4 (λ i. eqb (nth 6 is_cut i) (opp (ceiling_of 6 le (nth 6 is_cut j))))
unfolding partner_of
facing j =
    ap (λ c. pick c (λ i. eqb (cut_of 6 le i) (opp (ceiling_of 6 le (cut_of 6 le j))))) count_is
    ∙ pick_same (λ i. eqb (cut_of 6 le i) (opp (ceiling_of 6 le (cut_of 6 le j)))) (λ i. eqb (nth 6 is_cut i) (opp (ceiling_of 6 le (nth 6 is_cut j)))) 4
    (λ i h. ap₂ (λ a b. eqb a (opp (ceiling_of 6 le b))) (cut_is i) (cut_is j))

-- cut j is u, its partner is cut k, and cut k is v
partnered : (j k u v : ℕ) → only_if (ltb j 4) (nth 6 is_cut j) ≡ Some u → pick 4 (λ i. eqb (nth 6 is_cut i) (opp (ceiling_of 6 le (nth 6 is_cut j)))) ≡ k → only_if (ltb k 4) (nth 6 is_cut k) ≡ Some v → Partnered six u v
partnered j k u v ej ep ek = record { cut = j; first = numbered j ∙ ej; second = ap (cut_number (model six)) (facing j ∙ ep) ∙ numbered k ∙ ek }

pub six_partners_outer : FactHolds (partners six 1 5)
unfolding rows_of opposites_of ceiling_of greatest_of
six_partners_outer = (partnered 0 3 1 5 refl refl refl, partnered 3 0 5 1 refl refl refl)

pub six_partners_inner : FactHolds (partners six 2 3)
unfolding rows_of opposites_of ceiling_of greatest_of
six_partners_inner = (partnered 1 2 2 3 refl refl refl, partnered 2 1 3 2 refl refl refl)
