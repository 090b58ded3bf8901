-- How many of the first n stages are in a set.
use Rattle.std.proofs.Common.{◌≡◌, ℕ, zero, suc, ◌+◌, ◌<◌, ◌≤◌, Bool, true, false, ◌⊎◌, sym, refl, subst, inl, inr, ⊎_elim, arith}
use mathlib.Core.Bool.{false≢true}
use Rattle.std.proofs.lemmas.Bool.{cases_order}
use Rattle.ctl.specs.Readings.{In}

abbrev one_if : Bool → ℕ
one_if true = 1
one_if false = 0

abbrev pub count : ℕ → (ℕ → Bool) → ℕ
count zero set = 0
count (suc n) set = one_if (set n) + count n set

one_le : (b : Bool) → one_if b ≤ 1
one_le true = omega arith
one_le false = omega arith

pub count_le : (n : ℕ) (set : ℕ → Bool) → count n set ≤ n
count_le zero set = omega arith
count_le (suc n) set = let h = count_le n set in let k = one_le (set n) in omega arith

abbrev pub Within : ℕ → (ℕ → Bool) → (ℕ → Bool) → Type 0
Within n x y = (s : ℕ) → s < n → In x s → In y s

one_mono : (a b : Bool) → (a ≡ true → b ≡ true) → one_if a ≤ one_if b
one_mono true true i = omega arith
one_mono true false i = absurd (false≢true (i refl))
one_mono false true i = omega arith
one_mono false false i = omega arith

less : (n : ℕ) (x y : ℕ → Bool) → Within (suc n) x y → Within n x y
less n x y w s h = w s (omega arith)

count_mono : (n : ℕ) (x y : ℕ → Bool) → Within n x y → count n x ≤ count n y
count_mono zero x y w = omega arith
count_mono (suc n) x y w = let h = count_mono n x y (less n x y w) in let k = one_mono (x n) (y n) (w n (omega arith)) in omega arith

-- either the two are the same, or the second has more
one_grows : (a b : Bool) → (a ≡ true → b ≡ true) → (b ≡ true → a ≡ true) ⊎ (one_if a < one_if b)
one_grows true true i = inl (λ e. e)
one_grows true false i = absurd (false≢true (i refl))
one_grows false true i = inr (omega arith)
one_grows false false i = inl (λ e. e)

pub grows : (n : ℕ) (x y : ℕ → Bool) → Within n x y → Within n y x ⊎ (count n x < count n y)
grows zero x y w = inl (λ s h. absurd (omega arith))
grows (suc n) x y w =
    let le = count_mono n x y (less n x y w) in
    let top = one_mono (x n) (y n) (w n (omega arith)) in
    ⊎_elim
    (λ back. ⊎_elim
    (λ at_n. inl (λ s h i. ⊎_elim (λ e. subst (In x) (sym e) (at_n (subst (In y) e i)))
    (⊎_elim (λ l. back s l i) (λ l. absurd (omega arith))) (cases_order s n)))
    (λ more. inr (omega arith))
    (one_grows (x n) (y n) (w n (omega arith))))
    (λ more. inr (omega arith))
    (grows n x y (less n x y w))
