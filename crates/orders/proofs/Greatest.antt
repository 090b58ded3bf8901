-- The greatest value of a set: it depends on the set and the relation below 16 alone.
use Rattle.std.proofs.Common.{◌≡◌, ℕ, ◌+◌, ◌*◌, ◌/◌, ◌%◌, ◌<◌, ◌≤◌, Bool, true, not, ◌&&◌, List, get_or, refl, ap, ◌∙◌, arith}
use Rattle.orders.specs.Finite.{every, some, Filled}
use Rattle.orders.specs.Orders.{under, implies, alike, reversed_rows, below_both, is_greatest, greatest_of, highest_of, meet_of, join_of, turned, ceiling_of, cell_of}
use Rattle.orders.proofs.Finites.{every_all, same_from, every_same, pick_same, pick_less, pick_some}

module _ (n : ℕ) (le other : ℕ → ℕ → Bool) (most : n ≤ 16) (same : (u v : ℕ) → u < 16 → v < 16 → le u v ≡ other u v) where
  pub is_greatest_same : (P Q : ℕ → Bool) → ((v : ℕ) → v < 16 → P v ≡ Q v) → (w : ℕ) → w < 16 → is_greatest n le P w ≡ is_greatest n other Q w
  is_greatest_same P Q f w h =
      ap (λ b. b && every n (λ x. implies (P x) (le x w))) (f w h)
      ∙ ap (λ b. Q w && b)
      (every_same (λ x. implies (P x) (le x w)) (λ x. implies (Q x) (other x w)) n
      (λ x k. ap (λ b. implies b (le x w)) (f x (omega arith)) ∙ ap (λ b. implies (Q x) b) (same x w (omega arith) h)))

  pub greatest_same : (P Q : ℕ → Bool) → ((v : ℕ) → v < 16 → P v ≡ Q v) → greatest_of n le P ≡ greatest_of n other Q
  unfolding greatest_of
  greatest_same P Q f = pick_same (is_greatest n le P) (is_greatest n other Q) n (λ w h. is_greatest_same P Q f w (omega arith))

  pub below_both_same : (u v : ℕ) → u < 16 → v < 16 → (w : ℕ) → w < 16 → below_both le u v w ≡ below_both other u v w
  below_both_same u v hu hv w h = ap (λ b. b && le w v) (same w u h hu) ∙ ap (λ b. other w u && b) (same w v h hv)

  pub meet_same : (u v : ℕ) → u < 16 → v < 16 → meet_of n le u v ≡ meet_of n other u v
  unfolding meet_of
  meet_same u v hu hv = greatest_same (below_both le u v) (below_both other u v) (below_both_same u v hu hv)

  pub highest_same : highest_of n le ≡ highest_of n other
  unfolding highest_of
  highest_same = greatest_same (λ v. true) (λ v. true) (λ v h. refl)

pub greatest_less : (n : ℕ) (le : ℕ → ℕ → Bool) (P : ℕ → Bool) → 0 < n → greatest_of n le P < n
unfolding greatest_of
greatest_less n le P h = pick_less (is_greatest n le P) n h

pub meet_less : (n : ℕ) (le : ℕ → ℕ → Bool) (u v : ℕ) → 0 < n → meet_of n le u v < n
unfolding meet_of
meet_less n le u v h = greatest_less n le (below_both le u v) h

-- a relation and its reverse
pub reversed_at : (rows others : List ℕ) → reversed_rows rows others ≡ true → (u v : ℕ) → u < 16 → v < 16 → under others u v ≡ under rows v u
unfolding reversed_rows
reversed_at rows others e u v hu hv =
    same_from (under others u v) (under rows v u)
    (every_all (λ v. alike (under others u v) (under rows v u)) 16 (every_all (λ u. every 16 (λ v. alike (under others u v) (under rows v u))) 16 e u hu) v hv)

pub join_less : (n : ℕ) (le : ℕ → ℕ → Bool) (u v : ℕ) → 0 < n → join_of n le u v < n
unfolding join_of
join_less n le u v h = meet_less n (turned le) u v h

-- where m is the meet that is found, the test of m tells whether there is one
pub has_meet : (n : ℕ) (le : ℕ → ℕ → Bool) (u v m : ℕ) (r : Bool) → 0 < n → m ≡ meet_of n le u v → r ≡ is_greatest n le (below_both le u v) m → r ≡ some n (is_greatest n le (below_both le u v))
unfolding meet_of greatest_of
has_meet n le u v m r h em er = er ∙ ap (is_greatest n le (below_both le u v)) em ∙ pick_some (is_greatest n le (below_both le u v)) n h

pub ceiling_less : (n : ℕ) (le : ℕ → ℕ → Bool) (c : ℕ) → 0 < n → ceiling_of n le c < n
unfolding ceiling_of
ceiling_less n le c h = greatest_less n le (λ v. not (le c v)) h

-- the cell of row u and column v
pub cell_read : (f : ℕ → ℕ → ℕ) (cells : List ℕ) (u v : ℕ) → u < 16 → v < 16 → Filled (cell_of f) 256 cells → get_or cells ((u % 16) * 16 + v % 16) 0 ≡ f u v
cell_read f cells u v hu hv is =
    let k = (u % 16) * 16 + v % 16 in
    let row : k / 16 ≡ u = omega arith in
    let column : k % 16 ≡ v = omega arith in
    is k (omega arith) ∙ ap (λ x. f x (k % 16)) row ∙ ap (f u) column
