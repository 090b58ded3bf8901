-- Sets as numbers, bit by bit.
use Rattle.std.proofs.Common.{◌≡◌, ℕ, ◌-◌, ◌*◌, ◌/◌, ◌%◌, ◌^◌, ◌<◌, min, true, false, not, ◌&&◌, ◌||◌, eqb, w16, sym, refl, ap, ◌∙◌, inl, inr, arith}
use lib.Bits.{bit_and, bit_or, and_le_l, mask_lt}
use Rattle.std.proofs.lemmas.Nat.Bits.{bit_at-lt, bit_at-zero, bit_at_and, bit_at_not, bit_at_ones, bit_at_set_same, bit_at_set_other, same_from_bits_below}
use Rattle.std.proofs.Math.Bool.{or-false}
use Rattle.std.proofs.lemmas.Bool.Decides.{nat_tests}
use Rattle.std.proofs.lemmas.Bool.{and_parts, eqb-true, eq-eqb, ne_eqb, or_right, cases_eq}
use Rattle.scale.proofs.Bools.{same_test, and_so}
use Rattle.orders.specs.Finite.{every}
use Rattle.orders.specs.Orders.{member, implies}
use Rattle.orders.proofs.Finites.{so, implies_from, every_all, every_from}

-- one bit
odd_min : (p q : ℕ) → p < 2 → q < 2 → eqb (min p q) 1 ≡ (eqb p 1 && eqb q 1)
odd_min p q hp hq = grind (arith, nat_tests)

odd_not : (p : ℕ) → p < 2 → eqb (1 - p) 1 ≡ not (eqb p 1)
odd_not p hp = grind (arith, nat_tests)

odd_eq : (p q : ℕ) → p < 2 → q < 2 → eqb p 1 ≡ eqb q 1 → p ≡ q
odd_eq p q hp hq e = grind (arith, nat_tests)

pub member_and : (a b v : ℕ) → member (bit_and a b) v ≡ (member a v && member b v)
member_and a b v = ap (λ x. eqb x 1) (bit_at_and a b v) ∙ odd_min (a / 2 ^ v % 2) (b / 2 ^ v % 2) (bit_at-lt a v) (bit_at-lt b v)

-- sets with the same members are one
same_members : (k a b : ℕ) → a < 2 ^ k → b < 2 ^ k → ((v : ℕ) → v < k → member a v ≡ member b v) → a ≡ b
same_members k a b ha hb f = same_from_bits_below k a b ha hb (λ v h. odd_eq (a / 2 ^ v % 2) (b / 2 ^ v % 2) (bit_at-lt a v) (bit_at-lt b v) (f v h))

-- the set of the others, of 16
pub member_rest : (a v : ℕ) → a < 65536 → v < 16 → member (65535 - a) v ≡ not (member a v)
member_rest a v h l = ap (λ x. eqb x 1) (bit_at_not w16 a v h l) ∙ odd_not (a / 2 ^ v % 2) (bit_at-lt a v)

-- the set of all
pub member_all : (k v : ℕ) → v < k → member (2 ^ k - 1) v ≡ true
member_all k v h = ap (λ x. eqb x 1) (bit_at_ones k v h)

-- the members of a below n are all in b
pub all_in : (n a b : ℕ) → eqb (bit_and (bit_and a (2 ^ n - 1)) b) (bit_and a (2 ^ n - 1)) ≡ every n (λ v. implies (member a v) (member b v))
all_in n a b =
    let k = bit_and a (2 ^ n - 1) in
    let kept : (v : ℕ) → v < n → member k v ≡ member a v =
    λ v h. member_and a (2 ^ n - 1) v ∙ ap (λ y. member a v && y) (member_all n v h) ∙ and_so (member a v) true (λ _. refl) in
    let lk : k < 2 ^ n = mask_lt a n in
    same_test (eqb (bit_and k b) k) (every n (λ v. implies (member a v) (member b v)))
    (λ t.
    every_from (λ v. implies (member a v) (member b v)) n
    (λ v h.
    implies_from (member a v) (member b v)
    (λ m. (and_parts (member k v) (member b v) (sym (member_and k b v) ∙ ap (λ x. member x v) (eqb-true (bit_and k b) k t) ∙ kept v h ∙ m)).1)))
    (λ t.
    eq-eqb (bit_and k b) k
    (same_members n (bit_and k b) k (omega (arith, and_le_l k b)) lk
    (λ v h.
    member_and k b v
    ∙ and_so (member k v) (member b v) (λ m. so (member a v) (member b v) (every_all (λ v. implies (member a v) (member b v)) n t v h) (sym (kept v h) ∙ m)))))

pub no_member : (v : ℕ) → member 0 v ≡ false
no_member v = ap (λ x. eqb x 1) (bit_at-zero v)

-- one member more, of a set of 16
pub one_more : (a x v : ℕ) → x < 16 → member (bit_or a (1 * 2 ^ x % 65536)) v ≡ (member a v || eqb x v)
one_more a x v h =
    elim (cases_eq v x) [
      | inl q ↦ ap (member (bit_or a (1 * 2 ^ x % 65536))) q ∙ ap (λ y. eqb y 1) (bit_at_set_same w16 a x h) ∙ sym (or_right (member a v) (eqb x v) (eq-eqb x v (sym q)))
      | inr q ↦ ap (λ y. eqb y 1) (bit_at_set_other w16 a x h v q) ∙ sym (ap (λ t. member a v || t) (ne_eqb x v (λ e. q (sym e))) ∙ or-false (member a v))
    ]
