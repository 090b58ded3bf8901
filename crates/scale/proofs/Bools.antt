-- Equations of tests that several makers use and the shelf lacks.
use Rattle.std.proofs.Common.{◌≡◌, Bool, true, false, not, ◌&&◌, ◌||◌, sym, refl, ap}

-- two tests that pass together are one
pub same_test : (x y : Bool) → (x ≡ true → y ≡ true) → (y ≡ true → x ≡ true) → x ≡ y
same_test true y f g = sym (f refl)
same_test false true f g = g refl
same_test false false f g = refl

pub not_not : (x : Bool) → not (not x) ≡ x
not_not true = refl
not_not false = refl

pub not_and : (x y : Bool) → not (x && y) ≡ (not x || not y)
not_and true y = refl
not_and false y = refl

pub and_comm : (x y : Bool) → (x && y) ≡ (y && x)
and_comm true true = refl
and_comm true false = refl
and_comm false true = refl
and_comm false false = refl

pub and_true : (x y : Bool) → y ≡ true → (x && y) ≡ x
and_true true y e = e
and_true false y e = refl

pub true_and : (x y : Bool) → x ≡ true → (x && y) ≡ y
true_and x y e = ap (λ b. b && y) e

pub and_so : (x y : Bool) → (x ≡ true → y ≡ true) → (x && y) ≡ x
and_so true y f = f refl
and_so false y f = refl

pub and_over_or : (x y z : Bool) → (x && (y || z)) ≡ ((x && y) || (x && z))
and_over_or true y z = refl
and_over_or false y z = refl
