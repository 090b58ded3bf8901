-- A loop over two lists side by side.
use Rattle.std.proofs.Common.{◌≡◌, ℕ, zero, suc, ◌<◌, ◌≤◌, List, [], ◌∷◌, length, get_or, refl, ap, arith}
use Rattle.std.specs.List.{zip}

-- an item holds an entry of each
pub zip_at : {A B : Type 0} (xs : List A) (ys : List B) (t : ℕ) (a : A) (b : B) (d : A) (e : B) → t < length (zip xs ys) → ◌≡◌ {A = A × B} (a, b) (get_or (zip xs ys) t (a, b)) → (a ≡ get_or xs t d) × (b ≡ get_or ys t e)
zip_at [] ys t a b d e h is = absurd (omega arith)
zip_at (x ∷ xs) [] t a b d e h is = absurd (omega arith)
zip_at {A} {B} (x ∷ xs) (y ∷ ys) zero a b d e h is = (ap (λ (p : A × B). p.0) is, ap (λ (p : A × B). p.1) is)
zip_at (x ∷ xs) (y ∷ ys) (suc t) a b d e h is = zip_at xs ys t a b d e (omega arith) is

-- and there are as many as each has
pub zip_size : {A B : Type 0} (xs : List A) (ys : List B) → length xs ≡ length ys → length (zip xs ys) ≡ length xs
zip_size [] ys e = refl
zip_size (x ∷ xs) [] e = absurd (omega arith)
zip_size (x ∷ xs) (y ∷ ys) e = ap suc (zip_size xs ys (omega arith))

pub zip_short : {A B : Type 0} (xs : List A) (ys : List B) → length (zip xs ys) ≤ length ys
zip_short [] ys = omega arith
zip_short (x ∷ xs) [] = omega arith
zip_short (x ∷ xs) (y ∷ ys) = omega (arith, zip_short xs ys)
