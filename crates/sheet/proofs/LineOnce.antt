-- A word is that of at most one line.
use Rattle.std.proofs.Common.{◌≡◌, ℕ, ◌<◌, ◌≤◌, cond, eqb, leb, sym, refl, ap, ◌∙◌, arith}
use Rattle.lines.specs.declared.Line.{Line}
use Rattle.lines.specs.declared.Line.TheVariants.{False, True, Mark, One, Two}
use Rattle.lines.specs.declared.Unary.{Unary}
use Rattle.lines.specs.declared.Unary.TheVariants.{Not, Ex, Ax, Ef, Af, Eg, Ag}
use Rattle.lines.specs.declared.Binary.{Binary}
use Rattle.lines.specs.declared.Binary.TheVariants.{And, Or, Implies, Eu, Au, Er, Ar}
use Rattle.lines.specs.Word.{unary_number, binary_number, operator_of, left_of, right_of, word_of, FitsAt}

-- the line with an operator's number and two fields
unary_at : ℕ → Unary
unary_at k = cond (eqb k 3) Not (cond (eqb k 7) Ex (cond (eqb k 8) Ax (cond (eqb k 9) Ef (cond (eqb k 10) Af (cond (eqb k 11) Eg Ag)))))

binary_at : ℕ → Binary
binary_at k = cond (eqb k 4) And (cond (eqb k 5) Or (cond (eqb k 6) Implies (cond (eqb k 13) Eu (cond (eqb k 14) Au (cond (eqb k 15) Er Ar)))))

line_at : ℕ → ℕ → ℕ → Line
line_at k l r =
    cond (eqb k 0) False (cond (eqb k 1) True (cond (eqb k 2) (Mark r) (cond (eqb k 3) (One (unary_at k) l)
    (cond (leb k 6) (Two (binary_at k) l r) (cond (leb k 12) (One (unary_at k) l) (Two (binary_at k) l r))))))

at_one : (o : Unary) (l : ℕ) → line_at (unary_number o) l 0 ≡ One o l
unfolding line_at unary_at
at_one Not l = refl
at_one Ex l = refl
at_one Ax l = refl
at_one Ef l = refl
at_one Af l = refl
at_one Eg l = refl
at_one Ag l = refl

at_two : (o : Binary) (l r : ℕ) → line_at (binary_number o) l r ≡ Two o l r
unfolding line_at binary_at
at_two And l r = refl
at_two Or l r = refl
at_two Implies l r = refl
at_two Eu l r = refl
at_two Au l r = refl
at_two Er l r = refl
at_two Ar l r = refl

at_fields : (l : Line) → line_at (operator_of l) (left_of l) (right_of l) ≡ l
unfolding line_at
at_fields False = refl
at_fields True = refl
at_fields (Mark m) = refl
at_fields (One o l) = at_one o l
at_fields (Two o l r) = at_two o l r

-- the fields of a fitting line are bytes
small_left : (i a : ℕ) (l : Line) → i ≤ 64 → a ≤ 256 → FitsAt i a l → left_of l < 256
small_left i a False hi ha f = omega arith
small_left i a True hi ha f = omega arith
small_left i a (Mark m) hi ha f = omega arith
small_left i a (One o l) hi ha f = omega arith
small_left i a (Two o l r) hi ha f = omega (arith, f.0)

small_right : (i a : ℕ) (l : Line) → i ≤ 64 → a ≤ 256 → FitsAt i a l → right_of l < 256
small_right i a False hi ha f = omega arith
small_right i a True hi ha f = omega arith
small_right i a (Mark m) hi ha f = omega arith
small_right i a (One o l) hi ha f = omega arith
small_right i a (Two o l r) hi ha f = omega (arith, f.1)

pub line_once : (i a : ℕ) (l k : Line) → i ≤ 64 → a ≤ 256 → FitsAt i a l → FitsAt i a k → word_of l ≡ word_of k → l ≡ k
line_once i a l k hi ha fl fk e =
    let ll = small_left i a l hi ha fl in
    let lr = small_right i a l hi ha fl in
    let kl = small_left i a k hi ha fk in
    let kr = small_right i a k hi ha fk in
    let o : operator_of l ≡ operator_of k = omega arith in
    let p : left_of l ≡ left_of k = omega arith in
    let q : right_of l ≡ right_of k = omega arith in
    sym (at_fields l)
    ∙ ap (λ x. line_at x (left_of l) (right_of l)) o
    ∙ ap (λ x. line_at (operator_of k) x (right_of l)) p
    ∙ ap (λ x. line_at (operator_of k) (left_of k) x) q
    ∙ at_fields k
