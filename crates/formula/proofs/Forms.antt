-- The words of a tree are well formed. Assumes nothing.
use Rattle.std.proofs.Common.{◌≡◌, ℕ, ◌+◌, ◌-◌, ◌<◌, List, [], ◌∷◌, ◌++◌, length, get_or, sym, refl, ap, subst, inl, inr, add-zero, arith, length-append}
use Rattle.std.proofs.lemmas.List.{get_or_append_left, get_or-append_right}
use Rattle.std.proofs.lemmas.Bool.{cases_lt}
use Rattle.lines.specs.declared.Line.TheVariants.{False, True, Mark, One, Two}
use Rattle.lines.specs.Word.{word_of, WellFormed}
use Rattle.tokens.specs.Names.{names_of}
use Rattle.formula.specs.Grammar.{Tree, truth, falsity, mark, one, two, Level, Reads, is_true, is_false, is_name, is_one, is_path, is_group, con_one, con_more, alt_one, alt_more, is_alt, implies}
use Rattle.formula.specs.Words.{size, line_of, postfix, Formed}
use Rattle.formula.proofs.Lines.{length_postfix, some}

-- the marks of a tree are below a
abbrev pub Marks : ℕ → Tree → Type 0
Marks a truth = Unit {0}
Marks a falsity = Unit {0}
Marks a (mark m) = m < a
Marks a (one o t) = Marks a t
Marks a (two o x y) = Marks a x × Marks a y

pub marks_of : {ns : List ℕ} {l : Level} {bs : List ℕ} {t : Tree} {r : List ℕ} → Reads ns l bs t r → Marks (length (names_of ns)) t
marks_of (is_true e) = tt
marks_of (is_false e) = tt
marks_of (is_name e m) = m.within
marks_of (is_one e u) = marks_of u
marks_of (is_path e f x g y z) = (marks_of x, marks_of y)
marks_of (is_group e x c) = marks_of x
marks_of (con_one u) = marks_of u
marks_of (con_more c e u) = (marks_of c, marks_of u)
marks_of (alt_one u) = marks_of u
marks_of (alt_more c e u) = (marks_of c, marks_of u)
marks_of (is_alt x) = marks_of x
marks_of (implies x e y) = (marks_of x, marks_of y)

single : (n a w : ℕ) → WellFormed n a w → Formed n a (w ∷ [])
single n a w h k l =
    let e : 0 ≡ k = omega arith in
    subst (λ i. WellFormed (n + i) a (get_or (w ∷ []) i 0)) e (subst (λ i. WellFormed i a w) (sym (add-zero n)) h)

append : (n m a : ℕ) (xs ys : List ℕ) → n + length xs ≡ m → Formed n a xs → Formed m a ys → Formed n a (xs ++ ys)
append n m a xs ys e f g k l =
    elim (cases_lt k (length xs)) [
      | inl lt ↦ subst (WellFormed (n + k) a) (sym (get_or_append_left xs ys 0 k lt)) (f k lt)
      | inr ge ↦
          let i : m + (k - length xs) ≡ n + k = omega arith in
          let lt : k - length xs < length ys = omega (arith, length-append xs ys) in
          subst (WellFormed (n + k) a) (sym (get_or-append_right xs ys (length xs) k 0 refl ge)) (subst (λ j. WellFormed j a (get_or ys (k - length xs) 0)) i (g (k - length xs) lt))
    ]

pub formed : (a n : ℕ) (t : Tree) → Marks a t → Formed n a (postfix n t)
formed a n truth h = single n a (word_of True) (True, refl, tt)
formed a n falsity h = single n a (word_of False) (False, refl, tt)
formed a n (mark m) h = single n a (word_of (Mark m)) (Mark m, refl, h)
formed a n (one o t) h =
    append n (n + size t) a (postfix n t) _ (ap (λ k. n + k) (length_postfix n t)) (formed a n t h)
    (single (n + size t) a (word_of (One o (line_of n t))) (One o (line_of n t), refl, omega (arith, some t)))
formed a n (two o x y) h =
    let m = n + size x in
    append n m a (postfix n x) _ (ap (λ k. n + k) (length_postfix n x)) (formed a n x h.0)
    (append m (m + size y) a (postfix m y) _ (ap (λ k. m + k) (length_postfix m y)) (formed a m y h.1)
    (single (m + size y) a (word_of (Two o (line_of n x) (line_of m y))) (Two o (line_of n x) (line_of m y), refl, (omega (arith, some x, some y), omega (arith, some y)))))
