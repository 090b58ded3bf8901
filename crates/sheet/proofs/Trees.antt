-- The lines of a tree: as many as its nodes, their words those of the formula's reader, and each fitting.
use Rattle.std.proofs.Common.{◌≡◌, ℕ, ◌+◌, ◌-◌, ◌<◌, ◌≤◌, List, [], ◌∷◌, ◌++◌, map, length, get_or, sym, refl, ap, ◌∙◌, subst, ⊎_elim, arith}
use Rattle.std.proofs.lemmas.Bool.{cases_lt}
use Rattle.std.proofs.lemmas.List.{length-append, get_or_append_left, get_or-append_right, map-append}
use Rattle.lines.specs.declared.Line.{Line}
use Rattle.lines.specs.declared.Line.TheVariants.{False, True, Mark, One, Two}
use Rattle.lines.specs.declared.Unary.{Unary}
use Rattle.lines.specs.declared.Binary.{Binary}
use Rattle.lines.specs.Word.{word_of, FitsAt}
use Rattle.tokens.specs.Names.{names_of}
use Rattle.formula.specs.Grammar.{Tree, truth, falsity, mark, one, two, Level, Reads, is_true, is_false, is_name, is_one, is_path, is_group, con_one, con_more, alt_one, alt_more, is_alt, implies, Spells}
use Rattle.formula.specs.Words.{size, line_of, postfix}
use Rattle.sheet.specs.Lines.{tree_lines}

pub size_lines : (n : ℕ) (t : Tree) → length (tree_lines n t) ≡ size t
size_lines n truth = refl
size_lines n falsity = refl
size_lines n (mark m) = refl
size_lines n (one o t) = length-append (tree_lines n t) (One o (line_of n t) ∷ []) ∙ ap (λ k. k + 1) (size_lines n t)
size_lines n (two o a b) =
    let last = Two o (line_of n a) (line_of (n + size a) b) ∷ [] in
    let e = length-append (tree_lines n a) (tree_lines (n + size a) b ++ last) in
    let f = length-append (tree_lines (n + size a) b) last in
    let p = size_lines n a in
    let q = size_lines (n + size a) b in
    omega (arith, e, f, p, q)

pub lines_words : (n : ℕ) (t : Tree) → map word_of (tree_lines n t) ≡ postfix n t
lines_words n truth = refl
lines_words n falsity = refl
lines_words n (mark m) = refl
lines_words n (one o t) =
    map-append word_of (tree_lines n t) (One o (line_of n t) ∷ []) ∙ ap (λ x. x ++ (word_of (One o (line_of n t)) ∷ [])) (lines_words n t)
lines_words n (two o a b) =
    let last = Two o (line_of n a) (line_of (n + size a) b) in
    map-append word_of (tree_lines n a) (tree_lines (n + size a) b ++ (last ∷ []))
    ∙ ap (λ x. x ++ map word_of (tree_lines (n + size a) b ++ (last ∷ []))) (lines_words n a)
    ∙ ap (λ x. postfix n a ++ x) (map-append word_of (tree_lines (n + size a) b) (last ∷ []) ∙ ap (λ x. x ++ (word_of last ∷ [])) (lines_words (n + size a) b))

-- a line that fits earlier fits later
pub fits_later : (i j a : ℕ) (l : Line) → i ≤ j → FitsAt i a l → FitsAt j a l
fits_later i j a False h f = tt
fits_later i j a True h f = tt
fits_later i j a (Mark m) h f = f
fits_later i j a (One o l) h f = omega arith
fits_later i j a (Two o l r) h f = (omega (arith, f.0), omega (arith, f.1))

pub positive : (t : Tree) → 1 ≤ size t
positive truth = omega arith
positive falsity = omega arith
positive (mark m) = omega arith
positive (one o t) = omega arith
positive (two o a b) = omega arith

-- the marks of a tree are below a
pub data Marked (a : ℕ) : Tree → Type 0 where
  at_truth : Marked a truth
  at_falsity : Marked a falsity
  at_mark : {m : ℕ} → m < a → Marked a (mark m)
  at_one : {o : Unary} {t : Tree} → Marked a t → Marked a (one o t)
  at_two : {o : Binary} {s t : Tree} → Marked a s → Marked a t → Marked a (two o s t)

marked : {ns : List ℕ} {l : Level} {bs r : List ℕ} {t : Tree} → Reads ns l bs t r → Marked (length (names_of ns)) t
marked (is_true s) = at_truth
marked (is_false s) = at_falsity
marked (is_name s k) = at_mark k.within
marked (is_one s r) = at_one (marked r)
marked (is_path s h p u q e) = at_two (marked p) (marked q)
marked (is_group s p e) = marked p
marked (con_one p) = marked p
marked (con_more p s q) = at_two (marked p) (marked q)
marked (alt_one p) = marked p
marked (alt_more p s q) = at_two (marked p) (marked q)
marked (is_alt p) = marked p
marked (implies p s q) = at_two (marked p) (marked q)

pub spelled_marks : (ns bs : List ℕ) (t : Tree) → Spells ns bs t → Marked (length (names_of ns)) t
spelled_marks ns bs t s = marked s.reads

-- where k lines stand before, line i of the tree fits as line k + i
pub tree_fits : (a n : ℕ) (t : Tree) → Marked a t → (i : ℕ) → i < size t → FitsAt (n + i) a (get_or (tree_lines n t) i False)
tree_fits a n truth k i h = let e : i ≡ 0 = omega arith in subst (λ x. FitsAt (n + x) a (get_or (True ∷ []) x False)) (sym e) tt
tree_fits a n falsity k i h = let e : i ≡ 0 = omega arith in subst (λ x. FitsAt (n + x) a (get_or (False ∷ []) x False)) (sym e) tt
tree_fits a n (mark m) (at_mark p) i h = let e : i ≡ 0 = omega arith in subst (λ x. FitsAt (n + x) a (get_or (Mark m ∷ []) x False)) (sym e) p
tree_fits a n (one o t) (at_one p) i h =
    let len = size_lines n t in
    let last = One o (line_of n t) ∷ [] in
    ⊎_elim
    (λ q. subst (FitsAt (n + i) a) (sym (get_or_append_left (tree_lines n t) last False i (omega arith))) (tree_fits a n t p i q))
    (λ q.
    let z : i - size t ≡ 0 = omega arith in
    let pos = positive t in
    let f : line_of n t < n + i = omega arith in
    subst (FitsAt (n + i) a) (sym (get_or-append_right (tree_lines n t) last (size t) i False len q ∙ ap (λ x. get_or last x False) z)) f)
    (cases_lt i (size t))
tree_fits a n (two o s t) (at_two p q) i h =
    let len = size_lines n s in
    let len2 = size_lines (n + size s) t in
    let last = Two o (line_of n s) (line_of (n + size s) t) ∷ [] in
    let ps = positive s in
    let pt = positive t in
    ⊎_elim
    (λ l. subst (FitsAt (n + i) a) (sym (get_or_append_left (tree_lines n s) (tree_lines (n + size s) t ++ last) False i (omega arith))) (tree_fits a n s p i l))
    (λ l.
    let over = get_or-append_right (tree_lines n s) (tree_lines (n + size s) t ++ last) (size s) i False len l in
    let at : (n + size s) + (i - size s) ≡ n + i = omega arith in
    ⊎_elim
    (λ m.
    subst (FitsAt (n + i) a) (sym (over ∙ get_or_append_left (tree_lines (n + size s) t) last False (i - size s) (omega arith)))
    (subst (λ x. FitsAt x a (get_or (tree_lines (n + size s) t) (i - size s) False)) at (tree_fits a (n + size s) t q (i - size s) m)))
    (λ m.
    let z : i - size s - size t ≡ 0 = omega arith in
    let f : line_of n s < n + i = omega arith in
    let g : line_of (n + size s) t < n + i = omega arith in
    subst (FitsAt (n + i) a) (sym (over ∙ get_or-append_right (tree_lines (n + size s) t) last (size t) (i - size s) False len2 m ∙ ap (λ x. get_or last x False) z)) (f, g))
    (cases_lt (i - size s) (size t)))
    (cases_lt i (size s))
