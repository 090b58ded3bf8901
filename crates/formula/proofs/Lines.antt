-- The lines of a tree, written one behind the other, and the text that a reading takes. Assumes nothing.
use Rattle.std.proofs.Common.{◌≡◌, ℕ, suc, ◌+◌, ◌-◌, ◌<◌, ◌≤◌, List, [], ◌∷◌, ◌++◌, length, set, sym, refl, ap, ◌∙◌, add-zero, add-suc, suc-add, arith, length-append}
use lib.Seq.{sets}
use Rattle.lines.specs.declared.Unary.{Unary}
use Rattle.lines.specs.declared.Binary.{Binary}
use Rattle.lines.specs.declared.Line.TheVariants.{One, Two}
use Rattle.lines.specs.Word.{word_of}
use Rattle.tokens.proofs.Fronts.{shorter}
use Rattle.formula.specs.Grammar.{Tree, truth, falsity, mark, one, two, Level, Reads, is_true, is_false, is_name, is_one, is_path, is_group, con_one, con_more, alt_one, alt_more, is_alt, implies}
use Rattle.formula.specs.Words.{size, line_of, postfix}

sets_append : (os : List ℕ) (n : ℕ) (xs ys : List ℕ) → sets os n (xs ++ ys) ≡ sets (sets os n xs) (n + length xs) ys
sets_append os n [] ys = ap (λ k. sets os k ys) (sym (add-zero n))
sets_append os n (x ∷ xs) ys = sets_append (set os n x) (suc n) xs ys ∙ ap (λ k. sets (sets (set os n x) (suc n) xs) k ys) (suc-add n (length xs) ∙ sym (add-suc n (length xs)))

pub length_postfix : (n : ℕ) (t : Tree) → length (postfix n t) ≡ size t
length_postfix n truth = refl
length_postfix n falsity = refl
length_postfix n (mark m) = refl
length_postfix n (one o t) = length-append (postfix n t) _ ∙ omega (arith, length_postfix n t)
length_postfix n (two o a b) =
    length-append (postfix n a) _ ∙ ap (λ k. length (postfix n a) + k) (length-append (postfix (n + size a) b) _) ∙ omega (arith, length_postfix n a, length_postfix (n + size a) b)

-- a tree has a line
pub some : (t : Tree) → 0 < size t
some truth = omega arith
some falsity = omega arith
some (mark m) = omega arith
some (one o t) = omega arith
some (two o a b) = omega arith

-- the line of an operator behind those of its tree
pub lines_one : (o : Unary) (n : ℕ) (t : Tree) (os os1 os2 : List ℕ) (m l : ℕ) → os1 ≡ sets os n (postfix n t) → m ≡ n + size t → l ≡ m - 1 → os2 ≡ set os1 m (word_of (One o l)) → os2 ≡ sets os n (postfix n (one o t))
lines_one o n t os os1 os2 m l e1 em el e2 =
    let w = word_of (One o (line_of n t)) in
    let p = sets_append os n (postfix n t) (w ∷ []) ∙ ap (λ k. sets (sets os n (postfix n t)) (n + k) (w ∷ [])) (length_postfix n t) in
    let v : l ≡ line_of n t = omega (arith, el, em) in
    e2 ∙ ap (λ x. set x m (word_of (One o l))) e1 ∙ ap (λ k. set (sets os n (postfix n t)) k (word_of (One o l))) em ∙ ap (λ k. set (sets os n (postfix n t)) (n + size t) (word_of (One o k))) v ∙ sym p

-- the line of an operator behind those of its two trees
pub lines_two : (o : Binary) (n : ℕ) (a b : Tree) (os os1 os2 os3 : List ℕ) (m r i j : ℕ) → os1 ≡ sets os n (postfix n a) → m ≡ n + size a → os2 ≡ sets os1 m (postfix m b) → r ≡ m + size b → i ≡ m - 1 → j ≡ r - 1 → os3 ≡ set os2 r (word_of (Two o i j)) → os3 ≡ sets os n (postfix n (two o a b))
lines_two o n a b os os1 os2 os3 m r i j e1 em e2 er ei ej e3 =
    let k = n + size a in
    let w = word_of (Two o (line_of n a) (line_of k b)) in
    let front = sets os n (postfix n a) in
    let back = sets front k (postfix k b) in
    let p = sets_append os n (postfix n a) (postfix k b ++ (w ∷ [])) ∙ ap (λ x. sets front (n + x) (postfix k b ++ (w ∷ []))) (length_postfix n a) in
    let s = sets_append front k (postfix k b) (w ∷ []) ∙ ap (λ x. sets back (k + x) (w ∷ [])) (length_postfix k b) in
    let vi : i ≡ line_of n a = omega (arith, ei, em) in
    let vj : j ≡ line_of k b = omega (arith, ej, er, em) in
    let f2 : os2 ≡ back = e2 ∙ ap (λ x. sets x m (postfix m b)) e1 ∙ ap (λ x. sets front x (postfix x b)) em in
    let fr : r ≡ k + size b = omega (arith, er, em) in
    e3 ∙ ap (λ x. set x r (word_of (Two o i j))) f2 ∙ ap (λ x. set back x (word_of (Two o i j))) fr
    ∙ ap (λ x. set back (k + size b) (word_of (Two o x j))) vi ∙ ap (λ x. set back (k + size b) (word_of (Two o (line_of n a) x))) vj ∙ sym (p ∙ s)

-- a reading takes at least a byte for each line
pub less : {ns : List ℕ} {l : Level} {bs : List ℕ} {t : Tree} {r : List ℕ} → Reads ns l bs t r → size t + length r ≤ length bs
less (is_true e) = omega (arith, shorter tt e)
less (is_false e) = omega (arith, shorter tt e)
less (is_name e m) = omega (arith, shorter tt e)
less (is_one e u) = omega (arith, shorter tt e, less u)
less (is_path e f a h b g) = omega (arith, shorter tt e, shorter tt f, less a, shorter tt h, less b, shorter tt g)
less (is_group e f c) = omega (arith, shorter tt e, less f, shorter tt c)
less (con_one u) = less u
less (con_more c e u) = omega (arith, less c, shorter tt e, less u)
less (alt_one u) = less u
less (alt_more c e u) = omega (arith, less c, shorter tt e, less u)
less (is_alt a) = less a
less (implies a e f) = omega (arith, less a, shorter tt e, less f)
