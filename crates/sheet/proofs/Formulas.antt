-- The formulas of lines that fit, and their counts.
use Rattle.std.proofs.Common.{◌≡◌, ℕ, zero, suc, ◌+◌, ◌<◌, ◌≤◌, List, [], ◌∷◌, ◌++◌, length, get_or, sym, ◌∙◌, subst, inl, inr, ⊎_elim, arith}
use Rattle.std.proofs.lemmas.List.{ext_get_or}
use Rattle.lines.specs.declared.Line.{Line}
use Rattle.lines.specs.declared.Line.TheVariants.{False, True, Mark, One, Two}
use Rattle.lines.specs.declared.Unary.{Unary}
use Rattle.lines.specs.declared.Unary.TheVariants.{Not, Ex, Ax, Ef, Af, Eg, Ag}
use Rattle.lines.specs.declared.Binary.{Binary}
use Rattle.lines.specs.declared.Binary.TheVariants.{And, Or, Implies, Eu, Au, Er, Ar}
use Rattle.lines.specs.Word.{FitsAt}
use Rattle.ctl.specs.Operations.{Ops}
use Rattle.ctl.specs.Formulas.{Plan, Formula, F, T, mark, not, EX, AX, and, or, until}
use Rattle.ctl.specs.Values.{Takes}
use Rattle.ctl.specs.Theorems.{Meaning}
use Rattle.sheet.specs.Lines.{line_formula, one_formula, two_formula, formulas, formula, one_until, two_until, line_until, until_in, Fitting, Says, GreatestCount}
use Rattle.sheet.proofs.Alike.{Bounded, Agreeing, turned, with_entries, takes_alike}
use Rattle.sheet.proofs.LineOnce.{line_once}

-- the words say one list of lines
pub says_once : (a count : ℕ) (ws : List ℕ) (ls ks : List Line) → count ≤ 64 → a ≤ 256 → Says a count ws ls → Says a count ws ks → ls ≡ ks
says_once a count ws ls ks hc ha p q =
    let el = p.all in
    let ek = q.all in
    ext_get_or False ls ks (el ∙ sym ek)
    (λ k l.
    line_once k a (get_or ls k False) (get_or ks k False) (omega arith) ha (p.fit k l) (q.fit k (omega arith)) (p.words k (omega arith) ∙ sym (q.words k (omega arith))))

one_bounded : (a : ℕ) (o : Unary) (f : Formula) → Bounded a f → Bounded a (one_formula o f)
one_bounded a Not f b = b
one_bounded a Ex f b = b
one_bounded a Ax f b = b
one_bounded a Ef f b = (tt, b)
one_bounded a Af f b = (tt, b)
one_bounded a Eg f b = (tt, b)
one_bounded a Ag f b = (tt, b)

two_bounded : (a : ℕ) (o : Binary) (f g : Formula) → Bounded a f → Bounded a g → Bounded a (two_formula o f g)
two_bounded a And f g b c = (b, c)
two_bounded a Or f g b c = (b, c)
two_bounded a Implies f g b c = (b, c)
two_bounded a Eu f g b c = (b, c)
two_bounded a Au f g b c = (b, c)
two_bounded a Er f g b c = (b, c)
two_bounded a Ar f g b c = (b, c)

one_until_bounded : (a : ℕ) (o : Unary) (f : Formula) → Bounded a f → Bounded a (one_until o f)
one_until_bounded a Not f b = tt
one_until_bounded a Ex f b = tt
one_until_bounded a Ax f b = tt
one_until_bounded a Ef f b = (tt, b)
one_until_bounded a Af f b = (tt, b)
one_until_bounded a Eg f b = (tt, b)
one_until_bounded a Ag f b = (tt, b)

two_until_bounded : (a : ℕ) (o : Binary) (f g : Formula) → Bounded a f → Bounded a g → Bounded a (two_until o f g)
two_until_bounded a And f g b c = tt
two_until_bounded a Or f g b c = tt
two_until_bounded a Implies f g b c = tt
two_until_bounded a Eu f g b c = (b, c)
two_until_bounded a Au f g b c = (b, c)
two_until_bounded a Er f g b c = (b, c)
two_until_bounded a Ar f g b c = (b, c)

line_bounded : (a i : ℕ) (of : ℕ → Formula) → ((k : ℕ) → Bounded a (of k)) → (l : Line) → FitsAt i a l → Bounded a (line_formula of l)
line_bounded a i of b False f = tt
line_bounded a i of b True f = tt
line_bounded a i of b (Mark m) f = f
line_bounded a i of b (One o l) f = one_bounded a o (of l) (b l)
line_bounded a i of b (Two o l r) f = two_bounded a o (of l) (of r) (b l) (b r)

line_until_bounded : (a i : ℕ) (of : ℕ → Formula) → ((k : ℕ) → Bounded a (of k)) → (l : Line) → FitsAt i a l → Bounded a (line_until of l)
line_until_bounded a i of b False f = tt
line_until_bounded a i of b True f = tt
line_until_bounded a i of b (Mark m) f = tt
line_until_bounded a i of b (One o l) f = one_until_bounded a o (of l) (b l)
line_until_bounded a i of b (Two o l r) f = two_until_bounded a o (of l) (of r) (b l) (b r)

push_bounded : (a : ℕ) (fs : List Formula) (g : Formula) → ((k : ℕ) → Bounded a (get_or fs k F)) → Bounded a g → (k : ℕ) → Bounded a (get_or (fs ++ (g ∷ [])) k F)
push_bounded a [] g b c zero = c
push_bounded a [] g b c (suc k) = tt
push_bounded a (f ∷ fs) g b c zero = b 0
push_bounded a (f ∷ fs) g b c (suc k) = push_bounded a fs g (λ i. b (suc i)) c k

all_bounded : (a i : ℕ) (fs : List Formula) (ls : List Line) → ((k : ℕ) → Bounded a (get_or fs k F)) → ((k : ℕ) → k < length ls → FitsAt (i + k) a (get_or ls k False)) → (k : ℕ) → Bounded a (get_or (formulas fs ls) k F)
all_bounded a i fs [] b f k = b k
all_bounded a i fs (l ∷ ls) b f k =
    all_bounded a (i + 1) (fs ++ (line_formula (λ j. get_or fs j F) l ∷ [])) ls
    (push_bounded a fs _ b (line_bounded a (i + 0) (λ j. get_or fs j F) b l (f 0 (omega arith))))
    (λ j h. let e : i + suc j ≡ i + 1 + j = omega arith in subst (λ x. FitsAt x a (get_or ls j False)) e (f (suc j) (omega arith))) k

pub formula_bounded : (a : ℕ) (ls : List Line) → Fitting a ls → (k : ℕ) → Bounded a (formula ls k)
formula_bounded a ls f k =
    all_bounded a 0 [] ls (λ j. none j) (λ j h. let e : j ≡ 0 + j = omega arith in subst (λ x. FitsAt x a (get_or ls j False)) e (f j h)) k
  where
    none : (j : ℕ) → Bounded a (get_or [] j F)
    none zero = tt
    none (suc j) = tt

pub until_bounded : (a : ℕ) (ls : List Line) → Fitting a ls → (k : ℕ) → k < length ls → Bounded a (until_in ls k)
until_bounded a ls f k h = line_until_bounded a k (formula ls) (formula_bounded a ls f) (get_or ls k False) (f k h)

-- no more rounds change something than there are stages
takes_few : {V : Type 0} (o : Ops V) (p : Plan V) → Meaning o → (φ : Formula) (r : ℕ) → Takes o p φ r → r ≤ p.stages
takes_few o p m F r t = omega arith
takes_few o p m T r t = omega arith
takes_few o p m (mark k) r t = omega arith
takes_few o p m (not φ) r t = omega arith
takes_few o p m (EX φ) r t = omega arith
takes_few o p m (AX φ) r t = omega arith
takes_few o p m (and φ ψ) r t = omega arith
takes_few o p m (or φ ψ) r t = omega arith
takes_few o p m (until w φ ψ) r t =
    let x = m.exists p φ in
    let y = m.exists p ψ in
    (m.settle p w x.0 y.0).few r (t x.0 y.0 x.1 y.1)

pub count_few : {V : Type 0} (o : Ops V) (p : Plan V) → Meaning o → (ls : List Line) (r : ℕ) → GreatestCount o p ls r → r ≤ p.stages
count_few o p m ls r g = ⊎_elim (λ e. omega arith) (λ w. takes_few o p m (until_in ls w.0) r w.2) g.reached

-- the greatest count is one number
pub count_once : {V : Type 0} (o : Ops V) (p : Plan V) (ls : List Line) (r s : ℕ) → GreatestCount o p ls r → GreatestCount o p ls s → r ≡ s
count_once o p ls r s g h = let d = below r s g h in let e = below s r h g in omega arith
  where
    below : (r s : ℕ) → GreatestCount o p ls r → GreatestCount o p ls s → r ≤ s
    below r s g h = ⊎_elim (λ e. omega arith) (λ w. h.bounds w.0 r w.1 w.2) g.reached

pub count_alike : {V : Type 0} (o : Ops V) (n a : ℕ) (f g : ℕ → ℕ → V) (h k : ℕ → ℕ → V) → Agreeing n a f g h k → (ls : List Line) → Fitting a ls → (r : ℕ) →
    GreatestCount o (with_entries n f h) ls r → GreatestCount o (with_entries n g k) ls r
count_alike o n a f g h k e ls fit r c = record {
  bounds = λ i d l t. c.bounds i d l (takes_alike o n a g f k h (turned e) (until_in ls i) (until_bounded a ls fit i l) d t);
  reached = ⊎_elim inl (λ w. inr (w.0, w.1, takes_alike o n a f g h k e (until_in ls w.0) (until_bounded a ls fit w.0 w.1) r w.2)) c.reached;
}
