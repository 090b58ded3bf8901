-- The names of a list, from the parts between its spaces. Assumes nothing.
use Rattle.std.proofs.Common.{◌≡◌, ℕ, ◌<◌, ◌≤◌, Bool, true, false, ◌==◌, ◌&&◌, List, [], ◌∷◌, length, get_or, Option, Some, None, MatchOption, ◌≢◌, inl, inr, refl, sym, ◌∙◌, ap, subst, arith, zero-add}
use borrow.Author.Tests.{clash}
use Rattle.std.specs.Bool.{MatchBool}
use Rattle.std.specs.List.{AllWithin, HoldsAt, list_all, enumerate_from}
use Rattle.std.proofs.lemmas.Bool.{cases_order, and_parts}
use Rattle.std.proofs.lemmas.List.FromFn.{get_or-enumerate_from, length-enumerate_from}
use Rattle.tokens.specs.Bytes.{small, in_name, AllInName, Name}
use Rattle.tokens.specs.Names.{parts, names_of, Proper, Listed}

-- ---- a name, byte by byte

all_in_name : (bs : List ℕ) → list_all in_name bs ≡ true → AllInName bs
all_in_name [] h = tt
all_in_name (b ∷ bs) h = let a = and_parts _ _ h in (a.0, all_in_name bs a.1)

in_name_all : (bs : List ℕ) → AllInName bs → list_all in_name bs ≡ true
in_name_all [] h = refl
in_name_all (b ∷ bs) h = ap (λ t. t && list_all in_name bs) h.0 ∙ in_name_all bs h.1

pub name_of : (b : ℕ) (bs ws : List ℕ) (r : Bool) → ws ≡ b ∷ bs → small b ≡ true → length bs ≤ 15 → r ≡ list_all in_name bs → (r ≡ true → Name ws) × (Name ws → r ≡ true)
name_of b bs ws r e s l a = subst (λ w. (r ≡ true → Name w) × (Name w → r ≡ true)) (sym e) (λ t. (s, all_in_name bs (sym a ∙ t), l), λ n. a ∙ in_name_all bs n.1)

-- ---- lists with bytes in them

-- the names are the parts
pub names_parts : (bs : List ℕ) → (length bs == 0) ≡ false → names_of bs ≡ parts bs
names_parts [] h = absurd (clash (sym h))
names_parts (b ∷ bs) h = refl

-- the place of the first part with the bytes of a name, if there is one
pub first_listed : (bs s : List ℕ) (r : Option ℕ) → (length bs == 0) ≡ false → MatchOption r (AllWithin (λ w. w ≢ s) (parts bs) 0 (length (parts bs))) (λ m. (m < length (parts bs)) × HoldsAt (λ w. w ≡ s) (parts bs) m × AllWithin (λ w. w ≢ s) (parts bs) 0 m) → MatchOption r ((m : ℕ) → Listed bs s m → ⊥) (λ m. Listed bs s m)
first_listed [] s r n h = absurd (clash (sym n))
first_listed (b ∷ bs) s None n h = λ m l. h m [] (omega arith) l.within l.here
first_listed (b ∷ bs) s (Some m) n h = record { within = h.0; here = h.1 []; first = λ k l. h.2 k [] (omega arith) l }

-- a name has one place
pub one_place : {ns s : List ℕ} {i j : ℕ} → Listed ns s i → Listed ns s j → i ≡ j
one_place {ns} {s} {i} {j} h g =
    elim (cases_order i j) [ inl e ↦ e | inr o ↦ elim o [ inl l ↦ absurd (g.first i l h.here) | inr l ↦ absurd (h.first j l g.here) ] ]

-- a name at the place of its mark, of so many marks
abbrev pub Named : List ℕ → ℕ → ℕ × List ℕ → Type 0
Named bs a p = (p.0 < a) × Name p.1 × Listed bs p.1 p.0

at_place : (P : ℕ × List ℕ → Type 0) (ps : List (List ℕ)) (k : ℕ) → k < length ps → P (get_or (enumerate_from 0 ps) k (0, [])) → P (k, get_or ps k [])
at_place P ps k h = subst P (get_or-enumerate_from 0 ps k (0, []) h ∙ ap (λ n. (n, get_or ps k [])) (zero-add k))

-- a list is proper exactly if each part is named so, and there are as many as there are marks
pub all_named : (bs : List ℕ) (a : ℕ) (r : Bool) → (length bs == 0) ≡ false → MatchBool r (AllWithin (Named bs a) (enumerate_from 0 (parts bs)) 0 (length (enumerate_from 0 (parts bs)))) ((k : ℕ) × (k < length (enumerate_from 0 (parts bs))) × HoldsAt (λ p. Named bs a p → ⊥) (enumerate_from 0 (parts bs)) k) → (r ≡ true → length (names_of bs) ≡ a → Proper bs a) × (Proper bs a → r ≡ true)
all_named [] a r n h = absurd (clash (sym n))
all_named (b ∷ bs) a true n h =
    let l = length-enumerate_from 0 (parts (b ∷ bs)) in (
      λ t e.
          let at : (k : ℕ) → k < a → Named (b ∷ bs) a (k, get_or (parts (b ∷ bs)) k []) = λ k i. at_place (Named (b ∷ bs) a) (parts (b ∷ bs)) k (omega arith) (h k (0, []) (omega arith) (omega arith)) in
          record { count = e; each = λ k i. (at k i).1; distinct = λ i j o m s. (at j m).2.first i o s },
      λ p. refl,
    )
all_named (b ∷ bs) a false n h =
    let l = length-enumerate_from 0 (parts (b ∷ bs)) in
    let i : h.0 < length (parts (b ∷ bs)) = omega (arith, h.1) in (
      λ t e. absurd (clash t),
      λ p.
          let e : length (parts (b ∷ bs)) ≡ a = p.count in
          absurd (at_place (λ q. Named (b ∷ bs) a q → ⊥) (parts (b ∷ bs)) h.0 i (h.2 (0, [])) (omega arith, p.each h.0 (omega arith), record { within = i; here = refl; first = λ k o s. p.distinct k h.0 o (omega arith) s })),
    )
