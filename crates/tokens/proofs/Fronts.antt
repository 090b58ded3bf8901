-- The front of a text, byte by byte, and the one token that stands there. Assumes nothing.
use Rattle.std.specs.List.{prefix_len}
use Rattle.std.proofs.Math.Seq.{take-append_seam, drop-append_seam}
use Rattle.std.proofs.lemmas.List.{append_assoc, replicate-append-replicate}
use Rattle.std.proofs.lemmas.List.Folds.{length-prefix_len}
use Rattle.std.proofs.lemmas.Bool.{cases_lt}
use Rattle.std.proofs.Common.{◌≡◌, ℕ, zero, suc, ◌+◌, ◌<◌, ◌≤◌, min, Bool, true, false, cond, eqb, leb, ◌⊎◌, List, [], ◌∷◌, ◌++◌, length, take, drop, replicate, sym, refl, ap, ◌∙◌, subst, inl, inr, one-add, arith, length-append, take-append-drop, drop_of_length-le, length-drop, eq-eqb, ne_eqb, le-leb}
use borrow.Author.Tests.{lt-leb, both_ways}
use Rattle.std.proofs.lemmas.Bool.Decides.{nat_tests}
use Rattle.lines.specs.declared.Unary.{Unary}
use Rattle.lines.specs.declared.Unary.TheVariants.{Not, Ex, Ax, Ef, Af, Eg, Ag}
use Rattle.tokens.specs.declared.Paths.{Paths}
use Rattle.tokens.specs.declared.Paths.TheVariants.{Exists, All}
use Rattle.tokens.specs.declared.Link.TheVariants.{Until, Release}
use Rattle.tokens.specs.Bytes.{small, in_name, AllInName, Name, Ended, run, skip}
use Rattle.tokens.specs.Tokens.{Tok, t_name, t_prefix, t_paths, t_link, tTrue, tFalse, tAnd, tOr, tImplies, tOpen, tClose, tLeft, tRight, tEnd, tStray}
use Rattle.tokens.specs.Tokens.{bytes_of, Alone, Whole, Stands, Seen}

-- ---- spaces

skip_spaces : (i : ℕ) (xs : List ℕ) → skip (replicate i 32 ++ xs) ≡ skip xs
skip_spaces zero xs = refl
skip_spaces (suc i) xs = skip_spaces i xs

un_skip_more : (b : ℕ) (bs : List ℕ) (t : Bool) → eqb b 32 ≡ t → (i : ℕ) × (bs ≡ replicate i 32 ++ skip bs) → (i : ℕ) × (b ∷ bs ≡ replicate i 32 ++ cond t (skip bs) (b ∷ bs))
un_skip_more b bs true e h = let s = borrow.Author.Tests.eqb-true b 32 e in (suc h.0, λ k. s k ∷ h.1 k)
un_skip_more b bs false e h = (zero, refl)

un_skip : (bs : List ℕ) → (i : ℕ) × (bs ≡ replicate i 32 ++ skip bs)
un_skip [] = (zero, refl)
un_skip (b ∷ bs) = un_skip_more b bs (eqb b 32) refl (un_skip bs)

-- the spaces that are skipped are those that pass
pub skip_is : (bs : List ℕ) → drop (prefix_len (λ b. eqb b 32) bs) bs ≡ skip bs
skip_is [] = refl
skip_is (b ∷ bs) =
    elim (eqb b 32) as (λ t. drop (cond t (1 + prefix_len (λ c. eqb c 32) bs) 0) (b ∷ bs) ≡ cond t (skip bs) (b ∷ bs))
    [ true ↦ ap (λ n. drop n (b ∷ bs)) (one-add (prefix_len (λ c. eqb c 32) bs)) ∙ skip_is bs | false ↦ refl ]

-- a text from a place beyond its end is empty, as from its end
pub drop_min : (i j : ℕ) (bs : List ℕ) → j ≡ min i (length bs) → drop j bs ≡ drop i bs
drop_min i j bs e =
    elim (cases_lt i (length bs)) [
      | inl lt ↦ let f : j ≡ i = omega (arith, e) in ap (λ k. drop k bs) f
      | inr ge ↦ drop_of_length-le bs (omega (arith, e)) ∙ sym (drop_of_length-le bs ge)
    ]

skip_short : (bs : List ℕ) → length (skip bs) ≤ length bs
skip_short bs = omega (arith, ap length (skip_is bs), length-drop (prefix_len (λ b. eqb b 32) bs) bs)

-- a text that keeps all its bytes begins with no space
pub not_space : (b : ℕ) (bs : List ℕ) → skip (b ∷ bs) ≡ b ∷ bs → b ≡ 32 → ⊥
not_space b bs h e = let f = skip_short bs in let g = ap (λ c. cond c (skip bs) (b ∷ bs)) (eq-eqb b 32 e) in omega (arith, ap length (sym g ∙ h))

pub skip_twice : (bs : List ℕ) → skip (skip bs) ≡ skip bs
skip_twice bs = let h = un_skip bs in sym (skip_spaces h.0 (skip bs)) ∙ ap skip (sym h.1)

-- ---- names

-- the bytes of a run are bytes of a name, and what follows is not
run_all_more : (b : ℕ) (bs : List ℕ) (t : Bool) → in_name b ≡ t → AllInName (take (run bs) bs) → AllInName (take (cond t (1 + run bs) 0) (b ∷ bs))
run_all_more b bs true e h = subst (λ n. AllInName (take n (b ∷ bs))) (sym (one-add (run bs))) (e, h)
run_all_more b bs false e h = tt

run_all : (bs : List ℕ) → AllInName (take (run bs) bs)
run_all [] = tt
run_all (b ∷ bs) = run_all_more b bs (in_name b) refl (run_all bs)

run_ends_more : (b : ℕ) (bs : List ℕ) (t : Bool) → in_name b ≡ t → Ended (drop (run bs) bs) → Ended (drop (cond t (1 + run bs) 0) (b ∷ bs))
run_ends_more b bs true e h = subst (λ n. Ended (drop n (b ∷ bs))) (sym (one-add (run bs))) h
run_ends_more b bs false e h = e

run_ends : (bs : List ℕ) → Ended (drop (run bs) bs)
run_ends [] = tt
run_ends (b ∷ bs) = run_ends_more b bs (in_name b) refl (run_ends bs)

-- a run is as long as the bytes of a name go
run_name : (bs r : List ℕ) → AllInName bs → Ended r → run (bs ++ r) ≡ length bs
run_name [] [] a e = refl
run_name [] (c ∷ r) a e = ap (λ t. cond t (1 + run r) 0) e
run_name (b ∷ bs) r a e = ap (λ t. cond t (1 + run (bs ++ r)) 0) a.0 ∙ omega (arith, run_name bs r a.1 e)

-- ---- the token at the front of a text without spaces there, computed

-- the prefixes EX and AX, EF and AF, EG and AG
abbrev next_of : Paths → Unary
next_of Exists = Ex
next_of All = Ax

abbrev finally_of : Paths → Unary
finally_of Exists = Ef
finally_of All = Af

abbrev globally_of : Paths → Unary
globally_of Exists = Eg
globally_of All = Ag

pub quant : Paths → List ℕ → Tok × List ℕ
quant q [] = (t_paths q, [])
quant q (c ∷ cs) = cond (eqb c 88) (t_prefix (next_of q), cs) (cond (eqb c 70) (t_prefix (finally_of q), cs) (cond (eqb c 71) (t_prefix (globally_of q), cs) (t_paths q, c ∷ cs)))

pub dash : List ℕ → Tok × List ℕ
dash [] = (tStray, [])
dash (c ∷ cs) = cond (eqb c 62) (tImplies, cs) (tStray, c ∷ cs)

pub named : ℕ → List ℕ → Tok × List ℕ
named b bs = cond (leb (run bs) 15) (t_name (b ∷ take (run bs) bs), drop (run bs) bs) (tStray, bs)

abbrev pub starts : ℕ → List ℕ → Tok × List ℕ
starts b bs =
    cond (eqb b 33) (t_prefix Not, bs) (cond (eqb b 38) (tAnd, bs) (cond (eqb b 40) (tOpen, bs) (cond (eqb b 41) (tClose, bs)
    (cond (eqb b 45) (dash bs) (cond (eqb b 65) (quant All bs) (cond (eqb b 69) (quant Exists bs) (cond (eqb b 70) (tFalse, bs)
    (cond (eqb b 82) (t_link Release, bs) (cond (eqb b 84) (tTrue, bs) (cond (eqb b 85) (t_link Until, bs) (cond (eqb b 91) (tLeft, bs)
    (cond (eqb b 93) (tRight, bs) (cond (eqb b 124) (tOr, bs) (cond (small b) (named b bs) (tStray, bs)))))))))))))))

abbrev front : List ℕ → Tok × List ℕ
front [] = (tEnd, [])
front (b ∷ bs) = starts b bs

letter : (b : ℕ) (bs : List ℕ) → small b ≡ true → starts b bs ≡ named b bs
letter b bs h = grind (arith, nat_tests)

no_space : (b : ℕ) → small b ≡ true → eqb b 32 ≡ false
no_space b h = grind (arith, nat_tests)

alone : (q : Paths) (r : List ℕ) → Alone r → quant q r ≡ (t_paths q, r)
unfolding quant
alone q [] w = refl
alone q (c ∷ r) w = simp (ne_eqb c 88 w.0, ne_eqb c 70 w.1, ne_eqb c 71 w.2)

name_front : (b : ℕ) (bs r : List ℕ) → Name (b ∷ bs) → Ended r → starts b (bs ++ r) ≡ (t_name (b ∷ bs), r)
unfolding named
name_front b bs r w e =
    let m = bs ++ r in
    let n = run_name bs r w.1 e in
    letter b m w.0 ∙
    ap (λ c. cond c (t_name (b ∷ take (run m) m), drop (run m) m) (tStray, m)) (le-leb (run m) 15 (omega (arith, n, w.2))) ∙
    (λ k. (t_name (b ∷ (ap (λ x. take x m) n ∙ take-append_seam bs r) k), (ap (λ x. drop x m) n ∙ drop-append_seam bs r) k))

front_of : (k : Tok) (r : List ℕ) → Whole k r → front (bytes_of k ++ r) ≡ (k, r)
unfolding quant dash
front_of (t_name []) r w = absurd w.0
front_of (t_name (b ∷ bs)) r w = name_front b bs r w.0 w.1
front_of (t_paths Exists) r w = alone Exists r w
front_of (t_paths All) r w = alone All r w
front_of tEnd r w = ap front w ∙ (λ k. (tEnd, sym w k))
front_of tStray r w = absurd w
front_of (t_prefix Not) r w = refl
front_of (t_prefix Ex) r w = refl
front_of (t_prefix Ax) r w = refl
front_of (t_prefix Ef) r w = refl
front_of (t_prefix Af) r w = refl
front_of (t_prefix Eg) r w = refl
front_of (t_prefix Ag) r w = refl
front_of (t_link Until) r w = refl
front_of (t_link Release) r w = refl
front_of k r w = refl

-- a token's bytes begin with no space
skip_bytes : (k : Tok) (r : List ℕ) → Whole k r → skip (bytes_of k ++ r) ≡ bytes_of k ++ r
skip_bytes (t_name []) r w = absurd w.0
skip_bytes (t_name (b ∷ bs)) r w = ap (λ c. cond c (skip (bs ++ r)) (b ∷ (bs ++ r))) (no_space b w.0.0)
skip_bytes tEnd r w = ap skip w ∙ sym w
skip_bytes tStray r w = absurd w
skip_bytes (t_prefix Not) r w = refl
skip_bytes (t_prefix Ex) r w = refl
skip_bytes (t_prefix Ax) r w = refl
skip_bytes (t_prefix Ef) r w = refl
skip_bytes (t_prefix Af) r w = refl
skip_bytes (t_prefix Eg) r w = refl
skip_bytes (t_prefix Ag) r w = refl
skip_bytes (t_link Until) r w = refl
skip_bytes (t_link Release) r w = refl
skip_bytes (t_paths Exists) r w = refl
skip_bytes (t_paths All) r w = refl
skip_bytes k r w = refl

-- ---- one token stands at the front of a text

unspaced : {u : List ℕ} {k : Tok} {r : List ℕ} → Stands u k r → Stands (skip u) k r
unspaced {u} {k} {r} h = record { spaces = 0; spelled = ap skip h.spelled ∙ skip_spaces h.spaces (bytes_of k ++ r) ∙ skip_bytes k r h.whole; whole = h.whole }

spaced : {u : List ℕ} {k : Tok} {r : List ℕ} → Stands (skip u) k r → Stands u k r
spaced {u} {k} {r} h =
    let a = un_skip u in
    let joined = sym (append_assoc (replicate a.0 32) (replicate h.spaces 32) (bytes_of k ++ r)) ∙ ap (λ (l : List ℕ). l ++ (bytes_of k ++ r)) (replicate-append-replicate a.0 h.spaces 32) in
    record { spaces = a.0 + h.spaces; spelled = a.1 ∙ ap (λ (l : List ℕ). replicate a.0 32 ++ l) h.spelled ∙ joined; whole = h.whole }

told : {u : List ℕ} {k : Tok} {r : List ℕ} → Stands u k r → front (skip u) ≡ (k, r)
told {u} {k} {r} h = ap front (ap skip h.spelled ∙ skip_spaces h.spaces (bytes_of k ++ r) ∙ skip_bytes k r h.whole) ∙ front_of k r h.whole

pub same_token : {u : List ℕ} {j k : Tok} {r s : List ℕ} → Stands u j r → Stands u k s → (j ≡ k) × (r ≡ s)
same_token h g = let e = sym (told h) ∙ told g in (ap (λ (x : Tok × List ℕ). x.0) e, ap (λ (x : Tok × List ℕ). x.1) e)

-- no token stands where the computed one is none
none : {u r : List ℕ} → front (skip u) ≡ (tStray, r) → (j : Tok) (s : List ℕ) → Stands u j s → ⊥
none e j s h = subst (λ k. Whole k s) (ap (λ (x : Tok × List ℕ). x.0) (sym (told h) ∙ e)) h.whole

-- a token of the grammar
abbrev pub Solid : Tok → Type 0
Solid tStray = ⊥
Solid k = Unit {0}

pub seen : {u : List ℕ} {k : Tok} {r : List ℕ} → Solid k → Stands u k r → Seen u k r
seen p h = record { stands = λ n. h; stray = λ e j s d. subst Solid e p }

unseen : {u r : List ℕ} (s : List ℕ) → front (skip u) ≡ (tStray, s) → Seen u tStray r
unseen s e = record { stands = λ n. absurd (n refl); stray = λ x. none e }

-- what is seen behind spaces
pub seen_behind : {u v : List ℕ} {k : Tok} {r : List ℕ} → v ≡ skip u → Seen v k r → Seen u k r
seen_behind {u} {v} {k} {r} e h = record {
  stands = λ n. spaced (subst (λ x. Stands x k r) e (h.stands n));
  stray = λ x j s d. h.stray x j s (subst (λ y. Stands y j s) (sym e) (unspaced d));
}

-- a text that begins with a token's bytes
begun : {bs : List ℕ} (k : Tok) (r : List ℕ) → Solid k → bs ≡ bytes_of k ++ r → Whole k r → Seen bs k r
begun k r p e w = seen p (record { spaces = 0; spelled = e; whole = w })

-- ---- `-`

pub no_arrow : (m r : List ℕ) → ((ms : List ℕ) → m ≡ 62 ∷ ms → ⊥) → Seen (45 ∷ m) tStray r
unfolding dash
no_arrow [] r n = unseen [] refl
no_arrow (c ∷ cs) r n = unseen (c ∷ cs) (ap (λ t. cond t (tImplies, cs) (tStray, c ∷ cs)) (ne_eqb c 62 (λ e. n cs (ap (λ x. x ∷ cs) e))))

-- ---- names and other bytes

pub is_small : (b : ℕ) → 97 ≤ b → b ≤ 122 → small b ≡ true
is_small b low high = grind (arith, nat_tests)

pub name_on : (b n : ℕ) (m : List ℕ) → small b ≡ true → n ≡ run m → n ≤ 15 → Seen (b ∷ m) (t_name (take (1 + n) (b ∷ m))) (drop (1 + n) (b ∷ m))
name_on b n m s en le =
    let all : Name (b ∷ take n m) = (s, subst (λ k. AllInName (take k m)) (sym en) (run_all m), omega (arith, en, le, ap (λ k. length (take k m)) en, length-prefix_len in_name m)) in
    subst (λ k. Seen (b ∷ m) (t_name (take k (b ∷ m))) (drop k (b ∷ m))) (sym (one-add n))
    (begun (t_name (b ∷ take n m)) (drop n m) tt (ap (λ (l : List ℕ). b ∷ l) (sym (take-append-drop n m))) (all, subst (λ k. Ended (drop k m)) (sym en) (run_ends m)))

pub name_off : (b n : ℕ) (m r : List ℕ) → small b ≡ true → n ≡ run m → 15 < n → Seen (b ∷ m) tStray r
unfolding named
name_off b n m r s en lt =
    unseen m (ap (λ t. front (cond t (skip m) (b ∷ m))) (no_space b s) ∙ letter b m s ∙
    ap (λ c. cond c (t_name (b ∷ take (run m) m), drop (run m) m) (tStray, m)) (lt-leb (run m) 15 (subst (λ k. 15 < k) en lt)))

pub other : (b : ℕ) (m r : List ℕ) → (b ≡ 32 → ⊥) → starts b m ≡ (tStray, m) → Seen (b ∷ m) tStray r
other b m r n e = unseen m (ap (λ t. front (cond t (skip m) (b ∷ m))) (ne_eqb b 32 n) ∙ e)

-- ---- what a reader takes from a token

solid_or_stray : (k : Tok) → Solid k ⊎ (k ≡ tStray)
solid_or_stray tStray = inr refl
solid_or_stray k = inl tt

pub stands_of : {u : List ℕ} {k : Tok} {r : List ℕ} → Solid k → Seen u k r → Stands u k r
stands_of p h = h.stands (λ e. subst Solid e p)

-- what was seen is what stands there
pub seen_same : {u : List ℕ} {j k : Tok} {r s : List ℕ} → Seen u j r → Stands u k s → (j ≡ k) × (r ≡ s)
seen_same {j = j} {k = k} {s = s} h g = elim (solid_or_stray j) [ inl p ↦ same_token (stands_of p h) g | inr e ↦ absurd (h.stray e k s g) ]

-- a token with bytes of its own
abbrev pub Long : Tok → Type 0
Long tEnd = ⊥
Long tStray = ⊥
Long k = Unit {0}

prefix_some : (o : Unary) → 0 < length (bytes_of (t_prefix o))
prefix_some Not = omega arith
prefix_some o = omega arith

bytes_some : (k : Tok) (r : List ℕ) → Long k → Whole k r → 0 < length (bytes_of k)
bytes_some (t_name []) r l w = absurd w.0
bytes_some (t_name (b ∷ bs)) r l w = omega arith
bytes_some (t_prefix o) r l w = prefix_some o
bytes_some (t_link Until) r l w = omega arith
bytes_some (t_link Release) r l w = omega arith
bytes_some tEnd r l w = absurd l
bytes_some tStray r l w = absurd l
bytes_some k r l w = omega arith

-- less of the text is left behind it
pub shorter : {bs : List ℕ} {k : Tok} {r : List ℕ} → Long k → Stands bs k r → length r < length bs
shorter {bs} {k} {r} l h =
    omega (arith, ap length h.spelled, length-append (replicate h.spaces 32) (bytes_of k ++ r), length-append (bytes_of k) r, bytes_some k r l h.whole)
