-- Lists in two parts, of which a call is lent the first, and writes into it.
use Rattle.std.proofs.Common.{◌≡◌, ℕ, zero, suc, ◌+◌, ◌-◌, ◌<◌, ◌≤◌, ◌≢◌, ◌⊎◌, List, [], ◌∷◌, ◌++◌, length, get_or, take, drop, set, replicate, sym, refl, ap, ◌∙◌, inl, inr, ⊎_elim, arith, drop-set-lt}
use lib.Seq.{sets}
use Rattle.std.proofs.lemmas.Bool.{cases_lt}
use Rattle.std.proofs.lemmas.List.{get_or_append_left, get_or-drop, get_or_past, get_or-set_same, get_or-set_other, length-set, length-drop, length-replicate, get_or-replicate, take-append-drop, ext_get_or}
use Rattle.formula.specs.Tells.{cleared}

set_take : {A : Type 0} (k p : ℕ) (s : List A) (v : A) → set (take k s) p v ≡ take k (set s p v)
set_take zero p s v = refl
set_take (suc k) p [] v = refl
set_take (suc k) zero (x ∷ s) v = refl
set_take (suc k) (suc p) (x ∷ s) v = ap (λ l. x ∷ l) (set_take k p s v)

-- what is written into the beginning is written into the whole
pub set_front : {A : Type 0} (k p : ℕ) (s : List A) (v : A) → p < k → set (take k s) p v ++ drop k s ≡ set s p v
set_front k p s v h =
    ap (λ l. l ++ drop k s) (set_take k p s v) ∙ ap (λ l. take k (set s p v) ++ l) (sym (drop-set-lt k s p v h)) ∙ take-append-drop k (set s p v)

pub sets_front : {A : Type 0} (k p : ℕ) (s vs : List A) → p + length vs ≤ k → sets (take k s) p vs ++ drop k s ≡ sets s p vs
sets_front k p s [] h = take-append-drop k s
sets_front k p s (v ∷ vs) h =
    ap (λ l. sets l (suc p) vs ++ drop k s) (set_take k p s v)
    ∙ ap (λ l. sets (take k (set s p v)) (suc p) vs ++ l) (sym (drop-set-lt k s p v (omega arith)))
    ∙ sets_front k (suc p) (set s p v) vs (omega arith)

-- the entries after a run of writes
pub sets_off : {A : Type 0} (d : A) (p : ℕ) (s vs : List A) (i : ℕ) → (i < p) ⊎ (p + length vs ≤ i) → get_or (sets s p vs) i d ≡ get_or s i d
sets_off d p s [] i h = refl
sets_off d p s (v ∷ vs) i h =
    let ne : i ≢ p = ⊎_elim (λ l e. omega arith) (λ l e. omega arith) h in
    sets_off d (suc p) (set s p v) vs i (⊎_elim (λ l. inl (omega arith)) (λ l. inr (omega arith)) h) ∙ get_or-set_other s p i v d ne

pub sets_at : {A : Type 0} (d : A) (p : ℕ) (s vs : List A) (i : ℕ) → i < length vs → p + length vs ≤ length s → get_or (sets s p vs) (p + i) d ≡ get_or vs i d
sets_at d p s [] i h k = absurd (omega arith)
sets_at d p s (v ∷ vs) zero h k =
    let e : p + 0 ≡ p = omega arith in
    ap (λ x. get_or (sets (set s p v) (suc p) vs) x d) e ∙ sets_off d (suc p) (set s p v) vs p (inl (omega arith)) ∙ get_or-set_same s p v d (omega arith)
sets_at d p s (v ∷ vs) (suc i) h k =
    let e : p + suc i ≡ suc p + i = omega arith in
    let l = length-set s p v in
    ap (λ x. get_or (sets (set s p v) (suc p) vs) x d) e ∙ sets_at d (suc p) (set s p v) vs i (omega arith) (omega arith)

-- words of which all after the first k are zero are left as they stood
pub cleared_same : (k : ℕ) (ws : List ℕ) → ((i : ℕ) → k ≤ i → get_or ws i 0 ≡ 0) → cleared k ws ≡ ws
cleared_same k ws zero_after =
    let size = length-drop k ws in
    let size2 = length-replicate {A = ℕ} (length ws - k) 0 in
    ap (λ l. take k ws ++ l)
    (ext_get_or 0 (replicate (length ws - k) 0) (drop k ws) (omega arith)
    (λ i l. get_or-replicate (length ws - k) i 0 0 (omega arith) ∙ sym (get_or-drop k ws i 0 ∙ zero_after (k + i) (omega arith))))
    ∙ take-append-drop k ws

-- an entry of a beginning of k, put back before the rest
pub back_before : {A : Type 0} (d : A) (k : ℕ) (u s : List A) (i : ℕ) → length u ≡ k → i < k → get_or (u ++ drop k s) i d ≡ get_or u i d
back_before d k u s i e h = get_or_append_left u (drop k s) d i (omega arith)

-- the same entries everywhere
pub always : {A : Type 0} (v : A) (k i : ℕ) → get_or (replicate k v) i v ≡ v
always v k i =
    ⊎_elim (λ l. get_or-replicate k i v v l) (λ l. get_or_past (replicate k v) i v (let e = length-replicate k v in omega arith)) (cases_lt i k)
