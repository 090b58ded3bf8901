-- The pair of two scales is a scale, and of two logics a logic.
use Rattle.std.specs.Prelude.{◌≡◌, ℕ, ◌+◌, ◌-◌, ◌*◌, ◌/◌, ◌%◌, ◌<◌, ◌≤◌, Bool, true, false, not, ◌&&◌, ◌||◌, ◌≢◌, nat_le, nat_lt, refl}
use Rattle.std.proofs.Common.{sym, ap, ◌∙◌, subst, inl, inr, arith, mul-le-mul_left, mul-le-mul_right, div-lt_iff_lt-mul, mod-lt, div-add-mod'}
use Rattle.std.proofs.Math.Arith.{digits_lt, digits_div, digits_mod}
use Rattle.std.proofs.lemmas.Bool.{leb-true, lt-ltb, le-ltb, cases_lt, and_parts, and_from, and_left, cond-true, cond-false, both_ways}
use Rattle.scale.specs.Model.{Model, Is, Le}
use Rattle.scale.specs.Laws.{Lawful, Counted, Opposed}
use Rattle.scale.proofs.Bools.{and_true, true_and}
use Rattle.compounds.specs.Pairs.{pair, pair_at, pair_model, pair_opposite, pair_partner}
use Rattle.compounds.specs.declared.pair.PairValue.{PairValue}

pub pair_path : {A B : Type 0} {a c : A} {b d : B} → a ≡ c → b ≡ d → pair a b ≡ pair c d
pair_path {a} {c} {b} {d} p q = ap (λ x. pair x b) p ∙ ap (λ y. pair c y) q

module _ {A B : Type 0} (few : Bool) (a : Model A) (b : Model B) (la : Lawful a) (lb : Lawful b) where
  left : (v : PairValue A B) → Is (pair_at few a b) v → Is a v.first
  left v p = (and_parts (a.valid v.first) (b.valid v.second) p).0

  right : (v : PairValue A B) → Is (pair_at few a b) v → Is b v.second
  right v p = (and_parts (a.valid v.first) (b.valid v.second) p).1

  le_left : (u v : PairValue A B) → Le (pair_at few a b) u v → Le a u.first v.first
  le_left u v p = (and_parts (a.leq u.first v.first) (b.leq u.second v.second) p).0

  le_right : (u v : PairValue A B) → Le (pair_at few a b) u v → Le b u.second v.second
  le_right u v p = (and_parts (a.leq u.first v.first) (b.leq u.second v.second) p).1

  le_both : (u v : PairValue A B) → Le a u.first v.first → Le b u.second v.second → Le (pair_at few a b) u v
  le_both u v p q = and_from (a.leq u.first v.first) (b.leq u.second v.second) p q

  is_both : (x : A) (y : B) → Is a x → Is b y → Is (pair_at few a b) (pair x y)
  is_both x y p q = and_from (a.valid x) (b.valid y) p q

  ordered : (at_least : 2 ≤ (pair_at few a b).size) → (at_most : (pair_at few a b).size ≤ 4097) → ((pair_at few a b).size ≡ 4097 → (pair_at few a b).cuts ≡ 0) → ((pair_at few a b).size ≤ 4096 → Counted (pair_at few a b)) → Lawful (pair_at few a b)
  ordered least most none counted = record {
    low = is_both a.lowest b.lowest la.low lb.low;
    high = is_both a.highest b.highest la.high lb.high;
    differ = and_left (a.leq a.highest a.lowest) (b.leq b.highest b.lowest) la.differ;
    low_le = λ v p. le_both (pair a.lowest b.lowest) v (la.low_le v.first (left v p)) (lb.low_le v.second (right v p));
    le_high = λ v p. le_both v (pair a.highest b.highest) (la.le_high v.first (left v p)) (lb.le_high v.second (right v p));
    same = λ v p. le_both v v (la.same v.first (left v p)) (lb.same v.second (right v p));
    through = λ u v w p q r h k.
        le_both u w
        (la.through u.first v.first w.first (left u p) (left v q) (left w r) (le_left u v h) (le_left v w k))
        (lb.through u.second v.second w.second (right u p) (right v q) (right w r) (le_right u v h) (le_right v w k));
    anti = λ u v p q h k.
        pair_path
        (la.anti u.first v.first (left u p) (left v q) (le_left u v h) (le_left v u k))
        (lb.anti u.second v.second (right u p) (right v q) (le_right u v h) (le_right v u k));
    meet_valid = λ u v p q. is_both (a.meet u.first v.first) (b.meet u.second v.second) (la.meet_valid u.first v.first (left u p) (left v q)) (lb.meet_valid u.second v.second (right u p) (right v q));
    meet_first = λ u v p q. le_both (pair (a.meet u.first v.first) (b.meet u.second v.second)) u (la.meet_first u.first v.first (left u p) (left v q)) (lb.meet_first u.second v.second (right u p) (right v q));
    meet_second = λ u v p q. le_both (pair (a.meet u.first v.first) (b.meet u.second v.second)) v (la.meet_second u.first v.first (left u p) (left v q)) (lb.meet_second u.second v.second (right u p) (right v q));
    meet_most = λ u v w p q r h k.
        le_both w (pair (a.meet u.first v.first) (b.meet u.second v.second))
        (la.meet_most u.first v.first w.first (left u p) (left v q) (left w r) (le_left w u h) (le_left w v k))
        (lb.meet_most u.second v.second w.second (right u p) (right v q) (right w r) (le_right w u h) (le_right w v k));
    join_valid = λ u v p q. is_both (a.join u.first v.first) (b.join u.second v.second) (la.join_valid u.first v.first (left u p) (left v q)) (lb.join_valid u.second v.second (right u p) (right v q));
    join_first = λ u v p q. le_both u (pair (a.join u.first v.first) (b.join u.second v.second)) (la.join_first u.first v.first (left u p) (left v q)) (lb.join_first u.second v.second (right u p) (right v q));
    join_second = λ u v p q. le_both v (pair (a.join u.first v.first) (b.join u.second v.second)) (la.join_second u.first v.first (left u p) (left v q)) (lb.join_second u.second v.second (right u p) (right v q));
    join_least = λ u v w p q r h k.
        le_both (pair (a.join u.first v.first) (b.join u.second v.second)) w
        (la.join_least u.first v.first w.first (left u p) (left v q) (left w r) (le_left u w h) (le_left v w k))
        (lb.join_least u.second v.second w.second (right u p) (right v q) (right w r) (le_right u w h) (le_right v w k));
    spreads = λ u v w p q r.
        pair_path
        (la.spreads u.first v.first w.first (left u p) (left v q) (left w r))
        (lb.spreads u.second v.second w.second (right u p) (right v q) (right w r));
    at_least = least;
    at_most = most;
    no_cuts = none;
    counted = counted;
  }

-- the cuts and the numbers, where the parts have them
module _ {A B : Type 0} (few : Bool) (a : Model A) (b : Model B) (la : Lawful a) (lb : Lawful b) (ca : Counted a) (cb : Counted b) where
  first_cut : (j : ℕ) → j < a.cuts → (pair_at few a b).cut j ≡ pair (a.cut j) b.lowest
  first_cut j h = cond-true (nat_lt j a.cuts) _ _ (lt-ltb j a.cuts h)

  second_cut : (k : ℕ) → (pair_at few a b).cut (a.cuts + k) ≡ pair a.lowest (b.cut k)
  second_cut k =
      cond-false (nat_lt (a.cuts + k) a.cuts) _ _ (le-ltb (a.cuts + k) a.cuts (omega arith))
      ∙ ap (λ n. pair a.lowest (b.cut n)) (let e : a.cuts + k - a.cuts ≡ k = omega arith in e)

  first_ceiling : (j : ℕ) → j < a.cuts → (pair_at few a b).ceiling j ≡ pair (a.ceiling j) b.highest
  first_ceiling j h = cond-true (nat_lt j a.cuts) _ _ (lt-ltb j a.cuts h)

  second_ceiling : (k : ℕ) → (pair_at few a b).ceiling (a.cuts + k) ≡ pair a.highest (b.ceiling k)
  second_ceiling k =
      cond-false (nat_lt (a.cuts + k) a.cuts) _ _ (le-ltb (a.cuts + k) a.cuts (omega arith))
      ∙ ap (λ n. pair a.highest (b.ceiling n)) (let e : a.cuts + k - a.cuts ≡ k = omega arith in e)

  -- what a cut of the pair says of a value
  pub first_tells : (j : ℕ) (v : PairValue A B) → j < a.cuts → Is b v.second → (pair_at few a b).leq ((pair_at few a b).cut j) v ≡ a.leq (a.cut j) v.first
  first_tells j v h q =
      ap (λ c. (pair_at few a b).leq c v) (first_cut j h)
      ∙ and_true (a.leq (a.cut j) v.first) (b.leq b.lowest v.second) (lb.low_le v.second q)

  pub second_tells : (k : ℕ) (v : PairValue A B) → Is a v.first → (pair_at few a b).leq ((pair_at few a b).cut (a.cuts + k)) v ≡ b.leq (b.cut k) v.second
  second_tells k v p =
      ap (λ c. (pair_at few a b).leq c v) (second_cut k)
      ∙ true_and (a.leq a.lowest v.first) (b.leq (b.cut k) v.second) (la.low_le v.first p)

  -- a cut is one of the first part's or one of the second's
  pub each : (P : ℕ → Type 0) → ((j : ℕ) → j < a.cuts → P j) → ((k : ℕ) → k < b.cuts → P (a.cuts + k)) → (j : ℕ) → j < a.cuts + b.cuts → P j
  each P f g j h =
      elim (cases_lt j a.cuts) [
        | inl k ↦ f j k
        | inr k ↦ subst P (let e : a.cuts + (j - a.cuts) ≡ j = omega arith in e) (g (j - a.cuts) (omega arith))
      ]

-- the pair's size is a product of two numbers from 2 on
pub wide : (m n i j : ℕ) → 2 ≤ m → 2 ≤ n → i < m → j < n → i + j < m * n
wide m n i j hm hn hi hj =
    let p : m * 2 ≤ m * n = mul-le-mul_left m hn in
    let q : 2 * n ≤ m * n = mul-le-mul_right n hm in
    omega arith

pub first_few : (m n : ℕ) → 2 ≤ n → m * n ≤ 4096 → m ≤ 4096
first_few m n hn h = let p : m * 2 ≤ m * n = mul-le-mul_left m hn in omega arith

pub second_few : (m n : ℕ) → 2 ≤ m → m * n ≤ 4096 → n ≤ 4096
second_few m n hm h = let q : 2 * n ≤ m * n = mul-le-mul_right n hm in omega arith

four : (m n : ℕ) → 2 ≤ m → 2 ≤ n → 2 ≤ m * n
four m n hm hn = let p : m * 2 ≤ m * n = mul-le-mul_left m hn in omega arith

module _ {A B : Type 0} (a : Model A) (b : Model B) (la : Lawful a) (lb : Lawful b) (ca : Counted a) (cb : Counted b) where
  not_low : (j : ℕ) → j < a.cuts → a.cut j ≢ a.lowest
  not_low j h e = both_ways (a.leq (a.cut j) a.lowest) (ca.cut_low j h) (ap (λ x. a.leq x a.lowest) e ∙ la.same a.lowest la.low)

  is_cut : (j : ℕ) → j < a.cuts + b.cuts → Is (pair_at true a b) ((pair_at true a b).cut j)
  is_cut =
      each true a b la lb ca cb (λ j. Is (pair_at true a b) ((pair_at true a b).cut j))
      (λ j h. rw (first_cut true a b la lb ca cb j h) (is_both true a b la lb (a.cut j) b.lowest (ca.cut_valid j h) lb.low))
      (λ k h. rw (second_cut true a b la lb ca cb k) (is_both true a b la lb a.lowest (b.cut k) la.low (cb.cut_valid k h)))

  once : (i : ℕ) → i < a.cuts + b.cuts → (j : ℕ) → j < a.cuts + b.cuts → (pair_at true a b).cut i ≡ (pair_at true a b).cut j → i ≡ j
  once =
      each true a b la lb ca cb (λ i. (j : ℕ) → j < a.cuts + b.cuts → (pair_at true a b).cut i ≡ (pair_at true a b).cut j → i ≡ j)
      (λ i h.
      each true a b la lb ca cb (λ j. (pair_at true a b).cut i ≡ (pair_at true a b).cut j → i ≡ j)
      (λ j k e. ca.cut_once i j h k (ap (λ v. v.first) (sym (first_cut true a b la lb ca cb i h) ∙ e ∙ first_cut true a b la lb ca cb j k)))
      (λ j k e. absurd (not_low i h (ap (λ v. v.first) (sym (first_cut true a b la lb ca cb i h) ∙ e ∙ second_cut true a b la lb ca cb j)))))
      (λ i h.
      each true a b la lb ca cb (λ j. (pair_at true a b).cut (a.cuts + i) ≡ (pair_at true a b).cut j → a.cuts + i ≡ j)
      (λ j k e. absurd (not_low j k (ap (λ v. v.first) (sym (first_cut true a b la lb ca cb j k) ∙ sym e ∙ second_cut true a b la lb ca cb i))))
      (λ j k e. ap (λ n. a.cuts + n) (cb.cut_once i j h k (ap (λ v. v.second) (sym (second_cut true a b la lb ca cb i) ∙ e ∙ second_cut true a b la lb ca cb j)))))

  pair_counted : Counted (pair_at true a b)
  pair_counted = record {
    fewer = wide a.size b.size a.cuts b.cuts la.at_least lb.at_least ca.fewer cb.fewer;
    cut_valid = is_cut;
    ceiling_valid =
        each true a b la lb ca cb (λ j. Is (pair_at true a b) ((pair_at true a b).ceiling j))
        (λ j h. rw (first_ceiling true a b la lb ca cb j h) (is_both true a b la lb (a.ceiling j) b.highest (ca.ceiling_valid j h) lb.high))
        (λ k h. rw (second_ceiling true a b la lb ca cb k) (is_both true a b la lb a.highest (b.ceiling k) la.high (cb.ceiling_valid k h)));
    cut_low =
        each true a b la lb ca cb (λ j. (pair_at true a b).leq ((pair_at true a b).cut j) (pair a.lowest b.lowest) ≡ false)
        (λ j h. first_tells true a b la lb ca cb j (pair a.lowest b.lowest) h lb.low ∙ ca.cut_low j h)
        (λ k h. second_tells true a b la lb ca cb k (pair a.lowest b.lowest) la.low ∙ cb.cut_low k h);
    cut_once = λ i j h k e. once i h j k e;
    cut_join = λ j u v h p q.
        each true a b la lb ca cb
        (λ i. (pair_at true a b).leq ((pair_at true a b).cut i) ((pair_at true a b).join u v) ≡ ((pair_at true a b).leq ((pair_at true a b).cut i) u || (pair_at true a b).leq ((pair_at true a b).cut i) v))
        (λ i k.
        let p1 = left true a b la lb u p in let q1 = left true a b la lb v q in
        let p2 = right true a b la lb u p in let q2 = right true a b la lb v q in
        let e = first_tells true a b la lb ca cb i ((pair_at true a b).join u v) k (lb.join_valid u.second v.second p2 q2) in
        let f = first_tells true a b la lb ca cb i u k p2 in
        let g = first_tells true a b la lb ca cb i v k q2 in
        e ∙ ca.cut_join i u.first v.first k p1 q1 ∙ ap (λ x. x || a.leq (a.cut i) v.first) (sym f) ∙ ap (λ y. (pair_at true a b).leq ((pair_at true a b).cut i) u || y) (sym g))
        (λ i k.
        let p1 = left true a b la lb u p in let q1 = left true a b la lb v q in
        let p2 = right true a b la lb u p in let q2 = right true a b la lb v q in
        let e = second_tells true a b la lb ca cb i ((pair_at true a b).join u v) (la.join_valid u.first v.first p1 q1) in
        let f = second_tells true a b la lb ca cb i u p1 in
        let g = second_tells true a b la lb ca cb i v q1 in
        e ∙ cb.cut_join i u.second v.second k p2 q2 ∙ ap (λ x. x || b.leq (b.cut i) v.second) (sym f) ∙ ap (λ y. (pair_at true a b).leq ((pair_at true a b).cut (a.cuts + i)) u || y) (sym g))
        j h;
    cut_tells = λ u v p q f.
        let p1 = left true a b la lb u p in let q1 = left true a b la lb v q in
        let p2 = right true a b la lb u p in let q2 = right true a b la lb v q in
        le_both true a b la lb u v
        (ca.cut_tells u.first v.first p1 q1 (λ j h k. sym (first_tells true a b la lb ca cb j v h q2) ∙ f j (omega arith) (first_tells true a b la lb ca cb j u h p2 ∙ k)))
        (cb.cut_tells u.second v.second p2 q2 (λ j h k. sym (second_tells true a b la lb ca cb j v q1) ∙ f (a.cuts + j) (omega arith) (second_tells true a b la lb ca cb j u p1 ∙ k)));
    cut_ceiling = λ j v h p.
        let p1 = left true a b la lb v p in let p2 = right true a b la lb v p in
        each true a b la lb ca cb
        (λ i. (pair_at true a b).leq v ((pair_at true a b).ceiling i) ≡ not ((pair_at true a b).leq ((pair_at true a b).cut i) v))
        (λ i k.
        ap (λ c. (pair_at true a b).leq v c) (first_ceiling true a b la lb ca cb i k)
        ∙ and_true (a.leq v.first (a.ceiling i)) (b.leq v.second b.highest) (lb.le_high v.second p2)
        ∙ ca.cut_ceiling i v.first k p1
        ∙ ap not (sym (first_tells true a b la lb ca cb i v k p2)))
        (λ i k.
        ap (λ c. (pair_at true a b).leq v c) (second_ceiling true a b la lb ca cb i)
        ∙ true_and (a.leq v.first a.highest) (b.leq v.second (b.ceiling i)) (la.le_high v.first p1)
        ∙ cb.cut_ceiling i v.second k p2
        ∙ ap not (sym (second_tells true a b la lb ca cb i v p1)))
        j h;
    value_valid = λ n h.
        let pos : 0 < b.size = omega (arith, lb.at_least) in
        is_both true a b la lb (a.value (n / b.size)) (b.value (n % b.size))
        (ca.value_valid (n / b.size) ((div-lt_iff_lt-mul pos).1 h)) (cb.value_valid (n % b.size) (mod-lt n pos));
    number_less = λ v p. digits_lt (ca.number_less v.first (left true a b la lb v p)) (cb.number_less v.second (right true a b la lb v p));
    value_number = λ v p.
        let p1 = left true a b la lb v p in let p2 = right true a b la lb v p in
        let less = cb.number_less v.second p2 in
        pair_path
        (ap a.value (digits_div (a.number v.first) less) ∙ ca.value_number v.first p1)
        (ap b.value (digits_mod (a.number v.first) less) ∙ cb.value_number v.second p2);
    number_value = λ n h.
        let pos : 0 < b.size = omega (arith, lb.at_least) in
        let e = ca.number_value (n / b.size) ((div-lt_iff_lt-mul pos).1 h) in
        let f = cb.number_value (n % b.size) (mod-lt n pos) in
        ap (λ x. x * b.size + b.number (b.value (n % b.size))) e ∙ ap (λ y. n / b.size * b.size + y) f ∙ div-add-mod' n b.size;
  }

pub pair_at_lawful : {A B : Type 0} (few : Bool) (a : Model A) (b : Model B) → Lawful a → Lawful b → (few ≡ true → a.size * b.size ≤ 4096) → Lawful (pair_at few a b)
pair_at_lawful true a b la lb h =
    ordered true a b la lb
    (four a.size b.size la.at_least lb.at_least)
    (omega (arith, h refl))
    (λ e. absurd (omega (arith, h refl)))
    (λ _. pair_counted a b la lb (la.counted (first_few a.size b.size lb.at_least (h refl))) (lb.counted (second_few a.size b.size la.at_least (h refl))))
pair_at_lawful false a b la lb h = ordered false a b la lb (omega arith) (omega arith) (λ _. refl) (λ k. absurd (omega arith))

pub pair_lawful : {A B : Type 0} (a : Model A) (b : Model B) → Lawful a → Lawful b → Lawful (pair_model a b)
pair_lawful a b la lb = pair_at_lawful (nat_le (a.size * b.size) 4096) a b la lb (leb-true (a.size * b.size) 4096)

module _ {A B : Type 0} (a : Model A) (b : Model B) (la : Lawful a) (lb : Lawful b)
    (fa : A → A) (ga : ℕ → ℕ) (oa : Opposed a fa ga) (fb : B → B) (gb : ℕ → ℕ) (ob : Opposed b fb gb) where
  first_partner : (j : ℕ) → j < a.cuts → pair_partner a.cuts ga gb j ≡ ga j
  first_partner j h = cond-true (nat_lt j a.cuts) _ _ (lt-ltb j a.cuts h)

  second_partner : (k : ℕ) → pair_partner a.cuts ga gb (a.cuts + k) ≡ a.cuts + gb k
  second_partner k =
      cond-false (nat_lt (a.cuts + k) a.cuts) _ _ (le-ltb (a.cuts + k) a.cuts (omega arith))
      ∙ ap (λ n. a.cuts + gb n) (let e : a.cuts + k - a.cuts ≡ k = omega arith in e)

  pair_at_opposed : (few : Bool) → (few ≡ true → a.size * b.size ≤ 4096) → Opposed (pair_at few a b) (pair_opposite fa fb) (pair_partner a.cuts ga gb)
  pair_at_opposed few bound = record {
    opposite_valid = λ v p. is_both few a b la lb (fa v.first) (fb v.second) (oa.opposite_valid v.first (left few a b la lb v p)) (ob.opposite_valid v.second (right few a b la lb v p));
    twice = λ v p. pair_path (oa.twice v.first (left few a b la lb v p)) (ob.twice v.second (right few a b la lb v p));
    turns = λ u v p q.
        ap (λ x. x && b.leq (fb v.second) (fb u.second)) (oa.turns u.first v.first (left few a b la lb u p) (left few a b la lb v q))
        ∙ ap (λ y. a.leq u.first v.first && y) (ob.turns u.second v.second (right few a b la lb u p) (right few a b la lb v q));
    partner_less =
        elim few as (λ t. (t ≡ true → a.size * b.size ≤ 4096) → (pair_at t a b).size ≤ 4096 → (j : ℕ) → j < (pair_at t a b).cuts → pair_partner a.cuts ga gb j < (pair_at t a b).cuts) [
          | true ↦ λ h k.
              let sa = first_few a.size b.size lb.at_least k in
              let sb = second_few a.size b.size la.at_least k in
              each true a b la lb (la.counted sa) (lb.counted sb) (λ j. pair_partner a.cuts ga gb j < a.cuts + b.cuts)
              (λ j l. rw (first_partner j l) (omega (arith, oa.partner_less sa j l)))
              (λ j l. rw (second_partner j) (omega (arith, ob.partner_less sb j l)))
          | false ↦ λ h k. absurd (omega arith)
        ] bound;
    cut_opposite =
        elim few as (λ t. (t ≡ true → a.size * b.size ≤ 4096) → (pair_at t a b).size ≤ 4096 → (j : ℕ) (v : PairValue A B) → j < (pair_at t a b).cuts → Is (pair_at t a b) v → (pair_at t a b).leq ((pair_at t a b).cut j) (pair_opposite fa fb v) ≡ not ((pair_at t a b).leq ((pair_at t a b).cut (pair_partner a.cuts ga gb j)) v)) [
          | true ↦ λ h k j v l p.
              let sa = first_few a.size b.size lb.at_least k in
              let sb = second_few a.size b.size la.at_least k in
              let ca = la.counted sa in
              let cb = lb.counted sb in
              let p1 = left true a b la lb v p in
              let p2 = right true a b la lb v p in
              each true a b la lb ca cb (λ j. (pair_at true a b).leq ((pair_at true a b).cut j) (pair_opposite fa fb v) ≡ not ((pair_at true a b).leq ((pair_at true a b).cut (pair_partner a.cuts ga gb j)) v))
              (λ i m.
              first_tells true a b la lb ca cb i (pair_opposite fa fb v) m (ob.opposite_valid v.second p2)
              ∙ oa.cut_opposite sa i v.first m p1
              ∙ ap not (sym (first_tells true a b la lb ca cb (ga i) v (oa.partner_less sa i m) p2))
              ∙ ap (λ n. not ((pair_at true a b).leq ((pair_at true a b).cut n) v)) (sym (first_partner i m)))
              (λ i m.
              second_tells true a b la lb ca cb i (pair_opposite fa fb v) (oa.opposite_valid v.first p1)
              ∙ ob.cut_opposite sb i v.second m p2
              ∙ ap not (sym (second_tells true a b la lb ca cb (gb i) v p1))
              ∙ ap (λ n. not ((pair_at true a b).leq ((pair_at true a b).cut n) v)) (sym (second_partner i)))
              j l
          | false ↦ λ h k. absurd (omega arith)
        ] bound;
  }

  pub pair_opposed : Opposed (pair_model a b) (pair_opposite fa fb) (pair_partner a.cuts ga gb)
  pair_opposed = pair_at_opposed (nat_le (a.size * b.size) 4096) (leb-true (a.size * b.size) 4096)
