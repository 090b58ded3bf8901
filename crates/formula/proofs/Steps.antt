-- Each step of a reader keeps to the grammar, both ways. Assumes nothing.
use Rattle.std.proofs.Common.{◌≡◌, ℕ, List, sym, refl, ap, ◌∙◌, subst, arith}
use Rattle.lines.specs.declared.Unary.{Unary}
use Rattle.lines.specs.declared.Binary.{Binary}
use Rattle.lines.specs.declared.Binary.TheVariants.{And, Or, Implies}
use Rattle.tokens.specs.declared.Paths.{Paths}
use Rattle.tokens.specs.declared.Link.{Link}
use Rattle.tokens.specs.Names.{Listed}
use Rattle.tokens.specs.Tokens.{Tok, t_name, t_prefix, t_paths, t_link, tTrue, tFalse, tAnd, tOr, tImplies, tOpen, tClose, tLeft, tRight, tEnd, Stands, Seen}
use Rattle.tokens.proofs.Fronts.{same_token, seen_same}
use Rattle.tokens.proofs.Lists.{one_place}
use Rattle.formula.specs.Grammar.{Tree, truth, falsity, mark, one, two, path_of, Level, unit, con, alt, formula, Reads, is_true, is_false, is_name, is_one, is_path, is_group, con_one, con_more, alt_one, alt_more, is_alt, implies}
use Rattle.formula.specs.Read.{Lacks, Stops, Read, Unread}

-- ---- tokens

pub apart : {bs r : List ℕ} {j k : Tok} → Stands bs j r → (j ≡ k → ⊥) → Lacks bs k
apart h n s g = n (same_token h g).0

-- a token that no reading goes on with
abbrev pub Halts : Tok → Type 0
Halts tAnd = ⊥
Halts tOr = ⊥
Halts tImplies = ⊥
Halts k = Unit {0}

pub halts : {k s : List ℕ} {x : Tok} → Halts x → Stands k x s → Stops formula k
halts p h = (apart h (λ e. subst Halts e p), apart h (λ e. subst Halts e p), apart h (λ e. subst Halts e p))

pub at_end : {k s : List ℕ} → Stands k tEnd s → Stops formula k
at_end h = halts tt h

pub at_implies : {k s : List ℕ} → Stands k tImplies s → Stops alt k
at_implies h = (apart h (λ e. let z : ◌≡◌ {A = ℕ} 0 1 = cc in omega arith), apart h (λ e. let z : ◌≡◌ {A = ℕ} 0 1 = cc in omega arith))

-- a token that begins a unit
abbrev pub Begins : Tok → Type 0
Begins (t_name s) = Unit {0}
Begins (t_prefix o) = Unit {0}
Begins (t_paths q) = Unit {0}
Begins tTrue = Unit {0}
Begins tFalse = Unit {0}
Begins tOpen = Unit {0}
Begins k = ⊥

-- ---- what a reading of one unit shows behind its first token

record PathShape (ns : List ℕ) (q : Paths) (bs : List ℕ) (t : Tree) (r : List ℕ) : Type 0 where
  i : List ℕ
  left : Stands bs tLeft i
  a : Tree
  k : List ℕ
  first : Reads ns formula i a k
  u : Link
  l : List ℕ
  link : Stands k (t_link u) l
  b : Tree
  m : List ℕ
  second : Reads ns formula l b m
  right : Stands m tRight r
  tree : two (path_of q u) a b ≡ t

abbrev Shape : List ℕ → Tok → List ℕ → Tree → List ℕ → Type 0
Shape ns tTrue bs t r = (truth ≡ t) × (bs ≡ r)
Shape ns tFalse bs t r = (falsity ≡ t) × (bs ≡ r)
Shape ns (t_name s) bs t r = (m : ℕ) × Listed ns s m × (mark m ≡ t) × (bs ≡ r)
Shape ns (t_prefix o) bs t r = (u : Tree) × (one o u ≡ t) × Reads ns unit bs u r
Shape ns (t_paths q) bs t r = PathShape ns q bs t r
Shape ns tOpen bs t r = (k : List ℕ) × Reads ns formula bs t k × Stands k tClose r
Shape ns k bs t r = ⊥

record Starts (ns bs : List ℕ) (t : Tree) (r : List ℕ) : Type 0 where
  token : Tok
  behind : List ℕ
  stands : Stands bs token behind
  begins : Begins token
  shape : Shape ns token behind t r

starts : {ns bs : List ℕ} {t : Tree} {r : List ℕ} → Reads ns unit bs t r → Starts ns bs t r
starts (is_true {r = r} e) = record { token = tTrue; behind = r; stands = e; begins = tt; shape = (refl, refl) }
starts (is_false {r = r} e) = record { token = tFalse; behind = r; stands = e; begins = tt; shape = (refl, refl) }
starts (is_name {r = r} {s = s} {m = m} e h) = record { token = t_name s; behind = r; stands = e; begins = tt; shape = (m, h, refl, refl) }
starts (is_one {k = k} {t = t} {o = o} e u) = record { token = t_prefix o; behind = k; stands = e; begins = tt; shape = (t, refl, u) }
starts (is_path {i = i} {j = j} {k = k} {l = l} {m = m} {a = a} {b = b} {q = q} {u = u} e f x h y g) = record {
  token = t_paths q;
  behind = i;
  stands = e;
  begins = tt;
  shape = record { i = j; left = f; a = a; k = k; first = x; u = u; l = l; link = h; b = b; m = m; second = y; right = g; tree = refl };
}
starts (is_group {j = j} {k = k} e x g) = record { token = tOpen; behind = j; stands = e; begins = tt; shape = (k, x, g) }

at : {ns bs k : List ℕ} {x : Tok} {t : Tree} {r : List ℕ} → Stands bs x k → Reads ns unit bs t r → Shape ns x k t r
at {ns} {bs} {k} {x} {t} {r} e d =
    let s = starts d in
    let h = same_token s.stands e in
    subst (λ y. Shape ns y k t r) h.0 (subst (λ y. Shape ns s.token y t r) h.1 s.shape)

-- ---- a list joined by a sign

-- from the tree a before k, by readings of sub behind sep, to t before r
pub data Goes (ns : List ℕ) (sub : Level) (sep : Tok) (o : Binary) : Tree → List ℕ → Tree → List ℕ → Type 0 where
  stay : {t : Tree} {r : List ℕ} → Goes ns sub sep o t r t r
  step : {a b t : Tree} {k l m r : List ℕ} → Stands k sep l → Reads ns sub l b m → Goes ns sub sep o (two o a b) m t r → Goes ns sub sep o a k t r

-- what the rules con and alt share: a list of sub with sep between, o its operator
pub record Joined (ns : List ℕ) (l sub : Level) (sep : Tok) (o : Binary) : Type 0 where
  pub single : {bs r : List ℕ} {t : Tree} → Reads ns sub bs t r → Reads ns l bs t r
  pub longer : {bs j k r : List ℕ} {a b : Tree} → Reads ns l bs a j → Stands j sep k → Reads ns sub k b r → Reads ns l bs (two o a b) r
  pub firsts : {bs r : List ℕ} {t : Tree} → Reads ns l bs t r → (a : Tree) × (k : List ℕ) × Reads ns sub bs a k × Goes ns sub sep o a k t r
  pub lacks : {r : List ℕ} → Stops l r → Lacks r sep
  pub inner : (r : List ℕ) → Stops l r → Stops sub r
  pub before : {k s : List ℕ} → Stands k sep s → Stops sub k
  pub both : {r : List ℕ} → Stops sub r → Lacks r sep → Stops l r

-- a list of l has come from bs to the tree a before k: the readings that stop go on from there
pub record Sofar (ns : List ℕ) (l sub : Level) (sep : Tok) (o : Binary) (bs : List ℕ) (a : Tree) (k : List ℕ) : Type 0 where
  pub reads : Reads ns l bs a k
  pub held : Stops sub k
  pub onward : (t : Tree) (r : List ℕ) → Reads ns l bs t r → Stops l r → Goes ns sub sep o a k t r

module _ {ns : List ℕ} {sub : Level} {sep : Tok} {o : Binary} where
  snoc : {a t b : Tree} {k r m s : List ℕ} → Goes ns sub sep o a k t r → Stands r sep m → Reads ns sub m b s → Goes ns sub sep o a k (two o t b) s
  snoc stay e d = step e d stay
  snoc (step e d g) e' d' = step e d (snoc g e' d')

  on : {a t : Tree} {k m r : List ℕ} → Goes ns sub sep o a k t r → Stands k sep m → Lacks r sep → (b : Tree) × (s : List ℕ) × Reads ns sub m b s × Goes ns sub sep o (two o a b) s t r
  on stay e n = absurd (n _ e)
  on (step {b = b} {m = s} e d g) e' n = (b, s, subst (λ x. Reads ns sub x b s) (same_token e e').1 d, g)

  off : {a t : Tree} {k r : List ℕ} → Goes ns sub sep o a k t r → Lacks k sep → (a ≡ t) × (k ≡ r)
  off stay n = (refl, refl)
  off (step e d g) n = absurd (n _ e)

  moved : {a a' t : Tree} {k k' r : List ℕ} → a ≡ a' → k ≡ k' → Goes ns sub sep o a' k' t r → Goes ns sub sep o a k t r
  moved {a} {a'} {t} {k} {k'} {r} p q g = subst (λ x. Goes ns sub sep o x k t r) (sym p) (subst (λ x. Goes ns sub sep o a' x t r) (sym q) g)

module _ {ns : List ℕ} {l sub : Level} {sep : Tok} {o : Binary} where
  -- each reading in the list stops
  inside : Joined ns l sub sep o → {a t : Tree} {k r : List ℕ} → Goes ns sub sep o a k t r → Stops l r → Stops sub k
  inside j {r = r} stay s = j.inner r s
  inside j (step e d g) s = j.before e

  pub j_no : Joined ns l sub sep o → {bs : List ℕ} → Unread ns sub bs → Unread ns l bs
  j_no j x = record { none = λ t r d s. let f = j.firsts d in x.none f.0 f.1 f.2 (inside j f.3 s) }

  pub j_first : Joined ns l sub sep o → {bs r : List ℕ} {t : Tree} → Read ns sub bs t r → Sofar ns l sub sep o bs t r
  j_first j x = record {
    reads = j.single x.reads;
    held = x.stops;
    onward = λ t r d s. let f = j.firsts d in let i = x.only f.0 f.1 f.2 (inside j f.3 s) in moved i.0 i.1 f.3;
  }

  pub j_more : Joined ns l sub sep o → {bs j k r : List ℕ} {a b : Tree} → Sofar ns l sub sep o bs a j → Stands j sep k → Read ns sub k b r → Sofar ns l sub sep o bs (two o a b) r
  j_more j {a = a} c e x = record {
    reads = j.longer c.reads e x.reads;
    held = x.stops;
    onward = λ t r d s. let f = on (c.onward t r d s) e (j.lacks s) in let i = x.only f.0 f.1 f.2 (inside j f.3 s) in moved (ap (two o a) i.0) i.1 f.3;
  }

  pub j_more_no : Joined ns l sub sep o → {bs j k : List ℕ} {a : Tree} → Sofar ns l sub sep o bs a j → Stands j sep k → Unread ns sub k → Unread ns l bs
  j_more_no j c e x = record { none = λ t r d s. let f = on (c.onward t r d s) e (j.lacks s) in x.none f.0 f.1 f.2 (inside j f.3 s) }

  pub j_done : Joined ns l sub sep o → {bs k : List ℕ} {a : Tree} → Sofar ns l sub sep o bs a k → Lacks k sep → Read ns l bs a k
  j_done j c n = record { reads = c.reads; stops = j.both c.held n; only = λ t r d s. off (c.onward t r d s) n }

cons : {ns bs : List ℕ} {t : Tree} {r : List ℕ} → Reads ns con bs t r → (a : Tree) × (k : List ℕ) × Reads ns unit bs a k × Goes ns unit tAnd And a k t r
cons (con_one {r = r} {t = t} u) = (t, r, u, stay)
cons (con_more c e u) = let f = cons c in (f.0, f.1, f.2, snoc f.3 e u)

alts : {ns bs : List ℕ} {t : Tree} {r : List ℕ} → Reads ns alt bs t r → (a : Tree) × (k : List ℕ) × Reads ns con bs a k × Goes ns con tOr Or a k t r
alts (alt_one {r = r} {t = t} u) = (t, r, u, stay)
alts (alt_more c e u) = let f = alts c in (f.0, f.1, f.2, snoc f.3 e u)

pub con_list : {ns : List ℕ} → Joined ns con unit tAnd And
con_list = record { single = con_one; longer = con_more; firsts = cons; lacks = λ s. s; inner = λ r s. tt; before = λ e. tt; both = λ s n. n }

pub alt_list : {ns : List ℕ} → Joined ns alt con tOr Or
alt_list = record {
  single = alt_one;
  longer = alt_more;
  firsts = alts;
  lacks = λ s. s.1;
  inner = λ r s. s.0;
  before = λ h. apart h (λ e. let z : ◌≡◌ {A = ℕ} 0 1 = cc in omega arith);
  both = λ s n. (s, n);
}

-- ---- unit

pub u_true : {ns bs r : List ℕ} → Stands bs tTrue r → Read ns unit bs truth r
u_true e = record { reads = is_true e; stops = tt; only = λ t r d s. at e d }

pub u_false : {ns bs r : List ℕ} → Stands bs tFalse r → Read ns unit bs falsity r
u_false e = record { reads = is_false e; stops = tt; only = λ t r d s. at e d }

pub u_name : {ns bs r s : List ℕ} {m : ℕ} → Stands bs (t_name s) r → Listed ns s m → Read ns unit bs (mark m) r
u_name e m = record { reads = is_name e m; stops = tt; only = λ t r d s. let h = at e d in (ap mark (one_place m h.1) ∙ h.2, h.3) }

pub u_name_no : {ns bs r s : List ℕ} → Stands bs (t_name s) r → ((m : ℕ) → Listed ns s m → ⊥) → Unread ns unit bs
u_name_no e n = record { none = λ t r d s. let h = at e d in n h.0 h.1 }

pub u_one : {ns bs k r : List ℕ} {t : Tree} {o : Unary} → Stands bs (t_prefix o) k → Read ns unit k t r → Read ns unit bs (one o t) r
u_one {o = o} e u = record { reads = is_one e u.reads; stops = tt; only = λ t r d s. let h = at e d in let i = u.only h.0 r h.2 tt in (ap (one o) i.0 ∙ h.1, i.1) }

pub u_one_no : {ns bs k : List ℕ} {o : Unary} → Stands bs (t_prefix o) k → Unread ns unit k → Unread ns unit bs
u_one_no e u = record { none = λ t r d s. let h = at e d in u.none h.0 r h.2 tt }

pub u_group : {ns bs j k r : List ℕ} {t : Tree} → Stands bs tOpen j → Read ns formula j t k → Stands k tClose r → Read ns unit bs t r
u_group {k = k} {r = z} e f c = record {
  reads = is_group e f.reads c;
  stops = tt;
  only = λ t r d s.
      let h = at e d in let i = f.only t h.0 h.1 (halts tt h.2) in
      (i.0, (same_token c (subst (λ x. Stands x tClose r) (sym i.1) h.2)).1);
}

pub u_group_no : {ns bs j : List ℕ} → Stands bs tOpen j → Unread ns formula j → Unread ns unit bs
u_group_no e f = record { none = λ t r d s. let h = at e d in f.none t h.0 h.1 (halts tt h.2) }

pub u_group_open : {ns bs j k : List ℕ} {t : Tree} → Stands bs tOpen j → Read ns formula j t k → Lacks k tClose → Unread ns unit bs
u_group_open e f n = record { none = λ t r d s. let h = at e d in let i = f.only t h.0 h.1 (halts tt h.2) in n r (subst (λ x. Stands x tClose r) (sym i.1) h.2) }

pub u_none : {ns bs r : List ℕ} {k : Tok} → Seen bs k r → (Begins k → ⊥) → Unread ns unit bs
u_none h n = record { none = λ t r d s. let x = starts d in n (subst Begins (sym (seen_same h x.stands).0) x.begins) }

-- ---- unit: E or A

-- the bracket, the first formula, the link and the second formula are those that were read
module _ {ns bs i j : List ℕ} {q : Paths} (e : Stands bs (t_paths q) i) (f : Stands i tLeft j) where
  first_at : {t : Tree} {r : List ℕ} (h : PathShape ns q i t r) → Reads ns formula j h.a h.k
  first_at h = subst (λ x. Reads ns formula x h.a h.k) (same_token h.left f).1 h.first

  first_of : {k : List ℕ} {a t : Tree} {r : List ℕ} → Read ns formula j a k → (h : PathShape ns q i t r) → (a ≡ h.a) × (k ≡ h.k)
  first_of x h = x.only h.a h.k (first_at h) (halts tt h.link)

  link_of : {k l : List ℕ} {u : Link} {a t : Tree} {r : List ℕ} → Read ns formula j a k → Stands k (t_link u) l → (h : PathShape ns q i t r) → (u ≡ h.u) × (l ≡ h.l)
  link_of x g h = let s = same_token g (subst (λ y. Stands y (t_link h.u) h.l) (sym (first_of x h).1) h.link) in (cc, s.1)

  second_of : {k l m : List ℕ} {u : Link} {a b t : Tree} {r : List ℕ} → Read ns formula j a k → Stands k (t_link u) l → Read ns formula l b m → (h : PathShape ns q i t r) → (b ≡ h.b) × (m ≡ h.m)
  second_of x g y h = y.only h.b h.m (subst (λ z. Reads ns formula z h.b h.m) (sym (link_of x g h).1) h.second) (halts tt h.right)

  path_all : {k l m s : List ℕ} {u : Link} {a b t : Tree} {r : List ℕ} → Read ns formula j a k → Stands k (t_link u) l → Read ns formula l b m → Stands m tRight s → PathShape ns q i t r → (two (path_of q u) a b ≡ t) × (s ≡ r)
  path_all x g y z h =
      let p = first_of x h in let v = link_of x g h in let w = second_of x g y h in
      ((λ n. two (path_of q (v.0 n)) (p.0 n) (w.0 n)) ∙ h.tree, (same_token z (subst (λ o. Stands o tRight _) (sym w.1) h.right)).1)

  pub u_path : {k l m r : List ℕ} {u : Link} {a b : Tree} → Read ns formula j a k → Stands k (t_link u) l → Read ns formula l b m → Stands m tRight r → Read ns unit bs (two (path_of q u) a b) r
  u_path x g y z = record { reads = is_path e f x.reads g y.reads z; stops = tt; only = λ t r d s. path_all x g y z (at e d) }

  pub u_path_first : Unread ns formula j → Unread ns unit bs
  u_path_first x = record { none = λ t r d s. let h = at e d in x.none h.a h.k (first_at h) (halts tt h.link) }

  pub u_path_link : {k : List ℕ} {a : Tree} → Read ns formula j a k → ((u : Link) → Lacks k (t_link u)) → Unread ns unit bs
  u_path_link x n = record { none = λ t r d s. let h = at e d in n h.u h.l (subst (λ y. Stands y (t_link h.u) h.l) (sym (first_of x h).1) h.link) }

  pub u_path_second : {k l : List ℕ} {u : Link} {a : Tree} → Read ns formula j a k → Stands k (t_link u) l → Unread ns formula l → Unread ns unit bs
  u_path_second x g y = record { none = λ t r d s. let h = at e d in y.none h.b h.m (subst (λ z. Reads ns formula z h.b h.m) (sym (link_of x g h).1) h.second) (halts tt h.right) }

  pub u_path_right : {k l m : List ℕ} {u : Link} {a b : Tree} → Read ns formula j a k → Stands k (t_link u) l → Read ns formula l b m → Lacks m tRight → Unread ns unit bs
  u_path_right x g y n = record { none = λ t r d s. let h = at e d in n r (subst (λ z. Stands z tRight r) (sym (second_of x g y h).1) h.right) }

pub u_path_left : {ns bs i : List ℕ} {q : Paths} → Stands bs (t_paths q) i → Lacks i tLeft → Unread ns unit bs
u_path_left e n = record { none = λ t r d s. let h = at e d in n h.i h.left }

-- ---- formula

pub f_no : {ns bs : List ℕ} → Unread ns alt bs → Unread ns formula bs
f_no {ns} {bs} x = record { none = λ t r d s. go d s }
  where
    go : {t : Tree} {r : List ℕ} → Reads ns formula bs t r → Stops formula r → ⊥
    go (is_alt {r = r} {t = t} d) s = x.none t r d (s.0, s.1)
    go (implies {j = j} {a = a} d e g) s = x.none a j d (at_implies e)

pub f_alt : {ns bs k : List ℕ} {a : Tree} → Read ns alt bs a k → Lacks k tImplies → Read ns formula bs a k
f_alt {ns} {bs} {k} {a} x n = record { reads = is_alt x.reads; stops = (x.stops.0, x.stops.1, n); only = λ t r d s. go d s }
  where
    go : {t : Tree} {r : List ℕ} → Reads ns formula bs t r → Stops formula r → (a ≡ t) × (k ≡ r)
    go (is_alt {r = r} {t = t} d) s = x.only t r d (s.0, s.1)
    go (implies {j = j} {k = m} {a = b} d e g) s = absurd (n m (subst (λ z. Stands z tImplies m) (sym (x.only b j d (at_implies e)).1) e))

-- an implication that was read as far as its sign goes on behind it
record Implied (ns m : List ℕ) (a t : Tree) (r : List ℕ) : Type 0 where
  b : Tree
  second : Reads ns formula m b r
  tree : two Implies a b ≡ t

implied : {ns bs k m : List ℕ} {a t : Tree} {r : List ℕ} → Read ns alt bs a k → Stands k tImplies m → Reads ns formula bs t r → Stops formula r → Implied ns m a t r
implied {m = m} x i (is_alt {r = r} {t = t} d) s = absurd (s.2 m (subst (λ z. Stands z tImplies m) (x.only t r d (s.0, s.1)).1 i))
implied {ns} {a = a} x i (implies {j = j} {k = l} {r = r} {a = c} {b = b} d e g) s =
    let p = x.only c j d (at_implies e) in
    let q = (same_token (subst (λ z. Stands z tImplies l) (sym p.1) e) i).1 in
    record { b = b; second = subst (λ z. Reads ns formula z b r) q g; tree = ap (λ z. two Implies z b) p.0 }

pub f_more : {ns bs k m r : List ℕ} {a b : Tree} → Read ns alt bs a k → Stands k tImplies m → Read ns formula m b r → Read ns formula bs (two Implies a b) r
f_more {a = a} x e f = record {
  reads = implies x.reads e f.reads;
  stops = f.stops;
  only = λ t r d s.
      let h = implied x e d s in let i = f.only h.b r h.second s in (ap (two Implies a) i.0 ∙ h.tree, i.1);
}

pub f_more_no : {ns bs k m : List ℕ} {a : Tree} → Read ns alt bs a k → Stands k tImplies m → Unread ns formula m → Unread ns formula bs
f_more_no x e f = record { none = λ t r d s. let h = implied x e d s in f.none h.b r h.second s }
