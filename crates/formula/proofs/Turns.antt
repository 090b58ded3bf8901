-- One turn of a reader: its tokens, its lines and what is left of the text. Assumes nothing.
use Rattle.std.proofs.Common.{◌≡◌, ℕ, ◌+◌, ◌-◌, ◌<◌, ◌≤◌, List, length, set, Err, Result, sym, refl, subst, arith}
use lib.Seq.{sets}
use Rattle.lines.specs.declared.Refusal.{Refusal}
use Rattle.lines.specs.declared.Unary.{Unary}
use Rattle.lines.specs.declared.Binary.{Binary}
use Rattle.lines.specs.declared.Line.TheVariants.{One, Two}
use Rattle.lines.specs.Word.{word_of}
use Rattle.tokens.specs.declared.Link.{Link}
use Rattle.tokens.specs.declared.Token.{Token}
use Rattle.tokens.specs.declared.Token.TheVariants.{Name, Prefix, Quantifier, Between, True, False, Open}
use Rattle.tokens.specs.Shown.{tok_of}
use Rattle.tokens.specs.Tokens.{Tok, t_link, Stands, Seen}
use Rattle.tokens.proofs.Fronts.{seen_same}
use Rattle.formula.specs.Grammar.{Tree, one, two, Level, unit}
use Rattle.formula.specs.Read.{Lacks, Unread}
use Rattle.lines.specs.declared.Refusal.TheVariants.{Text}
use Rattle.formula.specs.declared.Reader.{Reader}
use Rattle.formula.specs.declared.Output.{Output}
use Rattle.formula.specs.Tells.{unread, names, Told, Tells}
use Rattle.formula.specs.Words.{size, postfix}
use Rattle.formula.proofs.Steps.{Begins, u_none, Joined, Sofar, j_first, j_more, j_done}
use Rattle.formula.proofs.Lines.{less, some, lines_one, lines_two}

-- ---- tokens

abbrev Linked : Tok → Type 0
Linked (t_link j) = Unit {0}
Linked k = ⊥

linked : (x : Token) → Linked (tok_of x) → ((j : _) → x ≡ Between j → ⊥) → ⊥
linked (Between j) h n = n j refl
linked x h n = h

pub not_link : {bs s : List ℕ} (x : Token) → Seen bs (tok_of x) s → ((j : _) → x ≡ Between j → ⊥) → (u : Link) → Lacks bs (t_link u)
not_link x h n u m g = linked x (subst Linked (sym (seen_same h g).0) tt) n

begins_not : (x : Token) → ((s : _) → x ≡ Name s → ⊥) → (x ≡ True → ⊥) → (x ≡ False → ⊥) → ((o : _) → x ≡ Prefix o → ⊥) → ((q : _) → x ≡ Quantifier q → ⊥) → (x ≡ Open → ⊥) → Begins (tok_of x) → ⊥
begins_not (Name s) n1 n2 n3 n4 n5 n6 b = n1 s refl
begins_not (Prefix o) n1 n2 n3 n4 n5 n6 b = n4 o refl
begins_not (Quantifier q) n1 n2 n3 n4 n5 n6 b = n5 q refl
begins_not True n1 n2 n3 n4 n5 n6 b = n2 refl
begins_not False n1 n2 n3 n4 n5 n6 b = n3 refl
begins_not Open n1 n2 n3 n4 n5 n6 b = n6 refl
begins_not x n1 n2 n3 n4 n5 n6 b = b

pub no_unit : {ns bs r : List ℕ} (x : Token) → Seen bs (tok_of x) r → ((s : _) → x ≡ Name s → ⊥) → (x ≡ True → ⊥) → (x ≡ False → ⊥) → ((o : _) → x ≡ Prefix o → ⊥) → ((q : _) → x ≡ Quantifier q → ⊥) → (x ≡ Open → ⊥) → Unread ns unit bs
no_unit x h n1 n2 n3 n4 n5 n6 = u_none h (begins_not x n1 n2 n3 n4 n5 n6)

-- ---- answers

-- the lists of names of a reader, later and earlier, are one
pub told_by : {ns ns1 : List ℕ} {l : Level} {bs os : List ℕ} {n m : ℕ} {bs1 os1 : List ℕ} → ns1 ≡ ns → Told ns1 l bs os n m bs1 os1 → Told ns l bs os n m bs1 os1
told_by {l = l} {bs} {os} {n} {m} {bs1} {os1} e d = subst (λ x. Told x l bs os n m bs1 os1) e d

pub unread_by : {ns ns1 : List ℕ} {l : Level} {bs : List ℕ} → ns1 ≡ ns → Unread ns1 l bs → Unread ns l bs
unread_by {l = l} {bs} e u = subst (λ x. Unread x l bs) e u

-- a text is refused
pub refuses : (l : Level) (r : Reader) (o : Output) (x : Result ℕ Refusal) (e : Refusal) (r1 : Reader) (o1 : Output) → x ≡ Err e → e ≡ Text → Unread (names r) l (unread r) → Tells l r o x r1 o1
refuses l r o x e r1 o1 w t u = subst (λ y. Tells l r o y r1 o1) (sym w) (t, u)

-- it has a line, and each of its lines took a byte
pub room : {ns : List ℕ} {l : Level} {bs os : List ℕ} {n m : ℕ} {bs1 os1 : List ℕ} → Told ns l bs os n m bs1 os1 → (n < m) × (m + length bs1 ≤ n + length bs)
room h = (omega (arith, some h.0, h.2), omega (arith, less h.1.reads, h.2))

-- the line of a prefix
pub after_one : {ns k os k1 os1 os2 : List ℕ} {n m i c : ℕ} (o : Unary) (d : Told ns unit k os n m k1 os1) → (m ≤ 256 → i ≡ m - 1) → os2 ≡ set os1 m (word_of (One o i)) → c ≡ m + 1 → (c ≡ n + size (one o d.0)) × (c ≤ 64 → os2 ≡ sets os n (postfix n (one o d.0)))
after_one {os = os} {n = n} {m = m} {i = i} o d ei e ec =
    (omega (arith, ec, d.2), λ h. lines_one o n d.0 os _ _ m i (d.3 (omega (arith, ec))) d.2 (ei (omega (arith, ec))) e)

-- the line of an operator over two trees
pub after_two : {ns : List ℕ} {l : Level} {k os k1 os1 os2 : List ℕ} {m r i j c : ℕ} (o : Binary) (n : ℕ) (a : Tree) (os0 : List ℕ) → m ≡ n + size a → (m ≤ 64 → os ≡ sets os0 n (postfix n a)) → (d : Told ns l k os m r k1 os1) → (m ≤ 256 → i ≡ m - 1) → (r ≤ 256 → j ≡ r - 1) → os2 ≡ set os1 r (word_of (Two o i j)) → c ≡ r + 1 → (c ≡ n + size (two o a d.0)) × (c ≤ 64 → os2 ≡ sets os0 n (postfix n (two o a d.0)))
after_two {os = os} {m = m} {r = r} {i = i} {j = j} o n a os0 em lines d ei ej e ec =
    let more : m < r = (room d).0 in (
      omega (arith, ec, em, d.2),
      λ h. lines_two o n a d.0 os0 os _ _ m r i j (lines (omega (arith, ec, more))) em (d.3 (omega (arith, ec))) d.2 (ei (omega (arith, ec, more))) (ej (omega (arith, ec))) e,
    )

-- ---- lists joined by a sign

-- a list has come to a tree, whose lines are written
pub record Progress (ns : List ℕ) (l sub : Level) (sep : Tok) (o : Binary) (bs os : List ℕ) (n : ℕ) (k os1 : List ℕ) (m : ℕ) : Type 0 where
  pub tree : Tree
  pub ran : Sofar ns l sub sep o bs tree k
  pub count : m ≡ n + size tree
  pub lines : m ≤ 64 → os1 ≡ sets os n (postfix n tree)

module _ {ns : List ℕ} {l sub : Level} {sep : Tok} {o : Binary} {bs os : List ℕ} {n : ℕ} where
  pub list_room : {k os1 : List ℕ} {m : ℕ} → Progress ns l sub sep o bs os n k os1 m → (n < m) × (m + length k ≤ n + length bs)
  list_room h = (omega (arith, some h.tree, h.count), omega (arith, less h.ran.reads, h.count))

  pub list_first : Joined ns l sub sep o → {k os1 : List ℕ} {m : ℕ} → Told ns sub bs os n m k os1 → Progress ns l sub sep o bs os n k os1 m
  list_first j d = record { tree = d.0; ran = j_first j d.1; count = d.2; lines = d.3 }

  pub list_more : Joined ns l sub sep o → {k os1 : List ℕ} {m : ℕ} → Progress ns l sub sep o bs os n k os1 m → {k1 k2 os2 os3 : List ℕ} {r i s c : ℕ} → Stands k sep k1 → Told ns sub k1 os1 m r k2 os2 → (m ≤ 256 → i ≡ m - 1) → (r ≤ 256 → s ≡ r - 1) → os3 ≡ set os2 r (word_of (Two o i s)) → c ≡ r + 1 → Progress ns l sub sep o bs os n k2 os3 c
  list_more j p e d ei es w ec =
      let a = after_two o n p.tree os p.count p.lines d ei es w ec in
      record { tree = two o p.tree d.0; ran = j_more j p.ran e d.1; count = a.0; lines = a.1 }

  pub list_done : Joined ns l sub sep o → {k os1 : List ℕ} {m : ℕ} → Progress ns l sub sep o bs os n k os1 m → Lacks k sep → Told ns l bs os n m k os1
  list_done j p e = (p.tree, j_done j p.ran e, p.count, p.lines)
