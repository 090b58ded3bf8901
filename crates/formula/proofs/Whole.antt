-- A whole text: it spells at most one tree, and a reading that comes to the end is of that tree. Assumes nothing.
use Rattle.std.proofs.Common.{◌≡◌, ℕ, ◌+◌, ◌≤◌, min, List, length, true, false, is_err, Result, Ok, Err, refl, sym, ap, ◌∙◌, subst, arith}
use lib.Seq.{sets}
use Rattle.lines.specs.declared.Refusal.{Refusal}
use Rattle.lines.specs.declared.Refusal.TheVariants.{Line, Full, Names, Text}
use Rattle.tokens.specs.Names.{Proper}
use Rattle.lines.specs.declared.Binary.TheVariants.{And, Or}
use Rattle.tokens.specs.Tokens.{tAnd, tOr, tEnd, Stands}
use Rattle.formula.specs.Grammar.{Tree, Level, unit, con, alt, formula, Spells, OneTree, Reads, is_true, is_false, is_name, is_one, is_path, is_group, con_one, con_more, alt_one, alt_more, is_alt, implies}
use Rattle.formula.specs.Read.{Lacks, Stops, Read, Unread}
use Rattle.formula.specs.Words.{size, postfix}
use Rattle.formula.specs.Tells.{Told, Taken, Treeless, Counts, Written, held, cleared, Outcome}
use Rattle.formula.proofs.Lines.{some}
use Rattle.formula.proofs.Forms.{Marks, marks_of, formed}
use Rattle.formula.proofs.Steps.{halts, at_end, at_implies, Sofar, con_list, alt_list, j_first, j_more, j_done, u_true, u_false, u_name, u_one, u_path, u_group, f_alt, f_more}

-- a reading that stops is the only one that does
abbrev Done : List ℕ → Level → List ℕ → Tree → List ℕ → Type 0
Done ns unit bs t r = Read ns unit bs t r
Done ns con bs t r = Sofar ns con unit tAnd And bs t r
Done ns alt bs t r = Lacks r tAnd → Sofar ns alt con tOr Or bs t r
Done ns formula bs t r = Stops formula r → Read ns formula bs t r

done : {ns : List ℕ} {l : Level} {bs : List ℕ} {t : Tree} {r : List ℕ} → Reads ns l bs t r → Done ns l bs t r
done (is_true e) = u_true e
done (is_false e) = u_false e
done (is_name e m) = u_name e m
done (is_one e u) = u_one e (done u)
done (is_path e f x g y z) = u_path e f (done x (halts tt g)) g (done y (halts tt z)) z
done (is_group e x c) = u_group e (done x (halts tt c)) c
done (con_one u) = j_first con_list (done u)
done (con_more c e u) = j_more con_list (done c) e (done u)
done (alt_one u) = λ n. j_first alt_list (j_done con_list (done u) n)
done {ns} (alt_more c e u) = λ n. j_more alt_list (done c ((alt_list {ns = ns}).before e)) e (j_done con_list (done u) n)
done (is_alt a) = λ s. f_alt (j_done alt_list (done a s.0) s.1) s.2
done (implies a e f) = λ s. f_more (j_done alt_list (done a (at_implies e).0) (at_implies e).1) e (done f s)

pub one_tree : OneTree
one_tree ns bs t u p q = ((done p.reads (at_end p.ends)).only u q.to q.reads (at_end q.ends)).0

module _ {ns bs : List ℕ} where
  pub taken : {t : Tree} {r s : List ℕ} → length bs ≤ 1024 → Read ns formula bs t r → Stands r tEnd s → Taken ns bs t
  taken {t} {r} {s} l h e = let p : Spells ns bs t = record { to = r; behind = s; reads = h.reads; ends = e } in record { short = l; spelled = p; only = λ u q. one_tree ns bs t u p q }

  pub none : Unread ns formula bs → Treeless ns bs
  none h l t p = h.none t p.to p.reads (at_end p.ends)

  pub beyond : {t : Tree} {r : List ℕ} → Read ns formula bs t r → Lacks r tEnd → Treeless ns bs
  beyond h n l u p = n p.behind (subst (λ x. Stands x tEnd p.behind) (sym (h.only u p.to p.reads (at_end p.ends)).1) p.ends)

-- ---- the public call

-- a tree that was read up to its end is the tree of the text
pub its_tree : {ns bs : List ℕ} {t u : Tree} {r : List ℕ} → Read ns formula bs u r → Spells ns bs t → u ≡ t
its_tree {t = t} h p = (h.only t p.to p.reads (at_end p.ends)).0

pub uncounted : (ns bs : List ℕ) (n : ℕ) (x : Result ℕ Refusal) (e : Refusal) → x ≡ Err e → e ≡ Text → Treeless ns bs → Counts ns bs n x
uncounted ns bs n x e w t h = subst (Counts ns bs n) (sym w) (t, h)

pub unwritten : (ns bs : List ℕ) (n : ℕ) (os : List ℕ) (x : Result ℕ Refusal) (e : Refusal) → x ≡ Err e → e ≡ Text → Treeless ns bs → Written ns bs n os x os
unwritten ns bs n os x e w t h = subst (λ y. Written ns bs n os y os) (sym (w ∙ ap (λ z. Err z) t)) (h, refl)

-- the tree that was read when its lines were written is the tree that was counted
pub written : {ns bs : List ℕ} (n : ℕ) (os : List ℕ) {m k : ℕ} {r os1 os2 : List ℕ} → (h : (t : Tree) × Taken ns bs t × (m ≡ n + size t)) → m ≤ min (length os) 64 → Told ns formula bs os n k r os1 → os2 ≡ os1 → Written ns bs n os (Ok m) os2
written n os h le g e =
    let same = its_tree g.1 h.1.spelled in
    (h.0, h.1, h.2, le, e ∙ g.3 (omega (arith, g.2, h.2, le, ap size same)) ∙ ap (λ x. sets os n (postfix n x)) same)

-- what was written is what the call answers, with the words cleared where it refuses
pub settled : (ns bs : List ℕ) (a n k : ℕ) (os : List ℕ) (x : Result ℕ Refusal) (os1 os2 : List ℕ) → Proper ns a → k ≡ held n → Written ns bs k os x os1 → (is_err x ≡ true → os2 ≡ cleared k os1) → (is_err x ≡ false → os2 ≡ os1) → Outcome ns bs a n os x os2
settled ns bs a n k os (Ok m) os1 os2 names e w c s = record {
  names = names;
  tree = w.0;
  taken = w.1;
  fits = omega (arith, e, w.2, w.3);
  count = w.2 ∙ ap (λ y. y + size w.0) e;
  words = s refl ∙ w.4 ∙ ap (λ y. sets os y (postfix y w.0)) e;
  formed = formed a (held n) w.0 (subst (λ y. Marks y w.0) names.count (marks_of w.1.spelled.reads));
}
settled ns bs a n k os (Err Text) os1 os2 names e w c s = (names, w.0, c refl ∙ ap (cleared k) w.1 ∙ ap (λ y. cleared y os) e)
settled ns bs a n k os (Err Full) os1 os2 names e w c s = record { names = names; tree = w.0; taken = w.1; over = omega (arith, e, w.2, some w.0); words = c refl ∙ ap (cleared k) w.3 ∙ ap (λ y. cleared y os) e }
settled ns bs a n k os (Err Names) os1 os2 names e w c s = absurd w
settled ns bs a n k os (Err Line) os1 os2 names e w c s = absurd w
