-- What the readers and the public call answer, and what they leave in the words. Assumes nothing.
use Rattle.std.specs.Prelude.{◌≡◌, ℕ, ◌+◌, ◌-◌, ◌<◌, ◌≤◌, min, List, ◌++◌, length, take, drop, replicate, Ok, Err, Result, Bool, true, false, ⊤}
use Rattle.std.proofs.lemmas.List.Edits.{sets}
use Rattle.lines.specs.declared.Refusal.{Refusal}
use Rattle.lines.specs.declared.Refusal.TheVariants.{Line, Full, Names, Text}
use Rattle.tokens.specs.Names.{Proper}
use Rattle.formula.specs.declared.Reader.{Reader}
use Rattle.formula.specs.declared.Output.{Output}
use Rattle.formula.specs.Grammar.{Tree, Level, Spells}
use Rattle.formula.specs.Read.{Lacks, Read, Unread}
use Rattle.tokens.specs.Tokens.{Tok, Seen}
use Rattle.formula.specs.Words.{size, postfix, Formed}

-- ---- the readers of the rules

-- what a reader has not read yet, and the list of names that it knows
abbrev pub unread : Reader → List ℕ
unread r = drop r.at r.text.now

abbrev pub names : Reader → List ℕ
names r = r.marks.list.now

-- going past the token k if it stands next, and where it must
abbrev pub Eats : Reader → Tok → Bool → Reader → Type 0
Eats r k true r' = Seen (unread r) k (unread r') × (names r' ≡ names r)
Eats r k false r' = Lacks (unread r) k × (r' ≡ r)

abbrev pub Expects : Reader → Tok → Result ⊤ Refusal → Reader → Type 0
Expects r k (Ok _) r' = Seen (unread r) k (unread r') × (names r' ≡ names r)
Expects r k (Err e) r' = (e ≡ Text) × Lacks (unread r) k × (names r' ≡ names r)

-- With n lines before: a tree was read by the rule l from bs up to bs', and there are m lines with those of the tree; if they
-- are at most 64, their words stand in os from n on.
abbrev pub Told : List ℕ → Level → List ℕ → List ℕ → ℕ → ℕ → List ℕ → List ℕ → Type 0
Told ns l bs os n m bs' os' = (t : Tree) × Read ns l bs t bs' × (m ≡ n + size t) × (m ≤ 64 → os' ≡ sets os n (postfix n t))

-- i is the number of the last of m lines; no sheet has more than 256
abbrev pub Last : ℕ → ℕ → Type 0
Last m i = m ≤ 256 → i ≡ m - 1

-- A reader of the rule l: a tree was read, its lines are counted and written, and its last line's number is the answer. Or
-- there is no such tree.
abbrev pub Tells : Level → Reader → Output → Result ℕ Refusal → Reader → Output → Type 0
Tells l r o (Ok i) r' o' = Told (names r) l (unread r) o.words.now o.count o'.count (unread r') o'.words.now × Last o'.count i
Tells l r o (Err e) r' o' = (e ≡ Text) × Unread (names r) l (unread r)

-- a reader keeps its names, and the words are still those that were lent
pub record Keeps (r : Reader) (o : Output) (r' : Reader) (o' : Output) : Type 0 where
  pub names : names r' ≡ names r
  pub words : o'.words.ghost_name ≡ o.words.ghost_name

-- ---- whole texts

-- a text that can be taken: at most 1,024 bytes, and t is the one tree that it spells
pub record Taken (ns bs : List ℕ) (t : Tree) : Type 0 where
  pub short : length bs ≤ 1024
  pub spelled : Spells ns bs t
  pub only : (u : Tree) → Spells ns bs u → t ≡ u

-- a text that cannot be taken: over 1,024 bytes, or with no tree
abbrev pub Treeless : List ℕ → List ℕ → Type 0
Treeless ns bs = length bs ≤ 1024 → (t : Tree) → Spells ns bs t → ⊥

-- how many lines there are with those of a text's tree, n before them
abbrev pub Counts : List ℕ → List ℕ → ℕ → Result ℕ Refusal → Type 0
Counts ns bs n (Ok m) = (t : Tree) × Taken ns bs t × (m ≡ n + size t)
Counts ns bs n (Err e) = (e ≡ Text) × Treeless ns bs

-- the lines of a text's tree are written behind n others, or there are too many, or there is no tree
abbrev pub Written : List ℕ → List ℕ → ℕ → List ℕ → Result ℕ Refusal → List ℕ → Type 0
Written ns bs n os (Ok m) os' = (t : Tree) × Taken ns bs t × (m ≡ n + size t) × (m ≤ min (length os) 64) × (os' ≡ sets os n (postfix n t))
Written ns bs n os (Err Text) os' = Treeless ns bs × (os' ≡ os)
Written ns bs n os (Err Full) os' = (t : Tree) × Taken ns bs t × (min (length os) 64 < n + size t) × (os' ≡ os)
Written ns bs n os (Err e) os' = ⊥

-- ---- the public call

-- the lines that stand: a count over 64 is read as 64
abbrev pub held : ℕ → ℕ
held n = min n 64

-- the lines that remain in the words os: a sheet has room for 64
abbrev pub remaining : ℕ → List ℕ → ℕ
remaining n os = min (length os) 64 - held n

-- the words with all from the n-th on zero
abbrev pub cleared : ℕ → List ℕ → List ℕ
cleared n os = take n os ++ replicate (length os - n) 0

-- accepted: the text's tree fits, its words in postfix order stand behind the lines that were there, all others are as
-- before, and each new word is well formed at its place
pub record Accepts (ns bs : List ℕ) (a n : ℕ) (os : List ℕ) (m : ℕ) (os' : List ℕ) : Type 0 where
  pub names : Proper ns a
  pub tree : Tree
  pub taken : Taken ns bs tree
  pub fits : size tree ≤ remaining n os
  pub count : m ≡ held n + size tree
  pub words : os' ≡ sets os (held n) (postfix (held n) tree)
  pub formed : Formed (held n) a (postfix (held n) tree)

-- refused as Full: the text's tree needs more lines than remain
pub record Overflows (ns bs : List ℕ) (a n : ℕ) (os : List ℕ) (os' : List ℕ) : Type 0 where
  pub names : Proper ns a
  pub tree : Tree
  pub taken : Taken ns bs tree
  pub over : remaining n os < size tree
  pub words : os' ≡ cleared (held n) os

-- What the call answers for the list of names ns, the text bs, a marks and n lines in the words os, and which words it leaves.
abbrev pub Outcome : List ℕ → List ℕ → ℕ → ℕ → List ℕ → Result ℕ Refusal → List ℕ → Type 0
Outcome ns bs a n os (Ok m) os' = Accepts ns bs a n os m os'
Outcome ns bs a n os (Err Names) os' = (Proper ns a → ⊥) × (os' ≡ os)
Outcome ns bs a n os (Err Text) os' = Proper ns a × Treeless ns bs × (os' ≡ cleared (held n) os)
Outcome ns bs a n os (Err Full) os' = Overflows ns bs a n os os'
Outcome ns bs a n os (Err Line) os' = ⊥
