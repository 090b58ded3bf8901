-- What a word of a plan file says by its own bits.
use Rattle.std.specs.Prelude.{cond, ℕ, ◌/◌, ◌%◌, ◌^◌, eqb, Option, Some, None}
use Rattle.words.specs.declared.kind.Entry.{Entry}
use Rattle.words.specs.declared.kind.Entry.TheVariants.{Arrow, Mark, Line}
use Rattle.words.specs.declared.kind.Kind.{Kind}
use Rattle.words.specs.declared.kind.Kind.TheVariants.{End, Size, Enter, Ask, Table, Chain, Sets}

-- the `count` bits of a word from bit `low` on
abbrev pub field : ℕ → ℕ → ℕ → ℕ
field low count w = w / 2 ^ low % 2 ^ count

-- a kind, where the bits that it does not use are zero
abbrev pub if_zero : ℕ → Kind → Option Kind
if_zero unused k = cond (eqb unused 0) (Some k) None

abbrev pub size_of : ℕ → Option Kind
size_of w = if_zero (field 16 12 w) (Size (field 8 8 w) (field 0 8 w))

abbrev pub arrow_of : ℕ → Entry
arrow_of w = Arrow (field 20 8 w) (field 12 8 w) (field 0 12 w)

abbrev pub mark_of : ℕ → Entry
mark_of w = Mark (field 20 8 w) (field 12 8 w) (field 0 12 w)

abbrev pub ask_of : ℕ → Option Kind
ask_of w = if_zero (field 0 12 w) (Ask (field 20 8 w) (field 12 8 w))

-- The kinds by the number in bits 31 to 28. The layouts of a line word and of a table's word are judged by what these words do.
abbrev pub kind_numbered : ℕ → ℕ → Option Kind
kind_numbered n w =
    cond (eqb n 0) (if_zero (field 0 28 w) End)
    (cond (eqb n 1) (size_of w)
    (cond (eqb n 2) (Some (Enter (arrow_of w)))
    (cond (eqb n 3) (Some (Enter (mark_of w)))
    (cond (eqb n 4) (Some (Enter (Line w)))
    (cond (eqb n 5) (ask_of w)
    (cond (eqb n 6) (Some Table)
    (cond (eqb n 7) (if_zero (field 8 20 w) (Chain (field 0 8 w)))
    (cond (eqb n 8) (if_zero (field 8 20 w) (Sets (field 0 8 w)))
    None))))))))

abbrev pub kind_of : ℕ → Option Kind
kind_of w = kind_numbered (field 28 4 w) w
