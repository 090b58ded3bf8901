-- Spaces and the bytes of names. Assumes nothing.
use Rattle.std.specs.Prelude.{◌≡◌, ℕ, ◌≤◌, Bool, true, false, cond, ◌&&◌, ◌||◌, List, [], ◌∷◌, length, ◌==◌, nat_le}
use Rattle.std.specs.List.{prefix_len}

-- a small letter
abbrev pub small : ℕ → Bool
small b = nat_le 97 b && nat_le b 122

-- a byte that can stand in a name behind its first letter: a small letter, a digit or an underscore
abbrev pub in_name : ℕ → Bool
in_name b = small b || (nat_le 48 b && nat_le b 57) || b == 95

abbrev pub AllInName : List ℕ → Type 0
AllInName [] = Unit {0}
AllInName (b ∷ bs) = (in_name b ≡ true) × AllInName bs

-- a name: a small letter, then up to 15 small letters, digits or underscores
abbrev pub Name : List ℕ → Type 0
Name [] = ⊥
Name (b ∷ bs) = (small b ≡ true) × AllInName bs × (length bs ≤ 15)

-- a text that does not go on with a byte of a name
abbrev pub Ended : List ℕ → Type 0
Ended [] = Unit {0}
Ended (b ∷ bs) = in_name b ≡ false

-- how many bytes at the front of a text can stand in a name
abbrev pub run : List ℕ → ℕ
run bs = prefix_len in_name bs

-- a text without the spaces at its front
abbrev pub skip : List ℕ → List ℕ
skip [] = []
skip (b ∷ bs) = cond (b == 32) (skip bs) (b ∷ bs)
