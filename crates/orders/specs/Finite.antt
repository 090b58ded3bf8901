-- Tests of the numbers below n, and lists that a function fills.
use Rattle.std.specs.Prelude.{◌≡◌, ℕ, zero, suc, ◌+◌, ◌<◌, Bool, true, false, cond, ◌&&◌, ◌||◌, List, ◌==◌, slice_index}

-- P holds of each number below n
abbrev pub every : ℕ → (ℕ → Bool) → Bool
every zero P = true
every (suc n) P = every n P && P n

-- P holds of each pair, and of each triple, of numbers below n
unfoldable pub every_pair : ℕ → (ℕ → ℕ → Bool) → Bool
every_pair n P = every n (λ u. every n (P u))

unfoldable pub every_triple : ℕ → (ℕ → ℕ → ℕ → Bool) → Bool
every_triple n P = every n (λ u. every_pair n (P u))

-- P holds of some number below n
abbrev pub some : ℕ → (ℕ → Bool) → Bool
some zero P = false
some (suc n) P = some n P || P n

-- the number below n that P holds of: the last where there are several, and 0 where there is none
abbrev pub pick : ℕ → (ℕ → Bool) → ℕ
pick zero P = 0
pick (suc n) P = cond (P n) n (pick n P)

-- how many numbers below n P holds of
abbrev pub how_many : ℕ → (ℕ → Bool) → ℕ
how_many zero P = 0
how_many (suc n) P = how_many n P + cond (P n) 1 0

-- number j, from 0 upward, of those below n that P holds of
abbrev pub nth : ℕ → (ℕ → Bool) → ℕ → ℕ
nth n P j = pick n (λ v. P v && j == how_many v P)

-- the first n entries of xs are f 0, f 1, ..
abbrev pub Filled : (ℕ → ℕ) → ℕ → List ℕ → Type 0
Filled f n xs = (k : ℕ) → k < n → slice_index xs k ≡ f k
