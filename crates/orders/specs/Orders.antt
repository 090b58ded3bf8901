-- A relation `le`, "at or below", on the numbers below n: the laws that make it a logic, and what it then has.
use Rattle.std.specs.Prelude.{ℕ, ◌/◌, ◌%◌, ◌^◌, Bool, true, not, ◌&&◌, ◌||◌, List, ◌==◌, nat_eq, nat_lt, slice_index}
use Rattle.orders.specs.Finite.{every, some, pick, how_many, nth}

-- v is in the set: bit v of it is 1
abbrev pub member : ℕ → ℕ → Bool
member set v = (set / 2 ^ v % 2) == 1

-- u is at or below v: it is in row v, the set of the values at or below v
abbrev pub under : List ℕ → ℕ → ℕ → Bool
under rows u v = member (slice_index rows v) u

abbrev pub implies : Bool → Bool → Bool
implies x y = not x || y

abbrev pub alike : Bool → Bool → Bool
alike x y = implies x y && implies y x

-- the rows of one relation are those of the other turned round
unfoldable pub reversed_rows : List ℕ → List ℕ → Bool
reversed_rows rows others = every 16 (λ u. every 16 (λ v. alike (under others u v) (under rows v u)))

-- the relation turned round, "at or above"
abbrev pub turned : (ℕ → ℕ → Bool) → ℕ → ℕ → Bool
turned le u v = le v u

-- w is at or below u and v
abbrev pub below_both : (ℕ → ℕ → Bool) → ℕ → ℕ → ℕ → Bool
below_both le u v w = le w u && le w v

-- at or below is reflexive, antisymmetric and transitive at u, v and w
abbrev pub order_at : (ℕ → ℕ → Bool) → ℕ → ℕ → ℕ → Bool
order_at le u v w = le u u && (implies (le u v && le v u) (u == v) && implies (le u v && le v w) (le u w))

module _ (n : ℕ) (le : ℕ → ℕ → Bool) where
  -- Law: a partial order.
  unfoldable pub ordered : Bool
  ordered = every n (λ u. every n (λ v. every n (λ w. order_at le u v w)))

  -- w has P, and every value that has P is at or below w
  abbrev pub is_greatest : (ℕ → Bool) → ℕ → Bool
  is_greatest P w = P w && every n (λ x. implies (P x) (le x w))

  -- the greatest of the values that have P, if there is one
  unfoldable pub greatest_of : (ℕ → Bool) → ℕ
  greatest_of P = pick n (is_greatest P)

  -- the value that is at or above every value
  unfoldable pub highest_of : ℕ
  highest_of = greatest_of (λ v. true)

  -- the meet: the greatest value at or below both
  unfoldable pub meet_of : ℕ → ℕ → ℕ
  meet_of u v = greatest_of (below_both le u v)

-- The join and lowest are the meet and highest of the relation turned round:
-- the least value at or above both, and the value at or below every value.
unfoldable pub join_of : ℕ → (ℕ → ℕ → Bool) → ℕ → ℕ → ℕ
join_of n le = meet_of n (turned le)

unfoldable pub lowest_of : ℕ → (ℕ → ℕ → Bool) → ℕ
lowest_of n le = highest_of n (turned le)

module _ (n : ℕ) (le : ℕ → ℕ → Bool) where
  -- u and v have a meet and a join
  abbrev pub bounded_at : ℕ → ℕ → Bool
  bounded_at u v = some n (is_greatest n le (below_both le u v)) && some n (is_greatest n (turned le) (below_both (turned le) u v))

  -- Law: a lattice.
  unfoldable pub latticed : Bool
  latticed = every n (λ u. every n (λ v. bounded_at u v))

  -- meet spreads over join at u, v and w
  abbrev pub spread_at : ℕ → ℕ → ℕ → Bool
  spread_at u v w = meet_of n le u (join_of n le v w) == join_of n le (meet_of n le u v) (meet_of n le u w)

  -- Law: distribution.
  unfoldable pub spread : Bool
  spread = every n (λ u. every n (λ v. every n (λ w. spread_at u v w)))

  -- c is not the join of a and b, unless it is one of them
  abbrev pub irreducible_at : ℕ → ℕ → ℕ → Bool
  irreducible_at c a b = implies (join_of n le a b == c) (a == c || b == c)

  -- c is join-irreducible: not lowest, and the join of no two others
  unfoldable pub irreducible : ℕ → Bool
  irreducible c = not (c == lowest_of n le) && every n (λ a. every n (λ b. irreducible_at c a b))

  -- The cuts are the join-irreducible values in the order of their numbers.
  unfoldable pub cut_count_of : ℕ
  cut_count_of = how_many n irreducible

  unfoldable pub cut_of : ℕ → ℕ
  cut_of j = nth n irreducible j

  -- the ceiling of c: the greatest value that c is not at or below
  unfoldable pub ceiling_of : ℕ → ℕ
  ceiling_of c = greatest_of n le (λ v. not (le c v))

  module _ (opposite : ℕ → ℕ) where
    -- v has an opposite, which is undone by itself; and where v is at or below w, the opposites stand the other way
    abbrev pub opposed_at : ℕ → ℕ → Bool
    opposed_at v w = (nat_lt (opposite v) n && opposite (opposite v) == v) && implies (le v w) (le (opposite w) (opposite v))

    -- Law: opposites.
    unfoldable pub opposing : Bool
    opposing = every n (λ v. every n (λ w. opposed_at v w))

    -- the partner of cut j: the number of the cut that is the opposite of its ceiling
    unfoldable pub partner_of : ℕ → ℕ
    partner_of j = pick cut_count_of (λ i. nat_eq (cut_of i) (opposite (ceiling_of (cut_of j))))

-- Cell k of an array of 16 rows of 16, for a function of a row and a column.
abbrev pub cell_of : (ℕ → ℕ → ℕ) → ℕ → ℕ
cell_of f k = f (k / 16) (k % 16)

-- The opposite that a list gives.
abbrev pub listed : List ℕ → ℕ → ℕ
listed opposites v = slice_index opposites v
