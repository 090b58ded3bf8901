-- The laws of a scale and of a logic, each for all values. Every implementation owes them; code over any logic rests on them alone.
use Rattle.std.specs.Prelude.{◌≡◌, ℕ, ◌<◌, ◌≤◌, false, not, ◌||◌}
use Rattle.scale.specs.Model.{Model, Is, Le, most_values, too_many}

module _ {V : Type 0} (m : Model V) where
  -- What a scale of at most 4,096 values owes of its cuts and numbers.
  pub record Counted : Type 0 where
    pub fewer : m.cuts < m.size
    pub cut_valid : (j : ℕ) → j < m.cuts → Is m (m.cut j)
    pub ceiling_valid : (j : ℕ) → j < m.cuts → Is m (m.ceiling j)
    -- no cut is at or below lowest, and different cuts have different values
    pub cut_low : (j : ℕ) → j < m.cuts → m.leq (m.cut j) m.lowest ≡ false
    pub cut_once : (i j : ℕ) → i < m.cuts → j < m.cuts → m.cut i ≡ m.cut j → i ≡ j
    -- a cut is at or below a join exactly when it is at or below one of the two
    pub cut_join : (j : ℕ) (u v : V) → j < m.cuts → Is m u → Is m v → m.leq (m.cut j) (m.join u v) ≡ (m.leq (m.cut j) u || m.leq (m.cut j) v)
    -- a value is at or below another exactly when every cut at or below it is at or below the other (the converse is `through`)
    pub cut_tells : (u v : V) → Is m u → Is m v → ((j : ℕ) → j < m.cuts → Le m (m.cut j) u → Le m (m.cut j) v) → Le m u v
    -- a value is at or below a cut's ceiling exactly when the cut is not at or below that value
    pub cut_ceiling : (j : ℕ) (v : V) → j < m.cuts → Is m v → m.leq v (m.ceiling j) ≡ not (m.leq (m.cut j) v)
    -- the numbers below the size each name one value, and each value has one number
    pub value_valid : (n : ℕ) → n < m.size → Is m (m.value n)
    pub number_less : (v : V) → Is m v → m.number v < m.size
    pub value_number : (v : V) → Is m v → m.value (m.number v) ≡ v
    pub number_value : (n : ℕ) → n < m.size → m.number (m.value n) ≡ n

  -- A finite distributive lattice.
  pub record Lawful : Type 0 where
    pub low : Is m m.lowest
    pub high : Is m m.highest
    pub differ : m.leq m.highest m.lowest ≡ false
    pub low_le : (v : V) → Is m v → Le m m.lowest v
    pub le_high : (v : V) → Is m v → Le m v m.highest
    -- at or below is a partial order
    pub same : (v : V) → Is m v → Le m v v
    pub through : (u v w : V) → Is m u → Is m v → Is m w → Le m u v → Le m v w → Le m u w
    pub anti : (u v : V) → Is m u → Is m v → Le m u v → Le m v u → u ≡ v
    -- the meet is the greatest value at or below both
    pub meet_valid : (u v : V) → Is m u → Is m v → Is m (m.meet u v)
    pub meet_first : (u v : V) → Is m u → Is m v → Le m (m.meet u v) u
    pub meet_second : (u v : V) → Is m u → Is m v → Le m (m.meet u v) v
    pub meet_most : (u v w : V) → Is m u → Is m v → Is m w → Le m w u → Le m w v → Le m w (m.meet u v)
    -- the join is the least value at or above both
    pub join_valid : (u v : V) → Is m u → Is m v → Is m (m.join u v)
    pub join_first : (u v : V) → Is m u → Is m v → Le m u (m.join u v)
    pub join_second : (u v : V) → Is m u → Is m v → Le m v (m.join u v)
    pub join_least : (u v w : V) → Is m u → Is m v → Is m w → Le m u w → Le m v w → Le m (m.join u v) w
    -- meet spreads over join
    pub spreads : (u v w : V) → Is m u → Is m v → Is m w → m.meet u (m.join v w) ≡ m.join (m.meet u v) (m.meet u w)
    -- the size is from 2 to 4,097; at 4,097 there are no cuts, and below it the laws of cuts and numbers are owed
    pub at_least : 2 ≤ m.size
    pub at_most : m.size ≤ too_many
    pub no_cuts : m.size ≡ too_many → m.cuts ≡ 0
    pub counted : m.size ≤ most_values → Counted

  -- What a logic adds: an opposite for each value and a partner for each cut.
  pub record Opposed (opposite : V → V) (partner : ℕ → ℕ) : Type 0 where
    pub opposite_valid : (v : V) → Is m v → Is m (opposite v)
    -- opposite twice gives the value back, and it reverses the order
    pub twice : (v : V) → Is m v → opposite (opposite v) ≡ v
    pub turns : (u v : V) → Is m u → Is m v → m.leq (opposite v) (opposite u) ≡ m.leq u v
    pub partner_less : m.size ≤ most_values → (j : ℕ) → j < m.cuts → partner j < m.cuts
    -- a cut is at or below the opposite of v exactly when its partner is not at or below v
    pub cut_opposite : m.size ≤ most_values → (j : ℕ) (v : V) → j < m.cuts → Is m v → m.leq (m.cut j) (opposite v) ≡ not (m.leq (m.cut (partner j)) v)
