-- The range of a maker's argument.
use Rattle.std.specs.Prelude.{ℕ, Bool, ◌&&◌, nat_le}

-- n is from low to high
abbrev pub within : ℕ → ℕ → ℕ → Bool
within low high n = nat_le low n && nat_le n high
