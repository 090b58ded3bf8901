-- Where the parts of a sheet lie in the stretch of values that is lent, for n stages and a marks:
-- n rows of arrows, n times a entries of marks stage by stage, 64 answer rows, and two work rows.
use Rattle.std.specs.Prelude.{ℕ, ◌+◌, ◌*◌}

-- The most lines of a sheet, and how many line words a call is lent at the least.
abbrev pub most_lines : ℕ
most_lines = 64

-- How many values a sheet asks for.
abbrev pub room : ℕ → ℕ → ℕ
room n a = n * (n + a + 66)

-- The place of the arrow from stage s to stage t, and of mark k at stage s.
abbrev pub arrow_place : ℕ → ℕ → ℕ → ℕ
arrow_place n s t = s * n + t

abbrev pub mark_place : ℕ → ℕ → ℕ → ℕ → ℕ
mark_place n a s k = n * n + (s * a + k)

-- Where the answer row of line k begins, and where the two work rows do.
abbrev pub answer_row : ℕ → ℕ → ℕ → ℕ
answer_row n a k = n * (n + a + k)

abbrev pub work_rows : ℕ → ℕ → ℕ
work_rows n a = answer_row n a most_lines
