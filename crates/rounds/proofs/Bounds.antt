-- Places in a stretch.
use Rattle.std.proofs.Common.{ℕ, ◌+◌, ◌*◌, ◌<◌, ◌≤◌, arith}
use Rattle.std.proofs.lemmas.Nat.{mul-le}

-- row i of n entries each, of n, ends within n rows
pub row_ends : (i n len : ℕ) → i < n → n * n ≤ len → i * n + n ≤ len
row_ends i n len h k = omega (arith, mul-le (i + 1) n n n (omega arith) (omega arith))

-- the marks of stage i end within those of n stages
pub marks_end : (i n a : ℕ) → i < n → i * a + a ≤ n * a
marks_end i n a h = omega (arith, mul-le (i + 1) a n a (omega arith) (omega arith))
