-- Where the parts of a sheet lie: apart from one another, and within its room.
use Rattle.std.proofs.Common.{◌≡◌, ℕ, ◌+◌, ◌*◌, ◌/◌, ◌%◌, ◌<◌, ◌≤◌, sym, ap, ◌∙◌, inl, mul-le-mul_left, mul-add, arith}
use Rattle.std.proofs.lemmas.Nat.{mul-add-lt, div-mul-add, mod-mul-add}
use Rattle.sheet.specs.Layout.{room, arrow_place, mark_place, answer_row, work_rows}
use Rattle.sheet.specs.Sheet.{Elsewhere}

row_is : (n a k : ℕ) → n * (n + a + k) ≡ n * n + n * a + n * k
row_is n a k = mul-add n (n + a) k ∙ ap (λ x. x + n * k) (mul-add n n a)

pub arrow_within : (n s t : ℕ) → s < n → t < n → arrow_place n s t < n * n
arrow_within n s t h k = omega (arith, mul-add-lt s n t n h k)

pub mark_within : (n a s k : ℕ) → s < n → k < a → mark_place n a s k < answer_row n a 0
mark_within n a s k h l = omega (arith, mul-add-lt s a k n h l, row_is n a 0)

pub entries_first : (n a : ℕ) → n * n ≤ answer_row n a 0
entries_first n a = omega (arith, row_is n a 0)

-- rows in their order
pub rows_order : (n a i j : ℕ) → i ≤ j → answer_row n a i ≤ answer_row n a j
rows_order n a i j h = mul-le-mul_left n (let e : n + a + i ≤ n + a + j = omega arith in e)

pub row_after : (n a k : ℕ) → answer_row n a (k + 1) ≡ answer_row n a k + n
row_after n a k = omega (arith, row_is n a k, row_is n a (k + 1), mul-add n k 1)

pub work_room : (n a : ℕ) → work_rows n a + (n + n) ≡ room n a
work_room n a = omega (arith, row_is n a 64, row_is n a 66, mul-add n 64 2)

pub row_within : (n a k i : ℕ) → k < 64 → i < n → answer_row n a k + i < work_rows n a
row_within n a k i h l = omega (arith, row_after n a k, rows_order n a (k + 1) 64 (omega arith))

pub answer_within : (n a k i : ℕ) → k < 64 → i < n → answer_row n a k + i < room n a
answer_within n a k i h l = omega (arith, row_within n a k i h l, work_room n a)

pub entries_within : (n a : ℕ) → answer_row n a 0 ≤ room n a
entries_within n a = omega (arith, rows_order n a 0 64 (omega arith), work_room n a)

-- an entry lies in no answer row and in no work row
pub entry_elsewhere : (n a count p : ℕ) → p < answer_row n a 0 → Elsewhere n a count p
entry_elsewhere n a count p h = record { answers = inl h; work = inl (omega (arith, rows_order n a 0 64 (omega arith))) }

-- different entries have different places
pub arrow_row : (n s t i j : ℕ) → t < n → j < n → arrow_place n s t ≡ arrow_place n i j → s ≡ i
arrow_row n s t i j p q e = sym (div-mul-add s n t p) ∙ ap (λ x. x / n) e ∙ div-mul-add i n j q

pub arrow_column : (n s t i j : ℕ) → t < n → j < n → arrow_place n s t ≡ arrow_place n i j → t ≡ j
arrow_column n s t i j p q e = sym (mod-mul-add s n t p) ∙ ap (λ x. x % n) e ∙ mod-mul-add i n j q

pub mark_rest : (n a s k i j : ℕ) → mark_place n a s k ≡ mark_place n a i j → arrow_place a s k ≡ arrow_place a i j
mark_rest n a s k i j e = omega arith
