-- What a worked case says, fact by fact. Values are named by their numbers.
use Rattle.std.specs.Prelude.{◌≡◌, ℕ, ◌<◌, List, [], ◌∷◌, length, Some, Ok, slice_index, slice_index_or}
use Rattle.scale.specs.Numbers.{meet_number, join_number, opposite_number, cut_number}
use Rattle.orders.specs.Words.{verdict}
use Rattle.ctl.specs.Formulas.{Plan, Formula}
use Rattle.ctl.specs.Values.{Row, Value, Takes}
use Rattle.cases.specs.Logics.{Made, Entry, model, opposite, partner, ops}

-- A plan over a logic. Row s of `arrows` has the arrows from stage s, to each stage in turn;
-- row m of `marks` has mark m, at each stage in turn. An entry that is not listed is number 0.
pub record Sheet : Type 0 where
  pub logic : Made
  pub arrows : List (List ℕ)
  pub marks : List (List ℕ)

-- number t of row s
abbrev pub in_row : List (List ℕ) → ℕ → ℕ → ℕ
in_row rows s t = slice_index (slice_index_or rows s []) t

abbrev pub plan_of : (p : Sheet) → Plan (Entry p.logic)
plan_of p = record {
  stages = length p.arrows;
  arrow = λ s t. (model p.logic).value (in_row p.arrows s t);
  mark = λ s m. (model p.logic).value (in_row p.marks m s);
}

pub data Fact : Type 0 where
  -- the words are accepted as a table
  loads : List ℕ → Fact
  -- u join v is w, u meet v is w
  joins meets : Made → ℕ → ℕ → ℕ → Fact
  -- the opposite of u is v
  opposes : Made → ℕ → ℕ → Fact
  -- u and v are cuts, and each is the partner of the other
  partners : Made → ℕ → ℕ → Fact
  -- the formula at the stage is v
  valued : Sheet → Formula → ℕ → ℕ → Fact
  -- settling the formula takes so many rounds that change something
  takes : Sheet → Formula → ℕ → Fact

-- u is a cut, and its partner is the cut v
pub record Partnered (l : Made) (u v : ℕ) : Type 0 where
  pub cut : ℕ
  pub first : cut_number (model l) cut ≡ Some u
  pub second : cut_number (model l) (partner l cut) ≡ Some v

-- the formula has a value, and every row that is its value has the answer at the stage
pub record ValueIs (p : Sheet) (f : Formula) (stage answer : ℕ) : Type 0 where
  pub within : stage < length p.arrows
  pub exists : (z : Row (Entry p.logic)) × Value (ops p.logic) (plan_of p) f z
  pub always : (z : Row (Entry p.logic)) → Value (ops p.logic) (plan_of p) f z → z stage ≡ (model p.logic).value answer

-- the formula takes k rounds, and no other count
pub record TakesOnly (p : Sheet) (f : Formula) (k : ℕ) : Type 0 where
  pub taken : Takes (ops p.logic) (plan_of p) f k
  pub only : (i : ℕ) → Takes (ops p.logic) (plan_of p) f i → i ≡ k

abbrev pub FactHolds : Fact → Type 0
FactHolds (loads words) = verdict words ≡ Ok tt
FactHolds (joins l u v w) = join_number (model l) u v ≡ Some w
FactHolds (meets l u v w) = meet_number (model l) u v ≡ Some w
FactHolds (opposes l u v) = opposite_number (model l) (opposite l) u ≡ Some v
FactHolds (partners l u v) = Partnered l u v × Partnered l v u
FactHolds (valued p f s v) = ValueIs p f s v
FactHolds (takes p f k) = TakesOnly p f k

-- Each fact of a case holds,
abbrev pub AllHold : List Fact → Type 0
AllHold [] = Unit {0}
AllHold (x ∷ xs) = FactHolds x × AllHold xs

-- and each case of a list.
abbrev pub EachHolds : List (List Fact) → Type 0
EachHolds [] = Unit {0}
EachHolds (x ∷ xs) = AllHold x × EachHolds xs
