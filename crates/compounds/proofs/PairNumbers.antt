-- Numbers of a pair: what its code needs of them.
use Rattle.std.proofs.Common.{◌≡◌, ℕ, ◌+◌, ◌-◌, ◌*◌, ◌/◌, ◌%◌, ◌<◌, ◌≤◌, Bool, true, false, cond, ◌&&◌, ltb, leb, Some, None, Option, sym, refl, ap, ◌∙◌, mul-le-mul_right, mod-lt, div-lt_iff_lt-mul, mul-le-mul_left, arith}
use Rattle.std.proofs.Math.Arith.{digits_lt}
use Rattle.std.proofs.lemmas.Bool.{leb-true, le-leb, lt-ltb, cond-true}
use Rattle.scale.specs.Model.{Model, named, number_of, only_if}
use Rattle.scale.specs.Laws.{Lawful}
use Rattle.compounds.specs.Pairs.{pair_model}

few_product : (m n s : ℕ) (t : Bool) → (t ≡ true → m * n ≤ 4096) → s ≡ cond t (m * n) 4097 → s ≤ 4096 → (s ≡ m * n) × (m * n ≤ 4096)
few_product m n s true h e k = (e, h refl)
few_product m n s false h e k = absurd (omega arith)

product : (m n s : ℕ) → s ≡ cond (leb (m * n) 4096) (m * n) 4097 → s ≤ 4096 → (s ≡ m * n) × (m * n ≤ 4096)
product m n s e k = few_product m n s (leb (m * n) 4096) (leb-true (m * n) 4096) e k

named_all : {V : Type 0} (m : Model V) → m.size ≤ 4096 → named m ≡ m.size
named_all m h = cond-true (leb m.size 4096) m.size 0 (le-leb m.size 4096 h)

some_only_if : {V : Type 0} (o : Option V) (t : Bool) (v : V) → o ≡ only_if t v → t ≡ true → o ≡ None → ⊥
some_only_if o t v e y n =
    let s : o ≡ Some v = e ∙ ap (λ b. only_if b v) y in
    let z : ◌≡◌ {A = ℕ} 0 1 = cc in
    omega arith

module _ {A B : Type 0} (a : Model A) (b : Model B) (la : Lawful a) (lb : Lawful b) (n s : ℕ) (is : s ≡ (pair_model a b).size) (within : n < s) (few : s ≤ 4096) where
  pub first_there : (t : ℕ) (v : A) (o : Option A) → t ≡ b.size → o ≡ only_if (ltb (n / t) (named a)) v → o ≡ None → ⊥
  first_there t v o et e none =
      let w = product a.size b.size s is few in
      let p : a.size * 2 ≤ a.size * b.size = mul-le-mul_left a.size lb.at_least in
      let pos : 0 < b.size = omega (arith, lb.at_least) in
      let less : n / b.size < a.size = (div-lt_iff_lt-mul pos).1 (omega (arith, w.0)) in
      let all : named a ≡ a.size = named_all a (omega (arith, w.1)) in
      let lim : n / t < named a = rw (et, all) less in
      some_only_if o (ltb (n / t) (named a)) v e (lt-ltb (n / t) (named a) lim) none

  pub second_there : (t : ℕ) (v : B) (o : Option B) → t ≡ b.size → o ≡ only_if (ltb (n % t) (named b)) v → o ≡ None → ⊥
  second_there t v o et e none =
      let w = product a.size b.size s is few in
      let p : 2 * b.size ≤ a.size * b.size = mul-le-mul_right b.size la.at_least in
      let pos : 0 < b.size = omega (arith, lb.at_least) in
      let less : n % b.size < b.size = mod-lt n pos in
      let all : named b ≡ b.size = named_all b (omega (arith, w.1)) in
      let lim : n % t < named b = rw (et, all) less in
      some_only_if o (ltb (n % t) (named b)) v e (lt-ltb (n % t) (named b) lim) none

numbered_at : {V : Type 0} (m : Model V) (v : V) (x : Bool) (y : Bool) (f : ℕ) → m.valid v ≡ x → leb m.size 4096 ≡ y → Lawful m → only_if (x && y) (m.number v) ≡ Some f → f < m.size
numbered_at m v true true f ex ey l e =
    let h : m.number v < m.size = (l.counted (leb-true m.size 4096 ey)).number_less v ex in
    let k : m.number v ≡ f = cc in
    omega arith
numbered_at m v true false f ex ey l e = let z : ◌≡◌ {A = ℕ} 0 1 = cc in absurd (omega arith)
numbered_at m v false y f ex ey l e = let z : ◌≡◌ {A = ℕ} 0 1 = cc in absurd (omega arith)

numbered_less : {V : Type 0} (m : Model V) (v : V) (f : ℕ) (o : Option ℕ) → Lawful m → o ≡ number_of m v → o ≡ Some f → f < m.size
numbered_less m v f o l e w = numbered_at m v (m.valid v) (leb m.size 4096) f refl refl l (sym e ∙ w)

pair_number : {A B : Type 0} (a : Model A) (b : Model B) (s t f g : ℕ) → s ≡ (pair_model a b).size → s ≤ 4096 → t ≡ b.size → f < a.size → g < b.size → f * t + g < 4096
pair_number a b s t f g is few et hf hg =
    let w = product a.size b.size s is few in
    let d : f * b.size + g < a.size * b.size = digits_lt hf hg in
    let e : f * t + g ≡ f * b.size + g = ap (λ x. f * x + g) et in
    omega (arith, w.1)

pub numbers_fit : {A B : Type 0} (a : Model A) (b : Model B) → Lawful a → Lawful b → (u : A) (v : B) (s t f g : ℕ) (o p : Option ℕ) →
    s ≡ (pair_model a b).size → s ≤ 4096 → t ≡ b.size → o ≡ number_of a u → o ≡ Some f → p ≡ number_of b v → p ≡ Some g → f * t + g < 4096
numbers_fit a b la lb u v s t f g o p is few et eo ho ep hp =
    pair_number a b s t f g is few et (numbered_less a u f o la eo ho) (numbered_less b v g p lb ep hp)

-- of a twist: the number of the second part counts down
pub fallen_there : {V : Type 0} (m : Model V) → Lawful m → (n s t : ℕ) (v : V) (o : Option V) → s ≡ cond (leb (m.size * m.size) 4096) (m.size * m.size) 4097 → s ≤ 4096 → t ≡ m.size → o ≡ only_if (ltb (t - 1 - n % t) (named m)) v → o ≡ None → ⊥
fallen_there m l n s t v o is few et e none =
    let w = product m.size m.size s is few in
    let p : 2 * m.size ≤ m.size * m.size = mul-le-mul_right m.size l.at_least in
    let all : named m ≡ m.size = named_all m (omega (arith, w.1)) in
    let lim : t - 1 - n % t < named m = omega (arith, all, l.at_least) in
    some_only_if o (ltb (t - 1 - n % t) (named m)) v e (lt-ltb (t - 1 - n % t) (named m) lim) none
