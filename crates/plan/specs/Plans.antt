-- What a plan file comes to: from its bytes to what is printed.
use Rattle.std.specs.Prelude.{◌≡◌, ℕ, ◌*◌, ◌<◌, Bool, true, false, List, [], ◌∷◌, ◌++◌, length, take, Some, Ok, Err, Option, Result, ◌≢◌, nat_lt, slice_index}
use Rattle.scale.specs.declared.Refusal.{Refusal}
use Rattle.scale.specs.Refusals.{refusal_number}
use Rattle.chains.specs.Ranges.{within}
use Rattle.chains.specs.Chains.{chain as chain_model, chain_opposite, chain_partner}
use Rattle.chains.specs.Sets.{sets as sets_model, sets_opposite, sets_partner}
use Rattle.orders.specs.Orders.{listed}
use Rattle.orders.specs.Words.{rows_of, opposites_of, verdict}
use Rattle.table.specs.Tables.{table_model, table_partner}
use Rattle.words.specs.declared.kind.Kind.{Kind}
use Rattle.words.specs.declared.kind.Kind.TheVariants.{Table, Chain, Sets}
use Rattle.table.specs.Bytes.{whole_words}
use Rattle.words.specs.Kinds.{kind_of}
use Rattle.sheet.specs.Sheet.{LogicOf}
use Rattle.sheet.specs.Logics.{logic_of}
use Rattle.report.specs.declared.Output.{Output}
use Rattle.report.specs.declared.Refusal.TheVariants.{Logic}
use Rattle.report.specs.declared.Stop.{Stop}
use Rattle.plan.specs.Calls.{word_at, SheetPlan}

-- A plan has at most 8,192 words: what follows them is no word of it.
abbrev pub most_words : ℕ
most_words = 8192

abbrev pub plan_words : List ℕ → List ℕ
plan_words bytes = take most_words (whole_words bytes)

-- Bytes follow the last word: it is cut short, or there are too many.
abbrev pub left_over : List ℕ → Bool
left_over bytes = nat_lt (4 * length (plan_words bytes)) (length bytes)

-- The logics that a plan can name.
abbrev pub chain_logic : ℕ → LogicOf ℕ
chain_logic n = logic_of (chain_model n) (chain_opposite n) (chain_partner n)

abbrev pub sets_logic : ℕ → LogicOf ℕ
sets_logic k = logic_of (sets_model k) (sets_opposite k) sets_partner

abbrev pub table_logic : List ℕ → LogicOf ℕ
table_logic ws = logic_of (table_model (length ws) (rows_of ws)) (listed (opposites_of ws)) (table_partner (length ws) (rows_of ws) (opposites_of ws))

-- The plan stops at word i, which is refused by the maker of a logic.
abbrev pub logic_at : ℕ → Refusal → Option Stop
logic_at i r = Some (record { word = i; refusal = Logic r })

-- Words of a table, one or more.
pub record TableWords (ws : List ℕ) : Type 0 where
  pub some : 0 < length ws
  pub each : (k : ℕ) → k < length ws → kind_of (slice_index ws k) ≡ Some Table

-- The word names no logic.
pub record NoLogic (k : Option Kind) : Type 0 where
  pub no_chain : (n : ℕ) → k ≢ Some (Chain n)
  pub no_sets : (n : ℕ) → k ≢ Some (Sets n)
  pub no_table : k ≡ Some Table → ⊥

-- A plan of which word 0 names a maker's logic: the words after it, or the maker's refusal.
abbrev pub PlanOver : {S V : Type 0} → (S → LogicOf V) → Result S Refusal → Bool → ℕ → List ℕ → List Output → Option Stop → Type 0
PlanOver logic (Ok s) more i ws os stop = SheetPlan (logic s) more i ws os stop
PlanOver logic (Err why) more i ws os stop = (os ≡ []) × (stop ≡ logic_at 0 why)

-- The words of a plan: a logic first, then its sheet. A table is judged at the word after its last, whatever that word is.
pub data Plan (more : Bool) : List ℕ → List Output → Option Stop → Type 0 where
  no_word : Plan more [] [] (word_at 0)
  other_word : {w : ℕ} {ws : List ℕ} → NoLogic (kind_of w) → Plan more (w ∷ ws) [] (word_at 0)
  over_chain : {w n : ℕ} {ws : List ℕ} {os : List Output} {stop : Option Stop} →
      kind_of w ≡ Some (Chain n) → within 2 64 n ≡ true → SheetPlan (chain_logic n) more 1 ws os stop → Plan more (w ∷ ws) os stop
  no_chain : {w n : ℕ} {ws : List ℕ} {r : Refusal} → kind_of w ≡ Some (Chain n) → within 2 64 n ≡ false → refusal_number r ≡ 10 → Plan more (w ∷ ws) [] (logic_at 0 r)
  over_sets : {w k : ℕ} {ws : List ℕ} {os : List Output} {stop : Option Stop} →
      kind_of w ≡ Some (Sets k) → within 1 12 k ≡ true → SheetPlan (sets_logic k) more 1 ws os stop → Plan more (w ∷ ws) os stop
  no_sets : {w k : ℕ} {ws : List ℕ} {r : Refusal} → kind_of w ≡ Some (Sets k) → within 1 12 k ≡ false → refusal_number r ≡ 10 → Plan more (w ∷ ws) [] (logic_at 0 r)
  over_table : (w : ℕ) (ts ws : List ℕ) {os : List Output} {stop : Option Stop} →
      TableWords ts → (kind_of w ≢ Some Table) → verdict ts ≡ Ok tt → SheetPlan (table_logic ts) more (length ts) (w ∷ ws) os stop → Plan more (ts ++ (w ∷ ws)) os stop
  no_table : (w : ℕ) (ts ws : List ℕ) {r : Refusal} → TableWords ts → (kind_of w ≢ Some Table) → verdict ts ≡ Err r → Plan more (ts ++ (w ∷ ws)) [] (logic_at (length ts) r)
  unended_table : {ts : List ℕ} → TableWords ts → Plan more ts [] (word_at (length ts))
