-- What one word of a plan does to its sheet.
use Rattle.std.specs.Prelude.{◌≡◌, ℕ, ◌+◌, ◌<◌, Bool, true, false, ◌⊎◌, List, [], ◌++◌, length, Some, None, Ok, Err, Option, Result}
use Rattle.words.specs.declared.kind.Kind.{Kind}
use Rattle.words.specs.declared.kind.Kind.TheVariants.{End}
use Rattle.sheet.specs.declared.state.Refusal as sheets
use Rattle.sheet.specs.Sheet.{LogicOf, Sheet, Phase, drafting, settled, Call, read_at, value, refused, Step, draft_on, settled_on}
use Rattle.sheet.specs.Runs.{Past, Run}
use Rattle.plan.specs.declared.phase.Phase as states
use Rattle.plan.specs.declared.phase.Phase.TheVariants.{Draft, Settled}
use Rattle.plan.specs.declared.phase.Halt.{Halt}
use Rattle.plan.specs.declared.phase.Halt.TheVariants as halt
use Rattle.report.specs.declared.Output.{Output}
use Rattle.report.specs.declared.Stop.{Stop}
use Rattle.plan.specs.Calls.{Spells, OutOfPhase, Made, Read, prints, word_at, call_at}

-- The sheet that a phase holds, with the memory lent, and the phase that it is in.
abbrev pub sheet_in : {V : Type 0} → states.Phase → List V → List ℕ → Sheet V
sheet_in (Draft d) s ws = draft_on d s ws
sheet_in (Settled x) s ws = settled_on x s ws

abbrev pub phase_of : states.Phase → Phase
phase_of (Draft d) = drafting
phase_of (Settled x) = settled

-- A read whose value is given by its number.
abbrev pub ReadsNumber : {V : Type 0} → LogicOf V → Sheet V → ℕ → ℕ → Result ℕ sheets.Refusal → Type 0
ReadsNumber {V} l w k s (Ok n) = (v : V) × Step l w (read_at k s) (value v) w × (n ≡ l.model.number v)
ReadsNumber l w k s (Err r) = Step l w (read_at k s) (refused r) w

-- The calls lead from the sheet w to u, up to the first that is refused, if one is; what they print comes behind os.
pub record Lead {V : Type 0} (l : LogicOf V) (w : Sheet V) (cs : List Call) (os : List Output) (stop : Option sheets.Refusal) (u : Sheet V) (us : List Output) : Type 0 where
  pub history : List (Past V)
  pub made : Made cs history stop
  pub run : Run l w history u
  pub printed : us ≡ os ++ prints l.model history

-- The answer of a function that makes these calls, to the phase q; of want of memory nothing is said.
abbrev pub Leads : {V : Type 0} → LogicOf V → Sheet V → List Call → Phase → List Output → Result states.Phase Halt → List V → List ℕ → List Output → Type 0
Leads l w cs q os (Ok p) s ws us = Lead l w cs os None (sheet_in p s ws) us × (phase_of p ≡ q)
Leads l w cs q os (Err halt.End) s ws us = ⊥
Leads l w cs q os (Err halt.Word) s ws us = ⊥
Leads {V} l w cs q os (Err (halt.Sheet r)) s ws us = (u : Sheet V) × Lead l w cs os (Some r) u us
Leads l w cs q os (Err (halt.Memory e)) s ws us = Unit {0}

-- The calls that a word spells in a phase, and where they lead.
pub record Goes {V : Type 0} (l : LogicOf V) (w : Sheet V) (k : Option Kind) (os : List Output) (stop : Option sheets.Refusal) (q : Phase) (u : Sheet V) (us : List Output) : Type 0 where
  pub calls : List Call
  pub spelled : Spells w.phase k calls q
  pub lead : Lead l w calls os stop u us

-- What a word comes to in a phase.
abbrev pub WordDone : {V : Type 0} → LogicOf V → states.Phase → List V → List ℕ → Option Kind → List Output → Result states.Phase Halt → List V → List ℕ → List Output → Type 0
WordDone l p s ws k os (Ok q) t xs us = Goes l (sheet_in p s ws) k os None (phase_of q) (sheet_in q t xs) us
WordDone l p s ws k os (Err halt.End) t xs us = (k ≡ Some End) × (us ≡ os)
WordDone l p s ws k os (Err halt.Word) t xs us = OutOfPhase (sheet_in p s ws).phase k × (us ≡ os)
WordDone {V} l p s ws k os (Err (halt.Sheet r)) t xs us = (q : Phase) × ((u : Sheet V) × Goes l (sheet_in p s ws) k os (Some r) q u us)
WordDone l p s ws k os (Err (halt.Memory e)) t xs us = Unit {0}

-- The words from number i on lead from the sheet w: they spell a history, which is a run of w, and what it prints comes behind os.
pub record Plays {V : Type 0} (l : LogicOf V) (w : Sheet V) (more : Bool) (i : ℕ) (words : List ℕ) (os : List Output) (stop : Option Stop) (us : List Output) : Type 0 where
  pub history : List (Past V)
  pub last : Sheet V
  pub spelled : Read more i w.phase words history stop
  pub run : Run l w history last
  pub printed : us ≡ os ++ prints l.model history

-- What follows the end word, which has number i.
abbrev pub Ended : Bool → ℕ → List ℕ → Option Stop → Type 0
Ended more i rest stop = ((stop ≡ None) × (rest ≡ []) × (more ≡ false)) ⊎ ((stop ≡ word_at (i + 1)) × ((0 < length rest) ⊎ (more ≡ true)))

-- Where a plan stops that goes no further at the word with number i, which `rest` follows; of want of memory nothing is said.
abbrev pub Halted : Halt → Bool → ℕ → List ℕ → Option Stop → Type 0
Halted halt.End more i rest stop = Ended more i rest stop
Halted halt.Word more i rest stop = stop ≡ word_at i
Halted (halt.Sheet r) more i rest stop = stop ≡ call_at i r
Halted (halt.Memory e) more i rest stop = ⊥
