use Rattle.std.proofs.Common.{◌≡◌, ◌++◌, drop, vec_items, string_bytes}
use Rattle.report.specs.Texts.{outputs_text}
use Rattle.report.proofs.Outcome.text.Given as goal

-- the text so far, with the lines of the outputs that are left, is that of all
abbrev pub invariant-loop-output : goal.invariant-loop-output
invariant-loop-output l = string_bytes l.text ++ outputs_text (drop l.output-index (vec_items l.self.outputs)) ≡ outputs_text (vec_items l.self.outputs)
