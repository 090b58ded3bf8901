use Rattle.std.proofs.Common.{◌≡◌, ◌-◌, ◌<◌, length, get_or, take, drop, Some, ap, ◌∙◌, rules}
use Rattle.std.proofs.lemmas.List.{nil_from_length}
use Rattle.std.proofs.lemmas.Slice.{first_rest}
use Rattle.chains.specs.Ranges.{within}
use Rattle.plan.specs.Plans.{chain_logic, sets_logic, PlanOver}
use Rattle.plan.proofs.Plans.{plan_none, plan_other, plan_chain, plan_no_chain, plan_sets, plan_no_sets, plan_made}
use Rattle.plan.proofs.Sized.{made_so}
use Rattle.plan.proofs.run_words.Goals as goal

pub returns-in_default : goal.returns-in_default
returns-in_default c =
    let ws = c.args.words.now in
    let none : length ws ≡ 0 = search rules in
    plan_none c.args.more ws c.stopped.result.outputs.items c.stopped.result.stop (nil_from_length ws none) c.stopped.ensures.outputs (c.stopped.ensures.stop ∙ c.word_at.ensures)

pub returns-in_default-of : goal.returns-in_default-of
returns-in_default-of c =
    let ws = c.args.words.now in
    let some : 0 < length ws = search rules in
    let o = c.stopped-in_default-of.result in
    plan_other c.args.more ws o.outputs.items o.stop (get_or ws 0 0) (take (length ws - 1) (drop 1 ws)) c.of.result (first_rest ws 0 some) c.of.ensures
    (λ n is. search rules) (λ n is. search rules) (λ is. search rules) c.stopped-in_default-of.ensures.outputs (c.stopped-in_default-of.ensures.stop ∙ c.word_at-in_default-of.ensures)

pub returns-in-Some-Chain : goal.returns-in-Some-Chain
returns-in-Some-Chain c =
    let ws = c.args.words.now in
    let some : 0 < length ws = search rules in
    let rest = take (length ws - 1) (drop 1 ws) in
    let v = c.in-Some-Chain.values in
    let is = c.in-Some-Chain.is ∙ ap (λ k. Some k) c.in-Some-Chain.field-0-is in
    made_so (λ o. PlanOver (λ s. chain_logic s.n.number) c.new.result c.args.more 1 rest o.outputs.items o.stop) _ c.run_made.result
    (λ o. plan_made c.args.more ws o.outputs.items o.stop (λ s. chain_logic s.n.number) (λ s. s.n.number) (within 2 64 v) v rest c.new.result c.new.ensures
    (λ s. plan_chain c.args.more ws o.outputs.items o.stop (get_or ws 0 0) rest c.of.result (first_rest ws 0 some) c.of.ensures v s.n.number is)
    (λ e. plan_no_chain c.args.more ws o.outputs.items o.stop (get_or ws 0 0) rest c.of.result (first_rest ws 0 some) c.of.ensures v e is))
    c.run_made.ensures

pub returns-in-Some-Sets : goal.returns-in-Some-Sets
returns-in-Some-Sets c =
    let ws = c.args.words.now in
    let some : 0 < length ws = search rules in
    let rest = take (length ws - 1) (drop 1 ws) in
    let v = c.in-Some-Sets.members in
    let is = c.in-Some-Sets.is ∙ ap (λ k. Some k) c.in-Some-Sets.field-0-is in
    made_so (λ o. PlanOver (λ s. sets_logic s.k.number) c.new-in-Some-Sets.result c.args.more 1 rest o.outputs.items o.stop) _ c.run_made-in-Some-Sets.result
    (λ o. plan_made c.args.more ws o.outputs.items o.stop (λ s. sets_logic s.k.number) (λ s. s.k.number) (within 1 12 v) v rest c.new-in-Some-Sets.result c.new-in-Some-Sets.ensures
    (λ s. plan_sets c.args.more ws o.outputs.items o.stop (get_or ws 0 0) rest c.of.result (first_rest ws 0 some) c.of.ensures v s.k.number is)
    (λ e. plan_no_sets c.args.more ws o.outputs.items o.stop (get_or ws 0 0) rest c.of.result (first_rest ws 0 some) c.of.ensures v e is))
    c.run_made-in-Some-Sets.ensures
