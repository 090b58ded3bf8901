use Rattle.std.proofs.Common.{◌≡◌, ◌+◌, ◌-◌, ◌<◌, length, get_or, take, drop, Some, ap, ◌∙◌, rules}
use Rattle.std.proofs.lemmas.List.{nil_from_length}
use Rattle.std.proofs.lemmas.Slice.{first_rest}
use Rattle.sheet.specs.Logics.{logic_of}
use Rattle.sheet.specs.Sheet.{draft_on}
use Rattle.plan.specs.Phases.{Plays}
use Rattle.plan.proofs.Sized.{made_so, sized_none, sized_other, sized_refused, sized_played}
use Rattle.plan.proofs.playing.play_sized.Goals as goal

pub returns-in_default : goal.returns-in_default
returns-in_default g c =
    let logic = c.args.logic.now in
    let l = logic_of (g.L.Scale.model logic) (g.L.Logic.opposes logic) (g.L.Logic.partners logic) in
    let plan = c.args.plan in
    let ws = plan.words.now in
    let none : length ws ≡ 0 = search rules in
    sized_none l plan.more plan.at ws c.args.desk.now.outputs.items c.word_at.result (nil_from_length ws none) c.requires.fresh c.word_at.ensures

pub returns-in_default-of : goal.returns-in_default-of
returns-in_default-of g c =
    let logic = c.args.logic.now in
    let l = logic_of (g.L.Scale.model logic) (g.L.Logic.opposes logic) (g.L.Logic.partners logic) in
    let plan = c.args.plan in
    let ws = plan.words.now in
    let some : 0 < length ws = search rules in
    sized_other l plan.more plan.at (get_or ws 0 0) ws (take (length ws - 1) (drop 1 ws)) c.of.result c.args.desk.now.outputs.items c.word_at-in_default-of.result
    (first_rest ws 0 some) c.of.ensures (λ n a is. search rules) c.requires.fresh c.word_at-in_default-of.ensures

pub returns-in-Err : goal.returns-in-Err
returns-in-Err g c =
    let logic = c.args.logic.now in
    let l = logic_of (g.L.Scale.model logic) (g.L.Logic.opposes logic) (g.L.Logic.partners logic) in
    let plan = c.args.plan in
    let ws = plan.words.now in
    let from = c.args.desk.now in
    let to = c.open.new.desk in
    let some : 0 < length ws = search rules in
    sized_refused l plan.more plan.at (get_or ws 0 0) ws (take (length ws - 1) (drop 1 ws)) c.of.result to.outputs.items (Some (record { word = plan.at; refusal = c.into.result }))
    (first_rest ws 0 some) c.of.ensures c.in-Some-Size.stages c.in-Some-Size.marks (search rules)
    from.stretch.items to.stretch.items from.lines to.lines from.long (search rules)
    c.in-Err.why c.in-Err.ensures.opens (c.in-Err.ensures.printed ∙ c.requires.fresh) (ap (λ r. Some (record { word = plan.at; refusal = r })) c.into.ensures)

pub returns-in-Ok : goal.returns-in-Ok
returns-in-Ok g c =
    let logic = c.args.logic.now in
    let l = logic_of (g.L.Scale.model logic) (g.L.Logic.opposes logic) (g.L.Logic.partners logic) in
    let plan = c.args.plan in
    let ws = plan.words.now in
    let from = c.args.desk.now in
    let at = c.open.new.desk in
    let to = c.play.new.desk in
    let some : 0 < length ws = search rules in
    let rest = take (length ws - 1) (drop 1 ws) in
    made_so (λ stop. Plays l (draft_on c.in-Ok.draft at.stretch.items at.lines) plan.more (plan.at + 1) rest at.outputs.items stop to.outputs.items) _ c.play.result
    (λ stop h. sized_played l plan.more plan.at (get_or ws 0 0) ws rest c.of.result at.outputs.items stop
    (first_rest ws 0 some) c.of.ensures c.in-Some-Size.stages c.in-Some-Size.marks (search rules)
    from.stretch.items at.stretch.items from.lines at.lines from.long (search rules)
    c.in-Ok.draft to.outputs.items c.in-Ok.ensures.opens c.in-Ok.ensures.law (c.in-Ok.ensures.printed ∙ c.requires.fresh) h)
    c.play.ensures
