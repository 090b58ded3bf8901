use Rattle.std.proofs.Common.{◌≡◌, ◌-◌, ◌<◌, length, get_or, take, drop, IfOk, subst, rules}
use Rattle.std.proofs.lemmas.List.{nil_from_length}
use Rattle.std.proofs.lemmas.Slice.{first_rest}
use Rattle.sheet.specs.Logics.{logic_of}
use Rattle.plan.specs.declared.phase.Phase.TheVariants.{Draft}
use Rattle.plan.specs.Phases.{sheet_in, Halted}
use Rattle.plan.proofs.Plays.{word_more, none_left, word_halts, first_drop}
use Rattle.plan.proofs.Sized.{made_so}
use Rattle.plan.proofs.playing.play.Goals as goal

pub returns-in-Err : goal.returns-in-Err
returns-in-Err g c =
    let logic = c.args.logic.now in
    let l = logic_of (g.L.Scale.model logic) (g.L.Logic.opposes logic) (g.L.Logic.partners logic) in
    let desk = c.words.desk in
    let to = c.step.new.desk in
    let ws = c.words.rest.0.now in
    let at = c.words.rest.1.0 in
    let some : 0 < length ws = search rules in
    made_so (λ stop. Halted c.in-Err.halt c.args.plan.more at (drop 1 ws) stop) _ c.stop.result
    (λ stop h. c.words.invariant.2 stop to.outputs.items
    (word_halts l c.args.plan.more c.words.phase desk.stretch.items to.stretch.items desk.lines to.lines at
    (get_or ws 0 0) ws (drop 1 ws) c.of.result desk.outputs.items to.outputs.items c.in-Err.halt stop (first_drop ws some) c.of.ensures c.in-Err.ensures h))
    (subst (λ m. IfOk c.stop.result (λ stop. Halted c.in-Err.halt m at (drop 1 ws) stop)) c.words.invariant.1 c.stop.ensures)

pub words-preserved : goal.words-preserved
words-preserved g c =
    let logic = c.args.logic.now in
    let l = logic_of (g.L.Scale.model logic) (g.L.Logic.opposes logic) (g.L.Logic.partners logic) in
    let desk = c.words.desk in
    let to = c.step.new.desk in
    let ws = c.words.rest.0.now in
    let plan = c.args.plan in
    let from = c.args.desk.now in
    let some : 0 < length ws = search rules in (
      search rules,
      c.words.invariant.1,
      word_more l plan.more (sheet_in (Draft c.args.draft) from.stretch.items from.lines) plan.at plan.words.now from.outputs.items
          (sheet_in c.words.phase desk.stretch.items desk.lines) c.words.rest.1.0
          (get_or ws 0 0) ws (take (length ws - 1) (drop 1 ws)) c.of.result desk.outputs.items to.outputs.items c.in-Ok.next to.stretch.items to.lines
          (first_rest ws 0 some) c.of.ensures c.words.invariant.2 c.in-Ok.ensures,
    )

pub returns : goal.returns
returns g c =
    let logic = c.args.logic.now in
    let l = logic_of (g.L.Scale.model logic) (g.L.Logic.opposes logic) (g.L.Logic.partners logic) in
    let desk = c.words.desk in
    let ws = c.words.rest.0.now in
    let none : length ws ≡ 0 = search rules in
    c.words.invariant.2 c.word_at.result desk.outputs.items
    (none_left l c.args.plan.more (sheet_in c.words.phase desk.stretch.items desk.lines) c.words.rest.1.0 desk.outputs.items ws c.word_at.result (nil_from_length ws none) c.word_at.ensures)
