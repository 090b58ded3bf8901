use Rattle.std.proofs.Common.{◌≡◌, ◌<◌, length, vec_items, sym, ◌∙◌, arith}
use Rattle.std.specs.List.{between}
use Rattle.orders.specs.Orders.{listed}
use Rattle.table.specs.Tables.{table_model, table_partner}
use Rattle.sheet.specs.Logics.{logic_of}
use Rattle.plan.specs.Calls.{SheetPlan}
use Rattle.plan.proofs.Counting.{counts_one}
use Rattle.plan.proofs.Plans.{plan_unended, plan_no_table, plan_table}
use Rattle.plan.proofs.Sized.{made_so}
use Rattle.plan.proofs.run_table.Goals as goal

pub returns-then-count-words : goal.returns-then-count-words
returns-then-count-words c =
    let ws = c.args.words.now in
    let n = c.table_words-count.result in
    let h = c.table_words-count.ensures in
    let all : length ws ≡ n = omega (arith, h.within, c.if-count-words.true) in
    plan_unended c.args.more ws (vec_items c.stopped.result.outputs) c.stopped.result.stop n
    (counts_one ws n c.requires.some c.requires.first h.last) h.each all c.stopped.ensures.outputs (c.stopped.ensures.stop ∙ c.word_at.ensures)

pub returns-in-Ok : goal.returns-in-Ok
returns-in-Ok c =
    let ws = c.args.words.now in
    let n = c.table_words-count.result in
    let h = c.table_words-count.ensures in
    let t = c.load.new.self in
    let e = c.in-Ok.ensures in
    let short : n < length ws = c.if-count-words.false in
    made_so (λ o. SheetPlan (logic_of (table_model t.count t.rows) (listed t.opposites) (table_partner t.count t.rows t.opposites)) c.args.more n (between n (length ws) ws) (vec_items o.outputs) o.stop) _ c.run_sheet.result
    (λ o s. plan_table c.args.more ws (vec_items o.outputs) o.stop n (counts_one ws n c.requires.some c.requires.first h.last) h.each short (h.last short)
    t.count t.rows t.opposites (sym e.answer) e.made.0 e.made.1 e.made.2 s)
    c.run_sheet.ensures

pub returns-in-Err : goal.returns-in-Err
returns-in-Err c =
    let ws = c.args.words.now in
    let n = c.table_words-count.result in
    let h = c.table_words-count.ensures in
    let short : n < length ws = c.if-count-words.false in
    plan_no_table c.args.more ws (vec_items c.refused.result.outputs) c.refused.result.stop n
    (counts_one ws n c.requires.some c.requires.first h.last) h.each short (h.last short)
    c.in-Err.why (sym c.in-Err.ensures.answer) c.refused.ensures.outputs c.refused.ensures.stop
