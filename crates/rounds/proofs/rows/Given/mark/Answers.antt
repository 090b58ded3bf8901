use Rattle.std.proofs.Common.{◌+◌, ◌*◌, ◌<◌, length, arith, rules}
use Rattle.rounds.proofs.Bounds.{marks_end}
use Rattle.rounds.proofs.rows.Given.mark.Goals as goal

pub offset_bounds-self-n : goal.offset_bounds-self-n
offset_bounds-self-n g c =
    let s = c.args.self.now in let n = s.stages in let e = marks_end c.args.i n s.marks c.requires.stage in
    let h : n * n + (c.args.i * s.marks + c.args.m) < length s.values.now = omega (arith, s.entries) in
    search rules
