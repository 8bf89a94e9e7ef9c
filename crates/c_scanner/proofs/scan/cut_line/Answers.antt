use Rattle.std.proofs.Common.{◌≡◌, ◌+◌, ◌-◌, take, drop, length, arith}
use Rattle.std.proofs.lemmas.Grind.{common_steps}
use Rattle.c_scanner.proofs.LineLemmas.{cut_at_feed, one_line}
use Rattle.c_scanner.proofs.scan.cut_line.Goals as goal

pub returns-in_err-end-clause-lines : goal.returns-in_err-end-clause-lines
returns-in_err-end-clause-lines c = rw c.from_residual.ensures (one_line c.args.text.now (c.in_err-end.ensures {u = tt}))

pub returns-clause-lines : goal.returns-clause-lines
returns-clause-lines c =
    let found = c.in_ok-end.ensures {u = tt} in
    let behind : take (length c.args.text.now - (c.in_ok-end.end + 1)) (drop (c.in_ok-end.end + 1) c.args.text.now) ≡ drop (c.in_ok-end.end + 1) c.args.text.now = grind (arith, common_steps) in
    rw behind (cut_at_feed c.args.text.now c.in_ok-end.end found.0 found.1)
