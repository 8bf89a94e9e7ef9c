use Rattle.c_scanner.proofs.LineLemmas.{adds_line, last_line}
use Rattle.c_scanner.proofs.scan.words_of.Goals as goal

pub loop-line-preserved : goal.loop-line-preserved
loop-line-preserved c =
    rw (c.in_ok-add_line.ensures {u = tt}) (adds_line c.loop-line.found.items c.in-Some.line.now c.in-Some.behind.now c.loop-line.rest.now _ c.in-Some.ensures.lines c.loop-line.invariant)

pub returns : goal.returns
returns c =
    rw (c.new.ensures, c.in_ok-add_line-2.ensures {u = tt}) (last_line c.loop-line.found.items c.loop-line.rest.now _ c.in_default.ensures.lines c.loop-line.invariant)
