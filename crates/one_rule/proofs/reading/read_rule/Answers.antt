use Rattle.one_rule.proofs.StopPrints.{read_prints}
use Rattle.one_rule.proofs.reading.read_rule.Goals as goal

pub returns-clause-printed : goal.returns-clause-printed
returns-clause-printed g c =
    read_prints g.O.Sink.meaning c.args.out.now c.print.new.sink c.read_script.result c.read_script.ensures.printed (rw c.reading_text.ensures at c.in_ok-print.ensures.ok)
