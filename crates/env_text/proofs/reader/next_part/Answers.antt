use Rattle.std.proofs.Common.{sym, ◌∙◌}
use Rattle.env_text.specs.Views.{plain}
use Rattle.env_text.proofs.Places.{part_read}
use Rattle.env_text.proofs.reader.next_part.Goals as goal

pub returns-in-Takes-clause-reads : goal.returns-in-Takes-clause-reads
returns-in-Takes-clause-reads c =
    part_read c.args.text.now c.in-Some.behind.now c.args.at c.in-Some.first.now c.in-Takes.more (plain c.in-Takes.part)
    (sym c.range_from-rest.ensures.value ∙ sym c.as_bytes.ensures.value ∙ c.in-Some.ensures.cases.0) (sym c.in-Takes.ensures.front)
