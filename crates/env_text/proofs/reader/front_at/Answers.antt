use Rattle.env_text.proofs.Boundaries.{plain_boundary, dollar_boundary}
use Rattle.env_text.proofs.Places.{plain_read}
use Rattle.env_text.proofs.reader.front_at.Goals as goal

pub range-requires-clause-end_boundary : goal.range-requires-clause-end_boundary
range-requires-clause-end_boundary c =
    plain_boundary c.args.text.now c.args.rest.now c.args.first c.plain_len-more.result c.requires c.if-first-eq36.false c.plain_len-more.ensures.count

pub returns-then-first-eq36-clause-boundary : goal.returns-then-first-eq36-clause-boundary
returns-then-first-eq36-clause-boundary c =
    dollar_boundary c.args.text.now c.args.rest.now c.args.first c.behind_dollar.result c.requires c.if-first-eq36.true c.utf8.text c.behind_dollar.ensures

pub returns-else-first-eq36-clause-front : goal.returns-else-first-eq36-clause-front
returns-else-first-eq36-clause-front c =
    plain_read c.args.text.now c.args.rest.now c.range.result.now c.args.first c.plain_len-more.result c.requires c.if-first-eq36.false c.plain_len-more.ensures.count c.range.ensures.value

pub returns-else-first-eq36-clause-boundary : goal.returns-else-first-eq36-clause-boundary
returns-else-first-eq36-clause-boundary c =
    plain_boundary c.args.text.now c.args.rest.now c.args.first c.plain_len-more.result c.requires c.if-first-eq36.false c.plain_len-more.ensures.count
