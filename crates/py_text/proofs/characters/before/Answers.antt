use Rattle.py_text.proofs.CharLemmas.{seam}
use Rattle.py_text.proofs.characters.before.Goals as goal

pub range-requires-clause-end_boundary : goal.range-requires-clause-end_boundary
range-requires-clause-end_boundary c = seam c.args.text.now _ c.behind-rest.result.now c.behind-rest.ensures.follows c.behind-rest.utf8
