use Rattle.py_text.proofs.JoinLemmas.{length-repeated}
use Rattle.py_text.proofs.joining.repeated_length.Goals as goal

pub returns : goal.returns
returns c = rw (length-repeated c.args.text.now c.args.times) c.saturating_mul.ensures
