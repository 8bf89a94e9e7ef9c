use Rattle.py_compare.proofs.Characters.{characters_told}
use Rattle.py_compare.proofs.iterables.characters_length.Goals as goal

pub returns : goal.returns
returns c = characters_told c.args.text.now c.slice.result.now c.args.count c.slice.ensures
