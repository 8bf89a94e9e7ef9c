use Rattle.std.proofs.Common.{refl}
use Rattle.py_tree.proofs.Views.{link_tree-Attribute}
use Rattle.py_parse.proofs.Paths.{attribute_unfit0, attribute_unfit1, attribute_ok}
use Rattle.py_parse.proofs.atoms.take_attribute.Goals as goal

pub returns-in_default-clause-found : goal.returns-in_default-clause-found
returns-in_default-clause-found c = λ d. attribute_unfit0 d c.requires.call c.requires.subscript c.in_default.ensures

pub returns-in_default-take_name-clause-found : goal.returns-in_default-take_name-clause-found
returns-in_default-take_name-clause-found c = λ d. attribute_unfit1 d c.requires.call c.requires.subscript c.in-Some.ensures c.in_default-take_name.ensures

pub returns-clause-found : goal.returns-clause-found
returns-clause-found c = λ d.
    let n = c.in-Some-take_name.ensures in
    attribute_ok d c.requires.call c.requires.subscript c.in-Some.ensures n.taking (rw (link_tree-Attribute, c.in_ok-name.ensures, n.on_line, n.called) refl)
