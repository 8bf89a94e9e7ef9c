-- The characters of pieces as they are put behind a text that grows.
use Rattle.std.specs.Prelude.{List, [], ◌∷◌}
use Rattle.py_tree.specs.Tree.{Tree, cons, text, field}
use Rattle.py_heap.specs.declared.value.Value.{Value}
use Rattle.py_heap.specs.Heap.{Objects}
use Rattle.py_compare.specs.Growing.{Growth, grown}
use Rattle.py_meaning.specs.Joined.{text_of}

abbrev pub put_pieces : Objects → Growth → Tree → List Value → Growth
put_pieces h g (cons (field l t) ps) (x ∷ xs) = put_pieces h (grown g (text_of h x)) ps xs
put_pieces h g (cons (field l t) ps) [] = put_pieces h (grown g []) ps []
put_pieces h g (cons (text l t) ps) xs = put_pieces h (grown g t) ps xs
put_pieces h g (cons other ps) xs = put_pieces h g ps xs
put_pieces h g other xs = g
