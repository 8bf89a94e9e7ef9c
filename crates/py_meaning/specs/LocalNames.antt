-- Which names are local in a function: section 4.2.1 ("Binding of names") of the Python language reference. A parameter is,
-- and a name that is bound anywhere in the body: by an assignment, an augmented one, a `for` or a `def`.
use Rattle.std.specs.Prelude.{ℕ, List, [], ◌∷◌}
use Rattle.std.specs.Str.{bytes_eq}
use Rattle.indexmap.specs.IndexSet.{insert_key}
use Rattle.py_tree.specs.Tree.{Tree, nil, cons, word, name, tuple, assign, augment, simple, branching, branch, for'}
use Rattle.py_tree.specs.Tree.{while', def, parameter}

-- one more name, if it isn't there
abbrev pub with_local : List (List ℕ) → List ℕ → List (List ℕ)
with_local names n = insert_key bytes_eq names n

-- the names that a target binds
abbrev pub target_names : List (List ℕ) → Tree → List (List ℕ)
target_names names (name l n) = with_local names n
target_names names (word n) = with_local names n
target_names names (tuple l ts b) = target_names names ts
target_names names nil = names
target_names names (cons t ts) = target_names (target_names names t) ts
target_names names other = names

-- the names that lines bind
abbrev pub bound_names : List (List ℕ) → Tree → List (List ℕ)
bound_names names nil = names
bound_names names (cons t ts) = bound_names (bound_names names t) ts
bound_names names (simple ss) = bound_names names ss
bound_names names (assign l t e) = target_names names t
bound_names names (augment l k t e) = target_names names t
bound_names names (branching bs ls) = bound_names (bound_names names bs) ls
bound_names names (branch l t ls) = bound_names names ls
bound_names names (for' l ns e ls) = bound_names (target_names names ns) ls
bound_names names (while' l t ls) = bound_names names ls
bound_names names (def l n ps ls) = with_local names n
bound_names names other = names

abbrev pub parameter_names : List (List ℕ) → Tree → List (List ℕ)
parameter_names names nil = names
parameter_names names (cons (parameter l n d) ps) = parameter_names (with_local names n) ps
parameter_names names (cons other ps) = parameter_names names ps
parameter_names names other = names

-- the local names of a function with these parameters and this body
abbrev pub local_names : Tree → Tree → List (List ℕ)
local_names ps body = bound_names (parameter_names [] ps) body
