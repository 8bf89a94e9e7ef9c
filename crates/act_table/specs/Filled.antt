-- Contents beside paths, put there in their order.
use Rattle.std.specs.Prelude.{ℕ, zero, suc, List, [], ◌∷◌, None, map}
use Rattle.world_api.specs.Act.{Content, Given}

-- the contents of a list of paths
abbrev pub contents_of : Given → List Content
contents_of pairs = map (λ pair. pair.1) pairs

-- the same paths, with these contents in their order
abbrev pub refilled : Given → List Content → Given
refilled [] contents = []
refilled (pair ∷ pairs) [] = pair ∷ pairs
refilled (pair ∷ pairs) (content ∷ contents) = (pair.0, content) ∷ refilled pairs contents

-- the same paths, and another content at this place
abbrev pub with_content : ℕ → Content → Given → Given
with_content place content [] = []
with_content zero content (pair ∷ pairs) = (pair.0, content) ∷ pairs
with_content (suc place) content (pair ∷ pairs) = pair ∷ with_content place content pairs

-- the same paths, and other contents from this place on
abbrev pub filled_from : ℕ → Given → List Content → Given
filled_from place pairs [] = pairs
filled_from place pairs (content ∷ contents) = filled_from (suc place) (with_content place content pairs) contents

-- the paths with these contents in their order, and with none where there are no more
abbrev pub paired : List (List ℕ) → List Content → Given
paired [] contents = []
paired (path ∷ paths) [] = (path, None) ∷ paired paths []
paired (path ∷ paths) (content ∷ contents) = (path, content) ∷ paired paths contents
