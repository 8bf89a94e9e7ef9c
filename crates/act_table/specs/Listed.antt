-- Lists of paths with their contents.
use Rattle.std.specs.Prelude.{ℕ, Bool, List, [], ◌∷◌, ◌++◌, ◌&&◌, None, if◌then◌else◌}
use Rattle.std.specs.Str.{bytes_eq}
use Rattle.std.specs.Option.{option_eq, option_to_list}
use Rattle.std.specs.Cmp.Lexicographic.{pointwise}
use Rattle.world_api.specs.Act.{Content, Given}

-- the content that is listed first for a path, or nothing
abbrev pub listed : Given → List ℕ → Content
listed [] path = None
listed (entry ∷ rest) path = if bytes_eq path entry.0 then entry.1 else listed rest path

-- the same paths with the same contents, in the same order
abbrev pub same_given : Given → Given → Bool
same_given xs ys = pointwise (λ x y. bytes_eq x.0 y.0 && option_eq bytes_eq x.1 y.1) xs ys

-- the contents in a list of paths with their contents
abbrev pub contents_in : Given → List (List ℕ)
contents_in [] = []
contents_in (entry ∷ rest) = option_to_list entry.1 ++ contents_in rest
