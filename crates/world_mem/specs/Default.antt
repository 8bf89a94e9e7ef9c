-- What the shell makes where no row of the table fits.
use Rattle.std.specs.Prelude.{ℕ, List, [], ◌∷◌, ◌++◌, codes, Some, None}
use Rattle.std.specs.List.{flat_map}
use Rattle.hex.specs.Hex.{encode_lower}
use Rattle.md5.specs.Md5.{md5}
use Rattle.world_api.specs.Act.{Content, Given}

-- a text and a line feed
abbrev pub line : List ℕ → List ℕ
line text = text ++ 10 ∷ []

-- the MD5 digest in hexadecimal, or `absent` where there is no file
abbrev pub digest_text : Content → List ℕ
digest_text None = codes "absent"
digest_text (Some bytes) = encode_lower (md5 bytes)

-- the name of a dependency, a space and its digest
abbrev pub dependency_line : List ℕ × Content → List ℕ
dependency_line dependency = line (dependency.0 ++ 32 ∷ digest_text dependency.1)

-- what a target holds where no row fits: the signed lines, the target behind `-> `, and a line for each dependency
abbrev pub default_content : List (List ℕ) → Given → List ℕ → List ℕ
default_content signed given target =
    flat_map line signed ++ line (codes "-> " ++ target) ++ flat_map dependency_line given
