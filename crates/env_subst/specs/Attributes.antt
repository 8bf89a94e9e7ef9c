-- The attributes of nodes: the chapter `Variable Substitution` of scons(1), those that this tool has.
use Rattle.std.specs.Prelude.{ℕ, ◌-◌, List, take, length, Option, None, Some, codes, if◌then◌else◌}
use Rattle.std.specs.Str.{bytes_eq}
use Rattle.scons_base.specs.Normal.{is_top}
use Rattle.scons_base.specs.Parts.{name_of, suffix_of, base_of, dir_of, is_absolute, joined}
use Rattle.variant_dirs.specs.Variants.{source_of}
use Rattle.env_subst.specs.declared.attribute.Attribute.{Attribute}
use Rattle.env_subst.specs.declared.attribute.Attribute.TheVariants.{Base, Dir, File, Filebase, Suffix, Abspath, Srcpath, Srcdir}
use Rattle.env_subst.specs.declared.locals.Locals.{Locals}
use Rattle.env_subst.specs.declared.locals.Named.{Named}

abbrev pub attribute_named : List ℕ → Option Attribute
attribute_named name =
    if bytes_eq name (codes "base") then Some Base
    else (if bytes_eq name (codes "dir") then Some Dir
    else (if bytes_eq name (codes "file") then Some File
    else (if bytes_eq name (codes "filebase") then Some Filebase
    else (if bytes_eq name (codes "suffix") then Some Suffix
    else (if bytes_eq name (codes "abspath") then Some Abspath
    else (if bytes_eq name (codes "srcpath") then Some Srcpath
    else (if bytes_eq name (codes "srcdir") then Some Srcdir else None)))))))

-- the name without its suffix
abbrev pub filebase_of : List ℕ → List ℕ
filebase_of path = take (length (name_of path) - length (suffix_of path)) (name_of path)

-- the path from the root, where the top directory has the absolute path `top`
abbrev pub absolute_of : List ℕ → List ℕ → List ℕ
absolute_of top path = if is_absolute path then path else (if is_top path then top else joined top path)

-- what an attribute of a node says
abbrev pub part_of : List ℕ → Attribute → Named → List ℕ
part_of top Base node = base_of node.path
part_of top Dir node = dir_of node.path
part_of top File node = name_of node.path
part_of top Filebase node = filebase_of node.path
part_of top Suffix node = suffix_of node.path
part_of top Abspath node = absolute_of top node.path
part_of top Srcpath node = node.src
part_of top Srcdir node = dir_of node.src

abbrev pub source_or : List ℕ → Option (List ℕ) → List ℕ
source_or path (Some source) = source
source_or path None = path

-- a path as a node: its source file is that of a path in a variant directory, and else the path
abbrev pub named_of : Locals → List ℕ → Named
named_of locals path = record { path = path; src = source_or path (source_of locals.variants locals.top path) }
