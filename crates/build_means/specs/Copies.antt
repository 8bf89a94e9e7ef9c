-- Copies in variant directories. The chapter on variant directories of the SCons User Guide tells of them; that a copy is
-- never copied further is this project's own.
use Rattle.std.specs.Prelude.{Bool, false, not, Option, Some, None, ◌&&◌, ◌||◌, is_some, if◌then◌else◌}
use Rattle.std.specs.Option.{unwrap_or}
use Rattle.variant_dirs.specs.Variants.{variant_of, source_of}
use Rattle.variant_dirs.specs.declared.variants.Variant.{Variant}
use Rattle.rule_graph.specs.Graphs.{RuleGraph}
use Rattle.build_model.specs.Rules.{Path, Tree}
use Rattle.build_means.specs.Rules.{is_declared}

abbrev pub has_copies : Option Variant → Bool
has_copies (Some variant) = variant.duplicate
has_copies None = false

-- whether the path lies in a variant directory with copies
abbrev pub is_copied : RuleGraph → Path → Bool
is_copied g path = has_copies (variant_of g.variants path)

-- The path in the source directory, where a path lies in a variant directory with copies. Where that would be too long for
-- a path it is the path itself: then it is no copy, and none is made of it unless a rule was declared for it.
abbrev pub source_for : RuleGraph → Path → Option Path
source_for g path = if is_copied g path then Some (unwrap_or (source_of g.variants g.top path) path) else None

-- whether it is copied: a rule was declared for it, or it is a file outside of such directories
abbrev pub is_source : RuleGraph → Tree → Path → Bool
is_source g tree source = is_declared g source || (not (is_copied g source) && is_some (tree source))

abbrev pub source_among : RuleGraph → Tree → Option Path → Option Path
source_among g tree (Some source) = if is_source g tree source then Some source else None
source_among g tree None = None

-- The path that a path is copied from where no rule was declared for it.
abbrev pub copied_from : RuleGraph → Tree → Path → Option Path
copied_from g tree path = if is_copied g path then source_among g tree (source_of g.variants g.top path) else None

-- A path is known: a rule was declared for it, or it is copied, or a file stands there.
abbrev pub is_known : RuleGraph → Tree → Path → Bool
is_known g tree path = is_declared g path || (is_some (copied_from g tree path) || is_some (tree path))
