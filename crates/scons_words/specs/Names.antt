-- The names of the kinds of refused words, as a run tells them.
use Rattle.std.specs.Prelude.{ℕ, List, codes}
use Rattle.scons_words.specs.declared.fault.UsageKind.{UsageKind}
use Rattle.scons_words.specs.declared.fault.UsageKind.TheVariants as kind

abbrev pub usage_name : UsageKind → List ℕ
usage_name kind.Unknown = codes "Unknown"
usage_name kind.NeedsValue = codes "NeedsValue"
usage_name kind.BadNumber = codes "BadNumber"
usage_name kind.BadValue = codes "BadValue"
usage_name kind.BadTarget = codes "BadTarget"
usage_name kind.BadArgument = codes "BadArgument"
usage_name kind.Mixed = codes "Mixed"
