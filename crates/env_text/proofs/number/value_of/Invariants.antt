use Rattle.std.proofs.Common.{◌≡◌, ◌≤◌, min, drop}
use Rattle.std.specs.Str.Parse.{digits_value_after}
use Rattle.env_text.specs.declared.number.TheConstants.{LARGEST}
use Rattle.env_text.specs.Words.{value_of}
use Rattle.env_text.proofs.number.value_of.Given as goal

-- whatever the digits that are left give, all give
abbrev pub invariant-loop-digit : goal.invariant-loop-digit
invariant-loop-digit l = (l.value ≤ LARGEST) × (min (digits_value_after 10 l.value (drop l.digit-index l.digits)) LARGEST ≡ value_of l.digits)
