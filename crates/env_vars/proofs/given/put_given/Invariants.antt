use Rattle.std.proofs.Common.{◌≡◌, ◌≤◌, ◌++◌, ◌-◌, length, string_bytes}
use Rattle.std.specs.Str.{IsCharBoundary}
use Rattle.env_text.specs.Readings.{reading_from}
use Rattle.env_vars.specs.Given.{replaced, given_text}
use Rattle.env_vars.proofs.given.put_given.Given as goal

-- with what is left the text is whole
abbrev pub invariant-parts : goal.invariant-parts
invariant-parts l = record {
  whole : string_bytes l.given ++ replaced l.name l.old l.text (reading_from l.text l.at) ≡ given_text l.name l.old l.text;
  fits : length (string_bytes l.given) ≤ 16777216;
  boundary : IsCharBoundary l.text l.at;
}

abbrev pub decreases-parts : goal.decreases-parts
decreases-parts l = length l.text - l.at
