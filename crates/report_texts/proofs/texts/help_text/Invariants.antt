use Rattle.std.proofs.Common.{◌≡◌, ◌++◌, drop, string_bytes}
use Rattle.std.specs.Prelude.{flat_map}
use Rattle.report_texts.proofs.texts.help_text.Given as goal

abbrev pub invariant-loop-help : goal.invariant-loop-help
invariant-loop-help l = string_bytes l.text ++ flat_map (λ text. text) (drop l.help-index l.help-items) ≡ flat_map (λ text. text) l.help-items
