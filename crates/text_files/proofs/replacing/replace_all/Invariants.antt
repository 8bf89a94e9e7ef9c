use Rattle.std.proofs.Common.{◌≡◌, drop}
use Rattle.world_api.specs.Replacing.{replaced_all}
use Rattle.text_files.specs.Refusals.{too_long}
use Rattle.text_files.proofs.replacing.replace_all.Given as goal

abbrev pub invariant-loop-key : goal.invariant-loop-key
invariant-loop-key l = record {
  made : replaced_all l.made (drop l.key-index l.pairs) ≡ replaced_all l.bytes l.pairs;
  long : too_long l.limit l.made (drop l.key-index l.pairs) ≡ too_long l.limit l.bytes l.pairs;
}
