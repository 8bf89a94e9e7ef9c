use Rattle.std.proofs.Common.{◌≡◌, ◌-◌, length}
use Rattle.std.specs.Str.{IsCharBoundary}
use Rattle.env_text.specs.Readings.{reading_from}
use Rattle.scons_decls.specs.References.{reading_allowed}
use Rattle.scons_decls.proofs.references.refuse_references.Given as goal

abbrev pub invariant-parts : goal.invariant-parts
invariant-parts l = record {
  boundary : IsCharBoundary l.text l.at;
  left : reading_allowed (reading_from l.text l.at) ≡ reading_allowed (reading_from l.text 0);
}

abbrev pub decreases-parts : goal.decreases-parts
decreases-parts l = length l.text - l.at
