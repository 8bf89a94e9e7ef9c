use Rattle.std.proofs.Common.{◌≡◌, None, drop}
use Rattle.std.specs.Option.{option_or}
use Rattle.scons_decls.specs.State.{declared_of}
use Rattle.scons_rules.specs.Libraries.{Files, found_among, found_in}
use Rattle.scons_rules.proofs.libraries.candidates.Given as goal

abbrev pub invariant-loop-dir : goal.invariant-loop-dir
invariant-loop-dir l = record {
  unknown : l.wanted.known ≡ None;
  found : (f : Files) → found_among f (declared_of l.state) l.file l.dirs ≡ option_or (found_in f l.wanted) (found_among f (declared_of l.state) l.file (drop l.dir-index l.dirs));
}
