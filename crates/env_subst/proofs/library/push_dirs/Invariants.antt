use Rattle.std.proofs.Common.{◌≡◌}
use Rattle.variant_dirs.specs.Variants.{AreSpelled}
use Rattle.env_subst.specs.Settings.{setting_of}
use Rattle.env_subst.specs.Entries.{behind, dirs_of}
use Rattle.env_subst.specs.Frames.{entries_left}
use Rattle.env_subst.proofs.library.push_dirs.Given as goal

-- with those that are left these are all
abbrev pub invariant-entries : goal.invariant-entries
invariant-entries l = record {
  whole :
      behind l.found (dirs_of (setting_of l.setting) (entries_left (setting_of l.setting) l.entries)) ≡ behind l.initial.found (dirs_of (setting_of l.setting) (entries_left (setting_of l.setting) l.initial.entries));
  spelled : AreSpelled l.setting.locals.now.top l.initial.found → AreSpelled l.setting.locals.now.top l.found;
}
