use Rattle.std.proofs.Common.{◌≡◌}
use Rattle.env_subst.specs.Settings.{setting_of}
use Rattle.env_subst.specs.Entries.{items_of, more_items}
use Rattle.env_subst.specs.Frames.{entries_left}
use Rattle.env_subst.proofs.library.push_names.Given as goal

-- with those that are left these are all
abbrev pub invariant-entries : goal.invariant-entries
invariant-entries l =
    more_items l.items (items_of (entries_left (setting_of l.setting) l.entries)) ≡ more_items l.initial.items (items_of (entries_left (setting_of l.setting) l.initial.entries))
