use Rattle.std.proofs.Common.{◌≡◌}
use Rattle.env_subst.specs.Settings.{setting_of}
use Rattle.env_subst.specs.Desks.{desk_of, left_of}
use Rattle.env_subst.proofs.substitution.run.Given as goal

-- what is left gives the whole
abbrev pub invariant-tasks : goal.invariant-tasks
invariant-tasks l = left_of (setting_of l.setting) (desk_of l.setting.locals.now l.desk) ≡ left_of (setting_of l.setting) (desk_of l.setting.locals.now l.initial.desk)
