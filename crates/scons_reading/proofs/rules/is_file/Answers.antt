use Rattle.std.proofs.Common.{subst}
use Rattle.scons_host.specs.Shown.{IsKindOf}
use Rattle.scons_reading.proofs.Finding.{is_there, is_away}
use Rattle.scons_reading.proofs.rules.is_file.Goals as goal

pub returns-in-Ok-File-clause-ok : goal.returns-in-Ok-File-clause-ok
returns-in-Ok-File-clause-ok g c = λ f s. is_there (f.tree c.args.path.now) c.in-Ok-File.field-0 c.in-Ok-File.field-0-is (c.in-Ok-File.ensures.shown f s)

pub returns-in-Ok-Dir-clause-ok : goal.returns-in-Ok-Dir-clause-ok
returns-in-Ok-Dir-clause-ok g c = λ f s. is_away (f.tree c.args.path.now) (subst (IsKindOf (f.tree c.args.path.now)) c.in-Ok-Dir.field-0-is (c.in-Ok-Dir.ensures.shown f s))

pub returns-in-Ok-Absent-clause-ok : goal.returns-in-Ok-Absent-clause-ok
returns-in-Ok-Absent-clause-ok g c = λ f s. is_away (f.tree c.args.path.now) (subst (IsKindOf (f.tree c.args.path.now)) c.in-Ok-Absent.field-0-is (c.in-Ok-Absent.ensures.shown f s))
