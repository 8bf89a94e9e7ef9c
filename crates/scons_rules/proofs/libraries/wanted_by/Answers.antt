use Rattle.std.proofs.Common.{◌∙◌}
use Rattle.scons_rules.specs.Expanding.{expanding}
use Rattle.scons_rules.proofs.Finding.{on_err, libraries_by}
use Rattle.scons_rules.proofs.libraries.wanted_by.Goals as goal

pub returns-clause-fault : goal.returns-clause-fault
returns-clause-fault c =
    on_err c.wanted_all.result c.wanted_all.ensures.fault (λ e told other f.
    libraries_by f (expanding c.args.rule.now) c.in_ok-names.names c.in_ok-dirs.dirs c.in_ok-names.ensures.ok c.in_ok-dirs.ensures.ok
    (rw c.as_slice.ensures at c.in_ok-refuse_for_shell.ensures.ok) ∙ (rw (c.as_slice-2.ensures, c.as_slice-3.ensures) at (told other f)))
