use Rattle.std.proofs.Common.{refl}
use Rattle.scons_rules.proofs.Walking.{on_ok}
use Rattle.scons_rules.proofs.Finding.{one_pushed}
use Rattle.scons_rules.proofs.libraries.ask_file.Goals as goal

pub returns-clause-found : goal.returns-clause-found
returns-clause-found c =
    on_ok c.push.result c.push.ensures.ok (λ pushed f.
    one_pushed f c.args.wanted.now (record { asked = c.push.new.self; known = c.args.wanted.now.known }) c.requires (record { file = c.args.file; library = c.args.library }) refl pushed)
