use Rattle.scons_host.proofs.Forms.{only_form}
use Rattle.scons_host.proofs.sources.script_of.Goals as goal

pub returns-clause-only : goal.returns-clause-only
returns-clause-only c = only_form c.args.source.now.path c.args.source.now.bytes c.script_in.result c.script_in.ensures.ok c.script_in.ensures.fault
