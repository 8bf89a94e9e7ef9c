use Rattle.std.proofs.Common.{[]}
use Rattle.scons_host.specs.declared.end.ReadKind.TheVariants as read
use Rattle.scons_host.specs.Forms.{is_script, has_no_tree}
use Rattle.scons_host.proofs.Scripting.{broken_by}
use Rattle.scons_host.proofs.sources.script_by.Goals as goal

pub returns-in-Ok-clause-ok : goal.returns-in-Ok-clause-ok
returns-in-Ok-clause-ok c = is_script c.args.tokens.now c.requires c.in-Ok.ensures.found

pub returns-in-Err-At-clause-fault : goal.returns-in-Err-At-clause-fault
returns-in-Err-At-clause-fault c =
    let source = c.args.source.now in
    broken_by source.path source.bytes c.in-Err-At.line (read.Parse c.in-Err-At.kind []) c.without_tree.result c.without_tree.ensures.there
    (has_no_tree c.args.tokens.now c.in-Err-At.token c.requires (rw c.in-Err-At.field-0-is at c.in-Err-At.ensures.found))
