use Rattle.std.proofs.Common.{◌∙◌, sym}
use Rattle.build_files.proofs.Truths.{digest_by}
use Rattle.build_files.proofs.inputs.Inputs.digest.Goals as goal

pub returns-in-Some-clause-digest : goal.returns-in-Some-clause-digest
returns-in-Some-clause-digest g c = λ told b path at is. (is.seen _ path at).now.digest c.in-Some.digest (sym c.digest.ensures ∙ c.in-Some.is)

pub returns-in-None-clause-digest : goal.returns-in-None-clause-digest
returns-in-None-clause-digest g c = λ told b path at is. digest_by _ _ _ _ is.hash (c.read.ensures.digest told path at)
