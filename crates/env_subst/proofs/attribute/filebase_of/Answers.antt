use Rattle.env_subst.proofs.NameParts.{boundary}
use Rattle.env_subst.proofs.attribute.filebase_of.Goals as goal

pub range-requires-clause-end_boundary : goal.range-requires-clause-end_boundary
range-requires-clause-end_boundary c = boundary _ c.args.path.now _ c.name-name.ensures c.suffix.ensures c.suffix.utf8
