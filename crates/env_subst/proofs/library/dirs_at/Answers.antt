use Rattle.env_subst.specs.Expansions.{start}
use Rattle.env_subst.proofs.library.dirs_at.Goals as goal

pub returns-in-Name-clause-dirs : goal.returns-in-Name-clause-dirs
returns-in-Name-clause-dirs c = rw (c.in-Name.is, ← c.as_str.ensures) (c.dirs_named.ensures.dirs start)
