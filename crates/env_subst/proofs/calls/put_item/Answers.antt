use Rattle.env_subst.proofs.calls.put_item.Goals as goal

pub returns-in-Read : goal.returns-in-Read
returns-in-Read c = rw c.in-Read.is c.put_apart.ensures

pub returns-in-Plain : goal.returns-in-Plain
returns-in-Plain c = rw c.in-Plain.is c.put_known.ensures

pub returns-in-Path : goal.returns-in-Path
returns-in-Path c = rw c.in-Path.is c.put_node.ensures
