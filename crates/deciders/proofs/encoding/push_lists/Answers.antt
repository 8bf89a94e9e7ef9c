use Rattle.deciders.proofs.Sizes.{fit_parts}
use Rattle.deciders.proofs.encoding.push_lists.Goals as goal

pub push_paths-requires-clause-count : goal.push_paths-requires-clause-count
push_paths-requires-clause-count c = rw c.as_slice.ensures ((fit_parts c.args.rec.now c.requires).targets)

pub push_paths-requires-clause-each : goal.push_paths-requires-clause-each
push_paths-requires-clause-each c = rw c.as_slice.ensures ((fit_parts c.args.rec.now c.requires).target)

pub push_texts-requires-clause-count : goal.push_texts-requires-clause-count
push_texts-requires-clause-count c = rw c.as_slice-2.ensures ((fit_parts c.args.rec.now c.requires).signed)

pub push_texts-requires-clause-each : goal.push_texts-requires-clause-each
push_texts-requires-clause-each c = rw c.as_slice-2.ensures ((fit_parts c.args.rec.now c.requires).text)

pub push_deps-requires-clause-count : goal.push_deps-requires-clause-count
push_deps-requires-clause-count c = rw c.as_slice-3.ensures ((fit_parts c.args.rec.now c.requires).deps)

pub push_deps-requires-clause-each : goal.push_deps-requires-clause-each
push_deps-requires-clause-each c = rw c.as_slice-3.ensures ((fit_parts c.args.rec.now c.requires).dep)
