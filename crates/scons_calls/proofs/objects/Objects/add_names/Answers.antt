use Rattle.scons_calls.proofs.Naming.{names_given, objects_given}
use Rattle.scons_calls.proofs.objects.Objects.add_names.Goals as goal

pub returns-clause-names : goal.returns-clause-names
returns-clause-names c = names_given c.args.self.now c.add_first_names.new.self c.count.result c.add_first_names.result c.count.ensures c.add_first_names.ensures

pub returns-clause-objects : goal.returns-clause-objects
returns-clause-objects c = objects_given c.args.self.now c.add_first_names.new.self c.count.result c.add_first_names.result c.count.ensures c.add_first_names.ensures
