use Rattle.scons_calls.proofs.Numbering.{file_ok, file_fault, dir_ok, dir_fault, alias_ok, alias_fault}
use Rattle.py_heap.specs.declared.fault.ValueFault.TheVariants as fault
use Rattle.scons_calls.proofs.values.given_value.Goals as goal

pub returns-in_ok-copy-in-File-clause-ok : goal.returns-in_ok-copy-in-File-clause-ok
returns-in_ok-copy-in-File-clause-ok c = rw c.in-File.is (file_ok c.args.objects.now c.one_value.new.objects c.args.heap.now c.one_value.new.heap c.in_ok-copy-in-File.field-0 c.as_str.result.now c.in-File.path c.one_value.result c.in_ok-copy-in-File.ensures c.as_str.ensures c.one_value.ensures.ok)

pub returns-in_ok-copy-in-File-clause-fault : goal.returns-in_ok-copy-in-File-clause-fault
returns-in_ok-copy-in-File-clause-fault c = rw c.in-File.is (file_fault c.args.objects.now c.args.heap.now c.in_ok-copy-in-File.field-0 c.as_str.result.now c.in-File.path fault.Memory c.one_value.result c.in_ok-copy-in-File.ensures c.as_str.ensures c.one_value.ensures.fault)

pub returns-in_ok-copy-in-Dir-clause-ok : goal.returns-in_ok-copy-in-Dir-clause-ok
returns-in_ok-copy-in-Dir-clause-ok c = rw c.in-Dir.is (dir_ok c.args.objects.now c.one_value-in-Dir.new.objects c.args.heap.now c.one_value-in-Dir.new.heap c.in_ok-copy-in-Dir.field-0 c.as_str-in-Dir.result.now c.in-Dir.path c.one_value-in-Dir.result c.in_ok-copy-in-Dir.ensures c.as_str-in-Dir.ensures c.one_value-in-Dir.ensures.ok)

pub returns-in_ok-copy-in-Dir-clause-fault : goal.returns-in_ok-copy-in-Dir-clause-fault
returns-in_ok-copy-in-Dir-clause-fault c = rw c.in-Dir.is (dir_fault c.args.objects.now c.args.heap.now c.in_ok-copy-in-Dir.field-0 c.as_str-in-Dir.result.now c.in-Dir.path fault.Memory c.one_value-in-Dir.result c.in_ok-copy-in-Dir.ensures c.as_str-in-Dir.ensures c.one_value-in-Dir.ensures.fault)

pub returns-in_ok-copy-in-Alias-clause-ok : goal.returns-in_ok-copy-in-Alias-clause-ok
returns-in_ok-copy-in-Alias-clause-ok c = rw c.in-Alias.is (alias_ok c.args.objects.now c.one_value-in-Alias.new.objects c.args.heap.now c.one_value-in-Alias.new.heap c.in_ok-copy-in-Alias.field-0 c.as_str-in-Alias.result.now c.in-Alias.name c.one_value-in-Alias.result c.in_ok-copy-in-Alias.ensures c.as_str-in-Alias.ensures c.one_value-in-Alias.ensures.ok)

pub returns-in_ok-copy-in-Alias-clause-fault : goal.returns-in_ok-copy-in-Alias-clause-fault
returns-in_ok-copy-in-Alias-clause-fault c = rw c.in-Alias.is (alias_fault c.args.objects.now c.args.heap.now c.in_ok-copy-in-Alias.field-0 c.as_str-in-Alias.result.now c.in-Alias.name fault.Memory c.one_value-in-Alias.result c.in_ok-copy-in-Alias.ensures c.as_str-in-Alias.ensures c.one_value-in-Alias.ensures.fault)
