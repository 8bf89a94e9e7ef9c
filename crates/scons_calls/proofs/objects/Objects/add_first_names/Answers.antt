use Rattle.scons_calls.proofs.Numbering.{first_names_more}
use Rattle.scons_calls.proofs.objects.Objects.add_first_names.Goals as goal

pub loop-place-preserved : goal.loop-place-preserved
loop-place-preserved c = first_names_more c.args.self.now c.loop-place.self c.object.new.self c.loop-place.place c.in_ok-object.field-0.0 c.in_ok-object.ensures c.loop-place.invariant
