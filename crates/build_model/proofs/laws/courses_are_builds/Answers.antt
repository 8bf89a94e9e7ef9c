use Rattle.build_model.proofs.Staying.{course_is_seen_so}
use Rattle.build_model.proofs.laws.courses_are_builds.Goals as goal

pub returns : goal.returns
returns c = λ s b jobs t stamps past lawful course. course_is_seen_so s b lawful course
