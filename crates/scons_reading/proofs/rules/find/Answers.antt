use Rattle.std.proofs.Common.{refl, ◌∙◌}
use Rattle.scons_reading.specs.Graphs.{standing_in}
use Rattle.scons_rules.specs.Libraries.{found_in}
use Rattle.scons_reading.proofs.Finding.{one_found, none_found, wanted_is}
use Rattle.scons_reading.proofs.rules.find.Goals as goal

pub returns-in_ok-push-in-Some-clause-ok : goal.returns-in_ok-push-in-Some-clause-ok
returns-in_ok-push-in-Some-clause-ok g c = λ f s.
    one_found c.args.libraries.now c.push.new.self c.in-Some.library (found_in (standing_in f) c.args.wanted.now)
    (wanted_is f c.args.wanted.now c.args.wanted.now.known c.as_slice.result.now c.in_ok-library.field-0 refl c.as_slice.ensures (c.in_ok-library.ensures.ok f s) ∙ c.in-Some.is)
    c.in_ok-push-in-Some.ensures.ok

pub returns-in-None-clause-ok : goal.returns-in-None-clause-ok
returns-in-None-clause-ok g c = λ f s.
    none_found c.args.libraries.now (found_in (standing_in f) c.args.wanted.now)
    (wanted_is f c.args.wanted.now c.args.wanted.now.known c.as_slice.result.now c.in_ok-library.field-0 refl c.as_slice.ensures (c.in_ok-library.ensures.ok f s) ∙ c.in-None.is)
