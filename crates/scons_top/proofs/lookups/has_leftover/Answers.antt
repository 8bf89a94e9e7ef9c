use Rattle.std.proofs.Common.{◌∙◌, ap, sym, Some}
use Rattle.std.specs.Option.{option_copied}
use Rattle.sign_store.specs.Ends.{image_in}
use Rattle.scons_top.proofs.Finding.{left_found, record_is}
use Rattle.scons_top.proofs.lookups.has_leftover.Goals as goal

pub returns-in-Some-clause-left : goal.returns-in-Some-clause-left
returns-in-Some-clause-left g c = λ known rest.
    let m = g.W.Disk.meaning in
    let new = c.is_leftover.new.world in
    let at = sym (ap option_copied c.in-Some.is) ∙ c.recorded.ensures in
    let has = record_is m c.args.world.now new c.args.view.now c.args.path.now (Some c.in-Some.rec.now) c.requires c.is_leftover.ensures.looks rest.0 known at in
    left_found c.args.graph.now (m.around new) (image_in (m.seen new)) c.args.path.now c.in-Some.rec.now c.is_leftover.result has
    (c.is_leftover.ensures.is rest) (c.is_leftover.ensures.all rest)
