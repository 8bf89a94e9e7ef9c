use Rattle.std.proofs.Common.{List, [], ◌∷◌, Option, IfSome, ap, subst}
use Rattle.scons_base.specs.declared.ids.NodeId.{NodeId}
use Rattle.build_model.specs.Rules.{Path}
use Rattle.build_files.specs.Kept.{includes_in, past}
use Rattle.build_files.specs.Searched.{meant, AreNodesOf}
use Rattle.build_files.proofs.Looking.{quiet}
use Rattle.build_files.proofs.Reading.{reads_fewer, reads_joined}
use Rattle.build_files.proofs.Scans.{found_for_rule, handed_on, kept_nodes}
use Rattle.build_files.proofs.inputs.Inputs.scan.Goals as goal

pub returns-in_err-found-clause-cause : goal.returns-in_err-found-clause-cause
returns-in_err-found-clause-cause g c =
    let counts = g.W.Disk.meaning.counts c.args.world.now in
    handed_on counts counts c.from_residual.result _ c.from_residual.ensures.1 (c.in_err-found.ensures.quiet counts)

pub returns-in_err-found-clause-only : goal.returns-in_err-found-clause-only
returns-in_err-found-clause-only g c = reads_fewer (c.args.file ∷ []) c.args.self.now c.found_before.new.self c.found_before.ensures.only

pub returns-in_err-found-2-clause-only : goal.returns-in_err-found-2-clause-only
returns-in_err-found-2-clause-only g c =
    let files = c.args.file ∷ [] in
    reads_joined files c.args.self.now c.found_before.new.self c.look_up.new.self (reads_fewer files c.args.self.now c.found_before.new.self c.found_before.ensures.only)
    c.look_up.ensures.only

pub returns-clause-only : goal.returns-clause-only
returns-clause-only g c =
    let files = c.args.file ∷ [] in
    reads_joined files c.args.self.now c.found_before.new.self c.keep_found.new.self (reads_fewer files c.args.self.now c.found_before.new.self c.found_before.ensures.only)
    (reads_joined files c.found_before.new.self c.look_up.new.self c.keep_found.new.self c.look_up.ensures.only c.keep_found.ensures.only)

pub returns-in-Some-clause-found : goal.returns-in-Some-clause-found
returns-in-Some-clause-found g c = λ still x path rule at told b is.
    let around = g.W.Disk.meaning.around c.args.world.now in
    subst (λ (found : Option (List NodeId)). IfSome found
    (λ nodes. AreNodesOf c.args.graph.now (meant b x.paths path (includes_in (past c.args.self.now.gone.keys around.tree path))) nodes)) c.in-Some.is
    (c.in_ok-found.ensures.found b around x path rule at is)

pub returns-clause-cause : goal.returns-clause-cause
returns-clause-cause g c = quiet _ _ c.keep_found.result c.in_ok-found-2.ensures.cause c.keep_found.ensures.quiet

pub returns-clause-truth : goal.returns-clause-truth
returns-clause-truth g c = λ still told b is.
    let m = g.W.Disk.meaning in
    let begun = m.around c.args.world.now in
    let before = c.found_before.ensures.truth b begun is in
    let found_for =
    found_for_rule b c.args.graph.now c.look_up.new.graph c.found_before.new.self c.look_up.new.self begun (m.around c.look_up.new.world)
    c.args.rule.0 c.args.file.0 c.in_ok-found-2.found.items c.in_ok-found-2.ensures.known still (c.look_up.ensures.looks.around told)
    c.look_up.ensures.grows c.look_up.ensures.gone (λ x path rule at. c.in_ok-found-2.ensures.found still x path rule at told b before) in
    c.keep_found.ensures.truth b (m.around c.look_up.new.world) found_for (c.look_up.ensures.truth still told b before)

pub returns-clause-found : goal.returns-clause-found
returns-clause-found g c = λ still x path rule at told b is.
    let begun = g.W.Disk.meaning.around c.args.world.now in
    let before = c.found_before.ensures.truth b begun is in
    let nodes = subst (λ (keys : List Path). AreNodesOf c.look_up.new.graph (meant b x.paths path (includes_in (past keys begun.tree path))) c.in_ok-found-2.found.items)
    (ap (λ gone. gone.keys) c.found_before.ensures.gone) (c.in_ok-found-2.ensures.found still x path rule at told b before) in
    kept_nodes c.look_up.new.graph (meant b x.paths path (includes_in (past c.args.self.now.gone.keys begun.tree path))) c.in_ok-found-2.found.items
    c.keep_found.result c.keep_found.ensures.same nodes
