use Rattle.std.proofs.Common.{◌∙◌, [], ◌∷◌}
use Rattle.world_api.proofs.Looking.{looks_joined}
use Rattle.build_files.proofs.Copying.{grew_by_nodes, grew_joined, nodes_grown}
use Rattle.build_files.proofs.Reading.{reads_fewer, reads_joined}
use Rattle.build_files.proofs.Marking.{over_kept}
use Rattle.build_files.proofs.inputs.Inputs.scanned.Goals as goal

pub returns-in_err-add_found-clause-looks : goal.returns-in_err-add_found-clause-looks
returns-in_err-add_found-clause-looks g c = looks_joined _ _ _ _ c.scan.ensures.looks c.add_found.ensures.looks

pub returns-in_err-add_found-clause-grows : goal.returns-in_err-add_found-clause-grows
returns-in_err-add_found-clause-grows g c = grew_joined _ _ _ (grew_by_nodes _ _ c.scan.ensures.grows) c.add_found.ensures.grows

pub returns-in_err-add_found-clause-gone : goal.returns-in_err-add_found-clause-gone
returns-in_err-add_found-clause-gone g c = c.add_found.ensures.gone ∙ c.scan.ensures.gone

pub returns-in_err-add_found-clause-only : goal.returns-in_err-add_found-clause-only
returns-in_err-add_found-clause-only g c =
    let files = c.args.file ∷ [] in
    reads_joined files c.args.self.now c.scan.new.self c.add_found.new.self c.scan.ensures.only (reads_fewer files c.scan.new.self c.add_found.new.self c.add_found.ensures.only)

pub returns-in_err-add_found-clause-truth : goal.returns-in_err-add_found-clause-truth
returns-in_err-add_found-clause-truth g c = λ still told b is. c.add_found.ensures.truth told b (c.scan.ensures.truth still (c.add_found.ensures.looks.told.told told) b is)

pub returns-clause-looks : goal.returns-clause-looks
returns-clause-looks g c = looks_joined _ _ _ _ c.scan.ensures.looks c.add_found.ensures.looks

pub returns-clause-grows : goal.returns-clause-grows
returns-clause-grows g c = grew_joined _ _ _ (grew_by_nodes _ _ c.scan.ensures.grows) c.add_found.ensures.grows

pub returns-clause-gone : goal.returns-clause-gone
returns-clause-gone g c = c.add_found.ensures.gone ∙ c.scan.ensures.gone

pub returns-clause-only : goal.returns-clause-only
returns-clause-only g c =
    let files = c.args.file ∷ [] in
    reads_joined files c.args.self.now c.scan.new.self c.add_found.new.self c.scan.ensures.only (reads_fewer files c.scan.new.self c.add_found.new.self c.add_found.ensures.only)

pub returns-clause-truth : goal.returns-clause-truth
returns-clause-truth g c = λ still told b is. c.add_found.ensures.truth told b (c.scan.ensures.truth still (c.add_found.ensures.looks.told.told told) b is)

pub returns-in_err-found-clause-grows : goal.returns-in_err-found-clause-grows
returns-in_err-found-clause-grows g c = grew_by_nodes _ _ c.scan.ensures.grows

pub returns-clause-found : goal.returns-clause-found
returns-clause-found g c = λ still x path rule at told b is.
    nodes_grown c.scan.new.graph c.add_found.new.graph _ _ c.add_found.ensures.grows
    (c.in_ok-found.ensures.found still x path rule at (c.add_found.ensures.looks.told.told told) b is)

pub returns-clause-looked : goal.returns-clause-looked
returns-clause-looked g c = λ over. c.in_ok-add_found.ensures.looked (over_kept _ _ _ _ (grew_by_nodes _ _ c.scan.ensures.grows) c.scan.ensures.marks over)
