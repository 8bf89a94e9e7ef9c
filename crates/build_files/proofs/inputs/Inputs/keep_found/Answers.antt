use Rattle.std.proofs.Common.{[], ◌∷◌, refl}
use Rattle.build_files.specs.declared.includes.Found.{Found}
use Rattle.build_files.specs.declared.inputs.Inputs.{Inputs}
use Rattle.build_files.proofs.Reading.{reads_fewer, reads_joined, reads_listed, reads_scan}
use Rattle.build_files.proofs.Scans.{found_kept, found_true, found_unkept}
use Rattle.build_files.proofs.inputs.Inputs.keep_found.Goals as goal

pub returns-in_err-insert-clause-truth : goal.returns-in_err-insert-clause-truth
returns-in_err-insert-clause-truth c = λ b around found_for is.
    let listed = c.list_of.ensures.truth b c.args.graph.now c.args.self.now.gone.keys around c.in_ok-rule_at.ensures.at is.found in
    let found : Found = record c.list_of.new.self { files = c.insert.new.self } in
    found_true b c.args.graph.now c.args.self.now found around
    (found_unkept b c.args.graph.now c.args.self.now.gone.keys around c.list_of.new.self found refl refl c.in_err-insert.ensures.err listed) is

pub returns-clause-truth : goal.returns-clause-truth
returns-clause-truth c = λ b around found_for is.
    let listed = c.list_of.ensures.truth b c.args.graph.now c.args.self.now.gone.keys around c.in_ok-rule_at.ensures.at is.found in
    let dirs = c.in_ok-dirs.ensures.list b c.args.graph.now c.args.self.now.gone.keys around c.in_ok-rule_at.ensures.at is.found in
    found_true b c.args.graph.now c.args.self.now (record c.list_of.new.self { files = c.insert.new.self }) around
    (found_kept b c.args.graph.now c.args.self.now.gone.keys around c.list_of.new.self (record c.list_of.new.self { files = c.insert.new.self })
    (record { file = c.args.file; dirs = c.in_ok-dirs.dirs }) c.args.found refl refl c.in_ok-insert.ensures.updates.0 (record {
      paths = c.in_ok-rule_at.field-0.now.paths;
      path = found_for.path;
      dirs = dirs;
      file = found_for.at;
      still = found_for.still;
      meaning = found_for.meaning c.in_ok-rule_at.field-0.now c.in_ok-rule_at.ensures.at;
    }) listed) is

pub returns-clause-only : goal.returns-clause-only
returns-clause-only c =
    let files = c.args.file ∷ [] in
    let listed : Inputs = record c.args.self.now { found = c.list_of.new.self } in
    reads_joined files c.args.self.now listed _ (reads_fewer files _ listed (reads_listed c.args.self.now c.list_of.new.self c.list_of.ensures.files))
    (reads_scan listed (record c.list_of.new.self { files = c.insert.new.self }) (record { file = c.args.file; dirs = c.in_ok-dirs.dirs }) c.args.found
    c.in_ok-insert.ensures.updates.0)
