use Rattle.std.proofs.Common.{◌≡◌, ◌∙◌, List, [], ◌∷◌, ◌++◌, refl, sym, subst, ap}
use Rattle.scons_base.specs.Parts.{dir_of}
use Rattle.c_scanner.specs.declared.line.Include.{Include}
use Rattle.rule_graph.specs.declared.rule.Rule.{Rule}
use Rattle.world_api.specs.Around.{IsRunningTarget}
use Rattle.world_api.proofs.Looking.{looks_joined}
use Rattle.build_model.specs.Rules.{Path}
use Rattle.build_means.proofs.Lists.{some_same}
use Rattle.build_files.specs.Kept.{past, includes_in}
use Rattle.build_files.specs.Searched.{meant, AreDirs, AreNodesOf}
use Rattle.build_files.proofs.Presence.{same_keys}
use Rattle.build_files.proofs.Reading.{reads_by, reads_fewer, reads_joined, reads_same, reads_searched}
use Rattle.build_files.proofs.Searching.{place_more}
use Rattle.build_files.proofs.Truths.{kept_same, kept_includes, kept_no_includes, included_same}
use Rattle.build_files.proofs.inputs.Inputs.look_up.Goals as goal

pub returns-in_err-found-clause-looks : goal.returns-in_err-found-clause-looks
returns-in_err-found-clause-looks g c = looks_joined _ _ _ _ c.read_once.ensures.looks c.search_each.ensures.looks

pub returns-clause-looks : goal.returns-clause-looks
returns-clause-looks g c = looks_joined _ _ _ _ c.read_once.ensures.looks c.search_each.ensures.looks

pub returns-in_err-keep_includes-clause-looks : goal.returns-in_err-keep_includes-clause-looks
returns-in_err-keep_includes-clause-looks g c = looks_joined _ _ _ _ c.read_once.ensures.looks c.search_each.ensures.looks

pub returns-in_err-found-clause-only : goal.returns-in_err-found-clause-only
returns-in_err-found-clause-only g c =
    reads_searched c.args.file c.args.self.now c.read_once.new.self c.take_includes.new.self c.search_each.new.self c.read_once.ensures.only c.take_includes.ensures.sees
    c.search_each.ensures.only

pub returns-in_err-keep_includes-clause-only : goal.returns-in_err-keep_includes-clause-only
returns-in_err-keep_includes-clause-only g c =
    let files = c.args.file ∷ [] in
    reads_joined files c.args.self.now c.search_each.new.self _
    (reads_searched c.args.file c.args.self.now c.read_once.new.self c.take_includes.new.self c.search_each.new.self c.read_once.ensures.only c.take_includes.ensures.sees
    c.search_each.ensures.only) (reads_fewer files _ _ (reads_same c.search_each.new.self c.keep_includes.new.self c.in_err-keep_includes.ensures.same))

pub returns-clause-only : goal.returns-clause-only
returns-clause-only g c =
    reads_joined (c.args.file ∷ []) c.args.self.now c.search_each.new.self _
    (reads_searched c.args.file c.args.self.now c.read_once.new.self c.take_includes.new.self c.search_each.new.self c.read_once.ensures.only c.take_includes.ensures.sees
    c.search_each.ensures.only)
    (reads_by c.args.file c.search_each.new.self (record c.search_each.new.self { files = c.keep_includes.new.self }) refl c.in_ok-keep_includes.ensures.done.others)

pub returns-in_err-found-clause-truth : goal.returns-in_err-found-clause-truth
returns-in_err-found-clause-truth g c = λ still told b is.
    let before = c.search_each.ensures.looks.told.told told in
    let at = c.in_ok-path_of.ensures.at in
    c.search_each.ensures.truth told b
    (kept_no_includes b _ _ _ _ _ _ at (c.read_once.ensures.truth still before b is) c.take_includes.ensures.sees)

pub returns-in_err-keep_includes-clause-truth : goal.returns-in_err-keep_includes-clause-truth
returns-in_err-keep_includes-clause-truth g c = λ still told b is.
    let before = c.search_each.ensures.looks.told.told told in
    let at = c.in_ok-path_of.ensures.at in
    let one = c.read_once.ensures.truth still before b is in
    let three = c.search_each.ensures.truth told b (kept_no_includes b _ _ _ _ _ _ at one c.take_includes.ensures.sees) in
    kept_same b _ _ _ _ c.in_err-keep_includes.ensures.same three

pub returns-clause-truth : goal.returns-clause-truth
returns-clause-truth g c = λ still told b is.
    let before = c.search_each.ensures.looks.told.told told in
    let at = c.in_ok-path_of.ensures.at in
    let path0 = c.in_ok-path_of.field-0.now in
    let one = c.read_once.ensures.truth still before b is in
    let three = c.search_each.ensures.truth told b (kept_no_includes b _ _ _ _ _ _ at one c.take_includes.ensures.sees) in
    let m = g.W.Disk.meaning in
    let middle = m.around c.read_once.new.world in
    let later = m.around c.search_each.new.world in
    let first = c.read_once.ensures.looks.around before in
    let second = c.search_each.ensures.looks.around told in
    let free : IsRunningTarget middle.running path0 → ⊥ = λ running. still path0 at (subst (λ r. IsRunningTarget r path0) first.running running) in
    let found : c.in-Some.includes ≡ includes_in (past c.read_once.new.self.gone.keys middle.tree path0) =
    (one.seen c.args.file.0 path0 at).now.includes c.in-Some.includes (sym c.in-Some.ensures.was) in
    kept_includes b c.search_each.new.graph c.search_each.new.self c.keep_includes.new.self later c.args.file.0 path0
    (place_more c.args.graph.now c.search_each.new.graph c.args.file.0 path0 c.search_each.ensures.grows at) three
    (λ running. free (subst (λ r. IsRunningTarget r path0) second.running running))
    (found ∙ ap (λ (keys : List Path). includes_in (past keys middle.tree path0)) (sym (same_keys c.read_once.new.self c.search_each.new.self c.search_each.ensures.gone))
    ∙ sym (included_same c.search_each.new.self.gone.keys middle later path0 free second))
    c.in_ok-keep_includes.ensures.done

pub returns-clause-found : goal.returns-clause-found
returns-clause-found g c = λ still x path rule there told b is.
    let before = c.search_each.ensures.looks.told.told told in
    let at = c.in_ok-path_of.ensures.at in
    let path0 = c.in_ok-path_of.field-0.now in
    let one = c.read_once.ensures.truth still before b is in
    let m = g.W.Disk.meaning in
    let middle = m.around c.read_once.new.world in
    let begun = m.around c.args.world.now in
    let found : c.in-Some.includes ≡ includes_in (past c.read_once.new.self.gone.keys middle.tree path0) =
    (one.seen c.args.file.0 path0 at).now.includes c.in-Some.includes (sym c.in-Some.ensures.was) in
    let same : path0 ≡ path = some_same (sym at ∙ there) in
    let same_rule : c.in_ok-rule_at.field-0.now ≡ x = some_same (sym c.in_ok-rule_at.ensures.at ∙ rule) in
    let are : AreDirs c.in_ok-dirs.dirs x.paths path =
    c.in_ok-dirs.ensures
    ∙ ap (λ (paths : List Path). dir_of path0 ∷ (paths ++ dir_of path0 ∷ [])) (c.as_slice-paths.ensures ∙ ap (λ (r : Rule). r.paths) same_rule)
    ∙ ap (λ (p : Path). dir_of p ∷ (x.paths ++ dir_of p ∷ [])) same in
    subst (λ (includes : List Include). AreNodesOf c.search_each.new.graph (meant b x.paths path includes) c.in_ok-found.found.items)
    (c.as_slice.ensures ∙ found ∙ ap (λ (keys : List Path). includes_in (past keys middle.tree path0)) (same_keys c.args.self.now c.read_once.new.self c.read_once.ensures.gone)
    ∙ included_same c.args.self.now.gone.keys begun middle path0 (still path0 at) (c.read_once.ensures.looks.around before)
    ∙ ap (λ (p : Path). includes_in (past c.args.self.now.gone.keys begun.tree p)) same)
    (c.in_ok-found.ensures.found x.paths path are told b (kept_no_includes b _ _ _ _ _ _ at one c.take_includes.ensures.sees))
