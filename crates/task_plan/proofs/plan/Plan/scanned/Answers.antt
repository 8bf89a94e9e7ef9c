use Rattle.task_plan.specs.declared.reach.Growth.{Growth}
use Rattle.task_plan.proofs.AdmitLemmas.{scans_noted}
use Rattle.task_plan.proofs.MetNeeds.{finds_noted_file}
use Rattle.std.proofs.Common.{[]}
use Rattle.task_plan.specs.Admits.{Admits, none}
use Rattle.task_plan.proofs.WatchSteps.{scanned_complete}
use Rattle.task_plan.proofs.OrderSteps.{noted_order}
use Rattle.task_plan.proofs.RootSteps.{noted_others, noted_roots}
use Rattle.task_plan.proofs.plan.Plan.scanned.Goals as goal

pub returns-clause-scans : goal.returns-clause-scans
returns-clause-scans c =
    scans_noted c.args.graph.now c.args.self.now c.note_found.new.self c.take_noted.new.self c.look_on.new.self c.args.rule.0 c.args.found.items c.in_ok-noted.noted
    c.in_ok-noted.ensures.notes c.note_found.ensures.states c.in_ok-take_noted.ensures.admits c.look_on.ensures.stays

pub returns-clause-finds : goal.returns-clause-finds
returns-clause-finds c =
    finds_noted_file c.args.graph.now (λ (x : Growth). x.new.items) c.args.self.now c.note_found.new.self c.take_noted.new.self c.look_on.new.self c.args.rule.0 c.args.found.items c.in_ok-noted.noted
    c.note_found.ensures.origins c.note_found.ensures.states c.in_ok-noted.ensures.notes c.in_ok-noted.ensures.news c.in_ok-take_noted.ensures.admits c.in_ok-take_noted.ensures.finds c.look_on.ensures.stays

pub returns-clause-complete : goal.returns-clause-complete
returns-clause-complete c =
    let n = c.in_ok-noted.ensures in
    let t = c.in_ok-take_noted.ensures in
    scanned_complete (λ (_ : Growth). Admits c.args.graph.now c.note_found.new.self c.take_noted.new.self none []) c.args.graph.now (λ (x : Growth). x.new.items) c.args.self.now c.note_found.new.self c.take_noted.new.self c.look_on.new.self c.args.rule.0 c.args.found.items c.in_ok-noted.noted n.none n.watch n.news
    t.admits t.watch c.in_ok-look_on.ensures.complete

pub returns-clause-order : goal.returns-clause-order
returns-clause-order c =
    let n = c.in_ok-noted.ensures in
    let t = c.in_ok-take_noted.ensures in
    noted_order (λ (x : Growth). x.in_order) (λ (x : Growth). x.new.items) c.args.graph.now c.args.self.now c.note_found.new.self c.take_noted.new.self c.look_on.new.self c.args.rule.0 c.args.found.items c.in_ok-noted.noted
    c.note_found.ensures.states c.note_found.ensures.origins n.notes n.none n.files t.admits t.grows c.look_on.ensures.stays c.in_ok-look_on.ensures.puts

pub returns-clause-others : goal.returns-clause-others
returns-clause-others c =
    let t = c.in_ok-take_noted.ensures in
    noted_others (λ (_ : Growth). Admits c.args.graph.now c.note_found.new.self c.take_noted.new.self none []) (λ (x : Growth). x.new.items) c.args.graph.now c.args.self.now c.note_found.new.self c.take_noted.new.self c.look_on.new.self c.args.rule.0 c.args.found.items c.in_ok-noted.noted
    c.note_found.ensures.states c.note_found.ensures.origins c.in_ok-noted.ensures.news t.admits t.others c.look_on.ensures.stays

pub returns-clause-roots : goal.returns-clause-roots
returns-clause-roots c =
    let n = c.in_ok-noted.ensures in
    let t = c.in_ok-take_noted.ensures in
    noted_roots (λ (_ : Growth). Admits c.args.graph.now c.note_found.new.self c.take_noted.new.self none []) (λ (x : Growth). x.in_order) (λ (x : Growth). x.new.items) c.args.self.now c.note_found.new.self c.take_noted.new.self c.look_on.new.self c.args.rule.0 c.in_ok-noted.noted
    n.none n.files t.admits t.grows c.in_ok-look_on.ensures.puts
