use Rattle.task_plan.proofs.MetLemmas.{room_still, keeps_same}
use Rattle.task_plan.proofs.MetNeeds.{finds_grown}
use Rattle.task_plan.proofs.AdmitLemmas.{brings_rules, grows}
use Rattle.task_plan.proofs.WatchScans.{grows_watch}
use Rattle.task_plan.proofs.OrderGrows.{grows_in_order}
use Rattle.task_plan.proofs.OtherLemmas.{others_grown}
use Rattle.task_plan.proofs.plan.Plan.take_growth.Goals as goal

pub admit-requires-clause-rules : goal.admit-requires-clause-rules
admit-requires-clause-rules c =
    brings_rules c.args.graph.now c.make_room.new.self c.meet_found.new.self c.meet_found.new.needed.items
    (rw c.new-needed.ensures.items at c.in_ok-meet_found.ensures.brings)

pub admit-requires-clause-room : goal.admit-requires-clause-room
admit-requires-clause-room c =
    let g = c.args.graph.now in
    let b = c.make_room.new.self in
    let d = c.meet_found.new.self in
    let e = c.pass.new.self in
    let f = c.find_ready.new.self in
    let found = room_still g b d c.in_ok-make_room.ensures.room c.in_ok-meet_found.ensures.brings.admits.keeps in
    let passed = room_still g d e found (keeps_same d e c.pass.ensures.stays.origins c.pass.ensures.stays.states) in
    let looked = room_still g e f passed (keeps_same e f c.find_ready.ensures.stays.origins c.find_ready.ensures.stays.states) in
    room_still g f c.note_growth.new.self looked (keeps_same f c.note_growth.new.self c.note_growth.ensures.stays.origins c.note_growth.ensures.stays.states)

pub returns-clause-admits : goal.returns-clause-admits
returns-clause-admits c =
    grows c.args.graph.now c.args.self.now c.make_room.new.self c.meet_found.new.self c.pass.new.self c.find_ready.new.self c.note_growth.new.self c.admit.new.self c.meet_found.new.needed.items
    c.make_room.ensures.widens (rw c.new-needed.ensures.items at c.in_ok-meet_found.ensures.brings) c.pass.ensures.stays c.find_ready.ensures.stays c.note_growth.ensures.stays c.in_ok-admit.ensures.admits

pub returns-clause-finds : goal.returns-clause-finds
returns-clause-finds c =
    finds_grown c.args.graph.now c.args.self.now c.make_room.new.self c.meet_found.new.self c.pass.new.self c.find_ready.new.self c.note_growth.new.self c.admit.new.self c.args.growth.now.new.items
    c.make_room.ensures.widens c.in_ok-meet_found.ensures.finds c.pass.ensures.stays c.find_ready.ensures.stays c.note_growth.ensures.stays c.in_ok-admit.ensures.admits.keeps c.in_ok-admit.ensures.finds

pub returns-clause-watch : goal.returns-clause-watch
returns-clause-watch c =
    let n = c.note_growth.ensures in
    let room = c.in_ok-make_room.ensures in
    let k = c.in_ok-meet_found.ensures in
    grows_watch c.args.graph.now c.args.self.now c.make_room.new.self c.meet_found.new.self c.pass.new.self c.find_ready.new.self c.note_growth.new.self c.admit.new.self c.args.rule.0 c.scan_start-start.result
    c.args.growth.now.new.items c.meet_found.new.needed.items c.make_room.ensures.watch room.marks (rw c.new-needed.ensures.items at k.watch) c.meet_found.ensures.leaves k.hears c.pass.ensures.passes
    c.find_ready.ensures.readies c.scan_start-start.ensures n.rest n.fewer c.in_ok-admit.ensures.watch

pub returns-clause-grows : goal.returns-clause-grows
returns-clause-grows c =
    let n = c.note_growth.ensures in
    grows_in_order c.args.self.now c.make_room.new.self c.meet_found.new.self c.pass.new.self c.find_ready.new.self c.note_growth.new.self c.admit.new.self c.args.rule.0 c.scan_start-start.result
    c.args.growth.now.in_order c.args.growth.now.new.items c.make_room.ensures.watch c.make_room.ensures.roots c.make_room.ensures.widens c.in_ok-meet_found.ensures.order c.in_ok-meet_found.ensures.ready
    c.meet_found.ensures.leaves c.pass.ensures.stays c.find_ready.ensures.stays c.pass.ensures.passes c.find_ready.ensures.readies n.rest n.fewer n.place c.in_ok-admit.ensures.order

pub returns-clause-others : goal.returns-clause-others
returns-clause-others c =
    others_grown c.args.graph.now c.args.self.now c.make_room.new.self c.meet_found.new.self c.pass.new.self c.find_ready.new.self c.note_growth.new.self c.admit.new.self c.args.growth.now.new.items c.meet_found.new.needed.items
    c.make_room.ensures.widens (rw c.new-needed.ensures.items at c.in_ok-meet_found.ensures.others) c.pass.ensures.stays c.find_ready.ensures.stays c.note_growth.ensures.stays c.in_ok-admit.ensures.others
