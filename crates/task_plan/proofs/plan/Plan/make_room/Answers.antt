use Rattle.std.proofs.Common.{arith, ap, length}
use Rattle.task_plan.proofs.AdmitLemmas.{widens_stays, widens_trans}
use Rattle.task_plan.proofs.WatchMeets.{widens_watch_trans}
use Rattle.task_plan.proofs.plan.Plan.make_room.Goals as goal

pub returns-clause-widens : goal.returns-clause-widens
returns-clause-widens c =
    let a = c.args.self.now in
    let b = c.make_node_room.new.self in
    let d = c.make_rule_room.new.self in
    let e = c.make_mark_room.new.self in
    widens_trans a b e c.make_node_room.ensures.widens (widens_trans b d e c.make_rule_room.ensures.widens (widens_stays d e c.make_mark_room.ensures.stays))

pub returns-clause-room : goal.returns-clause-room
returns-clause-room c =
    let nodes = c.in_ok-make_node_room.ensures.room in
    let rules = c.in_ok-make_rule_room.ensures.room in
    let k = c.make_rule_room.ensures.widens.keeps in
    let s = c.make_mark_room.ensures.stays in
    let o = ap length s.origins in
    let n = ap length s.states in
    let f = c.len.ensures.len in
    let r = c.rules.ensures.len in
    record { files = omega arith; states = omega arith }

pub returns-clause-watch : goal.returns-clause-watch
returns-clause-watch c =
    let a = c.args.self.now in
    let b = c.make_node_room.new.self in
    let d = c.make_rule_room.new.self in
    let e = c.make_mark_room.new.self in
    widens_watch_trans a b e c.make_node_room.ensures.watch (widens_watch_trans b d e c.make_rule_room.ensures.watch c.make_mark_room.ensures.watch)
