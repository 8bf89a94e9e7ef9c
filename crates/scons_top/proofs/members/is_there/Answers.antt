use Rattle.std.proofs.Common.{◌∙◌, subst, sym}
use Rattle.sign_store.specs.Ends.{image_in}
use Rattle.scons_top.specs.Asked.{NamesNone}
use Rattle.scons_top.specs.Finding.{TellsRule}
use Rattle.scons_top.specs.Naming.IsThere.{above}
use Rattle.scons_top.proofs.Opening.{bytes_after, bytes_list, bytes_memory}
use Rattle.scons_top.proofs.Asking.{asked_list, asked_memory, look_at}
use Rattle.scons_top.proofs.Finding.{of_on, records_on}
use Rattle.scons_top.proofs.Membership.{tells_yes, there_counts, there_made}
use Rattle.scons_top.proofs.Watching.{watches_on}
use Rattle.scons_top.proofs.Causing.{look_exit, world_back, world_memory}
use Rattle.scons_top.proofs.members.is_there.Goals as goal

pub returns-in_err-is_made-clause-step : goal.returns-in_err-is_made-clause-step
returns-in_err-is_made-clause-step g c = look_exit _ _ c.from_residual.result _ c.from_residual.ensures.1 c.in_err-is_made.ensures.cause

pub returns-in_err-is_above-clause-step : goal.returns-in_err-is_above-clause-step
returns-in_err-is_above-clause-step g c = let r = c.from_residual-in_err-is_above in world_memory _ _ r.result r.ensures.1 c.in_ok-is_made.ensures.cause

pub returns-clause-step : goal.returns-clause-step
returns-clause-step g c = world_back _ _ _ c.stands.result c.in_ok-is_made.ensures.cause c.stands.ensures.step

pub returns-clause-watches : goal.returns-clause-watches
returns-clause-watches g c = watches_on _ _ _ _ c.has_rule.ensures.watches c.stands.ensures.watches

pub returns-in_err-is_made-clause-stops : goal.returns-in_err-is_made-clause-stops
returns-in_err-is_made-clause-stops g c = asked_list NamesNone c.from_residual.result _ c.from_residual.ensures.1 (look_at NamesNone _ _ _ c.in_err-is_made.ensures.cause)

pub returns-in_err-is_above-clause-stops : goal.returns-in_err-is_above-clause-stops
returns-in_err-is_above-clause-stops g c = asked_memory NamesNone c.from_residual-in_err-is_above.result c.from_residual-in_err-is_above.ensures.1

pub returns-in_err-is_made-clause-bytes : goal.returns-in_err-is_made-clause-bytes
returns-in_err-is_made-clause-bytes g c = λ t. bytes_list _ c.from_residual.result _ c.from_residual.ensures.1

pub returns-in_err-is_above-clause-bytes : goal.returns-in_err-is_above-clause-bytes
returns-in_err-is_above-clause-bytes g c = λ t. bytes_memory _ c.from_residual-in_err-is_above.result c.from_residual-in_err-is_above.ensures.1

pub returns-clause-bytes : goal.returns-clause-bytes
returns-clause-bytes g c =
    bytes_after g.W.Disk.meaning c.args.world.now c.has_rule.new.world c.stands.new.world c.stands.result c.has_rule.ensures.watches.looks c.stands.ensures.watches.looks.told.told
    c.stands.ensures.bytes

pub returns-in_err-is_made-clause-of : goal.returns-in_err-is_made-clause-of
returns-in_err-is_made-clause-of g c = λ h. of_on g.W.Disk.meaning c.args.graph.now c.args.world.now c.has_rule.new.world c.args.lookups.now c.has_rule.ensures.watches.looks h

pub returns-then-is_made-clause-of : goal.returns-then-is_made-clause-of
returns-then-is_made-clause-of g c = λ h. of_on g.W.Disk.meaning c.args.graph.now c.args.world.now c.has_rule.new.world c.args.lookups.now c.has_rule.ensures.watches.looks h

pub returns-in_err-is_above-clause-of : goal.returns-in_err-is_above-clause-of
returns-in_err-is_above-clause-of g c = λ h. record {
  targets = c.has_below.ensures.lists h.targets;
  records = records_on g.W.Disk.meaning c.args.world.now c.has_rule.new.world c.args.lookups.now.view c.has_rule.ensures.watches.looks h.records;
}

pub returns-then-is_above-clause-of : goal.returns-then-is_above-clause-of
returns-then-is_above-clause-of g c = λ h. record {
  targets = c.has_below.ensures.lists h.targets;
  records = records_on g.W.Disk.meaning c.args.world.now c.has_rule.new.world c.args.lookups.now.view c.has_rule.ensures.watches.looks h.records;
}

pub returns-clause-of : goal.returns-clause-of
returns-clause-of g c = λ h. record {
  targets = c.has_below.ensures.lists h.targets;
  records = c.stands.ensures.records (records_on g.W.Disk.meaning c.args.world.now c.has_rule.new.world c.args.lookups.now.view c.has_rule.ensures.watches.looks h.records);
}

pub returns-then-is_made-clause-there : goal.returns-then-is_made-clause-there
returns-then-is_made-clause-there g c = λ h rest.
    let m = g.W.Disk.meaning in
    let new = c.has_rule.new.world in
    tells_yes (there_made c.args.graph.now (m.around new) (image_in (m.seen new)) c.args.path.now ((c.in_ok-is_made.ensures.rule rest.0).some c.if-is_made.true))

pub returns-then-is_above-clause-there : goal.returns-then-is_above-clause-there
returns-then-is_above-clause-there g c = λ h rest. tells_yes (above (sym (c.in_ok-is_above.ensures.has h.targets) ∙ c.if-is_above.true))

pub returns-clause-there : goal.returns-clause-there
returns-clause-there g c = λ h.
    let m = g.W.Disk.meaning in
    let graph = c.args.graph.now in
    let p = c.args.path.now in
    there_counts m graph p c.has_rule.new.world c.stands.new.world c.stands.result c.stands.ensures.watches.looks
    (λ t. subst (TellsRule graph (m.around c.has_rule.new.world) p) c.if-is_made.false (c.in_ok-is_made.ensures.rule t))
    (sym (c.in_ok-is_above.ensures.has h.targets) ∙ c.if-is_above.false)
    (c.stands.ensures.stands (records_on m c.args.world.now c.has_rule.new.world c.args.lookups.now.view c.has_rule.ensures.watches.looks h.records))
