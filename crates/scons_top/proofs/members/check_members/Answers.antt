use Rattle.std.proofs.Common.{◌∙◌, refl, sym}
use Rattle.std.proofs.lemmas.Bool.{false≢true}
use Rattle.std.proofs.lemmas.List.Elements.{All-nil}
use Rattle.sign_store.specs.Ends.{image_in}
use Rattle.scons_top.specs.Asked.{IsNoPath}
use Rattle.scons_top.specs.Naming.{IsMemberThere}
use Rattle.scons_top.proofs.Opening.{bytes_after, bytes_exit}
use Rattle.scons_top.proofs.Asking.{asked_exit}
use Rattle.scons_top.proofs.Membership.{members_all, members_miss, members_more, members_stop}
use Rattle.scons_top.proofs.Requesting.{below_at}
use Rattle.scons_top.proofs.Watching.{watches_on, watches_same}
use Rattle.scons_top.proofs.Causing.{world_back, world_exit}
use Rattle.scons_top.proofs.members.check_members.Goals as goal

pub check_member-requires : goal.check_member-requires
check_member-requires g c = below_at c.args.graph.now c.args.members.now c.loop-member.member-index _ c.loop-member-test.true c.requires

pub returns-then-is_cleaning-clause-finds : goal.returns-then-is_cleaning-clause-finds
returns-then-is_cleaning-clause-finds g c = λ h rest keeps. absurd (false≢true (sym keeps ∙ c.if-is_cleaning.true))

pub returns-in_err-check_member-clause-watches : goal.returns-in_err-check_member-clause-watches
returns-in_err-check_member-clause-watches g c = watches_on _ _ _ _ c.loop-member.invariant.watches c.check_member.ensures.watches

pub loop-member-init : goal.loop-member-init
loop-member-init g c =
    let m = g.W.Disk.meaning in
    let world = c.args.world.now in
    record {
      watches = watches_same m world;
      same = refl;
      knows = λ known. known;
      of = λ h. h;
      there = λ h rest. All-nil (IsMemberThere c.args.graph.now (m.around world) (image_in (m.seen world)));
    }

pub loop-member-preserved : goal.loop-member-preserved
loop-member-preserved g c =
    let before = c.loop-member.invariant in
    record {
      watches = watches_on _ _ _ _ before.watches c.check_member.ensures.watches;
      same = c.in_ok-check_member.ensures.step ∙ before.same;
      knows = λ known. c.check_member.ensures.knows (before.knows known);
      of = λ h. c.check_member.ensures.of (before.of h);
      there = λ h. members_more g.W.Disk.meaning c.args.graph.now c.args.members.now c.loop-member.member-index _ c.loop-member.world c.check_member.new.world
          c.check_member.ensures.watches.looks c.loop-member-test.true (before.there h) (c.in_ok-check_member.ensures.finds (before.of h));
    }

pub returns-in_err-check_member-clause-step : goal.returns-in_err-check_member-clause-step
returns-in_err-check_member-clause-step g c =
    world_back _ _ _ c.from_residual.result c.loop-member.invariant.same (world_exit _ _ c.from_residual.result _ c.from_residual.ensures.1 c.in_err-check_member.ensures.step)

pub returns-in_err-check_member-clause-stops : goal.returns-in_err-check_member-clause-stops
returns-in_err-check_member-clause-stops g c = asked_exit (IsNoPath c.args.word.now) c.from_residual.result _ c.from_residual.ensures.1 c.in_err-check_member.ensures.stops

pub returns-in_err-check_member-clause-bytes : goal.returns-in_err-check_member-clause-bytes
returns-in_err-check_member-clause-bytes g c =
    bytes_after g.W.Disk.meaning c.args.world.now c.loop-member.world c.check_member.new.world c.from_residual.result c.loop-member.invariant.watches.looks c.check_member.ensures.watches.looks.told.told
    (λ t. bytes_exit _ c.from_residual.result _ c.from_residual.ensures.1 (c.in_err-check_member.ensures.bytes t))

pub returns-in_err-check_member-clause-knows : goal.returns-in_err-check_member-clause-knows
returns-in_err-check_member-clause-knows g c = λ known. c.check_member.ensures.knows (c.loop-member.invariant.knows known)

pub returns-in_err-check_member-clause-of : goal.returns-in_err-check_member-clause-of
returns-in_err-check_member-clause-of g c = λ h. c.check_member.ensures.of (c.loop-member.invariant.of h)

pub returns-in_err-check_member-clause-finds : goal.returns-in_err-check_member-clause-finds
returns-in_err-check_member-clause-finds g c = λ h.
    members_stop g.W.Disk.meaning c.args.graph.now c.args.is_cleaning c.args.members.now c.loop-member.member-index _ c.check_member.new.world c.from_residual.result _
    c.loop-member-test.true c.from_residual.ensures.1 (c.in_err-check_member.ensures.finds (c.loop-member.invariant.of h))

pub returns-clause-finds : goal.returns-clause-finds
returns-clause-finds g c = λ h rest keeps.
    members_all g.W.Disk.meaning c.args.graph.now c.args.members.now c.loop-member.member-index c.loop-member.world c.loop-member-test.false (c.loop-member.invariant.there h) rest

pub returns-in_err-check_member-clause-misses : goal.returns-in_err-check_member-clause-misses
returns-in_err-check_member-clause-misses g c = λ h.
    members_miss g.W.Disk.meaning c.args.graph.now c.args.members.now c.loop-member.member-index _ c.loop-member.world c.check_member.new.world c.from_residual.result _
    c.check_member.ensures.watches.looks c.loop-member-test.true c.from_residual.ensures.1 (c.loop-member.invariant.there h)
    (c.in_err-check_member.ensures.misses (c.loop-member.invariant.of h))
