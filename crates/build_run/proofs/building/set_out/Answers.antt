use Rattle.build_run.proofs.Safely.{safe_looked, takes_behind}
use Rattle.std.proofs.Common.{refl}
use Rattle.build_run.proofs.Builds.{refused_with, sets_behind}
use Rattle.build_run.proofs.Goings.{goes_on}
use Rattle.build_run.proofs.Leaving.{leaves_looked, leaves_on}
use Rattle.build_run.proofs.Outs.{held_ok}
use Rattle.build_run.proofs.Taking.{kept_over, take_after, take_exit, take_look}
use Rattle.std.proofs.Common.{◌∙◌}
use Rattle.build_run.proofs.building.set_out.Goals as goal

pub returns-in_err-take_leftovers-clause-cause : goal.returns-in_err-take_leftovers-clause-cause
returns-in_err-take_leftovers-clause-cause g c = take_exit _ _ c.from_residual.result _ c.from_residual.ensures.1 c.in_err-take_leftovers.ensures.cause

pub returns-clause-goes : goal.returns-clause-goes
returns-clause-goes g c = goes_on g.W.Disk.meaning _ _ _ c.take_leftovers.ensures.goes c.begin.ensures.stays.goes

pub returns-clause-cause : goal.returns-clause-cause
returns-clause-cause g c = take_after _ _ _ c.begin.result c.in_ok-take_leftovers.ensures.cause (take_look _ _ c.begin.result c.begin.ensures.cause)

pub returns-clause-live : goal.returns-clause-live
returns-clause-live g c = held_ok c.begin.result c.in_ok-take_leftovers.ensures.live

pub returns-in_err-take_leftovers-clause-log : goal.returns-in_err-take_leftovers-clause-log
returns-in_err-take_leftovers-clause-log g c = λ t.
    let left = c.take_leftovers.ensures in (left.rest t (c.requires.idle (left.goes.passes.told.told t))).log

pub returns-clause-log : goal.returns-clause-log
returns-clause-log g c = λ t.
    let left = c.take_leftovers.ensures in
    let begun = c.begin.ensures in
    let told = begun.stays.goes.passes.told.told t in
    (begun.looks.around t).log ∙ (left.rest told (c.requires.idle (left.goes.passes.told.told told))).log

pub returns-clause-kept : goal.returns-clause-kept
returns-clause-kept g c =
    let stays = c.begin.ensures.stays in
    held_ok c.begin.result (kept_over g.W.Disk.meaning _ _ c.take_leftovers.new.store stays.goes.passes.told.told stays.banks c.in_ok-take_leftovers.ensures.kept)

pub returns-in_err-take_leftovers-clause-rest : goal.returns-in_err-take_leftovers-clause-rest
returns-in_err-take_leftovers-clause-rest g c = refused_with c.from_residual.result c.take_leftovers.ensures.rest

pub returns-clause-sets : goal.returns-clause-sets
returns-clause-sets g c =
    sets_behind g.W.Disk.meaning c.args.graph.now _ _ c.args.world.now c.take_leftovers.new.world c.begin.new.world c.args.store.now
    c.take_leftovers.new.store c.begin.new.graph c.begin.result c.begin.ensures.stays.goes.passes.told.told c.take_leftovers.ensures.rest
    c.begin.ensures.sets

pub returns-clause-rest : goal.returns-clause-rest
returns-clause-rest g c =
    let m = g.W.Disk.meaning in
    refused_with c.begin.result
    (leaves_on m c.args.world.now c.take_leftovers.new.world c.begin.new.world c.args.store.now c.take_leftovers.new.store
    c.take_leftovers.new.store _ c.begin.ensures.stays.goes.passes.told.told c.take_leftovers.ensures.rest
    (leaves_looked m c.take_leftovers.new.world c.begin.new.world c.take_leftovers.new.store c.take_leftovers.new.store _
    c.begin.ensures.looks refl))

pub returns-clause-safe : goal.returns-clause-safe
returns-clause-safe g c =
    let m = g.W.Disk.meaning in
    takes_behind m _ _ _ _ c.begin.ensures.stays.goes.passes.told c.take_leftovers.ensures.safe
    (λ k safe. safe_looked m k g.met.W.Disk.only_now c.take_leftovers.new.world c.begin.new.world c.begin.ensures.looks safe)
