use Rattle.build_run.proofs.Safely.{safe_looked, takes_joined}
use Rattle.std.proofs.Common.{◌∙◌, List, sym, subst}
use Rattle.sign_store.specs.Copies.{IsCopyIn}
use Rattle.sign_store.specs.Stores.{map_of}
use Rattle.deciders.specs.declared.recorded.Rec.{Rec}
use Rattle.build_files.specs.Leftovers.{AreLeftovers}
use Rattle.build_run.specs.Takes.{IsLeftAt}
use Rattle.build_run.proofs.Leaving.{leaves_left}
use Rattle.build_run.proofs.Taking.{kept_over, take_end, take_exit, take_after, takes_looked, takes_left, left_taken, done_gone, target_left}
use Rattle.build_run.proofs.leftovers.take_leftovers.Goals as goal

pub returns-in_err-left-clause-cause : goal.returns-in_err-left-clause-cause
returns-in_err-left-clause-cause g c = take_exit _ _ c.from_residual.result _ c.from_residual.ensures.1 (take_end _ _ _ c.in_err-left.ensures.cause)

pub take_each-requires-clause-kept : goal.take_each-requires-clause-kept
take_each-requires-clause-kept g c =
    let looks = c.leftover_copies.ensures.looks in
    kept_over g.W.Disk.meaning _ _ c.args.store.now looks.told.told looks.banks c.requires.kept

pub returns-clause-cause : goal.returns-clause-cause
returns-clause-cause g c = take_after _ _ _ c.take_each.result c.in_ok-left.ensures.cause c.take_each.ensures.cause

pub returns-in_err-left-clause-only : goal.returns-in_err-left-clause-only
returns-in_err-left-clause-only g c = takes_looked g.W.Disk.meaning _ _ _ c.leftover_copies.ensures.looks

pub returns-clause-only : goal.returns-clause-only
returns-clause-only g c =
    let m = g.W.Disk.meaning in
    let map = map_of c.args.store.now in
    takes_left m c.args.world.now c.leftover_copies.new.world c.take_each.new.world c.args.graph.now map c.as_slice.result.now c.take_each.ensures.goes.passes.told.told c.leftover_copies.ensures.looks
    (λ t rest. subst (λ (left : List Rec). AreLeftovers c.args.graph.now (m.around c.leftover_copies.new.world) (IsCopyIn map) left) (sym c.as_slice.ensures) (c.in_ok-left.ensures.left (t, rest))) c.take_each.ensures.only

pub returns-clause-gone : goal.returns-clause-gone
returns-clause-gone g c = λ t.
    let m = g.W.Disk.meaning in
    let map = map_of c.args.store.now in
    let looks = c.leftover_copies.ensures.looks in
    let told = c.take_each.ensures.goes.passes.told.told t in
    let rest = c.requires.idle (looks.told.told told) in
    let found = subst (λ (left : List Rec). AreLeftovers c.args.graph.now (m.around c.leftover_copies.new.world) (IsCopyIn map) left) (sym c.as_slice.ensures) (c.in_ok-left.ensures.left (told, (looks.around told).running ∙ rest)) in
    done_gone _ _ (m.around c.take_each.new.world) c.take_each.result (c.take_each.ensures.gone t)
    (left_taken m c.args.world.now c.leftover_copies.new.world (m.around c.take_each.new.world) c.args.graph.now map c.as_slice.result.now told rest looks found)

pub returns-clause-rest : goal.returns-clause-rest
returns-clause-rest g c =
    let m = g.W.Disk.meaning in
    let map = map_of c.args.store.now in
    leaves_left m c.args.world.now c.leftover_copies.new.world c.take_each.new.world c.args.graph.now c.args.store.now c.take_each.new.store
    c.as_slice.result.now c.take_each.ensures.goes.passes.told.told c.leftover_copies.ensures.looks
    (λ t rest. subst (λ (left : List Rec). AreLeftovers c.args.graph.now (m.around c.leftover_copies.new.world) (IsCopyIn map) left) (sym c.as_slice.ensures) (c.in_ok-left.ensures.left (t, rest)))
    c.take_each.ensures.rest

pub returns-in_err-left-clause-safe : goal.returns-in_err-left-clause-safe
returns-in_err-left-clause-safe g c = λ k goes safe.
    safe_looked g.W.Disk.meaning k g.met.W.Disk.only_now c.args.world.now c.leftover_copies.new.world c.leftover_copies.ensures.looks safe

pub returns-clause-safe : goal.returns-clause-safe
returns-clause-safe g c =
    let m = g.W.Disk.meaning in
    let map = map_of c.args.store.now in
    let looks = c.leftover_copies.ensures.looks in
    takes_joined m (IsLeftAt c.args.graph.now (m.around c.args.world.now) map) _ _ _ _ looks.told c.take_each.ensures.goes.passes.told
    (λ t.
    let rest = c.requires.idle (looks.told.told t) in
    target_left m c.args.world.now c.leftover_copies.new.world c.args.graph.now map c.as_slice.result.now t rest looks
    (subst (λ (left : List Rec). AreLeftovers c.args.graph.now (m.around c.leftover_copies.new.world) (IsCopyIn map) left) (sym c.as_slice.ensures)
    (c.in_ok-left.ensures.left (t, (looks.around t).running ∙ rest))))
    (λ k goes safe. safe_looked m k g.met.W.Disk.only_now c.args.world.now c.leftover_copies.new.world looks safe)
    c.take_each.ensures.safe
