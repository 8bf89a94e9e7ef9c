use Rattle.build_run.proofs.Safely.{takes_behind, takes_here}
use Rattle.build_run.specs.Safe.{TakesSafely}
use Rattle.std.proofs.Common.{◌∙◌, List, ℕ, Contains, refl, sym, subst, ap}
use Rattle.sign_store.proofs.Keeping.{kept_as}
use Rattle.sign_store.specs.Tables.{Map}
use Rattle.build_run.specs.Goings.{ClearsAt}
use Rattle.build_run.specs.Takes.{AreTaken, Takes}
use Rattle.build_run.specs.Withdrawals.{AreWithdrawn}
use Rattle.build_run.proofs.Goings.{goes_on}
use Rattle.build_run.proofs.Leaving.{leaves_cleared, leaves_on, leaves_still}
use Rattle.build_run.proofs.Outs.{held_ok}
use Rattle.build_run.proofs.Taking.{kept_over, take_end, take_inside, take_exit, take_after, take_look, unused_at_rest, withdrawn_as, takes_still, takes_on}
use Rattle.build_run.proofs.leftovers.take_away.Goals as goal

pub withdraw-requires-clause-live : goal.withdraw-requires-clause-live
withdraw-requires-clause-live g c = c.prepare.ensures.live ∙ c.requires.live

pub withdraw-requires-clause-kept : goal.withdraw-requires-clause-kept
withdraw-requires-clause-kept g c = kept_as g.W.Disk.meaning c.args.world.now c.args.store.now c.prepare.new.store c.prepare.ensures.banks c.prepare.ensures.map c.requires.kept

pub withdraw-requires-clause-ticket : goal.withdraw-requires-clause-ticket
withdraw-requires-clause-ticket g c = record { rec = c.args.rec; out = c.in_ok-ticket.ensures.out; same = sym c.in_ok-targets.ensures }

pub remove_unrecorded-requires-clause-withdrawn : goal.remove_unrecorded-requires-clause-withdrawn
remove_unrecorded-requires-clause-withdrawn g c =
    subst (λ (paths : List (List ℕ)). AreWithdrawn g.W.Disk.meaning c.withdraw.new.world c.give_up.new.self paths) (sym c.as_slice.ensures)
    (withdrawn_as g.W.Disk.meaning c.withdraw.new.world c.withdraw.new.store c.give_up.new.self _ c.give_up.ensures.map c.in_ok-withdraw.ensures.withdrawn)

pub remove_unrecorded-requires-clause-unused : goal.remove_unrecorded-requires-clause-unused
remove_unrecorded-requires-clause-unused g c = λ t path h.
    let goes = c.withdraw.ensures.goes in
    unused_at_rest (g.W.Disk.meaning.around c.withdraw.new.world).running path (goes.runs t ∙ c.requires.idle (goes.passes.told.told t))

pub returns-clause-goes : goal.returns-clause-goes
returns-clause-goes g c = goes_on g.W.Disk.meaning _ _ _ c.withdraw.ensures.goes c.remove_unrecorded.ensures.stays.goes

pub returns-clause-cause : goal.returns-clause-cause
returns-clause-cause g c = take_after _ _ _ c.remove_unrecorded.result c.in_ok-withdraw.ensures.cause (take_look _ _ c.remove_unrecorded.result c.remove_unrecorded.ensures.cause)

pub returns-clause-live : goal.returns-clause-live
returns-clause-live g c = held_ok c.remove_unrecorded.result (c.give_up.ensures.live ∙ c.in_ok-withdraw.ensures.live)

pub returns-clause-kept : goal.returns-clause-kept
returns-clause-kept g c =
    let m = g.W.Disk.meaning in
    let stays = c.remove_unrecorded.ensures.stays in
    held_ok c.remove_unrecorded.result (kept_over m _ _ c.give_up.new.self stays.goes.passes.told.told stays.banks
    (kept_as m c.withdraw.new.world c.withdraw.new.store c.give_up.new.self c.give_up.ensures.banks c.give_up.ensures.map c.in_ok-withdraw.ensures.kept))

pub returns-in_err-targets-clause-cause : goal.returns-in_err-targets-clause-cause
returns-in_err-targets-clause-cause g c = let r = c.from_residual in take_inside _ _ r.result refl r.ensures.1

pub returns-in_err-ticket-clause-cause : goal.returns-in_err-ticket-clause-cause
returns-in_err-ticket-clause-cause g c = let r = c.from_residual-in_err-ticket in take_exit _ _ r.result _ r.ensures.1 (take_end _ _ _ (c.in_err-ticket.ensures.quiet _))

pub returns-in_err-withdraw-clause-cause : goal.returns-in_err-withdraw-clause-cause
returns-in_err-withdraw-clause-cause g c = let r = c.from_residual-in_err-withdraw in take_exit _ _ r.result _ r.ensures.1 c.in_err-withdraw.ensures.cause

pub returns-in_err-targets-clause-only : goal.returns-in_err-targets-clause-only
returns-in_err-targets-clause-only g c = takes_still g.W.Disk.meaning _ _ _ (λ t. refl)

pub returns-in_err-ticket-clause-only : goal.returns-in_err-ticket-clause-only
returns-in_err-ticket-clause-only g c = takes_still g.W.Disk.meaning _ _ _ (λ t. refl)

pub returns-in_err-withdraw-clause-only : goal.returns-in_err-withdraw-clause-only
returns-in_err-withdraw-clause-only g c = takes_still g.W.Disk.meaning _ _ _ c.withdraw.ensures.around

pub returns-clause-gone : goal.returns-clause-gone
returns-clause-gone g c =
    subst (λ (paths : List (List ℕ)). AreTaken g.W.Disk.meaning c.remove_unrecorded.new.world (Contains paths) c.remove_unrecorded.result) (c.as_slice.ensures ∙ c.in_ok-targets.ensures) c.remove_unrecorded.ensures.gone

pub returns-clause-only : goal.returns-clause-only
returns-clause-only g c =
    let m = g.W.Disk.meaning in
    let stays = c.remove_unrecorded.ensures.stays.goes in
    let last = subst (λ (paths : List (List ℕ)). Takes m c.withdraw.new.world c.remove_unrecorded.new.world (Contains paths)) (c.as_slice.ensures ∙ c.in_ok-targets.ensures) c.remove_unrecorded.ensures.only in
    takes_on m c.args.world.now c.withdraw.new.world c.remove_unrecorded.new.world _ stays.passes.told.told c.withdraw.ensures.goes.runs (takes_still m _ _ _ c.withdraw.ensures.around) last

pub returns-in_err-ticket-clause-rest : goal.returns-in_err-ticket-clause-rest
returns-in_err-ticket-clause-rest g c =
    leaves_still g.W.Disk.meaning c.args.world.now c.args.world.now c.args.store.now c.prepare.new.store _ (λ t. refl)
    (λ path out. ap (λ (map : Map). map path) c.prepare.ensures.map)

pub returns-in_err-withdraw-clause-rest : goal.returns-in_err-withdraw-clause-rest
returns-in_err-withdraw-clause-rest g c =
    leaves_still g.W.Disk.meaning c.args.world.now c.withdraw.new.world c.args.store.now c.withdraw.new.store _ c.withdraw.ensures.around
    (λ path out. c.withdraw.ensures.map path (λ h. out (subst (λ (paths : List (List ℕ)). Contains paths path) c.in_ok-targets.ensures h))
    ∙ ap (λ (map : Map). map path) c.prepare.ensures.map)

pub returns-clause-rest : goal.returns-clause-rest
returns-clause-rest g c =
    let m = g.W.Disk.meaning in
    let removed = c.remove_unrecorded in
    let stays = removed.ensures.stays.goes in
    let same = c.as_slice.ensures ∙ c.in_ok-targets.ensures in
    let first = leaves_still m c.args.world.now c.withdraw.new.world c.args.store.now c.withdraw.new.store (Contains c.args.rec.targets)
    c.withdraw.ensures.around
    (λ path out. c.withdraw.ensures.map path (λ h. out (subst (λ (paths : List (List ℕ)). Contains paths path) c.in_ok-targets.ensures h))
    ∙ ap (λ (map : Map). map path) c.prepare.ensures.map) in
    let last = leaves_cleared m c.withdraw.new.world removed.new.world c.withdraw.new.store c.give_up.new.self c.args.rec.targets
    (subst (λ (paths : List (List ℕ)). Takes m c.withdraw.new.world removed.new.world (Contains paths)) same removed.ensures.only)
    (subst (λ (paths : List (List ℕ)). ClearsAt m paths c.withdraw.new.world removed.new.world) same removed.ensures.clears)
    c.give_up.ensures.map in
    leaves_on m c.args.world.now c.withdraw.new.world removed.new.world c.args.store.now c.withdraw.new.store c.give_up.new.self _
    stays.passes.told.told first last

pub returns-in_err-targets-clause-safe : goal.returns-in_err-targets-clause-safe
returns-in_err-targets-clause-safe g c = takes_here g.W.Disk.meaning (Contains c.args.rec.targets) g.met.W.Disk.only_now c.args.world.now

pub returns-in_err-ticket-clause-safe : goal.returns-in_err-ticket-clause-safe
returns-in_err-ticket-clause-safe g c = takes_here g.W.Disk.meaning (Contains c.args.rec.targets) g.met.W.Disk.only_now c.args.world.now

pub returns-clause-safe : goal.returns-clause-safe
returns-clause-safe g c =
    let m = g.W.Disk.meaning in
    takes_behind m (Contains c.args.rec.targets) _ _ _ c.remove_unrecorded.ensures.stays.goes.passes.told
    (subst (λ (paths : List (List ℕ)). TakesSafely m (Contains paths) c.args.world.now c.withdraw.new.world) c.in_ok-targets.ensures c.withdraw.ensures.safe)
    c.remove_unrecorded.ensures.safe

pub returns-in_err-withdraw-clause-safe : goal.returns-in_err-withdraw-clause-safe
returns-in_err-withdraw-clause-safe g c =
    subst (λ (paths : List (List ℕ)). TakesSafely g.W.Disk.meaning (Contains paths) c.args.world.now c.withdraw.new.world) c.in_ok-targets.ensures
    c.withdraw.ensures.safe
