use Rattle.build_run.proofs.Safely.{safe_stored}
use Rattle.build_run.proofs.Stopping.{unset_safe}
use Rattle.build_run.proofs.Watching.{watched_unset}
use Rattle.std.proofs.Common.{◌∙◌, ap, subst, ℕ, List, Contains}
use Rattle.sign_store.specs.Stores.{map_of}
use Rattle.sign_store.specs.Tables.{Map}
use Rattle.sign_store.proofs.Keeping.{stands_in}
use Rattle.build_run.proofs.Leaving.{unset_others}
use Rattle.build_run.proofs.Outs.{out_alone, withdrawn}
use Rattle.build_run.proofs.leftovers.withdraw.Goals as goal

pub withdraw-requires-clause-stands : goal.withdraw-requires-clause-stands
withdraw-requires-clause-stands g c = stands_in g.W.Disk.meaning c.args.world.now c.args.store.now (g.met.W.Disk.reads_as c.args.world.now) c.requires.kept

pub returns-in-Ok-clause-live : goal.returns-in-Ok-clause-live
returns-in-Ok-clause-live g c = c.in-Ok.ensures.live ∙ c.requires.live

pub returns-in-Ok-clause-kept : goal.returns-in-Ok-clause-kept
returns-in-Ok-clause-kept g c = let t = c.requires.ticket in c.in-Ok.ensures.keeps t.rec (out_alone c.args.store.now t.rec c.args.ticket.now t.out) c.requires.kept

pub returns-in-Ok-clause-withdrawn : goal.returns-in-Ok-clause-withdrawn
returns-in-Ok-clause-withdrawn g c =
    let t = c.requires.ticket in
    let with = out_alone c.args.store.now t.rec c.args.ticket.now t.out in
    withdrawn g.W.Disk.meaning c.withdraw.new.world c.withdraw.new.self _ t.rec c.args.targets.now t.same (c.in-Ok.ensures.map t.rec with) (c.in-Ok.ensures.keeps t.rec with c.requires.kept)

pub returns-in-Ok-clause-map : goal.returns-in-Ok-clause-map
returns-in-Ok-clause-map g c = λ path out.
    let t = c.requires.ticket in
    let with = out_alone c.args.store.now t.rec c.args.ticket.now t.out in
    unset_others t.rec.targets (map_of c.args.store.now) (map_of c.withdraw.new.self) (c.in-Ok.ensures.map t.rec with) path
    (λ h. out (subst (λ (paths : List (List ℕ)). Contains paths path) t.same h))

pub returns-in-Err-clause-map : goal.returns-in-Err-clause-map
returns-in-Err-clause-map g c = λ path out. ap (λ (map : Map). map path) c.in-Err.ensures.same

pub returns-in-Ok-clause-safe : goal.returns-in-Ok-clause-safe
returns-in-Ok-clause-safe g c = λ k goes safe.
    let m = g.W.Disk.meaning in
    let t = c.requires.ticket in
    safe_stored m k g.met.W.Disk.only_now g.met.W.Disk.reads_as c.args.world.now c.withdraw.new.world c.args.store.now _ c.withdraw.ensures.told
    c.withdraw.ensures.around c.requires.kept
    (c.withdraw.ensures.moments t.rec (out_alone c.args.store.now t.rec c.args.ticket.now t.out) c.requires.kept)
    (λ tells sure was. unset_safe k.setting (m.around c.args.world.now) t.rec.targets (map_of c.args.store.now) was)
    (λ tells sure watched. watched_unset k (m.around c.args.world.now) t.rec.targets (map_of c.args.store.now)
    (λ minds among. goes tells (subst (λ (paths : List (List ℕ)). Contains paths k.path) t.same among)) watched) safe

pub returns-in-Err-clause-safe : goal.returns-in-Err-clause-safe
returns-in-Err-clause-safe g c = λ k goes safe.
    let m = g.W.Disk.meaning in
    let t = c.requires.ticket in
    safe_stored m k g.met.W.Disk.only_now g.met.W.Disk.reads_as c.args.world.now c.withdraw.new.world c.args.store.now _ c.withdraw.ensures.told
    c.withdraw.ensures.around c.requires.kept
    (c.withdraw.ensures.moments t.rec (out_alone c.args.store.now t.rec c.args.ticket.now t.out) c.requires.kept)
    (λ tells sure was. unset_safe k.setting (m.around c.args.world.now) t.rec.targets (map_of c.args.store.now) was)
    (λ tells sure watched. watched_unset k (m.around c.args.world.now) t.rec.targets (map_of c.args.store.now)
    (λ minds among. goes tells (subst (λ (paths : List (List ℕ)). Contains paths k.path) t.same among)) watched) safe
