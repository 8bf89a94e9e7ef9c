use Rattle.std.proofs.lemmas.Bool.{false≢true}
use Rattle.sign_store.specs.Putting.{WithdrawsThroughout}
use Rattle.build_run.specs.Watches.{MayGo}
use Rattle.build_run.proofs.Stopping.{none_fewer, put_safe, put_watched, site_rests, site_stored, site_takes, unset_safe}
use Rattle.build_run.proofs.Watching.{watched_unset}
use Rattle.std.proofs.Common.{◌≡◌, ◌∙◌, ◌++◌, [], ℕ, List, ap, arith, inl, inr, length, refl, sym, subst, true}
use Rattle.sign_store.specs.Putting.{AreOutWith, IsApartFrom, map_with, map_without}
use Rattle.sign_store.specs.Stores.{map_of}
use Rattle.sign_store.proofs.Keeping.{stands_in}
use Rattle.build_run.specs.Holds.{Busy, holds_in}
use Rattle.build_run.specs.Ledgers.{ledger_of}
use Rattle.build_run.specs.Outs.{IsStored}
use Rattle.build_run.proofs.Causing.{disk_fault}
use Rattle.build_run.proofs.Clearing.{clears_around, clears_here}
use Rattle.build_run.proofs.Goings.{goes_here, joined_on}
use Rattle.build_run.proofs.Outs.{kept_elsewhere, out_with, stored_withdrawn, stored_shut, withdrawn, withdrawn_before, ticket_still}
use Rattle.build_run.proofs.Sites.{goes_by, later_disk, later_same}
use Rattle.build_run.proofs.site.Site.withdraw.Goals as goal

pub withdraw-requires-clause-live : goal.withdraw-requires-clause-live
withdraw-requires-clause-live g c = c.requires.sound.stored.live c.requires.ready.unshut

pub withdraw-requires-clause-stands : goal.withdraw-requires-clause-stands
withdraw-requires-clause-stands g c =
    let site = c.args.self.now in
    stands_in g.W.Disk.meaning site.world.now site.store.now (g.met.W.Disk.reads_as site.world.now) (c.requires.sound.stored.kept c.requires.ready.unshut)

pub returns-then-not-has_record-clause-goes : goal.returns-then-not-has_record-clause-goes
returns-then-not-has_record-clause-goes g c = record {
  same = record { graph = refl; store = refl; world = refl; out = refl; err = refl; run = refl; account = refl; options = refl };
  goes = goes_here g.W.Disk.meaning c.args.self.now.world.now;
  tickets = refl;
  out = refl;
  err = refl;
}

pub returns-then-not-has_record-clause-withdrawn : goal.returns-then-not-has_record-clause-withdrawn
returns-then-not-has_record-clause-withdrawn g c =
    let site = c.args.self.now in
    let t = c.requires.ready.out in
    withdrawn_before g.W.Disk.meaning site.world.now site.store.now t.rec c.args.job.now.targets t.same (sym (c.has_record.ensures t.rec t.out.own) ∙ c.if-not-has_record.true) (c.requires.sound.stored.kept c.requires.ready.unshut)

pub returns-then-not-has_record-clause-held : goal.returns-then-not-has_record-clause-held
returns-then-not-has_record-clause-held g c = inl refl

pub returns-then-not-has_record-clause-kept : goal.returns-then-not-has_record-clause-kept
returns-then-not-has_record-clause-kept g c = λ unshut path not. refl

pub returns-in-Ok-clause-goes : goal.returns-in-Ok-clause-goes
returns-in-Ok-clause-goes g c = record {
  same = record { graph = refl; store = refl; world = refl; out = refl; err = refl; run = refl; account = refl; options = refl };
  goes = goes_by g.W.Disk.meaning c.args.self.now.world.now c.withdraw.new.world c.withdraw.ensures.told c.withdraw.ensures.around (later_same _ _ c.in-Ok.ensures.kept);
  tickets = refl;
  out = refl;
  err = refl;
}

pub returns-in-Ok-clause-sound : goal.returns-in-Ok-clause-sound
returns-in-Ok-clause-sound g c =
    let m = g.W.Disk.meaning in
    let site = c.args.self.now in
    let store = site.store.now in
    let held = site.run.now.held in
    let busies = site.run.now.tickets in
    let ready = c.requires.ready in
    let sound = c.requires.sound in
    let t = ready.out in
    let slice = c.as_slice.ensures in
    let shut = site.account.now.is_store_shut in
    let goes = goes_by m site.world.now c.withdraw.new.world c.withdraw.ensures.told c.withdraw.ensures.around (later_same _ _ c.in-Ok.ensures.kept) in
    let with = subst (λ (all : List Busy). AreOutWith store all t.rec c.args.ticket.now) (sym slice) (out_with store held busies c.args.ticket.now c.args.job.now.targets t (sound.stored.outs ready.unshut) ready.room ready.beside) in
    let map = subst (λ (all : List Busy). map_of c.withdraw.new.self ≡ map_without store all t.rec) slice (c.in-Ok.ensures.map t.rec with) in
    record {
      unclosed = c.withdraw.ensures.told.closed ∙ sound.unclosed;
      joined = joined_on m site.world.now c.withdraw.new.world (holds_in busies) goes sound.joined;
      stored =
          subst (λ (all : List Busy). IsStored m c.withdraw.new.world c.withdraw.new.self (all ++ busies) shut) (sym c.clear.ensures)
          (stored_withdrawn m site.world.now c.withdraw.new.world store c.withdraw.new.self held busies t.rec c.args.ticket.now shut ready.unshut c.in-Ok.ensures.live
          (c.in-Ok.ensures.keeps t.rec with (sound.stored.kept ready.unshut)) map
          (λ other_rec other differs apart out. c.in-Ok.ensures.outs t.rec other_rec other with differs (subst (λ (all : List Busy). IsApartFrom store other_rec other all) (sym slice) apart) out)
          ready.room sound.stored);
      few = omega (arith, ap (λ (all : List Busy). length all) c.clear.ensures);
      limit = sound.limit;
    }

pub returns-in-Ok-clause-withdrawn : goal.returns-in-Ok-clause-withdrawn
returns-in-Ok-clause-withdrawn g c =
    let site = c.args.self.now in
    let store = site.store.now in
    let ready = c.requires.ready in
    let t = ready.out in
    let slice = c.as_slice.ensures in
    let with = subst (λ (all : List Busy). AreOutWith store all t.rec c.args.ticket.now) (sym slice) (out_with store site.run.now.held site.run.now.tickets c.args.ticket.now c.args.job.now.targets t (c.requires.sound.stored.outs ready.unshut) ready.room ready.beside) in
    withdrawn g.W.Disk.meaning c.withdraw.new.world c.withdraw.new.self (map_with store c.as_slice.result.now) t.rec c.args.job.now.targets t.same (c.in-Ok.ensures.map t.rec with) (c.in-Ok.ensures.keeps t.rec with (c.requires.sound.stored.kept ready.unshut))

pub returns-in-Ok-clause-ticket : goal.returns-in-Ok-clause-ticket
returns-in-Ok-clause-ticket g c =
    let site = c.args.self.now in
    let store = site.store.now in
    let ready = c.requires.ready in
    let t = ready.out in
    let with = subst (λ (all : List Busy). AreOutWith store all t.rec c.args.ticket.now) (sym c.as_slice.ensures) (out_with store site.run.now.held site.run.now.tickets c.args.ticket.now c.args.job.now.targets t (c.requires.sound.stored.outs ready.unshut) ready.room ready.beside) in
    ticket_still store c.withdraw.new.self c.args.ticket.now c.args.job.now.targets t (c.in-Ok.ensures.out t.rec with)

pub returns-in-Ok-clause-held : goal.returns-in-Ok-clause-held
returns-in-Ok-clause-held g c = inr c.clear.ensures

pub returns-in-Ok-clause-kept : goal.returns-in-Ok-clause-kept
returns-in-Ok-clause-kept g c = λ unshut path not.
    let site = c.args.self.now in
    let store = site.store.now in
    let ready = c.requires.ready in
    let t = ready.out in
    let slice = c.as_slice.ensures in
    let with = subst (λ (all : List Busy). AreOutWith store all t.rec c.args.ticket.now) (sym slice) (out_with store site.run.now.held site.run.now.tickets c.args.ticket.now c.args.job.now.targets t (c.requires.sound.stored.outs ready.unshut) ready.room ready.beside) in
    let map = subst (λ (all : List Busy). map_of c.withdraw.new.self ≡ map_without store all t.rec) slice (c.in-Ok.ensures.map t.rec with) in
    ap (λ (all : List Busy). map_with c.withdraw.new.self all path) c.clear.ensures
    ∙ kept_elsewhere store site.run.now.held t.rec c.args.job.now.targets (map_of c.withdraw.new.self) t.same map path not

pub returns-in-Err-clause-goes : goal.returns-in-Err-clause-goes
returns-in-Err-clause-goes g c = record {
  same = record { graph = refl; store = refl; world = refl; out = refl; err = refl; run = refl; account = refl; options = refl };
  goes = goes_by g.W.Disk.meaning c.args.self.now.world.now c.withdraw.new.world c.withdraw.ensures.told c.withdraw.ensures.around (later_disk _ _ c.in-Err.ensures.rose);
  tickets = refl;
  out = refl;
  err = refl;
}

pub returns-in-Err-clause-sound : goal.returns-in-Err-clause-sound
returns-in-Err-clause-sound g c =
    let m = g.W.Disk.meaning in
    let site = c.args.self.now in
    let sound = c.requires.sound in
    let goes = goes_by m site.world.now c.withdraw.new.world c.withdraw.ensures.told c.withdraw.ensures.around (later_disk _ _ c.in-Err.ensures.rose) in
    record {
      unclosed = c.withdraw.ensures.told.closed ∙ sound.unclosed;
      joined = joined_on m site.world.now c.withdraw.new.world (holds_in site.run.now.tickets) goes sound.joined;
      stored = stored_shut m c.withdraw.new.world c.withdraw.new.self (site.run.now.held ++ site.run.now.tickets) true refl;
      few = sound.few;
      limit = sound.limit;
    }

pub returns-in-Err-clause-held : goal.returns-in-Err-clause-held
returns-in-Err-clause-held g c = inl refl

pub returns-in-Err-clause-kept : goal.returns-in-Err-clause-kept
returns-in-Err-clause-kept g c = λ unshut. absurd cc

pub returns-in-Err-clause-ends : goal.returns-in-Err-clause-ends
returns-in-Err-clause-ends g c = λ start a. disk_fault start (ledger_of c.args.self.now.account.now) _ _ _ _ c.in-Err.ensures.rose a

pub returns-then-not-has_record-clause-clears : goal.returns-then-not-has_record-clause-clears
returns-then-not-has_record-clause-clears g c = clears_here g.W.Disk.meaning [] c.args.self.now.world.now

pub returns-in-Ok-clause-clears : goal.returns-in-Ok-clause-clears
returns-in-Ok-clause-clears g c = clears_around g.W.Disk.meaning [] c.args.self.now.world.now c.withdraw.new.world c.withdraw.ensures.around

pub returns-in-Err-clause-clears : goal.returns-in-Err-clause-clears
returns-in-Err-clause-clears g c = clears_around g.W.Disk.meaning [] c.args.self.now.world.now c.withdraw.new.world c.withdraw.ensures.around

pub returns-then-not-has_record-clause-tickets : goal.returns-then-not-has_record-clause-tickets
returns-then-not-has_record-clause-tickets g c = record { each = λ rec ticket is. is }

pub returns-then-not-has_record-clause-safe : goal.returns-then-not-has_record-clause-safe
returns-then-not-has_record-clause-safe g c =
    site_takes g.W.Disk.meaning c.args.job.now.targets c.args.self.now _
    (site_rests g.W.Disk.meaning g.met.W.Disk.only_now c.args.self.now _ refl refl refl refl (λ unshut. unshut))

pub returns-in-Ok-clause-safe : goal.returns-in-Ok-clause-safe
returns-in-Ok-clause-safe g c =
    let m = g.W.Disk.meaning in
    let site = c.args.self.now in
    let store = site.store.now in
    let held = site.run.now.held in
    let ready = c.requires.ready in
    let t = ready.out in
    let kept = c.requires.sound.stored.kept ready.unshut in
    let with = out_with store held site.run.now.tickets c.args.ticket.now c.args.job.now.targets t (c.requires.sound.stored.outs ready.unshut) ready.room ready.beside in
    site_stored m g.met.W.Disk.only_now g.met.W.Disk.reads_as c.args.job.now.targets site _ (map_without store held t.rec) c.withdraw.ensures.told c.withdraw.ensures.around kept
    (subst (λ (all : List Busy). WithdrawsThroughout m site.world.now c.withdraw.new.world store all c.args.ticket.now) c.as_slice.ensures
    c.withdraw.ensures.moments t.rec with kept)
    (λ k tickets was. unset_safe k.setting (m.around site.world.now) t.rec.targets (map_with store held)
    (put_safe k (m.around site.world.now) store held (map_of store) (tickets.held ready.unshut) was))
    (λ k goes tells sure tickets watched. watched_unset k (m.around site.world.now) t.rec.targets (map_with store held)
    (subst (λ (paths : List (List ℕ)). MayGo k (m.around site.world.now) paths) (sym t.same) (goes tells sure))
    (put_watched k (m.around site.world.now) store held (map_of store) (tickets.held ready.unshut) watched))
    c.withdraw.ensures.tickets (none_fewer held _ c.clear.ensures) refl (λ unshut. unshut)

pub returns-in-Err-clause-safe : goal.returns-in-Err-clause-safe
returns-in-Err-clause-safe g c =
    let m = g.W.Disk.meaning in
    let site = c.args.self.now in
    let store = site.store.now in
    let held = site.run.now.held in
    let ready = c.requires.ready in
    let t = ready.out in
    let kept = c.requires.sound.stored.kept ready.unshut in
    let with = out_with store held site.run.now.tickets c.args.ticket.now c.args.job.now.targets t (c.requires.sound.stored.outs ready.unshut) ready.room ready.beside in
    site_stored m g.met.W.Disk.only_now g.met.W.Disk.reads_as c.args.job.now.targets site _ (map_without store held t.rec) c.withdraw.ensures.told c.withdraw.ensures.around kept
    (subst (λ (all : List Busy). WithdrawsThroughout m site.world.now c.withdraw.new.world store all c.args.ticket.now) c.as_slice.ensures
    c.withdraw.ensures.moments t.rec with kept)
    (λ k tickets was. unset_safe k.setting (m.around site.world.now) t.rec.targets (map_with store held)
    (put_safe k (m.around site.world.now) store held (map_of store) (tickets.held ready.unshut) was))
    (λ k goes tells sure tickets watched. watched_unset k (m.around site.world.now) t.rec.targets (map_with store held)
    (subst (λ (paths : List (List ℕ)). MayGo k (m.around site.world.now) paths) (sym t.same) (goes tells sure))
    (put_watched k (m.around site.world.now) store held (map_of store) (tickets.held ready.unshut) watched))
    c.withdraw.ensures.tickets (λ busy h. h) refl (λ unshut. absurd (false≢true (sym unshut)))
