use Rattle.build_run.proofs.Stopping.{none_fewer, none_taken, put_safe, put_watched, site_stored}
use Rattle.sign_store.specs.Putting.{PutsThroughout}
use Rattle.sign_store.specs.Stores.{map_of}
use Rattle.build_run.proofs.Stopping.{same_tickets, site_looked}
use Rattle.build_run.proofs.Safely.{safely_here}
use Rattle.build_run.proofs.Clearing.{clears_here}
use Rattle.build_run.proofs.Goings.{told_here}
use Rattle.std.proofs.Common.{◌∙◌, List, [], ap, refl, subst, sym}
use Rattle.std.proofs.lemmas.Bool.{false≢true}
use Rattle.sign_store.specs.Putting.{AreHeld, AreTickets, IsApartFrom, map_with}
use Rattle.sign_store.proofs.GroupLemmas.{tickets_held}
use Rattle.sign_store.proofs.Keeping.{stands_in}
use Rattle.build_run.specs.Holds.{Busy}
use Rattle.build_run.specs.Ledgers.{ledger_of}
use Rattle.build_run.proofs.Causing.{disk_fault}
use Rattle.build_run.proofs.Goings.{goes_here}
use Rattle.build_run.proofs.Outs.{held_outs, outs_front, stored_put, stored_shut}
use Rattle.build_run.proofs.Sites.{goes_by, later_disk, later_same}
use Rattle.build_run.proofs.Faulted.{kept_faulted, plain_faulted}
use Rattle.rule_graph.specs.declared.build_fault.BuildFault.TheVariants as fault
use Rattle.world_api.specs.Around.{Around}
use Rattle.build_model.proofs.Lists.{true_false}
use Rattle.build_run.proofs.site.Site.put_held.Goals as goal

pub put-requires-clause-live : goal.put-requires-clause-live
put-requires-clause-live g c = c.requires.live c.if-self.false

pub put-requires-clause-stands : goal.put-requires-clause-stands
put-requires-clause-stands g c =
    let site = c.args.self.now in
    stands_in g.W.Disk.meaning site.world.now site.store.now (g.met.W.Disk.reads_as site.world.now) (c.requires.kept c.if-self.false)

pub returns-then-self-clause-puts : goal.returns-then-self-clause-puts
returns-then-self-clause-puts g c = record {
  same = record { graph = refl; store = refl; world = refl; out = refl; err = refl; run = refl; account = refl; options = refl };
  goes = goes_here g.W.Disk.meaning c.args.self.now.world.now;
  around = λ told. refl;
  tickets = refl;
  out = refl;
  shut = λ unshut. unshut;
}

pub returns-then-self-clause-stored : goal.returns-then-self-clause-stored
returns-then-self-clause-stored g c = stored_shut g.W.Disk.meaning _ _ _ _ c.if-self.true

pub returns-then-self-clause-kept : goal.returns-then-self-clause-kept
returns-then-self-clause-kept g c = λ unshut. absurd (false≢true (sym unshut ∙ c.if-self.true))

pub returns-then-self-clause-tickets : goal.returns-then-self-clause-tickets
returns-then-self-clause-tickets g c = record { each = λ rec ticket is. is }

pub returns-in-Ok-clause-puts : goal.returns-in-Ok-clause-puts
returns-in-Ok-clause-puts g c =
    let m = g.W.Disk.meaning in
    record {
      same = record { graph = refl; store = refl; world = refl; out = refl; err = refl; run = refl; account = refl; options = refl };
      goes = goes_by m c.args.self.now.world.now c.put.new.world c.put.ensures.told c.put.ensures.around (later_same _ _ c.in-Ok.ensures.kept);
      around = c.put.ensures.around;
      tickets = refl;
      out = refl;
      shut = λ unshut. unshut;
    }

pub returns-in-Ok-clause-stored : goal.returns-in-Ok-clause-stored
returns-in-Ok-clause-stored g c =
    let slice = c.as_slice.ensures in
    let site = c.args.self.now in
    let store = site.store.now in
    stored_put g.W.Disk.meaning site.world.now c.put.new.world store c.put.new.self site.run.now.held site.run.now.tickets site.account.now.is_store_shut c.in-Ok.ensures.live
    (λ are keeps. c.in-Ok.ensures.keeps (subst (λ (all : List Busy). AreHeld store all) (sym slice) are) keeps)
    (λ rec ticket are apart out. c.in-Ok.ensures.outs rec ticket (subst (λ (all : List Busy). AreHeld store all) (sym slice) are) (subst (λ (all : List Busy). IsApartFrom store rec ticket all) (sym slice) apart) out)
    (λ are. c.in-Ok.ensures.map (subst (λ (all : List Busy). AreTickets store all) (sym slice) are) ∙ ap (λ (all : List Busy). map_with store all) slice)
    c.requires

pub returns-in-Ok-clause-kept : goal.returns-in-Ok-clause-kept
returns-in-Ok-clause-kept g c = λ unshut.
    let slice = c.as_slice.ensures in
    let site = c.args.self.now in
    let store = site.store.now in
    let are = tickets_held store site.run.now.held (held_outs store site.run.now.held (outs_front store site.run.now.held site.run.now.tickets (c.requires.outs unshut))) in
    ap (λ (all : List Busy). map_with c.put.new.self all) c.clear-in-Ok.ensures
    ∙ (c.in-Ok.ensures.map (subst (λ (all : List Busy). AreTickets store all) (sym slice) are) ∙ ap (λ (all : List Busy). map_with store all) slice)

pub returns-in-Err-clause-puts : goal.returns-in-Err-clause-puts
returns-in-Err-clause-puts g c =
    let m = g.W.Disk.meaning in
    record {
      same = record { graph = refl; store = refl; world = refl; out = refl; err = refl; run = refl; account = refl; options = refl };
      goes = goes_by m c.args.self.now.world.now c.put.new.world c.put.ensures.told c.put.ensures.around (later_disk _ _ c.in-Err.ensures.rose);
      around = c.put.ensures.around;
      tickets = refl;
      out = refl;
      shut = λ unshut. absurd (false≢true (sym unshut ∙ c.end.ensures.reports.shut));
    }

pub returns-in-Err-clause-accounts : goal.returns-in-Err-clause-accounts
returns-in-Err-clause-accounts g c = λ start a. c.end.ensures.reports.accounts _ _ start (disk_fault start (ledger_of c.args.self.now.account.now) _ _ _ _ c.in-Err.ensures.rose a)

pub returns-in-Err-clause-stored : goal.returns-in-Err-clause-stored
returns-in-Err-clause-stored g c = stored_shut g.W.Disk.meaning _ _ _ _ c.end.ensures.reports.shut

pub returns-in-Err-clause-kept : goal.returns-in-Err-clause-kept
returns-in-Err-clause-kept g c = λ unshut. absurd (false≢true (sym unshut ∙ c.end.ensures.reports.shut))

pub returns-then-self-clause-safe : goal.returns-then-self-clause-safe
returns-then-self-clause-safe g c =
    let m = g.W.Disk.meaning in
    let site = c.args.self.now in
    site_looked m site _ (told_here m site.world.now) (safely_here m g.met.W.Disk.only_now site.world.now) (clears_here m [] site.world.now)
    (same_tickets site.store.now) (none_fewer site.run.now.held _ c.clear.ensures) refl (λ unshut. unshut)

pub returns-in-Ok-clause-safe : goal.returns-in-Ok-clause-safe
returns-in-Ok-clause-safe g c =
    let m = g.W.Disk.meaning in
    let site = c.args.self.now in
    let store = site.store.now in
    let held = site.run.now.held in
    let are = held_outs store held (outs_front store held site.run.now.tickets (c.requires.outs c.if-self.false)) in
    let kept = c.requires.kept c.if-self.false in
    none_taken m site _ (site_stored m g.met.W.Disk.only_now g.met.W.Disk.reads_as [] site _ (map_with store held) c.put.ensures.told c.put.ensures.around kept
    (subst (λ (all : List Busy). PutsThroughout m site.world.now c.put.new.world store all) c.as_slice.ensures c.put.ensures.moments are kept)
    (λ k tickets was. put_safe k (m.around site.world.now) store held (map_of store) (tickets.held c.if-self.false) was)
    (λ k goes tells sure tickets watched. put_watched k (m.around site.world.now) store held (map_of store) (tickets.held c.if-self.false) watched)
    c.put.ensures.tickets (none_fewer held _ c.clear-in-Ok.ensures) refl (λ unshut. unshut))

pub returns-in-Err-clause-safe : goal.returns-in-Err-clause-safe
returns-in-Err-clause-safe g c =
    let m = g.W.Disk.meaning in
    let site = c.args.self.now in
    let store = site.store.now in
    let held = site.run.now.held in
    let are = held_outs store held (outs_front store held site.run.now.tickets (c.requires.outs c.if-self.false)) in
    let kept = c.requires.kept c.if-self.false in
    none_taken m site _ (site_stored m g.met.W.Disk.only_now g.met.W.Disk.reads_as [] site _ (map_with store held) c.put.ensures.told c.put.ensures.around kept
    (subst (λ (all : List Busy). PutsThroughout m site.world.now c.put.new.world store all) c.as_slice.ensures c.put.ensures.moments are kept)
    (λ k tickets was. put_safe k (m.around site.world.now) store held (map_of store) (tickets.held c.if-self.false) was)
    (λ k goes tells sure tickets watched. put_watched k (m.around site.world.now) store held (map_of store) (tickets.held c.if-self.false) watched)
    c.put.ensures.tickets (none_fewer held _ c.clear-in-Err.ensures) refl (λ unshut. absurd (false≢true (sym unshut ∙ c.end.ensures.reports.shut))))

pub returns-then-self-clause-faulted : goal.returns-then-self-clause-faulted
returns-then-self-clause-faulted g c = λ t o has. has

pub returns-in-Ok-clause-faulted : goal.returns-in-Ok-clause-faulted
returns-in-Ok-clause-faulted g c =
    let site = c.args.self.now in
    kept_faulted g.W.Disk.meaning site.graph.now site.world.now c.put.new.world site.account.now site.account.now
    (λ t. ap (λ (a : Around). a.log) (c.put.ensures.around t)) (λ ample. ample) (λ e. e) refl

pub returns-in-Err-clause-faulted : goal.returns-in-Err-clause-faulted
returns-in-Err-clause-faulted g c =
    let site = c.args.self.now in
    plain_faulted g.W.Disk.meaning site.graph.now site.world.now c.put.new.world site.account.now c.end.new.self
    (λ t. ap (λ (a : Around). a.log) (c.put.ensures.around t)) c.end.ensures.want (λ e. true_false (sym c.end.ensures.ends.ended ∙ e)) fault.StoreFault tt
    c.end.ensures.lists
