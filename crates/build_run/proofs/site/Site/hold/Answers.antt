use Rattle.build_run.proofs.Turning.{held_now, holds_now}
use Rattle.std.proofs.Common.{◌∙◌, ◌++◌, ◌∷◌, [], List, append_assoc, ap, refl, sym, subst, arith}
use Rattle.sign_store.specs.Putting.{map_with}
use Rattle.build_run.specs.Holds.{Busy}
use Rattle.build_run.specs.Outs.{IsStored}
use Rattle.build_run.proofs.Goings.{goes_here}
use Rattle.build_run.proofs.Outs.{held_more}
use Rattle.build_run.proofs.Sites.{sound_put}
use Rattle.build_run.proofs.site.Site.hold.Goals as goal

pub returns-then-len-most_jobs-clause-puts : goal.returns-then-len-most_jobs-clause-puts
returns-then-len-most_jobs-clause-puts g c = record {
  same = record { graph = refl; store = refl; world = refl; out = refl; err = refl; run = refl; account = refl; options = refl };
  goes = goes_here g.W.Disk.meaning c.args.self.now.world.now;
  around = λ told. refl;
  tickets = refl;
  out = refl;
  shut = λ unshut. unshut;
}

pub returns-then-len-most_jobs-clause-sound : goal.returns-then-len-most_jobs-clause-sound
returns-then-len-most_jobs-clause-sound g c =
    let site = c.args.self.now in
    let stored = λ (all : List Busy). IsStored g.W.Disk.meaning site.world.now site.store.now all site.account.now.is_store_shut in
    record {
      unclosed = c.requires.unclosed;
      joined = c.requires.joined;
      stored =
          subst (λ (all : List Busy). stored (all ++ site.run.now.tickets)) (sym c.add.ensures)
          (subst stored (sym (append_assoc site.run.now.held (c.args.busy ∷ []) site.run.now.tickets)) c.requires.stored);
      few = omega (arith, c.if-len-most_jobs.true, c.len.ensures, c.most_jobs.ensures);
      limit = c.requires.limit;
    }

pub returns-then-len-most_jobs-clause-record : goal.returns-then-len-most_jobs-clause-record
returns-then-len-most_jobs-clause-record g c = λ unshut rec is.
    let site = c.args.self.now in
    ap (λ (all : List Busy). map_with site.store.now all) c.add.ensures ∙ held_more site.store.now site.run.now.held c.args.busy rec is

pub put_held-requires : goal.put_held-requires
put_held-requires g c =
    let site = c.args.self.now in
    let stored = λ (all : List Busy). IsStored g.W.Disk.meaning site.world.now site.store.now all site.account.now.is_store_shut in
    subst (λ (all : List Busy). stored (all ++ site.run.now.tickets)) (sym c.add.ensures)
    (subst stored (sym (append_assoc site.run.now.held (c.args.busy ∷ []) site.run.now.tickets)) c.requires.stored)

pub returns-clause-sound : goal.returns-clause-sound
returns-clause-sound g c =
    let put = c.put_held.ensures in
    sound_put g.W.Disk.meaning _ c.put_held.new.self put.puts put.stored put.none c.requires.unclosed c.requires.joined c.requires.limit

pub returns-clause-record : goal.returns-clause-record
returns-clause-record g c = λ unshut rec is.
    let site = c.args.self.now in
    c.put_held.ensures.kept unshut
    ∙ (ap (λ (all : List Busy). map_with site.store.now all) c.add.ensures ∙ held_more site.store.now site.run.now.held c.args.busy rec is)

pub returns-then-len-most_jobs-clause-tickets : goal.returns-then-len-most_jobs-clause-tickets
returns-then-len-most_jobs-clause-tickets g c = record { each = λ rec ticket is. is }

pub returns-then-len-most_jobs-clause-safe : goal.returns-then-len-most_jobs-clause-safe
returns-then-len-most_jobs-clause-safe g c =
    holds_now g.W.Disk.meaning g.met.W.Disk.only_now c.args.busy c.args.self.now _ refl refl c.add.ensures refl refl

pub returns-clause-safe : goal.returns-clause-safe
returns-clause-safe g c = λ k safe tickets.
    let put = c.put_held.ensures.safe k (held_now g.W.Disk.meaning c.args.busy c.args.self.now _ refl refl c.add.ensures refl refl k safe tickets) in
    record { moments = put.moments; now = put.now }

pub returns-then-len-most_jobs-clause-faulted : goal.returns-then-len-most_jobs-clause-faulted
returns-then-len-most_jobs-clause-faulted g c = λ t o has. has

pub returns-clause-faulted : goal.returns-clause-faulted
returns-clause-faulted g c = λ t o has. c.put_held.ensures.faulted t o has
