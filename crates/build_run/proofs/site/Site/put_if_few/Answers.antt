use Rattle.build_run.proofs.Stopping.{site_rests}
use Rattle.std.proofs.Common.{refl}
use Rattle.build_run.proofs.Goings.{goes_here}
use Rattle.build_run.proofs.Sites.{sound_put}
use Rattle.build_run.proofs.site.Site.put_if_few.Goals as goal

pub put_held-requires : goal.put_held-requires
put_held-requires g c = c.requires.stored

pub returns-then-len-most_jobs-clause-puts : goal.returns-then-len-most_jobs-clause-puts
returns-then-len-most_jobs-clause-puts g c = record {
  same = record { graph = refl; store = refl; world = refl; out = refl; err = refl; run = refl; account = refl; options = refl };
  goes = goes_here g.W.Disk.meaning c.args.self.now.world.now;
  around = λ told. refl;
  tickets = refl;
  out = refl;
  shut = λ unshut. unshut;
}

pub returns-then-len-most_jobs-clause-kept : goal.returns-then-len-most_jobs-clause-kept
returns-then-len-most_jobs-clause-kept g c = λ unshut. refl

pub returns-then-len-most_jobs-clause-tickets : goal.returns-then-len-most_jobs-clause-tickets
returns-then-len-most_jobs-clause-tickets g c = record { each = λ rec ticket is. is }

pub returns-clause-sound : goal.returns-clause-sound
returns-clause-sound g c =
    let put = c.put_held.ensures in
    sound_put g.W.Disk.meaning c.args.self.now c.put_held.new.self put.puts put.stored put.none c.requires.unclosed c.requires.joined c.requires.limit

pub returns-then-len-most_jobs-clause-safe : goal.returns-then-len-most_jobs-clause-safe
returns-then-len-most_jobs-clause-safe g c =
    site_rests g.W.Disk.meaning g.met.W.Disk.only_now c.args.self.now _ refl refl refl refl (λ unshut. unshut)

pub returns-then-len-most_jobs-clause-faulted : goal.returns-then-len-most_jobs-clause-faulted
returns-then-len-most_jobs-clause-faulted g c = λ t o has. has

pub returns-clause-faulted : goal.returns-clause-faulted
returns-clause-faulted g c = λ t o has. c.put_held.ensures.faulted t o has
