use Rattle.std.proofs.Common.{◌≡◌, ◌∙◌, sym, ap, subst, ℕ, List, Contains}
use Rattle.world_api.specs.Around.{given_of}
use Rattle.world_api.specs.Calls.{CanStart}
use Rattle.world_api.specs.declared.job.Job.{Job}
use Rattle.world_mem.specs.AsAround.{around_of}
use Rattle.world_mem.specs.Past.{Course}
use Rattle.world_mem.specs.Planned.{makes, ends}
use Rattle.world_mem.specs.declared.event.Event.{Event}
use Rattle.world_mem.specs.declared.event.Event.TheVariants.{Started}
use Rattle.act_table.specs.declared.table.ActRow.{ActRow}
use Rattle.world_mem.proofs.Readied.{readied}
use Rattle.world_mem.proofs.state.State.ready.Goals as goal

pub returns-clause-ready : goal.returns-clause-ready
returns-clause-ready c =
    readied c.in_ok-entering.entering c.args.job c.args.faults c.args.self.now c.make_room.new.self
    (record {
      job = c.in_ok-entering.ensures.job;
      given = c.in_ok-entering.ensures.given;
      made = c.in_ok-entering.ensures.made;
      kept = c.in_ok-entering.ensures.kept;
      gains = c.in_ok-entering.ensures.gains;
      outcome = c.in_ok-entering.ensures.outcome;
      event = c.in_ok-entering.ensures.event;
      started = c.in_ok-entering.ensures.started;
      dirs = c.in_ok-entering.ensures.dirs;
    })
    (record {
      course = c.make_room.ensures.course;
      dirs = c.make_room.ensures.dirs;
      table = c.make_room.ensures.table;
      places = c.in_ok-make_room.ensures.places;
      fresh = c.in_ok-make_room.ensures.fresh;
      log_room = c.in_ok-make_room.ensures.log_room;
      met_room = c.in_ok-make_room.ensures.met_room;
      run_room = c.in_ok-make_room.ensures.run_room;
      job_room = c.in_ok-make_room.ensures.job_room;
      past_room = c.in_ok-make_room.ensures.past_room;
    })
    c.requires
