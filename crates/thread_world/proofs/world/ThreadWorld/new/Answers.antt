use Rattle.std.proofs.Common.{rules}
use Rattle.thread_world.proofs.world.ThreadWorld.new.Goals as goal

pub returns-clause-fresh : goal.returns-clause-fresh
returns-clause-fresh g c = record {
  tree = c.in_ok-world.ensures.tree;
  dirs = c.in_ok-world.ensures.dirs;
  running = c.in_ok-world.ensures.running;
  log = c.in_ok-world.ensures.log;
  met = c.in_ok-world.ensures.met;
  law = c.in_ok-world.ensures.law;
  table = c.in_ok-world.ensures.table;
  seen = c.in_ok-world.ensures.seen;
  clock = c.in_ok-world.ensures.clock;
  counts = c.in_ok-world.ensures.counts;
  calls = c.in_ok-world.ensures.calls;
  stamp = c.in_ok-world.ensures.stamp;
  stamps = c.in_ok-world.ensures.stamps;
  failing = search (rules, c.in_ok-world.ensures.failing);
  unfused = c.in_ok-world.ensures.unfused;
}
