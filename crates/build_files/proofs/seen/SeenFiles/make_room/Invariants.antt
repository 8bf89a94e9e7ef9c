use Rattle.std.proofs.Common.{◌≡◌, length}
use Rattle.build_files.specs.Seen.{SeesTheSame}
use Rattle.build_files.proofs.seen.SeenFiles.make_room.Given as goal

abbrev pub invariant-loop : goal.invariant-loop
invariant-loop l = record {
  same : SeesTheSame l.fn.self.seen.items l.self.seen.items;
  size : length l.self.seen.items ≡ l.counter;
}
