use Rattle.std.proofs.Common.{take}
use Rattle.task_plan.specs.Queues.{ArePlaced}
use Rattle.task_plan.proofs.QueueLemmas.{AreNumbersTo}
use Rattle.task_plan.proofs.queue.numbers_of.Given as goal

abbrev pub invariant-loop-place : goal.invariant-loop-place
invariant-loop-place l = record {
  numbers : AreNumbersTo l.rules l.place l.numbers.items;
  placed : ArePlaced l.count (take l.place l.rules) l.numbers.items l.place;
}
