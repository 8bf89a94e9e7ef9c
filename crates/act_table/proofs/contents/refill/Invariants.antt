use Rattle.std.proofs.Common.{◌≡◌, ◌+◌, length}
use Rattle.act_table.specs.Filled.{filled_from}
use Rattle.act_table.proofs.contents.refill.Given as goal

abbrev pub invariant-contents : goal.invariant-contents
invariant-contents l = record {
  so_far : filled_from l.place l.items.items l.content-iterator.rest.items ≡ filled_from 0 l.fn.items.items l.fn.contents.items;
  room : l.place + length l.content-iterator.rest.items ≡ length l.items.items;
}
