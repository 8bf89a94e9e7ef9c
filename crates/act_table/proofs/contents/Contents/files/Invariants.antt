use Rattle.std.proofs.Common.{◌≡◌, ◌≤◌, length, take}
use Rattle.act_table.specs.Listed.{contents_in}
use Rattle.act_table.proofs.contents.Contents.files.Given as goal

abbrev pub invariant-loop-content : goal.invariant-loop-content
invariant-loop-content l = record {
  counted : l.count ≡ length (contents_in (take l.content-index l.content-items));
  small : l.count ≤ l.content-index;
}
