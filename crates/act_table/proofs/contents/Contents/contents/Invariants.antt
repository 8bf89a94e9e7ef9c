use Rattle.std.proofs.Common.{◌≡◌, take, map}
use Rattle.act_table.proofs.contents.Contents.contents.Given as goal

abbrev pub invariant-loop-content : goal.invariant-loop-content
invariant-loop-content l = l.contents ≡ map (λ pair. pair.1) (take l.content-index l.content-items)
