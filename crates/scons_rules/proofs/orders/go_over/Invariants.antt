use Rattle.std.proofs.Common.{◌≡◌, length}
use Rattle.scons_rules.specs.Walks.{unwound, left_of, gone_of}
use Rattle.scons_rules.proofs.orders.go_over.Given as goal

abbrev pub invariant-steps : goal.invariant-steps
invariant-steps l = unwound l.lists (length l.lists) (left_of l.walk) (gone_of l.walk) ≡ unwound l.lists (length l.lists) (left_of l.initial.walk) (gone_of l.initial.walk)
