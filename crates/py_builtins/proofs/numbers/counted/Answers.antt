use Rattle.std.proofs.Common.{arith, ◌≡◌, ◌+ℤ◌, ◌<ℤ◌, pos, w64, to_z, of_z}
use Rattle.std.proofs.lemmas.Int.{ints}
use Rattle.py_builtins.specs.Numbers.{span, counted}
use Rattle.py_builtins.proofs.Counting.{below, counted_more}
use Rattle.py_builtins.proofs.numbers.counted.Goals as goal

pub numbers-preserved : goal.numbers-preserved
numbers-preserved c =
    let from = to_z w64 (of_z w64 c.args.from) in
    let to = to_z w64 (of_z w64 c.args.to) in
    let next = to_z w64 c.numbers.next-bits in
    let more = to_z w64 (of_z w64 (next +ℤ pos 1)) in
    let less : next <ℤ to = below next to c.numbers-test.true in
    let step : more ≡ next +ℤ pos 1 = omega (arith, ints) in
    counted_more next to more c.numbers.made c.push.new.self (counted (span from to) from) less step c.numbers.invariant (c.in_ok-push.ensures {u = tt}).ok
