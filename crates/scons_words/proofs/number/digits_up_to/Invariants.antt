use Rattle.std.proofs.Common.{◌≡◌, drop}
use Rattle.scons_words.specs.Numbers.{digits_up_to}
use Rattle.scons_words.proofs.number.digits_up_to.Given as goal

abbrev pub invariant-loop-digit : goal.invariant-loop-digit
invariant-loop-digit l = digits_up_to l.limit l.number (drop l.digit-index l.digits) ≡ digits_up_to l.limit 0 l.digits
