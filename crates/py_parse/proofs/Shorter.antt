-- Reading never gives back more tokens than there were.
use Rattle.std.proofs.Common.{ℕ, ◌≤◌, List, length, arith}
use Rattle.py_token.specs.declared.token.Token.{Token}
use Rattle.py_parse.specs.Grammar.{Body}
use Rattle.py_parse.specs.Reading.{Outcome, ok, fault, Reads, r_given, r_taken, r_refused, r_opened, r_deep, r_unopened, r_read, r_part_fault, r_nested, r_nested_fault}

abbrev pub rest_of : Outcome → List Token
rest_of (ok t rest) = rest
rest_of (fault w rest) = rest

pub shorter : {d : ℕ} {b : Body} {ts : List Token} {o : Outcome} → Reads d b ts o → length (rest_of o) ≤ length ts
shorter r_given = omega arith
shorter (r_taken {ts = ts} f r) = let h = shorter r in omega (arith, h)
shorter (r_refused h) = omega arith
shorter (r_opened {ts = ts} f r) = let h = shorter r in omega (arith, h)
shorter (r_deep h) = omega arith
shorter (r_unopened h) = omega arith
shorter (r_read u rest r s) = let h = shorter r in let i = shorter s in omega (arith, h, i)
shorter (r_part_fault r) = shorter r
shorter (r_nested u rest r s) = let h = shorter r in let i = shorter s in omega (arith, h, i)
shorter (r_nested_fault r) = shorter r
