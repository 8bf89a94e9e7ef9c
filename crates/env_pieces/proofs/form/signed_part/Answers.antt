use Rattle.std.proofs.Common.{string_bytes, arith}
use Rattle.env_pieces.specs.Forms.{signed_part}
use Rattle.env_pieces.proofs.Showing.{goes_at, stops_at}
use Rattle.env_pieces.proofs.form.signed_part.Goals as goal

pub loop-number-preserved : goal.loop-number-preserved
loop-number-preserved c =
    let goes = rw c.in-Some.is at c.in_ok-next.ensures.goes in
    let few = rw c.in-Some.is at c.in_ok-next.ensures.few in record {
      whole = goes_at c.args.keep c.args.pieces.now c.loop-number.number c.loop-number.depth c.in-Some.next (string_bytes c.loop-number.out) (string_bytes c.put_signed.new.out) c.index-pieces-number.result (signed_part c.args.keep 0 0 c.args.pieces.now) c.loop-number-test.true c.index-pieces-number.is c.loop-number.invariant.whole goes;
      few = omega (arith, few);
    }

pub returns-in-None-clause-fault : goal.returns-in-None-clause-fault
returns-in-None-clause-fault c = λ _.
    let goes = rw c.in-None.is at c.in_ok-next.ensures.goes in
    stops_at c.args.keep c.args.pieces.now c.loop-number.number c.loop-number.depth (string_bytes c.loop-number.out) (string_bytes c.put_signed.new.out) c.index-pieces-number.result (signed_part c.args.keep 0 0 c.args.pieces.now) c.loop-number-test.true c.index-pieces-number.is c.loop-number.invariant.whole goes
