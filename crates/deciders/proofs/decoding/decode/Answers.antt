use Rattle.std.proofs.Common.{sym, ◌∙◌, arith}
use Rattle.deciders.proofs.RecordLaws.{record_takes, record_again}
use Rattle.deciders.proofs.decoding.decode.Goals as goal

pub returns-in-Ok-clause-found : goal.returns-in-Ok-clause-found
returns-in-Ok-clause-found c = record_takes c.args.version c.args.bytes.now c.in-Ok.rec (λ i. omega (arith, c.type_inv.bytes i)) c.in-Ok.ensures

pub returns-in-Ok-clause-only : goal.returns-in-Ok-clause-only
returns-in-Ok-clause-only c = λ rec spells. sym c.in-Ok.ensures ∙ record_again c.args.version c.args.bytes.now rec spells

pub returns-in-Err-Malformed-clause-only : goal.returns-in-Err-Malformed-clause-only
returns-in-Err-Malformed-clause-only c =
    let read = rw c.in-Err-Malformed.field-0-is at c.in-Err-Malformed.ensures in
    λ rec spells. sym read ∙ record_again c.args.version c.args.bytes.now rec spells
