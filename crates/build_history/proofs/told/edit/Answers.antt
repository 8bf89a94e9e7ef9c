use Rattle.std.proofs.Common.{◌∙◌, sym}
use Rattle.build_history.proofs.Truth.{are_settled, unrecorded}
use Rattle.build_history.proofs.told.edit.Goals as goal

pub returns-in-Ok-clause-edited : goal.returns-in-Ok-clause-edited
returns-in-Ok-clause-edited c = record {
  settled = are_settled c.args.world.now c.synced.result c.synced-else-not-synced.result c.if-not-synced.false c.if-not-synced-2.false
      c.synced.ensures.settled c.synced-else-not-synced.ensures.settled;
  unrecorded = unrecorded c.args.world.now c.args.path.now c.bank.result.now c.bank-2.result.now c.in_ok-recorded.field-0
      c.bank.ensures c.bank-2.ensures c.in_ok-recorded.ensures c.if-branch.false;
  free = λ kept. cc (sym c.in-Ok.is ∙ c.edit.ensures.place.1 kept);
  edits = c.in-Ok.ensures.edited;
  banks = c.edit.ensures.banks;
}
