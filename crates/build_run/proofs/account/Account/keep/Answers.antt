use Rattle.build_run.proofs.Noting.{kept_more, kept_now, kept_over, noted_more, noted_over}
use Rattle.std.proofs.Common.{List, subst, sym}
use Rattle.rule_graph.specs.declared.build_fault.BuildFault.{BuildFault}
use Rattle.build_run.specs.Noted.{IsKept, IsNoted}
use Rattle.std.proofs.Common.{ap, refl}
use Rattle.build_run.specs.Ledgers.{Ledger, ledger_of}
use Rattle.build_run.proofs.Causing.{account_as, as_faults, dropped}
use Rattle.build_model.proofs.Lists.{true_false}
use Rattle.std.proofs.Common.{◌∙◌, sym}
use Rattle.build_run.proofs.account.Account.keep.Goals.{in-Ok, in-Err}
use Rattle.build_run.proofs.Faulted.{kept_fault, lost_fault}
use Rattle.build_run.proofs.account.Account.keep.Goals as goal

pub returns-clause-noted : goal.returns-clause-noted
returns-clause-noted c = elim c.match-push.branch [
  | in-Ok w ↦ rw w.self-is (λ graph rule n.
      subst (λ (fs : List BuildFault). IsNoted graph c.args.self.now.is_ended c.args.self.now.faulty.items fs rule) (sym w.in-Ok.ensures.items)
      (noted_more graph _ _ _ c.args.fault rule n))
  | in-Err w ↦ rw w.self-is (λ graph rule n. noted_over w.want_memory.new.self w.want_memory.ensures.ends.ended graph rule)
]

pub returns-clause-faults : goal.returns-clause-faults
returns-clause-faults c = elim c.match-push.branch [
  | in-Ok w ↦ rw w.self-is (λ f k.
      subst (λ (fs : List BuildFault). IsKept c.args.self.now.is_ended fs f) (sym w.in-Ok.ensures.items) (kept_more _ _ f c.args.fault k))
  | in-Err w ↦ rw w.self-is (λ f k. kept_over w.want_memory.new.self w.want_memory.ensures.ends.ended f)
]

pub returns-clause-kept : goal.returns-clause-kept
returns-clause-kept c = elim c.match-push.branch [
  | in-Ok w ↦ rw w.self-is (subst (λ (fs : List BuildFault). IsKept c.args.self.now.is_ended fs c.args.fault) (sym w.in-Ok.ensures.items) (kept_now _ _ c.args.fault))
  | in-Err w ↦ rw w.self-is (kept_over w.want_memory.new.self w.want_memory.ensures.ends.ended c.args.fault)
]

pub returns-clause-keeps : goal.returns-clause-keeps
returns-clause-keeps c = elim c.match-push.branch [
  | in-Ok w ↦ rw w.self-is (record { shut = refl; accounts = λ now start a. as_faults start now _ _ _ _ w.in-Ok.ensures.items a })
  | in-Err w ↦ rw w.self-is (record {
    shut = ap (λ (l : Ledger). l.shut) w.want_memory.ensures.ledger;
    accounts = λ now start a. account_as start now _ _ w.want_memory.ensures.ledger (as_faults start now _ _ _ _ w.in-Err.ensures.items (dropped start (ledger_of c.args.self.now) now c.args.fault a));
  })
]

pub returns-clause-adds : goal.returns-clause-adds
returns-clause-adds c = elim c.match-push.branch [
  | in-Ok w ↦ rw w.self-is (record { shut = refl; memory = λ m. m; faults = λ m. w.in-Ok.ensures.items })
  | in-Err w ↦ rw w.self-is (record {
    shut = w.want_memory.ensures.same.shut;
    memory = λ m. true_false (sym w.want_memory.ensures.memory ∙ m);
    faults = λ m. true_false (sym w.want_memory.ensures.memory ∙ m);
  })
]

pub returns-clause-lists : goal.returns-clause-lists
returns-clause-lists c = elim c.match-push.branch [
  | in-Ok w ↦ rw w.self-is (kept_fault _ c.args.fault _ _ w.in-Ok.ensures.items)
  | in-Err w ↦ rw w.self-is (lost_fault _ c.args.fault _ _ w.want_memory.ensures.memory (w.want_memory.ensures.same.faults ∙ w.in-Err.ensures.items))
]
