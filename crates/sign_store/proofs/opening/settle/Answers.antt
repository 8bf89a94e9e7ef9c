use Rattle.std.proofs.Common.{◌∙◌}
use Rattle.world_api.proofs.Looking.{bank_joined}
use Rattle.sign_store.proofs.DiskLemmas.{both_ok}
use Rattle.sign_store.proofs.WriteLemmas.{sync_moments}
use Rattle.sign_store.specs.Beginnings.{IsAsBefore}
use Rattle.world_api.specs.declared.disk.Bank.TheVariants.{A}
use Rattle.sign_store.proofs.OpenLemmas.{synced_first, both_settled}
use Rattle.sign_store.proofs.opening.settle.Goals as goal

pub returns-in_err-sync-clause-moments : goal.returns-in_err-sync-clause-moments
returns-in_err-sync-clause-moments g c = synced_first g.W.Disk.meaning c.args.world.now c.sync.new.self c.sync.ensures.time c.sync.ensures.around c.sync.ensures.banks

pub returns-clause-moments : goal.returns-clause-moments
returns-clause-moments g c =
    sync_moments g.W.Disk.meaning c.args.world.now c.sync.new.self c.sync-2.new.self (IsAsBefore g.W.Disk.meaning c.args.world.now)
    (synced_first g.W.Disk.meaning c.args.world.now c.sync.new.self c.sync.ensures.time c.sync.ensures.around c.sync.ensures.banks)
    c.sync-2.ensures.time c.sync-2.ensures.around c.sync-2.ensures.banks

pub returns-clause-rest : goal.returns-clause-rest
returns-clause-rest g c = both_ok c.sync-2.result c.sync-2.ensures.durable c.sync-2.ensures.durable (λ second _.
    record {
      around = λ told. c.sync-2.ensures.around told ∙ c.sync.ensures.around (c.sync-2.ensures.told.told told);
      settled = λ told. both_settled g.W.Disk.meaning c.sync.new.self c.sync-2.new.self (c.in_ok-sync.ensures.durable (c.sync-2.ensures.told.told told)) (c.sync-2.ensures.banks told A) (second told);
    })

pub returns-clause-banks : goal.returns-clause-banks
returns-clause-banks g c = λ told bank. bank_joined g.W.Disk.meaning bank c.args.world.now c.sync.new.self c.sync-2.new.self (c.sync.ensures.banks (c.sync-2.ensures.told.told told) bank) (c.sync-2.ensures.banks told bank)
