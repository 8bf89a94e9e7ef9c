use Rattle.world_api.proofs.Looking.{since_call}
use Rattle.build_run.proofs.explain.is_file.Goals as goal

pub returns-in-Ok-clause-looks : goal.returns-in-Ok-clause-looks
returns-in-Ok-clause-looks g c =
    let e = c.kind.ensures in
    record {
      told = e.told;
      recalls = e.recalls;
      around = e.around;
      banks = e.banks;
      before = since_call g.W.Disk.meaning _ _ e.time e.around e.banks;
    }

pub returns-in-Err-clause-looks : goal.returns-in-Err-clause-looks
returns-in-Err-clause-looks g c =
    let e = c.kind.ensures in
    record {
      told = e.told;
      recalls = e.recalls;
      around = e.around;
      banks = e.banks;
      before = since_call g.W.Disk.meaning _ _ e.time e.around e.banks;
    }
