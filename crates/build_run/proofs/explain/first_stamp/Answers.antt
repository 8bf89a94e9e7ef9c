use Rattle.world_api.proofs.Looking.{looks_same, since_call}
use Rattle.build_run.proofs.explain.first_stamp.Goals as goal

pub returns-in_default-clause-looks : goal.returns-in_default-clause-looks
returns-in_default-clause-looks g c = looks_same g.W.Disk.meaning c.args.world.now

pub returns-in-Ok-clause-looks : goal.returns-in-Ok-clause-looks
returns-in-Ok-clause-looks g c =
    let e = c.stamp.ensures in
    record {
      told = e.told;
      recalls = e.recalls;
      around = e.around;
      banks = e.banks;
      before = since_call g.W.Disk.meaning _ _ e.time e.around e.banks;
    }

pub returns-in-Err-clause-looks : goal.returns-in-Err-clause-looks
returns-in-Err-clause-looks g c =
    let e = c.stamp.ensures in
    record {
      told = e.told;
      recalls = e.recalls;
      around = e.around;
      banks = e.banks;
      before = since_call g.W.Disk.meaning _ _ e.time e.around e.banks;
    }
