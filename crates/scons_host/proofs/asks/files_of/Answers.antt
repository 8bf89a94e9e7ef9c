use Rattle.world_api.proofs.Looking.{asked}
use Rattle.scons_host.proofs.Showing.{files_shown}
use Rattle.scons_host.proofs.asks.files_of.Goals as goal

pub returns-clause-looks : goal.returns-clause-looks
returns-clause-looks g c =
    let e = c.list.ensures in
    asked g.W.Disk.meaning _ _ e.told e.recalls e.around e.banks e.time c.list.result e.kept e.rose

pub returns-clause-shown : goal.returns-clause-shown
returns-clause-shown g c =
    let e = c.list.ensures in
    files_shown g.W.Disk.meaning _ _ e.around c.args.dir.now c.list.result e.files
