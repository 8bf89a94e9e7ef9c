use Rattle.world_api.proofs.Looking.{asked}
use Rattle.scons_host.proofs.Showing.{top_shown}
use Rattle.scons_host.proofs.asks.top_of.Goals as goal

pub returns-clause-looks : goal.returns-clause-looks
returns-clause-looks g c =
    let e = c.top_path.ensures in
    asked g.W.Disk.meaning _ _ e.told e.recalls e.around e.banks e.time c.top_path.result e.kept e.rose

pub returns-clause-shown : goal.returns-clause-shown
returns-clause-shown g c =
    let e = c.top_path.ensures in
    top_shown g.W.Disk.meaning _ _ e.around c.top_path.result e.top
