use Rattle.world_api.proofs.Looking.{read}
use Rattle.scons_host.proofs.Showing.{bytes_shown}
use Rattle.scons_host.proofs.asks.bytes_of.Goals as goal

pub returns-clause-looks : goal.returns-clause-looks
returns-clause-looks g c =
    let e = c.read_file.ensures in
    read g.W.Disk.meaning _ _ e.told e.recalls e.around e.banks e.time c.read_file.result e.kept e.rose

pub returns-clause-shown : goal.returns-clause-shown
returns-clause-shown g c =
    let e = c.read_file.ensures in
    bytes_shown g.W.Disk.meaning _ _ e.around c.args.path.now c.args.limit c.read_file.result e.content e.within e.large e.over
