use Rattle.world_api.proofs.Looking.{seen_kind}
use Rattle.scons_host.proofs.Showing.{kind_shown}
use Rattle.scons_host.proofs.asks.kind_of.Goals as goal

pub returns-clause-looks : goal.returns-clause-looks
returns-clause-looks g c =
    let e = c.kind.ensures in
    seen_kind g.W.Disk.meaning _ _ e.told e.recalls e.around e.banks e.time c.kind.result e.kept e.rose

pub returns-clause-shown : goal.returns-clause-shown
returns-clause-shown g c =
    let e = c.kind.ensures in
    kind_shown g.W.Disk.meaning _ _ e.around c.args.path.now c.kind.result e.kind
