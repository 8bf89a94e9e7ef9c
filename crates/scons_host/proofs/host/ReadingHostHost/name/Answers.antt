use Rattle.std.proofs.Common.{refl}
use Rattle.scons_host.specs.SayingLaws.{keeps_same}
use Rattle.scons_host.specs.Seeing.{seen_of}
use Rattle.scons_host.proofs.host.ReadingHostHost.name.Goals as goal

pub returns-clause-keeps : goal.returns-clause-keeps
returns-clause-keeps g c = (refl, keeps_same g.W.Disk.meaning g.O.Sink.meaning (seen_of c.args.self.now))

pub returns-clause-names : goal.returns-clause-names
returns-clause-names g c = (refl, (c.name.ensures, refl))
