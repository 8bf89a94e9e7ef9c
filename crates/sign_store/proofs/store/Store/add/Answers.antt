use Rattle.sign_store.proofs.StageLemmas.{behind_same}
use Rattle.sign_store.proofs.store.Store.add.Goals as goal

pub returns-then-not-has_room-clause-stays : goal.returns-then-not-has_room-clause-stays
returns-then-not-has_room-clause-stays g c = behind_same g.W.Disk.meaning c.args.world.now c.args.self.now.bank c.args.start (g.met.W.Disk.only_now c.args.world.now)

pub returns-clause-staged : goal.returns-clause-staged
returns-clause-staged g c = λ from mid map room is staged. rw (c.use_room.ensures.bank, c.use_room.ensures.end) (c.in_ok-stage.ensures.staged from mid map is staged)
