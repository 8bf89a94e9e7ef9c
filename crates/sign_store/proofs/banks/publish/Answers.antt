use Rattle.std.proofs.Common.{◌≡◌, ◌<◌, ℕ, sym, subst, arith}
use Rattle.sign_store.specs.Ends.{KeepsAt}
use Rattle.sign_store.specs.Staging.{IsStaging}
use Rattle.sign_store.proofs.DiskLemmas.{writes_joined, both_ok, held_ok, read}
use Rattle.sign_store.proofs.WriteLemmas.{behind_moments, either_first}
use Rattle.sign_store.proofs.StageLemmas.{publish_moments, publish_keeps, sync_either, sync_keeps}
use Rattle.sign_store.proofs.banks.publish.Goals as goal

pub returns-then-place-end-clause-moments : goal.returns-then-place-end-clause-moments
returns-then-place-end-clause-moments g c = λ from map staging.
    let here : c.args.place ≡ c.args.end = omega (arith, c.if-place-end.true) in
    sync_either g.W.Disk.meaning c.args.world.now c.sync.new.self c.args.bank c.args.end from map
    (subst (λ n. IsStaging g.W.Disk.meaning c.args.world.now c.args.bank c.args.end n from map) here staging) c.sync.ensures.time c.sync.ensures.around c.sync.ensures.banks

pub returns-then-place-end-clause-keeps : goal.returns-then-place-end-clause-keeps
returns-then-place-end-clause-keeps g c = λ from map staging.
    let here : c.args.place ≡ c.args.end = omega (arith, c.if-place-end.true) in
    held_ok c.sync.result
    (subst (λ n. KeepsAt g.W.Disk.meaning c.sync.new.self c.args.bank n map) (sym here)
    (sync_keeps g.W.Disk.meaning c.args.world.now c.sync.new.self c.args.bank c.args.end from map c.sync.ensures.told.told c.sync.ensures.banks
    (subst (λ n. IsStaging g.W.Disk.meaning c.args.world.now c.args.bank c.args.end n from map) here staging)))

pub returns-then-place-end-clause-writes : goal.returns-then-place-end-clause-writes
returns-then-place-end-clause-writes g c = read g.W.Disk.meaning c.args.bank c.args.world.now c.sync.new.self c.sync.ensures.told c.sync.ensures.recalls c.sync.ensures.around c.sync.ensures.banks

pub returns-in_err-write_synced-clause-moments : goal.returns-in_err-write_synced-clause-moments
returns-in_err-write_synced-clause-moments g c = λ from map staging.
    let m = g.W.Disk.meaning in
    let behind : c.args.end < c.args.place = omega (arith, c.if-place-end.false, c.requires.behind) in
    either_first m c.args.world.now c.write_synced.new.world (m.around c.args.world.now) from map
    (behind_moments m c.args.world.now c.write_synced.new.world c.args.bank c.args.end c.args.place _ from behind staging.keeps c.write_synced.ensures.moments)

pub returns-clause-writes : goal.returns-clause-writes
returns-clause-writes g c = writes_joined _ _ _ _ _ c.write_synced.ensures.writes c.write_synced-2.ensures.writes

pub returns-clause-moments : goal.returns-clause-moments
returns-clause-moments g c = λ from map staging.
    let behind : c.args.end < c.args.place = omega (arith, c.if-place-end.false, c.requires.behind) in
    publish_moments g.W.Disk.meaning c.args.world.now c.write_synced.new.world c.write_synced-2.new.world c.args.bank c.args.end c.args.place from map behind staging
    c.write_synced.ensures.moments c.write_synced.ensures.told.told c.in_ok-write_synced.ensures.settled (λ told. (c.requires.within told).inside)
    c.in_ok-write_synced.ensures.written c.write_synced.ensures.around c.write_synced-2.ensures.moments

pub returns-clause-keeps : goal.returns-clause-keeps
returns-clause-keeps g c = λ from map staging.
    let behind : c.args.end < c.args.place = omega (arith, c.if-place-end.false, c.requires.behind) in
    both_ok c.write_synced-2.result c.write_synced-2.ensures.written c.write_synced-2.ensures.settled (λ written settled.
    publish_keeps g.W.Disk.meaning c.args.world.now c.write_synced.new.world c.write_synced-2.new.world c.args.bank c.args.end c.args.place from map behind staging
    c.write_synced.ensures.moments c.write_synced.ensures.told.told c.write_synced-2.ensures.told.told c.requires.within (g.met.W.Disk.reads_as c.write_synced.new.world)
    c.in_ok-write_synced.ensures.written settled written c.write_synced-2.ensures.writes.other)
