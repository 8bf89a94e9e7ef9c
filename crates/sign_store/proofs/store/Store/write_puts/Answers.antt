use Rattle.std.proofs.Common.{ℕ, sym, subst}
use Rattle.world_api.specs.declared.disk.Bank.{Bank}
use Rattle.sign_store.specs.Ends.{KeepsAt}
use Rattle.sign_store.specs.Reached.{Writes}
use Rattle.sign_store.proofs.DiskLemmas.{writes_joined}
use Rattle.sign_store.specs.Maps.{map_in}
use Rattle.sign_store.specs.Putting.{map_with}
use Rattle.sign_store.proofs.WriteLemmas.{either_first}
use Rattle.sign_store.proofs.StageLemmas.{group_kept, group_written, staged_at}
use Rattle.sign_store.proofs.store.Store.write_puts.Goals as goal

pub returns-in_err-add_puts-clause-moments : goal.returns-in_err-add_puts-clause-moments
returns-in_err-add_puts-clause-moments g c = λ are keeps.
    let m = g.W.Disk.meaning in
    let map = map_in c.args.self.now.map in
    let at = subst (λ n. KeepsAt m c.args.world.now c.args.self.now.bank n map) (sym c.requires.behind) keeps in
    either_first m c.args.world.now c.add_puts.new.world (m.around c.args.world.now) map (map_with c.args.self.now c.args.held.now) (c.add_puts.ensures.stays.moments map at)

pub returns-clause-moments : goal.returns-clause-moments
returns-clause-moments g c = λ are keeps.
    let m = g.W.Disk.meaning in
    let map = map_in c.args.self.now.map in
    let at = subst (λ n. KeepsAt m c.args.world.now c.args.self.now.bank n map) (sym c.requires.behind) keeps in
    let staged = c.in_ok-add_puts.ensures.staged map map are (λ told. staged_at c.args.start c.args.self.now.end map _ c.requires.behind) in
    group_written m c.args.world.now c.add_puts.new.world c.publish.new.world c.args.self.now.bank c.add_puts.new.self.bank c.args.start c.add_puts.new.self.end map (map_with c.args.self.now c.args.held.now)
    c.add_puts.ensures.bank c.add_puts.ensures.around at c.add_puts.ensures.stays staged c.publish.ensures.moments

pub returns-clause-keeps : goal.returns-clause-keeps
returns-clause-keeps g c = λ are keeps.
    let m = g.W.Disk.meaning in
    let map = map_in c.args.self.now.map in
    let at = subst (λ n. KeepsAt m c.args.world.now c.args.self.now.bank n map) (sym c.requires.behind) keeps in
    let staged = c.in_ok-add_puts.ensures.staged map map are (λ told. staged_at c.args.start c.args.self.now.end map _ c.requires.behind) in
    group_kept m c.args.world.now c.add_puts.new.world c.publish.new.world c.args.self.now.bank c.add_puts.new.self.bank c.args.start c.add_puts.new.self.end map (map_with c.args.self.now c.args.held.now) _
    c.add_puts.ensures.bank at c.add_puts.ensures.stays staged c.publish.ensures.keeps

pub returns-clause-writes : goal.returns-clause-writes
returns-clause-writes g c =
    writes_joined g.W.Disk.meaning c.args.self.now.bank c.args.world.now c.add_puts.new.world c.publish.new.world c.add_puts.ensures.writes
    (subst (λ (b : Bank). Writes g.W.Disk.meaning b c.add_puts.new.world c.publish.new.world) c.add_puts.ensures.bank c.publish.ensures.writes)
