use Rattle.std.proofs.Common.{◌≡◌, ◌∙◌, sym, refl, Bool, true, false, not}
use Rattle.mem_banks.specs.AsStore.{store_of}
use Rattle.mem_banks.specs.Past.{bytes_in, is_dirty}
use Rattle.mem_banks.proofs.Images.{clean}
use Rattle.world_mem.proofs.Dirty.{dirty_moves}
use Rattle.world_mem.proofs.world.MemWorld.synced.Goals as goal

turned : (b : Bool) → not b ≡ true → b ≡ false
turned true is = absurd (let e : false ≡ true = is in cc e)
turned false is = refl

unless : (b : Bool) → (b ≡ true → ⊥) → not b ≡ true
unless true off = absurd (off refl)
unless false off = refl

pub returns-clause-settled : goal.returns-clause-settled
returns-clause-settled c =
    let store = store_of c.args.self.now.banks in
    let dirty = is_dirty c.args.bank store.changes in (
      λ yes outcome left. clean c.args.bank store.changes (bytes_in store c.args.bank) store.saved outcome (turned dirty (sym c.is_synced.ensures ∙ yes)) left,
      λ only. c.is_synced.ensures ∙ unless dirty (λ is. dirty_moves c.args.self.now.banks c.args.bank c.args.self.now.counts is only),
    )
