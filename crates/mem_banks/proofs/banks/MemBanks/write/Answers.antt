use Rattle.std.proofs.Common.{◌≡◌, ◌∙◌, sym, subst, reverse, ap, [], ◌∷◌, ◌++◌, List, ℕ, true, cond, length}
use Rattle.std.proofs.lemmas.List.{reverse-append}
use Rattle.world_api.specs.declared.disk.Bank.{Bank}
use Rattle.world_api.specs.declared.disk.Bank.TheVariants.{A, B}
use Rattle.mem_banks.specs.declared.change.Change.{Change}
use Rattle.mem_banks.specs.declared.change.Change.TheVariants.{Wrote}
use Rattle.mem_banks.specs.Past.{Store, IsWhole, wrote, same_bank, is_dirty, bytes_in, overwritten}
use Rattle.mem_banks.specs.AsStore.{store_of}
use Rattle.mem_banks.proofs.Images.{wrote_whole}
use Rattle.mem_banks.proofs.banks.MemBanks.write.Goals as goal

-- the record, newest first, after one change more
newest : (old new : List Change) (bank : Bank) (place count size kept size' kept' : ℕ) → new ≡ old ++ Wrote (record { bank = bank; place = place; count = count; size = size; kept = kept }) ∷ [] → size ≡ size' → kept ≡ kept'
    → reverse new ≡ Wrote (record { bank = bank; place = place; count = count; size = size'; kept = kept' }) ∷ reverse old
newest old new bank place count size kept size' kept' is s k =
    ap reverse is ∙ reverse-append old (Wrote (record { bank = bank; place = place; count = count; size = size; kept = kept }) ∷ [])
    ∙ (λ i. Wrote (record { bank = bank; place = place; count = count; size = s i; kept = k i }) ∷ reverse old)

pub invariant_of-self-clause-whole : goal.invariant_of-self-clause-whole
invariant_of-self-clause-whole c =
    let old = store_of c.args.self.now in
    let bytes = bytes_in old c.args.bank in
    let changes = newest c.args.self.now.changes.items c.note.new.changes.items c.args.bank c.args.place c.args.count c.len-size.result c.put-kept.result (length bytes) (length (overwritten c.args.place c.args.bytes.now bytes)) c.note.ensures.items c.len-size.ensures c.put-kept.ensures.kept in
    let new : Store = record { a = c.put-kept.new.a.items; b = c.put-kept.new.b.items; changes = reverse c.note.new.changes.items; saved = c.put-kept.new.saved.items } in
    let same : new ≡ wrote c.args.bank c.args.place c.args.bytes.now c.args.count old = λ i. record {
      a = c.put-kept.ensures.a i;
      b = c.put-kept.ensures.b i;
      changes = changes i;
      saved = c.put-kept.ensures.saved i;
    } in
    let P : Store → Type 0 = λ t. IsWhole t.changes t.a t.b t.saved in
    subst P (sym same) (wrote_whole c.args.bank c.args.place c.args.bytes.now c.args.count old c.requires.within c.requires.count c.requires.room c.args.self.now.whole)

pub invariant_of-self-clause-clean_a : goal.invariant_of-self-clause-clean_a
invariant_of-self-clause-clean_a c =
    let bytes = bytes_in (store_of c.args.self.now) c.args.bank in
    let changes = newest c.args.self.now.changes.items c.note.new.changes.items c.args.bank c.args.place c.args.count c.len-size.result c.put-kept.result (length bytes) (length (overwritten c.args.place c.args.bytes.now bytes)) c.note.ensures.items c.len-size.ensures c.put-kept.ensures.kept in
    c.dirty_after-self.ensures ∙ ap (λ d. cond (same_bank c.args.bank A) true d) c.args.self.now.clean_a ∙ sym (ap (is_dirty A) changes)

pub invariant_of-self-clause-clean_b : goal.invariant_of-self-clause-clean_b
invariant_of-self-clause-clean_b c =
    let bytes = bytes_in (store_of c.args.self.now) c.args.bank in
    let changes = newest c.args.self.now.changes.items c.note.new.changes.items c.args.bank c.args.place c.args.count c.len-size.result c.put-kept.result (length bytes) (length (overwritten c.args.place c.args.bytes.now bytes)) c.note.ensures.items c.len-size.ensures c.put-kept.ensures.kept in
    c.dirty_after-self-2.ensures ∙ ap (λ d. cond (same_bank c.args.bank B) true d) c.args.self.now.clean_b ∙ sym (ap (is_dirty B) changes)
