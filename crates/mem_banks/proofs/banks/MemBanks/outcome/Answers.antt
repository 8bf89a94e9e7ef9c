use Rattle.std.proofs.Common.{◌≡◌, ◌∙◌, ◌≤◌, sym, subst, arith, length, reverse, List, ℕ}
use Rattle.mem_banks.specs.AsStore.{store_of}
use Rattle.mem_banks.specs.Past.{IsAt, bytes_in}
use Rattle.mem_banks.specs.declared.banks.MemBanks.{MemBanks}
use Rattle.mem_banks.specs.declared.change.Change.{Change}
use Rattle.mem_banks.proofs.Cuts.{at_of, left_small}
use Rattle.mem_banks.proofs.banks.MemBanks.outcome.Goals as goal
use Rattle.world_api.specs.declared.disk.Bank.{Bank}

-- each change of a bank stands, as they are kept
at_kept : (banks : MemBanks) (bank : Bank) (bytes : List ℕ) (changes : List Change) (saved : List ℕ) → bytes ≡ bytes_in (store_of banks) bank → changes ≡ banks.changes.items → saved ≡ banks.saved.items
    → IsAt bank (reverse changes) bytes saved
at_kept banks bank bytes changes saved are in_order kept =
    let s = store_of banks in
    subst (λ (l : List ℕ). IsAt bank (reverse changes) bytes l) (sym kept)
    (subst (λ (l : List Change). IsAt bank (reverse l) bytes s.saved) (sym in_order)
    (subst (λ (l : List ℕ). IsAt bank s.changes l s.saved) (sym are) (at_of s.changes s.a s.b s.saved bank banks.whole)))

pub leave-requires : goal.leave-requires
leave-requires c =
    at_kept c.args.self.now c.args.bank _ _ _ (c.in_ok-bytes.ensures.items ∙ c.bytes.ensures) c.as_slice.ensures.value c.as_slice-2.ensures.value

pub returns-clause-small : goal.returns-clause-small
returns-clause-small c =
    let at = at_kept c.args.self.now c.args.bank c.in_ok-bytes.bytes.items c.as_slice.result.now c.as_slice-2.result.now (c.in_ok-bytes.ensures.items ∙ c.bytes.ensures) c.as_slice.ensures.value c.as_slice-2.ensures.value in
    let small : length c.leave.new.bytes.items ≤ 4194304 = left_small c.args.bank (reverse c.as_slice.result.now) c.in_ok-bytes.bytes.items c.as_slice-2.result.now c.leave.new.bytes.items at c.in_ok-leave.ensures.left in
    omega (arith, small, c.leave.new.bytes.ok.0)
