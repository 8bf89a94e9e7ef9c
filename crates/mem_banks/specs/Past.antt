-- Two banks with their past: what was overwritten comes back, and what a stop may leave is told by the writes since the
-- last sync.
use Rattle.std.specs.Prelude.{◌≡◌, ℕ, Bool, true, false, List, [], ◌∷◌, ◌++◌, ◌+◌, ◌-◌, ◌≤◌, length, take, drop, if◌then◌else◌}
use Rattle.std.proofs.Props.{props}
use Rattle.world_api.specs.declared.disk.Bank.{Bank}
use Rattle.world_api.specs.declared.disk.Bank.TheVariants.{A, B}
use Rattle.world_api.specs.Banks.{Torn}
use Rattle.mem_banks.specs.declared.change.Change.{Change}
use Rattle.mem_banks.specs.declared.change.Change.TheVariants.{Wrote, Synced}
use Rattle.mem_banks.specs.declared.change.Write.{Write}

-- the bytes of the banks; what was written and synced, newest first; and what was overwritten, newest last
pub record Store : Type 0 where
  pub a : List ℕ
  pub b : List ℕ
  pub changes : List Change
  pub saved : List ℕ

abbrev pub one_of : Bank → List ℕ → List ℕ → List ℕ
one_of A a b = a
one_of B a b = b

abbrev pub bytes_in : Store → Bank → List ℕ
bytes_in store bank = one_of bank store.a store.b

abbrev pub same_bank : Bank → Bank → Bool
same_bank A A = true
same_bank A B = false
same_bank B A = false
same_bank B B = true

-- these bytes put at a place
abbrev pub spliced : ℕ → List ℕ → List ℕ → List ℕ
spliced place written old = take place old ++ written ++ drop (place + length written) old

-- the last bytes of a list
abbrev pub last_of : ℕ → List ℕ → List ℕ
last_of n bytes = drop (length bytes - n) bytes

-- all but these
abbrev pub without_last : ℕ → List ℕ → List ℕ
without_last n bytes = take (length bytes - n) bytes

-- the bytes before a write, of which the overwritten ones are the last that were saved
abbrev pub restored : Write → List ℕ → List ℕ → List ℕ
restored write bytes saved =
    take write.place bytes ++ last_of write.kept saved ++ drop (write.place + write.kept) (take write.size bytes)

abbrev pub choice : Bool → List ℕ → List ℕ → List ℕ
choice true one other = one
choice false one other = other

-- the bytes that a write overwrites
abbrev pub overwritten : ℕ → List ℕ → List ℕ → List ℕ
overwritten place written old = take (length written) (drop place old)

-- a write of these bytes, which counts as one of `count` bytes
abbrev pub write_of : Bank → ℕ → List ℕ → ℕ → List ℕ → Write
write_of bank place written count old =
    record { bank = bank; place = place; count = count; size = length old; kept = length (overwritten place written old) }

-- the banks after a write
abbrev pub wrote : Bank → ℕ → List ℕ → ℕ → Store → Store
wrote bank place written count store = record {
  a = choice (same_bank bank A) (spliced place written store.a) store.a;
  b = choice (same_bank bank B) (spliced place written store.b) store.b;
  changes = Wrote (write_of bank place written count (bytes_in store bank)) ∷ store.changes;
  saved = store.saved ++ overwritten place written (bytes_in store bank);
}

-- the banks after a sync
abbrev pub synced : Bank → Store → Store
synced bank store = record store { changes = Synced bank ∷ store.changes }

-- the state before the newest change
abbrev back_over : List Change → Store → Store
back_over [] store = store
back_over (Synced bank ∷ older) store = record store { changes = older }
back_over (Wrote write ∷ older) store = record {
  a = choice (same_bank write.bank A) (restored write store.a store.saved) store.a;
  b = choice (same_bank write.bank B) (restored write store.b store.saved) store.b;
  changes = older;
  saved = without_last write.kept store.saved;
}

abbrev pub back : Store → Store
back store = back_over store.changes store

-- the bytes of a bank at its last sync, or at first
abbrev pub synced_bytes : Bank → List Change → List ℕ → List ℕ → List ℕ
synced_bytes bank [] bytes saved = bytes
synced_bytes bank (Synced other ∷ older) bytes saved = choice (same_bank other bank) bytes (synced_bytes bank older bytes saved)
synced_bytes bank (Wrote write ∷ older) bytes saved =
    synced_bytes bank older (choice (same_bank write.bank bank) (restored write bytes saved) bytes) (without_last write.kept saved)

abbrev pub Either : Bool → Type 0 → Type 0 → Type 0
Either true P Q = P
Either false P Q = Q

-- What a stop may leave of a bank, by its changes, newest first, its bytes and what was saved: a sync leaves it as it
-- reads; a write may be cut short over whatever was left before it.
abbrev pub IsLeft : Bank → List Change → List ℕ → List ℕ → List ℕ → Type 0
IsLeft bank [] bytes saved outcome = outcome ≡ bytes
IsLeft bank (Synced other ∷ older) bytes saved outcome =
    Either (same_bank other bank) (outcome ≡ bytes) (IsLeft bank older bytes saved outcome)
IsLeft bank (Wrote write ∷ older) bytes saved outcome = Either (same_bank write.bank bank)
    ((before : List ℕ) × IsLeft bank older (restored write bytes saved) (without_last write.kept saved) before × Torn write.place write.count before outcome)
    (IsLeft bank older bytes (without_last write.kept saved) outcome)

abbrev pub IsImage : Store → Bank → List ℕ → Type 0
IsImage store bank outcome = IsLeft bank store.changes (bytes_in store bank) store.saved outcome

-- what stands of a bank where no write since its last sync does
abbrev pub synced_in : Store → Bank → List ℕ
synced_in store bank = synced_bytes bank store.changes (bytes_in store bank) store.saved

-- the bank was written since it was last synced
abbrev pub is_dirty : Bank → List Change → Bool
is_dirty bank [] = false
is_dirty bank (Synced other ∷ older) = if same_bank other bank then false else is_dirty bank older
is_dirty bank (Wrote write ∷ older) = if same_bank write.bank bank then true else is_dirty bank older

-- the bytes have room in a bank
abbrev pub HaveRoom : List ℕ → Type 0
HaveRoom bytes = length bytes ≤ 4194304

-- a write that stands at the end of a bank and of what was saved
pub record Stands (write : Write) (bytes saved : List ℕ) : Type 0 where
  pub kept : write.kept ≤ length saved
  pub count : write.kept ≤ write.count
  pub room : write.place + write.count ≤ 4194304
  pub size : write.place + write.kept ≤ write.size
  pub within : write.size ≤ length bytes
  pub torn : Torn write.place write.count (restored write bytes saved) bytes

-- each change stands where the later ones are taken back, and what was there at first has room
abbrev pub IsWhole : List Change → List ℕ → List ℕ → List ℕ → Type 0
IsWhole [] a b saved = HaveRoom a × HaveRoom b
IsWhole (Synced bank ∷ older) a b saved = IsWhole older a b saved
IsWhole (Wrote write ∷ older) a b saved =
    Stands write (choice (same_bank write.bank A) a b) saved
    × IsWhole older (choice (same_bank write.bank A) (restored write a saved) a) (choice (same_bank write.bank B) (restored write b saved) b) (without_last write.kept saved)

-- the same of one bank
abbrev pub IsAt : Bank → List Change → List ℕ → List ℕ → Type 0
IsAt bank [] bytes saved = HaveRoom bytes
IsAt bank (Synced other ∷ older) bytes saved = IsAt bank older bytes saved
IsAt bank (Wrote write ∷ older) bytes saved = (write.kept ≤ length saved) × Either (same_bank write.bank bank)
    (Stands write bytes saved × IsAt bank older (restored write bytes saved) (without_last write.kept saved))
    (IsAt bank older bytes (without_last write.kept saved))

Stands-prop : (write : Write) (bytes saved : List ℕ) → IsProp (Stands write bytes saved)
Stands-prop write bytes saved = hlevel props

pub IsWhole-prop : (changes : List Change) (a b saved : List ℕ) → IsProp (IsWhole changes a b saved)
IsWhole-prop [] a b saved = hlevel props
IsWhole-prop (Synced bank ∷ older) a b saved = IsWhole-prop older a b saved
IsWhole-prop (Wrote write ∷ older) a b saved =
    let rest = IsWhole-prop older (choice (same_bank write.bank A) (restored write a saved) a) (choice (same_bank write.bank B) (restored write b saved) b) (without_last write.kept saved) in
    let this = Stands-prop write (choice (same_bank write.bank A) a b) saved in hlevel (props, rest, this)
