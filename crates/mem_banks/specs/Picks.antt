-- What each pick makes a stop leave of a bank: of the writes since its last sync the newest are lost, so many, and the
-- newest of the others is cut.
use Rattle.std.specs.Prelude.{◌≡◌, ◌+◌, ◌<◌, ◌^◌, ℕ, zero, suc, Bool, true, false, List, [], ◌∷◌, ◌-◌, ◌/◌, ◌%◌, ◌==◌, min, length, take, drop, replicate, if◌then◌else◌}
use Rattle.world_api.specs.declared.disk.Bank.{Bank}
use Rattle.mem_banks.specs.Past.{Store, bytes_in, back, same_bank, choice, restored, spliced, without_last, synced_bytes}
use Rattle.mem_banks.specs.declared.change.Change.{Change}
use Rattle.mem_banks.specs.declared.change.Change.TheVariants.{Wrote, Synced}
use Rattle.mem_banks.specs.declared.change.Write.{Write}
use Rattle.mem_banks.specs.declared.outcome.Cut.{Cut}
use Rattle.mem_banks.specs.declared.outcome.Cut.TheVariants.{Stands, Lost, Half, Junk}

-- how a write is cut by a pick that leaves this over 4
abbrev pub cut_at : ℕ → Cut
cut_at rest = if rest == 0 then Stands else (if rest == 1 then Lost else (if rest == 2 then Half else Junk))

-- how the newest write that isn't lost is cut
abbrev pub cut_of : ℕ → Cut
cut_of pick = cut_at (pick % 4)

-- how far a write stands that is torn: to the half of its bytes, or to the end of the bank
abbrev pub torn_length : Write → List ℕ → ℕ
torn_length write bytes = min (write.count / 2) (length bytes - write.place)

-- what stands there of a write that is torn: its own bytes, or junk
abbrev pub torn_part : Cut → Write → List ℕ → List ℕ
torn_part Junk write bytes = replicate (torn_length write bytes) 238
torn_part _ write bytes = take (torn_length write bytes) (drop write.place bytes)

-- a bank of these bytes whose newest write is cut: it stands, or is lost, or is torn over what was there before it
abbrev pub cut_short : Cut → Write → List ℕ → List ℕ → List ℕ
cut_short Stands write bytes saved = bytes
cut_short Lost write bytes saved = restored write bytes saved
cut_short Half write bytes saved = spliced write.place (torn_part Half write bytes) (restored write bytes saved)
cut_short Junk write bytes saved = spliced write.place (torn_part Junk write bytes) (restored write bytes saved)

-- a bank whose newest writes since its last sync are lost, so many, and the newest of the others is cut
abbrev pub left_by : Cut → ℕ → Bank → List Change → List ℕ → List ℕ → List ℕ
left_by cut lost bank [] bytes saved = bytes
left_by cut lost bank (Synced other ∷ older) bytes saved =
    choice (same_bank other bank) bytes (left_by cut lost bank older bytes saved)
left_by cut zero bank (Wrote write ∷ older) bytes saved = choice (same_bank write.bank bank)
    (cut_short cut write bytes saved)
    (left_by cut zero bank older bytes (without_last write.kept saved))
left_by cut (suc lost) bank (Wrote write ∷ older) bytes saved = choice (same_bank write.bank bank)
    (left_by cut lost bank older (restored write bytes saved) (without_last write.kept saved))
    (left_by cut (suc lost) bank older bytes (without_last write.kept saved))

-- the same, where by one way of cutting no write since the last sync stands
abbrev pub left_as : Cut → ℕ → Bank → List Change → List ℕ → List ℕ → List ℕ
left_as Lost lost bank changes bytes saved = synced_bytes bank changes bytes saved
left_as Stands lost bank changes bytes saved = left_by Stands lost bank changes bytes saved
left_as Half lost bank changes bytes saved = left_by Half lost bank changes bytes saved
left_as Junk lost bank changes bytes saved = left_by Junk lost bank changes bytes saved

-- what a stop by this pick leaves of a bank: a quarter of the pick is how many writes are lost
abbrev pub left_of : ℕ → Store → Bank → List ℕ
left_of pick store bank = left_as (cut_of pick) (pick / 4) bank store.changes (bytes_in store bank) store.saved

-- the banks before their newest changes, so many
abbrev pub ago : ℕ → Store → Store
ago zero store = store
ago (suc count) store = ago count (back store)

-- a change that syncs a bank
abbrev pub is_sync_of : Bank → Change → Bool
is_sync_of bank (Synced other) = same_bank other bank
is_sync_of bank (Wrote write) = false

-- none of the newest changes, so many, syncs a bank
abbrev pub IsSince : Bank → ℕ → List Change → Type 0
IsSince bank zero changes = Unit {0}
IsSince bank (suc count) [] = Unit {0}
IsSince bank (suc count) (change ∷ older) = (is_sync_of bank change ≡ false) × IsSince bank count older

-- At any moment since a bank was last synced, just after a write of it: whichever way that write may be cut, some pick
-- leaves the bank as it was then, with the write cut so.
abbrev pub EachCutHasPick : Type 0
EachCutHasPick = (store : Store) (bank : Bank) (cut : Cut) (count : ℕ) (write : Write) (older : List Change)
    → count + 1 < 2 ^ 30 → IsSince bank count store.changes → (ago count store).changes ≡ Wrote write ∷ older → same_bank write.bank bank ≡ true
    → (pick : ℕ) × (pick < 2 ^ 32) × (left_of pick store bank ≡ cut_short cut write (bytes_in (ago count store) bank) (ago count store).saved)
