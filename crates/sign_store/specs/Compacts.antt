-- The compact form of a bank: one put for each record that a path still has, in the order of the puts. Directly behind
-- each put stands the withdrawal of those of its targets that have another record or none, where there are such.
use Rattle.std.specs.Prelude.{◌≡◌, ◌≢◌, ◌≤◌, ◌<◌, ◌+◌, ◌*◌, ℕ, zero, suc, List, [], ◌∷◌, ◌++◌, filter, length, not, slice_get, Result, OnOk, if◌then◌else◌}
use Rattle.std.specs.List.{list_any}
use Rattle.std.specs.Option.{option_map_or}
use Rattle.deciders.specs.declared.recorded.Rec.{Rec}
use Rattle.deciders.specs.Spelling.{sized, listed}
use Rattle.sign_store.specs.declared.map.RecordMap.{RecordMap}
use Rattle.sign_store.specs.Entries.{entry_of, put_payload, withdraw_payload}
use Rattle.sign_store.specs.Heads.{head_bytes}
use Rattle.sign_store.specs.Orders.{is_held}

-- those of these paths that have another record than this one, or none
abbrev pub lost_among : RecordMap → ℕ → List (List ℕ) → List (List ℕ)
lost_among held number paths = filter (λ path. not (is_held held number path)) paths

-- the targets of a record that have another one or none
abbrev pub lost_of : RecordMap → ℕ → Rec → List (List ℕ)
lost_of held number rec = lost_among held number rec.targets

-- the entry that withdraws the records of these paths
abbrev pub withdrawal : List (List ℕ) → List ℕ
withdrawal paths = 1 ∷ entry_of (withdraw_payload paths)

-- it is added where there are such, and few enough for an entry
abbrev pub AddsWithdrawal : {T E : Type 0} → List (List ℕ) → List ℕ → List ℕ → Result T E → Type 0
AddsWithdrawal paths old new result =
    length paths ≢ 0 → length (listed sized paths) ≤ 4294967294 → OnOk result (new ≡ old ++ withdrawal paths)

abbrev pub withdrawal_of : List (List ℕ) → List ℕ
withdrawal_of [] = []
withdrawal_of (path ∷ paths) = withdrawal (path ∷ paths)

-- the put of a record, and the withdrawal behind it
abbrev pub put_entries : RecordMap → ℕ → Rec → List ℕ
put_entries held number rec = (1 ∷ entry_of (put_payload rec)) ++ withdrawal_of (lost_of held number rec)

-- the entries of a record: none where no path has it
abbrev pub entries_of : RecordMap → ℕ → Rec → List ℕ
entries_of held number rec = if list_any (is_held held number) rec.targets then put_entries held number rec else []

abbrev pub entries_at : RecordMap → ℕ → List ℕ
entries_at held number = option_map_or (entries_of held number) (slice_get held.records.items number) []

-- the entries of so many records
unfoldable pub entries_up_to : RecordMap → ℕ → List ℕ
entries_up_to held zero = []
entries_up_to held (suc n) = entries_up_to held n ++ entries_at held n

abbrev pub all_entries : RecordMap → List ℕ
all_entries held = entries_up_to held (length held.records.items)

-- what stands behind the gate of a bank in compact form
abbrev pub compact_bytes : ℕ → RecordMap → List ℕ
compact_bytes generation held = (head_bytes generation ++ all_entries held) ++ 0 ∷ []

-- a bank of this length is worth the change to that one
abbrev pub IsWorth : ℕ → ℕ → Type 0
IsWorth live compact = 65536 + 2 * compact < live
