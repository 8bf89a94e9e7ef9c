-- What banks stand for, as a function of their bytes.
--
-- gate      one byte, 1 in front of an entry; another one ends the entries
-- length    32 bits, big-endian
-- payload   so many bytes: 1 and a record, spelt by the version of the bank, which is put for each of its targets; or
--           2 and a list of paths, whose records are withdrawn
use Rattle.std.specs.Prelude.{ℕ, zero, suc, ◌+◌, ◌-◌, ◌==◌, ◌||◌, not, List, [], ◌∷◌, length, take, drop, slice_index, nat_lt, nat_le, Option, None, Some, if◌then◌else◌}
use Rattle.std.specs.Int.{w32, from_be_bytes}
use Rattle.std.specs.Option.{option_map, option_and_then, option_map_or}
use Rattle.world_api.specs.declared.disk.Bank.TheVariants.{A, B}
use Rattle.deciders.specs.Reading.{record_in, paths_in}
use Rattle.deciders.specs.declared.recorded.Rec.{Rec}
use Rattle.deciders.specs.declared.version.Version.{Version}
use Rattle.deciders.specs.declared.version.Version.TheVariants.{One, Two}
use Rattle.sign_store.specs.declared.entries.Change.{Change}
use Rattle.sign_store.specs.declared.entries.Change.TheVariants.{Put, Withdraw}
use Rattle.sign_store.specs.declared.head.Choice.{Choice}
use Rattle.sign_store.specs.declared.head.Choice.TheVariants as choice
use Rattle.sign_store.specs.Heads.{head_of, chosen}
use Rattle.sign_store.specs.Tables.{Map, nothing, with_each}

abbrev pub length_in : List ℕ → ℕ
length_in entry = from_be_bytes w32 (take 4 (drop 1 entry))

-- the payload in front, if it is there whole, behind an open gate
abbrev pub payload_in : List ℕ → Option (List ℕ)
payload_in bytes =
    if nat_lt (length bytes) 5 || not (slice_index bytes 0 == 1) then None
    else (if nat_le (length_in bytes) (length bytes - 5) then Some (take (length_in bytes) (drop 5 bytes)) else None)

-- The put of a record that so many bytes spell. In version 2 it takes a byte more, so that the longest of version 1 has
-- no entry there: its targets have no record.
abbrev pub put_in : Version → ℕ → Rec → Change
put_in One len rec = if nat_lt len 4294967294 then Put rec else Withdraw rec.targets
put_in Two len rec = Put rec

abbrev pub change_in : Version → List ℕ → Option Change
change_in version [] = None
change_in version (zero ∷ rest) = None
change_in version (suc zero ∷ rest) = option_map (put_in version (length rest)) (record_in version rest)
change_in version (suc (suc zero) ∷ rest) = option_map Withdraw (paths_in rest)
change_in version (suc (suc (suc byte)) ∷ rest) = None

-- the entry in front, and its size
abbrev pub entry_in : Version → List ℕ → Option (Change × ℕ)
entry_in version bytes =
    option_and_then (λ payload. option_map (λ change. (change, length payload + 5)) (change_in version payload))
    (payload_in bytes)

abbrev pub applied : Change → Map → Map
applied (Put rec) map = with_each rec.targets (Some rec) map
applied (Withdraw paths) map = with_each paths None map

-- the map after at most so many entries
unfoldable pub after_entries : Version → ℕ → Map → List ℕ → Map
after_entries version zero map bytes = map
after_entries version (suc n) map bytes =
    option_map_or (λ entry. after_entries version n (applied entry.0 map) (drop entry.1 bytes)) (entry_in version bytes)
    map

-- what the entries behind a head stand for; there are fewer of them than bytes
abbrev pub entries_map : Version → List ℕ → Map
entries_map version body = after_entries version (length body) nothing body

abbrev pub body_of : List ℕ → List ℕ
body_of bank = drop 17 bank

abbrev pub map_chosen : Choice → List ℕ → List ℕ → Map
map_chosen choice.None a b = nothing
map_chosen (choice.Foreign bank) a b = nothing
map_chosen (choice.Live A edition) a b = entries_map edition.version (body_of a)
map_chosen (choice.Live B edition) a b = entries_map edition.version (body_of b)

-- what two banks stand for: the entries of the live bank of the greater generation; nothing where no bank is live, or a
-- live bank is foreign
abbrev pub image_of : List ℕ → List ℕ → Map
image_of a b = map_chosen (chosen (head_of a) (head_of b)) a b
