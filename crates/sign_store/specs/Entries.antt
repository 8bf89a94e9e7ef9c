-- The entries of a bank.
use Rattle.std.specs.Prelude.{ℕ, ◌+◌, List, ◌∷◌, ◌++◌, length, if◌then◌else◌}
use Rattle.std.specs.Int.{w32, to_be_bytes}
use Rattle.deciders.specs.declared.recorded.Rec.{Rec}
use Rattle.deciders.specs.declared.version.Version.TheVariants.{Two}
use Rattle.deciders.specs.Spelling.{sized, listed, spelling}
use Rattle.sign_store.specs.Tables.{Map, has_any}

-- gives each target of the record this record
abbrev pub put_payload : Rec → List ℕ
put_payload rec = 1 ∷ spelling Two rec

-- takes away the records of these paths
abbrev pub withdraw_payload : List (List ℕ) → List ℕ
withdraw_payload paths = 2 ∷ listed sized paths

-- what stands behind the gate of an entry
abbrev pub entry_of : List ℕ → List ℕ
entry_of payload = to_be_bytes w32 (length payload) ++ payload

-- what the entries of a record take, its put having a payload of so many bytes: the put, and the withdrawal where a
-- target has a record; each with its gate, its length and its payload
abbrev pub entries_len : Map → Rec → ℕ → ℕ
entries_len map rec payload =
    if has_any map rec.targets then length (listed sized rec.targets) + (5 + payload + 6) else 5 + payload
