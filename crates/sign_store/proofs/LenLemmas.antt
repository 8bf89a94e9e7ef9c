-- How long the parts of a compact form are.
use Rattle.std.proofs.Common.{◌≡◌, ◌∙◌, ◌+◌, ◌<◌, ℕ, List, [], ◌∷◌, length, min, ◌-◌, ◌^◌, refl, ap, arith, length-append}
use Rattle.std.specs.Int.{w32, to_be_bytes}
use Rattle.std.specs.List.{flat_map}
use Rattle.deciders.specs.declared.recorded.Rec.{Rec}
use Rattle.deciders.specs.declared.version.Version.TheVariants.{Two}
use Rattle.deciders.specs.Spelling.{sized, spelling}
use Rattle.sign_store.specs.declared.map.RecordMap.{RecordMap}
use Rattle.sign_store.specs.Compacts.{entries_at, entries_up_to, withdrawal_of}
use Rattle.sign_store.specs.Entries.{entry_of, put_payload, withdraw_payload}
use Rattle.sign_store.proofs.CompactLemmas.{next_up_to}

-- an entry has its gate, four bytes of length, and its payload
entry_len : (payload : List ℕ) → length (1 ∷ entry_of payload) ≡ 5 + length payload
entry_len payload = omega (arith, length-append (to_be_bytes w32 (length payload)) payload)

pub put_len : (rec : Rec) → length (1 ∷ entry_of (put_payload rec)) ≡ 6 + length (spelling Two rec)
put_len rec = omega (arith, entry_len (put_payload rec))

pub sized_len : (path : List ℕ) → length (sized path) ≡ 4 + length path
sized_len path = omega (arith, length-append (to_be_bytes w32 (length path)) path)

-- none where nothing was lost
pub none_lost : (paths : List (List ℕ)) → length (flat_map sized paths) ≡ 0 → length (withdrawal_of paths) ≡ 0
none_lost [] none = refl
none_lost (path ∷ paths) none = absurd (omega (arith, none, length-append (sized path) (flat_map sized paths), sized_len path))

pub some_lost : (paths : List (List ℕ)) → 0 < length (flat_map sized paths) → length (withdrawal_of paths) ≡ 10 + length (flat_map sized paths)
some_lost [] some = absurd (omega (arith, some))
some_lost (path ∷ paths) some =
    omega (arith, entry_len (withdraw_payload (path ∷ paths)), length-append (to_be_bytes w32 (length (path ∷ paths))) (flat_map sized (path ∷ paths)))

pub none_up_to : (held : RecordMap) → entries_up_to held 0 ≡ []
unfolding entries_up_to
none_up_to held = refl

-- the entries of one record more, as far as the greatest number of 64 bits
pub sum_on : (held : RecordMap) (n len more : ℕ) → len ≡ min (length (entries_up_to held n)) (2 ^ 64 - 1) → more ≡ min (length (entries_at held n)) (2 ^ 64 - 1)
    → min (len + more) (2 ^ 64 - 1) ≡ min (length (entries_up_to held (n + 1))) (2 ^ 64 - 1)
sum_on held n len more so_far next =
    let both : length (entries_up_to held (n + 1)) ≡ length (entries_up_to held n) + length (entries_at held n) = ap length (next_up_to held n) ∙ length-append (entries_up_to held n) (entries_at held n) in
    omega (arith, so_far, next, both)
