-- An entry is read from its own bytes, whatever stands behind them.
use Rattle.std.proofs.Common.{◌≡◌, ℕ, ◌≤◌, ◌+◌, ◌-◌, Bool, true, false, cond, ltb, leb, List, ◌++◌, length, take, drop, get_or, Option, Some, None, refl, sym, ap, ◌∙◌, append_assoc, arith}
use Rattle.std.specs.Prelude.{◌||◌, ◌==◌, not, slice_index}
use Rattle.std.specs.Int.{w32, from_be_bytes}
use Rattle.std.specs.Option.{option_map}
use Rattle.std.proofs.lemmas.Bool.{ltb-false, leb-true, le-ltb, le-leb}
use Rattle.std.proofs.lemmas.List.{take_at, drop_at, take-take, take-append-le, drop-take, drop-append-le, take-append-drop, length-append, length-take, length-drop, get_or-take}
use Rattle.deciders.specs.declared.version.Version.{Version}
use Rattle.sign_store.specs.declared.entries.Change.{Change}
use Rattle.sign_store.specs.Images.{length_in, payload_in, change_in, entry_in, applied, after_entries}
use Rattle.sign_store.specs.Tables.{Map}
use Rattle.sign_store.proofs.ImageLemmas.{bind, mapped, one_entry}

record IsPayload (bytes payload : List ℕ) : Type 0 where
  long : 5 ≤ length bytes
  gate : (slice_index bytes 0 == 1) ≡ true
  room : length_in bytes ≤ length bytes - 5
  is : take (length_in bytes) (drop 5 bytes) ≡ payload

inner : {A : Type 0} (a b : A) → Some a ≡ Some b → a ≡ b
inner a b e = cc

parts : (short gate room : Bool) (x payload : List ℕ) → cond (short || not gate) None (cond room (Some x) None) ≡ Some payload → (short ≡ false) × (gate ≡ true) × (room ≡ true) × (x ≡ payload)
parts true gate room x payload e = absurd cc
parts false false room x payload e = absurd cc
parts false true false x payload e = absurd cc
parts false true true x payload e = (refl, refl, refl, inner x payload e)

payload_parts : (bytes payload : List ℕ) → payload_in bytes ≡ Some payload → IsPayload bytes payload
payload_parts bytes payload e =
    let p = parts (ltb (length bytes) 5) (slice_index bytes 0 == 1) (leb (length_in bytes) (length bytes - 5)) (take (length_in bytes) (drop 5 bytes)) payload e in
    record { long = ltb-false _ _ p.0; gate = p.1; room = leb-true _ _ p.2; is = p.3 }

payload_whole : (bytes payload : List ℕ) → IsPayload bytes payload → payload_in bytes ≡ Some payload
payload_whole bytes payload p =
    let long : ltb (length bytes) 5 ≡ false = le-ltb _ _ p.long in
    let room : leb (length_in bytes) (length bytes - 5) ≡ true = le-leb _ _ p.room in
    rw (long, p.gate, room, p.is) refl

payload_local : (bytes payload behind : List ℕ) → payload_in bytes ≡ Some payload → payload_in (take (length payload + 5) bytes ++ behind) ≡ Some payload
payload_local bytes payload behind e =
    let p = payload_parts bytes payload e in
    let n = length payload in
    let len : n ≡ length_in bytes = omega (arith, ap length p.is, length-take (length_in bytes) (drop 5 bytes), length-drop 5 bytes, p.room) in
    let front = take (n + 5) bytes in
    let front-len : length front ≡ n + 5 = omega (arith, length-take (n + 5) bytes, len, p.room, p.long) in
    let all = front ++ behind in
    let five : take 5 all ≡ take 5 bytes = take-append-le 5 front behind (omega (arith, front-len)) ∙ take-take 5 (n + 5) bytes (omega arith) in
    let gate : slice_index all 0 ≡ slice_index bytes 0 = sym (get_or-take 5 all 0 0 (omega arith)) ∙ ap (λ (x : List ℕ). get_or x 0 0) five ∙ get_or-take 5 bytes 0 0 (omega arith) in
    let number : length_in all ≡ length_in bytes = ap (from_be_bytes w32) (sym (drop-take 1 4 all) ∙ ap (drop 1) five ∙ drop-take 1 4 bytes) in
    let order : n + 5 ≡ 5 + n = omega arith in
    let middle : drop 5 front ≡ payload = ap (λ k. drop 5 (take k bytes)) order ∙ drop-take 5 n bytes ∙ ap (λ k. take k (drop 5 bytes)) len ∙ p.is in
    let rest : drop 5 all ≡ payload ++ behind = drop-append-le 5 front behind (omega (arith, front-len)) ∙ ap (λ (x : List ℕ). x ++ behind) middle in
    let total = length-append front behind in
    payload_whole all payload (record {
      long = omega (arith, total, front-len);
      gate = ap (λ k. k == 1) gate ∙ p.gate;
      room = omega (arith, total, front-len, number, len);
      is = ap (λ k. take k (drop 5 all)) (number ∙ sym len) ∙ ap (take n) rest ∙ take_at payload behind n refl;
    })

pub entry_local : (version : Version) (bytes behind : List ℕ) (entry : Change × ℕ) → entry_in version bytes ≡ Some entry → entry_in version (take entry.1 bytes ++ behind) ≡ Some entry
entry_local version bytes behind entry e =
    let a = bind (λ payload. option_map (λ change. (change, length payload + 5)) (change_in version payload)) (payload_in bytes) entry e in
    let size : entry.1 ≡ length a.0 + 5 = mapped (length a.0 + 5) (change_in version a.0) entry a.2 in
    let here : payload_in (take entry.1 bytes ++ behind) ≡ Some a.0 = ap (λ k. payload_in (take k bytes ++ behind)) size ∙ payload_local bytes a.0 behind a.1 in
    rw here a.2

-- the bytes of one entry more
pub reads_on : (version : Version) (from map : Map) (body rest behind : List ℕ) (len size : ℕ) (change : Change) → rest ≡ drop len body → len + size ≤ length body → entry_in version rest ≡ Some (change, size)
    → ((after : List ℕ) → after_entries version (length (take len body ++ after)) from (take len body ++ after) ≡ after_entries version (length after) map after)
    → after_entries version (length (take (len + size) body ++ behind)) from (take (len + size) body ++ behind) ≡ after_entries version (length behind) (applied change map) behind
reads_on version from map body rest behind len size change is fits entry so_far =
    let taken = take size rest in
    let cut : take (len + size) body ≡ take len body ++ taken =
    sym (take-append-drop len (take (len + size) body)) ∙ cong2 (take-take len (len + size) body (omega arith)) (drop-take len size body ∙ ap (take size) (sym is)) in
    let grouped : take (len + size) body ++ behind ≡ take len body ++ (taken ++ behind) = ap (λ (x : List ℕ). x ++ behind) cut ∙ append_assoc (take len body) taken behind in
    let taken-len : length taken ≡ size = omega (arith, length-take size rest, ap length is, length-drop len body) in
    let gone : drop size (taken ++ behind) ≡ behind = drop_at taken behind size taken-len in
    ap (λ (x : List ℕ). after_entries version (length x) from x) grouped ∙ so_far (taken ++ behind)
    ∙ one_entry version (length (taken ++ behind)) map (taken ++ behind) (change, size) refl (entry_local version rest behind (change, size) entry)
    ∙ ap (λ (x : List ℕ). after_entries version (length x) (applied change map) x) gone
  where
    cong2 : {a b c d : List ℕ} → a ≡ b → c ≡ d → a ++ c ≡ b ++ d
    cong2 {a} {b} {c} {d} e f = ap (λ (x : List ℕ). x ++ c) e ∙ ap (λ (x : List ℕ). b ++ x) f

-- the parts of an entry
pub record HasEntry (version : Version) (bytes : List ℕ) (entry : Change × ℕ) : Type 0 where
  pub size : entry.1 ≡ length_in bytes + 5
  pub room : length_in bytes + 5 ≤ length bytes
  pub says : change_in version (take (length_in bytes) (drop 5 bytes)) ≡ Some entry.0

made_of : (size : ℕ) (o : Option Change) (entry : Change × ℕ) → option_map (λ change. (change, size)) o ≡ Some entry → o ≡ Some entry.0
made_of size None entry e = absurd cc
made_of size (Some change) entry e = let is : ◌≡◌ {A = Change × ℕ} (change, size) entry = cc in ap (λ (x : Change × ℕ). Some x.0) is

pub has_entry : (version : Version) (bytes : List ℕ) (entry : Change × ℕ) → entry_in version bytes ≡ Some entry → HasEntry version bytes entry
has_entry version bytes entry e =
    let a = bind (λ payload. option_map (λ change. (change, length payload + 5)) (change_in version payload)) (payload_in bytes) entry e in
    let size : entry.1 ≡ length a.0 + 5 = mapped (length a.0 + 5) (change_in version a.0) entry a.2 in
    let p = payload_parts bytes a.0 a.1 in
    let len : length a.0 ≡ length_in bytes = omega (arith, ap length p.is, length-take (length_in bytes) (drop 5 bytes), length-drop 5 bytes, p.room) in
    record { size = omega (arith, size, len); room = omega (arith, p.room, p.long); says = ap (change_in version) p.is ∙ made_of (length a.0 + 5) (change_in version a.0) entry a.2 }
