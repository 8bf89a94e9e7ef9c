-- The head of a bank, and which bank counts.
--
-- gate          one byte, 1 where the bank is live
-- mark          `SCONSIG2`, or `SCONSIG1` in a bank of version 1, which is read and not written
-- generation    64 bits, big-endian
use Rattle.std.specs.Prelude.{ℕ, List, ◌++◌, ◌==◌, ◌&&◌, ◌-◌, ◌^◌, nat_le, nat_lt, length, take, drop, slice_index, codes, if◌then◌else◌}
use Rattle.std.specs.Int.{w64, from_be_bytes, to_be_bytes}
use Rattle.std.specs.Str.{bytes_eq}
use Rattle.world_api.specs.declared.disk.Bank.{Bank}
use Rattle.world_api.specs.declared.disk.Bank.TheVariants.{A, B}
use Rattle.deciders.specs.declared.version.Version.{Version}
use Rattle.deciders.specs.declared.version.Version.TheVariants.{One, Two}
use Rattle.sign_store.specs.declared.head.Edition.{Edition}
use Rattle.sign_store.specs.declared.head.Head.{Head}
use Rattle.sign_store.specs.declared.head.Head.TheVariants.{Short, Closed, Foreign, Live}
use Rattle.sign_store.specs.declared.head.Choice.{Choice}
use Rattle.sign_store.specs.declared.head.Choice.TheVariants as choice

abbrev pub gate_of : List ℕ → ℕ
gate_of bank = slice_index bank 0

abbrev pub mark_of : List ℕ → List ℕ
mark_of bank = take 8 (drop 1 bank)

abbrev pub generation_of : List ℕ → ℕ
generation_of bank = from_be_bytes w64 (take 8 (drop 9 bank))

-- what stands behind the gate of a bank that is written in this generation, before its entries
abbrev pub head_bytes : ℕ → List ℕ
head_bytes generation = codes "SCONSIG2" ++ to_be_bytes w64 generation

abbrev pub edition_of : Version → ℕ → Edition
edition_of version generation = record { version = version; generation = generation }

-- a live bank of version 1 needs a generation that can follow, since its map moves into the other bank
abbrev pub live_head : List ℕ → ℕ → Head
live_head mark generation =
    if bytes_eq mark (codes "SCONSIG2") then Live (edition_of Two generation)
    else (if bytes_eq mark (codes "SCONSIG1") && nat_lt generation (2 ^ 64 - 1) then Live (edition_of One generation)
    else Foreign)

-- a bank under 18 bytes, or whose gate isn't open, is blank; a live one of no version is foreign
abbrev pub head_of : List ℕ → Head
head_of bank =
    if nat_le (length bank) 17 then Short
    else (if gate_of bank == 1 then live_head (mark_of bank) (generation_of bank) else Closed)

-- the live bank of the greater generation, A at a tie; a foreign bank is refused, A first
abbrev pub chosen : Head → Head → Choice
chosen Foreign b = choice.Foreign A
chosen Short Foreign = choice.Foreign B
chosen Closed Foreign = choice.Foreign B
chosen (Live g) Foreign = choice.Foreign B
chosen (Live g) (Live h) = if nat_lt g.generation h.generation then choice.Live B h else choice.Live A g
chosen (Live g) Short = choice.Live A g
chosen (Live g) Closed = choice.Live A g
chosen Short (Live h) = choice.Live B h
chosen Closed (Live h) = choice.Live B h
chosen Short Short = choice.None
chosen Short Closed = choice.None
chosen Closed Short = choice.None
chosen Closed Closed = choice.None

abbrev pub other_bank : Bank → Bank
other_bank A = B
other_bank B = A
