-- The records that two banks stand for have only digests that were made by their own function, whichever bank counts.
use Rattle.std.proofs.Common.{◌≡◌, ℕ, Bool, true, false, List, length, refl}
use Rattle.std.specs.Prelude.{◌==◌, ◌&&◌, ◌-◌, ◌^◌, codes, nat_le, nat_lt}
use Rattle.std.specs.Str.{bytes_eq}
use Rattle.world_api.specs.Banks.{Banks}
use Rattle.world_api.specs.declared.disk.Bank.TheVariants.{A, B}
use Rattle.deciders.specs.declared.version.Version.TheVariants.{One, Two}
use Rattle.sign_store.specs.Ends.{image_in}
use Rattle.sign_store.specs.Heads.{gate_of, generation_of, mark_of}
use Rattle.sign_store.specs.Images.{body_of, entries_map}
use Rattle.sign_store.specs.Tables.{nothing}
use Rattle.build_files.specs.Dueness.{HaveOwnDigests}
use Rattle.build_means.proofs.Lists.{none_some}
use Rattle.turn_means.proofs.OwnDigests.{bank_own_digests}

-- what a head is decided by: its length, its gate, and its mark, with a generation that can follow where it is of version 1
abbrev is_short : List ℕ → Bool
is_short bank = nat_le (length bank) 17

abbrev is_open : List ℕ → Bool
is_open bank = gate_of bank == 1

abbrev is_two : List ℕ → Bool
is_two bank = bytes_eq (mark_of bank) (codes "SCONSIG2")

abbrev is_one : List ℕ → Bool
is_one bank = bytes_eq (mark_of bank) (codes "SCONSIG1") && nat_lt (generation_of bank) (2 ^ 64 - 1)

module _ (banks : Banks) where
  none : HaveOwnDigests nothing
  none = λ path rec e. none_some e

  a_two : HaveOwnDigests (entries_map Two (body_of (banks A)))
  a_two = bank_own_digests Two (banks A)

  a_one : HaveOwnDigests (entries_map One (body_of (banks A)))
  a_one = bank_own_digests One (banks A)

  b_two : HaveOwnDigests (entries_map Two (body_of (banks B)))
  b_two = bank_own_digests Two (banks B)

  b_one : HaveOwnDigests (entries_map One (body_of (banks B)))
  b_one = bank_own_digests One (banks B)

  -- each bank is blank for its length or its gate, live in one of two versions, or foreign
  by : (short opened two one short2 open2 two2 one2 less : Bool) → is_short (banks A) ≡ short → is_open (banks A) ≡ opened → is_two (banks A) ≡ two →
      is_one (banks A) ≡ one → is_short (banks B) ≡ short2 → is_open (banks B) ≡ open2 → is_two (banks B) ≡ two2 → is_one (banks B) ≡ one2 →
      nat_lt (generation_of (banks A)) (generation_of (banks B)) ≡ less → HaveOwnDigests (image_in banks)
  by true opened two one true open2 two2 one2 less e1 e2 e3 e4 f1 f2 f3 f4 g = rw (e1, f1) none
  by true opened two one false false two2 one2 less e1 e2 e3 e4 f1 f2 f3 f4 g = rw (e1, f1, f2) none
  by true opened two one false true true one2 less e1 e2 e3 e4 f1 f2 f3 f4 g = rw (e1, f1, f2, f3) b_two
  by true opened two one false true false true less e1 e2 e3 e4 f1 f2 f3 f4 g = rw (e1, f1, f2, f3, f4) b_one
  by true opened two one false true false false less e1 e2 e3 e4 f1 f2 f3 f4 g = rw (e1, f1, f2, f3, f4) none
  by false false two one true open2 two2 one2 less e1 e2 e3 e4 f1 f2 f3 f4 g = rw (e1, e2, f1) none
  by false false two one false false two2 one2 less e1 e2 e3 e4 f1 f2 f3 f4 g = rw (e1, e2, f1, f2) none
  by false false two one false true true one2 less e1 e2 e3 e4 f1 f2 f3 f4 g = rw (e1, e2, f1, f2, f3) b_two
  by false false two one false true false true less e1 e2 e3 e4 f1 f2 f3 f4 g = rw (e1, e2, f1, f2, f3, f4) b_one
  by false false two one false true false false less e1 e2 e3 e4 f1 f2 f3 f4 g = rw (e1, e2, f1, f2, f3, f4) none
  by false true true one true open2 two2 one2 less e1 e2 e3 e4 f1 f2 f3 f4 g = rw (e1, e2, e3, f1) a_two
  by false true true one false false two2 one2 less e1 e2 e3 e4 f1 f2 f3 f4 g = rw (e1, e2, e3, f1, f2) a_two
  by false true true one false true true one2 true e1 e2 e3 e4 f1 f2 f3 f4 g = rw (e1, e2, e3, f1, f2, f3, g) b_two
  by false true true one false true true one2 false e1 e2 e3 e4 f1 f2 f3 f4 g = rw (e1, e2, e3, f1, f2, f3, g) a_two
  by false true true one false true false true true e1 e2 e3 e4 f1 f2 f3 f4 g = rw (e1, e2, e3, f1, f2, f3, f4, g) b_one
  by false true true one false true false true false e1 e2 e3 e4 f1 f2 f3 f4 g = rw (e1, e2, e3, f1, f2, f3, f4, g) a_two
  by false true true one false true false false less e1 e2 e3 e4 f1 f2 f3 f4 g = rw (e1, e2, e3, f1, f2, f3, f4) none
  by false true false true true open2 two2 one2 less e1 e2 e3 e4 f1 f2 f3 f4 g = rw (e1, e2, e3, e4, f1) a_one
  by false true false true false false two2 one2 less e1 e2 e3 e4 f1 f2 f3 f4 g = rw (e1, e2, e3, e4, f1, f2) a_one
  by false true false true false true true one2 true e1 e2 e3 e4 f1 f2 f3 f4 g = rw (e1, e2, e3, e4, f1, f2, f3, g) b_two
  by false true false true false true true one2 false e1 e2 e3 e4 f1 f2 f3 f4 g = rw (e1, e2, e3, e4, f1, f2, f3, g) a_one
  by false true false true false true false true true e1 e2 e3 e4 f1 f2 f3 f4 g = rw (e1, e2, e3, e4, f1, f2, f3, f4, g) b_one
  by false true false true false true false true false e1 e2 e3 e4 f1 f2 f3 f4 g = rw (e1, e2, e3, e4, f1, f2, f3, f4, g) a_one
  by false true false true false true false false less e1 e2 e3 e4 f1 f2 f3 f4 g = rw (e1, e2, e3, e4, f1, f2, f3, f4) none
  by false true false false short2 open2 two2 one2 less e1 e2 e3 e4 f1 f2 f3 f4 g = rw (e1, e2, e3, e4) none

  -- what any two banks stand for
  pub banks_own_digests : HaveOwnDigests (image_in banks)
  banks_own_digests = by _ _ _ _ _ _ _ _ _ refl refl refl refl refl refl refl refl refl
