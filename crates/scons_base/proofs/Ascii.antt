-- Names are ASCII, and so they are text.
use Rattle.std.proofs.Common.{◌≡◌, ℕ, zero, suc, ◌<◌, Bool, true, false, ◌&&◌, List, [], ◌∷◌, get_or, refl, arith}
use Rattle.std.specs.List.{list_all}
use Rattle.std.specs.Str.{IsUtf8}
use Rattle.std.proofs.lemmas.Str.{IsUtf8-from_ascii}
use Rattle.std.proofs.lemmas.Bool.Decides.{nat_tests}
use Rattle.scons_base.specs.Runs.{is_name_byte}

both : (a b : Bool) → (a && b) ≡ true → (a ≡ true) × (b ≡ true)
both true true e = (refl, refl)
both true false e = cc
both false b e = cc

pub name_byte_is_ascii : (b : ℕ) → is_name_byte b ≡ true → b < 128
name_byte_is_ascii b e = grind (arith, nat_tests)

ascii_at : (name : List ℕ) → list_all is_name_byte name ≡ true → (i : ℕ) → get_or name i 0 < 128
ascii_at [] e i = omega arith
ascii_at (b ∷ name) e zero = name_byte_is_ascii b (both _ _ e).0
ascii_at (b ∷ name) e (suc i) = ascii_at name (both _ _ e).1 i

pub name_is_text : (name : List ℕ) → list_all is_name_byte name ≡ true → IsUtf8 name
name_is_text name e = IsUtf8-from_ascii name (ascii_at name e)
