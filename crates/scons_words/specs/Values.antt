-- A number, a hash format or the one text that an option takes, or why the word is none.
use Rattle.std.specs.Prelude.{ℕ, Bool, true, List, Option, Some, None, Result, Ok, Err, if◌then◌else◌}
use Rattle.world_api.specs.declared.hash.Hash.{Hash}
use Rattle.scons_words.specs.declared.fault.Refusal.{Refusal}
use Rattle.scons_words.specs.declared.fault.Refusal.TheVariants as refusal
use Rattle.scons_words.specs.declared.fault.UsageKind.TheVariants as kind
use Rattle.scons_words.specs.Numbers.{number_up_to}

abbrev found : Option ℕ → Result ℕ Refusal
found (Some n) = Ok n
found None = Err (refusal.Kind kind.BadNumber)

abbrev pub number_named : ℕ → List ℕ → Result ℕ Refusal
number_named limit text = found (number_up_to limit text)

abbrev pub hash_found : Option Hash → Result Hash Refusal
hash_found (Some hash) = Ok hash
hash_found None = Err (refusal.Kind kind.BadValue)

-- the option is on where the word is the one that it takes
abbrev pub is_taken : Bool → Result Bool Refusal
is_taken is = if is then Ok true else Err (refusal.Kind kind.BadValue)
