-- Keys of dicts: texts by their content, and integers.
use Rattle.std.specs.Prelude.{◌≡◌, Bool, false}
use Rattle.std.proofs.Common.{ap, true≢false, sym}
use Rattle.std.specs.Ordering.{int_eq}
use Rattle.std.specs.Bool.{Decides}
use Rattle.std.specs.Cmp.{IsEquivalence, decided, signed_Decides}
use Rattle.std.specs.Str.{bytes_eq}
use Rattle.std.proofs.lemmas.Slice.Eq.{bytes_eq-Decides}
use Rattle.py_heap.specs.declared.key.Key.{Key}
use Rattle.py_heap.specs.declared.key.Key.TheVariants as key

-- whether two keys are one
abbrev pub key_eq : Key → Key → Bool
key_eq (key.Int m) (key.Int n) = int_eq m n
key_eq (key.Text s) (key.Text t) = bytes_eq s t
key_eq (key.Int m) (key.Text t) = false
key_eq (key.Text s) (key.Int n) = false

pub key_eq-Decides : (a b : Key) → Decides (key_eq a b) (a ≡ b)
key_eq-Decides (key.Int m) (key.Int n) = (λ h. ap key.Int ((signed_Decides m n).0 h), λ e. (signed_Decides m n).1 (cc))
key_eq-Decides (key.Text s) (key.Text t) = (λ h. ap key.Text ((bytes_eq-Decides s t).0 h), λ e. (bytes_eq-Decides s t).1 (cc))
key_eq-Decides (key.Int m) (key.Text t) = (λ h. absurd (true≢false (sym h)), λ e. cc)
key_eq-Decides (key.Text s) (key.Int n) = (λ h. absurd (true≢false (sym h)), λ e. cc)

pub key_equivalence : IsEquivalence key_eq
key_equivalence = decided key_eq key_eq-Decides
