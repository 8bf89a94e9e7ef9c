-- Names set one after another.
use Rattle.std.proofs.Common.{◌≡◌, ◌∙◌, ◌+◌, ℕ, List, Some, None, refl, take}
use Rattle.std.specs.Prelude.{slice_get}
use Rattle.std.proofs.lemmas.List.Sums.{fold_more}
use Rattle.std.proofs.lemmas.Option.{slice_get_within, get_or_from_slice_get}
use Rattle.py_heap.specs.declared.value.Value.{Value}
use Rattle.py_host.specs.Names.{Names, with_name, with_names}

pub set_more : (start more self new : Names) (i : ℕ) (e : List ℕ × Value) → slice_get more i ≡ Some e → self ≡ with_names start (take i more) → new ≡ with_name self e.0 e.1 → new ≡ with_names start (take (i + 1) more)
set_more start more self new i e at s n =
    n ∙ rw (s, fold_more (λ done e. with_name done e.0 e.1) start more i e (slice_get_within more i e at), get_or_from_slice_get more i e e at) refl
