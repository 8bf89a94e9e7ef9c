-- The entries of a dict shown one after another.
use Rattle.std.proofs.Common.{◌≡◌, ◌≢◌, ◌∙◌, ◌+◌, ◌∷◌, ℕ, suc, add-one, List, Ok, Err, Some, refl, ap, sym, drop}
use Rattle.std.specs.Prelude.{slice_get}
use Rattle.std.proofs.lemmas.List.{drop_more}
use Rattle.std.proofs.lemmas.Option.{slice_get_within, get_or_from_slice_get}
use Rattle.py_heap.specs.declared.value.Value.{Value}
use Rattle.py_heap.specs.declared.dict.Entry.{Entry}
use Rattle.py_heap.specs.declared.fault.ValueFault.{ValueFault}
use Rattle.py_heap.specs.declared.fault.ValueFault.TheVariants as fault
use Rattle.py_heap.specs.Units.{Units}
use Rattle.py_compare.specs.Growing.{Growth, grown}
use Rattle.py_compare.specs.Showing.{Shown, separator, onto_entry, onto_entries}

drop_at_get : {X : Type 0} (ps : List X) (i : ℕ) (p : X) → slice_get ps i ≡ Some p → drop i ps ≡ p ∷ drop (i + 1) ps
drop_at_get ps i p e = drop_more ps i p (slice_get_within ps i p e) ∙ ap (λ x. x ∷ drop (i + 1) ps) (get_or_from_slice_get ps i p p e)

module _ (f : Growth → Units → Value → Shown Growth) (es : List Entry) (i : ℕ) (text behind : Growth) (u : Units) (e : Entry) (o : Shown Growth) where
  pub entry_shown : (more : Growth) (left : Units) → onto_entries grown f i text u (drop i es) ≡ o → slice_get es i ≡ Some e → behind ≡ grown text (separator i) → onto_entry grown f behind u e ≡ Ok (more, left)
      → onto_entries grown f (i + 1) more left (drop (i + 1) es) ≡ o
  entry_shown more left inv at b h =
      let here : onto_entry grown f (grown text (separator i)) u e ≡ Ok (more, left) = rw b at h in
      let step : onto_entries grown f i text u (drop i es) ≡ onto_entries grown f (suc i) more left (drop (i + 1) es) = rw (drop_at_get es i e at, here) refl in
      ap (λ n. onto_entries grown f n more left (drop (i + 1) es)) (add-one i) ∙ sym step ∙ inv

  pub entry_faults : (k : ValueFault) → onto_entries grown f i text u (drop i es) ≡ o → slice_get es i ≡ Some e → behind ≡ grown text (separator i) → (k ≢ fault.Memory → onto_entry grown f behind u e ≡ Err k)
      → k ≢ fault.Memory → o ≡ Err k
  entry_faults k inv at b h n =
      let there : onto_entry grown f behind u e ≡ Err k = h n in
      let here : onto_entry grown f (grown text (separator i)) u e ≡ Err k = rw b at there in
      let step : onto_entries grown f i text u (drop i es) ≡ Err k = rw (drop_at_get es i e at, here) refl in
      sym inv ∙ step
