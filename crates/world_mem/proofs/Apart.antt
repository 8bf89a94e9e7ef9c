-- Ids that differ, after one job more and one job fewer.
use Rattle.std.proofs.Common.{◌≡◌, ◌≢◌, ◌∙◌, ◌<◌, ◌≤◌, ◌+◌, sym, ℕ, List, [], ◌∷◌, ◌++◌, ap, length, get_or, inl, inr, arith, Contains, length-append}
use Rattle.std.specs.List.{remove}
use Rattle.std.proofs.Math.ListN.{get_or-append}
use Rattle.std.proofs.Math.Seq.{get_or-append_seam}
use Rattle.std.proofs.lemmas.List.Edits.{length-remove, get_or-remove_below, get_or-remove_above}
use Rattle.std.proofs.lemmas.List.Elements.{Contains-get_or}
use Rattle.world_mem.specs.Kept.{IdsApart}
use Rattle.world_mem.specs.declared.running.RunningJob.{RunningJob}
use Rattle.world_mem.proofs.Membership.{below_or_not}

abbrev id_at : List RunningJob → ℕ → RunningJob → ℕ
id_at xs k d = (get_or xs k d).job.id

at_end : (xs : List RunningJob) (x d : RunningJob) (k : ℕ) → k < length (xs ++ x ∷ []) → length xs ≤ k → get_or (xs ++ x ∷ []) k d ≡ x
at_end xs x d k lt ge =
    let e : length xs ≡ k = omega (arith, length-append xs (x ∷ [])) in
    ap (λ n. get_or (xs ++ x ∷ []) n d) (sym e) ∙ get_or-append_seam xs x [] d

pub apart-push : (xs : List RunningJob) (x : RunningJob) → IdsApart xs → ((y : RunningJob) → Contains xs y → y.job.id ≢ x.job.id) → IdsApart (xs ++ x ∷ [])
apart-push xs x apart new = λ j k d hj hk e.
    elim (below_or_not j (length xs)) [
      | inl lj ↦ elim (below_or_not k (length xs)) [
        | inl lk ↦ apart j k d lj lk (ap (λ r. r.job.id) (sym (get_or-append xs (x ∷ []) d j lj)) ∙ e ∙ ap (λ r. r.job.id) (get_or-append xs (x ∷ []) d k lk))
        | inr gk ↦ absurd (new (get_or xs j d) (Contains-get_or xs j d lj) (ap (λ r. r.job.id) (sym (get_or-append xs (x ∷ []) d j lj)) ∙ e ∙ ap (λ r. r.job.id) (at_end xs x d k hk gk)))
      ]
      | inr gj ↦ elim (below_or_not k (length xs)) [
        | inl lk ↦ absurd (new (get_or xs k d) (Contains-get_or xs k d lk) (ap (λ r. r.job.id) (sym (get_or-append xs (x ∷ []) d k lk)) ∙ sym e ∙ ap (λ r. r.job.id) (at_end xs x d j hj gj)))
        | inr gk ↦ omega (arith, length-append xs (x ∷ []))
      ]
    ]

pub apart-remove : (xs : List RunningJob) (i : ℕ) → i < length xs → IdsApart xs → IdsApart (remove xs i)
apart-remove xs i lt apart = λ j k d hj hk e.
    let len : length (remove xs i) + 1 ≡ length xs = length-remove xs i lt in
    elim (below_or_not j i) [
      | inl lj ↦ elim (below_or_not k i) [
        | inl lk ↦ apart j k d (omega arith) (omega arith) (ap (λ r. r.job.id) (sym (get_or-remove_below xs i d j lj lt)) ∙ e ∙ ap (λ r. r.job.id) (get_or-remove_below xs i d k lk lt))
        | inr gk ↦ let f : j ≡ k + 1 = apart j (k + 1) d (omega arith) (omega arith) (ap (λ r. r.job.id) (sym (get_or-remove_below xs i d j lj lt)) ∙ e ∙ ap (λ r. r.job.id) (get_or-remove_above xs i d k gk lt)) in absurd (omega arith)
      ]
      | inr gj ↦ elim (below_or_not k i) [
        | inl lk ↦ let f : j + 1 ≡ k = apart (j + 1) k d (omega arith) (omega arith) (ap (λ r. r.job.id) (sym (get_or-remove_above xs i d j gj lt)) ∙ e ∙ ap (λ r. r.job.id) (get_or-remove_below xs i d k lk lt)) in absurd (omega arith)
        | inr gk ↦ let f : j + 1 ≡ k + 1 = apart (j + 1) (k + 1) d (omega arith) (omega arith) (ap (λ r. r.job.id) (sym (get_or-remove_above xs i d j gj lt)) ∙ e ∙ ap (λ r. r.job.id) (get_or-remove_above xs i d k gk lt)) in omega arith
      ]
    ]
