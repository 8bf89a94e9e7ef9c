-- What is unmade by a log, from entry to entry.
use Rattle.std.proofs.Common.{◌≡◌, ◌≢◌, ◌∙◌, ◌++◌, ◌∷◌, ◌⊎◌, [], ℕ, List, Option, None, Contains, append-nil, append_assoc, ap, inl, inr, refl, sym, subst}
use Rattle.std.proofs.lemmas.List.{append_cancel_left}
use Rattle.deciders.specs.declared.recorded.Rec.{Rec}
use Rattle.world_api.specs.Around.{Entry, Started, Finished}
use Rattle.world_api.specs.Counts.{Counts}
use Rattle.world_api.specs.declared.job.Job.{Job}
use Rattle.world_api.specs.declared.job.Outcome.{Outcome}
use Rattle.world_api.specs.declared.job.Outcome.TheVariants.{Done}
use Rattle.build_model.specs.Rules.{Path, Among, here, there}
use Rattle.build_model.proofs.Lists.{among_either, among_left, among_right}
use Rattle.build_run.specs.Unmade.{HasNoMaker, HasNoneUnmade, HasOneMaker, IsNotUnmade, IsUnmade, Since}

-- ---- logs

-- as a build begins
pub since_here : (start : List Entry) (path : Path) (found : Option Rec) → Since start start (HasNoneUnmade path found)
since_here start path found = record { entries = []; grown = sym (append-nil start); so = λ u. elim u.started [ ] }

pub since_same : (start old new : List Entry) (P : List Entry → Type 0) → new ≡ old → Since start old P → Since start new P
since_same start old new P same h = record { entries = h.entries; grown = same ∙ h.grown; so = h.so }

-- one entry more
pub since_more : (start old new : List Entry) (P Q : List Entry → Type 0) (entry : Entry) → new ≡ old ++ entry ∷ [] →
    ((entries : List Entry) → P entries → Q (entries ++ entry ∷ [])) → Since start old P → Since start new Q
since_more start old new P Q entry grows on h = record {
  entries = h.entries ++ entry ∷ [];
  grown = grows ∙ ap (λ (l : List Entry). l ++ entry ∷ []) h.grown ∙ append_assoc start h.entries (entry ∷ []);
  so = on h.entries h.so;
}

-- what is so of these entries besides
pub since_both : (start log : List Entry) (P Q R : List Entry → Type 0) → ((entries : List Entry) → P entries → Q entries → R entries) →
    Since start log P → Since start log Q → Since start log R
since_both start log P Q R so one two = record {
  entries = two.entries;
  grown = two.grown;
  so = so two.entries
      (subst (λ (l : List Entry). P l) (append_cancel_left start one.entries two.entries (sym one.grown ∙ two.grown)) one.so) two.so;
}

-- ---- one entry more

-- what is unmade stays so, but for an ending
module _ (path : Path) (entries : List Entry) (id : ℕ) (outcome : Outcome) where
  not_ending : {A : Type 0} {job : Job} {counts : Counts} → Among (Started job counts) (Finished id outcome ∷ []) → A
  not_ending (there n) = elim n [ ]

  start_before : {job : Job} {counts : Counts} → Among (Started job counts) (entries ++ Finished id outcome ∷ []) → Among (Started job counts) entries
  start_before n = elim (among_either entries n) [
    | inl h ↦ h
    | inr h ↦ not_ending h
  ]

  unmade_before : IsUnmade path (entries ++ Finished id outcome ∷ []) → IsUnmade path entries
  unmade_before u = record {
    job = u.job;
    counts = u.counts;
    started = start_before u.started;
    makes = u.makes;
    undone = λ m. u.undone (among_left (Finished id outcome ∷ []) m);
  }

  pub none_ended : (found : Option Rec) → HasNoneUnmade path found entries → HasNoneUnmade path found (entries ++ Finished id outcome ∷ [])
  none_ended found none u = none (unmade_before u)

  pub made_ended : IsNotUnmade path entries → IsNotUnmade path (entries ++ Finished id outcome ∷ [])
  made_ended not u = not (unmade_before u)

  pub alone_ended : (own : ℕ) → HasOneMaker path own entries → HasOneMaker path own (entries ++ Finished id outcome ∷ [])
  alone_ended own one job counts n makes = one job counts (start_before n) makes

  -- the job that alone made it was done
  pub done_ended : outcome ≡ Done → HasOneMaker path id entries → IsNotUnmade path (entries ++ Finished id outcome ∷ [])
  done_ended done one u =
      let same = one u.job u.counts (start_before u.started) u.makes in
      u.undone (subst (λ (i : ℕ). Among (Finished i Done) (entries ++ Finished id outcome ∷ [])) (sym same)
      (subst (λ (o : Outcome). Among (Finished id o) (entries ++ Finished id outcome ∷ [])) done (among_right entries here)))

module _ (path : Path) (entries : List Entry) (job : Job) (counts : Counts) where
  job_or : Job → Entry → Job
  job_or other (Started j c) = j
  job_or other (Finished id outcome) = other

  same_job : {j : Job} {c : Counts} → Started j c ≡ Started job counts → j ≡ job
  unfolding job_or
  same_job {j} e = ap (job_or j) e

  last_job : {j : Job} {c : Counts} → Among (Started j c) (Started job counts ∷ []) → j ≡ job
  last_job here = refl
  last_job (there n) = elim n [ ]

  -- the job was there before, or it is this one
  start_either : {j : Job} {c : Counts} → Among (Started j c) (entries ++ Started job counts ∷ []) → Among (Started j c) entries ⊎ (j ≡ job)
  start_either n = elim (among_either entries n) [
    | inl h ↦ inl h
    | inr h ↦ inr (last_job h)
  ]

  unmade_either : IsUnmade path (entries ++ Started job counts ∷ []) → IsUnmade path entries ⊎ Contains job.targets path
  unmade_either u = elim (start_either u.started) [
    | inl h ↦ inl (record {
      job = u.job;
      counts = u.counts;
      started = h;
      makes = u.makes;
      undone = λ m. u.undone (among_left (Started job counts ∷ []) m);
    })
    | inr same ↦ inr (subst (λ (j : Job). Contains j.targets path) same u.makes)
  ]

  pub none_started : (found : Option Rec) → (Contains job.targets path → found ≡ None) → HasNoneUnmade path found entries →
      HasNoneUnmade path found (entries ++ Started job counts ∷ [])
  none_started found gone none u = elim (unmade_either u) [
    | inl before ↦ none before
    | inr makes ↦ gone makes
  ]

  -- another job starts
  pub made_started : (Contains job.targets path → ⊥) → IsNotUnmade path entries → IsNotUnmade path (entries ++ Started job counts ∷ [])
  made_started other not u = elim (unmade_either u) [
    | inl before ↦ not before
    | inr makes ↦ other makes
  ]

  pub alone_started : (own : ℕ) → (Contains job.targets path → ⊥) → HasOneMaker path own entries → HasOneMaker path own (entries ++ Started job counts ∷ [])
  alone_started own other one j c n makes = elim (start_either n) [
    | inl before ↦ one j c before makes
    | inr same ↦ absurd (other (subst (λ (k : Job). Contains k.targets path) same makes))
  ]

  -- this job starts, and is the first
  pub first_started : HasNoMaker path entries → HasOneMaker path job.id (entries ++ Started job counts ∷ [])
  first_started none j c n makes = elim (start_either n) [
    | inl before ↦ absurd (none j c before makes)
    | inr same ↦ ap (λ (k : Job). k.id) same
  ]
