-- What could be decided, and for what was waited, is so still where all that waits for nothing stays.
use Rattle.std.proofs.Common.{◌≡◌, List, [], ◌∷◌, Some, sym, ap, ◌∙◌, inl, inr, ◌⊎◌}
use Rattle.build_model.specs.Rules.{Path, Bytes, Tree, Stamps, Rule, Setting}
use Rattle.build_model.specs.Needs.{Found}
use Rattle.build_model.specs.Contents.{in_tree, found_in, includes_of}
use Rattle.build_model.specs.Steps.{Step, Fresh, Began, Ended, Lacks, Halts, Build, settled, running, IsReady, is_source, is_made}
use Rattle.build_model.specs.Resting.{IsFoundWhole}
use Rattle.build_model.specs.OneJob.{IsTakenFirst, TakesFirst}
use Rattle.build_model.specs.Waiting.{IsIdle, WaitsRightly}
use Rattle.build_model.proofs.Runs.{settled_later}
use Rattle.build_model.proofs.Staying.{Stays}

module _ (s : Setting) (b : Build) (met : List Bytes) (u : Tree) (later : Stamps) where
  abbrev pub Later : Build
  Later = record b { met = met; after = u; stamps_after = later }

  -- what no rule makes, and what settled rules make, stays
  abbrev pub StaysSettled : List Step → Type 0
  StaysSettled past = Stays s (settled past) b.after u b.stamps_after later

  ready_on : (past : List Step) {p : Path} → StaysSettled past → IsReady s b.after (settled past) p →
      IsReady s u (settled past) p
  ready_on past {p} stays (is_source bytes none file) = is_source bytes none (sym (stays.sources p none).0 ∙ file)
  ready_on past stays (is_made r e m) = is_made r e m

  ready_back : (past : List Step) {p : Path} → StaysSettled past → IsReady s u (settled past) p →
      IsReady s b.after (settled past) p
  ready_back past {p} stays (is_source bytes none file) = is_source bytes none ((stays.sources p none).0 ∙ file)
  ready_back past stays (is_made r e m) = is_made r e m

  same_at : (past : List Step) {p : Path} → StaysSettled past → IsReady s b.after (settled past) p → b.after p ≡ u p
  same_at past {p} stays (is_source bytes none file) = (stays.sources p none).0
  same_at past {p} stays (is_made r e m) = (stays.made p r e m).0

  found_cases : (past : List Step) → StaysSettled past → (found : Found) (r : Rule) (p : Path) →
      (IsReady s b.after (settled past) p × (found r p ≡ found_in s (in_tree b.after) r p))
      ⊎ ((IsReady s b.after (settled past) p → ⊥) × (found r p ≡ [])) →
      (IsReady s u (settled past) p × (found r p ≡ found_in s (in_tree u) r p))
      ⊎ ((IsReady s u (settled past) p → ⊥) × (found r p ≡ []))
  found_cases past stays found r p (inl h) =
      inl (ready_on past stays h.0, h.1 ∙ ap (λ c. includes_of (s.includes r p) (Some c)) (same_at past stays h.0))
  found_cases past stays found r p (inr h) = inr (λ ready. h.0 (ready_back past stays ready), h.1)

  found_whole_on : (past : List Step) (found : Found) → StaysSettled past → IsFoundWhole s b past found →
      IsFoundWhole s Later past found
  found_whole_on past found stays h r p = found_cases past stays found r p (h r p)

  first_on : (past : List Step) {r : Rule} → StaysSettled past → IsTakenFirst s b past r → IsTakenFirst s Later past r
  first_on past stays h = record {
    found = h.found;
    found_whole = found_whole_on past h.found stays h.found_whole;
    order = h.order;
    is_order = h.is_order;
    front = h.front;
    behind = h.behind;
    parts = h.parts;
    passed = h.passed;
  }

  pub waited_on : (past : List Step) → StaysSettled past → (running past ≡ b.jobs) ⊎ IsIdle s b past →
      (running past ≡ b.jobs) ⊎ IsIdle s Later past
  waited_on past stays (inl e) = inl e
  waited_on past stays (inr h) =
      inr (record { found = h.found; found_whole = found_whole_on past h.found stays h.found_whole; passed = h.passed })

  stays_before : (step : Step) (past : List Step) → StaysSettled (step ∷ past) → StaysSettled past
  stays_before step past h = record
      { sources = h.sources; made = λ p r e m. h.made p r e (settled_later step past r m) }

  pub takes_on : (past : List Step) → StaysSettled past → TakesFirst s b past → TakesFirst s Later past
  takes_on [] stays h = tt
  takes_on (Fresh r ∷ past) stays h =
      let less = stays_before (Fresh r) past stays in (first_on past less h.0, takes_on past less h.1)
  takes_on (Began r ∷ past) stays h =
      let less = stays_before (Began r) past stays in (first_on past less h.0, takes_on past less h.1)
  takes_on (Ended r well ∷ past) stays h = takes_on past (stays_before (Ended r well) past stays) h
  takes_on (Lacks r p ∷ past) stays h = takes_on past (stays_before (Lacks r p) past stays) h
  takes_on (Halts ∷ past) stays h = takes_on past (stays_before Halts past stays) h

  pub waits_on : (past : List Step) → StaysSettled past → WaitsRightly s b past → WaitsRightly s Later past
  waits_on [] stays h = tt
  waits_on (Fresh r ∷ past) stays h = waits_on past (stays_before (Fresh r) past stays) h
  waits_on (Began r ∷ past) stays h = waits_on past (stays_before (Began r) past stays) h
  waits_on (Ended r well ∷ past) stays h =
      let less = stays_before (Ended r well) past stays in (waited_on past less h.0, waits_on past less h.1)
  waits_on (Lacks r p ∷ past) stays h = waits_on past (stays_before (Lacks r p) past stays) h
  waits_on (Halts ∷ past) stays h = waits_on past (stays_before Halts past stays) h
