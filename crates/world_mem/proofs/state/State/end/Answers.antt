use Rattle.std.proofs.Common.{rules, ◌≡◌, ◌≢◌, ◌∙◌, sym, ap, subst, inl, inr, ◌<◌, ℕ, List, Some, Option, Contains, [], ◌∷◌, ◌++◌, length, map, take, drop, suc, refl, true, is_some, None, reverse, insert, unwrap_or}
use Rattle.std.specs.List.{slice_index_or, list_any, remove}
use Rattle.std.specs.Str.{bytes_eq}
use Rattle.world_mem.specs.InSlots.{slot_at, content_of, stamp_at}
use Rattle.act_table.specs.Listed.{contents_in}
use Rattle.world_mem.specs.Kept.{met_of, IdsApart, is_target, running_of, entry_of}
use Rattle.world_mem.specs.Planned.{ends, makes, IsPlain}
use Rattle.world_api.specs.Around as api
use Rattle.std.proofs.lemmas.List.{get_or-map, length-map, map-append}
use Rattle.std.proofs.lemmas.List.Elements.{Contains-append_left, Contains-append_cases}
use Rattle.world_mem.specs.Table.{content_made}
use Rattle.world_mem.specs.declared.running.RunningJob.{RunningJob}
use Rattle.world_mem.specs.declared.slots.Slot.TheVariants.{Running}
use Rattle.world_mem.proofs.Apart.{apart-remove}
use Rattle.world_mem.proofs.Marks.{made_of, found_before}
use Rattle.world_mem.proofs.Backs.{pushed, newest, same_around, target_back, target_stamp_back, job_back, last_back, met_back, none_back}
use Rattle.world_mem.proofs.Plain.{done_or_not, ends_plain, made_done, never_memory, uncut}
use Rattle.world_mem.specs.Undone.{without_last}
use Rattle.world_mem.specs.AsCourse.{course_of}
use Rattle.world_mem.specs.declared.past.Change.{Change}
use Rattle.world_mem.specs.declared.past.Change.TheVariants.{Ended}
use Rattle.world_mem.specs.declared.event.Event.{Event}
use Rattle.world_api.specs.declared.job.Outcome.{Outcome}
use Rattle.world_api.specs.declared.job.Outcome.TheVariants.{Done, NoMemory}
use Rattle.world_mem.proofs.Membership.{contains_map, other_place, still_in, parted, names_of_pairs, same_at, remove_cases}
use Rattle.world_mem.proofs.Owners.{is_target-of, target_of}
use Rattle.world_mem.proofs.Started.{started_more}
use Rattle.std.proofs.lemmas.List.{append-nil}
use Rattle.world_mem.proofs.state.State.end.Goals as goal

pub conclude-requires-clause-names : goal.conclude-requires-clause-names
conclude-requires-clause-names c =
    let old = c.args.self.now.running.items in
    let run = c.remove-job.result in
    let lt : c.args.place < length old = rw length-map at c.requires.place in
    let here : Contains old run = (c.args.place, lt, sym c.remove-job.ensures.value) in
    let f : List ℕ → Option (List ℕ) = λ target. content_made c.args.self.now.table run.job.work run.job.signed run.job.targets run.given target in
    ap (map (λ (entry : List ℕ × Option (List ℕ)). entry.0)) (c.args.self.now.planned run here) ∙ names_of_pairs f run.job.targets

pub conclude-requires-clause-same : goal.conclude-requires-clause-same
conclude-requires-clause-same c =
    let old = c.args.self.now.running.items in
    let run = c.remove-job.result in
    let lt : c.args.place < length old = rw length-map at c.requires.place in
    let here : Contains old run = (c.args.place, lt, sym c.remove-job.ensures.value) in
    c.args.self.now.kept run here

pub invariant_of-self-clause-owned : goal.invariant_of-self-clause-owned
invariant_of-self-clause-owned c = λ other path h target.
    let old = c.args.self.now.running.items in
    let run = c.remove-job.result in
    let lt : c.args.place < length old = rw length-map at c.requires.place in
    let here : Contains old run = (c.args.place, lt, sym c.remove-job.ensures.value) in
    let p = other_place old c.args.place other lt (subst (λ (items : List RunningJob). Contains items other) c.remove-job.ensures.items h) in
    let still : Contains old other = (p.0, p.1, p.3) in
    let off : Contains run.job.targets path → ⊥ = λ own.
    let slots : Some (Running run.job.id) ≡ Some (Running other.job.id) = sym (c.args.self.now.owned run path here own) ∙ c.args.self.now.owned other path still target in
    let ids : other.job.id ≡ run.job.id = cc slots in
    p.2 (c.args.self.now.apart p.0 c.args.place run p.1 lt
    (ap (λ (r : RunningJob). r.job.id) (same_at old p.0 run other p.1 ∙ p.3) ∙ ids ∙ ap (λ (r : RunningJob). r.job.id) c.remove-job.ensures.value)) in
    c.conclude.ensures.others path off ∙ c.args.self.now.owned other path still target

pub invariant_of-self-clause-apart : goal.invariant_of-self-clause-apart
invariant_of-self-clause-apart c =
    let old = c.args.self.now.running.items in
    let run = c.remove-job.result in
    let lt : c.args.place < length old = rw length-map at c.requires.place in
    subst IdsApart (sym c.remove-job.ensures.items) (apart-remove old c.args.place lt c.args.self.now.apart)

pub invariant_of-self-clause-planned : goal.invariant_of-self-clause-planned
invariant_of-self-clause-planned c = λ other h.
    let old = c.args.self.now.running.items in
    let run = c.remove-job.result in
    let lt : c.args.place < length old = rw length-map at c.requires.place in
    c.args.self.now.planned other (still_in old c.args.place other lt (subst (λ (items : List RunningJob). Contains items other) c.remove-job.ensures.items h))

pub invariant_of-self-clause-kept : goal.invariant_of-self-clause-kept
invariant_of-self-clause-kept c = λ other h.
    let old = c.args.self.now.running.items in
    let run = c.remove-job.result in
    let lt : c.args.place < length old = rw length-map at c.requires.place in
    c.args.self.now.kept other (still_in old c.args.place other lt (subst (λ (items : List RunningJob). Contains items other) c.remove-job.ensures.items h))

pub invariant_of-self-clause-ending : goal.invariant_of-self-clause-ending
invariant_of-self-clause-ending c = λ other h.
    let old = c.args.self.now.running.items in
    let run = c.remove-job.result in
    let lt : c.args.place < length old = rw length-map at c.requires.place in
    c.args.self.now.ending other (still_in old c.args.place other lt (subst (λ (items : List RunningJob). Contains items other) c.remove-job.ensures.items h))

pub invariant_of-self-clause-held : goal.invariant_of-self-clause-held
invariant_of-self-clause-held c = λ path bytes h.
    let more = c.conclude.ensures.more in
    elim (c.conclude.ensures.held path bytes h) [
      | inl before ↦ subst (λ (met : List (List ℕ)). list_any (bytes_eq bytes) met ≡ true) (sym more.1) (found_before (bytes_eq bytes) (met_of c.args.self.now.met.items) more.0 (c.args.self.now.held path bytes before))
      | inr found ↦ found
    ]

pub invariant_of-self-clause-gains : goal.invariant_of-self-clause-gains
invariant_of-self-clause-gains c = λ other h.
    let old = c.args.self.now.running.items in
    let lt : c.args.place < length old = rw length-map at c.requires.place in
    c.args.self.now.gains other (still_in old c.args.place other lt (subst (λ (items : List RunningJob). Contains items other) c.remove-job.ensures.items h))

pub invariant_of-self-clause-named : goal.invariant_of-self-clause-named
invariant_of-self-clause-named c = λ path file h. c.conclude.ensures.named path file (c.args.self.now.named path file) h

pub returns-clause-ended : goal.returns-clause-ended
returns-clause-ended c =
    let old = c.args.self.now.running.items in
    let run = c.remove-job.result in
    let lt : c.args.place < length old = rw length-map at c.requires.place in
    let here : Contains old run = (c.args.place, lt, sym c.remove-job.ensures.value) in
    let f : List ℕ → Option (List ℕ) = λ target. content_made c.args.self.now.table run.job.work run.job.signed run.job.targets run.given target in
    let more = c.conclude.ensures.more in
    let table = c.args.self.now.table in
    let off_others : (path : List ℕ) → (Contains run.job.targets path → ⊥) → slot_at c.conclude.new.slots path ≡ slot_at c.args.self.now.slots path = λ path off. c.conclude.ensures.others path off in
    let tree_made : c.unwrap_or-outcome.result ≡ Done → (path : List ℕ) → Contains run.job.targets path → content_of (slot_at c.conclude.new.slots path) ≡ f path = λ done path own.
    c.conclude.ensures.done done f (c.args.self.now.planned run here) path own (ap is_some (c.args.self.now.owned run path here own)) in
    record {
      front = map running_of (take c.args.place old);
      which = running_of run;
      back = map running_of (drop (suc c.args.place) old);
      was = ap (map running_of) (parted old c.args.place run lt c.remove-job.ensures.value) ∙ map-append running_of (take c.args.place old) (run ∷ drop (suc c.args.place) old);
      running = ap (map running_of) c.remove-job.ensures.items ∙ map-append running_of (take c.args.place old) (drop (suc c.args.place) old);
      id = refl;
      files = λ path off. ap content_of (off_others path (λ own. off (running_of run, contains_map running_of old run here, own)));
      stamps = λ path off. ap stamp_at (off_others path (λ own. off (running_of run, contains_map running_of old run here, own)));
      dirs = λ dir. inl refl;
      made = λ _ done path own. tree_made done path own ∙ made_done table run.job.work run.job.signed run.job.targets run.given path
          (sym (c.args.self.now.ending run here) ∙ uncut c.args.cut run.outcome c.requires.cut (sym c.unwrap_or-outcome.ensures ∙ done));
      log = ap (map entry_of) c.add.ensures.items ∙ map-append entry_of c.args.self.now.log.items _;
      met = λ bytes h. subst (λ (met : List (List ℕ)). Contains met bytes) (sym more.1) (Contains-append_left (met_of c.args.self.now.met.items) more.0 bytes h);
      met_only = λ bytes h. elim (done_or_not c.unwrap_or-outcome.result) [
        | inl done ↦
            elim (Contains-append_cases (met_of c.args.self.now.met.items) (contents_in run.kept) bytes (subst (λ (met : List (List ℕ)). Contains met bytes) (c.conclude.ensures.met done) h)) [
              | inl before ↦ inl before
              | inr gained ↦
                  let at = made_of f run.job.targets bytes (subst (λ (made : List (List ℕ × Option (List ℕ))). Contains (contents_in made) bytes) (c.args.self.now.kept run here ∙ c.args.self.now.planned run here) gained) in
                  inr (at.0, at.1, tree_made done at.0 at.1 ∙ at.2)
            ]
        | inr off ↦ inl (subst (λ (met : List (List (List ℕ × Option (List ℕ)))). Contains (met_of met) bytes) (c.conclude.ensures.unmet off) h)
      ];
      law = refl;
      top = refl;
    }

pub returns-clause-back : goal.returns-clause-back
returns-clause-back c =
    let old = c.args.self.now.running.items in
    let run = c.remove-job.result in
    let lt : c.args.place < length old = rw length-map at c.requires.place in
    let here : Contains old run = (c.args.place, lt, sym c.remove-job.ensures.value) in
    let ending : Change = Ended (record { place = c.args.place; job = run.job; given = run.given; gained = c.gained_by-gained.result }) in
    pushed _ c.add-2.new.items.items ending (course_of c.args.self.now) (ap reverse c.add-2.ensures.items ∙ newest c.args.self.now.past.items ending)
    (same_around _ _
    (target_back run.job.targets (slot_at c.args.self.now.slots) (slot_at c.conclude.new.slots) (λ p own. (run.job.id, c.args.self.now.owned run p here own)) (λ p off. c.conclude.ensures.others p off))
    (λ d. refl)
    (target_stamp_back run.job.targets (slot_at c.args.self.now.slots) (slot_at c.conclude.new.slots) (λ p own. (run.job.id, c.args.self.now.owned run p here own)) (λ p off. c.conclude.ensures.others p off))
    (ap (λ (items : List RunningJob). insert (map running_of items) c.args.place (running_of run)) c.remove-job.ensures.items ∙ job_back running_of old c.args.place run lt c.remove-job.ensures.value)
    (ap (λ (items : List Event). without_last 1 (map entry_of items)) c.add.ensures.items ∙ ap (without_last 1) (map-append entry_of c.args.self.now.log.items _) ∙ last_back (map entry_of c.args.self.now.log.items) _)
    (elim (done_or_not c.unwrap_or-outcome.result) [
      | inl done ↦ ap (λ n. without_last n (met_of c.conclude.new.met.items)) (c.gained_by-gained.ensures.done done) ∙ ap (without_last run.gained) (c.conclude.ensures.met done)
          ∙ met_back (met_of c.args.self.now.met.items) (contents_in run.kept) run.gained (ap (λ made. length (contents_in made)) (c.args.self.now.kept run here) ∙ sym (c.args.self.now.gains run here))
      | inr off ↦ none_back (met_of c.conclude.new.met.items) c.gained_by-gained.result (c.gained_by-gained.ensures.other off) ∙ ap met_of (c.conclude.ensures.unmet off)
    ])
    refl
    refl)

pub returns-clause-chosen : goal.returns-clause-chosen
returns-clause-chosen c = λ d.
    let old = c.args.self.now.running.items in
    let run = c.remove-job.result in
    let lt : c.args.place < length old = rw length-map at c.requires.place in
    let here : Contains old run = (c.args.place, lt, sym c.remove-job.ensures.value) in
    let at : slice_index_or (map running_of old) c.args.place d ≡ running_of run = get_or-map running_of old c.args.place run d lt ∙ ap running_of (sym c.remove-job.ensures.value) in
    ap (λ (r : api.Running). r.job.id) (sym at)

pub returns-clause-outcome : goal.returns-clause-outcome
returns-clause-outcome c = λ d.
    let old = c.args.self.now.running.items in
    let run = c.remove-job.result in
    let lt : c.args.place < length old = rw length-map at c.requires.place in
    let here : Contains old run = (c.args.place, lt, sym c.remove-job.ensures.value) in
    let at : slice_index_or (map running_of old) c.args.place d ≡ running_of run = get_or-map running_of old c.args.place run d lt ∙ ap running_of (sym c.remove-job.ensures.value) in
    c.unwrap_or-outcome.ensures ∙ ap (unwrap_or c.args.cut) (c.args.self.now.ending run here ∙ ap (λ (r : api.Running). ends c.args.self.now.table r.job r.given) (sym at))

pub returns-clause-stamps : goal.returns-clause-stamps
returns-clause-stamps c = λ d.
    let old = c.args.self.now.running.items in
    let run = c.remove-job.result in
    let lt : c.args.place < length old = rw length-map at c.requires.place in
    let at : slice_index_or (map running_of old) c.args.place d ≡ running_of run = get_or-map running_of old c.args.place run d lt ∙ ap running_of (sym c.remove-job.ensures.value) in
    record {
      counted = search rules;
      stamped = λ path own some. c.conclude.ensures.stamped path (subst (λ (r : api.Running). Contains r.job.targets path) at own) some;
    }

pub returns-clause-no_memory : goal.returns-clause-no_memory
returns-clause-no_memory c = λ off.
    let run = c.remove-job.result in
    let lt : c.args.place < length c.args.self.now.running.items = rw length-map at c.requires.place in
    let plain = subst IsPlain (sym (c.args.self.now.ending run (c.args.place, lt, sym c.remove-job.ensures.value))) (ends_plain c.args.self.now.table run.job run.given) in
    subst (λ (o : Outcome). o ≢ NoMemory) (sym c.unwrap_or-outcome.ensures) (never_memory c.args.cut run.outcome plain off)

pub returns-clause-absent : goal.returns-clause-absent
returns-clause-absent c = λ d path off own.
    let old = c.args.self.now.running.items in
    let run = c.remove-job.result in
    let lt : c.args.place < length old = rw length-map at c.requires.place in
    let here : Contains old run = (c.args.place, lt, sym c.remove-job.ensures.value) in
    let at : slice_index_or (map running_of old) c.args.place d ≡ running_of run = get_or-map running_of old c.args.place run d lt ∙ ap running_of (sym c.remove-job.ensures.value) in
    c.conclude.ensures.absent off path (subst (λ (r : api.Running). Contains r.job.targets path) at own)

pub returns-clause-met : goal.returns-clause-met
returns-clause-met c = λ d done.
    let table = c.args.self.now.table in
    let old = c.args.self.now.running.items in
    let run = c.remove-job.result in
    let lt : c.args.place < length old = rw length-map at c.requires.place in
    let here : Contains old run = (c.args.place, lt, sym c.remove-job.ensures.value) in
    let at : slice_index_or (map running_of old) c.args.place d ≡ running_of run = get_or-map running_of old c.args.place run d lt ∙ ap running_of (sym c.remove-job.ensures.value) in
    c.conclude.ensures.met done
    ∙ ap (λ made. met_of c.args.self.now.met.items ++ contents_in made) (c.args.self.now.kept run here ∙ c.args.self.now.planned run here)
    ∙ ap (λ (r : api.Running). met_of c.args.self.now.met.items ++ contents_in (makes table r.job r.given)) (sym at)

pub returns-clause-unmet : goal.returns-clause-unmet
returns-clause-unmet c = λ off. ap met_of (c.conclude.ensures.unmet off)

pub invariant_of-self-clause-marks : goal.invariant_of-self-clause-marks
invariant_of-self-clause-marks c = λ path id h.
    let old = c.args.self.now.running.items in
    let run = c.remove-job.result in
    let lt : c.args.place < length old = rw length-map at c.requires.place in
    let owner = target_of old path (c.args.self.now.marks path id (c.conclude.ensures.marks path id h)) in
    subst (λ (items : List RunningJob). is_target items path ≡ true) (sym c.remove-job.ensures.items)
    (is_target-of (remove old c.args.place) path (elim (remove_cases old c.args.place owner.0 lt owner.1) [
      | inl removed ↦
          let same : owner.0 ≡ run = removed ∙ same_at old c.args.place owner.0 run lt ∙ sym c.remove-job.ensures.value in
          let own = subst (λ (r : RunningJob). Contains r.job.targets path) same owner.2 in
          absurd (let x : None ≡ Some id = sym (c.conclude.ensures.unmarked path own) ∙ h in cc x)
      | inr still ↦ (owner.0, still, owner.2)
    ]))

pub invariant_of-self-clause-started : goal.invariant_of-self-clause-started
invariant_of-self-clause-started c =
    let old = c.args.self.now in
    sym (append-nil old.jobs.items)
    ∙ started_more old.jobs.items old.log.items _ [] old.started refl
    ∙ ap (λ (log : List Event). api.started_of (map entry_of log)) (sym c.add.ensures.items)
