use Rattle.std.proofs.Common.{◌≡◌, ◌∙◌, sym, ap, subst, ℕ, List, Some, Contains, IsSome, refl, true, [], ◌∷◌, ◌++◌, inl, inr, length, map, reverse}
use Rattle.world_mem.specs.InSlots.{slot_at, file_of, content_of, mark_of}
use Rattle.act_table.specs.Listed.{contents_in}
use Rattle.world_mem.specs.Kept.{IdsApart, is_target, running_of, entry_of}
use Rattle.world_mem.specs.Planned.{makes, ends}
use Rattle.world_mem.specs.declared.running.RunningJob.{RunningJob}
use Rattle.world_mem.specs.declared.slots.Slot.TheVariants.{Running}
use Rattle.world_mem.proofs.Apart.{apart-push}
use Rattle.world_mem.proofs.Marks.{marked-off, marked-on, marked-empty, marked-named}
use Rattle.world_mem.proofs.Backs.{pushed, newest, same_around, started_back, started_stamp_back, dirs_back, last_back}
use Rattle.world_mem.specs.Standing.{is_dir}
use Rattle.world_mem.specs.AsCourse.{course_of}
use Rattle.world_mem.specs.declared.past.Change.TheVariants.{Started}
use Rattle.world_mem.specs.Undone.{without_last}
use Rattle.world_mem.specs.declared.event.Event.{Event}
use Rattle.std.proofs.lemmas.List.{map-append}
use Rattle.std.proofs.lemmas.List.Elements.{Contains-append_left, Contains-push}
use Rattle.world_mem.proofs.Owners.{marked-where, is_target-of, target_of}
use Rattle.world_mem.proofs.Membership.{push_all}
use Rattle.world_mem.proofs.Started.{started_more}
use Rattle.world_api.specs.Around.{started_of}
use Rattle.world_mem.proofs.state.State.enter.Goals as goal

pub invariant_of-self-clause-owned : goal.invariant_of-self-clause-owned
invariant_of-self-clause-owned c = λ run path here target.
    let old = c.args.self.now.running.items in
    let P : RunningJob → Type 0 = λ r. Contains r.job.targets path → slot_at c.mark.new.self path ≡ Some (Running r.job.id) in
    let before : (r : RunningJob) → Contains old r → P r = λ r h t.
    c.mark.ensures path
    ∙ marked-off c.args.entering.run.job.targets (Running c.args.entering.run.job.id) path (slot_at c.args.self.now.slots path) (λ own. c.requires.own_targets r path h own t)
    ∙ c.args.self.now.owned r path h t in
    let itself : P c.args.entering.run = λ t.
    c.mark.ensures path
    ∙ marked-on c.args.entering.run.job.targets (Running c.args.entering.run.job.id) path (slot_at c.args.self.now.slots path) t.0 t.1 t.2
    (subst (λ (p : List ℕ). IsSome (slot_at c.args.self.now.slots p)) t.2 (c.requires.places t.0 path t.1)) in
    push_all P old c.args.entering.run before itself run (subst (λ (items : List RunningJob). Contains items run) c.add.ensures.items here) target

pub invariant_of-self-clause-apart : goal.invariant_of-self-clause-apart
invariant_of-self-clause-apart c = subst IdsApart (sym c.add.ensures.items) (apart-push c.args.self.now.running.items c.args.entering.run c.args.self.now.apart c.requires.new_id)

pub invariant_of-self-clause-planned : goal.invariant_of-self-clause-planned
invariant_of-self-clause-planned c = λ run here.
    push_all (λ r. r.made ≡ makes c.args.self.now.table r.job r.given) c.args.self.now.running.items c.args.entering.run c.args.self.now.planned c.requires.made run
    (subst (λ (items : List RunningJob). Contains items run) c.add.ensures.items here)

pub invariant_of-self-clause-kept : goal.invariant_of-self-clause-kept
invariant_of-self-clause-kept c = λ run here.
    push_all (λ r. r.kept ≡ r.made) c.args.self.now.running.items c.args.entering.run c.args.self.now.kept c.requires.kept run
    (subst (λ (items : List RunningJob). Contains items run) c.add.ensures.items here)

pub invariant_of-self-clause-ending : goal.invariant_of-self-clause-ending
invariant_of-self-clause-ending c = λ run here.
    push_all (λ r. r.outcome ≡ ends c.args.self.now.table r.job r.given) c.args.self.now.running.items c.args.entering.run c.args.self.now.ending c.requires.outcome run
    (subst (λ (items : List RunningJob). Contains items run) c.add.ensures.items here)

pub invariant_of-self-clause-held : goal.invariant_of-self-clause-held
invariant_of-self-clause-held c = λ path bytes h.
    c.args.self.now.held path bytes
    (marked-empty c.args.entering.run.job.targets (Running c.args.entering.run.job.id) path (slot_at c.args.self.now.slots path) bytes refl (ap content_of (sym (c.mark.ensures path)) ∙ h))

pub returns-clause-others : goal.returns-clause-others
returns-clause-others c = λ path off.
    c.mark.ensures path ∙ marked-off c.args.entering.run.job.targets (Running c.args.entering.run.job.id) path (slot_at c.args.self.now.slots path) off

pub returns-clause-back : goal.returns-clause-back
returns-clause-back c =
    let old = c.args.self.now in
    let run = c.args.entering.run in
    pushed _ c.add-4.new.items.items (Started c.args.entering.dirs) (course_of old) (ap reverse c.add-4.ensures.items ∙ newest old.past.items (Started c.args.entering.dirs))
    (same_around _ _
    (started_back run.job.targets run.job.id (slot_at old.slots) (slot_at c.mark.new.self) c.mark.ensures c.requires.clear)
    (dirs_back c.args.entering.dirs (is_dir old.dirs) (is_dir c.raise.new.self) c.raise.ensures c.requires.absent)
    (started_stamp_back run.job.targets run.job.id (slot_at old.slots) (slot_at c.mark.new.self) c.mark.ensures c.requires.clear)
    (ap (λ (items : List RunningJob). without_last 1 (map running_of items)) c.add.ensures.items ∙ ap (without_last 1) (map-append running_of old.running.items _) ∙ last_back (map running_of old.running.items) _)
    (ap (λ (items : List Event). without_last 1 (map entry_of items)) c.add-2.ensures.items ∙ ap (without_last 1) (map-append entry_of old.log.items _) ∙ last_back (map entry_of old.log.items) _)
    refl
    refl
    refl)

pub invariant_of-self-clause-gains : goal.invariant_of-self-clause-gains
invariant_of-self-clause-gains c = λ run here.
    push_all (λ r. r.gained ≡ length (contents_in r.made)) c.args.self.now.running.items c.args.entering.run c.args.self.now.gains c.requires.gains run
    (subst (λ (items : List RunningJob). Contains items run) c.add.ensures.items here)

pub invariant_of-self-clause-named : goal.invariant_of-self-clause-named
invariant_of-self-clause-named c = λ path file h.
    c.args.self.now.named path file
    (marked-named c.args.entering.run.job.targets (Running c.args.entering.run.job.id) path (slot_at c.args.self.now.slots path) file refl (ap file_of (sym (c.mark.ensures path)) ∙ h))

pub invariant_of-self-clause-marks : goal.invariant_of-self-clause-marks
invariant_of-self-clause-marks c = λ path id h.
    let old = c.args.self.now.running.items in
    let run = c.args.entering.run in
    subst (λ (items : List RunningJob). is_target items path ≡ true) (sym c.add.ensures.items)
    (is_target-of (old ++ run ∷ []) path (elim (marked-where run.job.targets (Running run.job.id) path (slot_at c.args.self.now.slots path)) [
      | inl same ↦ let owner = target_of old path (c.args.self.now.marks path id (ap mark_of (sym (c.mark.ensures path ∙ same)) ∙ h)) in (owner.0, Contains-append_left old (run ∷ []) owner.0 owner.1, owner.2)
      | inr own ↦ (run, Contains-push old run, own)
    ]))

pub invariant_of-self-clause-started : goal.invariant_of-self-clause-started
invariant_of-self-clause-started c =
    let old = c.args.self.now in
    c.add-3.ensures.items
    ∙ started_more old.jobs.items old.log.items c.args.entering.event (c.args.entering.job ∷ []) old.started c.requires.started
    ∙ ap (λ (log : List Event). started_of (map entry_of log)) (sym c.add-2.ensures.items)
