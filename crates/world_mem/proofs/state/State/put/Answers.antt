use Rattle.std.proofs.Common.{◌≡◌, ◌∙◌, sym, ap, subst, List, ℕ, Option, Some, Contains, true, inl, inr, []}
use Rattle.std.specs.List.{list_any}
use Rattle.std.specs.Str.{bytes_eq}
use Rattle.world_mem.specs.InSlots.{slot_at, file_of, content_of, mark_of}
use Rattle.act_table.specs.Listed.{contents_in}
use Rattle.world_mem.specs.Kept.{met_of, running_of}
use Rattle.world_mem.specs.declared.slots.Slot.TheVariants.{Settled}
use Rattle.world_mem.proofs.Marks.{written_off, written-content, written-named, found_before, found_in_push, met-push, in_option}
use Rattle.world_mem.proofs.Membership.{contains_map}
use Rattle.world_mem.proofs.Owners.{fewer-written}
use Rattle.world_mem.proofs.state.State.put.Goals as goal

pub invariant_of-self-clause-owned : goal.invariant_of-self-clause-owned
invariant_of-self-clause-owned c = λ run path here target.
    let old = c.args.self.now in
    let at = c.args.path.now in
    c.write.ensures path
    ∙ written_off at (Settled (Some c.args.file)) path (slot_at old.slots path)
    (λ e. c.requires.free (running_of run, contains_map running_of old.running.items run here, subst (λ (p : List ℕ). Contains run.job.targets p) (sym e) target))
    ∙ old.owned run path here target

pub invariant_of-self-clause-marks : goal.invariant_of-self-clause-marks
invariant_of-self-clause-marks c = λ path id h.
    let old = c.args.self.now in
    old.marks path id (fewer-written c.args.path.now (Some c.args.file) path (slot_at old.slots path) id (ap mark_of (sym (c.write.ensures path)) ∙ h))

pub invariant_of-self-clause-held : goal.invariant_of-self-clause-held
invariant_of-self-clause-held c = λ path bytes h.
    let old = c.args.self.now in
    let met = old.met.items in
    let group = c.args.group in
    let file = c.args.file in
    subst (λ groups. list_any (bytes_eq bytes) (met_of groups) ≡ true) (sym c.add.ensures.items)
    (elim (written-content c.args.path.now (Some file) path (slot_at old.slots path) bytes (ap content_of (sym (c.write.ensures path)) ∙ h)) [
      | inl here ↦ found_in_push bytes met group (subst (λ (g : List (List ℕ × Option (List ℕ))). list_any (bytes_eq bytes) (contents_in g) ≡ true) (sym c.requires.group) (in_option (Some file.bytes) [] bytes here))
      | inr before ↦ ap (list_any (bytes_eq bytes)) (met-push met group) ∙ found_before (bytes_eq bytes) (met_of met) (contents_in group) (old.held path bytes before)
    ])

pub invariant_of-self-clause-named : goal.invariant_of-self-clause-named
invariant_of-self-clause-named c = λ path file h.
    let old = c.args.self.now in
    written-named c.args.path.now c.args.file path (slot_at old.slots path) file c.requires.name (old.named path file) (ap file_of (sym (c.write.ensures path)) ∙ h)
