use Rattle.std.proofs.Common.{◌≡◌, ◌∙◌, sym, ap, subst, List, ℕ, Option, Some, None, true, inl, inr}
use Rattle.std.specs.List.{list_any}
use Rattle.std.specs.Str.{bytes_eq}
use Rattle.world_mem.specs.InSlots.{slot_at, file_of, content_of, mark_of}
use Rattle.act_table.specs.Listed.{contents_in}
use Rattle.world_mem.specs.Kept.{met_of}
use Rattle.world_mem.proofs.Marks.{settled-content, settled-named, found_before, found_in_push, met-push}
use Rattle.world_mem.proofs.Owners.{fewer-settled, unmarked-settled, target_of}
use Rattle.world_mem.proofs.state.State.leave.Goals as goal

pub invariant_of-self-clause-marks : goal.invariant_of-self-clause-marks
invariant_of-self-clause-marks c = λ path id h.
    let old = c.args.self.now in
    let made = c.args.targets in
    let was : mark_of (slot_at old.slots path) ≡ Some id = fewer-settled _ made path (slot_at old.slots path) id (ap mark_of (sym (c.settle.ensures path)) ∙ h) in
    let owner = target_of old.running.items path (old.marks path id was) in
    absurd (let x : None ≡ Some id = sym (ap mark_of (c.settle.ensures path) ∙ unmarked-settled _ made path (slot_at old.slots path) (c.requires.covers owner.0 path owner.1 owner.2)) ∙ h in cc x)

pub invariant_of-self-clause-held : goal.invariant_of-self-clause-held
invariant_of-self-clause-held c = λ path bytes h.
    let old = c.args.self.now in
    let met = old.met.items in
    let kept = c.args.kept in
    subst (λ groups. list_any (bytes_eq bytes) (met_of groups) ≡ true) (sym c.add.ensures.items)
    (elim (settled-content _ c.args.targets path (slot_at old.slots path) bytes (ap content_of (sym (c.settle.ensures path)) ∙ h)) [
      | inl before ↦ ap (list_any (bytes_eq bytes)) (met-push met kept) ∙ found_before (bytes_eq bytes) (met_of met) (contents_in kept) (old.held path bytes before)
      | inr found ↦ found_in_push bytes met kept (subst (λ (group : List (List ℕ × Option (List ℕ))). list_any (bytes_eq bytes) (contents_in group) ≡ true) (sym c.requires.same) found)
    ])

pub invariant_of-self-clause-named : goal.invariant_of-self-clause-named
invariant_of-self-clause-named c = λ path file h.
    let old = c.args.self.now in
    settled-named _ c.args.targets path (slot_at old.slots path) file (old.named path file) (ap file_of (sym (c.settle.ensures path)) ∙ h)
