use Rattle.std.proofs.Common.{◌≡◌, ◌∙◌, sym, ap, subst, inl, inr, ℕ, List, Contains, None, IsSome, refl, true, false, is_some, Option}
use Rattle.std.specs.List.{list_any}
use Rattle.std.specs.Str.{bytes_eq}
use Rattle.world_mem.specs.InSlots.{slot_at, file_of, content_of, mark_of, stamp_at, settled}
use Rattle.act_table.specs.Listed.{contents_in}
use Rattle.world_mem.specs.Kept.{met_of}
use Rattle.world_mem.specs.declared.slots.Slot.TheVariants.{Settled}
use Rattle.world_mem.proofs.Marks.{marked-off, marked-empty, marked-absent, settled-off, settled-on, made_content, settled-content, settled-named, marked-named, met-push, found_in_push}
use Rattle.world_mem.proofs.Owners.{fewer-marked, fewer-settled, unmarked-marked, unmarked-settled}
use Rattle.world_mem.proofs.Stamped.{settled_stamp}
use Rattle.world_mem.specs.declared.slots.Slot.{Slot}
use Rattle.world_mem.proofs.ending.conclude.Goals as goal

pub returns-then-eq-clause-stamped : goal.returns-then-eq-clause-stamped
returns-then-eq-clause-stamped c = λ path own some.
    let old = slot_at c.args.slots.now path in
    ap stamp_at (c.settle.ensures path)
    ∙ settled_stamp c.args.stamp c.args.made path old (subst (λ (ts : List (List ℕ)). Contains ts path) (sym c.requires.names) own)
    (subst (λ (o : Option Slot). IsSome (content_of o)) (c.settle.ensures path) some)

pub returns-else-eq-clause-stamped : goal.returns-else-eq-clause-stamped
returns-else-eq-clause-stamped c = λ path h some.
    let none = ap content_of (c.clear.ensures path) ∙ marked-absent c.args.job.now.targets (Settled None) path (slot_at c.args.slots.now path) refl h.0 h.1 h.2 in
    absurd (let e : false ≡ true = sym (ap is_some none) ∙ some in cc e)

pub returns-then-eq-clause-others : goal.returns-then-eq-clause-others
returns-then-eq-clause-others c = λ path off.
    c.settle.ensures path ∙ settled-off c.args.stamp c.args.made path (slot_at c.args.slots.now path) (subst (λ (ts : List (List ℕ)). Contains ts path → ⊥) (sym c.requires.names) off)

pub returns-then-eq-clause-held : goal.returns-then-eq-clause-held
returns-then-eq-clause-held c = λ path bytes h.
    elim (settled-content c.args.stamp c.args.made path (slot_at c.args.slots.now path) bytes (ap content_of (sym (c.settle.ensures path)) ∙ h)) [
      | inl before ↦ inl before
      | inr found ↦ inr (
          subst (λ groups. list_any (bytes_eq bytes) (met_of groups) ≡ true) (sym c.add.ensures.items)
          (found_in_push bytes c.args.met.now.items c.args.kept (subst (λ (group : List (List ℕ × Option (List ℕ))). list_any (bytes_eq bytes) (contents_in group) ≡ true) (sym c.requires.same) found)))
    ]

pub returns-then-eq-clause-met : goal.returns-then-eq-clause-met
returns-then-eq-clause-met c = λ _. ap met_of c.add.ensures.items ∙ met-push c.args.met.now.items c.args.kept

pub returns-then-eq-clause-more : goal.returns-then-eq-clause-more
returns-then-eq-clause-more c = (contents_in c.args.kept, ap met_of c.add.ensures.items ∙ met-push c.args.met.now.items c.args.kept)

pub returns-else-eq-clause-others : goal.returns-else-eq-clause-others
returns-else-eq-clause-others c = λ path off. c.clear.ensures path ∙ marked-off c.args.job.now.targets (Settled None) path (slot_at c.args.slots.now path) off

pub returns-else-eq-clause-absent : goal.returns-else-eq-clause-absent
returns-else-eq-clause-absent c = λ _ path h. ap content_of (c.clear.ensures path) ∙ marked-absent c.args.job.now.targets (Settled None) path (slot_at c.args.slots.now path) refl h.0 h.1 h.2

pub returns-else-eq-clause-held : goal.returns-else-eq-clause-held
returns-else-eq-clause-held c = λ path bytes h.
    inl (marked-empty c.args.job.now.targets (Settled None) path (slot_at c.args.slots.now path) bytes refl (ap content_of (sym (c.clear.ensures path)) ∙ h))

pub returns-then-eq-clause-unmarked : goal.returns-then-eq-clause-unmarked
returns-then-eq-clause-unmarked c = λ path own.
    ap mark_of (c.settle.ensures path) ∙ unmarked-settled c.args.stamp c.args.made path (slot_at c.args.slots.now path) (subst (λ (ts : List (List ℕ)). Contains ts path) (sym c.requires.names) own)

pub returns-then-eq-clause-marks : goal.returns-then-eq-clause-marks
returns-then-eq-clause-marks c = λ path id h. fewer-settled c.args.stamp c.args.made path (slot_at c.args.slots.now path) id (ap mark_of (sym (c.settle.ensures path)) ∙ h)

pub returns-else-eq-clause-unmarked : goal.returns-else-eq-clause-unmarked
returns-else-eq-clause-unmarked c = λ path own. ap mark_of (c.clear.ensures path) ∙ unmarked-marked c.args.job.now.targets None path (slot_at c.args.slots.now path) own

pub returns-else-eq-clause-marks : goal.returns-else-eq-clause-marks
returns-else-eq-clause-marks c = λ path id h. fewer-marked c.args.job.now.targets None path (slot_at c.args.slots.now path) id (ap mark_of (sym (c.clear.ensures path)) ∙ h)

pub returns-then-eq-clause-named : goal.returns-then-eq-clause-named
returns-then-eq-clause-named c = λ path file was h.
    settled-named c.args.stamp c.args.made path (slot_at c.args.slots.now path) file was (ap file_of (sym (c.settle.ensures path)) ∙ h)

pub returns-else-eq-clause-named : goal.returns-else-eq-clause-named
returns-else-eq-clause-named c = λ path file was h.
    was (marked-named c.args.job.now.targets (Settled None) path (slot_at c.args.slots.now path) file refl (ap file_of (sym (c.clear.ensures path)) ∙ h))

pub returns-then-eq-clause-done : goal.returns-then-eq-clause-done
returns-then-eq-clause-done c = λ _ makes is path own some.
    let old = slot_at c.args.slots.now path in
    let stamp = c.args.stamp in
    ap content_of (
    c.settle.ensures path
    ∙ ap (λ (made : List (List ℕ × Option (List ℕ))). settled stamp made path old) is
    ∙ settled-on stamp makes c.args.job.now.targets path old own.0 own.1 own.2 some)
    ∙ made_content stamp path (makes path)
