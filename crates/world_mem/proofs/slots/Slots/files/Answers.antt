use Rattle.std.proofs.Common.{◌≡◌, ◌∙◌, sym, ap, subst, append_assoc, append-nil, ◌++◌, ℕ, List, Some}
use Rattle.world_mem.specs.Files.{AreFiles, file_in}
use Rattle.world_mem.specs.InSlots.{slot_at, content_of, file_of}
use Rattle.world_mem.proofs.FilesOf.{files_in, are_files}
use Rattle.world_mem.proofs.slots.Slots.files.Goals as goal

pub loop-slot-init : goal.loop-slot-init
loop-slot-init c =
    ap (λ (files : List (List ℕ × List ℕ)). files ++ files_in c.into_iter-slot-iterator.result) c.empty-files.ensures
    ∙ ap files_in c.into_iter-slot-iterator.ensures.into_iter_gives.0

pub loop-slot-preserved : goal.loop-slot-preserved
loop-slot-preserved c =
    ap (λ (files : List (List ℕ × List ℕ)). files ++ files_in c.next.new.self) c.in_ok-add_file.ensures
    ∙ append_assoc c.loop-slot.files (file_in (file_of (Some c.in-Some.slot.now))) (files_in c.next.new.self)
    ∙ ap (λ rest. c.loop-slot.files ++ files_in rest) (sym c.in-Some.ensures.steps)
    ∙ c.loop-slot.invariant

pub returns : goal.returns
returns c =
    let slots = c.args.self.now in
    let gives = c.into_iter-slot-iterator.ensures.into_iter_gives in
    let all : files_in slots.slots.entries ≡ c.loop-slot.files =
    sym c.loop-slot.invariant ∙ ap (λ rest. c.loop-slot.files ++ files_in rest) c.in-None.ensures.steps.0 ∙ append-nil c.loop-slot.files in
    subst (λ (files : List (List ℕ × List ℕ)). AreFiles (λ path. content_of (slot_at slots path)) files) all (are_files slots c.requires gives.6 gives.5)
