use Rattle.std.proofs.Common.{◌≡◌, ◌∙◌, sym, ap, subst, List, ℕ, true, Option, Some, None, ◌++◌}
use Rattle.std.specs.List.{list_any}
use Rattle.std.specs.Str.{bytes_eq}
use Rattle.act_table.specs.Listed.{contents_in}
use Rattle.world_mem.specs.Kept.{met_of}
use Rattle.world_mem.proofs.Marks.{found_in_push, file_met, met-push, contents_in-files}
use Rattle.std.proofs.Common.{◌↔◌, ◌⊎◌, IsTrue}
use Rattle.world_mem.specs.Blocked.{HasBelow, HasFile}
use Rattle.world_mem.specs.Standing.{is_dir}
use Rattle.world_mem.proofs.state.State.new.Goals as goal

pub invariant_of-result-clause-held : goal.invariant_of-result-clause-held
invariant_of-result-clause-held c = λ path bytes h.
    subst (λ groups. list_any (bytes_eq bytes) (met_of groups) ≡ true) (sym c.add.ensures.items)
    (found_in_push bytes c.in_ok-met.met.items c.in_ok-group.group
    (subst (λ (group : List (List ℕ × Option (List ℕ))). list_any (bytes_eq bytes) (contents_in group) ≡ true) (sym c.in_ok-group.ensures)
    (file_met c.args.files.now path bytes (sym (c.in_ok-fill.ensures.files path) ∙ h))))

pub invariant_of-result-clause-marks : goal.invariant_of-result-clause-marks
invariant_of-result-clause-marks c = λ path id h. absurd (let x : None ≡ Some id = sym (c.in_ok-fill.ensures.unmarked path) ∙ h in cc x)

pub returns-clause-met : goal.returns-clause-met
returns-clause-met c =
    let group = c.in_ok-group.group in
    ap met_of c.add.ensures.items
    ∙ met-push c.in_ok-met.met.items group
    ∙ ap (λ (groups : List (List (List ℕ × Option (List ℕ)))). met_of groups ++ contents_in group) c.in_ok-met.ensures.empty
    ∙ ap contents_in c.in_ok-group.ensures
    ∙ contents_in-files c.args.files.now

pub invariant_of-result-clause-named : goal.invariant_of-result-clause-named
invariant_of-result-clause-named c = λ path file h. c.in_ok-fill.ensures.named path file h

pub returns-clause-dirs : goal.returns-clause-dirs
returns-clause-dirs c = λ dir.
    subst (λ b. IsTrue (is_dir c.raise_above.new.dirs dir) ↔ (IsTrue b ⊎ HasBelow (HasFile c.args.files.now) dir)) (c.new-dirs.ensures dir) (c.in_ok-raise_above.ensures dir)
