use Rattle.std.proofs.Common.{◌≡◌, ◌∙◌, ◌⊎◌, ◌↔◌, subst, List, ℕ, false, Contains}
use Rattle.mem_banks.proofs.Cuts.{on_ok}
use Rattle.world_mem.specs.Standing.{is_dir}
use Rattle.world_mem.proofs.Fresh.{both_added}
use Rattle.world_mem.proofs.dirs.Dirs.missing.Goals as goal

pub returns : goal.returns
returns c =
    let bytes : c.as_bytes.result.now ≡ c.args.path.now = c.as_bytes.ensures.value ∙ c.as_str.ensures in
    on_ok c.note.result _ _
    (λ each dir.
    let absent : Type 0 = is_dir c.args.self.now dir ≡ false in
    both_added c.args.fresh.now c.missing_above.new.fresh c.note.new.fresh c.args.path.now dir absent (c.in_ok-missing_above.ensures dir)
    (subst (λ (path : List ℕ). Contains c.note.new.fresh dir ↔ (Contains c.missing_above.new.fresh dir ⊎ ((path ≡ dir) × absent))) bytes (each dir)))
    c.note.ensures
