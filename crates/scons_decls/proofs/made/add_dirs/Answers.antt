use Rattle.std.proofs.Common.{◌≡◌, ◌<◌, ◌∙◌, ap, sym, subst, false, true, string_bytes}
use Rattle.scons_decls.specs.Targets.{is_end}
use Rattle.scons_decls.proofs.Above.{height, dir_lower}
use Rattle.scons_decls.proofs.Noted.{climb, climb_front, climbed_end, climbed_old, not_added}
use Rattle.scons_decls.proofs.made.add_dirs.Goals as goal
use Rattle.scons_decls.proofs.made.add_dirs.Goals.{then-not-is_new-via-then-not-is_new, then-not-is_new-via-else-not-is_new+then-is_end}

pub returns-then-not-is_new-clause-above : goal.returns-then-not-is_new-clause-above
returns-then-not-is_new-clause-above c =
    let is = (c.in_ok-from_str.ensures {u = tt}).ok ∙ c.as_str.ensures in
    let keys = (c.in_ok-is_new.ensures {u = tt}).keys in
    elim c.then-not-is_new.branch [
      | then-not-is_new-via-then-not-is_new w ↦ climbed_old _ _ _ _ _ _ c.dirs.invariant is keys c.requires.closed (not_added _ _ (c.in_ok-is_new.ensures {u = tt}).added w.if-not-is_new.true)
      | then-not-is_new-via-else-not-is_new+then-is_end w ↦
          climbed_end _ _ _ _ _ _ c.dirs.invariant is keys (ap is_end (sym w.as_str-else-not-is_new.ensures) ∙ sym w.is_end.ensures ∙ w.if-is_end.true)
    ]

pub returns-then-not-is_new-clause-front : goal.returns-then-not-is_new-clause-front
returns-then-not-is_new-clause-front c = climb_front _ _ _ _ _ _ c.dirs.invariant (c.in_ok-is_new.ensures {u = tt}).keys

pub returns-in_err-dir-clause-front : goal.returns-in_err-dir-clause-front
returns-in_err-dir-clause-front c = climb_front _ _ _ _ _ _ c.dirs.invariant (c.in_ok-is_new.ensures {u = tt}).keys

pub dirs-smaller : goal.dirs-smaller
dirs-smaller c =
    let goes : is_end c.dirs.dir ≡ false = ap is_end (sym c.as_str-else-not-is_new.ensures) ∙ sym c.is_end.ensures ∙ c.if-is_end.false in
    subst (λ d. height d < height c.dirs.dir) (sym (c.in_ok-dir.ensures {u = tt})) (dir_lower c.dirs.dir goes)

pub dirs-preserved : goal.dirs-preserved
dirs-preserved c =
    let is = (c.in_ok-from_str.ensures {u = tt}).ok ∙ c.as_str.ensures in
    let goes : is_end c.dirs.dir ≡ false = ap is_end (sym c.as_str-else-not-is_new.ensures) ∙ sym c.is_end.ensures ∙ c.if-is_end.false in
    climb _ _ _ _ _ _ _ c.dirs.invariant is (c.in_ok-is_new.ensures {u = tt}).keys goes (c.in_ok-dir.ensures {u = tt})
