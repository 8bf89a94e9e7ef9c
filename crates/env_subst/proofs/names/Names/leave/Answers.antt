use Rattle.std.proofs.Common.{◌≡◌, ◌≤◌, ◌∙◌, ◌-◌, ◌++◌, length, ap, arith}
use Rattle.env_subst.specs.Desks.{outer_names}
use Rattle.env_subst.proofs.Layers.{leaves_inner}
use Rattle.env_subst.proofs.names.Names.leave.Goals as goal

pub returns-else-is_empty : goal.returns-else-is_empty
returns-else-is_empty c =
    let xs = c.self.inside.outer.items in
    let ys = c.self.inside.inner.keys in
    let n = c.saturating_sub-else-is_empty.result in
    let some : 1 ≤ length ys = grind arith in
    let one : n ≡ length ys - 1 = omega arith in
    ap (λ zs. xs ++ zs) c.truncate-else-is_empty.ensures.keys ∙ leaves_inner xs ys n some one ∙ ap outer_names c.self.view_is
