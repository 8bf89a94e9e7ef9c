use Rattle.std.proofs.Common.{arith, ◌≡◌, ◌≤◌, length, None}
use Rattle.std.specs.Prelude.{string_bytes, position, ◌==◌}
use Rattle.scons_base.specs.declared.limits.TheConstants.{PATH_LIMIT}
use Rattle.scons_base.proofs.NormalForms.{resolved_path, zero_free_from_position}
use Rattle.scons_base.proofs.Spellings.{resolved_again}
use Rattle.scons_base.proofs.resolve.by_steps.Goals as goal

pub normal-requires : goal.normal-requires
normal-requires c =
    let none : position (λ b. b == 0) c.args.text.now ≡ None = grind (arith) in
    let fits : length (string_bytes c.in_ok-normal.normal) ≤ PATH_LIMIT = omega arith in
    resolved_path c.args.top.now c.args.dir.now c.args.text.now _ _ _ c.normal_text.ensures.valid c.normal_text-2.ensures.valid none
    c.normal_text.ensures.value c.normal_text-2.ensures.value (c.in_ok-normal.ensures {u = tt}) fits

pub returns-clause-again : goal.returns-clause-again
returns-clause-again c =
    let none : position (λ b. b == 0) c.args.text.now ≡ None = grind (arith) in
    rw c.normal.ensures (resolved_again c.args.top.now c.args.dir.now c.args.text.now _ _ _ c.normal_text.ensures.valid c.normal_text-2.ensures.valid
    (zero_free_from_position c.args.text.now none) c.normal_text.ensures.value c.normal_text-2.ensures.value (c.in_ok-normal.ensures {u = tt}))
