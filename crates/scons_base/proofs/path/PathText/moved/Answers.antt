use Rattle.std.proofs.Common.{arith, ◌≡◌, ◌≤◌, length, true}
use Rattle.std.specs.Prelude.{string_bytes}
use Rattle.scons_base.specs.declared.limits.TheConstants.{PATH_LIMIT}
use Rattle.scons_base.specs.Parts.{is_below}
use Rattle.scons_base.proofs.Moves.{joined_path}
use Rattle.scons_base.proofs.path.PathText.moved.Goals as goal

pub normal-requires : goal.normal-requires
normal-requires c =
    let fits : length (string_bytes c.in_ok-text.text) ≤ PATH_LIMIT = omega arith in
    let below : is_below c.args.self.now c.args.from.now ≡ true = grind arith in
    joined_path c.args.self.now c.args.from.now c.args.to.now _ _ _ _ _ c.normal_text.ensures.valid c.normal_text-2.ensures.valid c.normal_text-3.ensures.valid below
    c.normal_text.ensures.value c.normal_text-2.ensures.value c.normal_text-3.ensures.value c.rest_below-rest.ensures (c.in_ok-text.ensures {u = tt}) fits
