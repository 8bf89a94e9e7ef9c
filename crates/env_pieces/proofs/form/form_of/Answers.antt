use Rattle.std.proofs.Common.{rules, arith, ◌≡◌, Ok, string_bytes}
use Rattle.std.proofs.lemmas.Grind.{common_steps}
use Rattle.env_pieces.specs.declared.form.Mode.TheVariants as mode
use Rattle.env_pieces.specs.Forms.{shown}
use Rattle.env_pieces.proofs.Hiding.{hides}
use Rattle.env_pieces.proofs.form.form_of.Goals as goal

pub returns-in_ok-squeezed-in-Signed-clause-hidden : goal.returns-in_ok-squeezed-in-Signed-clause-hidden
returns-in_ok-squeezed-in-Signed-clause-hidden c =
    let whole : shown mode.Signed c.args.pieces.now ≡ Ok (string_bytes c.in_ok-squeezed-in-Signed.field-0) = first_of (search rules, grind (arith, common_steps)) in
    λ _. hides c.args.pieces.now (string_bytes c.in_ok-squeezed-in-Signed.field-0) whole
