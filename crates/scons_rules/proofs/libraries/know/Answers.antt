use Rattle.std.proofs.Common.{refl, Some}
use Rattle.scons_rules.proofs.Finding.{set_known}
use Rattle.scons_rules.proofs.libraries.know.Goals as goal

pub returns : goal.returns
returns c = λ f. set_known f c.args.wanted.now (record { asked = c.args.wanted.now.asked; known = Some c.args.library }) c.requires c.args.library refl refl
