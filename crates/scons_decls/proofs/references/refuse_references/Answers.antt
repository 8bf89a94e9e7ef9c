use Rattle.std.proofs.Common.{refl}
use Rattle.std.proofs.lemmas.Str.{IsCharBoundary-start}
use Rattle.scons_decls.proofs.references.refuse_references.Goals as goal

pub parts-init : goal.parts-init
parts-init c = record { boundary = IsCharBoundary-start c.args.text.now c.utf8.text; left = refl }
