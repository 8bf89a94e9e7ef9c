use Rattle.std.proofs.Common.{◌≡◌, drop}
use Rattle.scons_decls.specs.Steps.{all_of}
use Rattle.scons_decls.specs.References.{text_allowed}
use Rattle.scons_decls.proofs.references.refuse_texts.Given as goal

abbrev pub invariant-loop-text : goal.invariant-loop-text
invariant-loop-text l = all_of text_allowed (drop l.text-index l.texts) ≡ all_of text_allowed l.texts
