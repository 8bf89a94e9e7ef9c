use Rattle.std.proofs.Common.{◌∙◌, subst}
use Rattle.std.specs.Str.{IsUtf8}
use Rattle.std.proofs.lemmas.Str.{is_utf8-from_IsUtf8}
use Rattle.deciders.proofs.encoding.push_text.Goals as goal

pub returns-clause-is : goal.returns-clause-is
returns-clause-is c = record { fits = c.requires; utf8 = is_utf8-from_IsUtf8 c.args.text.now (subst IsUtf8 (c.as_bytes.ensures.value ∙ c.as_str.ensures) c.as_bytes.ensures.utf8) }
