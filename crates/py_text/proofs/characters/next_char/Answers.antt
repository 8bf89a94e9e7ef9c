use Rattle.std.proofs.Common.{sym, ◌∙◌}
use Rattle.std.proofs.lemmas.Str.{chars_past_char}
use Rattle.py_text.proofs.characters.next_char.Goals as goal

pub returns : goal.returns
returns c =
    let parts = sym c.chars-rest.ensures.rest ∙ (c.in_ok-first.ensures {u = tt}).steps.0 in
    rw c.as_str.ensures (parts, chars_past_char c.args.text.now c.next.new.self.rest.now c.in_ok-first.first c.utf8.text parts)
