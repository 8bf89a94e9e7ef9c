use Rattle.std.proofs.Common.{ap, ◌∙◌, chars, encode_utf8_all}
use Rattle.std.specs.List.{prefix_len}
use Rattle.py_text.specs.White.{is_white}
use Rattle.py_text.specs.Stripping.{without_white_end, rstrip}
use Rattle.py_text.proofs.CharLemmas.{chars-drop}
use Rattle.py_text.proofs.stripping.strip.Goals as goal

pub returns : goal.returns
returns c =
    c.rstrip.ensures ∙ ap rstrip c.lstrip.ensures
    ∙ ap (λ cs. encode_utf8_all (without_white_end cs)) (chars-drop (prefix_len is_white (chars c.args.text.now)) c.args.text.now c.utf8.text)
