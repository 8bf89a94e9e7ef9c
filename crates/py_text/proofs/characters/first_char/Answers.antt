use Rattle.std.proofs.Common.{sym, ◌∙◌, subst, encode_utf8}
use Rattle.std.specs.Str.{IsCharBoundary}
use Rattle.std.proofs.lemmas.Str.{IsCharBoundary-at_seam, IsUtf8-past_char}
use Rattle.py_text.proofs.characters.first_char.Goals as goal

pub split_at-requires : goal.split_at-requires
split_at-requires c =
    let parts = sym c.chars.ensures.rest ∙ (c.in_ok-first.ensures {u = tt}).steps.0 in
    let rest = IsUtf8-past_char c.args.text.now c.next.new.self.rest.now c.in_ok-first.first c.utf8.text parts in
    subst (λ i. IsCharBoundary c.args.text.now i) (sym c.len_utf8.ensures.len) (IsCharBoundary-at_seam c.args.text.now (encode_utf8 c.in_ok-first.first) c.next.new.self.rest.now parts rest)
