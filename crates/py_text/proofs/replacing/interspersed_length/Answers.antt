use Rattle.std.proofs.Common.{arith, ◌≡◌, ◌+◌, ◌*◌, ◌++◌, length, ap, chars, encode_utf8, flat_map, ◌∙◌}
use Rattle.std.proofs.lemmas.List.{length-append}
use Rattle.std.proofs.lemmas.Str.{encodes-chars}
use Rattle.py_text.specs.Replacing.{interspersed}
use Rattle.py_text.specs.Sizes.{saturated}
use Rattle.py_text.proofs.JoinLemmas.{length-interspersed, saturated_add}
use Rattle.py_text.proofs.replacing.interspersed_length.Goals as goal

pub returns : goal.returns
returns c =
    let places = c.char_count.result * length c.args.new.now in
    let whole : length (interspersed c.args.text.now c.args.new.now) ≡ places + length c.args.text.now + length c.args.new.now = omega (
      arith,
      length-append (flat_map (λ x. c.args.new.now ++ encode_utf8 x) (chars c.args.text.now)) c.args.new.now,
      length-interspersed c.args.new.now (chars c.args.text.now),
      ap (λ n. n * length c.args.new.now) c.char_count.ensures,
      ap length (encodes-chars c.args.text.now c.utf8.text),
    ) in
    let with_text : c.saturating_add.result ≡ saturated (places + length c.args.text.now) = c.saturating_add.ensures ∙ saturated_add c.saturating_mul.result places (length c.args.text.now) c.saturating_mul.ensures in
    let with_last : c.saturating_add-2.result ≡ saturated (places + length c.args.text.now + length c.args.new.now) =
    c.saturating_add-2.ensures ∙ saturated_add c.saturating_add.result (places + length c.args.text.now) (length c.args.new.now) with_text in
    rw whole with_last
