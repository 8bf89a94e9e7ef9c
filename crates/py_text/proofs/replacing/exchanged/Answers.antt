use Rattle.std.proofs.Common.{rules, ◌≡◌, ◌++◌, ap, ◌∙◌, string_bytes}
use Rattle.std.specs.Str.{IsUtf8}
use Rattle.py_text.proofs.CutLemmas.{exchanges_more, exchanges_end}
use Rattle.py_text.proofs.replacing.exchanged.Goals as goal

pub places-preserved : goal.places-preserved
places-preserved c =
    let cut = c.in-Some.ensures {u = tt} in
    let before_utf8 : IsUtf8 c.in-Some.before.now = search rules in
    let made : string_bytes c.push_str-in-Some.new.self ≡ string_bytes c.places.made ++ c.in-Some.before.now ++ c.args.new.now =
    (c.in_ok-push_str-2.ensures {u = tt}).bytes ∙ ap (λ l. l ++ c.args.new.now) (c.in_ok-push_str.ensures {u = tt}).bytes in (
      rw made (exchanges_more c.args.new.now c.args.old.now c.args.text.now c.places.rest.now c.in-Some.before.now c.in-Some.after.now (string_bytes c.places.made) c.requires c.utf8.old before_utf8 c.places.invariant.0 cut.0 cut.2),
      search rules,
    )

pub returns : goal.returns
returns c =
    (c.in_ok-push_str-3.ensures {u = tt}).bytes
    ∙ exchanges_end c.args.new.now c.args.old.now c.args.text.now c.places.rest.now (string_bytes c.places.made) c.places.invariant.1 c.places.invariant.0 (rw c.in_default.is at c.cut_at_first.ensures)
