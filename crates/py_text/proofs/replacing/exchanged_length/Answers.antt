use Rattle.std.proofs.Common.{rules, ◌++◌, ap, length, ◌∙◌}
use Rattle.std.specs.Str.{IsUtf8}
use Rattle.py_text.specs.Sizes.{saturated}
use Rattle.py_text.proofs.CutLemmas.{exchanges_more, exchanges_end}
use Rattle.py_text.proofs.JoinLemmas.{one_more, two_more}
use Rattle.py_text.proofs.replacing.exchanged_length.Goals as goal

pub places-preserved : goal.places-preserved
places-preserved c =
    let cut = c.in-Some.ensures {u = tt} in
    let before_utf8 : IsUtf8 c.in-Some.before.now = search rules in
    let made = c.places.invariant.0.0 in (
      (
        made ++ c.in-Some.before.now ++ c.args.new.now,
        two_more made c.in-Some.before.now c.args.new.now c.places.length c.saturating_add.result c.saturating_add-length.result c.places.invariant.0.1 c.saturating_add.ensures c.saturating_add-length.ensures,
        exchanges_more c.args.new.now c.args.old.now c.args.text.now c.places.rest.now c.in-Some.before.now c.in-Some.after.now made c.requires c.utf8.old before_utf8 c.places.invariant.0.2 cut.0 cut.2,
      ),
      search rules,
    )

pub returns : goal.returns
returns c =
    let made = c.places.invariant.0.0 in
    one_more made c.places.rest.now c.places.length c.saturating_add-2.result c.places.invariant.0.1 c.saturating_add-2.ensures
    ∙ ap (λ l. saturated (length l))
    (exchanges_end c.args.new.now c.args.old.now c.args.text.now c.places.rest.now made c.places.invariant.1 c.places.invariant.0.2 (rw c.in_default.is at c.cut_at_first.ensures))
