use Rattle.std.proofs.Common.{◌≡◌, ◌∙◌, ◌-◌, ℕ, sym, ap, refl, subst, take, drop, length}
use Rattle.std.specs.Str.{chars, IsCharBoundary}
use lib.Utf8.{encodes}
use Rattle.env_subst.specs.Selections.{slice_end, place_behind}
use Rattle.env_subst.proofs.CharCuts.{whole_text, text_end, end_is, place_boundary, bytes_between}
use Rattle.env_subst.proofs.select.selected_text.Goals as goal

pub returns-in-Whole : goal.returns-in-Whole
returns-in-Whole c = rw c.in-Whole.is (whole_text c.args.text.now c.utf8.text)

pub part_between-requires-clause-from : goal.part_between-requires-clause-from
part_between-requires-clause-from c =
    let k = c.item_ends-from.ensures in
    subst (λ n. IsCharBoundary c.args.text.now n) (sym (ap (λ (p : ℕ × ℕ). p.0) k.1.1)) (place_boundary c.args.text.now c.utf8.text k.0)

pub part_between-requires-clause-to : goal.part_between-requires-clause-to
part_between-requires-clause-to c =
    let k = c.item_ends-from.ensures in
    subst (λ n. IsCharBoundary c.args.text.now n) (sym (ap (λ (p : ℕ × ℕ). p.1) k.1.1)) (place_boundary c.args.text.now c.utf8.text k.1.0)

pub returns-in-Item : goal.returns-in-Item
returns-in-Item c =
    let k = c.item_ends-from.ensures in
    let text = c.args.text.now in
    rw c.in-Item.is (c.part_between.ensures ∙ ap (λ (p : ℕ × ℕ). take (p.1 - p.0) (drop p.0 text)) k.1.1 ∙ bytes_between text c.utf8.text k.0 k.1.0 ∙ ap encodes k.1.2)

pub part_between-requires-in-Slice-clause-from : goal.part_between-requires-in-Slice-clause-from
part_between-requires-in-Slice-clause-from c =
    let text = c.args.text.now in
    subst (λ n. IsCharBoundary text n) (sym (c.place_of.ensures ∙ end_is c.in-Slice.from 0 0 text refl)) (place_boundary text c.utf8.text (slice_end c.in-Slice.from 0 (length (chars text))))

pub part_between-requires-in-Slice-clause-to : goal.part_between-requires-in-Slice-clause-to
part_between-requires-in-Slice-clause-to c =
    let text = c.args.text.now in
    subst (λ n. IsCharBoundary text n) (sym (c.place_of-in-Slice.ensures ∙ end_is c.in-Slice.to (length text) (length (chars text)) text (text_end text c.utf8.text)))
    (place_boundary text c.utf8.text (slice_end c.in-Slice.to (length (chars text)) (length (chars text))))

pub returns-in-Slice : goal.returns-in-Slice
returns-in-Slice c =
    let text = c.args.text.now in
    let i = slice_end c.in-Slice.from 0 (length (chars text)) in
    let j = slice_end c.in-Slice.to (length (chars text)) (length (chars text)) in
    let from : c.place_of.result ≡ place_behind i text = c.place_of.ensures ∙ end_is c.in-Slice.from 0 0 text refl in
    let to : c.place_of-in-Slice.result ≡ place_behind j text = c.place_of-in-Slice.ensures ∙ end_is c.in-Slice.to (length text) (length (chars text)) text (text_end text c.utf8.text) in
    rw c.in-Slice.is (c.part_between-in-Slice.ensures ∙ ap (λ (n : ℕ). take (c.place_of-in-Slice.result - n) (drop n text)) from ∙ ap (λ (n : ℕ). take (n - place_behind i text) (drop (place_behind i text) text)) to
    ∙ bytes_between text c.utf8.text i j)
