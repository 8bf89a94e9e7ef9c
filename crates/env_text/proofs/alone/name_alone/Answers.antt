use Rattle.std.proofs.Common.{arith, ◌≡◌, ◌≤◌, ◌<◌, ◌∙◌, sym, ap, length, None, Some}
use Rattle.std.specs.Option.{option_copied}
use Rattle.std.proofs.lemmas.Str.{IsCharBoundary-start}
use Rattle.env_text.specs.Alone.{name_alone, name_and_rest, whole_name}
use Rattle.env_text.specs.Views.{plain}
use Rattle.env_text.proofs.Ends.{not_over, over}
use Rattle.env_text.proofs.alone.name_alone.Goals as goal

pub next_part-requires : goal.next_part-requires
next_part-requires c = IsCharBoundary-start c.args.text.now c.utf8.text

pub returns-then-next-text : goal.returns-then-next-text
returns-then-next-text c =
    let left : c.in-Part.next < length c.args.text.now = grind arith in
    sym (ap name_alone ((c.in-Part.ensures {u = tt}).reads) ∙ not_over (whole_name (plain c.in-Part.part)) c.args.text.now c.in-Part.next left)
