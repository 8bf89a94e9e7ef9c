use Rattle.one_rule.proofs.LineParts.{name_ascii, name_is_path}
use Rattle.one_rule.proofs.line_form.path_of.Goals as goal

pub ascii-requires : goal.ascii-requires
ascii-requires c = name_ascii c.args.name.now c.requires

pub unreachable-requires : goal.unreachable-requires
unreachable-requires c =
    let none = name_is_path c.args.name.now c.requires in
    let some = c.in-Err.ensures.fault c.in_default.not-Memory in
    let same = c.ascii.ensures in
    absurd (cc (some, same, none))
