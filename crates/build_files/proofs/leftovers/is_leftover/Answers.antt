use Rattle.std.proofs.Common.{◌∙◌, ℕ, ap, sym, arith}
use Rattle.world_api.proofs.Looking.{looks_joined}
use Rattle.build_files.proofs.Left.{one_of, none_of, left_is}
use Rattle.build_files.specs.Leftovers.{copied_from}
use Rattle.build_files.proofs.leftovers.is_leftover.Goals as goal

pub returns-clause-looks : goal.returns-clause-looks
returns-clause-looks g c = looks_joined _ _ _ _ c.copied_from.ensures.looks c.is_file_at.ensures.looks

pub returns-clause-is : goal.returns-clause-is
returns-clause-is g c =
    let one = one_of c.as_slice.result.now c.path-item.result (omega (arith, c.in-len1.len_at_least, c.in-len1.len_below)) c.path-item.is in
    let copy = c.in_ok-was_copied.ensures.is c.if-not-branch.false in
    left_is g.W.Disk.meaning c.args.graph.now c.args.rec.now c.path-item.result c.copied_from.new.world c.is_file_at.new.world c.is_file_at.result
    (sym c.as_slice.ensures ∙ one) copy (sym c.is_made.ensures ∙ c.if-is_made.false) c.is_file_at.ensures.looks
    (λ t. ap (λ (count : ℕ). copied_from c.args.graph.now count (g.W.Disk.meaning.around c.copied_from.new.world) c.path-item.result) (sym c.rules.ensures.len)
    ∙ (sym (c.in_ok-copied_from.ensures.from t) ∙ none_of _ (sym c.is_some.ensures ∙ c.if-is_some.false))) c.is_file_at.ensures.stands
