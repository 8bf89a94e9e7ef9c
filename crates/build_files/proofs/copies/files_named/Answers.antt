use Rattle.std.proofs.Common.{◌∙◌, ◌≡◌, ◌++◌, ◌||◌, ap, List}
use Rattle.scons_base.specs.declared.ids.NodeId.{NodeId}
use Rattle.build_files.specs.Marked.{is_among}
use Rattle.build_files.proofs.Marking.{TakesSources, named_among, takes_all, takes_kept}
use Rattle.build_files.proofs.copies.files_named.Goals.{in-Shell+in_ok-add_kept-in-Shell, in-Copy+in_ok-extend_from_slice-in-Copy}
use Rattle.build_files.proofs.copies.files_named.Goals as goal

pub returns : goal.returns
returns c =
    let out : (n : NodeId) → is_among c.insert_all.new.set.keys n ≡ is_among c.args.rule.now.ignored n = λ n.
    c.in_ok-insert_all.ensures n ∙ ap (λ (ns : List NodeId). is_among ns n || is_among c.as_slice-2.result.now n) c.new-ignored.ensures.empty
    ∙ ap (λ (ns : List NodeId). is_among ns n) c.as_slice-2.ensures in
    let required = c.in_ok-extend_from_slice.ensures.items ∙ ap (λ ns. ns ++ c.as_slice.result.now) c.new-nodes.ensures.items ∙ c.as_slice.ensures in
    let takes : TakesSources c.args.rule.now c.extend_from_slice.new.self.items c.match-rule.nodes.items = elim c.match-rule.branch [
      | in-Shell+in_ok-add_kept-in-Shell w ↦
          takes_kept c.args.rule.now c.insert_all.new.set.keys _ _ w.in-Shell.is out (ap (λ ns. ns.items) w.nodes-is ∙ w.in_ok-add_kept-in-Shell.ensures)
      | in-Copy+in_ok-extend_from_slice-in-Copy w ↦
          takes_all c.args.rule.now _ _ _ w.as_slice-in-Copy.ensures (ap (λ ns. ns.items) w.nodes-is ∙ w.in_ok-extend_from_slice-in-Copy.ensures.items)
    ] in
    named_among c.args.rule.now c.insert_all.new.set.keys c.extend_from_slice.new.self.items c.match-rule.nodes.items c.add_kept-2.new.nodes.items c.add_kept-3.new.nodes.items
    out required takes c.in_ok-add_kept.ensures c.in_ok-add_kept-2.ensures
