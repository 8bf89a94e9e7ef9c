use Rattle.std.proofs.Common.{◌∙◌, ap, List}
use Rattle.scons_base.specs.declared.ids.NodeId.{NodeId}
use Rattle.build_files.specs.Marked.{is_among}
use Rattle.build_files.proofs.Marking.{kept_among, neither_among}
use Rattle.build_files.proofs.copies.files_kept.Goals as goal

pub returns : goal.returns
returns c = λ n e ignored target.
    let none = ap (λ (ns : List NodeId). is_among ns n) c.new-left_out.ensures.empty in
    let first = neither_among c.new-left_out.result.keys c.as_slice.result.now c.insert_all.new.set.keys n (c.in_ok-insert_all.ensures n) none
    (ap (λ (ns : List NodeId). is_among ns n) c.as_slice.ensures ∙ ignored) in
    let out = neither_among c.insert_all.new.set.keys c.as_slice-2.result.now c.insert_all-2.new.set.keys n (c.in_ok-insert_all-2.ensures n) first
    (ap (λ (ns : List NodeId). is_among ns n) c.as_slice-2.ensures ∙ target) in
    kept_among c.insert_all-2.new.set.keys c.new-kept.result.items c.args.found.now c.add_kept.new.nodes.items n c.in_ok-add_kept.ensures e out
