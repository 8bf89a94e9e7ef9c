use Rattle.std.proofs.Common.{◌≡◌, ◌+◌, ◌++◌, length, take, drop, refl, sym, ap, subst, ◌∙◌, arith, length-drop}
use Rattle.std.proofs.lemmas.List.{drop-drop, take_rest}
use Rattle.sign_store.specs.Maps.{map_in}
use Rattle.sign_store.specs.Images.{after_entries, entry_in}
use Rattle.sign_store.specs.Tables.{Map}
use Rattle.sign_store.proofs.LocalLemmas.{reads_on}
use Rattle.sign_store.proofs.ImageLemmas.{entry_read, entries_read}
use Rattle.sign_store.proofs.entries.apply_all.Goals as goal

pub loop-change-preserved : goal.loop-change-preserved
loop-change-preserved c =
    let rest = take_rest c.args.body.now c.loop-change.len in
    let within = rw c.in-Some.is at c.in_ok-change.ensures.within in
    let entry = sym (ap (entry_in c.args.version) rest) ∙ sym c.in_ok-change.ensures.entry ∙ c.in-Some.is in
    record {
      fits = omega (arith, within.1, ap length rest, length-drop c.loop-change.len c.args.body.now);
      reads = λ behind. subst (λ (m : Map). after_entries c.args.version (length (take (c.loop-change.len + c.in-Some.size) c.args.body.now ++ behind)) (map_in c.args.map.now) (take (c.loop-change.len + c.in-Some.size) c.args.body.now ++ behind) ≡ after_entries c.args.version (length behind) m behind)
          (sym c.in_ok-apply.ensures.map)
          (reads_on c.args.version (map_in c.args.map.now) (map_in c.loop-change.map) c.args.body.now (drop c.loop-change.len c.args.body.now) behind c.loop-change.len c.in-Some.size c.in-Some.change
          refl (omega (arith, within.1, ap length rest, length-drop c.loop-change.len c.args.body.now)) entry c.loop-change.invariant.reads);
      ordered = λ before. c.in_ok-apply.ensures.ordered (rw c.in-Some.is at c.in_ok-change.ensures.whole) (c.loop-change.invariant.ordered before);
      so_far = entry_read c.args.version (map_in c.loop-change.map) (map_in c.apply.new.map) (after_entries c.args.version (length c.args.body.now) (map_in c.args.map.now) c.args.body.now)
          (drop c.loop-change.len c.args.body.now) (drop (c.loop-change.len + c.in-Some.size) c.args.body.now) c.in-Some.change c.in-Some.size
          entry c.in_ok-apply.ensures.map
          (sym (drop-drop c.in-Some.size c.loop-change.len c.args.body.now)) c.loop-change.invariant.so_far;
    }

pub returns-clause-map : goal.returns-clause-map
returns-clause-map c =
    let rest = take_rest c.args.body.now c.loop-change.len in
    entries_read c.args.version (map_in c.loop-change.map) (after_entries c.args.version (length c.args.body.now) (map_in c.args.map.now) c.args.body.now) (drop c.loop-change.len c.args.body.now)
    (sym (ap (entry_in c.args.version) rest) ∙ sym c.in_ok-change.ensures.entry ∙ c.in_default.is) c.loop-change.invariant.so_far

pub returns-clause-reads : goal.returns-clause-reads
returns-clause-reads c =
    let rest = take_rest c.args.body.now c.loop-change.len in
    record {
      reads = c.loop-change.invariant.reads;
      ends = sym (ap (entry_in c.args.version) rest) ∙ sym c.in_ok-change.ensures.entry ∙ c.in_default.is;
    }

pub returns-clause-ordered : goal.returns-clause-ordered
returns-clause-ordered c = c.loop-change.invariant.ordered
