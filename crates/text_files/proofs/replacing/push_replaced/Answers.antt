use Rattle.std.proofs.Common.{◌+◌, ◌++◌, List, ℕ, length, drop, sym, ap, ◌∙◌}
use Rattle.world_api.specs.Replacing.{replaced}
use Rattle.text_files.proofs.ReplaceLemmas.{goes_on, tail, unchanged}
use Rattle.text_files.proofs.replacing.push_replaced.Goals as goal

pub loop-place-preserved : goal.loop-place-preserved
loop-place-preserved c =
    let key = c.args.key.now in
    let value = c.args.value.now in
    let rest = c.loop-place.rest.now in
    let found = rw c.new-finder.ensures at (c.in-Some.ensures {u = tt}) in
    ap (λ (behind : List ℕ). c.extend_from_slice-in-Some.new.self.items ++ replaced key value behind) (tail rest (c.in-Some.place + length key))
    ∙ ap (λ (made : List ℕ). made ++ replaced key value (drop (c.in-Some.place + length key) rest)) ((c.in_ok-extend_from_slice-2.ensures {u = tt}).items ∙ ap (λ (made : List ℕ). made ++ value) (c.in_ok-extend_from_slice.ensures {u = tt}).items)
    ∙ goes_on key value c.in-Some.place rest c.loop-place.made.items _ c.requires found.1 found.0.before c.loop-place.invariant

pub returns : goal.returns
returns c =
    let none = rw c.new-finder.ensures at (c.in_default.ensures {u = tt}) in
    (c.in_ok-extend_from_slice-3.ensures {u = tt}).items
    ∙ ap (λ (rest : List ℕ). c.loop-place.made.items ++ rest) (sym (unchanged c.args.key.now c.args.value.now c.loop-place.rest.now none)) ∙ c.loop-place.invariant
