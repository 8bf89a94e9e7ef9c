use Rattle.std.proofs.Common.{◌≡◌, ◌+◌, List, ℕ, length, drop, sym, ap, ◌∙◌, arith}
use Rattle.std.proofs.lemmas.List.{length-drop}
use Rattle.world_api.specs.Replacing.{replaced}
use Rattle.text_files.specs.Refusals.{told}
use Rattle.text_files.proofs.ReplaceLemmas.{grows, tail, unchanged}
use Rattle.text_files.proofs.replacing.replaced_len.Goals as goal

pub overflow_add-rest : goal.overflow_add-rest
overflow_add-rest c =
    let found = rw c.new-finder.ensures at (c.in-Some.ensures {u = tt}) in
    let fits = found.1.fits in
    omega (arith, fits, c.loop-place.invariant.within)

pub loop-place-preserved : goal.loop-place-preserved
loop-place-preserved c =
    let key = c.args.key.now in
    let value = c.args.value.now in
    let rest = c.loop-place.rest.now in
    let behind = drop (c.in-Some.place + length key) rest in
    let found = rw c.new-finder.ensures at (c.in-Some.ensures {u = tt}) in
    let sum : told (c.saturating_add-len.result + length (replaced key value behind)) ≡ told (c.loop-place.len + length (replaced key value rest)) =
    omega (arith, c.saturating_add.ensures, c.saturating_add-len.ensures, grows key value c.in-Some.place rest c.requires found.1 found.0.before) in
    record {
      sum = ap (λ (behind : List ℕ). told (c.saturating_add-len.result + length (replaced key value behind))) (tail rest (c.in-Some.place + length key)) ∙ sum ∙ c.loop-place.invariant.sum;
      within = omega (arith, c.loop-place.invariant.within, ap length (tail rest (c.in-Some.place + length key)), length-drop (c.in-Some.place + length key) rest);
    }

pub returns : goal.returns
returns c =
    let none = rw c.new-finder.ensures at (c.in_default.ensures {u = tt}) in
    c.saturating_add-2.ensures
    ∙ ap (λ (rest : List ℕ). told (c.loop-place.len + length rest)) (sym (unchanged c.args.key.now c.args.value.now c.loop-place.rest.now none)) ∙ c.loop-place.invariant.sum
