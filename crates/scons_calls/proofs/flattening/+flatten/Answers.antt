use Rattle.std.proofs.Common.{rules, arith, true, false, ◌≡◌, ◌≢◌, ◌==◌, ◌∙◌, ◌-◌, ℕ, Some, Err, ap, sym, get_or}
use Rattle.std.proofs.lemmas.Bool.Decides.{nat_tests}
use Rattle.std.proofs.lemmas.Option.{slice_get-get_or}
use Rattle.py_heap.specs.declared.value.Value.{Value}
use Rattle.py_heap.specs.declared.value.Value.TheVariants as v
use Rattle.py_heap.specs.Heap.{items_of}
use Rattle.scons_calls.specs.declared.fault.CallFault.TheVariants as fault
use Rattle.scons_calls.specs.Flattening.{flat_by}
use Rattle.scons_calls.proofs.Flats.{flat_whole, step, inside, full_step, list_step, flat_with, inside_below, inside_none}
use Rattle.scons_calls.proofs.Loops.{along_stop}
use Rattle.scons_calls.proofs.flattening.+flatten.Goals as goal

pub returns-then-flat-eq0-clause-fault : goal.returns-then-flat-eq0-clause-fault
returns-then-flat-eq0-clause-fault t c = λ ne.
    let h = c.args.heap.now in
    let x : Value = get_or c.args.values.now c.loop-value.value-index v.Nil in
    let room : c.loop-value.flat.room ≡ 0 = sym (ap (λ f. f.room) c.flat.view_is) ∙ c.if-flat-eq0.true in
    let full : (c.loop-value.flat.room == 0) ≡ true = ap (λ (n : ℕ). n == 0) room in
    along_stop (step h (inside h c.args.levels)) c.args.values.now c.loop-value.value-index c.loop-value.flat x fault.Arguments _ (slice_get-get_or c.args.values.now c.loop-value.value-index v.Nil c.loop-value-test.true)
    (full_step h (inside h c.args.levels) c.loop-value.flat x full) (c.loop-value.invariant ∙ flat_whole h c.args.levels c.args.flat.now c.args.values.now)

pub returns-then-levels-eq0-clause-fault : goal.returns-then-levels-eq0-clause-fault
returns-then-levels-eq0-clause-fault t c = λ ne.
    let h = c.args.heap.now in
    let x : Value = get_or c.args.values.now c.loop-value.value-index v.Nil in
    let same : c.flat.inside.room ≡ c.loop-value.flat.room = ap (λ f. f.room) c.flat.view_is in
    let some : Some c.in-Some.inner.now ≡ items_of h x = rw c.in-Some.is at c.items_of.ensures in
    let left : (c.loop-value.flat.room == 0) ≡ false = grind (arith, nat_tests, same, c.if-flat-eq0.false) in
    along_stop (step h (inside h c.args.levels)) c.args.values.now c.loop-value.value-index c.loop-value.flat x fault.Arguments _ (slice_get-get_or c.args.values.now c.loop-value.value-index v.Nil c.loop-value-test.true)
    (list_step h (inside h c.args.levels) c.loop-value.flat x c.in-Some.inner.now (Err fault.Arguments) left (sym some) (inside_none h c.args.levels (flat_with (c.loop-value.flat.room - 1) c.loop-value.flat.items) c.in-Some.inner.now c.if-levels-eq0.true))
    (c.loop-value.invariant ∙ flat_whole h c.args.levels c.args.flat.now c.args.values.now)

pub returns-in_err-flatten-in-Some-clause-fault : goal.returns-in_err-flatten-in-Some-clause-fault
returns-in_err-flatten-in-Some-clause-fault t c =
    let h = c.args.heap.now in
    let x : Value = get_or c.args.values.now c.loop-value.value-index v.Nil in
    let seen : flat_with c.flat.inside.room c.flat.inside.items.items ≡ c.loop-value.flat = c.flat.view_is in
    let same : c.flat.inside.room ≡ c.loop-value.flat.room = ap (λ f. f.room) c.flat.view_is in
    let some : Some c.in-Some.inner.now ≡ items_of h x = rw c.in-Some.is at c.items_of.ensures in
    let left : (c.loop-value.flat.room == 0) ≡ false = grind (arith, nat_tests, same, c.if-flat-eq0.false) in
    let stop : c.in_err-flatten-in-Some.field-0.0 ≢ fault.Memory → flat_by h c.args.levels c.args.flat.now c.args.values.now ≡ Err c.in_err-flatten-in-Some.field-0.0 = λ ne.
    let made : flat_by h (c.args.levels - 1) (flat_with (c.flat.inside.room - 1) c.flat.inside.items.items) c.in-Some.inner.now ≡ Err c.in_err-flatten-in-Some.field-0.0 = c.in_err-flatten-in-Some.ensures.fault ne in
    let at : flat_by h (c.args.levels - 1) (flat_with (c.loop-value.flat.room - 1) c.loop-value.flat.items) c.in-Some.inner.now ≡ Err c.in_err-flatten-in-Some.field-0.0 = ap (λ f. flat_by h (c.args.levels - 1) (flat_with (f.room - 1) f.items) c.in-Some.inner.now) (sym seen) ∙ made in
    along_stop (step h (inside h c.args.levels)) c.args.values.now c.loop-value.value-index c.loop-value.flat x c.in_err-flatten-in-Some.field-0.0 _ (slice_get-get_or c.args.values.now c.loop-value.value-index v.Nil c.loop-value-test.true)
    (list_step h (inside h c.args.levels) c.loop-value.flat x c.in-Some.inner.now (Err c.in_err-flatten-in-Some.field-0.0) left (sym some) (inside_below h c.args.levels (flat_with (c.loop-value.flat.room - 1) c.loop-value.flat.items) c.in-Some.inner.now _ c.if-levels-eq0.false at))
    (c.loop-value.invariant ∙ flat_whole h c.args.levels c.args.flat.now c.args.values.now) in
    search rules
