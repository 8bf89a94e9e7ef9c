use Rattle.std.proofs.Common.{arith, ◌≡◌, ◌∙◌, ◌+◌, ◌-◌, List, length, get_or, set, reverse, ap}
use Rattle.py_host.specs.Names.{Names, with_name}
use Rattle.py_meaning.specs.States.{Frame}
use Rattle.py_meaning.specs.Lookup.{set_inner}
use Rattle.py_state.proofs.Frames.{reverse_set}
use Rattle.py_state.proofs.frame.Frame.bind_inner.Goals as goal

pub returns-in_ok-set : goal.returns-in_ok-set
returns-in_ok-set c =
    let names = c.self.inside.inner.items in
    let last = c.len-count.result - 1 in
    let at = c.index_mut-names.result.now in
    let count : length names ≡ last + 1 = omega (arith, c.self.inside.inner.ok.0) in
    let new : c.set.new.self ≡ with_name (get_or names last at) c.args.name.now c.args.value =
    c.in_ok-set.ensures.ok ∙ ap (λ n. with_name at n c.args.value) c.in_ok-name.ensures ∙ ap (λ g. with_name g c.args.name.now c.args.value) c.index_mut-names.ensures.value in
    let inner : reverse (set names last c.set.new.self) ≡ set_inner c.args.self.now.inner c.args.name.now c.args.value =
    ap (λ w. reverse (set names last w)) new ∙ reverse_set names last at c.args.name.now c.args.value count
    ∙ ap (λ (f : Frame). set_inner f.inner c.args.name.now c.args.value) c.self.view_is in
    let changed : Frame → Frame = λ f. record f { inner = reverse (set names last c.set.new.self) } in
    let whole : List Names → Frame = λ names. record c.args.self.now { inner = names } in
    ap changed c.self.view_is ∙ ap whole inner
