use Rattle.std.proofs.Common.{arith, ◌≡◌, sym, List, ℕ, true, false, Result, Ok, Err, IfOk}
use Rattle.scons_base.specs.declared.memory.Memory.{Memory}
use Rattle.scons_base.specs.Parts.{is_absolute}
use Rattle.scons_base.specs.Resolve as spec
use Rattle.scons_base.proofs.Spellings.{relative_again, absolute_spelled}
use Rattle.scons_base.proofs.path.PathText.spelled.Goals as goal

copied : (P : List ℕ → Type 0) (path : List ℕ) (r : Result (List ℕ) Memory) → P path → IfOk r (λ p. p ≡ path) → IfOk r P
copied P path (Ok p) h e = rw e h
copied P path (Err fault) h e = e

pub returns-then-not-is_absolute-clause-path : goal.returns-then-not-is_absolute-clause-path
returns-then-not-is_absolute-clause-path c =
    let relative : is_absolute c.args.self.now ≡ false = grind (arith, c.normal_text-path.ensures.value) in
    let again = relative_again c.args.top.now c.args.self.now c.normal_text-path.ensures.valid relative in
    copied (λ p. p ≡ spec.spelling c.args.top.now c.args.self.now) c.args.self.now _ (sym again.0) c.copy.ensures

pub returns-then-not-is_absolute-clause-again : goal.returns-then-not-is_absolute-clause-again
returns-then-not-is_absolute-clause-again c =
    let relative : is_absolute c.args.self.now ≡ false = grind (arith, c.normal_text-path.ensures.value) in
    let again = relative_again c.args.top.now c.args.self.now c.normal_text-path.ensures.valid relative in
    copied (λ p. spec.IsResolved c.args.top.now p) c.args.self.now _ again.1 c.copy.ensures

pub normal-requires : goal.normal-requires
normal-requires c =
    let absolute : is_absolute c.args.self.now ≡ true = grind (arith, c.normal_text-path.ensures.value) in
    (absolute_spelled c.args.top.now c.args.self.now _ _ _ c.normal_text.ensures.valid c.normal_text-path.ensures.valid absolute
    c.normal_text.ensures.value c.normal_text-path.ensures.value (c.in_ok-spelling.ensures {u = tt})).0

pub returns-clause-again : goal.returns-clause-again
returns-clause-again c =
    let absolute : is_absolute c.args.self.now ≡ true = grind (arith, c.normal_text-path.ensures.value) in
    rw c.normal.ensures ((absolute_spelled c.args.top.now c.args.self.now _ _ _ c.normal_text.ensures.valid c.normal_text-path.ensures.valid absolute
    c.normal_text.ensures.value c.normal_text-path.ensures.value (c.in_ok-spelling.ensures {u = tt})).1)
