-- A walk depth first ends: what is left of it gets less with each step.
use Rattle.std.proofs.Common.{arith, ◌≡◌, ◌<◌, ◌≤◌, ◌+◌, ◌∙◌, ℕ, zero, suc, List, [], ◌∷◌, ◌++◌, Bool, true, false, ap, sym, refl, get_or, length, length-append, set}
use Rattle.std.proofs.lemmas.Bool.{false≢true}
use Rattle.scons_base.specs.declared.ids.RuleId.{RuleId}
use Rattle.scons_report.specs.Cleans.{with_entered, is_seen, steps_after}
use Rattle.scons_report.specs.declared.clean.Step.{Step}
use Rattle.scons_report.specs.declared.clean.Step.TheVariants.{Enter, Leave}

-- what entering each rule would put on the steps, of those that weren't seen from a place on
pub cost : (ℕ → List RuleId) → ℕ → List Bool → ℕ
cost led at [] = 0
cost led at (true ∷ seen) = cost led (at + 1) seen
cost led at (false ∷ seen) = length (led at) + 1 + cost led (at + 1) seen

-- and the steps that are there
unfoldable pub left_over : (ℕ → List RuleId) → List Bool → List Step → ℕ
left_over led seen steps = cost led 0 seen + length steps

-- a rule that is seen for the first time
marked : (led : ℕ → List RuleId) (at : ℕ) (seen : List Bool) (rule : ℕ) → get_or seen rule true ≡ false →
    cost led at seen ≡ length (led (at + rule)) + 1 + cost led at (set seen rule true)
unfolding cost
marked led at [] rule e = absurd (false≢true (sym e))
marked led at (true ∷ seen) zero e = absurd (false≢true (sym e))
marked led at (false ∷ seen) zero e =
    let same : at + 0 ≡ at = omega arith in
    ap (λ n. length (led n) + 1 + cost led (at + 1) seen) (sym same)
marked led at (true ∷ seen) (suc rule) e =
    let same : at + 1 + rule ≡ at + suc rule = omega arith in
    marked led (at + 1) seen rule e ∙ ap (λ n. length (led n) + 1 + cost led (at + 1) (set seen rule true)) same
marked led at (false ∷ seen) (suc rule) e =
    let same : at + 1 + rule ≡ at + suc rule = omega arith in
    let rest = marked led (at + 1) seen rule e ∙ ap (λ n. length (led n) + 1 + cost led (at + 1) (set seen rule true)) same in
    omega (arith, rest)

-- marking costs nothing
no_more : (led : ℕ → List RuleId) (at : ℕ) (seen : List Bool) (rule : ℕ) → cost led at (set seen rule true) ≤ cost led at seen
unfolding cost
no_more led at [] rule = omega arith
no_more led at (true ∷ seen) zero = omega arith
no_more led at (false ∷ seen) zero = omega arith
no_more led at (true ∷ seen) (suc rule) = no_more led (at + 1) seen rule
no_more led at (false ∷ seen) (suc rule) = let rest = no_more led (at + 1) seen rule in omega (arith, rest)

length_entered : (steps : List Step) (rules : List RuleId) → length (with_entered steps rules) ≡ length steps + length rules
length_entered steps [] = omega arith
length_entered steps (rule ∷ rules) =
    let one = length-append (with_entered steps rules) (Enter rule ∷ []) in
    let rest = length_entered steps rules in
    omega (arith, one, rest)

pushed : (steps : List Step) (step : Step) → length (steps ++ step ∷ []) ≡ length steps + 1
pushed steps step = length-append steps (step ∷ [])

-- a rule is entered
pub enters_falls : (led : ℕ → List RuleId) (seen new : List Bool) (old rest after : List Step) (rule : RuleId) → old ≡ rest ++ Enter rule ∷ [] →
    new ≡ set seen rule.0 true → after ≡ steps_after (is_seen seen rule.0) rule (led rule.0) rest → left_over led new after < left_over led seen old
unfolding left_over
enters_falls led seen new old rest after rule popped marks is = by (is_seen seen rule.0) refl
  where
    by : (met : Bool) → is_seen seen rule.0 ≡ met → cost led 0 new + length after < cost led 0 seen + length old
    by true e =
        let fewer = no_more led 0 seen rule.0 in
        let cheaper = ap (cost led 0) marks in
        let top = ap length popped ∙ pushed rest (Enter rule) in
        let stays = ap length (is ∙ ap (λ b. steps_after b rule (led rule.0) rest) e) in
        omega (arith, fewer, cheaper, top, stays)
    by false e =
        let paid = marked led 0 seen rule.0 e in
        let cheaper = ap (cost led 0) marks in
        let top = ap length popped ∙ pushed rest (Enter rule) in
        let same : 0 + rule.0 ≡ rule.0 = omega arith in
        let led_same = ap (λ n. length (led n)) same in
        let more = ap length (is ∙ ap (λ b. steps_after b rule (led rule.0) rest) e) ∙ length_entered (rest ++ Leave rule ∷ []) (led rule.0) in
        let below = pushed rest (Leave rule) in
        omega (arith, paid, cheaper, top, led_same, more, below)

-- a rule is left
pub leaves_falls : (led : ℕ → List RuleId) (seen new : List Bool) (old rest : List Step) (rule : RuleId) → old ≡ rest ++ Leave rule ∷ [] → new ≡ seen →
    left_over led new rest < left_over led seen old
unfolding left_over
leaves_falls led seen new old rest rule popped same =
    let cheaper = ap (cost led 0) same in
    let top = ap length popped ∙ pushed rest (Leave rule) in
    omega (arith, cheaper, top)
