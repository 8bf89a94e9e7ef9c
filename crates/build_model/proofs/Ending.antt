-- Once a build is over it stays so.
use Rattle.std.proofs.Common.{◌≡◌, Bool, true, false, if◌then◌else◌, List, ◌∷◌, ◌++◌, refl, sym, ap, ◌∙◌}
use Rattle.build_model.specs.Rules.{Path, Rule, Setting, Among, here, there}
use Rattle.build_model.specs.Steps.{Step, Fresh, Began, Ended, Lacks, Halts, Build, is_over, IsRun}
use Rattle.build_model.specs.Resting.{IsFaulty, has_failed, lacks_one}
use Rattle.build_model.proofs.Lists.{true_false}
use Rattle.build_model.proofs.Runs.{run_before}

over_if : {b : Bool} (keeps_going : Bool) → b ≡ true → (if keeps_going then b else true) ≡ true
over_if true e = e
over_if false e = refl

-- a step behind one that ended the build changes nothing
over_later : (keeps_going : Bool) (step : Step) (past : List Step) → is_over keeps_going past ≡ true → is_over keeps_going (step ∷ past) ≡ true
over_later k (Fresh x) past e = e
over_later k (Began x) past e = e
over_later k (Ended x true) past e = e
over_later k (Ended x false) past e = over_if k e
over_later k (Lacks x p) past e = over_if k e
over_later k Halts past e = refl

halted : {past : List Step} (k : Bool) → Among Halts past → is_over k past ≡ true
halted k here = refl
halted k (there {y = y} {xs = past} m) = over_later k y past (halted k m)

failed : {r : Rule} {past : List Step} → Among (Ended r false) past → is_over false past ≡ true
failed here = refl
failed (there {y = y} {xs = past} m) = over_later false y past (failed m)

lacked : {r : Rule} {p : Path} {past : List Step} → Among (Lacks r p) past → is_over false past ≡ true
lacked here = refl
lacked (there {y = y} {xs = past} m) = over_later false y past (lacked m)

pub faulty_over : {r : Rule} {past : List Step} → IsFaulty past r → is_over false past ≡ true
faulty_over (has_failed m) = failed m
faulty_over (lacks_one p m) = lacked m

pub nothing_after_fault : (s : Setting) (b : Build) (later past : List Step) (r : Rule) → IsRun s b (later ++ Began r ∷ past) →
    (Among Halts past → ⊥) × (b.keeps_going ≡ false → (x : Rule) → IsFaulty past x → ⊥)
nothing_after_fault s b later past r run =
    let goes_on = (run_before s b later (Began r ∷ past) run).0.0.goes_on in (
      λ m. true_false (sym (halted b.keeps_going m) ∙ goes_on),
      λ stops x fault. true_false (sym (faulty_over fault) ∙ (ap (λ k. is_over k past) (sym stops) ∙ goes_on)),
    )
