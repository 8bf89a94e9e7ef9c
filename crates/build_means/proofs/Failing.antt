-- What ended otherwise than well isn't settled.
use Rattle.std.proofs.Common.{◌≡◌, true, false, List, [], ◌∷◌, refl, sym, subst}
use Rattle.build_model.specs.Rules.{Rule, Setting, Among, here, there}
use Rattle.build_model.specs.Steps.{Step, Fresh, Began, Ended, Lacks, Halts, Build, settled, done, IsRun}

settled_done : {r : Rule} (past : List Step) → Among r (settled past) → Among r (done past)
settled_done [] m = elim m [ ]
settled_done (Fresh x ∷ past) here = here
settled_done (Fresh x ∷ past) (there m) = there (settled_done past m)
settled_done (Began x ∷ past) m = settled_done past m
settled_done (Ended x true ∷ past) here = here
settled_done (Ended x true ∷ past) (there m) = there (settled_done past m)
settled_done (Ended x false ∷ past) m = there (settled_done past m)
settled_done (Lacks x p ∷ past) m = there (settled_done past m)
settled_done (Halts ∷ past) m = settled_done past m

failed_done : {r : Rule} (past : List Step) → Among (Ended r false) past → Among r (done past)
failed_done [] m = elim m [ ]
failed_done (Fresh x ∷ past) (there m) = there (failed_done past m)
failed_done (Began x ∷ past) (there m) = failed_done past m
failed_done (Ended x well ∷ past) here = here
failed_done (Ended x well ∷ past) (there m) = there (failed_done past m)
failed_done (Lacks x p ∷ past) (there m) = there (failed_done past m)
failed_done (Halts ∷ past) (there m) = failed_done past m

module _ (s : Setting) (b : Build) where
  apart : {q r : Rule} (past : List Step) → IsRun s b past → Among q (settled past) → Among (Ended r false) past → q ≡ r → ⊥
  apart [] run m n e = elim m [ ]
  apart (Fresh x ∷ past) run here (there n) e = run.0.0.not_done (subst (λ y. Among y (done past)) (sym e) (failed_done past n))
  apart (Fresh x ∷ past) run (there m) (there n) e = apart past run.1 m n e
  apart (Began x ∷ past) run m (there n) e = apart past run.1 m n e
  apart (Ended x true ∷ past) run here (there n) e = run.0.0.not_done (subst (λ y. Among y (done past)) (sym e) (failed_done past n))
  apart (Ended x true ∷ past) run (there m) (there n) e = apart past run.1 m n e
  apart (Ended x false ∷ past) run m here e = run.0.not_done (subst (λ y. Among y (done past)) e (settled_done past m))
  apart (Ended x false ∷ past) run m (there n) e = apart past run.1 m n e
  apart (Lacks x p ∷ past) run m (there n) e = apart past run.1 m n e
  apart (Halts ∷ past) run m (there n) e = apart past run.1 m n e

  pub settled_not_failed : {r : Rule} (past : List Step) → IsRun s b past → Among r (settled past) → Among (Ended r false) past → ⊥
  settled_not_failed past run m n = apart past run m n refl
