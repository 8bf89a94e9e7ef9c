-- Where numbers of rules lead to, by what each of them needs. A number without a list needs nothing.
use Rattle.std.specs.Prelude.{◌⊎◌, ℕ, List, [], get_or}
use Rattle.build_model.specs.Rules.{Among}

-- One of these numbers, or one that is needed by a number to which they lead.
pub data IsLed (needs : List (List ℕ)) (roots : List ℕ) : ℕ → Type 0 where
  is_root : {n : ℕ} → Among n roots → IsLed needs roots n
  follows : {n : ℕ} (m : ℕ) → IsLed needs roots m → Among n (get_or needs m []) → IsLed needs roots n

-- a rule needs the other one, directly or through others
abbrev pub LeadsTo : List (List ℕ) → ℕ → ℕ → Type 0
LeadsTo needs n m = IsLed needs (get_or needs n []) m

-- just these numbers, and all that they lead to
pub record AreLed (needs : List (List ℕ)) (roots all : List ℕ) : Type 0 where
  pub only : (n : ℕ) → Among n all → IsLed needs roots n
  pub whole : (n : ℕ) → IsLed needs roots n → Among n all

-- All that some numbers lead to is being met: nothing else is met or waits, and what a met one needs is met or waits.
pub record IsUnderWay (needs : List (List ℕ)) (roots met waiting : List ℕ) : Type 0 where
  pub met_only : (n : ℕ) → Among n met → IsLed needs roots n
  pub waiting_only : (n : ℕ) → Among n waiting → IsLed needs roots n
  pub roots_in : (n : ℕ) → Among n roots → Among n met ⊎ Among n waiting
  pub needs_in : (n m : ℕ) → Among m met → Among n (get_or needs m []) → Among n met ⊎ Among n waiting
