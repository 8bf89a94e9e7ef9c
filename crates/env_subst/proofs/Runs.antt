-- What comes of all tasks.
use Rattle.std.proofs.Common.{◌≡◌, ◌∙◌, ℕ, List, [], ◌∷◌, Ok, Err, refl, sym, ap}
use Rattle.env_pieces.specs.Pieces.{Sheet}
use Rattle.env_subst.specs.declared.fault.SubstFault.{SubstFault}
use Rattle.env_subst.specs.Settings.{Setting}
use Rattle.env_subst.specs.Expansions.{State, Answer, and_then, Names, text_at, started}
use Rattle.env_subst.specs.Desks.{PlainTask, Whole, resumes, Desk, left_of, behind_all, with_task}
use Rattle.env_subst.proofs.Doing.{desk}

-- nothing is left to do
pub run_ends : (w : Setting) (tasks : List PlainTask) (names : Names) (sheet : Sheet) (n : ℕ) (whole : Whole) → left_of w (desk tasks names sheet n) ≡ whole → tasks ≡ []
    → whole ≡ Ok (record { sheet = sheet; references = n }, names)
run_ends w tasks names sheet n whole e none = sym e ∙ ap (λ ts. resumes w ts names (record { sheet = sheet; references = n })) none

-- a task is taken off and done
module _ (w : Setting) (tasks rest : List PlainTask) (names : Names) (sheet : Sheet) (n : ℕ) (whole : Whole) (t : PlainTask)
    (so_far : left_of w (desk tasks names sheet n) ≡ whole) (taken_off : tasks ≡ t ∷ rest) where
  the_whole : left_of w (with_task t (desk rest names sheet n)) ≡ whole
  the_whole = ap (λ ts. resumes w ts names (record { sheet = sheet; references = n })) (sym taken_off) ∙ so_far

  pub run_on : (after : Desk) → left_of w after ≡ left_of w (with_task t (desk rest names sheet n)) → left_of w after ≡ whole
  run_on after h = h ∙ the_whole

  pub run_fails : (fault : SubstFault) → left_of w (with_task t (desk rest names sheet n)) ≡ Err fault → whole ≡ Err fault
  run_fails fault h = sym the_whole ∙ h

-- the answer, with the names that are open
abbrev with_names : Names → Answer → Whole
with_names names (Ok s) = Ok (s, names)
with_names names (Err fault) = Err fault

named : (names : Names) (a : Answer) → and_then a (λ s. Ok (s, names)) ≡ with_names names a
named names (Ok s) = refl
named names (Err fault) = refl

named_ok : (names after : Names) (a : Answer) (s : State) → with_names names a ≡ Ok (s, after) → (a ≡ Ok s) × (after ≡ names)
named_ok names after (Ok x) s e = let p : ◌≡◌ {A = State × Names} (x, names) (s, after) = cc in (ap (λ q. Ok q.0) p, sym (ap (λ q. q.1) p))
named_ok names after (Err fault) s e = let no : ⊥ = cc in absurd no

named_err : (names : Names) (a : Answer) (fault : SubstFault) → with_names names a ≡ Err fault → a ≡ Err fault
named_err names (Ok x) fault e = cc
named_err names (Err f) fault e = let same : f ≡ fault = cc in ap (λ x. Err x) same

-- a text is begun where nothing else is left to do, and then all is done
module _ (w : Setting) (d : Desk) (entered names : Names) (n : ℕ) (owner t own given : List ℕ)
    (fresh : d ≡ record { tasks = []; names = entered; state = started n }) (the_names : entered ≡ names) (the_owner : owner ≡ own) (the_text : t ≡ given) where
  begun : behind_all w (text_at w d.names owner t) d ≡ with_names names (text_at w names own given (started n))
  begun =
      ap (λ x. behind_all w (text_at w x.names owner t) x) fresh
      ∙ named entered (text_at w entered owner t (started n))
      ∙ ap (λ x. with_names x (text_at w x owner t (started n))) the_names
      ∙ ap (λ x. with_names names (text_at w names x t (started n))) the_owner
      ∙ ap (λ x. with_names names (text_at w names own x (started n))) the_text

  pub begins_badly : (e : SubstFault) → behind_all w (text_at w d.names owner t) d ≡ Err e → text_at w names own given (started n) ≡ Err e
  begins_badly e h = named_err names (text_at w names own given (started n)) e (sym begun ∙ h)

  pub is_read : (after : Desk) (left : Names) (s : State) → left_of w after ≡ behind_all w (text_at w d.names owner t) d → left_of w after ≡ Ok (s, left)
      → (text_at w names own given (started n) ≡ Ok s) × (left ≡ names)
  is_read after left s h r = named_ok names left (text_at w names own given (started n)) s (sym begun ∙ sym h ∙ r)

  pub is_not_read : (after : Desk) (e : SubstFault) → left_of w after ≡ behind_all w (text_at w d.names owner t) d → left_of w after ≡ Err e → text_at w names own given (started n) ≡ Err e
  is_not_read after e h r = named_err names (text_at w names own given (started n)) e (sym begun ∙ sym h ∙ r)
