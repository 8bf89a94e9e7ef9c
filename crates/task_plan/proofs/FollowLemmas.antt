-- What is known of each rule follows from its scans.
use Rattle.std.proofs.Common.{◌≡◌, ◌∙◌, ℕ, List, Bool, true, ap, sym, refl, Option, Some, None}
use Rattle.std.specs.Prelude.{slice_get, map}
use Rattle.std.specs.Option.{option_map}
use Rattle.std.proofs.lemmas.Option.{same_Some, none-some, slice_get-map}
use Rattle.task_plan.specs.Queues.{Queued}
use Rattle.task_plan.specs.Settled.{Kept, kept_of}
use Rattle.task_plan.specs.Tracked.{AreTracked}
use Rattle.task_plan.specs.Admits.{Follows}
use Rattle.task_plan.specs.declared.states.RuleState.{RuleState}
use Rattle.task_plan.specs.declared.files.Origin.{Origin}
use Rattle.task_plan.specs.declared.task.Task.{Task}

-- what is known of a rule is what stands there
pub record IsKeptOf (ts : List Task) (n : ℕ) (k : Kept) : Type 0 where
  pub task : Task
  pub at : slice_get ts n ≡ Some task
  pub kept : k ≡ kept_of task

kept_by : (ts : List Task) (n : ℕ) (k : Kept) (o : Option Task) → slice_get ts n ≡ o → option_map kept_of o ≡ Some k → IsKeptOf ts n k
kept_by ts n k None e f = absurd (none-some k f)
kept_by ts n k (Some t) e f = record { task = t; at = e; kept = sym (same_Some (kept_of t) k f) }

pub of_map : (ts : List Task) (n : ℕ) (k : Kept) → slice_get (map kept_of ts) n ≡ Some k → IsKeptOf ts n k
of_map ts n k e = kept_by ts n k (slice_get ts n) refl (sym (slice_get-map kept_of ts n) ∙ e)

pub all_follow : (a : List RuleState) (q : Queued) (ts : List Task) (o : List Origin) (m : List Bool) → AreTracked a q ts o m
    → (rule : ℕ) (kept : Kept) → slice_get (map kept_of ts) rule ≡ Some kept → kept.whole ≡ true → Follows kept
all_follow a q ts o m t rule kept e h =
    let k = of_map ts rule kept e in
    let d = (t.each rule k.task k.at).listing.listed (sym (ap (λ x. x.whole) k.kept) ∙ h) in
    rw k.kept (record { files = d.reach.reach; deps = d.deps })
