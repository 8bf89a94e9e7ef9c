-- Ends after which nothing new starts, and that they are kept.
use Rattle.std.proofs.Common.{◌≡◌, ◌∙◌, subst, sym, refl, List, Bool, true, false}
use Rattle.std.specs.Prelude.{Result, Ok, Err, IsErrAnd, ◌||◌, not}
use Rattle.std.proofs.lemmas.Bool.{false≢true}
use Rattle.world_api.specs.Counts.{Counts}
use Rattle.rule_graph.specs.declared.build_fault.BuildFault.{BuildFault}
use Rattle.rule_graph.specs.declared.build_fault.BuildFault.TheVariants as fault
use Rattle.build_files.specs.Causes.{HasEndCause, IsInside}
use Rattle.build_files.specs.Causes.{HasFaultCause as HasLookFault}
use Rattle.build_files.specs.declared.end.ListEnd.{ListEnd}
use Rattle.build_files.specs.declared.end.ListEnd.TheVariants as end
use Rattle.build_run.specs.Reasons.{EndsForReason, EndsLast, HasLast, HasReason, IsLast, IsLastEnd, IsReasoned}
use Rattle.build_run.specs.declared.account.Account.{Account}
use Rattle.build_run.specs.declared.building.Options.{Options}
use Rattle.build_run.specs.declared.end.BuildEnd.{BuildEnd}

-- ---- ends

last_fault : (a b : Counts) (f : BuildFault) → HasLookFault a b f → IsLast f
last_fault a b (fault.Missing node target) h = h
last_fault a b (fault.Cycle paths) h = h
last_fault a b (fault.ActionFailed target code) h = h
last_fault a b (fault.TreeFault path) h = tt
last_fault a b (fault.StartFault target) h = tt
last_fault a b fault.StoreFault h = tt
last_fault a b fault.OutFault h = tt
last_fault a b (fault.TooLarge path size) h = tt
last_fault a b (fault.TooMany what count) h = tt

-- the end of a look
last_by : (a b : Counts) (e : ListEnd) → HasEndCause a b e → IsLastEnd e
last_by a b (end.Fault f) h = last_fault a b f h
last_by a b end.Memory h = tt

no_counts : Counts
no_counts = record { disk_faults = 0; tree_faults = 0; start_faults = 0; action_failures = 0 }

pub last_inside : (e : ListEnd) → IsInside e → IsLastEnd e
last_inside e inside = last_by no_counts no_counts e (inside no_counts)

-- the exits of a `?`
pub last_exit : {T : Type 0} (r : Result T ListEnd) (e : ListEnd) → IsErrAnd r (λ x. x ≡ e) → IsLastEnd e → EndsLast r
last_exit (Ok value) e is last = tt
last_exit (Err x) e is last = subst (λ (y : ListEnd). IsLastEnd y) (sym is) last

pub last_within : {T : Type 0} (r : Result T ListEnd) → IsErrAnd r IsInside → EndsLast r
last_within (Ok value) is = tt
last_within (Err x) is = last_inside x is

-- ---- accounts

-- where others go on no end came
pub ended_before : (ended goes : Bool) → goes ≡ true → (ended || not goes) ≡ true → ended ≡ true
ended_before ended true keep is = or_false ended is
  where
    or_false : (b : Bool) → (b || false) ≡ true → b ≡ true
    or_false true e = refl
    or_false false e = e
ended_before ended false keep is = absurd (false≢true keep)

pub not_ended : (account : Account) → account.is_ended ≡ false → IsReasoned account
not_ended account going is = absurd (false≢true (sym going ∙ is))

-- an answer with the faults of an account
pub answers_so : (options : Options) (account : Account) (answer : BuildEnd) → answer.faults ≡ account.faults.items →
    answer.memory ≡ account.memory → answer.is_ended ≡ account.is_ended → HasReason options.keep account → EndsForReason options answer
answers_so options account answer faults memory ended reason keep is =
    subst (λ (fs : List BuildFault). HasLast answer.memory fs) (sym faults)
    (subst (λ (m : Bool). HasLast m account.faults.items) (sym memory) (reason keep (sym ended ∙ is)))
