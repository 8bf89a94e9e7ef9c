-- What follows from the course that a run takes.
use Rattle.std.proofs.Common.{◌⊎◌, ⊎_elim, ◌≡◌, ◌≢◌, ℕ, zero, suc, List, [], ◌∷◌, ◌++◌, sym, ap, subst, refl, arith, inl, inr}
use Rattle.std.specs.Prelude.{Contains}
use Rattle.std.proofs.lemmas.List.Elements.{Contains-append_cases}
use Rattle.world_api.specs.Around.{Tree}
use Rattle.scons_base.specs.Rising.{Rose}
use Rattle.world_api.specs.Meaning.{Meaning}
use Rattle.world_api.specs.Printed.{SinkMeaning}
use Rattle.one_rule.specs.declared.rule.Rule.{Rule}
use Rattle.one_rule.specs.declared.report.Top.{Top}
use Rattle.one_rule.specs.declared.report.Top.TheVariants.{Usage, Reading, Missing, ActionFailed, TreeFault, StartFault, OutFault, TooLarge}
use Rattle.one_rule.specs.Building.{built}
use Rattle.one_rule.specs.Course.{Course, Refused, Misread, Stopped, Failed, Built, faults_of, output_of, errors_of}
use Rattle.one_rule.specs.Ends.{FaultCause}
use Rattle.world_api.specs.Printing.{Prints}
use Rattle.world_api.specs.Statuses.{HasStatus}
use Rattle.one_rule.specs.Promises.{Succeeds, IsExplained, HasRisen, IsSteady, NoneRose, IsOfInput, IsInner, IsCalledFor}
use Rattle.one_rule.specs.Run.{MayTake, builds, IsDue, IsCut, out_refused, err_refused, no_memory, CourseCause, Takes, Runs, whole, unprinted, broken, status_of}
use Rattle.one_rule.proofs.OneCourse.{course_one}

some_fault : {X : Type 0} (xs : List X) (x : X) → xs ++ x ∷ [] ≢ []
some_fault [] x e = cc
some_fault (y ∷ xs) x e = cc

-- an element of a list of one, or of two
in_one : {X : Type 0} (x y : X) → Contains (x ∷ []) y → x ≡ y
in_one x y (zero, in_range, is) = is
in_one x y (suc k, in_range, is) = absurd (omega arith)

in_none : {X : Type 0} (y : X) → Contains [] y → ⊥
in_none y (k, in_range, is) = absurd (omega arith)

not_risen : (before now : ℕ) → IsSteady before now → Rose before now → ⊥
not_risen before now steady rose = let same = steady.same in let below = steady.below in let more = rose.more in omega arith

-- where a course built the target, its fields
due_of : (words : List (List ℕ)) (tree : Tree) (rule : Rule) → MayTake words tree (Built rule) → IsDue words tree rule
due_of words tree rule (builds rule' none reads (built source)) = record { no_words = none; reads = reads; source = source }

module _ {W O E : Type 0} (world : Meaning W) (out : SinkMeaning O) (err : SinkMeaning E) (words : List (List ℕ)) (old new : W) (old_out new_out : O) (old_err new_err : E) where
  cut_status : {status : ℕ} {tail : List Top} (front : List Top) → IsCut (out.faults old_out) (out.faults new_out) (err.faults old_err) (err.faults new_err) status tail → HasStatus status (front ++ tail)
  cut_status front (out_refused rose) = inr (inl (refl, some_fault front OutFault))
  cut_status front (err_refused rose) = inr (inl (refl, some_fault front OutFault))
  cut_status front no_memory = inr (inr refl)

  course_status : (course : Course) → HasStatus (status_of course) (faults_of course)
  course_status (Refused fault) = inr (inl (refl, λ e. cc))
  course_status (Misread fault) = inr (inl (refl, λ e. cc))
  course_status (Stopped fault) = inr (inl (refl, λ e. cc))
  course_status (Failed rule fault) = inr (inl (refl, λ e. cc))
  course_status (Built rule) = inl (refl, refl)

  pub has_status : {status : ℕ} {faults : List Top} → Runs world out err words old new old_out new_out old_err new_err status faults → HasStatus status faults
  has_status (whole course takes output errors) = course_status course
  has_status (unprinted course status tail takes by output errors) = cut_status (faults_of course) by
  has_status (broken course status tail counts may unstarted by output errors) = cut_status [] by

  -- status 0
  cut_not_zero : {status : ℕ} {tail : List Top} → IsCut (out.faults old_out) (out.faults new_out) (err.faults old_err) (err.faults new_err) status tail → status ≡ 0 → ⊥
  cut_not_zero (out_refused rose) is = absurd (omega arith)
  cut_not_zero (err_refused rose) is = absurd (omega arith)
  cut_not_zero no_memory is = absurd (omega arith)

  Success : Type 0
  Success = Succeeds world out err words old new old_out new_out old_err new_err

  whole_succeeds : (course : Course) → status_of course ≡ 0 → Takes world words old new course → Prints out old_out new_out (output_of course) → Prints err old_err new_err (errors_of course) → Success
  unfolding Success
  whole_succeeds (Refused fault) is takes output errors = absurd (omega arith)
  whole_succeeds (Misread fault) is takes output errors = absurd (omega arith)
  whole_succeeds (Stopped fault) is takes output errors = absurd (omega arith)
  whole_succeeds (Failed rule fault) is takes output errors = absurd (omega arith)
  whole_succeeds (Built rule) is takes output errors = record {
    rule = rule;
    due = λ told. due_of words (world.around old).tree rule (takes.may told);
    bytes = λ told. (takes.makes told).bytes;
    started = λ told. (takes.makes told).started;
    counts = takes.cause;
    output = output;
    errors = errors;
  }

  pub succeeds : {status : ℕ} {faults : List Top} → Runs world out err words old new old_out new_out old_err new_err status faults → status ≡ 0 → Succeeds world out err words old new old_out new_out old_err new_err
  unfolding Success
  succeeds (whole course takes output errors) is = whole_succeeds course is takes output errors
  succeeds (unprinted course status tail takes by output errors) is = absurd (cut_not_zero by is)
  succeeds (broken course status tail counts may unstarted by output errors) is = absurd (cut_not_zero by is)

  -- each fault
  cut_fault : {status : ℕ} {tail : List Top} (fault : Top) → IsCut (out.faults old_out) (out.faults new_out) (err.faults old_err) (err.faults new_err) status tail → Contains tail fault
      → (fault ≡ OutFault) × (Rose (out.faults old_out) (out.faults new_out) ⊎ Rose (err.faults old_err) (err.faults new_err))
  cut_fault fault (out_refused rose) has = (sym (in_one OutFault fault has), inl rose)
  cut_fault fault (err_refused rose) has = (sym (in_one OutFault fault has), inr rose)
  cut_fault fault no_memory has = absurd (in_none fault has)

  pub explained : {status : ℕ} {faults : List Top} → Runs world out err words old new old_out new_out old_err new_err status faults → world.tells new → (fault : Top) → Contains faults fault → IsExplained words (world.around old).tree fault
  explained (whole course takes output errors) told fault has = inr (course, takes.may told, has)
  explained (unprinted course status tail takes by output errors) told fault has =
      ⊎_elim (λ (in_front : Contains (faults_of course) fault). inr (course, takes.may told, in_front)) (λ (in_tail : Contains tail fault). inl (cut_fault fault by in_tail).0) (Contains-append_cases (faults_of course) tail fault has)
  explained (broken course status tail counts may unstarted by output errors) told fault has = inl (cut_fault fault by has).0

  Risen : Top → Type 0
  Risen = HasRisen (world.counts old) (world.counts new) (out.faults old_out) (out.faults new_out) (err.faults old_err) (err.faults new_err)

  cause_risen : (fault : Top) → FaultCause fault (world.counts old) (world.counts new) → Risen fault
  unfolding Risen
  cause_risen (Usage place kind) cause = tt
  cause_risen (Reading file line kind) cause = tt
  cause_risen (Missing node target) cause = tt
  cause_risen (ActionFailed target code) cause = cause.rose
  cause_risen (TreeFault path) cause = cause.rose
  cause_risen (StartFault target) cause = cause.rose
  cause_risen OutFault cause = elim cause [ ]
  cause_risen (TooLarge path size) cause = tt

  course_risen : (course : Course) → CourseCause course (world.counts old) (world.counts new) → (fault : Top) → Contains (faults_of course) fault → Risen fault
  course_risen (Refused top) cause fault has = subst Risen (in_one top fault has) (cause_risen top cause)
  course_risen (Misread top) cause fault has = subst Risen (in_one top fault has) (cause_risen top cause)
  course_risen (Stopped top) cause fault has = subst Risen (in_one top fault has) (cause_risen top cause)
  course_risen (Failed rule top) cause fault has = subst Risen (in_one top fault has) (cause_risen top cause)
  course_risen (Built rule) cause fault has = absurd (in_none fault has)

  tail_risen : {status : ℕ} {tail : List Top} (fault : Top) → IsCut (out.faults old_out) (out.faults new_out) (err.faults old_err) (err.faults new_err) status tail → Contains tail fault → Risen fault
  unfolding Risen
  tail_risen fault by has = let cut = cut_fault fault by has in subst Risen (sym cut.0) cut.1

  pub risen : {status : ℕ} {faults : List Top} → Runs world out err words old new old_out new_out old_err new_err status faults → (fault : Top) → Contains faults fault
      → HasRisen (world.counts old) (world.counts new) (out.faults old_out) (out.faults new_out) (err.faults old_err) (err.faults new_err) fault
  unfolding Risen
  risen (whole course takes output errors) fault has = course_risen course takes.cause fault has
  risen (unprinted course status tail takes by output errors) fault has =
      ⊎_elim (λ (in_front : Contains (faults_of course) fault). course_risen course takes.cause fault in_front) (λ (in_tail : Contains tail fault). tail_risen fault by in_tail) (Contains-append_cases (faults_of course) tail fault has)
  risen (broken course status tail counts may unstarted by output errors) fault has = tail_risen fault by has

  -- nothing outside at fault
  module _ (none : NoneRose (world.counts old) (world.counts new) (out.faults old_out) (out.faults new_out) (err.faults old_err) (err.faults new_err)) where
    no_cut : {status : ℕ} {tail : List Top} → IsCut (out.faults old_out) (out.faults new_out) (err.faults old_err) (err.faults new_err) status tail → status ≢ 3 → ⊥
    no_cut (out_refused rose) memory = not_risen (out.faults old_out) (out.faults new_out) none.out rose
    no_cut (err_refused rose) memory = not_risen (err.faults old_err) (err.faults new_err) none.err rose
    no_cut no_memory memory = memory refl

    inner_fault : (fault : Top) → FaultCause fault (world.counts old) (world.counts new) → IsOfInput fault
    inner_fault (Usage place kind) cause = tt
    inner_fault (Reading file line kind) cause = tt
    inner_fault (Missing node target) cause = tt
    inner_fault (ActionFailed target code) cause = not_risen (world.counts old).action_failures (world.counts new).action_failures none.action cause.rose
    inner_fault (TreeFault path) cause = not_risen (world.counts old).tree_faults (world.counts new).tree_faults none.tree cause.rose
    inner_fault (StartFault target) cause = not_risen (world.counts old).start_faults (world.counts new).start_faults none.start cause.rose
    inner_fault OutFault cause = cause
    inner_fault (TooLarge path size) cause = tt

    inner_course : (course : Course) → CourseCause course (world.counts old) (world.counts new) → IsInner course
    inner_course (Refused fault) cause = inner_fault fault cause
    inner_course (Misread fault) cause = inner_fault fault cause
    inner_course (Stopped fault) cause = inner_fault fault cause
    inner_course (Failed rule fault) cause = inner_fault fault cause
    inner_course (Built rule) cause = tt

    pub called_for : {status : ℕ} {faults : List Top} → Runs world out err words old new old_out new_out old_err new_err status faults → world.tells new → status ≢ 3 → IsCalledFor words (world.around old).tree status faults
    called_for (whole course takes output errors) told memory other may inner =
        let same = course_one words course other (takes.may told) (inner_course course takes.cause) may inner in
        (ap status_of same, ap faults_of same)
    called_for (unprinted course status tail takes by output errors) told memory other may inner = absurd (no_cut by memory)
    called_for (broken course status tail counts may_print unstarted by output errors) told memory other may inner = absurd (no_cut by memory)
