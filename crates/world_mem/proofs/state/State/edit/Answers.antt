use Rattle.std.proofs.Common.{rules, ◌≡◌, ◌∙◌, ◌<◌, ◌++◌, ◌∷◌, ◌||◌, [], sym, refl, ap, subst, arith, map, ℕ, List, Some, IsSome, length, Result, Ok, Err, OnErr}
use Rattle.std.specs.Global.{Vec}
use Rattle.std.specs.List.{slice_index_or}
use Rattle.world_api.specs.Act.{Given}
use Rattle.world_mem.specs.AsAround.{around_of}
use Rattle.world_mem.specs.AsCourse.{course_of}
use Rattle.world_mem.specs.Blocked.{LiesBelow}
use Rattle.world_mem.specs.CallCounts.{next}
use Rattle.world_mem.specs.InSlots.{slot_at}
use Rattle.act_table.specs.Listed.{contents_in}
use Rattle.world_mem.specs.Kept.{met_of, running_of, entry_of}
use Rattle.world_mem.specs.Past.{Course}
use Rattle.world_mem.specs.Standing.{is_dir, is_in}
use Rattle.world_mem.specs.Table.{law_of}
use Rattle.world_mem.specs.declared.dirs.Dirs.{Dirs}
use Rattle.world_mem.specs.declared.event.Event.{Event}
use Rattle.world_mem.specs.declared.running.RunningJob.{RunningJob}
use Rattle.world_mem.specs.declared.slots.File.{File}
use Rattle.world_mem.specs.declared.slots.Slots.{Slots}
use Rattle.world_mem.proofs.Fresh.{from_nothing}
use Rattle.world_mem.proofs.Marks.{met-push}
use Rattle.world_mem.proofs.Raised.{raised_by}
use Rattle.world_mem.proofs.state.State.edit.Goals as goal

at_err : {T E : Type 0} (result : Result T E) (P : Type 0) → P → OnErr result P
at_err (Ok x) P p = tt
at_err (Err e) P p = p

first : (slots : Slots) (own : List (List ℕ)) (path : List ℕ) → own ≡ path ∷ [] → ((k : ℕ) (d : List ℕ) → k < length own → IsSome (slot_at slots (slice_index_or own k d))) → IsSome (slot_at slots path)
first slots own path is each = subst (λ (l : List (List ℕ)). (k : ℕ) (d : List ℕ) → k < length l → IsSome (slot_at slots (slice_index_or l k d))) is each 0 path (omega arith)

pub returns-in_err-make_places-clause-same : goal.returns-in_err-make_places-clause-same
returns-in_err-make_places-clause-same c = at_err _ _ c.make_places.ensures.course

pub returns-in_err-widen_met-clause-same : goal.returns-in_err-widen_met-clause-same
returns-in_err-widen_met-clause-same c = at_err _ _ (c.widen_met.ensures.course ∙ c.make_places.ensures.course)

pub put-requires-clause-place : goal.put-requires-clause-place
put-requires-clause-place c =
    let pushed = c.in_ok-copy.field-0 in
    let own : c.push.new.self ≡ c.args.path.now ∷ [] =
    c.in_ok-push.ensures.ok ∙ ap (λ (l : List (List ℕ)). l ++ pushed ∷ []) (c.new-own.ensures ∙ c.new.ensures.items) ∙ ap (λ (p : List ℕ). p ∷ []) c.in_ok-copy.ensures in
    subst (λ (slots : Slots). IsSome (slot_at slots c.args.path.now)) (sym c.in_ok-widen_met.ensures.slots)
    (first c.make_places.new.self.slots c.push.new.self c.args.path.now own c.in_ok-make_places.ensures.places)

pub put-requires-clause-places : goal.put-requires-clause-places
put-requires-clause-places c = λ k d lt.
    subst (λ (dirs : Dirs). IsSome (slot_at dirs.slots (slice_index_or c.missing_above.new.fresh k d))) (sym c.in_ok-widen_met.ensures.dirs) (c.in_ok-make_places.ensures.fresh k d lt)

pub returns-clause-stamps : goal.returns-clause-stamps
returns-clause-stamps c =
    let count : c.saturating_add-stamp.result ≡ next c.args.self.now.stamp = search rules in
    let stamp : c.put.new.self.stamp ≡ c.saturating_add-stamp.result = c.put.ensures.stamp ∙ ap (λ (file : File). file.stamp) c.in_ok-file.ensures in
    record {
      counted = stamp ∙ count;
      stamped = λ other is some.
          subst (λ (path : List ℕ). (around_of c.put.new.self).stamps path ≡ c.put.new.self.stamp) (sym is) (c.put.ensures.stamped ∙ sym c.put.ensures.stamp);
    }

pub returns-clause-edited : goal.returns-clause-edited
returns-clause-edited c =
    let old = c.args.self.now in
    let mid = c.widen_met.new.self in
    let fresh = c.missing_above.new.fresh in
    let course : course_of mid ≡ course_of old = c.in_ok-widen_met.ensures.course ∙ c.make_places.ensures.course in
    record {
      file = c.put.ensures.file ∙ ap (λ (file : File). Some file.bytes) c.in_ok-file.ensures;
      files = λ other apart. c.put.ensures.others other apart ∙ ap (λ (course : Course). course.around.tree other) course;
      stamps = λ other apart. c.put.ensures.stamps other apart ∙ ap (λ (course : Course). course.around.stamps other) course;
      dirs = raised_by (LiesBelow c.args.path.now) fresh (is_dir old.dirs) (is_dir c.put.new.self.dirs)
          (λ dir. c.put.ensures.dirs dir ∙ ap (λ b. is_in fresh dir || b) (ap (λ (course : Course). course.around.dirs dir) course))
          (λ dir. from_nothing c.new-fresh.result fresh dir _ (c.new-fresh.ensures ∙ c.new-2.ensures.items) (c.in_ok-missing_above.ensures dir));
      met = ap met_of c.put.ensures.met ∙ met-push mid.met.items c.in_ok-group.group
          ∙ ap (λ (met : List (List ℕ)). met ++ contents_in c.in_ok-group.group) (ap (λ (course : Course). course.around.met) course)
          ∙ ap (λ (group : Given). met_of old.met.items ++ contents_in group) c.in_ok-group.ensures;
      running = ap (λ (r : Vec RunningJob). map running_of r.items) c.put.ensures.running ∙ ap (λ (course : Course). course.around.running) course;
      log = ap (λ (l : Vec Event). map entry_of l.items) c.put.ensures.log ∙ ap (λ (course : Course). course.around.log) course;
      law = ap law_of c.put.ensures.table ∙ ap (λ (course : Course). course.around.law) course;
      top = refl;
    }
