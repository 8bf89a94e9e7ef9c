-- What a scan of a rule's next file makes of what is known.
use Rattle.std.proofs.Common.{arith, ◌≡◌, ◌≤◌, ◌∙◌, ℕ, zero, suc, List, [], ◌∷◌, Bool, true, false, ap, sym, refl, length, set, get_or, Some, None}
use Rattle.std.specs.Prelude.{slice_get, map}
use Rattle.std.specs.Option.{option_map}
use Rattle.std.proofs.lemmas.Option.{slice_get-map}
use Rattle.std.specs.declared.alloc.Global.{Global}
use Rattle.std.specs.declared.vec.Vec.{Vec}
use Rattle.scons_base.specs.declared.ids.NodeId.{NodeId}
use Rattle.scons_base.specs.declared.ids.RuleId.{RuleId}
use Rattle.task_plan.specs.States.{state_of}
use Rattle.task_plan.specs.Queues.{Queued}
use Rattle.task_plan.specs.Settled.{kept_of, next_of}
use Rattle.task_plan.specs.Listed.{KeepsNames, Takes}
use Rattle.task_plan.specs.Plans.{Planned, wanted}
use Rattle.task_plan.specs.Admits.{NotesFile, NotesNone}
use Rattle.task_plan.specs.declared.states.RuleState.{RuleState}
use Rattle.task_plan.specs.declared.states.RuleState.TheVariants.{Waiting}
use Rattle.task_plan.specs.declared.files.Origin.{Origin}
use Rattle.task_plan.specs.declared.task.Task.{Task}
use Rattle.task_plan.proofs.ListLemmas.{get-set_other, get-set_same}
use Rattle.task_plan.proofs.WantLemmas.{planned, kept_at, next_at, wanted_by, unwanted_by, wanted_past, wanted_none}
use Rattle.task_plan.proofs.FollowLemmas.{of_map}

notes_same : (a b : Planned) (r : ℕ) → wanted a r ≡ None → b.states ≡ a.states → b.rules ≡ a.rules → NotesNone a b r
notes_same a b r e s f = record { wants = e; same = record { states = s; rules = f } }

none_there : {X : Type 0} (xs : List X) (r : ℕ) → length xs ≤ r → slice_get xs r ≡ None
none_there [] r le = refl
none_there (x ∷ xs) zero le = absurd (omega arith)
none_there (x ∷ xs) (suc r) le = none_there xs r (omega arith)

module _ (a : List RuleState) (q : Queued) (h : Bool) (ts : List Task) (o : List Origin) (m : List Bool) (ws : List (Vec RuleId Global)) (b : Bool) (rs : List RuleId) (r : ℕ) where
  -- no file of the rule can be scanned
  pub notes_unmarked : get_or m r false ≡ false → NotesNone (planned a q h ts o m ws b rs) (planned a q h ts o m ws b rs) r
  notes_unmarked e = notes_same (planned a q h ts o m ws b rs) (planned a q h ts o m ws b rs) r (unwanted_by (get_or m r false) (slice_get (map next_of ts) r) e) refl refl

  pub notes_past : length ts ≤ r → NotesNone (planned a q h ts o m ws b rs) (planned a q h ts o m ws b rs) r
  notes_past le =
      let past : slice_get (map next_of ts) r ≡ None = slice_get-map next_of ts r ∙ ap (option_map next_of) (none_there ts r le) in
      notes_same (planned a q h ts o m ws b rs) (planned a q h ts o m ws b rs) r (wanted_past (get_or m r false) (slice_get (map next_of ts) r) past) refl refl

  pub notes_nothing : (task : Task) → slice_get ts r ≡ Some task → next_of task ≡ None → NotesNone (planned a q h ts o m ws b rs) (planned a q h ts o m ws b rs) r
  notes_nothing task e n =
      notes_same (planned a q h ts o m ws b rs) (planned a q h ts o m ws b rs) r (wanted_none (get_or m r false) (slice_get (map next_of ts) r) (next_at ts r task e ∙ ap Some n)) refl refl

  -- the next file was
  pub notes_file : (task v : Task) (file : NodeId) (inc : List NodeId) → slice_get ts r ≡ Some task → get_or m r false ≡ true → next_of task ≡ Some file → state_of a r ≡ Waiting → KeepsNames task v → Takes task file inc v
      → NotesFile (planned a q h ts o m ws b rs) (planned a q h (set ts r v) o (set m r false) ws b rs) r inc
  notes_file task v file inc e marked n w k t = record {
    file = file;
    wants = wanted_by (get_or m r false) (slice_get (map next_of ts) r) file marked (next_at ts r task e ∙ ap Some n);
    waits = w;
    this = record {
      before = kept_of task;
      was = kept_at ts r task e;
      after = kept_of v;
      is = kept_at (set ts r v) r v (get-set_same ts r v task e);
      targets = k.targets;
      required = k.required;
      named = k.named;
      sources = k.reach.same;
      left_out = k.reach.excluded;
      found = t.found;
      whole = t.listed;
    };
    others = λ x kept ne there.
        let i = of_map ts x kept there in
        kept_at (set ts r v) x i.task (get-set_other ts r x v ne ∙ i.at) ∙ ap Some (sym i.kept);
  }
