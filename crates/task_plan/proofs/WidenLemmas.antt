-- Room for more changes nothing of what is watched.
use Rattle.std.proofs.Common.{arith, ◌≡◌, ◌<◌, ◌≤◌, ◌∙◌, ℕ, List, [], ◌∷◌, ◌++◌, Bool, true, false, ap, sym, refl, length, get_or}
use Rattle.std.specs.Prelude.{slice_get, map, ltb}
use Rattle.std.proofs.lemmas.Bool.{ltb-true, ltb-false}
use Rattle.std.proofs.lemmas.List.{map-append, get_or_past, length-map}
use Rattle.std.specs.declared.alloc.Global.{Global}
use Rattle.std.specs.declared.vec.Vec.{Vec}
use Rattle.scons_base.specs.declared.ids.RuleId.{RuleId}
use Rattle.task_plan.specs.States.{state_of}
use Rattle.task_plan.specs.Queues.{Queued}
use Rattle.task_plan.specs.Noted.{places_of, lists_of, waiters_of}
use Rattle.task_plan.specs.Settled.{kept_of, origin_of}
use Rattle.task_plan.specs.Watching.{WidensWatch}
use Rattle.task_plan.specs.declared.states.RuleState.{RuleState}
use Rattle.task_plan.specs.declared.states.RuleState.TheVariants.{Unneeded, Waiting}
use Rattle.task_plan.specs.declared.files.Origin.{Origin}
use Rattle.task_plan.specs.declared.task.Task.{Task}
use Rattle.task_plan.proofs.ListLemmas.{get-within}
use Rattle.task_plan.proofs.WantLemmas.{planned}

waiting_in : (states : List RuleState) (r : ℕ) → state_of states r ≡ Waiting → r < length states
waiting_in states r w = by (ltb r (length states)) refl
  where
    by : (x : Bool) → ltb r (length states) ≡ x → r < length states
    by true e = ltb-true r (length states) e
    by false e = let unneeded : Unneeded ≡ Waiting = sym (get_or_past states r Unneeded (ltb-false r (length states) e)) ∙ w in absurd (cc)

same_by : (x y : Bool) → (x ≡ true → y ≡ true) → (y ≡ true → x ≡ true) → x ≡ y
same_by true y f g = sym (f refl)
same_by false true f g = g refl
same_by false false f g = refl

module _ (a : List RuleState) (q : Queued) (h : Bool) (ts : List Task) (o : List Origin) (m : List Bool) (ws : List (Vec RuleId Global)) (b : Bool) (rs : List RuleId) where
  pub watch_files : (p : List Origin) (vs : List (Vec RuleId Global)) → ((n : ℕ) → origin_of p n ≡ origin_of o n) → ((n : ℕ) → waiters_of (lists_of vs) n ≡ waiters_of (lists_of ws) n)
      → (length o ≤ length ws → length p ≤ length vs) → WidensWatch (planned a q h ts o m ws b rs) (planned a q h ts p m vs b rs)
  watch_files p vs same told lists = record {
    states = λ r. refl;
    origins = same;
    rules = λ r w. refl;
    places = λ r w. refl;
    waiters = told;
    marks = λ r. refl;
    queue = refl;
    ordered = refl;
    lists = λ le. let k = length-map ws (λ (w : Vec RuleId Global). w.items) in let n = length-map vs (λ (w : Vec RuleId Global). w.items) in let l = lists (omega arith) in omega arith;
  }

  pub watch_task : (v : Task) → length a ≤ length ts → WidensWatch (planned a q h ts o m ws b rs) (planned a q h (ts ++ v ∷ []) o m ws b rs)
  watch_task v room = record {
    states = λ r. refl;
    origins = λ n. refl;
    rules = λ r w.
        let lt = waiting_in a r w in
        let n = length-map ts kept_of in
        ap (λ x. slice_get x r) (map-append kept_of ts (v ∷ [])) ∙ get-within (map kept_of ts) (kept_of v ∷ []) r (omega arith);
    places = λ r w.
        let lt = waiting_in a r w in
        let n = length-map ts places_of in
        ap (λ x. slice_get x r) (map-append places_of ts (v ∷ [])) ∙ get-within (map places_of ts) (places_of v ∷ []) r (omega arith);
    waiters = λ n. refl;
    marks = λ r. refl;
    queue = refl;
    ordered = refl;
    lists = λ le. le;
  }

  pub watch_states : (c : List RuleState) → ((r : ℕ) → state_of c r ≡ state_of a r) → WidensWatch (planned a q h ts o m ws b rs) (planned c q h ts o m ws b rs)
  watch_states c same = record {
    states = same;
    origins = λ n. refl;
    rules = λ r w. refl;
    places = λ r w. refl;
    waiters = λ n. refl;
    marks = λ r. refl;
    queue = refl;
    ordered = refl;
    lists = λ le. le;
  }

  pub watch_marks : (k : List Bool) → ((n : ℕ) → get_or k n false ≡ true → get_or m n false ≡ true) → ((n : ℕ) → get_or m n false ≡ true → get_or k n false ≡ true)
      → WidensWatch (planned a q h ts o m ws b rs) (planned a q h ts o k ws b rs)
  watch_marks k fewer more = record {
    states = λ r. refl;
    origins = λ n. refl;
    rules = λ r w. refl;
    places = λ r w. refl;
    waiters = λ n. refl;
    marks = λ r. same_by (get_or k r false) (get_or m r false) (fewer r) (more r);
    queue = refl;
    ordered = refl;
    lists = λ le. le;
  }
