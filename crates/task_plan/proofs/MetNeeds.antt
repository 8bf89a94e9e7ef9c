-- What needed rules need was met, through each event.
use Rattle.std.proofs.Common.{arith, ◌≡◌, ◌≢◌, ◌<◌, ◌≤◌, ◌∙◌, ◌⊎◌, inl, inr, ℕ, zero, suc, ◌+◌, ◌-◌, List, [], ◌∷◌, ◌++◌, Bool, true, false, ◌&&◌, ◌||◌, ap, sym, refl, length, set, Option, Some, None, subst}
use Rattle.std.specs.Prelude.{slice_get, nat_eq, nat_lt, MatchOption, IfSome, OnOk, Result, Ok, Err, if◌then◌else◌}
use Rattle.std.specs.List.{list_all, flat_map}
use Rattle.std.proofs.lemmas.List.Folds.{list_all-append, list_any-append}
use Rattle.std.proofs.lemmas.Option.{same_Some, slice_get_within, none-some}
use Rattle.scons_base.specs.declared.ids.NodeId.{NodeId}
use Rattle.rule_graph.specs.declared.rule.Rule.{Rule}
use Rattle.rule_graph.specs.Graphs.{RuleGraph}
use Rattle.rule_graph.specs.Rules.{rule_of, are_below, IsRule}
use Rattle.task_plan.specs.States.{state_of, stage, is_running}
use Rattle.task_plan.specs.Queues.{is_open}
use Rattle.task_plan.specs.Named.{stands, put, put_all, named_of, sources_of, ignored_of, is_shell}
use Rattle.task_plan.specs.Settled.{Kept, kept_of, first_kept, IsLonger, origin_of}
use Rattle.task_plan.specs.Listed.{included, with_found}
use Rattle.task_plan.specs.Plans.{Planned, AreWaiting, Stays, Goes, GoesOn, wanted}
use Rattle.task_plan.specs.Met.{is_met_from, is_met, are_met, IsFrom, AreFrom, AreNeedsMet, AllMet, IsAskedFor, AreNodes, AreNews, Finds, FindsFile, FindsBy, HasRoom, KeepsRoom, needs_in, needs_at}
use Rattle.task_plan.specs.Loaded.{IsTaskOf}
use Rattle.task_plan.specs.Admits.{IsFirstAt, IsAdmitted, Fits, Follows, AllFollow, IsUnchanged, ScansFile, Knows, Widens, Admits, NotesFile, NotesNone, none}
use Rattle.task_plan.specs.declared.task.Task.{Task}
use Rattle.task_plan.specs.declared.states.RuleState.{RuleState}
use Rattle.task_plan.specs.declared.states.RuleState.TheVariants.{Unneeded, Waiting, Running, Settled, Failed, Lacking}
use Rattle.task_plan.specs.declared.files.Origin.{Origin}
use Rattle.task_plan.specs.declared.files.Origin.TheVariants.{Unmet, Source, Made}
use Rattle.task_plan.specs.declared.want.PlanEvent.{PlanEvent}
use Rattle.task_plan.specs.declared.want.PlanEvent.TheVariants.{Scanned, Fresh, Started, DoneOk, DoneFailed, Absent, Halt}
use Rattle.task_plan.proofs.MarkLemmas.{apart}
use Rattle.task_plan.proofs.PlanLemmas.{true_false}
use Rattle.task_plan.proofs.ListLemmas.{and_left, and_right, and_both, list_all_weaker, get-within, get-behind}
use Rattle.task_plan.proofs.NamedLemmas.{or_first, or_second, same_eq, put_all_longer, stands_longer}
use Rattle.task_plan.proofs.WalkLemmas.{node_same, included_this, included_other, within_or, put_all_from}
use Rattle.task_plan.proofs.MetLemmas.{AreNeededStill, still_same, still_each, from_same, keeps_same, keeps_trans, finds_none, finds_same, finds_stays, finds_on, finds_before}
use Rattle.task_plan.proofs.AdmitLemmas.{met_by, unneeded_or, needed_set, waits_needed, running_needed, put_known}

-- what two clauses say of the same `Ok`
pub on_ok_both : {T E P Q R : Type 0} (r : Result T E) → (P → Q → R) → OnOk r P → OnOk r Q → OnOk r R
on_ok_both (Ok x) f p q = f p q
on_ok_both (Err e) f p q = tt

-- what passes a test passes it among others
all_put_by : (p : NodeId → Bool) (b c : Bool) (there : List NodeId) (n : NodeId) → list_all p there ≡ true → p n ≡ true → list_all p (if b then there else (if c then there else there ++ n ∷ [])) ≡ true
all_put_by p true c there n h e = h
all_put_by p false true there n h e = h
all_put_by p false false there n h e = list_all-append p there (n ∷ []) ∙ and_both (list_all p there) (p n && true) h (and_both (p n) true e refl)

pub all_put_all : (p : NodeId → Bool) (out there xs : List NodeId) → list_all p there ≡ true → list_all p xs ≡ true → list_all p (put_all out there xs) ≡ true
all_put_all p out there [] h e = h
all_put_all p out there (x ∷ xs) h e =
    all_put_all p out (put out there x) xs (all_put_by p (stands out x) (stands there x) there x h (and_left (p x) (list_all p xs) e)) (and_right (p x) (list_all p xs) e)

same_test : (p : NodeId → Bool) (n x : NodeId) (rest : Bool) → nat_eq n.0 x.0 ≡ true → (p x && rest) ≡ true → p n ≡ true
same_test p n x rest e h = ap p (node_same n x e) ∙ and_left (p x) rest h

stands_by : (p : NodeId → Bool) (n x : NodeId) (b : Bool) (xs : List NodeId) → nat_eq n.0 x.0 ≡ b → (list_all p xs ≡ true → stands xs n ≡ true → p n ≡ true) → (p x && list_all p xs) ≡ true → (b || stands xs n) ≡ true → p n ≡ true
stands_by p n x true xs e f h s = same_test p n x (list_all p xs) e h
stands_by p n x false xs e f h s = f (and_right (p x) (list_all p xs) h) s

-- one of those that all pass
pub all_stands : (p : NodeId → Bool) (xs : List NodeId) (n : NodeId) → list_all p xs ≡ true → stands xs n ≡ true → p n ≡ true
all_stands p [] n h s = absurd (cc)
all_stands p (x ∷ xs) n h s = stands_by p n x (nat_eq n.0 x.0) xs refl (all_stands p xs n) h s

pub stands_at : (xs : List NodeId) (i : ℕ) (x : NodeId) → slice_get xs i ≡ Some x → stands xs x ≡ true
stands_at [] i x e = absurd (none-some x e)
stands_at (y ∷ xs) zero x e = or_first (nat_eq x.0 y.0) (stands xs x) (let same : y ≡ x = same_Some y x e in rw same (same_eq x.0))
stands_at (y ∷ xs) (suc i) x e = or_second (nat_eq x.0 y.0) (stands xs x) (stands_at xs i x e)

-- where each passes, all do
pub all_each : (p : NodeId → Bool) (xs : List NodeId) → ((i : ℕ) (x : NodeId) → slice_get xs i ≡ Some x → p x ≡ true) → list_all p xs ≡ true
all_each p [] f = refl
all_each p (x ∷ xs) f = and_both (p x) (list_all p xs) (f 0 x refl) (all_each p xs (λ i y e. f (suc i) y e))

put_in_by : (b c : Bool) (out there : List NodeId) (n : NodeId) → stands out n ≡ b → stands there n ≡ c → (stands out n ≡ true) ⊎ (stands (if b then there else (if c then there else there ++ n ∷ [])) n ≡ true)
put_in_by true c out there n e f = inl e
put_in_by false true out there n e f = inr f
put_in_by false false out there n e f = inr (stands_at (there ++ n ∷ []) (length there) n (last_of there n))
  where
    last_of : (there : List NodeId) (n : NodeId) → slice_get (there ++ n ∷ []) (length there) ≡ Some n
    last_of [] n = refl
    last_of (x ∷ there) n = last_of there n

in_on : (out a b : List NodeId) (n : NodeId) → IsLonger a b → (stands out n ≡ true) ⊎ (stands a n ≡ true) → (stands out n ≡ true) ⊎ (stands b n ≡ true)
in_on out a b n l (inl h) = inl h
in_on out a b n l (inr h) = inr (stands_longer a b n l h)

in_same : (out there : List NodeId) (x n : NodeId) → n ≡ x → (stands out n ≡ true) ⊎ (stands (put out there x) n ≡ true)
in_same out there x n e = subst (λ (y : NodeId). (stands out y ≡ true) ⊎ (stands (put out there x) y ≡ true)) (sym e) (put_in_by (stands out x) (stands there x) out there x refl refl)

in_by : (out there xs : List NodeId) (x n : NodeId) (b : Bool) → nat_eq n.0 x.0 ≡ b → (b || stands xs n) ≡ true
    → (stands xs n ≡ true → (stands out n ≡ true) ⊎ (stands (put_all out (put out there x) xs) n ≡ true)) → (stands out n ≡ true) ⊎ (stands (put_all out (put out there x) xs) n ≡ true)
in_by out there xs x n true e h f = in_on out (put out there x) (put_all out (put out there x) xs) n (put_all_longer out (put out there x) xs) (in_same out there x n (node_same n x e))
in_by out there xs x n false e h f = f h

-- what was put behind others stands there, or is left out
pub put_all_in : (out there xs : List NodeId) (n : NodeId) → stands xs n ≡ true → (stands out n ≡ true) ⊎ (stands (put_all out there xs) n ≡ true)
put_all_in out there [] n h = absurd (cc)
put_all_in out there (x ∷ xs) n h = in_by out there xs x n (nat_eq n.0 x.0) refl h (put_all_in out (put out there x) xs n)

has_of : (b : Bool) → (false ≡ true) ⊎ (b ≡ true) → b ≡ true
has_of b (inl never) = absurd (cc)
has_of b (inr h) = h

pub put_all_has : (there xs : List NodeId) (n : NodeId) → stands xs n ≡ true → stands (put_all [] there xs) n ≡ true
put_all_has there xs n h = has_of (stands (put_all [] there xs) n) (put_all_in [] there xs n h)

put_not_out : (b c : Bool) (out there : List NodeId) (i x : NodeId) (n : ℕ) → stands out i ≡ b → length there ≤ n → slice_get (if b then there else (if c then there else there ++ i ∷ [])) n ≡ Some x → stands out x ≡ false
put_not_out true c out there i x n s le e = absurd (let lt = slice_get_within there n x e in omega arith)
put_not_out false true out there i x n s le e = absurd (let lt = slice_get_within there n x e in omega arith)
put_not_out false false out there i x n s le e = ap (stands out) (sym (last_is there i x n le e)) ∙ s
  where
    last_is : (there : List NodeId) (i x : NodeId) (n : ℕ) → length there ≤ n → slice_get (there ++ i ∷ []) n ≡ Some x → i ≡ x
    last_is [] i x zero le e = same_Some i x e
    last_is [] i x (suc n) le e = absurd (none-some x e)
    last_is (y ∷ there) i x zero le e = absurd (omega arith)
    last_is (y ∷ there) i x (suc n) le e = last_is there i x n (omega arith) e

not_out_by : (out there is : List NodeId) (i x : NodeId) (n : ℕ) → (n < length (put out there i)) ⊎ (length (put out there i) ≤ n) → length there ≤ n → slice_get (put_all out (put out there i) is) n ≡ Some x
    → (length (put out there i) ≤ n → stands out x ≡ false) → stands out x ≡ false
not_out_by out there is i x n (inl lt) le e f =
    let l = put_all_longer out (put out there i) is in
    let here : slice_get (put out there i) n ≡ Some x = sym (get-within (put out there i) l.more n lt) ∙ ap (λ ys. slice_get ys n) (sym l.is) ∙ e in
    put_not_out (stands out i) (stands there i) out there i x n refl le here
not_out_by out there is i x n (inr past) le e f = f past

-- what was put behind others isn't left out
pub put_all_not_out : (out there is : List NodeId) (x : NodeId) (n : ℕ) → length there ≤ n → slice_get (put_all out there is) n ≡ Some x → stands out x ≡ false
put_all_not_out out there [] x n le e = absurd (let lt = slice_get_within there n x e in omega arith)
put_all_not_out out there (i ∷ is) x n le e = not_out_by out there is i x n (within_or n (length (put out there i))) le e (λ past. put_all_not_out out (put out there i) is x n past e)

found_on : (o p : List Origin) (kept : Kept) (n : NodeId) → ((x : NodeId) → is_met o x ≡ true → is_met p x ≡ true) → (stands kept.left_out n ≡ true) ⊎ (is_met o n ≡ true) → (stands kept.left_out n ≡ true) ⊎ (is_met p n ≡ true)
found_on o p kept n k (inl h) = inl h
found_on o p kept n k (inr h) = inr (k n h)

pub needs_still : (o p : List Origin) (kept : Kept) → ((x : NodeId) → is_met o x ≡ true → is_met p x ≡ true) → AreNeedsMet o kept → AreNeedsMet p kept
needs_still o p kept k m = record {
  required = list_all_weaker (λ n. is_met o n) (λ n. is_met p n) kept.required k m.required;
  deps = list_all_weaker (λ n. is_met o n) (λ n. is_met p n) kept.deps k m.deps;
  found = λ file other h. found_on o p kept other k (m.found file other h);
}

module _ (g : RuleGraph) where
  needs_first : (o : List Origin) (of : Rule) → are_met o (of.required ++ named_of of) ≡ true → AreNeedsMet o (first_kept g of)
  needs_first o of h =
      let met = λ (n : NodeId). is_met o n in
      let both = sym (list_all-append met of.required (named_of of)) ∙ h in
      record {
        required = and_left (list_all met of.required) (list_all met (named_of of)) both;
        deps = and_right (list_all met of.required) (list_all met (named_of of)) both;
        found = λ file other s. absurd (let no : false ≡ true = s in cc);
      }

  pub needs_admitted : (b : Planned) (r : ℕ) (kept : Kept) → IsAdmitted g b r → slice_get b.rules r ≡ Some kept → AreNeedsMet b.origins kept
  needs_admitted b r kept f at = subst (AreNeedsMet b.origins) (same_Some (first_kept g f.of) kept (sym f.is ∙ at)) (needs_first b.origins f.of f.met)

  -- what a plan needs that was made of nothing
  pub all_met_first : (a b : Planned) → ((r : ℕ) → state_of a.states r ≡ Unneeded) → Admits g a b none [] → AllMet b
  all_met_first a b u k = record { each = λ r kept ne at. needs_admitted b r kept (met_by g a b r ne (k.each r) (u r)) at }

  all_met_same : (a b : Planned) → ((x : NodeId) → is_met a.origins x ≡ true → is_met b.origins x ≡ true) → ((r : ℕ) → state_of b.states r ≢ Unneeded → state_of a.states r ≢ Unneeded) → b.rules ≡ a.rules
      → AllMet a → AllMet b
  all_met_same a b k back e m = record { each = λ r kept ne at. needs_still a.origins b.origins kept k (m.each r kept (back r ne) (sym (ap (λ x. slice_get x r) e) ∙ at)) }

  -- a wanted file was scanned
  module _ (a b : Planned) (rule : ℕ) (file : NodeId) (inc : List NodeId) (s : ScansFile g a b rule file inc) (d : FindsFile g a b rule inc) (w : wanted a rule ≡ Some file)
      (below : are_below (length g.nodes) inc ≡ true) (f : Fits g a) (m : AllMet a) (fa : AllFollow a) (fb : AllFollow b) where
    before_needs : state_of a.states rule ≢ Unneeded → AreNeedsMet a.origins s.this.before
    before_needs ne = m.each rule s.this.before ne s.this.was

    before_follows : state_of a.states rule ≢ Unneeded → Follows s.this.before
    before_follows ne =
        let k = f rule ne in
        let same : k.kept ≡ s.this.before = same_Some k.kept s.this.before (sym k.is ∙ s.this.was) in
        fa rule s.this.before s.this.was (ap (λ x. x.whole) (sym same) ∙ k.whole)

    -- a file of the rule was met, as each of its dependencies
    file_met : state_of a.states rule ≢ Unneeded → (n : NodeId) → stands s.this.before.files n ≡ true → is_met b.origins n ≡ true
    file_met ne n h =
        let k = s.this.before in
        let dep : stands k.deps n ≡ true = ap (λ x. stands x n) (before_follows ne).deps ∙ put_all_has k.named k.files n h in
        d.keeps.met n (all_stands (λ x. is_met a.origins x) k.deps n (before_needs ne).deps dep)

    new_by : (n : NodeId) → state_of a.states rule ≢ Unneeded → (stands s.this.before.left_out n ≡ true) ⊎ ((stands s.this.before.files n ≡ true) ⊎ (is_met b.origins n ≡ true))
        → (stands s.this.after.left_out n ≡ true) ⊎ (is_met b.origins n ≡ true)
    new_by n ne (inl h) = inl (ap (λ x. stands x n) s.this.left_out ∙ h)
    new_by n ne (inr (inl h)) = inr (file_met ne n h)
    new_by n ne (inr (inr h)) = inr h

    old_by : (n : NodeId) → (stands s.this.before.left_out n ≡ true) ⊎ (is_met a.origins n ≡ true) → (stands s.this.after.left_out n ≡ true) ⊎ (is_met b.origins n ≡ true)
    old_by n (inl h) = inl (ap (λ x. stands x n) s.this.left_out ∙ h)
    old_by n (inr h) = inr (d.keeps.met n h)

    found_by : (x n : NodeId) (c : Bool) → nat_eq x.0 file.0 ≡ c → state_of a.states rule ≢ Unneeded → stands (included (with_found s.this.before.found file inc) x) n ≡ true
        → (stands s.this.after.left_out n ≡ true) ⊎ (is_met b.origins n ≡ true)
    found_by x n true e ne h =
        let same : x ≡ file = node_same x file e in
        let this : included (with_found s.this.before.found file inc) x ≡ inc = ap (included (with_found s.this.before.found file inc)) same ∙ included_this s.this.before.found file inc in
        new_by n ne (d.met file s.this.before w s.this.was below n (sym (ap (λ y. stands y n) this) ∙ h))
    found_by x n false e ne h =
        old_by n ((before_needs ne).found x n (sym (ap (λ y. stands y n) (included_other s.this.before.found file x inc e)) ∙ h))

    found_met : state_of a.states rule ≢ Unneeded → (x n : NodeId) → stands (included s.this.after.found x) n ≡ true → (stands s.this.after.left_out n ≡ true) ⊎ (is_met b.origins n ≡ true)
    found_met ne x n h = found_by x n (nat_eq x.0 file.0) refl ne (sym (ap (λ y. stands (included y x) n) s.this.found) ∙ h)

    after_follows : Follows s.this.after
    after_follows = fb rule s.this.after s.this.is s.this.whole

    named_met : state_of a.states rule ≢ Unneeded → are_met b.origins s.this.after.named ≡ true
    named_met ne =
        let k = s.this.before in
        let p = λ (n : NodeId). is_met a.origins n in
        let l = put_all_longer [] k.named k.files in
        let all : list_all p (k.named ++ l.more) ≡ true = sym (ap (list_all p) ((before_follows ne).deps ∙ l.is)) ∙ (before_needs ne).deps in
        let named : list_all p k.named ≡ true = and_left (list_all p k.named) (list_all p l.more) (sym (list_all-append p k.named l.more) ∙ all) in
        ap (are_met b.origins) s.this.named ∙ list_all_weaker p (λ n. is_met b.origins n) k.named d.keeps.met named

    source_met : state_of a.states rule ≢ Unneeded → (i : ℕ) (n : NodeId) → slice_get s.this.after.sources i ≡ Some n → is_met b.origins n ≡ true
    source_met ne i n e =
        let k = s.this.before in
        let l = put_all_longer k.left_out k.sources (flat_map (included k.found) k.files) in
        let here : stands k.sources n ≡ true = stands_at k.sources i n (sym (ap (λ y. slice_get y i) s.this.sources) ∙ e) in
        let there : stands (k.sources ++ l.more) n ≡ true = stands_longer k.sources (k.sources ++ l.more) n (record { more = l.more; is = refl }) here in
        file_met ne n (ap (λ y. stands y n) ((before_follows ne).files.whole ∙ l.is) ∙ there)

    not_left_out : (i : ℕ) (n : NodeId) → length s.this.after.sources ≤ i → slice_get s.this.after.files i ≡ Some n → stands s.this.after.left_out n ≡ false
    not_left_out i n le e =
        let k = s.this.after in
        put_all_not_out k.left_out k.sources (flat_map (included k.found) k.files) n i le (sym (ap (λ y. slice_get y i) after_follows.files.whole) ∙ e)

    met_or : (i : ℕ) (n : NodeId) → length s.this.after.sources ≤ i → slice_get s.this.after.files i ≡ Some n → (stands s.this.after.left_out n ≡ true) ⊎ (is_met b.origins n ≡ true) → is_met b.origins n ≡ true
    met_or i n le e (inl h) = absurd (true_false (stands s.this.after.left_out n) h (not_left_out i n le e))
    met_or i n le e (inr h) = h

    file_by : state_of a.states rule ≢ Unneeded → (i : ℕ) (n : NodeId) → (i < length s.this.after.sources) ⊎ (length s.this.after.sources ≤ i) → slice_get s.this.after.files i ≡ Some n → is_met b.origins n ≡ true
    file_by ne i n (inl lt) e =
        let k = s.this.after in
        let l = put_all_longer k.left_out k.sources (flat_map (included k.found) k.files) in
        let here : slice_get (k.sources ++ l.more) i ≡ Some n = sym (ap (λ y. slice_get y i) (after_follows.files.whole ∙ l.is)) ∙ e in
        source_met ne i n (sym (get-within k.sources l.more i lt) ∙ here)
    file_by ne i n (inr le) e =
        let found = after_follows.files.earlier i n e le in
        met_or i n le e (found_met ne found.by n found.includes)

    files_met : state_of a.states rule ≢ Unneeded → are_met b.origins s.this.after.files ≡ true
    files_met ne = all_each (λ n. is_met b.origins n) s.this.after.files (λ i n e. file_by ne i n (within_or i (length s.this.after.sources)) e)

    this_met : state_of a.states rule ≢ Unneeded → AreNeedsMet b.origins s.this.after
    this_met ne = record {
      required = ap (are_met b.origins) s.this.required ∙ list_all_weaker (λ n. is_met a.origins n) (λ n. is_met b.origins n) s.this.before.required d.keeps.met (before_needs ne).required;
      deps =
          ap (are_met b.origins) after_follows.deps ∙ all_put_all (λ n. is_met b.origins n) [] s.this.after.named s.this.after.files (named_met ne) (files_met ne);
      found = found_met ne;
    }

    kept_there : (r : ℕ) (kept : Kept) → r ≢ rule → state_of a.states r ≢ Unneeded → slice_get b.rules r ≡ Some kept → slice_get a.rules r ≡ Some kept
    kept_there r kept other ne at =
        let k = f r ne in
        let same : k.kept ≡ kept = same_Some k.kept kept (sym (s.others r k.kept other ne k.is) ∙ at) in
        k.is ∙ ap Some same

    scanned_at : (r : ℕ) (kept : Kept) → (state_of a.states r ≡ Unneeded) ⊎ (state_of a.states r ≢ Unneeded) → (r ≡ rule) ⊎ (r ≢ rule) → state_of b.states r ≢ Unneeded → slice_get b.rules r ≡ Some kept
        → AreNeedsMet b.origins kept
    scanned_at r kept (inl u) x ne at = needs_admitted b r kept (s.met r u ne) at
    scanned_at r kept (inr n) (inl same) ne at =
        let here : slice_get b.rules rule ≡ Some kept = ap (slice_get b.rules) (sym same) ∙ at in
        subst (AreNeedsMet b.origins) (same_Some s.this.after kept (sym s.this.is ∙ here)) (this_met (λ u. n (ap (state_of a.states) same ∙ u)))
    scanned_at r kept (inr n) (inr other) ne at = needs_still a.origins b.origins kept d.keeps.met (m.each r kept n (kept_there r kept other n at))

    all_met_scanned : AllMet b
    all_met_scanned = record { each = λ r kept ne at. scanned_at r kept (unneeded_or g (state_of a.states r)) (apart r rule) ne at }

  all_met_scan : (a b : Planned) (rule : ℕ) (inc : List NodeId) (o : Option NodeId) → wanted a rule ≡ o → MatchOption o (IsUnchanged a b) (λ file. ScansFile g a b rule file inc) → FindsFile g a b rule inc
      → are_below (length g.nodes) inc ≡ true → Fits g a → AllFollow a → AllFollow b → AllMet a → AllMet b
  all_met_scan a b rule inc None w s d below f fa fb m = all_met_same a b d.keeps.met (λ r ne u. ne (ap (λ x. state_of x r) s.states ∙ u)) s.rules m
  all_met_scan a b rule inc (Some file) w s d below f fa fb m = all_met_scanned a b rule file inc s d w below f m fa fb

  pub needed_back_decided : (a : Planned) (new : List RuleState) (rule r : ℕ) (v : RuleState) (o : Bool) → AreWaiting a.states a.queue → is_open a.queue rule ≡ o → new ≡ (if o then set a.states rule v else a.states)
      → state_of new r ≢ Unneeded → state_of a.states r ≢ Unneeded
  needed_back_decided a new rule r v true w o e ne = needed_set g a.states rule r v (waits_needed g a rule (w.waits rule o)) (apart r rule) (λ u. ne (ap (λ x. state_of x r) e ∙ u))
  needed_back_decided a new rule r v false w o e ne = λ u. ne (ap (λ x. state_of x r) e ∙ u)

  pub needed_back_ended : (a : Planned) (new : List RuleState) (rule r : ℕ) (v : RuleState) (o : Bool) → is_running (state_of a.states rule) ≡ o → new ≡ (if o then set a.states rule v else a.states)
      → state_of new r ≢ Unneeded → state_of a.states r ≢ Unneeded
  needed_back_ended a new rule r v true o e ne = needed_set g a.states rule r v (running_needed g (state_of a.states rule) o) (apart r rule) (λ u. ne (ap (λ x. state_of x r) e ∙ u))
  needed_back_ended a new rule r v false o e ne = λ u. ne (ap (λ x. state_of x r) e ∙ u)

  met_same : (a b : Planned) → b.origins ≡ a.origins → (x : NodeId) → is_met a.origins x ≡ true → is_met b.origins x ≡ true
  met_same a b e x h = ap (λ o. is_met o x) e ∙ h

  -- what needed rules need was met, after each event
  pub all_met_step : (a b : Planned) (event : PlanEvent) → AreWaiting a.states a.queue → Goes a event b.states → Knows g a event b → FindsBy g a event b → AreNodes g event → Fits g a → AllFollow a → AllFollow b
      → AllMet a → AllMet b
  all_met_step a b (Scanned rule found) w s k d n f fa fb m = all_met_scan a b rule.0 found (wanted a rule.0) refl k d n f fa fb m
  all_met_step a b (Fresh rule) w s k d n f fa fb m = all_met_same a b (met_same a b d) (λ r. needed_back_decided a b.states rule.0 r Settled (is_open a.queue rule.0) w refl s) k m
  all_met_step a b (Started rule) w s k d n f fa fb m = all_met_same a b (met_same a b d) (λ r. needed_back_decided a b.states rule.0 r Running (is_open a.queue rule.0) w refl s) k m
  all_met_step a b (DoneOk rule) w s k d n f fa fb m = all_met_same a b (met_same a b d) (λ r. needed_back_ended a b.states rule.0 r Settled (is_running (state_of a.states rule.0)) refl s) k m
  all_met_step a b (DoneFailed rule) w s k d n f fa fb m = all_met_same a b (met_same a b d) (λ r. needed_back_ended a b.states rule.0 r Failed (is_running (state_of a.states rule.0)) refl s) k m
  all_met_step a b (Absent rule node) w s k d n f fa fb m = all_met_same a b (met_same a b d) (λ r. needed_back_decided a b.states rule.0 r Lacking (is_open a.queue rule.0) w refl s) k m
  all_met_step a b Halt w s k d n f fa fb m = all_met_same a b (met_same a b d) (λ r ne u. ne (ap (λ x. state_of x r) s ∙ u)) k m

  stage_needed : (x : RuleState) → x ≢ Unneeded → 1 ≤ stage x
  stage_needed Unneeded n = absurd (n refl)
  stage_needed Waiting n = omega arith
  stage_needed Running n = omega arith
  stage_needed Settled n = omega arith
  stage_needed Failed n = omega arith
  stage_needed Lacking n = omega arith

  unneeded_stage : (x : RuleState) → x ≡ Unneeded → stage x ≡ 0
  unneeded_stage x e = rw e refl

  pub still_on : (a b : Planned) → GoesOn a.states b.states → AreNeededStill a b
  still_on a b k = record {
    still = λ r n u.
        let on = k.on r in
        let some = stage_needed (state_of a.states r) n in
        let no = unneeded_stage (state_of b.states r) u in
        omega arith;
  }

  from_by : (a b : Planned) → GoesOn a.states b.states → b.origins ≡ a.origins → AreFrom g a → AreFrom g b
  from_by a b k e = from_same g a b (still_on a b k) (λ n. ap (λ o. origin_of o n) e)

  -- where files come from is what the graph says, after each event
  pub from_step : (a b : Planned) (event : PlanEvent) → GoesOn a.states b.states → FindsBy g a event b → AreFrom g a → AreFrom g b
  from_step a b (Scanned rule found) k d = d.from
  from_step a b (Fresh rule) k d = from_by a b k d
  from_step a b (Started rule) k d = from_by a b k d
  from_step a b (DoneOk rule) k d = from_by a b k d
  from_step a b (DoneFailed rule) k d = from_by a b k d
  from_step a b (Absent rule node) k d = from_by a b k d
  from_step a b Halt k d = from_by a b k d

-- the nodes that a rule names are the graph's
pub needs_below : (n : ℕ) (of : Rule) → IsRule n of → are_below n (of.required ++ named_of of) ≡ true
needs_below n of i =
    let p = λ (t : NodeId). nat_lt t.0 n in
    let sources : list_all p (sources_of of) ≡ true = all_put_all p (if is_shell of.work then ignored_of of else []) [] of.sources refl i.sources in
    let depends = all_put_all p (ignored_of of) (sources_of of) of.depends sources i.depends in
    let named = all_put_all p (ignored_of of) (put_all (ignored_of of) (sources_of of) of.depends) of.libs depends i.libs in
    list_all-append p of.required (named_of of) ∙ and_both (list_all p of.required) (list_all p (named_of of)) i.required named

-- what a rule that is admitted needs was met
pub met_one : (g : RuleGraph) (a b c : Planned) (rule : ℕ) (of : Rule) (task : Task) → b.rules ≡ set a.rules rule (kept_of task) → length a.states ≤ length a.rules → HasRoom g a → slice_get g.rules rule ≡ Some of
    → IsTaskOf g of task → IsRule (length g.nodes) of → Finds g b c (needs_at b.rules rule) → are_met c.origins (of.required ++ named_of of) ≡ true
met_one g a b c rule of task f room fits at t i k =
    let known = put_known g a b rule of task f room fits.states at t in
    let needs : needs_at b.rules rule ≡ of.required ++ named_of of = ap needs_in known in
    sym (ap (are_met c.origins) needs) ∙ k.met (ap (are_below (length g.nodes)) needs ∙ needs_below (length g.nodes) of i)

stands_either : (a b : List NodeId) (n : NodeId) → stands (a ++ b) n ≡ true → (stands a n ≡ true) ⊎ (stands b n ≡ true)
stands_either a b n h = or_split (stands a n) (stands b n) (sym (list_any-append (λ m. nat_eq n.0 m.0) a b) ∙ h)
  where
    or_split : (x y : Bool) → (x || y) ≡ true → (x ≡ true) ⊎ (y ≡ true)
    or_split true y h = inl refl
    or_split false y h = inr h

module _ (g : RuleGraph) where
  pub news_below : (out files inc new : List NodeId) → put_all out files inc ≡ files ++ new → are_below (length g.nodes) inc ≡ true → are_below (length g.nodes) new ≡ true
  news_below out files inc new e below =
      let p = λ (t : NodeId). nat_lt t.0 (length g.nodes) in
      all_each p new (λ i x at.
      let past : length files ≤ length files + i = omega arith in
      let place : (length files + i) - length files ≡ i = omega arith in
      let there : slice_get (put_all out files inc) (length files + i) ≡ Some x = ap (λ ys. slice_get ys (length files + i)) e ∙ get-behind files new (length files + i) past ∙ ap (slice_get new) place ∙ at in
      all_stands p inc x below (put_all_from out files inc x (length files + i) past there))

  news_by : (a c d : Planned) (kept : Kept) (inc new : List NodeId) (n : NodeId) → put_all kept.left_out kept.files inc ≡ kept.files ++ new → Finds g a c new → KeepsRoom c d → are_below (length g.nodes) inc ≡ true
      → (stands kept.left_out n ≡ true) ⊎ (stands (put_all kept.left_out kept.files inc) n ≡ true) → (stands kept.left_out n ≡ true) ⊎ ((stands kept.files n ≡ true) ⊎ (is_met d.origins n ≡ true))
  news_by a c d kept inc new n e k r below (inl h) = inl h
  news_by a c d kept inc new n e k r below (inr h) = inr (either (stands_either kept.files new n (sym (ap (λ y. stands y n) e) ∙ h)))
    where
      either : (stands kept.files n ≡ true) ⊎ (stands new n ≡ true) → (stands kept.files n ≡ true) ⊎ (is_met d.origins n ≡ true)
      either (inl h) = inl h
      either (inr h) = inr (r.met n (all_stands (λ x. is_met c.origins x) new n (k.met (news_below kept.left_out kept.files inc new e below)) h))

  none_wanted : (o : Option NodeId) (file : NodeId) → o ≡ None → o ≡ Some file → ⊥
  none_wanted o file e f = none-some file (sym e ∙ f)

  -- no file was wanted
  pub finds_unwanted : (a b : Planned) (rule : ℕ) (inc : List NodeId) → wanted a rule ≡ None → b.origins ≡ a.origins → KeepsRoom a b → Finds g a b [] → FindsFile g a b rule inc
  finds_unwanted a b rule inc none o k l = record { keeps = k; from = l.from; met = λ file kept w at below n h. absurd (none_wanted (wanted a rule) file none w); same = λ w. o }

  noted_by : {X : Type 0} (news : X → List NodeId) (a b c d : Planned) (rule : ℕ) (inc : List NodeId) (o : Option X) → b.origins ≡ a.origins → b.states ≡ a.states
      → MatchOption o (NotesNone a b rule) (λ _. NotesFile a b rule inc) → MatchOption o (Unit {0}) (λ x. AreNews a rule inc (news x)) → MatchOption o (c ≡ b) (λ _. Admits g b c none [])
      → MatchOption o (Unit {0}) (λ x. Finds g b c (news x)) → Stays c d → FindsFile g a d rule inc
  noted_by news a b c d rule inc None e s n w k l u =
      let same = finds_none g a b (still_same a b s) (λ n. ap (λ x. origin_of x n) e) in
      let here : KeepsRoom b d = keeps_trans b c d (keeps_same b c (ap (λ p. p.origins) k) (ap (λ p. p.states) k)) (keeps_same c d u.origins u.states) in
      finds_unwanted a d rule inc n.wants (u.origins ∙ ap (λ p. p.origins) k ∙ e) (keeps_trans a b d (keeps_same a b e s) here)
      (finds_on g a b d [] same here (finds_on g b c d [] (finds_same g b c k) (keeps_same c d u.origins u.states) (finds_stays g c d u)))
  noted_by news a b c d rule inc (Some x) e s n w k l u =
      let last = keeps_same c d u.origins u.states in
      record {
        keeps = keeps_trans a b d (keeps_same a b e s) (keeps_trans b c d k.keeps last);
        from = λ h. (finds_stays g c d u).from (l.from (from_same g a b (still_same a b s) (λ m. ap (λ y. origin_of y m) e) h));
        met = λ file kept wants at below m h.
            let same : w.kept ≡ kept = same_Some w.kept kept (sym w.at ∙ at) in
            let is : put_all kept.left_out kept.files inc ≡ kept.files ++ news x = rw same at w.is in
            news_by b c d kept inc (news x) m is l last below (put_all_in kept.left_out kept.files inc m h);
        same = λ none. absurd (none_wanted (wanted a rule) n.file none n.wants);
      }

  some_news : {X : Type 0} (P : X → Type 0) (o : Option X) → IfSome o P → MatchOption o (Unit {0}) P
  some_news P None h = tt
  some_news P (Some x) h = h

  -- what the file that was wanted includes was met, or none was wanted
  pub finds_noted_file : {X : Type 0} (news : X → List NodeId) (a b c d : Planned) (rule : ℕ) (inc : List NodeId) (o : Option X) → b.origins ≡ a.origins → b.states ≡ a.states
      → MatchOption o (NotesNone a b rule) (λ _. NotesFile a b rule inc) → IfSome o (λ x. AreNews a rule inc (news x)) → MatchOption o (c ≡ b) (λ _. Admits g b c none [])
      → IfSome o (λ x. Finds g b c (news x)) → Stays c d → FindsFile g a d rule inc
  finds_noted_file news a b c d rule inc o e s n w k l u = noted_by news a b c d rule inc o e s n (some_news (λ x. AreNews a rule inc (news x)) o w) k (some_news (λ x. Finds g b c (news x)) o l) u

  met_still_by : (b c : Planned) (kept : Kept) (n : NodeId) → c.origins ≡ b.origins → (stands kept.left_out n ≡ true) ⊎ ((stands kept.files n ≡ true) ⊎ (is_met b.origins n ≡ true))
      → (stands kept.left_out n ≡ true) ⊎ ((stands kept.files n ≡ true) ⊎ (is_met c.origins n ≡ true))
  met_still_by b c kept n o (inl h) = inl h
  met_still_by b c kept n o (inr (inl h)) = inr (inl h)
  met_still_by b c kept n o (inr (inr h)) = inr (inr (ap (λ x. is_met x n) o ∙ h))

  -- nothing further is met where neither states nor files change
  pub finds_file_still : (a b c : Planned) (rule : ℕ) (inc : List NodeId) → FindsFile g a b rule inc → c.states ≡ b.states → c.origins ≡ b.origins → FindsFile g a c rule inc
  finds_file_still a b c rule inc d s o = record {
    keeps = keeps_trans a b c d.keeps (keeps_same b c o s);
    from = λ h. from_same g b c (still_same b c s) (λ n. ap (λ x. origin_of x n) o) (d.from h);
    met = λ file kept w at below n h. met_still_by b c kept n o (d.met file kept w at below n h);
    same = λ w. o ∙ d.same w;
  }

  -- there is room, and then the requested nodes are met
  pub finds_begun : (a b c d : Planned) (xs : List NodeId) → Widens a b → Finds g b c xs → Stays c d → Finds g a d xs
  finds_begun a b c d xs w k u =
      finds_before g a b d xs (finds_none g a b (still_each a b (λ r. (w.each r).state)) w.origins) (finds_on g b c d xs k (keeps_same c d u.origins u.states) (finds_stays g c d u))

  -- there is room, then files are met, and then the rules that are needed are admitted
  pub finds_grown : (a b c d e f h : Planned) (xs : List NodeId) → Widens a b → Finds g b c xs → Stays c d → Stays d e → Stays e f → KeepsRoom f h → Finds g f h [] → Finds g a h xs
  finds_grown a b c d e f h xs w k u v t r l =
      let two : Finds g c e [] = finds_on g c d e [] (finds_stays g c d u) (keeps_same d e v.origins v.states) (finds_stays g d e v) in
      let three : Finds g c f [] = finds_on g c e f [] two (keeps_same e f t.origins t.states) (finds_stays g e f t) in
      let kept : KeepsRoom c f = keeps_trans c d f (keeps_same c d u.origins u.states) (keeps_trans d e f (keeps_same d e v.origins v.states) (keeps_same e f t.origins t.states)) in
      finds_before g a b h xs (finds_none g a b (still_each a b (λ r. (w.each r).state)) w.origins) (finds_on g b f h xs (finds_on g b c f xs k kept three) r l)

  pub from_nothing : (a : Planned) → a.origins ≡ [] → AreFrom g a
  from_nothing a e = record { each = λ n. subst (λ (o : List Origin). IsFrom g a.states n (origin_of o n)) (sym e) tt }

  -- the rule of a met node is needed
  pub maker_needed : (b : Planned) (node : NodeId) (r : ℕ) (x : Origin) → IsFrom g b.states node.0 x → is_met_from x ≡ true → rule_of g.rules node.0 ≡ Some r → state_of b.states r ≢ Unneeded
  maker_needed b node r Unmet f m e = absurd (let no : false ≡ true = m in cc)
  maker_needed b node r Source f m e = absurd (none-some r (sym f ∙ e))
  maker_needed b node r (Made rule) f m e = let same : rule.0 ≡ r = same_Some rule.0 r (sym f.0 ∙ e) in λ u. f.1 (ap (state_of b.states) same ∙ u)

  -- what the requested nodes lead to is needed
  pub reached_needed : (b : Planned) (nodes : List NodeId) → ((r : ℕ) → state_of b.states r ≢ Unneeded → IsFirstAt g b.rules r) → AreFrom g b → AllMet b → are_met b.origins nodes ≡ true → (r : ℕ) → IsAskedFor g nodes r
      → state_of b.states r ≢ Unneeded
  reached_needed b nodes k f m met r (IsAskedFor.asked node s e) =
      maker_needed b node r (origin_of b.origins node.0) (f.each node.0) (all_stands (λ n. is_met b.origins n) nodes node met s) e
  reached_needed b nodes k f m met r (IsAskedFor.needs {rule = rule} of node i at s e) =
      let p = λ (n : NodeId). is_met b.origins n in
      let ne = reached_needed b nodes k f m met rule i in
      let first = k rule ne in
      let same : first.of ≡ of = same_Some first.of of (sym first.at ∙ at) in
      let needs = m.each rule (first_kept g first.of) ne first.is in
      let both = list_all-append p first.of.required (named_of first.of) ∙ and_both (list_all p first.of.required) (list_all p (named_of first.of)) needs.required needs.deps in
      let all : list_all p (of.required ++ named_of of) ≡ true = ap (λ (x : Rule). list_all p (x.required ++ named_of x)) (sym same) ∙ both in
      maker_needed b node r (origin_of b.origins node.0) (f.each node.0) (all_stands p (of.required ++ named_of of) node all s) e
