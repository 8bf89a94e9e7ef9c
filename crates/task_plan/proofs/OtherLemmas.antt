-- No rules come to be needed but those that some nodes ask for.
use Rattle.std.proofs.Common.{◌≡◌, ◌≤◌, ◌∙◌, ◌⊎◌, inl, inr, ⊎_elim, ℕ, List, [], ◌∷◌, ◌++◌, true, false, ap, sym, refl, length, set, Some, subst, append_assoc}
use Rattle.std.specs.Prelude.{slice_get, nat_eq}
use Rattle.std.proofs.lemmas.List.{append-nil}
use Rattle.std.proofs.Common.{get_or-set_other}
use Rattle.scons_base.specs.declared.ids.NodeId.{NodeId}
use Rattle.scons_base.specs.declared.ids.RuleId.{RuleId}
use Rattle.rule_graph.specs.declared.rule.Rule.{Rule}
use Rattle.rule_graph.specs.Graphs.{RuleGraph}
use Rattle.rule_graph.specs.Rules.{rule_of}
use Rattle.task_plan.specs.States.{state_of}
use Rattle.task_plan.specs.Named.{stands, named_of}
use Rattle.task_plan.specs.Settled.{kept_of}
use Rattle.task_plan.specs.Loaded.{IsTaskOf}
use Rattle.task_plan.specs.Plans.{Planned, Stays}
use Rattle.task_plan.specs.Met.{IsAskedFor, is_met, is_met_from, needs_in, needs_at}
use Rattle.task_plan.specs.Admits.{queues, IsBegun, Widens}
use Rattle.task_plan.specs.Rooted.{IsNeededFor, MeetsNoOthers, NeedsNoOthers, BringsNoOthers, AdmitsNoOthers, EndsNoOthers}
use Rattle.task_plan.specs.declared.task.Task.{Task}
use Rattle.task_plan.specs.declared.files.Origin.{Origin}
use Rattle.task_plan.specs.declared.files.Origin.TheVariants.{Unmet}
use Rattle.task_plan.proofs.MarkLemmas.{apart}
use Rattle.task_plan.proofs.NamedLemmas.{or_first, same_eq}
use Rattle.task_plan.proofs.AdmitLemmas.{in_either, in_first, in_second, put_known, unneeded_or}
use Rattle.task_plan.proofs.WatchMeets.{stands_one}
use Rattle.task_plan.proofs.ReachedLemmas.{first, first_or, none_among}
use Rattle.task_plan.proofs.KeptLemmas.{among_by}

-- while rules of a list were admitted others were put behind them, and nodes that ask for those ask for these too
pub record AddsNoOthers (graph : RuleGraph) (old new : Planned) (before after : List RuleId) : Type 0 where
  pub each : (nodes : List NodeId) → ((rule : ℕ) → queues before rule ≡ true → IsAskedFor graph nodes rule) → BringsNoOthers graph old new nodes before after

-- of the files that are met where one more is, each was before or is that one
pub met_one : (a b : Planned) (node : NodeId) (from : Origin) → b.origins ≡ set a.origins node.0 from → (n : NodeId) → is_met b.origins n ≡ true → (is_met a.origins n ≡ true) ⊎ (stands (node ∷ []) n ≡ true)
met_one a b node from e n h =
    ⊎_elim (λ same. inr (or_first (nat_eq n.0 node.0) false (ap (nat_eq n.0) (sym same) ∙ same_eq n.0)))
    (λ other. inl (ap is_met_from (sym (get_or-set_other a.origins node.0 n.0 from Unmet other)) ∙ ap (λ x. is_met x n) (sym e) ∙ h))
    (apart n.0 node.0)

module _ (g : RuleGraph) where
  -- nodes ask for what others lead to, where they ask for the rules of those
  asked_by : (ns ms : List NodeId) → ((n : NodeId) (r : ℕ) → stands ns n ≡ true → rule_of g.rules n.0 ≡ Some r → IsAskedFor g ms r) → (r : ℕ) → IsAskedFor g ns r → IsAskedFor g ms r
  asked_by ns ms f r (IsAskedFor.asked node s e) = f node r s e
  asked_by ns ms f r (IsAskedFor.needs {rule = rule} of node i at s e) = IsAskedFor.needs of node (asked_by ns ms f rule i) at s e

  -- so they do for what a rule needs that they ask for
  asked_needs : (ns : List NodeId) (rule : ℕ) (of : Rule) → slice_get g.rules rule ≡ Some of → IsAskedFor g ns rule → (r : ℕ) → IsAskedFor g (of.required ++ named_of of) r → IsAskedFor g ns r
  asked_needs ns rule of at ask r i = asked_by (of.required ++ named_of of) ns (λ n o s e. IsAskedFor.needs of n ask at s e) r i

  asked_this : (node : NodeId) (rule : ℕ) → rule_of g.rules node.0 ≡ Some rule → IsAskedFor g (node ∷ []) rule
  asked_this node rule e = IsAskedFor.asked node (or_first (nat_eq node.0 node.0) false (same_eq node.0)) e

  -- a file that others need, or that is one of them, is for the nodes that ask for those
  files_by : (ns ms : List NodeId) → ((n : NodeId) (r : ℕ) → stands ns n ≡ true → rule_of g.rules n.0 ≡ Some r → IsAskedFor g ms r)
      → ((n : NodeId) → stands ns n ≡ true → (stands ms n ≡ true) ⊎ IsNeededFor g ms n) → (n : NodeId) → (stands ns n ≡ true) ⊎ IsNeededFor g ns n → (stands ms n ≡ true) ⊎ IsNeededFor g ms n
  files_by ns ms f h n (inl s) = h n s
  files_by ns ms f h n (inr k) = inr (record { rule = k.rule; of = k.of; asked = asked_by ns ms f k.rule k.asked; at = k.at; needs = k.needs })

  -- no file was met
  pub files_none : (a b : Planned) (ns : List NodeId) → ((n : NodeId) → is_met b.origins n ≡ true → is_met a.origins n ≡ true) → MeetsNoOthers g a b ns
  files_none a b ns o = record { met = λ n h. inl (o n h) }

  pub files_same : (a b : Planned) (ns : List NodeId) → b.origins ≡ a.origins → MeetsNoOthers g a b ns
  files_same a b ns o = files_none a b ns (λ n h. ap (λ x. is_met x n) (sym o) ∙ h)

  files_then : (a b c : Planned) (ns : List NodeId) → MeetsNoOthers g a b ns → MeetsNoOthers g b c ns → MeetsNoOthers g a c ns
  files_then a b c ns k l = record { met = λ n h. ⊎_elim (λ before. k.met n before) (λ new. inr new) (l.met n h) }

  -- nothing came to be needed
  pub others_none : (a b : Planned) (ns : List NodeId) (p : List RuleId) → ((r : ℕ) → state_of b.states r ≡ state_of a.states r) → MeetsNoOthers g a b ns → BringsNoOthers g a b ns p p
  others_none a b ns p e o = record { more = []; is = sym (append-nil p); all = λ r u ne. absurd (ne (e r ∙ u)); asked = λ r h. none_among r h; files = o }

  pub others_same : (a b : Planned) (ns : List NodeId) (p : List RuleId) → b.states ≡ a.states → b.origins ≡ a.origins → BringsNoOthers g a b ns p p
  others_same a b ns p e o = others_none a b ns p (λ r. ap (λ s. state_of s r) e) (files_same a b ns o)

  -- a file was met
  pub others_met : (a b : Planned) (node : NodeId) (p : List RuleId) → b.states ≡ a.states → ((n : NodeId) → is_met b.origins n ≡ true → (is_met a.origins n ≡ true) ⊎ (stands (node ∷ []) n ≡ true)) → BringsNoOthers g a b (node ∷ []) p p
  others_met a b node p e o = others_none a b (node ∷ []) p (λ r. ap (λ s. state_of s r) e) (record { met = λ n h. ⊎_elim (λ before. inl before) (λ this. inr (inl this)) (o n h) })

  -- a rule came to be needed
  pub others_begun : (a b : Planned) (rule : RuleId) (p q : List RuleId) → IsBegun a b rule.0 → q ≡ p ++ rule ∷ [] → AdmitsNoOthers g a b rule.0 p q
  others_begun a b rule p q k e = record {
    each = λ ns ask. record {
      more = rule ∷ [];
      is = e;
      all = λ r u ne. ⊎_elim (λ same. first r rule [] (sym same)) (λ other. absurd (ne (k.states r other ∙ u))) (apart r rule.0);
      asked = λ r h. ⊎_elim (λ same. subst (IsAskedFor g ns) same ask) (λ never. none_among r never) (first_or r rule [] h);
      files = files_same a b ns k.origins;
    };
  }

  -- first some rules came to be needed, and then others
  pub others_then : (a b c : Planned) (ns : List NodeId) (p q u : List RuleId) → BringsNoOthers g a b ns p q → BringsNoOthers g b c ns q u → BringsNoOthers g a c ns p u
  others_then a b c ns p q u k l = record {
    more = k.more ++ l.more;
    is = l.is ∙ ap (λ x. x ++ l.more) k.is ∙ append_assoc p k.more l.more;
    all = λ r u ne. ⊎_elim (λ not_yet. in_second g k.more l.more r (l.all r not_yet ne)) (λ already. in_first g k.more l.more r (k.all r u already)) (unneeded_or g (state_of b.states r));
    asked = λ r h. ⊎_elim (λ m. k.asked r m) (λ m. l.asked r m) (in_either g k.more l.more r h);
    files = files_then a b c ns k.files l.files;
  }

  -- a file is met, and then a rule comes to be needed that makes it
  pub others_made : (a b c : Planned) (node : NodeId) (rule : ℕ) (p q : List RuleId) → b.states ≡ a.states
      → ((n : NodeId) → is_met b.origins n ≡ true → (is_met a.origins n ≡ true) ⊎ (stands (node ∷ []) n ≡ true)) → rule_of g.rules node.0 ≡ Some rule → AdmitsNoOthers g b c rule p q → BringsNoOthers g a c (node ∷ []) p q
  others_made a b c node rule p q s o e k = others_then a b c (node ∷ []) p p q (others_met a b node p s o) (k.each (node ∷ []) (asked_this node rule e))

  -- nothing further comes to be needed
  pub others_stay : (a b c : Planned) (ns : List NodeId) (p q : List RuleId) → BringsNoOthers g a b ns p q → Stays b c → BringsNoOthers g a c ns p q
  others_stay a b c ns p q k s = others_then a b c ns p q q k (others_same b c ns q s.states s.origins)

  -- further rules come to be needed, by one of the nodes
  pub others_more : (a b c : Planned) (ns : List NodeId) (n : NodeId) (p q u : List RuleId) → stands ns n ≡ true → BringsNoOthers g a b ns p q → BringsNoOthers g b c (n ∷ []) q u → BringsNoOthers g a c ns p u
  others_more a b c ns n p q u there k l = others_then a b c ns p q u k (record {
    more = l.more;
    is = l.is;
    all = l.all;
    asked = λ r h. asked_by (n ∷ []) ns (λ m o s e. IsAskedFor.asked m (one m s) e) r (l.asked r h);
    files = record { met = λ m h. ⊎_elim (λ before. inl before) (λ new. inr (files_by (n ∷ []) ns (λ o r s e. IsAskedFor.asked o (one o s) e) (λ o s. inl (one o s)) m new)) (l.files.met m h) };
  })
    where
      one : (m : NodeId) → stands (n ∷ []) m ≡ true → stands ns m ≡ true
      one m s = subst (λ (x : NodeId). stands ns x ≡ true) (stands_one n m s) there

  -- A rule is put, and what it needs is met.
  pub others_put : (a b c d e : Planned) (rule : ℕ) (of : Rule) (task : Task) (p q : List RuleId) → b.states ≡ a.states → b.origins ≡ a.origins → b.rules ≡ set a.rules rule (kept_of task) → length a.states ≤ length a.rules → length g.rules ≤ length a.states
      → slice_get g.rules rule ≡ Some of → IsTaskOf g of task → BringsNoOthers g b c (needs_at b.rules rule) p q → Stays c d → Stays d e → AdmitsNoOthers g a e rule p q
  others_put a b c d e rule of task p q s o f room fits at t k u v = record {
    each = λ ns ask.
        let needs : needs_at b.rules rule ≡ of.required ++ named_of of = ap needs_in (put_known g a b rule of task f room fits at t) in
        let met : BringsNoOthers g b c ns p q = record {
          more = k.more;
          is = k.is;
          all = k.all;
          asked = λ r h. asked_needs ns rule of at ask r (subst (λ (ms : List NodeId). IsAskedFor g ms r) needs (k.asked r h));
          files = record {
            met = λ n h. ⊎_elim (λ before. inl before)
                (λ new. inr (files_by (of.required ++ named_of of) ns (λ m r s e. IsAskedFor.needs of m ask at s e)
                (λ m s. inr (record { rule = rule; of = of; asked = ask; at = at; needs = s })) n
                (subst (λ (ms : List NodeId). (stands ms n ≡ true) ⊎ IsNeededFor g ms n) needs new)))
                (k.files.met n h);
          };
        } in
        others_stay a d e ns p q (others_stay a c d ns p q (others_then a b c ns p p q (others_same a b ns p s o) met) u) v;
  }

  -- none was admitted yet
  pub adds_first : (a : Planned) (p : List RuleId) → AddsNoOthers g a a p p
  adds_first a p = record { each = λ ns f. others_same a a ns p refl refl }

  -- one rule more is admitted
  pub adds_next : (a b c : Planned) (p q u : List RuleId) (place : ℕ) (rule : RuleId) → slice_get q place ≡ Some rule → AddsNoOthers g a b p q → AdmitsNoOthers g b c rule.0 q u → AddsNoOthers g a c p u
  adds_next a b c p q u place rule at k l = record {
    each = λ ns f.
        let old = k.each ns f in
        let there : queues (p ++ old.more) rule.0 ≡ true = ap (λ (x : List RuleId). queues x rule.0) (sym old.is) ∙ among_by q place rule at in
        let ask : IsAskedFor g ns rule.0 = ⊎_elim (λ m. f rule.0 m) (λ m. old.asked rule.0 m) (in_either g p old.more rule.0 there) in
        others_then a b c ns p q u old (l.each ns ask);
  }

  needs_by : (a b : Planned) (ns : List NodeId) (p q : List RuleId) → BringsNoOthers g a b ns p q → NeedsNoOthers g a b ns
  needs_by a b ns p q k = record { each = λ r u ne. k.asked r (k.all r u ne); files = k.files }

  needs_then : (a b c : Planned) (ns : List NodeId) → NeedsNoOthers g a b ns → NeedsNoOthers g b c ns → NeedsNoOthers g a c ns
  needs_then a b c ns k l = record {
    each = λ r u ne. ⊎_elim (λ not_yet. l.each r not_yet ne) (λ already. k.each r u already) (unneeded_or g (state_of b.states r));
    files = files_then a b c ns k.files l.files;
  }

  -- all are admitted
  pub adds_end : (a b : Planned) (p q : List RuleId) → AddsNoOthers g a b p q → EndsNoOthers g a b p
  adds_end a b p q k = record { each = λ ns f. needs_by a b ns p q (k.each ns f) }

  -- some rules came to be needed, and then all of them are admitted
  pub others_all : (a b c : Planned) (ns : List NodeId) (p : List RuleId) → BringsNoOthers g a b ns [] p → EndsNoOthers g b c p → NeedsNoOthers g a c ns
  others_all a b c ns p k l = needs_then a b c ns (needs_by a b ns [] p k) (l.each ns (λ r h. k.asked r (subst (λ (x : List RuleId). queues x r ≡ true) k.is h)))

  -- there is room, some rules came to be needed, none did for a while, and then all of them are admitted
  pub others_grown : (a b c d e f h : Planned) (ns : List NodeId) (p : List RuleId) → Widens a b → BringsNoOthers g b c ns [] p → Stays c d → Stays d e → Stays e f → EndsNoOthers g f h p → NeedsNoOthers g a h ns
  others_grown a b c d e f h ns p w k s t u l =
      let room : BringsNoOthers g a b ns [] [] = others_none a b ns [] (λ r. (w.each r).state) (files_none a b ns (λ n h. ap is_met_from (sym (w.origins n.0)) ∙ h)) in
      let later : BringsNoOthers g b f ns [] p = others_stay b e f ns [] p (others_stay b d e ns [] p (others_stay b c d ns [] p k s) t) u in
      others_all a f h ns p (others_then a b f ns [] [] p room later) l
