-- Whether the rule of a path is settled, and of which files nothing was read then.
use Rattle.std.proofs.Common.{◌≡◌, ◌⊎◌, inl, inr, ℕ, List, [], ◌∷◌, ◌++◌, ap, refl, sym, subst, ◌∙◌, arith, zero, suc, length, ◌≤◌, Contains}
use Rattle.std.specs.Prelude.{slice_get, Some, None}
use Rattle.scons_base.specs.declared.ids.NodeId.{NodeId}
use Rattle.rule_graph.specs.Graphs.{RuleGraph}
use Rattle.world_api.specs.Around.{Around}
use Rattle.build_model.specs.Rules.{Path, Rule, Among, here, there}
use Rattle.build_model.specs.Moments.{Job as Given}
use Rattle.build_model.specs.Steps.{Step, settled, IsReady, IsMissing, is_source, is_made}
use Rattle.build_model.proofs.Runs.{settled_prepared}
use Rattle.build_model.proofs.Ready.{needed_place}
use Rattle.build_means.proofs.Growing.{get_either}
use Rattle.build_means.proofs.Lists.{none_some, some_same}
use Rattle.build_files.specs.Kept.{AreTrue, IsUnread}
use Rattle.build_files.specs.Reading.{IsUnreadIn, ReadsOnly}
use Rattle.build_files.specs.declared.inputs.Inputs.{Inputs}
use Rattle.run_means.specs.Ways.{IsWay}
use Rattle.run_means.proofs.Lists.{contains_among, among_contains}
use Rattle.turn_means.specs.Standing.{Outset, IsOutset, begun_at, setting_at, AreUnread}
use Rattle.turn_means.specs.Recording.{build_at}
use Rattle.turn_means.proofs.Files.{contained}
use Rattle.turn_means.proofs.Running.{MakesIt, lawful, makes_each, one_rule, run_so}

past_end : {A : Type 0} (xs : List A) (i : ℕ) → slice_get xs i ≡ None → length xs ≤ i
past_end [] i e = omega arith
past_end (x ∷ xs) zero e = none_some (sym e)
past_end (x ∷ xs) (suc i) e = let k = past_end xs i e in omega arith

-- a file waits for nothing, or is missing
abbrev pub IsReadable : Outset → Around → List Step → Path → Type 0
IsReadable o around past path =
    IsReady (setting_at o) around.tree (settled past) path ⊎ IsMissing (setting_at o) around.tree path

module _ (o : Outset) (outset : IsOutset o) (jobs : List Given) (around : Around) (past : List Step)
    (way : IsWay o.wanted o.kept o.counts o.before jobs around past) where
  settled_place : {r : Rule} → Among r (settled past) → (path : Path) × MakesIt o path r
  settled_place m = needed_place (settled_prepared (setting_at o) (build_at o around) past (run_so o outset jobs around past way) m).wanted.is_needed

  not_front : (path : Path) (q r : Rule) (rules : List Rule) → MakesIt o path r → (Contains q.targets path → ⊥) → (Among r rules → ⊥) →
      Among r (q ∷ rules) → ⊥
  not_front path q r rules e out none here = out (among_contains ((lawful o outset).makes path r e))
  not_front path q r rules e out none (there h) = none h

  front : (path : Path) (q r : Rule) (rules : List Rule) → MakesIt o path r → Among q (settled past) →
      Contains q.targets path ⊎ (Contains q.targets path → ⊥) → Among r rules ⊎ (Among r rules → ⊥) →
      Among r (q ∷ rules) ⊎ (Among r (q ∷ rules) → ⊥)
  front path q r rules e m (inl has) rest =
      let place = settled_place m in
      let same : q ≡ r = one_rule o outset path (makes_each o outset place.0 place.1 path (contains_among q.targets has)) e in
      inl (subst (λ (x : Rule). Among x (q ∷ rules)) same here)
  front path q r rules e m (inr out) (inl more) = inl (there more)
  front path q r rules e m (inr out) (inr none) = inr (λ h. not_front path q r rules e out none h)

  settled_in : (path : Path) (r : Rule) → MakesIt o path r → (rules : List Rule) → ((q : Rule) → Among q rules → Among q (settled past)) →
      Among r rules ⊎ (Among r rules → ⊥)
  settled_in path r e [] within = inr (λ m. elim m [ ])
  settled_in path r e (q ∷ rules) within =
      front path q r rules e (within q here) (contained q.targets path) (settled_in path r e rules (λ x m. within x (there m)))

  -- whether the rule of a path is settled
  pub settled_or : (path : Path) (r : Rule) → MakesIt o path r → Among r (settled past) ⊎ (Among r (settled past) → ⊥)
  settled_or path r e = settled_in path r e (settled past) (λ q m. m)

  -- a file that may be read, and that a rule makes, has it settled
  pub readable_settled : (path : Path) (r : Rule) → IsReadable o around past path → MakesIt o path r → Among r (settled past)
  readable_settled path r (inl (is_source bytes none file)) e = none_some (sym none ∙ e)
  readable_settled path r (inl (is_made q is h)) e = subst (λ (x : Rule). Among x (settled past)) (some_same (sym is ∙ e)) h
  readable_settled path r (inr missing) e = none_some (sym missing.no_rule ∙ e)

  module _ (g h : RuleGraph) (more : List Path) (grown : h.nodes ≡ g.nodes ++ more) (old new : Inputs)
      (truth : AreTrue (begun_at o) g old around) (files : List NodeId)
      (readable : (file : NodeId) (path : Path) → Among file files → slice_get h.nodes file.0 ≡ Some path → IsReadable o around past path)
      (only : ReadsOnly files old new) (unread : AreUnread o g old past) where
    -- a node that is there now was there, or nothing is kept of it
    node_before : (node : ℕ) (path : Path) → slice_get h.nodes node ≡ Some path →
        (slice_get g.nodes node ≡ Some path) ⊎ (slice_get g.nodes node ≡ None)
    node_before node path at = elim (get_either g.nodes more node path (sym (ap (λ nodes. slice_get nodes node) grown) ∙ at)) [
      | inl e ↦ inl e
      | inr e ↦ inr e.0
    ]

    unread_old : (node : ℕ) (path : Path) (r : Rule) → MakesIt o path r → (Among r (settled past) → ⊥) →
        (slice_get g.nodes node ≡ Some path) ⊎ (slice_get g.nodes node ≡ None) → IsUnreadIn old node
    unread_old node path r e out (inl at) = record {
      seen = unread.each node path r at e out;
      scans = λ scan nodes kept same. out (unread.scans scan nodes kept path r (ap (λ n. slice_get g.nodes n) same ∙ at) e);
    }
    unread_old node path r e out (inr none) = record {
      seen = subst IsUnread (sym (truth.behind node (past_end g.nodes node none))) (record { digest = refl; includes = refl; stamp = refl });
      scans = λ scan nodes kept same.
          none_some (sym none ∙ ap (λ n. slice_get g.nodes n) (sym same) ∙ (truth.found.each scan nodes kept).file);
    }

    unread_new : (node : ℕ) (path : Path) (r : Rule) → slice_get h.nodes node ≡ Some path → MakesIt o path r → (Among r (settled past) → ⊥) →
        IsUnreadIn new node
    unread_new node path r at e out =
        only node
        (λ file m same. out (readable_settled path r (readable file path m (ap (λ n. slice_get h.nodes n) same ∙ at)) e))
        (unread_old node path r e out (node_before node path at))

    -- nothing more was read of what unsettled rules make
    pub unread_still : AreUnread o h new past
    unread_still = record {
      scans = λ scan nodes kept path r at e. elim (settled_or path r e) [
        | inl m ↦ m
        | inr out ↦ absurd ((unread_new scan.file.0 path r at e out).scans scan nodes kept refl)
      ];
      each = λ node path r at e out. (unread_new node path r at e out).seen;
    }
