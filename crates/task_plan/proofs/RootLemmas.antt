-- The needed rules are those that are reached from the roots, and the build order has each that waits.
use Rattle.std.proofs.Common.{arith, ◌≡◌, ◌≢◌, ◌<◌, ◌≤◌, ◌+◌, ◌-◌, ◌∙◌, ◌⊎◌, inl, inr, ℕ, List, [], ◌∷◌, ◌++◌, Bool, true, false, ◌||◌, Option, Some, None, ap, sym, refl, subst, length, drop}
use Rattle.std.specs.Prelude.{ltb, slice_get, nat_eq}
use Rattle.std.specs.List.{list_all, cons_option}
use Rattle.std.specs.Option.{option_map}
use Rattle.std.proofs.Math.Seq.{drop-append_seam}
use Rattle.std.proofs.lemmas.Bool.{ltb-true, ltb-false}
use Rattle.std.proofs.lemmas.List.{get_or_past}
use Rattle.std.proofs.lemmas.List.Folds.{list_any-append, list_all-append}
use Rattle.std.proofs.lemmas.Option.{same_Some, none-some}
use Rattle.scons_base.specs.declared.ids.NodeId.{NodeId}
use Rattle.scons_base.specs.declared.ids.RuleId.{RuleId}
use Rattle.rule_graph.specs.declared.rule.Rule.{Rule}
use Rattle.rule_graph.specs.Graphs.{RuleGraph}
use Rattle.rule_graph.specs.Rules.{rule_of}
use Rattle.task_plan.specs.States.{state_of}
use Rattle.task_plan.specs.Queues.{is_placed}
use Rattle.task_plan.specs.Named.{stands, put_all, named_of}
use Rattle.task_plan.specs.Settled.{Kept, origin_of}
use Rattle.task_plan.specs.Cycles.{IsMadeBy}
use Rattle.task_plan.specs.Plans.{Planned}
use Rattle.task_plan.specs.Met.{is_met_from, is_met, IsFrom, AreFrom, AllMet, IsAskedFor}
use Rattle.task_plan.specs.Admits.{IsFirstAt, IsKnown, Fits, AllFollow, queues}
use Rattle.task_plan.specs.Orders.{is_among, makers_of, needed_in, needed_of, IsReached, is_root, is_needed, HasReached}
use Rattle.task_plan.specs.Rooted.{makers_in, AreReached}
use Rattle.task_plan.specs.declared.states.RuleState.{RuleState}
use Rattle.task_plan.specs.declared.states.RuleState.TheVariants.{Unneeded, Waiting}
use Rattle.task_plan.specs.declared.files.Origin.{Origin}
use Rattle.task_plan.specs.declared.files.Origin.TheVariants.{Unmet, Source, Made}
use Rattle.task_plan.proofs.ListLemmas.{and_both, get-behind}
use Rattle.task_plan.proofs.NamedLemmas.{put_all_longer, stands_longer}
use Rattle.task_plan.proofs.WalkLemmas.{node_same, put_all_from}
use Rattle.task_plan.proofs.EnterLemmas.{maker_made, made_maker}
use Rattle.task_plan.proofs.MetNeeds.{all_stands, stands_at, put_all_not_out}
use Rattle.task_plan.proofs.WatchScans.{first_or, second_or, stands_split}
use Rattle.task_plan.proofs.NextLemmas.{place_of_stands}
use Rattle.task_plan.proofs.ReachedLemmas.{none_among, first, later}
use Rattle.task_plan.proofs.KeptLemmas.{among_by}
use Rattle.task_plan.proofs.RestLemmas.{place_in}
use Rattle.task_plan.proofs.ScanLemmas.{needed_needed}

waiting_within : (states : List RuleState) (r : ℕ) → state_of states r ≡ Waiting → r < length states
waiting_within states r w = by (ltb r (length states)) refl
  where
    by : (x : Bool) → ltb r (length states) ≡ x → r < length states
    by true e = ltb-true r (length states) e
    by false e = let unneeded : Unneeded ≡ Waiting = sym (get_or_past states r Unneeded (ltb-false r (length states) e)) ∙ w in absurd (cc)

-- each rule that waits has a place where the rules are put in the build order
pub placed_all : (a b : Planned) (order : List RuleId) → HasReached a.rules a.origins a.notes.roots order → length a.states ≤ length a.rules → ((r : ℕ) → r < length a.rules → queues order r ≡ true → is_placed b.queue r ≡ true)
    → AreReached a → (r : ℕ) → state_of a.states r ≡ Waiting → is_placed b.queue r ≡ true
placed_all a b order h room placed k r w =
    let lt = waiting_within a.states r w in
    placed r (omega arith) (h.all r (k.each r (λ u. let no_way : Waiting ≡ Unneeded = sym w ∙ u in cc)) (omega arith))

-- the same rules are reached where what is known of rules and files stays, and so do the roots
pub reached_same : (a b : Planned) → b.states ≡ a.states → b.rules ≡ a.rules → b.origins ≡ a.origins → b.notes.roots ≡ a.notes.roots → AreReached a → AreReached b
reached_same a b states rules origins roots k = record {
  each = λ r n. rw (rules, origins, roots) (k.each r (λ u. n (ap (λ s. state_of s r) states ∙ u)));
  only = λ r i u. k.only r (rw (rules, origins, roots) at i) (sym (ap (λ s. state_of s r) states) ∙ u);
}

-- what comes behind the files of a rule is included, and not left out
pub record IsPut (out inc : List NodeId) (n : NodeId) : Type 0 where
  pub includes : stands inc n ≡ true
  pub not_out : stands out n ≡ false

pub news_put : (out there inc : List NodeId) (n : NodeId) → stands (drop (length there) (put_all out there inc)) n ≡ true → IsPut out inc n
news_put out there inc n h =
    let l = put_all_longer out there inc in
    let behind : drop (length there) (put_all out there inc) ≡ l.more = ap (drop (length there)) l.is ∙ drop-append_seam there l.more in
    let p = place_of_stands l.more n (sym (ap (λ xs. stands xs n) behind) ∙ h) in
    let past : length there ≤ length there + p.0 = omega arith in
    let place : (length there + p.0) - length there ≡ p.0 = omega arith in
    let at : slice_get (put_all out there inc) (length there + p.0) ≡ Some n = ap (λ xs. slice_get xs (length there + p.0)) l.is ∙ get-behind there l.more (length there + p.0) past ∙ ap (slice_get l.more) place ∙ p.1 in
    record { includes = put_all_from out there inc n (length there + p.0) past at; not_out = put_all_not_out out there inc n (length there + p.0) past at }

-- a rule by its number
abbrev numbered : Option ℕ → Option RuleId
numbered number = option_map (λ n. record { 0 = n }) number

-- the makers of nodes by the graph have each that makes one
pub in_makers : (g : RuleGraph) (nodes : List NodeId) (node : NodeId) (r : ℕ) → stands nodes node ≡ true → rule_of g.rules node.0 ≡ Some r → is_among r (makers_in g nodes) ≡ true
in_makers g [] node r h e = absurd (let no : false ≡ true = h in cc)
in_makers g (x ∷ nodes) node r h e = by (nat_eq node.0 x.0) refl h (in_makers g nodes node r)
  where
    this : (o : Option ℕ) → o ≡ Some r → is_among r (cons_option (numbered o) (makers_in g nodes)) ≡ true
    this None f = absurd (none-some r f)
    this (Some n) f = first r (record { 0 = n }) (makers_in g nodes) (same_Some n r f)

    others : (o : Option ℕ) → is_among r (makers_in g nodes) ≡ true → is_among r (cons_option (numbered o) (makers_in g nodes)) ≡ true
    others None f = f
    others (Some n) f = later r (record { 0 = n }) (makers_in g nodes) f

    by : (b : Bool) → nat_eq node.0 x.0 ≡ b → (b || stands nodes node) ≡ true → (stands nodes node ≡ true → rule_of g.rules node.0 ≡ Some r → is_among r (makers_in g nodes) ≡ true) → is_among r (makers_in g (x ∷ nodes)) ≡ true
    by true same s f = this (rule_of g.rules x.0) (sym (ap (λ (y : NodeId). rule_of g.rules y.0) (node_same node x same)) ∙ e)
    by false same s f = others (rule_of g.rules x.0) (f s e)

-- what a rule needs, by a file that the other one makes
record IsNeededBy (p : Planned) (rule other : ℕ) : Type 0 where
  kept : Kept
  at : slice_get p.rules rule ≡ Some kept
  made : IsMadeBy p.origins (kept.required ++ kept.deps) (record { 0 = other })

needed_by : (p : Planned) (rule other : ℕ) → is_among other (needed_of p.rules p.origins rule) ≡ true → IsNeededBy p rule other
needed_by p rule other = by (slice_get p.rules rule) refl
  where
    by : (o : Option Kept) → slice_get p.rules rule ≡ o → is_among other (needed_in p.origins o) ≡ true → IsNeededBy p rule other
    by None e h = none_among other h
    by (Some kept) e h =
        let files = kept.required ++ kept.deps in
        let i = place_in (makers_of p.origins files) (record { 0 = other }) h in
        record { kept = kept; at = e; made = maker_made p.origins files i.0 (record { 0 = other }) i.1 }

needs_maker : (p : Planned) (rule other : ℕ) (kept : Kept) (n : NodeId) → slice_get p.rules rule ≡ Some kept → stands (kept.required ++ kept.deps) n ≡ true → origin_of p.origins n.0 ≡ Made (record { 0 = other })
    → is_among other (needed_of p.rules p.origins rule) ≡ true
needs_maker p rule other kept n at h made =
    let files = kept.required ++ kept.deps in
    let i = place_of_stands files n h in
    let m = made_maker p.origins files i.0 n (record { 0 = other }) i.1 made in
    ap (λ o. is_among other (needed_in p.origins o)) at ∙ among_by (makers_of p.origins files) m.0 (record { 0 = other }) m.1

-- what is reached is needed, where the roots are
pub reached_only : (g : RuleGraph) (p : Planned) → AreFrom g p → ((r : ℕ) → is_among r p.notes.roots ≡ true → state_of p.states r ≢ Unneeded) → (r : ℕ) → IsReached (needed_of p.rules p.origins) p.notes.roots r
    → state_of p.states r ≢ Unneeded
reached_only g p from roots r (is_root h) = roots r h
reached_only g p from roots r (is_needed other k h) = needed_needed g p other r from h

-- A rule needs all that it needed, by the same files.
pub record NeedsStill (a b : Planned) (rule : ℕ) (before : Kept) : Type 0 where
  pub after : Kept
  pub is : slice_get b.rules rule ≡ Some after
  pub stays : (n : NodeId) → stands (before.required ++ before.deps) n ≡ true → stands (after.required ++ after.deps) n ≡ true

-- what was reached is, where each needed rule needs all that it needed, and where files come from stays
pub reached_on : (a b : Planned) → AreReached a → b.notes.roots ≡ a.notes.roots → ((n : NodeId) → is_met a.origins n ≡ true → origin_of b.origins n.0 ≡ origin_of a.origins n.0)
    → ((r : ℕ) (before : Kept) → state_of a.states r ≢ Unneeded → slice_get a.rules r ≡ Some before → NeedsStill a b r before) → (r : ℕ) → IsReached (needed_of a.rules a.origins) a.notes.roots r
    → IsReached (needed_of b.rules b.origins) b.notes.roots r
reached_on a b k roots origins needs r (is_root h) = is_root (ap (is_among r) roots ∙ h)
reached_on a b k roots origins needs r (is_needed other i h) =
    let e = needed_by a other r h in
    let s = needs other e.kept (k.only other i) e.at in
    let there = stands_at (e.kept.required ++ e.kept.deps) e.made.place e.made.file e.made.at in
    is_needed other (reached_on a b k roots origins needs other i) (needs_maker b other r s.after e.made.file s.is (s.stays e.made.file there) (origins e.made.file (ap is_met_from e.made.made) ∙ e.made.made))

-- what the graph says that a rule requires and depends on is known of it
pub record HasNeeds (p : Planned) (rule : ℕ) (of : Rule) : Type 0 where
  pub kept : Kept
  pub at : slice_get p.rules rule ≡ Some kept
  pub needs : (n : NodeId) → stands (of.required ++ named_of of) n ≡ true → stands (kept.required ++ kept.deps) n ≡ true

pub has_first : (g : RuleGraph) (p : Planned) (rule : ℕ) (of : Rule) → IsFirstAt g p.rules rule → slice_get g.rules rule ≡ Some of → HasNeeds p rule of
has_first g p rule of k at = subst (HasNeeds p rule) (same_Some k.of of (sym k.at ∙ at)) (record { kept = _; at = k.is; needs = λ n h. h })

pub has_known : (g : RuleGraph) (p : Planned) (rule : ℕ) (of : Rule) → Fits g p → AllFollow p → state_of p.states rule ≢ Unneeded → slice_get g.rules rule ≡ Some of → HasNeeds p rule of
has_known g p rule of fits follow ne at = record { kept = k.kept; at = k.is; needs = λ n h. list_any-append (λ m. nat_eq n.0 m.0) k.kept.required k.kept.deps ∙ by n (stands_split of.required (named_of of) n h) }
  where
    k : IsKnown g p.rules rule
    k = fits rule ne

    same : k.of ≡ of
    same = same_Some k.of of (sym k.at ∙ at)

    by : (n : NodeId) → (stands of.required n ≡ true) ⊎ (stands (named_of of) n ≡ true) → (stands k.kept.required n || stands k.kept.deps n) ≡ true
    by n (inl h) = first_or (stands k.kept.required n) (stands k.kept.deps n) (ap (λ xs. stands xs n) (k.required ∙ ap (λ (x : Rule). x.required) same) ∙ h)
    by n (inr h) =
        let named : stands k.kept.named n ≡ true = ap (λ xs. stands xs n) (k.named ∙ ap named_of same) ∙ h in
        let dep = ap (λ xs. stands xs n) (follow rule k.kept k.is k.whole).deps ∙ stands_longer k.kept.named (put_all [] k.kept.named k.kept.files) n (put_all_longer [] k.kept.named k.kept.files) named in
        second_or (stands k.kept.required n) (stands k.kept.deps n) dep

made_of : (g : RuleGraph) (states : List RuleState) (node r : ℕ) (o : Origin) → IsFrom g states node o → is_met_from o ≡ true → rule_of g.rules node ≡ Some r → o ≡ Made (record { 0 = r })
made_of g states node r Unmet f m e = absurd (let no : false ≡ true = m in cc)
made_of g states node r Source f m e = absurd (none-some r (sym f ∙ e))
made_of g states node r (Made rule) f m e = ap (λ (x : ℕ). Made (record { 0 = x })) (same_Some rule.0 r (sym f.0 ∙ e))

-- a needed rule needs the maker that the graph has for a file of it
pub needs_made : (g : RuleGraph) (p : Planned) (rule other : ℕ) (kept : Kept) (n : NodeId) → AreFrom g p → AllMet p → state_of p.states rule ≢ Unneeded → slice_get p.rules rule ≡ Some kept → stands (kept.required ++ kept.deps) n ≡ true
    → rule_of g.rules n.0 ≡ Some other → is_among other (needed_of p.rules p.origins rule) ≡ true
needs_made g p rule other kept n from all ne at h e =
    let met = λ (x : NodeId). is_met p.origins x in
    let k = all.each rule kept ne at in
    let both = list_all-append met kept.required kept.deps ∙ and_both (list_all met kept.required) (list_all met kept.deps) k.required k.deps in
    needs_maker p rule other kept n at h (made_of g p.states n.0 other (origin_of p.origins n.0) (from.each n.0) (all_stands met (kept.required ++ kept.deps) n both h) e)

-- rules that are asked for are reached, where those of the nodes are
pub asked_reached : (g : RuleGraph) (p : Planned) (nodes : List NodeId) → AreFrom g p → AllMet p → ((r : ℕ) → IsReached (needed_of p.rules p.origins) p.notes.roots r → state_of p.states r ≢ Unneeded)
    → ((rule : ℕ) (of : Rule) → state_of p.states rule ≢ Unneeded → slice_get g.rules rule ≡ Some of → HasNeeds p rule of)
    → ((r : ℕ) (n : NodeId) → stands nodes n ≡ true → rule_of g.rules n.0 ≡ Some r → IsReached (needed_of p.rules p.origins) p.notes.roots r) → (r : ℕ) → IsAskedFor g nodes r
    → IsReached (needed_of p.rules p.origins) p.notes.roots r
asked_reached g p nodes from all only has base r (IsAskedFor.asked n s e) = base r n s e
asked_reached g p nodes from all only has base r (IsAskedFor.needs {rule = rule} of n i at s e) =
    let k = asked_reached g p nodes from all only has base rule i in
    let ne = only rule k in
    let h = has rule of ne at in
    is_needed rule k (needs_made g p rule r h.kept n from all ne h.at (h.needs n s) e)
