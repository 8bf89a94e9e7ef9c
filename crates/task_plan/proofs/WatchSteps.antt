-- What is watched through the events of a plan.
use Rattle.std.proofs.Common.{arith, ◌≡◌, ◌≤◌, ◌∙◌, ℕ, List, [], ◌∷◌, Bool, true, false, ◌||◌, ap, sym, refl, length, get_or, Option, Some, None, subst}
use Rattle.std.specs.Prelude.{nat_eq, MatchOption, IfSome, IfNone}
use Rattle.std.proofs.lemmas.Bool.Decides.{nat_tests}
use Rattle.std.proofs.lemmas.Option.{get_or_from_slice_get}
use Rattle.std.proofs.lemmas.List.Quantifiers.{position-Some}
use Rattle.scons_base.specs.declared.ids.NodeId.{NodeId}
use Rattle.scons_base.specs.declared.ids.RuleId.{RuleId}
use Rattle.rule_graph.specs.declared.rule.Rule.{Rule}
use Rattle.rule_graph.specs.Graphs.{RuleGraph}
use Rattle.rule_graph.specs.Rules.{are_below, is_target_of}
use Rattle.task_plan.specs.States.{state_of}
use Rattle.task_plan.specs.Named.{stands}
use Rattle.task_plan.specs.Settled.{origin_of}
use Rattle.task_plan.specs.Plans.{Planned}
use Rattle.task_plan.specs.Met.{IsFrom, AreFrom, AreNews}
use Rattle.task_plan.specs.Admits.{queues, none, Fits}
use Rattle.task_plan.specs.Watched.{every, targets_in, targets_at, AreWatched, AreQueued, HasNotes, IsComplete, AreTargets}
use Rattle.task_plan.specs.Rooted.{AreReached}
use Rattle.task_plan.specs.Watching.{WidensWatch, NotesWatch, GrowsWatch, EndsWatch, Orders}
use Rattle.task_plan.specs.declared.states.RuleState.TheVariants.{Unneeded, Waiting}
use Rattle.task_plan.specs.declared.files.Origin.TheVariants.{Made}
use Rattle.task_plan.proofs.MetNeeds.{news_below}
use Rattle.task_plan.proofs.WatchLemmas.{watched_still, hears_same}
use Rattle.task_plan.proofs.WatchMeets.{watched_fewer, queued_same, queued_none, widens_keeps, still_by}

queued_fewer : (a : Planned) (rule : ℕ) → AreQueued a none → AreQueued a (nat_eq rule)
queued_fewer a rule q = record { placed = q.placed; opened = λ ok r no. q.opened ok r refl }

-- what was noted was taken in, or nothing was
pub scanned_complete : {X : Type 0} (P : X → Type 0) (g : RuleGraph) (news : X → List NodeId) (a b c d : Planned) (rule : ℕ) (inc : List NodeId) (o : Option X) → IfNone o (b ≡ a) → IfSome o (λ x. NotesWatch a b rule (news x))
    → IfSome o (λ x. AreNews a rule inc (news x)) → MatchOption o (c ≡ b) P → IfSome o (λ x. GrowsWatch g b c rule (news x)) → (AreReached d → HasNotes c → AreWatched c every none → AreQueued c (nat_eq rule) → IsComplete d)
    → are_below (length g.nodes) inc ≡ true → AreReached d → IsComplete a → IsComplete d
scanned_complete P g news a b c d rule inc None e n w f k look below reached i =
    let same : c ≡ a = f ∙ e in
    look reached (subst HasNotes (sym same) i.room) (subst (λ (x : Planned). AreWatched x every none) (sym same) i.watched) (subst (λ (x : Planned). AreQueued x (nat_eq rule)) (sym same) (queued_fewer a rule i.queued))
scanned_complete P g news a b c d rule inc (Some x) e n w f k look below reached i =
    let room = n.room i.room in
    let new_below = news_below g w.kept.left_out w.kept.files inc (news x) w.is below in
    look reached (k.room room) (k.watched new_below room (n.half i.watched) (n.watched i.watched)) (k.queued (n.queued i.queued))

-- nothing is overlooked where nothing further is done
pub complete_halted : (a b : Planned) → b ≡ record a { halted = b.halted } → IsComplete a → IsComplete b
complete_halted a b e k = record {
  watched = record {
    each = λ r no.
        watched_still a b every every r (still_by a b r (λ h. sym (ap (λ x. state_of x.states r) e) ∙ h) (ap (λ x. x.rules) e) (ap (λ x. x.notes.places) e) (ap (λ x. x.marks) e))
        (hears_same a b every r (ap (λ x. x.states) e) (ap (λ x. x.origins) e) (ap (λ x. x.notes.waiters) e)) (k.watched.each r no);
  };
  queued = queued_same a b none (ap (λ x. x.states) e) (ap (λ x. x.rules) e) (ap (λ x. x.notes.places) e) (ap (λ x. x.queue) e) (λ ok. sym (ap (λ x. x.notes.is_ordered) e) ∙ ok) k.queued;
  ordered = record { fits = λ unmarked. ap (λ x. x.notes.is_ordered) e ∙ k.ordered.fits (λ r. sym (ap (λ x. get_or x.marks r false) e) ∙ unmarked r) };
  room = record {
    marks = let m = ap (λ x. length x.rules) e in let n = ap (λ x. length x.marks) e in let w = k.room.marks in omega arith;
    waiters = let m = ap (λ x. length x.origins) e in let n = ap (λ x. length x.notes.waiters) e in let w = k.room.waiters in omega arith;
  };
}

none_waits : (a : Planned) (r : ℕ) → a.states ≡ [] → state_of a.states r ≡ Waiting → ⊥
none_waits a r e w = let bad : Unneeded ≡ Waiting = sym (ap (λ x. state_of x r) e) ∙ w in cc

-- a plan of nothing is given room, and then what is requested is met and ordered
pub begins_complete : (a b c d : Planned) → WidensWatch a b → length b.rules ≤ length b.marks → EndsWatch b c [] [] → Orders c d → a.states ≡ [] → a.origins ≡ [] → a.notes.is_ordered ≡ false → IsComplete d
begins_complete a b c d w room k o states origins unordered =
    let lists : length b.origins ≤ length b.notes.waiters = w.lists (let n = ap length origins in omega arith) in
    let notes : HasNotes b = record { marks = room; waiters = lists } in
    let widened = widens_keeps a b w (λ h. notes) in
    let nothing : AreWatched a every none = record { each = λ r no. record { each = λ kept at waits e g. absurd (none_waits a r states waits) } } in
    let first = watched_fewer b every (λ r. none r || false) (queues []) (λ r no. refl) (widened.watched none nothing) in
    let queued = k.queued none (widened.queued none (queued_none a none unordered)) in
    record {
      watched = o.watched none (k.watched notes first);
      queued = o.queued none queued;
      ordered = o.ordered;
      room = o.room (k.room notes);
    }

stands_target : (xs : List NodeId) (n : NodeId) → is_target_of xs n.0 ≡ true → stands xs n ≡ true
stands_target [] n h = h
stands_target (x ∷ xs) n h = by (nat_eq x.0 n.0) refl h (stands_target xs n)
  where
    or_first : (p q : Bool) → p ≡ true → (p || q) ≡ true
    or_first true q h = refl
    or_first false q h = absurd (cc)

    or_second : (p q : Bool) → q ≡ true → (p || q) ≡ true
    or_second true q h = refl
    or_second false q h = h

    turned : (l m : ℕ) → nat_eq l m ≡ true → nat_eq m l ≡ true
    turned l m h = grind (arith, nat_tests)

    by : (p : Bool) → nat_eq x.0 n.0 ≡ p → (p || is_target_of xs n.0) ≡ true → (is_target_of xs n.0 ≡ true → stands xs n ≡ true) → stands (x ∷ xs) n ≡ true
    by true e s f = or_first (nat_eq n.0 x.0) (stands xs n) (turned x.0 n.0 e)
    by false e s f = or_second (nat_eq n.0 x.0) (stands xs n) (f s)

made_from : (g : RuleGraph) (a : Planned) (node : NodeId) (rule : RuleId) → AreFrom g a → origin_of a.origins node.0 ≡ Made rule → IsFrom g a.states node.0 (Made rule)
made_from g a node rule f e = subst (IsFrom g a.states node.0) e (f.each node.0)

-- a file that a rule makes is among its targets, by what the graph says
pub targets_of : (g : RuleGraph) (a : Planned) → Fits g a → AreFrom g a → AreTargets a
targets_of g a fits from = record {
  each = λ node rule e.
      let k = made_from g a node rule from e in
      let i = fits rule.0 k.1 in
      let p = position-Some (λ (r : Rule). is_target_of r.targets node.0) g.rules rule.0 i.of k.0 in
      let same : get_or g.rules rule.0 i.of ≡ i.of = get_or_from_slice_get g.rules rule.0 i.of i.of i.at in
      let target : is_target_of i.of.targets node.0 ≡ true = ap (λ (r : Rule). is_target_of r.targets node.0) (sym same) ∙ p.1 in
      let targets : targets_at a.rules rule.0 ≡ i.of.targets = ap targets_in i.is ∙ i.targets in
      ap (λ xs. stands xs node) targets ∙ stands_target i.of.targets node target;
}
