-- What tells the truth does so behind each event, and a build that ends with status 0 behind others ends clean.
use Rattle.std.proofs.Common.{◌≡◌, ◌∙◌, ◌⊎◌, ◌↔◌, inl, inr, ℕ, Bool, true, false, List, [], ◌++◌, ◌∷◌, ◌+◌, ◌<◌, Contains, Option, Some, None, refl, sym, subst, ap, option_map, suc, take, drop, length, get_or, arith}
use Rattle.std.specs.Prelude.{IfErr, IsErrAnd, IsTrue, Result, Ok, Err}
use Rattle.std.specs.Option.{is_some}
use Rattle.std.proofs.Math.Seq.{take-suc}
use Rattle.std.proofs.lemmas.List.{append_assoc, length-take-le, take-append-drop}
use Rattle.world_api.specs.Around.{Around, IsRunningTarget}
use Rattle.world_api.specs.Banks.{Banks}
use Rattle.world_api.specs.Meaning.{IsImage, IsSettled}
use Rattle.world_api.specs.declared.disk.Bank.{Bank}
use Rattle.world_api.specs.declared.disk.Bank.TheVariants.{A, B}
use Rattle.mem_banks.specs.AsStore.{store_of}
use Rattle.mem_banks.specs.Past as past
use Rattle.mem_banks.specs.declared.banks.MemBanks.{MemBanks}
use Rattle.world_mem.specs.AsAround.{around_of}
use Rattle.world_mem.specs.Means.{around_in, seen_in, world_meaning}
use Rattle.world_mem.specs.declared.state.State.{State}
use Rattle.world_mem.specs.declared.world.MemWorld.{MemWorld}
use Rattle.sign_store.specs.Ends.{image_in}
use Rattle.sign_store.specs.Images.{image_of}
use Rattle.sign_store.specs.Tables.{Map, nothing}
use Rattle.build_model.specs.Records.{AreSound, IsMadeBy}
use Rattle.build_model.specs.Rules.{Among, Bytes, Path, Record, Records, Setting, Tree, here, there}
use Rattle.build_model.proofs.Histories.{sound_too}
use Rattle.build_model.proofs.Lists.{among_left, none_some}
use Rattle.build_means.specs.Graphs.{act_by, digest_by}
use Rattle.build_means.specs.Records.{record_in, records_in}
use Rattle.build_files.proofs.Left.{none_runs}
use Rattle.run_means.proofs.Lists.{among_contains, contains_among}
use Rattle.turn_means.proofs.Files.{contained}
use Rattle.build_run.specs.Safe.{IsOfLaw}
use Rattle.build_run.specs.Truth.{IsSafeMoment, TellsTruth}
use Rattle.scons_words.specs.declared.words.Words.{Words}
use Rattle.scons_top.specs.Builds.{HasBuilt}
use Rattle.scons_top.specs.Stopping.{RunsSafely}
use Rattle.scons_top.specs.declared.report.Report.{Report}
use Rattle.build_history.specs.Events.{AreSettled, IsEdit, IsFused, IsLeftBy, IsRemoval, IsRun, IsStopped}
use Rattle.build_history.specs.Histories.{EndsClean, EndsCleanly, Goes, HasNoRecords, IsHistory, IsRefused, IsTold, IsTrueWorld, Refuses, Tells, begins, goes_on}
use Rattle.build_history.specs.declared.event.Event.{Event}
use Rattle.build_history.specs.declared.event.Event.TheVariants as event
use Rattle.build_history.specs.declared.event.HistoryFault.{HistoryFault}
use Rattle.build_history.specs.declared.told.Told.{Told}

-- ---- files

-- a path is the only one of a list, or isn't it
only_here : {p path : Path} → Contains (path ∷ []) p → p ≡ path
only_here {p} {path} m = at (contains_among (path ∷ []) m)
  where
    at : {q : Path} → Among q (path ∷ []) → q ≡ path
    at here = refl
    at (there m) = elim m [ ]

module _ (s : Setting) where
  -- where files but one are as they were, and that one is gone or has no record
  sound_but : (met more : List Bytes) (t u : Tree) (m : Records) (path : Path) → ((bytes : Bytes) → Among bytes met → Among bytes more) →
      ((other : Path) → (other ≡ path → ⊥) → u other ≡ t other) → (u path ≡ None) ⊎ (m path ≡ None) → AreSound s met t m → AreSound s more u m
  sound_but met more t u m path grows files gone sound = record {
    at_targets = sound.at_targets;
    true_of_files = λ p r bytes is file. by p r bytes is file (contained (path ∷ []) p);
  }
    where
      on : AreSound s more t m
      on = sound_too s s refl refl grows sound

      changed : (p : Path) (r : Record) (bytes : Bytes) → m p ≡ Some r → u p ≡ Some bytes → p ≡ path → IsMadeBy s more r p bytes
      changed p r bytes is file same = elim gone [
        | inl none ↦ none_some (sym none ∙ ap u (sym same) ∙ file)
        | inr none ↦ none_some (sym none ∙ ap m (sym same) ∙ is)
      ]

      by : (p : Path) (r : Record) (bytes : Bytes) → m p ≡ Some r → u p ≡ Some bytes → Contains (path ∷ []) p ⊎ (Contains (path ∷ []) p → ⊥) →
          IsMadeBy s more r p bytes
      by p r bytes is file (inl m) = changed p r bytes is file (only_here m)
      by p r bytes is file (inr free) =
          on.true_of_files p r bytes is
          (sym (files p (λ same. free (subst (λ x. Contains (path ∷ []) x) (sym same) (among_contains (here {xs = []}))))) ∙ file)

  -- ---- banks

  -- banks that a settled world may leave are those that it shows
  same_image : (a b : Banks) → ((bank : Bank) → a bank ≡ b bank) → image_in a ≡ image_in b
  same_image a b same = ap (λ bytes. image_of bytes (a B)) (same A) ∙ ap (λ bytes. image_of (b A) bytes) (same B)

  module _ (old new : MemWorld) (idle : (around_in old).running ≡ []) where
    -- nothing runs behind what leaves the running jobs as they are
    still_none : (around_in new).running ≡ (around_in old).running → (path : Path) → IsRunningTarget (around_in new).running path → ⊥
    still_none same path = none_runs (around_in new).running path (same ∙ idle)

    images_back : new.banks ≡ old.banks → (banks : Banks) → IsImage world_meaning new banks → IsImage world_meaning old banks
    images_back same banks image =
        subst (λ (kept : MemBanks). (bank : Bank) → past.IsImage (store_of kept) bank (banks bank)) same image

    edited_true : (path bytes : List ℕ) → IsEdit path bytes old new → TellsTruth world_meaning s old → TellsTruth world_meaning s new
    edited_true path bytes edit truth t u banks image left is_left =
        let before = images_back edit.banks banks image in
        let same = same_image banks (seen_in old) (λ bank. edit.settled bank (banks bank) (before bank)) in
        let none = ap (λ (map : Map). map path) same ∙ edit.unrecorded in
        sound_but (around_in old).met (around_in new).met (around_in old).tree left (records_in (image_in banks)) path
        (λ b m. subst (λ (met : List Bytes). Among b met) (sym edit.edits.met) (among_left (bytes ∷ []) m))
        (λ other ne. is_left other (still_none edit.edits.running other) ∙ edit.edits.files other ne)
        (inr (ap (option_map record_in) none))
        (truth t u banks before (around_in old).tree (λ p free. refl))

    removed_true : (path : List ℕ) → IsRemoval path old new → TellsTruth world_meaning s old → TellsTruth world_meaning s new
    removed_true path removal truth t u banks image left is_left =
        let still = still_none removal.loses.running in
        sound_but (around_in old).met (around_in new).met (around_in old).tree left (records_in (image_in banks)) path
        (λ b m. subst (λ (met : List Bytes). Among b met) (sym removal.loses.met) m)
        (λ other ne. is_left other (still other) ∙ removal.loses.files other ne)
        (inl (is_left path (still path) ∙ removal.loses.gone))
        (truth t u banks (images_back removal.banks banks image) (around_in old).tree (λ p free. refl))

    left_true : (pick : ℕ) → IsLeftBy pick old new → TellsTruth world_meaning s old → TellsTruth world_meaning s new
    left_true pick by truth t u banks image left is_left =
        let before = λ (bank : Bank).
        subst (λ (bytes : List ℕ). world_meaning.image old bank bytes) (sym (by.settled bank (banks bank) (image bank))) (by.images bank) in
        let grows = λ (b : Bytes) (m : Among b (around_in old).met).
        subst (λ (met : List Bytes). Among b met) (sym by.left.met) (among_left _ m) in
        sound_too s s refl refl grows
        (truth t u banks before left (λ p free.
        is_left p (none_runs (around_in new).running p by.left.running) ∙ by.left.files p free))

-- the truth by the state and the banks of a world
abbrev TruthOf : Setting → State → MemBanks → Type 0
TruthOf s state kept = Unit {0} → Unit {0} → (banks : Banks) → ((bank : Bank) → past.IsImage (store_of kept) bank (banks bank)) →
    IsSafeMoment s (around_of state) banks

fused_true : (s : Setting) (number : ℕ) (old new : MemWorld) → IsFused number old new → TellsTruth world_meaning s old → TellsTruth world_meaning s new
fused_true s number old new fused truth =
    subst (λ (state : State). TruthOf s state new.banks) (sym fused.state)
    (subst (λ (kept : MemBanks). TruthOf s old.state kept) (sym fused.banks) truth)

-- ---- events

of_law : (old new : MemWorld) → (around_in new).law ≡ (around_in old).law → (s : Setting) → IsOfLaw s (around_in new) → IsOfLaw s (around_in old)
of_law old new same s of = record { acts = of.acts ∙ ap act_by same; digests = of.digests }

by_law : (old new : MemWorld) → (around_in new).law ≡ (around_in old).law →
    ((s : Setting) → TellsTruth world_meaning s old → TellsTruth world_meaning s new) → IsTrueWorld old → IsTrueWorld new
by_law old new same keeps truth s of = keeps s (truth s (of_law old new same s of))

run_true : (old new : MemWorld) → RunsSafely world_meaning old new → IsTrueWorld old → IsTrueWorld new
run_true old new safe truth s of = (safe s (λ t u. before) (truth s before)).now
  where
    own : Setting
    own = record s { act = act_by (around_in old).law; digest = digest_by }

    own_of : IsOfLaw own (around_in old)
    own_of = record { acts = refl; digests = refl }

    acts : act_by (around_in old).law ≡ act_by (around_in new).law
    acts = ((safe own (λ t u. own_of) (truth own own_of)).law tt tt).acts

    before : IsOfLaw s (around_in old)
    before = record { acts = of.acts ∙ sym acts; digests = of.digests }

stopped_true : (words : List (List ℕ)) (calls pick : ℕ) (old new : MemWorld) → IsStopped words calls pick old new → IsTrueWorld old →
    IsTrueWorld new
stopped_true words calls pick old new stopped truth =
    let law = ap (λ (state : State). (around_of state).law) stopped.same.state in
    let fused = by_law old stopped.fused law (λ s. fused_true s calls old stopped.fused stopped.same) truth in
    by_law stopped.ended new stopped.left.left.law (λ s. left_true s stopped.ended new stopped.run.idle pick stopped.left)
    (run_true stopped.fused stopped.ended stopped.run.safe fused)

pub stays_true : (e : Event) (old new : Told) → (around_in old.world).running ≡ [] → Tells e old new → IsTrueWorld old.world → IsTrueWorld new.world
stays_true (event.Edit path bytes) old new idle tells truth =
    by_law old.world new.world tells.1.edits.law (λ s. edited_true s old.world new.world idle path bytes tells.1) truth
stays_true (event.Delete path) old new idle tells truth =
    by_law old.world new.world tells.1.loses.law (λ s. removed_true s old.world new.world idle path tells.1) truth
stays_true (event.Build words) old new idle tells truth = run_true old.world new.world tells.run.safe truth
stays_true (event.Stopped words calls pick) old new idle tells truth =
    stopped_true words.items calls pick old.world new.world tells.1 truth

-- ---- the headline

ends_clean : (first : MemWorld) (words : List (List ℕ)) (old new : MemWorld) (report : Report) (printed : List ℕ) → (IsTrueWorld first → IsTrueWorld old) →
    IsRun words old new report printed → EndsClean first words old new report
ends_clean first words old new report printed truth run first_true said is ask zero = elim (run.builds said is ask tt tt) [
  | inl built ↦ record {
    built = built;
    clean = λ ended by. (built.succeeds ended).clean (truth first_true _ (record { acts = refl; digests = refl })) by;
  }
  | inr ends ↦ absurd (ends.0 zero)
]

pub ends_cleanly : (first : MemWorld) (e : Event) (old new : MemWorld) → (IsTrueWorld first → IsTrueWorld old) → EndsCleanly first e old new
ends_cleanly first (event.Edit path bytes) old new truth = tt
ends_cleanly first (event.Delete path) old new truth = tt
ends_cleanly first (event.Build words) old new truth = λ report printed run. ends_clean first words.items old new report printed truth run
ends_cleanly first (event.Stopped words calls pick) old new truth = tt

-- ---- as it begins

-- where no stop leaves a record there is nothing to be told
pub blank_true : (world : MemWorld) → HasNoRecords world → IsTrueWorld world
blank_true world none s of t u banks image left is_left =
    subst (λ (map : Map). AreSound s (around_in world).met left (records_in map)) (sym (none banks image))
    (record { at_targets = λ p r is. none_some is; true_of_files = λ p r bytes is file. none_some is })

-- ---- an edit that is taken

none_of : {X : Type 0} (o : Option X) → is_some o ≡ false → o ≡ None
none_of (Some x) e = absurd (cc e)
none_of None e = refl

-- both banks are settled
pub are_settled : (world : MemWorld) (a b : Bool) → a ≡ true → b ≡ true → IsTrue a ↔ IsSettled world_meaning world A →
    IsTrue b ↔ IsSettled world_meaning world B → AreSettled world
are_settled world a b is_a is_b settled_a settled_b A = settled_a.0 is_a
are_settled world a b is_a is_b settled_a settled_b B = settled_b.0 is_b

-- the banks have no record of a path
pub unrecorded : (world : MemWorld) (path a b : List ℕ) (found : Bool) → a ≡ seen_in world A → b ≡ seen_in world B →
    found ≡ is_some (image_of a b path) → found ≡ false → image_in (seen_in world) path ≡ None
unrecorded world path a b found is_a is_b is none =
    none_of (image_in (seen_in world) path)
    (ap (λ x. is_some (image_of x (seen_in world B) path)) (sym is_a)
    ∙ ap (λ x. is_some (image_of a x path)) (sym is_b) ∙ sym is ∙ none)

-- ---- from event to event

-- how far a history has come
pub record IsSoFar (first : MemWorld) (past : List Event) (told : Told) : Type 0 where
  pub history : IsHistory first past told
  pub stays_true : IsTrueWorld first → IsTrueWorld told.world
  pub idle : (around_in told.world).running ≡ []

pub so_far_first : (told : Told) (first : MemWorld) → told.world ≡ first → told.trees.items ≡ [] → told.reports.items ≡ [] → told.outs.items ≡ [] →
    (around_in first).running ≡ [] → IsSoFar first [] told
so_far_first told first world trees reports outs idle = record {
  history = begins world trees reports outs;
  stays_true = λ truth. subst IsTrueWorld (sym world) truth;
  idle = ap (λ (w : MemWorld). (around_in w).running) world ∙ idle;
}

pub so_far_next : {first : MemWorld} {past : List Event} {old new : Told} (e : Event) → IsSoFar first past old → Goes e old new →
    IsSoFar first (past ++ e ∷ []) new
so_far_next {first} {past} {old} {new} e so goes = record {
  history = goes_on so.history (record { goes = goes; clean = ends_cleanly first e old.world new.world so.stays_true });
  stays_true = λ truth. stays_true e old new so.idle goes.tells (so.stays_true truth);
  idle = goes.idle;
}

one_more : (n : ℕ) → suc n ≡ n + 1
one_more n = omega arith

-- the event at a place of a list, behind those before it
pub so_far_at : {first : MemWorld} {old new : Told} (events : List Event) (place : ℕ) (e : Event) → place < length events →
    get_or events place e ≡ e → IsSoFar first (take place events) old → Goes e old new → IsSoFar first (take (place + 1) events) new
so_far_at {first} {old} {new} events place e within at so goes =
    subst (λ n. IsSoFar first (take n events) new) (one_more place) (subst (λ past. IsSoFar first past new)
    (ap (λ x. take place events ++ x ∷ []) (sym at) ∙ sym (take-suc events place e within)) (so_far_next e so goes))

-- refused there
pub refused_at : {first : MemWorld} {told : Told} (events : List Event) (place : ℕ) (e : Event) (f : HistoryFault) → place < length events →
    get_or events place e ≡ e → IsSoFar first (take place events) told → Refuses place e told.world f → IsRefused events first f
refused_at {first} {told} events place e f within at so refuses = record {
  past = take place events;
  e = e;
  rest = drop (suc place) events;
  parts = sym (take-append-drop (suc place) events) ∙ ap (λ x. x ++ drop (suc place) events)
      (take-suc events place e within ∙ ap (λ x. take place events ++ x ∷ []) at)
      ∙ append_assoc (take place events) (e ∷ []) (drop (suc place) events);
  told = told;
  history = so.history;
  refuses = subst (λ n. Refuses n e told.world f) (sym (length-take-le place events (omega (arith, within)))) refuses;
}

pub told_all : {first : MemWorld} {told : Told} (events : List Event) (place : ℕ) → take place events ≡ events → IsSoFar first (take place events) told →
    IsTold events first told
told_all {first} {told} events place all so =
    record { history = subst (λ past. IsHistory first past told) all so.history; stays_true = so.stays_true }

-- a refusal goes through `?` as it is
pub refused_exit : {T : Type 0} (r : Result T HistoryFault) (f : HistoryFault) (P : HistoryFault → Type 0) → IsErrAnd r (λ x. x ≡ f) → P f →
    IfErr r P
refused_exit (Ok value) f P is h = absurd is
refused_exit (Err x) f P is h = subst P (sym is) h
