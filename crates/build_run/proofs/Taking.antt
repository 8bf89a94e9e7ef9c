-- Leftover copies are taken away: what was at fault, and what is so behind each step.
use Rattle.std.proofs.Common.{◌≡◌, ◌∙◌, refl, sym, subst, ap, ℕ, ◌<◌, ◌+◌, List, [], ◌∷◌, length, get_or, Contains, Bool, true, false, None, inl, inr, arith}
use Rattle.std.specs.Prelude.{◌≢◌, ◌⊎◌, Result, Ok, Err, IsErrAnd, OnOk}
use Rattle.std.proofs.lemmas.Bool.{cases_lt, false≢true}
use Rattle.std.proofs.lemmas.List.{get_or_default}
use Rattle.std.proofs.lemmas.Slice.Eq.{bytes_eq-Decides}
use Rattle.std.specs.Str.{bytes_eq}
use Rattle.world_api.specs.Around.{Around, Running, IsUnused}
use Rattle.world_api.specs.Calls.{Removes}
use Rattle.world_api.specs.Counts.{Counts}
use Rattle.world_api.specs.Looks.{Looks}
use Rattle.world_api.specs.Meaning.{Meaning, BanksKept}
use Rattle.rule_graph.specs.declared.build_fault.BuildFault.TheVariants as fault
use Rattle.rule_graph.specs.Graphs.{RuleGraph}
use Rattle.deciders.specs.declared.recorded.Rec.{Rec}
use Rattle.sign_store.specs.Copies.{IsCopyIn}
use Rattle.build_files.specs.Leftovers.{AreLeftovers}
use Rattle.build_files.proofs.Left.{none_runs, left_on, left_before}
use Rattle.build_files.specs.Causes.{HasEndCause, HasLookCause, IsInside}
use Rattle.build_files.specs.declared.end.ListEnd.{ListEnd}
use Rattle.build_files.specs.declared.end.ListEnd.TheVariants as end
use Rattle.sign_store.specs.Stores.{IsKept, map_of}
use Rattle.sign_store.specs.Tables.{Map}
use Rattle.sign_store.specs.declared.store.Store.{Store}
use Rattle.sign_store.proofs.Keeping.{keeps_on}
use Rattle.build_run.specs.Causes.{Outside, outside}
use Rattle.build_run.specs.Ledgers.{Accounted, blank, with_end}
use Rattle.build_run.specs.Takes.{HasTakeEnd, HasTakeCause, OnlyGo, Takes, IsLeftAt, IsTargetOf}
use Rattle.build_run.specs.Withdrawals.{AreWithdrawn}
use Rattle.build_run.proofs.Causing.{disk_fault, look_end}

-- the end of a look
pub take_end : (a b : Counts) (e : ListEnd) → HasEndCause a b e → HasTakeEnd a b e
take_end a b (end.Fault (fault.Missing node target)) h = h
take_end a b (end.Fault (fault.Cycle paths)) h = h
take_end a b (end.Fault (fault.ActionFailed target code)) h = h
take_end a b (end.Fault (fault.TreeFault path)) h = h
take_end a b (end.Fault (fault.StartFault target)) h = h
take_end a b (end.Fault fault.StoreFault) h = absurd h
take_end a b (end.Fault fault.OutFault) h = h
take_end a b (end.Fault (fault.TooLarge path size)) h = h
take_end a b (end.Fault (fault.TooMany what count)) h = h
take_end a b end.Memory h = h

pub take_look : {T : Type 0} (a b : Counts) (r : Result T ListEnd) → HasLookCause a b r → HasTakeCause a b r
take_look a b (Ok value) h = h
take_look a b (Err e) h = take_end a b e h

-- nothing was at fault before
pub take_after : {T : Type 0} (a b c : Counts) (r : Result T ListEnd) → b ≡ a → HasTakeCause b c r → HasTakeCause a c r
take_after a b c r same h = subst (λ (x : Counts). HasTakeCause x c r) same h

-- the exits of a `?`
pub take_exit : {T : Type 0} (a b : Counts) (r : Result T ListEnd) (e : ListEnd) → IsErrAnd r (λ x. x ≡ e) → HasTakeEnd a b e → HasTakeCause a b r
take_exit a b (Ok value) e is h = absurd is
take_exit a b (Err x) e is h = subst (HasTakeEnd a b) (sym is) h

pub take_inside : {T : Type 0} (a b : Counts) (r : Result T ListEnd) → b ≡ a → IsErrAnd r IsInside → HasTakeCause a b r
take_inside a b (Ok value) same is = absurd is
take_inside a b (Err e) same is = subst (λ (x : Counts). HasTakeEnd a x e) (sym same) (take_end a a e (is a))

-- an end before anything was made, as it is to be reported
pub take_accounted : (start : Outside) (old new : Counts) (out err : ℕ) (e : ListEnd) → HasTakeEnd old new e → Accounted start (outside old out err) blank → Accounted start (outside new out err) (with_end blank e)
take_accounted start old new out err (end.Fault fault.StoreFault) h a =
    let shut = disk_fault start blank old new out err h a in
    record { later = shut.later; each = shut.each; counted = shut.counted; told = shut.told; shut = λ is. absurd (false≢true is) }
take_accounted start old new out err (end.Fault (fault.Missing node target)) h a = look_end start blank old new out err (end.Fault (fault.Missing node target)) h a
take_accounted start old new out err (end.Fault (fault.Cycle paths)) h a = look_end start blank old new out err (end.Fault (fault.Cycle paths)) h a
take_accounted start old new out err (end.Fault (fault.ActionFailed target code)) h a = look_end start blank old new out err (end.Fault (fault.ActionFailed target code)) h a
take_accounted start old new out err (end.Fault (fault.TreeFault path)) h a = look_end start blank old new out err (end.Fault (fault.TreeFault path)) h a
take_accounted start old new out err (end.Fault (fault.StartFault target)) h a = look_end start blank old new out err (end.Fault (fault.StartFault target)) h a
take_accounted start old new out err (end.Fault fault.OutFault) h a = look_end start blank old new out err (end.Fault fault.OutFault) h a
take_accounted start old new out err (end.Fault (fault.TooLarge path size)) h a = look_end start blank old new out err (end.Fault (fault.TooLarge path size)) h a
take_accounted start old new out err (end.Fault (fault.TooMany what count)) h a = look_end start blank old new out err (end.Fault (fault.TooMany what count)) h a
take_accounted start old new out err end.Memory h a = look_end start blank old new out err end.Memory h a

-- where nothing runs every path is unused
pub unused_at_rest : (running : List Running) (path : List ℕ) → running ≡ [] → IsUnused running path
unused_at_rest [] path rest run h = absurd (omega (arith, h.1))
unused_at_rest (first ∷ running) path rest run h = absurd (cc rest)

-- over calls that write no bank
pub kept_over : {W : Type 0} (m : Meaning W) (old new : W) (store : Store) → (m.tells new → m.tells old) → (m.tells new → BanksKept m old new) → IsKept m old store → IsKept m new store
kept_over m old new store back banks kept = keeps_on m old new store.bank store.end (map_of store) back banks kept

-- a store with the same map
pub withdrawn_as : {W : Type 0} (m : Meaning W) (world : W) (old new : Store) (paths : List (List ℕ)) → map_of new ≡ map_of old → AreWithdrawn m world old paths → AreWithdrawn m world new paths
withdrawn_as m world old new paths same w = record {
  map = λ path among. ap (λ (map : Map). map path) same ∙ w.map path among;
  images = w.images;
}

-- what goes, one call after the other
only_on : (may : List ℕ → Type 0) (a b c : Around) → OnlyGo may a b → OnlyGo may b c → OnlyGo may a c
only_on may a b c p q = λ path. elim (q path) [
  | inl same ↦ elim (p path) [
    | inl was ↦ inl (same ∙ was)
    | inr gone ↦ inr (gone.0, same ∙ gone.1)
  ]
  | inr gone ↦ inr gone
]

only_removed : (removed : List ℕ) (a b : Around) → a.running ≡ [] → Removes removed a b → OnlyGo (λ path. path ≡ removed) a b
only_removed removed a b rest removes = λ path.
    let d = bytes_eq-Decides path removed in
    by path (bytes_eq path removed) d.0 (λ f e. false≢true (sym f ∙ d.1 e))
  where
    by : (path : List ℕ) (b' : Bool) → (b' ≡ true → path ≡ removed) → (b' ≡ false → path ≢ removed) → (b.tree path ≡ a.tree path) ⊎ ((path ≡ removed) × (b.tree path ≡ None))
    by path true same differs = elim removes.file [
      | inl kept ↦ inl (subst (λ (p : List ℕ). b.tree p ≡ a.tree p) (sym (same refl)) kept)
      | inr gone ↦ inr (same refl, subst (λ (p : List ℕ). b.tree p ≡ None) (sym (same refl)) gone)
    ]
    by path false same differs = inl (removes.others path (differs refl) (none_runs a.running path rest))

pub takes_removed : {W : Type 0} (m : Meaning W) (a b : W) (removed : List ℕ) → (m.tells b → Removes removed (m.around a) (m.around b)) → Takes m a b (λ path. path ≡ removed)
takes_removed m a b removed removes = λ t rest. only_removed removed (m.around a) (m.around b) rest (removes t)

pub takes_still : {W : Type 0} (m : Meaning W) (a b : W) (may : List ℕ → Type 0) → (m.tells b → m.around b ≡ m.around a) → Takes m a b may
takes_still m a b may same = λ t rest path. inl (ap (λ (around : Around). around.tree path) (same t))

pub takes_looked : {W : Type 0} (m : Meaning W) (a b : W) (may : List ℕ → Type 0) → Looks m a b → Takes m a b may
takes_looked m a b may looks = λ t rest path. inl ((looks.around t).files path (none_runs (m.around a).running path rest))

pub takes_on : {W : Type 0} (m : Meaning W) (a b c : W) (may : List ℕ → Type 0) → (m.tells c → m.tells b) → (m.tells b → (m.around b).running ≡ (m.around a).running) → Takes m a b may → Takes m b c may → Takes m a c may
takes_on m a b c may told runs p q = λ t rest. only_on may (m.around a) (m.around b) (m.around c) (p (told t) rest) (q t (runs (told t) ∙ rest))

pub takes_as : {W : Type 0} (m : Meaning W) (a b : W) (may more : List ℕ → Type 0) → ((path : List ℕ) → may path → more path) → Takes m a b may → Takes m a b more
takes_as m a b may more widens p = λ t rest path. elim (p t rest path) [
  | inl same ↦ inl same
  | inr gone ↦ inr (widens path gone.0, gone.1)
]

-- a file that is gone stays so
pub gone_on : (may : List ℕ → Type 0) (a b : Around) (path : List ℕ) → OnlyGo may a b → a.tree path ≡ None → b.tree path ≡ None
gone_on may a b path p was = elim (p path) [
  | inl same ↦ same ∙ was
  | inr gone ↦ gone.1
]

-- what went of the first `n` records
abbrev pub AreTakenSoFar : List Rec → ℕ → Around → Type 0
AreTakenSoFar recs n around = (k : ℕ) (rec : Rec) → k < n → k < length recs → get_or recs k rec ≡ rec → (path : List ℕ) → Contains rec.targets path → around.tree path ≡ None

pub taken_so_far : (recs : List Rec) (n : ℕ) (rec : Rec) (a b : Around) (may : List ℕ → Type 0) → n < length recs → rec ≡ get_or recs n rec → OnlyGo may a b → ((path : List ℕ) → Contains rec.targets path → b.tree path ≡ None)
    → AreTakenSoFar recs n a → AreTakenSoFar recs (n + 1) b
taken_so_far recs n rec a b may within at p gone before = λ k one below inside here path among. elim (cases_lt k n) [
  | inl earlier ↦ gone_on may a b path p (before k one earlier inside here path among)
  | inr last ↦
      let same : k ≡ n = omega (arith, below, last) in
      let which : one ≡ rec = sym here ∙ (ap (λ (i : ℕ). get_or recs i one) same ∙ (get_or_default recs n one rec within ∙ sym at)) in
      gone path (subst (λ (r : Rec). Contains r.targets path) which among)
]

pub all_taken : (recs : List Rec) (n : ℕ) (around : Around) → length recs ≡ n → AreTakenSoFar recs n around → (path : List ℕ) → IsTargetOf recs path → around.tree path ≡ None
all_taken recs n around end so_far path is = let among = is.1 in so_far among.0 is.0 (omega (arith, among.1, end)) among.1 among.2 path is.2

-- what is taken was left there before the look
pub target_left : {W : Type 0} (m : Meaning W) (a b : W) (g : RuleGraph) (map : Map) (left : List Rec) → m.tells b → (m.around a).running ≡ [] → Looks m a b →
    AreLeftovers g (m.around b) (IsCopyIn map) left → (path : List ℕ) → IsTargetOf left path → IsLeftAt g (m.around a) map path
target_left m a b g map left t rest looks found path is =
    let was = found.each is.0 is.1 in
    (is.0, was.0, left_before g (m.around a) (m.around b) is.0 rest (looks.around t) was.1, is.2)

-- leftover copies, as they were before and behind the look for them
pub takes_left : {W : Type 0} (m : Meaning W) (a b c : W) (g : RuleGraph) (map : Map) (left : List Rec) → (m.tells c → m.tells b) → Looks m a b → (m.tells b → (m.around b).running ≡ [] → AreLeftovers g (m.around b) (IsCopyIn map) left)
    → Takes m b c (IsTargetOf left) → Takes m a c (IsLeftAt g (m.around a) map)
takes_left m a b c g map left told looks found p = λ t rest path.
    let asks = looks.around (told t) in
    let still = asks.running ∙ rest in
    elim (p t still path) [
      | inl same ↦ inl (same ∙ asks.files path (none_runs (m.around a).running path rest))
      | inr gone ↦
          inr (target_left m a b g map left (told t) rest looks (found (told t) still) path gone.0, gone.1)
    ]

pub left_taken : {W : Type 0} (m : Meaning W) (a b : W) (c : Around) (g : RuleGraph) (map : Map) (left : List Rec) → m.tells b → (m.around a).running ≡ [] → Looks m a b → AreLeftovers g (m.around b) (IsCopyIn map) left
    → ((path : List ℕ) → IsTargetOf left path → c.tree path ≡ None) → (path : List ℕ) → IsLeftAt g (m.around a) map path → c.tree path ≡ None
left_taken m a b c g map left t rest looks found gone path is =
    gone path (is.0, found.all is.0 is.1 (left_on g (m.around a) (m.around b) is.0 rest (looks.around t) is.2), is.3)

pub done_gone : {T E : Type 0} (may more : List ℕ → Type 0) (around : Around) (r : Result T E) → OnOk r ((path : List ℕ) → may path → around.tree path ≡ None)
    → (((path : List ℕ) → may path → around.tree path ≡ None) → (path : List ℕ) → more path → around.tree path ≡ None) → OnOk r ((path : List ℕ) → more path → around.tree path ≡ None)
done_gone may more around (Ok value) gone widens = widens gone
done_gone may more around (Err end) gone widens = tt
