-- What is left where leftover copies are taken away: the rest is as it was.
use Rattle.std.proofs.Common.{◌≡◌, ◌∙◌, refl, ap, ℕ, List, [], Contains, Bool, true, false, None, inl, inr, if◌then◌else◌}
use Rattle.world_api.specs.Around.{Around}
use Rattle.world_api.specs.Looks.{Looks}
use Rattle.world_api.specs.Meaning.{Meaning}
use Rattle.rule_graph.specs.Graphs.{RuleGraph}
use Rattle.deciders.specs.declared.recorded.Rec.{Rec}
use Rattle.sign_store.specs.Copies.{IsCopyIn}
use Rattle.sign_store.specs.Stores.{map_of}
use Rattle.sign_store.specs.Tables.{Map, is_among, with_each}
use Rattle.sign_store.specs.declared.store.Store.{Store}
use Rattle.build_files.specs.Leftovers.{AreLeftovers}
use Rattle.build_files.proofs.Left.{none_runs, left_before}
use Rattle.build_run.specs.Goings.{ClearsAt}
use Rattle.build_run.specs.Outsets.{Leaves, LeavesRest}
use Rattle.build_run.specs.Takes.{OnlyGo, Takes, IsLeftAt, IsTargetOf}
use Rattle.build_run.proofs.Outs.{among_in}

-- what goes, one call after the other
both_go : (may : List ℕ → Type 0) (a b c : Around) → OnlyGo may a b → OnlyGo may b c → OnlyGo may a c
both_go may a b c p q = λ path. elim (q path) [
  | inl same ↦ elim (p path) [
    | inl was ↦ inl (same ∙ was)
    | inr gone ↦ inr (gone.0, same ∙ gone.1)
  ]
  | inr gone ↦ inr gone
]

-- a path that isn't among these has the record that it had
unset_by : (paths : List (List ℕ)) (map : Map) (path : List ℕ) (b : Bool) → is_among paths path ≡ b → (Contains paths path → ⊥) →
    with_each paths None map path ≡ map path
unset_by paths map path true e out = absurd (out (among_in paths path e))
unset_by paths map path false e out = ap (λ (b : Bool). if b then None else map path) e

pub unset_others : (paths : List (List ℕ)) (old new : Map) → new ≡ with_each paths None old → (path : List ℕ) →
    (Contains paths path → ⊥) → new path ≡ old path
unset_others paths old new is path out = ap (λ (m : Map). m path) is ∙ unset_by paths old path (is_among paths path) refl out

-- nothing around changed, and of the records only these
pub leaves_still : {W : Type 0} (m : Meaning W) (old new : W) (store new_store : Store) (may : List ℕ → Type 0) →
    (m.tells new → m.around new ≡ m.around old) →
    ((path : List ℕ) → (may path → ⊥) → map_of new_store path ≡ map_of store path) → Leaves m old store new new_store may
leaves_still m old new store new_store may same records = λ t rest. record {
  files = λ path. inl (ap (λ (a : Around). a.tree path) (same t));
  stamps = λ path out. ap (λ (a : Around). a.stamps path) (same t);
  running = ap (λ (a : Around). a.running) (same t);
  log = ap (λ (a : Around). a.log) (same t);
  met = ap (λ (a : Around). a.met) (same t);
  law = ap (λ (a : Around). a.law) (same t);
  records = records;
}

-- these paths were cleared
pub leaves_cleared : {W : Type 0} (m : Meaning W) (old new : W) (store new_store : Store) (paths : List (List ℕ)) →
    Takes m old new (Contains paths) → ClearsAt m paths old new → map_of new_store ≡ map_of store →
    Leaves m old store new new_store (Contains paths)
leaves_cleared m old new store new_store paths only clears same = λ t rest.
    let c = clears t in
    record {
      files = only t rest;
      stamps = λ path out. c.stamps path (none_runs (m.around old).running path rest) out;
      running = c.running;
      log = c.log;
      met = c.met;
      law = c.law;
      records = λ path out. ap (λ (map : Map). map path) same;
    }

rest_on : (may : List ℕ → Type 0) (a b c : Around) (first mid last : Map) → LeavesRest may a first b mid → LeavesRest may b mid c last →
    LeavesRest may a first c last
rest_on may a b c first mid last p q = record {
  files = both_go may a b c p.files q.files;
  stamps = λ path out. q.stamps path out ∙ p.stamps path out;
  running = q.running ∙ p.running;
  log = q.log ∙ p.log;
  met = q.met ∙ p.met;
  law = q.law ∙ p.law;
  records = λ path out. q.records path out ∙ p.records path out;
}

-- one call after the other
pub leaves_on : {W : Type 0} (m : Meaning W) (a b c : W) (first mid last : Store) (may : List ℕ → Type 0) → (m.tells c → m.tells b) →
    Leaves m a first b mid may → Leaves m b mid c last may → Leaves m a first c last may
leaves_on m a b c first mid last may told p q = λ t rest.
    let before = p (told t) rest in
    rest_on may (m.around a) (m.around b) (m.around c) (map_of first) (map_of mid) (map_of last) before (q t (before.running ∙ rest))

-- more may go
pub leaves_as : {W : Type 0} (m : Meaning W) (a b : W) (first last : Store) (may more : List ℕ → Type 0) →
    ((path : List ℕ) → may path → more path) → Leaves m a first b last may → Leaves m a first b last more
leaves_as m a b first last may more widens p = λ t rest.
    let is = p t rest in
    record {
      files = λ path. elim (is.files path) [
        | inl same ↦ inl same
        | inr gone ↦ inr (widens path gone.0, gone.1)
      ];
      stamps = λ path out. is.stamps path (λ h. out (widens path h));
      running = is.running;
      log = is.log;
      met = is.met;
      law = is.law;
      records = λ path out. is.records path (λ h. out (widens path h));
    }

-- it was looked at
pub leaves_looked : {W : Type 0} (m : Meaning W) (a b : W) (store new_store : Store) (may : List ℕ → Type 0) → Looks m a b →
    map_of new_store ≡ map_of store → Leaves m a store b new_store may
leaves_looked m a b store new_store may looks same = λ t rest.
    let asks = looks.around t in
    record {
      files = λ path. inl (asks.files path (none_runs (m.around a).running path rest));
      stamps = λ path out. asks.stamps path (none_runs (m.around a).running path rest);
      running = asks.running;
      log = asks.log;
      met = asks.met;
      law = asks.law;
      records = λ path out. ap (λ (map : Map). map path) same;
    }

-- leftover copies, as they were before the look for them
pub leaves_left : {W : Type 0} (m : Meaning W) (a b c : W) (g : RuleGraph) (store new_store : Store) (left : List Rec) →
    (m.tells c → m.tells b) → Looks m a b →
    (m.tells b → (m.around b).running ≡ [] → AreLeftovers g (m.around b) (IsCopyIn (map_of store)) left) →
    Leaves m b store c new_store (IsTargetOf left) → Leaves m a store c new_store (IsLeftAt g (m.around a) (map_of store))
leaves_left m a b c g store new_store left told looks found p = λ t rest.
    let asks = looks.around (told t) in
    let still = asks.running ∙ rest in
    let widens : (path : List ℕ) → IsTargetOf left path → IsLeftAt g (m.around a) (map_of store) path = λ path is.
    let was = (found (told t) still).each is.0 is.1 in
    (is.0, was.0, left_before g (m.around a) (m.around b) is.0 rest asks was.1, is.2) in
    let may = IsLeftAt g (m.around a) (map_of store) in
    leaves_on m a b c store store new_store may told (leaves_looked m a b store store may looks refl)
    (leaves_as m b c store new_store (IsTargetOf left) may widens p) t rest
