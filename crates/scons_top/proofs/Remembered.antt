-- What is recorded of each path at every moment of a run: its looks, the beginning of its store, and its build, put together.
use Rattle.std.proofs.Common.{◌≡◌, ◌⊎◌, inl, inr, refl, sym, subst, [], Option}
use Rattle.deciders.specs.declared.recorded.Rec.{Rec}
use Rattle.world_api.specs.Around.{Around}
use Rattle.world_api.specs.Banks.{Banks}
use Rattle.world_api.specs.Calls.{Asks}
use Rattle.world_api.specs.Counts.{Counts}
use Rattle.world_api.specs.Laws.{HasOnlyNow}
use Rattle.world_api.specs.Looks.{IsSince, Looks}
use Rattle.world_api.specs.Meaning.{Meaning, BanksKept, IsImage, Meanwhile, Surely, Throughout, Told}
use Rattle.world_api.proofs.Moments.{begins, joins, sure_chains, surely, throughout, weakens, world_call}
use Rattle.sign_store.specs.Ends.{IsLeftOr, image_in}
use Rattle.sign_store.specs.Tables.{Map}
use Rattle.build_model.specs.Rules.{Path}
use Rattle.build_means.specs.Builds.{Wanted, setting_in}
use Rattle.build_run.specs.Remembering.{HasRemembered, HasThroughout, IsOneOf}
use Rattle.build_run.specs.Truth.{TellsTruth}
use Rattle.build_run.proofs.Goings.{stays_on}
use Rattle.scons_top.specs.Builds.{BeginsStore, EndsBefore}
use Rattle.scons_top.specs.Remembered.{HasRememberedSince, HasSince, KeepsBanks, LeavesBanks, LeavesRecords, RemembersFrom}
use Rattle.scons_top.specs.Stopping.{RunsSafely}
use Rattle.scons_top.specs.Watching.{Watches}
use Rattle.scons_top.proofs.Building.{around_asked, records_kept, truth_on}
use Rattle.scons_top.proofs.Watching.{stays_of}

-- ---- banks that no call writes

module _ {W : Type 0} (m : Meaning W) where
  pub banks_here : HasOnlyNow m → (w : W) → LeavesBanks m w w
  banks_here only w = begins m w (λ around banks. IsImage m w banks) (only w) (λ t banks image. image)

  pub banks_on : (old mid new : W) → LeavesBanks m old mid → LeavesBanks m mid new → LeavesBanks m old new
  banks_on old mid new first then = joins m old mid new (λ around banks. IsImage m old banks) (λ around banks. IsImage m mid banks) first then
      (λ t around banks image. first.now (then.told t) banks image)

  pub banks_looked : HasOnlyNow m → (old new : W) → Looks m old new → LeavesBanks m old new
  unfolding IsSince
  banks_looked only old new looks = record {
    told = looks.told.told;
    each = λ t around banks left. elim (looks.before t (m.clock old) around banks left) [
      | inl was ↦ (only old (looks.told.told t) around banks was).1
      | inr at ↦ at.1
    ];
    before = λ t time around banks left. elim (looks.before t time around banks left) [
      | inl was ↦ inl was
      | inr at ↦ inr at.1
    ];
    now = λ t banks image bank. (looks.banks t bank).no_more (banks bank) (image bank);
  }

  pub banks_removed : (old new : W) → (m.tells new → BanksKept m old new) → Throughout m old new (Meanwhile m old new) → LeavesBanks m old new
  banks_removed old new kept time = world_call m old new (λ around banks. IsImage m old banks) time (λ t around banks asks image. image)
      (λ t banks image bank. (kept t bank).no_more (banks bank) (image bank))

  -- a run that had looked before
  pub keeps_looked : HasOnlyNow m → (a b c : W) → Watches m a b → KeepsBanks m b c → KeepsBanks m a c
  keeps_looked only a b c watches keeps = record {
    stays = stays_on m a b c (stays_of m a b watches) keeps.stays;
    moments = banks_on a b c (banks_looked only a b watches.looks) keeps.moments;
  }

  -- ---- the records that they stand for

  pub records_of : (old new : W) → LeavesBanks m old new → LeavesRecords m old new
  records_of old new leaves = weakens m old new (λ around banks. IsImage m old banks)
      (λ around banks. IsImage m old banks ⊎ (image_in banks ≡ image_in (m.seen old))) leaves (λ t around banks image. inl image)

  pub records_begun : (old new : W) → BeginsStore m old new → LeavesRecords m old new
  records_begun old new begins = weakens m old new (IsLeftOr m old (image_in (m.seen old)))
      (λ around banks. IsImage m old banks ⊎ (image_in banks ≡ image_in (m.seen old))) begins.moments (λ t around banks at. at.left)

  pub records_before : HasOnlyNow m → (old new : W) → EndsBefore m old new → LeavesRecords m old new
  records_before only old new (inl looks) = records_of old new (banks_looked only old new looks)
  records_before only old new (inr begun) =
      joins m old begun.looked new (λ around banks. IsImage m old banks ⊎ (image_in banks ≡ image_in (m.seen old)))
      (IsLeftOr m begun.looked (image_in (m.seen begun.looked)))
      (records_of old begun.looked (banks_looked only old begun.looked begun.looks)) begun.begins.moments
      (λ t around banks at. back (begun.begins.moments.told t) banks at.left)
    where
      back : m.tells begun.looked → (banks : Banks) → IsImage m begun.looked banks ⊎ (image_in banks ≡ image_in (m.seen begun.looked)) →
          IsImage m old banks ⊎ (image_in banks ≡ image_in (m.seen old))
      back t banks (inl image) = inl (λ bank. (begun.looks.banks t bank).no_more (banks bank) (image bank))
      back t banks (inr same) = inr (subst (λ (map : Map). image_in banks ≡ map) (records_kept m old begun.looked (begun.looks.banks t)) same)

  -- ---- what they have for one path

  surely_as : (old new : W) (P Q : Around → Banks → Type 0) → Surely m old new P →
      (m.tells new → m.sure new → (around : Around) (banks : Banks) → P around banks → Q around banks) → Surely m old new Q
  surely_as old new P Q run so = surely m old new Q (weakens m old new (λ around banks. m.sure new → P around banks)
      (λ around banks. m.sure new → Q around banks) (throughout m old new P run) (λ t around banks p sure. so t sure around banks (p sure)))

  module _ (path : Path) (IsSo : Around → Option Rec → Type 0) where
    abbrev IsKeptOr : W → Around → Banks → Type 0
    IsKeptOr old around banks = IsImage m old banks ⊎ IsSo around (image_in banks path)

    -- the store is begun, and then it is so throughout
    pub since_begun : (old begun new : W) → Told m begun new → BeginsStore m old begun →
        ((around : Around) → IsSo around (image_in (m.seen old) path)) → HasThroughout m begun new path IsSo → HasSince m old new path IsSo
    since_begun old begun new told begins had throughout_build =
        sure_chains m old begun new (IsKeptOr old) told
        (surely m old begun (IsKeptOr old) (weakens m old begun (IsLeftOr m old (image_in (m.seen old))) (λ around banks. m.sure begun → IsKeptOr old around banks)
        begins.moments (λ t around banks at sure. either around banks at.left)))
        (surely_as begun new (λ around banks. IsSo around (image_in banks path)) (IsKeptOr old) throughout_build (λ t sure around banks so. inr so))
      where
        either : (around : Around) (banks : Banks) → IsImage m old banks ⊎ (image_in banks ≡ image_in (m.seen old)) → IsKeptOr old around banks
        either around banks (inl image) = inl image
        either around banks (inr same) = inr (subst (λ (map : Map). IsSo around (map path)) (sym same) (had around))

    -- looks before
    pub since_looked : HasOnlyNow m → (a b new : W) → Looks m a b → Told m b new → HasSince m b new path IsSo → HasSince m a new path IsSo
    since_looked only a b new looks told since =
        sure_chains m a b new (IsKeptOr a) told
        (surely m a b (IsKeptOr a) (weakens m a b (λ around banks. IsImage m a banks) (λ around banks. m.sure b → IsKeptOr a around banks)
        (banks_looked only a b looks) (λ t around banks image sure. inl image)))
        (surely_as b new (IsKeptOr b) (IsKeptOr a) since (λ t sure around banks is. back (told.told t) around banks is))
      where
        back : m.tells b → (around : Around) (banks : Banks) → IsKeptOr b around banks → IsKeptOr a around banks
        back t around banks (inl image) = inl (λ bank. (looks.banks t bank).no_more (banks bank) (image bank))
        back t around banks (inr so) = inr so

    -- looks behind, while nothing runs
    pub since_behind : HasOnlyNow m → (old a b : W) → Looks m a b → (m.tells a → (m.around a).running ≡ []) → HasSince m old a path IsSo →
        HasSince m old b path IsSo
    unfolding IsSince
    since_behind only old a b looks idle since =
        sure_chains m old a b (IsKeptOr old) looks.told since (surely m a b (IsKeptOr old) (record {
          told = looks.told.told;
          each = λ t around banks left sure. elim (looks.before t (m.clock a) around banks left) [
            | inl was ↦ (let now = only a (looks.told.told t) around banks was in here t sure around banks now.0 now.1)
            | inr at ↦ looked t sure around banks at.0 at.1
          ];
          before = λ t time around banks left. elim (looks.before t time around banks left) [
            | inl was ↦ inl was
            | inr at ↦ inr (λ sure. looked t sure around banks at.0 at.1)
          ];
          now = λ t banks image sure.
              looked t sure (m.around b) banks (looks.around t) (λ bank. (looks.banks t bank).no_more (banks bank) (image bank));
        }))
      where
        here : m.tells b → m.sure b → (around : Around) (banks : Banks) → around ≡ m.around a → IsImage m a banks → IsKeptOr old around banks
        here t sure around banks same image =
            subst (λ (x : Around). IsKeptOr old x banks) (sym same)
            ((throughout m old a (IsKeptOr old) since).now (looks.told.told t) banks image (looks.told.sure t sure))

        looked : m.tells b → m.sure b → (around : Around) (banks : Banks) → Asks (m.around a) around → IsImage m a banks → IsKeptOr old around banks
        looked t sure around banks asks image =
            here t sure around banks (around_asked (m.around a) around (idle (looks.told.told t)) asks) image

-- ---- what they have for all paths

module _ (w : Wanted) (map : Map) (start : Around) (counts : Counts) (before after : Type 0)
    (Has HasToo : Path → (Around → Option Rec → Type 0) → Type 0) where
  -- of other moments the same is so
  pub remembers_as : (after → before) →
      ((path : Path) (IsSo : Around → Option Rec → Type 0) → ((around : Around) → IsSo around (map path)) → Has path IsSo → HasToo path IsSo) →
      RemembersFrom w map start counts before Has → RemembersFrom w map start counts after HasToo
  remembers_as truth on h = record {
    left = h.left;
    kept = h.kept;
    rest = h.rest;
    others = λ path unleft none. on path _ (λ around. refl) (h.others path unleft none);
    leftovers = λ path is_left none. on path _ (λ around. inl refl) (h.leftovers path is_left none);
    spared = λ told by path unleft none. on path _ (λ around distinct. refl) (h.spared (truth told) by path unleft none);
    spared_leftovers = λ told by path is_left none. on path _ (λ around distinct. inl refl) (h.spared_leftovers (truth told) by path is_left none);
    made = λ told by path r is. on path _ (λ around distinct. IsOneOf.had_before refl) (h.made (truth told) by path r is);
  }

module _ {W : Type 0} (m : Meaning W) (w : Wanted) where
  of_build : (map : Map) (old new : W) → HasRemembered m w map old new → RemembersFrom w map (m.around old) (m.counts old)
      (TellsTruth m (setting_in w (m.around old)) old) (HasThroughout m old new)
  of_build map old new h = record {
    left = h.left;
    kept = h.kept;
    rest = h.rest;
    others = h.others;
    leftovers = h.leftovers;
    spared = h.spared;
    spared_leftovers = h.spared_leftovers;
    made = h.made;
  }

  -- the same from other surroundings, counts and records that are these
  from : (map other : Map) (start around : Around) (counts count : Counts) (truth : Type 0) (Has : Path → (Around → Option Rec → Type 0) → Type 0) →
      map ≡ other → start ≡ around → counts ≡ count → RemembersFrom w map start counts truth Has → RemembersFrom w other around count truth Has
  from map other start around counts count truth Has records same counted h =
      let one = subst (λ (x : Map). RemembersFrom w x start counts truth Has) records h in
      let two = subst (λ (x : Around). RemembersFrom w other x counts truth Has) same one in
      subst (λ (x : Counts). RemembersFrom w other around x truth Has) counted two

  -- behind the beginning of the store
  pub remembers_begun : (map : Map) (old begun new : W) → BeginsStore m old begun → RunsSafely m old begun → Told m begun new → m.tells begun →
      m.counts begun ≡ m.counts old → map ≡ image_in (m.seen old) → HasRemembered m w map begun new → HasRememberedSince m w old new
  remembers_begun map old begun new begins safe told here counts records h =
      let around = begins.around here in
      let moments = HasThroughout m begun new in
      let truth = TellsTruth m (setting_in w (m.around begun)) begun in
      remembers_as w (image_in (m.seen old)) (m.around old) (m.counts old) truth (TellsTruth m (setting_in w (m.around old)) old)
      moments (HasSince m old new) (truth_on m w (image_in (m.seen old)) map old begun new map around counts records safe)
      (λ path IsSo had since. since_begun m path IsSo old begun new told begins had since)
      (from map (image_in (m.seen old)) (m.around begun) (m.around old) (m.counts begun) (m.counts old) truth moments records around counts
      (of_build map begun new h))

  -- behind looks
  pub remembers_looked : HasOnlyNow m → (a b new : W) → Looks m a b → RunsSafely m a b → Told m b new → m.around b ≡ m.around a →
      m.counts b ≡ m.counts a → image_in (m.seen b) ≡ image_in (m.seen a) → HasRememberedSince m w b new → HasRememberedSince m w a new
  remembers_looked only a b new looks safe told around counts records h =
      let moments = HasSince m b new in
      let truth = TellsTruth m (setting_in w (m.around b)) b in
      remembers_as w (image_in (m.seen a)) (m.around a) (m.counts a) truth (TellsTruth m (setting_in w (m.around a)) a)
      moments (HasSince m a new) (truth_on m w (image_in (m.seen a)) (image_in (m.seen b)) a b new (image_in (m.seen b)) around counts records safe)
      (λ path IsSo had since. since_looked m path IsSo only a b new looks told since)
      (from (image_in (m.seen b)) (image_in (m.seen a)) (m.around b) (m.around a) (m.counts b) (m.counts a) truth moments records around counts h)

  -- before looks
  pub remembers_behind : HasOnlyNow m → (old a b : W) → Looks m a b → (m.tells a → (m.around a).running ≡ []) → HasRememberedSince m w old a →
      HasRememberedSince m w old b
  remembers_behind only old a b looks idle h =
      let truth = TellsTruth m (setting_in w (m.around old)) old in
      remembers_as w (image_in (m.seen old)) (m.around old) (m.counts old) truth truth (HasSince m old a) (HasSince m old b) (λ told. told)
      (λ path IsSo had since. since_behind m path IsSo only old a b looks idle since) h
