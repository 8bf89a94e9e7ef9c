-- A rule that is found due may be started with its record.
use Rattle.std.proofs.Common.{◌≡◌, ◌∙◌, Bool, true, sym}
use Rattle.std.specs.Prelude.{Ok}
use Rattle.scons_base.specs.declared.ids.RuleId.{RuleId}
use Rattle.deciders.specs.declared.recorded.Rec.{Rec}
use Rattle.sign_store.specs.Stores.{map_of}
use Rattle.world_api.specs.Meaning.{Meaning, IsImage}
use Rattle.world_api.proofs.Looking.{asks_same}
use Rattle.build_files.specs.Dueness.{AreIdle, FindsDue, HaveOwnDigests}
use Rattle.build_means.specs.Records.{HasOwnDigests}
use Rattle.build_run.specs.Safe.{IsWeighedSome}
use Rattle.build_run.specs.Sites.{IsSound}
use Rattle.build_run.specs.Watches.{Watch, Allows}
use Rattle.build_run.specs.declared.site.Site.{Site}
use Rattle.build_run.proofs.Choosing.{found_now}
use Rattle.build_run.proofs.Deciding.{due_allows}
use Rattle.build_run.proofs.Starting.{room_in}

pub found_allows : {W O E : Type 0} (m : Meaning W) (site : Site W O E) → IsSound m site → ((disk : W) → m.tells disk → IsImage m disk (m.seen disk)) →
    m.tells site.world.now → (rule : RuleId) (rec : Rec) (found : Bool) → found ≡ true →
    (AreIdle (m.around site.world.now) rec.targets → HaveOwnDigests (map_of site.store.now) → HasOwnDigests rec →
    FindsDue site.graph.now rule.0 (map_of site.store.now) rec (m.around site.world.now) (Ok found)) →
    (k : Watch) → IsWeighedSome m k site rule rec → Allows k (m.around site.world.now) rec
found_allows m site sound reads tells rule rec found is finds k some =
    due_allows m some.o some.outset site some.along rule rec some.due
    (sym (found_now m some.o some.outset site some.along rule rec some.due site.world.now (asks_same (m.around site.world.now)) sound reads tells found finds)
    ∙ is)
    (room_in m some.o site sound.joined tells some.along.asked some.due.room) k some.covers
