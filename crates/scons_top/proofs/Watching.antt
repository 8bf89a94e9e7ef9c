-- Steps of a run put together.
use Rattle.std.proofs.Common.{◌≡◌, ◌∙◌, subst, sym, refl, [], arith}
use Rattle.std.specs.Prelude.{Result, Ok, Err}
use Rattle.world_api.specs.Causes.{Later, TreeFails, DiskFails}
use Rattle.world_api.specs.Counts.{Counts}
use Rattle.world_api.specs.Looks.{IsTreeAlone, Looks, LooksAtFiles}
use Rattle.world_api.specs.Meaning.{Meaning}
use Rattle.world_api.proofs.Looking.{asks_of, looks_same, looks_joined}
use Rattle.rule_graph.specs.declared.build_fault.BuildFault.{BuildFault}
use Rattle.rule_graph.specs.declared.build_fault.BuildFault.TheVariants as fault
use Rattle.sign_store.specs.Reached.{ReadsBanks, HasFaultCause}
use Rattle.sign_store.specs.declared.refusals.StoreRefusal.{StoreRefusal}
use Rattle.sign_store.specs.declared.refusals.StoreRefusal.TheVariants as refusal
use Rattle.build_files.specs.Causes.{HasLookCause}
use Rattle.build_files.specs.Causes.{HasFaultCause as HasLookFault}
use Rattle.build_files.specs.declared.end.ListEnd.{ListEnd}
use Rattle.build_files.specs.declared.end.ListEnd.TheVariants as end
use Rattle.scons_report.specs.Causes.{HasListCause, HasFaultCause as HasListFault}
use Rattle.build_run.specs.Goings.{Passes, Goes, Stays}
use Rattle.build_run.proofs.Goings.{passes_on}
use Rattle.scons_top.specs.Watching.{Watches}

pub later_same : (a b : Counts) → b ≡ a → Later a b
later_same a b same = subst (λ c. Later a c) (sym same) (record { disk = omega arith; tree = omega arith; start = omega arith; action = omega arith })

pub later_tree : (a b : Counts) → TreeFails a b → Later a b
later_tree a b f = let up = f.rose.later in record { disk = omega (arith, f.disk); tree = up; start = omega (arith, f.start); action = omega (arith, f.action) }

pub later_disk : (a b : Counts) → DiskFails a b → Later a b
later_disk a b f = let up = f.rose.later in record { disk = up; tree = omega (arith, f.tree); start = omega (arith, f.start); action = omega (arith, f.action) }

later_alone : (a b : Counts) → IsTreeAlone a b → Later a b
later_alone a b f = record { disk = omega (arith, f.disk); tree = f.tree; start = omega (arith, f.start); action = omega (arith, f.action) }

later_look_fault : (a b : Counts) (f : BuildFault) → HasLookFault a b f → Later a b
later_look_fault a b (fault.Missing node target) h = absurd h
later_look_fault a b (fault.Cycle paths) h = absurd h
later_look_fault a b (fault.ActionFailed target code) h = absurd h
later_look_fault a b (fault.TreeFault path) h = later_tree a b h
later_look_fault a b (fault.StartFault target) h = absurd h
later_look_fault a b fault.StoreFault h = absurd h
later_look_fault a b fault.OutFault h = absurd h
later_look_fault a b (fault.TooLarge path size) h = later_same a b h
later_look_fault a b (fault.TooMany what count) h = later_same a b h

-- no count falls by a look
pub later_look : {T : Type 0} (a b : Counts) (r : Result T ListEnd) → HasLookCause a b r → Later a b
later_look a b (Ok value) h = later_same a b h
later_look a b (Err (end.Fault f)) h = later_look_fault a b f h
later_look a b (Err end.Memory) h = later_alone a b h

later_list_fault : (a b : Counts) (f : BuildFault) → HasListFault a b f → Later a b
later_list_fault a b (fault.Missing node target) h = later_same a b h
later_list_fault a b (fault.Cycle paths) h = later_same a b h
later_list_fault a b (fault.ActionFailed target code) h = absurd h
later_list_fault a b (fault.TreeFault path) h = later_tree a b h
later_list_fault a b (fault.StartFault target) h = absurd h
later_list_fault a b fault.StoreFault h = absurd h
later_list_fault a b fault.OutFault h = absurd h
later_list_fault a b (fault.TooLarge path size) h = later_same a b h
later_list_fault a b (fault.TooMany what count) h = later_same a b h

-- nor by a list of what a build would do
pub later_list : {T : Type 0} (a b : Counts) (r : Result T ListEnd) → HasListCause a b r → Later a b
later_list a b (Ok value) h = later_same a b h
later_list a b (Err (end.Fault f)) h = later_list_fault a b f h
later_list a b (Err end.Memory) h = later_alone a b h

-- nor as the store is read or begun
pub later_store : {W T : Type 0} (m : Meaning W) (old new : W) (r : Result T StoreRefusal) → HasFaultCause m old new r → Later (m.counts old) (m.counts new)
later_store m old new (Ok value) h = later_same (m.counts old) (m.counts new) (h.kept (λ is. cc))
later_store m old new (Err refusal.Fault) h = later_disk (m.counts old) (m.counts new) (h.rose refl)
later_store m old new (Err (refusal.Foreign bank)) h = later_same (m.counts old) (m.counts new) (h.kept (λ is. cc))
later_store m old new (Err (refusal.Large size)) h = later_same (m.counts old) (m.counts new) (h.kept (λ is. cc))
later_store m old new (Err refusal.Memory) h = later_same (m.counts old) (m.counts new) (h.kept (λ is. cc))

pub watches_same : {W : Type 0} (m : Meaning W) (w : W) → Watches m w w
watches_same m w = record { looks = looks_same m w; later = later_same (m.counts w) (m.counts w) refl }

pub watches_on : {W : Type 0} (m : Meaning W) (a b c : W) → Watches m a b → Watches m b c → Watches m a c
watches_on m a b c p q = record {
  looks = looks_joined m a b c p.looks q.looks;
  later = let first = p.later in let second = q.later in record { disk = omega arith; tree = omega arith; start = omega arith; action = omega arith };
}

-- the reading of scripts only looks
pub watches_host : {W : Type 0} (m : Meaning W) (old new : W) → LooksAtFiles m old new → Watches m old new
watches_host m old new h = record { looks = h.looks; later = later_alone (m.counts old) (m.counts new) h.counts }

-- and so does that of the store
pub watches_store : {W : Type 0} (m : Meaning W) (old new : W) → ReadsBanks m old new → Later (m.counts old) (m.counts new) → Watches m old new
watches_store m old new h later = record {
  looks = record { told = h.told; recalls = h.recalls; around = λ t. asks_of (m.around old) (m.around new) (h.around t); banks = h.banks; before = h.before };
  later = later;
}

pub watches_look : {W : Type 0} (m : Meaning W) (old new : W) → Looks m old new → Later (m.counts old) (m.counts new) → Watches m old new
watches_look m old new h later = record { looks = h; later = later }

pub stays_of : {W : Type 0} (m : Meaning W) (old new : W) → Watches m old new → Stays m old new
stays_of m old new w = record {
  goes = record { passes = record { told = w.looks.told; later = w.later }; runs = λ t. (w.looks.around t).running };
  banks = w.looks.banks;
}

pub passes_of : {W : Type 0} (m : Meaning W) (old new : W) → Watches m old new → Passes m old new
passes_of m old new w = record { told = w.looks.told; later = w.later }

pub passes_after : {W : Type 0} (m : Meaning W) (a b c : W) → Watches m a b → Passes m b c → Passes m a c
passes_after m a b c p q = passes_on m a b c (passes_of m a b p) q

-- nothing runs still
pub idle_on : {W : Type 0} (m : Meaning W) (old new : W) → Goes m old new → (m.tells old → (m.around old).running ≡ []) → m.tells new → (m.around new).running ≡ []
idle_on m old new g idle t = g.runs t ∙ idle (g.passes.told.told t)

pub idle_of : {W : Type 0} (m : Meaning W) (old new : W) → Watches m old new → (m.tells old → (m.around old).running ≡ []) → m.tells new → (m.around new).running ≡ []
idle_of m old new w idle t = idle_on m old new (stays_of m old new w).goes idle t

pub unclosed_of : {W : Type 0} (m : Meaning W) (old new : W) → Watches m old new → m.closed old ≡ [] → m.closed new ≡ []
unclosed_of m old new w none = w.looks.told.closed ∙ none

pub ruleset watching = (watches_same, watches_host, watches_look, watches_store, later_same, later_tree, later_disk, later_look, later_list, later_store)

-- nothing is closed still
pub unclosed_on : {W : Type 0} (m : Meaning W) (old new : W) → Goes m old new → m.closed old ≡ [] → m.closed new ≡ []
unclosed_on m old new g none = g.passes.told.closed ∙ none

-- nothing was done
pub ruleset standing = (looks_same, watches_same)
