-- The trees of what was asked for: what they leave of the world, and why one isn't printed to its end.
use Rattle.std.proofs.Common.{◌≡◌, ◌≢◌, ◌≤◌, ℕ, Bool, false, List, [], Contains, inl, inr, arith, subst, sym, refl}
use Rattle.std.proofs.lemmas.Bool.{cases_lt}
use Rattle.std.specs.Prelude.{Result, Ok, Err, IsErrAnd}
use Rattle.world_api.specs.Causes.{Later}
use Rattle.world_api.specs.Counts.{Counts}
use Rattle.world_api.specs.Looks.{Looks}
use Rattle.world_api.specs.Meaning.{Meaning}
use Rattle.rule_graph.specs.declared.build_fault.BuildFault.{BuildFault}
use Rattle.rule_graph.specs.declared.build_fault.BuildFault.TheVariants as fault
use Rattle.build_files.specs.declared.end.ListEnd.TheVariants as list_end
use Rattle.build_run.specs.Causes.{Outside, outside, AreCaused, AreTold}
use Rattle.scons_report.specs.Asked.{HasTreeCause}
use Rattle.scons_report.specs.Causes.{HasFaultCause as HasListFault}
use Rattle.scons_report.specs.declared.tree_end.TreeEnd.{TreeEnd}
use Rattle.scons_report.specs.declared.tree_end.TreeEnd.TheVariants as end
use Rattle.build_model.specs.Rules.{Path}
use Rattle.world_api.specs.Printed.{SinkMeaning}
use Rattle.scons_top.specs.declared.report.Report.{Report}
use Rattle.scons_top.specs.declared.step.Step.{Step}
use Rattle.scons_top.specs.declared.stop.Stop.TheVariants as stop
use Rattle.scons_top.specs.Causes.{IsCaused}
use Rattle.scons_top.specs.Steps.{ReportsAt}
use Rattle.scons_top.specs.Told.{TellsFaults}
use Rattle.scons_top.specs.Stops.{top_of, HasWorldCause, HasStop}
use Rattle.scons_top.specs.Watching.{Watches}
use Rattle.scons_top.proofs.Watching.{later_same, later_list}
use Rattle.scons_top.proofs.Causing.{list_fault, sink_stop, stop_back, same_world}

-- a fault of a tree that isn't the sink's is one of the files
of_files : (a b : Counts) (x y : ℕ) (f : BuildFault) → f ≢ fault.OutFault → HasTreeCause {T = Unit {0}} a b x y (Err (end.Fault f)) → HasListFault a b f × (y ≡ x)
of_files a b x y (fault.Missing node target) not h = h
of_files a b x y (fault.Cycle paths) not h = h
of_files a b x y (fault.ActionFailed target code) not h = h
of_files a b x y (fault.TreeFault path) not h = h
of_files a b x y (fault.StartFault target) not h = h
of_files a b x y fault.StoreFault not h = h
of_files a b x y fault.OutFault not h = absurd (not refl)
of_files a b x y (fault.TooLarge path size) not h = h
of_files a b x y (fault.TooMany what count) not h = h

later_fault : (a b : Counts) (x y : ℕ) (f : BuildFault) → HasTreeCause {T = Unit {0}} a b x y (Err (end.Fault f)) → Later a b
later_fault a b x y (fault.Missing node target) h = later_list {T = Unit {0}} a b (Err (list_end.Fault (fault.Missing node target))) h.0
later_fault a b x y (fault.Cycle paths) h = later_list {T = Unit {0}} a b (Err (list_end.Fault (fault.Cycle paths))) h.0
later_fault a b x y (fault.ActionFailed target code) h = absurd h.0
later_fault a b x y (fault.TreeFault path) h = later_list {T = Unit {0}} a b (Err (list_end.Fault (fault.TreeFault path))) h.0
later_fault a b x y (fault.StartFault target) h = absurd h.0
later_fault a b x y fault.StoreFault h = absurd h.0
later_fault a b x y fault.OutFault h = later_same a b h.0
later_fault a b x y (fault.TooLarge path size) h = later_list {T = Unit {0}} a b (Err (list_end.Fault (fault.TooLarge path size))) h.0
later_fault a b x y (fault.TooMany what count) h = later_list {T = Unit {0}} a b (Err (list_end.Fault (fault.TooMany what count))) h.0

-- no count falls by a tree
later_shown : {T : Type 0} (a b : Counts) (x y : ℕ) (r : Result T TreeEnd) → HasTreeCause a b x y r → Later a b
later_shown a b x y (Ok value) h = later_same a b h.0
later_shown a b x y (Err (end.Fault f)) h = later_fault a b x y f h
later_shown a b x y (Err end.Memory) h = later_list {T = Unit {0}} a b (Err list_end.Memory) h.0

pub watches_shown : {W T : Type 0} (m : Meaning W) (old new : W) (x y : ℕ) (r : Result T TreeEnd) → Looks m old new → HasTreeCause (m.counts old) (m.counts new) x y r → Watches m old new
watches_shown m old new x y r looks h = record { looks = looks; later = later_shown (m.counts old) (m.counts new) x y r h }

-- nothing was at fault before
pub shown_back : {T : Type 0} (a b c : Counts) (x y z : ℕ) (r : Result T TreeEnd) → b ≡ a → y ≡ x → HasTreeCause b c y z r → HasTreeCause a c x z r
shown_back a b c x y z r same still h = subst (λ (n : ℕ). HasTreeCause a c n z r) still (subst (λ (n : Counts). HasTreeCause n c y z r) same h)

-- the exit of a `?`
pub shown_exit : {T : Type 0} (a b : Counts) (x y : ℕ) (r : Result T TreeEnd) (e : TreeEnd) → IsErrAnd r (λ s. s ≡ e) → HasTreeCause {T = Unit {0}} a b x y (Err e) → HasTreeCause a b x y r
shown_exit a b x y (Ok value) e is h = absurd is
shown_exit a b x y (Err s) e is h = subst (λ (t : TreeEnd). HasTreeCause {T = Unit {0}} a b x y (Err t)) (sym is) h

-- a tree at which the sink refused, or for which memory is wanting, is a stop
pub out_shown : (a b : Counts) (x y err : ℕ) (e : TreeEnd) → e ≡ end.Fault fault.OutFault → HasTreeCause {T = Unit {0}} a b x y (Err e) → HasStop (outside a x err) (outside b y err) (stop.Build fault.OutFault)
out_shown a b x y err e is h =
    let c = subst (λ (t : TreeEnd). HasTreeCause {T = Unit {0}} a b x y (Err t)) is h in
    stop_back (outside a x err) (outside b x err) (outside b y err) (stop.Build fault.OutFault) (same_world a b x err c.0) (sink_stop b x y err (stop.Build fault.OutFault) c.1)

-- a file at fault
pub file_shown : (a b : Counts) (x y : ℕ) (e : TreeEnd) (f : BuildFault) → e ≡ end.Fault f → f ≢ fault.OutFault → HasTreeCause {T = Unit {0}} a b x y (Err e) → HasWorldCause a b (top_of f) × (y ≡ x)
file_shown a b x y e f is not h =
    let c = of_files a b x y f not (subst (λ (t : TreeEnd). HasTreeCause {T = Unit {0}} a b x y (Err t)) is h) in
    (list_fault a b f c.0, c.1)

-- a build without a fault leaves all counts as they were

still : (x y : ℕ) → x ≤ y → (y ≢ x → ⊥) → y ≡ x
still x y le not = elim (cases_lt x y) [
  | inl more ↦ absurd (not (λ same. omega (arith, more, same)))
  | inr most ↦ omega (arith, le, most)
]

none_in : (f : BuildFault) → Contains [] f → ⊥
none_in f h = omega (arith, h.1)

same_counts : (a b : Counts) → Later a b → (b.disk_faults ≢ a.disk_faults → ⊥) → (b.tree_faults ≢ a.tree_faults → ⊥)
    → (b.start_faults ≢ a.start_faults → ⊥) → (b.action_failures ≢ a.action_failures → ⊥) → b ≡ a
same_counts a b later disk tree start action =
    let d = still a.disk_faults b.disk_faults later.disk disk in
    let t = still a.tree_faults b.tree_faults later.tree tree in
    let s = still a.start_faults b.start_faults later.start start in
    let f = still a.action_failures b.action_failures later.action action in
    λ i. record { disk_faults = d i; tree_faults = t i; start_faults = s i; action_failures = f i }

pub none_found : (a b : Outside) (faults : List BuildFault) (memory : Bool) → faults ≡ [] → memory ≡ false
    → AreCaused a b faults memory → b ≡ a
none_found a b faults memory none well caused =
    let told = subst (λ (fs : List BuildFault). AreTold a b fs) none (caused.told well) in
    let later = caused.later in
    let counts = same_counts a.counts b.counts later.counts (λ ne. none_in fault.StoreFault (told.disk ne))
    (λ ne. let h = told.tree ne in none_in h.0 h.1) (λ ne. let h = told.start ne in none_in h.0 h.1)
    (λ ne. let h = told.action ne in none_in h.0 h.1) in
    let out = still a.out b.out later.out (λ ne. none_in fault.OutFault (told.out ne)) in
    let err = still a.err b.err later.err (λ ne. none_in fault.OutFault (told.err ne)) in
    λ i. record { counts = counts i; out = out i; err = err i }

-- a report that tells more that was skipped

abbrev with_skipped : Report → List (Path × Path) → Report
with_skipped report pairs = record report { skipped = pairs }

pub caused_skipping : (a b : Outside) (report : Report) (pairs : List (Path × Path)) → IsCaused a b report → IsCaused a b (with_skipped report pairs)
caused_skipping a b report pairs h = record { later = h.later; each = h.each; counted = h.counted; told = h.told }

pub ends_skipping : (at : Step) (report : Report) (pairs : List (Path × Path)) → ReportsAt at report → ReportsAt at (with_skipped report pairs)
ends_skipping at report pairs h = record { ends = h.ends; faults = h.faults; alone = h.alone }

pub tells_skipping : {E : Type 0} (e : SinkMeaning E) (err new : E) (report : Report) (pairs : List (Path × Path)) → TellsFaults e err new report
    → TellsFaults e err new (with_skipped report pairs)
tells_skipping e err new report pairs h = record { told = h.told; shown = h.shown }
