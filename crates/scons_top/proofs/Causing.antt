-- What was at fault outside as a run goes on, and that it is told as it ends.
use Rattle.std.proofs.Common.{◌≡◌, ◌≢◌, ◌∙◌, ◌≤◌, inl, inr, sym, subst, refl, ap, ℕ, zero, suc, List, [], ◌∷◌, ◌++◌, true, false, Bool, Some, map, Contains, arith}
use Rattle.std.specs.Prelude.{All, Result, Ok, Err, IsErrAnd, IfErr, OnErr}
use Rattle.std.proofs.lemmas.Bool.{false≢true}
use Rattle.std.proofs.lemmas.List.Elements.{All-push, All-nil, All-cons, All-map, All-weaker, All-pop, Contains-append_left, Contains-push}
use Rattle.scons_base.specs.Rising.{Rose}
use Rattle.world_api.specs.Causes.{TreeFails, DiskFails}
use Rattle.world_api.specs.Counts.{Counts}
use Rattle.world_api.specs.Looks.{IsTreeAlone}
use Rattle.world_api.specs.Meaning.{Meaning}
use Rattle.world_api.specs.declared.refusal.AskRefusal.{AskRefusal}
use Rattle.world_api.specs.declared.refusal.AskRefusal.TheVariants as ask
use Rattle.rule_graph.specs.declared.build_fault.BuildFault.{BuildFault}
use Rattle.rule_graph.specs.declared.build_fault.BuildFault.TheVariants as fault
use Rattle.build_files.specs.Causes.{HasEndCause, HasLookCause}
use Rattle.build_files.specs.Causes.{HasFaultCause as HasLookFault}
use Rattle.build_files.specs.declared.end.ListEnd.{ListEnd}
use Rattle.build_files.specs.declared.end.ListEnd.TheVariants as list_end
use Rattle.scons_report.specs.Causes.{HasFaultCause as HasListFault, HasEndCause as HasListEnd}
use Rattle.world_api.proofs.Looking.{since_call}
use Rattle.sign_store.specs.Reached.{HasFaultCause as HasStoreCause}
use Rattle.sign_store.specs.declared.refusals.StoreRefusal.{StoreRefusal}
use Rattle.sign_store.specs.declared.refusals.StoreRefusal.TheVariants as refusal
use Rattle.scons_host.specs.Causes.{HasEndCause as HasHostCause, at_counts}
use Rattle.scons_host.specs.Causes.{Outside as HostOutside}
use Rattle.scons_host.specs.declared.end.HostEnd.{HostEnd}
use Rattle.scons_host.specs.declared.end.HostEnd.TheVariants as host_end
use Rattle.scons_words.specs.declared.fault.WordsFault.{WordsFault}
use Rattle.scons_words.specs.declared.fault.WordsFault.TheVariants as words_fault
use Rattle.build_run.specs.Causes.{Outside, outside, IsLater, AreCaused}
use Rattle.build_run.specs.Causes.{HasCause as HasBuildCause, HasAny as HasAnyBuild, AreTold as AreBuildTold}
use Rattle.build_run.specs.Causes.{IsTreeFault as IsBuildTree, IsStartFault as IsBuildStart, IsActionFault as IsBuildAction}
use Rattle.build_run.proofs.Holding.{further}
use Rattle.scons_top.specs.declared.report.Report.{Report}
use Rattle.scons_top.specs.declared.report.Top.{Top}
use Rattle.scons_top.specs.declared.report.Top.TheVariants as top
use Rattle.scons_top.specs.declared.stop.Stop.{Stop}
use Rattle.scons_top.specs.declared.stop.Stop.TheVariants as stop
use Rattle.scons_top.specs.Faults.{IsLateStop, top_of_own}
use Rattle.scons_top.specs.Causes.{HasCause, IsTreeFault, IsStartFault, IsActionFault, HasAny, AreTold, IsCaused}
use Rattle.scons_top.specs.Stops.{top_of, stop_of_words, stop_of_list, stop_of_host, stop_of_store, HasWorldCause, HasWorldStop, WorldStep, IsInside, IsTopStop, InnerStep, HasSinkStop, SinkStep, OnWorld, OutFails, HasStopFault, HasStop, Step, ReportStep}
use Rattle.scons_top.specs.Counted.{AreFew}
use Rattle.scons_top.specs.Endings.{Found}
use Rattle.scons_top.proofs.Counting.{few_dropped, few_more, few_none, few_on, few_one, few_tops}
use Rattle.scons_top.proofs.Watching.{watches_same, watches_host, watches_look, watches_store, later_same, later_tree, later_disk, later_look, later_list, later_store}

-- steps over the world

-- a fault of a look is one of the world
pub look_fault : (a b : Counts) (f : BuildFault) → HasLookFault a b f → HasWorldCause a b (top_of f)
look_fault a b (fault.Missing node target) h = absurd h
look_fault a b (fault.Cycle paths) h = absurd h
look_fault a b (fault.ActionFailed target code) h = absurd h
look_fault a b (fault.TreeFault path) h = h
look_fault a b (fault.StartFault target) h = absurd h
look_fault a b fault.StoreFault h = absurd h
look_fault a b fault.OutFault h = absurd h
look_fault a b (fault.TooLarge path size) h = h
look_fault a b (fault.TooMany what count) h = h

pub list_fault : (a b : Counts) (f : BuildFault) → HasListFault a b f → HasWorldCause a b (top_of f)
list_fault a b (fault.Missing node target) h = h
list_fault a b (fault.Cycle paths) h = h
list_fault a b (fault.ActionFailed target code) h = absurd h
list_fault a b (fault.TreeFault path) h = h
list_fault a b (fault.StartFault target) h = absurd h
list_fault a b fault.StoreFault h = absurd h
list_fault a b fault.OutFault h = absurd h
list_fault a b (fault.TooLarge path size) h = h
list_fault a b (fault.TooMany what count) h = h

-- a list that isn't given for a fault, or for want of memory
pub list_faulty : (a b : Counts) (e : ListEnd) (f g : BuildFault) → e ≡ list_end.Fault f → f ≡ g → HasListEnd a b e → HasWorldCause a b (top_of g)
list_faulty a b e f g is same h = subst (λ x. HasWorldCause a b (top_of x)) same (list_fault a b f (subst (HasListEnd a b) is h))

pub list_alone : (a b : Counts) (e : ListEnd) → e ≡ list_end.Memory → HasListEnd a b e → IsTreeAlone a b
list_alone a b e is h = subst (HasListEnd a b) is h

pub look_end : (a b : Counts) (e : ListEnd) → HasEndCause a b e → HasWorldStop a b (stop_of_list e)
look_end a b (list_end.Fault f) h = look_fault a b f h
look_end a b list_end.Memory h = later_look {T = Unit {0}} a b (Err list_end.Memory) h

-- a look that ended is a stop
pub look_stop : (a b : Counts) (e : ListEnd) (s : Stop) → s ≡ stop_of_list e → HasEndCause a b e → HasWorldStop a b s
look_stop a b e s is h = subst (HasWorldStop a b) (sym is) (look_end a b e h)

pub store_end : {W T : Type 0} (m : Meaning W) (old new : W) (r : Result T StoreRefusal) (e : StoreRefusal) → r ≡ Err e → HasStoreCause m old new r → HasWorldStop (m.counts old) (m.counts new) (stop_of_store e)
store_end m old new r refusal.Fault is h = h.rose is
store_end m old new r (refusal.Foreign bank) is h = h.kept (λ other. let no = sym is ∙ other in cc)
store_end m old new r (refusal.Large size) is h = h.kept (λ other. let no = sym is ∙ other in cc)
store_end m old new r refusal.Memory is h = later_same (m.counts old) (m.counts new) (h.kept (λ other. let no = sym is ∙ other in cc))

-- a store that is read or begun
pub store_well : {W T : Type 0} (m : Meaning W) (old new : W) (r : Result T StoreRefusal) (value : T) → r ≡ Ok value → HasStoreCause m old new r → m.counts new ≡ m.counts old
store_well m old new r value is h = h.kept (λ other. let no = sym is ∙ other in cc)

-- a store that isn't read or begun is a stop
pub store_stop : {W T : Type 0} (m : Meaning W) (old new : W) (r : Result T StoreRefusal) (e : StoreRefusal) (s : Stop) → s ≡ stop_of_store e → r ≡ Err e → HasStoreCause m old new r → HasWorldStop (m.counts old) (m.counts new) s
store_stop m old new r e s stop is h = subst (HasWorldStop (m.counts old) (m.counts new)) (sym stop) (store_end m old new r e is h)

-- a stop for which nothing outside is at fault
pub inside : (a b : Counts) (s : Stop) → b ≡ a → IsInside s → HasWorldStop a b s
inside a b s same is = subst (λ c. HasWorldStop a c s) (sym same) (is a)

pub world_back : {T : Type 0} (a b c : Counts) (r : Result T Stop) → b ≡ a → WorldStep b c r → WorldStep a c r
world_back a b c r same h = subst (λ x. WorldStep x c r) same h

pub inner_step : {T : Type 0} (a b : Counts) (r : Result T Stop) → b ≡ a → InnerStep r → WorldStep a b r
inner_step a b r same is = subst (λ c. WorldStep a c r) (sym same) (is a)

-- steps over the world and both sinks

pub later_here : (a : Outside) → IsLater a a
later_here a = record { counts = later_same a.counts a.counts refl; out = omega arith; err = omega arith }

on_world : (a b : Counts) (out err : ℕ) (f : Top) → HasWorldCause a b f → HasStopFault (outside a out err) (outside b out err) f
on_world a b out err (top.Usage place kind) h = record { counts = h; out = refl; err = refl }
on_world a b out err (top.Reading file line kind) h = record { counts = h; out = refl; err = refl }
on_world a b out err (top.Missing node target) h = record { counts = h; out = refl; err = refl }
on_world a b out err (top.UnknownTarget word) h = record { counts = h; out = refl; err = refl }
on_world a b out err (top.Cycle paths) h = record { counts = h; out = refl; err = refl }
on_world a b out err (top.ActionFailed target code) h = absurd h
on_world a b out err (top.TreeFault path) h = record { counts = h; out = refl; err = refl }
on_world a b out err (top.StartFault target) h = absurd h
on_world a b out err top.StoreFault h = record { counts = h; out = refl; err = refl }
on_world a b out err (top.StoreForeign bank) h = record { counts = h; out = refl; err = refl }
on_world a b out err top.OutFault h = absurd h
on_world a b out err (top.TooLarge path size) h = record { counts = h; out = refl; err = refl }
on_world a b out err (top.TooMany what count) h = record { counts = h; out = refl; err = refl }

-- a stop of the world
pub world_stop : (a b : Counts) (out err : ℕ) (s : Stop) → HasWorldStop a b s → HasStop (outside a out err) (outside b out err) s
world_stop a b out err (stop.Fault f) h = on_world a b out err (top_of_own f) h
world_stop a b out err (stop.Build f) h = on_world a b out err (top_of f) h
world_stop a b out err stop.Memory h = record { counts = h; out = omega arith; err = omega arith }

pub world_step : {T : Type 0} (a b : Counts) (out err : ℕ) (r : Result T Stop) → WorldStep a b r → Step (outside a out err) (outside b out err) r
world_step a b out err (Ok value) h = ap (λ c. outside c out err) h
world_step a b out err (Err s) h = world_stop a b out err s h

-- a stop of standard output
out_fault : (counts : Counts) (a b err : ℕ) (f : BuildFault) → HasSinkStop a b (stop.Build f) → HasStopFault (outside counts a err) (outside counts b err) (top_of f)
out_fault counts a b err (fault.Missing node target) h = absurd h
out_fault counts a b err (fault.Cycle paths) h = absurd h
out_fault counts a b err (fault.ActionFailed target code) h = absurd h
out_fault counts a b err (fault.TreeFault path) h = absurd h
out_fault counts a b err (fault.StartFault target) h = absurd h
out_fault counts a b err fault.StoreFault h = absurd h
out_fault counts a b err fault.OutFault h = record { counts = refl; out = h; err = refl }
out_fault counts a b err (fault.TooLarge path size) h = absurd h
out_fault counts a b err (fault.TooMany what count) h = absurd h

pub sink_stop : (counts : Counts) (a b err : ℕ) (s : Stop) → HasSinkStop a b s → HasStop (outside counts a err) (outside counts b err) s
sink_stop counts a b err (stop.Fault f) h = absurd h
sink_stop counts a b err (stop.Build f) h = out_fault counts a b err f h
sink_stop counts a b err stop.Memory h = record { counts = later_same counts counts refl; out = omega (arith, h); err = omega arith }

pub sink_step : {T : Type 0} (counts : Counts) (a b err : ℕ) (r : Result T Stop) → SinkStep a b r → Step (outside counts a err) (outside counts b err) r
sink_step counts a b err (Ok value) h = ap (λ o. outside counts o err) h
sink_step counts a b err (Err s) h = sink_stop counts a b err s h

-- the end of a reading of scripts
pub host_end_at : (a b : Counts) (x y err : ℕ) (e : HostEnd) → HasHostCause (at_counts a x) (at_counts b y) e → HasStop (outside a x err) (outside b y err) (stop_of_host e)
host_end_at a b x y err (host_end.Reading file line kind) h = record { counts = ap (λ (o : HostOutside). o.counts) h; out = ap (λ (o : HostOutside). o.out) h; err = refl }
host_end_at a b x y err (host_end.Tree path) h = record { counts = h.tree; out = h.out; err = refl }
host_end_at a b x y err host_end.Out h = record { counts = h.counts; out = h.out; err = refl }
host_end_at a b x y err (host_end.TooLarge path size) h = record { counts = ap (λ (o : HostOutside). o.counts) h; out = ap (λ (o : HostOutside). o.out) h; err = refl }
host_end_at a b x y err (host_end.TooMany what count) h = record { counts = ap (λ (o : HostOutside). o.counts) h; out = ap (λ (o : HostOutside). o.out) h; err = refl }
host_end_at a b x y err host_end.Memory h =
    let c = h.counts in let tree = c.tree in let out = h.out in
    record { counts = record { disk = omega (arith, c.disk); tree = tree; start = omega (arith, c.start); action = omega (arith, c.action) }; out = out; err = omega arith }

pub host_stop : (a b : Counts) (x y err : ℕ) (e : HostEnd) (s : Stop) → s ≡ stop_of_host e → HasHostCause (at_counts a x) (at_counts b y) e → HasStop (outside a x err) (outside b y err) s
host_stop a b x y err e s is h = subst (HasStop (outside a x err) (outside b y err)) (sym is) (host_end_at a b x y err e h)

pub host_same : (a b : Counts) (x y err : ℕ) → at_counts b y ≡ at_counts a x → outside b y err ≡ outside a x err
host_same a b x y err h = ap (λ (o : HostOutside). outside o.counts o.out err) h

-- nothing was at fault before
pub stop_back : (a b c : Outside) (s : Stop) → b ≡ a → HasStop b c s → HasStop a c s
stop_back a b c s same h = subst (λ x. HasStop x c s) same h

pub step_back : {T : Type 0} (a b c : Outside) (r : Result T Stop) → b ≡ a → Step b c r → Step a c r
step_back a b c r same h = subst (λ x. Step x c r) same h

pub report_back : (a b c : Outside) (r : Result Report Stop) → b ≡ a → ReportStep b c r → ReportStep a c r
report_back a b c r same h = subst (λ x. ReportStep x c r) same h

pub same_world : (a b : Counts) (out err : ℕ) → b ≡ a → outside b out err ≡ outside a out err
same_world a b out err same = ap (λ c. outside c out err) same

pub same_out : (counts : Counts) (a b err : ℕ) → b ≡ a → outside counts b err ≡ outside counts a err
same_out counts a b err same = ap (λ o. outside counts o err) same

-- the exits of a `?`
pub exit_step : {T : Type 0} (a b : Outside) (r : Result T Stop) (s : Stop) → IsErrAnd r (λ x. x ≡ s) → HasStop a b s → Step a b r
exit_step a b (Ok value) s is h = absurd is
exit_step a b (Err x) s is h = subst (HasStop a b) (sym is) h

pub exit_report : (a b : Outside) (r : Result Report Stop) (s : Stop) → IsErrAnd r (λ x. x ≡ s) → HasStop a b s → ReportStep a b r
exit_report a b (Ok value) s is h = absurd is
exit_report a b (Err x) s is h = subst (HasStop a b) (sym is) h

pub exit_list : {T : Type 0} (a b : Outside) (r : Result T Stop) (e : ListEnd) → IsErrAnd r (λ s. IsLateStop s × (s ≡ stop_of_list e)) → HasStop a b (stop_of_list e) → Step a b r
exit_list a b (Ok value) e is h = absurd is
exit_list a b (Err s) e is h = subst (HasStop a b) (sym is.1) h

pub exit_store : (a b : Outside) (r : Result Report Stop) (e : StoreRefusal) → IsErrAnd r (λ s. IsLateStop s × (s ≡ stop_of_store e)) → HasStop a b (stop_of_store e) → ReportStep a b r
exit_store a b (Ok value) e is h = absurd is
exit_store a b (Err s) e is h = subst (HasStop a b) (sym is.1) h

-- want of memory, where nothing was at fault
pub exit_memory : {T : Type 0} (a b : Outside) (r : Result T Stop) → IsErrAnd r (λ s. s ≡ stop.Memory) → b ≡ a → Step a b r
exit_memory a b r is same = exit_step a b r stop.Memory is (subst (λ x. IsLater a x) (sym same) (later_here a))

pub report_memory : (a b : Outside) (r : Result Report Stop) → IsErrAnd r (λ s. s ≡ stop.Memory) → b ≡ a → ReportStep a b r
report_memory a b r is same = exit_report a b r stop.Memory is (subst (λ x. IsLater a x) (sym same) (later_here a))

-- the exits of a step on a sink alone
pub sink_memory : {T : Type 0} (a : ℕ) (r : Result T Stop) → IsErrAnd r (λ s. s ≡ stop.Memory) → SinkStep a a r
sink_memory a (Ok value) is = absurd is
sink_memory a (Err s) is = subst (HasSinkStop a a) (sym is) refl

pub sink_refused : {T : Type 0} (a b : ℕ) (r : Result T Stop) → IsErrAnd r (λ s. s ≡ stop.Build fault.OutFault) → Rose a b → SinkStep a b r
sink_refused a b (Ok value) is rose = absurd is
sink_refused a b (Err s) is rose = subst (HasSinkStop a b) (sym is) rose

pub sink_exit : {T : Type 0} (a b : ℕ) (r : Result T Stop) (s : Stop) → IsErrAnd r (λ x. x ≡ s) → HasSinkStop a b s → SinkStep a b r
sink_exit a b (Ok value) s is h = absurd is
sink_exit a b (Err x) s is h = subst (HasSinkStop a b) (sym is) h

-- the sink wasn't at fault before
pub sink_back : {T : Type 0} (a b c : ℕ) (r : Result T Stop) → b ≡ a → SinkStep b c r → SinkStep a c r
sink_back a b c r same h = subst (λ x. SinkStep x c r) same h

-- the exits of a step over the world alone
pub world_exit : {T : Type 0} (a b : Counts) (r : Result T Stop) (s : Stop) → IsErrAnd r (λ x. x ≡ s) → HasWorldStop a b s → WorldStep a b r
world_exit a b (Ok value) s is h = absurd is
world_exit a b (Err x) s is h = subst (HasWorldStop a b) (sym is) h

pub memory_late : {T : Type 0} (r : Result T Stop) → IsErrAnd r (λ s. s ≡ stop.Memory) → IfErr r IsLateStop
memory_late (Ok value) is = absurd is
memory_late (Err s) is = subst IsLateStop (sym is) (λ early. early)

pub refused_late : {T : Type 0} (r : Result T Stop) → IsErrAnd r (λ s. s ≡ stop.Build fault.OutFault) → IfErr r IsLateStop
refused_late (Ok value) is = absurd is
refused_late (Err s) is = subst IsLateStop (sym is) (λ early. early)

-- a step with no call outside that ends for want of memory
pub inner_memory : {T : Type 0} (r : Result T Stop) → IsErrAnd r (λ s. s ≡ stop.Memory) → InnerStep r
inner_memory (Ok value) is = absurd is
inner_memory (Err s) is = λ counts. subst (HasWorldStop counts counts) (sym is) (later_same counts counts refl)

pub world_memory : {T : Type 0} (a b : Counts) (r : Result T Stop) → IsErrAnd r (λ s. s ≡ stop.Memory) → b ≡ a → WorldStep a b r
world_memory a b r is same = inner_step a b r same (inner_memory r is)

-- faults that are found

pub rose_on : (a b c : ℕ) → Rose a b → b ≤ c → Rose a c
rose_on a b c r le = let up = r.later in let more = r.more in record { later = omega (arith, up, le); more = omega (arith, more, le) }

rose_from : (a b c : ℕ) → a ≤ b → Rose b c → Rose a c
rose_from a b c le r = let up = r.later in let more = r.more in record { later = omega (arith, up, le); more = omega (arith, more, le) }

cause_on : (start mid new : Outside) → IsLater mid new → (f : Top) → HasCause start mid f → HasCause start new f
cause_on start mid new p (top.Usage place kind) h = h
cause_on start mid new p (top.Reading file line kind) h = h
cause_on start mid new p (top.Missing node target) h = h
cause_on start mid new p (top.UnknownTarget word) h = h
cause_on start mid new p (top.Cycle paths) h = h
cause_on start mid new p (top.ActionFailed target code) h = rose_on _ _ _ h p.counts.action
cause_on start mid new p (top.TreeFault path) h = rose_on _ _ _ h p.counts.tree
cause_on start mid new p (top.StartFault target) h = rose_on _ _ _ h p.counts.start
cause_on start mid new p top.StoreFault h = rose_on _ _ _ h p.counts.disk
cause_on start mid new p (top.StoreForeign bank) h = h
cause_on start mid new p top.OutFault (inl r) = inl (rose_on start.out mid.out new.out r p.out)
cause_on start mid new p top.OutFault (inr r) = inr (rose_on start.err mid.err new.err r p.err)
cause_on start mid new p (top.TooLarge path size) h = h
cause_on start mid new p (top.TooMany what count) h = h

any_more : (P : Top → Type 0) (faults : List Top) (f : Top) → HasAny P faults → HasAny P (faults ++ f ∷ [])
any_more P faults f h = (h.0, Contains-append_left faults (f ∷ []) h.0 h.1, h.2)

told_more : (old new : Outside) (faults : List Top) (f : Top) → AreTold old new faults → AreTold old new (faults ++ f ∷ [])
told_more old new faults f a = record {
  disk = λ ne. Contains-append_left faults (f ∷ []) top.StoreFault (a.disk ne);
  tree = λ ne. any_more IsTreeFault faults f (a.tree ne);
  start = λ ne. any_more IsStartFault faults f (a.start ne);
  action = λ ne. any_more IsActionFault faults f (a.action ne);
  out = λ ne. Contains-append_left faults (f ∷ []) top.OutFault (a.out ne);
  err = λ ne. Contains-append_left faults (f ∷ []) top.OutFault (a.err ne);
}

-- where nothing was at fault
none_told : (a : Outside) (faults : List Top) → AreTold a a faults
none_told a faults = record { disk = λ ne. absurd (ne refl); tree = λ ne. absurd (ne refl); start = λ ne. absurd (ne refl); action = λ ne. absurd (ne refl); out = λ ne. absurd (ne refl); err = λ ne. absurd (ne refl) }

pub found_as : (start a b : Outside) (faults : List Top) (memory : Bool) → b ≡ a → Found start a faults memory → Found start b faults memory
found_as start a b faults memory same h = subst (λ x. Found start x faults memory) (sym same) h

pub found_list : (start now : Outside) (old new : List Top) (memory : Bool) → new ≡ old → Found start now old memory → Found start now new memory
found_list start now old new memory same h = subst (λ fs. Found start now fs memory) (sym same) h

-- for want of memory nothing need be told
pub found_wanting : (start now : Outside) (faults : List Top) (memory : Bool) → Found start now faults memory → Found start now faults true
found_wanting start now faults memory h = record { later = h.later; each = h.each; counted = h.counted; told = λ is. absurd (false≢true (sym is)) }

-- a fault is dropped for want of memory
pub found_dropped : (start now : Outside) (faults : List Top) (f : Top) (memory : Bool) → Found start now (faults ++ f ∷ []) memory → Found start now faults true
found_dropped start now faults f memory h = record {
  later = h.later;
  each = front_of (HasCause start now) faults f h.each;
  counted = few_dropped start now faults f h.counted;
  told = λ is. absurd (false≢true (sym is));
}
  where
    front_of : (P : Top → Type 0) (fs : List Top) (f : Top) → All P (fs ++ f ∷ []) → All P fs
    front_of P fs f each = (All-pop P (fs ++ f ∷ []) fs (Some f) refl each).0

later_on : (a b c : Outside) → IsLater a b → IsLater b c → IsLater a c
later_on a b c p q =
    let x = p.counts in let y = q.counts in let o = p.out in let u = q.out in let e = p.err in let f = q.err in
    record {
      counts = record { disk = omega (arith, x.disk, y.disk); tree = omega (arith, x.tree, y.tree); start = omega (arith, x.start, y.start); action = omega (arith, x.action, y.action) };
      out = omega (arith, o, u);
      err = omega (arith, e, f);
    }

each_on : (start mid new : Outside) (faults : List Top) → IsLater mid new → All (HasCause start mid) faults → All (HasCause start new) faults
each_on start mid new faults p each = All-weaker (HasCause start mid) (HasCause start new) (cause_on start mid new p) faults each

-- standard error refused
pub found_err : (start : Outside) (counts : Counts) (out a b : ℕ) (faults : List Top) (memory : Bool) → Rose a b → Found start (outside counts out a) faults memory → Found start (outside counts out b) (faults ++ top.OutFault ∷ []) memory
found_err start counts out a b faults memory rose h =
    let mid = outside counts out a in let new = outside counts out b in
    let up : IsLater mid new = record { counts = later_same counts counts refl; out = omega arith; err = rose.later } in
    record {
      later = later_on start mid new h.later up;
      each = All-push (HasCause start new) faults top.OutFault (each_on start mid new faults up h.each) (inr (rose_from start.err a b h.later.err rose));
      counted = few_more start mid new faults fault.OutFault up (inr rose) h.counted;
      told = λ is. let t = told_more start mid faults top.OutFault (h.told is) in
          record { disk = t.disk; tree = t.tree; start = t.start; action = t.action; out = t.out; err = λ ne. Contains-push faults top.OutFault };
    }

-- standard output refused
pub found_out : (start : Outside) (counts : Counts) (a b err : ℕ) (faults : List Top) (memory : Bool) → Rose a b → Found start (outside counts a err) faults memory → Found start (outside counts b err) (faults ++ top.OutFault ∷ []) memory
found_out start counts a b err faults memory rose h =
    let mid = outside counts a err in let new = outside counts b err in
    let up : IsLater mid new = record { counts = later_same counts counts refl; out = rose.later; err = omega arith } in
    record {
      later = later_on start mid new h.later up;
      each = All-push (HasCause start new) faults top.OutFault (each_on start mid new faults up h.each) (inl (rose_from start.out a b h.later.out rose));
      counted = few_more start mid new faults fault.OutFault up (inl rose) h.counted;
      told = λ is. let t = told_more start mid faults top.OutFault (h.told is) in
          record { disk = t.disk; tree = t.tree; start = t.start; action = t.action; out = λ ne. Contains-push faults top.OutFault; err = t.err };
    }

-- the fault for which a step stops, alone

alone : (a b : Outside) (f : Top) → HasCause a b f → All (HasCause a b) (f ∷ [])
alone a b f h = All-cons (HasCause a b) f [] h (All-nil (HasCause a b))

same_of : (a b : Outside) → OnWorld (λ x y. y ≡ x) a b → b ≡ a
same_of a b h = ap (λ c. outside c b.out b.err) h.counts ∙ ap (λ o. outside a.counts o b.err) h.out ∙ ap (λ e. outside a.counts a.out e) h.err

own_found : (a b : Outside) (f : Top) → ((x : Outside) → HasCause x x f) → ((x : Outside) → AreFew x x (f ∷ [])) → OnWorld (λ x y. y ≡ x) a b → Found a b (f ∷ []) false
own_found a b f own few h = found_as a a b (f ∷ []) false (same_of a b h)
    (record { later = later_here a; each = alone a a f (own a); counted = few a; told = λ is. none_told a (f ∷ []) })

-- a fault of a build with no count
inner_found : (a b : Outside) (f : BuildFault) → ((x : Outside) → HasCause x x (top_of f)) → ((x : Outside) → HasBuildCause x x f) → OnWorld (λ x y. y ≡ x) a b
    → Found a b (top_of f ∷ []) false
inner_found a b f own built h = own_found a b (top_of f) own (λ x. few_one x x f (later_here x) (built x)) h

tree_found : (a b : Outside) (path : List ℕ) → OnWorld TreeFails a b → Found a b (top.TreeFault path ∷ []) false
tree_found a b path h =
    let c = h.counts in let out = h.out in let err = h.err in
    let later : IsLater a b = record { counts = later_tree a.counts b.counts c; out = omega (arith, out); err = omega (arith, err) } in
    record {
      later = later;
      each = alone a b (top.TreeFault path) c.rose;
      counted = few_one a b (fault.TreeFault path) later (c.rose);
      told = λ is. record {
        disk = λ ne. absurd (ne c.disk);
        tree = λ ne. (top.TreeFault path, Contains-push [] (top.TreeFault path), tt);
        start = λ ne. absurd (ne c.start);
        action = λ ne. absurd (ne c.action);
        out = λ ne. absurd (ne h.out);
        err = λ ne. absurd (ne h.err);
      };
    }

store_found : (a b : Outside) → OnWorld DiskFails a b → Found a b (top.StoreFault ∷ []) false
store_found a b h =
    let c = h.counts in let out = h.out in let err = h.err in
    let later : IsLater a b = record { counts = later_disk a.counts b.counts c; out = omega (arith, out); err = omega (arith, err) } in
    record {
      later = later;
      each = alone a b top.StoreFault c.rose;
      counted = few_one a b (fault.StoreFault) later (c.rose);
      told = λ is. record {
        disk = λ ne. Contains-push [] top.StoreFault;
        tree = λ ne. absurd (ne c.tree);
        start = λ ne. absurd (ne c.start);
        action = λ ne. absurd (ne c.action);
        out = λ ne. absurd (ne h.out);
        err = λ ne. absurd (ne h.err);
      };
    }

out_found : (a b : Outside) → OutFails a b → Found a b (top.OutFault ∷ []) false
out_found a b h =
    let same = h.counts in let up = h.out.later in let err = h.err in
    let later : IsLater a b = record { counts = later_same a.counts b.counts same; out = up; err = omega (arith, err) } in
    record {
      later = later;
      each = alone a b top.OutFault (inl h.out);
      counted = few_one a b (fault.OutFault) later (inl h.out);
      told = λ is. record {
        disk = λ ne. absurd (ne (ap (λ (c : Counts). c.disk_faults) same));
        tree = λ ne. absurd (ne (ap (λ (c : Counts). c.tree_faults) same));
        start = λ ne. absurd (ne (ap (λ (c : Counts). c.start_faults) same));
        action = λ ne. absurd (ne (ap (λ (c : Counts). c.action_failures) same));
        out = λ ne. Contains-push [] top.OutFault;
        err = λ ne. absurd (ne h.err);
      };
    }

pub stop_found : (a b : Outside) (f : Top) → HasStopFault a b f → Found a b (f ∷ []) false
stop_found a b (top.Usage place kind) h = own_found a b (top.Usage place kind) (λ x. tt) few_none h
stop_found a b (top.Reading file line kind) h = own_found a b (top.Reading file line kind) (λ x. tt) few_none h
stop_found a b (top.Missing node target) h = inner_found a b (fault.Missing node target) (λ x. tt) (λ x. tt) h
stop_found a b (top.UnknownTarget word) h = own_found a b (top.UnknownTarget word) (λ x. tt) few_none h
stop_found a b (top.Cycle paths) h = inner_found a b (fault.Cycle paths) (λ x. tt) (λ x. tt) h
stop_found a b (top.ActionFailed target code) h = absurd h.counts
stop_found a b (top.TreeFault path) h = tree_found a b path h
stop_found a b (top.StartFault target) h = absurd h.counts
stop_found a b top.StoreFault h = store_found a b h
stop_found a b (top.StoreForeign bank) h = own_found a b (top.StoreForeign bank) (λ x. tt) few_none h
stop_found a b top.OutFault h = out_found a b h
stop_found a b (top.TooLarge path size) h = inner_found a b (fault.TooLarge path size) (λ x. tt) (λ x. tt) h
stop_found a b (top.TooMany what count) h = inner_found a b (fault.TooMany what count) (λ x. tt) (λ x. tt) h

-- a fault of the world for which a list isn't given
pub world_found : (old new : Counts) (out err : ℕ) (f : BuildFault) → HasWorldCause old new (top_of f) → Found (outside old out err) (outside new out err) (top_of f ∷ []) false
world_found old new out err f h = stop_found (outside old out err) (outside new out err) (top_of f) (on_world old new out err (top_of f) h)

-- the faults of a build

top_cause : (a b : Outside) (f : BuildFault) → HasBuildCause a b f → HasCause a b (top_of f)
top_cause a b (fault.Missing node target) h = h
top_cause a b (fault.Cycle paths) h = h
top_cause a b (fault.ActionFailed target code) h = h
top_cause a b (fault.TreeFault path) h = h
top_cause a b (fault.StartFault target) h = h
top_cause a b fault.StoreFault h = h
top_cause a b fault.OutFault h = h
top_cause a b (fault.TooLarge path size) h = h
top_cause a b (fault.TooMany what count) h = h

top_tree : (f : BuildFault) → IsBuildTree f → IsTreeFault (top_of f)
top_tree (fault.TreeFault path) is = is
top_tree (fault.Missing node target) is = absurd is
top_tree (fault.Cycle paths) is = absurd is
top_tree (fault.ActionFailed target code) is = absurd is
top_tree (fault.StartFault target) is = absurd is
top_tree fault.StoreFault is = absurd is
top_tree fault.OutFault is = absurd is
top_tree (fault.TooLarge path size) is = absurd is
top_tree (fault.TooMany what count) is = absurd is

top_start : (f : BuildFault) → IsBuildStart f → IsStartFault (top_of f)
top_start (fault.StartFault target) is = is
top_start (fault.Missing node target) is = absurd is
top_start (fault.Cycle paths) is = absurd is
top_start (fault.ActionFailed target code) is = absurd is
top_start (fault.TreeFault path) is = absurd is
top_start fault.StoreFault is = absurd is
top_start fault.OutFault is = absurd is
top_start (fault.TooLarge path size) is = absurd is
top_start (fault.TooMany what count) is = absurd is

top_action : (f : BuildFault) → IsBuildAction f → IsActionFault (top_of f)
top_action (fault.ActionFailed target code) is = is
top_action (fault.Missing node target) is = absurd is
top_action (fault.Cycle paths) is = absurd is
top_action (fault.TreeFault path) is = absurd is
top_action (fault.StartFault target) is = absurd is
top_action fault.StoreFault is = absurd is
top_action fault.OutFault is = absurd is
top_action (fault.TooLarge path size) is = absurd is
top_action (fault.TooMany what count) is = absurd is

pub in_tops : (fs : List BuildFault) (f : BuildFault) → Contains fs f → Contains (map top_of fs) (top_of f)
in_tops [] f h = absurd (omega (arith, h.1))
in_tops (g ∷ fs) f (zero, lt, is) = (0, omega arith, ap top_of is)
in_tops (g ∷ fs) f (suc k, lt, is) = further (map top_of fs) (top_of g) (top_of f) (in_tops fs f (k, omega (arith, lt), is))

any_top : (P : BuildFault → Type 0) (Q : Top → Type 0) → ((f : BuildFault) → P f → Q (top_of f)) → (fs : List BuildFault) → HasAnyBuild P fs → HasAny Q (map top_of fs)
any_top P Q so fs h = (top_of h.0, in_tops fs h.0 h.1, so h.0 h.2)

tops_told : (a b : Outside) (fs : List BuildFault) → AreBuildTold a b fs → AreTold a b (map top_of fs)
tops_told a b fs t = record {
  disk = λ ne. in_tops fs fault.StoreFault (t.disk ne);
  tree = λ ne. any_top IsBuildTree IsTreeFault top_tree fs (t.tree ne);
  start = λ ne. any_top IsBuildStart IsStartFault top_start fs (t.start ne);
  action = λ ne. any_top IsBuildAction IsActionFault top_action fs (t.action ne);
  out = λ ne. in_tops fs fault.OutFault (t.out ne);
  err = λ ne. in_tops fs fault.OutFault (t.err ne);
}

pub build_found : (a b : Outside) (fs : List BuildFault) (memory : Bool) → AreCaused a b fs memory → Found a b (map top_of fs) memory
build_found a b fs memory c = record {
  later = c.later;
  each = All-map (HasCause a b) top_of fs (All-weaker (HasBuildCause a b) (λ f. HasCause a b (top_of f)) (top_cause a b) fs c.each);
  counted = few_tops a b fs c.counted;
  told = λ is. tops_told a b fs (c.told is);
}

-- reports

pub found_report : (a b : Outside) (faults : List Top) (memory : Bool) (report : Report) → report.faults ≡ faults → (report.status ≢ 3 → memory ≡ false) → Found a b faults memory → IsCaused a b report
found_report a b faults memory report same said h = record {
  later = h.later;
  each = subst (λ fs. All (HasCause a b) fs) (sym same) h.each;
  counted = subst (λ fs. AreFew a b fs) (sym same) h.counted;
  told = λ ne. subst (λ fs. AreTold a b fs) (sym same) (h.told (said ne));
}

-- a report without a fault, where nothing was at fault
pub good_report : (a b : Outside) (report : Report) → b ≡ a → report.faults ≡ [] → IsCaused a b report
good_report a b report same none = found_report a b [] false report none (λ ne. refl) (found_as a a b [] false same (record { later = later_here a; each = All-nil (HasCause a a); counted = few_none a; told = λ is. none_told a [] }))

-- a report for want of memory
pub wanting_report : (a b : Outside) (report : Report) → IsLater a b → report.faults ≡ [] → (report.status ≢ 3 → true ≡ false) → IsCaused a b report
wanting_report a b report later none said = found_report a b [] true report none said (record {
  later = later;
  each = All-nil (HasCause a b);
  counted = few_on a a b [] later (few_none a);
  told = λ is. absurd (false≢true (sym is));
})

-- a step that is followed by a report without a fault
pub good_step : (a b : Outside) (report : Report) → b ≡ a → report.faults ≡ [] → ReportStep a b (Ok report)
good_step a b report same none = good_report a b report same none

-- nothing was at fault before
pub caused_back : (a b c : Outside) (report : Report) → b ≡ a → IsCaused b c report → IsCaused a c report
caused_back a b c report same h = subst (λ x. IsCaused x c report) same h

-- a list that isn't given for want of memory
pub list_later : (a b : Counts) (out err : ℕ) → IsTreeAlone a b → HasStop (outside a out err) (outside b out err) stop.Memory
list_later a b out err h = record {
  counts = record { disk = omega (arith, h.disk); tree = h.tree; start = omega (arith, h.start); action = omega (arith, h.action) };
  out = omega arith;
  err = omega arith;
}

-- exits of looks
pub look_exit : {T : Type 0} (a b : Counts) (r : Result T Stop) (e : ListEnd) → IsErrAnd r (λ s. IsLateStop s × (s ≡ stop_of_list e)) → HasEndCause a b e → WorldStep a b r
look_exit a b (Ok value) e is h = absurd is
look_exit a b (Err s) e is h = look_stop a b e s is.1 h

pub look_exit_as : {T : Type 0} (a b : Counts) (r : Result T ListEnd) (e : ListEnd) → IsErrAnd r (λ x. x ≡ e) → HasEndCause a b e → HasLookCause a b r
look_exit_as a b (Ok value) e is h = absurd is
look_exit_as a b (Err x) e is h = subst (HasEndCause a b) (sym is) h

pub look_back : (a b c : Counts) (e : ListEnd) → b ≡ a → HasEndCause b c e → HasEndCause a c e
look_back a b c e same h = subst (λ x. HasEndCause x c e) same h

pub look_after : {T : Type 0} (a b c : Counts) (r : Result T ListEnd) → b ≡ a → HasLookCause b c r → HasLookCause a c r
look_after a b c r same h = subst (λ x. HasLookCause x c r) same h

-- a step with no call outside that ends for a stop of its own
pub inner_exit : {T : Type 0} (r : Result T Stop) → IsErrAnd r IsInside → InnerStep r
inner_exit (Ok value) is = absurd is
inner_exit (Err s) is = is

pub memory_inside : IsInside stop.Memory
memory_inside = λ counts. later_same counts counts refl

-- the top directory was named
pub top_named : {T : Type 0} (a b : Counts) (asked : Result T AskRefusal) (value : T) (r : Result (Unit {0}) Stop) → asked ≡ Ok value → r ≡ Ok tt → (asked ≢ Err ask.Fault → b ≡ a) → WorldStep a b r
top_named a b asked value r is said kept = subst (WorldStep a b) (sym said) (kept (λ other. let no = sym is ∙ other in cc))

-- or not, for want of memory
pub top_wanting : {T : Type 0} (a b : Counts) (asked : Result T AskRefusal) (why : AskRefusal) (r : Result (Unit {0}) Stop) → asked ≡ Err why → why ≡ ask.Memory → r ≡ Err stop.Memory → (asked ≢ Err ask.Fault → b ≡ a) → WorldStep a b r
top_wanting a b asked why r is so said kept = subst (WorldStep a b) (sym said) (later_same a b (kept (λ other. let no = sym (is ∙ ap Err so) ∙ other in cc)))

-- or not, since the file tree refused
pub top_refused : {T : Type 0} (a b : Counts) (asked : Result T AskRefusal) (why : AskRefusal) (r : Result (Unit {0}) Stop) (s : Stop) → asked ≡ Err why → why ≡ ask.Fault → r ≡ Err s → IsTopStop s → (asked ≡ Err ask.Fault → TreeFails a b) → WorldStep a b r
top_refused a b asked why r s is so said stops rose = subst (WorldStep a b) (sym said) (stops a b (rose (is ∙ ap Err so)))

-- the top that can't be named
pub memory_top : IsTopStop stop.Memory
memory_top = λ old new h. later_tree old new h

-- refused words
pub words_stop : (a : Outside) (e : WordsFault) → HasStop a a (stop_of_words e)
words_stop a (words_fault.At place kind) = record { counts = refl; out = refl; err = refl }
words_stop a words_fault.Memory = later_here a

-- what is so whatever came
pub on_err : {T E : Type 0} (P : Type 0) (r : Result T E) → P → OnErr r P
on_err P (Ok value) p = tt
on_err P (Err e) p = p

pub ruleset late = (memory_late, refused_late)

pub ruleset causing = (since_call, watches_same, watches_host, watches_look, watches_store, later_same, later_tree, later_disk, later_look, later_list, later_store, look_stop, inside, sink_memory, sink_refused, memory_late, refused_late, inner_memory)
