-- How the faults of a run are put together as it ends: what was at fault is told by its report.
use Rattle.std.proofs.Common.{◌≡◌, ◌≢◌, ◌∙◌, sym, subst, refl, ap, ℕ, List, [], ◌∷◌, ◌++◌, true, false, Bool, map, Contains, append_assoc, append-nil}
use Rattle.std.specs.Prelude.{◌||◌, All, Result, Ok, Err, OnOk, OnErr, IsErrAnd}
use Rattle.std.proofs.lemmas.Bool.{false≢true}
use Rattle.std.proofs.lemmas.List.Elements.{All-push, All-weaker, All-contains, All-contains_itself, Contains-append_left, Contains-push}
use Rattle.scons_base.specs.Rising.{Rose}
use Rattle.world_api.specs.Counts.{Counts}
use Rattle.world_api.specs.Printed.{SinkMeaning}
use Rattle.world_api.specs.Printing.{Prints, Cuts}
use Rattle.world_api.specs.declared.refusal.Fault.{Fault}
use Rattle.rule_graph.specs.declared.build_fault.BuildFault.{BuildFault}
use Rattle.rule_graph.specs.declared.build_fault.BuildFault.TheVariants as fault
use Rattle.build_run.specs.Causes.{Outside, outside, AreCounted}
use Rattle.scons_top.specs.declared.report.Report.{Report}
use Rattle.scons_top.specs.declared.report.Top.{Top}
use Rattle.scons_top.specs.declared.report.Top.TheVariants as top
use Rattle.scons_top.specs.declared.stop.Stop.{Stop}
use Rattle.scons_top.specs.declared.stop.Stop.TheVariants as stop
use Rattle.scons_top.specs.Causes.{HasCause, AreTold}
use Rattle.scons_top.specs.Stops.{top_of, HasWorldCause, SinkStep, ReportStep}
use Rattle.scons_top.specs.Counted.{AreFew}
use Rattle.scons_top.specs.Endings.{Found, ErrFinds, ErrReports, ErrEnds, AddsFew, AddsStopped, AddsUnwritten, AddsUnprinted, Closes}
use Rattle.scons_top.proofs.Counting.{built_tops, few_within}
use Rattle.scons_top.proofs.Causing.{found_as, found_list, found_wanting, found_dropped, found_err, found_out, stop_found, world_found, found_report, wanting_report, exit_report}

module _ {E : Type 0} (e : SinkMeaning E) where
  -- a fault that isn't kept, for want of memory
  pub finds_dropped : (err : E) (f : Top) (old new : List Top) → new ≡ old → ErrFinds e err err (old ++ f ∷ []) new true
  finds_dropped err f old new same = λ start counts out h. found_list start (outside counts out (e.faults err)) old new true same (found_dropped start (outside counts out (e.faults err)) old f false h)

  -- a fault that isn't printed, for want of memory
  pub finds_wanting : (err : E) (old new : List Top) → new ≡ old → ErrFinds e err err old new true
  finds_wanting err old new same = λ start counts out h. found_list start (outside counts out (e.faults err)) old new true same (found_wanting start (outside counts out (e.faults err)) old false h)

  -- a fault that is printed
  pub finds_printed : (err err2 : E) (old new : List Top) → e.faults err2 ≡ e.faults err → new ≡ old → ErrFinds e err err2 old new false
  finds_printed err err2 old new well same = λ start counts out h.
      found_list start (outside counts out (e.faults err2)) old new false same
      (found_as start (outside counts out (e.faults err)) (outside counts out (e.faults err2)) old false (ap (λ x. outside counts out x) well) h)

  -- a fault at whose print standard error refused
  pub finds_refused : (err err2 : E) (old new : List Top) → Rose (e.faults err) (e.faults err2) → new ≡ old ++ top.OutFault ∷ [] → ErrFinds e err err2 old new false
  finds_refused err err2 old new rose same = λ start counts out h.
      found_list start (outside counts out (e.faults err2)) (old ++ top.OutFault ∷ []) new false same (found_err start counts out (e.faults err) (e.faults err2) old false rose h)

  -- the same, where that isn't kept for want of memory
  pub finds_refused_dropped : (err err2 : E) (old new : List Top) → Rose (e.faults err) (e.faults err2) → new ≡ old → ErrFinds e err err2 old new true
  finds_refused_dropped err err2 old new rose same = λ start counts out h.
      found_list start (outside counts out (e.faults err2)) old new true same
      (found_dropped start (outside counts out (e.faults err2)) old top.OutFault false (found_err start counts out (e.faults err) (e.faults err2) old false rose h))

  -- the report of the one fault for which a run stops
  pub reports_kept : (f : Top) (err err2 : E) (old new : List Top) (report : Report) (memory : Bool) → old ≡ [] → ErrFinds e err err2 (old ++ f ∷ []) new memory
      → report.faults ≡ new → (report.status ≢ 3 → memory ≡ false) → ErrReports e f err err2 report
  reports_kept f err err2 old new report memory none finds same said = λ start counts out h.
      let first : Found start (outside counts out (e.faults err)) (old ++ f ∷ []) false =
      subst (λ (fs : List Top). Found start (outside counts out (e.faults err)) (fs ++ f ∷ []) false) (sym none) (stop_found start (outside counts out (e.faults err)) f h) in
      found_report start (outside counts out (e.faults err2)) new memory report same said (finds start counts out first)

  -- a fault of a build by its name in a report
  pub reports_as : (f g : Top) (err err2 : E) (report : Report) → g ≡ f → ErrReports e g err err2 report → ErrReports e f err err2 report
  reports_as f g err err2 report same h = subst (λ x. ErrReports e x err err2 report) same h

  -- the report of a run that stops for want of memory
  pub ends_wanting : (err : E) (report : Report) → report.faults ≡ [] → (report.status ≢ 3 → true ≡ false) → ErrEnds e stop.Memory err err report
  ends_wanting err report none said = λ start counts out h. wanting_report start (outside counts out (e.faults err)) report h none said

-- faults of a build put behind others

map_same : (ys : List BuildFault) → map (λ y. y) ys ≡ ys
map_same [] = refl
map_same (y ∷ ys) = ap (λ zs. y ∷ zs) (map_same ys)

map_pushed : (ys : List BuildFault) (f : BuildFault) → map top_of (ys ++ f ∷ []) ≡ map top_of ys ++ top_of f ∷ []
map_pushed [] f = refl
map_pushed (y ∷ ys) f = ap (λ zs. top_of y ∷ zs) (map_pushed ys f)

one_more : (old : List Top) (ys : List BuildFault) (f : BuildFault) → old ++ map top_of (ys ++ f ∷ []) ≡ (old ++ map top_of ys) ++ top_of f ∷ []
one_more old ys f = ap (λ zs. old ++ zs) (map_pushed ys f) ∙ sym (append_assoc old (map top_of ys) (top_of f ∷ []))

pub all_added : (old faults new : List Top) (ys : List BuildFault) (f : BuildFault) (t : Top) → t ≡ top_of f → new ≡ faults ++ t ∷ [] → faults ≡ old ++ map top_of ys → new ≡ old ++ map top_of (ys ++ f ∷ [])
all_added old faults new ys f t is more so = more ∙ (ap (λ x. faults ++ x ∷ []) is ∙ (ap (λ xs. xs ++ top_of f ∷ []) so ∙ sym (one_more old ys f)))

-- what was among them is so with one more
still : (old : List Top) (ys : List BuildFault) (f : BuildFault) (x : Top) → Contains (old ++ map top_of ys) x → Contains (old ++ map top_of (ys ++ f ∷ [])) x
still old ys f x h = subst (λ (xs : List Top). Contains xs x) (sym (one_more old ys f)) (Contains-append_left (old ++ map top_of ys) (top_of f ∷ []) x h)

last : (old : List Top) (ys : List BuildFault) (f : BuildFault) → Contains (old ++ map top_of (ys ++ f ∷ [])) (top_of f)
last old ys f = subst (λ (xs : List Top). Contains xs (top_of f)) (sym (one_more old ys f)) (Contains-push (old ++ map top_of ys) (top_of f))

pub none_added : (old : List Top) → All (Contains (old ++ [])) old
none_added old = subst (λ (xs : List Top). All (Contains xs) old) (sym (append-nil old)) (All-contains_itself old)

pub each_added : (old faults new : List Top) (ys : List BuildFault) (f : BuildFault) (t : Top) (lost : Bool) → t ≡ top_of f → (lost ≡ false → new ≡ faults ++ t ∷ []) → (lost ≡ true → new ≡ faults)
    → All (Contains (old ++ map top_of ys)) faults → All (Contains (old ++ map top_of (ys ++ f ∷ []))) new
each_added old faults new ys f t true is more kept each =
    subst (λ (xs : List Top). All (Contains (old ++ map top_of (ys ++ f ∷ []))) xs) (sym (kept refl)) (All-weaker (Contains (old ++ map top_of ys)) (Contains (old ++ map top_of (ys ++ f ∷ []))) (still old ys f) faults each)
each_added old faults new ys f t false is more kept each =
    let all = old ++ map top_of (ys ++ f ∷ []) in
    let wider = All-weaker (Contains (old ++ map top_of ys)) (Contains all) (still old ys f) faults each in
    subst (λ (xs : List Top). All (Contains all) xs) (sym (more refl)) (All-push (Contains all) faults t wider (subst (Contains all) (sym is) (last old ys f)))

-- all of them
pub whole : (xs all : List BuildFault) → map (λ y. y) xs ≡ all → xs ≡ all
whole xs all same = sym (map_same xs) ∙ same

pub unwritten : (s : Stop) (old new : List Top) (lost : Bool) → s ≢ stop.Memory → (lost ≡ false → new ≡ old ++ top.OutFault ∷ []) → (lost ≡ true → new ≡ old) → AddsStopped s old new lost
unwritten (stop.Fault f) old new lost not added kept = (added, kept)
unwritten (stop.Build f) old new lost not added kept = (added, kept)
unwritten stop.Memory old new lost not added kept = absurd (not refl)

pub unwritten_lost : (s : Stop) (old : List Top) → s ≡ stop.Memory → AddsStopped s old old true
unwritten_lost s old is = subst (λ x. AddsStopped x old old true) (sym is) (refl, refl)

-- whether memory was wanting

or_false : (a b : Bool) → (a || b) ≡ false → (a ≡ false) × (b ≡ false)
or_false true b is = absurd (false≢true (sym is))
or_false false b is = (refl, is)

both_false : (a b : Bool) → a ≡ false → b ≡ false → (a || b) ≡ false
both_false a b first second = ap (λ x. x || b) first ∙ second

found_or : (start now : Outside) (faults : List Top) (memory more : Bool) → Found start now faults memory → Found start now faults (memory || more)
found_or start now faults memory more h = record { later = h.later; each = h.each; counted = h.counted; told = λ is. h.told (or_false memory more is).0 }

found_lost : (start now : Outside) (faults : List Top) (memory : Bool) → Found start now faults true → Found start now faults (memory || true)
found_lost start now faults memory h = record { later = h.later; each = h.each; counted = h.counted; told = λ is. absurd (false≢true (sym (or_false memory true is).1)) }

-- the faults of a build, of which some may be lost
taken : (start now : Outside) (all none first : List Top) (memory lacks : Bool) → none ≡ [] → (lacks ≡ false → first ≡ none ++ all) → All (Contains (none ++ all)) first → AreFew start now first
    → Found start now all memory → Found start now first (memory || lacks)
taken start now all none first memory lacks is added each few h = record {
  later = h.later;
  each = All-weaker (Contains (none ++ all)) (HasCause start now) (λ x has. All-contains (HasCause start now) all x h.each (subst (λ (fs : List Top). Contains (fs ++ all) x) is has)) first each;
  counted = few;
  told = λ no.
      let t = or_false memory lacks no in
      subst (λ (fs : List Top). AreTold start now fs) (sym (added t.1 ∙ ap (λ (fs : List Top). fs ++ all) is)) (h.told t.0);
}

-- with the last line, written or not
out_end : (start : Outside) (counts : Counts) (out new_out err : ℕ) (f : BuildFault) (first last : List Top) (memory lost : Bool)
    → (lost ≡ false → last ≡ first ++ top.OutFault ∷ []) × (lost ≡ true → last ≡ first) → SinkStep {T = Unit {0}} out new_out (Err (stop.Build f))
    → Found start (outside counts out err) first memory → Found start (outside counts new_out err) last (memory || lost)
out_end start counts out new_out err (fault.Missing node target) first last memory lost adds step h = absurd step
out_end start counts out new_out err (fault.Cycle paths) first last memory lost adds step h = absurd step
out_end start counts out new_out err (fault.ActionFailed target code) first last memory lost adds step h = absurd step
out_end start counts out new_out err (fault.TreeFault path) first last memory lost adds step h = absurd step
out_end start counts out new_out err (fault.StartFault target) first last memory lost adds step h = absurd step
out_end start counts out new_out err fault.StoreFault first last memory lost adds step h = absurd step
out_end start counts out new_out err fault.OutFault first last memory true adds step h =
    let now = outside counts new_out err in
    let all = found_out start counts out new_out err first memory step h in
    found_lost start now last memory (found_list start now first last true (adds.1 refl) (found_dropped start now first top.OutFault memory all))
out_end start counts out new_out err fault.OutFault first last memory false adds step h =
    let now = outside counts new_out err in
    let all = found_out start counts out new_out err first memory step h in
    found_or start now last memory false (found_list start now (first ++ top.OutFault ∷ []) last memory (adds.0 refl) all)
out_end start counts out new_out err (fault.TooLarge path size) first last memory lost adds step h = absurd step
out_end start counts out new_out err (fault.TooMany what count) first last memory lost adds step h = absurd step

with_last : (start : Outside) (counts : Counts) (out new_out err : ℕ) (written : Result (Unit {0}) Stop) (first last : List Top) (memory lost : Bool)
    → AddsUnwritten written first last lost → SinkStep out new_out written
    → Found start (outside counts out err) first memory → Found start (outside counts new_out err) last (memory || lost)
with_last start counts out new_out err (Ok value) first last memory lost adds step h =
    let now = outside counts new_out err in
    found_or start now last memory lost (found_list start now first last memory adds.0 (found_as start (outside counts out err) now first memory (ap (λ o. outside counts o err) step) h))
with_last start counts out new_out err (Err (stop.Fault f)) first last memory lost adds step h = absurd step
with_last start counts out new_out err (Err (stop.Build f)) first last memory lost adds step h = out_end start counts out new_out err f first last memory lost adds step h
with_last start counts out new_out err (Err stop.Memory) first last memory lost adds step h =
    let now = outside counts new_out err in
    let same = found_list start now first last memory adds.0 (found_as start (outside counts out err) now first memory (ap (λ o. outside counts o err) step) h) in
    subst (λ b. Found start now last (memory || b)) (sym adds.1) (found_lost start now last memory (found_wanting start now last memory same))

-- the report of a build or of a list
pub closes : (found : List BuildFault) (none first last : List Top) (memory lacks lost : Bool) (written : Result (Unit {0}) Stop) (report : Report)
    → none ≡ [] → (lacks ≡ false → first ≡ none ++ map top_of found) → All (Contains (none ++ map top_of found)) first → AddsFew found none first
    → AddsUnwritten written first last lost → report.faults ≡ last → (report.status ≢ 3 → (memory ≡ false) × (lacks ≡ false) × (lost ≡ false))
    → Closes found memory written report
closes found none first last memory lacks lost written report is added each fewer adds same said = λ start counts out new_out err h step.
    let now = outside counts out err in
    let few = few_within start now first found (subst (λ (fs : List Top). AddsFew found fs first) is fewer)
    (subst (λ (fs : List BuildFault). AreCounted start now fs) (built_tops found) h.counted) in
    let one = taken start now (map top_of found) none first memory lacks is added each few h in
    let two = with_last start counts out new_out err written first last (memory || lacks) lost adds step one in
    found_report start (outside counts new_out err) last ((memory || lacks) || lost) report same
    (λ no. let f = said no in both_false (memory || lacks) lost (both_false memory lacks f.0 f.1) f.2) two

-- the fault for which a list isn't given, printed or not
pub listed : {E : Type 0} (e : SinkMeaning E) (start : Outside) (counts : Counts) (out : ℕ) (err err2 : E) (text : List ℕ) (f : BuildFault) (none first faults : List BuildFault) (lost : Bool) (printed : Result (Unit {0}) Fault)
    → none ≡ [] → first ≡ none ++ f ∷ [] → OnOk printed (Prints e err err2 text) → OnErr printed (Cuts e err err2 text) → AddsUnprinted printed first faults lost
    → Found start (outside counts out (e.faults err)) (top_of f ∷ []) false → Found start (outside counts out (e.faults err2)) (map top_of faults) lost
listed e start counts out err err2 text f none first faults lost (Ok value) empty is well cut adds h =
    let now = outside counts out (e.faults err2) in
    let one : first ≡ f ∷ [] = is ∙ ap (λ (xs : List BuildFault). xs ++ f ∷ []) empty in
    let same = found_as start (outside counts out (e.faults err)) now (top_of f ∷ []) false (ap (λ x. outside counts out x) well.faults) h in
    subst (λ b. Found start now (map top_of faults) b) (sym adds.1) (found_list start now (top_of f ∷ []) (map top_of faults) false (ap (λ (xs : List BuildFault). map top_of xs) (adds.0 ∙ one)) same)
listed e start counts out err err2 text f none first faults true (Err refused) empty is well cut adds h =
    let now = outside counts out (e.faults err2) in
    let one : first ≡ f ∷ [] = is ∙ ap (λ (xs : List BuildFault). xs ++ f ∷ []) empty in
    let all = found_err start counts out (e.faults err) (e.faults err2) (top_of f ∷ []) false cut.faults h in
    found_list start now (top_of f ∷ []) (map top_of faults) true (ap (λ (xs : List BuildFault). map top_of xs) (adds.1 refl ∙ one)) (found_dropped start now (top_of f ∷ []) top.OutFault false all)
listed e start counts out err err2 text f none first faults false (Err refused) empty is well cut adds h =
    let now = outside counts out (e.faults err2) in
    let one : first ≡ f ∷ [] = is ∙ ap (λ (xs : List BuildFault). xs ++ f ∷ []) empty in
    let two : faults ≡ f ∷ fault.OutFault ∷ [] = adds.0 refl ∙ ap (λ (xs : List BuildFault). xs ++ fault.OutFault ∷ []) one in
    let all = found_err start counts out (e.faults err) (e.faults err2) (top_of f ∷ []) false cut.faults h in
    found_list start now (top_of f ∷ top.OutFault ∷ []) (map top_of faults) false (ap (λ (xs : List BuildFault). map top_of xs) two) all

-- want of memory before anything was printed
pub list_wanting : (old new : Counts) (out err : ℕ) (f : BuildFault) (r : Result Report Stop) → HasWorldCause old new (top_of f) → IsErrAnd r (λ s. s ≡ stop.Memory) → ReportStep (outside old out err) (outside new out err) r
list_wanting old new out err f r h is = exit_report (outside old out err) (outside new out err) r stop.Memory is (world_found old new out err f h).later
