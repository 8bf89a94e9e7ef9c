use Rattle.std.proofs.Common.{arith, ◌≡◌, ◌<◌, ◌≤◌, ◌∙◌, ap, length, get_or, true, false, refl, sym, Some}
use Rattle.std.proofs.lemmas.Option.{slice_get_read, same_Some}
use Rattle.task_plan.specs.Settled.{kept_of, next_of}
use Rattle.task_plan.proofs.TrackLemmas.{tracked_at, tracked_take}
use Rattle.task_plan.proofs.NoteLemmas.{notes_unmarked, notes_past, notes_nothing, notes_file}
use Rattle.task_plan.proofs.WantLemmas.{kept_at}
use Rattle.task_plan.proofs.WatchScans.{notes_watch}
use Rattle.task_plan.proofs.OrderGrows.{takes_files}
use Rattle.task_plan.proofs.plan.Plan.note_found.Goals as goal

pub take-requires-clause-scanned : goal.take-requires-clause-scanned
take-requires-clause-scanned c =
    let i = c.self.inside in
    let within : c.args.rule.0 < length i.tasks.items = omega (arith, i.tasks.ok.0, c.len.ensures, c.if-number-len.false) in
    let at = slice_get_read i.tasks.items (length i.tasks.items) c.args.rule.0 c.index_mut.result.now refl within c.index_mut.ensures.value in
    (tracked_at i.states i.queue i.tasks.items i.files.origins.items i.scannable c.args.rule.0 c.index_mut.result.now c.self.invariant at).files

pub take-requires-clause-within : goal.take-requires-clause-within
take-requires-clause-within c =
    let i = c.self.inside in
    let within : c.args.rule.0 < length i.tasks.items = omega (arith, i.tasks.ok.0, c.len.ensures, c.if-number-len.false) in
    let at = slice_get_read i.tasks.items (length i.tasks.items) c.args.rule.0 c.index_mut.result.now refl within c.index_mut.ensures.value in
    (tracked_at i.states i.queue i.tasks.items i.files.origins.items i.scannable c.args.rule.0 c.index_mut.result.now c.self.invariant at).needs.within

pub take-requires-clause-listing : goal.take-requires-clause-listing
take-requires-clause-listing c =
    let i = c.self.inside in
    let within : c.args.rule.0 < length i.tasks.items = omega (arith, i.tasks.ok.0, c.len.ensures, c.if-number-len.false) in
    let at = slice_get_read i.tasks.items (length i.tasks.items) c.args.rule.0 c.index_mut.result.now refl within c.index_mut.ensures.value in
    (tracked_at i.states i.queue i.tasks.items i.files.origins.items i.scannable c.args.rule.0 c.index_mut.result.now c.self.invariant at).listing

pub invariant_of-self : goal.invariant_of-self
invariant_of-self c =
    let i = c.self.inside in
    let within : c.args.rule.0 < length i.tasks.items = omega (arith, i.tasks.ok.0, c.len.ensures, c.if-number-len.false) in
    let at = slice_get_read i.tasks.items (length i.tasks.items) c.args.rule.0 c.index_mut.result.now refl within c.index_mut.ensures.value in
    let is = c.contains.ensures in
    let not = c.if-not-contains.false in
    let marked : get_or i.scannable c.args.rule.0 false ≡ true = cc in
    rw c.put.ensures
    (tracked_take i.states i.queue i.tasks.items i.files.origins.items i.scannable c.args.rule.0 c.index_mut.result.now c.take.new.self at marked c.take.ensures.needs c.take.ensures.scanned c.take.ensures.listing c.self.invariant)

pub invariant_of-self-in-Some : goal.invariant_of-self-in-Some
invariant_of-self-in-Some c =
    let i = c.self.inside in
    let within : c.args.rule.0 < length i.tasks.items = omega (arith, i.tasks.ok.0, c.len.ensures, c.if-number-len.false) in
    let at = slice_get_read i.tasks.items (length i.tasks.items) c.args.rule.0 c.index_mut.result.now refl within c.index_mut.ensures.value in
    let is = c.contains.ensures in
    let not = c.if-not-contains.false in
    let marked : get_or i.scannable c.args.rule.0 false ≡ true = cc in
    rw c.put.ensures
    (tracked_take i.states i.queue i.tasks.items i.files.origins.items i.scannable c.args.rule.0 c.index_mut.result.now c.take.new.self at marked c.take.ensures.needs c.take.ensures.scanned c.take.ensures.listing c.self.invariant)

pub returns-then-not-contains-clause-notes : goal.returns-then-not-contains-clause-notes
returns-then-not-contains-clause-notes c =
    let i = c.self.inside in
    let is = c.contains.ensures in
    let not = c.if-not-contains.true in
    let unmarked : get_or i.scannable c.args.rule.0 false ≡ false = cc in
    rw (sym c.self.view_is) (notes_unmarked i.states i.queue i.halted i.tasks.items i.files.origins.items i.scannable i.files.waiters.items i.is_ordered i.roots.items c.args.rule.0 unmarked)

pub returns-then-number-len-clause-notes : goal.returns-then-number-len-clause-notes
returns-then-number-len-clause-notes c =
    let i = c.self.inside in
    let past : length i.tasks.items ≤ c.args.rule.0 = omega (arith, i.tasks.ok.0, c.len.ensures, c.if-number-len.true) in
    rw (sym c.self.view_is) (notes_past i.states i.queue i.halted i.tasks.items i.files.origins.items i.scannable i.files.waiters.items i.is_ordered i.roots.items c.args.rule.0 past)

pub returns-in-None-clause-notes : goal.returns-in-None-clause-notes
returns-in-None-clause-notes c =
    let i = c.self.inside in
    let within : c.args.rule.0 < length i.tasks.items = omega (arith, i.tasks.ok.0, c.len.ensures, c.if-number-len.false) in
    let read = slice_get_read i.tasks.items (length i.tasks.items) c.args.rule.0 c.index.result.now refl within c.index.ensures in
    rw (sym c.self.view_is)
    (notes_nothing i.states i.queue i.halted i.tasks.items i.files.origins.items i.scannable i.files.waiters.items i.is_ordered i.roots.items c.args.rule.0 c.index.result.now read (sym c.in-None.ensures))

pub returns-in_ok-take-in-Some-clause-notes : goal.returns-in_ok-take-in-Some-clause-notes
returns-in_ok-take-in-Some-clause-notes c =
    let i = c.self.inside in
    let within : c.args.rule.0 < length i.tasks.items = omega (arith, i.tasks.ok.0, c.len.ensures, c.if-number-len.false) in
    let at = slice_get_read i.tasks.items (length i.tasks.items) c.args.rule.0 c.index_mut.result.now refl within c.index_mut.ensures.value in
    let read = slice_get_read i.tasks.items (length i.tasks.items) c.args.rule.0 c.index.result.now refl within c.index.ensures in
    let same : c.index_mut.result.now ≡ c.index.result.now = same_Some _ _ (sym at ∙ read) in
    let next : next_of c.index_mut.result.now ≡ Some c.in-Some.node = ap next_of same ∙ sym c.in-Some.ensures in
    let is = c.contains.ensures in
    let not = c.if-not-contains.false in
    let marked : get_or i.scannable c.args.rule.0 false ≡ true = cc in
    rw (sym c.self.view_is, c.put.ensures)
    (notes_file i.states i.queue i.halted i.tasks.items i.files.origins.items i.scannable i.files.waiters.items i.is_ordered i.roots.items c.args.rule.0 c.index_mut.result.now c.take.new.self c.in-Some.node c.args.found.items at marked next
    (c.self.invariant.marked c.args.rule.0 marked).waits c.take.ensures.names c.in_ok-take-in-Some.ensures.takes)

pub returns-in_ok-take-in-Some-clause-news : goal.returns-in_ok-take-in-Some-clause-news
returns-in_ok-take-in-Some-clause-news c =
    let i = c.self.inside in
    let within : c.args.rule.0 < length i.tasks.items = omega (arith, i.tasks.ok.0, c.len.ensures, c.if-number-len.false) in
    let at = slice_get_read i.tasks.items (length i.tasks.items) c.args.rule.0 c.index_mut.result.now refl within c.index_mut.ensures.value in
    rw (sym c.self.view_is) (record { kept = kept_of c.index_mut.result.now; at = kept_at i.tasks.items c.args.rule.0 c.index_mut.result.now at; is = c.in_ok-take-in-Some.ensures.news })

pub returns-in_ok-take-in-Some-clause-watch : goal.returns-in_ok-take-in-Some-clause-watch
returns-in_ok-take-in-Some-clause-watch c =
    let i = c.self.inside in
    let within : c.args.rule.0 < length i.tasks.items = omega (arith, i.tasks.ok.0, c.len.ensures, c.if-number-len.false) in
    let at = slice_get_read i.tasks.items (length i.tasks.items) c.args.rule.0 c.index_mut.result.now refl within c.index_mut.ensures.value in
    let is = c.contains.ensures in
    let not = c.if-not-contains.false in
    let marked : get_or i.scannable c.args.rule.0 false ≡ true = cc in
    let k = c.in_ok-take-in-Some.ensures in
    rw (sym c.self.view_is, c.put.ensures)
    (notes_watch i.states i.queue i.halted i.tasks.items i.files.origins.items i.scannable i.files.waiters.items i.is_ordered i.roots.items c.args.rule.0 c.index_mut.result.now c.take.new.self c.in-Some.node c.args.found.items _ at marked c.self.invariant c.take.ensures.names k.takes c.take.ensures.listing k.unscanned k.seen k.news)

pub returns-in_ok-take-in-Some-clause-files : goal.returns-in_ok-take-in-Some-clause-files
returns-in_ok-take-in-Some-clause-files c =
    let i = c.self.inside in
    let within : c.args.rule.0 < length i.tasks.items = omega (arith, i.tasks.ok.0, c.len.ensures, c.if-number-len.false) in
    let at = slice_get_read i.tasks.items (length i.tasks.items) c.args.rule.0 c.index_mut.result.now refl within c.index_mut.ensures.value in
    rw (sym c.self.view_is, c.put.ensures)
    (takes_files i.states i.queue i.halted i.tasks.items i.files.origins.items i.scannable i.files.waiters.items i.is_ordered i.roots.items c.args.rule.0 c.index_mut.result.now c.take.new.self _ _ at
    c.take.ensures.names c.in_ok-take-in-Some.ensures.behind)
