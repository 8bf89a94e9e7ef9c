use Rattle.std.proofs.Common.{ap, sym, subst, ◌∙◌}
use Rattle.std.specs.Prelude.{IfOk}
use Rattle.world_api.specs.Banks.{Banks}
use Rattle.sign_store.specs.declared.refusals.StoreRefusal.TheVariants as refusal
use Rattle.sign_store.specs.Beginnings.{IsBegunOver}
use Rattle.sign_store.specs.Ends.{image_in}
use Rattle.sign_store.specs.Readings.{AreReadable, choice_of}
use Rattle.sign_store.proofs.OpenLemmas.{seen_kept, seen_read, image_kept, left_before, left_then, still_reads, none_endures, none_opened, live_endures, left_read, if_left_read, left_outside, begun_first, begun_live, readable_none, readable_live, refused_outside, counted_after, are_small, size_is, size_small}
use Rattle.sign_store.proofs.opening.open.Goals as goal

-- ---- where the sync or the look was refused

pub returns-in_err-settle-clause-moments : goal.returns-in_err-settle-clause-moments
returns-in_err-settle-clause-moments g c = left_before g.W.Disk.meaning c.args.world.now c.settle.new.world (image_in (g.W.Disk.meaning.seen c.args.world.now)) c.settle.ensures.moments

pub returns-in_err-settle-clause-reads : goal.returns-in_err-settle-clause-reads
returns-in_err-settle-clause-reads g c = image_kept g.W.Disk.meaning c.args.world.now c.settle.new.world c.settle.ensures.banks

pub returns-in_err-sizes-clause-moments : goal.returns-in_err-sizes-clause-moments
returns-in_err-sizes-clause-moments g c =
    let m = g.W.Disk.meaning in
    let map = image_in (m.seen c.args.world.now) in
    left_then m c.args.world.now c.settle.new.world c.look.new.world map (g.met.W.Disk.only_now c.settle.new.world) c.settle.ensures.moments c.in_ok-settle.ensures.rest
    (image_kept m c.args.world.now c.settle.new.world c.settle.ensures.banks) (c.look.ensures.looks.moments (m.around c.args.world.now) map)

pub returns-in_err-sizes-clause-reads : goal.returns-in_err-sizes-clause-reads
returns-in_err-sizes-clause-reads g c = λ told.
    let m = g.W.Disk.meaning in
    let looks = c.look.ensures.looks in
    ap image_in (seen_read m c.settle.new.world c.look.new.world looks told) ∙ image_kept m c.args.world.now c.settle.new.world c.settle.ensures.banks (looks.told.told told)

pub returns-in_err-sizes-clause-left : goal.returns-in_err-sizes-clause-left
returns-in_err-sizes-clause-left g c = λ told.
    let m = g.W.Disk.meaning in
    if_left_read m c.args.world.now c.settle.new.world c.look.new.world (m.around c.args.world.now) c.from_residual-in_err-sizes.result c.settle.ensures.banks c.in_ok-settle.ensures.rest c.look.ensures.looks told

-- ---- where no bank counts

pub returns-in-None-clause-moments : goal.returns-in-None-clause-moments
returns-in-None-clause-moments g c =
    let m = g.W.Disk.meaning in
    let map = image_in (m.seen c.args.world.now) in
    let is = image_kept m c.args.world.now c.settle.new.world c.settle.ensures.banks in
    left_then m c.args.world.now c.settle.new.world c.start.new.world map (g.met.W.Disk.only_now c.settle.new.world) c.settle.ensures.moments c.in_ok-settle.ensures.rest is
    (none_endures m c.settle.new.world c.look.new.world c.start.new.world (m.around c.args.world.now) map c.look.ensures.looks c.in_ok-settle.ensures.rest is (λ told. sym (c.in_ok-sizes.ensures.choice told) ∙ c.in-None.is) c.start.ensures.told.told c.start.ensures.moments)

pub returns-in-None-clause-opened : goal.returns-in-None-clause-opened
returns-in-None-clause-opened g c =
    let m = g.W.Disk.meaning in
    let is = image_kept m c.args.world.now c.settle.new.world c.settle.ensures.banks in
    none_opened m c.settle.new.world c.look.new.world c.start.new.world (m.around c.args.world.now) (image_in (m.seen c.args.world.now)) c.start.result c.look.ensures.looks c.in_ok-settle.ensures.rest is
    (λ told. sym (c.in_ok-sizes.ensures.choice told) ∙ c.in-None.is) c.start.ensures.told.told c.start.ensures.opened

pub returns-in-None-clause-reads : goal.returns-in-None-clause-reads
returns-in-None-clause-reads g c =
    let m = g.W.Disk.meaning in
    let map = image_in (m.seen c.args.world.now) in
    let is = image_kept m c.args.world.now c.settle.new.world c.settle.ensures.banks in
    still_reads m c.settle.new.world c.start.new.world (m.around c.args.world.now) map (g.met.W.Disk.only_now c.settle.new.world) c.in_ok-settle.ensures.rest is
    (none_endures m c.settle.new.world c.look.new.world c.start.new.world (m.around c.args.world.now) map c.look.ensures.looks c.in_ok-settle.ensures.rest is (λ told. sym (c.in_ok-sizes.ensures.choice told) ∙ c.in-None.is) c.start.ensures.told.told c.start.ensures.moments)
    (g.met.W.Disk.reads_as c.start.new.world)

pub returns-in-None-clause-left : goal.returns-in-None-clause-left
returns-in-None-clause-left g c = λ told.
    let m = g.W.Disk.meaning in
    left_outside m c.args.world.now c.settle.new.world c.look.new.world c.start.new.world (m.around c.args.world.now) c.start.result c.in_ok-settle.ensures.rest c.look.ensures.looks c.start.ensures.told.told c.start.ensures.refused c.start.ensures.rests told

pub returns-in-None-clause-begun : goal.returns-in-None-clause-begun
returns-in-None-clause-begun g c = λ late.
    let m = g.W.Disk.meaning in
    let told = c.start.ensures.told.told late in
    let looks = c.look.ensures.looks in
    let seen = seen_read m c.settle.new.world c.look.new.world looks told ∙ seen_kept m c.args.world.now c.settle.new.world c.settle.ensures.banks (looks.told.told told) in
    begun_first (m.seen c.args.world.now) c.start.result (ap choice_of (sym seen) ∙ sym (c.in_ok-sizes.ensures.choice told) ∙ c.in-None.is) c.start.ensures.first

pub returns-in-None-clause-readable : goal.returns-in-None-clause-readable
returns-in-None-clause-readable g c = λ late.
    let m = g.W.Disk.meaning in
    let told = c.start.ensures.told.told late in
    let looks = c.look.ensures.looks in
    subst (λ (s : Banks). IfOk c.start.result (λ _. AreReadable s)) (seen_read m c.settle.new.world c.look.new.world looks told ∙ seen_kept m c.args.world.now c.settle.new.world c.settle.ensures.banks (looks.told.told told))
    (readable_none (m.seen c.look.new.world) c.start.result (are_small (m.seen c.look.new.world) c.in_ok-sizes.sizes.a c.in_ok-sizes.sizes.b (c.in_ok-sizes.ensures.a told) (c.in_ok-sizes.ensures.b told) c.in_ok-sizes.ensures.small)
    (sym (c.in_ok-sizes.ensures.choice told) ∙ c.in-None.is))

pub returns-in-None-clause-refused : goal.returns-in-None-clause-refused
returns-in-None-clause-refused g c = λ late. refused_outside (g.W.Disk.meaning.seen c.args.world.now) c.start.result c.start.ensures.refused

-- ---- where a bank is foreign

pub returns-in-Foreign-clause-moments : goal.returns-in-Foreign-clause-moments
returns-in-Foreign-clause-moments g c =
    let m = g.W.Disk.meaning in
    let map = image_in (m.seen c.args.world.now) in
    left_then m c.args.world.now c.settle.new.world c.look.new.world map (g.met.W.Disk.only_now c.settle.new.world) c.settle.ensures.moments c.in_ok-settle.ensures.rest
    (image_kept m c.args.world.now c.settle.new.world c.settle.ensures.banks) (c.look.ensures.looks.moments (m.around c.args.world.now) map)

pub returns-in-Foreign-clause-reads : goal.returns-in-Foreign-clause-reads
returns-in-Foreign-clause-reads g c = λ told.
    let m = g.W.Disk.meaning in
    let looks = c.look.ensures.looks in
    ap image_in (seen_read m c.settle.new.world c.look.new.world looks told) ∙ image_kept m c.args.world.now c.settle.new.world c.settle.ensures.banks (looks.told.told told)

pub returns-in-Foreign-clause-left : goal.returns-in-Foreign-clause-left
returns-in-Foreign-clause-left g c = λ told.
    let m = g.W.Disk.meaning in
    left_read m c.args.world.now c.settle.new.world c.look.new.world (m.around c.args.world.now) (refusal.Foreign c.in-Foreign.bank) c.settle.ensures.banks c.in_ok-settle.ensures.rest c.look.ensures.looks told

-- ---- where a bank counts

pub returns-in-Live-clause-moments : goal.returns-in-Live-clause-moments
returns-in-Live-clause-moments g c =
    let m = g.W.Disk.meaning in
    let map = image_in (m.seen c.args.world.now) in
    let is = image_kept m c.args.world.now c.settle.new.world c.settle.ensures.banks in
    left_then m c.args.world.now c.settle.new.world c.reopen.new.world map (g.met.W.Disk.only_now c.settle.new.world) c.settle.ensures.moments c.in_ok-settle.ensures.rest is
    (live_endures m c.settle.new.world c.look.new.world c.reopen.new.world c.in-Live.bank c.in-Live.edition (m.around c.args.world.now) map c.look.ensures.looks c.in_ok-settle.ensures.rest is (λ told. sym (c.in_ok-sizes.ensures.choice told) ∙ c.in-Live.is) c.reopen.ensures.moments)

pub returns-in-Live-clause-opened : goal.returns-in-Live-clause-opened
returns-in-Live-clause-opened g c =
    let m = g.W.Disk.meaning in
    let map = image_in (m.seen c.args.world.now) in
    c.reopen.ensures.opened (m.around c.args.world.now) map
    (counted_after m c.settle.new.world c.look.new.world c.in-Live.bank (m.around c.args.world.now) map c.in-Live.edition c.look.ensures.looks c.in_ok-settle.ensures.rest (image_kept m c.args.world.now c.settle.new.world c.settle.ensures.banks) (λ told. sym (c.in_ok-sizes.ensures.choice told) ∙ c.in-Live.is))

pub returns-in-Live-clause-reads : goal.returns-in-Live-clause-reads
returns-in-Live-clause-reads g c =
    let m = g.W.Disk.meaning in
    let map = image_in (m.seen c.args.world.now) in
    let is = image_kept m c.args.world.now c.settle.new.world c.settle.ensures.banks in
    still_reads m c.settle.new.world c.reopen.new.world (m.around c.args.world.now) map (g.met.W.Disk.only_now c.settle.new.world) c.in_ok-settle.ensures.rest is
    (live_endures m c.settle.new.world c.look.new.world c.reopen.new.world c.in-Live.bank c.in-Live.edition (m.around c.args.world.now) map c.look.ensures.looks c.in_ok-settle.ensures.rest is (λ told. sym (c.in_ok-sizes.ensures.choice told) ∙ c.in-Live.is) c.reopen.ensures.moments)
    (g.met.W.Disk.reads_as c.reopen.new.world)

pub returns-in-Live-clause-left : goal.returns-in-Live-clause-left
returns-in-Live-clause-left g c = λ told.
    let m = g.W.Disk.meaning in
    left_outside m c.args.world.now c.settle.new.world c.look.new.world c.reopen.new.world (m.around c.args.world.now) c.reopen.result c.in_ok-settle.ensures.rest c.look.ensures.looks c.reopen.ensures.told.told c.reopen.ensures.refused c.reopen.ensures.rests told

pub returns-in-Live-clause-begun : goal.returns-in-Live-clause-begun
returns-in-Live-clause-begun g c = λ late.
    let m = g.W.Disk.meaning in
    let told = c.reopen.ensures.told.told late in
    let looks = c.look.ensures.looks in
    let counts = sym (c.in_ok-sizes.ensures.choice told) ∙ c.in-Live.is in
    subst (λ (s : Banks). IfOk c.reopen.result (λ after. IsBegunOver s after.map after.bank after.end)) (seen_read m c.settle.new.world c.look.new.world looks told ∙ seen_kept m c.args.world.now c.settle.new.world c.settle.ensures.banks (looks.told.told told))
    (begun_live (m.seen c.look.new.world) c.in-Live.bank c.in-Live.edition c.reopen.result counts (c.reopen.ensures.over late counts))

pub returns-in-Live-clause-readable : goal.returns-in-Live-clause-readable
returns-in-Live-clause-readable g c = λ late.
    let m = g.W.Disk.meaning in
    let told = c.reopen.ensures.told.told late in
    let looks = c.look.ensures.looks in
    subst (λ (s : Banks). IfOk c.reopen.result (λ _. AreReadable s)) (seen_read m c.settle.new.world c.look.new.world looks told ∙ seen_kept m c.args.world.now c.settle.new.world c.settle.ensures.banks (looks.told.told told))
    (readable_live (m.seen c.look.new.world) c.reopen.result c.in-Live.bank c.in-Live.edition (are_small (m.seen c.look.new.world) c.in_ok-sizes.sizes.a c.in_ok-sizes.sizes.b (c.in_ok-sizes.ensures.a told) (c.in_ok-sizes.ensures.b told) c.in_ok-sizes.ensures.small)
    (sym (c.in_ok-sizes.ensures.choice told) ∙ c.in-Live.is))

pub returns-in-Live-clause-refused : goal.returns-in-Live-clause-refused
returns-in-Live-clause-refused g c = λ late. refused_outside (g.W.Disk.meaning.seen c.args.world.now) c.reopen.result c.reopen.ensures.refused

pub reopen-requires-clause-size : goal.reopen-requires-clause-size
reopen-requires-clause-size g c = λ told.
    size_is (g.W.Disk.meaning.seen c.look.new.world) c.in-Live.bank c.in_ok-sizes.sizes.a c.in_ok-sizes.sizes.b c.size_of.result (c.in_ok-sizes.ensures.a told) (c.in_ok-sizes.ensures.b told) c.size_of.ensures.a c.size_of.ensures.b

pub reopen-requires-clause-small : goal.reopen-requires-clause-small
reopen-requires-clause-small g c =
    size_small c.in-Live.bank c.in_ok-sizes.sizes.a c.in_ok-sizes.sizes.b c.size_of.result c.in_ok-sizes.ensures.small c.size_of.ensures.a c.size_of.ensures.b
