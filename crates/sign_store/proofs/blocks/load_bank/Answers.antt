use Rattle.std.proofs.Common.{◌≡◌, ◌≤◌, ◌+◌, ◌-◌, List, ℕ, length, take, drop, sym, ap, subst, ◌∙◌, arith}
use Rattle.std.proofs.lemmas.List.{take_rest}
use Rattle.world_api.proofs.Moments.{tells_on}
use Rattle.sign_store.specs.Blocks.{ShowsEnd}
use Rattle.sign_store.specs.Gates.{IsGate}
use Rattle.sign_store.specs.Maps.{map_in}
use Rattle.sign_store.proofs.BlockLemmas.{part_leads, part_ends, part_gate}
use Rattle.sign_store.proofs.DiskLemmas.{reads_joined}
use Rattle.sign_store.proofs.blocks.load_bank.Goals as goal

pub returns-in_err-part-clause-looks : goal.returns-in_err-part-clause-looks
returns-in_err-part-clause-looks g c =
    reads_joined g.W.Disk.meaning c.args.world.now c.loop-part.world c.read_part.new.world c.loop-part.invariant.looks c.read_part.ensures.looks

pub returns-in_err-len-clause-looks : goal.returns-in_err-len-clause-looks
returns-in_err-len-clause-looks g c =
    reads_joined g.W.Disk.meaning c.args.world.now c.loop-part.world c.read_part.new.world c.loop-part.invariant.looks c.read_part.ensures.looks

pub returns-in-None-clause-looks : goal.returns-in-None-clause-looks
returns-in-None-clause-looks g c =
    reads_joined g.W.Disk.meaning c.args.world.now c.loop-part.world c.read_part.new.world c.loop-part.invariant.looks c.read_part.ensures.looks

pub returns-in-None-clause-read : goal.returns-in-None-clause-read
returns-in-None-clause-read g c = λ told.
    let m = g.W.Disk.meaning in
    let now = m.seen c.read_part.new.world c.args.bank in
    let was = m.seen c.loop-part.world c.args.bank in
    let part = c.as_slice-bytes.result.now in
    let place = c.loop-part.place in
    let len = c.in_ok-len.len in
    let left = c.args.size - (place + len) in
    let before = c.read_part.ensures.told.told told in
    let same : now ≡ was = (c.read_part.ensures.looks.banks told c.args.bank).same in
    let is : part ≡ take c.min.result (drop place now) = c.as_slice-bytes.ensures.value ∙ c.in_ok-part.ensures.part told in
    let size : c.args.size ≡ length was = c.loop-part.invariant.size before in
    let fits : len ≤ length part = c.in_ok-len.ensures.len in
    let read : length part ≡ c.min.result = c.as_slice-bytes.ensures.len ∙ c.in_ok-part.ensures.len in
    let inside : place + c.min.result ≤ c.args.size = omega (arith, c.min.ensures, c.loop-part.invariant.fits) in
    let total : length now ≡ place + len + left = omega (arith, ap length same, size, fits, read, inside) in
    let shows : ShowsEnd c.args.version left (drop len part) = subst (λ (x : List ℕ). ShowsEnd c.args.version left x) (take_rest part len) (c.needed.ensures.ends c.in-None.is) in
    record {
      leads = part_leads c.args.version was now part place c.min.result len (map_in c.args.map.now) (map_in c.loop-part.map) (map_in c.apply_all.new.map) same c.loop-part.invariant.head (omega (arith, inside, size)) is fits
          c.in_ok-len.ensures.reads (c.loop-part.invariant.leads before);
      none = part_ends c.args.version now part place c.min.result len left is fits total shows;
      gate_is = part_gate c.args.version c.gate_at-gate.result now part place c.min.result len left is fits total shows
          (subst (λ (x : List ℕ). IsGate c.gate_at-gate.result 0 x) (take_rest part len) c.gate_at-gate.ensures.gate);
    }

pub loop-part-preserved : goal.loop-part-preserved
loop-part-preserved g c =
    let m = g.W.Disk.meaning in
    let part = c.as_slice-bytes.result.now in
    let place = c.loop-part.place in
    let len = c.in_ok-len.len in
    let fits : len ≤ length part = c.in_ok-len.ensures.len in
    let read : length part ≡ c.min.result = c.as_slice-bytes.ensures.len ∙ c.in_ok-part.ensures.len in
    let inside : place + c.min.result ≤ c.args.size = omega (arith, c.min.ensures, c.loop-part.invariant.fits) in
    record {
      head = omega arith;
      fits = omega (arith, fits, read, inside);
      want = omega (arith, c.loop-part.invariant.want, c.max-want.ensures, c.in-Some.ensures.more.2);
      told = tells_on m c.args.world.now c.loop-part.world c.read_part.new.world c.loop-part.invariant.told c.read_part.ensures.told;
      looks = reads_joined m c.args.world.now c.loop-part.world c.read_part.new.world c.loop-part.invariant.looks c.read_part.ensures.looks;
      kept = c.in_ok-part.ensures.cause.kept (λ e. absurd cc) ∙ c.loop-part.invariant.kept;
      size = λ told. c.loop-part.invariant.size (c.read_part.ensures.told.told told) ∙ sym (ap length (c.read_part.ensures.looks.banks told c.args.bank).same);
      leads = λ told.
          let now = m.seen c.read_part.new.world c.args.bank in
          let was = m.seen c.loop-part.world c.args.bank in
          let before = c.read_part.ensures.told.told told in
          let same : now ≡ was = (c.read_part.ensures.looks.banks told c.args.bank).same in
          let is : part ≡ take c.min.result (drop place now) = c.as_slice-bytes.ensures.value ∙ c.in_ok-part.ensures.part told in
          let size : c.args.size ≡ length was = c.loop-part.invariant.size before in
          part_leads c.args.version was now part place c.min.result len (map_in c.args.map.now) (map_in c.loop-part.map) (map_in c.apply_all.new.map) same c.loop-part.invariant.head (omega (arith, inside, size)) is fits
          c.in_ok-len.ensures.reads (c.loop-part.invariant.leads before);
      ordered = λ first. c.in_ok-len.ensures.ordered (c.loop-part.invariant.ordered first);
    }
