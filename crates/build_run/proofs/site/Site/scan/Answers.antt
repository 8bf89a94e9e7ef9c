use Rattle.build_run.proofs.Noting.{names_grow, noted_grown}
use Rattle.build_run.proofs.Turning.{site_saw}
use Rattle.std.proofs.Common.{refl, subst, sym}
use Rattle.world_api.specs.Counts.{Counts}
use Rattle.build_means.specs.Logs.{AreUnrisen}
use Rattle.build_run.specs.Ledgers.{ledger_of}
use Rattle.build_run.proofs.Causing.{exit_same, look_end, same_counts}
use Rattle.build_run.proofs.Scanning.{goes_on, scan_ends, scan_told, still}
use Rattle.build_run.proofs.Sites.{looked_at, sound_still}
use Rattle.build_run.proofs.Starting.{end_of_turn}
use Rattle.build_run.proofs.Printing.{quiet_looked}
use Rattle.build_run.proofs.Endings.{counts_looked}
use Rattle.build_run.proofs.Faulted.{leads_plainly, plain_exit, plain_look, since_grown, since_log}
use Rattle.build_run.proofs.site.Site.scan.Goals as goal

pub returns-in_err-found-clause-noted : goal.returns-in_err-found-clause-noted
returns-in_err-found-clause-noted g c = λ rule n.
    noted_grown c.args.self.now.graph.now c.scanned.new.graph _ _ _ rule (names_grow c.args.self.now.graph.now c.scanned.new.graph c.scanned.ensures.grows rule) n

pub returns-clause-noted : goal.returns-clause-noted
returns-clause-noted g c = λ rule n.
    noted_grown c.args.self.now.graph.now c.scanned.new.graph _ _ _ rule (names_grow c.args.self.now.graph.now c.scanned.new.graph c.scanned.ensures.grows rule) n

pub returns-in_err-found-clause-along : goal.returns-in_err-found-clause-along
returns-in_err-found-clause-along g c = λ tells sure o outset along next.
    let m = g.W.Disk.meaning in
    let old = c.args.self.now in
    end_of_turn _ m o _ c.from_residual.result c.from_residual.ensures.1
    (λ s same ended faulted halted.
    scan_ends m o outset old c.args.rule c.args.file along next (m.around c.scanned.new.world) (c.scanned.ensures.looks.around tells) s same ended faulted halted)

pub returns-clause-along : goal.returns-clause-along
returns-clause-along g c = λ tells sure o outset along next.
    let m = g.W.Disk.meaning in
    let old = c.args.self.now in
    let is = c.scanned.ensures in
    let ok = c.in_ok-found.ensures in
    let asks = is.looks.around tells in
    let quiet = still m o outset old c.args.rule c.args.file along next in
    let going = goes_on m o outset old c.args.rule c.args.file along next in
    let well = along.well going in
    let known = along.on.at.knows going in
    record {
      told = λ s is_told stays.
          scan_told m o outset old c.args.rule c.args.file along next c.scanned.new.graph c.scanned.new.self (m.around c.scanned.new.world) c.in_ok-found.found
          asks is.grows (record { apart = c.laws.ensures.apart; single = c.laws.ensures.single; named = c.laws.ensures.named }) c.len.ensures.limit
          is.gone is.only (is.truth quiet tells _ known.truth) (ok.looked well.looked)
          (λ x path at_rule at_file. ok.found quiet x path at_rule at_file tells _ known.truth) s is_told;
      ends = λ scan s same ended faulted halted.
          scan_ends m o outset old c.args.rule c.args.file along next (m.around c.scanned.new.world) asks s same ended faulted halted;
      goes = refl;
      reported = along.on.at.told;
      well = λ e. record {
        unrisen = subst (λ (counts : Counts). AreUnrisen o.wanted.keep o.counts counts) (sym ok.cause) well.unrisen;
        unshut = well.unshut;
        looked = (ok.looked well.looked).over;
      };
    }

pub returns-in_err-found-clause-ends : goal.returns-in_err-found-clause-ends
returns-in_err-found-clause-ends g c = λ start a.
    let before = ledger_of c.args.self.now.account.now in
    exit_same start before _ c.from_residual.result _ c.from_residual.ensures.1 (look_end start before _ _ _ _ _ c.in_err-found.ensures.cause a)

pub returns-in_err-found-clause-sound : goal.returns-in_err-found-clause-sound
returns-in_err-found-clause-sound g c =
    let stays = looked_at g.W.Disk.meaning _ _ c.scanned.result c.scanned.ensures.looks c.scanned.ensures.cause in
    sound_still g.W.Disk.meaning c.args.self.now _ stays refl refl refl refl refl

pub returns-clause-ends : goal.returns-clause-ends
returns-clause-ends g c = λ start a.
    same_counts start (ledger_of c.args.self.now.account.now) _ _ _ _ c.in_ok-found.ensures.cause a

pub returns-clause-sound : goal.returns-clause-sound
returns-clause-sound g c =
    let stays = looked_at g.W.Disk.meaning _ _ c.scanned.result c.scanned.ensures.looks c.scanned.ensures.cause in
    sound_still g.W.Disk.meaning c.args.self.now _ stays refl refl refl refl refl

pub returns-in_err-found-clause-safe : goal.returns-in_err-found-clause-safe
returns-in_err-found-clause-safe g c = site_saw g.W.Disk.meaning g.met.W.Disk.only_now c.args.self.now _ c.scanned.ensures.looks refl refl refl refl

pub returns-clause-safe : goal.returns-clause-safe
returns-clause-safe g c = site_saw g.W.Disk.meaning g.met.W.Disk.only_now c.args.self.now _ c.scanned.ensures.looks refl refl refl refl

pub returns-in_err-found-clause-quiet : goal.returns-in_err-found-clause-quiet
returns-in_err-found-clause-quiet g c = quiet_looked g.W.Disk.meaning c.args.self.now _ refl refl (λ e. e) c.scanned.ensures.looks.around

pub returns-clause-quiet : goal.returns-clause-quiet
returns-clause-quiet g c = quiet_looked g.W.Disk.meaning c.args.self.now _ refl refl (λ e. e) c.scanned.ensures.looks.around

pub returns-in_err-found-clause-counts : goal.returns-in_err-found-clause-counts
returns-in_err-found-clause-counts g c =
    let m = g.W.Disk.meaning in
    let stays = looked_at m _ _ c.scanned.result c.scanned.ensures.looks c.scanned.ensures.cause in
    counts_looked m _ _ _ _ (λ ample. ample) stays.goes.passes.later c.scanned.ensures.looks

pub returns-clause-counts : goal.returns-clause-counts
returns-clause-counts g c =
    let m = g.W.Disk.meaning in
    let stays = looked_at m _ _ c.scanned.result c.scanned.ensures.looks c.scanned.ensures.cause in
    counts_looked m _ _ _ _ (λ ample. ample) stays.goes.passes.later c.scanned.ensures.looks

pub returns-in_err-found-clause-faulted : goal.returns-in_err-found-clause-faulted
returns-in_err-found-clause-faulted g c = λ tells sure o outset along wanted has.
    let m = g.W.Disk.meaning in
    let site = c.args.self.now in
    let r = c.from_residual in
    leads_plainly o c.scanned.new.graph site.account.now _ r.result (plain_exit r.result _ r.ensures.1 (plain_look _ _ _ c.in_err-found.ensures.cause))
    (since_log o c.scanned.new.graph (m.around site.world.now).log _ site.account.now (c.scanned.ensures.looks.around tells).log
    (since_grown o site.graph.now (m.around site.world.now).log c.scanned.new.graph site.account.now c.scanned.ensures.grows has))

pub returns-clause-faulted : goal.returns-clause-faulted
returns-clause-faulted g c = λ tells sure o outset along wanted has.
    let m = g.W.Disk.meaning in
    let site = c.args.self.now in
    since_log o c.scanned.new.graph (m.around site.world.now).log _ site.account.now (c.scanned.ensures.looks.around tells).log
    (since_grown o site.graph.now (m.around site.world.now).log c.scanned.new.graph site.account.now c.scanned.ensures.grows has)
