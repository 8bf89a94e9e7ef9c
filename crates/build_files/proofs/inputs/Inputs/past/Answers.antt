use Rattle.std.proofs.Common.{◌∙◌, ap, sym, subst, false}
use Rattle.std.specs.Prelude.{get_or}
use Rattle.world_api.specs.declared.hash.Hash.{Hash}
use Rattle.build_files.specs.Beginnings.{Begins}
use Rattle.build_files.proofs.Beginning.{begun_true}
use Rattle.build_files.proofs.Reading.{unread_none}
use Rattle.build_files.proofs.inputs.Inputs.past.Goals as goal

pub returns : goal.returns
returns c =
    let is = c.begun.ensures in
    let g = c.args.graph.now in
    record {
      truth = λ b around begins.
          begun_true b g c.begun.result c.args.gone.keys around is.files begins.idle is.gone
          (subst (λ (h : Hash). Begins b g h c.args.gone.keys around) (sym is.hash) begins) is.unknown (is.declared ∙ c.rules.ensures.len)
          (is.found b g c.begun.result.gone.keys around);
      unread = λ node. unread_none c.begun.result.files.seen.items is.files node;
      unscanned = is.unscanned;
      unmarked = λ number. ap (λ items. get_or items number false) is.looked;
      gone = is.gone;
    }
