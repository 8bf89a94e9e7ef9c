use Rattle.std.proofs.Common.{◌≡◌, ◌∙◌, ℕ, ap, sym, subst, false, List, []}
use Rattle.std.specs.Prelude.{get_or}
use Rattle.world_api.specs.declared.hash.Hash.{Hash}
use Rattle.build_files.specs.Beginnings.{BeginsBehind}
use Rattle.build_files.proofs.Beginning.{behind_true}
use Rattle.build_files.proofs.Reading.{unread_none}
use Rattle.build_files.proofs.inputs.Inputs.over.Goals as goal

pub returns : goal.returns
returns c =
    let is = c.begun.ensures in
    let g = c.args._graph.now in
    let none = is.gone ∙ c.new-gone.ensures.empty in
    record {
      truth = λ b around begins.
          behind_true b g c.begun.result [] around is.files begins.idle none
          (subst (λ (n : ℕ). BeginsBehind b g n c.begun.result.hash around) (sym is.declared)
          (subst (λ (h : Hash). BeginsBehind b g c.args.declared h around) (sym is.hash) begins)) is.unknown
          (is.found b g c.begun.result.gone.keys around);
      unread = λ node. unread_none c.begun.result.files.seen.items is.files node;
      unscanned = is.unscanned;
      unmarked = λ number. ap (λ items. get_or items number false) is.looked;
      gone = none;
      declared = is.declared;
    }
