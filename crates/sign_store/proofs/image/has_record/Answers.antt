use Rattle.std.proofs.Common.{drop, ap, ◌∙◌}
use Rattle.std.proofs.lemmas.List.{drop_min, take_rest}
use Rattle.std.specs.Option.{is_some}
use Rattle.sign_store.specs.Images.{entries_map}
use Rattle.sign_store.specs.Tables.{Map}
use Rattle.sign_store.proofs.image.has_record.Goals as goal

pub returns : goal.returns
returns c =
    let body = take_rest c.args.bank.now c.min-start.result ∙ ap (λ n. drop n c.args.bank.now) c.min-start.ensures ∙ drop_min 17 c.args.bank.now in
    c.has.ensures ∙ ap (λ (m : Map). is_some (m c.args.path.now)) (c.in_ok-map.ensures.map ∙ ap (entries_map c.args.version) body)
