use Rattle.build_model.proofs.Headline.{stale_front_begins}
use Rattle.build_model.proofs.laws.stale_front_begins.Goals as goal

pub returns : goal.returns
returns c = λ g b steps order builds one stops takes is_order. stale_front_begins g b steps builds order one stops takes is_order
