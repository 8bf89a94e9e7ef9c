use Rattle.std.proofs.Common.{ℕ, List, ◌∙◌, Bor}
use Rattle.std.specs.Str.{bytes_eq}
use Rattle.scons_base.proofs.Maps.{starts_with-map}
use Rattle.scons_base.proofs.resolve.begins_with.Goals as goal

pub returns : goal.returns
returns c =
    c.starts_with.ensures.value ∙ starts_with-map {A = Bor (List ℕ)} {B = List ℕ} bytes_eq (λ x. x.now) c.args.place.now c.args.top.now
