use Rattle.std.proofs.Common.{◌≡◌, List, ℕ, true, length, cond, ◌+◌, sym, ap, ◌∙◌, arith}
use Rattle.std.specs.List.{list_any}
use Rattle.std.specs.Option.{is_some}
use Rattle.deciders.specs.declared.version.Version.TheVariants.{Two}
use Rattle.deciders.specs.Spelling.{sized, listed}
use Rattle.deciders.proofs.Sizes.{targets_within}
use Rattle.sign_store.specs.Maps.{map_in}
use Rattle.sign_store.specs.Tables.{has_any}
use Rattle.sign_store.proofs.store.Store.entries_len.Goals as goal

pub returns-then-has_some : goal.returns-then-has_some
returns-then-has_some c =
    let some : has_any (map_in c.args.self.now.map) c.args.rec.now.targets ≡ true =
    sym (c.has_some.ensures ∙ ap (list_any (λ path. is_some (map_in c.args.self.now.map path))) c.as_slice-targets.ensures) ∙ c.if-has_some.true in
    let same : length (listed sized c.as_slice-targets.result.now) ≡ length (listed sized c.args.rec.now.targets) = ap (λ (x : List (List ℕ)). length (listed sized x)) c.as_slice-targets.ensures in
    let len : c.saturating_add.result ≡ length (listed sized c.args.rec.now.targets) + (5 + c.args.payload + 6) =
    omega (arith, c.saturating_add.ensures, c.paths_len.ensures, same, targets_within Two c.args.rec.now, c.requires.exact, c.requires.fits) in
    len ∙ sym (ap (λ b. cond b (length (listed sized c.args.rec.now.targets) + (5 + c.args.payload + 6)) (5 + c.args.payload)) some)
