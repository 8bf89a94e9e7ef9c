use Rattle.std.proofs.Common.{arith, ◌≡◌, ◌≢◌, ◌∙◌, length, map, refl}
use Rattle.std.proofs.lemmas.List.{length-map}
use Rattle.std.proofs.lemmas.Option.{slice_get_read}
use Rattle.scons_base.specs.declared.ids.EnvId.{EnvId}
use Rattle.env_vars.proofs.ChainLemmas.{copied_alone, copied_chain, still_full}
use Rattle.env_vars.proofs.chain.copied.Goals as goal

pub returns-then-is_empty : goal.returns-then-is_empty
returns-then-is_empty c =
    let at = slice_get_read c.args.envs.now (length c.args.envs.now) c.args.env.0 c.index-envs-env.result refl c.requires c.index-envs-env.is in
    let empty : length (map (λ (id : EnvId). id.0) c.behind.result.now) ≡ 0 = grind (arith, length-map) in
    let whole = copied_alone c.args.envs.now c.args.env.0 c.index-envs-env.result _ at c.behind.ensures empty in
    rw (whole, ← c.own.ensures) c.copy.ensures

pub returns : goal.returns
returns c =
    let at = slice_get_read c.args.envs.now (length c.args.envs.now) c.args.env.0 c.index-envs-env.result refl c.requires c.index-envs-env.is in
    let full : length (map (λ (id : EnvId). id.0) c.behind-2.result.now) ≢ 0 =
    still_full c.behind.result.now c.behind-2.result.now c.index-envs-env.result.behind c.behind.ensures c.behind-2.ensures (c.if-is_empty.ensures {u = tt}) in
    copied_chain c.args.envs.now c.args.env.0 c.index-envs-env.result _ c.in_ok-vars.vars c.put_all.new.self at c.behind-2.ensures full (c.in_ok-vars.ensures {u = tt})
    ((c.in_ok-put_all.ensures {u = tt}) ∙ rw c.own-2.ensures refl)
