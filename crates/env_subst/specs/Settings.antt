-- What a text is read in.
use Rattle.std.specs.Prelude.{ℕ, List}
use Rattle.env_vars.specs.Envs.{Scope}
use Rattle.env_subst.specs.declared.locals.Locals.{Locals}
use Rattle.env_subst.specs.declared.setting.Setting as code

pub record Setting : Type 0 where
  -- the environments, and the number of the one that counts
  pub envs : List Scope
  pub env : ℕ
  -- what is known beside it
  pub locals : Locals

abbrev pub setting_of : code.Setting → Setting
setting_of s = record { envs = s.envs.now; env = s.env.0; locals = s.locals.now }

abbrev pub setting : List Scope → ℕ → Locals → Setting
setting envs env locals = record { envs = envs; env = env; locals = locals }
