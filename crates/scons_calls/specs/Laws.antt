-- That two things are one is an equivalence: they are one exactly where they are equal. It stands here since the laws of an impl
-- take nothing from proofs/.
use Rattle.std.specs.Prelude.{◌≡◌, ℕ, nat_eq}
use Rattle.std.proofs.Common.{ap, true≢false, sym}
use Rattle.std.specs.Bool.{Decides}
use Rattle.std.specs.Cmp.{IsEquivalence, decided, unsigned_Decides}
use Rattle.std.specs.Cmp.Lexicographic.{bytes_decides}
use Rattle.std.proofs.lemmas.Bool.Decides.{Decides-like, Decides-and}
use Rattle.scons_base.specs.declared.ids.EnvId.{EnvId}
use Rattle.scons_calls.specs.declared.name.NameId.{NameId}
use Rattle.scons_calls.specs.declared.thing.Thing.{Thing}
use Rattle.scons_calls.specs.declared.thing.Thing.TheVariants as thing
use Rattle.scons_calls.specs.Things.{thing_eq}

env_decides : (a b : EnvId) → Decides (nat_eq a.0 b.0) (a ≡ b)
env_decides a b = Decides-like _ (λ e. ap (λ (n : ℕ). let made : EnvId = record { 0 = n } in made) e) (λ e. cc) (unsigned_Decides a.0 b.0)

name_decides : (a b : NameId) → Decides (nat_eq a.0 b.0) (a ≡ b)
name_decides a b = Decides-like _ (λ e. ap (λ (n : ℕ). let made : NameId = record { 0 = n } in made) e) (λ e. cc) (unsigned_Decides a.0 b.0)

pub thing_eq-Decides : (a b : Thing) → Decides (thing_eq a b) (a ≡ b)
thing_eq-Decides (thing.Name a) (thing.Name b) = Decides-like _ (λ e. ap thing.Name e) (λ e. cc) (name_decides a b)
thing_eq-Decides (thing.Env a) (thing.Env b) = Decides-like _ (λ e. ap thing.Env e) (λ e. cc) (env_decides a b)
thing_eq-Decides (thing.Method a m) (thing.Method b n) = Decides-like _ (λ e. let here : a ≡ b = e.0 in let there : m ≡ n = e.1 in cc) (λ e. let here : a ≡ b = cc in let there : m ≡ n = cc in (here, there)) (Decides-and _ _ (env_decides a b) (name_decides m n))
thing_eq-Decides (thing.OwnMethod a m) (thing.OwnMethod b n) = Decides-like _ (λ e. let here : a ≡ b = e.0 in let there : m ≡ n = e.1 in cc) (λ e. let here : a ≡ b = cc in let there : m ≡ n = cc in (here, there)) (Decides-and _ _ (env_decides a b) (bytes_decides m n))
thing_eq-Decides (thing.Builders a) (thing.Builders b) = Decides-like _ (λ e. ap thing.Builders e) (λ e. cc) (env_decides a b)
thing_eq-Decides (thing.Builder a) (thing.Builder b) = Decides-like _ (λ e. ap thing.Builder e) (λ e. cc) (unsigned_Decides a b)
thing_eq-Decides (thing.File a) (thing.File b) = Decides-like _ (λ e. ap thing.File e) (λ e. cc) (bytes_decides a b)
thing_eq-Decides (thing.Dir a) (thing.Dir b) = Decides-like _ (λ e. ap thing.Dir e) (λ e. cc) (bytes_decides a b)
thing_eq-Decides (thing.Alias a) (thing.Alias b) = Decides-like _ (λ e. ap thing.Alias e) (λ e. cc) (bytes_decides a b)
thing_eq-Decides a b = (λ h. absurd (true≢false (sym h)), λ e. cc)

pub thing_equivalence : IsEquivalence thing_eq
thing_equivalence = decided thing_eq thing_eq-Decides
