-- What was read of a bank is what stands there.
use Rattle.std.proofs.Common.{◌≡◌, ℕ, ◌<◌, ◌≤◌, List, [], length, take, refl, sym, ap, ◌∙◌, arith}
use Rattle.std.proofs.lemmas.Bool.{le-leb}
use Rattle.std.proofs.lemmas.List.{take-take, drop_all, length-take}
use Rattle.world_api.specs.declared.disk.Bank.TheVariants.{A, B}
use Rattle.world_api.specs.Banks.{Banks}
use Rattle.sign_store.specs.declared.head.Head.{Head}
use Rattle.sign_store.specs.declared.head.Head.TheVariants.{Short}
use Rattle.sign_store.specs.declared.refusals.StoreRefusal.{StoreRefusal}
use Rattle.sign_store.specs.declared.refusals.StoreRefusal.TheVariants as refusal
use Rattle.sign_store.specs.Heads.{head_of, chosen}
use Rattle.sign_store.specs.Images.{body_of}
use Rattle.sign_store.specs.Readings.{IsRefusal, IsOutside, choice_of}
use Rattle.sign_store.proofs.EndLemmas.{head_same}

pub short_head : (bank : List ℕ) → length bank ≤ 17 → head_of bank ≡ Short
short_head bank le = rw (le-leb (length bank) 17 le) refl

pub front_head : (bank front : List ℕ) → 17 < length bank → front ≡ take 18 bank → head_of front ≡ head_of bank
front_head bank front lt is =
    head_same 17 bank front (omega arith) lt (omega (arith, ap length is, length-take 18 bank)) (ap (take 17) is ∙ take-take 17 18 bank (omega arith))

pub no_body : (bank : List ℕ) → length bank ≤ 17 → [] ≡ body_of bank
no_body bank le = sym (drop_all 17 bank le)

pub outside_refuses : (banks : Banks) (e : StoreRefusal) → IsOutside e → IsRefusal banks e
outside_refuses banks refusal.Fault out = tt
outside_refuses banks (refusal.Foreign bank) out = absurd out
outside_refuses banks (refusal.Large size) out = absurd out
outside_refuses banks refusal.Memory out = tt

pub choice_with : (banks : Banks) (a b : Head) → a ≡ head_of (banks A) → b ≡ head_of (banks B) → chosen a b ≡ choice_of banks
choice_with banks a b at bt = ap (λ h. chosen h b) at ∙ ap (chosen (head_of (banks A))) bt
