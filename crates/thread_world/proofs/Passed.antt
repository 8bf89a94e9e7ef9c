-- A call whose first step changed nothing that is told.
use Rattle.std.proofs.Common.{◌≡◌, ◌∙◌, ◌⊎◌, ◌≤◌, inl, inr, sym, ap, subst, ℕ, List, length, arith}
use Rattle.mem_banks.specs.Past.{Store, IsImage, bytes_in}
use Rattle.mem_banks.specs.AsStore.{store_of}
use Rattle.world_api.specs.Around.{Around}
use Rattle.world_api.specs.Banks.{Banks}
use Rattle.world_api.specs.Calls.{Asks}
use Rattle.world_api.specs.Meaning.{Recalls, Throughout, Meanwhile, BanksKept}
use Rattle.world_mem.specs.Means.{machine_of, world_meaning}
use Rattle.world_mem.specs.Past.{Machine}
use Rattle.world_mem.specs.declared.past.Turn.{Turn}
use Rattle.world_mem.specs.declared.world.MemWorld.{MemWorld}
use Rattle.world_mem.proofs.Passing.{Idle, idle_recalls, idle_tree, asks}

module _ (old mid new : MemWorld) (idle : Idle old mid) where
  clock_same : world_meaning.clock mid ≡ world_meaning.clock old
  clock_same = ap (λ (turns : List Turn). length turns) idle.turns

  around_same : world_meaning.around mid ≡ world_meaning.around old
  around_same = ap (λ (m : Machine). m.course.around) idle.machine

  meant : (around : Around) (banks : Banks) → Meanwhile world_meaning mid new around banks → Meanwhile world_meaning old new around banks
  meant around banks (inl asked) = inl (
    subst (λ (a : Around). Asks a around) around_same asked.0,
    λ bank. subst (λ (m : Machine). IsImage m.store bank (banks bank)) idle.machine (asked.1 bank),
  )
  meant around banks (inr now) = inr now

  before_it : (around : Around) (banks : Banks) → Meanwhile world_meaning old mid around banks → Meanwhile world_meaning old new around banks
  before_it around banks (inl asked) = inl asked
  before_it around banks (inr now) = inl (
    asks (world_meaning.around old) around (now.0 ∙ around_same),
    λ bank. subst (λ (m : Machine). IsImage m.store bank (banks bank)) idle.machine (now.1 bank),
  )

  pub time_passed : Throughout world_meaning mid new (Meanwhile world_meaning mid new) → Throughout world_meaning old new (Meanwhile world_meaning old new)
  time_passed t = record {
    told = λ told. told;
    each = λ told around banks left. meant around banks (t.each told around banks (subst (λ (n : ℕ). world_meaning.left_since new n around banks) (sym clock_same) left));
    before = λ told time around banks left. elim (t.before told time around banks left) [
      | inl of_mid ↦ elim ((idle_tree old mid idle).before told time around banks of_mid) [
        | inl of_old ↦ inl of_old
        | inr now ↦ inr (before_it around banks now)
      ]
      | inr now ↦ inr (meant around banks now)
    ];
    now = λ told banks image. meant (world_meaning.around new) banks (t.now told banks image);
  }

  pub recalls_passed : Recalls world_meaning mid new → Recalls world_meaning old new
  recalls_passed r = record {
    later = λ told. let a = (idle_recalls old mid idle).later told in let b = r.later told in omega (arith, a, b);
    keeps = λ told time around banks at left.
        let a = (idle_recalls old mid idle).later told in
        r.keeps told time around banks (omega (arith, at, a)) ((idle_recalls old mid idle).keeps told time around banks at left);
  }

pub banks_same : (old new : MemWorld) → store_of new.banks ≡ store_of old.banks → BanksKept world_meaning old new
banks_same old new is bank = record {
  same = ap (λ (s : Store). bytes_in s bank) is;
  no_more = λ bytes image. subst (λ (s : Store). IsImage s bank bytes) is image;
}
